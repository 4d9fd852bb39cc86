-- What the parser of expressions answers.
use Rattle.std.specs.Prelude.{◌≡◌, ℕ, ◌<◌, ◌≤◌, [], ◌++◌, length, drop, Option, Some, Result, Ok, Err}
use Rattle.chill_base.specs.declared.pos.Pos.{Pos}
use Rattle.std.specs.declared.alloc.Global.{Global}
use Rattle.std.specs.declared.boxed.Box.{Box}
use Rattle.chill_tree.specs.declared.tree.expr.Expr.{Expr}
use Rattle.chill_tree.specs.ExprTree.{ExprTree, boxed_expr}
use Rattle.expr_parser.specs.declared.refusal.ParseRefusal.{ParseRefusal}
use Rattle.expr_parser.specs.declared.refusal.ParseRefusal.TheVariants as refusals
use Rattle.rules_model.specs.Marks.{Toks, front}
use Rattle.rules_model.specs.ExprGrammar.{IsExpr}
use Rattle.rules_model.specs.Nesting.{first_deep}

-- the longest expression at the front, and what stands behind it
pub record IsLongest (e : ExprTree) (toks rest : Toks) : Type 0 where
  pub is : IsExpr e toks rest
  pub longest : (f : ExprTree) (other : Toks) → IsExpr f toks other → length rest ≤ length other

-- no expression stands at the front
abbrev pub HasNone : Toks → Type 0
HasNone toks = (f : ExprTree) (other : Toks) → IsExpr f toks other → ⊥

-- tokens that begin some expression: with more behind them they are a whole one
pub record BeginsExpr (toks : Toks) : Type 0 where
  pub more : Toks
  pub tree : ExprTree
  pub is : IsExpr tree (toks ++ more) []

-- tokens at the front that begin some expression reach a nesting of 65, first at this place
pub record ReachesLimit (toks : Toks) (at : Pos) : Type 0 where
  pub used : Toks
  pub rest : Toks
  pub here : toks ≡ used ++ rest
  pub begins : BeginsExpr used
  pub deep : first_deep 65 used ≡ Some at

-- no tokens at the front that begin an expression do
abbrev pub StaysBelowLimit : Toks → Type 0
StaysBelowLimit toks = (at : Pos) → ReachesLimit toks at → ⊥

-- the tokens before the one at this place, or all of them where there is none, begin some expression
pub record FitsUpTo (toks : Toks) (at : Option Pos) : Type 0 where
  pub used : Toks
  pub rest : Toks
  pub here : toks ≡ used ++ rest
  pub begins : BeginsExpr used
  pub misfit : front rest ≡ at

abbrev pub RefusesExpr : Toks → ParseRefusal → Type 0
RefusesExpr toks (refusals.TooDeep at) = ReachesLimit toks at
RefusesExpr toks (refusals.NoProgram at) = HasNone toks × StaysBelowLimit toks × FitsUpTo toks at
RefusesExpr toks refusals.Memory = Unit {0}

-- the answer for the tokens from a place on: an expression and the place behind it
abbrev pub Expresses : Toks → ℕ → Result (Box Expr Global × ℕ) ParseRefusal → Type 0
Expresses toks from (Ok x) = IsLongest (boxed_expr x.0) (drop from toks) (drop x.1 toks) × StaysBelowLimit (drop from toks) × (from < x.1) × (x.1 ≤ length toks)
Expresses toks from (Err e) = RefusesExpr (drop from toks) e
