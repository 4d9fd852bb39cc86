-- What the parser answers.
use Rattle.std.specs.Prelude.{◌≡◌, ℕ, List, slice_get, Option, Some, None, Result, Ok, Err}
use Rattle.chill_base.specs.declared.pos.Pos.{Pos}
use Rattle.chill_tree.specs.declared.token.Token.{Token}
use Rattle.chill_tree.specs.declared.tree.item.Tree.{Tree}
use Rattle.chill_tree.specs.ItemTree.{ProgramTree, program_tree}
use Rattle.expr_parser.specs.declared.refusal.ParseRefusal.{ParseRefusal}
use Rattle.expr_parser.specs.declared.refusal.ParseRefusal.TheVariants as refusals
use Rattle.rules_model.specs.ItemGrammar.{IsTreeOf}
use Rattle.rules_model.specs.Nesting.{first_deep}

-- no program has these tokens
abbrev pub HasNoTree : List Token → Type 0
HasNoTree toks = (x : ProgramTree) → IsTreeOf toks x → ⊥

-- a token at the place
pub record TokenAt (toks : List Token) (p : Pos) : Type 0 where
  pub index : ℕ
  pub token : Token
  pub here : slice_get toks index ≡ Some token
  pub place : token.at ≡ p

-- the place of a token, or none for the text's end
abbrev pub IsPlaceIn : List Token → Option Pos → Type 0
IsPlaceIn toks None = Unit {0}
IsPlaceIn toks (Some p) = TokenAt toks p

-- The three answers but want of memory shut one another out, so that each comes exactly where it may.
abbrev pub Refuses : List Token → ParseRefusal → Type 0
Refuses toks (refusals.TooDeep at) = first_deep 65 toks ≡ Some at
Refuses toks (refusals.NoProgram at) = (first_deep 65 toks ≡ None) × HasNoTree toks × IsPlaceIn toks at
Refuses toks refusals.Memory = Unit {0}

abbrev pub Parses : List Token → Result Tree ParseRefusal → Type 0
Parses toks (Ok t) = (first_deep 65 toks ≡ None) × IsTreeOf toks (program_tree t)
Parses toks (Err e) = Refuses toks e
