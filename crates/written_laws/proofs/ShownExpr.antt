-- The text literals in an expression are short, and names stand before its parts.
use Rattle.std.proofs.Common.{◌≡◌, ℕ, true, List, [], ◌∷◌, Option, refl}
use Rattle.chill_base.specs.declared.pos.Pos.{Pos}
use Rattle.chill_tree.specs.declared.tree.name.Name.{Name}
use Rattle.chill_tree.specs.ExprTree.{ExprTree, expr_nodes, RangeTree, alone, between, range_nodes}
use Rattle.rules_model.specs.Marks.{Toks}
use Rattle.rules_model.specs.ExprGrammar.{IsTupleHead, bare, of_mode, IsNamed, a_name, with_args, with_field, AreArgs, no_args, some_args, AreExprs, one_expr, and_expr, IsRange, is_alone, is_between, AreRanges, one_range, and_range, AreParts, no_parts, some_parts, IsOperand, is_whole, is_character, is_text, is_this, is_paren, is_receive, is_start, is_tuple, is_uniform, is_named, IsRanked, is_plain, is_minus, is_not, is_chain, IsChain, first, turn, IsExpr, IsLocation, is_loc}
use Rattle.elaborated_laws.specs.Classes.{HasShortTexts, HaveShortTexts, RangesHaveShortTexts}
use Rattle.checks_model.specs.Phases.{some_expr, initial_expr}
use Rattle.checks_model.specs.Sites.{Site, at_declaration}
use Rattle.written_laws.specs.Written.{Each, exprs_at, is_some_name, is_name_with_parts, HasNamed, HaveNamed, RangesHaveNamed}
use Rattle.written_laws.proofs.Shown.{Shown, none, skip, ends, both, behind, so, one, and_one}

-- what is shown of an expression
abbrev pub IsSpelled : ExprTree → Type 0
IsSpelled e = HasShortTexts e × HasNamed e

abbrev pub RangeIsSpelled : RangeTree → Type 0
RangeIsSpelled (alone e) = IsSpelled e
RangeIsSpelled (between l h) = IsSpelled l × IsSpelled h

-- and of those at a node; a declaration has a name
abbrev pub AreSpelled : Site → Type 0
AreSpelled (at_declaration shared d) = Each IsSpelled (some_expr (initial_expr d.initial)) × (is_some_name d.names ≡ true)
AreSpelled s = Each IsSpelled (exprs_at s)

as_exprs : (es : List ExprTree) → Each IsSpelled es → HaveShortTexts (expr_nodes es) × HaveNamed (expr_nodes es)
as_exprs [] each = (tt, tt)
as_exprs (e ∷ es) each = let rest = as_exprs es each.1 in ((each.0.0, rest.0), (each.0.1, rest.1))

as_ranges : (rs : List RangeTree) → Each RangeIsSpelled rs → RangesHaveShortTexts (range_nodes rs) × RangesHaveNamed (range_nodes rs)
as_ranges [] each = (tt, tt)
as_ranges (alone e ∷ rs) each = let rest = as_ranges rs each.1 in ((each.0.0, rest.0), (each.0.1, rest.1))
as_ranges (between l h ∷ rs) each = let rest = as_ranges rs each.1 in (((each.0.0.0, each.0.1.0), rest.0), ((each.0.0.1, each.0.1.1), rest.1))

named_so : {k : ℕ} {e : ExprTree} {toks rest : Toks} → IsNamed k e toks rest → is_name_with_parts e ≡ true
named_so a_name = refl
named_so (with_args d a lt) = named_so d
named_so (with_field d lt) = named_so d

-- what has no expressions
plain : {toks rest : Toks} → Shown (Unit {0}) toks rest → Shown (Unit {0} × Unit {0}) toks rest
plain u = so (λ p. (tt, tt)) u

head_passed : {mode : Option Name} {b : Pos} {toks rest : Toks} → IsTupleHead mode b toks rest → Shown (Unit {0}) toks rest
head_passed bare = skip none
head_passed of_mode = skip (skip none)

mutual
  named_shown : {k : ℕ} {e : ExprTree} {toks rest : Toks} → IsNamed k e toks rest → Shown (IsSpelled e) toks rest
  named_shown a_name = plain (skip none)
  named_shown (with_args {es = es} d a lt) = so (λ p. ((p.0.0, p.1.0), (named_so d, (p.0.1, p.1.1)))) (both (ends (named_shown d)) (so (as_exprs es) (args_shown a)))
  named_shown (with_field d lt) = so (λ p. (p.0, (named_so d, p.1))) (ends (ends (named_shown d)))

  pub args_shown : {es : List ExprTree} {toks rest : Toks} → AreArgs es toks rest → Shown (Each IsSpelled es) toks rest
  args_shown no_args = skip none
  args_shown (some_args d) = ends (exprs_shown d)

  pub exprs_shown : {es : List ExprTree} {toks rest : Toks} → AreExprs es toks rest → Shown (Each IsSpelled es) toks rest
  exprs_shown (one_expr {e = e} d) = one IsSpelled e (ranked_shown d)
  exprs_shown (and_expr {es = es} {e = e} l d) = and_one IsSpelled es e (ends (exprs_shown l)) (ranked_shown d)

  range_shown : {r : RangeTree} {toks rest : Toks} → IsRange r toks rest → Shown (RangeIsSpelled r) toks rest
  range_shown (is_alone d) = ranked_shown d
  range_shown (is_between d g) = both (ends (ranked_shown d)) (ranked_shown g)

  pub ranges_shown : {rs : List RangeTree} {toks rest : Toks} → AreRanges rs toks rest → Shown (Each RangeIsSpelled rs) toks rest
  ranges_shown (one_range {r = r} d) = one RangeIsSpelled r (range_shown d)
  ranges_shown (and_range {rs = rs} {r = r} l d) = and_one RangeIsSpelled rs r (ends (ranges_shown l)) (range_shown d)

  parts_shown : {rs : List RangeTree} {toks rest : Toks} → AreParts rs toks rest → Shown (Each RangeIsSpelled rs) toks rest
  parts_shown no_parts = skip none
  parts_shown (some_parts d) = ends (ranges_shown d)

  operand_shown : {e : ExprTree} {toks rest : Toks} → IsOperand e toks rest → Shown (IsSpelled e) toks rest
  operand_shown is_whole = plain (skip none)
  operand_shown is_character = plain (skip none)
  operand_shown is_text = record { by = λ short. ((short.0, tt), short.1) }
  operand_shown is_this = plain (skip none)
  operand_shown (is_paren d) = skip (ends (ranked_shown d))
  operand_shown is_receive = plain (skip (skip none))
  operand_shown (is_start {es = es} d) = skip (skip (skip (so (as_exprs es) (args_shown d))))
  operand_shown (is_tuple {rs = rs} h d) = behind (head_passed h) (so (as_ranges rs) (parts_shown d))
  operand_shown (is_uniform h d) = behind (ends (ends (ends (ends (head_passed h))))) (ends (ranked_shown d))
  operand_shown (is_named d) = named_shown d

  ranked_shown : {r : ℕ} {e : ExprTree} {toks rest : Toks} → IsRanked r e toks rest → Shown (IsSpelled e) toks rest
  ranked_shown (is_plain d) = operand_shown d
  ranked_shown (is_minus d) = skip (operand_shown d)
  ranked_shown (is_not d) = skip (operand_shown d)
  ranked_shown (is_chain d) = chain_shown d

  chain_shown : {r k : ℕ} {e : ExprTree} {toks rest : Toks} → IsChain r k e toks rest → Shown (IsSpelled e) toks rest
  chain_shown (first d) = ranked_shown d
  chain_shown (turn c is rank d lt) = so (λ p. ((p.0.0, p.1.0), (p.0.1, p.1.1))) (both (ends (chain_shown c)) (ranked_shown d))

pub expr_shown : {e : ExprTree} {toks rest : Toks} → IsExpr e toks rest → Shown (IsSpelled e) toks rest
expr_shown d = ranked_shown d

pub location_shown : {e : ExprTree} {toks rest : Toks} → IsLocation e toks rest → Shown (IsSpelled e) toks rest
location_shown (is_loc d loc) = named_shown d

pub args_as_nodes : {es : List ExprTree} {toks rest : Toks} → AreArgs es toks rest → Shown (HaveShortTexts (expr_nodes es) × HaveNamed (expr_nodes es)) toks rest
args_as_nodes {es = es} d = so (as_exprs es) (args_shown d)
