-- The names in an expression stand among its tokens, in order.
use Rattle.std.proofs.Common.{◌≡◌, ℕ, List, [], ◌∷◌, ◌++◌, Option, Some, None, refl, ap}
use Rattle.std.specs.Prelude.{flat_map}
use Rattle.chill_base.specs.declared.pos.Pos.{Pos}
use Rattle.chill_tree.specs.declared.tree.name.Name.{Name}
use Rattle.chill_tree.specs.ExprTree.{ExprTree, expr_nodes, RangeTree, range_nodes}
use Rattle.rules_model.specs.Marks.{Toks, name_token}
use Rattle.rules_model.specs.ExprGrammar.{IsTupleHead, bare, of_mode, IsNamed, a_name, with_args, with_field, AreArgs, no_args, some_args, AreExprs, one_expr, and_expr, IsRange, is_alone, is_between, AreRanges, one_range, and_range, AreParts, no_parts, some_parts, IsOperand, is_whole, is_character, is_text, is_this, is_paren, is_receive, is_start, is_tuple, is_uniform, is_named, IsRanked, is_plain, is_minus, is_not, is_chain, IsChain, first, turn, IsLocation, is_loc}
use Rattle.names_model.specs.ExprMentions.{tuple_mode, begun, callee_of, mentions_as, mentions_in_each, mentions_in_range, mentions_in_ranges}
use Rattle.names_laws.proofs.NamePlaces.{Sought, of_mention, Uses, none, skip, ends, both, as_list, many_one, many_and, taking, taking_argument}

each_flat : (of : Option Name) (es : List ExprTree) → flat_map (mentions_as of) es ≡ mentions_in_each of (expr_nodes es)
each_flat of [] = refl
each_flat of (e ∷ es) = ap (λ ms. mentions_as of e ++ ms) (each_flat of es)

ranges_flat : (rs : List RangeTree) → flat_map mentions_in_range rs ≡ mentions_in_ranges (range_nodes rs)
ranges_flat [] = refl
ranges_flat (r ∷ rs) = ap (λ ms. mentions_in_range r ++ ms) (ranges_flat rs)

module _ (sought : Sought) where
  begun_uses : (of : Option Name) (n : Name) {rest : Toks} → Uses (of_mention sought) (begun of n) (name_token n ∷ rest) rest
  begun_uses None n = taking sought none
  begun_uses (Some routine) n = taking_argument sought n routine

  tuple_head_uses : {mode : Option Name} {b : Pos} {toks rest : Toks} → IsTupleHead mode b toks rest → Uses (of_mention sought) (tuple_mode mode) toks rest
  tuple_head_uses bare = skip none
  tuple_head_uses of_mode = taking sought (skip none)

  mutual
    pub named_uses : (of : Option Name) {k : ℕ} {e : ExprTree} {toks rest : Toks} → IsNamed k e toks rest → Uses (of_mention sought) (mentions_as of e) toks rest
    named_uses of (a_name {n = n}) = begun_uses of n
    named_uses of (with_args {e = e} d a lt) = both (ends (named_uses None d)) (args_uses (callee_of e) a)
    named_uses of (with_field d lt) = ends (ends (named_uses None d))

    pub args_uses : (of : Option Name) {es : List ExprTree} {toks rest : Toks} → AreArgs es toks rest → Uses (of_mention sought) (mentions_in_each of (expr_nodes es)) toks rest
    args_uses of no_args = skip none
    args_uses of (some_args {es = es} d) = as_list (each_flat of es) (ends (listed_uses of d))

    listed_uses : (of : Option Name) {es : List ExprTree} {toks rest : Toks} → AreExprs es toks rest → Uses (of_mention sought) (flat_map (mentions_as of) es) toks rest
    listed_uses of (one_expr {e = e} d) = many_one (mentions_as of) e (ranked_uses of d)
    listed_uses of (and_expr {es = es} {e = e} l d) = many_and (mentions_as of) es e (ends (listed_uses of l)) (ranked_uses of d)

    range_uses : {r : RangeTree} {toks rest : Toks} → IsRange r toks rest → Uses (of_mention sought) (mentions_in_range r) toks rest
    range_uses (is_alone d) = ranked_uses None d
    range_uses (is_between d g) = both (ends (ranked_uses None d)) (ranked_uses None g)

    listed_ranges_uses : {rs : List RangeTree} {toks rest : Toks} → AreRanges rs toks rest → Uses (of_mention sought) (flat_map mentions_in_range rs) toks rest
    listed_ranges_uses (one_range {r = r} d) = many_one mentions_in_range r (range_uses d)
    listed_ranges_uses (and_range {rs = rs} {r = r} l d) = many_and mentions_in_range rs r (ends (listed_ranges_uses l)) (range_uses d)

    parts_uses : {rs : List RangeTree} {toks rest : Toks} → AreParts rs toks rest → Uses (of_mention sought) (mentions_in_ranges (range_nodes rs)) toks rest
    parts_uses no_parts = skip none
    parts_uses (some_parts {rs = rs} d) = as_list (ranges_flat rs) (ends (listed_ranges_uses d))

    operand_uses : (of : Option Name) {e : ExprTree} {toks rest : Toks} → IsOperand e toks rest → Uses (of_mention sought) (mentions_as of e) toks rest
    operand_uses of is_whole = skip none
    operand_uses of is_character = skip none
    operand_uses of is_text = skip none
    operand_uses of is_this = skip none
    operand_uses of (is_paren d) = skip (ends (ranked_uses None d))
    operand_uses of is_receive = skip (taking sought none)
    operand_uses of (is_start d) = skip (taking sought (skip (args_uses None d)))
    operand_uses of (is_tuple h d) = both (tuple_head_uses h) (parts_uses d)
    operand_uses of (is_uniform h d) = both (ends (ends (ends (ends (tuple_head_uses h))))) (ends (ranked_uses None d))
    operand_uses of (is_named d) = named_uses of d

    pub ranked_uses : (of : Option Name) {r : ℕ} {e : ExprTree} {toks rest : Toks} → IsRanked r e toks rest → Uses (of_mention sought) (mentions_as of e) toks rest
    ranked_uses of (is_plain d) = operand_uses of d
    ranked_uses of (is_minus d) = skip (operand_uses None d)
    ranked_uses of (is_not d) = skip (operand_uses None d)
    ranked_uses of (is_chain d) = chain_uses of d

    chain_uses : (of : Option Name) {r k : ℕ} {e : ExprTree} {toks rest : Toks} → IsChain r k e toks rest → Uses (of_mention sought) (mentions_as of e) toks rest
    chain_uses of (first d) = ranked_uses of d
    chain_uses of (turn c is rank d lt) = both (ends (chain_uses None c)) (ranked_uses None d)

  pub exprs_uses : (of : Option Name) {es : List ExprTree} {toks rest : Toks} → AreExprs es toks rest → Uses (of_mention sought) (mentions_in_each of (expr_nodes es)) toks rest
  exprs_uses of {es = es} d = as_list (each_flat of es) (listed_uses of d)

  pub ranges_uses : {rs : List RangeTree} {toks rest : Toks} → AreRanges rs toks rest → Uses (of_mention sought) (mentions_in_ranges (range_nodes rs)) toks rest
  ranges_uses {rs = rs} d = as_list (ranges_flat rs) (listed_ranges_uses d)

  pub location_uses : {e : ExprTree} {toks rest : Toks} → IsLocation e toks rest → Uses (of_mention sought) (mentions_as None e) toks rest
  location_uses (is_loc d loc) = named_uses None d
