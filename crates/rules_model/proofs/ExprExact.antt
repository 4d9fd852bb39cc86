-- What is an expression, and is followed by nothing that goes on with it, is read as that expression.
use Rattle.std.proofs.Common.{◌≡◌, ℕ, zero, suc, ◌+◌, ◌-◌, ◌<◌, false, List, [], ◌∷◌, length, Option, Some, None, Ok, refl, ◌∙◌, subst, arith, length-append, ◌⊎◌, inl, inr}
use Rattle.chill_base.specs.declared.pos.Pos.{Pos}
use Rattle.chill_tree.specs.declared.token.Word.TheVariants as words
use Rattle.chill_tree.specs.declared.token.Sign.TheVariants as signs
use Rattle.chill_tree.specs.declared.token.TokenKind.{TokenKind}
use Rattle.chill_tree.specs.declared.token.TokenKind.TheVariants as kinds
use Rattle.chill_tree.specs.declared.tree.name.Name.{Name}
use Rattle.chill_tree.specs.declared.tree.expr.Operator.{Operator}
use Rattle.chill_tree.specs.declared.tree.expr.Prefix.TheVariants as prefixes
use Rattle.chill_tree.specs.ExprTree.{ExprTree, whole, character, text, this_instance, paren, receive, start, tuple, uniform, name, prefixed, RangeTree, alone, between, expr_nodes, range_nodes}
use Rattle.rules_model.specs.declared.extent.Extent.{Extent}
use Rattle.rules_model.specs.declared.extent.Extent.TheVariants as extents
use Rattle.rules_model.specs.Marks.{Toks, tok, sign, word, name_token, begins, begins_with, operator_of, rank_of}
use Rattle.rules_model.specs.ExprGrammar.{IsTupleHead, bare, of_mode, tuple_place, IsNamed, a_name, with_args, with_field, AreArgs, no_args, some_args, AreExprs, one_expr, and_expr, IsRange, is_alone, is_between, AreRanges, one_range, and_range, AreParts, no_parts, some_parts, IsOperand, is_whole, is_character, is_text, is_this, is_paren, is_receive, is_start, is_tuple, is_uniform, is_named, IsRanked, is_plain, is_minus, is_not, is_chain, IsChain, first, turn}
use Rattle.rules_model.specs.Nesting.{less, StaysBelow}
use Rattle.rules_model.specs.Reading.{Read, ◌>>=◌, sign_at, word_at, name_at, repeat, listed_at}
use Rattle.rules_model.specs.ExprReading.{Sub, args_at, field_at, Args, Field, with_part, part_at, parts_at, paren_at, range_at, begins_uniform, uniform_at, ranges_at, tuple_at, begun_at, operand_at, prefixed_at, turn_at, with_turn, ranked_at, expr_at}
use Rattle.rules_model.proofs.Loops.{repeat_none, repeat_some, Listing, listing_one, listing_and, listing_all, room_left}
use Rattle.rules_model.proofs.ExprStarts.{exprs_shrink, ranges_shrink, operand_unsigned, no_end, exprs_begin, ranges_begin, parts_uniform, named_few, chain_few, NameFirst, name_first}
use Rattle.rules_model.proofs.ExprStops.{Stops, stops_less, stops_bracket, operator_marks, turn_stops, part_none, turn_none, operator_some}

-- ---- one production each

args_part : (w : Extent) (n : ℕ) (sub : Sub) (p : Pos) (es : List ExprTree) (m rest : Toks) → args_at n sub (sign p signs.Open ∷ m) ≡ Ok (es, rest) → part_at w n sub (sign p signs.Open ∷ m) ≡ Ok (Some (Args es, rest))
unfolding part_at
args_part w n sub p es m rest h = rw h refl

field_part : (w : Extent) (n : ℕ) (sub : Sub) (p : Pos) (x : Name) (rest : Toks) → part_at w n sub (sign p signs.Dot ∷ name_token x ∷ rest) ≡ Ok (Some (Field x, rest))
unfolding part_at field_at sign_at name_at
field_part w n sub p x rest = refl

empty_args : (n : ℕ) (sub : Sub) (p q : Pos) (rest : Toks) → 0 < n → args_at n sub (sign p signs.Open ∷ sign q signs.Close ∷ rest) ≡ Ok ([], rest)
unfolding args_at sign_at
empty_args n sub p q rest lt = room_left n p (Ok ([], rest)) (Ok ([], rest)) lt refl

filled_args : (n : ℕ) (sub : Sub) (p q : Pos) (es : List ExprTree) (m rest : Toks) → 0 < n → begins signs.Close m ≡ false → listed_at (sub p) m ≡ Ok (es, sign q signs.Close ∷ rest) → args_at n sub (sign p signs.Open ∷ m) ≡ Ok (es, rest)
unfolding args_at sign_at
filled_args n sub p q es m rest lt b h = room_left n p _ (Ok (es, rest)) lt (rw (b, h) refl)

in_brackets : (w : Extent) (n : ℕ) (sub : Sub) (at p : Pos) (e : ExprTree) (m rest : Toks) → sub at m ≡ Ok (e, sign p signs.Close ∷ rest) → operand_at w n sub (sign at signs.Open ∷ m) ≡ Ok (paren at e, rest)
unfolding operand_at paren_at sign_at
in_brackets w n sub at p e m rest h = rw h refl

a_whole : (w : Extent) (n : ℕ) (sub : Sub) (at : Pos) (v : ℕ) (rest : Toks) → operand_at w n sub (tok at (kinds.Whole v) ∷ rest) ≡ Ok (whole at v, rest)
unfolding operand_at
a_whole w n sub at v rest = refl

a_character : (w : Extent) (n : ℕ) (sub : Sub) (at : Pos) (v : ℕ) (rest : Toks) → operand_at w n sub (tok at (kinds.Char v) ∷ rest) ≡ Ok (character at v, rest)
unfolding operand_at
a_character w n sub at v rest = refl

a_text : (w : Extent) (n : ℕ) (sub : Sub) (at : Pos) (v : List ℕ) (rest : Toks) → operand_at w n sub (tok at (kinds.Text v) ∷ rest) ≡ Ok (text at v, rest)
unfolding operand_at
a_text w n sub at v rest = refl

a_this : (w : Extent) (n : ℕ) (sub : Sub) (at : Pos) (rest : Toks) → operand_at w n sub (word at words.This ∷ rest) ≡ Ok (this_instance at, rest)
unfolding operand_at
a_this w n sub at rest = refl

a_receive : (w : Extent) (n : ℕ) (sub : Sub) (at : Pos) (x : Name) (rest : Toks) → operand_at w n sub (word at words.Receive ∷ name_token x ∷ rest) ≡ Ok (receive at x, rest)
unfolding operand_at name_at
a_receive w n sub at x rest = refl

a_start : (w : Extent) (n : ℕ) (sub : Sub) (at p : Pos) (x : Name) (es : List ExprTree) (m rest : Toks) → args_at n sub (sign p signs.Open ∷ m) ≡ Ok (es, rest) → operand_at w n sub (word at words.Start ∷ name_token x ∷ sign p signs.Open ∷ m) ≡ Ok (start at x (expr_nodes es), rest)
unfolding operand_at name_at
a_start w n sub at p x es m rest h = rw h refl

-- ---- tuples

one_alone : (read : Toks → Read ExprTree) (e : ExprTree) (toks rest : Toks) → read toks ≡ Ok (e, rest) → begins signs.Colon rest ≡ false → range_at read toks ≡ Ok (alone e, rest)
unfolding range_at
one_alone read e toks rest h b = rw (h, b) refl

two_between : (read : Toks → Read ExprTree) (e f : ExprTree) (p : Pos) (toks m rest : Toks) → read toks ≡ Ok (e, sign p signs.Colon ∷ m) → read m ≡ Ok (f, rest) → range_at read toks ≡ Ok (between e f, rest)
unfolding range_at sign_at
two_between read e f p toks m rest h g = rw (h, g) refl

empty_ranges : (sub : Sub) (b p : Pos) (rest : Toks) → ranges_at sub b (sign p signs.CloseBracket ∷ rest) ≡ Ok ([], rest)
unfolding ranges_at sign_at
empty_ranges sub b p rest = refl

filled_ranges : (sub : Sub) (b p : Pos) (rs : List RangeTree) (m rest : Toks) → begins signs.CloseBracket m ≡ false → listed_at (range_at (sub b)) m ≡ Ok (rs, sign p signs.CloseBracket ∷ rest) → ranges_at sub b m ≡ Ok (rs, rest)
unfolding ranges_at sign_at
filled_ranges sub b p rs m rest e h = rw (e, h) refl

a_tuple : (n : ℕ) (sub : Sub) (mode : Option Name) (b : Pos) (rs : List RangeTree) (m rest : Toks) → 0 < n → begins_uniform m ≡ false → ranges_at sub b m ≡ Ok (rs, rest) → tuple_at n sub mode (sign b signs.OpenBracket ∷ m) ≡ Ok (tuple (tuple_place mode b) mode b (range_nodes rs), rest)
unfolding tuple_at sign_at
a_tuple n sub mode b rs m rest lt e h = room_left n b _ (Ok (tuple (tuple_place mode b) mode b (range_nodes rs), rest)) lt (rw (e, h) refl)

a_uniform : (n : ℕ) (sub : Sub) (mode : Option Name) (b p q r s t : Pos) (e : ExprTree) (m rest : Toks) → 0 < n → 0 < less n → sub b m ≡ Ok (e, sign t signs.CloseBracket ∷ rest)
    → tuple_at n sub mode (sign b signs.OpenBracket ∷ sign p signs.Open ∷ sign q signs.Times ∷ sign r signs.Close ∷ sign s signs.Colon ∷ m) ≡ Ok (uniform (tuple_place mode b) mode b e, rest)
unfolding tuple_at uniform_at sign_at
a_uniform n sub mode b p q r s t e m rest lt lt2 h =
    room_left n b _ (Ok (uniform (tuple_place mode b) mode b e, rest)) lt (room_left (less n) p _ (Ok (uniform (tuple_place mode b) mode b e, rest)) lt2 (rw h refl))

bare_tuple : (w : Extent) (n : ℕ) (sub : Sub) (b : Pos) (m : Toks) → operand_at w n sub (sign b signs.OpenBracket ∷ m) ≡ tuple_at n sub None (sign b signs.OpenBracket ∷ m)
unfolding operand_at
bare_tuple w n sub b m = refl

named_tuple : (w : Extent) (n : ℕ) (sub : Sub) (x : Name) (b : Pos) (e : ExprTree) (m rest : Toks) → tuple_at n sub (Some x) (sign b signs.OpenBracket ∷ m) ≡ Ok (e, rest) → operand_at w n sub (name_token x ∷ sign b signs.OpenBracket ∷ m) ≡ Ok (e, rest)
unfolding operand_at begun_at
named_tuple w n sub x b e m rest h = rw h refl

-- what the reading of a tuple gives, whatever stands before its bracket
headed : {mode : Option Name} {b : Pos} {toks m : Toks} → IsTupleHead mode b toks m → (w : Extent) (n : ℕ) (sub : Sub) (e : ExprTree) (rest : Toks) → tuple_at n sub mode (sign b signs.OpenBracket ∷ m) ≡ Ok (e, rest) → operand_at w n sub toks ≡ Ok (e, rest)
headed (bare {b = b} {rest = m}) w n sub e rest h = bare_tuple w n sub b m ∙ h
headed (of_mode {n = x} {b = b} {rest = m}) w n sub e rest h = named_tuple w n sub x b e m rest h

head_below : {mode : Option Name} {b : Pos} {toks m : Toks} → IsTupleHead mode b toks m → (n : ℕ) → StaysBelow n toks → (0 < less n) × StaysBelow (less n) m
head_below bare n below = below
head_below of_mode n below = below.1

-- ---- names

-- a name with its parts
pub named_at : Extent → ℕ → Sub → Toks → Read ExprTree
named_at w n sub toks = name_at toks >>= λ x. parts_at w n sub (name x.0) x.1

name_alone : (w : Extent) (n : ℕ) (sub : Sub) (x : Name) (rest : Toks) → named_at w n sub (name_token x ∷ rest) ≡ repeat (part_at w n sub) with_part 32 (name x) rest
unfolding named_at name_at
name_alone w n sub x rest = refl

begun : (w : Extent) (n : ℕ) (sub : Sub) (x : Name) (rest : Toks) → begins signs.OpenBracket rest ≡ false → operand_at w n sub (name_token x ∷ rest) ≡ named_at w n sub (name_token x ∷ rest)
unfolding operand_at begun_at named_at name_at
begun w n sub x rest b = rw b refl

operand_named : (w : Extent) (n : ℕ) (sub : Sub) (toks : Toks) → NameFirst toks → operand_at w n sub toks ≡ named_at w n sub toks
operand_named w n sub toks f = rw f.here (begun w n sub f.name f.others f.no_bracket)

-- ---- ranks

no_prefix : (w : Extent) (n : ℕ) (sub : Sub) (toks : Toks) → begins signs.Minus toks ≡ false → begins_with words.Not toks ≡ false → prefixed_at w n sub toks ≡ operand_at w n sub toks
unfolding prefixed_at
no_prefix w n sub toks h g = rw (h, g) refl

a_minus : (w : Extent) (n : ℕ) (sub : Sub) (at : Pos) (e : ExprTree) (m rest : Toks) → operand_at w n sub m ≡ Ok (e, rest) → prefixed_at w n sub (sign at signs.Minus ∷ m) ≡ Ok (prefixed at prefixes.Minus e, rest)
unfolding prefixed_at sign_at
a_minus w n sub at e m rest h = rw h refl

a_not : (w : Extent) (n : ℕ) (sub : Sub) (at : Pos) (e : ExprTree) (m rest : Toks) → operand_at w n sub m ≡ Ok (e, rest) → prefixed_at w n sub (word at words.Not ∷ m) ≡ Ok (prefixed at prefixes.Not e, rest)
unfolding prefixed_at word_at
a_not w n sub at e m rest h = rw h refl

rank_none : (w : Extent) (n : ℕ) (sub : Sub) (toks : Toks) (x : Read ExprTree) → prefixed_at w n sub toks ≡ x → ranked_at w n sub 0 toks ≡ x
unfolding ranked_at
rank_none w n sub toks x h = h

rank_begins : (w : Extent) (n : ℕ) (sub : Sub) (r : ℕ) (e : ExprTree) (toks rest : Toks) → ranked_at w n sub r toks ≡ Ok (e, rest) → ranked_at w n sub (suc r) toks ≡ repeat (turn_at w (ranked_at w n sub r) (suc r)) with_turn 32 e rest
unfolding ranked_at
rank_begins w n sub r e toks rest h = rw h refl

one_turn : (w : Extent) (next : Toks → Read ExprTree) (r : ℕ) (at : Pos) (kind : TokenKind) (o : Operator) (e : ExprTree) (m rest : Toks) → operator_of kind ≡ Some o → rank_of o ≡ r → next m ≡ Ok (e, rest) → turn_at w next r (tok at kind ∷ m) ≡ Ok (Some (((at, o), e), rest))
unfolding turn_at
one_turn w next r at kind o e m rest is rank h = rw (operator_some r at kind o m is rank, h) refl

deeper : (n : ℕ) (p : Pos) (toks : Toks) (x : Read ExprTree) → ranked_at extents.Whole n (expr_at n) 5 toks ≡ x → expr_at (suc n) p toks ≡ x
unfolding expr_at
deeper n p toks x h = h

mutual
  -- the state of the loop over parts
  pub exact_named : {k : ℕ} {e : ExprTree} {toks rest : Toks} → IsNamed k e toks rest → (w : Extent) (n : ℕ) → StaysBelow (suc n) toks → ((j : ℕ) → j + k ≡ 32 → named_at w n (expr_at n) toks ≡ repeat (part_at w n (expr_at n)) with_part j e rest) × StaysBelow (suc n) rest
  exact_named (a_name {n = x} {rest = rest}) w n below = ((λ j h. let e : j ≡ 32 = omega arith in rw e (name_alone w n (expr_at n) x rest)), below.1)
  exact_named (with_args {k = k} {e = f} {es = es} {p = p} {m = m} {rest = rest} d a lt) w n below =
      let ih = exact_named d w n below in
      let given = exact_args a n p ih.1.0 ih.1.1 in
      ((λ j h. ih.0 (suc j) (omega arith) ∙ repeat_some (part_at w n (expr_at n)) with_part j f (sign p signs.Open ∷ m) (Args es) rest (args_part w n (expr_at n) p es m rest given.0)), given.1)
  exact_named (with_field {k = k} {e = f} {n = x} {p = p} {rest = rest} d lt) w n below =
      let ih = exact_named d w n below in
      ((λ j h. ih.0 (suc j) (omega arith) ∙ repeat_some (part_at w n (expr_at n)) with_part j f (sign p signs.Dot ∷ name_token x ∷ rest) (Field x) rest (field_part w n (expr_at n) p x rest)), ih.1.1.1)

  pub exact_args : {es : List ExprTree} {toks rest : Toks} → AreArgs es toks rest → (n : ℕ) (p : Pos) → 0 < n → StaysBelow n toks → (args_at n (expr_at n) (sign p signs.Open ∷ toks) ≡ Ok (es, rest)) × StaysBelow (suc n) rest
  exact_args (no_args {p = q} {rest = rest}) n p pos below = (empty_args n (expr_at n) p q rest pos, below.1)
  exact_args (some_args d) zero p pos below = absurd (omega (arith, pos))
  exact_args (some_args {es = es} {p = q} {toks = toks} {rest = rest} d) (suc n) p pos below =
      let ih = exact_exprs d n p below (refl, refl, refl, tt) in
      let all = listing_all (expr_at (suc n) p) es toks (sign q signs.Close ∷ rest) ih.0 refl (omega (arith, exprs_shrink d)) ih.2 in
      (filled_args (suc n) (expr_at (suc n)) p q es toks rest pos (no_end toks (exprs_begin d)).close all, ih.1.1)

  -- the state of the loop over arguments
  pub exact_exprs : {es : List ExprTree} {toks rest : Toks} → AreExprs es toks rest → (n : ℕ) (p : Pos) → StaysBelow (suc n) toks → Stops 5 rest → Listing (expr_at (suc n) p) es toks rest × StaysBelow (suc n) rest × (0 < length es)
  exact_exprs (one_expr {e = e} {toks = toks} {rest = rest} d) n p below stops =
      let ih = exact_ranked d extents.Whole n below stops in
      (listing_one (expr_at (suc n) p) e toks rest (deeper n p toks (Ok (e, rest)) ih.0), ih.1, omega arith)
  exact_exprs (and_expr {es = es} {e = e} {p = q} {toks = toks} {m = m} {rest = rest} l d) n p below stops =
      let il = exact_exprs l n p below (refl, refl, refl, tt) in
      let id = exact_ranked d extents.Whole n il.1.1 stops in
      (listing_and (expr_at (suc n) p) es e q toks m rest il.0 (deeper n p m (Ok (e, rest)) id.0), id.1, omega (arith, length-append es (e ∷ [])))

  pub exact_range : {r : RangeTree} {toks rest : Toks} → IsRange r toks rest → (n : ℕ) (p : Pos) → StaysBelow (suc n) toks → Stops 5 rest → begins signs.Colon rest ≡ false → (range_at (expr_at (suc n) p) toks ≡ Ok (r, rest)) × StaysBelow (suc n) rest
  exact_range (is_alone {e = e} {toks = toks} {rest = rest} d) n p below stops c =
      let ih = exact_ranked d extents.Whole n below stops in
      (one_alone (expr_at (suc n) p) e toks rest (deeper n p toks (Ok (e, rest)) ih.0) c, ih.1)
  exact_range (is_between {e = e} {f = f} {p = q} {toks = toks} {m = m} {rest = rest} d g) n p below stops c =
      let id = exact_ranked d extents.Whole n below (refl, refl, refl, tt) in
      let ig = exact_ranked g extents.Whole n id.1.1 stops in
      (two_between (expr_at (suc n) p) e f q toks m rest (deeper n p toks (Ok (e, sign q signs.Colon ∷ m)) id.0) (deeper n p m (Ok (f, rest)) ig.0), ig.1)

  -- the state of the loop over the parts of a tuple
  pub exact_ranges : {rs : List RangeTree} {toks rest : Toks} → AreRanges rs toks rest → (n : ℕ) (p : Pos) → StaysBelow (suc n) toks → Stops 5 rest → begins signs.Colon rest ≡ false → Listing (range_at (expr_at (suc n) p)) rs toks rest × StaysBelow (suc n) rest × (0 < length rs)
  exact_ranges (one_range {r = r} {toks = toks} {rest = rest} d) n p below stops c =
      let ih = exact_range d n p below stops c in
      (listing_one (range_at (expr_at (suc n) p)) r toks rest ih.0, ih.1, omega arith)
  exact_ranges (and_range {rs = rs} {r = r} {p = q} {toks = toks} {m = m} {rest = rest} l d) n p below stops c =
      let il = exact_ranges l n p below (refl, refl, refl, tt) refl in
      let id = exact_range d n p il.1.1 stops c in
      (listing_and (range_at (expr_at (suc n) p)) rs r q toks m rest il.0 id.0, id.1, omega (arith, length-append rs (r ∷ [])))

  exact_parts : {rs : List RangeTree} {toks rest : Toks} → AreParts rs toks rest → (n : ℕ) (b : Pos) → StaysBelow (suc n) toks → (ranges_at (expr_at (suc n)) b toks ≡ Ok (rs, rest)) × StaysBelow (suc (suc n)) rest
  exact_parts (no_parts {p = p} {rest = rest}) n b below = (empty_ranges (expr_at (suc n)) b p rest, below.1)
  exact_parts (some_parts {rs = rs} {p = p} {toks = toks} {rest = rest} d) n b below =
      let ih = exact_ranges d n b below (refl, refl, refl, tt) refl in
      let all = listing_all (range_at (expr_at (suc n) b)) rs toks (sign p signs.CloseBracket ∷ rest) ih.0 refl (omega (arith, ranges_shrink d)) ih.2 in
      (filled_ranges (expr_at (suc n)) b p rs toks rest (no_end toks (ranges_begin d).0).bracket all, ih.1.1)

  pub exact_operand : {e : ExprTree} {toks rest : Toks} → IsOperand e toks rest → (w : Extent) (n : ℕ) → StaysBelow (suc n) toks → Stops 0 rest → (operand_at w n (expr_at n) toks ≡ Ok (e, rest)) × StaysBelow (suc n) rest
  exact_operand (is_whole {at = at} {n = v} {rest = rest}) w n below stops = (a_whole w n (expr_at n) at v rest, below.1)
  exact_operand (is_character {at = at} {n = v} {rest = rest}) w n below stops = (a_character w n (expr_at n) at v rest, below.1)
  exact_operand (is_text {at = at} {s = v} {rest = rest}) w n below stops = (a_text w n (expr_at n) at v rest, below.1)
  exact_operand (is_this {at = at} {rest = rest}) w n below stops = (a_this w n (expr_at n) at rest, below.1)
  exact_operand (is_paren d) w zero below stops = absurd (omega (arith, below.0))
  exact_operand (is_paren {at = at} {p = p} {e = e} {m = m} {rest = rest} d) w (suc n) below stops =
      let ih = exact_ranked d extents.Whole n below.1 (refl, refl, refl, tt) in
      (in_brackets w (suc n) (expr_at (suc n)) at p e m rest (deeper n at m (Ok (e, sign p signs.Close ∷ rest)) ih.0), ih.1.1)
  exact_operand (is_receive {at = at} {n = x} {rest = rest}) w n below stops = (a_receive w n (expr_at n) at x rest, below.1.1)
  exact_operand (is_start {at = at} {p = p} {n = x} {es = es} {m = m} {rest = rest} d) w n below stops =
      let ih = exact_args d n p below.1.1.0 below.1.1.1 in
      (a_start w n (expr_at n) at p x es m rest ih.0, ih.1)
  exact_operand (is_tuple {b = b} {mode = mode} {rs = rs} {m = m} {rest = rest} h d) w zero below stops = let k = head_below h 1 below in absurd (omega (arith, k.0))
  exact_operand (is_tuple {b = b} {mode = mode} {rs = rs} {m = m} {rest = rest} h d) w (suc n) below stops =
      let k = head_below h (suc (suc n)) below in
      let ih = exact_parts d n b k.1 in
      (headed h w (suc n) (expr_at (suc n)) (tuple (tuple_place mode b) mode b (range_nodes rs)) rest (a_tuple (suc n) (expr_at (suc n)) mode b rs m rest (omega arith) (parts_uniform d) ih.0), ih.1)
  exact_operand (is_uniform h d) w zero below stops = let k = head_below h 1 below in absurd (omega (arith, k.0))
  exact_operand (is_uniform {b = b} {p = p} {q = q} {r = r} {s = s} {t = t} {mode = mode} {e = e} {m = m} {rest = rest} h d) w (suc zero) below stops = let k = head_below h 2 below in absurd (omega (arith, k.1.0))
  exact_operand (is_uniform {b = b} {p = p} {q = q} {r = r} {s = s} {t = t} {mode = mode} {e = e} {m = m} {rest = rest} h d) w (suc (suc n)) below stops =
      let k = head_below h (suc (suc (suc n))) below in
      let ih = exact_ranked d extents.Whole (suc n) k.1.1.1.1.1 (refl, refl, refl, tt) in
      (headed h w (suc (suc n)) (expr_at (suc (suc n))) (uniform (tuple_place mode b) mode b e) rest (a_uniform (suc (suc n)) (expr_at (suc (suc n))) mode b p q r s t e m rest (omega arith) (omega arith) (deeper (suc n) b m (Ok (e, sign t signs.CloseBracket ∷ rest)) ih.0)), ih.1.1)
  exact_operand (is_named {k = k} {e = e} {toks = toks} {rest = rest} d) w n below stops =
      let ih = exact_named d w n below in
      let few = named_few d in
      let whole_name : named_at w n (expr_at n) toks ≡ Ok (e, rest) = ih.0 (32 - k) (omega arith) ∙ repeat_none (part_at w n (expr_at n)) with_part (32 - k) e rest (part_none w n (expr_at n) 0 rest stops) in
      (named_operand d w n whole_name stops, ih.1)

  named_operand : {k : ℕ} {e : ExprTree} {toks rest : Toks} → IsNamed k e toks rest → (w : Extent) (n : ℕ) → named_at w n (expr_at n) toks ≡ Ok (e, rest) → Stops 0 rest → operand_at w n (expr_at n) toks ≡ Ok (e, rest)
  named_operand (a_name {n = x} {rest = rest}) w n h stops = begun w n (expr_at n) x rest (stops_bracket 0 rest stops) ∙ h
  named_operand (with_args {toks = toks} d a lt) w n h stops = operand_named w n (expr_at n) toks (name_first d refl refl) ∙ h
  named_operand (with_field {toks = toks} d lt) w n h stops = operand_named w n (expr_at n) toks (name_first d refl refl) ∙ h

  pub exact_ranked : {r : ℕ} {e : ExprTree} {toks rest : Toks} → IsRanked r e toks rest → (w : Extent) (n : ℕ) → StaysBelow (suc n) toks → Stops r rest → (ranked_at w n (expr_at n) r toks ≡ Ok (e, rest)) × StaysBelow (suc n) rest
  exact_ranked (is_plain {toks = toks} d) w n below stops =
      let ih = exact_operand d w n below stops in
      let u = operand_unsigned d in
      (rank_none w n (expr_at n) toks _ (no_prefix w n (expr_at n) toks u.0 u.1 ∙ ih.0), ih.1)
  exact_ranked (is_minus {at = at} {e = e} {m = m} {rest = rest} d) w n below stops =
      let ih = exact_operand d w n below.1 stops in
      (rank_none w n (expr_at n) (sign at signs.Minus ∷ m) _ (a_minus w n (expr_at n) at e m rest ih.0), ih.1)
  exact_ranked (is_not {at = at} {e = e} {m = m} {rest = rest} d) w n below stops =
      let ih = exact_operand d w n below.1 stops in
      (rank_none w n (expr_at n) (word at words.Not ∷ m) _ (a_not w n (expr_at n) at e m rest ih.0), ih.1)
  exact_ranked (is_chain {r = r} {k = k} {e = e} {rest = rest} d) w n below stops =
      let ih = exact_chain d w n below (stops_less r rest stops) in
      let few = chain_few d in
      (ih.0 (32 - k) (omega arith) ∙ repeat_none (turn_at w (ranked_at w n (expr_at n) r) (suc r)) with_turn (32 - k) e rest (turn_none w (ranked_at w n (expr_at n) r) (suc r) rest stops), ih.1)

  -- the state of the loop over operators of a rank
  pub exact_chain : {r k : ℕ} {e : ExprTree} {toks rest : Toks} → IsChain r k e toks rest → (w : Extent) (n : ℕ) → StaysBelow (suc n) toks → Stops r rest → ((j : ℕ) → j + k ≡ 32 → ranked_at w n (expr_at n) (suc r) toks ≡ repeat (turn_at w (ranked_at w n (expr_at n) r) (suc r)) with_turn j e rest) × StaysBelow (suc n) rest
  exact_chain (first {r = r} {e = e} {toks = toks} {rest = rest} d) w n below stops =
      let ih = exact_ranked d w n below stops in
      ((λ j h. let k : j ≡ 32 = omega arith in rw k (rank_begins w n (expr_at n) r e toks rest ih.0)), ih.1)
  exact_chain (turn {r = r} {l = l} {e = e} {o = o} {p = p} {kind = kind} {m = m} {rest = rest} c is rank d lt) w n below stops =
      let ic = exact_chain c w n below (turn_stops r p kind o m is rank) in
      let same = (operator_marks kind o is).room (suc n) in
      let after = subst (λ k. StaysBelow k m) same ic.1.1 in
      let id = exact_ranked d w n after stops in
      ((λ j h. ic.0 (suc j) (omega arith) ∙ repeat_some (turn_at w (ranked_at w n (expr_at n) r) (suc r)) with_turn j l (tok p kind ∷ m) ((p, o), e) rest (one_turn w (ranked_at w n (expr_at n) r) (suc r) p kind o e m rest is rank id.0)), id.1)

-- an expression that is followed by nothing that goes on with it
pub exact_expr : {e : ExprTree} {toks rest : Toks} → IsRanked 5 e toks rest → (n : ℕ) (p : Pos) → StaysBelow (suc n) toks → Stops 5 rest → (expr_at (suc n) p toks ≡ Ok (e, rest)) × StaysBelow (suc n) rest
exact_expr {e = e} {toks = toks} {rest = rest} d n p below stops = let x = exact_ranked d extents.Whole n below stops in (deeper n p toks (Ok (e, rest)) x.0, x.1)

-- an operand that a token closes is read as it is, whatever stands behind it: all but names with parts
pub exact_closed : {e : ExprTree} {toks rest : Toks} → IsOperand e toks rest → (w : Extent) (n : ℕ) → StaysBelow (suc n) toks → (operand_at w n (expr_at n) toks ≡ Ok (e, rest)) ⊎ ((k : ℕ) × IsNamed k e toks rest)
exact_closed (is_whole {at = at} {n = v} {rest = rest}) w n below = inl (a_whole w n (expr_at n) at v rest)
exact_closed (is_character {at = at} {n = v} {rest = rest}) w n below = inl (a_character w n (expr_at n) at v rest)
exact_closed (is_text {at = at} {s = v} {rest = rest}) w n below = inl (a_text w n (expr_at n) at v rest)
exact_closed (is_this {at = at} {rest = rest}) w n below = inl (a_this w n (expr_at n) at rest)
exact_closed (is_paren d) w zero below = absurd (omega (arith, below.0))
exact_closed (is_paren {at = at} {p = p} {e = e} {m = m} {rest = rest} d) w (suc n) below = inl (in_brackets w (suc n) (expr_at (suc n)) at p e m rest (exact_expr d n at below.1 (refl, refl, refl, tt)).0)
exact_closed (is_receive {at = at} {n = x} {rest = rest}) w n below = inl (a_receive w n (expr_at n) at x rest)
exact_closed (is_start {at = at} {p = p} {n = x} {es = es} {m = m} {rest = rest} d) w n below = inl (a_start w n (expr_at n) at p x es m rest (exact_args d n p below.1.1.0 below.1.1.1).0)
exact_closed (is_tuple h d) w zero below = let k = head_below h 1 below in absurd (omega (arith, k.0))
exact_closed (is_tuple {b = b} {mode = mode} {rs = rs} {m = m} {rest = rest} h d) w (suc n) below =
    let k = head_below h (suc (suc n)) below in
    inl (headed h w (suc n) (expr_at (suc n)) (tuple (tuple_place mode b) mode b (range_nodes rs)) rest (a_tuple (suc n) (expr_at (suc n)) mode b rs m rest (omega arith) (parts_uniform d) (exact_parts d n b k.1).0))
exact_closed (is_uniform h d) w zero below = let k = head_below h 1 below in absurd (omega (arith, k.0))
exact_closed (is_uniform h d) w (suc zero) below = let k = head_below h 2 below in absurd (omega (arith, k.1.0))
exact_closed (is_uniform {b = b} {p = p} {q = q} {r = r} {s = s} {t = t} {mode = mode} {e = e} {m = m} {rest = rest} h d) w (suc (suc n)) below =
    let k = head_below h (suc (suc (suc n))) below in
    inl (headed h w (suc (suc n)) (expr_at (suc (suc n))) (uniform (tuple_place mode b) mode b e) rest (a_uniform (suc (suc n)) (expr_at (suc (suc n))) mode b p q r s t e m rest (omega arith) (omega arith) (exact_expr d (suc n) b k.1.1.1.1.1 (refl, refl, refl, tt)).0))
exact_closed (is_named {k = k} d) w n below = inr (k, d)

-- a name with a part is read as that
pub parted_operand : {k : ℕ} {e : ExprTree} {toks rest : Toks} → IsNamed (suc k) e toks rest → (w : Extent) (n : ℕ) → operand_at w n (expr_at n) toks ≡ named_at w n (expr_at n) toks
parted_operand (with_args {toks = toks} d a lt) w n = operand_named w n (expr_at n) toks (name_first d refl refl)
parted_operand (with_field {toks = toks} d lt) w n = operand_named w n (expr_at n) toks (name_first d refl refl)
