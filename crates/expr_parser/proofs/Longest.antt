-- What is read as an expression is the longest one.
use Rattle.std.proofs.Common.{◌≡◌, ℕ, zero, suc, ◌-◌, ◌≤◌, Bool, true, false, cond, ◌∷◌, length, Option, Some, None, Result, Ok, Err, refl, ap, subst, arith, length-append, ◌⊎◌, inl, inr}
use Rattle.chill_base.specs.declared.pos.Pos.{Pos}
use Rattle.chill_tree.specs.declared.token.Word.TheVariants as words
use Rattle.chill_tree.specs.declared.token.Sign.TheVariants as signs
use Rattle.chill_tree.specs.declared.token.TokenKind.{TokenKind}
use Rattle.chill_tree.specs.declared.tree.name.Name.{Name}
use Rattle.chill_tree.specs.declared.tree.expr.Operator.{Operator}
use Rattle.chill_tree.specs.declared.tree.expr.Prefix.TheVariants as prefixes
use Rattle.chill_tree.specs.ExprTree.{ExprTree, name, prefixed}
use Rattle.rules_model.specs.declared.extent.Extent.TheVariants as extents
use Rattle.rules_model.specs.Marks.{Toks, tok, sign, word, name_token, begins, begins_with, operator_of, rank_of}
use Rattle.rules_model.specs.ExprGrammar.{IsNamed, a_name, with_args, with_field, IsOperand, IsRanked, is_plain, is_minus, is_not, is_chain, IsChain, first, turn}
use Rattle.rules_model.specs.Nesting.{StaysBelow}
use Rattle.rules_model.specs.Reading.{Fault, Deep, Absent, Read, Piece, ◌>>=◌, settle, chosen, sign_at, word_at, repeat}
use Rattle.rules_model.specs.ExprReading.{args_at, field_at, NamePart, Args, Field, with_part, part_at, parts_at, tuple_at, begun_at, operand_at, prefixed_at, operator_at, turn_at, with_turn, ranked_at, expr_at}
use Rattle.rules_model.proofs.ExprStarts.{operand_unsigned, named_few}
use Rattle.rules_model.proofs.ExprStops.{turn_stops, operator_marks, operator_some}
use Rattle.rules_model.proofs.ExprExact.{exact_closed, parted_operand, exact_named, exact_chain}
use Rattle.expr_parser.proofs.Taken.{Told, taken, broken, missing, ToldPiece, told_loop}
use Rattle.expr_parser.proofs.ExprTaken.{IsPart, part_told, IsTurn, turn_told, ranked_told, begun_told, told_inner}

-- as much as that was read, or levels of nesting were wanting
pub data AtLeast {A : Type 0} (rest : Toks) : Result (A × Toks) Fault → Type 0 where
  is_deep : {p : Pos} → AtLeast rest (Err (Deep p))
  reads : {x : A} {more : Toks} → length more ≤ length rest → AtLeast rest (Ok (x, more))

-- something was read, or levels were wanting
data Settles {A : Type 0} : Result A Fault → Type 0 where
  no_room : {p : Pos} → Settles (Err (Deep p))
  is_read : {x : A} → Settles (Ok x)

settle_none : {A B : Type 0} (r : Result A Fault) (y : B) (f : A → B) → Settles (settle extents.Longest r y (λ x. Ok (f x)))
settle_none (Ok x) y f = is_read
settle_none (Err (Deep p)) y f = no_room
settle_none (Err (Absent p)) y f = is_read

loop_settles : {S P : Type 0} (piece : Toks → Piece P) (grow : S → P → S) → ((t : Toks) → Settles (piece t)) → (k : ℕ) (s : S) (t : Toks) → Settles (repeat piece grow k s t)
unfolding repeat
loop_settles piece grow h zero s t = is_read
loop_settles {S} {P} piece grow h (suc k) s t = go (λ x. loop_settles piece grow h k (grow s x.0) x.1) (h t)
  where
    go : ((x : P × Toks) → Settles (repeat piece grow k (grow s x.0) x.1)) → {r : Piece P} → Settles r → Settles (r >>= λ o. chosen o (Ok (s, t)) (λ x. repeat piece grow k (grow s x.0) x.1))
    go again no_room = no_room
    go again (is_read {x = None}) = is_read
    go again (is_read {x = Some x}) = again x

least : {A : Type 0} {n m : ℕ} {Is : A → Toks → Toks → Type 0} {t : Toks} {r : Result (A × Toks) Fault} → Told n m Is t r → Settles r → (rest : Toks) → length t ≤ length rest → AtLeast rest r
least (taken {rest = more} T) s rest le = reads (omega (arith, le, ap length T.here, length-append T.used more))
least (broken V d) s rest le = is_deep
least (missing V e) s rest le = elim s [ ]

loop_least : {S P : Type 0} (n : ℕ) (piece : Toks → Piece P) (grow : S → P → S) (IsP : P → Toks → Toks → Type 0) → ((t : Toks) → ToldPiece n IsP t (piece t)) → ((t : Toks) → Settles (piece t)) → (k : ℕ) (s : S) (t rest : Toks) → length t ≤ length rest → AtLeast rest (repeat piece grow k s t)
loop_least n piece grow IsP told settles k s t rest le =
    least (told_loop n piece grow (λ j s t u. Unit {0}) IsP k (λ j s x t u v lt a b. tt) told k 0 (omega arith) s t) (loop_settles piece grow settles k s t) rest le

least_then : {A B : Type 0} {rest : Toks} (f : A × Toks → Result (B × Toks) Fault) → ((x : A) (more : Toks) → length more ≤ length rest → AtLeast rest (f (x, more))) → {r : Result (A × Toks) Fault} → AtLeast rest r → AtLeast rest (r >>= f)
least_then f next is_deep = is_deep
least_then f next (reads {x = x} {more = more} le) = next x more le

abbrev one_turn : Pos → Operator → ExprTree × Toks → Result (Option (((Pos × Operator) × ExprTree) × Toks)) Fault
one_turn p o e = Ok (Some (((p, o), e.0), e.1))

module _ (n : ℕ) where
  part_settles : (t : Toks) → Settles (part_at extents.Longest n (expr_at n) t)
  unfolding part_at
  part_settles t = go (begins signs.Open t) (begins signs.Dot t)
    where
      go : (b c : Bool) → Settles {A = Option (NamePart × Toks)} (cond b (settle extents.Longest (args_at n (expr_at n) t) None (λ a. Ok (Some (Args a.0, a.1)))) (cond c (settle extents.Longest (field_at t) None (λ f. Ok (Some (Field f.0, f.1)))) (Ok None)))
      go true c = settle_none (args_at n (expr_at n) t) None (λ a. Some (Args a.0, a.1))
      go false true = settle_none (field_at t) None (λ f. Some (Field f.0, f.1))
      go false false = is_read

  turn_settles : (r : ℕ) (t : Toks) → Settles (turn_at extents.Longest (ranked_at extents.Longest n (expr_at n) r) (suc r) t)
  unfolding turn_at
  turn_settles r t = go (operator_at (suc r) t)
    where
      go : (o : Option ((Pos × Operator) × Toks)) → Settles {A = Option (((Pos × Operator) × ExprTree) × Toks)} (chosen o (Ok None) (λ o. settle extents.Longest (ranked_at extents.Longest n (expr_at n) r o.1) None (λ e. Ok (Some ((o.0, e.0), e.1)))))
      go None = is_read
      go (Some o) = settle_none (ranked_at extents.Longest n (expr_at n) r o.1) None (λ e. Some ((o.0, e.0), e.1))

  begun_settles : (x : Name) (t : Toks) → Settles (begun_at extents.Longest n (expr_at n) x t)
  unfolding begun_at
  begun_settles x t = go (begins signs.OpenBracket t)
    where
      go : (b : Bool) → Settles (cond b (settle extents.Longest (tuple_at n (expr_at n) (Some x) t) (name x, t) (λ e. Ok e)) (parts_at extents.Longest n (expr_at n) (name x) t))
      go true = settle_none (tuple_at n (expr_at n) (Some x) t) (name x, t) (λ e. e)
      go false = loop_settles (part_at extents.Longest n (expr_at n)) with_part part_settles 32 (name x) t

  parts_least : (k : ℕ) (e : ExprTree) (t rest : Toks) → length t ≤ length rest → AtLeast rest (repeat (part_at extents.Longest n (expr_at n)) with_part k e t)
  parts_least k e t rest le = loop_least (suc n) (part_at extents.Longest n (expr_at n)) with_part IsPart (part_told extents.Longest n (told_inner n)) part_settles k e t rest le

  turns_least : (r k : ℕ) (e : ExprTree) (t rest : Toks) → length t ≤ length rest → AtLeast rest (repeat (turn_at extents.Longest (ranked_at extents.Longest n (expr_at n) r) (suc r)) with_turn k e t)
  turns_least r k e t rest le = loop_least (suc n) (turn_at extents.Longest (ranked_at extents.Longest n (expr_at n) r) (suc r)) with_turn (IsTurn r) (turn_told extents.Longest n r (ranked_told extents.Longest n (told_inner n) r)) (turn_settles r) k e t rest le

  begun_least : (x : Name) (rest : Toks) → AtLeast rest (operand_at extents.Longest n (expr_at n) (name_token x ∷ rest))
  unfolding operand_at
  begun_least x rest = least (begun_told extents.Longest n (told_inner n) x rest) (begun_settles x rest) rest (omega arith)

  parted_least : {k : ℕ} {e : ExprTree} {toks rest : Toks} → IsNamed (suc k) e toks rest → StaysBelow (suc n) toks → AtLeast rest (operand_at extents.Longest n (expr_at n) toks)
  parted_least {k = k} {e = e} {rest = rest} d below =
      let few = named_few d in
      rw (parted_operand d extents.Longest n, (exact_named d extents.Longest n below).0 (31 - k) (omega arith)) (parts_least (31 - k) e rest rest (omega arith))

  named_least : {k : ℕ} {e : ExprTree} {toks rest : Toks} → IsNamed k e toks rest → StaysBelow (suc n) toks → AtLeast rest (operand_at extents.Longest n (expr_at n) toks)
  named_least (a_name {n = x} {rest = rest}) below = begun_least x rest
  named_least (with_args d a lt) below = parted_least (with_args d a lt) below
  named_least (with_field d lt) below = parted_least (with_field d lt) below

  operand_least : {e : ExprTree} {toks rest : Toks} → IsOperand e toks rest → StaysBelow (suc n) toks → AtLeast rest (operand_at extents.Longest n (expr_at n) toks)
  operand_least {e = e} {toks = toks} {rest = rest} d below = go (exact_closed d extents.Longest n below)
    where
      go : (operand_at extents.Longest n (expr_at n) toks ≡ Ok (e, rest)) ⊎ ((k : ℕ) × IsNamed k e toks rest) → AtLeast rest (operand_at extents.Longest n (expr_at n) toks)
      go (inl h) = rw h (reads {x = e} {more = rest} (omega arith))
      go (inr h) = named_least h.1 below

  no_prefix : (toks : Toks) → begins signs.Minus toks ≡ false → begins_with words.Not toks ≡ false → ranked_at extents.Longest n (expr_at n) 0 toks ≡ operand_at extents.Longest n (expr_at n) toks
  unfolding ranked_at prefixed_at
  no_prefix toks h g = rw (h, g) refl

  after_minus : (at : Pos) (m rest : Toks) → AtLeast rest (operand_at extents.Longest n (expr_at n) m) → AtLeast rest (ranked_at extents.Longest n (expr_at n) 0 (sign at signs.Minus ∷ m))
  unfolding ranked_at prefixed_at sign_at
  after_minus at m rest l = least_then (λ e. Ok (prefixed at prefixes.Minus e.0, e.1)) (λ x more le. reads le) l

  after_not : (at : Pos) (m rest : Toks) → AtLeast rest (operand_at extents.Longest n (expr_at n) m) → AtLeast rest (ranked_at extents.Longest n (expr_at n) 0 (word at words.Not ∷ m))
  unfolding ranked_at prefixed_at word_at
  after_not at m rest l = least_then (λ e. Ok (prefixed at prefixes.Not e.0, e.1)) (λ x more le. reads le) l

  after_first : (r : ℕ) (toks rest : Toks) → AtLeast rest (ranked_at extents.Longest n (expr_at n) r toks) → AtLeast rest (ranked_at extents.Longest n (expr_at n) (suc r) toks)
  unfolding ranked_at
  after_first r toks rest l = least_then _ (λ x more le. turns_least r 32 x more rest le) l

  after_turn : (r j : ℕ) (l : ExprTree) (p : Pos) (kind : TokenKind) (o : Operator) (m rest : Toks) → operator_of kind ≡ Some o → rank_of o ≡ suc r → AtLeast rest (ranked_at extents.Longest n (expr_at n) r m) → AtLeast rest (repeat (turn_at extents.Longest (ranked_at extents.Longest n (expr_at n) r) (suc r)) with_turn (suc j) l (tok p kind ∷ m))
  unfolding repeat turn_at
  after_turn r j l p kind o m rest is rank le = rw (operator_some (suc r) p kind o m is rank) (go le)
    where
      go : {x : Read ExprTree} → AtLeast rest x → AtLeast rest (settle extents.Longest x None (one_turn p o) >>= λ q. chosen q (Ok (l, tok p kind ∷ m)) (λ y. repeat (turn_at extents.Longest (ranked_at extents.Longest n (expr_at n) r) (suc r)) with_turn j (with_turn l y.0) y.1))
      go is_deep = is_deep
      go (reads {x = x} {more = more} le) = turns_least r j (with_turn l ((p, o), x)) more rest le

  mutual
    ranked_least : {r : ℕ} {e : ExprTree} {toks rest : Toks} → IsRanked r e toks rest → StaysBelow (suc n) toks → AtLeast rest (ranked_at extents.Longest n (expr_at n) r toks)
    ranked_least (is_plain {toks = toks} d) below = let u = operand_unsigned d in rw (no_prefix toks u.0 u.1) (operand_least d below)
    ranked_least (is_minus {at = at} {m = m} {rest = rest} d) below = after_minus at m rest (operand_least d below.1)
    ranked_least (is_not {at = at} {m = m} {rest = rest} d) below = after_not at m rest (operand_least d below.1)
    ranked_least (is_chain d) below = chain_least d below

    chain_least : {r k : ℕ} {e : ExprTree} {toks rest : Toks} → IsChain r k e toks rest → StaysBelow (suc n) toks → AtLeast rest (ranked_at extents.Longest n (expr_at n) (suc r) toks)
    chain_least (first {r = r} {toks = toks} {rest = rest} d) below = after_first r toks rest (ranked_least d below)
    chain_least (turn {r = r} {k = k} {l = l} {o = o} {p = p} {kind = kind} {m = m} {rest = rest} c is rank d lt) below =
        let ic = exact_chain c extents.Longest n below (turn_stops r p kind o m is rank) in
        let after = subst (λ j. StaysBelow j m) ((operator_marks kind o is).room (suc n)) ic.1.1 in
        rw (ic.0 (suc (31 - k)) (omega arith)) (after_turn r (31 - k) l p kind o m rest is rank (ranked_least d after))

  pub value_least : {e : ExprTree} {toks rest : Toks} → IsRanked 5 e toks rest → StaysBelow (suc n) toks → AtLeast rest (ranked_at extents.Longest n (expr_at n) 5 toks)
  value_least d below = ranked_least d below
