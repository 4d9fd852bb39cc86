-- What stands between two operands, and behind the argument of a prefix or a routine.
use Rattle.std.proofs.Common.{◌≡◌, ℕ, zero, suc, ◌+◌, ◌<◌, ◌≤◌, if◌then◌else◌, Bool, true, false, not, ◌&&◌, ◌||◌, List, [], ◌∷◌, ◌++◌, ℤ, pos, negsuc, ◌+ℤ◌, ◌-ℤ◌, neg_ℤ, int_le, int_lt, map, length, Option, Some, None, slice_get, refl, sym, ap, ◌∙◌, subst, arith, length-append, append_assoc, append-nil, inl}
use Rattle.std.specs.List.{filter}
use Rattle.std.proofs.lemmas.Int.{ints}
use Rattle.kernel_base.specs.declared.ends.Exc.TheVariants.{Overflow}
use Rattle.world_model.specs.Session.{Session}
use Rattle.modes.specs.declared.mode.Bounds.{Bounds}
use Rattle.modes.specs.Bounds.{natural_of}
use Rattle.checked_program.specs.declared.expr.Binary.{Binary}
use Rattle.checked_program.specs.declared.expr.Binary.TheVariants.{AndIf, OrIf, Member}
use Rattle.checked_program.specs.declared.expr.Prefix.{Prefix}
use Rattle.checked_program.specs.declared.expr.Prefix.TheVariants.{Minus, Not, Complement}
use Rattle.checked_program.specs.declared.expr.Routine.{Routine}
use Rattle.checked_program.specs.declared.expr.Routine.TheVariants.{Number, Absolute, Cardinality, Successor, Predecessor, Least, Greatest}
use Rattle.scalar_operators.specs.Numbers.{is_between, is_int, where_true, truth_number, truth_of, int_result, magnitude, comes_before, least_int, greatest_int}
use Rattle.scalar_operators.specs.Powersets.{members_of, has_member, numbers_up, offsets, first_of_list, last_of_list}
use Rattle.scalar_operators.specs.Members.{offsets_of}
use Rattle.code_types.specs.declared.instr.Instr.{Instr}
use Rattle.code_types.specs.declared.instr.Instr.TheVariants as i
use Rattle.code_types.specs.Actions.{Pushes, GoesTo, result_or, member_or_empty, truth as truth_action}
use Rattle.code_types.specs.Steps.{Run}
use Rattle.source_meaning.specs.Store.{Store}
use Rattle.source_meaning.specs.Operators.{sole_number, is_true, one, truth, Yields, yields_or, in_int, takes_second, prefix_value, member_at, routine_value}
use Rattle.source_meaning.specs.ExprMeaning.{as_computed}
use Rattle.code_scheme.specs.Pieces.{capped_number, bounds_to_test, are_same, member_code, offset_code, member_or_none, between_code, between_size, prefix_code, routine_code}
use Rattle.code_scheme.proofs.Lemmas.{capped_as}
use Rattle.follow_laws.specs.Follows.{HasAt, Around, here, Holds, GetsTo, Follows, always, HoldsWith, on_top, IsLong, run_by}
use Rattle.code_laws.specs.InRange.{AreMembers, OperandsFit}
use Rattle.code_laws.specs.OwnBounds.{lies_in}
use Rattle.follow_laws.proofs.Running.{has_front, has_back, gets_then, after, comes, makes, raises}
use Rattle.follow_laws.proofs.Instructions.{pushes_by, jumps_by, puts_on, renamed, computed_by, sole}
use Rattle.code_laws.proofs.Values.{both_true, same_int}
use Rattle.code_laws.proofs.OperatorRuns.{result_action, result_yields, truth_back, not_run, offset_in, held}

-- ---- tests that are left out

pub untested : (b : Bounds) (own : Option Bounds) (xs : List ℤ) → bounds_to_test (Some b) own ≡ None → lies_in own xs ≡ true → is_between b.low b.high (sole_number xs) ≡ true
untested b None xs e lies = absurd (let no : ⊥ = cc in no)
untested b (Some o) xs e lies = by_test (int_le b.low o.low && int_le o.high b.high) refl e
  where
    by_test : (t : Bool) → (int_le b.low o.low && int_le o.high b.high) ≡ t → (if t then None else Some b) ≡ None → is_between b.low b.high (sole_number xs) ≡ true
    by_test true is f =
        let parts = both_true (int_le b.low o.low) (int_le o.high b.high) is in
        let own = both_true (int_le o.low (sole_number xs)) (int_le (sole_number xs) o.high) lies in
        let p0 = parts.0 in
        let p1 = parts.1 in
        let q0 = own.0 in
        let q1 = own.1 in
        let low : int_le b.low (sole_number xs) ≡ true = grind (arith, ints, p0, q0) in
        let high : int_le (sole_number xs) b.high ≡ true = grind (arith, ints, p1, q1) in
        ap (λ t. t && int_le (sole_number xs) b.high) low ∙ high
    by_test false is f = absurd (let no : ⊥ = cc in no)

pub tested_is : (b : Bounds) (own : Option Bounds) (t : Bounds) → bounds_to_test (Some b) own ≡ Some t → b ≡ t
tested_is b None t e = cc
tested_is b (Some o) t e = by_test (int_le b.low o.low && int_le o.high b.high) e
  where
    by_test : (c : Bool) → (if c then None else Some b) ≡ Some t → b ≡ t
    by_test true f = absurd (let no : ⊥ = cc in no)
    by_test false f = cc

-- ---- ANDIF and ORIF

copy_one : (w : Around) (x : ℤ) (at : ℕ) (base locals : List ℤ) (s : Session) → slice_get w.code.instrs at ≡ Some (i.Copy 1)
    → GetsTo w.code (here w at (base ++ one x) locals s) (here w (at + 1) ((base ++ one x) ++ one x) locals s)
copy_one w x at base locals s has =
    gets_then (pushes_by w (i.Copy 1) at base (one x) locals s (x ∷ x ∷ []) has refl refl)
    (renamed w (at + 1) (at + 1) (base ++ (x ∷ x ∷ [])) ((base ++ one x) ++ one x) locals s refl (sym (append_assoc base (one x) (one x))))

pub unless_run : (w : Around) (x : ℤ) (b : Bool) (to at : ℕ) (base locals : List ℤ) (s : Session) → truth_of x ≡ b → slice_get w.code.instrs at ≡ Some (i.Unless to)
    → GetsTo w.code (here w at (base ++ one x) locals s) (here w (if b then at + 1 else to) base locals s)
unless_run w x b to at base locals s is has = jumps_by w (i.Unless to) at base (one x) locals s (if b then at + 1 else to) has refl (ap (λ (c : Bool). GoesTo (if c then at + 1 else to)) is)

pub pop_run : (w : Around) (xs : List ℤ) (n at : ℕ) (base locals : List ℤ) (s : Session) → n ≡ length xs → slice_get w.code.instrs at ≡ Some (i.Pop n)
    → GetsTo w.code (here w at (base ++ xs) locals s) (here w (at + 1) base locals s)
pop_run w xs n at base locals s e has =
    gets_then (pushes_by w (i.Pop n) at base xs locals s [] has e refl) (renamed w (at + 1) (at + 1) (base ++ []) base locals s refl (append-nil base))

-- the jump by a copy of the number on top
jumps_by_copy : (w : Around) (x : ℤ) (b : Bool) (to at : ℕ) (base locals : List ℤ) (s : Session) → truth_of x ≡ b → slice_get w.code.instrs at ≡ Some (i.Copy 1) → slice_get w.code.instrs (at + 1) ≡ Some (i.Unless to)
    → GetsTo w.code (here w at (base ++ one x) locals s) (here w (if b then at + 1 + 1 else to) (base ++ one x) locals s)
jumps_by_copy w x b to at base locals s is copy unless = gets_then (copy_one w x at base locals s copy) (unless_run w x b to (at + 1) (base ++ one x) locals s is unless)

and_on : (w : Around) (x : ℤ) (second at : ℕ) (base locals : List ℤ) (s : Session) → truth_of x ≡ true → HasAt w.code.instrs at (between_code AndIf None at second)
    → GetsTo w.code (here w at (base ++ one x) locals s) (here w (at + 3) base locals s)
and_on w x second at base locals s is has =
    gets_then (jumps_by_copy w x true (at + (second + 3)) at base locals s is has.0 has.1.0)
    (gets_then (pop_run w (one x) 1 (at + 1 + 1) base locals s refl has.1.1.0)
    (renamed w (at + 1 + 1 + 1) (at + 3) base base locals s (omega arith) refl))

and_over : (w : Around) (x : ℤ) (second at : ℕ) (base locals : List ℤ) (s : Session) → truth_of x ≡ false → HasAt w.code.instrs at (between_code AndIf None at second)
    → GetsTo w.code (here w at (base ++ one x) locals s) (here w (at + (second + 3)) (base ++ one x) locals s)
and_over w x second at base locals s is has = jumps_by_copy w x false (at + (second + 3)) at base locals s is has.0 has.1.0

or_on : (w : Around) (x : ℤ) (second at : ℕ) (base locals : List ℤ) (s : Session) → truth_of x ≡ false → HasAt w.code.instrs at (between_code OrIf None at second)
    → GetsTo w.code (here w at (base ++ one x) locals s) (here w (at + 4) base locals s)
or_on w x second at base locals s is has =
    let there : at + 1 + 1 + 1 ≡ at + 3 = omega arith in
    gets_then (jumps_by_copy w x false (at + 3) at base locals s is has.0 has.1.0)
    (gets_then (pop_run w (one x) 1 (at + 3) base locals s refl (subst (λ (p : ℕ). slice_get w.code.instrs p ≡ Some (i.Pop 1)) there has.1.1.1.0))
    (renamed w (at + 3 + 1) (at + 4) base base locals s (omega arith) refl))

or_over : (w : Around) (x : ℤ) (second at : ℕ) (base locals : List ℤ) (s : Session) → truth_of x ≡ true → HasAt w.code.instrs at (between_code OrIf None at second)
    → GetsTo w.code (here w at (base ++ one x) locals s) (here w (at + (second + 4)) (base ++ one x) locals s)
or_over w x second at base locals s is has =
    gets_then (jumps_by_copy w x true (at + 3) at base locals s is has.0 has.1.0)
    (gets_then (renamed w (at + 1 + 1) (at + 1 + 1) (base ++ one x) ((base ++ one x) ++ []) locals s refl (sym (append-nil (base ++ one x))))
    (jumps_by w (i.Jump (at + (second + 4))) (at + 1 + 1) (base ++ one x) [] locals s (at + (second + 4)) has.1.1.0 refl refl))

-- ---- IN

pub result_int : (z : ℤ) → is_int z ≡ true → int_result z ≡ Some z
result_int z e = ap (λ b. where_true b z) e

minus_none : (z low : ℤ) → low ≡ pos 0 → z ≡ z -ℤ low
minus_none z low e = omega (arith, ints, e)

pub offset_run : (w : Around) (low z : ℤ) (at : ℕ) (base locals : List ℤ) (s : Session) → is_int (z -ℤ low) ≡ true → HasAt w.code.instrs at (offset_code low)
    → GetsTo w.code (here w at (base ++ one z) locals s) (here w (at + length (offset_code low)) (base ++ one (z -ℤ low)) locals s)
offset_run w low z at base locals s inside has = by_zero (are_same low (pos 0)) refl has
  where
    by_zero : (t : Bool) → are_same low (pos 0) ≡ t → HasAt w.code.instrs at (if t then [] else i.Push low ∷ i.Sub ∷ []) → GetsTo w.code (here w at (base ++ one z) locals s) (here w (at + length (if t then [] else i.Push low ∷ i.Sub ∷ [])) (base ++ one (z -ℤ low)) locals s)
    by_zero true is h = renamed w at (at + 0) (base ++ one z) (base ++ one (z -ℤ low)) locals s (let e : at ≡ at + 0 = omega arith in e) (ap (λ (k : ℤ). base ++ one k) (minus_none z low (same_int low (pos 0) is)))
    by_zero false is h =
        gets_then (puts_on w (i.Push low) at (base ++ one z) locals s (one low) h.0 refl refl)
        (gets_then (renamed w (at + 1) (at + 1) ((base ++ one z) ++ one low) (base ++ (z ∷ low ∷ [])) locals s refl (append_assoc base (one z) (one low)))
        (gets_then (pushes_by w i.Sub (at + 1) base (z ∷ low ∷ []) locals s (one (z -ℤ low)) h.1.0 refl (ap (result_or Overflow) (result_int (z -ℤ low) inside)))
        (renamed w (at + 1 + 1) (at + 2) (base ++ one (z -ℤ low)) (base ++ one (z -ℤ low)) locals s (omega arith) refl)))

-- the number on top is no member, by the two comparisons
abbrev outside : Bounds → ℤ → Bool
outside b x = if comes_before (one x) (one b.low) then true else not (comes_before (one x) (one (b.high +ℤ pos 1)))

outside_is : (b : Bounds) (x : ℤ) → outside b x ≡ not (is_between b.low b.high x)
outside_is b x = by_tests (int_lt x b.low) (int_le x b.low) (int_lt x (b.high +ℤ pos 1)) (int_le x (b.high +ℤ pos 1)) (int_le b.low x) (int_le x b.high) (let e : int_lt x b.low ≡ not (int_le b.low x) = grind (arith, ints) in e) (let e : int_lt x (b.high +ℤ pos 1) ≡ int_le x b.high = grind (arith, ints) in e)
  where
    by_tests : (p q r u m n : Bool) → p ≡ not m → r ≡ n → (if (p || (q && false)) then true else not (r || (u && false))) ≡ not (m && n)
    by_tests true true r u true n e f = absurd (let no : ⊥ = cc in no)
    by_tests true false r u true n e f = absurd (let no : ⊥ = cc in no)
    by_tests true q r u false n e f = refl
    by_tests false true r u false n e f = absurd (let no : ⊥ = cc in no)
    by_tests false false r u false n e f = absurd (let no : ⊥ = cc in no)
    by_tests false true true u true true e f = refl
    by_tests false true false true true true e f = absurd (let no : ⊥ = cc in no)
    by_tests false true false false true true e f = absurd (let no : ⊥ = cc in no)
    by_tests false true true u true false e f = absurd (let no : ⊥ = cc in no)
    by_tests false true false true true false e f = refl
    by_tests false true false false true false e f = refl
    by_tests false false true u true true e f = refl
    by_tests false false false true true true e f = absurd (let no : ⊥ = cc in no)
    by_tests false false false false true true e f = absurd (let no : ⊥ = cc in no)
    by_tests false false true u true false e f = absurd (let no : ⊥ = cc in no)
    by_tests false false false true true false e f = refl
    by_tests false false false false true false e f = refl

-- a member, or 32 above the least one
abbrev pub member_or_far : Bounds → ℤ → ℤ
member_or_far b x = if not (is_between b.low b.high x) then b.low +ℤ pos 32 else x

-- the test with the two numbers as they are: those of members fit
abbrev far_code : Bounds → ℕ → List Instr
far_code b at =
    i.Copy 1 ∷ i.Push b.low ∷ i.Less 1 ∷ i.Copy 2 ∷ i.Pop 1 ∷ i.Push (b.high +ℤ pos 1) ∷ i.Less 1 ∷ i.Not ∷ i.Or ∷ i.Unless (at + 12) ∷ i.Pop 1 ∷ i.Push (b.low +ℤ pos 32) ∷ []

far_code_is : (b : Bounds) (at : ℕ) → AreMembers b → member_or_none (Some b) at ≡ far_code b at
far_code_is b at are =
    let low = (both_true (int_le least_int b.low) (int_le b.low greatest_int) are.0.0).1 in
    let high = (both_true (int_le least_int b.high) (int_le b.high greatest_int) are.0.1).1 in
    let above : capped_number (b.high +ℤ pos 1) ≡ b.high +ℤ pos 1 = capped_as (b.high +ℤ pos 1) (grind (arith, ints, high)) in
    let far : capped_number (b.low +ℤ pos 32) ≡ b.low +ℤ pos 32 = capped_as (b.low +ℤ pos 32) (grind (arith, ints, low)) in
    ap (λ (k : ℤ). i.Copy 1 ∷ i.Push b.low ∷ i.Less 1 ∷ i.Copy 2 ∷ i.Pop 1 ∷ i.Push k ∷ i.Less 1 ∷ i.Not ∷ i.Or ∷ i.Unless (at + 12) ∷ i.Pop 1 ∷ i.Push (capped_number (b.low +ℤ pos 32)) ∷ []) above
    ∙ ap (λ (k : ℤ). i.Copy 1 ∷ i.Push b.low ∷ i.Less 1 ∷ i.Copy 2 ∷ i.Pop 1 ∷ i.Push (b.high +ℤ pos 1) ∷ i.Less 1 ∷ i.Not ∷ i.Or ∷ i.Unless (at + 12) ∷ i.Pop 1 ∷ i.Push k ∷ []) far

none_run : (w : Around) (b : Bounds) (x : ℤ) (at : ℕ) (base locals : List ℤ) (s : Session) → HasAt w.code.instrs at (far_code b at)
    → GetsTo w.code (here w at (base ++ one x) locals s) (here w (at + 12) (base ++ one (member_or_far b x)) locals s)
none_run w b x at base locals s has =
    let c1 : Bool = comes_before (one x) (one b.low) in
    let c2 : Bool = comes_before (one x) (one (b.high +ℤ pos 1)) in
    let t1 : ℤ = truth_number c1 in
    let t3 : ℤ = truth_number (not c2) in
    let o : Bool = outside b x in
    let p9 : ℕ = at + 1 + 1 + 1 + 1 + 1 + 1 + 1 + 1 + 1 in
    let bx : List ℤ = base ++ one x in
    gets_then (copy_one w x at base locals s has.0)
    (gets_then (puts_on w (i.Push b.low) (at + 1) (bx ++ one x) locals s (one b.low) has.1.0 refl refl)
    (gets_then (renamed w (at + 1 + 1) (at + 1 + 1) ((bx ++ one x) ++ one b.low) (bx ++ (x ∷ b.low ∷ [])) locals s refl (append_assoc bx (one x) (one b.low)))
    (gets_then (pushes_by w (i.Less 1) (at + 1 + 1) bx (x ∷ b.low ∷ []) locals s (one t1) has.1.1.0 refl refl)
    (gets_then (renamed w (at + 1 + 1 + 1) (at + 1 + 1 + 1) (bx ++ one t1) (base ++ (x ∷ t1 ∷ [])) locals s refl (append_assoc base (one x) (one t1)))
    (gets_then (pushes_by w (i.Copy 2) (at + 1 + 1 + 1) base (x ∷ t1 ∷ []) locals s (x ∷ t1 ∷ x ∷ t1 ∷ []) has.1.1.1.0 refl refl)
    (gets_then (renamed w (at + 1 + 1 + 1 + 1) (at + 1 + 1 + 1 + 1) (base ++ (x ∷ t1 ∷ x ∷ t1 ∷ [])) ((base ++ (x ∷ t1 ∷ x ∷ [])) ++ one t1) locals s refl (sym (append_assoc base (x ∷ t1 ∷ x ∷ []) (one t1))))
    (gets_then (pop_run w (one t1) 1 (at + 1 + 1 + 1 + 1) (base ++ (x ∷ t1 ∷ x ∷ [])) locals s refl has.1.1.1.1.0)
    (gets_then (puts_on w (i.Push (b.high +ℤ pos 1)) (at + 1 + 1 + 1 + 1 + 1) (base ++ (x ∷ t1 ∷ x ∷ [])) locals s (one (b.high +ℤ pos 1)) has.1.1.1.1.1.0 refl refl)
    (gets_then (renamed w (at + 1 + 1 + 1 + 1 + 1 + 1) (at + 1 + 1 + 1 + 1 + 1 + 1) ((base ++ (x ∷ t1 ∷ x ∷ [])) ++ one (b.high +ℤ pos 1)) ((base ++ (x ∷ t1 ∷ [])) ++ (x ∷ (b.high +ℤ pos 1) ∷ [])) locals s refl (append_assoc base (x ∷ t1 ∷ x ∷ []) (one (b.high +ℤ pos 1)) ∙ sym (append_assoc base (x ∷ t1 ∷ []) (x ∷ (b.high +ℤ pos 1) ∷ []))))
    (gets_then (pushes_by w (i.Less 1) (at + 1 + 1 + 1 + 1 + 1 + 1) (base ++ (x ∷ t1 ∷ [])) (x ∷ (b.high +ℤ pos 1) ∷ []) locals s (truth c2) has.1.1.1.1.1.1.0 refl refl)
    (gets_then (not_run w c2 (at + 1 + 1 + 1 + 1 + 1 + 1 + 1) (base ++ (x ∷ t1 ∷ [])) locals s has.1.1.1.1.1.1.1.0)
    (gets_then (renamed w (at + 1 + 1 + 1 + 1 + 1 + 1 + 1 + 1) (at + 1 + 1 + 1 + 1 + 1 + 1 + 1 + 1) ((base ++ (x ∷ t1 ∷ [])) ++ truth (not c2)) (bx ++ (t1 ∷ t3 ∷ [])) locals s refl (append_assoc base (x ∷ t1 ∷ []) (truth (not c2)) ∙ sym (append_assoc base (one x) (t1 ∷ t3 ∷ []))))
    (gets_then (pushes_by w i.Or (at + 1 + 1 + 1 + 1 + 1 + 1 + 1 + 1) bx (t1 ∷ t3 ∷ []) locals s (truth o) has.1.1.1.1.1.1.1.1.0 refl (ap (λ (c : Bool). truth_action (if c then true else truth_of t3)) (truth_back c1) ∙ ap (λ (c : Bool). truth_action (if c1 then true else c)) (truth_back (not c2))))
    (gets_then (unless_run w (truth_number o) o (at + 12) p9 bx locals s (truth_back o) has.1.1.1.1.1.1.1.1.1.0)
    (lands_by o (ap (λ (c : Bool). if c then b.low +ℤ pos 32 else x) (outside_is b x)) has.1.1.1.1.1.1.1.1.1.1)))))))))))))))
  where
    lands_by : (o : Bool) → (if o then b.low +ℤ pos 32 else x) ≡ member_or_far b x → HasAt w.code.instrs (at + 1 + 1 + 1 + 1 + 1 + 1 + 1 + 1 + 1 + 1) (i.Pop 1 ∷ i.Push (b.low +ℤ pos 32) ∷ [])
        → GetsTo w.code (here w (if o then at + 1 + 1 + 1 + 1 + 1 + 1 + 1 + 1 + 1 + 1 else at + 12) (base ++ one x) locals s) (here w (at + 12) (base ++ one (member_or_far b x)) locals s)
    lands_by true e h =
        let p : ℕ = at + 1 + 1 + 1 + 1 + 1 + 1 + 1 + 1 + 1 + 1 in
        gets_then (pop_run w (one x) 1 p base locals s refl h.0)
        (gets_then (puts_on w (i.Push (b.low +ℤ pos 32)) (p + 1) base locals s (one (b.low +ℤ pos 32)) h.1.0 refl refl)
        (renamed w (p + 1 + 1) (at + 12) (base ++ one (b.low +ℤ pos 32)) (base ++ one (member_or_far b x)) locals s (omega arith) (ap (λ (k : ℤ). base ++ one k) e)))
    lands_by false e h = renamed w (at + 12) (at + 12) (base ++ one x) (base ++ one (member_or_far b x)) locals s refl (ap (λ (k : ℤ). base ++ one k) e)

pub both_yes : (a b : Bool) → a ≡ true → b ≡ true → (a && b) ≡ true
both_yes a b e f = ap (λ (t : Bool). t && b) e ∙ f

natural_is : (z : ℤ) → int_le (pos 0) z ≡ true → pos (natural_of z) ≡ z
natural_is (pos n) e = refl
natural_is (negsuc n) e = absurd (let no : ⊥ = cc in no)

-- the offset of a member lies in INT
member_fits : (b : Bounds) (x : ℤ) → AreMembers b → is_between b.low b.high x ≡ true → is_int (x -ℤ b.low) ≡ true
member_fits b x are inside =
    let parts = both_true (int_le b.low x) (int_le x b.high) inside in
    let above = parts.0 in
    let below = parts.1 in
    let q : ℤ = b.high -ℤ b.low +ℤ pos 1 in
    let q_positive : int_le (pos 0) q ≡ true = grind (arith, ints, above, below) in
    let n : ℕ = natural_of q in
    let n_is : pos n ≡ b.high -ℤ b.low +ℤ pos 1 = natural_is q q_positive in
    let few : n ≤ 32 = omega (arith, are.2) in
    let low : int_le least_int (x -ℤ b.low) ≡ true = grind (arith, ints, above) in
    let high : int_le (x -ℤ b.low) greatest_int ≡ true = grind (arith, ints, below, n_is, few) in
    both_yes (int_le least_int (x -ℤ b.low)) (int_le (x -ℤ b.low) greatest_int) low high

far_is : (low : ℤ) → low +ℤ pos 32 -ℤ low ≡ pos 32
far_is low = omega (arith, ints)

-- the offset of what member_or_far gives
far_offset : (b : Bounds) (x : ℤ) → AreMembers b → (is_int (member_or_far b x -ℤ b.low) ≡ true) × (member_or_far b x -ℤ b.low ≡ offset_in b x)
far_offset b x are = by_between (is_between b.low b.high x) refl
  where
    by_between : (t : Bool) → is_between b.low b.high x ≡ t → (is_int ((if not t then b.low +ℤ pos 32 else x) -ℤ b.low) ≡ true) × ((if not t then b.low +ℤ pos 32 else x) -ℤ b.low ≡ (if t then x -ℤ b.low else pos 32))
    by_between true is = (member_fits b x are is, refl)
    by_between false is = (ap is_int (far_is b.low), far_is b.low)

inside_offset : (b : Bounds) (x : ℤ) → is_between b.low b.high x ≡ true → x -ℤ b.low ≡ offset_in b x
inside_offset b x is = sym (ap (λ (t : Bool). if t then x -ℤ b.low else pos 32) is)

-- the offset of a number that may be a member
in_run : (w : Around) (b : Bounds) (own : Option Bounds) (x : ℤ) (at : ℕ) (base locals : List ℤ) (s : Session)
    → AreMembers b → lies_in own (one x) ≡ true
    → HasAt w.code.instrs at (between_code (Member b) own at 0)
    → GetsTo w.code (here w at (base ++ one x) locals s) (here w (at + between_size (Member b) own) (base ++ one (offset_in b x)) locals s)
in_run w b own x at base locals s are lies has = by_test (bounds_to_test (Some b) own) refl has
  where
    by_test : (t : Option Bounds) → bounds_to_test (Some b) own ≡ t → HasAt w.code.instrs at (member_or_none t at ++ offset_code b.low)
        → GetsTo w.code (here w at (base ++ one x) locals s) (here w (at + length (member_or_none t 0 ++ offset_code b.low)) (base ++ one (offset_in b x)) locals s)
    by_test None is h =
        let inside : is_between b.low b.high x ≡ true = untested b own (one x) is lies in
        gets_then (offset_run w b.low x at base locals s (member_fits b x are inside) h)
        (renamed w (at + length (offset_code b.low)) (at + length (offset_code b.low)) (base ++ one (x -ℤ b.low)) (base ++ one (offset_in b x)) locals s refl (ap (λ (k : ℤ). base ++ one k) (inside_offset b x inside)))
    by_test (Some t) is h =
        let same : b ≡ t = tested_is b own t is in
        let h2 : HasAt w.code.instrs at (member_or_none (Some b) at ++ offset_code b.low) = subst (λ (c : Bounds). HasAt w.code.instrs at (member_or_none (Some c) at ++ offset_code b.low)) (sym same) h in
        let far = far_offset b x are in
        gets_then (none_run w b x at base locals s (subst (λ (is : List Instr). HasAt w.code.instrs at is) (far_code_is b at are) (has_front w.code.instrs at (member_or_none (Some b) at) (offset_code b.low) h2)))
        (gets_then (offset_run w b.low (member_or_far b x) (at + 12) base locals s far.0 (has_back w.code.instrs at (at + 12) (member_or_none (Some b) at) (offset_code b.low) refl h2))
        (renamed w (at + 12 + length (offset_code b.low)) (at + length (member_or_none (Some t) 0 ++ offset_code b.low)) (base ++ one (member_or_far b x -ℤ b.low)) (base ++ one (offset_in b x)) locals s (omega (arith, length-append (member_or_none (Some t) 0) (offset_code b.low))) (ap (λ (k : ℤ). base ++ one k) far.1)))

-- ---- between

sole_in : (w : Around) (xs : List ℤ) (at : ℕ) (base locals : List ℤ) (s : Session) (m : Run) → length xs ≡ 1 → GetsTo w.code (here w at (base ++ one (sole_number xs)) locals s) m → GetsTo w.code (here w at (base ++ xs) locals s) m
sole_in w xs at base locals s m e r = subst (λ (l : List ℤ). GetsTo w.code (here w at (base ++ l) locals s) m) (sym (sole xs e)) r

not_not : (b : Bool) → not b ≡ true → b ≡ false
not_not true e = absurd (let no : ⊥ = cc in no)
not_not false e = refl

not_false : (b : Bool) → not b ≡ false → b ≡ true
not_false true e = refl
not_false false e = absurd (let no : ⊥ = cc in no)

-- What stands between two operands, where the second is evaluated.
pub between_runs : (w : Around) (o : Binary) (own : Option Bounds) (n : ℕ) (xs : List ℤ) (second at : ℕ) (base locals : List ℤ) (s : Session)
    → OperandsFit o (length xs) n → takes_second o xs ≡ true → lies_in own xs ≡ true
    → HasAt w.code.instrs at (between_code o own at second)
    → GetsTo w.code (here w at (base ++ xs) locals s) (here w (at + between_size o own) (base ++ held o xs) locals s)
between_runs w AndIf own n xs second at base locals s fits takes lies has =
    sole_in w xs at base locals s (here w (at + 3) (base ++ []) locals s) fits.0
    (gets_then (and_on w (sole_number xs) second at base locals s takes has) (renamed w (at + 3) (at + 3) base (base ++ []) locals s refl (sym (append-nil base))))
between_runs w OrIf own n xs second at base locals s fits takes lies has =
    sole_in w xs at base locals s (here w (at + 4) (base ++ []) locals s) fits.0
    (gets_then (or_on w (sole_number xs) second at base locals s (not_not (is_true xs) takes) has) (renamed w (at + 4) (at + 4) base (base ++ []) locals s refl (sym (append-nil base))))
between_runs w (Member b) own n xs second at base locals s fits takes lies has =
    sole_in w xs at base locals s (here w (at + between_size (Member b) own) (base ++ one (offset_in b (sole_number xs))) locals s) fits.1
    (in_run w b own (sole_number xs) at base locals s fits.0 (subst (λ (l : List ℤ). lies_in own l ≡ true) (sole xs fits.1) lies) has)
between_runs w o own n xs second at base locals s fits takes lies has = renamed w at (at + 0) (base ++ xs) (base ++ xs) locals s (let e : at ≡ at + 0 = omega arith in e) refl

-- What stands between them, where the first decides the whole.
pub over_runs : (w : Around) (o : Binary) (own : Option Bounds) (n : ℕ) (xs : List ℤ) (second at to : ℕ) (base locals : List ℤ) (s : Session)
    → OperandsFit o (length xs) n → takes_second o xs ≡ false → at + (between_size o own + second) ≡ to
    → HasAt w.code.instrs at (between_code o own at second)
    → GetsTo w.code (here w at (base ++ xs) locals s) (here w to (base ++ xs) locals s)
over_runs w AndIf own n xs second at to base locals s fits takes e has =
    subst (λ (l : List ℤ). GetsTo w.code (here w at (base ++ l) locals s) (here w to (base ++ l) locals s)) (sym (sole xs fits.0))
    (gets_then (and_over w (sole_number xs) second at base locals s takes has) (renamed w (at + (second + 3)) to (base ++ one (sole_number xs)) (base ++ one (sole_number xs)) locals s (omega arith) refl))
over_runs w OrIf own n xs second at to base locals s fits takes e has =
    subst (λ (l : List ℤ). GetsTo w.code (here w at (base ++ l) locals s) (here w to (base ++ l) locals s)) (sym (sole xs fits.0))
    (gets_then (or_over w (sole_number xs) second at base locals s (not_false (is_true xs) takes) has) (renamed w (at + (second + 4)) to (base ++ one (sole_number xs)) (base ++ one (sole_number xs)) locals s (omega arith) refl))
over_runs w o own n xs second at to base locals s fits takes e has = absurd (let no : ⊥ = cc in no)

-- ---- prefixes and routines

pub prefix_runs : (w : Around) (o : Prefix) (xs : List ℤ) (at to lo hi : ℕ) (base locals : List ℤ) (store : Store) (s : Session)
    → length xs ≡ 1 → HasAt w.code.instrs at (prefix_code o) → at + 1 ≡ to → lo ≤ at → at < hi → Holds w store locals
    → Follows w (here w at (base ++ xs) locals s) lo hi [] (always to) (on_top base) (HoldsWith w (IsLong 1)) (as_computed (prefix_value o xs) store s)
prefix_runs w o xs at to lo hi base locals store s long has e low high h =
    subst (λ (l : List ℤ). Follows w (here w at (base ++ l) locals s) lo hi [] (always to) (on_top base) (HoldsWith w (IsLong 1)) (as_computed (prefix_value o l) store s)) (sym (sole xs long)) (on_one o (sole_number xs) has)
  where
    on_one : (o : Prefix) (x : ℤ) → HasAt w.code.instrs at (prefix_code o) → Follows w (here w at (base ++ one x) locals s) lo hi [] (always to) (on_top base) (HoldsWith w (IsLong 1)) (as_computed (prefix_value o (one x)) store s)
    on_one Minus x is = computed_by w i.Neg (prefix_value Minus (one x)) (IsLong 1) at to lo hi [] base (one x) locals store s is.0 refl (result_action Overflow (int_result (neg_ℤ x))) (result_yields Overflow refl (int_result (neg_ℤ x))) e low high (λ z. refl) h
    on_one Not x is = computed_by w i.Not (prefix_value Not (one x)) (IsLong 1) at to lo hi [] base (one x) locals store s is.0 refl refl refl e low high (λ z. refl) h
    on_one (Complement m) x is = computed_by w (i.BitNot m) (prefix_value (Complement m) (one x)) (IsLong 1) at to lo hi [] base (one x) locals store s is.0 refl refl refl e low high (λ z. refl) h

-- the offsets of the members of one number
shifted : (ks : List ℕ) → map (λ k. 0 + k) ks ++ [] ≡ ks
shifted [] = refl
shifted (k ∷ ks) = ap (λ (j : ℕ). j ∷ (map (λ k. 0 + k) ks ++ [])) (let e : 0 + k ≡ k = omega arith in e) ∙ ap (λ (l : List ℕ). k ∷ l) (shifted ks)

pub offsets_of_one : (x : ℤ) → offsets_of (one x) ≡ members_of x
offsets_of_one x = shifted (members_of x)

-- offsets are below 32
abbrev AreBelow : ℕ → List ℕ → Type 0
AreBelow n [] = Unit {0}
AreBelow n (k ∷ ks) = (k < n) × AreBelow n ks

up_below : (k count n : ℕ) → k + count ≤ n → AreBelow n (numbers_up k count)
up_below k zero n e = tt
up_below k (suc count) n e = (omega arith, up_below (suc k) count n (omega arith))

keep_below : (t : Bool) (k n : ℕ) (ks : List ℕ) → k < n → AreBelow n ks → AreBelow n (if t then k ∷ ks else ks)
keep_below true k n ks e h = (e, h)
keep_below false k n ks e h = h

filter_below : (f : ℕ → Bool) (ks : List ℕ) (n : ℕ) → AreBelow n ks → AreBelow n (filter f ks)
filter_below f [] n h = tt
filter_below f (k ∷ ks) n h = keep_below (f k) k n (filter f ks) h.0 (filter_below f ks n h.1)

pub members_below : (x : ℤ) → AreBelow 32 (members_of x)
members_below x = filter_below (has_member x) offsets 32 (up_below 0 32 32 (omega arith))

pub first_below : (ks : List ℕ) (n k : ℕ) → AreBelow n ks → first_of_list ks ≡ Some k → k < n
first_below [] n k h e = absurd (let no : ⊥ = cc in no)
first_below (j ∷ ks) n k h e = let same : j ≡ k = cc in subst (λ (m : ℕ). m < n) same h.0

last_below : (ks : List ℕ) (n k : ℕ) → AreBelow n ks → last_of_list ks ≡ Some k → k < n
last_below [] n k h e = absurd (let no : ⊥ = cc in no)
last_below (j ∷ []) n k h e = let same : j ≡ k = cc in subst (λ (m : ℕ). m < n) same h.0
last_below (j ∷ l ∷ ks) n k h e = last_below (l ∷ ks) n k h.1 e

-- the member of an offset
pub plus_run : (w : Around) (low z : ℤ) (at : ℕ) (base locals : List ℤ) (s : Session) → is_int (z +ℤ low) ≡ true → HasAt w.code.instrs at (member_code low)
    → GetsTo w.code (here w at (base ++ one z) locals s) (here w (at + length (member_code low)) (base ++ one (z +ℤ low)) locals s)
plus_run w low z at base locals s inside has = by_zero (are_same low (pos 0)) refl has
  where
    plus_none : low ≡ pos 0 → z ≡ z +ℤ low
    plus_none e = omega (arith, ints, e)

    by_zero : (t : Bool) → are_same low (pos 0) ≡ t → HasAt w.code.instrs at (if t then [] else i.Push low ∷ i.Add ∷ []) → GetsTo w.code (here w at (base ++ one z) locals s) (here w (at + length (if t then [] else i.Push low ∷ i.Add ∷ [])) (base ++ one (z +ℤ low)) locals s)
    by_zero true is h = renamed w at (at + 0) (base ++ one z) (base ++ one (z +ℤ low)) locals s (let e : at ≡ at + 0 = omega arith in e) (ap (λ (k : ℤ). base ++ one k) (plus_none (same_int low (pos 0) is)))
    by_zero false is h =
        gets_then (puts_on w (i.Push low) at (base ++ one z) locals s (one low) h.0 refl refl)
        (gets_then (renamed w (at + 1) (at + 1) ((base ++ one z) ++ one low) (base ++ (z ∷ low ∷ [])) locals s refl (append_assoc base (one z) (one low)))
        (gets_then (pushes_by w i.Add (at + 1) base (z ∷ low ∷ []) locals s (one (z +ℤ low)) h.1.0 refl (ap (result_or Overflow) (result_int (z +ℤ low) inside)))
        (renamed w (at + 1 + 1) (at + 2) (base ++ one (z +ℤ low)) (base ++ one (z +ℤ low)) locals s (omega arith) refl)))

-- it may lie outside INT
pub member_follows : (w : Around) (low : ℤ) (k at to lo hi : ℕ) (base locals : List ℤ) (store : Store) (s : Session)
    → k < 32 → HasAt w.code.instrs at (member_code low) → at + length (member_code low) ≡ to → lo ≤ at → to ≤ hi → Holds w store locals
    → Follows w (here w at (base ++ one (pos k)) locals s) lo hi [] (always to) (on_top base) (HoldsWith w (IsLong 1)) (as_computed (in_int (pos k +ℤ low)) store s)
member_follows w low k at to lo hi base locals store s small has e l u h = by_zero (are_same low (pos 0)) refl has e
  where
    z : ℤ
    z = pos k

    small_int : is_int (pos k) ≡ true
    small_int =
        let low2 : int_le least_int (pos k) ≡ true = grind (arith, ints) in
        let high2 : int_le (pos k) greatest_int ≡ true = grind (arith, ints, small) in
        both_yes (int_le least_int (pos k)) (int_le (pos k) greatest_int) low2 high2

    plus_none : low ≡ pos 0 → pos k +ℤ low ≡ pos k
    plus_none e2 = omega (arith, ints, e2)

    by_zero : (t : Bool) → are_same low (pos 0) ≡ t → HasAt w.code.instrs at (if t then [] else i.Push low ∷ i.Add ∷ []) → at + length (if t then [] else i.Push low ∷ i.Add ∷ []) ≡ to
        → Follows w (here w at (base ++ one (pos k)) locals s) lo hi [] (always to) (on_top base) (HoldsWith w (IsLong 1)) (as_computed (in_int (pos k +ℤ low)) store s)
    by_zero true is h2 e2 =
        subst (λ c. Follows w (here w at (base ++ one (pos k)) locals s) lo hi [] (always to) (on_top base) (HoldsWith w (IsLong 1)) (as_computed c store s))
        (sym (ap in_int (plus_none (same_int low (pos 0) is)) ∙ ap (yields_or Overflow) (result_int (pos k) small_int)))
        (comes {v = one (pos k)} (let e3 : at ≡ to = omega arith in e3) refl (refl, h))
    by_zero false is h2 e2 =
        after (puts_on w (i.Push low) at (base ++ one (pos k)) locals s (one low) h2.0 refl refl)
        (after (renamed w (at + 1) (at + 1) ((base ++ one (pos k)) ++ one low) (base ++ (pos k ∷ low ∷ [])) locals s refl (append_assoc base (one (pos k)) (one low)))
        (computed_by w i.Add (in_int (pos k +ℤ low)) (IsLong 1) (at + 1) to lo hi [] base (pos k ∷ low ∷ []) locals store s h2.1.0 refl (result_action Overflow (int_result (pos k +ℤ low))) (result_yields Overflow refl (int_result (pos k +ℤ low))) (omega arith) (omega arith) (omega arith) (λ y. refl) h))

-- the member of an offset that there may be
found_follows : (w : Around) (low : ℤ) (o : Option ℕ) (at to lo hi : ℕ) (stack base locals : List ℤ) (store : Store) (s : Session)
    → ((k : ℕ) → o ≡ Some k → k < 32) → HasAt w.code.instrs (at + 1) (member_code low) → at + 1 + length (member_code low) ≡ to → lo ≤ at → at < hi → to ≤ hi → Holds w store locals
    → Follows w (run_by w at stack base locals s (member_or_empty o)) lo hi [] (always to) (on_top base) (HoldsWith w (IsLong 1)) (as_computed (member_at low o) store s)
found_follows w low None at to lo hi stack base locals store s small has e l u t h = raises (inl refl) l u refl h
found_follows w low (Some k) at to lo hi stack base locals store s small has e l u t h = member_follows w low k (at + 1) to lo hi base locals store s (small k refl) has e (omega arith) t h

pub routine_runs : (w : Around) (r : Routine) (xs : List ℤ) (at to lo hi : ℕ) (base locals : List ℤ) (store : Store) (s : Session)
    → length xs ≡ 1 → HasAt w.code.instrs at (routine_code r) → at + length (routine_code r) ≡ to → lo ≤ at → to ≤ hi → Holds w store locals
    → Follows w (here w at (base ++ xs) locals s) lo hi [] (always to) (on_top base) (HoldsWith w (IsLong 1)) (as_computed (routine_value r xs) store s)
routine_runs w r xs at to lo hi base locals store s long has e low high h =
    subst (λ (l : List ℤ). Follows w (here w at (base ++ l) locals s) lo hi [] (always to) (on_top base) (HoldsWith w (IsLong 1)) (as_computed (routine_value r l) store s)) (sym (sole xs long)) (on_one r (sole_number xs) has e)
  where
    on_one : (r : Routine) (x : ℤ) → HasAt w.code.instrs at (routine_code r) → at + length (routine_code r) ≡ to → Follows w (here w at (base ++ one x) locals s) lo hi [] (always to) (on_top base) (HoldsWith w (IsLong 1)) (as_computed (routine_value r (one x)) store s)
    on_one Number x is e2 = comes {v = one x} (let e3 : at ≡ to = omega arith in e3) refl (refl, h)
    on_one Absolute x is e2 = computed_by w i.Abs (in_int (magnitude x)) (IsLong 1) at to lo hi [] base (one x) locals store s is.0 refl (result_action Overflow (int_result (magnitude x))) (result_yields Overflow refl (int_result (magnitude x))) e2 low (omega arith) (λ z. refl) h
    on_one Cardinality x is e2 = computed_by w i.Card (Yields (one (pos (length (offsets_of (one x)))))) (IsLong 1) at to lo hi [] base (one x) locals store s is.0 refl (ap (λ (l : List ℕ). Pushes (one (pos (length l)))) (sym (offsets_of_one x))) refl e2 low (omega arith) (λ z. refl) h
    on_one (Successor bound) x is e2 = computed_by w (i.Succ bound) (yields_or Overflow (if int_le bound x then None else Some (x +ℤ pos 1))) (IsLong 1) at to lo hi [] base (one x) locals store s is.0 refl (result_action Overflow (if int_le bound x then None else Some (x +ℤ pos 1))) (result_yields Overflow refl (if int_le bound x then None else Some (x +ℤ pos 1))) e2 low (omega arith) (λ z. refl) h
    on_one (Predecessor bound) x is e2 = computed_by w (i.Pred bound) (yields_or Overflow (if int_le x bound then None else Some (x -ℤ pos 1))) (IsLong 1) at to lo hi [] base (one x) locals store s is.0 refl (result_action Overflow (if int_le x bound then None else Some (x -ℤ pos 1))) (result_yields Overflow refl (if int_le x bound then None else Some (x -ℤ pos 1))) e2 low (omega arith) (λ z. refl) h
    on_one (Least least) x is e2 =
        subst (λ (l : List ℕ). Follows w (here w at (base ++ one x) locals s) lo hi [] (always to) (on_top base) (HoldsWith w (IsLong 1)) (as_computed (member_at least (first_of_list l)) store s)) (sym (offsets_of_one x))
        (makes i.Least at base (one x) locals s (member_or_empty (first_of_list (members_of x))) is.0 refl refl
        (found_follows w least (first_of_list (members_of x)) at to lo hi (base ++ one x) base locals store s (λ k f. first_below (members_of x) 32 k (members_below x) f) is.1 (omega arith) low (omega arith) high h))
    on_one (Greatest least) x is e2 =
        subst (λ (l : List ℕ). Follows w (here w at (base ++ one x) locals s) lo hi [] (always to) (on_top base) (HoldsWith w (IsLong 1)) (as_computed (member_at least (last_of_list l)) store s)) (sym (offsets_of_one x))
        (makes i.Most at base (one x) locals s (member_or_empty (last_of_list (members_of x))) is.0 refl refl
        (found_follows w least (last_of_list (members_of x)) at to lo hi (base ++ one x) base locals store s (λ k f. last_below (members_of x) 32 k (members_below x) f) is.1 (omega arith) low (omega arith) high h))
