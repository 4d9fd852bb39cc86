-- Operators and routines: what stands between and behind their operands.
use Rattle.std.proofs.Common.{◌≡◌, ℕ, ◌+◌, ◌-◌, ◌*◌, ◌<◌, ◌≤◌, nat_lt, if◌then◌else◌, Bool, true, false, not, ◌&&◌, List, [], ◌∷◌, ◌++◌, ℤ, pos, negsuc, ◌+ℤ◌, ◌-ℤ◌, ◌*ℤ◌, length, take, drop, Option, Some, None, slice_get, refl, sym, ap, ◌∙◌, subst, arith, length-append, append_assoc, append-nil}
use Rattle.std.proofs.Math.Seq.{take-append_seam, drop-append_seam}
use Rattle.kernel_base.specs.declared.ends.Exc.{Exc}
use Rattle.kernel_base.specs.declared.ends.Exc.TheVariants.{Overflow}
use Rattle.world_model.specs.Session.{Session}
use Rattle.modes.specs.declared.mode.Bounds.{Bounds}
use Rattle.checked_program.specs.declared.expr.Binary.{Binary}
use Rattle.checked_program.specs.declared.expr.Binary.TheVariants.{Add, Subtract, Multiply, Divide, Modulo, Remainder, And, Or, Xor, AndIf, OrIf, Equal, NotEqual, Less, LessOrEqual, Greater, GreaterOrEqual, Union, Intersection, SymmetricDifference, Difference, Included, ProperlyIncluded, Includes, ProperlyIncludes, Member}
use Rattle.scalar_operators.specs.Numbers.{is_between, truth_number, truth_of, int_result, quotient, remainder, modulus, same_numbers, comes_before}
use Rattle.scalar_operators.specs.Powersets.{members_each, has_member, is_included, has_offset}
use Rattle.scalar_operators.specs.Members.{is_subset, has_offset_of, has_member_at}
use Rattle.code_types.specs.declared.instr.Instr.{Instr}
use Rattle.code_types.specs.declared.instr.Instr.TheVariants as i
use Rattle.code_types.specs.declared.code.Handler.{Handler}
use Rattle.code_types.specs.Actions.{result_or, in_frame, truth as truth_action}
use Rattle.code_types.specs.Places.{finds}
use Rattle.code_types.specs.Operands.{part_of}
use Rattle.code_types.specs.Steps.{Run}
use Rattle.source_meaning.specs.Store.{Store}
use Rattle.source_meaning.specs.Flow.{Goes}
use Rattle.source_meaning.specs.Operators.{sole_number, one, truth, Computed, yields_or, is_member, binary_value}
use Rattle.source_meaning.specs.ExprMeaning.{as_computed}
use Rattle.code_scheme.specs.Pieces.{swap_code, properly_code, behind_code, behind_size}
use Rattle.follow_laws.specs.Follows.{is_of_language, HasAt, Around, here, Holds, GetsTo, Follows, always, HoldsWith, on_top, IsLong, action_in}
use Rattle.code_laws.specs.InRange.{OperandsFit}
use Rattle.follow_laws.proofs.Running.{has_front, has_back, gets_then, after, comes}
use Rattle.follow_laws.proofs.Holding.{middle}
use Rattle.follow_laws.proofs.Requesting.{Untaken}
use Rattle.follow_laws.proofs.Instructions.{pushes_by, renamed, as_action, YieldsSuch, computed_by, sole}

-- ---- results

pub result_action : (x : Exc) (o : Option ℤ) → result_or x o ≡ as_action (yields_or x o)
result_action x None = refl
result_action x (Some z) = refl

pub result_yields : (x : Exc) → is_of_language x ≡ true → (o : Option ℤ) → YieldsSuch (IsLong 1) (yields_or x o)
result_yields x own None = own
result_yields x own (Some z) = refl

pub truth_back : (b : Bool) → truth_of (truth_number b) ≡ b
truth_back true = refl
truth_back false = refl

-- ---- two operands

-- an operator of one instruction on two numbers
two_by : (w : Around) (instr : Instr) (c : Computed) (x y : ℤ) (at to lo hi : ℕ) (rows : List Handler) (base locals : List ℤ) (store : Store) (s : Session)
    → slice_get w.code.instrs at ≡ Some instr → finds w.code w.body instr ≡ 2
    → action_in w instr at (base ++ (x ∷ y ∷ [])) locals (x ∷ y ∷ []) ≡ as_action c
    → YieldsSuch (IsLong 1) c → at + 1 ≡ to → lo ≤ at → at < hi → Untaken rows at → Holds w store locals
    → Follows w (here w at (base ++ (x ∷ y ∷ [])) locals s) lo hi rows (always to) (on_top base) (HoldsWith w (IsLong 1)) (as_computed c store s)
two_by w instr c x y at to lo hi rows base locals store s has found does such e low high none h =
    computed_by w instr c (IsLong 1) at to lo hi rows base (x ∷ y ∷ []) locals store s has found does such e low high none h

-- two values change places
swap_run : (w : Around) (n at : ℕ) (base xs ys locals : List ℤ) (s : Session)
    → length xs ≡ n → length ys ≡ n → HasAt w.code.instrs at (swap_code n)
    → GetsTo w.code (here w at (base ++ (xs ++ ys)) locals s) (here w (at + 2) (base ++ (ys ++ xs)) locals s)
swap_run w n at base xs ys locals s long long2 has =
    let both : List ℤ = xs ++ ys in
    let found : 2 * n ≡ length both = omega (arith, length-append xs ys) in
    let found2 : 4 * n ≡ length (both ++ both) = omega (arith, length-append xs ys, length-append both both) in
    let shape : both ++ both ≡ xs ++ ((ys ++ xs) ++ ys) =
    append_assoc xs ys both ∙ ap (λ (l : List ℤ). xs ++ l) (sym (append_assoc ys xs ys)) in
    let part : part_of (both ++ both) n (2 * n) ≡ Some (ys ++ xs) = ap (λ (l : List ℤ). part_of l n (2 * n)) shape ∙ middle xs (ys ++ xs) ys n (2 * n) (sym long) (omega (arith, length-append ys xs)) in
    gets_then (pushes_by w (i.Copy (2 * n)) at base both locals s (both ++ both) has.0 found refl)
    (gets_then (pushes_by w (i.Part n (2 * n) (4 * n)) (at + 1) base (both ++ both) locals s (ys ++ xs) has.1.0 found2 (ap in_frame part))
    (renamed w (at + 1 + 1) (at + 2) (base ++ (ys ++ xs)) (base ++ (ys ++ xs)) locals s (omega arith) refl))

-- comparisons of values of so many scalars
same_run : (w : Around) (n at : ℕ) (base xs ys locals : List ℤ) (s : Session)
    → length xs ≡ n → length ys ≡ n → slice_get w.code.instrs at ≡ Some (i.Same n)
    → GetsTo w.code (here w at (base ++ (xs ++ ys)) locals s) (here w (at + 1) (base ++ truth (same_numbers xs ys)) locals s)
same_run w n at base xs ys locals s long long2 has =
    pushes_by w (i.Same n) at base (xs ++ ys) locals s (truth (same_numbers xs ys)) has (omega (arith, length-append xs ys))
    (ap (λ (l : List ℤ). truth_action (same_numbers l (drop n (xs ++ ys)))) (front xs ys n long) ∙ ap (λ (l : List ℤ). truth_action (same_numbers xs l)) (back xs ys n long))
  where
    front : (xs ys : List ℤ) (n : ℕ) → length xs ≡ n → take n (xs ++ ys) ≡ xs
    front xs ys n e = ap (λ (j : ℕ). take j (xs ++ ys)) (sym e) ∙ take-append_seam xs ys

    back : (xs ys : List ℤ) (n : ℕ) → length xs ≡ n → drop n (xs ++ ys) ≡ ys
    back xs ys n e = ap (λ (j : ℕ). drop j (xs ++ ys)) (sym e) ∙ drop-append_seam xs ys

pub less_run : (w : Around) (n at : ℕ) (base xs ys locals : List ℤ) (s : Session)
    → length xs ≡ n → length ys ≡ n → slice_get w.code.instrs at ≡ Some (i.Less n)
    → GetsTo w.code (here w at (base ++ (xs ++ ys)) locals s) (here w (at + 1) (base ++ truth (comes_before xs ys)) locals s)
less_run w n at base xs ys locals s long long2 has =
    pushes_by w (i.Less n) at base (xs ++ ys) locals s (truth (comes_before xs ys)) has (omega (arith, length-append xs ys))
    (ap (λ (l : List ℤ). truth_action (comes_before l (drop n (xs ++ ys)))) (front xs ys n long) ∙ ap (λ (l : List ℤ). truth_action (comes_before xs l)) (back xs ys n long))
  where
    front : (xs ys : List ℤ) (n : ℕ) → length xs ≡ n → take n (xs ++ ys) ≡ xs
    front xs ys n e = ap (λ (j : ℕ). take j (xs ++ ys)) (sym e) ∙ take-append_seam xs ys

    back : (xs ys : List ℤ) (n : ℕ) → length xs ≡ n → drop n (xs ++ ys) ≡ ys
    back xs ys n e = ap (λ (j : ℕ). drop j (xs ++ ys)) (sym e) ∙ drop-append_seam xs ys

pub not_run : (w : Around) (b : Bool) (at : ℕ) (base locals : List ℤ) (s : Session)
    → slice_get w.code.instrs at ≡ Some i.Not
    → GetsTo w.code (here w at (base ++ truth b) locals s) (here w (at + 1) (base ++ truth (not b)) locals s)
not_run w b at base locals s has =
    pushes_by w i.Not at base (truth b) locals s (truth (not b)) has refl (ap (λ (c : Bool). truth_action (not c)) (truth_back b))

-- a powerset is included in another and differs from it
properly_run : (w : Around) (x y : ℤ) (at : ℕ) (base locals : List ℤ) (s : Session)
    → HasAt w.code.instrs at properly_code
    → GetsTo w.code (here w at (base ++ (x ∷ y ∷ [])) locals s) (here w (at + 7) (base ++ truth (is_included x y && not (same_numbers (one x) (one y)))) locals s)
properly_run w x y at base locals s has =
    let t : ℤ = truth_number (is_included x y) in
    let u : Bool = same_numbers (one x) (one y) in
    let xy : List ℤ = base ++ (x ∷ y ∷ []) in
    gets_then (pushes_by w (i.Copy 2) at base (x ∷ y ∷ []) locals s (x ∷ y ∷ x ∷ y ∷ []) has.0 refl refl)
    (gets_then (renamed w (at + 1) (at + 1) (base ++ (x ∷ y ∷ x ∷ y ∷ [])) (xy ++ (x ∷ y ∷ [])) locals s refl (sym (append_assoc base (x ∷ y ∷ []) (x ∷ y ∷ []))))
    (gets_then (pushes_by w i.Within (at + 1) xy (x ∷ y ∷ []) locals s (t ∷ []) has.1.0 refl refl)
    (gets_then (renamed w (at + 1 + 1) (at + 1 + 1) (xy ++ (t ∷ [])) (base ++ (x ∷ y ∷ t ∷ [])) locals s refl (append_assoc base (x ∷ y ∷ []) (t ∷ [])))
    (gets_then (pushes_by w (i.Copy 3) (at + 1 + 1) base (x ∷ y ∷ t ∷ []) locals s (x ∷ y ∷ t ∷ x ∷ y ∷ t ∷ []) has.1.1.0 refl refl)
    (gets_then (pushes_by w (i.Part 2 3 6) (at + 1 + 1 + 1) base (x ∷ y ∷ t ∷ x ∷ y ∷ t ∷ []) locals s (t ∷ x ∷ y ∷ []) has.1.1.1.0 refl refl)
    (gets_then (renamed w (at + 1 + 1 + 1 + 1) (at + 1 + 1 + 1 + 1) (base ++ (t ∷ x ∷ y ∷ [])) ((base ++ (t ∷ [])) ++ (one x ++ one y)) locals s refl (sym (append_assoc base (t ∷ []) (x ∷ y ∷ []))))
    (gets_then (same_run w 1 (at + 1 + 1 + 1 + 1) (base ++ (t ∷ [])) (one x) (one y) locals s refl refl has.1.1.1.1.0)
    (gets_then (not_run w u (at + 1 + 1 + 1 + 1 + 1) (base ++ (t ∷ [])) locals s has.1.1.1.1.1.0)
    (gets_then (renamed w (at + 1 + 1 + 1 + 1 + 1 + 1) (at + 1 + 1 + 1 + 1 + 1 + 1) ((base ++ (t ∷ [])) ++ truth (not u)) (base ++ (t ∷ truth_number (not u) ∷ [])) locals s refl (append_assoc base (t ∷ []) (truth (not u))))
    (gets_then (pushes_by w i.And (at + 1 + 1 + 1 + 1 + 1 + 1) base (t ∷ truth_number (not u) ∷ []) locals s (truth (is_included x y && not u)) has.1.1.1.1.1.1.0 refl
    (ap (λ (b : Bool). truth_action (b && truth_of (truth_number (not u)))) (truth_back (is_included x y)) ∙ ap (λ (b : Bool). truth_action (is_included x y && b)) (truth_back (not u))))
    (renamed w (at + 1 + 1 + 1 + 1 + 1 + 1 + 1) (at + 7) (base ++ truth (is_included x y && not u)) (base ++ truth (is_included x y && not u)) locals s (omega arith) refl)))))))))))

-- one number is included
subset_one : (x y : ℤ) → is_subset (one x) (one y) ≡ is_included x y
subset_one x y = by_truth (is_included x y)
  where
    by_truth : (b : Bool) → (b && true) ≡ b
    by_truth true = refl
    by_truth false = refl

-- what lies below the second operand where that is evaluated: nothing for ANDIF and ORIF, an offset for IN
abbrev pub offset_in : Bounds → ℤ → ℤ
offset_in b x = if is_between b.low b.high x then x -ℤ b.low else pos 32

abbrev pub held : Binary → List ℤ → List ℤ
held AndIf xs = []
held OrIf xs = []
held (Member b) xs = one (offset_in b (sole_number xs))
held o xs = xs

-- a number of one value
abbrev pub IsOne : List ℤ → Type 0
IsOne xs = length xs ≡ 1

-- the offset is that of a member exactly where the number is a member
member_is : (b : Bounds) (x y : ℤ) → has_offset (offset_in b x) y ≡ is_member b x (one y)
member_is b x y = by_between (is_between b.low b.high x)
  where
    at_offset_is : (z : ℤ) → has_offset z y ≡ has_offset_of z (one y)
    at_offset_is (pos k) = by_less (nat_lt k members_each)
      where
        by_less : (t : Bool) → (t && has_member y k) ≡ (if t then has_member y k else has_member_at (k - members_each) [])
        by_less true = refl
        by_less false = refl
    at_offset_is (negsuc n) = refl

    by_between : (t : Bool) → has_offset (if t then x -ℤ b.low else pos 32) y ≡ (t && has_offset_of (x -ℤ b.low) (one y))
    by_between true = at_offset_is (x -ℤ b.low)
    by_between false = refl

-- the operands, one after the other
joined : (w : Around) (at : ℕ) (base xs ys locals : List ℤ) (s : Session) → GetsTo w.code (here w at ((base ++ xs) ++ ys) locals s) (here w at (base ++ (xs ++ ys)) locals s)
joined w at base xs ys locals s = renamed w at at ((base ++ xs) ++ ys) (base ++ (xs ++ ys)) locals s refl (append_assoc base xs ys)

-- an operator of one instruction on two numbers
simple : (w : Around) (instr : Instr) (o : Binary) (xs ys : List ℤ) (at to lo hi : ℕ) (base locals : List ℤ) (store : Store) (s : Session)
    → finds w.code w.body instr ≡ 2
    → ((x y : ℤ) (stack : List ℤ) → action_in w instr at stack locals (x ∷ y ∷ []) ≡ as_action (binary_value o (one x) (one y)))
    → ((x y : ℤ) → YieldsSuch (IsLong 1) (binary_value o (one x) (one y)))
    → length xs ≡ 1 → length ys ≡ 1 → slice_get w.code.instrs at ≡ Some instr
    → at + 1 ≡ to → lo ≤ at → at < hi → Holds w store locals
    → Follows w (here w at ((base ++ xs) ++ ys) locals s) lo hi [] (always to) (on_top base) (HoldsWith w (IsLong 1)) (as_computed (binary_value o xs ys) store s)
simple w instr o xs ys at to lo hi base locals store s found does such one_x one_y has e low high h =
    let x : ℤ = sole_number xs in
    let y : ℤ = sole_number ys in
    subst (λ (l : List ℤ). Follows w (here w at ((base ++ l) ++ ys) locals s) lo hi [] (always to) (on_top base) (HoldsWith w (IsLong 1)) (as_computed (binary_value o l ys) store s)) (sym (sole xs one_x))
    (subst (λ (l : List ℤ). Follows w (here w at ((base ++ one x) ++ l) locals s) lo hi [] (always to) (on_top base) (HoldsWith w (IsLong 1)) (as_computed (binary_value o (one x) l) store s)) (sym (sole ys one_y))
    (after (joined w at base (one x) (one y) locals s)
    (two_by w instr (binary_value o (one x) (one y)) x y at to lo hi [] base locals store s has found (does x y (base ++ (x ∷ y ∷ []))) (such x y) e low high (λ z. refl) h)))

-- a result that is computed without an exception
gets_result : (w : Around) (m : Run) (at to lo hi : ℕ) (base v locals : List ℤ) (store : Store) (s : Session)
    → GetsTo w.code m (here w at (base ++ v) locals s) → at ≡ to → length v ≡ 1 → Holds w store locals
    → Follows w m lo hi [] (always to) (on_top base) (HoldsWith w (IsLong 1)) (Goes v store s)
gets_result w m at to lo hi base v locals store s r e long h = after r (comes {v = v} e refl (long, h))

-- operators on powersets that give truths, whose operands may change places
included_runs : (w : Around) (xs ys : List ℤ) (at to lo hi : ℕ) (base locals : List ℤ) (store : Store) (s : Session)
    → length xs ≡ 1 → length ys ≡ 1 → slice_get w.code.instrs at ≡ Some i.Within → at + 1 ≡ to → Holds w store locals
    → Follows w (here w at (base ++ (xs ++ ys)) locals s) lo hi [] (always to) (on_top base) (HoldsWith w (IsLong 1)) (Goes (truth (is_subset xs ys)) store s)
included_runs w xs ys at to lo hi base locals store s one_x one_y has e h =
    let x : ℤ = sole_number xs in
    let y : ℤ = sole_number ys in
    subst (λ (l : List ℤ). Follows w (here w at (base ++ (l ++ ys)) locals s) lo hi [] (always to) (on_top base) (HoldsWith w (IsLong 1)) (Goes (truth (is_subset l ys)) store s)) (sym (sole xs one_x))
    (subst (λ (l : List ℤ). Follows w (here w at (base ++ (one x ++ l)) locals s) lo hi [] (always to) (on_top base) (HoldsWith w (IsLong 1)) (Goes (truth (is_subset (one x) l)) store s)) (sym (sole ys one_y))
    (gets_result w (here w at (base ++ (x ∷ y ∷ [])) locals s) (at + 1) to lo hi base (truth (is_subset (one x) (one y))) locals store s
    (pushes_by w i.Within at base (x ∷ y ∷ []) locals s (truth (is_subset (one x) (one y))) has refl (ap truth_action (sym (subset_one x y)))) e refl h))

properly_runs : (w : Around) (xs ys : List ℤ) (at to lo hi : ℕ) (base locals : List ℤ) (store : Store) (s : Session)
    → length xs ≡ 1 → length ys ≡ 1 → HasAt w.code.instrs at properly_code → at + 7 ≡ to → Holds w store locals
    → Follows w (here w at (base ++ (xs ++ ys)) locals s) lo hi [] (always to) (on_top base) (HoldsWith w (IsLong 1)) (Goes (truth (is_subset xs ys && not (same_numbers xs ys))) store s)
properly_runs w xs ys at to lo hi base locals store s one_x one_y has e h =
    let x : ℤ = sole_number xs in
    let y : ℤ = sole_number ys in
    subst (λ (l : List ℤ). Follows w (here w at (base ++ (l ++ ys)) locals s) lo hi [] (always to) (on_top base) (HoldsWith w (IsLong 1)) (Goes (truth (is_subset l ys && not (same_numbers l ys))) store s)) (sym (sole xs one_x))
    (subst (λ (l : List ℤ). Follows w (here w at (base ++ (one x ++ l)) locals s) lo hi [] (always to) (on_top base) (HoldsWith w (IsLong 1)) (Goes (truth (is_subset (one x) l && not (same_numbers (one x) l))) store s)) (sym (sole ys one_y))
    (subst (λ (b : Bool). Follows w (here w at (base ++ (x ∷ y ∷ [])) locals s) lo hi [] (always to) (on_top base) (HoldsWith w (IsLong 1)) (Goes (truth (b && not (same_numbers (one x) (one y)))) store s)) (sym (subset_one x y))
    (gets_result w (here w at (base ++ (x ∷ y ∷ [])) locals s) (at + 7) to lo hi base (truth (is_included x y && not (same_numbers (one x) (one y)))) locals store s (properly_run w x y at base locals s has) e refl h)))

-- What stands behind two operands follows the operator.
pub behind_runs : (w : Around) (o : Binary) (n : ℕ) (xs ys : List ℤ) (at to lo hi : ℕ) (base locals : List ℤ) (store : Store) (s : Session)
    → length xs ≡ n → OperandsFit o n (length ys) → HasAt w.code.instrs at (behind_code o n)
    → at + behind_size o ≡ to → lo ≤ at → to ≤ hi → Holds w store locals
    → Follows w (here w at ((base ++ held o xs) ++ ys) locals s) lo hi [] (always to) (on_top base) (HoldsWith w (IsLong 1)) (as_computed (binary_value o xs ys) store s)
behind_runs w Add n xs ys at to lo hi base locals store s long fits has e low high h = simple w i.Add Add xs ys at to lo hi base locals store s refl (λ x y stack. result_action Overflow (int_result (x +ℤ y))) (λ x y. result_yields Overflow refl (int_result (x +ℤ y))) (long ∙ fits.0) fits.1 has.0 e low (omega arith) h
behind_runs w Subtract n xs ys at to lo hi base locals store s long fits has e low high h = simple w i.Sub Subtract xs ys at to lo hi base locals store s refl (λ x y stack. result_action Overflow (int_result (x -ℤ y))) (λ x y. result_yields Overflow refl (int_result (x -ℤ y))) (long ∙ fits.0) fits.1 has.0 e low (omega arith) h
behind_runs w Multiply n xs ys at to lo hi base locals store s long fits has e low high h = simple w i.Mul Multiply xs ys at to lo hi base locals store s refl (λ x y stack. result_action Overflow (int_result (x *ℤ y))) (λ x y. result_yields Overflow refl (int_result (x *ℤ y))) (long ∙ fits.0) fits.1 has.0 e low (omega arith) h
behind_runs w Divide n xs ys at to lo hi base locals store s long fits has e low high h = simple w i.Div Divide xs ys at to lo hi base locals store s refl (λ x y stack. result_action Overflow (quotient x y)) (λ x y. result_yields Overflow refl (quotient x y)) (long ∙ fits.0) fits.1 has.0 e low (omega arith) h
behind_runs w Modulo n xs ys at to lo hi base locals store s long fits has e low high h = simple w i.Mod Modulo xs ys at to lo hi base locals store s refl (λ x y stack. result_action Overflow (modulus x y)) (λ x y. result_yields Overflow refl (modulus x y)) (long ∙ fits.0) fits.1 has.0 e low (omega arith) h
behind_runs w Remainder n xs ys at to lo hi base locals store s long fits has e low high h = simple w i.Rem Remainder xs ys at to lo hi base locals store s refl (λ x y stack. result_action Overflow (remainder x y)) (λ x y. result_yields Overflow refl (remainder x y)) (long ∙ fits.0) fits.1 has.0 e low (omega arith) h
behind_runs w And n xs ys at to lo hi base locals store s long fits has e low high h = simple w i.And And xs ys at to lo hi base locals store s refl (λ x y stack. refl) (λ x y. refl) (long ∙ fits.0) fits.1 has.0 e low (omega arith) h
behind_runs w Or n xs ys at to lo hi base locals store s long fits has e low high h = simple w i.Or Or xs ys at to lo hi base locals store s refl (λ x y stack. refl) (λ x y. refl) (long ∙ fits.0) fits.1 has.0 e low (omega arith) h
behind_runs w Xor n xs ys at to lo hi base locals store s long fits has e low high h = simple w i.Xor Xor xs ys at to lo hi base locals store s refl (λ x y stack. refl) (λ x y. refl) (long ∙ fits.0) fits.1 has.0 e low (omega arith) h
behind_runs w Union n xs ys at to lo hi base locals store s long fits has e low high h = simple w i.BitOr Union xs ys at to lo hi base locals store s refl (λ x y stack. refl) (λ x y. refl) (long ∙ fits.0) fits.1 has.0 e low (omega arith) h
behind_runs w Intersection n xs ys at to lo hi base locals store s long fits has e low high h = simple w i.BitAnd Intersection xs ys at to lo hi base locals store s refl (λ x y stack. refl) (λ x y. refl) (long ∙ fits.0) fits.1 has.0 e low (omega arith) h
behind_runs w SymmetricDifference n xs ys at to lo hi base locals store s long fits has e low high h = simple w i.BitXor SymmetricDifference xs ys at to lo hi base locals store s refl (λ x y stack. refl) (λ x y. refl) (long ∙ fits.0) fits.1 has.0 e low (omega arith) h
behind_runs w Difference n xs ys at to lo hi base locals store s long fits has e low high h = simple w i.BitMinus Difference xs ys at to lo hi base locals store s refl (λ x y stack. refl) (λ x y. refl) (long ∙ fits.0) fits.1 has.0 e low (omega arith) h
behind_runs w AndIf n xs ys at to lo hi base locals store s long fits has e low high h =
    comes {v = ys} (let z : at ≡ to = omega arith in z) (ap (λ (l : List ℤ). l ++ ys) (append-nil base)) (fits.1, h)
behind_runs w OrIf n xs ys at to lo hi base locals store s long fits has e low high h =
    comes {v = ys} (let z : at ≡ to = omega arith in z) (ap (λ (l : List ℤ). l ++ ys) (append-nil base)) (fits.1, h)
behind_runs w Equal n xs ys at to lo hi base locals store s long fits has e low high h =
    after (joined w at base xs ys locals s)
    (gets_result w (here w at (base ++ (xs ++ ys)) locals s) (at + 1) to lo hi base (truth (same_numbers xs ys)) locals store s (same_run w n at base xs ys locals s long (sym fits) has.0) e refl h)
behind_runs w NotEqual n xs ys at to lo hi base locals store s long fits has e low high h =
    after (joined w at base xs ys locals s)
    (gets_result w (here w at (base ++ (xs ++ ys)) locals s) (at + 1 + 1) to lo hi base (truth (not (same_numbers xs ys))) locals store s
    (gets_then (same_run w n at base xs ys locals s long (sym fits) has.0) (not_run w (same_numbers xs ys) (at + 1) base locals s has.1.0)) (omega arith) refl h)
behind_runs w Less n xs ys at to lo hi base locals store s long fits has e low high h =
    after (joined w at base xs ys locals s)
    (gets_result w (here w at (base ++ (xs ++ ys)) locals s) (at + 1) to lo hi base (truth (comes_before xs ys)) locals store s (less_run w n at base xs ys locals s long (sym fits) has.0) e refl h)
behind_runs w GreaterOrEqual n xs ys at to lo hi base locals store s long fits has e low high h =
    after (joined w at base xs ys locals s)
    (gets_result w (here w at (base ++ (xs ++ ys)) locals s) (at + 1 + 1) to lo hi base (truth (not (comes_before xs ys))) locals store s
    (gets_then (less_run w n at base xs ys locals s long (sym fits) has.0) (not_run w (comes_before xs ys) (at + 1) base locals s has.1.0)) (omega arith) refl h)
behind_runs w Greater n xs ys at to lo hi base locals store s long fits has e low high h =
    let has2 = has_back w.code.instrs at (at + 2) (swap_code n) (i.Less n ∷ []) refl has in
    after (joined w at base xs ys locals s)
    (gets_result w (here w at (base ++ (xs ++ ys)) locals s) (at + 2 + 1) to lo hi base (truth (comes_before ys xs)) locals store s
    (gets_then (swap_run w n at base xs ys locals s long (sym fits) (has_front w.code.instrs at (swap_code n) (i.Less n ∷ []) has)) (less_run w n (at + 2) base ys xs locals s (sym fits) long has2.0)) (omega arith) refl h)
behind_runs w LessOrEqual n xs ys at to lo hi base locals store s long fits has e low high h =
    let has2 = has_back w.code.instrs at (at + 2) (swap_code n) (i.Less n ∷ i.Not ∷ []) refl has in
    after (joined w at base xs ys locals s)
    (gets_result w (here w at (base ++ (xs ++ ys)) locals s) (at + 2 + 1 + 1) to lo hi base (truth (not (comes_before ys xs))) locals store s
    (gets_then (swap_run w n at base xs ys locals s long (sym fits) (has_front w.code.instrs at (swap_code n) (i.Less n ∷ i.Not ∷ []) has))
    (gets_then (less_run w n (at + 2) base ys xs locals s (sym fits) long has2.0) (not_run w (comes_before ys xs) (at + 2 + 1) base locals s has2.1.0))) (omega arith) refl h)
behind_runs w Included n xs ys at to lo hi base locals store s long fits has e low high h =
    after (joined w at base xs ys locals s) (included_runs w xs ys at to lo hi base locals store s (long ∙ fits.0) fits.1 has.0 e h)
behind_runs w ProperlyIncluded n xs ys at to lo hi base locals store s long fits has e low high h =
    after (joined w at base xs ys locals s) (properly_runs w xs ys at to lo hi base locals store s (long ∙ fits.0) fits.1 has e h)
behind_runs w Includes n xs ys at to lo hi base locals store s long fits has e low high h =
    let has2 = has_back w.code.instrs at (at + 2) (swap_code 1) (i.Within ∷ []) refl has in
    after (gets_then (joined w at base xs ys locals s) (swap_run w 1 at base xs ys locals s (long ∙ fits.0) fits.1 (has_front w.code.instrs at (swap_code 1) (i.Within ∷ []) has)))
    (included_runs w ys xs (at + 2) to lo hi base locals store s fits.1 (long ∙ fits.0) has2.0 (omega arith) h)
behind_runs w ProperlyIncludes n xs ys at to lo hi base locals store s long fits has e low high h =
    let has2 = has_back w.code.instrs at (at + 2) (swap_code 1) properly_code refl has in
    after (gets_then (joined w at base xs ys locals s) (swap_run w 1 at base xs ys locals s (long ∙ fits.0) fits.1 (has_front w.code.instrs at (swap_code 1) properly_code has)))
    (properly_runs w ys xs (at + 2) to lo hi base locals store s fits.1 (long ∙ fits.0) has2 (omega arith) h)
behind_runs w (Member b) n xs ys at to lo hi base locals store s long fits has e low high h =
    let x : ℤ = sole_number xs in
    let y : ℤ = sole_number ys in
    let z : ℤ = offset_in b x in
    subst (λ (l : List ℤ). Follows w (here w at ((base ++ one z) ++ l) locals s) lo hi [] (always to) (on_top base) (HoldsWith w (IsLong 1)) (Goes (truth (is_member b x l)) store s)) (sym (sole ys fits.2))
    (after (joined w at base (one z) (one y) locals s)
    (gets_result w (here w at (base ++ (z ∷ y ∷ [])) locals s) (at + 1) to lo hi base (truth (is_member b x (one y))) locals store s
    (pushes_by w i.Has at base (z ∷ y ∷ []) locals s (truth (is_member b x (one y))) has.0 refl (ap truth_action (member_is b x y))) e refl h))
