-- The instructions of each condition follow its meaning.
use Rattle.std.proofs.Common.{◌≡◌, ℕ, ◌+◌, ◌≤◌, if◌then◌else◌, Bool, true, false, not, List, [], ◌++◌, ℤ, length, Option, None, refl, sym, ap, ◌∙◌, subst, arith, append-nil, length-append}
use Rattle.world_model.specs.Session.{Session}
use Rattle.modes.specs.declared.mode.Bounds.{Bounds}
use Rattle.checked_program.specs.declared.expr.Binary.{Binary}
use Rattle.checked_program.specs.declared.expr.Binary.TheVariants.{AndIf, OrIf, NotEqual, LessOrEqual, GreaterOrEqual}
use Rattle.checked_program.specs.declared.expr.Prefix.TheVariants.{Not}
use Rattle.program_trees.specs.ExprTree.{ExprTree, expr, OperationTree, prefixed, binary, count_of}
use Rattle.scalar_operators.specs.Numbers.{truth_of, same_numbers, comes_before}
use Rattle.code_types.specs.declared.instr.Instr.{Instr}
use Rattle.code_types.specs.declared.instr.Instr.TheVariants as i
use Rattle.source_meaning.specs.Store.{Store}
use Rattle.source_meaning.specs.Flow.{Flow, Goes, Raised, Exits, Returned, Stops, Gone, Bound, then_do}
use Rattle.source_meaning.specs.Operators.{sole_number, is_true, one, truth, binary_value, takes_second}
use Rattle.source_meaning.specs.ExprMeaning.{Setting, as_computed, expr_mean, operation_mean}
use Rattle.source_meaning.specs.BodyMeaning.{Bodies}
use Rattle.code_scheme.specs.Pieces.{Layout, bounds_of_value, between_code, between_size, behind_code, behind_size, branch_code, branch_size, decided_by, straight, is_turned, turned}
use Rattle.code_scheme.specs.ExprSizes.{expr_size, operation_size, condition_size, operation_condition_size}
use Rattle.code_scheme.specs.ExprCode.{expr_code, operation_code, first_target, condition_code, operation_condition}
use Rattle.follow_laws.specs.Follows.{HasAt, Around, free_in, here, Holds, GetsTo, Follows, always, HoldsWith, IsLong}
use Rattle.code_laws.specs.BodyBounds.{BodiesWithin}
use Rattle.code_laws.specs.InRange.{FitsExpr, FitsOperation, OperandsFit}
use Rattle.code_laws.specs.OwnBounds.{expr_within, operation_within}
use Rattle.code_laws.specs.Expressions.{Suited, NamesIn, calls_at}
use Rattle.statement_code_laws.specs.Conditions.{goes_where, ConditionLaw}
use Rattle.follow_laws.proofs.Running.{has_front, has_back, gets_then, after, follows_then, follows_then_is, comes}
use Rattle.follow_laws.proofs.Instructions.{jumps_by, renamed, sole}
use Rattle.code_laws.proofs.Sizes.{between_length, behind_length, expr_length, operation_length}
use Rattle.code_laws.proofs.Values.{both_true}
use Rattle.code_laws.proofs.OperatorRuns.{truth_back, held, behind_runs}
use Rattle.code_laws.proofs.BetweenRuns.{unless_run, between_runs}
use Rattle.code_laws.proofs.ExprPieces.{there, value_lies}
use Rattle.code_laws.proofs.ExprRuns.{expr_runs, operation_runs}

-- ---- the jump by a Boolean

branch_run_one : (w : Around) (when : Bool) (target at to : ℕ) (x : ℤ) (stack locals : List ℤ) (s : Session)
    → HasAt w.code.instrs at (branch_code when target at) → at + branch_size when ≡ to
    → GetsTo w.code (here w at (stack ++ one x) locals s) (here w (goes_where when target to (one x)) stack locals s)
branch_run_one w false target at to x stack locals s has e =
    gets_then (unless_run w x (truth_of x) target at stack locals s refl has.0)
    (renamed w (if truth_of x then at + 1 else target) (if truth_of x then to else target) stack stack locals s (ap (λ (j : ℕ). if truth_of x then j else target) e) refl)
branch_run_one w true target at to x stack locals s has e =
    gets_then (unless_run w x (truth_of x) (at + 2) at stack locals s refl has.0) (by_truth (truth_of x))
  where
    by_truth : (t : Bool) → GetsTo w.code (here w (if t then at + 1 else at + 2) stack locals s) (here w (if t then target else to) stack locals s)
    by_truth true =
        gets_then (renamed w (at + 1) (at + 1) stack (stack ++ []) locals s refl (sym (append-nil stack)))
        (jumps_by w (i.Jump target) (at + 1) stack [] locals s target has.1.0 refl refl)
    by_truth false = renamed w (at + 2) to stack stack locals s e refl

pub branch_run : (w : Around) (when : Bool) (target at to : ℕ) (xs : List ℤ) (stack locals : List ℤ) (s : Session)
    → length xs ≡ 1 → HasAt w.code.instrs at (branch_code when target at) → at + branch_size when ≡ to
    → GetsTo w.code (here w at (stack ++ xs) locals s) (here w (goes_where when target to xs) stack locals s)
branch_run w when target at to xs stack locals s long has e =
    subst (λ (l : List ℤ). GetsTo w.code (here w at (stack ++ l) locals s) (here w (goes_where when target to l) stack locals s)) (sym (sole xs long)) (branch_run_one w when target at to (sole_number xs) stack locals s has e)

branch_length : (when : Bool) (target at : ℕ) → length (branch_code when target at) ≡ branch_size when
branch_length true target at = refl
branch_length false target at = refl

-- ---- operators and the ones whose value they turn round

takes_always : (o : Binary) (xs : List ℤ) → decided_by o ≡ None → takes_second o xs ≡ true
takes_always AndIf xs e = absurd (let no : ⊥ = cc in no)
takes_always OrIf xs e = absurd (let no : ⊥ = cc in no)
takes_always o xs e = refl

held_straight : (o : Binary) (xs : List ℤ) → held (straight o) xs ≡ held o xs
held_straight NotEqual xs = refl
held_straight GreaterOrEqual xs = refl
held_straight LessOrEqual xs = refl
held_straight o xs = refl

fit_straight : (o : Binary) (m n : ℕ) → OperandsFit o m n → OperandsFit (straight o) m n
fit_straight NotEqual m n fits = fits
fit_straight GreaterOrEqual m n fits = fits
fit_straight LessOrEqual m n fits = fits
fit_straight o m n fits = fits

abbrev turned_value : Bool → List ℤ → List ℤ
turned_value t zs = if t then truth (not (is_true zs)) else zs

then_goes : (o : Flow (List ℤ)) → then_do o (λ zs. Goes zs) ≡ o
then_goes (Goes v store s) = refl
then_goes (Raised x store s) = refl
then_goes (Exits k store s) = refl
then_goes (Returned store s) = refl
then_goes (Stops t inner store) = refl
then_goes (Gone t) = refl
then_goes Bound = refl

turned_means : (o : Binary) (xs ys : List ℤ) (store : Store) (s : Session) → then_do (as_computed (binary_value (straight o) xs ys) store s) (λ zs. Goes (turned_value (is_turned o) zs)) ≡ as_computed (binary_value o xs ys) store s
turned_means NotEqual xs ys store s = ap (λ (b : Bool). Goes (truth (not b)) store s) (truth_back (same_numbers xs ys))
turned_means GreaterOrEqual xs ys store s = ap (λ (b : Bool). Goes (truth (not b)) store s) (truth_back (comes_before xs ys))
turned_means LessOrEqual xs ys store s = ap (λ (b : Bool). Goes (truth (not b)) store s) (truth_back (comes_before ys xs))
turned_means o xs ys store s = then_goes (as_computed (binary_value o xs ys) store s)

turned_long : (t : Bool) (zs : List ℤ) → length zs ≡ 1 → length (turned_value t zs) ≡ 1
turned_long true zs e = refl
turned_long false zs e = e

turned_where : (t when : Bool) (target to : ℕ) (zs : List ℤ) → goes_where (if t then not when else when) target to zs ≡ goes_where when target to (turned_value t zs)
turned_where false when target to zs = refl
turned_where true when target to zs = by_truth (is_true zs) when ∙ sym (ap (λ (b : Bool). if b then (if when then target else to) else (if when then to else target)) (truth_back (not (is_true zs))))
  where
    by_truth : (b when : Bool) → (if b then (if not when then target else to) else (if not when then to else target)) ≡ (if not b then (if when then target else to) else (if when then to else target))
    by_truth true true = refl
    by_truth true false = refl
    by_truth false true = refl
    by_truth false false = refl

-- ---- sizes

compared_length : (lay : Layout) (free : ℕ) (o : Binary) (a b : ExprTree) (when : Bool) (target at p q : ℕ) → FitsExpr lay a → FitsExpr lay b
    → length (expr_code lay free a at ++ (between_code o (bounds_of_value a) (at + expr_size a) (expr_size b) ++ (expr_code lay free b p ++ (behind_code (straight o) (count_of a) ++ branch_code (turned o when) target q))))
    ≡ expr_size a + (between_size o (bounds_of_value a) + (expr_size b + (behind_size (straight o) + branch_size (turned o when))))
compared_length lay free o a b when target at p q fits_a fits_b =
    let between : List Instr = between_code o (bounds_of_value a) (at + expr_size a) (expr_size b) in
    let second : List Instr = expr_code lay free b p in
    let behind : List Instr = behind_code (straight o) (count_of a) in
    let branch : List Instr = branch_code (turned o when) target q in
    omega (arith, length-append (expr_code lay free a at) (between ++ (second ++ (behind ++ branch))), length-append between (second ++ (behind ++ branch)), length-append second (behind ++ branch), length-append behind branch, expr_length lay free a at fits_a, expr_length lay free b p fits_b, between_length o (bounds_of_value a) (at + expr_size a) (expr_size b), behind_length (straight o) (count_of a), branch_length (turned o when) target q)

mutual
  pub condition_length : (lay : Layout) (free : ℕ) (e : ExprTree) (when : Bool) (target at : ℕ) → FitsExpr lay e → length (condition_code lay free e when target at) ≡ condition_size e when
  condition_length lay free (expr n own o) when target at fits = operation_condition_length lay free n o when target at fits

  operation_condition_length : (lay : Layout) (free n : ℕ) (o : OperationTree) (when : Bool) (target at : ℕ) → FitsOperation lay n o → length (operation_condition lay free n o when target at) ≡ operation_condition_size o when
  operation_condition_length lay free n (prefixed Not e) when target at fits = condition_length lay free e (not when) target at fits.0
  operation_condition_length lay free n (binary AndIf a b) when target at fits =
      let first : List Instr = condition_code lay free a false (first_target false when target (at + (condition_size a false + condition_size b when))) at in
      omega (arith, length-append first (condition_code lay free b when target (at + condition_size a false)), condition_length lay free a false (first_target false when target (at + (condition_size a false + condition_size b when))) at fits.0, condition_length lay free b when target (at + condition_size a false) fits.1)
  operation_condition_length lay free n (binary OrIf a b) when target at fits =
      let first : List Instr = condition_code lay free a true (first_target true when target (at + (condition_size a true + condition_size b when))) at in
      omega (arith, length-append first (condition_code lay free b when target (at + condition_size a true)), condition_length lay free a true (first_target true when target (at + (condition_size a true + condition_size b when))) at fits.0, condition_length lay free b when target (at + condition_size a true) fits.1)
  operation_condition_length lay free n (binary o a b) when target at fits = compared_length lay free o a b when target at (at + expr_size a + between_size o (bounds_of_value a)) (at + expr_size a + between_size o (bounds_of_value a) + expr_size b + behind_size (straight o)) fits.0 fits.1
  operation_condition_length lay free n o when target at fits = omega (arith, length-append (operation_code lay free n o at) (branch_code when target (at + operation_size o)), operation_length lay free n o at fits, branch_length when target (at + operation_size o))

-- ---- conditions

-- an expression whose value is a Boolean, and the jump by it
valued_runs : (w : Around) (v : Setting) (lay : Layout) (bodies : Bodies) (inside : BodiesWithin) (lo hi free n : ℕ) (o : OperationTree) (when : Bool) (target at to : ℕ) (stack locals : List ℤ) (store : Store) (s : Session)
    → Suited w v lay bodies inside → NamesIn w lo hi → free ≡ free_in w → FitsOperation lay n o → n ≡ 1
    → at + (operation_size o + branch_size when) ≡ to → lo ≤ at → to ≤ hi
    → HasAt w.code.instrs at (operation_code lay free n o at ++ branch_code when target (at + operation_size o))
    → operation_within v (calls_at inside w) n o store s ≡ true
    → Holds w store locals
    → Follows w (here w at stack locals s) lo hi [] (goes_where when target to) (always stack) (HoldsWith w (IsLong 1)) (operation_mean v n o store s)
valued_runs w v lay bodies inside lo hi free n o when target at to stack locals store s suited names free_is fits one_n len low high has within h =
    let at1 : ℕ = at + operation_size o in
    let first : List Instr = operation_code lay free n o at in
    let branch : List Instr = branch_code when target at1 in
    let has1 = has_back w.code.instrs at at1 first branch (ap (λ (j : ℕ). at + j) (operation_length lay free n o at fits)) has in
    subst (λ (q : Flow (List ℤ)). Follows w (here w at stack locals s) lo hi [] (goes_where when target to) (always stack) (HoldsWith w (IsLong 1)) q) (then_goes (operation_mean v n o store s))
    (follows_then
    (operation_runs w v lay bodies inside lo hi free n o at at1 stack locals store s suited names free_is fits refl low (omega arith) (has_front w.code.instrs at first branch has) within h)
    (λ xs store1 s1 locals1 q.
    after (branch_run w when target at1 to xs stack locals1 s1 (q.0 ∙ one_n) has1 (omega arith))
    (comes {v = xs} refl refl (q.0 ∙ one_n, q.1))))

-- an operator other than ANDIF and ORIF, and the jump by it
compared_runs : (w : Around) (v : Setting) (lay : Layout) (bodies : Bodies) (inside : BodiesWithin) (lo hi free n : ℕ) (o : Binary) (a b : ExprTree) (when : Bool) (target at to : ℕ) (stack locals : List ℤ) (store : Store) (s : Session)
    → Suited w v lay bodies inside → NamesIn w lo hi → free ≡ free_in w → FitsOperation lay n (binary o a b) → decided_by o ≡ None
    → at + (expr_size a + (between_size o (bounds_of_value a) + (expr_size b + (behind_size (straight o) + branch_size (turned o when))))) ≡ to → lo ≤ at → to ≤ hi
    → HasAt w.code.instrs at (expr_code lay free a at ++ (between_code o (bounds_of_value a) (at + expr_size a) (expr_size b) ++ (expr_code lay free b (at + expr_size a + between_size o (bounds_of_value a)) ++ (behind_code (straight o) (count_of a) ++ branch_code (turned o when) target (at + expr_size a + between_size o (bounds_of_value a) + expr_size b + behind_size (straight o))))))
    → operation_within v (calls_at inside w) n (binary o a b) store s ≡ true
    → Holds w store locals
    → Follows w (here w at stack locals s) lo hi [] (goes_where when target to) (always stack) (HoldsWith w (IsLong 1)) (operation_mean v n (binary o a b) store s)
compared_runs w v lay bodies inside lo hi free n o a b when target at to stack locals store s suited names free_is fits undecided len low high has within h =
    let all : List Instr = w.code.instrs in
    let own : Option Bounds = bounds_of_value a in
    let m : ℕ = count_of a in
    let at1 : ℕ = at + expr_size a in
    let at2 : ℕ = at1 + between_size o own in
    let at3 : ℕ = at2 + expr_size b in
    let at4 : ℕ = at3 + behind_size (straight o) in
    let first : List Instr = expr_code lay free a at in
    let between : List Instr = between_code o own at1 (expr_size b) in
    let second : List Instr = expr_code lay free b at2 in
    let behind : List Instr = behind_code (straight o) m in
    let branch : List Instr = branch_code (turned o when) target at4 in
    let has1 = has_back all at at1 first (between ++ (second ++ (behind ++ branch))) (ap (λ (j : ℕ). at + j) (expr_length lay free a at fits.0)) has in
    let has2 = has_back all at1 at2 between (second ++ (behind ++ branch)) (ap (λ (j : ℕ). at1 + j) (between_length o own at1 (expr_size b))) has1 in
    let has3 = has_back all at2 at3 second (behind ++ branch) (ap (λ (j : ℕ). at2 + j) (expr_length lay free b at2 fits.1)) has2 in
    let has4 = has_back all at3 at4 behind branch (ap (λ (j : ℕ). at3 + j) (behind_length (straight o) m)) has3 in
    let within_a = (both_true _ _ within).0 in
    follows_then_is
    (expr_runs w v lay bodies inside lo hi free a at at1 stack locals store s suited names free_is fits.0 refl low (omega arith) (has_front all at first (between ++ (second ++ (behind ++ branch))) has) within_a h)
    (λ xs store1 s1 locals1 q is.
    let takes : takes_second o xs ≡ true = takes_always o xs undecided in
    let operands : OperandsFit o (length xs) (count_of b) = subst (λ (j : ℕ). OperandsFit o j (count_of b)) (sym q.0) fits.2 in
    let lies = value_lies v (calls_at inside w) a store store1 s s1 xs within_a is in
    let within_b : (if takes_second o xs then expr_within v (calls_at inside w) b store1 s1 else true) ≡ true = there (expr_mean v a store s) (λ ys store3 s3. if takes_second o ys then expr_within v (calls_at inside w) b store3 s3 else true) xs store1 s1 (both_true _ _ within).1 is in
    subst (λ (t : Bool). Follows w (here w at1 (stack ++ xs) locals1 s1) lo hi [] (goes_where when target to) (always stack) (HoldsWith w (IsLong 1)) (if t then then_do (expr_mean v b store1 s1) (λ ys. as_computed (binary_value o xs ys)) else Goes xs store1 s1)) (sym takes)
    (after (between_runs w o own (count_of b) xs (expr_size b) at1 stack locals1 s1 operands takes lies (has_front all at1 between (second ++ (behind ++ branch)) has1))
    (follows_then
    (expr_runs w v lay bodies inside lo hi free b at2 at3 (stack ++ held o xs) locals1 store1 s1 suited names free_is fits.1 refl (omega arith) (omega arith) (has_front all at2 second (behind ++ branch) has2)
    (subst (λ (t : Bool). (if t then expr_within v (calls_at inside w) b store1 s1 else true) ≡ true) takes within_b) q.1)
    (λ ys store2 s2 locals2 q2.
    subst (λ (f : Flow (List ℤ)). Follows w (here w at3 ((stack ++ held o xs) ++ ys) locals2 s2) lo hi [] (goes_where when target to) (always stack) (HoldsWith w (IsLong 1)) f) (turned_means o xs ys store2 s2)
    (after (renamed w at3 at3 ((stack ++ held o xs) ++ ys) ((stack ++ held (straight o) xs) ++ ys) locals2 s2 refl (ap (λ (l : List ℤ). (stack ++ l) ++ ys) (sym (held_straight o xs))))
    (follows_then
    (behind_runs w (straight o) m xs ys at3 at4 lo hi stack locals2 store2 s2 q.0 (fit_straight o m (length ys) (subst (λ (j : ℕ). OperandsFit o m j) (sym q2.0) fits.2)) (has_front all at3 behind branch has3) refl (omega arith) (omega arith) q2.1)
    (λ zs store3 s3 locals3 q3.
    after (branch_run w (turned o when) target at4 to zs stack locals3 s3 q3.0 has4 (omega arith))
    (comes {v = turned_value (is_turned o) zs} (turned_where (is_turned o) when target to zs) refl (turned_long (is_turned o) zs q3.0, q3.1)))))))))

-- where control goes by a first condition that decides the whole, or doesn't
decides : (value when : Bool) (target at1 to : ℕ) (xs : List ℤ) → is_true xs ≡ value → goes_where value (first_target value when target to) at1 xs ≡ goes_where when target to xs
decides true true target at1 to xs e = ap (λ (b : Bool). if b then target else at1) e ∙ sym (ap (λ (b : Bool). if b then target else to) e)
decides true false target at1 to xs e = ap (λ (b : Bool). if b then to else at1) e ∙ sym (ap (λ (b : Bool). if b then to else target) e)
decides false true target at1 to xs e = ap (λ (b : Bool). if b then at1 else to) e ∙ sym (ap (λ (b : Bool). if b then target else to) e)
decides false false target at1 to xs e = ap (λ (b : Bool). if b then at1 else target) e ∙ sym (ap (λ (b : Bool). if b then to else target) e)

goes_past : (value : Bool) (target1 at1 : ℕ) (xs : List ℤ) → is_true xs ≡ not value → goes_where value target1 at1 xs ≡ at1
goes_past true target1 at1 xs e = ap (λ (b : Bool). if b then target1 else at1) e
goes_past false target1 at1 xs e = ap (λ (b : Bool). if b then at1 else target1) e

-- behind the first condition of ANDIF or ORIF
second_by : (w : Around) (lo hi target at1 to : ℕ) (value when t : Bool) (xs : List ℤ) (stack locals : List ℤ) (store : Store) (s : Session) (second : Flow (List ℤ))
    → is_true xs ≡ t → length xs ≡ 1 → Holds w store locals
    → (t ≡ not value → Follows w (here w at1 stack locals s) lo hi [] (goes_where when target to) (always stack) (HoldsWith w (IsLong 1)) second)
    → Follows w (here w (goes_where value (first_target value when target to) at1 xs) stack locals s) lo hi [] (goes_where when target to) (always stack) (HoldsWith w (IsLong 1)) (if (if value then not t else t) then then_do second (λ ys. Goes ys) else Goes xs store s)
second_by w lo hi target at1 to true when true xs stack locals store s second is long h f = comes {v = xs} (decides true when target at1 to xs is) refl (long, h)
second_by w lo hi target at1 to false when false xs stack locals store s second is long h f = comes {v = xs} (decides false when target at1 to xs is) refl (long, h)
second_by w lo hi target at1 to true when false xs stack locals store s second is long h f =
    subst (λ (q : Flow (List ℤ)). Follows w (here w (goes_where true (first_target true when target to) at1 xs) stack locals s) lo hi [] (goes_where when target to) (always stack) (HoldsWith w (IsLong 1)) q) (sym (then_goes second))
    (after (renamed w (goes_where true (first_target true when target to) at1 xs) at1 stack stack locals s (goes_past true (first_target true when target to) at1 xs is) refl) (f refl))
second_by w lo hi target at1 to false when true xs stack locals store s second is long h f =
    subst (λ (q : Flow (List ℤ)). Follows w (here w (goes_where false (first_target false when target to) at1 xs) stack locals s) lo hi [] (goes_where when target to) (always stack) (HoldsWith w (IsLong 1)) q) (sym (then_goes second))
    (after (renamed w (goes_where false (first_target false when target to) at1 xs) at1 stack stack locals s (goes_past false (first_target false when target to) at1 xs is) refl) (f refl))

mutual
  pub condition_runs : ConditionLaw
  condition_runs w v lay bodies inside lo hi free (expr n own o) when target at to stack locals store s suited names free_is fits one_n len low high has within h =
      operation_condition_runs w v lay bodies inside lo hi free n o when target at to stack locals store s suited names free_is fits one_n len low high has (both_true _ _ within).0 h

  operation_condition_runs : (w : Around) (v : Setting) (lay : Layout) (bodies : Bodies) (inside : BodiesWithin) (lo hi free n : ℕ) (o : OperationTree) (when : Bool) (target at to : ℕ) (stack locals : List ℤ) (store : Store) (s : Session)
      → Suited w v lay bodies inside → NamesIn w lo hi → free ≡ free_in w → FitsOperation lay n o → n ≡ 1
      → at + operation_condition_size o when ≡ to → lo ≤ at → to ≤ hi
      → HasAt w.code.instrs at (operation_condition lay free n o when target at)
      → operation_within v (calls_at inside w) n o store s ≡ true
      → Holds w store locals
      → Follows w (here w at stack locals s) lo hi [] (goes_where when target to) (always stack) (HoldsWith w (IsLong 1)) (operation_mean v n o store s)
  operation_condition_runs w v lay bodies inside lo hi free n (prefixed Not e) when target at to stack locals store s suited names free_is fits one_n len low high has within h =
      follows_then
      (condition_runs w v lay bodies inside lo hi free e (not when) target at to stack locals store s suited names free_is fits.0 fits.1 len low high has within h)
      (λ xs store1 s1 locals1 q. comes {v = truth (not (is_true xs))} (turned_where true when target to xs) refl (refl, q.1))
  operation_condition_runs w v lay bodies inside lo hi free n (binary AndIf a b) when target at to stack locals store s suited names free_is fits one_n len low high has within h =
      let at1 : ℕ = at + condition_size a false in
      let end : at + (condition_size a false + condition_size b when) ≡ to = omega arith in
      let first : List Instr = condition_code lay free a false (first_target false when target to) at in
      let second : List Instr = condition_code lay free b when target at1 in
      let has0 : HasAt w.code.instrs at (first ++ second) = subst (λ (j : ℕ). HasAt w.code.instrs at (condition_code lay free a false (first_target false when target j) at ++ second)) end has in
      let has1 = has_back w.code.instrs at at1 first second (ap (λ (j : ℕ). at + j) (condition_length lay free a false (first_target false when target to) at fits.0)) has0 in
      follows_then_is
      (condition_runs w v lay bodies inside lo hi free a false (first_target false when target to) at at1 stack locals store s suited names free_is fits.0 fits.2.0 refl low (omega arith) (has_front w.code.instrs at first second has0) (both_true _ _ within).0 h)
      (λ xs store1 s1 locals1 q is.
      let within_b : (if is_true xs then expr_within v (calls_at inside w) b store1 s1 else true) ≡ true = there (expr_mean v a store s) (λ ys store3 s3. if takes_second AndIf ys then expr_within v (calls_at inside w) b store3 s3 else true) xs store1 s1 (both_true _ _ within).1 is in
      second_by w lo hi target at1 to false when (is_true xs) xs stack locals1 store1 s1 (expr_mean v b store1 s1) refl q.0 q.1
      (λ takes. condition_runs w v lay bodies inside lo hi free b when target at1 to stack locals1 store1 s1 suited names free_is fits.1 fits.2.1 (omega arith) (omega arith) high has1 (subst (λ (t : Bool). (if t then expr_within v (calls_at inside w) b store1 s1 else true) ≡ true) takes within_b) q.1))
  operation_condition_runs w v lay bodies inside lo hi free n (binary OrIf a b) when target at to stack locals store s suited names free_is fits one_n len low high has within h =
      let at1 : ℕ = at + condition_size a true in
      let end : at + (condition_size a true + condition_size b when) ≡ to = omega arith in
      let first : List Instr = condition_code lay free a true (first_target true when target to) at in
      let second : List Instr = condition_code lay free b when target at1 in
      let has0 : HasAt w.code.instrs at (first ++ second) = subst (λ (j : ℕ). HasAt w.code.instrs at (condition_code lay free a true (first_target true when target j) at ++ second)) end has in
      let has1 = has_back w.code.instrs at at1 first second (ap (λ (j : ℕ). at + j) (condition_length lay free a true (first_target true when target to) at fits.0)) has0 in
      follows_then_is
      (condition_runs w v lay bodies inside lo hi free a true (first_target true when target to) at at1 stack locals store s suited names free_is fits.0 fits.2.0 refl low (omega arith) (has_front w.code.instrs at first second has0) (both_true _ _ within).0 h)
      (λ xs store1 s1 locals1 q is.
      let within_b : (if not (is_true xs) then expr_within v (calls_at inside w) b store1 s1 else true) ≡ true = there (expr_mean v a store s) (λ ys store3 s3. if takes_second OrIf ys then expr_within v (calls_at inside w) b store3 s3 else true) xs store1 s1 (both_true _ _ within).1 is in
      second_by w lo hi target at1 to true when (is_true xs) xs stack locals1 store1 s1 (expr_mean v b store1 s1) refl q.0 q.1
      (λ takes. condition_runs w v lay bodies inside lo hi free b when target at1 to stack locals1 store1 s1 suited names free_is fits.1 fits.2.1 (omega arith) (omega arith) high has1 (subst (λ (t : Bool). (if not t then expr_within v (calls_at inside w) b store1 s1 else true) ≡ true) takes within_b) q.1))
  operation_condition_runs w v lay bodies inside lo hi free n (binary o a b) when target at to stack locals store s suited names free_is fits one_n len low high has within h =
      compared_runs w v lay bodies inside lo hi free n o a b when target at to stack locals store s suited names free_is fits refl len low high has within h
  operation_condition_runs w v lay bodies inside lo hi free n o when target at to stack locals store s suited names free_is fits one_n len low high has within h =
      valued_runs w v lay bodies inside lo hi free n o when target at to stack locals store s suited names free_is fits one_n len low high has within h
