-- The instructions of assignments follow their meaning.
use Rattle.std.proofs.Common.{◌≡◌, ℕ, ◌+◌, ◌-◌, ◌<◌, ◌≤◌, if◌then◌else◌, Bool, true, false, ◌&&◌, List, [], ◌∷◌, ◌++◌, ℤ, pos, ◌+ℤ◌, ◌-ℤ◌, ◌*ℤ◌, length, Option, Some, None, refl, sym, ap, ◌∙◌, subst, arith, append_assoc, length-append, inl}
use Rattle.std.specs.Prelude.{int_div, int_rem, int_le}
use Rattle.std.specs.Int.{int_rem_euclid}
use Rattle.kernel_base.specs.declared.ends.Exc.TheVariants.{Overflow}
use Rattle.world_model.specs.Session.{Session}
use Rattle.modes.specs.declared.mode.Bounds.{Bounds}
use Rattle.modes.specs.ModeTree.{boolean}
use Rattle.modes.specs.Bounds.{bounds_of}
use Rattle.checked_program.specs.declared.expr.Base.{Base}
use Rattle.checked_program.specs.declared.expr.Binary.{Binary}
use Rattle.checked_program.specs.declared.expr.Binary.TheVariants.{Add, Subtract, Multiply, Divide, Modulo, Remainder, And, Or, Xor, AndIf, OrIf}
use Rattle.program_trees.specs.ExprTree.{ExprTree, ReceivedTree, PartNodes, LocationTree, location, count_of, received_count, location_count}
use Rattle.program_trees.specs.StatementTree.{assign, update}
use Rattle.scalar_operators.specs.Numbers.{is_int, where_true, int_result, quotient, remainder, modulus, truth_of}
use Rattle.code_types.specs.declared.instr.Instr.{Instr}
use Rattle.code_types.specs.Steps.{Run}
use Rattle.code_types.specs.declared.instr.Instr.TheVariants as i
use Rattle.source_meaning.specs.Store.{Store, address_of}
use Rattle.source_meaning.specs.Flow.{Flow, Goes, then_do}
use Rattle.source_meaning.specs.Operators.{sole_number, one, truth, Computed, Yields, Throws, yields_or, binary_value, takes_second}
use Rattle.source_meaning.specs.ExprMeaning.{Setting, as_computed, tested, read_at, assign_at, binary_with, expr_mean, received_mean, offset_mean, location_mean}
use Rattle.source_meaning.specs.StatementMeaning.{action_mean}
use Rattle.source_meaning.specs.BodyMeaning.{Bodies}
use Rattle.code_scheme.specs.Pieces.{Layout, first_of_parts, needs_offset, offsets_kept, again_code, contents_code, store_code, between_code, between_size, behind_code, behind_size, check_code, bounds_to_test, bounds_of_operator}
use Rattle.code_scheme.specs.ExprSizes.{expr_size, place_size, indices_size, received_size}
use Rattle.code_scheme.specs.ExprCode.{expr_code, place_code, received_code}
use Rattle.code_scheme.specs.StatementSite.{Standing, layout}
use Rattle.code_scheme.specs.StatementPlain.{assign_code, assign_size, update_code, update_size, update_test, read_size}
use Rattle.follow_laws.specs.Follows.{HasAt, Around, free_in, here, Holds, GetsTo, Follows, always, HoldsWith, on_top, IsLong, Does}
use Rattle.code_laws.specs.BodyBounds.{BodiesWithin}
use Rattle.code_laws.specs.InRange.{FitsExpr, FitsReceived, FitsLocation, OperandsFit, BoundsFit}
use Rattle.code_laws.specs.OwnBounds.{where_goes, lies_in, expr_within, received_within, parts_within}
use Rattle.code_laws.specs.Expressions.{Suited, NamesIn, calls_at}
use Rattle.code_laws.specs.StatementBounds.{assign_within, update_within}
use Rattle.statement_code_laws.specs.Actions.{ActionActs, AssignmentLaw}
use Rattle.statement_code_laws.proofs.PlainRuns.{plain_acts, open_here}
use Rattle.follow_laws.proofs.Running.{has_front, has_back, gets_then, after, follows_then, follows_then_is}
use Rattle.follow_laws.proofs.Instructions.{pushes_by, renamed}
use Rattle.code_laws.proofs.Sizes.{between_length, behind_length, expr_length, received_length, place_length, contents_length, where_length}
use Rattle.code_laws.proofs.Values.{both_true}
use Rattle.code_laws.proofs.OperatorRuns.{held, behind_runs}
use Rattle.code_laws.proofs.BetweenRuns.{between_runs, over_runs}
use Rattle.code_laws.proofs.PlaceRuns.{IsPlace, place_stack, contents_runs, store_runs}
use Rattle.code_laws.proofs.ExprPieces.{assoc, there, tested_runs, place_runs, over_one}
use Rattle.code_laws.proofs.ExprRuns.{fields_fit, over_end, expr_runs, received_runs, indices_runs}

-- the place of a target
pub target_runs : (w : Around) (v : Setting) (lay : Layout) (bodies : Bodies) (inside : BodiesWithin) (lo hi free : ℕ) (b : Base) (ps : PartNodes) (n at : ℕ) (stack locals : List ℤ) (store : Store) (s : Session)
    → Suited w v lay bodies inside → NamesIn w lo hi → free ≡ free_in w → (fits : FitsLocation lay (location b ps n))
    → lo ≤ at → at + place_size (location b ps n) ≤ hi
    → HasAt w.code.instrs at (place_code lay free (location b ps n) at)
    → parts_within v (calls_at inside w) ps store s ≡ true → Holds w store locals
    → Follows w (here w at stack locals s) lo hi [] (always (at + place_size (location b ps n))) (place_stack b ps stack) (HoldsWith w (IsPlace ps fits.0 n)) (offset_mean v ps 0 store s)
target_runs w v lay bodies inside lo hi free b ps n at stack locals store s suited names free_is fits low high has within h =
    place_runs w v lay free b ps fits.0 n at (at + place_size (location b ps n)) lo hi stack locals store s (fields_fit lay ps fits.0 n fits.3)
    (λ t_is h2. indices_runs w v lay bodies inside lo hi free true ps fits.0 n 0 0 at stack locals store s suited names free_is fits.3 (λ z. refl) (let small : 0 + fits.0 < 2147483648 = omega (arith, fits.2) in small) low (let room : at + indices_size true ps ≤ hi = omega (arith, high, ap (λ (t : Bool). if t then indices_size true ps else if needs_offset b ps then 1 else 0) t_is) in room) h2 within h)
    has refl h

assignment_runs : (w : Around) (v : Setting) (st : Standing) (bodies : Bodies) (inside : BodiesWithin) (lo hi n : ℕ) (l : LocationTree) (r : ReceivedTree) (at to : ℕ) (locals : List ℤ) (store : Store) (s : Session)
    → Suited w v (layout st.site) bodies inside → NamesIn w lo hi → st.free ≡ free_in w
    → FitsLocation (layout st.site) l → FitsReceived (layout st.site) r → received_count r ≡ location_count l
    → at + assign_size l r ≡ to → lo ≤ at → to ≤ hi
    → HasAt w.code.instrs at (assign_code st l r at)
    → assign_within v (λ (now : List ℕ). calls_at inside w) l r store s ≡ true
    → Holds w store locals
    → Does w (here w at [] locals s) lo hi [] to (action_mean v n (assign l r) store s)
assignment_runs w v st bodies inside lo hi n (location b ps m) r at to locals store s suited names free_is fits_l fits_r counts len low high has within h =
    let lay : Layout = layout st.site in
    let l : LocationTree = location b ps m in
    let at1 : ℕ = at + place_size l in
    let at2 : ℕ = at1 + received_size r in
    let place : List Instr = place_code lay st.free l at in
    let value : List Instr = received_code lay st.free r at1 in
    let has1 = has_back w.code.instrs at at1 place (value ++ store_code lay l) (ap (λ (j : ℕ). at + j) (place_length lay st.free l at fits_l)) has in
    let has2 = has_back w.code.instrs at1 at2 value (store_code lay l) (ap (λ (j : ℕ). at1 + j) (received_length lay st.free r at1 fits_r)) has1 in
    subst (λ (q : Flow (Unit {0})). Does w (here w at [] locals s) lo hi [] to q) (sym (assoc (offset_mean v ps 0 store s) (λ k. address_of b k) (λ address store1 s1. then_do (received_mean v r store1 s1) (assign_at m address))))
    (follows_then_is
    (target_runs w v lay bodies inside lo hi st.free b ps m at [] locals store s suited names free_is fits_l low (omega arith) (has_front w.code.instrs at place (value ++ store_code lay l) has) (both_true _ _ within).0 h)
    (λ k store1 s1 locals1 q is.
    follows_then
    (received_runs w v lay bodies inside lo hi st.free r at1 at2 (place_stack b ps [] k) locals1 store1 s1 suited names free_is fits_r refl (omega arith) (omega arith) (has_front w.code.instrs at1 value (store_code lay l) has1)
    (there (location_mean v l store s) (λ address store3 s3. received_within v (calls_at inside w) r store3 s3) (address_of b k) store1 s1 (both_true _ _ within).1 (ap (λ (f : Flow ℕ). then_do f (λ j. Goes (address_of b j))) is)) q.1)
    (λ xs store2 s2 locals2 q2.
    store_runs w lay b ps fits_l.0 m k at2 to lo hi [] xs locals2 store2 s2 suited.rows fits_l.1 fits_l.2 q.0 (q2.0 ∙ counts) has2 (omega arith) (omega arith) (omega arith) q2.1)))

-- ---- assignments with an operator

-- the place once more
again_run : (w : Around) (b : Base) (ps : PartNodes) (n k at to : ℕ) (base locals : List ℤ) (s : Session)
    → HasAt w.code.instrs at (again_code (location b ps n)) → at + offsets_kept (location b ps n) ≡ to
    → GetsTo w.code (here w at (place_stack b ps base k) locals s) (here w to (place_stack b ps (place_stack b ps base k) k) locals s)
again_run w b ps n k at to base locals s has e = by_need (needs_offset b ps) has e
  where
    z : ℤ
    z = pos (k - first_of_parts ps)

    by_need : (u : Bool) → HasAt w.code.instrs at (if u then i.Copy 1 ∷ [] else []) → at + (if u then 1 else 0) ≡ to
        → GetsTo w.code (here w at (if u then base ++ one z else base) locals s) (here w to (if u then (if u then base ++ one z else base) ++ one z else (if u then base ++ one z else base)) locals s)
    by_need true h2 e2 =
        gets_then (pushes_by w (i.Copy 1) at base (one z) locals s (z ∷ z ∷ []) h2.0 refl refl)
        (renamed w (at + 1) to (base ++ (z ∷ z ∷ [])) ((base ++ one z) ++ one z) locals s e2 (sym (append_assoc base (one z) (one z))))
    by_need false h2 e2 = renamed w at to base base locals s (let e3 : at ≡ to = omega arith in e3) refl

-- the value of an operator lies in its own bounds
int_inside : (z y : ℤ) → where_true (is_int z) z ≡ Some y → is_int y ≡ true
int_inside z y e = by_test (is_int z) refl e
  where
    by_test : (t : Bool) → is_int z ≡ t → where_true t z ≡ Some y → is_int y ≡ true
    by_test true is f = let same : z ≡ y = cc in subst (λ (x : ℤ). is_int x ≡ true) same is
    by_test false is f = absurd (let no : ⊥ = cc in no)

result_inside : (o : Option ℤ) (zs : List ℤ) → ((y : ℤ) → o ≡ Some y → is_int y ≡ true) → yields_or Overflow o ≡ Yields zs → is_int (sole_number zs) ≡ true
result_inside None zs f e = absurd (let no : ⊥ = cc in no)
result_inside (Some y) zs f e = let same : one y ≡ zs = cc in subst (λ (l : List ℤ). is_int (sole_number l) ≡ true) same (f y refl)

guarded_inside : (t : Bool) (o : Option ℤ) (y : ℤ) → ((x : ℤ) → o ≡ Some x → is_int x ≡ true) → (if t then o else None) ≡ Some y → is_int y ≡ true
guarded_inside true o y f e = f y e
guarded_inside false o y f e = absurd (let no : ⊥ = cc in no)

truth_inside : (b : Bool) (zs : List ℤ) → Yields (truth b) ≡ Yields zs → lies_in (bounds_of boolean) zs ≡ true
truth_inside b zs e = let same : truth b ≡ zs = cc in subst (λ (l : List ℤ). lies_in (bounds_of boolean) l ≡ true) same (by_truth b)
  where
    by_truth : (c : Bool) → lies_in (bounds_of boolean) (truth c) ≡ true
    by_truth true = refl
    by_truth false = refl

operator_lies : (o : Binary) (xs ys zs : List ℤ) → binary_value o xs ys ≡ Yields zs → lies_in (bounds_of_operator o) zs ≡ true
operator_lies Add xs ys zs e = result_inside (int_result (sole_number xs +ℤ sole_number ys)) zs (λ y f. int_inside (sole_number xs +ℤ sole_number ys) y f) e
operator_lies Subtract xs ys zs e = result_inside (int_result (sole_number xs -ℤ sole_number ys)) zs (λ y f. int_inside (sole_number xs -ℤ sole_number ys) y f) e
operator_lies Multiply xs ys zs e = result_inside (int_result (sole_number xs *ℤ sole_number ys)) zs (λ y f. int_inside (sole_number xs *ℤ sole_number ys) y f) e
operator_lies Divide xs ys zs e = result_inside (quotient (sole_number xs) (sole_number ys)) zs (λ y f. guarded_inside (truth_of (sole_number ys)) (int_result (int_div (sole_number xs) (sole_number ys))) y (λ x g. int_inside (int_div (sole_number xs) (sole_number ys)) x g) f) e
operator_lies Modulo xs ys zs e = result_inside (modulus (sole_number xs) (sole_number ys)) zs (λ y f. guarded_inside (int_le (pos 1) (sole_number ys)) (int_result (int_rem_euclid (sole_number xs) (sole_number ys))) y (λ x g. int_inside (int_rem_euclid (sole_number xs) (sole_number ys)) x g) f) e
operator_lies Remainder xs ys zs e = result_inside (remainder (sole_number xs) (sole_number ys)) zs (λ y f. guarded_inside (truth_of (sole_number ys)) (int_result (int_rem (sole_number xs) (sole_number ys))) y (λ x g. int_inside (int_rem (sole_number xs) (sole_number ys)) x g) f) e
operator_lies And xs ys zs e = truth_inside _ zs e
operator_lies Or xs ys zs e = truth_inside _ zs e
operator_lies Xor xs ys zs e = truth_inside _ zs e
operator_lies o xs ys zs e = refl

bounds_one : (bounds : Option Bounds) → BoundsFit bounds 1
bounds_one None = tt
bounds_one (Some b) = refl

-- the value is told with its bounds
told_comes : (w : Around) (m2 : Run) (at lo hi : ℕ) (base : List ℤ) (c : Computed) (own : Option Bounds) (store : Store) (s : Session)
    → ((zs : List ℤ) → c ≡ Yields zs → lies_in own zs ≡ true)
    → Follows w m2 lo hi [] (always at) (on_top base) (HoldsWith w (IsLong 1)) (as_computed c store s)
    → Follows w m2 lo hi [] (always at) (on_top base) (HoldsWith w (λ zs. IsLong 1 zs × (lies_in own zs ≡ true))) (as_computed c store s)
told_comes w m2 at lo hi base (Yields xs) own store s lies f = record { by = record { locals = f.by.locals; holds = ((f.by.holds.0, lies xs refl), f.by.holds.1); by = f.by.by } }
told_comes w m2 at lo hi base (Throws x) own store s lies f = record { by = f.by }

told_too : (w : Around) {m2 : Run} (o : Binary) (xs ys : List ℤ) (at lo hi : ℕ) (base : List ℤ) (store : Store) (s : Session)
    → Follows w m2 lo hi [] (always at) (on_top base) (HoldsWith w (IsLong 1)) (as_computed (binary_value o xs ys) store s)
    → Follows w m2 lo hi [] (always at) (on_top base) (HoldsWith w (λ zs. IsLong 1 zs × (lies_in (bounds_of_operator o) zs ≡ true))) (as_computed (binary_value o xs ys) store s)
told_too w {m2} o xs ys at lo hi base store s f = told_comes w m2 at lo hi base (binary_value o xs ys) (bounds_of_operator o) store s (λ zs e. operator_lies o xs ys zs e) f

-- behind the new value: its test, and the assignment
written_runs : (w : Around) (lay : Layout) (b : Base) (ps : PartNodes) (m : ℕ) (bounds own : Option Bounds) (k at to lo hi : ℕ) (ys locals : List ℤ) (store : Store) (s : Session)
    → lay.rows ≡ w.rows → (fits : FitsLocation lay (location b ps m)) → m ≡ 1 → IsPlace ps fits.0 m k → length ys ≡ 1 → lies_in own ys ≡ true
    → HasAt w.code.instrs at (check_code (bounds_to_test bounds own) ++ store_code lay (location b ps m)) → at + (length (check_code (bounds_to_test bounds own)) + 1) ≡ to → lo ≤ at → to ≤ hi → Holds w store locals
    → Does w (here w at (place_stack b ps [] k ++ ys) locals s) lo hi [] to (then_do (tested bounds ys store s) (assign_at m (address_of b k)))
written_runs w lay b ps m bounds own k at to lo hi ys locals store s rows fits one_m place long lies has len low high h =
    let check : List Instr = check_code (bounds_to_test bounds own) in
    let write : List Instr = store_code lay (location b ps m) in
    let at1 : ℕ = at + length check in
    follows_then
    (tested_runs w bounds own ys 1 at at1 lo hi (place_stack b ps [] k) locals store s (bounds_one bounds) long (inl lies) (has_front w.code.instrs at check write has) refl low (omega arith) h)
    (λ zs store1 s1 locals1 q.
    store_runs w lay b ps fits.0 m k at1 to lo hi [] zs locals1 store1 s1 rows fits.1 fits.2 place (q.0 ∙ sym one_m) (has_back w.code.instrs at at1 check write refl has) (omega arith) (omega arith) (omega arith) q.1)

-- behind the contents of the target
changed_runs : (w : Around) (v : Setting) (lay : Layout) (bodies : Bodies) (inside : BodiesWithin) (lo hi free : ℕ) (b : Base) (ps : PartNodes) (m : ℕ) (o : Binary) (e : ExprTree) (bounds : Option Bounds) (k at to : ℕ) (xs locals : List ℤ) (store : Store) (s : Session)
    → Suited w v lay bodies inside → NamesIn w lo hi → free ≡ free_in w → (fits : FitsLocation lay (location b ps m)) → FitsExpr lay e → OperandsFit o m (count_of e) → m ≡ 1 → IsPlace ps fits.0 m k → length xs ≡ m
    → at + (between_size o bounds + (expr_size e + (behind_size o + (length (update_test o bounds) + 1)))) ≡ to → lo ≤ at → to ≤ hi
    → HasAt w.code.instrs at (between_code o bounds at (expr_size e) ++ (expr_code lay free e (at + between_size o bounds) ++ (behind_code o m ++ (update_test o bounds ++ store_code lay (location b ps m)))))
    → lies_in bounds xs ≡ true → (if takes_second o xs then expr_within v (calls_at inside w) e store s else true) ≡ true
    → Holds w store locals
    → Does w (here w at (place_stack b ps [] k ++ xs) locals s) lo hi [] to (then_do (binary_with o xs (expr_mean v e) store s) (λ ys store3 s3. then_do (tested bounds ys store3 s3) (assign_at m (address_of b k))))
changed_runs w v lay bodies inside lo hi free b ps m o e bounds k at to xs locals store s suited names free_is fits fits_e operands one_m place long len low high has lies within h = by_takes (takes_second o xs) refl within
  where
    all : List Instr
    all = w.code.instrs

    at1 : ℕ
    at1 = at + between_size o bounds

    at2 : ℕ
    at2 = at1 + expr_size e

    at3 : ℕ
    at3 = at2 + behind_size o

    own : Option Bounds
    own = bounds_of_operator o

    base : List ℤ
    base = place_stack b ps [] k

    between : List Instr
    between = between_code o bounds at (expr_size e)

    second : List Instr
    second = expr_code lay free e at1

    behind : List Instr
    behind = behind_code o m

    rest : List Instr
    rest = update_test o bounds ++ store_code lay (location b ps m)

    has1 : HasAt all at1 (second ++ (behind ++ rest))
    has1 = has_back all at at1 between (second ++ (behind ++ rest)) (ap (λ (j : ℕ). at + j) (between_length o bounds at (expr_size e))) has

    has2 : HasAt all at2 (behind ++ rest)
    has2 = has_back all at1 at2 second (behind ++ rest) (ap (λ (j : ℕ). at1 + j) (expr_length lay free e at1 fits_e)) has1

    has3 : HasAt all at3 rest
    has3 = has_back all at2 at3 behind rest (ap (λ (j : ℕ). at2 + j) (behind_length o m)) has2

    fit : OperandsFit o (length xs) (count_of e)
    fit = subst (λ (j : ℕ). OperandsFit o j (count_of e)) (sym long) operands

    none_of : (o : Binary) (xs : List ℤ) → takes_second o xs ≡ false → bounds_of_operator o ≡ None
    none_of AndIf xs f = refl
    none_of OrIf xs f = refl
    none_of o xs f = absurd (let no : ⊥ = cc in no)

    by_takes : (t : Bool) → takes_second o xs ≡ t → (if t then expr_within v (calls_at inside w) e store s else true) ≡ true
        → Does w (here w at (base ++ xs) locals s) lo hi [] to (then_do (if t then then_do (expr_mean v e store s) (λ ys. as_computed (binary_value o xs ys)) else Goes xs store s) (λ ys store3 s3. then_do (tested bounds ys store3 s3) (assign_at m (address_of b k))))
    by_takes true takes within_e =
        after (between_runs w o bounds (count_of e) xs (expr_size e) at base locals s fit takes lies (has_front all at between (second ++ (behind ++ rest)) has))
        (follows_then_is
        (follows_then
        (expr_runs w v lay bodies inside lo hi free e at1 at2 (base ++ held o xs) locals store s suited names free_is fits_e refl (omega arith) (omega arith) (has_front all at1 second (behind ++ rest) has1) within_e h)
        (λ ys store1 s1 locals1 q.
        told_too w o xs ys at3 lo hi base store1 s1 (behind_runs w o m xs ys at2 at3 lo hi base locals1 store1 s1 long (subst (λ (j : ℕ). OperandsFit o m j) (sym q.0) operands) (has_front all at2 behind rest has2) refl (omega arith) (omega arith) q.1)))
        (λ zs store2 s2 locals2 q2 is2.
        written_runs w lay b ps m bounds own k at3 to lo hi zs locals2 store2 s2 suited.rows fits one_m place q2.0.0 q2.0.1 has3 (omega arith) (omega arith) high q2.1))
    by_takes false takes within_e =
        let unbound : lies_in own xs ≡ true = ap (λ (q : Option Bounds). lies_in q xs) (none_of o xs takes) in
        let over : at + (between_size o bounds + expr_size e) ≡ at3 = over_end o bounds xs (expr_size e) at at3 takes (omega arith) in
        after (over_runs w o bounds (count_of e) xs (expr_size e) at at3 base locals s fit takes over (has_front all at between (second ++ (behind ++ rest)) has))
        (written_runs w lay b ps m bounds own k at3 to lo hi xs locals store s suited.rows fits one_m place (over_one o xs (count_of e) fit takes) unbound has3 (omega arith) (omega arith) high h)

update_runs : (w : Around) (v : Setting) (st : Standing) (bodies : Bodies) (inside : BodiesWithin) (lo hi n : ℕ) (l : LocationTree) (o : Binary) (e : ExprTree) (bounds : Option Bounds) (at to : ℕ) (locals : List ℤ) (store : Store) (s : Session)
    → Suited w v (layout st.site) bodies inside → NamesIn w lo hi → st.free ≡ free_in w
    → FitsLocation (layout st.site) l → FitsExpr (layout st.site) e → OperandsFit o (location_count l) (count_of e) → location_count l ≡ 1
    → at + update_size l o e bounds ≡ to → lo ≤ at → to ≤ hi
    → HasAt w.code.instrs at (update_code st l o e bounds at)
    → update_within v (λ (now : List ℕ). calls_at inside w) l o e bounds store s ≡ true
    → Holds w store locals
    → Does w (here w at [] locals s) lo hi [] to (action_mean v n (update l o e bounds) store s)
update_runs w v st bodies inside lo hi n (location b ps m) o e bounds at to locals store s suited names free_is fits_l fits_e operands one_m len low high has within h =
    let lay : Layout = layout st.site in
    let l : LocationTree = location b ps m in
    let at1 : ℕ = at + place_size l in
    let at2 : ℕ = at1 + offsets_kept l in
    let at3 : ℕ = at + read_size l in
    let place : List Instr = place_code lay st.free l at in
    let again : List Instr = again_code l in
    let read : List Instr = contents_code lay l in
    let rest : List Instr = between_code o bounds at3 (expr_size e) ++ (expr_code lay st.free e (at + (read_size l + between_size o bounds)) ++ (behind_code o m ++ (update_test o bounds ++ store_code lay l))) in
    let same : at + (read_size l + between_size o bounds) ≡ at3 + between_size o bounds = omega arith in
    let head = has_front w.code.instrs at (place ++ (again ++ read)) rest has in
    let has1 = has_back w.code.instrs at at1 place (again ++ read) (ap (λ (j : ℕ). at + j) (place_length lay st.free l at fits_l)) head in
    let has2 = has_back w.code.instrs at1 at2 again read (ap (λ (j : ℕ). at1 + j) (where_length l (i.Copy 1 ∷ []) 1 refl)) has1 in
    let has3 : HasAt w.code.instrs at3 rest = has_back w.code.instrs at at3 (place ++ (again ++ read)) rest (omega (arith, length-append place (again ++ read), length-append again read, place_length lay st.free l at fits_l, where_length l (i.Copy 1 ∷ []) 1 refl, contents_length lay l)) has in
    let has4 = subst (λ (j : ℕ). HasAt w.code.instrs at3 (between_code o bounds at3 (expr_size e) ++ (expr_code lay st.free e j ++ (behind_code o m ++ (update_test o bounds ++ store_code lay l))))) same has3 in
    subst (λ (q : Flow (Unit {0})). Does w (here w at [] locals s) lo hi [] to q)
    (sym (assoc (offset_mean v ps 0 store s) (λ k. address_of b k) (λ address store1 s1.
    then_do (read_at m address store1 s1) (λ xs store2 s2.
    then_do (binary_with o xs (expr_mean v e) store2 s2) (λ ys store3 s3.
    then_do (tested bounds ys store3 s3) (assign_at m address))))))
    (follows_then_is
    (target_runs w v lay bodies inside lo hi st.free b ps m at [] locals store s suited names free_is fits_l low (omega arith) (has_front w.code.instrs at place (again ++ read) head) (both_true _ _ within).0 h)
    (λ k store1 s1 locals1 q is.
    after (again_run w b ps m k at1 at2 [] locals1 s1 (has_front w.code.instrs at1 again read has1) refl)
    (follows_then_is
    (contents_runs w lay b ps fits_l.0 m k at2 at3 lo hi (place_stack b ps [] k) locals1 store1 s1 suited.rows fits_l.1 fits_l.2 q.0 has2 (omega arith) (omega arith) (omega arith) q.1)
    (λ xs store2 s2 locals2 q2 is2.
    let within2 = there (location_mean v l store s) (λ address store3 s3. where_goes (read_at m address store3 s3) (λ ys store4 s4. lies_in bounds ys && (if takes_second o ys then expr_within v (calls_at inside w) e store4 s4 else true))) (address_of b k) store1 s1 (both_true _ _ within).1 (ap (λ (f : Flow ℕ). then_do f (λ j. Goes (address_of b j))) is) in
    let within3 = both_true _ _ (there (read_at m (address_of b k) store1 s1) (λ ys store4 s4. lies_in bounds ys && (if takes_second o ys then expr_within v (calls_at inside w) e store4 s4 else true)) xs store2 s2 within2 is2) in
    changed_runs w v lay bodies inside lo hi st.free b ps m o e bounds k at3 to xs locals2 store2 s2 suited names free_is fits_l fits_e operands one_m q.0 q2.0 (omega arith) (omega arith) high has4 within3.0 within3.1 q2.1))))

-- ---- the law

assigned : (l : LocationTree) (r : ReceivedTree) → ActionActs (assign l r)
assigned l r w v st bodies inside n from stands names fits has =
    plain_acts (λ store s locals within h.
    assignment_runs w v st bodies inside from (from + assign_size l r) n l r from (from + assign_size l r) locals store s stands.suited names stands.free fits.0 fits.1 fits.2 refl (omega arith) (omega arith) has (open_here w v inside (λ c. assign_within v (λ (now : List ℕ). c) l r store s) stands.suited.open_now within) h)

updated : (l : LocationTree) (o : Binary) (e : ExprTree) (bounds : Option Bounds) → ActionActs (update l o e bounds)
updated l o e bounds w v st bodies inside n from stands names fits has =
    plain_acts (λ store s locals within h.
    update_runs w v st bodies inside from (from + update_size l o e bounds) n l o e bounds from (from + update_size l o e bounds) locals store s stands.suited names stands.free fits.0 fits.1 fits.2 fits.3 refl (omega arith) (omega arith) has (open_here w v inside (λ c. update_within v (λ (now : List ℕ). c) l o e bounds store s) stands.suited.open_now within) h)

pub assignment_law : AssignmentLaw
assignment_law = record { assigned = assigned; updated = updated }
