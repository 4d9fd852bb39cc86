-- Parts of which one is done, tests of labels, and what leads out of loops and waits.
use Rattle.std.proofs.Common.{◌≡◌, ◌⊎◌, ◌+◌, ◌-◌, ◌≤◌, ◌<◌, ℕ, zero, suc, Bool, true, false, List, [], ◌∷◌, ◌++◌, length, length-append, refl, sym, subst, inl, inr, arith, append-nil, Option, Some, slice_get}
use Rattle.std.specs.Prelude.{if◌then◌else◌, ◌||◌, slice_index_or}
use Rattle.std.proofs.lemmas.List.{append_assoc}
use Rattle.modes.specs.declared.mode.Bounds.{Bounds}
use Rattle.code_types.specs.declared.instr.Instr.{Instr}
use Rattle.code_types.specs.declared.instr.Instr.TheVariants as i
use Rattle.code_types.specs.declared.code.Code.{Code}
use Rattle.code_types.specs.declared.code.Handler.{Handler}
use Rattle.program_trees.specs.ExprTree.{ExprTree, LocationTree}
use Rattle.program_trees.specs.StatementTree.{ControlTree, while_true, for_ever, for_members, for_steps, ActionTree, module_at, region_at, ReceiveNodes, no_receives, more_receives}
use Rattle.code_scheme.specs.Pieces.{are_same, first_in}
use Rattle.code_scheme.specs.ExprSizes.{condition_size}
use Rattle.code_scheme.specs.ExprCode.{condition_code}
use Rattle.code_scheme.specs.StatementSite.{Site, layout, Standing, taking}
use Rattle.code_scheme.specs.StatementGoing.{has_end, has_label, go_on, leave_size, joined}
use Rattle.code_scheme.specs.StatementPlain.{assert_size}
use Rattle.code_scheme.specs.StatementLoops.{constant_step, steps_with, some_while_code, next_size, steps_kept, turn_test, turn_test_size}
use Rattle.code_scheme.specs.StatementWaits.{Receives, receive_wait_size}
use Rattle.code_scheme.specs.StatementSize.{label_code, more_labels_code, labels_code, labels_size, receives_size}
use Rattle.code_scheme.specs.StatementCode.{CodeAt, next_place, joining, chosen, receive_case_code}
use Rattle.code_scheme.specs.StatementRows.{row_for}
use Rattle.code_scheme.specs.BodyCode.{heads_of}
use Rattle.scheme_heights.specs.Stretches.{behind, Outlets, no_outlets, Lands, IsStretch}
use Rattle.scheme_heights.specs.Closed.{inside_or, AreRowsIn, IsBlock, IsOneOf, leads_out}
use Rattle.scheme_heights.specs.StatementCounts.{NumberFits, SetPlaceFits, ActionFits}
use Rattle.scheme_heights.specs.Laws.{to_place}
use Rattle.scheme_heights.proofs.Joining.{join}
use Rattle.scheme_heights.proofs.Parts.{Stretch, end, cons, if_stretch}
use Rattle.scheme_heights.proofs.Conditions.{before_outlets, branch_stretch, condition_stretch}
use Rattle.scheme_heights.proofs.Waits.{nothing_outlet, receive_wait_stretch}
use Rattle.scheme_heights.proofs.Loops.{before_outlets_of, test_outlets, past_lands}
use Rattle.scheme_heights.proofs.Closing.{inside_front, inside_rest, LeadInto, join_blocks, wider, stretch_closed}
use Rattle.scheme_heights.proofs.Blocks.{out_into, goes_out, exits_out, behind_into, place_into, meets_first, resized_block, joining_block, tested_block, last_block}

-- ---- places of EXIT

-- the places to which an EXIT leads are this one or behind it
abbrev pub AreBehind : ℕ → List ℕ → Type 0
AreBehind bound [] = Unit {0}
AreBehind bound (place ∷ places) = (bound ≤ place) × AreBehind bound places

pub behind_less : (bound less : ℕ) (places : List ℕ) → less ≤ bound → AreBehind bound places → AreBehind less places
behind_less bound less [] low behind = tt
behind_less bound less (place ∷ places) low behind = (let b = behind.0 in omega (arith, low, b), behind_less bound less places low behind.1)

pub exit_in : (places : List ℕ) (k : ℕ) → k < length places → IsOneOf places (slice_index_or places k 0)
exit_in [] k low = absurd (let f : ⊥ = omega (arith, low) in f)
exit_in (place ∷ places) zero low = inl refl
exit_in (place ∷ places) (suc k) low = inr (exit_in places k (omega (arith, low)))

pub exit_behind : (bound : ℕ) (places : List ℕ) (k : ℕ) → AreBehind bound places → k < length places → bound ≤ slice_index_or places k 0
exit_behind bound [] k behind low = absurd (let f : ⊥ = omega (arith, low) in f)
exit_behind bound (place ∷ places) zero behind low = behind.0
exit_behind bound (place ∷ places) (suc k) behind low = exit_behind bound places k behind.1 (omega (arith, low))

-- Statements of a body stand before a place, and the places of their labels are not before it.
pub record StandsBefore (body bound : ℕ) (w : Standing) : Type 0 where
  pub is_body : slice_get w.site.program.bodies body ≡ Some w.site.body
  pub exits : AreBehind bound w.exits

-- ---- whether control goes on

pub or_none : (x : Bool) → (x || false) ≡ x
or_none true = refl
or_none false = refl

pub or_swap : (x y : Bool) → (x || y) ≡ (y || x)
or_swap true true = refl
or_swap true false = refl
or_swap false true = refl
or_swap false false = refl

pub or_turn : (x y z : Bool) → ((x || y) || z) ≡ (x || (z || y))
or_turn true y z = refl
or_turn false y z = or_swap y z

pub or_past : (x y z u : Bool) → ((z || u) || (x || y)) ≡ (u || (x || (z || y)))
or_past true true true true = refl
or_past true true true false = refl
or_past true true false true = refl
or_past true true false false = refl
or_past true false true true = refl
or_past true false true false = refl
or_past true false false true = refl
or_past true false false false = refl
or_past false true true true = refl
or_past false true true false = refl
or_past false true false true = refl
or_past false true false false = refl
or_past false false true true = refl
or_past false false true false = refl
or_past false false false true = refl
or_past false false false false = refl

pub goes_same : (heads : Code) (body : ℕ) (exits : List ℕ) (place at n : ℕ) (is : List Instr) (rows : List Handler) (goes on : Bool) → goes ≡ on → IsBlock heads body (leads_out goes place exits) at is rows n → IsBlock heads body (leads_out on place exits) at is rows n
goes_same heads body exits place at n is rows goes on same block = subst (λ (g : Bool). IsBlock heads body (leads_out g place exits) at is rows n) same block

pub place_same : (heads : Code) (body : ℕ) (exits : List ℕ) (goes : Bool) (at n : ℕ) (is : List Instr) (rows : List Handler) (place other : ℕ) → place ≡ other → IsBlock heads body (leads_out goes place exits) at is rows n → IsBlock heads body (leads_out goes other exits) at is rows n
place_same heads body exits goes at n is rows place other same block = subst (λ (p : ℕ). IsBlock heads body (leads_out goes p exits) at is rows n) same block

-- a label but a modulion's name
pub label_goes : (site : Site) (labels : ℕ) (a : ActionTree) → ActionFits site labels a → has_label true a ≡ true
label_goes site labels (module_at ss) fits = absurd fits
label_goes site labels (region_at r ss) fits = absurd fits
label_goes site labels a fits = refl

-- ---- tests of labels

pub label_stretch : (heads : Code) (body at height kept : ℕ) (b : Bounds) → Stretch heads body at height (label_code kept b) (height + 1)
label_stretch heads body at height kept b =
    if_stretch heads body at height (height + 1) (are_same b.low b.high) _ _
    (cons (omega arith) tt tt refl refl (cons (omega arith) tt tt refl refl (cons (omega arith) tt tt refl refl (end (omega arith)))))
    (cons (omega arith) tt tt refl refl (cons (omega arith) tt tt refl refl (cons (omega arith) tt tt refl refl (cons (omega arith) tt tt refl refl
    (cons (omega arith) tt tt refl refl (cons (omega arith) tt tt refl refl (cons (omega arith) tt tt refl refl (cons (omega arith) tt tt refl refl (end (omega arith))))))))))

pub more_labels_stretch : (heads : Code) (body at height kept : ℕ) (bs : List Bounds) → Stretch heads body at (height + 1) (more_labels_code kept bs) (height + 1)
more_labels_stretch heads body at height kept [] = end refl
more_labels_stretch heads body at height kept (b ∷ bs) =
    let n = length (label_code kept b) in
    let or : Stretch heads body (at + n) (height + 1 + 1) (i.Or ∷ []) (height + 1) = cons (omega arith) tt tt refl refl (end (omega arith)) in
    let rest = join heads body (at + n) (height + 1 + 1) (i.Or ∷ []) (more_labels_code kept bs) 1 (length (more_labels_code kept bs)) (height + 1) (height + 1) (at + n + 1) (1 + length (more_labels_code kept bs)) refl refl or (more_labels_stretch heads body (at + n + 1) height kept bs) in
    let all = join heads body at (height + 1) (label_code kept b) _ n (1 + length (more_labels_code kept bs)) (height + 1 + 1) (height + 1) (at + n) _ refl refl (label_stretch heads body at (height + 1) kept b) rest in
    record { steps = all.steps; count = refl; leaves = all.leaves }

pub labels_stretch : (heads : Code) (body at height kept : ℕ) (bs : List Bounds) → Stretch heads body at height (labels_code kept bs) (height + 1)
labels_stretch heads body at height kept [] = cons (omega arith) tt tt refl refl (end (omega arith))
labels_stretch heads body at height kept (b ∷ bs) =
    let n = length (label_code kept b) in
    let all = join heads body at height (label_code kept b) (more_labels_code kept bs) n (length (more_labels_code kept bs)) (height + 1) (height + 1) (at + n) _ refl refl (label_stretch heads body at height kept b) (more_labels_stretch heads body (at + n) height kept bs) in
    record { steps = all.steps; count = refl; leaves = all.leaves }

pub label_length : (kept other : ℕ) (b : Bounds) → length (label_code kept b) ≡ length (label_code other b)
label_length kept other b = either (are_same b.low b.high)
  where
    either : (one' : Bool) → length (if one' then i.Local kept 1 ∷ i.Push b.low ∷ i.Same 1 ∷ [] else i.Local kept 1 ∷ i.Push b.low ∷ i.Less 1 ∷ i.Push b.high ∷ i.Local kept 1 ∷ i.Less 1 ∷ i.Or ∷ i.Not ∷ []) ≡ length (if one' then i.Local other 1 ∷ i.Push b.low ∷ i.Same 1 ∷ [] else i.Local other 1 ∷ i.Push b.low ∷ i.Less 1 ∷ i.Push b.high ∷ i.Local other 1 ∷ i.Less 1 ∷ i.Or ∷ i.Not ∷ [])
    either true = refl
    either false = refl

pub more_labels_length : (kept other : ℕ) (bs : List Bounds) → length (more_labels_code kept bs) ≡ length (more_labels_code other bs)
more_labels_length kept other [] = refl
more_labels_length kept other (b ∷ bs) =
    let a = label_length kept other b in
    let c = more_labels_length kept other bs in
    let l = length-append (label_code kept b) (i.Or ∷ more_labels_code kept bs) in
    let m = length-append (label_code other b) (i.Or ∷ more_labels_code other bs) in
    omega (arith, a, c, l, m)

pub labels_length : (kept : ℕ) (bs : List Bounds) → length (labels_code kept bs) ≡ labels_size bs
labels_length kept [] = refl
labels_length kept (b ∷ bs) =
    let a = label_length kept 0 b in
    let c = more_labels_length kept 0 bs in
    let l = length-append (label_code kept b) (more_labels_code kept bs) in
    let m = length-append (label_code 0 b) (more_labels_code 0 bs) in
    omega (arith, a, c, l, m)

-- a Boolean is found, and where it is FALSE control goes to the next part
pub chosen_stretch : (heads : Code) (body at c target : ℕ) (test : List Instr) → at + c < target → IsStretch heads body no_outlets at 0 test c 1 → IsStretch heads body (to_place target 0) at 0 (test ++ i.Unless target ∷ []) (c + 1) 0
chosen_stretch heads body at c target test low tests = before_outlets heads body (to_place target 0) at 0 test (i.Unless target ∷ []) c 1 1 0 (at + c) (c + 1) refl refl tests (branch_stretch heads body (at + c) 0 target false (omega (arith, low)))

-- ---- parts of which one is done

-- what a part is done for, and what stands behind the part
pub chosen_block : (heads : Code) (body : ℕ) (exits : List ℕ) (goes on : Bool) (at c n m place : ℕ) (test : List Instr) (actions : CodeAt) (b : List Instr) (some rows : List Handler) → place ≡ at + (c + suc n + (leave_size goes m + m)) → IsStretch heads body no_outlets at 0 test c 1
    → IsBlock heads body (leads_out goes (at + c + 1 + n) exits) (at + c + 1) (actions (at + c + 1)) some n → IsBlock heads body (leads_out on place exits) (next_place at (c + suc n) goes m) b rows m
    → IsBlock heads body (leads_out (on || goes) place exits) at (test ++ (chosen actions n goes m place (at + c) ++ b)) (some ++ rows) (joined (c + suc n) goes m)
chosen_block heads body exits goes on at c n m place test actions b some rows there tests first second =
    let l = leave_size goes m in
    let p = next_place at (c + suc n) goes m in
    let target : next_place (at + c) (suc n) goes m ≡ p = omega arith in
    let part = joining_block heads body exits goes (at + c + 1) n m place (actions (at + c + 1)) some (omega (arith, there)) first in
    let whole = tested_block heads body exits goes on at (at + (c + 1)) p (c + 1) (n + l) m place (test ++ i.Unless p ∷ []) (joining (actions (at + c + 1)) goes m place) b some rows refl (omega arith) (chosen_stretch heads body at c p test (omega arith) tests)
    (subst (λ (x : ℕ). IsBlock heads body (leads_out goes place exits) x (joining (actions (at + c + 1)) goes m place) some (n + l)) (let e : at + c + 1 ≡ at + (c + 1) = omega arith in e) part) second in
    let grouped = subst (λ (is : List Instr). IsBlock heads body (leads_out (on || goes) place exits) at is (some ++ rows) (c + 1 + (n + l + m))) (append_assoc test (i.Unless p ∷ []) (joining (actions (at + c + 1)) goes m place ++ b)) whole in
    subst (λ (x : ℕ). IsBlock heads body (leads_out (on || goes) place exits) at (test ++ (i.Unless x ∷ (joining (actions (at + c + 1)) goes m place ++ b))) (some ++ rows) (joined (c + suc n) goes m)) (sym target)
    (resized_block (joined (c + suc n) goes m) (omega arith) grouped)

-- the place behind a label's statement is one to which an EXIT leads
pub unlabelled : (heads : Code) (body : ℕ) (exits : List ℕ) (place at n : ℕ) (is : List Instr) (rows : List Handler) (goes : Bool) → IsBlock heads body (leads_out goes place (place ∷ exits)) at is rows n → IsBlock heads body (leads_out true place exits) at is rows n
unlabelled heads body exits place at n is rows goes block = wider (leads_out true place exits) (out_into goes place (place ∷ exits) (leads_out true place exits) (λ on. goes_out true place exits refl) inside) block
  where
    inside : (to : ℕ) → IsOneOf (place ∷ exits) to → leads_out true place exits to 0
    inside to (inl here) = (refl, inl (refl, sym here))
    inside to (inr exit) = exits_out true place exits to exit

-- ASSERTFAIL, where the condition doesn't lead behind it
pub assert_block : (w : Standing) (body at : ℕ) (e : ExprTree) → NumberFits w.site.program e → IsBlock (heads_of w.site.program) body (leads_out true (at + assert_size e) w.exits) at (condition_code (layout w.site) w.free e true (at + (condition_size e true + 1)) at ++ i.Raise 3 ∷ []) [] (assert_size e)
assert_block w body at e fits =
    let heads = heads_of w.site.program in
    let n = condition_size e true in
    let out = leads_out true (at + (n + 1)) w.exits in
    let raise = last_block heads body w.exits (at + n) (at + (n + 1)) (i.Raise 3) refl tt tt refl refl (omega arith) in
    join_blocks out {some = []} refl refl
    (behind_into (to_place (at + (n + 1)) 0) (at + n) (inside_or heads (at + n) 0 (i.Raise 3 ∷ []) out) (inl (meets_first heads (at + n) (i.Raise 3 ∷ []) (omega arith))) (place_into (at + (n + 1)) (inside_or heads (at + n) 0 (i.Raise 3 ∷ []) out) (inr (goes_out true (at + (n + 1)) w.exits refl))))
    (λ to k go. inr (out_into false (at + (n + 1)) w.exits out (λ on. absurd (let f : ⊥ = cc in f)) (exits_out true (at + (n + 1)) w.exits) to k go))
    (record { closed = stretch_closed (condition_stretch (layout w.site) body w.free e fits.0 fits.1 true (at + (n + 1)) at 0 (omega arith)); handled = tt }) raise

-- ---- loops

-- out of what stands before the turns, and out of the test
pub firsts_into : (w : Standing) (body at : ℕ) (c : ControlTree) (place : ℕ) → at + turn_test_size c ≤ place → LeadInto (before_outlets_of c place at) (λ to h. Lands (heads_of w.site.program) at 0 (turn_test w c place at) to h ⊎ leads_out (has_end c) place w.exits to h)
firsts_into w body at (while_true e) place low to h go = absurd go
firsts_into w body at for_ever place low to h go = absurd go
firsts_into w body at (for_members counter e bottom condition) place low to h go = absurd go
firsts_into w body at (for_steps counter from step up down condition) place low to h (inl behind) = inr (behind.1, inl (refl, behind.0))
firsts_into w body at (for_steps counter from step up down condition) place low to h (inr past) =
    let heads = heads_of w.site.program in
    let c = steps_with (first_in (slice_get w.site.body.locals counter)) (constant_step step) down w.free in
    let test = turn_test w (for_steps counter from step up down condition) place at in
    let lands = past_lands heads body at c place (some_while_code (taking w (steps_kept step)) condition place (at + next_size)) (omega (arith, low)) in
    inl (subst (λ (x : ℕ). Lands heads at 0 test x h) (sym past.0) (subst (λ (x : ℕ). Lands heads at 0 test (at + 8) x) (sym past.1) lands))

pub tests_into : (w : Standing) (c : ControlTree) (place : ℕ) → LeadInto (test_outlets c place) (leads_out (has_end c) place w.exits)
tests_into w (while_true e) place to h go = (go.1, inl (refl, go.0))
tests_into w for_ever place to h go = absurd go
tests_into w (for_members counter e bottom condition) place to h go = (go.1, inl (refl, go.0))
tests_into w (for_steps counter from step up down condition) place to h go = (go.1, inl (refl, go.0))

pub label_is : (x y : Bool) → x ≡ true → true ≡ (x || y)
label_is true y is = refl
label_is false y is = absurd (let f : ⊥ = cc in f)

pub or_left_true : (x y : Bool) → x ≡ true → (x || y) ≡ true
or_left_true true y is = refl
or_left_true false y is = absurd (let f : ⊥ = cc in f)

pub or_left : (x y z : Bool) → x ≡ true → ((x || y) || z) ≡ true
or_left true y z is = refl
or_left false y z is = absurd (let f : ⊥ = cc in f)

-- control comes to what stands behind other instructions
pub entry_rest : (heads : Code) (exits : List ℕ) (goes on : Bool) (place from at : ℕ) (x b : List Instr) (n : ℕ) → at ≡ from + n → (goes ≡ true → on ≡ true) → length x ≡ n → behind heads 0 x ≡ 0 → inside_or heads at 0 b (leads_out goes place exits) at 0 → inside_or heads from 0 (x ++ b) (leads_out on place exits) at 0
entry_rest heads exits goes on place from at x b n there same count leaves entry =
    inside_rest heads from 0 at 0 x b (leads_out goes place exits) (leads_out on place exits) at 0 (omega (arith, there, count)) leaves
    (λ out. inr (out_into goes place exits (leads_out on place exits) (λ is. goes_out on place exits (same is)) (exits_out on place exits) at 0 out)) entry

-- an alternative before the others, behind what stands before them
pub regroup_handled : (heads : Code) (body : ℕ) (exits : List ℕ) (from until at place : ℕ) (x part rest : List Instr) (some own others : List Handler) (n m k size : ℕ) (names : List ℕ) (more : List Handler) (goes on part_goes : Bool) → n + m + k ≡ size → goes ≡ on → from ≤ until → until ≤ at → at ≡ from + n → (part_goes ≡ true → goes ≡ true) → length x ≡ n → behind heads 0 x ≡ 0 → inside_or heads at 0 part (leads_out part_goes place exits) at 0
    → IsBlock heads body (leads_out goes place exits) from ((x ++ part) ++ rest) ((some ++ own) ++ others) (n + m + k) × AreRowsIn heads from (leads_out goes place exits) from ((x ++ part) ++ rest) more
    → IsBlock heads body (leads_out on place exits) from (x ++ (part ++ rest)) (some ++ (own ++ others)) size × AreRowsIn heads from (leads_out on place exits) from (x ++ (part ++ rest)) (row_for from until names false at ∷ more)
regroup_handled heads body exits from until at place x part rest some own others n m k size names more goes on part_goes sum same first last there leads count leaves entry known =
    let code = append_assoc x part rest in
    let rows = append_assoc some own others in
    let out = leads_out goes place exits in
    let block = subst (λ (is : List Instr). IsBlock heads body out from is (some ++ (own ++ others)) (n + m + k)) code (subst (λ (rs : List Handler). IsBlock heads body out from ((x ++ part) ++ rest) rs (n + m + k)) rows known.0) in
    let others' = subst (λ (is : List Instr). AreRowsIn heads from out from is more) code known.1 in
    let target : inside_or heads from 0 (x ++ (part ++ rest)) out at 0 =
    inside_rest heads from 0 at 0 x (part ++ rest) out out at 0 (omega (arith, there, count)) leaves (λ go. inr go)
    (inside_front heads at 0 part rest (leads_out part_goes place exits) out at 0 (λ go. inr (out_into part_goes place exits out (λ is. goes_out goes place exits (leads is)) (exits_out goes place exits) at 0 go)) entry) in
    let all : AreRowsIn heads from out from (x ++ (part ++ rest)) (row_for from until names false at ∷ more) = (record { from = omega arith; ordered = first; behind_range = last; level = refl; target = target }, others') in (
      resized_block size sum (goes_same heads body exits place from (n + m + k) _ _ goes on same block),
      subst (λ (g : Bool). AreRowsIn heads from (leads_out g place exits) from (x ++ (part ++ rest)) (row_for from until names false at ∷ more)) same all,
    )

-- what stands behind a part stands behind its test
pub chosen_into : (heads : Code) (body : ℕ) (exits : List ℕ) (goes : Bool) (at c n m place : ℕ) (test : List Instr) (actions : CodeAt) (b : List Instr) (some : List Handler) (more : Outlets) → place ≡ at + (c + suc n + (leave_size goes m + m)) → IsStretch heads body no_outlets at 0 test c 1
    → IsBlock heads body (leads_out goes (at + c + 1 + n) exits) (at + c + 1) (actions (at + c + 1)) some n → LeadInto (inside_or heads (next_place at (c + suc n) goes m) 0 b more) (inside_or heads at 0 (test ++ (chosen actions n goes m place (at + c) ++ b)) more)
chosen_into heads body exits goes at c n m place test actions b some more there tests first to k come =
    let p = next_place at (c + suc n) goes m in
    let target : next_place (at + c) (suc n) goes m ≡ p = omega arith in
    let part = joining_block heads body exits goes (at + c + 1) n m place (actions (at + c + 1)) some (omega (arith, there)) first in
    let count = part.closed.count in
    let tested = chosen_stretch heads body at c p test (omega arith) tests in
    let many = tested.count in
    let inner = inside_rest heads (at + c + 1) 0 p 0 (joining (actions (at + c + 1)) goes m place) b more more to k (omega (arith, count)) part.closed.leaves (λ out. inr out) come in
    let outer = inside_rest heads at 0 (at + c + 1) 0 (test ++ i.Unless p ∷ []) (joining (actions (at + c + 1)) goes m place ++ b) more more to k (omega (arith, many)) tested.leaves (λ out. inr out) inner in
    subst (λ (x : ℕ). inside_or heads at 0 (test ++ (i.Unless x ∷ (joining (actions (at + c + 1)) goes m place ++ b))) more to k) (sym target)
    (subst (λ (is : List Instr). inside_or heads at 0 is more to k) (append_assoc test (i.Unless p ∷ []) (joining (actions (at + c + 1)) goes m place ++ b)) outer)

-- ---- waits

pub nothing_into : (has_else : Bool) (place : ℕ) (comes : Outlets) → comes place 0 → LeadInto (nothing_outlet has_else place 0) comes
nothing_into false place comes on to k go = absurd go
nothing_into true place comes on to k go = place_into place comes on to k go

-- a wait before its alternatives
pub receive_block : (w : Standing) (body : ℕ) (receives : Receives) (set : Option LocationTree) (rs : ReceiveNodes) (some : Bool) (at size last place : ℕ) (alternatives : CodeAt) (rows : List Handler) → SetPlaceFits w.site.program set → last ≤ size → place ≡ at + (receive_wait_size set rs some + size)
    → IsBlock (heads_of w.site.program) body (leads_out true place w.exits) (at + receive_wait_size set rs some) (alternatives (at + receive_wait_size set rs some)) rows size
    → inside_or (heads_of w.site.program) (at + receive_wait_size set rs some) 0 (alternatives (at + receive_wait_size set rs some)) (leads_out true place w.exits) (place - last) 0
    → IsBlock (heads_of w.site.program) body (leads_out true place w.exits) at (receive_case_code w receives set rs some size last alternatives at) rows (receive_wait_size set rs some + size)
receive_block w body receives set rs some at size last place alternatives rows fits less there block entry =
    let heads = heads_of w.site.program in
    let n = receive_wait_size set rs some in
    let target = (at + (n + size)) - last in
    let same : place - last ≡ target = omega (arith, there) in
    let inner = inside_or heads (at + n) 0 (alternatives (at + n)) (leads_out true place w.exits) in
    let wait = receive_wait_stretch w body at 0 receives set rs some target fits (omega (arith, less)) in
    join_blocks (leads_out true place w.exits) {some = []} {rows = rows} refl refl
    (behind_into (nothing_outlet some target 0) (at + n) inner block.closed.entry (nothing_into some target inner (subst (λ (x : ℕ). inner x 0) same entry)))
    (λ to k out. inr out) (record { closed = stretch_closed wait; handled = tt }) block

pub receives_more : (site : Site) (rs : ReceiveNodes) (last : ℕ) → last ≤ receives_size site rs last
receives_more site no_receives last = omega arith
receives_more site (more_receives source ks ss rs) last =
    let less = receives_more site rs last in
    let l = leave_size (go_on ss) (receives_size site rs last) in
    omega (arith, less)

-- ---- statements

pub if_low : (goes : Bool) (at n m bound : ℕ) → goes ≡ true → at + (n + (if goes then m else 0)) ≤ bound → at + n + m ≤ bound
if_low true at n m bound is low = omega (arith, low)
if_low false at n m bound is low = absurd (let f : ⊥ = cc in f)

pub no_leave : (goes : Bool) → leave_size goes 0 ≡ 0
no_leave true = refl
no_leave false = refl

-- no handler behind what isn't guarded
pub unhandled : (heads : Code) (body : ℕ) (exits : List ℕ) (comes : Bool) (from n at : ℕ) (x : List Instr) (some : List Handler) → at ≡ from + n → IsBlock heads body (leads_out comes at exits) from x some n
    → IsBlock heads body (leads_out (comes || false) (from + joined n comes 0) exits) from (x ++ []) (some ++ []) (joined n comes 0)
unhandled heads body exits comes from n at x some there block =
    let none = no_leave comes in
    let size : n ≡ joined n comes 0 = omega (arith, none) in
    subst (λ (is : List Instr). IsBlock heads body (leads_out (comes || false) (from + joined n comes 0) exits) from is (some ++ []) (joined n comes 0)) (sym (append-nil x))
    (subst (λ (rs : List Handler). IsBlock heads body (leads_out (comes || false) (from + joined n comes 0) exits) from x rs (joined n comes 0)) (sym (append-nil some))
    (resized_block (joined n comes 0) size (place_same heads body exits (comes || false) from n x some at (from + joined n comes 0) (omega (arith, there, none))
    (goes_same heads body exits at from n x some comes (comes || false) (sym (or_none comes)) block))))
