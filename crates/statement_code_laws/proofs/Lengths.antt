-- The code of each statement has as many instructions as its size says.
use Rattle.std.proofs.Common.{◌≡◌, ℕ, zero, suc, ◌+◌, ◌*◌, if◌then◌else◌, Bool, true, false, List, [], ◌∷◌, ◌++◌, ℤ, pos, length, Option, Some, None, slice_get, refl, ap, arith, length-append}
use Rattle.modes.specs.declared.mode.Bounds.{Bounds}
use Rattle.modes.specs.ModeTree.{int}
use Rattle.modes.specs.Bounds.{bounds_of}
use Rattle.checked_program.specs.declared.expr.Base.{Base}
use Rattle.checked_program.specs.declared.expr.Base.TheVariants.{Shared, Local}
use Rattle.program_trees.specs.ExprTree.{ExprTree, ReceivedTree, LocationTree, received_count, location_count}
use Rattle.program_trees.specs.ProgramTree.{LocalRowTree}
use Rattle.program_trees.specs.StatementTree.{SentTree, to_buffer, signal, ControlTree, while_true, for_ever, for_members, for_steps, StatementTree, statement, ActionTree, do_nothing, declare, set_lowest, module_at, region_at, assign, update, perform, drop_routine, evaluate, put_int, put_text, put_line, exit_from, return_with, set_result, assert_that, cause, stop, start_of, delay, continue_at, send, if_then, case_of, do_loop, begin_end, delay_case, receive_buffers, receive_signals, StatementNodes, no_statements, more_statements, ChoiceNodes, no_choices, more_choices, CaseNodes, no_cases, more_cases, DelayNodes, no_delays, more_delays, ReceiveNodes, no_receives, more_receives, OtherwiseNode, no_otherwise, otherwise, HandledNodes, no_handled, more_handled, HandlerNode, no_handler, handler}
use Rattle.code_types.specs.declared.instr.Instr.{Instr}
use Rattle.code_types.specs.declared.instr.Instr.TheVariants as i
use Rattle.code_scheme.specs.Pieces.{Layout, first_in, store_code, kept_code, are_same, scalars_code, member_code, branch_code}
use Rattle.code_scheme.specs.ExprSizes.{expr_size}
use Rattle.code_scheme.specs.ExprCode.{expr_code, received_code}
use Rattle.code_scheme.specs.StatementSite.{Standing, layout, taking}
use Rattle.code_scheme.specs.StatementGoing.{go_on, goes_on, action_goes_on, leave_size, leave_code}
use Rattle.code_scheme.specs.StatementPlain.{offset_of_name, name_code, names_code, keeping_code, declare_code, name_size, names_size, keeping_size, declare_size, set_lowest_code, set_lowest_size, receiver_code, receiver_size, send_code, send_size}
use Rattle.code_scheme.specs.StatementLoops.{Step, by_constant, by_kept, Steps, steps_with, step_from, constant_step, some_while_code, some_while_size, members_test, members_test_size, within_code, within_size, step_code, step_size, step_bounds, bounds_code, bounds_size, rest_code, nearest_code, nearer_code, near_end_code, moved_end_code, is_one, limit_code, first_value_code, first_value_size, before_code, by_step, forth, next_code, before_turns, before_turns_size, control_code, control_size, locals_kept}
use Rattle.code_scheme.specs.StatementWaits.{chosen_in, receive_instr, set_place_code, set_place_size, set_code, set_size, events_code, all_events_code, count_of_events, delay_wait_code, delay_wait_size, sources_code, count_of_sources, Receives, from_buffers, of_signals, nothing_code, has_else, receive_wait_code, receive_wait_size}
use Rattle.code_scheme.specs.StatementSize.{label_code, more_labels_code, labels_code, labels_size, statements_size, statement_size, handler_size, handled_size, otherwise_size, choices_size, cases_size, delays_size, receives_size, action_size}
use Rattle.code_scheme.specs.StatementCode.{CodeAt, no_label_code, next_place, labelled_around, joining, statements_code, statement_code, handler_code, handled_code, otherwise_code, action_code, choices_code, cases_code, delays_code, receives_code}
use Rattle.code_laws.specs.InRange.{FitsReceived}
use Rattle.code_laws.proofs.Sizes.{between_length, behind_length, expr_length, received_length, all_length, place_length, contents_length, store_length, where_length, call_length, start_length}
use Rattle.code_laws.specs.StatementsInRange.{FitsSomeNumber, FitsSent, FitsSet, FitsControl, FitsStatements, FitsStatement, FitsHandler, FitsHandled, FitsOtherwise, FitsAction, FitsChoices, FitsCases, FitsDelays, FitsReceives}
use Rattle.statement_code_laws.proofs.ConditionRuns.{condition_length}

-- ---- lists of instructions

pub both_long : (a b : List Instr) {m n : ℕ} → length a ≡ m → length b ≡ n → length (a ++ b) ≡ m + n
both_long a b {m} {n} p q = omega (arith, length-append a b)

pub leave_length : (goes : Bool) (rest behind : ℕ) → length (leave_code goes rest behind) ≡ leave_size goes rest
leave_length false rest behind = refl
leave_length true zero behind = refl
leave_length true (suc rest) behind = refl

-- ---- parts of actions

name_length : (lay : Layout) (b : Base) (n : ℕ) → length (name_code lay b n) ≡ 1
name_length lay (Shared l) n = refl
name_length lay (Local k) n = refl

size_is : (b : Base) → length (offset_of_name b) + 1 ≡ name_size b
size_is (Shared l) = refl
size_is (Local k) = refl

names_length : (lay : Layout) (free n : ℕ) (bs : List Base) → length (names_code lay free n bs) ≡ names_size bs
names_length lay free n [] = refl
names_length lay free n (b ∷ bs) =
    omega (arith, size_is b, length-append (offset_of_name b) (i.Local free n ∷ (name_code lay b n ++ names_code lay free n bs)), length-append (name_code lay b n) (names_code lay free n bs), name_length lay b n, names_length lay free n bs)

keeping_length : (st : Standing) (bs : List Base) (r : ReceivedTree) (at : ℕ) → FitsReceived (layout st.site) r → length (keeping_code st bs r at) ≡ keeping_size bs r
keeping_length st bs r at fits = both_long _ _ (received_length (layout st.site) st.free r at fits) (ap suc (names_length (layout st.site) st.free (received_count r) bs))

declare_length : (st : Standing) (bs : List Base) (r : ReceivedTree) (at : ℕ) → FitsReceived (layout st.site) r → length (declare_code st bs r at) ≡ declare_size bs r
declare_length st [] r at fits = keeping_length st [] r at fits
declare_length st (b ∷ []) r at fits =
    let lay : Layout = layout st.site in
    let at1 : ℕ = at + length (offset_of_name b) in
    omega (arith, size_is b, both_long (offset_of_name b) _ refl (both_long (received_code lay st.free r at1) (name_code lay b (received_count r)) (received_length lay st.free r at1 fits) (name_length lay b (received_count r))))
declare_length st (b ∷ c ∷ bs) r at fits = keeping_length st (b ∷ c ∷ bs) r at fits

lowest_length : (lay : Layout) (ks : List ℕ) (xs : List ℤ) → length (set_lowest_code lay ks xs) ≡ set_lowest_size ks xs
lowest_length lay [] xs = refl
lowest_length lay (k ∷ ks) xs = omega (arith, lowest_length lay ks xs, length-append (scalars_code xs) (i.SetLocal (first_in (slice_get lay.rows k)) (length xs) ∷ set_lowest_code lay ks xs))

receiver_length : (st : Standing) (to : Option ExprTree) (at : ℕ) → FitsSomeNumber (layout st.site) to → length (receiver_code st to at) ≡ receiver_size to
receiver_length st None at fits = refl
receiver_length st (Some e) at fits = expr_length (layout st.site) st.free e at fits.0

send_length : (st : Standing) (t : SentTree) (priority at : ℕ) → FitsSent (layout st.site) t → length (send_code st t priority at) ≡ send_size t
send_length st (to_buffer b r) priority at fits = both_long _ _ (received_length (layout st.site) st.free r at fits) refl
send_length st (signal n rs to) priority at fits = both_long _ _ (all_length (layout st.site) st.free rs at fits.0) (both_long _ _ (receiver_length st to _ fits.1) refl)

-- ---- labels of a CASE

label_length : (kept : ℕ) (b : Bounds) → length (label_code kept b) ≡ length (label_code 0 b)
label_length kept b = by_test (are_same b.low b.high)
  where
    by_test : (t : Bool) → length (if t then i.Local kept 1 ∷ i.Push b.low ∷ i.Same 1 ∷ [] else i.Local kept 1 ∷ i.Push b.low ∷ i.Less 1 ∷ i.Push b.high ∷ i.Local kept 1 ∷ i.Less 1 ∷ i.Or ∷ i.Not ∷ []) ≡ length (if t then i.Local 0 1 ∷ i.Push b.low ∷ i.Same 1 ∷ [] else i.Local 0 1 ∷ i.Push b.low ∷ i.Less 1 ∷ i.Push b.high ∷ i.Local 0 1 ∷ i.Less 1 ∷ i.Or ∷ i.Not ∷ [])
    by_test true = refl
    by_test false = refl

more_labels_length : (kept : ℕ) (bs : List Bounds) → length (more_labels_code kept bs) ≡ length (more_labels_code 0 bs)
more_labels_length kept [] = refl
more_labels_length kept (b ∷ bs) =
    omega (arith, label_length kept b, more_labels_length kept bs, length-append (label_code kept b) (i.Or ∷ more_labels_code kept bs), length-append (label_code 0 b) (i.Or ∷ more_labels_code 0 bs))

pub labels_length : (kept : ℕ) (bs : List Bounds) → length (labels_code kept bs) ≡ labels_size bs
labels_length kept [] = refl
labels_length kept (b ∷ bs) =
    omega (arith, label_length kept b, more_labels_length kept bs, length-append (label_code kept b) (more_labels_code kept bs), length-append (label_code 0 b) (more_labels_code 0 bs))

-- ---- controls of a DO

some_while_length : (st : Standing) (e : Option ExprTree) (behind at : ℕ) → FitsSomeNumber (layout st.site) e → length (some_while_code st e behind at) ≡ some_while_size e
some_while_length st None behind at fits = refl
some_while_length st (Some e) behind at fits = condition_length (layout st.site) st.free e false behind at fits.0

pub members_length : (left counter : ℕ) (low : ℤ) (behind : ℕ) → length (members_test left counter low behind) ≡ members_test_size low
members_length left counter low behind =
    omega (arith, length-append (member_code low) (i.SetLocal counter 1 ∷ i.Copy 1 ∷ i.Span ∷ i.BitMinus ∷ i.SetLocal left 1 ∷ []))

within_length : (st : Standing) (b : Option Bounds) (e : ExprTree) (at : ℕ) → FitsSomeNumber (layout st.site) (Some e) → length (within_code st b e at) ≡ within_size b e
within_length st b e at fits = both_long _ _ (expr_length (layout st.site) st.free e at fits.0) refl

step_length : (st : Standing) (o : Option ℤ) (step : Option ExprTree) (at : ℕ) → FitsSomeNumber (layout st.site) step → length (step_code st o step at) ≡ step_size o step
step_length st (Some d) step at fits = refl
step_length st None None at fits = refl
step_length st None (Some e) at fits = within_length st step_bounds e at fits

pub bounds_length : (st : Standing) (from : ExprTree) (step : Option ExprTree) (to : ExprTree) (at : ℕ) → FitsSomeNumber (layout st.site) (Some from) → FitsSomeNumber (layout st.site) step → FitsSomeNumber (layout st.site) (Some to) → length (bounds_code st from step to at) ≡ bounds_size from step to
bounds_length st from step to at fits_from fits_step fits_to =
    both_long _ _ (within_length st (bounds_of int) from at fits_from) (both_long _ _ (step_length st (constant_step step) step _ fits_step) (both_long _ _ (within_length st (bounds_of int) to _ fits_to) refl))

-- what the limit's length goes by
abbrev rest_size : Step → ℕ
rest_size (by_constant d) = 1
rest_size (by_kept k) = 3

rest_length : (s : Step) → length (rest_code s) ≡ rest_size s
rest_length (by_constant d) = refl
rest_length (by_kept k) = refl

nearest_length : (c : Steps) → length (nearest_code c) ≡ rest_size c.step + 2
nearest_length c = omega (arith, rest_length c.step, length-append (rest_code c.step) (i.Sub ∷ []), length-append (rest_code c.step) ((if c.down then i.Sub else i.Add) ∷ []))

nearer_length : (c : Steps) → length (nearer_code c) ≡ rest_size c.step + 3
nearer_length c = by_way c.down
  where
    by_way : (t : Bool) → length (if t then nearest_code c ++ i.Local c.end 1 ∷ [] else i.Local c.end 1 ∷ nearest_code c) ≡ rest_size c.step + 3
    by_way true = omega (arith, nearest_length c, length-append (nearest_code c) (i.Local c.end 1 ∷ []))
    by_way false = omega (arith, nearest_length c)

limit_length : (c d : Steps) (at : ℕ) → is_one c.step ≡ is_one d.step → rest_size c.step ≡ rest_size d.step → length (limit_code c at) ≡ length (limit_code d 0)
limit_length c d at one_is size_same = by_one (is_one c.step) (is_one d.step) one_is
  where
    long : (e : Steps) (p : ℕ) → length (near_end_code e p ++ moved_end_code e) ≡ (rest_size e.step + 3) + ((2 + ((rest_size e.step + 2) + 1)) + (1 + (rest_size e.step + 2)))
    long e p =
        omega (
          arith,
          length-append (near_end_code e p) (moved_end_code e),
          nearer_length e,
          nearest_length e,
          rest_length e.step,
          length-append (nearer_code e) (i.Less 1 ∷ i.Unless (p + (2 * length (rest_code e.step) + 8)) ∷ (nearest_code e ++ i.SetLocal e.end 1 ∷ [])),
          length-append (nearest_code e) (i.SetLocal e.end 1 ∷ []),
          length-append (rest_code e.step) ((if e.down then i.Add else i.Sub) ∷ i.SetLocal e.end 1 ∷ []),
        )

    by_one : (t u : Bool) → t ≡ u → length (if t then [] else near_end_code c at ++ moved_end_code c) ≡ length (if u then [] else near_end_code d 0 ++ moved_end_code d)
    by_one true true e = refl
    by_one false false e = omega (arith, long c at, long d 0, size_same)
    by_one true false e = absurd (let no : ⊥ = cc in no)
    by_one false true e = absurd (let no : ⊥ = cc in no)

step_same : (o : Option ℤ) (free : ℕ) → (is_one (step_from o free) ≡ is_one (step_from o 0)) × (rest_size (step_from o free) ≡ rest_size (step_from o 0))
step_same None free = (refl, refl)
step_same (Some d) free = (refl, refl)

before_length : (down : Bool) (a b behind p : ℕ) → length ((if down then i.Local b 1 ∷ i.Local a 1 ∷ i.Less 1 ∷ [] else i.Local a 1 ∷ i.Local b 1 ∷ i.Less 1 ∷ []) ++ branch_code true behind p) ≡ 5
before_length true a b behind p = refl
before_length false a b behind p = refl

pub first_length : (counter : ℕ) (o : Option ℤ) (down : Bool) (free behind at : ℕ) → length (first_value_code (steps_with counter o down free) behind at) ≡ first_value_size (steps_with 0 o false 0)
first_length counter o down free behind at =
    let c : Steps = steps_with counter o down free in
    both_long _ _ (before_length down c.end c.start behind (at + 3)) (both_long _ _ (limit_length c (steps_with 0 o false 0) (at + 5) (step_same o free).0 (step_same o free).1) refl)

order_length : (down : Bool) (a b : ℕ) → length (before_code down a b) ≡ 3
order_length true a b = refl
order_length false a b = refl

pub next_length : (c : Steps) (behind : ℕ) → length (next_code c behind) ≡ 8
next_length c behind =
    let rest : List Instr = i.Unless behind ∷ i.Local c.counter 1 ∷ by_step c.step ∷ forth c.down ∷ i.SetLocal c.counter 1 ∷ [] in
    omega (arith, order_length c.down c.counter c.end, length-append (before_code c.down c.counter c.end) rest)

pub before_turns_length : (st : Standing) (c : ControlTree) (behind at : ℕ) → FitsControl (layout st.site) c → length (before_turns st c behind at) ≡ before_turns_size c
before_turns_length st (while_true e) behind at fits = refl
before_turns_length st for_ever behind at fits = refl
before_turns_length st (for_members counter e low condition) behind at fits = both_long _ _ (expr_length (layout st.site) st.free e at fits.1.0) refl
before_turns_length st (for_steps counter from step to down condition) behind at fits =
    both_long _ _ (bounds_length st from step to at fits.1 fits.2 fits.3) (first_length (first_in (slice_get st.site.body.locals counter)) (constant_step step) down st.free behind (at + bounds_size from step to))

pub control_length : (st : Standing) (c : ControlTree) (behind at : ℕ) → FitsControl (layout st.site) c → length (control_code st c behind at) ≡ control_size c
control_length st (while_true e) behind at fits = omega (arith, condition_length (layout st.site) st.free e false behind (at + 0) fits.0)
control_length st for_ever behind at fits = refl
control_length st (for_members counter e low condition) behind at fits =
    let set : ℕ = first_in (slice_get st.site.body.locals counter) in
    both_long _ _ (both_long _ _ (expr_length (layout st.site) st.free e at fits.1.0) refl)
    (both_long (members_test st.free set low behind) _ (members_length st.free set low behind) (some_while_length (taking st 1) condition behind (at + before_turns_size (for_members counter e low condition) + members_test_size low) fits.2))
control_length st (for_steps counter from step to down condition) behind at fits =
    let set : ℕ = first_in (slice_get st.site.body.locals counter) in
    let counting : Steps = steps_with set (constant_step step) down st.free in
    both_long _ _ (both_long _ _ (bounds_length st from step to at fits.1 fits.2 fits.3) (first_length set (constant_step step) down st.free behind (at + bounds_size from step to)))
    (both_long _ _ (next_length counting behind) (some_while_length (taking st (locals_kept (for_steps counter from step to down condition))) condition behind _ fits.4))

-- ---- waits

pub set_place_length : (st : Standing) (set : Option LocationTree) (at : ℕ) → FitsSet (layout st.site) set → length (set_place_code st set at) ≡ set_place_size set
set_place_length st None at fits = refl
set_place_length st (Some l) at fits = both_long _ _ (place_length (layout st.site) st.free l at fits.0) (where_length l (i.SetLocal st.free 1 ∷ []) 1 refl)

pub set_length : (st : Standing) (set : Option LocationTree) → length (set_code st set) ≡ set_size set
set_length st None = refl
set_length st (Some l) =
    let rest : List Instr = i.Local (chosen_in st.free (Some l) + 1) 1 ∷ store_code (layout st.site) l in
    omega (arith, where_length l (i.Local st.free 1 ∷ []) 1 refl, store_length (layout st.site) l, length-append (kept_code l st.free) rest)

pub events_length : (k : ℕ) (es : List ℕ) → length (events_code k es) ≡ 2 * length es
events_length k [] = refl
events_length k (e ∷ es) = omega (arith, events_length k es)

pub all_events_length : (k : ℕ) (ds : DelayNodes) → length (all_events_code k ds) ≡ 2 * count_of_events ds
all_events_length k no_delays = refl
all_events_length k (more_delays es ss ds) = omega (arith, events_length k es, all_events_length (suc k) ds, length-append (events_code k es) (all_events_code (suc k) ds))

pub sources_length : (rows : List LocalRowTree) (rs : ReceiveNodes) → length (sources_code rows rs) ≡ 3 * count_of_sources rs
sources_length rows no_receives = refl
sources_length rows (more_receives source ks ss rs) = omega (arith, sources_length rows rs)

pub nothing_length : (t : Bool) (a b c : ℕ) → length (nothing_code t a b c) ≡ length (nothing_code t 0 0 0)
nothing_length true a b c = refl
nothing_length false a b c = refl

pub delay_wait_length : (st : Standing) (set : Option LocationTree) (priority : ℕ) (ds : DelayNodes) (at : ℕ) → FitsSet (layout st.site) set → length (delay_wait_code st set priority ds at) ≡ delay_wait_size set ds
delay_wait_length st set priority ds at fits =
    let place : List Instr = set_place_code st set at in
    let events : List Instr = all_events_code 0 ds in
    let rest : List Instr = i.Delay (count_of_events ds) priority ∷ i.SetLocal (chosen_in st.free set) 2 ∷ set_code st set in
    omega (arith, set_place_length st set at fits, all_events_length 0 ds, set_length st set, length-append place (events ++ rest), length-append events rest)

pub receive_wait_length : (st : Standing) (kind : Receives) (set : Option LocationTree) (rs : ReceiveNodes) (t : Bool) (nothing at : ℕ) → FitsSet (layout st.site) set → length (receive_wait_code st kind set rs t nothing at) ≡ receive_wait_size set rs t
receive_wait_length st kind set rs t nothing at fits =
    let place : List Instr = set_place_code st set at in
    let sources : List Instr = sources_code st.site.body.locals rs in
    let none : List Instr = nothing_code t (chosen_in st.free set) (count_of_sources rs) nothing in
    let rest : List Instr = receive_instr kind (count_of_sources rs) t ∷ i.SetLocal (chosen_in st.free set) 2 ∷ (none ++ set_code st set) in
    omega (arith, set_place_length st set at fits, sources_length st.site.body.locals rs, nothing_length t (chosen_in st.free set) (count_of_sources rs) nothing, set_length st set, length-append place (sources ++ rest), length-append sources rest, length-append none (set_code st set))

-- ---- statements

part_long : (a b : List Instr) {n : ℕ} (goes : Bool) (rest behind : ℕ) → length a ≡ n → length b ≡ rest → length (joining a goes rest behind ++ b) ≡ n + (leave_size goes rest + rest)
part_long a b {n} goes rest behind p q = omega (arith, length-append (a ++ leave_code goes rest behind) b, length-append a (leave_code goes rest behind), leave_length goes rest behind)

-- a condition, its actions and the others
choice_long : (a b c : List Instr) {m n : ℕ} (goes : Bool) (rest behind : ℕ) → length a ≡ m → length b ≡ n → length c ≡ rest → length (a ++ (joining b goes rest behind ++ c)) ≡ (m + n) + (leave_size goes rest + rest)
choice_long a b c {m} {n} goes rest behind p q r = omega (arith, part_long b c goes rest behind q r, length-append a (joining b goes rest behind ++ c))

if_long : (t : Bool) (a : List Instr) {m : ℕ} → length a ≡ m → length (if t then a else []) ≡ (if t then m else 0)
if_long true a e = e
if_long false a e = refl

-- an alternative that is done where a test holds, of so many instructions
abbrev unless_long : List Instr → List Instr → List Instr → ℕ → Bool → ℕ → ℕ → List Instr
unless_long test actions others next goes rest behind = test ++ ((i.Unless next ∷ joining actions goes rest behind) ++ others)

alternative_long : (test actions others : List Instr) {m n : ℕ} (next : ℕ) (goes : Bool) (rest behind : ℕ) → length test ≡ m → length actions ≡ n → length others ≡ rest
    → length (unless_long test actions others next goes rest behind) ≡ (m + suc n) + (leave_size goes rest + rest)
alternative_long test actions others {m} {n} next goes rest behind p q r =
    omega (arith, part_long actions others goes rest behind q r, length-append test ((i.Unless next ∷ joining actions goes rest behind) ++ others))

mutual
  pub statements_length : (st : Standing) (n : ℕ) (ss : StatementNodes) (at : ℕ) → FitsStatements st.site n ss → length (statements_code st ss at) ≡ statements_size st.site ss
  statements_length st n no_statements at fits = refl
  statements_length st n (more_statements s ss) at fits = both_long _ _ (statement_length st n s at fits.0) (if_long (goes_on s) _ (statements_length st n ss (at + statement_size st.site s) fits.1))

  pub statement_length : (st : Standing) (n : ℕ) (s : StatementTree) (at : ℕ) → FitsStatement st.site n s → length (statement_code st s at) ≡ statement_size st.site s
  statement_length st n (statement false a h) at fits =
      both_long _ _ (action_length st n a at fits.0) (handler_length st n h (action_goes_on a) (at + action_size st.site a) fits.1)
  statement_length st n (statement true a h) at fits =
      let inner : Standing = labelled_around true st (at + statement_size st.site (statement true a h)) in
      both_long _ _ (action_length inner (suc n) a at fits.0) (handler_length inner (suc n) h (action_goes_on a) (at + action_size st.site a) fits.1)

  pub handler_length : (st : Standing) (n : ℕ) (h : HandlerNode) (comes : Bool) (at : ℕ) → FitsHandler st.site n h → length (handler_code st h comes at) ≡ leave_size comes (handler_size st.site h) + handler_size st.site h
  handler_length st n no_handler true at fits = refl
  handler_length st n no_handler false at fits = refl
  handler_length st n (handler hs o) comes at fits =
      both_long _ _ (leave_length comes (handler_size st.site (handler hs o)) _) (handled_length st n hs _ (otherwise_size st.site o 0) (otherwise_code st o (λ p. [])) _ fits.0 (λ p. otherwise_length st n o (λ q. []) 0 p fits.1 (λ q. refl)))

  pub handled_length : (st : Standing) (n : ℕ) (hs : HandledNodes) (behind last : ℕ) (rest : CodeAt) (at : ℕ) → FitsHandled st.site n hs → ((p : ℕ) → length (rest p) ≡ last) → length (handled_code st hs behind last rest at) ≡ handled_size st.site hs last
  handled_length st n no_handled behind last rest at fits long = long at
  handled_length st n (more_handled names ss hs) behind last rest at fits long =
      part_long _ _ (go_on ss) (handled_size st.site hs last) behind (statements_length st n ss at fits.0) (handled_length st n hs behind last rest _ fits.1 long)

  pub otherwise_length : (st : Standing) (n : ℕ) (o : OtherwiseNode) (none : CodeAt) (m at : ℕ) → FitsOtherwise st.site n o → ((p : ℕ) → length (none p) ≡ m) → length (otherwise_code st o none at) ≡ otherwise_size st.site o m
  otherwise_length st n no_otherwise none m at fits long = long at
  otherwise_length st n (otherwise ss) none m at fits long = statements_length st n ss at fits

  pub choices_length : (st : Standing) (n : ℕ) (cs : ChoiceNodes) (behind last : ℕ) (rest : CodeAt) (at : ℕ) → FitsChoices st.site n cs → ((p : ℕ) → length (rest p) ≡ last) → length (choices_code st cs behind last rest at) ≡ choices_size st.site cs last
  choices_length st n no_choices behind last rest at fits long = long at
  choices_length st n (more_choices e ss cs) behind last rest at fits long =
      choice_long _ _ _ (go_on ss) (choices_size st.site cs last) behind (condition_length (layout st.site) st.free e false _ at fits.0.0) (statements_length st n ss _ fits.1) (choices_length st n cs behind last rest _ fits.2 long)

  pub cases_length : (st : Standing) (n : ℕ) (cs : CaseNodes) (behind last : ℕ) (rest : CodeAt) (at : ℕ) → FitsCases st.site n cs → ((p : ℕ) → length (rest p) ≡ last) → length (cases_code st cs behind last rest at) ≡ cases_size st.site cs last
  cases_length st n no_cases behind last rest at fits long = long at
  cases_length st n (more_cases labels ss cs) behind last rest at fits long =
      alternative_long _ _ _ _ (go_on ss) (cases_size st.site cs last) behind (labels_length st.free labels) (statements_length st n ss _ fits.0) (cases_length st n cs behind last rest _ fits.1 long)

  pub delays_length : (st : Standing) (n kept k : ℕ) (ds : DelayNodes) (behind at : ℕ) → FitsDelays st.site n ds → length (delays_code st kept k ds behind at) ≡ delays_size st.site ds
  delays_length st n kept k no_delays behind at fits = refl
  delays_length st n kept k (more_delays es ss ds) behind at fits =
      alternative_long (i.Local kept 1 ∷ i.Push (pos k) ∷ i.Same 1 ∷ []) _ _ (next_place (at + 3) (suc (statements_size st.site ss)) (go_on ss) (delays_size st.site ds)) (go_on ss) (delays_size st.site ds) behind refl (statements_length st n ss _ fits.1) (delays_length st n kept (suc k) ds behind _ fits.2)

  pub receives_length : (st : Standing) (n kept k : ℕ) (rs : ReceiveNodes) (behind last : ℕ) (rest : CodeAt) (at : ℕ) → FitsReceives st.site n rs → ((p : ℕ) → length (rest p) ≡ last) → length (receives_code st kept k rs behind last rest at) ≡ receives_size st.site rs last
  receives_length st n kept k no_receives behind last rest at fits long = long at
  receives_length st n kept k (more_receives source ks ss rs) behind last rest at fits long =
      alternative_long (i.Local kept 1 ∷ i.Push (pos k) ∷ i.Same 1 ∷ []) _ _ (next_place (at + 3) (suc (statements_size st.site ss)) (go_on ss) (receives_size st.site rs last)) (go_on ss) (receives_size st.site rs last) behind refl (statements_length st n ss _ fits.2) (receives_length st n kept (suc k) rs behind last rest _ fits.3 long)

  pub action_length : (st : Standing) (n : ℕ) (a : ActionTree) (at : ℕ) → FitsAction st.site n a → length (action_code st a at) ≡ action_size st.site a
  action_length st n do_nothing at fits = refl
  action_length st n (declare names r) at fits = declare_length st names r at fits.0
  action_length st n (set_lowest locals xs) at fits = lowest_length (layout st.site) locals xs
  action_length st n (module_at ss) at fits = absurd fits
  action_length st n (region_at r ss) at fits = absurd fits
  action_length st n (assign l r) at fits = both_long _ _ (place_length (layout st.site) st.free l at fits.0) (both_long _ _ (received_length (layout st.site) st.free r _ fits.1) (store_length (layout st.site) l))
  action_length st n (update l o e bounds) at fits =
      both_long _ _ (both_long _ _ (place_length (layout st.site) st.free l at fits.0) (both_long _ _ (where_length l (i.Copy 1 ∷ []) 1 refl) (contents_length (layout st.site) l)))
      (both_long _ _ (between_length o bounds _ (expr_size e)) (both_long _ _ (expr_length (layout st.site) st.free e _ fits.1) (both_long _ _ (behind_length o (location_count l)) (both_long _ _ refl (store_length (layout st.site) l)))))
  action_length st n (perform t) at fits = both_long _ _ (call_length (layout st.site) st.free t _ at fits) refl
  action_length st n (drop_routine r e) at fits = both_long _ _ (expr_length (layout st.site) st.free e at fits.0) (both_long _ _ refl refl)
  action_length st n (evaluate e) at fits = both_long _ _ (expr_length (layout st.site) st.free e at fits) refl
  action_length st n (put_int e) at fits = both_long _ _ (expr_length (layout st.site) st.free e at fits.0) refl
  action_length st n (put_text e) at fits = both_long _ _ (expr_length (layout st.site) st.free e at fits) refl
  action_length st n put_line at fits = refl
  action_length st n (exit_from k) at fits = refl
  action_length st n (return_with None) at fits = refl
  action_length st n (return_with (Some r)) at fits = both_long _ _ (both_long _ _ (received_length (layout st.site) st.free r at fits.0) refl) refl
  action_length st n (set_result r) at fits = both_long _ _ (received_length (layout st.site) st.free r at fits.0) refl
  action_length st n (assert_that e) at fits = both_long _ _ (condition_length (layout st.site) st.free e true _ at fits.0) refl
  action_length st n (cause x) at fits = refl
  action_length st n stop at fits = refl
  action_length st n (start_of t) at fits = both_long _ _ (start_length (layout st.site) st.free t at fits) refl
  action_length st n (delay e priority) at fits = refl
  action_length st n (continue_at e) at fits = refl
  action_length st n (send t priority) at fits = send_length st t priority at fits
  action_length st n (if_then cs ss) at fits = choices_length st n cs _ (statements_size st.site ss) (statements_code st ss) at fits.0 (λ p. statements_length st n ss p fits.1)
  action_length st n (case_of e cs o) at fits =
      let value : List Instr = expr_code (layout st.site) st.free e at in
      let keep : List Instr = i.SetLocal st.free 1 ∷ [] in
      let behind : ℕ = at + (expr_size e + suc (cases_size st.site cs (otherwise_size st.site o 1))) in
      let rest : List Instr = cases_code st cs behind (otherwise_size st.site o 1) (otherwise_code st o no_label_code) (at + (expr_size e + 1)) in
      let long : length rest ≡ cases_size st.site cs (otherwise_size st.site o 1) =
      cases_length st n cs behind (otherwise_size st.site o 1) (otherwise_code st o no_label_code) (at + (expr_size e + 1)) fits.1 (λ p. otherwise_length st n o no_label_code 1 p fits.2 (λ q. refl)) in
      omega (arith, long, expr_length (layout st.site) st.free e at fits.0.0, length-append value keep, length-append (value ++ keep) rest)
  action_length st n (do_loop c ss) at fits =
      both_long _ _ (control_length st c _ at fits.0) (both_long _ _ (statements_length (taking st (locals_kept c)) n ss _ fits.1) (if_long (go_on ss) _ refl))
  action_length st n (begin_end ss) at fits = statements_length st n ss at fits
  action_length st n (delay_case set priority ds) at fits = both_long _ _ (delay_wait_length st set priority ds at fits.0) (delays_length st n _ 0 ds _ _ fits.2)
  action_length st n (receive_buffers set rs o) at fits =
      both_long _ _ (receive_wait_length st from_buffers set rs (has_else o) _ at fits.0)
      (receives_length st n _ 0 rs _ (otherwise_size st.site o 0) (otherwise_code st o (λ p. [])) _ fits.1 (λ p. otherwise_length st n o (λ q. []) 0 p fits.2 (λ q. refl)))
  action_length st n (receive_signals set rs o) at fits =
      both_long _ _ (receive_wait_length st of_signals set rs (has_else o) _ at fits.0)
      (receives_length st n _ 0 rs _ (otherwise_size st.site o 0) (otherwise_code st o (λ p. [])) _ fits.1 (λ p. otherwise_length st n o (λ q. []) 0 p fits.2 (λ q. refl)))
