-- Loops that count from a start to an end.
use Rattle.std.proofs.Common.{◌≡◌, ℕ, zero, suc, ◌+◌, ◌≤◌, if◌then◌else◌, Bool, true, false, not, List, [], ◌∷◌, ◌++◌, ℤ, length, Option, Some, None, slice_get, slice_set, slice_index_or, refl, sym, ap, ◌∙◌, subst, arith, length-append}
use Rattle.world_model.specs.Session.{Session}
use Rattle.world_model.specs.Lists.{with_scalars, scalars_at}
use Rattle.modes.specs.ModeTree.{int}
use Rattle.modes.specs.Bounds.{bounds_of}
use Rattle.scalar_operators.specs.Numbers.{is_int, truth_number}
use Rattle.program_trees.specs.ExprTree.{ExprTree, received}
use Rattle.program_trees.specs.StatementTree.{for_steps}
use Rattle.program_trees.specs.ProgramTree.{LocalRowTree}
use Rattle.code_types.specs.declared.instr.Instr.{Instr}
use Rattle.code_types.specs.declared.instr.Instr.TheVariants as i
use Rattle.code_types.specs.Operands.{part_of}
use Rattle.code_types.specs.Steps.{Run}
use Rattle.source_meaning.specs.Store.{Store, local_value, with_local}
use Rattle.source_meaning.specs.Flow.{Flow, Goes, Meaning}
use Rattle.source_meaning.specs.Operators.{sole_number, one, truth}
use Rattle.source_meaning.specs.ExprMeaning.{Setting}
use Rattle.source_meaning.specs.StatementMeaning.{turns, where_holds, passes_end, next_value, next_step, bound_mean, step_mean, loop_mean}
use Rattle.source_meaning.specs.BodyMeaning.{Bodies}
use Rattle.code_scheme.specs.Pieces.{first_in}
use Rattle.code_scheme.specs.StatementSite.{Standing, layout, taking}
use Rattle.code_scheme.specs.StatementLoops.{step_bounds, constant_step, step_from, Steps, steps_with, steps_kept, kept_with, within_code, within_size, step_code, step_size, bounds_code, bounds_size, before_code, forth, by_step, is_one, limit_code, first_test_code, next_code, next_size, first_value_code, first_value_size, some_while_code, some_while_size, before_turns_size, turn_test}
use Rattle.follow_laws.specs.Follows.{HasAt, Around, keeping, free_in, here, Holds, GetsTo, Follows, Does}
use Rattle.follow_laws.specs.Parts.{LoopPlaces, LoopFollows, TestFrom}
use Rattle.code_laws.specs.BodyBounds.{BodiesWithin}
use Rattle.code_laws.specs.StatementBounds.{Along, OpenCallsWithin, some_value_within, turns_within, next_step_within, steps_within, loop_within}
use Rattle.code_laws.specs.StatementsInRange.{FitsSomeNumber, FitsControl}
use Rattle.code_laws.specs.Expressions.{NamesIn}
use Rattle.code_laws.specs.Statements.{StandsAs, calls_from}
use Rattle.code_laws.specs.Loops.{ConditionGoes, SomeLeaves, LoopStands}
use Rattle.follow_laws.proofs.Running.{has_front, has_back, gets_then, after, follows_then_is, comes, wider, forgotten}
use Rattle.follow_laws.proofs.Stores.{fit_length}
use Rattle.follow_laws.proofs.Holding.{local_read, scratch_set, whole_set}
use Rattle.follow_laws.proofs.Instructions.{jumps_by, renamed, sole}
use Rattle.follow_laws.proofs.LoopRuns.{turns_run}
use Rattle.code_laws.proofs.Sizes.{received_length}
use Rattle.code_laws.proofs.Values.{both_true}
use Rattle.code_laws.proofs.OperatorRuns.{truth_back}
use Rattle.code_laws.proofs.BetweenRuns.{unless_run}
use Rattle.code_laws.proofs.ExprPieces.{there}
use Rattle.code_laws.proofs.LoopPieces.{where_leads, TurnKeeps, turn_keeps, where_runs, set_run}
use Rattle.code_laws.proofs.StepValues.{IsStep, goes_before, before_is, StandsFor, value_int}
use Rattle.code_laws.proofs.StepRuns.{kept_numbers, IsConstant, reads_of, local_run, before_run, step_run, forth_run, stop_of, stop_stands, limit_size, limit_run}
use Rattle.code_laws.proofs.StepBounds.{bound_run, with_step, step_part}

-- ---- the counter

set_read : (locals : List (List ℤ)) (k : ℕ) (x y : ℤ) → slice_index_or locals k [] ≡ one x → slice_index_or (slice_set locals k (one y)) k [] ≡ one y
set_read [] k x y is = absurd (let no : ⊥ = cc in no)
set_read (l ∷ locals) zero x y is = refl
set_read (l ∷ locals) (suc k) x y is = set_read locals k x y is

before_long : (down : Bool) (f g : ℕ) → length (before_code down f g) ≡ 3
before_long false f g = refl
before_long true f g = refl

-- the start comes behind the end
first_is : (down : Bool) (from end : ℤ) → goes_before down end from ≡ passes_end down from end
first_is false from end = before_is end from
first_is true from end = before_is from end

-- what is kept doesn't change from turn to turn
abbrev steady : List ℤ → ℤ → List ℤ
steady ks value = ks

-- the counter has a value of INT, and the next one is the step away from it
pub record Counts (counter : ℕ) (down : Bool) (by value : ℤ) (store : Store) : Type 0 where
  pub now : ℤ
  pub inside : is_int now ≡ true
  pub next : value ≡ next_value down now by
  pub has : local_value store counter ≡ one now

-- a test that leads to a turn has set the counter to the value
step_leads : (v : Setting) (counter : ℕ) (down : Bool) (by end : ℤ) (condition : Option ExprTree) (value left x : ℤ) (store store1 : Store) (s s1 : Session)
    → SomeLeaves v counter condition → local_value store counter ≡ one x → (passes_end down value end ≡ false → is_int value ≡ true)
    → next_step v counter down by end condition value store s ≡ Goes (Some left) store1 s1 → Counts counter down by left store1
step_leads v counter down by end condition value left x store store1 s s1 leaves has inside is = by_pass (passes_end down value end) refl is
  where
    by_pass : (t : Bool) → passes_end down value end ≡ t → (if t then Goes None store s else where_holds v condition (next_value down value by) (with_local store counter (one value)) s) ≡ Goes (Some left) store1 s1 → Counts counter down by left store1
    by_pass true is1 e = absurd (let no : ⊥ = cc in no)
    by_pass false is1 e =
        let leads = where_leads v condition (next_value down value by) left (with_local store counter (one value)) store1 s s1 e in
        record { now = value; inside = inside is1; next = sym leads.same; has = leads.stays counter leaves ∙ set_read store.locals counter x value has }

-- ---- tests

-- the next value, where the counter has one
step_test : (w : Around) (v : Setting) (calls : OpenCallsWithin) (l : LoopPlaces) (cs : Option ℤ) (counter free : ℕ) (down : Bool) (condition : Option ExprTree) (row : LocalRowTree) (from by end stop now : ℤ) (place : ℕ) (store : Store) (s : Session) (locals : List ℤ)
    → slice_get w.rows counter ≡ Some row → row.count ≡ 1 → free ≡ free_in w
    → IsConstant cs by → IsStep by → is_int end ≡ true → StandsFor down by end stop → is_int now ≡ true → local_value store counter ≡ one now
    → HasAt w.code.instrs l.again (next_code (steps_with row.first cs down free) l.behind)
    → l.again + next_size ≡ place
    → ConditionGoes (keeping w (kept_numbers cs from by stop)) v calls l place condition
    → next_step_within v calls counter down end condition (next_value down now by) store s ≡ true
    → Holds (keeping w (kept_numbers cs from by stop)) store locals
    → TestFrom w l (steady (kept_numbers cs from by stop)) (here w l.again [] locals s) (next_step v counter down by end condition (next_value down now by) store s)
step_test w v calls l cs counter free down condition row from by end stop now place store s locals is_row count f_is constant is_step inside_end stands inside has_now has place_is goes within h =
    by_pass (passes_end down value end) refl within
  where
    ks : List ℤ
    ks = kept_numbers cs from by stop

    wk : Around
    wk = keeping w ks

    c : Steps
    c = steps_with row.first cs down free

    value : ℤ
    value = next_value down now by

    a : ℕ
    a = l.again + 3

    later : List Instr
    later = i.Unless l.behind ∷ i.Local row.first 1 ∷ by_step c.step ∷ forth down ∷ i.SetLocal row.first 1 ∷ []

    has_later : HasAt w.code.instrs a later
    has_later = has_back w.code.instrs l.again a (before_code down c.counter c.end) later (ap (λ (j : ℕ). l.again + j) (before_long down c.counter c.end)) has

    counter_is : part_of locals row.first 1 ≡ Some (one now)
    counter_is =
        let part = local_read wk store locals counter 0 1 row.first row h is_row (omega (arith, count)) (omega arith) in
        part.is ∙ ap (λ (xs : List ℤ). Some (scalars_at xs 0 1)) has_now

    compares : GetsTo w.code (here w l.again [] locals s) (here w a (truth (goes_before down now stop)) locals s)
    compares =
        before_run w down c.counter c.end now stop l.again locals s counter_is (reads_of w cs row.first free down from by stop store locals f_is constant h).end_is
        (has_front w.code.instrs l.again (before_code down c.counter c.end) later has)

    by_pass : (t : Bool) → passes_end down value end ≡ t → (if t then true else some_value_within v calls condition (with_local store counter (one value)) s) ≡ true
        → TestFrom w l (steady ks) (here w l.again [] locals s) (if t then Goes None store s else where_holds v condition (next_value down value by) (with_local store counter (one value)) s)
    by_pass true is within1 =
        after (gets_then compares
        (unless_run w (truth_number (goes_before down now stop)) false l.behind a [] locals s (truth_back (goes_before down now stop) ∙ (stands now inside ∙ ap not is)) has_later.0))
        (comes {v = None} refl refl (forgotten w ks store locals h))
    by_pass false is within1 =
        let set = whole_set wk store locals counter row.first row (one value) h is_row (sym count) refl in
        let step_is = (reads_of w cs row.first free down from by stop store locals f_is constant h).step_is in
        after (gets_then compares
        (gets_then (unless_run w (truth_number (goes_before down now stop)) true l.behind a [] locals s (truth_back (goes_before down now stop) ∙ (stands now inside ∙ ap not is)) has_later.0)
        (gets_then (local_run w row.first now (a + 1) [] locals s counter_is has_later.1.0)
        (gets_then (step_run w c.step by (a + 1 + 1) (one now) locals s step_is has_later.1.1.0)
        (gets_then (forth_run w down now by (a + 1 + 1 + 1) [] locals s (value_int down now by end is_step inside inside_end is) has_later.1.1.1.0)
        (gets_then (set_run w row.first 1 (a + 1 + 1 + 1 + 1) [] (one value) locals s set.inside refl has_later.1.1.1.1.0)
        (renamed w (a + 1 + 1 + 1 + 1 + 1) place [] [] (with_scalars locals row.first (one value)) s (omega (arith, place_is)) refl)))))))
        (where_runs w v calls l (steady ks) condition place (next_value down value by) (with_local store counter (one value)) s (with_scalars locals row.first (one value)) goes within1 set.holds)

-- the first value, which is the start
first_test : (w : Around) (v : Setting) (calls : OpenCallsWithin) (l : LoopPlaces) (cs : Option ℤ) (counter free : ℕ) (down : Bool) (condition : Option ExprTree) (row : LocalRowTree) (from by end : ℤ) (at place : ℕ) (store : Store) (s : Session) (locals : List ℤ)
    → slice_get w.rows counter ≡ Some row → row.count ≡ 1 → free ≡ free_in w
    → IsConstant cs by → IsStep by → is_int end ≡ true
    → HasAt w.code.instrs at (first_value_code (steps_with row.first cs down free) l.behind at)
    → at + (first_value_size (steps_with row.first cs down free) + next_size) ≡ place
    → ConditionGoes (keeping w (kept_numbers cs from by (stop_of (is_one (step_from cs free)) down by end))) v calls l place condition
    → next_step_within v calls counter down end condition from store s ≡ true
    → Holds (keeping w (kept_numbers cs from by end)) store locals
    → TestFrom w l (steady (kept_numbers cs from by (stop_of (is_one (step_from cs free)) down by end))) (here w at [] locals s) (next_step v counter down by end condition from store s)
first_test w v calls l cs counter free down condition row from by end at place store s locals is_row count f_is constant is_step inside_end has place_is goes within h =
    by_pass (passes_end down from end) refl within
  where
    c : Steps
    c = steps_with row.first cs down free

    stop : ℤ
    stop = stop_of (is_one (step_from cs free)) down by end

    ks : List ℤ
    ks = kept_numbers cs from by stop

    a : ℕ
    a = at + 3

    to : ℕ
    to = at + (5 + (length (limit_code c 0) + 11))

    testing : List Instr
    testing = before_code down c.end c.start

    leaving : List Instr
    leaving = i.Unless (a + 2) ∷ i.Jump l.behind ∷ []

    starting : List Instr
    starting = i.Local c.start 1 ∷ i.SetLocal c.counter 1 ∷ i.Jump to ∷ []

    testing_long : length testing ≡ 3
    testing_long = before_long down c.end c.start

    has_test : HasAt w.code.instrs at (testing ++ leaving)
    has_test = has_front w.code.instrs at (testing ++ leaving) (limit_code c (at + 5) ++ starting) has

    has_leaving : HasAt w.code.instrs a leaving
    has_leaving = has_back w.code.instrs at a testing leaving (ap (λ (j : ℕ). at + j) testing_long) has_test

    has_limit : HasAt w.code.instrs (at + 5) (limit_code c (at + 5) ++ starting)
    has_limit = has_back w.code.instrs at (at + 5) (testing ++ leaving) (limit_code c (at + 5) ++ starting) (omega (arith, length-append testing leaving, testing_long)) has

    compares : GetsTo w.code (here w at [] locals s) (here w a (truth (goes_before down end from)) locals s)
    compares =
        let reads = reads_of w cs row.first free down from by end store locals f_is constant h in
        before_run w down c.end c.start end from at locals s reads.end_is reads.start_is (has_front w.code.instrs at testing leaving has_test)

    by_pass : (t : Bool) → passes_end down from end ≡ t → (if t then true else some_value_within v calls condition (with_local store counter (one from)) s) ≡ true
        → TestFrom w l (steady ks) (here w at [] locals s) (if t then Goes None store s else where_holds v condition (next_value down from by) (with_local store counter (one from)) s)
    by_pass true is within1 =
        after (gets_then compares
        (gets_then (unless_run w (truth_number (goes_before down end from)) true (a + 2) a [] locals s (truth_back (goes_before down end from) ∙ (first_is down from end ∙ is)) has_leaving.0)
        (jumps_by w (i.Jump l.behind) (a + 1) [] [] locals s l.behind has_leaving.1.0 refl refl)))
        (comes {v = None} refl refl (forgotten w (kept_numbers cs from by end) store locals h))
    by_pass false is within1 =
        let limited = limit_run w cs row.first free down from by end (at + 5) store locals s f_is constant is_step inside_end (has_front w.code.instrs (at + 5) (limit_code c (at + 5)) starting has_limit) h in
        let b : ℕ = at + 5 + length (limit_code c (at + 5)) in
        let has_start = has_back w.code.instrs (at + 5) b (limit_code c (at + 5)) starting refl has_limit in
        let reads = reads_of w cs row.first free down from by stop store limited.locals f_is constant limited.holds in
        let set = whole_set (keeping w ks) store limited.locals counter row.first row (one from) limited.holds is_row (sym count) refl in
        after (gets_then compares
        (gets_then (unless_run w (truth_number (goes_before down end from)) false (a + 2) a [] locals s (truth_back (goes_before down end from) ∙ (first_is down from end ∙ is)) has_leaving.0)
        (gets_then (renamed w (a + 2) (at + 5) [] [] locals s (omega arith) refl)
        (gets_then limited.by
        (gets_then (local_run w c.start from b [] limited.locals s reads.start_is has_start.0)
        (gets_then (set_run w row.first 1 (b + 1) [] (one from) limited.locals s set.inside refl has_start.1.0)
        (gets_then (jumps_by w (i.Jump to) (b + 1 + 1) [] [] (with_scalars limited.locals row.first (one from)) s to has_start.1.1.0 refl refl)
        (renamed w to place [] [] (with_scalars limited.locals row.first (one from)) s (omega (arith, place_is)) refl))))))))
        (where_runs w v calls l (steady ks) condition place (next_value down from by) (with_local store counter (one from)) s (with_scalars limited.locals row.first (one from)) goes within1 set.holds)

-- ---- the turns

abbrev step_tests : Setting → OpenCallsWithin → ℕ → Bool → ℤ → Option ExprTree → ℤ → Along
step_tests v calls counter down end condition value store s = next_step_within v calls counter down end condition value store s

abbrev at_step_test : Setting → OpenCallsWithin → ℕ → Bool → ℤ → ℤ → Option ExprTree → Meaning (Unit {0}) → Along → ℕ → ℤ → Store → Session → Type 0
at_step_test v calls counter down by end condition body along n value store s =
    (turns_within (next_step v counter down by end condition) (step_tests v calls counter down end condition) body along n value store s ≡ true) × Counts counter down by value store

abbrev at_step_turn : Setting → OpenCallsWithin → ℕ → Bool → ℤ → ℤ → Option ExprTree → Meaning (Unit {0}) → Along → ℕ → ℤ → Store → Session → Type 0
at_step_turn v calls counter down by end condition body along n value store s =
    TurnKeeps (next_step v counter down by end condition) (step_tests v calls counter down end condition) body along n value store s × Counts counter down by value store

kept_long : (cs : Option ℤ) (from by end : ℤ) → length (kept_numbers cs from by end) ≡ kept_with cs
kept_long (Some d) from by end = refl
kept_long None from by end = refl

steps_follow : (w : Around) (v : Setting) (st : Standing) (inside : BodiesWithin) (counter : ℕ) (e : ExprTree) (step : Option ExprTree) (f : ExprTree) (down : Bool) (condition : Option ExprTree) (l : LoopPlaces) (body : Meaning (Unit {0})) (along : Along) (at : ℕ) (row : LocalRowTree) (from by end stop : ℤ)
    → slice_get w.rows counter ≡ Some row → row.count ≡ 1 → st.free ≡ free_in w
    → LoopStands w v st inside (for_steps counter e step f down condition) l at body along
    → HasAt w.code.instrs l.again (next_code (steps_with row.first (constant_step step) down st.free) l.behind)
    → IsConstant (constant_step step) by → IsStep by → is_int end ≡ true → StandsFor down by end stop
    → LoopFollows w l (steady (kept_numbers (constant_step step) from by stop)) (at_step_test v (calls_from inside w) counter down by end condition body along) (at_step_turn v (calls_from inside w) counter down by end condition body along) (next_step v counter down by end condition) body
steps_follow w v st inside counter e step f down condition l body along at row from by end stop is_row count f_is loop has constant is_step inside_end stands =
    record {
      tests = λ m value store1 s1 locals1 holds h1.
          subst (λ (z : ℤ). TestFrom w l (steady ks) (here w l.again [] locals1 s1) (next_step v counter down by end condition z store1 s1)) (sym holds.1.next)
          (step_test w v calls l cs counter st.free down condition row from by end stop holds.1.now place store1 s1 locals1 is_row count f_is constant is_step inside_end stands holds.1.inside holds.1.has has refl goes
          (subst (λ (z : ℤ). next_step_within v calls counter down end condition z store1 s1 ≡ true) holds.1.next (both_true _ _ holds.0).0) h1);
      leads = λ m value left store1 store2 s1 s2 holds leads. (
        turn_keeps (next_step v counter down by end condition) (step_tests v calls counter down end condition) body along m value left store1 store2 s1 s2 holds.0 leads,
        step_leads v counter down by end condition value left holds.1.now store1 store2 s1 s2 loop.counter.0 holds.1.has (value_inside value store1 holds.1) leads,
      );
      turns = λ m value store1 s1 locals1 holds h1. loop.actions ks (kept_long cs from by stop) store1 s1 locals1 holds.0.now h1;
      keeps = λ m value store1 store2 s1 s2 s3 holds is ticks. (
        holds.0.later store2 s2 s3 is ticks,
        record { now = holds.1.now; inside = holds.1.inside; next = holds.1.next; has = loop.counter.1 tt store1 store2 s1 s2 is ∙ holds.1.has },
      );
      back = loop.back;
    }
  where
    cs : Option ℤ
    cs = constant_step step

    ks : List ℤ
    ks = kept_numbers cs from by stop

    calls : OpenCallsWithin
    calls = calls_from inside w

    place : ℕ
    place = l.again + next_size

    place_is : place + some_while_size condition ≡ l.turn
    place_is = omega (arith, loop.again, loop.turn)

    goes : ConditionGoes (keeping w ks) v calls l place condition
    goes = loop.condition ks (kept_long cs from by stop) place place_is

    value_inside : (value : ℤ) (store1 : Store) → Counts counter down by value store1 → passes_end down value end ≡ false → is_int value ≡ true
    value_inside value store1 counts on =
        subst (λ (z : ℤ). is_int z ≡ true) (sym counts.next)
        (value_int down counts.now by end is_step counts.inside inside_end (subst (λ (z : ℤ). passes_end down z end ≡ false) counts.next on))

-- ---- the whole

stack_is : (cs : Option ℤ) (from by end : ℤ) → with_step cs from by ++ one end ≡ kept_numbers cs from by end
stack_is (Some d) from by end = refl
stack_is None from by end = refl

step_length : (st : Standing) (cs : Option ℤ) (step : Option ExprTree) (at : ℕ) → FitsSomeNumber (layout st.site) step → length (step_code st cs step at) ≡ step_size cs step
step_length st (Some d) step at fits = refl
step_length st None None at fits = refl
step_length st None (Some e) at fits = received_length (layout st.site) st.free (received e step_bounds) at (fits.0, fits.1)

pub step_loop_runs : (w : Around) (v : Setting) (st : Standing) (bodies : Bodies) (inside : BodiesWithin) (counter : ℕ) (e : ExprTree) (step : Option ExprTree) (f : ExprTree) (down : Bool) (condition : Option ExprTree) (l : LoopPlaces) (body : Meaning (Unit {0})) (along : Along) (n at : ℕ) (locals : List ℤ) (store : Store) (s : Session)
    → StandsAs w v st bodies inside → NamesIn w l.from l.until → FitsControl (layout st.site) (for_steps counter e step f down condition)
    → LoopStands w v st inside (for_steps counter e step f down condition) l at body along
    → loop_within v (calls_from inside w) n (for_steps counter e step f down condition) body along store s ≡ true
    → Holds w store locals
    → Does w (here w at [] locals s) l.from l.until l.rows l.behind (loop_mean v n (for_steps counter e step f down condition) body store s)
step_loop_runs w v st bodies inside counter e step f down condition l body along n at locals store s stands names fits loop within h =
    let w1 = both_true _ _ within in
    follows_then_is
    (widely (bound_run w v st bodies inside at l.turn e at p1 [] locals store s stands.suited named stands.free fits.1 refl (omega arith) (omega (arith, room)) (has_front w.code.instrs at e_code rest1 has_bounds) w1.0 h))
    (λ from store1 s1 locals1 q1 is1.
    let w2 = both_true _ _ (there (bound_mean v e store s) _ from store1 s1 w1.1 is1) in
    follows_then_is
    (widely (step_part w v st bodies inside at l.turn cs step from p1 p2 locals1 store1 s1 refl stands.suited named stands.free fits.2 (omega arith) (omega arith) (omega (arith, room)) (has_front w.code.instrs p1 s_code rest2 has_rest1) w2.0 q1.1))
    (λ by store2 s2 locals2 q2 is2.
    let w3 = both_true _ _ (there (step_mean v step store1 s1) _ by store2 s2 w2.1 is2) in
    follows_then_is
    (widely (bound_run w v st bodies inside at l.turn f p2 p3 (with_step cs from by) locals2 store2 s2 stands.suited named stands.free fits.3 refl (omega arith) (omega (arith, room)) (has_front w.code.instrs p2 f_code set_code has_rest2) w3.0 q2.1))
    (λ end store3 s3 locals3 q3 is3.
    begins n from by end store3 s3 locals3 q2.0.0 q2.0.1 q1.0 q3.0 (there (bound_mean v f store2 s2) _ end store3 s3 w3.1 is3) q3.1)))
  where
    cs : Option ℤ
    cs = constant_step step

    row : LocalRowTree
    row = fits.0.0

    c : Steps
    c = steps_with row.first cs down st.free

    calls : OpenCallsWithin
    calls = calls_from inside w

    p1 : ℕ
    p1 = at + within_size (bounds_of int) e

    p2 : ℕ
    p2 = at + (within_size (bounds_of int) e + step_size cs step)

    p3 : ℕ
    p3 = p2 + within_size (bounds_of int) f

    p4 : ℕ
    p4 = at + bounds_size e step f

    e_code : List Instr
    e_code = within_code st (bounds_of int) e at

    s_code : List Instr
    s_code = step_code st cs step p1

    f_code : List Instr
    f_code = within_code st (bounds_of int) f p2

    set_code : List Instr
    set_code = i.SetLocal st.free (steps_kept step) ∷ []

    rest2 : List Instr
    rest2 = f_code ++ set_code

    rest1 : List Instr
    rest1 = s_code ++ rest2

    bounds : List Instr
    bounds = bounds_code st e step f at

    first_code : List Instr
    first_code = first_value_code (steps_with (first_in (slice_get st.site.body.locals counter)) cs down st.free) l.behind p4

    before : List Instr
    before = bounds ++ first_code

    test_code : List Instr
    test_code = turn_test st (for_steps counter e step f down condition) l.behind (at + before_turns_size (for_steps counter e step f down condition))

    e_long : length e_code ≡ within_size (bounds_of int) e
    e_long = received_length (layout st.site) st.free (received e (bounds_of int)) at (fits.1.0, fits.1.1)

    s_long : length s_code ≡ step_size cs step
    s_long = step_length st cs step p1 fits.2

    f_long : length f_code ≡ within_size (bounds_of int) f
    f_long = received_length (layout st.site) st.free (received f (bounds_of int)) p2 (fits.3.0, fits.3.1)

    bounds_long : length bounds ≡ bounds_size e step f
    bounds_long = omega (arith, length-append e_code rest1, length-append s_code rest2, length-append f_code set_code, e_long, s_long, f_long)

    first_long : length first_code ≡ first_value_size (steps_with 0 cs false 0)
    first_long =
        let d : Steps = steps_with (first_in (slice_get st.site.body.locals counter)) cs down st.free in
        omega (
          arith,
          length-append (first_test_code d l.behind p4) (limit_code d (p4 + 5) ++ i.Local d.start 1 ∷ i.SetLocal d.counter 1 ∷ i.Jump (p4 + (5 + (length (limit_code d 0) + 11))) ∷ []),
          length-append (before_code down d.end d.start) (i.Unless (p4 + 3 + 2) ∷ i.Jump l.behind ∷ []),
          before_long down d.end d.start,
          length-append (limit_code d (p4 + 5)) (i.Local d.start 1 ∷ i.SetLocal d.counter 1 ∷ i.Jump (p4 + (5 + (length (limit_code d 0) + 11))) ∷ []),
          limit_size cs (first_in (slice_get st.site.body.locals counter)) st.free down (p4 + 5),
        )

    before_all : at + length before ≡ l.again
    before_all = omega (arith, length-append bounds first_code, bounds_long, first_long, loop.again)

    room : p3 + 1 ≤ l.turn
    room = omega (arith, loop.turn, loop.again)

    has_before : HasAt w.code.instrs at before
    has_before = has_front w.code.instrs at before test_code loop.has

    has_bounds : HasAt w.code.instrs at bounds
    has_bounds = has_front w.code.instrs at bounds first_code has_before

    has_rest1 : HasAt w.code.instrs p1 rest1
    has_rest1 = has_back w.code.instrs at p1 e_code rest1 (ap (λ (j : ℕ). at + j) e_long) has_bounds

    has_rest2 : HasAt w.code.instrs p2 rest2
    has_rest2 = has_back w.code.instrs p1 p2 s_code rest2 (omega (arith, s_long)) has_rest1

    has_set : slice_get w.code.instrs p3 ≡ Some (i.SetLocal st.free (steps_kept step))
    has_set = (has_back w.code.instrs p2 p3 f_code set_code (ap (λ (j : ℕ). p2 + j) f_long) has_rest2).0

    has_first : HasAt w.code.instrs p4 (first_value_code c l.behind p4)
    has_first =
        subst (λ (j : ℕ). HasAt w.code.instrs p4 (first_value_code (steps_with j cs down st.free) l.behind p4)) (ap first_in fits.0.1)
        (has_back w.code.instrs at p4 bounds first_code (ap (λ (j : ℕ). at + j) bounds_long) has_before)

    has_next : HasAt w.code.instrs l.again (next_code c l.behind)
    has_next =
        subst (λ (j : ℕ). HasAt w.code.instrs l.again (next_code (steps_with j cs down st.free) l.behind)) (ap first_in fits.0.1)
        (has_front w.code.instrs l.again (next_code (steps_with (first_in (slice_get st.site.body.locals counter)) cs down st.free) l.behind)
        (some_while_code (taking st (steps_kept step)) condition l.behind (at + before_turns_size (for_steps counter e step f down condition) + next_size))
        (has_back w.code.instrs at l.again before test_code before_all loop.has))

    is_row : slice_get w.rows counter ≡ Some row
    is_row = ap (λ (rs : List LocalRowTree). slice_get rs counter) (sym stands.suited.rows) ∙ fits.0.1

    named : NamesIn w at l.turn
    named p instr a b = names p instr (omega (arith, a, loop.from)) (omega (arith, b, loop.until))

    widely : {A : Type 0} {m : Run} {to : A → ℕ} {stack : A → List ℤ} {Q : A → Store → List ℤ → Type 0} {o : Flow A} → Follows w m at l.turn [] to stack Q o → Follows w m l.from l.until l.rows to stack Q o
    widely follows = wider loop.from loop.until (λ x p a b none. loop.untaken p x a b) (λ v2 store2 locals2 q. q) follows

    place : ℕ
    place = l.again + next_size

    place_is : place + some_while_size condition ≡ l.turn
    place_is = omega (arith, loop.again, loop.turn)

    -- the bounds are kept, and the turns begin
    begins : (m : ℕ) (from by end : ℤ) (store3 : Store) (s3 : Session) (locals3 : List ℤ) → IsStep by → IsConstant cs by → is_int from ≡ true → is_int end ≡ true
        → steps_within v calls m counter down condition body along by end from store3 s3 ≡ true → Holds w store3 locals3
        → Does w (here w p3 (with_step cs from by ++ one end) locals3 s3) l.from l.until l.rows l.behind (turns m (next_step v counter down by end condition) body from store3 s3)
    begins zero from by end store3 s3 locals3 is_step constant inside_from inside_end keeps h3 = record { by = tt }
    begins (suc m) from by end store3 s3 locals3 is_step constant inside_from inside_end keeps h3 =
        let stop : ℤ = stop_of (is_one (step_from cs st.free)) down by end in
        let ks : List ℤ = kept_numbers cs from by end in
        let rooms = named p3 (i.SetLocal st.free (steps_kept step)) (omega arith) (omega (arith, room)) has_set in
        let set = scratch_set w store3 locals3 ks st.free h3 stands.free (omega (arith, rooms, kept_long cs from by end)) in
        let locals4 : List ℤ = with_scalars locals3 st.free ks in
        let x : ℤ = sole_number (local_value store3 counter) in
        let has_x : local_value store3 counter ≡ one x = sole (local_value store3 counter) (fit_length 0 w.rows store3.locals counter row h3.fit is_row ∙ fits.0.2) in
        let goes = loop.condition (kept_numbers cs from by stop) (kept_long cs from by stop) place place_is in
        let size_is = limit_size cs row.first st.free down 0 in
        after (gets_then (renamed w p3 p3 (with_step cs from by ++ one end) ks locals3 s3 refl (stack_is cs from by end))
        (gets_then (set_run w st.free (steps_kept step) p3 [] ks locals3 s3 set.inside (sym (kept_long cs from by end)) has_set)
        (renamed w (p3 + 1) p4 [] [] locals4 s3 (omega arith) refl)))
        (turns_run w l (steady (kept_numbers cs from by stop)) (at_step_test v calls counter down by end condition body along) (at_step_turn v calls counter down by end condition body along) (next_step v counter down by end condition) body
        (steps_follow w v st inside counter e step f down condition l body along at row from by end stop is_row fits.0.2 stands.free loop has_next constant is_step inside_end (stop_stands cs st.free down by end constant is_step))
        m (here w p4 [] locals4 s3) from store3 s3
        (λ left store4 s4 leads. (
          turn_keeps (next_step v counter down by end condition) (step_tests v calls counter down end condition) body along m from left store3 store4 s3 s4 keeps leads,
          step_leads v counter down by end condition from left x store3 store4 s3 s4 loop.counter.0 has_x (λ on. inside_from) leads,
        ))
        (first_test w v calls l cs counter st.free down condition row from by end p4 place store3 s3 locals4 is_row fits.0.2 stands.free constant is_step inside_end has_first (omega (arith, loop.again, size_is)) goes (both_true _ _ keeps).0 set.holds))
