-- What the events tell of each instance, and of the regions that it holds once it goes on, is what the world says.
use Rattle.std.proofs.Common.{◌≡◌, ◌≢◌, ◌⊎◌, ◌<◌, ◌≤◌, ◌+◌, ℕ, zero, suc, true, List, [], ◌∷◌, ◌++◌, ℤ, length, length-set, map, refl, sym, ap, ◌∙◌, subst, inl, inr, arith, Option, Some, None, slice_get, eq-eqb}
use Rattle.std.specs.Prelude.{if◌then◌else◌, slice_index_or, ◌==◌}
use Rattle.std.proofs.lemmas.Bool.{cases_eq}
use Rattle.std.proofs.lemmas.List.{length_push}
use Rattle.std.proofs.lemmas.Option.{slice_get_within}
use Rattle.kernel_base.specs.declared.facts.Facts.{Facts}
use Rattle.kernel_base.specs.declared.ends.How.{How}
use Rattle.kernel_base.specs.declared.ends.How.TheVariants as hows
use Rattle.kernel_base.specs.declared.request.Request.{Request}
use Rattle.kernel_base.specs.declared.request.Request.TheVariants.{Enter, Leave, Continue, SendBuffer, ReceiveBuffer, SendSignal, ReceiveSignal, Start, End}
use Rattle.kernel_base.specs.declared.answer.Answer.{Answer}
use Rattle.kernel_base.specs.declared.answer.Answer.TheVariants.{Instance}
use Rattle.kernel_base.specs.declared.event.Event.{Event}
use Rattle.kernel_base.specs.declared.event.Event.TheVariants.{Did, Waits, Goes, Runs}
use Rattle.checked_program.specs.declared.program.Checked.{Checked}
use Rattle.world_model.specs.declared.world.Phase.{Phase}
use Rattle.world_model.specs.declared.world.Phase.TheVariants as phases
use Rattle.world_model.specs.declared.world.World.{World}
use Rattle.world_model.specs.Waiting.{phase_of}
use Rattle.world_model.specs.World as worlds
use Rattle.world_model.specs.World.{opening, occupant, held_by, drawn, back_in, world_of}
use Rattle.world_model.specs.Allowed.{IsPossible, IsRunFrom, IsRun}
use Rattle.world_model.specs.Journal.{requests_by, requests_of}
use Rattle.world_model.proofs.ChangedLists.{written_here, read_elsewhere, read_pushed}
use Rattle.run_texts.specs.declared.processes.ProcessState.{ProcessState}
use Rattle.run_texts.specs.declared.processes.ProcessState.TheVariants as states
use Rattle.run_texts.specs.declared.processes.Processes.{Processes}
use Rattle.run_texts.specs.declared.words.Told.{Told}
use Rattle.run_texts.specs.Processes as told
use Rattle.run_texts.specs.Processes.{state_of, regions_of, are_some, has_regions, number_of, asked, ended, started, started_as, chosen_by, with_chosen, with_state, state_in_wait, outermost, processes_after}
use Rattle.run_texts.specs.Report.{told_of, told_of_chosen, line_if, line_at, lines_below, last_line}
use Rattle.run_laws.proofs.Births.{entered_keeps, left_keeps, continue_keeps, send_keeps, receive_keeps, signal_keeps, hear_keeps, waits_keeps, goes_keeps}
use Rattle.run_laws.proofs.Regions as laws
use Rattle.run_laws.proofs.Regions.{regions_on, regions_on-append}
use Rattle.run_laws.proofs.Occupied.{read_written, actor}
use Rattle.run_laws.proofs.Holding.{HoldsWell, opening_well, step_well, actor_some, others_move, ended_stays, none_asked, WithBack, HeldFor, journal_stands}
use Rattle.report_laws.specs.Laws.{state_in, state_at, StatesLaw, told_in, told_of_back, world_lines, ReportLaw}
use Rattle.report_laws.proofs.States.{states_in, step_states}

-- the numbers of the processes

chosen_numbers : (ps : Processes) (o : Option ℕ) → (with_chosen ps o).numbers ≡ ps.numbers
chosen_numbers ps None = refl
chosen_numbers ps (Some who) = refl

both_numbers : (ps : Processes) (a b : Option ℕ) → (with_chosen (with_chosen ps a) b).numbers ≡ ps.numbers
both_numbers ps a b = chosen_numbers (with_chosen ps a) b ∙ chosen_numbers ps a

start_numbers : (w : World) (ps : Processes) (process : ℕ) (scalars : List ℤ) (answer : Answer) → ps.numbers ≡ w.processes → (started_as ps process answer).numbers ≡ (worlds.after_start w process scalars answer).processes
start_numbers w ps process scalars (Instance i) same = ap (λ (ns : List ℕ). ns ++ process ∷ []) same
start_numbers w ps process scalars answer same = same

did_numbers : (facts : Facts) (w : World) (ps : Processes) (who : ℕ) (request : Request) (answer : Answer) (refill : Option ℕ) → ps.numbers ≡ w.processes
    → (started (ended (asked ps who request) who request) request answer).numbers ≡ (worlds.after_request facts w who request answer refill).processes
did_numbers facts w ps who (Enter region) answer refill same = same ∙ sym (entered_keeps w who region (occupant w region)).processes
did_numbers facts w ps who (Leave region) answer refill same = same ∙ sym (left_keeps w who region (occupant w region)).processes
did_numbers facts w ps who (Continue event) answer refill same = same ∙ sym (continue_keeps w who event answer).processes
did_numbers facts w ps who (SendBuffer buffer scalars priority) answer refill same = same ∙ sym (send_keeps w who buffer scalars priority answer).processes
did_numbers facts w ps who (ReceiveBuffer buffers otherwise) answer refill same = same ∙ sym (receive_keeps facts w answer refill).processes
did_numbers facts w ps who (SendSignal signal scalars to priority) answer refill same = same ∙ sym (signal_keeps facts w who signal scalars to priority answer).processes
did_numbers facts w ps who (ReceiveSignal signals otherwise) answer refill same = same ∙ sym (hear_keeps w answer).processes
did_numbers facts w ps who (Start process scalars) answer refill same = start_numbers w ps process scalars answer same
did_numbers facts w ps who request answer refill same = same

asked_numbers : (ps : Processes) (who : ℕ) (request : Request) → (asked ps who request).numbers ≡ ps.numbers
asked_numbers ps who (Enter region) = refl
asked_numbers ps who (Leave region) = refl
asked_numbers ps who request = refl

step_numbers : (facts : Facts) (w : World) (ps : Processes) (event : Event) → ps.numbers ≡ w.processes → (told.after ps event).numbers ≡ (worlds.after facts w event).processes
step_numbers facts w ps (Did who ticks request answer refill) same = both_numbers _ (chosen_by answer) refill ∙ did_numbers facts w ps who request answer refill same
step_numbers facts w ps (Waits who ticks request) same = asked_numbers ps who request ∙ (same ∙ sym (waits_keeps w who request).processes)
step_numbers facts w ps (Goes who answer) same = same ∙ sym (goes_keeps w who (back_in (phase_of w who))).processes
step_numbers facts w ps (Runs who ticks) same = same

-- a list of regions for each state

abbrev HasLists : Processes → Type 0
HasLists ps = length ps.regions ≡ length ps.states

asked_lists : (ps : Processes) (who : ℕ) (request : Request) → HasLists ps → HasLists (asked ps who request)
asked_lists ps who (Enter region) is = length-set ps.regions who _ ∙ is
asked_lists ps who (Leave region) is = length-set ps.regions who _ ∙ is
asked_lists ps who request is = is

ended_lists : (ps : Processes) (who : ℕ) (request : Request) → HasLists ps → HasLists (ended ps who request)
ended_lists ps who (End how) is = is ∙ sym (length-set ps.states who (states.Ended how))
ended_lists ps who request is = is

started_as_lists : (ps : Processes) (process : ℕ) (answer : Answer) → HasLists ps → HasLists (started_as ps process answer)
started_as_lists ps process (Instance i) is = length_push ps.regions [] ∙ (ap (λ (n : ℕ). n + 1) is ∙ sym (length_push ps.states states.Active))
started_as_lists ps process answer is = is

started_lists : (ps : Processes) (request : Request) (answer : Answer) → HasLists ps → HasLists (started ps request answer)
started_lists ps (Start process scalars) answer is = started_as_lists ps process answer is
started_lists ps request answer is = is

chosen_lists : (ps : Processes) (o : Option ℕ) → HasLists ps → HasLists (with_chosen ps o)
chosen_lists ps None is = is
chosen_lists ps (Some who) is = is ∙ sym (length-set ps.states who states.Chosen)

step_lists : (ps : Processes) (event : Event) → HasLists ps → HasLists (told.after ps event)
step_lists ps (Did who ticks request answer refill) is =
    let begun : Processes = started (ended (asked ps who request) who request) request answer in
    chosen_lists (with_chosen begun (chosen_by answer)) refill (chosen_lists begun (chosen_by answer)
    (started_lists (ended (asked ps who request) who request) request answer (ended_lists (asked ps who request) who request (asked_lists ps who request is))))
step_lists ps (Waits who ticks request) is = asked_lists ps who request is ∙ sym (length-set (asked ps who request).states who (state_in_wait request))
step_lists ps (Goes who answer) is = is ∙ sym (length-set ps.states who states.Active)
step_lists ps (Runs who ticks) is = is

-- What the events tell of the instances is what the world has of them.
record Agrees (ps : Processes) (w : World) : Type 0 where
  pub states : ps.states ≡ states_in w.phases
  pub numbers : ps.numbers ≡ w.processes
  pub lists : HasLists ps

step_agrees : (facts : Facts) (w : World) (ps : Processes) (event : Event) → IsPossible facts w event → Agrees ps w → Agrees (told.after ps event) (worlds.after facts w event)
step_agrees facts w ps event may agrees = record {
  states = step_states facts w ps event may agrees.states;
  numbers = step_numbers facts w ps event agrees.numbers;
  lists = step_lists ps event agrees.lists;
}

length_map : {X Y : Type 0} (f : X → Y) (xs : List X) → length (map f xs) ≡ length xs
length_map f [] = refl
length_map f (x ∷ xs) = ap suc (length_map f xs)

below_phases : (ps : Processes) (w : World) (who : ℕ) (phase : Phase) → Agrees ps w → phase_of w who ≡ Some phase → who < length ps.regions
below_phases ps w who phase agrees at =
    let low = slice_get_within w.phases who phase at in
    let a = agrees.lists in
    let b = ap length agrees.states in
    let c = length_map state_in w.phases in
    omega (arith, low, a, b, c)

-- the regions that an instance holds once it goes on

chosen_regions : (ps : Processes) (o : Option ℕ) → (with_chosen ps o).regions ≡ ps.regions
chosen_regions ps None = refl
chosen_regions ps (Some who) = refl

ended_regions : (ps : Processes) (who : ℕ) (request : Request) → (ended ps who request).regions ≡ ps.regions
ended_regions ps who (End how) = refl
ended_regions ps who request = refl

started_as_regions : (ps : Processes) (process : ℕ) (answer : Answer) (i : ℕ) → regions_of (started_as ps process answer) i ≡ regions_of ps i
started_as_regions ps process (Instance j) i = read_pushed ps.regions i []
started_as_regions ps process answer i = refl

started_regions : (ps : Processes) (request : Request) (answer : Answer) (i : ℕ) → regions_of (started ps request answer) i ≡ regions_of ps i
started_regions ps (Start process scalars) answer i = started_as_regions ps process answer i
started_regions ps request answer i = refl

did_regions : (ps : Processes) (who ticks : ℕ) (request : Request) (answer : Answer) (refill : Option ℕ) (i : ℕ) → regions_of (told.after ps (Did who ticks request answer refill)) i ≡ regions_of (asked ps who request) i
did_regions ps who ticks request answer refill i =
    let begun : Processes = started (ended (asked ps who request) who request) request answer in
    ap (λ (rs : List (List ℕ)). slice_index_or rs i []) (chosen_regions (with_chosen begun (chosen_by answer)) refill ∙ chosen_regions begun (chosen_by answer))
    ∙ (started_regions (ended (asked ps who request) who request) request answer i ∙ ap (λ (rs : List (List ℕ)). slice_index_or rs i []) (ended_regions (asked ps who request) who request))

asked_elsewhere : (ps : Processes) (who : ℕ) (request : Request) (i : ℕ) → i ≢ who → regions_of (asked ps who request) i ≡ regions_of ps i
asked_elsewhere ps who (Enter region) i apart = read_elsewhere ps.regions who i _ [] apart
asked_elsewhere ps who (Leave region) i apart = read_elsewhere ps.regions who i _ [] apart
asked_elsewhere ps who request i apart = refl

others_regions : (ps : Processes) (event : Event) (i : ℕ) → i ≢ actor event → regions_of (told.after ps event) i ≡ regions_of ps i
others_regions ps (Did who ticks request answer refill) i apart = did_regions ps who ticks request answer refill i ∙ asked_elsewhere ps who request i apart
others_regions ps (Waits who ticks request) i apart = asked_elsewhere ps who request i apart
others_regions ps (Goes who answer) i apart = refl
others_regions ps (Runs who ticks) i apart = refl

-- a request ends, or tells the regions as run_laws does
asked_own : (ps : Processes) (who : ℕ) (request : Request) → who < length ps.regions → ((how : How) × (request ≡ End how)) ⊎ (regions_of (asked ps who request) who ≡ laws.asked (regions_of ps who) request)
asked_own ps who (Enter region) low = inr (read_written ps.regions who _ [] low)
asked_own ps who (Leave region) low = inr (read_written ps.regions who _ [] low)
asked_own ps who (End how) low = inl (how, refl)
asked_own ps who request low = inr refl

-- An instance has ended, or the events tell these regions of it.
abbrev Regions : Processes → World → ℕ → List ℕ → Type 0
Regions ps w i regions = ((how : How) × (phase_of w i ≡ Some (phases.Ended how))) ⊎ (regions_of ps i ≡ regions)

others_told : (facts : Facts) (w : World) (ps : Processes) (event : Event) (i : ℕ) (regions : List ℕ) → 1 ≤ actor event → i ≢ actor event → Regions ps w i regions → Regions (told.after ps event) (worlds.after facts w event) i (regions_on (requests_by i event) regions)
others_told facts w ps event i regions some apart (inl over) = inl (over.0, ended_stays (phase_of w i) _ over.0 over.1 (others_move facts w event i some apart))
others_told facts w ps event i regions some apart (inr is) = inr (others_regions ps event i apart ∙ (is ∙ sym (ap (λ (rs : List Request). regions_on rs regions) (none_asked i event apart))))

still_told : (ps : Processes) (w : World) (i : ℕ) (phase : Phase) (regions : List ℕ) → phase_of w i ≡ Some phase → ((how : How) → phase ≡ phases.Ended how → ⊥) → Regions ps w i regions → regions_of ps i ≡ regions
still_told ps w i phase regions at other (inl over) = absurd (other over.0 (let both : Some phase ≡ Some (phases.Ended over.0) = sym at ∙ over.1 in cc))
still_told ps w i phase regions at other (inr is) = is

one_request : (who : ℕ) (request : Request) (regions : List ℕ) → regions_on (if who == who then request ∷ [] else []) regions ≡ laws.asked regions request
one_request who request regions = let here : (who == who) ≡ true = eq-eqb who who refl in rw here refl

did_told : (facts : Facts) (w : World) (ps : Processes) (who ticks : ℕ) (request : Request) (answer : Answer) (refill : Option ℕ) (regions : List ℕ) → Agrees ps w → IsPossible facts w (Did who ticks request answer refill) → regions_of ps who ≡ regions
    → Regions (told.after ps (Did who ticks request answer refill)) (worlds.after_request facts w who request answer refill) who (laws.asked regions request)
did_told facts w ps who ticks request answer refill regions agrees may is = elim (asked_own ps who request (below_phases ps w who phases.Active agrees may.0.active)) [
  | inl ends ↦ inl (
    ends.0,
    ap (λ (r : Request). phase_of (worlds.after_request facts w who r answer refill) who) ends.1 ∙ written_here w.phases who (phases.Ended ends.0) phases.Active may.0.active,
  )
  | inr same ↦ inr (did_regions ps who ticks request answer refill who ∙ (same ∙ ap (λ (l : List ℕ). laws.asked l request) is))
]

waits_told : (facts : Facts) (w : World) (ps : Processes) (who ticks : ℕ) (request : Request) (regions : List ℕ) → Agrees ps w → IsPossible facts w (Waits who ticks request) → regions_of ps who ≡ regions
    → Regions (told.after ps (Waits who ticks request)) (worlds.after_waits w who request) who (laws.asked regions request)
waits_told facts w ps who ticks request regions agrees may is = elim (asked_own ps who request (below_phases ps w who phases.Active agrees may.0.active)) [
  | inl ends ↦ absurd (never request ends.0 ends.1 may)
  | inr same ↦ inr (same ∙ ap (λ (l : List ℕ). laws.asked l request) is)
]
  where
    never : (r : Request) (how : How) → r ≡ End how → IsPossible facts w (Waits who ticks r) → ⊥
    never r how ends may' = (subst (λ (x : Request). IsPossible facts w (Waits who ticks x)) ends may').1

own_told : (facts : Facts) (w : World) (ps : Processes) (event : Event) (regions : List ℕ) → Agrees ps w → IsPossible facts w event → Regions ps w (actor event) regions
    → Regions (told.after ps event) (worlds.after facts w event) (actor event) (regions_on (requests_by (actor event) event) regions)
own_told facts w ps (Did who ticks request answer refill) regions agrees may is =
    subst (λ (l : List ℕ). Regions (told.after ps (Did who ticks request answer refill)) (worlds.after_request facts w who request answer refill) who l) (sym (one_request who request regions))
    (did_told facts w ps who ticks request answer refill regions agrees may (still_told ps w who phases.Active regions may.0.active (λ how e. let f : ⊥ = cc in f) is))
own_told facts w ps (Waits who ticks request) regions agrees may is =
    subst (λ (l : List ℕ). Regions (told.after ps (Waits who ticks request)) (worlds.after_waits w who request) who l) (sym (one_request who request regions))
    (waits_told facts w ps who ticks request regions agrees may (still_told ps w who phases.Active regions may.0.active (λ how e. let f : ⊥ = cc in f) is))
own_told facts w ps (Goes who answer) regions agrees may is = inr (still_told ps w who (phases.Chosen answer may.back) regions may.chosen (λ how e. let f : ⊥ = cc in f) is)
own_told facts w ps (Runs who ticks) regions agrees may is = is

step_told : (facts : Facts) (w : World) (ps : Processes) (event : Event) (i : ℕ) (regions : List ℕ) → HoldsWell w → Agrees ps w → IsPossible facts w event → Regions ps w i regions
    → Regions (told.after ps event) (worlds.after facts w event) i (regions_on (requests_by i event) regions)
step_told facts w ps event i regions well agrees may is = elim (cases_eq i (actor event)) [
  | inr apart ↦ others_told facts w ps event i regions (actor_some facts w event well may) apart is
  | inl same ↦ subst (λ (n : ℕ). Regions (told.after ps event) (worlds.after facts w event) n (regions_on (requests_by n event) regions)) (sym same)
      (own_told facts w ps event regions agrees may (subst (λ (n : ℕ). Regions ps w n regions) same is))
]

-- the same of events
record AllAgree (ps : Processes) (w : World) (i : ℕ) (regions : List ℕ) : Type 0 where
  pub well : HoldsWell w
  pub agrees : Agrees ps w
  pub told : Regions ps w i regions

all_agree : (facts : Facts) (w : World) (ps : Processes) (events : List Event) (i : ℕ) (regions : List ℕ) → IsRunFrom facts w events → AllAgree ps w i regions
    → AllAgree (told.after_all ps events) (worlds.after_all facts w events) i (regions_on (requests_of i events) regions)
all_agree facts w ps [] i regions run all = all
all_agree facts w ps (event ∷ events) i regions run all =
    let may = run.0.possible in
    subst (λ (l : List ℕ). AllAgree (told.after_all (told.after ps event) events) (worlds.after_all facts (worlds.after facts w event) events) i l) (sym (regions_on-append (requests_by i event) (requests_of i events) regions))
    (all_agree facts (worlds.after facts w event) (told.after ps event) events i (regions_on (requests_by i event) regions) run.1 (record {
      well = step_well facts w event may all.well;
      agrees = step_agrees facts w ps event may all.agrees;
      told = step_told facts w ps event i regions all.well all.agrees may all.told;
    }))

none_told : (i : ℕ) → regions_of outermost i ≡ []
none_told zero = refl
none_told (suc zero) = refl
none_told (suc (suc i)) = refl

journal_agrees : (facts : Facts) (events : List Event) (i : ℕ) → IsRun facts events → AllAgree (processes_after events) (world_of facts events) i (regions_on (requests_of i events) [])
journal_agrees facts events i run = all_agree facts (opening facts) outermost events i [] run (record {
  well = opening_well facts;
  agrees = record { states = refl; numbers = refl; lists = refl };
  told = inr (none_told i);
})

read_states : (ps : List Phase) (i : ℕ) → slice_index_or (states_in ps) i (states.Ended hows.Normal) ≡ state_at (slice_get ps i)
read_states [] i = refl
read_states (p ∷ ps) zero = refl
read_states (p ∷ ps) (suc i) = read_states ps i

pub states_law : StatesLaw
states_law facts events run =
    let agrees = (journal_agrees facts events 0 run).agrees in
    record {
      count = ap length agrees.states ∙ length_map state_in (world_of facts events).phases;
      states = λ i. ap (λ (xs : List ProcessState). slice_index_or xs i (states.Ended hows.Normal)) agrees.states ∙ read_states (world_of facts events).phases i;
      numbers = λ i. ap (λ (ns : List ℕ). slice_index_or ns i 0) agrees.numbers;
    }

some_last : (xs : List ℕ) (x : ℕ) → are_some (xs ++ x ∷ []) ≡ true
some_last [] x = refl
some_last (y ∷ xs) x = refl

-- one that was chosen has a region to lock where the events tell regions of it
chosen_told : (ps : Processes) (i : ℕ) (back : Option ℕ) (held regions : List ℕ) → regions_of ps i ≡ regions → WithBack held back regions → told_of_chosen (has_regions ps i) ≡ told_of_back back
chosen_told ps i None held regions is with' = ap (λ (l : List ℕ). told_of_chosen (are_some l)) (is ∙ with'.1)
chosen_told ps i (Some region) held regions is with' =
    ap (λ (l : List ℕ). told_of_chosen (are_some l)) (is ∙ sym with') ∙ ap told_of_chosen (some_last held region)

phase_told : (ps : Processes) (w : World) (i : ℕ) (phase : Option Phase) (held regions : List ℕ) → phase_of w i ≡ phase → Regions ps w i regions → HeldFor held phase regions → told_of (state_at phase) (has_regions ps i) ≡ told_in phase
phase_told ps w i None held regions at is for = refl
phase_told ps w i (Some phases.Active) held regions at is for = refl
phase_told ps w i (Some (phases.Waiting request send back)) held regions at is for = refl
phase_told ps w i (Some (phases.Chosen answer back)) held regions at is for =
    ap Some (chosen_told ps i back held regions (still_told ps w i (phases.Chosen answer back) regions at (λ how e. let f : ⊥ = cc in f) is) for)
phase_told ps w i (Some (phases.Ended hows.Normal)) held regions at is for = refl
phase_told ps w i (Some (phases.Ended hows.Stopped)) held regions at is for = refl
phase_told ps w i (Some (phases.Ended (hows.Raised exception))) held regions at is for = refl

instance_told : (facts : Facts) (events : List Event) (i : ℕ) → IsRun facts events
    → told_of (state_of (processes_after events) i) (has_regions (processes_after events) i) ≡ told_in (phase_of (world_of facts events) i)
instance_told facts events i run =
    let w : World = world_of facts events in
    let ps : Processes = processes_after events in
    ap (λ (s : ProcessState). told_of s (has_regions ps i)) ((states_law facts events run).states i)
    ∙ phase_told ps w i (phase_of w i) (held_by w i) (regions_on (requests_of i events) []) refl (journal_agrees facts events i run).told (journal_stands facts events i run).held

same_lines : (program : Checked) (facts : Facts) (events : List Event) (count : ℕ) → IsRun facts events → lines_below program (processes_after events) count ≡ world_lines program (world_of facts events) count
same_lines program facts events zero run = refl
same_lines program facts events (suc n) run =
    ap (λ (text : List ℕ). text ++ line_at program (processes_after events) n) (same_lines program facts events n run)
    ∙ (ap (λ (number : ℕ). world_lines program (world_of facts events) n ++ line_if program n number (told_of (state_of (processes_after events) n) (has_regions (processes_after events) n))) ((states_law facts events run).numbers n)
    ∙ ap (λ (o : Option Told). world_lines program (world_of facts events) n ++ line_if program n (slice_index_or (world_of facts events).processes n 0) o) (instance_told facts events n run))

pub report_law : ReportLaw
report_law program facts events over run =
    ap (λ (n : ℕ). lines_below program (processes_after events) n ++ last_line over) (states_law facts events run).count
    ∙ ap (λ (text : List ℕ). text ++ last_line over) (same_lines program facts events (length (world_of facts events).phases) run)
