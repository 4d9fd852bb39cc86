-- What one more event adds to what is read off a journal.
use Rattle.std.proofs.Common.{◌≡◌, ◌≢◌, ◌⊎◌, ℕ, zero, suc, ◌+◌, ◌≤◌, ◌<◌, Bool, true, false, List, [], ◌∷◌, ◌++◌, ℤ, length, length-append, length-set, refl, sym, ap, ◌∙◌, subst, inl, inr, arith, append_assoc, append-nil, Option, Some, None, slice_get, slice_set}
use Rattle.std.specs.Prelude.{◌==◌, if◌then◌else◌}
use Rattle.std.specs.List.{flat_map}
use Rattle.std.proofs.lemmas.Bool.{cases_eq, cases_Bool, eqb-true, eq-eqb}
use Rattle.std.proofs.lemmas.List.Concat.{flat_map-append}
use Rattle.std.proofs.lemmas.Option.{slice_get_within, slice_get_cases, slice_get_past}
use Rattle.kernel_base.specs.declared.ends.How.TheVariants.{Normal}
use Rattle.kernel_base.specs.declared.facts.Facts.{Facts}
use Rattle.kernel_base.specs.declared.request.Request.{Request}
use Rattle.kernel_base.specs.declared.request.Request.TheVariants.{Read, Write, Enter, Leave, Delay, Continue, SendBuffer, ReceiveBuffer, SendSignal, ReceiveSignal, Start, Put, Get, End}
use Rattle.kernel_base.specs.declared.answer.Answer.{Answer}
use Rattle.kernel_base.specs.declared.answer.Answer.TheVariants.{Instance}
use Rattle.kernel_base.specs.declared.event.Event.{Event}
use Rattle.kernel_base.specs.declared.event.Event.TheVariants.{Did, Waits, Goes, Runs}
use Rattle.world_model.specs.declared.world.Phase.{Phase}
use Rattle.world_model.specs.declared.world.Phase.TheVariants.{Active, Waiting, Chosen, Ended}
use Rattle.world_model.specs.declared.world.World.{World}
use Rattle.world_model.specs.Lists.{last_of}
use Rattle.world_model.specs.Session.{Item, Ask}
use Rattle.world_model.specs.Waiting.{phase_of, IsActive}
use Rattle.world_model.specs.World.{opening, occupant, held_by, drawn, back_in, locked_back, after_waits, after_request, after_start, after, after_all, world_of}
use Rattle.world_model.specs.Allowed.{IsPossible, IsRun}
use Rattle.world_model.specs.Journal.{ticks_of, items_by, line_of, answers_by, answers_of, Birth, births_by, first_birth, started_as, born_of}
use Rattle.world_model.proofs.ChangedLists.{written_here, written_elsewhere}
use Rattle.world_model.proofs.Freeing.{freeing_kept, back_kept}
use Rattle.world_model.proofs.PhaseMoves.{Moves, Stays, IsChosenNow, Begins, IsEnd, did_moves}
use Rattle.run_laws.specs.Laws.{Births, birth_at, birth_in}
use Rattle.run_laws.proofs.Births.{Keeps, entered_keeps, left_keeps, continue_keeps, send_keeps, receive_keeps, signal_keeps, hear_keeps, waits_keeps, goes_keeps, births_law}
use Rattle.run_checker.specs.Slots.{is_end}

pub line_noted : (i : ℕ) (events : List Event) (event : Event) → line_of i (events ++ event ∷ []) ≡ line_of i events ++ items_by i event
line_noted i events event = flat_map-append (items_by i) events (event ∷ []) ∙ ap (λ (t : List Item). line_of i events ++ t) (append-nil (items_by i event))

pub answers_noted : (i : ℕ) (events : List Event) (event : Event) → answers_of i (events ++ event ∷ []) ≡ answers_of i events ++ answers_by i event
answers_noted i events event = flat_map-append (answers_by i) events (event ∷ []) ∙ ap (λ (t : List Answer). answers_of i events ++ t) (append-nil (answers_by i event))

after_noted : (facts : Facts) (w : World) (events : List Event) (event : Event) → after_all facts w (events ++ event ∷ []) ≡ after facts (after_all facts w events) event
after_noted facts w [] event = refl
after_noted facts w (e ∷ events) event = after_noted facts (after facts w e) events event

pub world_noted : (facts : Facts) (events : List Event) (event : Event) → world_of facts (events ++ event ∷ []) ≡ after facts (world_of facts events) event
world_noted facts events event = after_noted facts (opening facts) events event

-- the first birth stays the first
first_stays : (births more : List Birth) (birth : Birth) → first_birth births ≡ Some birth → first_birth (births ++ more) ≡ Some birth
first_stays [] more birth born = absurd (let f : ⊥ = cc in f)
first_stays (other ∷ births) more birth born = born

started_more : (i : ℕ) (events more : List Event) (birth : Birth) → started_as i events ≡ Some birth → started_as i (events ++ more) ≡ Some birth
started_more i events more birth born = ap first_birth (flat_map-append (births_by i) events more) ∙ first_stays (flat_map (births_by i) events) (flat_map (births_by i) more) birth born

-- who was born stays so
pub born_more : (i : ℕ) (events more : List Event) (birth : Birth) → born_of i events ≡ Some birth → born_of i (events ++ more) ≡ Some birth
born_more zero events more birth born = started_more zero events more birth born
born_more (suc zero) events more birth born = born
born_more (suc (suc i)) events more birth born = started_more (suc (suc i)) events more birth born

-- who was born was made
pub born_made : (w : World) (events : List Event) (i : ℕ) (birth : Birth) → Births w events → born_of i events ≡ Some birth → (1 ≤ i) × (i < length w.phases)
born_made w events zero birth b born = absurd (let none : None ≡ Some birth = sym b.nobody ∙ born in let f : ⊥ = cc in f)
born_made w events (suc zero) birth b born = let some = b.some in (omega arith, omega (arith, some))
born_made w events (suc (suc i)) birth b born = elim ((slice_get_cases w.processes (suc (suc i))).1) [
  | inl (process, inside, at, item) ↦ (omega arith, let n = b.processes in omega (arith, n, inside))
  | inr (past, none) ↦ absurd (let e : None ≡ Some birth = sym (b.births (suc (suc i)) (omega arith) ∙ rw none refl) ∙ born in let f : ⊥ = cc in f)
]

first_noted : (births : List Birth) (birth : Birth) → first_birth births ≡ None → first_birth (births ++ birth ∷ []) ≡ Some birth
first_noted [] birth none = refl
first_noted (other ∷ births) birth none = absurd (let f : ⊥ = cc in f)

pub mine : (i : ℕ) → (i == i) ≡ true
mine i = eq-eqb i i refl

pub apart : (a b : ℕ) → a ≢ b → (a == b) ≡ false
apart a b other = elim (cases_Bool (a == b)) [
  | inl is ↦ absurd (other (eqb-true a b is))
  | inr different ↦ different
]

-- who is started next is born
pub born_next : (w : World) (events : List Event) (who ticks process : ℕ) (scalars : List ℤ) (refill : Option ℕ) (j : ℕ) → Births w events → j ≡ length w.phases
    → born_of j (events ++ Did who ticks (Start process scalars) (Instance j) refill ∷ []) ≡ Some (record { process = process; arguments = scalars })
born_next w events who ticks process scalars refill zero b is = absurd (let some = b.some in let f : ⊥ = omega (arith, is, some) in f)
born_next w events who ticks process scalars refill (suc zero) b is = absurd (let some = b.some in let f : ⊥ = omega (arith, is, some) in f)
born_next w events who ticks process scalars refill (suc (suc i)) b is =
    let j : ℕ = suc (suc i) in
    let birth : Birth = record { process = process; arguments = scalars } in
    let event : Event = Did who ticks (Start process scalars) (Instance j) refill in
    let p = b.processes in
    let past : slice_get w.processes j ≡ None = slice_get_past w.processes j (omega (arith, p, is)) in
    let none : started_as j events ≡ None = b.births j (omega arith) ∙ ap (λ (o : Option ℕ). birth_in o (slice_get w.arguments j)) past in
    let one : births_by j event ≡ birth ∷ [] = rw (mine j) refl in
    ap first_birth (flat_map-append (births_by j) events (event ∷ []) ∙ ap (λ (t : List Birth). flat_map (births_by j) events ++ t) (append-nil (births_by j event) ∙ one)) ∙ first_noted (flat_map (births_by j) events) birth none

-- who does what an event tells
abbrev pub doer : Event → ℕ
doer (Did who ticks request answer refill) = who
doer (Waits who ticks request) = who
doer (Goes who answer) = who
doer (Runs who ticks) = who

-- an event of another tells nothing of an instance
pub others_items : (i : ℕ) (event : Event) → doer event ≢ i → items_by i event ≡ []
others_items i (Did who ticks request answer refill) other = rw (apart who i other) refl
others_items i (Waits who ticks request) other = rw (apart who i other) refl
others_items i (Goes who answer) other = refl
others_items i (Runs who ticks) other = rw (apart who i other) refl

pub others_answers : (i : ℕ) (event : Event) → doer event ≢ i → answers_by i event ≡ []
others_answers i (Did who ticks request answer refill) other = rw (apart who i other) refl
others_answers i (Waits who ticks request) other = refl
others_answers i (Goes who answer) other = rw (apart who i other) refl
others_answers i (Runs who ticks) other = refl

-- how an event of another moves a phase
did_others : (facts : Facts) (w : World) (who : ℕ) (request : Request) (answer : Answer) (refill : Option ℕ) (i : ℕ) → 1 ≤ who → who ≢ i → Moves (phase_of w i) (phase_of (after_request facts w who request answer refill) i)
did_others facts w who (End how) answer refill i some other = Stays (written_elsewhere w.phases who i (Ended how) (λ e. other (sym e)))
did_others facts w who request answer refill i some other = did_moves facts w who request answer refill i some (λ is. is)

set_others : (old phases : List Phase) (who i : ℕ) (new : Phase) → phases ≡ old → who ≢ i → slice_get (slice_set phases who new) i ≡ slice_get old i
set_others old phases who i new same other = ap (λ (ps : List Phase). slice_get (slice_set ps who new) i) same ∙ written_elsewhere old who i new (λ e. other (sym e))

waits_others : (w : World) (who : ℕ) (request : Request) (i : ℕ) → who ≢ i → phase_of (after_waits w who request) i ≡ phase_of w i
waits_others w who (Enter region) i other = set_others w.phases w.phases who i _ refl other
waits_others w who request i other = set_others w.phases _ who i _ (freeing_kept w who (drawn w request) (last_of (held_by w who))) other

pub others_move : (facts : Facts) (w : World) (event : Event) (i : ℕ) → 1 ≤ doer event → doer event ≢ i → Moves (phase_of w i) (phase_of (after facts w event) i)
others_move facts w (Did who ticks request answer refill) i some other = did_others facts w who request answer refill i some other
others_move facts w (Waits who ticks request) i some other = Stays (waits_others w who request i other)
others_move facts w (Goes who answer) i some other = Stays (set_others w.phases _ who i Active (back_kept w who (back_in (phase_of w who))) other)
others_move facts w (Runs who ticks) i some other = Stays refl

-- one that is active and asks something other than its end stays active
stays_active : (old new : Option Phase) → old ≡ Some Active → Moves old new → new ≡ Some Active
stays_active old new active (Stays same) = same ∙ active
stays_active old new active (IsChosenNow chosen) = absurd (let both : Some Active ≡ Some (Waiting chosen.request chosen.send chosen.back) = sym active ∙ chosen.waited in let f : ⊥ = cc in f)
stays_active old new active (Begins none begins) = absurd (let both : Some Active ≡ None = sym active ∙ none in let f : ⊥ = cc in f)

ends_by : (request : Request) → is_end request ≡ false → IsEnd request → ⊥
ends_by (End how) is ends = let f : ⊥ = cc in f
ends_by request is ends = ends

pub did_active : (facts : Facts) (w : World) (who : ℕ) (request : Request) (answer : Answer) (refill : Option ℕ) → 1 ≤ who → IsActive w who → is_end request ≡ false → phase_of (after_request facts w who request answer refill) who ≡ Some Active
did_active facts w who request answer refill some active other = stays_active (phase_of w who) _ active (did_moves facts w who request answer refill who some (ends_by request other))

-- who waits, or was chosen
abbrev pub HasToWait : Option Phase → Type 0
HasToWait None = ⊥
HasToWait (Some Active) = ⊥
HasToWait (Some (Waiting request send back)) = Unit {0}
HasToWait (Some (Chosen answer back)) = Unit {0}
HasToWait (Some (Ended how)) = ⊥

set_waits : (old phases : List Phase) (who : ℕ) (new : Phase) → phases ≡ old → slice_get old who ≡ Some Active → HasToWait (Some new) → HasToWait (slice_get (slice_set phases who new) who)
set_waits old phases who new same active waits = subst HasToWait (sym (ap (λ (ps : List Phase). slice_get (slice_set ps who new) who) same ∙ written_here old who new Active active)) waits

pub waits_waits : (w : World) (who : ℕ) (request : Request) → IsActive w who → HasToWait (phase_of (after_waits w who request) who)
waits_waits w who (Enter region) active = set_waits w.phases w.phases who _ refl active tt
waits_waits w who request active = set_waits w.phases _ who (Waiting request (drawn w request) (last_of (held_by w who))) (freeing_kept w who (drawn w request) (last_of (held_by w who))) active tt

pub goes_active : (w : World) (who : ℕ) (answer : Answer) (back : Option ℕ) → phase_of w who ≡ Some (Chosen answer back) → slice_get (slice_set (locked_back w who (back_in (phase_of w who))).phases who Active) who ≡ Some Active
goes_active w who answer back chosen = ap (λ (ps : List Phase). slice_get (slice_set ps who Active) who) (back_kept w who (back_in (phase_of w who))) ∙ written_here w.phases who Active (Chosen answer back) chosen

-- a process is started
abbrev pub starts_one : Request → Answer → Bool
starts_one (Start process scalars) (Instance j) = true
starts_one request answer = false

start_keeps : (w : World) (process : ℕ) (scalars : List ℤ) (answer : Answer) → starts_one (Start process scalars) answer ≡ false → length (after_start w process scalars answer).phases ≡ length w.phases
start_keeps w process scalars (Instance j) none = absurd (let f : ⊥ = cc in f)
start_keeps w process scalars answer none = refl

-- an event that starts no process leaves as many instances
did_keeps : (facts : Facts) (w : World) (who : ℕ) (request : Request) (answer : Answer) (refill : Option ℕ) → starts_one request answer ≡ false → length (after_request facts w who request answer refill).phases ≡ length w.phases
did_keeps facts w who (Read place) answer refill none = refl
did_keeps facts w who (Write place scalars) answer refill none = refl
did_keeps facts w who (Enter region) answer refill none = (entered_keeps w who region (occupant w region)).phases
did_keeps facts w who (Leave region) answer refill none = (left_keeps w who region (occupant w region)).phases
did_keeps facts w who (Delay events priority) answer refill none = refl
did_keeps facts w who (Continue event) answer refill none = (continue_keeps w who event answer).phases
did_keeps facts w who (SendBuffer buffer scalars priority) answer refill none = (send_keeps w who buffer scalars priority answer).phases
did_keeps facts w who (ReceiveBuffer buffers otherwise) answer refill none = (receive_keeps facts w answer refill).phases
did_keeps facts w who (SendSignal signal scalars to priority) answer refill none = (signal_keeps facts w who signal scalars to priority answer).phases
did_keeps facts w who (ReceiveSignal signals otherwise) answer refill none = (hear_keeps w answer).phases
did_keeps facts w who (Start process scalars) answer refill none = start_keeps w process scalars answer none
did_keeps facts w who (Put bytes) answer refill none = refl
did_keeps facts w who Get answer refill none = refl
did_keeps facts w who (End how) answer refill none = length-set w.phases who (Ended how)

-- the event starts no process
abbrev pub StartsNone : Event → Type 0
StartsNone (Did who ticks request answer refill) = starts_one request answer ≡ false
StartsNone event = Unit {0}

pub as_many : (facts : Facts) (w : World) (event : Event) → StartsNone event → length (after facts w event).phases ≡ length w.phases
as_many facts w (Did who ticks request answer refill) none = did_keeps facts w who request answer refill none
as_many facts w (Waits who ticks request) none = (waits_keeps w who request).phases
as_many facts w (Goes who answer) none = (goes_keeps w who (back_in (phase_of w who))).phases
as_many facts w (Runs who ticks) none = refl
