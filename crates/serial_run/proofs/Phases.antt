-- What an instance did, by its phase: whether its last request is answered, and whether it asked for its end.
use Rattle.std.proofs.Common.{◌≡◌, ◌≢◌, ℕ, zero, suc, ◌+◌, ◌≤◌, List, [], ◌∷◌, ◌++◌, length, length-append, refl, sym, ap, ◌∙◌, subst, inl, inr, arith, append_assoc, append-nil, true, false, Option, Some, None, slice_get, slice_set}
use Rattle.std.specs.Prelude.{◌==◌}
use Rattle.std.proofs.lemmas.Bool.{cases_eq, cases_Bool, eqb-true, eq-eqb}
use Rattle.kernel_base.specs.declared.facts.Facts.{Facts}
use Rattle.kernel_base.specs.Facts.{IsSound}
use Rattle.kernel_base.specs.declared.request.Request.{Request}
use Rattle.kernel_base.specs.declared.request.Request.TheVariants.{Enter, End}
use Rattle.kernel_base.specs.declared.answer.Answer.{Answer}
use Rattle.kernel_base.specs.declared.answer.Answer.TheVariants.{Done}
use Rattle.kernel_base.specs.declared.event.Event.{Event}
use Rattle.kernel_base.specs.declared.event.Event.TheVariants.{Did, Waits, Goes, Runs}
use Rattle.world_model.specs.declared.world.Phase.{Phase}
use Rattle.world_model.specs.declared.world.Phase.TheVariants.{Active, Waiting, Chosen, Ended}
use Rattle.world_model.specs.declared.world.World.{World}
use Rattle.world_model.specs.Lists.{last_of}
use Rattle.world_model.specs.Session.{Item, Tick, Ask}
use Rattle.world_model.specs.Waiting.{phase_of, IsActive}
use Rattle.world_model.specs.World.{opening, held_by, drawn, locked_back, back_in, after_waits, after_request, after, after_all, world_of}
use Rattle.world_model.specs.Allowed.{IsPossible, IsRunFrom, IsRun, MustWait}
use Rattle.world_model.specs.Journal.{ticks_of, items_by, line_of, requests_by, requests_of, answers_by, answers_of}
use Rattle.world_model.proofs.ChangedLists.{written_here, written_elsewhere}
use Rattle.world_model.proofs.Freeing.{freeing_kept, back_kept}
use Rattle.world_model.proofs.PhaseMoves.{Moves, Stays, IsChosenNow, Begins, IsEnd, did_moves}
use Rattle.world_model.proofs.Well.{IsWell, some_active, opening_well, step_well}
use Rattle.serial_run.specs.Coming.{last_item, AsksNoEnd}

pub last_pushed : (line : List Item) (item : Item) → last_item (line ++ item ∷ []) ≡ Some item
last_pushed [] item = refl
last_pushed (a ∷ []) item = refl
last_pushed (a ∷ b ∷ line) item = last_pushed (b ∷ line) item

-- a request behind ticks
pub last_asked : (line : List Item) (ticks : ℕ) (request : Request) → last_item (line ++ (ticks_of ticks ++ Ask request ∷ [])) ≡ Some (Ask request)
last_asked line ticks request = ap last_item (sym (append_assoc line (ticks_of ticks) (Ask request ∷ []))) ∙ last_pushed (line ++ ticks_of ticks) (Ask request)

-- a request other than that for an end
pub other_asked : (line : List Item) (request : Request) → (IsEnd request → ⊥) → last_item line ≡ Some (Ask request) → AsksNoEnd line
other_asked line request other last how is =
    let both : Some (Ask request) ≡ Some (Ask (End how)) = sym last ∙ is in
    let same : request ≡ End how = cc in
    other (subst IsEnd (sym same) tt)

tick_last : (line : List Item) → AsksNoEnd (line ++ Tick ∷ [])
tick_last line how is =
    let both : Some Tick ≡ Some (Ask (End how)) = sym (last_pushed line Tick) ∙ is in
    let f : ⊥ = cc in f

-- ticks ask for no end
pub ticks_ask_none : (line : List Item) (count : ℕ) → AsksNoEnd line → AsksNoEnd (line ++ ticks_of count)
ticks_ask_none line zero none = subst AsksNoEnd (sym (append-nil line)) none
ticks_ask_none line (suc count) none = subst AsksNoEnd (append_assoc line (Tick ∷ []) (ticks_of count)) (ticks_ask_none (line ++ Tick ∷ []) count (tick_last line))

-- What an instance asked, had answered and did, by its phase: an open request is asked and not answered, and only what has ended
-- asked for its end last.
abbrev pub Tells : Option Phase → ℕ → ℕ → List Item → Type 0
Tells None asked answered line = (asked ≡ answered) × AsksNoEnd line
Tells (Some Active) asked answered line = (asked ≡ answered) × AsksNoEnd line
Tells (Some (Waiting request send back)) asked answered line = (asked ≡ suc answered) × AsksNoEnd line
Tells (Some (Chosen answer back)) asked answered line = (asked ≡ suc answered) × AsksNoEnd line
Tells (Some (Ended how)) asked answered line = last_item line ≡ Some (Ask (End how))

tells_by : (o : Option Phase) (a a' b b' : ℕ) (l l' : List Item) → a' ≡ a → b' ≡ b → l' ≡ l → Tells o a b l → Tells o a' b' l'
tells_by o a a' b b' l l' same_a same_b same_l h =
    subst (λ (n : ℕ). Tells o n b' l') (sym same_a) (subst (λ (n : ℕ). Tells o a n l') (sym same_b) (subst (λ (t : List Item). Tells o a b t) (sym same_l) h))

moves_tells : (old new : Option Phase) (a b : ℕ) (l : List Item) → Moves old new → Tells old a b l → Tells new a b l
moves_tells old new a b l (Stays same) h = subst (λ (o : Option Phase). Tells o a b l) (sym same) h
moves_tells old new a b l (IsChosenNow chosen) h = subst (λ (o : Option Phase). Tells o a b l) (sym chosen.has_answer) (subst (λ (o : Option Phase). Tells o a b l) chosen.waited h)
moves_tells old new a b l (Begins none begins) h = subst (λ (o : Option Phase). Tells o a b l) (sym begins) (subst (λ (o : Option Phase). Tells o a b l) none h)

-- what an event tells of an instance
record Adds (i : ℕ) (event : Event) (m n : ℕ) (more : List Item) : Type 0 where
  asked : length (requests_by i event) ≡ m
  answered : length (answers_by i event) ≡ n
  items : items_by i event ≡ more

test_is : (who i : ℕ) → i ≡ who → (who == i) ≡ true
test_is who i same = eq-eqb who i (sym same)

test_fails : (who i : ℕ) → i ≢ who → (who == i) ≡ false
test_fails who i apart = elim (cases_Bool (who == i)) [
  | inl is ↦ absurd (apart (sym (eqb-true who i is)))
  | inr fails ↦ fails
]

did_adds : (i who ticks : ℕ) (request : Request) (answer : Answer) (refill : Option ℕ) → i ≡ who → Adds i (Did who ticks request answer refill) 1 1 (ticks_of ticks ++ Ask request ∷ [])
did_adds i who ticks request answer refill same = let test = test_is who i same in record { asked = rw test refl; answered = rw test refl; items = rw test refl }

did_adds_none : (i who ticks : ℕ) (request : Request) (answer : Answer) (refill : Option ℕ) → i ≢ who → Adds i (Did who ticks request answer refill) 0 0 []
did_adds_none i who ticks request answer refill apart = let test = test_fails who i apart in record { asked = rw test refl; answered = rw test refl; items = rw test refl }

waits_adds : (i who ticks : ℕ) (request : Request) → i ≡ who → Adds i (Waits who ticks request) 1 0 (ticks_of ticks ++ Ask request ∷ [])
waits_adds i who ticks request same = let test = test_is who i same in record { asked = rw test refl; answered = refl; items = rw test refl }

waits_adds_none : (i who ticks : ℕ) (request : Request) → i ≢ who → Adds i (Waits who ticks request) 0 0 []
waits_adds_none i who ticks request apart = let test = test_fails who i apart in record { asked = rw test refl; answered = refl; items = rw test refl }

goes_adds : (i who : ℕ) (answer : Answer) → i ≡ who → Adds i (Goes who answer) 0 1 []
goes_adds i who answer same = let test = test_is who i same in record { asked = refl; answered = rw test refl; items = refl }

goes_adds_none : (i who : ℕ) (answer : Answer) → i ≢ who → Adds i (Goes who answer) 0 0 []
goes_adds_none i who answer apart = let test = test_fails who i apart in record { asked = refl; answered = rw test refl; items = refl }

runs_adds : (i who ticks : ℕ) → i ≡ who → Adds i (Runs who ticks) 0 0 (ticks_of ticks)
runs_adds i who ticks same = let test = test_is who i same in record { asked = refl; answered = refl; items = rw test refl }

runs_adds_none : (i who ticks : ℕ) → i ≢ who → Adds i (Runs who ticks) 0 0 []
runs_adds_none i who ticks apart = let test = test_fails who i apart in record { asked = refl; answered = refl; items = rw test refl }

-- what an instance did, with what an event adds to it
abbrev TellsMore : Option Phase → ℕ → ℕ → List Item → ℕ → Event → Type 0
TellsMore new a b l i event = Tells new (a + length (requests_by i event)) (b + length (answers_by i event)) (l ++ items_by i event)

added : (i : ℕ) (event : Event) (m n : ℕ) (items : List Item) (new : Option Phase) (a b : ℕ) (l : List Item) → Adds i event m n items → Tells new (a + m) (b + n) (l ++ items) → TellsMore new a b l i event
added i event m n items new a b l adds h =
    tells_by new (a + m) _ (b + n) _ (l ++ items) _ (ap (λ (k : ℕ). a + k) adds.asked) (ap (λ (k : ℕ). b + k) adds.answered) (ap (λ (t : List Item). l ++ t) adds.items) h

-- nothing is added
added_none : (i : ℕ) (event : Event) (new : Option Phase) (a b : ℕ) (l : List Item) → Adds i event 0 0 [] → Tells new a b l → TellsMore new a b l i event
added_none i event new a b l adds h = added i event 0 0 [] new a b l adds (tells_by new a (a + 0) b (b + 0) l (l ++ []) (omega arith) (omega arith) (append-nil l) h)

-- one that is active asked something other than its end, and stays active
stays_active : (old new : Option Phase) → old ≡ Some Active → Moves old new → new ≡ Some Active
stays_active old new active (Stays same) = same ∙ active
stays_active old new active (IsChosenNow chosen) = absurd (let both : Some Active ≡ Some (Waiting chosen.request chosen.send chosen.back) = sym active ∙ chosen.waited in let f : ⊥ = cc in f)
stays_active old new active (Begins none begins) = absurd (let both : Some Active ≡ None = sym active ∙ none in let f : ⊥ = cc in f)

answered_tells : (new : Option Phase) (a b ticks : ℕ) (l : List Item) (request : Request) → new ≡ Some Active → (IsEnd request → ⊥) → a ≡ b → Tells new (a + 1) (b + 1) (l ++ (ticks_of ticks ++ Ask request ∷ []))
answered_tells new a b ticks l request active other same = subst (λ (o : Option Phase). Tells o (a + 1) (b + 1) (l ++ (ticks_of ticks ++ Ask request ∷ []))) (sym active)
    (ap (λ (n : ℕ). n + 1) same, other_asked (l ++ (ticks_of ticks ++ Ask request ∷ [])) request other (last_asked l ticks request))

own_did : (facts : Facts) (w : World) (who ticks : ℕ) (request : Request) (answer : Answer) (refill : Option ℕ) (a b : ℕ) (l : List Item) → 1 ≤ who → IsActive w who → a ≡ b
    → Tells (phase_of (after_request facts w who request answer refill) who) (a + 1) (b + 1) (l ++ (ticks_of ticks ++ Ask request ∷ []))
own_did facts w who ticks (End how) answer refill a b l some active same =
    subst (λ (o : Option Phase). Tells o (a + 1) (b + 1) (l ++ (ticks_of ticks ++ Ask (End how) ∷ []))) (sym (written_here w.phases who (Ended how) Active active)) (last_asked l ticks (End how))
own_did facts w who ticks request answer refill a b l some active same =
    answered_tells _ a b ticks l request (stays_active (phase_of w who) _ active (did_moves facts w who request answer refill who some (λ is. is))) (λ is. is) same

other_did : (facts : Facts) (w : World) (who : ℕ) (request : Request) (answer : Answer) (refill : Option ℕ) (i a b : ℕ) (l : List Item) → 1 ≤ who → i ≢ who → Tells (phase_of w i) a b l → Tells (phase_of (after_request facts w who request answer refill) i) a b l
other_did facts w who (End how) answer refill i a b l some apart h = subst (λ (o : Option Phase). Tells o a b l) (sym (written_elsewhere w.phases who i (Ended how) apart)) h
other_did facts w who request answer refill i a b l some apart h = moves_tells (phase_of w i) _ a b l (did_moves facts w who request answer refill i some (λ e. e)) h

-- what an active one asked is answered
pub active_tells : (o : Option Phase) (a b : ℕ) (l : List Item) → o ≡ Some Active → Tells o a b l → (a ≡ b) × AsksNoEnd l
active_tells o a b l active h = subst (λ (o : Option Phase). Tells o a b l) active h

did_tells : (facts : Facts) (w : World) (who ticks : ℕ) (request : Request) (answer : Answer) (refill : Option ℕ) (i a b : ℕ) (l : List Item) → IsWell facts w → IsPossible facts w (Did who ticks request answer refill)
    → Tells (phase_of w i) a b l → TellsMore (phase_of (after_request facts w who request answer refill) i) a b l i (Did who ticks request answer refill)
did_tells facts w who ticks request answer refill i a b l well may h =
    let some = some_active w.phases who well.phases may.0.active in
    let new : World = after_request facts w who request answer refill in
    elim (cases_eq i who) [
      | inr apart ↦ added_none i (Did who ticks request answer refill) (phase_of new i) a b l (did_adds_none i who ticks request answer refill apart) (other_did facts w who request answer refill i a b l some apart h)
      | inl same ↦ added i (Did who ticks request answer refill) 1 1 (ticks_of ticks ++ Ask request ∷ []) (phase_of new i) a b l (did_adds i who ticks request answer refill same)
          (subst (λ (k : ℕ). Tells (phase_of new k) (a + 1) (b + 1) (l ++ (ticks_of ticks ++ Ask request ∷ []))) (sym same)
          (own_did facts w who ticks request answer refill a b l some may.0.active (active_tells (phase_of w i) a b l (ap (slice_get w.phases) same ∙ may.0.active) h).0))
    ]

-- what has to wait asks for no end
waits_on : (facts : Facts) (w : World) (who : ℕ) (request : Request) → MustWait facts w who request → IsEnd request → ⊥
waits_on facts w who (End how) must is = must
waits_on facts w who request must is = is

set_phase : (old phases : List Phase) (who : ℕ) (new : Phase) → phases ≡ old → slice_get old who ≡ Some Active → slice_get (slice_set phases who new) who ≡ Some new
set_phase old phases who new same active = ap (λ (ps : List Phase). slice_get (slice_set ps who new) who) same ∙ written_here old who new Active active

own_waits : (w : World) (who : ℕ) (request : Request) (a b : ℕ) (l : List Item) → IsActive w who → (a ≡ suc b) × AsksNoEnd l → Tells (phase_of (after_waits w who request) who) a b l
own_waits w who (Enter region) a b l active h = subst (λ (o : Option Phase). Tells o a b l) (sym (set_phase w.phases w.phases who (Chosen Done (Some region)) refl active)) h
own_waits w who request a b l active h = subst (λ (o : Option Phase). Tells o a b l)
    (sym (set_phase w.phases _ who (Waiting request (drawn w request) (last_of (held_by w who))) (freeing_kept w who (drawn w request) (last_of (held_by w who))) active)) h

other_set : (old phases : List Phase) (who i : ℕ) (new : Phase) → phases ≡ old → i ≢ who → slice_get (slice_set phases who new) i ≡ slice_get old i
other_set old phases who i new same apart = ap (λ (ps : List Phase). slice_get (slice_set ps who new) i) same ∙ written_elsewhere old who i new apart

other_waits : (w : World) (who : ℕ) (request : Request) (i : ℕ) → i ≢ who → phase_of (after_waits w who request) i ≡ phase_of w i
other_waits w who (Enter region) i apart = other_set w.phases w.phases who i (Chosen Done (Some region)) refl apart
other_waits w who request i apart = other_set w.phases _ who i (Waiting request (drawn w request) (last_of (held_by w who))) (freeing_kept w who (drawn w request) (last_of (held_by w who))) apart

waits_tells : (facts : Facts) (w : World) (who ticks : ℕ) (request : Request) (i a b : ℕ) (l : List Item) → IsPossible facts w (Waits who ticks request)
    → Tells (phase_of w i) a b l → TellsMore (phase_of (after_waits w who request) i) a b l i (Waits who ticks request)
waits_tells facts w who ticks request i a b l may h =
    let new : World = after_waits w who request in
    elim (cases_eq i who) [
      | inr apart ↦ added_none i (Waits who ticks request) (phase_of new i) a b l (waits_adds_none i who ticks request apart) (subst (λ (o : Option Phase). Tells o a b l) (sym (other_waits w who request i apart)) h)
      | inl same ↦ (let before = active_tells (phase_of w i) a b l (ap (slice_get w.phases) same ∙ may.0.active) h in
          added i (Waits who ticks request) 1 0 (ticks_of ticks ++ Ask request ∷ []) (phase_of new i) a b l (waits_adds i who ticks request same)
          (subst (λ (k : ℕ). Tells (phase_of new k) (a + 1) (b + 0) (l ++ (ticks_of ticks ++ Ask request ∷ []))) (sym same)
          (own_waits w who request (a + 1) (b + 0) (l ++ (ticks_of ticks ++ Ask request ∷ [])) may.0.active
          (let e = before.0 in omega (arith, e), other_asked (l ++ (ticks_of ticks ++ Ask request ∷ [])) request (waits_on facts w who request may.1) (last_asked l ticks request)))))
    ]

chosen_tells : (o : Option Phase) (answer : Answer) (back : Option ℕ) (a b : ℕ) (l : List Item) → o ≡ Some (Chosen answer back) → Tells o a b l → (a ≡ suc b) × AsksNoEnd l
chosen_tells o answer back a b l chosen h = subst (λ (o : Option Phase). Tells o a b l) chosen h

goes_tells : (facts : Facts) (w : World) (who : ℕ) (answer : Answer) (i a b : ℕ) (l : List Item) → IsPossible facts w (Goes who answer)
    → Tells (phase_of w i) a b l → TellsMore (phase_of (after facts w (Goes who answer)) i) a b l i (Goes who answer)
goes_tells facts w who answer i a b l may h =
    let back : Option ℕ = back_in (phase_of w who) in
    let new : Option Phase = slice_get (slice_set (locked_back w who back).phases who Active) i in
    elim (cases_eq i who) [
      | inr apart ↦ added_none i (Goes who answer) new a b l (goes_adds_none i who answer apart) (subst (λ (o : Option Phase). Tells o a b l) (sym (other_set w.phases _ who i Active (back_kept w who back) apart)) h)
      | inl same ↦ (
          let active : new ≡ Some Active = ap (slice_get (slice_set (locked_back w who back).phases who Active)) same ∙ ap (λ (ps : List Phase). slice_get (slice_set ps who Active) who) (back_kept w who back) ∙ written_here w.phases who Active (Chosen answer may.back) may.chosen in
          let before = chosen_tells (phase_of w i) answer may.back a b l (ap (slice_get w.phases) same ∙ may.chosen) h in
          added i (Goes who answer) 0 1 [] new a b l (goes_adds i who answer same)
          (subst (λ (o : Option Phase). Tells o (a + 0) (b + 1) (l ++ [])) (sym active) (let e = before.0 in omega (arith, e), subst AsksNoEnd (sym (append-nil l)) before.1)))
    ]

runs_tells : (facts : Facts) (w : World) (who ticks i a b : ℕ) (l : List Item) → IsPossible facts w (Runs who ticks)
    → Tells (phase_of w i) a b l → TellsMore (phase_of w i) a b l i (Runs who ticks)
runs_tells facts w who ticks i a b l may h = elim (cases_eq i who) [
  | inr apart ↦ added_none i (Runs who ticks) (phase_of w i) a b l (runs_adds_none i who ticks apart) h
  | inl same ↦ (
      let active : phase_of w i ≡ Some Active = ap (slice_get w.phases) same ∙ may.0 in
      let before = active_tells (phase_of w i) a b l active h in
      added i (Runs who ticks) 0 0 (ticks_of ticks) (phase_of w i) a b l (runs_adds i who ticks same)
      (subst (λ (o : Option Phase). Tells o (a + 0) (b + 0) (l ++ ticks_of ticks)) (sym active) (let e = before.0 in omega (arith, e), ticks_ask_none l ticks before.1)))
]

step_tells : (facts : Facts) (w : World) (event : Event) (i a b : ℕ) (l : List Item) → IsWell facts w → IsPossible facts w event → Tells (phase_of w i) a b l → TellsMore (phase_of (after facts w event) i) a b l i event
step_tells facts w (Did who ticks request answer refill) i a b l well may h = did_tells facts w who ticks request answer refill i a b l well may h
step_tells facts w (Waits who ticks request) i a b l well may h = waits_tells facts w who ticks request i a b l may h
step_tells facts w (Goes who answer) i a b l well may h = goes_tells facts w who answer i a b l may h
step_tells facts w (Runs who ticks) i a b l well may h = runs_tells facts w who ticks i a b l may h

run_tells : (facts : Facts) (w : World) (events : List Event) (i a b : ℕ) (l : List Item) → IsWell facts w → IsRunFrom facts w events → Tells (phase_of w i) a b l
    → Tells (phase_of (after_all facts w events) i) (a + length (requests_of i events)) (b + length (answers_of i events)) (l ++ line_of i events)
run_tells facts w [] i a b l well run h = tells_by (phase_of w i) a _ b _ l _ (omega arith) (omega arith) (append-nil l) h
run_tells facts w (event ∷ events) i a b l well run h =
    let rs = length-append (requests_by i event) (requests_of i events) in
    let as' = length-append (answers_by i event) (answers_of i events) in
    tells_by (phase_of (after_all facts (after facts w event) events) i) ((a + length (requests_by i event)) + length (requests_of i events)) _ ((b + length (answers_by i event)) + length (answers_of i events)) _ ((l ++ items_by i event) ++ line_of i events) _
    (omega (arith, rs)) (omega (arith, as')) (sym (append_assoc l (items_by i event) (line_of i events)))
    (run_tells facts (after facts w event) events i (a + length (requests_by i event)) (b + length (answers_by i event)) (l ++ items_by i event) (step_well facts w event run.0.possible well) run.1
    (step_tells facts w event i a b l well run.0.possible h))

opens_tells : (facts : Facts) (i : ℕ) → 1 ≤ i → Tells (phase_of (opening facts) i) 0 0 []
opens_tells facts zero some = absurd (let f : ⊥ = omega (arith, some) in f)
opens_tells facts (suc zero) some = (refl, λ how is. let f : ⊥ = cc in f)
opens_tells facts (suc (suc i)) some = (refl, λ how is. let f : ⊥ = cc in f)

-- what each instance did in a journal, by its phase
pub journal_tells : (facts : Facts) (events : List Event) (i : ℕ) → IsSound facts → IsRun facts events → 1 ≤ i
    → Tells (phase_of (world_of facts events) i) (length (requests_of i events)) (length (answers_of i events)) (line_of i events)
journal_tells facts events i sound run some =
    tells_by (phase_of (world_of facts events) i) (0 + length (requests_of i events)) _ (0 + length (answers_of i events)) _ ([] ++ line_of i events) _ (omega arith) (omega arith) refl
    (run_tells facts (opening facts) events i 0 0 [] (opening_well facts sound) run (opens_tells facts i some))
