-- An instance's requests and answers, side by side.
use Rattle.std.proofs.Common.{◌≡◌, ◌≢◌, ◌≤◌, ℕ, zero, suc, Bool, true, false, List, [], ◌∷◌, ◌++◌, map, refl, sym, ap, ◌∙◌, subst, inl, inr, Option, Some, slice_get, slice_set, append-nil, append_assoc, eq-eqb}
use Rattle.std.specs.Prelude.{if◌then◌else◌, ◌==◌}
use Rattle.std.proofs.lemmas.Bool.{cases_eq, cases_Bool, eqb-true}
use Rattle.std.proofs.lemmas.List.{map-append}
use Rattle.kernel_base.specs.declared.facts.Facts.{Facts}
use Rattle.kernel_base.specs.declared.request.Request.{Request}
use Rattle.kernel_base.specs.declared.request.Request.TheVariants.{Enter, End}
use Rattle.kernel_base.specs.declared.answer.Answer.{Answer}
use Rattle.kernel_base.specs.declared.answer.Answer.TheVariants.{Done}
use Rattle.kernel_base.specs.declared.event.Event.{Event}
use Rattle.kernel_base.specs.declared.event.Event.TheVariants.{Did, Waits, Goes, Runs}
use Rattle.world_model.specs.declared.world.Phase.{Phase}
use Rattle.world_model.specs.declared.world.Phase.TheVariants.{Active, Waiting, Chosen, Ended}
use Rattle.world_model.specs.declared.world.World.{World}
use Rattle.world_model.specs.Lists.{last_of}
use Rattle.world_model.specs.Waiting.{phase_of, IsActive}
use Rattle.world_model.specs.World.{opening, held_by, drawn, locked_back, back_in, after_waits, after_request, after, after_all}
use Rattle.world_model.specs.Allowed.{IsPossible, IsRunFrom}
use Rattle.world_model.specs.Gives.{Gives}
use Rattle.world_model.specs.Journal.{requests_by, requests_of, answers_by, answers_of}
use Rattle.world_model.specs.Laws.{IsAnsweredBy, GivenAnswersLaw}
use Rattle.world_model.proofs.ChangedLists.{written_here, written_elsewhere}
use Rattle.world_model.proofs.Freeing.{freeing_kept, back_kept}
use Rattle.world_model.proofs.PhaseMoves.{Moves, Stays, IsChosenNow, Begins, did_moves}
use Rattle.world_model.proofs.Well.{IsWell, some_active, opening_well, step_well}
use Rattle.world_model.proofs.Given.{did_gives}

-- a request with its answer
pub record Exchange : Type 0 where
  pub request : Request
  pub answer : Answer
  pub gives : Gives request answer

abbrev asked_in : List Exchange → List Request
asked_in = map (λ x. x.request)

abbrev answered_in : List Exchange → List Answer
answered_in = map (λ x. x.answer)

-- the requests that are open in a phase
abbrev IsOpen : List Request → Option Phase → Type 0
IsOpen open' (Some (Waiting request send back)) = open' ≡ request ∷ []
IsOpen open' (Some (Chosen answer back)) = (request : Request) × (open' ≡ request ∷ []) × Gives request answer
IsOpen open' phase = open' ≡ []

-- each request but the open one has its answer
record Talks (requests : List Request) (answers : List Answer) (phase : Option Phase) : Type 0 where
  exchanges : List Exchange
  rest : List Request
  asked : requests ≡ asked_in exchanges ++ rest
  answered : answers ≡ answered_in exchanges
  is_open : IsOpen rest phase

with_phase_talks : (requests : List Request) (answers : List Answer) (old new : Option Phase) → ((rest : List Request) → IsOpen rest old → IsOpen rest new) → Talks requests answers old → Talks requests answers new
with_phase_talks requests answers old new opens talks = record { exchanges = talks.exchanges; rest = talks.rest; asked = talks.asked; answered = talks.answered; is_open = opens talks.rest talks.is_open }

moves_open : (old new : Option Phase) → Moves old new → (rest : List Request) → IsOpen rest old → IsOpen rest new
moves_open old new (Stays same) rest is = subst (λ (o : Option Phase). IsOpen rest o) (sym same) is
moves_open old new (IsChosenNow chosen) rest is =
    let one : rest ≡ chosen.request ∷ [] = subst (λ (o : Option Phase). IsOpen rest o) chosen.waited is in
    subst (λ (o : Option Phase). IsOpen rest o) (sym chosen.has_answer) (chosen.request, one, chosen.gives)
moves_open old new (Begins none begins) rest is =
    let one : rest ≡ [] = subst (λ (o : Option Phase). IsOpen rest o) none is in
    subst (λ (o : Option Phase). IsOpen rest o) (sym begins) one

-- one that is active asks and has its answer
answered_talks : (requests : List Request) (answers : List Answer) (old new : Option Phase) (request : Request) (answer : Answer) → old ≡ Some Active → IsOpen [] new → Gives request answer → Talks requests answers old → Talks (requests ++ request ∷ []) (answers ++ answer ∷ []) new
answered_talks requests answers old new request answer active none gives talks =
    let empty : talks.rest ≡ [] = subst (λ (o : Option Phase). IsOpen talks.rest o) active talks.is_open in
    let one : Exchange = record { request = request; answer = answer; gives = gives } in
    record {
      exchanges = talks.exchanges ++ one ∷ [];
      rest = [];
      asked = ap (λ (rs : List Request). rs ++ request ∷ []) (talks.asked ∙ ap (λ (rs : List Request). asked_in talks.exchanges ++ rs) empty ∙ append-nil (asked_in talks.exchanges))
          ∙ sym (map-append (λ (x : Exchange). x.request) talks.exchanges (one ∷ [])) ∙ sym (append-nil (asked_in (talks.exchanges ++ one ∷ [])));
      answered = ap (λ (as' : List Answer). as' ++ answer ∷ []) talks.answered ∙ sym (map-append (λ (x : Exchange). x.answer) talks.exchanges (one ∷ []));
      is_open = none;
    }

-- one that is active asks and waits
asks_talks : (requests : List Request) (answers : List Answer) (old new : Option Phase) (request : Request) → old ≡ Some Active → IsOpen (request ∷ []) new → Talks requests answers old → Talks (requests ++ request ∷ []) answers new
asks_talks requests answers old new request active one talks =
    let empty : talks.rest ≡ [] = subst (λ (o : Option Phase). IsOpen talks.rest o) active talks.is_open in
    record {
      exchanges = talks.exchanges;
      rest = request ∷ [];
      asked = ap (λ (rs : List Request). rs ++ request ∷ []) (talks.asked ∙ ap (λ (rs : List Request). asked_in talks.exchanges ++ rs) empty ∙ append-nil (asked_in talks.exchanges));
      answered = talks.answered;
      is_open = one;
    }

-- one that was chosen goes on
goes_talks : (requests : List Request) (answers : List Answer) (old new : Option Phase) (answer : Answer) (back : Option ℕ) → old ≡ Some (Chosen answer back) → IsOpen [] new → Talks requests answers old → Talks requests (answers ++ answer ∷ []) new
goes_talks requests answers old new answer back chosen none talks =
    let is = subst (λ (o : Option Phase). IsOpen talks.rest o) chosen talks.is_open in
    let one : Exchange = record { request = is.0; answer = answer; gives = is.2 } in
    record {
      exchanges = talks.exchanges ++ one ∷ [];
      rest = [];
      asked = talks.asked ∙ ap (λ (rs : List Request). asked_in talks.exchanges ++ rs) is.1
          ∙ sym (map-append (λ (x : Exchange). x.request) talks.exchanges (one ∷ [])) ∙ sym (append-nil (asked_in (talks.exchanges ++ one ∷ [])));
      answered = ap (λ (as' : List Answer). as' ++ answer ∷ []) talks.answered ∙ sym (map-append (λ (x : Exchange). x.answer) talks.exchanges (one ∷ []));
      is_open = none;
    }

-- nothing is added
quiet_talks : (requests more_requests : List Request) (answers more_answers : List Answer) (phase : Option Phase) → more_requests ≡ [] → more_answers ≡ [] → Talks requests answers phase → Talks (requests ++ more_requests) (answers ++ more_answers) phase
quiet_talks requests more_requests answers more_answers phase no_request no_answer talks =
    let rs : requests ++ more_requests ≡ requests = ap (λ (rs : List Request). requests ++ rs) no_request ∙ append-nil requests in
    let as' : answers ++ more_answers ≡ answers = ap (λ (as' : List Answer). answers ++ as') no_answer ∙ append-nil answers in
    record { exchanges = talks.exchanges; rest = talks.rest; asked = rs ∙ talks.asked; answered = as' ∙ talks.answered; is_open = talks.is_open }

-- the same under equal lists
same_talks : (requests requests' : List Request) (answers answers' : List Answer) (phase : Option Phase) → requests' ≡ requests → answers' ≡ answers → Talks requests answers phase → Talks requests' answers' phase
same_talks requests requests' answers answers' phase rs as' talks = record { exchanges = talks.exchanges; rest = talks.rest; asked = rs ∙ talks.asked; answered = as' ∙ talks.answered; is_open = talks.is_open }

chosen_if : {X : Type 0} (b : Bool) (xs ys : List X) → b ≡ true → (if b then xs else ys) ≡ xs
chosen_if b xs ys is = rw is refl

dropped_if : {X : Type 0} (b : Bool) (xs ys : List X) → b ≡ false → (if b then xs else ys) ≡ ys
dropped_if b xs ys is = rw is refl

-- the phase of the one that asked, which was active
did_open : (old new : Option Phase) → old ≡ Some Active → Moves old new → IsOpen [] new
did_open old new active moves = moves_open old new moves [] (subst (λ (o : Option Phase). IsOpen [] o) (sym active) refl)

own_did : (facts : Facts) (w : World) (who : ℕ) (request : Request) (answer : Answer) (refill : Option ℕ) → 1 ≤ who → IsActive w who → IsOpen [] (phase_of (after_request facts w who request answer refill) who)
own_did facts w who (End how) answer refill some active = subst (λ (o : Option Phase). IsOpen [] o) (sym (written_here w.phases who (Ended how) Active active)) refl
own_did facts w who request answer refill some active = did_open (phase_of w who) _ active (did_moves facts w who request answer refill who some (λ is. is))

other_did : (facts : Facts) (w : World) (who : ℕ) (request : Request) (answer : Answer) (refill : Option ℕ) (i : ℕ) → 1 ≤ who → i ≢ who → (rest : List Request) → IsOpen rest (phase_of w i) → IsOpen rest (phase_of (after_request facts w who request answer refill) i)
other_did facts w who (End how) answer refill i some apart rest is = subst (λ (o : Option Phase). IsOpen rest o) (sym (written_elsewhere w.phases who i (Ended how) apart)) is
other_did facts w who request answer refill i some apart rest is = moves_open (phase_of w i) _ (did_moves facts w who request answer refill i some (λ e. e)) rest is

set_open : (old phases : List Phase) (who : ℕ) (new : Phase) (requests : List Request) → phases ≡ old → slice_get old who ≡ Some Active → IsOpen requests (Some new) → IsOpen requests (slice_get (slice_set phases who new) who)
set_open old phases who new requests same active is = subst (λ (o : Option Phase). IsOpen requests o) (sym (ap (λ (ps : List Phase). slice_get (slice_set ps who new) who) same ∙ written_here old who new Active active)) is

own_waits : (w : World) (who : ℕ) (request : Request) → IsActive w who → IsOpen (request ∷ []) (phase_of (after_waits w who request) who)
own_waits w who (Enter region) active = set_open w.phases w.phases who (Chosen Done (Some region)) (Enter region ∷ []) refl active (Enter region, refl, refl)
own_waits w who request active = set_open w.phases _ who (Waiting request (drawn w request) (last_of (held_by w who))) (request ∷ []) (freeing_kept w who (drawn w request) (last_of (held_by w who))) active refl

other_set : (old phases : List Phase) (who i : ℕ) (new : Phase) → phases ≡ old → i ≢ who → slice_get (slice_set phases who new) i ≡ slice_get old i
other_set old phases who i new same apart = ap (λ (ps : List Phase). slice_get (slice_set ps who new) i) same ∙ written_elsewhere old who i new apart

other_waits : (w : World) (who : ℕ) (request : Request) (i : ℕ) → i ≢ who → phase_of (after_waits w who request) i ≡ phase_of w i
other_waits w who (Enter region) i apart = other_set w.phases w.phases who i (Chosen Done (Some region)) refl apart
other_waits w who request i apart = other_set w.phases _ who i (Waiting request (drawn w request) (last_of (held_by w who))) (freeing_kept w who (drawn w request) (last_of (held_by w who))) apart

differs : (who i : ℕ) → (i ≡ who → ⊥) → (who == i) ≡ false
differs who i apart = elim (cases_Bool (who == i)) [
  | inl same ↦ absurd (apart (sym (eqb-true who i same)))
  | inr fails ↦ fails
]

did_talks : (facts : Facts) (w : World) (who ticks : ℕ) (request : Request) (answer : Answer) (refill : Option ℕ) (i : ℕ) (requests : List Request) (answers : List Answer) → IsWell facts w → IsPossible facts w (Did who ticks request answer refill)
    → Talks requests answers (phase_of w i)
    → Talks (requests ++ requests_by i (Did who ticks request answer refill)) (answers ++ answers_by i (Did who ticks request answer refill)) (phase_of (after_request facts w who request answer refill) i)
did_talks facts w who ticks request answer refill i requests answers well may talks =
    let some = some_active w.phases who well.phases may.0.active in
    let new : World = after_request facts w who request answer refill in
    elim (cases_eq i who) [
      | inr apart ↦ quiet_talks requests _ answers _ (phase_of new i) (dropped_if (who == i) (request ∷ []) [] (differs who i apart)) (dropped_if (who == i) (answer ∷ []) [] (differs who i apart))
          (with_phase_talks requests answers (phase_of w i) (phase_of new i) (other_did facts w who request answer refill i some apart) talks)
      | inl same ↦ (let eq : (who == i) ≡ true = eq-eqb who i (sym same) in
          same_talks (requests ++ request ∷ []) _ (answers ++ answer ∷ []) _ (phase_of new i)
          (ap (λ (rs : List Request). requests ++ rs) (chosen_if (who == i) (request ∷ []) [] eq)) (ap (λ (rs : List Answer). answers ++ rs) (chosen_if (who == i) (answer ∷ []) [] eq))
          (answered_talks requests answers (phase_of w i) (phase_of new i) request answer (ap (slice_get w.phases) same ∙ may.0.active)
          (subst (λ (n : ℕ). IsOpen [] (phase_of new n)) (sym same) (own_did facts w who request answer refill some may.0.active))
          (did_gives facts w who ticks request answer refill well may) talks))
    ]

waits_talks : (facts : Facts) (w : World) (who ticks : ℕ) (request : Request) (i : ℕ) (requests : List Request) (answers : List Answer) → IsPossible facts w (Waits who ticks request)
    → Talks requests answers (phase_of w i)
    → Talks (requests ++ requests_by i (Waits who ticks request)) (answers ++ answers_by i (Waits who ticks request)) (phase_of (after_waits w who request) i)
waits_talks facts w who ticks request i requests answers may talks =
    let new : World = after_waits w who request in
    elim (cases_eq i who) [
      | inr apart ↦ quiet_talks requests _ answers _ (phase_of new i) (dropped_if (who == i) (request ∷ []) [] (differs who i apart)) refl
          (with_phase_talks requests answers (phase_of w i) (phase_of new i) (λ rest is. subst (λ (o : Option Phase). IsOpen rest o) (sym (other_waits w who request i apart)) is) talks)
      | inl same ↦ (let eq : (who == i) ≡ true = eq-eqb who i (sym same) in
          same_talks (requests ++ request ∷ []) _ answers _ (phase_of new i)
          (ap (λ (rs : List Request). requests ++ rs) (chosen_if (who == i) (request ∷ []) [] eq)) (append-nil answers)
          (asks_talks requests answers (phase_of w i) (phase_of new i) request (ap (slice_get w.phases) same ∙ may.0.active)
          (subst (λ (n : ℕ). IsOpen (request ∷ []) (phase_of new n)) (sym same) (own_waits w who request may.0.active)) talks))
    ]

going_talks : (facts : Facts) (w : World) (who : ℕ) (answer : Answer) (i : ℕ) (requests : List Request) (answers : List Answer) → IsPossible facts w (Goes who answer)
    → Talks requests answers (phase_of w i)
    → Talks (requests ++ []) (answers ++ answers_by i (Goes who answer)) (phase_of (after facts w (Goes who answer)) i)
going_talks facts w who answer i requests answers may talks =
    let back : Option ℕ = back_in (phase_of w who) in
    let new : Option Phase = slice_get (slice_set (locked_back w who back).phases who Active) i in
    elim (cases_eq i who) [
      | inr apart ↦ quiet_talks requests [] answers _ new refl (dropped_if (who == i) (answer ∷ []) [] (differs who i apart))
          (with_phase_talks requests answers (phase_of w i) new (λ rest is. subst (λ (o : Option Phase). IsOpen rest o) (sym (other_set w.phases _ who i Active (back_kept w who back) apart)) is) talks)
      | inl same ↦ (let eq : (who == i) ≡ true = eq-eqb who i (sym same) in
          let active : new ≡ Some Active = ap (slice_get (slice_set (locked_back w who back).phases who Active)) same ∙ ap (λ (ps : List Phase). slice_get (slice_set ps who Active) who) (back_kept w who back) ∙ written_here w.phases who Active (Chosen answer may.back) may.chosen in
          same_talks requests _ (answers ++ answer ∷ []) _ new
          (append-nil requests) (ap (λ (rs : List Answer). answers ++ rs) (chosen_if (who == i) (answer ∷ []) [] eq))
          (goes_talks requests answers (phase_of w i) new answer may.back (ap (slice_get w.phases) same ∙ may.chosen)
          (subst (λ (o : Option Phase). IsOpen [] o) (sym active) refl) talks))
    ]

step_talks : (facts : Facts) (w : World) (event : Event) (i : ℕ) (requests : List Request) (answers : List Answer) → IsWell facts w → IsPossible facts w event
    → Talks requests answers (phase_of w i)
    → Talks (requests ++ requests_by i event) (answers ++ answers_by i event) (phase_of (after facts w event) i)
step_talks facts w (Did who ticks request answer refill) i requests answers well may talks = did_talks facts w who ticks request answer refill i requests answers well may talks
step_talks facts w (Waits who ticks request) i requests answers well may talks = waits_talks facts w who ticks request i requests answers may talks
step_talks facts w (Goes who answer) i requests answers well may talks = going_talks facts w who answer i requests answers may talks
step_talks facts w (Runs who ticks) i requests answers well may talks = quiet_talks requests [] answers [] (phase_of w i) refl refl talks

run_talks : (facts : Facts) (w : World) (events : List Event) (i : ℕ) (requests : List Request) (answers : List Answer) → IsWell facts w → IsRunFrom facts w events
    → Talks requests answers (phase_of w i)
    → Talks (requests ++ requests_of i events) (answers ++ answers_of i events) (phase_of (after_all facts w events) i)
run_talks facts w [] i requests answers well run talks = quiet_talks requests [] answers [] (phase_of w i) refl refl talks
run_talks facts w (event ∷ events) i requests answers well run talks =
    let next : World = after facts w event in
    same_talks ((requests ++ requests_by i event) ++ requests_of i events) _ ((answers ++ answers_by i event) ++ answers_of i events) _ (phase_of (after_all facts next events) i)
    (sym (append_assoc requests (requests_by i event) (requests_of i events))) (sym (append_assoc answers (answers_by i event) (answers_of i events)))
    (run_talks facts next events i (requests ++ requests_by i event) (answers ++ answers_by i event) (step_well facts w event run.0.possible well) run.1
    (step_talks facts w event i requests answers well run.0.possible talks))

opens_with_none : (facts : Facts) (i : ℕ) → IsOpen [] (phase_of (opening facts) i)
opens_with_none facts zero = refl
opens_with_none facts (suc zero) = refl
opens_with_none facts (suc (suc i)) = refl

-- the exchange in its place
exchange_at : (exchanges : List Exchange) (rest : List Request) (k : ℕ) (answer : Answer) → slice_get (answered_in exchanges) k ≡ Some answer → IsAnsweredBy (asked_in exchanges ++ rest) k answer
exchange_at [] rest k answer at = absurd (let f : ⊥ = cc in f)
exchange_at (x ∷ exchanges) rest zero answer at = record { request = x.request; asked = refl; gives = subst (λ (a : Answer). Gives x.request a) (let e : x.answer ≡ answer = cc in e) x.gives }
exchange_at (x ∷ exchanges) rest (suc k) answer at = let found = exchange_at exchanges rest k answer at in record { request = found.request; asked = found.asked; gives = found.gives }

pub given_answers_law : GivenAnswersLaw
given_answers_law facts events i k answer sound run at =
    let talks = run_talks facts (opening facts) events i [] [] (opening_well facts sound) run
    record { exchanges = []; rest = []; asked = refl; answered = refl; is_open = opens_with_none facts i } in
    let found = exchange_at talks.exchanges talks.rest k answer (ap (λ (as' : List Answer). slice_get as' k) (sym talks.answered) ∙ at) in
    record { request = found.request; asked = ap (λ (rs : List Request). slice_get rs k) talks.asked ∙ found.asked; gives = found.gives }
