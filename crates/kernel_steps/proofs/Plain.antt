-- Requests that are answered at once and let nobody go on.
use Rattle.std.proofs.Common.{◌≡◌, ℕ, ◌+◌, ◌<◌, ◌≤◌, ℤ, pos, List, [], ◌∷◌, ◌++◌, length, append-nil, refl, sym, ap, ◌∙◌, arith, subst, Option, Some, None, slice_get}
use Rattle.std.specs.Prelude.{slice_index_or, IsSomeAnd}
use Rattle.std.proofs.lemmas.Option.{slice_get-get_or, slice_get_within, get_or_from_slice_get}
use Rattle.kernel_base.specs.declared.facts.Facts.{Facts}
use Rattle.chill_base.specs.declared.layout.Bits.{Bits}
use Rattle.kernel_base.specs.declared.request.Place.{Place}
use Rattle.kernel_base.specs.declared.request.Request.{Request}
use Rattle.kernel_base.specs.declared.answer.Answer.{Answer}
use Rattle.kernel_base.specs.declared.event.Event.TheVariants.{Did}
use Rattle.kernel_base.specs.Facts.{FitsWrite, IsWithinBits, LiesInLocation}
use Rattle.world_model.specs.declared.world.World.{World}
use Rattle.world_model.specs.World.{after_request, opening}
use Rattle.world_model.specs.Ranges.{IsNumber, IsAnswerInRange}
use Rattle.world_model.specs.Allowed.{Answers}
use Rattle.world_model.proofs.Well.{StoreFits, run_well, opening_well}
use Rattle.shared_store.specs.Places.{FitAt, FitBits, LiesIn}
use Rattle.kernel_steps.specs.declared.reply.Reply.TheVariants.{Now}
use Rattle.kernel_steps.specs.declared.seats.Seats.{Seats}
use Rattle.kernel_steps.specs.declared.state.Ready.{Ready}
use Rattle.kernel_steps.specs.declared.state.State.{State}
use Rattle.kernel_steps.specs.Seated.{Seated}
use Rattle.kernel_steps.specs.Kept.{world_in, Rests, width_of, IsKept}
use Rattle.kernel_steps.specs.View.{handed_by}
use Rattle.kernel_steps.specs.Serving.{CanServe, Serves}
use Rattle.kernel_steps.proofs.Served.{seated_same, serves_now}

-- the numbers of the event
pub record InRange (p t : ℕ) (a : Answer) : Type 0 where
  pub who : IsNumber p
  pub ticks : IsNumber t
  pub answer : IsAnswerInRange a

-- what stays where nobody goes on and no process moves
pub record StaysPut (s s' : State) (who ticks : ℕ) (request : Request) (answer : Answer) (w : World) : Type 0 where
  pub processes : w.processes ≡ (world_in s).processes
  pub phases : w.phases ≡ (world_in s).phases
  pub occupants : w.occupants ≡ (world_in s).occupants
  pub held : w.held ≡ (world_in s).held
  pub facts : s'.facts ≡ s.facts
  pub widest : s'.widest ≡ s.widest
  pub ready : s'.ready ≡ s.ready
  pub seats : s'.seats ≡ s.seats
  pub taken : s'.taken ≡ s.taken
  pub events : s'.journal.events ≡ s.journal.events ++ Did who ticks request answer None ∷ []
  pub plain : handed_by s.seats.unfetched.items (Did who ticks request answer None) ≡ s.seats.unfetched.items

pub plain_serves : (s s' : State) (who ticks : ℕ) (request : Request) (answer : Answer) (r : Ready) → CanServe s who request r → InRange who ticks answer → Answers s.facts (world_in s) who request answer None → width_of request ≤ s.widest
    → StaysPut s s' who ticks request answer (after_request s.facts (world_in s) who request answer None) → Rests s.facts (after_request s.facts (world_in s) who request answer None) s' → Serves s s' who ticks request (Now answer)
plain_serves s s' who ticks request answer r can range may width c rests =
    let k = can.kept in
    let w = world_in s in
    let w1 = after_request s.facts w who request answer None in
    serves_now s s' who ticks request answer None None k may (record {
      may = record {
        allowed = record { in_range = (range.who, range.ticks, can.in_range, range.answer, tt); possible = (record { active = can.may.goes.active; fits = can.may.fits }, may) };
        width = width;
        burst = tt;
        phases = let e = ap length c.phases in omega (arith, e);
      };
      facts = c.facts;
      widest = c.widest;
      ready = c.ready;
      events = c.events ∙ sym (append-nil (s.journal.events ++ Did who ticks request answer None ∷ []));
      in_range = tt;
      settles = record {
        seated = subst (λ (x : Seats). Seated w1 x) (sym c.seats) (seated_same w w1 s.seats c.processes c.phases c.occupants c.held k.seated);
        answer = ap (λ (x : Seats). x.unfetched.items) c.seats;
      };
      rests = rests;
    }) c.plain c.taken

-- a place that lies in its location by the facts lies in the store
lies_by : (facts : Facts) (w : World) (place : Place) (layout : Option (List Bits)) → slice_get facts.layouts place.location ≡ layout → StoreFits facts w → IsSomeAnd layout (λ l. place.first + place.count ≤ length l) → place.first + place.count ≤ length (slice_index_or w.store place.location [])
lies_by facts w place None is fits lies = absurd lies
lies_by facts w place (Some layout) is fits lies = let e = fits place.location layout is in omega (arith, e, lies)

pub lies_in : (s : State) (place : Place) → IsKept s → LiesInLocation s.facts place → LiesIn s.store.scalars place
lies_in s place k lies =
    let w = world_in s in
    let well = run_well s.facts (opening s.facts) s.journal.events k.book.run (opening_well s.facts k.sound) in
    let there : LiesIn w.store place = record { location = rw k.rests.locations lies.location; scalars = lies_by s.facts w place (slice_get s.facts.layouts place.location) refl well.store lies.scalars } in
    subst (λ (store : List (List ℤ)). LiesIn store place) (sym k.rests.store.0) there

-- what is written fits the bits of its place in the store
pub fits_in : (s : State) (place : Place) (scalars : List ℤ) → IsKept s → FitsWrite s.facts place scalars → FitBits s.store place scalars
fits_in s place scalars k h =
    let layouts = s.facts.layouts in
    let layout = slice_index_or layouts place.location [] in
    let low : place.location < length s.facts.layouts = let e = k.sound.locations in omega (arith, e, h.lies.location) in
    let at : slice_get s.facts.layouts place.location ≡ Some (slice_index_or s.facts.layouts place.location []) = slice_get-get_or layouts place.location [] low in
    subst (λ (all : List (List Bits)). FitAt (slice_index_or all place.location []) place.first scalars) (sym k.rests.store.1)
    (λ i number bits there stands. subst (IsWithinBits bits) (get_or_from_slice_get scalars i number (pos 0) there) ((h.within i (slice_get_within scalars i number there)).layout layout bits at stands))
