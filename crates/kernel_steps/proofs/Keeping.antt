-- The journal goes on by an event, and by the going on that it makes possible, and all is kept.
use Rattle.std.proofs.Common.{◌≡◌, ℕ, ◌+◌, ◌≤◌, List, [], ◌∷◌, ◌++◌, ℤ, length, slice_get, length-set, append-nil, refl, sym, ap, ◌∙◌, arith, subst, Option, Some, None}
use Rattle.std.specs.Prelude.{IfSome}
use Rattle.std.proofs.lemmas.List.Sums.{sum_by_push}
use Rattle.std.proofs.lemmas.List.Elements.{All-push}
use Rattle.kernel_base.specs.declared.facts.Facts.{Facts}
use Rattle.kernel_base.specs.declared.event.Event.{Event}
use Rattle.kernel_base.specs.declared.event.Event.TheVariants.{Did, Waits, Goes, Runs}
use Rattle.kernel_base.specs.Facts.{IsSound}
use Rattle.kernel_base.specs.Units.{units_of, units_of_all}
use Rattle.world_model.specs.declared.world.Phase.TheVariants.{Active, Chosen}
use Rattle.world_model.specs.declared.world.World.{World}
use Rattle.world_model.specs.World.{opening, after, after_all, world_of}
use Rattle.world_model.specs.Ranges.{IsInRange}
use Rattle.world_model.specs.Allowed.{IsAllowed}
use Rattle.world_model.proofs.RunParts.{one_more}
use Rattle.world_model.proofs.NumbersGotOnce.{sends_rise}
use Rattle.kernel_steps.specs.declared.seats.Going.{Going}
use Rattle.kernel_steps.specs.declared.state.State.{State}
use Rattle.kernel_steps.specs.Seated.{Seated, Settles, gone_on}
use Rattle.kernel_steps.specs.Kept.{world_in, Rests, width_in, IsWholeBurst, IsBook, IsKept}
use Rattle.kernel_steps.specs.Serving.{goes_of}
use Rattle.kernel_steps.proofs.Counts.{regions_stay}
use Rattle.kernel_steps.proofs.Quiet.{back_keeps, gone_phases, sleeps_go, trades_go, hears_go}
use Rattle.world_model.specs.Waiting.{phase_of}
use Rattle.world_model.specs.World.{back_in}

pub after_all_push : (facts : Facts) (w : World) (events : List Event) (event : Event) → after_all facts w (events ++ event ∷ []) ≡ after facts (after_all facts w events) event
after_all_push facts w [] event = refl
after_all_push facts w (e ∷ events) event = after_all_push facts (after facts w e) events event

pub world_push : (facts : Facts) (events : List Event) (event : Event) → world_of facts (events ++ event ∷ []) ≡ after facts (world_of facts events) event
world_push facts events event = after_all_push facts (opening facts) events event

-- each event counts
pub some_units : (event : Event) → 1 ≤ units_of event
some_units (Did who ticks request answer refill) = omega arith
some_units (Waits who ticks request) = omega arith
some_units (Goes who answer) = omega arith
some_units (Runs who ticks) = omega arith

-- what an event of the journal has to be
pub record MayCome (facts : Facts) (widest : ℕ) (w : World) (event : Event) : Type 0 where
  pub allowed : IsAllowed facts w event
  pub width : width_in event ≤ widest
  pub burst : IsWholeBurst event
  pub phases : length (after facts w event).phases ≤ length w.phases + 1

pub book_push : (facts : Facts) (widest : ℕ) (events : List Event) (event : Event) → IsBook facts widest events → MayCome facts widest (world_of facts events) event → IsBook facts widest (events ++ event ∷ [])
book_push facts widest events event k may =
    let there = world_push facts events event in
    let units : units_of_all (events ++ event ∷ []) ≡ units_of_all events + units_of event = sum_by_push units_of events event in
    let one = some_units event in
    let phases = ap (λ (w : World). length w.phases) there in
    let sends = ap (λ (w : World). w.sends) there in
    let rise = sends_rise facts (world_of facts events) event in
    record {
      run = one_more facts (opening facts) events event k.run may.allowed;
      regions = ap (λ (w : World). length w.occupants) there ∙ regions_stay facts (world_of facts events) event ∙ k.regions;
      few = omega (arith, phases, units, one, may.phases, k.few);
      sent = omega (arith, sends, units, one, rise, k.sent);
      widths = All-push (λ e. width_in e ≤ widest) events event k.widths may.width;
      bursts = All-push IsWholeBurst events event k.bursts may.burst;
    }

-- what else is kept once one goes on
pub rests_go : (facts : Facts) (w : World) (s : State) (going : Going) (back : Option ℕ) → phase_of w going.who ≡ Some (Chosen going.answer back) → Rests facts w s → Rests facts (gone_on w going.who) s
rests_go facts w s going back at r =
    let same = back_keeps w going.who (back_in (phase_of w going.who)) in
    record {
      sleeps = sleeps_go facts w s.queues.events going.who going.answer back at r.sleeps;
      trades = trades_go facts w s.queues.buffers going.who going.answer back at r.trades;
      hears = hears_go facts w s.queues.signals going.who going.answer back at r.hears;
      sends = r.sends ∙ sym same.sends;
      last = r.last;
      store = rw same.store r.store;
      locations = ap length same.store ∙ r.locations;
      input = r.input ∙ sym same.input;
      read = r.read;
      argues = record { each = r.argues.each ∙ sym (ap length same.arguments); same = λ n low. r.argues.same n low ∙ sym (ap (λ (l : List (List ℤ)). slice_get l n) same.arguments) };
    }

-- the state behind the event and the one that goes on
pub record Follows (s s' : State) (event : Event) (going : Option Going) : Type 0 where
  pub may : MayCome s.facts s.widest (world_in s) event
  pub facts : s'.facts ≡ s.facts
  pub widest : s'.widest ≡ s.widest
  pub ready : s'.ready ≡ s.ready
  pub events : s'.journal.events ≡ (s.journal.events ++ event ∷ []) ++ goes_of going
  pub in_range : IfSome going (λ g. IsInRange (Goes g.who g.answer))
  pub settles : Settles (after s.facts (world_in s) event) s.seats s'.seats going
  pub rests : Rests s.facts (after s.facts (world_in s) event) s'

kept_at : (s' : State) (facts : Facts) (widest : ℕ) (events : List Event) (w : World) → s'.facts ≡ facts → s'.widest ≡ widest → s'.journal.events ≡ events → world_of facts events ≡ w → IsSound facts → IsBook facts widest events → Seated w s'.seats → Rests facts w s' → IsKept s'
kept_at s' facts widest events w f n e there sound book seated rests =
    let world : world_in s' ≡ w = ap (λ (x : Facts). world_of x s'.journal.events) f ∙ ap (world_of facts) e ∙ there in
    record {
      sound = subst (λ (x : Facts). IsSound x) (sym f) sound;
      book = subst (λ (x : Facts). IsBook x s'.widest s'.journal.events) (sym f) (subst (λ (m : ℕ). IsBook facts m s'.journal.events) (sym n) (subst (λ (es : List Event). IsBook facts widest es) (sym e) book));
      seated = subst (λ (x : World). Seated x s'.seats) (sym world) seated;
      rests = subst (λ (x : Facts). Rests x (world_in s') s') (sym f) (subst (λ (x : World). Rests facts x s') (sym world) rests);
    }

-- one event, behind which nobody goes on
pub kept_with : (s s' : State) (event : Event) → IsKept s → MayCome s.facts s.widest (world_in s) event → s'.facts ≡ s.facts → s'.widest ≡ s.widest → s'.journal.events ≡ s.journal.events ++ event ∷ [] → Seated (after s.facts (world_in s) event) s'.seats
    → Rests s.facts (after s.facts (world_in s) event) s' → IsKept s'
kept_with s s' event k may f n e seated rests = kept_at s' s.facts s.widest (s.journal.events ++ event ∷ []) (after s.facts (world_in s) event) f n e (world_push s.facts s.journal.events event) k.sound (book_push s.facts s.widest s.journal.events event k.book may) seated rests

pub kept_by : (s s' : State) (event : Event) (going : Option Going) → IsKept s → Follows s s' event going → IsKept s'
kept_by s s' event None k f =
    let events : s'.journal.events ≡ s.journal.events ++ event ∷ [] = f.events ∙ append-nil (s.journal.events ++ event ∷ []) in
    kept_at s' s.facts s.widest (s.journal.events ++ event ∷ []) (after s.facts (world_in s) event) f.facts f.widest events (world_push s.facts s.journal.events event) k.sound (book_push s.facts s.widest s.journal.events event k.book f.may) f.settles.seated f.rests
kept_by s s' event (Some going) k f =
    let facts = s.facts in
    let w = after facts (world_in s) event in
    let first = s.journal.events ++ event ∷ [] in
    let there : world_of facts first ≡ w = world_push facts s.journal.events event in
    let goes : Event = Goes going.who going.answer in
    let book = book_push facts s.widest s.journal.events event k.book f.may in
    let may : MayCome facts s.widest w goes = record {
      allowed = record { in_range = f.in_range; possible = f.settles.may };
      width = omega arith;
      burst = tt;
      phases = let e = ap length (gone_phases w going.who) in let l = length-set w.phases going.who Active in omega (arith, e, l);
    } in
    let book2 = book_push facts s.widest first goes book (subst (λ (x : World). MayCome facts s.widest x goes) (sym there) may) in
    kept_at s' facts s.widest (first ++ goes ∷ []) (gone_on w going.who) f.facts f.widest f.events (world_push facts first goes ∙ ap (λ (x : World). after facts x goes) there) k.sound book2 f.settles.seated
    (rests_go facts w s' going f.settles.may.back f.settles.may.chosen f.rests)
