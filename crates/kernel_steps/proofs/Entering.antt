-- ENTER and LEAVE, over the state.
use Rattle.std.proofs.Common.{◌≡◌, ◌≢◌, ◌⊎◌, ℕ, ◌<◌, true, false, not, List, [], ◌∷◌, ◌++◌, drop, length, length-set, append-nil, refl, sym, ap, ◌∙◌, inl, inr, arith, subst, Option, Some, None, slice_get, eq-eqb}
use Rattle.std.specs.Prelude.{◌==◌, slice_index_or, IfSome}
use Rattle.std.proofs.lemmas.Bool.{cases_Bool, eqb-true}
use Rattle.std.proofs.lemmas.Option.{slice_get-get_or}
use Rattle.kernel_base.specs.declared.request.Request.TheVariants.{Enter, Leave}
use Rattle.kernel_base.specs.declared.answer.Answer.TheVariants.{Done}
use Rattle.kernel_base.specs.declared.event.Event.TheVariants.{Did, Waits, Goes}
use Rattle.world_model.specs.declared.world.Phase.TheVariants.{Active, Chosen}
use Rattle.world_model.specs.declared.world.World.{World}
use Rattle.world_model.specs.Ranges.{IsNumber, IsInRange}
use Rattle.world_model.specs.World.{with_phase, entered, left, freed, occupant}
use Rattle.world_model.specs.Allowed.{IsFree, Occupies, IsTaken}
use Rattle.world_model.proofs.ChangedLists.{stands_there}
use Rattle.kernel_steps.specs.declared.reply.Reply.TheVariants.{Now, Later}
use Rattle.kernel_steps.specs.declared.seats.Going.{Going}
use Rattle.kernel_steps.specs.declared.state.Ready.{Ready}
use Rattle.kernel_steps.specs.declared.state.State.{State}
use Rattle.kernel_steps.specs.Seated.{NobodyGoes, Settles}
use Rattle.kernel_steps.specs.Kept.{world_in, Rests}
use Rattle.kernel_steps.specs.Serving.{CanServe, Serves, goes_of, other_than}
use Rattle.kernel_steps.proofs.Quiet.{KeepsRest}
use Rattle.kernel_steps.proofs.Served.{LeavesRest, rests_same, rests_set, serves_now, serves_later}

-- all but the seats and the journal is as it was
pub record KeepsState (s s' : State) : Type 0 where
  pub facts : s'.facts ≡ s.facts
  pub widest : s'.widest ≡ s.widest
  pub ready : s'.ready ≡ s.ready
  pub queues : s'.queues ≡ s.queues
  pub store : s'.store ≡ s.store
  pub read : s'.read ≡ s.read
  pub taken : s'.taken ≡ s.taken
  pub argued : s'.arguments.items ≡ s.arguments.items

leaves : (w w' : World) (s s' : State) → KeepsRest w w' → KeepsState s s' → Rests s.facts w s → LeavesRest s.facts w w' s s'
leaves w w' s s' same o r = record {
  processes = same.processes;
  stored = same.stored;
  pending = same.pending;
  sends = same.sends;
  arguments = same.arguments;
  queues = o.queues;
  store = rw (o.store, same.store) r.store;
  locations = ap length same.store;
  input = ap (λ n. drop n s.facts.input) o.read ∙ r.input ∙ sym same.input;
  read = rw o.read r.read;
  taken = o.taken;
  argued = o.argued;
}

pub rests_kept : (w w' : World) (s s' : State) → KeepsRest w w' → KeepsState s s' → Rests s.facts w s → Rests s.facts w' s'
rests_kept w w' s s' same o r = rests_same s.facts w w' s s' same.phases (leaves w w' s s' same o r) r

entered_keeps : (w : World) (who region : ℕ) (o : Option ℕ) → KeepsRest w (entered w who region o)
entered_keeps w who region None = record { processes = refl; arguments = refl; phases = refl; store = refl; stored = refl; pending = refl; input = refl; output = refl; sends = refl }
entered_keeps w who region (Some other) = record { processes = refl; arguments = refl; phases = refl; store = refl; stored = refl; pending = refl; input = refl; output = refl; sends = refl }

-- what a found occupant tells
taken_cases : (occupants : List (Option ℕ)) (region who : ℕ) (found : Option ℕ) → found ≡ slice_index_or occupants region None → other_than found who ≡ true → (other : ℕ) × (slice_get occupants region ≡ Some (Some other)) × (other ≢ who)
taken_cases occupants region who None is other = absurd (let f : ⊥ = cc in f)
taken_cases occupants region who (Some p) is other = (p, stands_there occupants region None (Some p) (sym is) (λ e. let f : ⊥ = cc in f), λ e. let t : (p == who) ≡ true = eq-eqb p who e in let f : not true ≡ true = ap not (sym t) ∙ other in let g : ⊥ = cc in g)

own_by : (p who : ℕ) → ((p == who) ≡ true) ⊎ ((p == who) ≡ false) → not (p == who) ≡ false → p ≡ who
own_by p who (inl same) mine = eqb-true p who same
own_by p who (inr apart) mine = absurd (let f : not false ≡ false = ap not (sym apart) ∙ mine in let g : ⊥ = cc in g)

open_cases : (occupants : List (Option ℕ)) (region who : ℕ) (found : Option ℕ) → region < length occupants → found ≡ slice_index_or occupants region None → other_than found who ≡ false → (slice_get occupants region ≡ Some None) ⊎ (slice_get occupants region ≡ Some (Some who))
open_cases occupants region who None low is mine = inl (slice_get-get_or occupants region None low ∙ ap Some (sym is))
open_cases occupants region who (Some p) low is mine = inr (slice_get-get_or occupants region None low ∙ ap Some (sym is) ∙ ap (λ n. Some (Some n)) (own_by p who (cases_Bool (p == who)) mine))

pub is_taken : (s : State) (who region : ℕ) (found : Option ℕ) → found ≡ slice_index_or s.seats.regions.occupants region None → other_than found who ≡ true → s.seats.regions.occupants ≡ (world_in s).occupants → IsTaken (world_in s) who region
is_taken s who region found is other same = let t = taken_cases s.seats.regions.occupants region who found is other in (t.0, ap (λ (l : List (Option ℕ)). slice_get l region) (sym same) ∙ t.1, t.2)

pub is_open : (s : State) (who region : ℕ) (found : Option ℕ) → region < length s.seats.regions.occupants → found ≡ slice_index_or s.seats.regions.occupants region None → other_than found who ≡ false → s.seats.regions.occupants ≡ (world_in s).occupants → IsFree (world_in s) region ⊎ Occupies (world_in s) who region
is_open s who region found low is mine same = elim (open_cases s.seats.regions.occupants region who found low is mine) [
  | inl free ↦ inl (ap (λ (l : List (Option ℕ)). slice_get l region) (sym same) ∙ free)
  | inr own ↦ inr (ap (λ (l : List (Option ℕ)). slice_get l region) (sym same) ∙ own)
]

pub enter_serves : (s s' : State) (who ticks region : ℕ) (r : Ready) → CanServe s who (Enter region) r → IsNumber who → IsNumber ticks → IsFree (world_in s) region ⊎ Occupies (world_in s) who region → KeepsState s s' → s'.journal.events ≡ s.journal.events ++ Did who ticks (Enter region) Done None ∷ []
    → NobodyGoes (entered (world_in s) who region (occupant (world_in s) region)) s.seats s'.seats → Serves s s' who ticks (Enter region) (Now Done)
enter_serves s s' who ticks region r can w_in t_in may o journal nobody =
    let k = can.kept in
    let w = world_in s in
    let same = entered_keeps w who region (occupant w region) in
    serves_now s s' who ticks (Enter region) Done None None k (refl, (refl, may)) (record {
      may = record {
        allowed = record { in_range = (w_in, t_in, can.in_range, tt, tt); possible = (record { active = can.may.goes.active; fits = can.may.fits }, (refl, (refl, may))) };
        width = omega arith;
        burst = tt;
        phases = let e = ap length same.phases in omega (arith, e);
      };
      facts = o.facts;
      widest = o.widest;
      ready = o.ready;
      events = journal ∙ sym (append-nil _);
      in_range = tt;
      settles = nobody;
      rests = rests_kept w (entered w who region (occupant w region)) s s' same o k.rests;
    }) refl o.taken

pub enter_waits : (s s' : State) (who ticks region : ℕ) (r : Ready) → CanServe s who (Enter region) r → IsNumber who → IsNumber ticks → IsTaken (world_in s) who region → KeepsState s s' → s'.journal.events ≡ s.journal.events ++ Waits who ticks (Enter region) ∷ []
    → NobodyGoes (with_phase (world_in s) who (Chosen Done (Some region))) s.seats s'.seats → Serves s s' who ticks (Enter region) Later
enter_waits s s' who ticks region r can w_in t_in taken o journal nobody =
    let k = can.kept in
    let w = world_in s in
    let new = Chosen Done (Some region) in
    let w1 = with_phase w who new in
    serves_later s s' who ticks (Enter region) None k taken (record {
      may = record {
        allowed = record { in_range = (w_in, t_in, can.in_range); possible = (record { active = can.may.goes.active; fits = can.may.fits }, taken) };
        width = omega arith;
        burst = tt;
        phases = let l = length-set w.phases who new in omega (arith, l);
      };
      facts = o.facts;
      widest = o.widest;
      ready = o.ready;
      events = journal ∙ sym (append-nil _);
      in_range = tt;
      settles = nobody;
      rests = rests_set s.facts w w1 s s' who Active new can.may.goes.active refl refl refl (λ e. refl) (λ e. refl) refl refl refl refl refl refl (record {
        processes = refl;
        stored = refl;
        pending = refl;
        sends = refl;
        arguments = refl;
        queues = o.queues;
        store = rw o.store k.rests.store;
        locations = refl;
        input = ap (λ n. drop n s.facts.input) o.read ∙ k.rests.input;
        read = rw o.read k.rests.read;
        taken = o.taken;
        argued = o.argued;
      }) k.rests;
    }) o.taken

freed_keeps : (w : World) (who region : ℕ) → KeepsRest w (freed w who region)
freed_keeps w who region = record { processes = refl; arguments = refl; phases = refl; store = refl; stored = refl; pending = refl; input = refl; output = refl; sends = refl }

left_own : (w : World) (who region : ℕ) (o : Option ℕ) → o ≡ Some who → left w who region o ≡ freed w who region
left_own w who region None is = absurd (let f : ⊥ = cc in f)
left_own w who region (Some other) is = let t : (other == who) ≡ true = eq-eqb other who (let e : other ≡ who = cc in e) in rw t refl

pub left_other : (w : World) (who region : ℕ) (o : Option ℕ) → (o ≡ Some who → ⊥) → left w who region o ≡ w
left_other w who region None other = refl
left_other w who region (Some p) other = elim (cases_Bool (p == who)) [
  | inl same ↦ absurd (other (ap Some (eqb-true p who same)))
  | inr apart ↦ rw apart refl
]

pub leave_serves : (s s' : State) (who ticks region : ℕ) (r : Ready) (going : Option Going) → CanServe s who (Leave region) r → IsNumber who → IsNumber ticks → occupant (world_in s) region ≡ Some who → KeepsState s s' → s'.journal.events ≡ (s.journal.events ++ Did who ticks (Leave region) Done None ∷ []) ++ goes_of going → IfSome going (λ g. IsInRange (Goes g.who g.answer))
    → Settles (freed (world_in s) who region) s.seats s'.seats going → Serves s s' who ticks (Leave region) (Now Done)
leave_serves s s' who ticks region r going can w_in t_in own o journal range settles =
    let k = can.kept in
    let w = world_in s in
    let w1 = freed w who region in
    let world : left w who region (occupant w region) ≡ w1 = left_own w who region (occupant w region) own in
    serves_now s s' who ticks (Leave region) Done None going k (refl, refl) (record {
      may = record {
        allowed = record { in_range = (w_in, t_in, can.in_range, tt, tt); possible = (record { active = can.may.goes.active; fits = can.may.fits }, (refl, refl)) };
        width = omega arith;
        burst = tt;
        phases = let e = ap (λ (x : World). length x.phases) world in omega (arith, e);
      };
      facts = o.facts;
      widest = o.widest;
      ready = o.ready;
      events = journal;
      in_range = range;
      settles = subst (λ (x : World). Settles x s.seats s'.seats going) (sym world) settles;
      rests = subst (λ (x : World). Rests s.facts x s') (sym world) (rests_kept w w1 s s' (freed_keeps w who region) o k.rests);
    }) refl o.taken
