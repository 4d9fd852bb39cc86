-- Those that are delayed on events, and the world.
use Rattle.std.proofs.Common.{◌≡◌, ◌⊎◌, ℕ, Bool, zero, suc, ◌+◌, ◌<◌, ◌≤◌, List, [], ◌∷◌, length, refl, sym, ap, ◌∙◌, inl, inr, arith, replicate, Option, Some, None, slice_get, slice_set, subst}
use Rattle.std.specs.Prelude.{slice_index_or, is_some, ◌||◌, IsSome}
use Rattle.std.specs.Option.{option_and_then}
use Rattle.std.specs.List.{count_by}
use Rattle.std.proofs.lemmas.Option.{get_or_from_slice_get, same_Some, slice_get_within}
use Rattle.kernel_base.specs.declared.facts.Facts.{Facts}
use Rattle.kernel_base.specs.declared.request.Alternative.{Alternative}
use Rattle.kernel_base.specs.declared.request.Request.TheVariants.{Read, Write, Enter, Leave, Delay, Continue, SendBuffer, ReceiveBuffer, SendSignal, ReceiveSignal, Start, Put, Get, End}
use Rattle.world_model.specs.declared.world.Phase.{Phase}
use Rattle.world_model.specs.declared.world.Phase.TheVariants.{Active, Waiting, Chosen, Ended}
use Rattle.world_model.specs.declared.world.World.{World}
use Rattle.world_model.specs.World.{opening}
use Rattle.kernel_base.specs.declared.ends.How.TheVariants.{Normal}
use Rattle.wait_queues.proofs.Fits.{empty_at}
use Rattle.std.proofs.lemmas.List.{length-replicate}
use Rattle.world_model.specs.declared.waiting.Waiter.{Waiter}
use Rattle.world_model.specs.Lists.{number_for}
use Rattle.world_model.specs.Waiting.{phase_of, waiter_for, sleeper_in, sleeper, count_of_sleepers, is_full, is_full_at}
use Rattle.world_model.specs.Allowed.{NobodySleeps, IsHighestSleeper}
use Rattle.kernel_lists.specs.Once.{others}
use Rattle.wait_queues.specs.declared.waiters.Waiter as queues
use Rattle.wait_queues.specs.Waiting.{AreOrdered, AreTied, joined, waiter_of, waiting_at}
use Rattle.wait_queues.proofs.Placed.{some_at}
use Rattle.wait_queues.proofs.Ties.{left_length, length_joined}
use Rattle.event_queues.specs.declared.sets.Delayed.{Delayed}
use Rattle.event_queues.specs.Delayed.{Comes, Goes, Sets, Wakes, NobodyOn, delayed_on, is_full_on, is_full_for, listed_in}
use Rattle.kernel_steps.specs.Keyed.{AreTold}
use Rattle.kernel_steps.specs.Queued.{delayed_in, Sleeps}
use Rattle.kernel_steps.proofs.Keyed.{told_begin, told_stop}
use Rattle.kernel_steps.proofs.Queued.{one_if, count_set}

-- those that wait at a place
abbrev pub Waits : Type 0
Waits = List queues.Waiter

is_some_map : (n : Option ℕ) (priority : ℕ) (back : Option ℕ) → is_some (waiter_for n priority back) ≡ is_some n
is_some_map None priority back = refl
is_some_map (Some n) priority back = refl

-- where a queue stood before
was_there : (old new : List Waits) (event : ℕ) (ws : Waits) → length new ≡ length old → slice_get new event ≡ Some ws → (was : Waits) × (slice_get old event ≡ Some was)
was_there old new event ws each at = let low = slice_get_within new event ws at in some_at old event (omega (arith, low, each))

-- one more is delayed
pub sleeps_begin : (facts : Facts) (w w' : World) (s s' : Sets) (who : ℕ) (events : List Alternative) (priority : ℕ) (send back : Option ℕ) → slice_get w.phases who ≡ Some Active → w'.phases ≡ slice_set w.phases who (Waiting (Delay events priority) send back)
    → s'.lengths ≡ s.lengths → Comes s s' who (record { events = events; priority = priority }) → Sleeps facts w s → Sleeps facts w' s'
sleeps_begin facts w w' s s' who events priority send back at is lengths comes h =
    let new = Waiting (Delay events priority) send back in
    record {
      lengths = lengths ∙ h.lengths;
      each = comes.waiting.each ∙ h.each;
      delayed = subst (λ (phases : List Phase). AreTold delayed_in (listed_in s'.delayed) phases) (sym is) (told_begin delayed_in (listed_in s.delayed) w.phases (listed_in s'.delayed) who Active new (record { events = events; priority = priority }) at refl comes.listed h.delayed);
      counts = λ event ws there.
          let p : Phase → Bool = λ phase. is_some (sleeper_in event phase) in
          let changed = count_set p w.phases who new Active at in
          let same : count_of_sleepers w' event ≡ count_by p (slice_set w.phases who new) = ap (count_by p) is in
          let was = was_there s.waiting s'.waiting event ws comes.waiting.each there in
          let now : joined who priority (number_for events event) was.0 ≡ ws = same_Some _ ws (sym (comes.waiting.at event was.0 was.1) ∙ there) in
          let more : length ws ≡ length was.0 + one_if (is_some (number_for events event)) = ap length (sym now) ∙ length_joined who priority (number_for events event) was.0 in
          let one : one_if (p new) ≡ one_if (is_some (number_for events event)) = ap one_if (is_some_map (number_for events event) priority back) in
          let before = h.counts event was.0 was.1 in
          omega (arith, changed, same, more, one, before);
    }

-- one that was delayed isn't any more
pub sleeps_stop : (facts : Facts) (w w' : World) (s s' : Sets) (who : ℕ) (events : List Alternative) (priority : ℕ) (send back : Option ℕ) (new : Phase) → slice_get w.phases who ≡ Some (Waiting (Delay events priority) send back) → w'.phases ≡ slice_set w.phases who new
    → delayed_in who new ≡ None → ((event : ℕ) → sleeper_in event new ≡ None) → AreTied delayed_on s.delayed s.waiting → AreOrdered s.waiting → s'.lengths ≡ s.lengths → Goes s s' who → Sleeps facts w s → Sleeps facts w' s'
sleeps_stop facts w w' s s' who events priority send back new at is tells none tied order lengths goes h =
    let old = Waiting (Delay events priority) send back in
    let d : Delayed = record { events = events; priority = priority } in
    let entry : listed_in s.delayed who ≡ Some d = h.delayed who ∙ ap (option_and_then (delayed_in who)) at in
    record {
      lengths = lengths ∙ h.lengths;
      each = goes.each ∙ h.each;
      delayed = subst (λ (phases : List Phase). AreTold delayed_in (listed_in s'.delayed) phases) (sym is) (told_stop delayed_in (listed_in s.delayed) w.phases (listed_in s'.delayed) who old new at tells goes.listed h.delayed);
      counts = λ event ws there.
          let p : Phase → Bool = λ phase. is_some (sleeper_in event phase) in
          let changed = count_set p w.phases who new old at in
          let same : count_of_sleepers w' event ≡ count_by p (slice_set w.phases who new) = ap (count_by p) is in
          let was = was_there s.waiting s'.waiting event ws goes.each there in
          let now : others waiter_of was.0 who ≡ ws = same_Some _ ws (sym (goes.waiting event was.0 was.1) ∙ there) in
          let found = tied event was.0 was.1 who ∙ ap (option_and_then (delayed_on event who)) entry in
          let less : length (others waiter_of was.0 who) + one_if (is_some (number_for events event)) ≡ length was.0 = left_length who priority (number_for events event) was.0 (order event was.0 was.1).1 found in
          let left = ap length now in
          let one : one_if (p old) ≡ one_if (is_some (number_for events event)) = ap one_if (is_some_map (number_for events event) priority back) in
          let gone : one_if (p new) ≡ 0 = ap (λ o. one_if (is_some o)) (none event) in
          let before = h.counts event was.0 was.1 in
          omega (arith, changed, same, less, left, one, gone, before);
    }

-- the events that are full are those of the world
length_past : (lengths : List (Option ℕ)) (event : ℕ) → length lengths ≤ event → slice_index_or lengths event None ≡ None
length_past [] event past = refl
length_past (l ∷ lengths) zero past = absurd (omega arith)
length_past (l ∷ lengths) (suc event) past = length_past lengths event (omega arith)

low_or_past : (event n : ℕ) → (event < n) ⊎ (n ≤ event)
low_or_past event zero = inr (omega arith)
low_or_past zero (suc n) = inl (omega arith)
low_or_past (suc event) (suc n) = elim (low_or_past event n) [
  | inl low ↦ inl (omega (arith, low))
  | inr past ↦ inr (omega (arith, past))
]

full_by : (facts : Facts) (w : World) (s : Sets) (event : ℕ) → (event < length s.waiting) ⊎ (length s.waiting ≤ event) → Sleeps facts w s → is_full_on facts.events s.waiting event ≡ is_full_at (slice_index_or facts.events event None) (count_of_sleepers w event)
full_by facts w s event (inl low) h =
    let there = some_at s.waiting event low in
    let is : waiting_at s.waiting event ≡ there.0 = get_or_from_slice_get s.waiting event there.0 [] there.1 in
    ap (is_full_at (slice_index_or facts.events event None)) (ap length is ∙ h.counts event there.0 there.1)
full_by facts w s event (inr past) h =
    let each = h.each in
    let none : slice_index_or facts.events event None ≡ None = length_past facts.events event (omega (arith, past, each)) in
    ap (λ l. is_full_at l (length (waiting_at s.waiting event))) none ∙ sym (ap (λ l. is_full_at l (count_of_sleepers w event)) none)

pub full_same : (facts : Facts) (w : World) (s : Sets) (events : List Alternative) → Sleeps facts w s → is_full_for s events ≡ is_full facts w events
full_same facts w s [] h = refl
full_same facts w s (a ∷ events) h =
    let here : is_full_on s.lengths s.waiting a.thing ≡ is_full_at (slice_index_or facts.events a.thing None) (count_of_sleepers w a.thing) =
    ap (λ lengths. is_full_on lengths s.waiting a.thing) h.lengths ∙ full_by facts w s a.thing (low_or_past a.thing (length s.waiting)) h in
    ap (λ b. b || is_full_for s events) here ∙ ap (λ b. is_full_at (slice_index_or facts.events a.thing None) (count_of_sleepers w a.thing) || b) (full_same facts w s events h)

-- what a phase tells of one that is delayed on the event
pub record Tells (phase : Phase) (d : Delayed) : Type 0 where
  pub send : Option ℕ
  pub back : Option ℕ
  pub is : phase ≡ Waiting (Delay d.events d.priority) send back

told_by_request : (who : ℕ) (d : Delayed) (phase : Phase) → delayed_in who phase ≡ Some d → Tells phase d
told_by_request who d Active told = absurd (let f : ⊥ = cc in f)
told_by_request who d (Chosen answer back) told = absurd (let f : ⊥ = cc in f)
told_by_request who d (Ended how) told = absurd (let f : ⊥ = cc in f)
told_by_request who d (Waiting (Delay events priority) send back) told =
    let e : record { events = events; priority = priority } ≡ d = cc in
    record { send = send; back = back; is = ap (λ (x : Delayed). Waiting (Delay x.events x.priority) send back) e }
told_by_request who d (Waiting (Read place) send back) told = absurd (let f : ⊥ = cc in f)
told_by_request who d (Waiting (Write place scalars) send back) told = absurd (let f : ⊥ = cc in f)
told_by_request who d (Waiting (Enter region) send back) told = absurd (let f : ⊥ = cc in f)
told_by_request who d (Waiting (Leave region) send back) told = absurd (let f : ⊥ = cc in f)
told_by_request who d (Waiting (Continue event) send back) told = absurd (let f : ⊥ = cc in f)
told_by_request who d (Waiting (SendBuffer buffer scalars priority) send back) told = absurd (let f : ⊥ = cc in f)
told_by_request who d (Waiting (ReceiveBuffer buffers otherwise) send back) told = absurd (let f : ⊥ = cc in f)
told_by_request who d (Waiting (SendSignal signal scalars to priority) send back) told = absurd (let f : ⊥ = cc in f)
told_by_request who d (Waiting (ReceiveSignal signals otherwise) send back) told = absurd (let f : ⊥ = cc in f)
told_by_request who d (Waiting (Start process scalars) send back) told = absurd (let f : ⊥ = cc in f)
told_by_request who d (Waiting (Put bytes) send back) told = absurd (let f : ⊥ = cc in f)
told_by_request who d (Waiting Get send back) told = absurd (let f : ⊥ = cc in f)
told_by_request who d (Waiting (End how) send back) told = absurd (let f : ⊥ = cc in f)

-- an entry is the delay of a process in the world
pub record IsDelayed (w : World) (who : ℕ) (d : Delayed) : Type 0 where
  pub send : Option ℕ
  pub back : Option ℕ
  pub is : phase_of w who ≡ Some (Waiting (Delay d.events d.priority) send back)

delayed_at : (w : World) (who : ℕ) (d : Delayed) (phase : Option Phase) → phase_of w who ≡ phase → option_and_then (delayed_in who) phase ≡ Some d → IsDelayed w who d
delayed_at w who d None is told = absurd (let f : ⊥ = cc in f)
delayed_at w who d (Some phase) is told = let t = told_by_request who d phase told in record { send = t.send; back = t.back; is = is ∙ ap Some t.is }

pub entry_delayed : (facts : Facts) (w : World) (s : Sets) (who : ℕ) (d : Delayed) → listed_in s.delayed who ≡ Some d → Sleeps facts w s → IsDelayed w who d
entry_delayed facts w s who d at h = delayed_at w who d (phase_of w who) refl (sym (h.delayed who) ∙ at)

-- what is delayed on the event in the world
pub record IsSleeper (w : World) (event who : ℕ) (waiter : Waiter) : Type 0 where
  pub events : List Alternative
  pub priority : ℕ
  pub send : Option ℕ
  pub is : phase_of w who ≡ Some (Waiting (Delay events priority) send waiter.back)
  pub listed : number_for events event ≡ Some waiter.alternative
  pub same : waiter.priority ≡ priority

sleeper_by_number : (w : World) (event who : ℕ) (waiter : Waiter) (events : List Alternative) (priority : ℕ) (send back n : Option ℕ) → phase_of w who ≡ Some (Waiting (Delay events priority) send back) → number_for events event ≡ n → waiter_for n priority back ≡ Some waiter → IsSleeper w event who waiter
sleeper_by_number w event who waiter events priority send back None at is told = absurd (let f : ⊥ = cc in f)
sleeper_by_number w event who waiter events priority send back (Some n) at is told =
    let e : record { alternative = n; priority = priority; back = back } ≡ waiter = cc in
    record {
      events = events;
      priority = priority;
      send = send;
      is = at ∙ ap (λ (x : Waiter). Some (Waiting (Delay events priority) send x.back)) e;
      listed = is ∙ ap (λ (x : Waiter). Some x.alternative) e;
      same = ap (λ (x : Waiter). x.priority) (sym e);
    }

sleeper_by_phase : (w : World) (event who : ℕ) (waiter : Waiter) (phase : Phase) → phase_of w who ≡ Some phase → sleeper_in event phase ≡ Some waiter → IsSleeper w event who waiter
sleeper_by_phase w event who waiter Active at told = absurd (let f : ⊥ = cc in f)
sleeper_by_phase w event who waiter (Chosen answer back) at told = absurd (let f : ⊥ = cc in f)
sleeper_by_phase w event who waiter (Ended how) at told = absurd (let f : ⊥ = cc in f)
sleeper_by_phase w event who waiter (Waiting (Delay events priority) send back) at told = sleeper_by_number w event who waiter events priority send back (number_for events event) at refl told
sleeper_by_phase w event who waiter (Waiting (Read place) send back) at told = absurd (let f : ⊥ = cc in f)
sleeper_by_phase w event who waiter (Waiting (Write place scalars) send back) at told = absurd (let f : ⊥ = cc in f)
sleeper_by_phase w event who waiter (Waiting (Enter region) send back) at told = absurd (let f : ⊥ = cc in f)
sleeper_by_phase w event who waiter (Waiting (Leave region) send back) at told = absurd (let f : ⊥ = cc in f)
sleeper_by_phase w event who waiter (Waiting (Continue e) send back) at told = absurd (let f : ⊥ = cc in f)
sleeper_by_phase w event who waiter (Waiting (SendBuffer buffer scalars priority) send back) at told = absurd (let f : ⊥ = cc in f)
sleeper_by_phase w event who waiter (Waiting (ReceiveBuffer buffers otherwise) send back) at told = absurd (let f : ⊥ = cc in f)
sleeper_by_phase w event who waiter (Waiting (SendSignal signal scalars to priority) send back) at told = absurd (let f : ⊥ = cc in f)
sleeper_by_phase w event who waiter (Waiting (ReceiveSignal signals otherwise) send back) at told = absurd (let f : ⊥ = cc in f)
sleeper_by_phase w event who waiter (Waiting (Start process scalars) send back) at told = absurd (let f : ⊥ = cc in f)
sleeper_by_phase w event who waiter (Waiting (Put bytes) send back) at told = absurd (let f : ⊥ = cc in f)
sleeper_by_phase w event who waiter (Waiting Get send back) at told = absurd (let f : ⊥ = cc in f)
sleeper_by_phase w event who waiter (Waiting (End how) send back) at told = absurd (let f : ⊥ = cc in f)

sleeper_at : (w : World) (event who : ℕ) (waiter : Waiter) (phase : Option Phase) → phase_of w who ≡ phase → option_and_then (sleeper_in event) phase ≡ Some waiter → IsSleeper w event who waiter
sleeper_at w event who waiter None at told = absurd (let f : ⊥ = cc in f)
sleeper_at w event who waiter (Some phase) at told = sleeper_by_phase w event who waiter phase at told

-- one that is delayed on the event in the world is listed so
pub record IsEntered (s : Sets) (event who : ℕ) (waiter : Waiter) : Type 0 where
  pub d : Delayed
  pub at : listed_in s.delayed who ≡ Some d
  pub number : number_for d.events event ≡ Some waiter.alternative
  pub same : waiter.priority ≡ d.priority

pub sleeper_entered : (facts : Facts) (w : World) (s : Sets) (event who : ℕ) (waiter : Waiter) → sleeper w event who ≡ Some waiter → Sleeps facts w s → IsEntered s event who waiter
sleeper_entered facts w s event who waiter told h =
    let t = sleeper_at w event who waiter (phase_of w who) refl told in
    record {
      d = record { events = t.events; priority = t.priority };
      at = h.delayed who ∙ ap (option_and_then (delayed_in who)) t.is;
      number = t.listed;
      same = t.same;
    }

-- nobody in the list is nobody in the world
nobody_by : (facts : Facts) (w : World) (s : Sets) (event who : ℕ) (found : Option Waiter) → sleeper w event who ≡ found → NobodyOn event s.delayed → Sleeps facts w s → found ≡ None
nobody_by facts w s event who None is none h = refl
nobody_by facts w s event who (Some waiter) is none h = absurd (let e = sleeper_entered facts w s event who waiter is h in let no = none who e.d e.at in let yes = e.number in let f : ⊥ = cc in f)

pub nobody_sleeps : (facts : Facts) (w : World) (s : Sets) (event : ℕ) → NobodyOn event s.delayed → Sleeps facts w s → NobodySleeps w event
nobody_sleeps facts w s event none h p = nobody_by facts w s event p (sleeper w event p) refl none h

-- a number that an alternative gives
some_number : (n : Option ℕ) (a : ℕ) → n ≡ Some a → IsSome n
some_number None a is = absurd (let f : ⊥ = cc in f)
some_number (Some n) a is = refl

-- whom the list chooses may be chosen in the world
pub highest_sleeper : (facts : Facts) (w : World) (s s' : Sets) (event : ℕ) (chosen : Alternative) → Wakes event s s' chosen → Sleeps facts w s → IsHighestSleeper w event chosen.thing
highest_sleeper facts w s s' event chosen wakes h =
    let item = wakes.item in
    let d = entry_delayed facts w s chosen.thing item wakes.was h in
    let waiter : Waiter = record { alternative = chosen.number; priority = item.priority; back = d.back } in
    record {
      waiter = waiter;
      sleeps = ap (option_and_then (sleeper_in event)) d.is ∙ ap (λ n. waiter_for n item.priority d.back) wakes.number;
      highest = λ q other told.
          let e = sleeper_entered facts w s event q other told h in
          let low = wakes.highest q e.d e.at (some_number (number_for e.d.events event) other.alternative e.number) in
          let same = e.same in
          omega (arith, low, same);
    }

-- the delay of the one that is chosen, and how it is found
pub record Woken (w : World) (event : ℕ) (chosen : Alternative) : Type 0 where
  pub events : List Alternative
  pub priority : ℕ
  pub send : Option ℕ
  pub back : Option ℕ
  pub is : phase_of w chosen.thing ≡ Some (Waiting (Delay events priority) send back)
  pub found : sleeper w event chosen.thing ≡ Some (record { alternative = chosen.number; priority = priority; back = back })

pub woken : (facts : Facts) (w : World) (s s' : Sets) (event : ℕ) (chosen : Alternative) → Wakes event s s' chosen → Sleeps facts w s → Woken w event chosen
woken facts w s s' event chosen wakes h =
    let item = wakes.item in
    let d = entry_delayed facts w s chosen.thing item wakes.was h in
    record {
      events = item.events;
      priority = item.priority;
      send = d.send;
      back = d.back;
      is = d.is;
      found = ap (option_and_then (sleeper_in event)) d.is ∙ ap (λ n. waiter_for n item.priority d.back) wakes.number;
    }

-- before the first event nobody is delayed
nobody_told : (who : ℕ) → listed_in [] who ≡ option_and_then (delayed_in who) (slice_get (Ended Normal ∷ Active ∷ []) who)
nobody_told zero = refl
nobody_told (suc zero) = refl
nobody_told (suc (suc who)) = refl

empty_length : (n event : ℕ) (ws : Waits) → slice_get (replicate n []) event ≡ Some ws → length ws ≡ 0
empty_length n event ws at = ap length (empty_at n event ws at)

pub sleeps_open : (facts : Facts) (s : Sets) → s.lengths ≡ facts.events → s.delayed ≡ [] → s.waiting ≡ replicate (length facts.events) [] → Sleeps facts (opening facts) s
sleeps_open facts s lengths delayed waiting = record {
  lengths = lengths;
  each = ap length waiting ∙ length-replicate (length facts.events) [];
  delayed = λ who. ap (λ l. listed_in l who) delayed ∙ nobody_told who;
  counts = λ event ws there. empty_length (length facts.events) event ws (ap (λ (l : List Waits). slice_get l event) (sym waiting) ∙ there);
}
