-- An instance is started, over the state.
use Rattle.std.proofs.Common.{◌≡◌, ℕ, zero, suc, ◌+◌, ◌<◌, List, [], ◌∷◌, ◌++◌, ℤ, length, refl, sym, ap, ◌∙◌, inl, inr, arith, Option, Some, None, slice_get}
use Rattle.std.specs.Prelude.{slice_index_or, is_some}
use Rattle.std.specs.List.{count_by}
use Rattle.std.specs.Option.{option_and_then}
use Rattle.std.proofs.lemmas.List.{length_push}
use Rattle.kernel_base.specs.declared.facts.Facts.{Facts}
use Rattle.kernel_base.specs.declared.request.Request.TheVariants.{Start, ReceiveBuffer, ReceiveSignal}
use Rattle.kernel_base.specs.declared.answer.Answer.TheVariants.{Instance}
use Rattle.kernel_base.specs.declared.event.Event.{Event}
use Rattle.kernel_base.specs.declared.event.Event.TheVariants.{Did}
use Rattle.world_model.specs.declared.world.Phase.{Phase}
use Rattle.world_model.specs.declared.world.Phase.TheVariants.{Active, Waiting}
use Rattle.world_model.specs.declared.world.World.{World}
use Rattle.world_model.specs.Waiting.{sleeper_in, count_of_live}
use Rattle.world_model.specs.Allowed.{most_live}
use Rattle.world_model.proofs.ChangedLists.{pushed_or_old}
use Rattle.event_queues.specs.Delayed.{Sets, listed_in}
use Rattle.buffers_signals.specs.declared.messages.Receiver.{Receiver}
use Rattle.buffers_signals.specs.Lists.{sender_of, receiver_of}
use Rattle.kernel_steps.specs.declared.reply.Reply.TheVariants.{Now}
use Rattle.kernel_steps.specs.declared.state.Ready.{Ready}
use Rattle.kernel_steps.specs.declared.state.State.{State}
use Rattle.kernel_steps.specs.Keyed.{Mirrors}
use Rattle.kernel_steps.specs.Queued.{delayed_in, sending_in, receiving_in, hearing_in, Sleeps}
use Rattle.kernel_steps.specs.Seated.{Seated, started}
use Rattle.kernel_steps.specs.Kept.{world_in, Rests, IsKept}
use Rattle.kernel_steps.specs.Serving.{CanServe, Serves}
use Rattle.kernel_steps.proofs.Keyed.{mirror_more, told_more}
use Rattle.kernel_steps.proofs.Keeping.{kept_with}
use Rattle.kernel_steps.proofs.Numbered.{IsNumbered, world_numbered}
use Rattle.kernel_steps.proofs.Placed.{within}
use Rattle.kernel_steps.proofs.Plain.{InRange}
use Rattle.kernel_steps.proofs.Queued.{count_push}

read_in : (xs : List ℕ) (x i : ℕ) → i < length xs → slice_index_or (xs ++ x ∷ []) i 0 ≡ slice_index_or xs i 0
read_in [] x i low = absurd (omega (arith, low))
read_in (y ∷ xs) x zero low = refl
read_in (y ∷ xs) x (suc i) low = read_in xs x i (omega (arith, low))

pushed_same : (xs ys : List (List ℤ)) (x : List ℤ) (i : ℕ) → length xs ≡ length ys → slice_get xs i ≡ slice_get ys i → slice_get (xs ++ x ∷ []) i ≡ slice_get (ys ++ x ∷ []) i
pushed_same [] [] x i len at = refl
pushed_same [] (y ∷ ys) x i len at = absurd (omega (arith, len))
pushed_same (z ∷ xs) [] x i len at = absurd (omega (arith, len))
pushed_same (z ∷ xs) (y ∷ ys) x zero len at = at
pushed_same (z ∷ xs) (y ∷ ys) x (suc i) len at = pushed_same xs ys x i (omega (arith, len)) at

-- what a phase tells by the processes
abbrev Tells : (List ℕ → ℕ → Phase → Option Receiver) → Type 0
Tells tell = (ps qs : List ℕ) (i : ℕ) (phase : Phase) → slice_index_or qs i 0 ≡ slice_index_or ps i 0 → tell ps i phase ≡ tell qs i phase

receiving_same : Tells receiving_in
receiving_same ps qs i (Waiting (ReceiveBuffer buffers otherwise) send back) e = rw e refl
receiving_same ps qs i phase e = refl

hearing_same : Tells hearing_in
hearing_same ps qs i (Waiting (ReceiveSignal signals otherwise) send back) e = rw e refl
hearing_same ps qs i phase e = refl

told_same : (tell : List ℕ → ℕ → Phase → Option Receiver) → Tells tell → ((ps : List ℕ) (i : ℕ) → tell ps i Active ≡ None) → (ps : List ℕ) (p : ℕ) (phases : List Phase) (i : ℕ) (o : Option Phase) → length ps ≡ length phases → slice_get (phases ++ Active ∷ []) i ≡ o
    → option_and_then (tell ps i) o ≡ option_and_then (tell (ps ++ p ∷ []) i) o
told_same tell same none ps p phases i None each at = refl
told_same tell same none ps p phases i (Some phase) each at = elim (pushed_or_old phases i Active phase at) [
  | inl last ↦ rw last.1 (none ps i ∙ sym (none (ps ++ p ∷ []) i))
  | inr old ↦ same ps (ps ++ p ∷ []) i phase (read_in ps p i (rw each (within phases i phase old)))
]

mirror_started : (tell : List ℕ → ℕ → Phase → Option Receiver) → Tells tell → ((ps : List ℕ) (i : ℕ) → tell ps i Active ≡ None) → (ps : List ℕ) (p : ℕ) (phases : List Phase) (xs : List Receiver) → length ps ≡ length phases
    → Mirrors receiver_of (tell ps) xs phases → Mirrors receiver_of (tell (ps ++ p ∷ [])) xs (phases ++ Active ∷ [])
mirror_started tell same none ps p phases xs each h =
    let more = mirror_more receiver_of (tell ps) xs phases Active (none ps (length phases)) h in
    record { each = λ i. more.each i ∙ told_same tell same none ps p phases i _ each refl; once = more.once }

-- what changes as an instance is started
pub record StartsState (s s' : State) (who ticks process : ℕ) (scalars : List ℤ) : Type 0 where
  pub facts : s'.facts ≡ s.facts
  pub widest : s'.widest ≡ s.widest
  pub ready : s'.ready ≡ s.ready
  pub queues : s'.queues ≡ s.queues
  pub store : s'.store ≡ s.store
  pub read : s'.read ≡ s.read
  pub taken : s'.taken ≡ s.taken
  pub arguments : s'.arguments.items ≡ s.arguments.items ++ scalars ∷ []
  pub unfetched : s'.seats.unfetched.items ≡ s.seats.unfetched.items ++ None ∷ []
  pub seated : Seated (started (world_in s) process scalars) s'.seats
  pub events : s'.journal.events ≡ s.journal.events ++ Did who ticks (Start process scalars) (Instance (length (world_in s).phases)) None ∷ []

sleeps_started : (facts : Facts) (w : World) (process : ℕ) (scalars : List ℤ) (s : Sets) → Sleeps facts w s → Sleeps facts (started w process scalars) s
sleeps_started facts w process scalars s h = record {
  lengths = h.lengths;
  each = h.each;
  delayed = told_more delayed_in (listed_in s.delayed) w.phases Active refl h.delayed;
  counts = λ event ws there. let c = count_push (λ phase. is_some (sleeper_in event phase)) w.phases Active in h.counts event ws there ∙ (let e : count_by (λ phase. is_some (sleeper_in event phase)) w.phases ≡ count_by (λ phase. is_some (sleeper_in event phase)) (w.phases ++ Active ∷ []) = omega (arith, c) in e);
}

rests_started : (s s' : State) (who ticks process : ℕ) (scalars : List ℤ) → IsNumbered (world_in s) → StartsState s s' who ticks process scalars → Rests s.facts (world_in s) s → Rests s.facts (started (world_in s) process scalars) s'
rests_started s s' who ticks process scalars each c r =
    let w = world_in s in
    let b = s.queues.buffers in
    let g = s.queues.signals in
    record {
      sleeps = rw c.queues (sleeps_started s.facts w process scalars s.queues.events r.sleeps);
      trades = rw c.queues (record {
        lengths = r.trades.lengths;
        each = r.trades.each;
        stored = r.trades.stored;
        senders = mirror_more sender_of sending_in b.senders w.phases Active refl r.trades.senders;
        receivers = mirror_started receiving_in receiving_same (λ ps i. refl) w.processes process w.phases b.receivers each r.trades.receivers;
      });
      hears = rw c.queues (record {
        wanted = r.hears.wanted;
        pending = r.hears.pending;
        receivers = mirror_started hearing_in hearing_same (λ ps i. refl) w.processes process w.phases g.receivers each r.hears.receivers;
      });
      sends = rw c.queues r.sends;
      last = rw c.queues r.last;
      store = rw c.store r.store;
      locations = r.locations;
      input = rw c.read r.input;
      read = rw c.read r.read;
      argues = record {
        each = ap (λ l. length l) c.arguments ∙ length_push s.arguments.items scalars ∙ ap (λ n. n + 1) r.argues.each ∙ sym (length_push w.arguments scalars);
        same = λ i low. ap (λ l. slice_get l i) c.arguments ∙ pushed_same s.arguments.items w.arguments scalars i r.argues.each (r.argues.same i (rw (← c.taken) low));
      };
    }

pub start_serves : (s s' : State) (who ticks process : ℕ) (scalars : List ℤ) (r : Ready) → CanServe s who (Start process scalars) r → InRange who ticks (Instance (length (world_in s).phases)) → count_of_live (world_in s) < most_live
    → StartsState s s' who ticks process scalars → Serves s s' who ticks (Start process scalars) (Now (Instance (length (world_in s).phases)))
start_serves s s' who ticks process scalars r can range room c =
    let k = can.kept in
    let w = world_in s in
    let event : Event = Did who ticks (Start process scalars) (Instance (length w.phases)) None in
    let kept : IsKept s' = kept_with s s' event k (record {
      allowed = record { in_range = (range.who, range.ticks, can.in_range, range.answer, tt); possible = (record { active = can.may.goes.active; fits = can.may.fits }, (refl, (room, refl))) };
      width = omega arith;
      burst = tt;
      phases = let e = length_push w.phases Active in omega (arith, e);
    }) c.facts c.widest c.events c.seated (rests_started s s' who ticks process scalars (world_numbered s.facts s.journal.events) c k.rests) in
    record {
      kept = kept;
      ready = c.ready;
      served = (None, (refl, (room, refl)), record { goes = []; only = tt; events = c.events; idle = kept.seated.idle; unfetched = c.unfetched; facts = c.facts; taken = c.taken });
    }
