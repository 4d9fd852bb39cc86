-- What the kernel keeps: the journal is allowed, and all else stands for the world that it leaves.
use Rattle.std.specs.Prelude.{◌≡◌, ℕ, ◌+◌, ◌<◌, ◌≤◌, List, [], ℤ, length, drop, slice_get, IfSome, All, vec_len, vec_capacity}
use Rattle.kernel_base.specs.declared.facts.Facts.{Facts}
use Rattle.kernel_base.specs.declared.request.Request.{Request}
use Rattle.kernel_base.specs.declared.request.Request.TheVariants.{Read, SendBuffer, SendSignal, Get}
use Rattle.kernel_base.specs.declared.answer.Answer.{Answer}
use Rattle.kernel_base.specs.declared.answer.Answer.TheVariants.{Value, Got}
use Rattle.kernel_base.specs.declared.event.Event.{Event}
use Rattle.kernel_base.specs.declared.event.Event.TheVariants.{Did, Waits, Goes, Runs}
use Rattle.kernel_base.specs.Facts.{IsSound}
use Rattle.kernel_base.specs.Units.{units_of_all}
use Rattle.world_model.specs.declared.world.World.{World}
use Rattle.world_model.specs.World.{world_of}
use Rattle.world_model.specs.Allowed.{IsRun}
use Rattle.shared_store.specs.Places.{SeenStore}
use Rattle.kernel_steps.specs.declared.state.Queues.{Queues}
use Rattle.kernel_steps.specs.declared.state.Ready.{Ready}
use Rattle.kernel_steps.specs.declared.state.State.{State}
use Rattle.kernel_steps.specs.Queued.{Sleeps, Trades, Hears}
use Rattle.kernel_steps.specs.Seated.{Seated}

-- the world that the journal leaves
abbrev pub world_in : State → World
world_in s = world_of s.facts s.journal.events

-- the arguments of each instance that wasn't taken
pub record Argues (w : World) (taken : ℕ) (arguments : List (List ℤ)) : Type 0 where
  pub each : length arguments ≡ length w.arguments
  pub same : (i : ℕ) → taken < i → slice_get arguments i ≡ slice_get w.arguments i

-- the store has the scalars of a world, where the facts lay them
abbrev pub Stores : Facts → World → SeenStore → Type 0
Stores facts w store = (store.scalars ≡ w.store) × (store.layouts ≡ facts.layouts)

-- no part has a send number behind the last
abbrev pub AreDrawn : Queues → Type 0
AreDrawn q = (q.buffers.last ≤ q.sends) × (q.signals.last ≤ q.sends)

-- the queues, the store, the input and the arguments stand for a world
pub record Rests (facts : Facts) (w : World) (s : State) : Type 0 where
  pub sleeps : Sleeps facts w s.queues.events
  pub trades : Trades facts w s.queues.buffers
  pub hears : Hears facts w s.queues.signals
  pub sends : s.queues.sends ≡ w.sends
  pub last : AreDrawn s.queues
  pub store : Stores facts w s.store
  pub locations : length w.store ≡ length facts.store
  pub input : drop s.read facts.input ≡ w.input
  pub read : s.read ≤ length facts.input
  pub argues : Argues w s.taken s.arguments.items

-- how many scalars an answer to the request, or its message, may have
abbrev pub width_of : Request → ℕ
width_of (Read place) = place.count
width_of (SendBuffer buffer scalars priority) = length scalars
width_of (SendSignal signal scalars to priority) = length scalars
width_of Get = 1
width_of request = 0

-- the same of what an event asks
abbrev pub width_in : Event → ℕ
width_in (Did who ticks request answer refill) = width_of request
width_in (Waits who ticks request) = width_of request
width_in (Goes who answer) = 0
width_in (Runs who ticks) = 0

-- room for one commit of this request
pub record HasRoom (s : State) (r : Ready) : Type 0 where
  pub width : width_of r.request ≤ s.widest
  pub first_empty : r.first.items ≡ []
  pub second_empty : r.second.items ≡ []
  pub first : s.widest ≤ vec_capacity r.first
  pub second : s.widest ≤ vec_capacity r.second
  pub journal : s.facts.regions + 2 ≤ s.journal.spare
  pub instances : 0 < s.seats.instances.spare
  pub regions : s.facts.regions + 2 ≤ s.seats.regions.spare
  pub backs : vec_len s.seats.backs < vec_capacity s.seats.backs
  pub chosen : vec_len s.seats.chosen < vec_capacity s.seats.chosen
  pub unfetched : vec_len s.seats.unfetched < vec_capacity s.seats.unfetched
  pub events : 0 < s.queues.events.spare
  pub buffers : 0 < s.queues.buffers.spare
  pub signals : 0 < s.queues.signals.spare
  pub arguments : vec_len s.arguments < vec_capacity s.arguments

-- where the kernel is ready for a commit, it has the room for it
abbrev pub IsPrepared : State → Type 0
IsPrepared s = IfSome s.ready (HasRoom s)

-- a note of ticks has as many as a whole burst
abbrev pub IsWholeBurst : Event → Type 0
IsWholeBurst (Runs who ticks) = ticks ≡ 256
IsWholeBurst event = Unit {0}

-- The journal is a list of allowed events. Its numbers stay small, no message is wider than the buffers that are made
-- ready, and each note of ticks is a whole burst.
pub record IsBook (facts : Facts) (widest : ℕ) (events : List Event) : Type 0 where
  pub run : IsRun facts events
  pub regions : length (world_of facts events).occupants ≡ facts.regions
  pub few : length (world_of facts events).phases ≤ units_of_all events + 2
  pub sent : (world_of facts events).sends ≤ units_of_all events
  pub widths : All (λ event. width_in event ≤ widest) events
  pub bursts : All IsWholeBurst events

-- each event of the journal is allowed, and all else stands for the world that they leave
pub record IsKept (s : State) : Type 0 where
  pub sound : IsSound s.facts
  pub book : IsBook s.facts s.widest s.journal.events
  pub seated : Seated (world_in s) s.seats
  pub rests : Rests s.facts (world_in s) s

-- how many scalars an answer has
abbrev pub count_of_scalars : Answer → ℕ
count_of_scalars (Value scalars) = length scalars
count_of_scalars (Got alternative send scalars by) = length scalars
count_of_scalars answer = 0
