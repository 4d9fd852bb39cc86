-- Parts that are as before but for their room, and the room that they need for one commit.
use Rattle.std.specs.Prelude.{◌≡◌, ℕ, ◌+◌, ◌<◌, ◌≤◌, [], vec_len, vec_capacity}
use Rattle.kernel_base.specs.declared.request.Request.{Request}
use Rattle.kernel_steps.specs.declared.seats.Seats.{Seats}
use Rattle.kernel_steps.specs.declared.state.Queues.{Queues}
use Rattle.kernel_steps.specs.declared.state.Ready.{Ready}
use Rattle.kernel_steps.specs.declared.state.State.{State}

-- the same of each instance and region
pub record SameSeats (s new : Seats) : Type 0 where
  pub processes : new.instances.processes ≡ s.instances.processes
  pub phases : new.instances.phases ≡ s.instances.phases
  pub occupants : new.regions.occupants ≡ s.regions.occupants
  pub locks : new.regions.locks ≡ s.regions.locks
  pub queues : new.regions.queues ≡ s.regions.queues
  pub backs : new.backs.items ≡ s.backs.items
  pub chosen : new.chosen.items ≡ s.chosen.items
  pub unfetched : new.unfetched.items ≡ s.unfetched.items

-- the same that waits and was sent
pub record SameQueues (q new : Queues) : Type 0 where
  pub event_lengths : new.events.lengths ≡ q.events.lengths
  pub delayed : new.events.delayed ≡ q.events.delayed
  pub waiting : new.events.waiting ≡ q.events.waiting
  pub buffer_lengths : new.buffers.lengths ≡ q.buffers.lengths
  pub stored : new.buffers.stored ≡ q.buffers.stored
  pub senders : new.buffers.senders ≡ q.buffers.senders
  pub receivers : new.buffers.receivers ≡ q.buffers.receivers
  pub last : new.buffers.last ≡ q.buffers.last
  pub last_signal : new.signals.last ≡ q.signals.last
  pub wanted : new.signals.wanted ≡ q.signals.wanted
  pub pending : new.signals.pending ≡ q.signals.pending
  pub hearers : new.signals.receivers ≡ q.signals.receivers
  pub sends : new.sends ≡ q.sends

-- the same state; its buffers may be wider
pub record SameState (s new : State) : Type 0 where
  pub facts : new.facts ≡ s.facts
  pub events : new.journal.events ≡ s.journal.events
  pub seats : SameSeats s.seats new.seats
  pub queues : SameQueues s.queues new.queues
  pub store : new.store ≡ s.store
  pub read : new.read ≡ s.read
  pub arguments : new.arguments.items ≡ s.arguments.items
  pub taken : new.taken ≡ s.taken
  pub widest : s.widest ≤ new.widest

-- room for one more instance, and for so many changes of regions
pub record SeatsHaveRoom (changes : ℕ) (s : Seats) : Type 0 where
  pub instances : 0 < s.instances.spare
  pub regions : changes ≤ s.regions.spare
  pub backs : vec_len s.backs < vec_capacity s.backs
  pub chosen : vec_len s.chosen < vec_capacity s.chosen
  pub unfetched : vec_len s.unfetched < vec_capacity s.unfetched

-- room for one more that waits, or is sent
pub record QueuesHaveRoom (q : Queues) : Type 0 where
  pub events : 0 < q.events.spare
  pub buffers : 0 < q.buffers.spare
  pub signals : 0 < q.signals.spare

-- room in all parts
pub record PartsHaveRoom (s : State) : Type 0 where
  pub journal : s.facts.regions + 2 ≤ s.journal.spare
  pub seats : SeatsHaveRoom (s.facts.regions + 2) s.seats
  pub queues : QueuesHaveRoom s.queues
  pub arguments : vec_len s.arguments < vec_capacity s.arguments

-- a copy of the request, and two empty buffers for so many scalars
pub record IsReadyWith (who : ℕ) (request : Request) (widest : ℕ) (r : Ready) : Type 0 where
  pub who_is : r.who ≡ who
  pub request_is : r.request ≡ request
  pub first_empty : r.first.items ≡ []
  pub second_empty : r.second.items ≡ []
  pub first : widest ≤ vec_capacity r.first
  pub second : widest ≤ vec_capacity r.second
