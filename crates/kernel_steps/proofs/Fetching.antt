-- An answer is fetched: only the list of what wasn't fetched changes.
use Rattle.std.proofs.Common.{◌≡◌, length, Vec, Global, refl, ◌∙◌, arith, Option, Some, None}
use Rattle.std.specs.Prelude.{IfSome, vec_len, vec_capacity}
use Rattle.kernel_base.specs.declared.answer.Answer.{Answer}
use Rattle.world_model.specs.declared.world.World.{World}
use Rattle.kernel_steps.specs.declared.seats.Seats.{Seats}
use Rattle.kernel_steps.specs.declared.state.Ready.{Ready}
use Rattle.kernel_steps.specs.declared.state.State.{State}
use Rattle.kernel_steps.specs.Seated.{Seated}
use Rattle.kernel_steps.specs.Kept.{world_in, HasRoom, IsKept}
use Rattle.kernel_steps.proofs.Served.{rests_same}

-- the state with this list
abbrev pub with_unfetched : State → Vec (Option Answer) Global → State
with_unfetched s u = record s { seats = record s.seats { unfetched = u } }

seated_fetched : (w : World) (s : Seats) (u : Vec (Option Answer) Global) → length u.items ≡ length s.unfetched.items → Seated w s → Seated w (record s { unfetched = u })
seated_fetched w s u each h = record {
  placed = record {
    processes = h.placed.processes;
    phases = h.placed.phases;
    occupants = h.placed.occupants;
    held = h.placed.held;
    queues = h.placed.queues;
    backs = h.placed.backs;
    there = h.placed.there;
    answers = h.placed.answers;
    zeroth = h.placed.zeroth;
    held_each = h.placed.held_each;
    back_each = h.placed.back_each;
    answer_each = h.placed.answer_each;
    fetch_each = each ∙ h.placed.fetch_each;
  };
  idle = h.idle;
}

pub kept_fetched : (s : State) (u : Vec (Option Answer) Global) → length u.items ≡ length s.seats.unfetched.items → IsKept s → IsKept (with_unfetched s u)
kept_fetched s u each k = record {
  sound = k.sound;
  book = k.book;
  seated = seated_fetched (world_in s) s.seats u each k.seated;
  rests = rests_same s.facts (world_in s) (world_in s) s (with_unfetched s u) refl (record { processes = refl; stored = refl; pending = refl; sends = refl; arguments = refl; queues = refl; store = k.rests.store; locations = refl; input = k.rests.input; read = k.rests.read; taken = refl; argued = refl }) k.rests;
}

room_fetched : (s : State) (u : Vec (Option Answer) Global) (r : Ready) → vec_len u ≡ vec_len s.seats.unfetched → vec_capacity u ≡ vec_capacity s.seats.unfetched → HasRoom s r → HasRoom (with_unfetched s u) r
room_fetched s u r len cap h = record {
  width = h.width;
  first_empty = h.first_empty;
  second_empty = h.second_empty;
  first = h.first;
  second = h.second;
  journal = h.journal;
  instances = h.instances;
  regions = h.regions;
  backs = h.backs;
  chosen = h.chosen;
  unfetched = omega (arith, len, cap, h.unfetched);
  events = h.events;
  buffers = h.buffers;
  signals = h.signals;
  arguments = h.arguments;
}

pub prepared_fetched : (s : State) (u : Vec (Option Answer) Global) (ready : Option Ready) → vec_len u ≡ vec_len s.seats.unfetched → vec_capacity u ≡ vec_capacity s.seats.unfetched → IfSome ready (HasRoom s) → IfSome ready (HasRoom (with_unfetched s u))
prepared_fetched s u None len cap h = tt
prepared_fetched s u (Some r) len cap h = room_fetched s u r len cap h
