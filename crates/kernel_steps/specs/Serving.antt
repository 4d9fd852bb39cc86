-- One request that is served, over the state.
use Rattle.std.specs.Prelude.{◌≡◌, ℕ, ◌<◌, ◌==◌, Bool, false, not, List, [], ◌∷◌, Some, None}
use Rattle.std.specs.declared.option.Option.{Option}
use Rattle.kernel_base.specs.declared.answer.Answer.TheVariants.{Stored}
use Rattle.kernel_base.specs.declared.event.Event.{Event}
use Rattle.kernel_base.specs.declared.event.Event.TheVariants.{Goes}
use Rattle.kernel_steps.specs.declared.seats.Going.{Going}
use Rattle.kernel_steps.specs.declared.seats.Seats.{Seats}
use Rattle.kernel_base.specs.declared.request.Request.{Request}
use Rattle.kernel_base.specs.Units.{units_of_all}
use Rattle.world_model.specs.Ranges.{IsRequestInRange}
use Rattle.kernel_steps.specs.declared.reply.Reply.{Reply}
use Rattle.kernel_steps.specs.declared.state.Ready.{Ready}
use Rattle.kernel_steps.specs.declared.state.State.{State}
use Rattle.kernel_steps.specs.Seated.{Hands}
use Rattle.kernel_steps.specs.Kept.{IsKept, HasRoom}
use Rattle.kernel_steps.specs.View.{view_of, MayCommit, Served}

-- `who` may commit the request, the budget isn't spent, and the room is there for it
pub record CanServe (s : State) (who : ℕ) (request : Request) (r : Ready) : Type 0 where
  pub kept : IsKept s
  pub may : MayCommit (view_of s) who request
  pub unspent : units_of_all s.journal.events < s.facts.units
  pub room : HasRoom s r
  pub is : r.request ≡ request
  pub in_range : IsRequestInRange request

-- the request was answered or waits as it has to, and all is kept
pub record Serves (old new : State) (who ticks : ℕ) (request : Request) (reply : Reply) : Type 0 where
  pub kept : IsKept new
  pub ready : new.ready ≡ old.ready
  pub served : Served (view_of old) (view_of new) who ticks request reply

-- the sender whose value refills a buffer, if any, is chosen, and its value is stored
abbrev pub Refills : Seats → Seats → Option ℕ → Option Going → Type 0
Refills s new None going = (new ≡ s) × (going ≡ None)
Refills s new (Some sender) going = Hands s new sender Stored going

-- the event of the one that goes on, if any does
abbrev pub goes_of : Option Going → List Event
goes_of None = []
goes_of (Some going) = Goes going.who going.answer ∷ []

-- the occupant is another
abbrev pub other_than : Option ℕ → ℕ → Bool
other_than None who = false
other_than (Some other) who = not (other == who)
