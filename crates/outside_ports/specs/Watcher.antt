-- What a watcher makes of events.
use Rattle.std.specs.Prelude.{◌≡◌, ℕ, List, Bool, true, false, IsTrue, IsFalse, Ok, Err}
use Rattle.std.specs.declared.result.Result.{Result}
use Rattle.kernel_base.specs.declared.event.Event.{Event}
use Rattle.outside_ports.specs.declared.watcher.WatchFault.{WatchFault}
use Rattle.outside_ports.specs.declared.watcher.WatchFault.TheVariants.{Refused, Memory}

-- a watcher: its state, the step of a state at an event, whether it refuses an event in a state, and the text of a state
pub record Watching : Type 0 where
  pub state : List ℕ
  pub step : List ℕ → Event → List ℕ
  pub refuses : List ℕ → Event → Bool
  pub text : List ℕ → List ℕ

-- it refuses an event in the state in which it is
abbrev pub refuses_now : Watching → Event → Bool
refuses_now watching event = watching.refuses watching.state event

-- it saw an event
abbrev pub after : Watching → Event → Watching
after watching event = record watching { state = watching.step watching.state event }

-- the text of the state in which it is
abbrev pub told : Watching → List ℕ
told watching = watching.text watching.state

-- an event that it sees is one that it doesn't refuse, and makes the step; one that it refuses leaves it as it was, and so does
-- want of memory
abbrev pub Sees : {T : Type 0} → Watching → Event → Result T WatchFault → Watching → Type 0
Sees old event (Ok _) new = IsFalse (refuses_now old event) × (new ≡ after old event)
Sees old event (Err Refused) new = IsTrue (refuses_now old event) × (new ≡ old)
Sees old event (Err Memory) new = new ≡ old
