-- What is told of a list of events that is held against a code.
use Rattle.std.specs.Prelude.{◌≡◌, ℕ, ◌+◌, ◌<◌, ◌≤◌, List, length, take, Some, None}
use Rattle.std.specs.declared.option.Option.{Option}
use Rattle.kernel_base.specs.declared.ends.Over.{Over}
use Rattle.kernel_base.specs.declared.facts.Facts.{Facts}
use Rattle.kernel_base.specs.declared.event.Event.{Event}
use Rattle.kernel_base.specs.Units.{units_of_all}
use Rattle.world_model.specs.Over.{over_of, IsComplete}
use Rattle.code_types.specs.declared.code.Code.{Code}
use Rattle.code_types.specs.Runs.{IsCodeRun}
use Rattle.run_checker.specs.declared.verdict.Verdict.{Verdict}
use Rattle.run_checker.specs.declared.verdict.Verdict.TheVariants.{Yes, No}
use Rattle.run_checker.specs.declared.verdict.CheckRefusal.{CheckRefusal}
use Rattle.run_checker.specs.declared.verdict.CheckRefusal.TheVariants.{TooLong, Memory}

-- how the run is over, where it is over and wasn't before; else none
abbrev pub TellsEnd : Facts → List Event → Option Over → Type 0
TellsEnd facts events None = IsComplete facts events → ⊥
TellsEnd facts events (Some over) = IsComplete facts events × (over_of facts events ≡ Some over)

-- The place of the first event that a run of the code can't have: each front that ends before it is a run, and none is with it.
pub record IsFirstOff (code : Code) (facts : Facts) (events : List Event) (place : ℕ) : Type 0 where
  pub within : place < length events
  pub before : (count : ℕ) → count ≤ place → IsCodeRun code facts (take count events)
  pub not_with_it : IsCodeRun code facts (take (place + 1) events) → ⊥

-- the events are a run of the code, so many and with this end, or not from one of them on
abbrev pub IsVerdict : Code → Facts → List Event → Verdict → Type 0
IsVerdict code facts events (Yes count over) = IsCodeRun code facts events × (count ≡ length events) × TellsEnd facts events over
IsVerdict code facts events (No place) = IsFirstOff code facts events place

-- the most units of events that are held against a code
abbrev pub most_units : ℕ
most_units = 20000000

abbrev pub IsRefused : List Event → CheckRefusal → Type 0
IsRefused events TooLong = most_units < units_of_all events
IsRefused events Memory = Unit {0}
