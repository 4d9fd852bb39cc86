-- The first event that isn't allowed.
use Rattle.std.specs.Prelude.{ℕ, ◌+◌, ◌<◌, List, length, take, Some, None}
use Rattle.std.specs.declared.option.Option.{Option}
use Rattle.kernel_base.specs.declared.facts.Facts.{Facts}
use Rattle.kernel_base.specs.declared.event.Event.{Event}
use Rattle.world_model.specs.Allowed.{IsRun}

-- the events before this place are allowed from the opening, and with the one at it they aren't
pub record IsFirstRefused (facts : Facts) (events : List Event) (place : ℕ) : Type 0 where
  pub within : place < length events
  pub before : IsRun facts (take place events)
  pub not_with_it : IsRun facts (take (place + 1) events) → ⊥

-- none where the events are allowed from the opening, else the place of the first that isn't, counted from 0
abbrev pub TellsFirstRefused : Facts → List Event → Option ℕ → Type 0
TellsFirstRefused facts events None = IsRun facts events
TellsFirstRefused facts events (Some place) = IsFirstRefused facts events place
