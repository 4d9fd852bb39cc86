-- What a contract sees of a journal.
use Rattle.std.specs.Prelude.{ℕ, ◌-◌, ◌^◌, min, List}
use Rattle.kernel_base.specs.declared.event.Event.{Event}
use Rattle.kernel_base.specs.Units.{units_of_all}

-- the events, and for how many more there is room
pub record Book : Type 0 where
  pub events : List Event
  pub spare : ℕ

-- the units of the events, or 2^64 - 1 where there are more
abbrev pub units_up_to : List Event → ℕ
units_up_to events = min (units_of_all events) (2 ^ 64 - 1)
