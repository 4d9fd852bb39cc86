-- When a run is over, and how.
use Rattle.std.specs.Prelude.{◌≡◌, ℕ, nat_le, Bool, true, false, List, ◌∷◌, ◌++◌, slice_index_or, if◌then◌else◌, Some, None, IsSome, is_none}
use Rattle.std.specs.List.{list_all}
use Rattle.std.specs.declared.option.Option.{Option}
use Rattle.kernel_base.specs.declared.ends.Over.{Over}
use Rattle.kernel_base.specs.declared.ends.Over.TheVariants.{AllEnded, Still, Spent}
use Rattle.kernel_base.specs.declared.facts.Facts.{Facts}
use Rattle.kernel_base.specs.declared.event.Event.{Event}
use Rattle.kernel_base.specs.declared.event.Event.TheVariants.{Goes}
use Rattle.kernel_base.specs.Units.{units_of_all}
use Rattle.world_model.specs.declared.world.Phase.{Phase}
use Rattle.world_model.specs.declared.world.Phase.TheVariants.{Active, Waiting, Chosen, Ended}
use Rattle.world_model.specs.declared.world.World.{World}
use Rattle.world_model.specs.World.{world_of}

abbrev pub is_ended : Phase → Bool
is_ended (Ended how) = true
is_ended phase = false

-- no region to lock again, or one that is free
abbrev pub may_lock_back : World → Option ℕ → Bool
may_lock_back w None = true
may_lock_back w (Some region) = is_none (slice_index_or w.occupants region (Some 0))

-- neither active nor chosen with nothing to wait for
abbrev pub is_stuck : World → Phase → Bool
is_stuck w Active = false
is_stuck w (Waiting request send back) = true
is_stuck w (Chosen answer back) = if may_lock_back w back then false else true
is_stuck w (Ended how) = true

-- how the run is over in a world, where its units have not reached the budget
abbrev pub end_in : World → Option Over
end_in w =
    if list_all is_ended w.phases then Some AllEnded else
    if list_all (is_stuck w) w.phases then Some Still else None

-- the first that applies of Spent, AllEnded and Still
abbrev pub over_of : Facts → List Event → Option Over
over_of facts events = if nat_le facts.units (units_of_all events) then Some Spent else end_in (world_of facts events)

-- an event other than a going on
abbrev pub IsNoGoing : Event → Type 0
IsNoGoing (Goes who answer) = ⊥
IsNoGoing event = Unit {0}

-- The run is over, and wasn't before any event but a going on.
pub record IsComplete (facts : Facts) (events : List Event) : Type 0 where
  pub over : IsSome (over_of facts events)
  pub first : (before : List Event) (event : Event) (behind : List Event) → events ≡ before ++ event ∷ behind → IsNoGoing event → over_of facts before ≡ None
