-- The spots of a mode, or the first field that stands in their way.
use Rattle.std.specs.Prelude.{◌≡◌, ℕ, List, Ok, Err}
use Rattle.std.specs.declared.result.Result.{Result}
use Rattle.chill_base.specs.declared.layout.Bits.{Bits}
use Rattle.modes.specs.ModeTree.{ModeTree}
use Rattle.layout_map.specs.declared.overlap.Shared.{Shared}
use Rattle.layout_map.specs.declared.layouts.LayoutRefusal.{LayoutRefusal}
use Rattle.layout_map.specs.declared.layouts.LayoutRefusal.TheVariants as refusals
use Rattle.layout_map.specs.Numbered.{first_impossible}
use Rattle.layout_map.specs.Overlap.{first_overlap}
use Rattle.layout_map.specs.Spots.{spots_of}

pub data Outcome : Type 0 where
  spots : List Bits → Outcome
  overlap : ℕ → ℕ → Outcome
  impossible : ℕ → Outcome

abbrev pub unless_shared : Result ℕ Shared → ModeTree → Outcome
unless_shared (Ok n) m = spots (spots_of m)
unless_shared (Err s) m = overlap s.first s.second

abbrev pub unless_impossible : Result ℕ ℕ → ModeTree → Outcome
unless_impossible (Ok n) m = unless_shared (first_overlap m 0) m
unless_impossible (Err n) m = impossible n

-- The lowest field with an impossible place; where there is none, the lowest field that shares a bit with an earlier one, and
-- the lowest such; else the spots.
abbrev pub outcome_of : ModeTree → Outcome
outcome_of m = unless_impossible (first_impossible m 0) m

-- want of memory may come with any outcome
abbrev pub Refuses : LayoutRefusal → Outcome → Type 0
Refuses (refusals.Overlap first second) o = o ≡ overlap first second
Refuses (refusals.Impossible field) o = o ≡ impossible field
Refuses refusals.Memory o = Unit {0}
