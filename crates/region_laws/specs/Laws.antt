-- The laws of regions in the runs of a text.
use Rattle.std.specs.Prelude.{◌≡◌, ℕ, true, List, [], ◌∷◌, ◌++◌, ℤ, Option, Some, None, slice_get}
use Rattle.kernel_base.specs.declared.facts.Facts.{Facts}
use Rattle.kernel_base.specs.declared.answer.Answer.{Answer}
use Rattle.kernel_base.specs.declared.event.Event.{Event}
use Rattle.kernel_base.specs.declared.event.Event.TheVariants.{Did}
use Rattle.world_model.specs.declared.world.World.{World}
use Rattle.world_model.specs.Waiting.{IsActive}
use Rattle.world_model.specs.World.{world_of, held_by}
use Rattle.world_model.specs.Allowed.{Occupies}
use Rattle.world_model.specs.Journal.{line_of}
use Rattle.program_trees.specs.ProgramTree.{BodyRowTree, CheckedTree}
use Rattle.source_meaning.specs.Talk.{talk}
use Rattle.source_meaning.specs.Runs.{IsSourceRun}
use Rattle.source_meaning.specs.OpenRegions.{open_behind, region_asked, AsksInside}
use Rattle.source_meaning.specs.Fitting.{has_instances}
use Rattle.source_meaning.specs.Typed.{IsTyped}

-- A process of a typed program reads and writes a region's locations only while it has that region open, whatever it is
-- answered.
abbrev pub AsksInsideLaw : Type 0
AsksInsideLaw = (p : CheckedTree) (instance process : ℕ) (body : BodyRowTree) (arguments : List ℤ) (answers : List Answer) (n : ℕ)
    → IsTyped p
    → slice_get p.bodies process ≡ Some body
    → has_instances body.sort ≡ true
    → AsksInside p [] (talk p instance process arguments answers n).trace

-- In a run of a typed program an active process holds exactly the regions that it has open, in the order in which it entered
-- them.
abbrev pub TextRegionsLaw : Type 0
TextRegionsLaw = (p : CheckedTree) (facts : Facts) (events : List Event) (instance : ℕ)
    → IsTyped p
    → IsSourceRun p facts events
    → IsActive (world_of facts events) instance
    → held_by (world_of facts events) instance ≡ open_behind [] (line_of instance events)

abbrev pub IsOccupiedBy : World → ℕ → Option ℕ → Type 0
IsOccupiedBy w who None = Unit {0}
IsOccupiedBy w who (Some region) = Occupies w who region

-- an event that reads or writes a region's location is of the region's occupant
abbrev pub IsByOccupant : CheckedTree → World → Event → Type 0
IsByOccupant p w (Did who ticks request answer refill) = IsOccupiedBy w who (region_asked p request)
IsByOccupant p w event = Unit {0}

-- In a run of a typed program each event that reads or writes a region's location is of the region's occupant in the world
-- before it.
abbrev pub RegionLocationsLaw : Type 0
RegionLocationsLaw = (p : CheckedTree) (facts : Facts) (before : List Event) (event : Event) (behind : List Event)
    → IsTyped p
    → IsSourceRun p facts (before ++ event ∷ behind)
    → IsByOccupant p (world_of facts before) event
