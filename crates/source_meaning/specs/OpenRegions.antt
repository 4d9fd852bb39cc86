-- Which regions a process has open at each of its requests, and that it reads and writes a region's locations inside it alone.
use Rattle.std.specs.Prelude.{ℕ, List, [], ◌∷◌, ◌++◌, Option, Some, None, slice_get, IsTrue}
use Rattle.kernel_base.specs.declared.request.Request.{Request}
use Rattle.kernel_base.specs.declared.request.Request.TheVariants.{Read, Write, Enter, Leave, End}
use Rattle.world_model.specs.Session.{Item, Tick, Ask}
use Rattle.world_model.specs.Lists.{without}
use Rattle.program_trees.specs.ProgramTree.{LocationRowTree, CheckedTree}
use Rattle.source_meaning.specs.StatementMeaning.{is_open}

-- The regions that are open behind a request which is answered, in the order in which they were entered. Who has ended has none.
abbrev pub open_by : Request → List ℕ → List ℕ
open_by (Enter r) open_now = open_now ++ r ∷ []
open_by (Leave r) open_now = without r open_now
open_by (End how) open_now = []
open_by request open_now = open_now

-- the regions that are open behind a trace whose requests are answered
abbrev pub open_behind : List ℕ → List Item → List ℕ
open_behind open_now [] = open_now
open_behind open_now (Tick ∷ items) = open_behind open_now items
open_behind open_now (Ask request ∷ items) = open_behind (open_by request open_now) items

abbrev pub region_of_row : Option LocationRowTree → Option ℕ
region_of_row None = None
region_of_row (Some row) = row.region

-- the region of the location that a request reads or writes
abbrev pub region_asked : CheckedTree → Request → Option ℕ
region_asked p (Read place) = region_of_row (slice_get p.locations place.location)
region_asked p (Write place scalars) = region_of_row (slice_get p.locations place.location)
region_asked p request = None

abbrev pub IsOpenThere : Option ℕ → List ℕ → Type 0
IsOpenThere None open_now = Unit {0}
IsOpenThere (Some r) open_now = IsTrue (is_open r open_now)

-- where these regions are open, each request of a trace that reads or writes a region's location comes while it is open
abbrev pub AsksInside : CheckedTree → List ℕ → List Item → Type 0
AsksInside p open_now [] = Unit {0}
AsksInside p open_now (Tick ∷ items) = AsksInside p open_now items
AsksInside p open_now (Ask request ∷ items) = IsOpenThere (region_asked p request) open_now × AsksInside p (open_by request open_now) items
