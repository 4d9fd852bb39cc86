-- How what is kept of the instances and the regions stands for a world.
use Rattle.std.specs.Prelude.{◌≡◌, ℕ, ◌<◌, ◌==◌, ◌⊎◌, List, [], ◌∷◌, ◌++◌, ℤ, length, map, slice_get, slice_set, if◌then◌else◌, Some, None}
use Rattle.std.specs.declared.option.Option.{Option}
use Rattle.kernel_base.specs.declared.request.Request.{Request}
use Rattle.kernel_base.specs.declared.answer.Answer.{Answer}
use Rattle.world_model.specs.declared.world.Phase.{Phase}
use Rattle.world_model.specs.declared.world.Phase.TheVariants.{Active, Waiting, Chosen, Ended}
use Rattle.world_model.specs.declared.world.World.{World}
use Rattle.world_model.specs.Waiting.{phase_of, IsActive}
use Rattle.world_model.specs.World as worlds
use Rattle.world_model.specs.World.{with_phase, freed, freed_last, entered, occupant, locked_back, back_in}
use Rattle.world_model.specs.Allowed.{MayGo, IsFree, Occupies}
use Rattle.world_model.specs.Lists.{last_of}
use Rattle.kernel_base.specs.declared.ends.How.TheVariants.{Normal}
use Rattle.instance_table.specs.declared.phase.Phase as tables
use Rattle.instance_table.specs.declared.phase.Phase.TheVariants as kinds
use Rattle.region_kernel.specs.declared.regions.Lock.{Lock}
use Rattle.region_kernel.specs.Regions.{held_by, itself, queue_of}
use Rattle.kernel_steps.specs.declared.seats.Copies.{Copies}
use Rattle.kernel_steps.specs.declared.seats.Going.{Going}
use Rattle.kernel_steps.specs.declared.seats.Seats.{Seats}
use Rattle.kernel_steps.specs.Keyed.{Mirrors}

-- how far an instance is, as the table knows it
abbrev pub kind_of : Phase → tables.Phase
kind_of Active = kinds.Active
kind_of (Waiting request send back) = kinds.Waiting
kind_of (Chosen answer back) = kinds.Suspended
kind_of (Ended how) = kinds.Ended how

-- one that was chosen and waits to lock a region
abbrev pub suspended_in : ℕ → Phase → Option Lock
suspended_in who (Chosen answer (Some region)) = Some (record { region = region; who = who })
suspended_in who phase = None

-- one that waits to lock this region
abbrev pub waits_for : ℕ → Option Lock → Option ℕ
waits_for region None = None
waits_for region (Some lock) = if lock.region == region then Some lock.who else None

abbrev pub queued_in : ℕ → ℕ → Phase → Option ℕ
queued_in region who phase = waits_for region (suspended_in who phase)

-- in each region's queue those stand whose phases tell that they wait for it
abbrev pub AreQueuedBy : List (List ℕ) → List Phase → Type 0
AreQueuedBy queues phases = (region : ℕ) → Mirrors itself (queued_in region) (queue_of queues region) phases

-- an answer, for the journal and to be fetched
abbrev pub twice : Answer → Copies
twice answer = record { noted = answer; handed = answer }

-- The table, the regions and the lists by instance are those of the world.
pub record Placed (w : World) (s : Seats) : Type 0 where
  pub processes : s.instances.processes ≡ w.processes
  pub phases : s.instances.phases ≡ map kind_of w.phases
  pub occupants : s.regions.occupants ≡ w.occupants
  pub held : (who : ℕ) → held_by s.regions.locks who ≡ worlds.held_by w who
  pub queues : AreQueuedBy s.regions.queues w.phases
  pub backs : (who : ℕ) (request : Request) (send back : Option ℕ) → phase_of w who ≡ Some (Waiting request send back) → slice_get s.backs.items who ≡ Some back
  pub there : (who : ℕ) (request : Request) (send : Option ℕ) (region : ℕ) → phase_of w who ≡ Some (Waiting request send (Some region)) → region < length w.occupants
  pub answers : (who : ℕ) (answer : Answer) (back : Option ℕ) → phase_of w who ≡ Some (Chosen answer back) → slice_get s.chosen.items who ≡ Some (Some (twice answer))
  pub zeroth : phase_of w 0 ≡ Some (Ended Normal)
  pub held_each : length w.held ≡ length w.phases
  pub back_each : length s.backs.items ≡ length w.phases
  pub answer_each : length s.chosen.items ≡ length w.phases
  pub fetch_each : length s.unfetched.items ≡ length w.phases

-- nobody was chosen who may go on
abbrev pub IsIdle : World → Type 0
IsIdle w = (who : ℕ) (answer : Answer) → MayGo w who answer → ⊥

-- They are those of the world, in which nobody may go on.
pub record Seated (w : World) (s : Seats) : Type 0 where
  pub placed : Placed w s
  pub idle : IsIdle w

-- they stand for some world
abbrev pub IsSeated : Seats → Type 0
IsSeated s = (w : World) × Seated w s

-- `who` occupies the region that it locked last
abbrev pub OwnsLast : World → ℕ → Type 0
OwnsLast w who = (region : ℕ) → last_of (worlds.held_by w who) ≡ Some region → Occupies w who region

-- the world once `who` waits for anything but a region
abbrev pub waiting : World → ℕ → Request → Option ℕ → World
waiting w who request send = let back = last_of (worlds.held_by w who) in with_phase (freed_last w who back) who (Waiting request send back)

-- the world once an instance is started
abbrev pub started : World → ℕ → List ℤ → World
started w process scalars = record w { processes = w.processes ++ process ∷ []; arguments = w.arguments ++ scalars ∷ []; phases = w.phases ++ Active ∷ []; held = w.held ++ [] ∷ [] }

-- the world once `who` goes on
abbrev pub gone_on : World → ℕ → World
gone_on w who = with_phase (locked_back w who (back_in (phase_of w who))) who Active

-- the one that goes on may do so in the world, and the seats stand for the world behind it
pub record GoesOn (w : World) (s new : Seats) (going : Going) : Type 0 where
  pub may : MayGo w going.who going.answer
  pub seated : Seated (gone_on w going.who) new
  pub answer : new.unfetched.items ≡ slice_set s.unfetched.items going.who (Some going.answer)

-- nobody goes on, and the seats stand for the world
pub record NobodyGoes (w : World) (s new : Seats) : Type 0 where
  pub seated : Seated w new
  pub answer : new.unfetched.items ≡ s.unfetched.items

-- The seats stand for the world once the one that goes on, if any, has done so. Its answer is to be fetched.
abbrev pub Settles : World → Seats → Seats → Option Going → Type 0
Settles w s new None = NobodyGoes w s new
Settles w s new (Some going) = GoesOn w s new going

-- `who` comes to wait for a region that another occupies, for every world that the seats stand for
abbrev pub CanSuspend : Seats → ℕ → ℕ → Type 0
CanSuspend s who region = (w : World) × (phase : Phase) × (other : ℕ) × Seated w s × (phase_of w who ≡ Some phase) × (suspended_in who phase ≡ None) × Occupies w other region × (0 < who)

abbrev pub Suspends : Seats → Seats → ℕ → ℕ → Copies → Type 0
Suspends s new who region copies = (w : World) (phase : Phase) (other : ℕ) → Seated w s → phase_of w who ≡ Some phase → suspended_in who phase ≡ None → Occupies w other region → 0 < who → copies ≡ twice copies.noted
    → NobodyGoes (with_phase w who (Chosen copies.noted (Some region))) s new

-- `who` waits, and is chosen
abbrev pub CanChoose : Seats → ℕ → Type 0
CanChoose s who = (w : World) × (request : Request) × (send : Option ℕ) × (back : Option ℕ) × Seated w s × (phase_of w who ≡ Some (Waiting request send back))

abbrev pub Chooses : Seats → Seats → ℕ → Copies → Option Going → Type 0
Chooses s new who copies going = (w : World) (request : Request) (send back : Option ℕ) → Seated w s → phase_of w who ≡ Some (Waiting request send back) → copies ≡ twice copies.noted → Settles (with_phase w who (Chosen copies.noted back)) s new going

-- the same with an answer that is copied here
abbrev pub Hands : Seats → Seats → ℕ → Answer → Option Going → Type 0
Hands s new who answer going = (w : World) (request : Request) (send back : Option ℕ) → Seated w s → phase_of w who ≡ Some (Waiting request send back) → Settles (with_phase w who (Chosen answer back)) s new going

-- the same of one that has a region to lock again
abbrev pub CanChooseBack : Seats → ℕ → ℕ → Type 0
CanChooseBack s who region = (w : World) × (request : Request) × (send : Option ℕ) × Seated w s × (phase_of w who ≡ Some (Waiting request send (Some region)))

abbrev pub ChoosesBack : Seats → Seats → ℕ → ℕ → Copies → Option Going → Type 0
ChoosesBack s new who region copies going = (w : World) (request : Request) (send : Option ℕ) → Seated w s → phase_of w who ≡ Some (Waiting request send (Some region)) → copies ≡ twice copies.noted
    → Settles (with_phase w who (Chosen copies.noted (Some region))) s new going

-- a region is freed
abbrev pub CanRelease : Seats → ℕ → Type 0
CanRelease s region = (w : World) × (who : ℕ) × Seated w s × Occupies w who region

abbrev pub Releases : Seats → Seats → ℕ → Option Going → Type 0
Releases s new region going = (w : World) (who : ℕ) → Seated w s → Occupies w who region → Settles (freed w who region) s new going

-- `who` comes to wait for anything but a region
abbrev pub CanWait : Seats → ℕ → Type 0
CanWait s who = (w : World) × Seated w s × IsActive w who × OwnsLast w who

abbrev pub BeginsToWait : Seats → Seats → ℕ → Option Going → Type 0
BeginsToWait s new who going = (w : World) (request : Request) (send : Option ℕ) → Seated w s → IsActive w who → OwnsLast w who → Settles (waiting w who request send) s new going

-- `who` locks a region that is free, or that it occupies
abbrev pub Locks : Seats → Seats → ℕ → ℕ → Type 0
Locks s new who region = (w : World) → Seated w s → IsActive w who → IsFree w region ⊎ Occupies w who region → NobodyGoes (entered w who region (occupant w region)) s new

-- an instance is started
abbrev pub StartsOne : Seats → Seats → ℕ → Type 0
StartsOne s new process = (w : World) (scalars : List ℤ) → Seated w s → Seated (started w process scalars) new
