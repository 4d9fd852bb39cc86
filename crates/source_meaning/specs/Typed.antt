-- What is owed of an elaborated program: its heads are those of a text, and what it says is what its modes say.
use Rattle.std.specs.Prelude.{◌≡◌, ℕ, suc, ◌+◌, ◌≤◌, ◌<◌, Bool, false, List, [], ◌∷◌, Option, Some, None, slice_get, length, All, IfSome}
use Rattle.modes.specs.ModeTree.{ModeTree}
use Rattle.modes.specs.Scalars.{scalars_of}
use Rattle.modes.specs.Language.{IsOfLanguage}
use Rattle.layout_map.specs.Spots.{spots_of}
use Rattle.layout_map.specs.Outcome.{outcome_of, spots}
use Rattle.checked_program.specs.declared.program.Sort.{Sort}
use Rattle.checked_program.specs.declared.program.Sort.TheVariants.{Outermost, Process, Procedure}
use Rattle.checked_program.specs.declared.program.Passing.TheVariants.{In}
use Rattle.checked_program.specs.declared.program.Parameter.{Parameter}
use Rattle.program_trees.specs.ProgramTree.{LocationRowTree, BufferRowTree, SignalRowTree, LocalRowTree, BodyRowTree, CheckedTree}
use Rattle.source_meaning.specs.TypedValues.{Context}
use Rattle.source_meaning.specs.TypedStatements.{Around, AreTyped, IsTypedHandler}

-- each local has as many scalars as its mode, and they follow each other from this number on
abbrev pub AreLaidFrom : ℕ → List LocalRowTree → Type 0
AreLaidFrom first [] = Unit {0}
AreLaidFrom first (row ∷ rows) = (row.first ≡ first) × (row.count ≡ scalars_of row.mode) × IsOfLanguage row.mode × AreLaidFrom (first + row.count) rows

-- no region
abbrev pub StandsAlone : BodyRowTree → Type 0
StandsAlone b = (b.region ≡ None) × (b.critical ≡ false)

-- no result, and values alone are passed in
pub record HasProcessHead (b : BodyRowTree) : Type 0 where
  pub alone : StandsAlone b
  pub result : b.result ≡ None
  pub listed : b.listed ≡ []
  pub passed : All (λ q. q.passing ≡ In) b.parameters

abbrev pub RegionIsThere : Bool → Option ℕ → ℕ → Type 0
RegionIsThere critical None regions = critical ≡ false
RegionIsThere critical (Some r) regions = r < regions

-- the head of a body, by what it is of; the outermost process is number 0 and no other
abbrev pub HasHead : CheckedTree → ℕ → BodyRowTree → Sort → Type 0
HasHead p k b Outermost = (k ≡ 0) × HasProcessHead b × (b.parameters ≡ [])
HasHead p k b Process = ((n : ℕ) × (k ≡ suc n)) × HasProcessHead b
HasHead p k b Procedure = ((n : ℕ) × (k ≡ suc n)) × RegionIsThere b.critical b.region p.regions

abbrev pub around_body : CheckedTree → BodyRowTree → Around
around_body p b = record { context = record { program = p; rows = b.locals; region = b.region }; sort = b.sort; result = b.result; labels = 0 }

-- a body: its head, its locals, of which the parameters are the first, its statements and its handler
pub record IsTypedBody (p : CheckedTree) (k : ℕ) (b : BodyRowTree) : Type 0 where
  pub head : HasHead p k b b.sort
  pub result : IfSome b.result IsOfLanguage
  pub locals : AreLaidFrom 0 b.locals
  pub parameters : length b.parameters ≤ length b.locals
  pub statements : AreTyped (around_body p b) b.statements
  pub handler : IsTypedHandler (around_body p b) b.handler

-- a signal is for a process
abbrev pub IsForProcess : CheckedTree → ℕ → Type 0
IsForProcess p k = (b : BodyRowTree) × (slice_get p.bodies k ≡ Some b) × (b.sort ≡ Process)

-- What `elaborated` owes of each program that it gives: there is an outermost process, each body is as its head, its modes
-- and its numbers say, all modes are those that a text can give, and the places that those of shared locations have are possible
-- and share no bit.
pub record IsTyped (p : CheckedTree) : Type 0 where
  pub outermost : (b : BodyRowTree) × (slice_get p.bodies 0 ≡ Some b) × (b.sort ≡ Outermost)
  pub bodies : (k : ℕ) (b : BodyRowTree) → slice_get p.bodies k ≡ Some b → IsTypedBody p k b
  pub locations : All (λ row. IsOfLanguage row.mode × IfSome row.region (λ r. r < p.regions)) p.locations
  pub layouts : All (λ row. outcome_of row.mode ≡ spots (spots_of row.mode)) p.locations
  pub buffers : All (λ row. IsOfLanguage row.element) p.buffers
  pub signals : All (λ row. All IsOfLanguage row.parts × IfSome row.process (IsForProcess p)) p.signals
