-- The facts of a program with an input and a budget: what a run of it starts from.
use Rattle.std.specs.Prelude.{◌≡◌, ℕ, suc, ◌+◌, List, [], ◌∷◌, ◌++◌, map}
use Rattle.kernel_base.specs.declared.facts.Facts.{Facts}
use Rattle.kernel_base.specs.declared.value.ScalarKind.{ScalarKind}
use Rattle.kernel_base.specs.declared.value.ScalarKind.TheVariants.{Plain, Powerset}
use Rattle.kernel_base.specs.Value.{scalars_of, kinds_of, powersets_of}
use Rattle.modes.specs.ModeTree.{ModeTree, int, boolean, char, instance, set_of, range, powerset, chars, array, structure, event, buffer, read, named, FieldNodes, no_fields, more_fields}
use Rattle.modes.specs.Bounds.{values_of}
use Rattle.modes.specs.Scalars.{repeated, lowest_of}
use Rattle.layout_map.specs.Spots.{spots_of}
use Rattle.checked_program.specs.declared.program.EventRow.{EventRow}
use Rattle.checked_program.specs.declared.program.Sort.{Sort}
use Rattle.checked_program.specs.declared.program.Sort.TheVariants.{Outermost, Process, Procedure}
use Rattle.program_trees.specs.ProgramTree.{LocationRowTree, BufferRowTree, SignalRowTree, BodyRowTree, CheckedTree}
use Rattle.source_meaning.specs.Values.{Domain, within, any_instance, members_from, domains_of}

-- what a scalar is, by what it may be
abbrev pub kind_of : Domain → ScalarKind
kind_of (within b) = Plain
kind_of any_instance = Plain
kind_of (members_from size first) = Powerset size first

abbrev mutual
  -- The powersets in the lowest value of a mode: how many values the member mode has, and the offsets of the members, of which
  -- there is none.
  pub lowest_powersets_of : ModeTree → List (ℕ × List ℕ)
  lowest_powersets_of int = []
  lowest_powersets_of boolean = []
  lowest_powersets_of char = []
  lowest_powersets_of instance = []
  lowest_powersets_of (set_of d n) = []
  lowest_powersets_of (range p l h) = []
  lowest_powersets_of (powerset m) = (values_of m, []) ∷ []
  lowest_powersets_of (chars n) = []
  lowest_powersets_of (array i e how) = repeated (values_of i) (lowest_powersets_of e)
  lowest_powersets_of (structure fs p) = lowest_powersets_of_fields fs
  lowest_powersets_of (event l) = []
  lowest_powersets_of (buffer l e) = []
  lowest_powersets_of (read m) = lowest_powersets_of m
  lowest_powersets_of (named d n m) = lowest_powersets_of m

  pub lowest_powersets_of_fields : FieldNodes → List (ℕ × List ℕ)
  lowest_powersets_of_fields no_fields = []
  lowest_powersets_of_fields (more_fields name m at fs) = lowest_powersets_of m ++ lowest_powersets_of_fields fs

-- the number behind that of the last process: bodies from this number on, behind a process or none
abbrev pub behind_body : Sort → ℕ → ℕ → ℕ
behind_body Outermost k behind = suc k
behind_body Process k behind = suc k
behind_body Procedure k behind = behind

abbrev pub processes_from : ℕ → ℕ → List BodyRowTree → ℕ
processes_from k behind [] = behind
processes_from k behind (b ∷ bs) = processes_from (suc k) (behind_body b.sort k behind) bs

-- The value of each shared location is the lowest of its mode, as runs see values: their scalars, what each of these is, and
-- their powersets.
pub record AreLowest (p : CheckedTree) (facts : Facts) : Type 0 where
  pub scalars : map scalars_of facts.store ≡ map (λ row. lowest_of row.mode) p.locations
  pub kinds : map kinds_of facts.store ≡ map (λ row. map kind_of (domains_of row.mode)) p.locations
  pub powersets : map powersets_of facts.store ≡ map (λ row. lowest_powersets_of row.mode) p.locations

-- The facts are those of the program with this input and this budget. A process has the number of its body.
pub record AreFactsOf (p : CheckedTree) (input : List ℕ) (units : ℕ) (facts : Facts) : Type 0 where
  pub store : AreLowest p facts
  pub layouts : facts.layouts ≡ map (λ row. spots_of row.mode) p.locations
  pub regions : facts.regions ≡ p.regions
  pub events : facts.events ≡ map (λ row. row.length) p.events
  pub buffers : facts.buffers ≡ map (λ row. row.length) p.buffers
  pub processes : facts.processes ≡ processes_from 0 0 p.bodies
  pub signals : facts.signals ≡ map (λ row. row.process) p.signals
  pub given_input : facts.input ≡ input
  pub given_units : facts.units ≡ units
