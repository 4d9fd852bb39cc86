-- The law of the heads and rows of an elaborated program.
use Rattle.std.specs.Prelude.{◌≡◌, ◌<◌, ◌≤◌, ℕ, List, length, Some, IfSome, slice_get, All}
use Rattle.chill_tree.specs.ItemTree.{ProgramTree}
use Rattle.modes.specs.Language.{IsOfLanguage}
use Rattle.checked_program.specs.declared.program.Sort.TheVariants.{Outermost}
use Rattle.program_trees.specs.ProgramTree.{BodyRowTree, CheckedTree}
use Rattle.checks_model.specs.Ground.{Ground}
use Rattle.checks_model.specs.Diagnoses.{BreaksNoRule}
use Rattle.elaboration_model.specs.Elaborated.{elaborated}
use Rattle.source_meaning.specs.Typed.{HasHead, AreLaidFrom, IsForProcess}

-- a body of a number: its head, its result, its locals and its parameters
pub record HasTypedHead (p : CheckedTree) (k : ℕ) (b : BodyRowTree) : Type 0 where
  pub head : HasHead p k b b.sort
  pub result : IfSome b.result IsOfLanguage
  pub locals : AreLaidFrom 0 b.locals
  pub parameters : length b.parameters ≤ length b.locals

-- what a typed program says of its rows, statements and layouts aside
pub record HasTypedHeads (p : CheckedTree) : Type 0 where
  pub outermost : (b : BodyRowTree) × (slice_get p.bodies 0 ≡ Some b) × (b.sort ≡ Outermost)
  pub bodies : (k : ℕ) (b : BodyRowTree) → slice_get p.bodies k ≡ Some b → HasTypedHead p k b
  pub locations : All (λ row. IsOfLanguage row.mode × IfSome row.region (λ r. r < p.regions)) p.locations
  pub buffers : All (λ row. IsOfLanguage row.element) p.buffers
  pub signals : All (λ row. All IsOfLanguage row.parts × IfSome row.process (IsForProcess p)) p.signals

-- The elaborated program of a text that breaks no rule has such heads and rows.
abbrev pub HeadsLaw : Type 0
HeadsLaw = (text : List ℕ) (t : ProgramTree) (g : Ground) (p : CheckedTree) → BreaksNoRule text t g → elaborated g t ≡ Some p → HasTypedHeads p
