-- What is told of a text: the first that applies of what is told of a text without a tree, of the lists of the phases of
-- its tree, and of its size.
use Rattle.std.specs.Prelude.{◌≡◌, ◌<◌, ◌≤◌, ℕ, List, [], ◌∷◌}
use Rattle.chill_tree.specs.ItemTree.{ProgramTree}
use Rattle.diagnostics.specs.declared.diagnostic.Diagnostic.{Diagnostic}
use Rattle.diagnostics.specs.declared.rule.Rule.TheVariants as rules
use Rattle.rules_model.specs.Diagnoses.{Diagnoses, HasTree, plain}
use Rattle.rules_model.specs.TokensCut.{first_place}
use Rattle.text_size.specs.Sizes.{program_size}
use Rattle.names_model.specs.Resolving.{broken_names, level_of}
use Rattle.checks_model.specs.Ground.{Ground}
use Rattle.checks_model.specs.Table.{IsGroundOf, IsStatementGroundOf}
use Rattle.checks_model.specs.Phases.{broken_modes, broken_statements, broken_processes}

-- the text has this tree, which breaks no rule on names
pub record HasNames (text : List ℕ) (tree : ProgramTree) : Type 0 where
  pub has_tree : HasTree text tree
  pub names : broken_names (level_of tree) ≡ []

-- its ground is this, and it breaks no rule on modes and constants
pub record HasModes (text : List ℕ) (tree : ProgramTree) (g : Ground) : Type 0 where
  pub has_names : HasNames text tree
  pub is_ground : IsGroundOf tree g
  pub modes : broken_modes g tree ≡ []

-- with its counters the ground is this, and the text breaks no rule of any phase
pub record BreaksNoRule (text : List ℕ) (tree : ProgramTree) (g : Ground) : Type 0 where
  pub plain_ground : Ground
  pub has_modes : HasModes text tree plain_ground
  pub is_ground : IsStatementGroundOf tree g
  pub statements : broken_statements g tree ≡ []
  pub processes : broken_processes g tree ≡ []

-- the list is that of the first phase that has any
pub data BreaksRules (text : List ℕ) (tree : ProgramTree) : List Diagnostic → Type 0 where
  on_names : {d : Diagnostic} {ds : List Diagnostic} → HasTree text tree → broken_names (level_of tree) ≡ d ∷ ds → BreaksRules text tree (d ∷ ds)
  on_modes : {d : Diagnostic} {ds : List Diagnostic} {g : Ground} → HasNames text tree → IsGroundOf tree g → broken_modes g tree ≡ d ∷ ds → BreaksRules text tree (d ∷ ds)
  on_statements : {d : Diagnostic} {ds : List Diagnostic} {g h : Ground} → HasModes text tree g → IsStatementGroundOf tree h → broken_statements h tree ≡ d ∷ ds → BreaksRules text tree (d ∷ ds)
  on_processes : {d : Diagnostic} {ds : List Diagnostic} {g h : Ground} → HasModes text tree g → IsStatementGroundOf tree h → broken_statements h tree ≡ [] → broken_processes h tree ≡ d ∷ ds
      → BreaksRules text tree (d ∷ ds)

-- what is told of a text; nothing of one that is accepted
pub data DiagnosesOf (text : List ℕ) : List Diagnostic → Type 0 where
  no_tree : {d : Diagnostic} → Diagnoses text d → DiagnosesOf text (d ∷ [])
  breaks_rules : {tree : ProgramTree} {ds : List Diagnostic} → BreaksRules text tree ds → DiagnosesOf text ds
  too_large : {tree : ProgramTree} {g : Ground} → BreaksNoRule text tree g → 65536 < program_size tree → DiagnosesOf text (plain first_place rules.L8 ∷ [])
  accepted : {tree : ProgramTree} {g : Ground} → BreaksNoRule text tree g → program_size tree ≤ 65536 → DiagnosesOf text []
