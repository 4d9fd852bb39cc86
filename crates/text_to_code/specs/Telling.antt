-- What is told of a text: that it is accepted, or why it is refused.
use Rattle.std.specs.Prelude.{◌≡◌, ◌≢◌, ◌⊎◌, ◌<◌, ◌≤◌, ℕ, List, [], ◌∷◌, Result, IfOk}
use Rattle.std.specs.List.Sorted.{IsStrictlySortedBy}
use Rattle.chill_base.specs.declared.pos.Pos.{Pos}
use Rattle.chill_base.specs.declared.memory.Memory.{Memory}
use Rattle.diagnostics.specs.Order.{diagnostic_cmp}
use Rattle.diagnostics.specs.declared.diagnostic.Diagnostic.{Diagnostic}
use Rattle.diagnostics.specs.declared.rule.Rule.TheVariants as rules
use Rattle.chill_tree.specs.ItemTree.{ProgramTree}
use Rattle.rules_model.specs.TokensCut.{first_place}
use Rattle.rules_model.specs.Diagnoses.{HasTree, Diagnoses, plain}
use Rattle.tree_print.specs.SameProgram.{program_text}
use Rattle.names_model.specs.Resolving.{broken_names, level_of, names_of}
use Rattle.names_model.specs.declared.names.Names.{Names}
use Rattle.text_size.specs.Sizes.{program_size}
use Rattle.checked_program.specs.declared.program.Checked.{Checked}
use Rattle.code_types.specs.declared.code.Code.{Code}
use Rattle.text_to_code.specs.Building.{IsBuiltOf, IsUnbuilt}
use Rattle.checks_model.specs.Ground.{Ground}
use Rattle.checks_model.specs.Diagnoses.{HasNames, BreaksNoRule, BreaksRules, DiagnosesOf}
use Rattle.definition_origins.specs.CheckRules.{AreOfChecks}
use Rattle.text_to_code.specs.declared.grammar.NoTree.{NoTree}
use Rattle.text_to_code.specs.declared.grammar.NoTree.TheVariants as reasons
use Rattle.text_to_code.specs.declared.formatting.Formatted.{Formatted}
use Rattle.text_to_code.specs.declared.formatting.Formatted.TheVariants as forms
use Rattle.text_to_code.specs.declared.told.Told.{Told}
use Rattle.text_to_code.specs.declared.told.Told.TheVariants as tellings

-- the text has a tree that breaks no rule on names
pub record IsResolved (text : List ℕ) : Type 0 where
  pub tree : ProgramTree
  pub has : HasTree text tree
  pub named : broken_names (level_of tree) ≡ []

-- the rules on tokens, grammar and names that a text breaks, as they are told
pub data Breaks : List ℕ → List Diagnostic → Type 0 where
  -- it has no tree, by the first of the rules that it breaks
  broken : {text : List ℕ} {diagnostic : Diagnostic} → Diagnoses text diagnostic → Breaks text (diagnostic ∷ [])
  -- it has a tree, which breaks rules on names: exactly these
  misnamed : {text : List ℕ} {tree : ProgramTree} → HasTree text tree → broken_names (level_of tree) ≢ [] → Breaks text (broken_names (level_of tree))

-- what the checks tell: some, in order and each once, and of their own rules alone
pub record AreInOrder (told : List Diagnostic) : Type 0 where
  pub sorted : IsStrictlySortedBy diagnostic_cmp told
  pub some : told ≢ []
  pub own : AreOfChecks told

-- the text, with this tree, breaks no rule of any phase
pub record BreaksNone (text : List ℕ) (tree : ProgramTree) : Type 0 where
  pub ground : Ground
  pub none : BreaksNoRule text tree ground

-- The text has such a tree, which breaks no rule of any phase and whose size isn't above 65,536, and these are a program in range
-- and its code. That the program is the tree's isn't said.
pub record HasCode (text : List ℕ) (program : Checked) (code : Code) : Type 0 where
  pub resolved : IsResolved text
  pub sound : BreaksNone text resolved.tree
  pub small : program_size resolved.tree ≤ 65536
  pub built : IsBuiltOf resolved.tree program code

-- What may be told of a tree that breaks no rule on names.
pub data MayTell (text : List ℕ) (tree : ProgramTree) : List Diagnostic → Type 0 where
  -- of the rules on modes and constants, on statements, and on processes, exactly the list of the first phase that has any
  by_checks : {told : List Diagnostic} → AreInOrder told → BreaksRules text tree told → MayTell text tree told
  -- it breaks none of them, and is too large
  by_size : BreaksNone text tree → 65536 < program_size tree → MayTell text tree (plain first_place rules.L8 ∷ [])
  -- it breaks none of them, isn't too large, and isn't built; with the cause of that
  by_building : BreaksNone text tree → program_size tree ≤ 65536 → IsUnbuilt tree → MayTell text tree (plain first_place rules.B1 ∷ [])

-- the diagnostics of a text that is refused
pub data Refuses : List ℕ → List Diagnostic → Type 0 where
  breaks : {text : List ℕ} {told : List Diagnostic} → Breaks text told → Refuses text told
  later : {text : List ℕ} {told : List Diagnostic} → (resolved : IsResolved text) → MayTell text resolved.tree told → Refuses text told

-- the two are one, or both tell that no tree exists, whose place is free
abbrev pub SameButForPlace : List Diagnostic → List Diagnostic → Type 0
SameButForPlace told other = (told ≡ other) ⊎ (((at : Pos) × (told ≡ plain at rules.T2 ∷ [])) × ((at : Pos) × (other ≡ plain at rules.T2 ∷ [])))

-- what the code tells of a text
abbrev pub Tells : List ℕ → Told → Type 0
Tells text (tellings.Refused told) = Refuses text told
Tells text (tellings.Accepted built) = HasCode text built.value.program.checked.value built.value.code

-- what a call tells of each text of which this is known, where there is memory for it
abbrev pub TellsWhere : (List ℕ → Type 0) → Result Told Memory → Type 0
TellsWhere is_known result = (text : List ℕ) → is_known text → IfOk result (λ told. Tells text told)

-- its tree breaks no rule on names, and these are the tree's names
pub record HasNamesOf (tree : ProgramTree) (names : Names) (text : List ℕ) : Type 0 where
  pub has : HasNames text tree
  pub are : names ≡ names_of (level_of tree)

-- By the one definition of what is told of a text: a text is refused with just that, and where it is nothing the text isn't refused
-- but for a fault of this compiler, which then gives no code for it.
pub data RefusesExactly (text : List ℕ) : List Diagnostic → Type 0 where
  diagnosed : {told : List Diagnostic} → DiagnosesOf text told → told ≢ [] → RefusesExactly text told
  not_built : DiagnosesOf text [] → RefusesExactly text (plain first_place rules.B1 ∷ [])

abbrev pub TellsExactly : List ℕ → Told → Type 0
TellsExactly text (tellings.Refused told) = RefusesExactly text told
TellsExactly text (tellings.Accepted built) = DiagnosesOf text []

-- why a text has no tree, where it is for a rule: the first that it breaks
abbrev pub IsNoTree : List ℕ → NoTree → Type 0
IsNoTree text (reasons.Breaks told) = Diagnoses text told
IsNoTree text reasons.Memory = Unit {0}

-- the rules on tokens and grammar alone refuse a text
pub record IsUnread (text : List ℕ) (told : List Diagnostic) : Type 0 where
  pub diagnostic : Diagnostic
  pub diagnoses : Diagnoses text diagnostic
  pub only : told ≡ diagnostic ∷ []

-- the canonical text of a text that has a tree: that of the tree
pub record IsCanonicalOf (text canonical : List ℕ) : Type 0 where
  pub tree : ProgramTree
  pub has : HasTree text tree
  pub written : canonical ≡ program_text tree

-- what `format` tells of a text
abbrev pub Formats : List ℕ → Formatted → Type 0
Formats text (forms.Refused told) = IsUnread text told
Formats text (forms.Canonical canonical) = IsCanonicalOf text canonical
