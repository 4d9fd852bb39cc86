-- What a text with a tree writes: its text literals are short, names stand before parts, its structures have a field, and its SETs are
-- small and defined.
use Rattle.std.specs.Prelude.{◌≡◌, ℕ, Bool, true, false, List, [], ◌∷◌, ◌++◌}
use Rattle.chill_tree.specs.declared.tree.name.Name.{Name}
use Rattle.chill_tree.specs.ExprTree.{ExprTree, ExprNodes, RangeTree, RangeNodes, whole, character, text, this_instance, paren, receive, start, tuple, uniform, name, apply, field, prefixed, binary, no_exprs, more_exprs, alone, between, no_ranges, more_ranges}
use Rattle.chill_tree.specs.ItemTree.{ProgramTree}
use Rattle.rules_model.specs.Diagnoses.{HasTree}
use Rattle.checks_model.specs.Sites.{Site, at_item, at_synonym, at_mode_definition, at_declaration, at_mode, at_simple, at_condition, at_selector, at_labels, at_control, at_set, at_priority, at_event, at_source, at_received, at_exceptions, at_body, at_program, sites}
use Rattle.checks_model.specs.Phases.{some_expr, exprs_of_simple, priority_of, exprs_of_control, exprs_of_labels, initial_expr}
use Rattle.checks_model.specs.Ground.{Ground}
use Rattle.checks_model.specs.Table.{ground_with}
use Rattle.checks_model.specs.Diagnoses.{HasNames}
use Rattle.elaborated_laws.specs.Classes.{HasShortTexts}
use Rattle.elaborated_laws.specs.Entries.{AllWrittenSo}
use Rattle.elaborated_laws.specs.Table.{AreDefined}

-- each of a list
abbrev pub Each : {A : Type 0} → (A → Type 0) → List A → Type 0
Each P [] = Unit {0}
Each P (x ∷ xs) = P x × Each P xs

-- the expressions at a node, those in modes aside
abbrev pub exprs_at : Site → List ExprTree
exprs_at (at_synonym s) = s.value ∷ []
exprs_at (at_declaration shared d) = some_expr (initial_expr d.initial)
exprs_at (at_simple a s) = exprs_of_simple s ++ some_expr (priority_of s)
exprs_at (at_condition e) = e ∷ []
exprs_at (at_selector e) = e ∷ []
exprs_at (at_labels e ls) = exprs_of_labels ls
exprs_at (at_control c) = exprs_of_control c
exprs_at (at_set e) = e ∷ []
exprs_at (at_priority e) = e ∷ []
exprs_at (at_item kind all i) = []
exprs_at (at_mode_definition d) = []
exprs_at (at_mode m) = []
exprs_at (at_event earlier n) = []
exprs_at (at_source earlier n) = []
exprs_at (at_received n names) = []
exprs_at (at_exceptions earlier ns) = []
exprs_at (at_body n locals) = []
exprs_at (at_program shared) = []

-- the text literals in them have at most 256 bytes
abbrev pub HasShortExprs : Site → Type 0
HasShortExprs s = Each HasShortTexts (exprs_at s)

-- a name, or a name with fields and brackets behind it
abbrev pub is_name_with_parts : ExprTree → Bool
is_name_with_parts (name n) = true
is_name_with_parts (apply at e es) = is_name_with_parts e
is_name_with_parts (field at e n) = is_name_with_parts e
is_name_with_parts _ = false

abbrev mutual
  -- what stands before a field and before brackets is a name with parts
  pub HasNamed : ExprTree → Type 0
  HasNamed (whole at n) = Unit {0}
  HasNamed (character at n) = Unit {0}
  HasNamed (text at bytes) = Unit {0}
  HasNamed (this_instance at) = Unit {0}
  HasNamed (paren at e) = HasNamed e
  HasNamed (receive at n) = Unit {0}
  HasNamed (start at n es) = HaveNamed es
  HasNamed (tuple at m b rs) = RangesHaveNamed rs
  HasNamed (uniform at m b e) = HasNamed e
  HasNamed (name n) = Unit {0}
  HasNamed (apply at e es) = (is_name_with_parts e ≡ true) × (HasNamed e × HaveNamed es)
  HasNamed (field at e n) = (is_name_with_parts e ≡ true) × HasNamed e
  HasNamed (prefixed at o e) = HasNamed e
  HasNamed (binary at l o p r) = HasNamed l × HasNamed r

  pub HaveNamed : ExprNodes → Type 0
  HaveNamed no_exprs = Unit {0}
  HaveNamed (more_exprs e es) = HasNamed e × HaveNamed es

  pub RangeHasNamed : RangeTree → Type 0
  RangeHasNamed (alone e) = HasNamed e
  RangeHasNamed (between l h) = HasNamed l × HasNamed h

  pub RangesHaveNamed : RangeNodes → Type 0
  RangesHaveNamed no_ranges = Unit {0}
  RangesHaveNamed (more_ranges r rs) = RangeHasNamed r × RangesHaveNamed rs

abbrev pub HasNamedExprs : Site → Type 0
HasNamedExprs s = Each HasNamed (exprs_at s)

-- some name is there
abbrev pub is_some_name : List Name → Bool
is_some_name [] = false
is_some_name (n ∷ ns) = true

-- a declaration declares some name
abbrev pub DeclaresSome : Site → Type 0
DeclaresSome (at_declaration shared d) = is_some_name d.names ≡ true
DeclaresSome s = Unit {0}

-- Each node of a text has short text literals.
abbrev pub ShortTextsLaw : Type 0
ShortTextsLaw = (text : List ℕ) (t : ProgramTree) → HasTree text t → Each HasShortExprs (sites t)

-- In each node of a text what stands before a field and before brackets is a name with parts.
abbrev pub PathsLaw : Type 0
PathsLaw = (text : List ℕ) (t : ProgramTree) → HasTree text t → Each HasNamedExprs (sites t)

-- Each declaration of a text has a name.
abbrev pub DeclarationsLaw : Type 0
DeclarationsLaw = (text : List ℕ) (t : ProgramTree) → HasTree text t → Each DeclaresSome (sites t)

-- What defines something in a text is written as the grammar, the tokens and the number of definitions allow it, and the elements of its
-- SETs are defined, where no rule on names is broken.
abbrev pub WrittenSoLaw : Type 0
WrittenSoLaw = (text : List ℕ) (t : ProgramTree) (g : Ground) → HasNames text t → g ≡ ground_with t g.entries → AllWrittenSo g

abbrev pub DefinedSoLaw : Type 0
DefinedSoLaw = (text : List ℕ) (t : ProgramTree) (g : Ground) → HasNames text t → g ≡ ground_with t g.entries → AreDefined g
