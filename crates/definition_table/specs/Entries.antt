-- What an entry keeps of what the table has of a definition.
use Rattle.std.specs.Prelude.{◌≡◌, ℕ, true, List, [], ◌∷◌, Option, Some, None, option_map, slice_get, IsTrue, ℤ}
use Rattle.modes.specs.ModeTree.{ModeTree, ClassTree, class_tree, value}
use Rattle.checks_model.specs.Ground.{Ground, Origin}
use Rattle.checks_model.specs.Classes.{class_of, class_of_origin}
use Rattle.checks_model.specs.Constants.{is_constant_origin, constant_of, value_of_name}
use Rattle.checks_model.specs.ConstantRules.{told_needed}
use Rattle.checks_model.specs.WrittenModes.{unless_told}
use Rattle.chill_tree.specs.ExprTree.{ExprTree}
use Rattle.checks_model.specs.ValueTrees.{ValueTree, scalars_in}
use Rattle.constant_values.specs.Fits.{fit_together}
use Rattle.constant_rules.specs.Walks.{synonym_value}
use Rattle.checks_model.specs.Table.{of_mode_alone, entry_by}
use Rattle.constant_operators.specs.declared.evaluation.Entry.{Entry}
use Rattle.constant_operators.specs.Grounds.{entry_tree, IsKept, is_measured_origin, HasLaidMode}
use Rattle.laid_laws.specs.Few.{HasFewScalars}

-- The scalars of a constant are those of its value, and a mode that can be measured is one whose scalars have places, and not
-- too many.
pub record IsSafe (o : Origin) (x : Entry) : Type 0 where
  pub constant : is_constant_origin (Some o) ≡ true → IsKept (class_of_origin (Some (entry_tree x)) (Some o)) (value_of_name (Some (entry_tree x)) (Some o)) x
  pub laid : is_measured_origin (Some o) ≡ true → HasLaidMode (Some (entry_tree x))
  pub few : is_measured_origin (Some o) ≡ true → HasFewScalars (Some (entry_tree x))

-- this is what the table has of what is defined so
pub record IsEntryOf (g : Ground) (o : Origin) (x : Entry) : Type 0 where
  pub known : entry_tree x ≡ entry_by g o
  pub safe : IsSafe o x

-- those at the same numbers, as far as both go
abbrev pub AreSafe : List Origin → List Entry → Type 0
AreSafe os xs = (d : ℕ) (o : Origin) (x : Entry) → slice_get os d ≡ Some o → slice_get xs d ≡ Some x → IsSafe o x

-- ---- entries by their parts

-- a constant of a class, of one number
pub record IsConstant (c : Option ClassTree) (n : ℤ) (x : Entry) : Type 0 where
  pub mode : x.mode ≡ None
  pub class : option_map class_tree x.class ≡ c
  pub value : x.value ≡ Some (n ∷ [])
  pub parts : x.parts ≡ []

-- nothing but the mode is known
pub record IsModeAlone (m : Option ModeTree) (x : Entry) : Type 0 where
  pub tree : entry_tree x ≡ of_mode_alone m
  pub class : x.class ≡ None
  pub value : x.value ≡ None

-- the same is known but the modes of a signal's parts, which this has not
pub record IsSameBut (y x : Entry) : Type 0 where
  pub mode : (entry_tree x).mode ≡ (entry_tree y).mode
  pub class : option_map class_tree x.class ≡ option_map class_tree y.class
  pub value : x.value ≡ y.value
  pub parts : x.parts ≡ []

-- ---- synonyms

-- a constant, or what may be one: of a mode, a class and a value that fit each other
pub record IsOfValue (m : Option ModeTree) (c : Option ClassTree) (v : Option ValueTree) (x : Entry) : Type 0 where
  pub mode : (entry_tree x).mode ≡ m
  pub class : option_map class_tree x.class ≡ c
  pub value : x.value ≡ option_map scalars_in v
  pub fits : IsTrue (fit_together c v)
  pub parts : x.parts ≡ []

-- a synonym of an expression without a written mode
abbrev pub IsPlainSynonym : Ground → ExprTree → Entry → Type 0
IsPlainSynonym g e x = IsOfValue None (unless_told (told_needed g e) (class_of g e)) (unless_told (told_needed g e) (constant_of g e)) x

-- a synonym of an expression with a written mode, which may be unknown
abbrev pub IsSynonymOf : Ground → Option ModeTree → ExprTree → Entry → Type 0
IsSynonymOf g m e x = IsOfValue m (option_map value m) (synonym_value g m e) x
