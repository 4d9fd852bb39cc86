-- The ground of an evaluation: what each name stands for, what each definition is defined by, and what is known of it; and when
-- an evaluation keeps just that.
use Rattle.std.specs.Prelude.{◌≡◌, ℕ, Bool, true, false, List, [], map, replicate, slice_get, length, Option, Some, None, option_map, option_and_then, IsTrue}
use Rattle.chill_base.specs.declared.pos.Pos.{Pos}
use Rattle.chill_tree.specs.ExprTree.{ExprTree, name}
use Rattle.chill_tree.specs.ItemTree.{ProgramTree}
use Rattle.modes.specs.ModeTree.{ModeTree, ClassTree, mode_tree, class_tree}
use Rattle.names_model.specs.declared.names.Names.{Names}
use Rattle.names_laws.specs.Rising.{Rise, use_places}
use Rattle.checks_model.specs.ValueTrees.{ValueTree, scalars_in}
use Rattle.checks_model.specs.Ground as model
use Rattle.checks_model.specs.Ground.{Ground, Origin, Predefined, a_mode, a_location, a_parameter, a_predefined, of_mode, number_at, origin_of}
use Rattle.checks_model.specs.Origins.{origins_of}
use Rattle.checks_model.specs.Table.{numbered}
use Rattle.checks_model.specs.Classes.{class_of_origin}
use Rattle.checks_model.specs.Constants.{is_constant_origin, value_of_name}
use Rattle.definition_origins.specs.OriginTrees.{origin_trees}
use Rattle.definition_origins.specs.Uses.{text_of}
use Rattle.constant_values.specs.Fits.{fit_together}
use Rattle.constant_operators.specs.Laid.{is_laid}
use Rattle.constant_operators.specs.Plain.{IsPlain}
use Rattle.constant_operators.specs.Values.{value_known}
use Rattle.constant_operators.specs.declared.evaluation.Entry.{Entry}
use Rattle.constant_operators.specs.declared.evaluation.Evaluation.{Evaluation}

-- ---- the ground

-- what is known of a definition, with the value that its scalars are of
abbrev pub entry_tree : Entry → model.Entry
entry_tree e = record {
  mode = option_map (λ m. mode_tree m.value) e.mode;
  class = option_map class_tree e.class;
  value = value_known (option_map class_tree e.class) e.value;
  parts = map (option_map (λ m. mode_tree m.value)) e.parts;
}

unfoldable pub ground_of : Evaluation → Ground
ground_of e = record {
  uses = e.names.now.uses;
  defined = e.defined;
  origins = origin_trees e.origins;
  entries = map entry_tree e.entries.items;
}

-- ---- where nothing is known yet

abbrev pub unknown_entry : Entry
unknown_entry = record { mode = None; class = None; value = None; parts = [] }

-- An evaluation of a text has what the text's names stand for and what its definitions are defined by, and nothing is known of
-- any definition.
pub record IsUnknown (t : ProgramTree) (ns : Names) (e : Evaluation) : Type 0 where
  pub names : e.names.now ≡ ns
  pub defined : e.defined ≡ numbered 0 (text_of ns.definitions)
  pub origins : origin_trees e.origins ≡ origins_of t
  pub entries : e.entries.items ≡ replicate (length e.origins) unknown_entry
  pub plain : IsPlain e.plain

-- ---- definitions by their numbers

-- what is known of what the name used at a place stands for
abbrev pub entry_at : Ground → Pos → Option model.Entry
entry_at g at = option_and_then (slice_get g.entries) (number_at g.uses at)

-- the class and the value of what the name of a definition stands for
abbrev pub class_defined : Ground → ℕ → Option ClassTree
class_defined g d = class_of_origin (slice_get g.entries d) (slice_get g.origins d)

abbrev pub value_defined : Ground → ℕ → Option ValueTree
value_defined g d = value_of_name (slice_get g.entries d) (slice_get g.origins d)

-- the mode that a predefined name stands for
abbrev pub mode_of_predefined : Predefined → Option ModeTree
mode_of_predefined (of_mode m) = Some m
mode_of_predefined _ = None

-- the predefined name that an expression is
abbrev pub predefined_of : Option Origin → Option Predefined
predefined_of (Some (a_predefined p)) = Some p
predefined_of _ = None

abbrev pub predefined_named : Ground → ExprTree → Option Predefined
predefined_named g (name n) = predefined_of (origin_of g n)
predefined_named g _ = None

-- ---- what an evaluation keeps

-- a definition's class and scalars are those of a class and a value that fit each other
pub record IsKept (c : Option ClassTree) (v : Option ValueTree) (e : Entry) : Type 0 where
  pub class : option_map class_tree e.class ≡ c
  pub value : e.value ≡ option_map scalars_in v
  pub fits : IsTrue (fit_together c v)

abbrev pub IsKeptAt : Option ClassTree → Option ValueTree → Option Entry → Type 0
IsKeptAt c v None = ⊥
IsKeptAt c v (Some e) = IsKept c v e

-- whether UPPER, LOWER and SIZE may measure what is defined so
abbrev pub is_measured_origin : Option Origin → Bool
is_measured_origin (Some (a_mode novel m)) = true
is_measured_origin (Some (a_location d)) = true
is_measured_origin (Some (a_parameter m)) = true
is_measured_origin _ = false

abbrev pub HasLaidMode : Option model.Entry → Type 0
HasLaidMode None = Unit {0}
HasLaidMode (Some e) = (m : ModeTree) → e.mode ≡ Some m → IsTrue (is_laid m)

-- An evaluation keeps its ground: places can be looked up, each definition has its entry, the scalars of each constant are
-- those of its value, and each mode that can be measured is one whose scalars have places. Of a synonym that isn't evaluated
-- yet nothing is known; elements and predefined names need nothing, and are known first.
pub record HasGround (e : Evaluation) : Type 0 where
  pub uses : Rise (use_places e.names.now.uses)
  pub defined : Rise (use_places e.defined)
  pub entries : length e.entries.items ≡ length e.origins
  pub plain : IsPlain e.plain
  pub constants : (d : ℕ) → is_constant_origin (slice_get (ground_of e).origins d) ≡ true → IsKeptAt (class_defined (ground_of e) d) (value_defined (ground_of e) d) (slice_get e.entries.items d)
  pub modes : (d : ℕ) → is_measured_origin (slice_get (ground_of e).origins d) ≡ true → HasLaidMode (slice_get (ground_of e).entries d)
