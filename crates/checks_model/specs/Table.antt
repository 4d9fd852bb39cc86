-- What is known of definitions: the one table that its own equation gives. A definition is asked of the table again, so the
-- equation says what each entry is by the entries of the definitions that it uses; where no definition depends on itself
-- there is exactly one such table.
use Rattle.std.specs.Prelude.{◌≡◌, ℕ, suc, ◌==◌, Bool, true, false, if◌then◌else◌, List, [], ◌∷◌, map, length, Option, Some, None, is_some, option_map, option_and_then, slice_get, pos}
use Rattle.chill_tree.specs.declared.tree.name.Name.{Name}
use Rattle.chill_tree.specs.ExprTree.{ExprTree}
use Rattle.chill_tree.specs.ModeTree as written
use Rattle.chill_tree.specs.LocalTree.{SynonymTree}
use Rattle.modes.specs.ModeTree.{ModeTree, ClassTree, value, derived, null, set_of, named, boolean}
use Rattle.diagnostics.specs.declared.diagnostic.Diagnostic.{Diagnostic}
use Rattle.names_model.specs.Definitions.{text_definitions}
use Rattle.names_model.specs.declared.definition.Definition.{Definition}
use Rattle.names_model.specs.declared.names.Resolved.{Resolved}
use Rattle.names_model.specs.Resolving.{names_of, level_of}
use Rattle.chill_tree.specs.ItemTree.{ProgramTree}
use Rattle.checks_model.specs.ValueTrees.{ValueTree, number}
use Rattle.checks_model.specs.OperatorValues.{truth_value}
use Rattle.checks_model.specs.Ground.{Ground, Origin, Entry, Predefined, of_mode, truth, no_instance, a_synonym, a_mode, an_element, a_location, a_parameter, a_counter, a_received, a_procedure, a_process, a_signal, a_modulion, a_predefined, number_at, message_parts}
use Rattle.checks_model.specs.Classes.{class_of}
use Rattle.checks_model.specs.Constants.{constant_as, constant_of}
use Rattle.checks_model.specs.ConstantRules.{told_of_synonym_value}
use Rattle.checks_model.specs.WrittenModes.{mode_of, some_mode_of, unless_told}
use Rattle.checks_model.specs.ActionRules.{counter_mode}
use Rattle.checks_model.specs.Origins.{origins_of}

-- ---- entries

abbrev pub no_entry : Entry
no_entry = record { mode = None; class = None; value = None; parts = [] }

abbrev pub of_mode_alone : Option ModeTree → Entry
of_mode_alone m = record { mode = m; class = None; value = None; parts = [] }

abbrev pub of_constant : Option ClassTree → Option ValueTree → Entry
of_constant c v = record { mode = None; class = c; value = v; parts = [] }

-- what is told of a synonym's expression
abbrev pub told_of_synonym : Ground → SynonymTree → List Diagnostic
told_of_synonym g s = told_of_synonym_value g (is_some s.mode) (some_mode_of g s.mode) s.value

-- the value of a synonym with a mode that may be unknown
abbrev pub value_within : Ground → Option ModeTree → ExprTree → Option ValueTree
value_within g m e = option_and_then (λ m. constant_as g (Some m) e) m

-- A synonym has the class of its expression, or of its written mode, which it keeps where its value misfits. Where something is
-- told of its expression it has no value.
abbrev pub synonym_entry : Ground → SynonymTree → Option written.ModeTree → Entry
synonym_entry g s None = of_constant (unless_told (told_of_synonym g s) (class_of g s.value)) (unless_told (told_of_synonym g s) (constant_of g s.value))
synonym_entry g s (Some m) = record {
  mode = mode_of g false m;
  class = option_map value (mode_of g false m);
  value = unless_told (told_of_synonym g s) (value_within g (mode_of g false m) s.value);
  parts = [];
}

abbrev pub under_name : Option ℕ → Bool → ModeTree → Option ModeTree
under_name d novel m = option_map (λ d. named d novel m) d

-- the mode of an element's SET, with the name of the mode that the SET is the whole of
abbrev pub named_set : Ground → Option (Name × Bool) → ModeTree → Option ModeTree
named_set g None m = Some m
named_set g (Some o) m = under_name (number_at g.defined o.0.at) o.1 m

abbrev pub set_mode : Ground → List Name → Option (Name × Bool) → Option ModeTree
set_mode g [] owner = None
set_mode g (n ∷ ns) owner = option_and_then (λ first. named_set g owner (set_of first (length (n ∷ ns)))) (number_at g.defined n.at)

-- the mode of one of so many received names; none where the message has another number of parts
abbrev pub received_mode : Option (List (Option ModeTree)) → ℕ → ℕ → Option ModeTree
received_mode None count part = None
received_mode (Some ms) count part = if length ms == count then option_and_then (λ m. m) (slice_get ms part) else None

abbrev pub predefined_entry : Predefined → Entry
predefined_entry (of_mode m) = of_mode_alone (Some m)
predefined_entry (truth b) = of_constant (Some (derived boolean)) (Some (truth_value b))
predefined_entry no_instance = of_constant (Some null) (Some (number (pos 0)))
predefined_entry _ = no_entry

abbrev pub parts_of_signal : Ground → Option (List written.ModeTree) → List (Option ModeTree)
parts_of_signal g None = []
parts_of_signal g (Some ms) = map (mode_of g false) ms

-- what is known of what is defined so
abbrev pub entry_by : Ground → Origin → Entry
entry_by g (a_synonym s) = synonym_entry g s s.mode
entry_by g (a_mode novel m) = of_mode_alone (mode_of g true m)
entry_by g (an_element names part owner) = of_constant (option_map derived (set_mode g names owner)) (Some (number (pos part)))
entry_by g (a_location d) = of_mode_alone (mode_of g true d.mode)
entry_by g (a_parameter m) = of_mode_alone (mode_of g false m)
entry_by g (a_received n count part) = of_mode_alone (received_mode (message_parts g n) count part)
entry_by g (a_procedure p) = of_mode_alone (some_mode_of g p.returns)
entry_by g (a_signal s) = record { mode = None; class = None; value = None; parts = parts_of_signal g s.parts }
entry_by g (a_counter c) = no_entry
entry_by g (a_process p) = no_entry
entry_by g (a_modulion kind items) = no_entry
entry_by g (a_predefined p) = predefined_entry p

-- the same in the phase of statements, in which counters are known
abbrev pub entry_with_counters : Ground → Origin → Entry
entry_with_counters g (a_counter c) = of_mode_alone (counter_mode g c)
entry_with_counters g o = entry_by g o

-- ---- the ground of a program

abbrev pub numbered : ℕ → List Definition → List Resolved
numbered from [] = []
numbered from (d ∷ ds) = record { at = d.name.at; to = from } ∷ numbered (suc from) ds

-- what names stand for and what definitions are defined by, with some table of what is known of them
abbrev pub ground_with : ProgramTree → List Entry → Ground
ground_with t known = record {
  uses = (names_of (level_of t)).uses;
  defined = numbered 0 (text_definitions (level_of t));
  origins = origins_of t;
  entries = known;
}

-- the ground of a program for the phase of modes and constants: its table is the one of its definitions
pub record IsGroundOf (t : ProgramTree) (g : Ground) : Type 0 where
  pub names : g ≡ ground_with t g.entries
  pub entries : g.entries ≡ map (entry_by g) g.origins

-- the ground for the later phases: it knows counters besides
pub record IsStatementGroundOf (t : ProgramTree) (g : Ground) : Type 0 where
  pub names : g ≡ ground_with t g.entries
  pub entries : g.entries ≡ map (entry_with_counters g) g.origins
