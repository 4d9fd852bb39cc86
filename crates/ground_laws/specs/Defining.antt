-- The law of origins: each definition of a program and what it is defined by stand under one number.
use Rattle.std.specs.Prelude.{◌≡◌, ◌⊎◌, ℕ, true, false, List, [], ◌∷◌, Option, Some, None, option_map, slice_get, codes}
use Rattle.std.specs.List.{Contains}
use Rattle.chill_tree.specs.declared.tree.name.Name.{Name}
use Rattle.chill_tree.specs.SimpleTree.{ControlTree, while_holds, for_ever, for_members, for_steps}
use Rattle.chill_tree.specs.ItemTree.{ProgramTree}
use Rattle.modes.specs.ModeTree.{ModeTree, int, boolean, char, instance}
use Rattle.names_model.specs.declared.kind.Kind.{Kind}
use Rattle.names_model.specs.declared.kind.Kind.TheVariants as kinds
use Rattle.names_model.specs.declared.definition.Definition.{Definition}
use Rattle.names_model.specs.Identifiers.{identifier, identifiers}
use Rattle.names_model.specs.Definitions.{text_definitions, with_predefined}
use Rattle.names_model.specs.Resolving.{level_of}
use Rattle.checks_model.specs.Ground.{Origin, Predefined, of_mode, truth, no_instance, num, succ, pred, abs, card, min, max, upper, lower, size, put_int, put_text, put_nl, get_int, a_synonym, a_mode, an_element, a_location, a_parameter, a_counter, a_received, a_procedure, a_process, a_signal, a_modulion, a_predefined}
use Rattle.checks_model.specs.Origins.{origins_of}

abbrev pub counter_named : ControlTree → Option Name
counter_named (while_holds at c) = None
counter_named (for_ever at) = None
counter_named (for_members at n s c) = Some n
counter_named (for_steps at n s b down e c) = Some n

-- ---- predefined names

abbrev pub spelled_mode : ModeTree → List ℕ × List ℕ
spelled_mode int = (codes "INT", codes "int")
spelled_mode boolean = (codes "BOOL", codes "bool")
spelled_mode char = (codes "CHAR", codes "char")
spelled_mode instance = (codes "INSTANCE", codes "instance")
spelled_mode _ = ([], [])

-- in upper and in lower case
abbrev pub spelled : Predefined → List ℕ × List ℕ
spelled (of_mode m) = spelled_mode m
spelled (truth true) = (codes "TRUE", codes "true")
spelled (truth false) = (codes "FALSE", codes "false")
spelled no_instance = (codes "NULL", codes "null")
spelled num = (codes "NUM", codes "num")
spelled succ = (codes "SUCC", codes "succ")
spelled pred = (codes "PRED", codes "pred")
spelled abs = (codes "ABS", codes "abs")
spelled card = (codes "CARD", codes "card")
spelled min = (codes "MIN", codes "min")
spelled max = (codes "MAX", codes "max")
spelled upper = (codes "UPPER", codes "upper")
spelled lower = (codes "LOWER", codes "lower")
spelled size = (codes "SIZE", codes "size")
spelled put_int = (codes "PUT_INT", codes "put_int")
spelled put_text = (codes "PUT_TEXT", codes "put_text")
spelled put_nl = (codes "PUT_NL", codes "put_nl")
spelled get_int = (codes "GET_INT", codes "get_int")

abbrev pub kind_of_predefined : Predefined → Kind
kind_of_predefined (of_mode m) = kinds.PredefinedMode
kind_of_predefined (truth b) = kinds.PredefinedConstant
kind_of_predefined no_instance = kinds.PredefinedConstant
kind_of_predefined upper = kinds.MeasuringRoutine
kind_of_predefined lower = kinds.MeasuringRoutine
kind_of_predefined size = kinds.MeasuringRoutine
kind_of_predefined _ = kinds.PredefinedRoutine

-- ---- what defines what

-- An origin is that of a definition: of its kind, and its name is the origin's or among the origin's, where that has names of
-- its own.
abbrev pub Defines : Origin → Definition → Type 0
Defines (a_synonym s) d = (d.kind ≡ kinds.Synonym) × Contains (identifiers s.names) d.name
Defines (a_mode novel m) d = d.kind ≡ kinds.Mode
Defines (an_element ns part owner) d = (d.kind ≡ kinds.Element) × (option_map identifier (slice_get ns part) ≡ Some d.name)
Defines (a_location l) d = (d.kind ≡ kinds.Location) × Contains (identifiers l.names) d.name
Defines (a_parameter m) d = d.kind ≡ kinds.Parameter
Defines (a_counter c) d = (d.kind ≡ kinds.Counter) × (option_map identifier (counter_named c) ≡ Some d.name)
Defines (a_received n count part) d = d.kind ≡ kinds.Received
Defines (a_procedure p) d = (d.kind ≡ kinds.Procedure) × (d.name ≡ identifier p.name)
Defines (a_process p) d = (d.kind ≡ kinds.Process) × (d.name ≡ identifier p.name)
Defines (a_signal s) d = (d.kind ≡ kinds.Signal) × (d.name ≡ identifier s.name)
Defines (a_modulion kind items) d = d.kind ≡ kinds.Modulion
Defines (a_predefined p) d = (d.kind ≡ kind_of_predefined p) × ((d.name.spelling ≡ (spelled p).0) ⊎ (d.name.spelling ≡ (spelled p).1))

-- each is the origin of the definition that stands under its number
abbrev pub AllDefine : List Origin → List Definition → Type 0
AllDefine [] [] = Unit {0}
AllDefine (o ∷ os) (d ∷ ds) = Defines o d × AllDefine os ds
AllDefine [] (d ∷ ds) = ⊥
AllDefine (o ∷ os) [] = ⊥

abbrev pub OriginsLaw : Type 0
OriginsLaw = (t : ProgramTree) → AllDefine (origins_of t) (with_predefined (text_definitions (level_of t)))
