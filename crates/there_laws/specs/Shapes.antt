-- The law of the shapes of constants: a value is a number, a powerset or parts, as its class says.
use Rattle.std.specs.Prelude.{◌≡◌, Bool, true, false, Option, Some, None}
use Rattle.chill_tree.specs.declared.tree.name.Name.{Name}
use Rattle.chill_tree.specs.ExprTree.{ExprTree, paren, name, prefixed, binary}
use Rattle.modes.specs.ModeTree.{ModeTree, ClassTree}
use Rattle.modes.specs.Form.{FormTree, of_powerset, of_chars, of_array, of_structure, of_meeting}
use Rattle.checks_model.specs.ValueTrees.{ValueTree, number, members, parts}
use Rattle.checks_model.specs.Ground.{Ground, origin_of, entry_of}
use Rattle.checks_model.specs.Operations.{form_in}
use Rattle.checks_model.specs.Classes.{class_as, class_of_name}
use Rattle.checks_model.specs.Constants.{constant_as, value_of_name}

abbrev pub is_number : ValueTree → Bool
is_number (number n) = true
is_number _ = false

abbrev pub is_members : ValueTree → Bool
is_members (members bs) = true
is_members _ = false

abbrev pub are_parts : ValueTree → Bool
are_parts (parts vs) = true
are_parts _ = false

-- the values of a form: members of a powerset, parts of a text, an array and a structure, and else numbers; an event or buffer has none
abbrev pub has_shape : FormTree → ValueTree → Bool
has_shape (of_powerset m) v = is_members v
has_shape (of_chars n) v = are_parts v
has_shape (of_array i e how) v = are_parts v
has_shape (of_structure fs p) v = are_parts v
has_shape of_meeting v = false
has_shape _ v = is_number v

-- NULL is a number
abbrev pub shape_by : Option FormTree → ValueTree → Bool
shape_by None v = is_number v
shape_by (Some f) v = has_shape f v

abbrev pub is_of_class : ClassTree → ValueTree → Bool
is_of_class c v = shape_by (form_in c) v

-- what a name stands for has a value of its class's shape
abbrev pub HasShape : Ground → Name → Type 0
HasShape g n = (c : ClassTree) (v : ValueTree) → class_of_name g n ≡ Some c → value_of_name (entry_of g n) (origin_of g n) ≡ Some v → is_of_class c v ≡ true

-- so have the names in operands
abbrev pub HasShapes : Ground → ExprTree → Type 0
HasShapes g (name n) = HasShape g n
HasShapes g (paren at e) = HasShapes g e
HasShapes g (prefixed at o e) = HasShapes g e
HasShapes g (binary at l o p r) = HasShapes g l × HasShapes g r
HasShapes g _ = Unit {0}

-- The value of a constant is of the shape of its class.
abbrev pub ConstantShapeLaw : Type 0
ConstantShapeLaw = (g : Ground) (m : Option ModeTree) (e : ExprTree) (c : ClassTree) (v : ValueTree) → HasShapes g e → class_as g m e ≡ Some c → constant_as g m e ≡ Some v → is_of_class c v ≡ true
