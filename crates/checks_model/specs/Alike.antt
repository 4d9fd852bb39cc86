-- The tests of modes and classes as truth values: what rules ask, in lists that compute. Each is true exactly where the
-- relation of its name in `modes` holds.
use Rattle.std.specs.Prelude.{ℕ, Bool, true, false, ◌&&◌, not, ◌==◌, Option, Some, None}
use Rattle.std.specs.Str.{bytes_eq}
use Rattle.std.specs.Prelude.{ℤ, int_le}
use Rattle.modes.specs.declared.mode.Bounds.{Bounds}
use Rattle.modes.specs.ModeTree.{ModeTree, ClassTree, value, derived, null, nothing, PlaceTree, SpreadTree, words, packed, step}
use Rattle.modes.specs.Form.{FormTree, form_of, of_int, of_boolean, of_char, of_instance, of_set, of_powerset, of_chars, of_meeting}
use Rattle.modes.specs.Roots.{novelty_of}
use Rattle.modes.specs.Similar.{Shape, shape_of, has_values, like_int, like_boolean, like_char, like_instance, like_set, like_powerset, like_chars, like_array, like_structure, like_none, part, no_more, next_field}

abbrev pub same_int : ℤ → ℤ → Bool
same_int a b = int_le a b && int_le b a

abbrev pub same_bool : Bool → Bool → Bool
same_bool true b = b
same_bool false b = not b

abbrev pub same_number : Option ℕ → Option ℕ → Bool
same_number None None = true
same_number (Some a) (Some b) = a == b
same_number _ _ = false

abbrev pub same_bounds : Option Bounds → Option Bounds → Bool
same_bounds None None = true
same_bounds (Some a) (Some b) = same_int a.low b.low && same_int a.high b.high
same_bounds _ _ = false

abbrev pub same_place_bits : PlaceTree → PlaceTree → Bool
same_place_bits a b = (a.word == b.word) && ((a.start == b.start) && (a.end == b.end))

abbrev pub same_some_place : Option PlaceTree → Option PlaceTree → Bool
same_some_place None None = true
same_some_place (Some a) (Some b) = same_place_bits a b
same_some_place _ _ = false

abbrev pub same_spread : SpreadTree → SpreadTree → Bool
same_spread words words = true
same_spread packed packed = true
same_spread (step p d) (step q e) = same_place_bits p q && (d == e)
same_spread _ _ = false

-- one shape
abbrev pub same_shape : Shape → Shape → Bool
same_shape like_int like_int = true
same_shape like_boolean like_boolean = true
same_shape like_char like_char = true
same_shape like_instance like_instance = true
same_shape (like_set d n) (like_set e m) = (d == e) && (n == m)
same_shape (like_powerset a) (like_powerset b) = same_shape a b
same_shape (like_chars n) (like_chars m) = n == m
same_shape (like_array i b e how) (like_array j c f with') = (same_shape i j && same_bounds b c) && (same_shape e f && same_spread how with')
same_shape (like_structure fs p) (like_structure gs q) = same_shape fs gs && same_bool p q
same_shape like_none like_none = true
same_shape (part n r b a) (part m s c d) = (same_number n m && same_bool r s) && (same_bounds b c && same_shape a d)
same_shape no_more no_more = true
same_shape (next_field n at a fs) (next_field m bt b gs) = (bytes_eq n m && same_some_place at bt) && (same_shape a b && same_shape fs gs)
same_shape _ _ = false

abbrev pub are_similar : ModeTree → ModeTree → Bool
are_similar a b = same_shape (shape_of a) (shape_of b) && has_values (shape_of a)

abbrev pub are_v_equivalent : ModeTree → ModeTree → Bool
are_v_equivalent a b = are_similar a b && same_number (novelty_of a) (novelty_of b)

-- ---- what a mode is

abbrev pub is_int : FormTree → Bool
is_int of_int = true
is_int _ = false

abbrev pub is_boolean : FormTree → Bool
is_boolean of_boolean = true
is_boolean _ = false

abbrev pub is_instance : FormTree → Bool
is_instance of_instance = true
is_instance _ = false

abbrev pub is_chars : FormTree → Bool
is_chars (of_chars n) = true
is_chars _ = false

abbrev pub is_powerset : FormTree → Bool
is_powerset (of_powerset m) = true
is_powerset _ = false

abbrev pub is_meeting : FormTree → Bool
is_meeting of_meeting = true
is_meeting _ = false

abbrev pub is_discrete : FormTree → Bool
is_discrete of_int = true
is_discrete of_boolean = true
is_discrete of_char = true
is_discrete (of_set d n) = true
is_discrete _ = false

-- ---- classes

-- the mode of a class
abbrev pub mode_in : ClassTree → Option ModeTree
mode_in (value m) = Some m
mode_in (derived m) = Some m
mode_in null = None
mode_in nothing = None

abbrev pub of_form : (FormTree → Bool) → Option ModeTree → Bool
of_form test None = false
of_form test (Some m) = test (form_of m)

-- the mode of a class is of a form
abbrev pub class_is : (FormTree → Bool) → ClassTree → Bool
class_is test c = of_form test (mode_in c)

-- the class goes with the mode
abbrev pub goes_with : ClassTree → ModeTree → Bool
goes_with (value n) m = are_v_equivalent n m
goes_with (derived n) m = are_similar n m
goes_with null m = is_instance (form_of m)
goes_with nothing m = false

-- the classes are compatible
abbrev pub are_compatible : ClassTree → ClassTree → Bool
are_compatible (value a) (value b) = are_v_equivalent a b
are_compatible (value a) (derived b) = are_similar a b
are_compatible (derived a) (value b) = are_similar a b
are_compatible (derived a) (derived b) = are_similar a b
are_compatible (value a) null = is_instance (form_of a)
are_compatible (derived a) null = is_instance (form_of a)
are_compatible null (value b) = is_instance (form_of b)
are_compatible null (derived b) = is_instance (form_of b)
are_compatible null null = true
are_compatible _ _ = false
