-- Modes and their shapes: which values they have.
use Rattle.std.proofs.Common.{◌≡◌, Bool, true, false, Some, refl, sym, ◌∙◌, true≢false}
use Rattle.std.specs.Prelude.{ℤ}
use Rattle.modes.specs.declared.mode.Bounds.{Bounds}
use Rattle.modes.specs.ModeTree.{ModeTree, int, boolean, char, instance, set_of, range, powerset, chars, array, structure, event, buffer, read, named}
use Rattle.modes.specs.Form.{form_of}
use Rattle.modes.specs.Bounds.{bounds_of}
use Rattle.modes.specs.Roots.{root_of}
use Rattle.modes.specs.Similar.{Shape, shape_of, has_values, like_int, like_boolean, like_char, like_instance, like_set, like_powerset, like_chars, like_array, like_structure, like_none, part, no_more, next_field}
use Rattle.checks_model.specs.Alike.{same_shape, are_similar}
use Rattle.checks_model.specs.ValueTrees.{ValueTree, number}
use Rattle.elaborated_laws.proofs.Told.{no_some, both_left}
use Rattle.elaborated_laws.proofs.Classes.{inner_bounds}
use Rattle.there_laws.specs.Shapes.{is_number, is_members, are_parts, has_shape}

-- the values of a shape
abbrev holds_shape : Shape → ValueTree → Bool
holds_shape (like_powerset m) v = is_members v
holds_shape (like_chars n) v = are_parts v
holds_shape (like_array i b e how) v = are_parts v
holds_shape (like_structure fs p) v = are_parts v
holds_shape like_int v = is_number v
holds_shape like_boolean v = is_number v
holds_shape like_char v = is_number v
holds_shape like_instance v = is_number v
holds_shape (like_set d n) v = is_number v
holds_shape _ v = false

of_form : (m : ModeTree) (v : ValueTree) → holds_shape (shape_of m) v ≡ has_shape (form_of m) v
of_form int v = refl
of_form boolean v = refl
of_form char v = refl
of_form instance v = refl
of_form (set_of d n) v = refl
of_form (range p l h) v = of_form p v
of_form (powerset m) v = refl
of_form (chars n) v = refl
of_form (array i e how) v = refl
of_form (structure fs p) v = refl
of_form (event l) v = refl
of_form (buffer l e) v = refl
of_form (read m) v = of_form m v
of_form (named d n m) v = of_form m v

same_kind : (a b : Shape) (v : ValueTree) → same_shape a b ≡ true → holds_shape a v ≡ true → holds_shape b v ≡ true
same_kind like_int like_int v same holds = holds
same_kind like_boolean like_boolean v same holds = holds
same_kind like_char like_char v same holds = holds
same_kind like_instance like_instance v same holds = holds
same_kind (like_set d n) (like_set e k) v same holds = holds
same_kind (like_powerset m) (like_powerset k) v same holds = holds
same_kind (like_chars n) (like_chars k) v same holds = holds
same_kind (like_array i b e how) (like_array j c f way) v same holds = holds
same_kind (like_structure fs p) (like_structure gs q) v same holds = holds
same_kind like_none b v same holds = absurd (true≢false (sym holds))
same_kind (part n r c m) b v same holds = absurd (true≢false (sym holds))
same_kind no_more b v same holds = absurd (true≢false (sym holds))
same_kind (next_field n at m fs) b v same holds = absurd (true≢false (sym holds))
same_kind a b v same holds = absurd (true≢false (sym same))

-- similar modes have values of one shape
pub similar_shape : (a b : ModeTree) (v : ValueTree) → are_similar a b ≡ true → has_shape (form_of a) v ≡ true → has_shape (form_of b) v ≡ true
similar_shape a b v similar holds = sym (of_form b v) ∙ same_kind (shape_of a) (shape_of b) v (both_left (same_shape (shape_of a) (shape_of b)) (has_values (shape_of a)) similar) (of_form a v ∙ holds)

-- a root has the form of its mode
pub root_form : (m : ModeTree) → form_of (root_of m) ≡ form_of m
root_form int = refl
root_form boolean = refl
root_form char = refl
root_form instance = refl
root_form (set_of d n) = refl
root_form (range p l h) = root_form p
root_form (powerset m) = refl
root_form (chars n) = refl
root_form (array i e how) = refl
root_form (structure fs p) = refl
root_form (event l) = refl
root_form (buffer l e) = refl
root_form (read m) = root_form m
root_form (named d true m) = root_form m
root_form (named d false m) = root_form m

-- a mode with bounds has numbers
pub bounded_number : (m : ModeTree) (b : Bounds) (n : ℤ) → bounds_of m ≡ Some b → has_shape (form_of m) (number n) ≡ true
bounded_number int b n is = refl
bounded_number boolean b n is = refl
bounded_number char b n is = refl
bounded_number instance b n is = no_some b is
bounded_number (set_of d k) b n is = refl
bounded_number (range p l h) b n is = let there = inner_bounds (bounds_of p) l h b is in bounded_number p there.0 n there.1
bounded_number (powerset m) b n is = no_some b is
bounded_number (chars k) b n is = no_some b is
bounded_number (array i e how) b n is = no_some b is
bounded_number (structure fs p) b n is = no_some b is
bounded_number (event l) b n is = no_some b is
bounded_number (buffer l e) b n is = no_some b is
bounded_number (read m) b n is = bounded_number m b n is
bounded_number (named d k m) b n is = bounded_number m b n is
