-- Values of modes by their shapes: two modes of one shape have values of one build.
use Rattle.std.proofs.Common.{◌≡◌, ℕ, zero, suc, true, false, Bool, length, Option, Some, None, refl, ap, sym, ◌∙◌}
use Rattle.std.specs.Prelude.{◌==◌, ◌&&◌, option_map, option_and_then}
use Rattle.modes.specs.ModeTree.{ModeTree, ClassTree, value, derived, null, nothing, FieldNodes, no_fields, more_fields}
use Rattle.modes.specs.Form.{FormTree, form_of, of_int, of_boolean, of_char, of_instance, of_set, of_powerset, of_chars, of_array, of_structure, of_meeting}
use Rattle.modes.specs.Bounds.{count_within}
use Rattle.modes.specs.Similar.{Shape, shape_of, shape_of_fields, like_int, like_boolean, like_char, like_instance, like_set, like_powerset, like_chars, like_array, like_structure, part, no_more, next_field}
use Rattle.modes.specs.Classes.{Compatible, GoesWith}
use Rattle.modes.proofs.SimilarLemmas.{shape_in, shape-form}
use Rattle.checks_model.specs.Alike.{of_form}
use Rattle.checks_model.specs.ValueTrees.{ValueTree, ValueNodes, number, members, parts, no_values, more_values}
use Rattle.checks_model.specs.Classes.{count_fields, field_mode_at}
use Rattle.constant_values.specs.Fits.{takes_number, takes_members, takes_parts, part_of_form, part_of_mode, fits, fit_each, fits_class, count_values, few_members}

-- ---- what a shape takes

abbrev pub takes_number_in : Shape → Bool
takes_number_in like_int = true
takes_number_in like_boolean = true
takes_number_in like_char = true
takes_number_in like_instance = true
takes_number_in (like_set d n) = true
takes_number_in _ = false

abbrev members_in : ℕ → Shape → Bool
members_in count (part n r b s) = (count == count_within b) && few_members count
members_in count _ = false

abbrev pub takes_members_in : ℕ → Shape → Bool
takes_members_in count (like_powerset m) = members_in count m
takes_members_in count _ = false

abbrev pub count_next : Shape → ℕ
count_next (next_field name at m fs) = suc (count_next fs)
count_next _ = 0

abbrev pub takes_parts_in : ℕ → Shape → Bool
takes_parts_in count (like_chars n) = count == n
takes_parts_in count (like_array i b e how) = count == count_within b
takes_parts_in count (like_structure fs p) = count == count_next fs
takes_parts_in count _ = false

abbrev inner : Shape → Shape
inner (part n r b s) = s
inner s = s

abbrev next_at : ℕ → Shape → Option Shape
next_at k no_more = None
next_at zero (next_field name at m fs) = Some (inner m)
next_at (suc k) (next_field name at m fs) = next_at k fs
next_at k _ = None

abbrev pub part_in : ℕ → Shape → Option Shape
part_in k (like_chars n) = Some like_char
part_in k (like_powerset m) = Some (inner m)
part_in k (like_array i b e how) = Some (inner e)
part_in k (like_structure fs p) = next_at k fs
part_in k _ = None

abbrev pub of_shape : (Shape → Bool) → Option Shape → Bool
of_shape test None = false
of_shape test (Some s) = test s

abbrev pub part_of_shape : ℕ → Option Shape → Option Shape
part_of_shape k s = option_and_then (part_in k) s

abbrev mutual
  -- the value is one of the modes of that shape
  pub fits_in : Option Shape → ValueTree → Bool
  fits_in s (number n) = of_shape takes_number_in s
  fits_in s (members bs) = of_shape (takes_members_in (length bs)) s
  fits_in s (parts vs) = of_shape (takes_parts_in (count_values vs)) s && fit_each_in s 0 vs

  pub fit_each_in : Option Shape → ℕ → ValueNodes → Bool
  fit_each_in s k no_values = true
  fit_each_in s k (more_values v vs) = fits_in (part_of_shape k s) v && fit_each_in s (suc k) vs

-- ---- a value of a mode is one of its shape

number_by_form : (f : FormTree) → takes_number f ≡ takes_number_in (shape_in f)
number_by_form of_int = refl
number_by_form of_boolean = refl
number_by_form of_char = refl
number_by_form of_instance = refl
number_by_form (of_set d n) = refl
number_by_form (of_powerset m) = refl
number_by_form (of_chars n) = refl
number_by_form (of_array i e how) = refl
number_by_form (of_structure fs p) = refl
number_by_form of_meeting = refl

members_by_form : (count : ℕ) (f : FormTree) → takes_members count f ≡ takes_members_in count (shape_in f)
members_by_form count of_int = refl
members_by_form count of_boolean = refl
members_by_form count of_char = refl
members_by_form count of_instance = refl
members_by_form count (of_set d n) = refl
members_by_form count (of_powerset m) = refl
members_by_form count (of_chars n) = refl
members_by_form count (of_array i e how) = refl
members_by_form count (of_structure fs p) = refl
members_by_form count of_meeting = refl

fields_counted : (fs : FieldNodes) → count_fields fs ≡ count_next (shape_of_fields fs)
fields_counted no_fields = refl
fields_counted (more_fields n m at fs) = ap suc (fields_counted fs)

parts_by_form : (count : ℕ) (f : FormTree) → takes_parts count f ≡ takes_parts_in count (shape_in f)
parts_by_form count of_int = refl
parts_by_form count of_boolean = refl
parts_by_form count of_char = refl
parts_by_form count of_instance = refl
parts_by_form count (of_set d n) = refl
parts_by_form count (of_powerset m) = refl
parts_by_form count (of_chars n) = refl
parts_by_form count (of_array i e how) = refl
parts_by_form count (of_structure fs p) = ap (λ (n : ℕ). count == n) (fields_counted fs)
parts_by_form count of_meeting = refl

field_by_form : (k : ℕ) (fs : FieldNodes) → option_map shape_of (field_mode_at k fs) ≡ next_at k (shape_of_fields fs)
field_by_form k no_fields = refl
field_by_form zero (more_fields n m at fs) = refl
field_by_form (suc k) (more_fields n m at fs) = field_by_form k fs

part_by_form : (k : ℕ) (f : FormTree) → option_map shape_of (part_of_form k f) ≡ part_in k (shape_in f)
part_by_form k of_int = refl
part_by_form k of_boolean = refl
part_by_form k of_char = refl
part_by_form k of_instance = refl
part_by_form k (of_set d n) = refl
part_by_form k (of_powerset m) = refl
part_by_form k (of_chars n) = refl
part_by_form k (of_array i e how) = refl
part_by_form k (of_structure fs p) = field_by_form k fs
part_by_form k of_meeting = refl

test_by_form : (test : FormTree → Bool) (own : Shape → Bool) (m : Option ModeTree) → ((f : FormTree) → test f ≡ own (shape_in f)) → of_form test m ≡ of_shape own (option_map shape_of m)
test_by_form test own None same = refl
test_by_form test own (Some m) same = same (form_of m) ∙ ap own (sym (shape-form m))

part_by_mode : (k : ℕ) (m : Option ModeTree) → option_map shape_of (part_of_mode k m) ≡ part_of_shape k (option_map shape_of m)
part_by_mode k None = refl
part_by_mode k (Some m) = part_by_form k (form_of m) ∙ ap (part_in k) (sym (shape-form m))

mutual
  pub fits_shape : (m : Option ModeTree) (v : ValueTree) → fits m v ≡ fits_in (option_map shape_of m) v
  fits_shape m (number n) = test_by_form takes_number takes_number_in m number_by_form
  fits_shape m (members bs) = test_by_form (takes_members (length bs)) (takes_members_in (length bs)) m (members_by_form (length bs))
  fits_shape m (parts vs) =
      ap (λ (b : Bool). b && fit_each m 0 vs) (test_by_form (takes_parts (count_values vs)) (takes_parts_in (count_values vs)) m (parts_by_form (count_values vs)))
      ∙ ap (λ (b : Bool). of_shape (takes_parts_in (count_values vs)) (option_map shape_of m) && b) (each_fits_shape m 0 vs)

  pub each_fits_shape : (m : Option ModeTree) (k : ℕ) (vs : ValueNodes) → fit_each m k vs ≡ fit_each_in (option_map shape_of m) k vs
  each_fits_shape m k no_values = refl
  each_fits_shape m k (more_values v vs) =
      ap (λ (b : Bool). b && fit_each m (suc k) vs) (fits_shape (part_of_mode k m) v ∙ ap (λ (s : Option Shape). fits_in s v) (part_by_mode k m))
      ∙ ap (λ (b : Bool). fits_in (part_of_shape k (option_map shape_of m)) v && b) (each_fits_shape m (suc k) vs)

-- ---- classes

abbrev pub shape_of_class : ClassTree → Option Shape
shape_of_class (value m) = Some (shape_of m)
shape_of_class (derived m) = Some (shape_of m)
shape_of_class null = Some like_instance
shape_of_class nothing = None

null_fits : (v : ValueTree) → fits_class null v ≡ fits_in (Some like_instance) v
null_fits (number n) = refl
null_fits (members bs) = refl
null_fits (parts vs) = refl

nothing_fits : (v : ValueTree) → fits_class nothing v ≡ fits_in None v
nothing_fits (number n) = refl
nothing_fits (members bs) = refl
nothing_fits (parts vs) = refl

pub class_fits_shape : (c : ClassTree) (v : ValueTree) → fits_class c v ≡ fits_in (shape_of_class c) v
class_fits_shape (value m) v = fits_shape (Some m) v
class_fits_shape (derived m) v = fits_shape (Some m) v
class_fits_shape null v = null_fits v
class_fits_shape nothing v = nothing_fits v

instance_shape : (m : ModeTree) → form_of m ≡ of_instance → Some (shape_of m) ≡ Some like_instance
instance_shape m e = ap Some (shape-form m ∙ ap shape_in e)

pub compatible_shape : (c d : ClassTree) → Compatible c d → shape_of_class c ≡ shape_of_class d
compatible_shape (value a) (value b) h = ap Some h.similar.shape
compatible_shape (value a) (derived b) h = ap Some h.shape
compatible_shape (derived a) (value b) h = ap Some h.shape
compatible_shape (derived a) (derived b) h = ap Some h.shape
compatible_shape (value a) null h = instance_shape a h
compatible_shape (derived a) null h = instance_shape a h
compatible_shape null (value b) h = sym (instance_shape b h)
compatible_shape null (derived b) h = sym (instance_shape b h)
compatible_shape null null h = refl
compatible_shape nothing d h = absurd h
compatible_shape (value a) nothing h = absurd h
compatible_shape (derived a) nothing h = absurd h
compatible_shape null nothing h = absurd h

pub goes_shape : (c : ClassTree) (m : ModeTree) → GoesWith c m → shape_of_class c ≡ Some (shape_of m)
goes_shape (value n) m h = ap Some h.similar.shape
goes_shape (derived n) m h = ap Some h.shape
goes_shape null m h = sym (instance_shape m h)
goes_shape nothing m h = absurd h
