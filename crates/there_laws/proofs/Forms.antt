-- What the forms of modes hold that a location may have: bounds, and the modes of parts.
use Rattle.std.proofs.Common.{◌≡◌, ◌<◌, ◌≤◌, ℕ, zero, suc, ◌+◌, ◌==◌, ◌&&◌, Bool, true, Option, Some, refl, sym, ap, subst, arith, true≢false}
use Rattle.std.proofs.lemmas.Bool.{eqb-true}
use Rattle.std.specs.Prelude.{IsSome, is_some}
use Rattle.chill_tree.specs.ExprTree.{RangeNodes, no_ranges, more_ranges}
use Rattle.modes.specs.declared.mode.Bounds.{Bounds}
use Rattle.modes.specs.ModeTree.{ModeTree, int, boolean, char, instance, set_of, range, powerset, chars, array, structure, event, buffer, read, named, FieldNodes, no_fields, more_fields, SpreadTree}
use Rattle.modes.specs.Form.{FormTree, form_of, of_int, of_boolean, of_char, of_instance, of_set, of_powerset, of_chars, of_array, of_structure, of_meeting}
use Rattle.modes.specs.Bounds.{bounds_of, values_of}
use Rattle.modes.specs.Language.{parts_fit, is_from_to, lie_in}
use Rattle.checks_model.specs.Classes.{are_alone, count_ranges, count_fields, shape_fits, field_mode_at, part_mode}
use Rattle.elaborated_laws.specs.Known.{IsDeclarable}
use Rattle.elaborated_laws.proofs.Told.{no_some, same_some, both_left, both_right}
use Rattle.elaborated_laws.proofs.Modes.{language_declarable}
use Rattle.elaborated_laws.proofs.Classes.{FormIs, FieldsAre, inner_bounds, by_values, parent_of, read_of}

-- ---- bounds

-- members and indices are discrete
abbrev pub HasBounds : FormTree → Type 0
HasBounds (of_powerset m) = IsSome (bounds_of m)
HasBounds (of_array i e how) = IsSome (bounds_of i)
HasBounds f = Unit {0}

discrete_bounds : (m : ModeTree) (b : Bounds) → bounds_of m ≡ Some b → HasBounds (form_of m)
discrete_bounds int b is = tt
discrete_bounds boolean b is = tt
discrete_bounds char b is = tt
discrete_bounds instance b is = tt
discrete_bounds (set_of d n) b is = tt
discrete_bounds (range p l h) b is = let there = inner_bounds (bounds_of p) l h b is in discrete_bounds p there.0 there.1
discrete_bounds (powerset m) b is = no_some b is
discrete_bounds (chars n) b is = tt
discrete_bounds (array i e how) b is = no_some b is
discrete_bounds (structure fs p) b is = tt
discrete_bounds (event l) b is = tt
discrete_bounds (buffer l e) b is = tt
discrete_bounds (read m) b is = discrete_bounds m b is
discrete_bounds (named d n m) b is = discrete_bounds m b is

is_there : {A : Type 0} (x : Option A) (y : A) → x ≡ Some y → IsSome x
is_there x y is = ap is_some is

values_bounds : (m : ModeTree) (last : ℕ) → is_from_to 1 last (values_of m) ≡ true → IsSome (bounds_of m)
values_bounds m last fits = let there = by_values (bounds_of m) last fits in is_there (bounds_of m) there.0 there.1

pub has_bounds : (m : ModeTree) → IsDeclarable m → HasBounds (form_of m)
has_bounds int fits = tt
has_bounds boolean fits = tt
has_bounds char fits = tt
has_bounds instance fits = tt
has_bounds (set_of d n) fits = tt
has_bounds (range p l h) fits = let there = parent_of (bounds_of p) l h (both_right (parts_fit p) (lie_in l h (bounds_of p)) fits.parts) in discrete_bounds p there.0 there.1
has_bounds (powerset m) fits = values_bounds m 32 (both_right (parts_fit m) (is_from_to 1 32 (values_of m)) fits.parts)
has_bounds (chars n) fits = tt
has_bounds (array i e how) fits = values_bounds i 4096 (both_left (is_from_to 1 4096 (values_of i)) (parts_fit e) (both_right (parts_fit i) (is_from_to 1 4096 (values_of i) && parts_fit e) fits.parts))
has_bounds (structure fs p) fits = tt
has_bounds (event l) fits = tt
has_bounds (buffer l e) fits = tt
has_bounds (read m) fits = has_bounds m (language_declarable m (read_of m fits))
has_bounds (named d n m) fits = has_bounds m fits

-- ---- parts

field_fits : (fs : FieldNodes) (k : ℕ) (m : ModeTree) → FieldsAre fs → field_mode_at k fs ≡ Some m → IsDeclarable m
field_fits no_fields k m fits is = no_some m is
field_fits (more_fields n own at fs) zero m fits is = subst IsDeclarable (same_some own m is) (language_declarable own fits.0)
field_fits (more_fields n own at fs) (suc k) m fits is = field_fits fs k m fits.1 is

pub part_fits : (f : FormTree) (k : ℕ) (m : ModeTree) → FormIs f → part_mode k f ≡ Some m → IsDeclarable m
part_fits (of_powerset own) k m fits is = subst IsDeclarable (same_some own m is) (language_declarable own fits)
part_fits (of_array i e how) k m fits is = subst IsDeclarable (same_some e m is) (language_declarable e fits.1)
part_fits (of_structure fs p) k m fits is = field_fits fs k m fits is
part_fits of_int k m fits is = no_some m is
part_fits of_boolean k m fits is = no_some m is
part_fits of_char k m fits is = no_some m is
part_fits of_instance k m fits is = no_some m is
part_fits (of_set d n) k m fits is = no_some m is
part_fits (of_chars n) k m fits is = no_some m is
part_fits of_meeting k m fits is = no_some m is

-- each of some parts from one on has a mode
abbrev pub PartsThere : FormTree → ℕ → RangeNodes → Type 0
PartsThere f k no_ranges = Unit {0}
PartsThere f k (more_ranges r rs) = IsSome (part_mode k f) × PartsThere f (suc k) rs

members_there : (m : ModeTree) (k : ℕ) (rs : RangeNodes) → PartsThere (of_powerset m) k rs
members_there m k no_ranges = tt
members_there m k (more_ranges r rs) = (refl, members_there m (suc k) rs)

elements_there : (i e : ModeTree) (how : SpreadTree) (k : ℕ) (rs : RangeNodes) → PartsThere (of_array i e how) k rs
elements_there i e how k no_ranges = tt
elements_there i e how k (more_ranges r rs) = (refl, elements_there i e how (suc k) rs)

field_there : (fs : FieldNodes) (k : ℕ) → k < count_fields fs → IsSome (field_mode_at k fs)
field_there no_fields k less = absurd (omega (arith, less))
field_there (more_fields n m at fs) zero less = refl
field_there (more_fields n m at fs) (suc k) less = field_there fs k (omega (arith, less))

fields_there : (fs : FieldNodes) (p : Bool) (k : ℕ) (rs : RangeNodes) → k + count_ranges rs ≤ count_fields fs → PartsThere (of_structure fs p) k rs
fields_there fs p k no_ranges few = tt
fields_there fs p k (more_ranges r rs) few = (field_there fs k (omega (arith, few)), fields_there fs p (suc k) rs (omega (arith, few)))

-- where a tuple has the form of its mode
pub shape_there : (f : FormTree) (rs : RangeNodes) → shape_fits rs f ≡ true → PartsThere f 0 rs
shape_there (of_powerset m) rs fits = members_there m 0 rs
shape_there (of_array i e how) rs fits = elements_there i e how 0 rs
shape_there (of_structure fs p) rs fits = let same = eqb-true (count_ranges rs) (count_fields fs) (both_right (are_alone rs) (count_ranges rs == count_fields fs) fits) in fields_there fs p 0 rs (omega (arith, same))
shape_there of_int rs fits = absurd (true≢false (sym fits))
shape_there of_boolean rs fits = absurd (true≢false (sym fits))
shape_there of_char rs fits = absurd (true≢false (sym fits))
shape_there of_instance rs fits = absurd (true≢false (sym fits))
shape_there (of_set d n) rs fits = absurd (true≢false (sym fits))
shape_there (of_chars n) rs fits = absurd (true≢false (sym fits))
shape_there of_meeting rs fits = absurd (true≢false (sym fits))
