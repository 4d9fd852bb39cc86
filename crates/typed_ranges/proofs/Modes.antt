-- How many scalars modes of the language have, by their forms and their shapes; and what lies in them.
use Rattle.std.proofs.Common.{◌≡◌, ℕ, zero, suc, ◌+◌, ◌*◌, ◌≤◌, List, length, length-append, true, false, Option, Some, None, inl, inr, refl, sym, ap, ◌∙◌, subst, arith, IsTrue}
use Rattle.std.specs.Prelude.{ℤ, pos, negsuc, neg_ℤ, ◌+ℤ◌, ◌-ℤ◌, ◌≤ℤ◌, int_le, nat_le, ◌&&◌, min}
use Rattle.std.proofs.lemmas.Int.{ints}
use Rattle.std.proofs.lemmas.Bool.Decides.{nat_tests}
use Rattle.modes.specs.declared.mode.Bounds.{Bounds}
use Rattle.modes.specs.ModeTree.{ModeTree, int, boolean, char, instance, set_of, range, powerset, chars, array, structure, event, buffer, read, named, FieldNodes}
use Rattle.modes.specs.Form.{FormTree, form_of, of_int, of_boolean, of_char, of_instance, of_set, of_powerset, of_chars, of_array, of_structure, of_meeting}
use Rattle.modes.specs.Roots.{root_of}
use Rattle.modes.specs.Bounds.{bounds_of, bounds_in, values_of, count_within, count_between, natural_of}
use Rattle.modes.specs.Scalars.{scalars_of, numbers_of, repeated}
use Rattle.modes.specs.Similar.{Shape, like_int, like_boolean, like_char, like_instance, like_set, like_powerset, like_chars, like_array, like_structure, like_none, part, no_more, next_field, shape_of}
use Rattle.modes.specs.Language.{parts_fit, is_from_to, lie_in}
use Rattle.modes.proofs.SimilarLemmas.{both, of_both}
use Rattle.layout_map.proofs.Narrow.{bounds-small, Small, values-from}
use Rattle.layout_map.proofs.Steps.{le-from}
use Rattle.program_ranges.specs.Counts.{is_int, are_ints, are_members}
use Rattle.source_meaning.specs.Values.{member_domains, domains_of, domains_of_fields}
use Rattle.source_meaning.specs.TypedValues.{HasField, IsIndexed, IsStructure, IsArray, IsRootOfEither}
use Rattle.text_laws.proofs.Held.{untrue}
use Rattle.text_laws.proofs.Values.{count_domains}
use Rattle.text_laws.proofs.Operations.{discrete_domain, set_members}
use Rattle.text_laws.proofs.Taking.{is_single, single, from_some, domains_in, shaped, FormFits, domains_in_form, form_domains, form_fits, field_part}
use Rattle.text_laws.proofs.ExprAsks.{structure_form, array_form}

-- ---- one shape, one number of scalars

any_bounds : (s : Shape) (o k : Option Bounds) → length (domains_in o s) ≡ length (domains_in k s)
any_bounds like_int o k = refl
any_bounds like_boolean o k = refl
any_bounds like_char o k = refl
any_bounds like_instance o k = refl
any_bounds (like_set d n) o k = refl
any_bounds (like_powerset m) o k = refl
any_bounds (like_chars n) o k = refl
any_bounds (like_array i b e how) o k = refl
any_bounds (like_structure fs p) o k = refl
any_bounds like_none o k = refl
any_bounds (part n r b s) o k = refl
any_bounds no_more o k = refl
any_bounds (next_field name at m fs) o k = refl

pub same_count : (a b : ModeTree) → IsTrue (parts_fit a) → IsTrue (parts_fit b) → shape_of a ≡ shape_of b → scalars_of a ≡ scalars_of b
same_count a b p q s =
    sym (count_domains a)
    ∙ (ap length (shaped a p) ∙ (any_bounds (shape_of a) (bounds_of a) (bounds_of b) ∙ (ap (λ (x : Shape). length (domains_in (bounds_of b) x)) s ∙ (sym (ap length (shaped b q)) ∙ count_domains b))))

-- ---- modes of one scalar

pub discrete_one : (m : ModeTree) (b : Bounds) → bounds_of m ≡ Some b → scalars_of m ≡ 1
discrete_one m b is = sym (count_domains m) ∙ ap length (discrete_domain m b is)

form_count : (m : ModeTree) (f : FormTree) → IsTrue (parts_fit m) → form_of m ≡ f → scalars_of m ≡ length (domains_in_form f (bounds_of m))
form_count m f p is = sym (count_domains m) ∙ (ap length (form_domains m p) ∙ ap (λ (g : FormTree). length (domains_in_form g (bounds_of m))) is)

pub int_one : (m : ModeTree) → IsTrue (parts_fit m) → form_of m ≡ of_int → scalars_of m ≡ 1
int_one m p is = form_count m of_int p is

pub boolean_one : (m : ModeTree) → IsTrue (parts_fit m) → form_of m ≡ of_boolean → scalars_of m ≡ 1
boolean_one m p is = form_count m of_boolean p is

pub instance_one : (m : ModeTree) → IsTrue (parts_fit m) → form_of m ≡ of_instance → scalars_of m ≡ 1
instance_one m p is = form_count m of_instance p is

inner_bounds : (o : Option Bounds) (l h : ℤ) (b : Bounds) → bounds_in o l h ≡ Some b → (k : Bounds) × (o ≡ Some k)
inner_bounds None l h b is = let no : ⊥ = cc in absurd no
inner_bounds (Some k) l h b is = (k, refl)

-- a discrete mode is so by its shape
discrete_shape : (m : ModeTree) (b : Bounds) → bounds_of m ≡ Some b → is_single (shape_of m) ≡ true
discrete_shape int b is = refl
discrete_shape boolean b is = refl
discrete_shape char b is = refl
discrete_shape instance b is = let no : ⊥ = cc in absurd no
discrete_shape (set_of d n) b is = refl
discrete_shape (range q l h) b is = let parent = inner_bounds (bounds_of q) l h b is in discrete_shape q parent.0 parent.1
discrete_shape (powerset m) b is = let no : ⊥ = cc in absurd no
discrete_shape (chars n) b is = let no : ⊥ = cc in absurd no
discrete_shape (array i e how) b is = let no : ⊥ = cc in absurd no
discrete_shape (structure fs p) b is = let no : ⊥ = cc in absurd no
discrete_shape (event l) b is = let no : ⊥ = cc in absurd no
discrete_shape (buffer l e) b is = let no : ⊥ = cc in absurd no
discrete_shape (read m) b is = discrete_shape m b is
discrete_shape (named d n m) b is = discrete_shape m b is

-- what goes with a discrete mode is one scalar
pub alike_one : (own m : ModeTree) (b : Bounds) → IsTrue (parts_fit own) → shape_of own ≡ shape_of m → bounds_of m ≡ Some b → scalars_of own ≡ 1
alike_one own m b p s is =
    let there = from_some (bounds_of own) (sym (single own p) ∙ (ap is_single s ∙ discrete_shape m b is)) in
    discrete_one own there.0 there.1

members_length : (size first n : ℕ) → length (member_domains size first n) ≡ n
members_length size first zero = refl
members_length size first (suc n) = ap suc (members_length size (first + 32) n)

-- a powerset of the language is one number
pub set_one : (m e : ModeTree) → IsTrue (parts_fit m) → form_of m ≡ of_powerset e → scalars_of m ≡ 1
set_one m e p is =
    let count = form_count m (of_powerset e) p is in
    let long = members_length (values_of e) 0 (numbers_of (values_of e)) in
    let few = set_members m e p is in
    let low = few.0 in
    let high = few.1 in
    omega (arith, count, long, low, high)

parent_there : (o : Option Bounds) (l h : ℤ) → IsTrue (lie_in l h o) → (b : Bounds) × (o ≡ Some b)
parent_there None l h t = untrue t
parent_there (Some b) l h t = (b, refl)

-- a root has as many scalars as the mode
pub root_count : (m : ModeTree) → IsTrue (parts_fit m) → scalars_of (root_of m) ≡ scalars_of m
root_count int p = refl
root_count boolean p = refl
root_count char p = refl
root_count instance p = refl
root_count (set_of d n) p = refl
root_count (range q l h) p = let there = parent_there (bounds_of q) l h (both _ _ p).1 in root_count q (both _ _ p).0 ∙ discrete_one q there.0 there.1
root_count (powerset m) p = refl
root_count (chars n) p = refl
root_count (array i e how) p = refl
root_count (structure fs q) p = refl
root_count (event l) p = refl
root_count (buffer l e) p = refl
root_count (read m) p = root_count m p
root_count (named d true m) p = root_count m p
root_count (named d false m) p = root_count m p

pub either_count : (m a b : ModeTree) (n : ℕ) → IsTrue (parts_fit a) → IsTrue (parts_fit b) → scalars_of a ≡ n → scalars_of b ≡ n → IsRootOfEither m a b → scalars_of m ≡ n
either_count m a b n p q first second (inl is) = ap scalars_of is ∙ (root_count a p ∙ first)
either_count m a b n p q first second (inr is) = ap scalars_of is ∙ (root_count b q ∙ second)

-- ---- bounds

ordered : (l h : ℤ) → 1 ≤ count_between l h → l ≤ℤ h
ordered l h some = by (h -ℤ l +ℤ pos 1) refl some
  where
    by : (w : ℤ) → (h -ℤ l +ℤ pos 1) ≡ w → 1 ≤ min (natural_of w) 18446744073709551615 → l ≤ℤ h
    by (pos zero) e less = absurd (omega (arith, less))
    by (pos (suc n)) e less = grind (arith, ints, e)
    by (negsuc n) e less = absurd (omega (arith, less))

int_between : (z : ℤ) → neg_ℤ (pos 2147483648) ≤ℤ z → z ≤ℤ pos 2147483647 → IsTrue (is_int z)
int_between z low high =
    let first : IsTrue (int_le (neg_ℤ (pos 2147483648)) z) = grind (arith, ints, low) in
    let last : IsTrue (int_le z (pos 2147483647)) = grind (arith, ints, high) in
    of_both (int_le (neg_ℤ (pos 2147483648)) z) (int_le z (pos 2147483647)) first last

ints_between : (b : Bounds) → neg_ℤ (pos 2147483648) ≤ℤ b.low → b.high ≤ℤ pos 2147483647 → b.low ≤ℤ b.high → IsTrue (are_ints b)
ints_between b low high order =
    of_both (is_int b.low) (is_int b.high) (int_between b.low low (let most : b.low ≤ℤ pos 2147483647 = omega (arith, ints, high, order) in most)) (int_between b.high (let least : neg_ℤ (pos 2147483648) ≤ℤ b.high = omega (arith, ints, low, order) in least) high)

-- bounds of a mode of the language that has values
own_ints : (m : ModeTree) (b : Bounds) → IsTrue (parts_fit m) → bounds_of m ≡ Some b → b.low ≤ℤ b.high → IsTrue (are_ints b)
own_ints m b p is order =
    let small : Small (Some b) = subst Small is (bounds-small m p) in
    ints_between b small.0 small.1 order

counted : (m : ModeTree) (b : Bounds) → bounds_of m ≡ Some b → values_of m ≡ count_between b.low b.high
counted m b is = ap count_within is

-- those of the members of a powerset
pub members_told : (m e : ModeTree) (b : Bounds) → IsTrue (parts_fit m) → form_of m ≡ of_powerset e → bounds_of e ≡ Some b → IsTrue (are_members b)
members_told m e b p is bounds =
    let few = set_members m e p is in
    let size = counted e b bounds in
    let low = few.0 in
    let high = few.1 in
    let order = ordered b.low b.high (omega (arith, low, size)) in
    let count : count_between b.low b.high ≤ 32 = omega (arith, high, size) in
    let up : IsTrue (int_le b.low b.high) = grind (arith, ints, order) in
    let small : IsTrue (nat_le (count_between b.low b.high) 32) = grind (arith, nat_tests, count) in
    of_both (are_ints b) (int_le b.low b.high && nat_le (count_between b.low b.high) 32) (own_ints e b few.2 bounds order) (of_both (int_le b.low b.high) (nat_le (count_between b.low b.high) 32) up small)

-- ---- parts

repeated_length : {A : Type 0} (n : ℕ) (xs : List A) → length (repeated n xs) ≡ n * length xs
repeated_length zero xs = omega arith
repeated_length (suc n) xs =
    let whole = length-append xs (repeated n xs) in
    let rest = repeated_length n xs in
    let e : suc n * length xs ≡ length xs + n * length xs = grind arith in
    omega (arith, whole, rest, e)

-- an array has as many scalars as its elements
pub array_count : (m index e : ModeTree) → IsTrue (parts_fit m) → IsArray (form_of m) index e → scalars_of m ≡ values_of index * scalars_of e
array_count m index e p is =
    sym (count_domains m)
    ∙ (ap length (form_domains m p) ∙ (ap length (array_form (form_of m) index e (bounds_of m) is).0 ∙ (repeated_length (values_of index) (domains_of e) ∙ ap (λ (k : ℕ). values_of index * k) (count_domains e))))

some_values : (f : FormTree) (index e : ModeTree) → IsArray f index e → FormFits f → 1 ≤ values_of index
some_values of_int index e is fits = absurd is
some_values of_boolean index e is fits = absurd is
some_values of_char index e is fits = absurd is
some_values of_instance index e is fits = absurd is
some_values (of_set d n) index e is fits = absurd is
some_values (of_powerset m) index e is fits = absurd is
some_values (of_chars n) index e is fits = absurd is
some_values (of_array i own how) index e is fits = subst (λ (k : ModeTree). 1 ≤ values_of k) is.0 fits.1
some_values (of_structure fs p) index e is fits = absurd is
some_values of_meeting index e is fits = absurd is

-- there is an element
pub array_some : (m index e : ModeTree) → IsTrue (parts_fit m) → IsArray (form_of m) index e → 1 ≤ values_of index
array_some m index e p is = some_values (form_of m) index e is (form_fits m p)

pub structure_length : (m : ModeTree) (fs : FieldNodes) → IsTrue (parts_fit m) → IsStructure (form_of m) fs → scalars_of m ≡ length (domains_of_fields fs)
structure_length m fs p is = sym (count_domains m) ∙ (ap length (form_domains m p) ∙ ap length (structure_form (form_of m) fs (bounds_of m) is).0)

pub field_inside : (m own : ModeTree) (fs : FieldNodes) (first : ℕ) → IsTrue (parts_fit m) → IsStructure (form_of m) fs → HasField fs 0 first own → first + scalars_of own ≤ scalars_of m
field_inside m own fs first p is has =
    let there = field_part fs 0 first own has in
    let start = there.1 in
    let inside = there.2.inside in
    let whole = structure_length m fs p is in
    omega (arith, start, inside, whole)

-- what is discrete isn't indexed
discrete_apart : (m : ModeTree) (c b : Bounds) (index own : ModeTree) → bounds_of m ≡ Some c → IsIndexed (form_of m) b index own → ⊥
discrete_apart int c b index own is at = at
discrete_apart boolean c b index own is at = at
discrete_apart char c b index own is at = at
discrete_apart instance c b index own is at = at
discrete_apart (set_of d n) c b index own is at = at
discrete_apart (range q l h) c b index own is at = let parent = inner_bounds (bounds_of q) l h c is in discrete_apart q parent.0 b index own parent.1 at
discrete_apart (powerset m) c b index own is at = at
discrete_apart (chars n) c b index own is at = let no : ⊥ = cc in no
discrete_apart (array i e how) c b index own is at = let no : ⊥ = cc in no
discrete_apart (structure fs p) c b index own is at = at
discrete_apart (event l) c b index own is at = at
discrete_apart (buffer l e) c b index own is at = at
discrete_apart (read m) c b index own is at = discrete_apart m c b index own is at
discrete_apart (named d n m) c b index own is at = discrete_apart m c b index own is at

-- the elements that bounds tell lie in what is indexed
pub record LiesInside (m index own : ModeTree) (b : Bounds) : Type 0 where
  pub fits : IsTrue (parts_fit index)
  pub one : scalars_of index ≡ 1
  pub ints : IsTrue (are_ints b)
  pub inside : count_between b.low b.high * scalars_of own ≤ scalars_of m

text_count : (n : ℕ) → count_between (pos 0) (pos n -ℤ pos 1) ≤ n
text_count n = by (pos n -ℤ pos 1 -ℤ pos 0 +ℤ pos 1) refl
  where
    by : (w : ℤ) → (pos n -ℤ pos 1 -ℤ pos 0 +ℤ pos 1) ≡ w → min (natural_of w) 18446744073709551615 ≤ n
    by (pos k) e = let same : k ≤ n = omega (arith, ints, e) in omega (arith, same)
    by (negsuc k) e = omega arith

text_ints : (n : ℕ) → n ≤ 256 → IsTrue (are_ints (record { low = pos 0; high = pos n -ℤ pos 1 }))
text_ints n few =
    of_both (is_int (pos 0)) (is_int (pos n -ℤ pos 1)) (int_between (pos 0) (omega (arith, ints)) (omega (arith, ints)))
    (int_between (pos n -ℤ pos 1) (let least : neg_ℤ (pos 2147483648) ≤ℤ (pos n -ℤ pos 1) = omega (arith, ints) in least) (let most : (pos n -ℤ pos 1) ≤ℤ pos 2147483647 = omega (arith, ints, few) in most))

pub element_inside : (m : ModeTree) (b : Bounds) (index own : ModeTree) → IsTrue (parts_fit m) → IsIndexed (form_of m) b index own → LiesInside m index own b
element_inside (array i e how) b index own p at =
    let inner = both (parts_fit i) (is_from_to 1 4096 (values_of i) && parts_fit e) p in
    let values : (1 ≤ values_of i) × (values_of i ≤ 4096) = values-from i (both (is_from_to 1 4096 (values_of i)) (parts_fit e) inner.1).0 in
    let size = counted i b at.1 in
    let low : 1 ≤ values_of i = values.0 in
    let some : 1 ≤ count_between b.low b.high = omega (arith, low, size) in
    let order : b.low ≤ℤ b.high = ordered b.low b.high some in
    record {
      fits = subst (λ (k : ModeTree). IsTrue (parts_fit k)) at.0 inner.0;
      one = sym (ap scalars_of at.0) ∙ discrete_one i b at.1;
      ints = own_ints i b inner.0 at.1 order;
      inside = subst (λ (k : ModeTree). count_between b.low b.high * scalars_of k ≤ values_of i * scalars_of e) at.2 (subst (λ (k : ℕ). k * scalars_of e ≤ values_of i * scalars_of e) size (omega arith));
    }
element_inside (chars n) b index own p at =
    let few = le-from n 256 p in
    let count = text_count n in
    subst (λ (k : Bounds). LiesInside (chars n) index own k) at.1
    (subst (λ (k : ModeTree). LiesInside (chars n) index k (record { low = pos 0; high = pos n -ℤ pos 1 })) at.2
    (record { fits = subst (λ (k : ModeTree). IsTrue (parts_fit k)) at.0 refl; one = sym (ap scalars_of at.0); ints = text_ints n few; inside = (let most : count_between (pos 0) (pos n -ℤ pos 1) * 1 ≤ scalars_of (chars n) = omega (arith, count) in most) }))
element_inside (range q l h) b index own p at = let there = parent_there (bounds_of q) l h (both _ _ p).1 in absurd (discrete_apart q there.0 b index own there.1 at)
element_inside (read m) b index own p at = let inner = element_inside m b index own p at in record { fits = inner.fits; one = inner.one; ints = inner.ints; inside = inner.inside }
element_inside (named d n m) b index own p at = let inner = element_inside m b index own p at in record { fits = inner.fits; one = inner.one; ints = inner.ints; inside = inner.inside }
element_inside int b index own p at = absurd at
element_inside boolean b index own p at = absurd at
element_inside char b index own p at = absurd at
element_inside instance b index own p at = absurd at
element_inside (set_of d n) b index own p at = absurd at
element_inside (powerset m) b index own p at = absurd at
element_inside (structure fs q) b index own p at = absurd at
element_inside (event l) b index own p at = absurd at
element_inside (buffer l e) b index own p at = absurd at
