-- The results of routines on values of their arguments' modes, and of what is measured, are values of the result's mode.
use Rattle.std.proofs.Common.{◌≡◌, ◌<◌, ◌≤◌, ℕ, zero, suc, ◌+◌, ◌&&◌, Bool, true, false, List, [], ◌∷◌, Option, Some, None, ℤ, pos, ◌≤ℤ◌, length, refl, sym, ap, ◌∙◌, subst, arith, true≢false}
use Rattle.std.specs.Prelude.{is_some, option_map, option_and_then, not, ◌+ℤ◌, ◌-ℤ◌, int_le, if◌then◌else◌}
use Rattle.scalar_operators.specs.Numbers.{magnitude}
use Rattle.modes.specs.declared.mode.Bounds.{Bounds}
use Rattle.modes.specs.ModeTree.{ModeTree, ClassTree, value, derived, null, nothing, int, boolean, char, instance, set_of, range, powerset, chars, array, structure, event, buffer, read, named}
use Rattle.modes.specs.Form.{FormTree, form_of, of_powerset, of_array}
use Rattle.modes.specs.Bounds.{bounds_of, bounds_in, values_of, count_within, count_between}
use Rattle.modes.specs.Language.{IsOfLanguage, parts_fit, is_from_to, lie_in}
use Rattle.modes.specs.Similar.{shape_of, like_int, like_powerset}
use Rattle.layout_map.specs.Spots.{spots_of, words_of}
use Rattle.checks_model.specs.Alike.{is_int, is_powerset, is_discrete, is_meeting, class_is, mode_in}
use Rattle.checks_model.specs.ValueTrees.{ValueTree, number, members, parts}
use Rattle.checks_model.specs.Ground.{Predefined, num, succ, pred, abs, card, min, max, upper, lower, size}
use Rattle.checks_model.specs.Operations.{when, their_class, form_in, member_class, class_of_routine, class_of_measure, measured_mode}
use Rattle.checks_model.specs.OperatorValues.{member_bounds, count_true, least_of, later_or, greatest_of, at_offset, up_to, down_to, class_bounds, value_of_routine, value_of_measure}
use Rattle.checks_model.specs.Classes.{class_of_measured, class_behind, class_of_call, Callee, calls, routine, no_callee, Measured, a_mode_of, misfit, other}
use Rattle.checks_model.specs.Constants.{value_routine, applied, value_of_call, value_of_measured}
use Rattle.elaborated_laws.specs.Known.{IsDeclarable}
use Rattle.elaborated_laws.specs.Classes.{HasDeclarable}
use Rattle.elaborated_laws.proofs.Told.{no_some, same_some, there_mapped, both_left, both_right}
use Rattle.elaborated_laws.proofs.Modes.{language_declarable}
use Rattle.elaborated_laws.proofs.Classes.{FormIs, inner_bounds, form_is}
use Rattle.there_laws.proofs.ConstantShapes.{of_when}
use Rattle.constant_laws.specs.Places.{are_possible}
use Rattle.constant_laws.specs.Values.{IsBetween, IsOfShape, IsOfMode, shape_in, FitsClass}
use Rattle.constant_laws.proofs.Numbers.{int_bounds, IsInside, inside, at_most, AreInOrder, bounds_fit, below, itself, offset_within, next_within, last_within, natural_within}
use Rattle.constant_laws.proofs.Shapes.{form_shape, shape_is, class_shape, mode_shape, tested_shape, int_shape, discrete_single, is_single, powerset_in, NumberIn, a_number, of_number, bounded_single, own_root, rooted_shape, rooted_int}
use Rattle.constant_laws.proofs.Operators.{IntIn, in_int_fits, int_fits, of_choice, when_holds}
use Rattle.constant_laws.proofs.Sizes.{few_words}

-- ---- modes that a location may have

-- one of values has parts that fit
pub valued_parts : (m : ModeTree) → IsDeclarable m → not (is_meeting (form_of m)) ≡ true → parts_fit m ≡ true
valued_parts (event l) fits valued = absurd (true≢false (sym valued))
valued_parts (buffer l e) fits valued = absurd (true≢false (sym valued))
valued_parts (named d n m) fits valued = valued_parts m fits valued
valued_parts m fits valued = fits.parts

-- and is of the language
pub valued_language : (m : ModeTree) → IsDeclarable m → not (is_meeting (form_of m)) ≡ true → IsOfLanguage m
valued_language (event l) fits valued = absurd (true≢false (sym valued))
valued_language (buffer l e) fits valued = absurd (true≢false (sym valued))
valued_language (named d n m) fits valued = let own = valued_language m fits valued in record { parts = own.parts; size = own.size }
valued_language m fits valued = fits

-- a mode with bounds is one of values
bounded_valued : (m : ModeTree) (b : Bounds) → bounds_of m ≡ Some b → not (is_meeting (form_of m)) ≡ true
bounded_valued (event l) b is = no_some b is
bounded_valued (buffer l e) b is = no_some b is
bounded_valued (read m) b is = bounded_valued m b is
bounded_valued (named d n m) b is = bounded_valued m b is
bounded_valued (range p l h) b is = let there = inner_bounds (bounds_of p) l h b is in bounded_valued p there.0 there.1
bounded_valued m b is = refl

pub declared_bounds : (m : ModeTree) (b : Bounds) → IsDeclarable m → bounds_of m ≡ Some b → AreInOrder b
declared_bounds m b fits is = bounds_fit m b (valued_parts m fits (bounded_valued m b is)) is

class_order : (c : ClassTree) (b : Bounds) → HasDeclarable c → class_bounds c ≡ Some b → AreInOrder b
class_order (value m) b fits is = declared_bounds m b fits is
class_order (derived m) b fits is = declared_bounds m b fits is
class_order null b fits is = no_some b is
class_order nothing b fits is = no_some b is

-- a powerset has few members
abbrev FewMembers : FormTree → Type 0
FewMembers (of_powerset e) = values_of e ≤ 32
FewMembers f = Unit {0}

members_few : (m : ModeTree) → parts_fit m ≡ true → FewMembers (form_of m)
members_few (powerset e) fits = (at_most 32 (values_of e) (both_right (parts_fit e) (is_from_to 1 32 (values_of e)) fits)).1
members_few (range p l h) fits = members_few p (both_left (parts_fit p) (lie_in l h (bounds_of p)) fits)
members_few (read m) fits = members_few m fits
members_few (named d n m) fits = members_few m fits
members_few m fits = tt

declared_few : (m : ModeTree) → IsDeclarable m → FewMembers (form_of m)
declared_few (event l) fits = tt
declared_few (buffer l e) fits = tt
declared_few (named d n m) fits = declared_few m fits
declared_few m fits = members_few m fits.parts

class_few : (c : ClassTree) (e : ModeTree) → HasDeclarable c → form_in c ≡ Some (of_powerset e) → values_of e ≤ 32
class_few (value m) e fits is = subst FewMembers (same_some (form_of m) (of_powerset e) is) (declared_few m fits)
class_few (derived m) e fits is = subst FewMembers (same_some (form_of m) (of_powerset e) is) (declared_few m fits)
class_few null e fits is = no_some (of_powerset e) is
class_few nothing e fits is = no_some (of_powerset e) is

-- ---- numbers of discrete classes

-- a discrete class's value is a number within its bounds
record DiscreteIn (k : ClassTree) (v : ValueTree) : Type 0 where
  bounds : Bounds
  are : class_bounds k ≡ Some bounds
  own : ℤ
  is : v ≡ number own
  between : IsBetween (Some bounds) own
  single : is_single (shape_in k) ≡ true

discrete_bounds : (m : ModeTree) → is_discrete (form_of m) ≡ true → is_some (bounds_of m) ≡ true
discrete_bounds int is = refl
discrete_bounds boolean is = refl
discrete_bounds char is = refl
discrete_bounds (set_of d n) is = refl
discrete_bounds (range p l h) is = kept (bounds_of p) (discrete_bounds p is)
  where
    kept : (k : Option Bounds) → is_some k ≡ true → is_some (bounds_in k l h) ≡ true
    kept (Some b) there = refl
    kept None there = absurd (true≢false (sym there))
discrete_bounds (read m) is = discrete_bounds m is
discrete_bounds (named d n m) is = discrete_bounds m is
discrete_bounds m is = absurd (true≢false (sym is))

mode_discrete : (m : ModeTree) (v : ValueTree) (k : Option Bounds) → bounds_of m ≡ k → is_some k ≡ true → is_discrete (form_of m) ≡ true → IsOfMode m v → (b : Bounds) × ((bounds_of m ≡ Some b) × NumberIn (Some b) v)
mode_discrete m v (Some b) at there is fits = (b, (at, a_number (Some b) (shape_of m) v (ap is_single (shape_is m) ∙ discrete_single (form_of m) is) (subst (λ k. IsOfShape k (shape_of m) v) at fits)))
mode_discrete m v None at there is fits = absurd (true≢false (sym there))

of_discrete : (k : ClassTree) (m : ModeTree) (v : ValueTree) → mode_in k ≡ Some m → is_discrete (form_of m) ≡ true → IsOfMode m v → class_bounds k ≡ bounds_of m → DiscreteIn k v
of_discrete k m v has is fits same =
    let d = mode_discrete m v (bounds_of m) refl (discrete_bounds m is) is fits in
    record { bounds = d.0; are = same ∙ d.1.0; own = d.1.1.own; is = d.1.1.is; between = d.1.1.between; single = ap is_single (mode_shape k m has) ∙ (ap is_single (shape_is m) ∙ discrete_single (form_of m) is) }

discrete_in : (k : ClassTree) (v : ValueTree) → class_is is_discrete k ≡ true → FitsClass k v → DiscreteIn k v
discrete_in (value m) v is fits = of_discrete (value m) m v refl is fits refl
discrete_in (derived m) v is fits = of_discrete (derived m) m v refl is fits refl
discrete_in null v is fits = absurd (true≢false (sym is))
discrete_in nothing v is fits = absurd (true≢false (sym is))

-- a number within the bounds of such a class
number_fits : (k : ClassTree) (b : Bounds) (z : ℤ) (x : ValueTree) → class_bounds k ≡ Some b → is_single (shape_in k) ≡ true → IsBetween (Some b) z → number z ≡ x → FitsClass k x
number_fits k b z x are single is same = subst (λ y. FitsClass k y) same (of_number (class_bounds k) (shape_in k) z single (subst (λ j. IsBetween j z) (sym are) is))

up_in : (b : Bounds) (z : ℤ) (x : ValueTree) → IsBetween (Some b) z → up_to (Some b) z ≡ Some x → IsBetween (Some b) (z +ℤ pos 1) × (number (z +ℤ pos 1) ≡ x)
up_in b z x is made = by (int_le b.high z) refl made
  where
    by : (t : Bool) → int_le b.high z ≡ t → (if t then None else Some (number (z +ℤ pos 1))) ≡ Some x → IsBetween (Some b) (z +ℤ pos 1) × (number (z +ℤ pos 1) ≡ x)
    by true at made = no_some x made
    by false at made = (next_within b z is at, same_some (number (z +ℤ pos 1)) x made)

down_in : (b : Bounds) (z : ℤ) (x : ValueTree) → IsBetween (Some b) z → down_to (Some b) z ≡ Some x → IsBetween (Some b) (z -ℤ pos 1) × (number (z -ℤ pos 1) ≡ x)
down_in b z x is made = by (int_le z b.low) refl made
  where
    by : (t : Bool) → int_le z b.low ≡ t → (if t then None else Some (number (z -ℤ pos 1))) ≡ Some x → IsBetween (Some b) (z -ℤ pos 1) × (number (z -ℤ pos 1) ≡ x)
    by true at made = no_some x made
    by false at made = (last_within b z is at, same_some (number (z -ℤ pos 1)) x made)

-- ---- members

counted : (bs : List Bool) → count_true bs ≤ length bs
counted [] = omega arith
counted (true ∷ bs) = let rest = counted bs in omega (arith, rest)
counted (false ∷ bs) = let rest = counted bs in omega (arith, rest)

least_below : (bs : List Bool) (k : ℕ) → least_of bs ≡ Some k → k < length bs
least_below [] k is = no_some k is
least_below (true ∷ bs) k is = let same = same_some 0 k is in omega (arith, same)
least_below (false ∷ bs) k is = let there = there_mapped suc (least_of bs) k is in let rest = least_below bs there.0 there.1 in let same = there.2 in omega (arith, rest, same)

first_below : (b : Bool) (n k : ℕ) → later_or None b ≡ Some k → k < suc n
first_below true n k is = let same = same_some 0 k is in omega (arith, same)
first_below false n k is = no_some k is

later_below : (g : Option ℕ) (b : Bool) (n k : ℕ) → ((j : ℕ) → g ≡ Some j → j < n) → later_or g b ≡ Some k → k < suc n
later_below (Some j) b n k less is = let rest = less j refl in let same = same_some (suc j) k is in omega (arith, rest, same)
later_below None b n k less is = first_below b n k is

greatest_below : (bs : List Bool) (k : ℕ) → greatest_of bs ≡ Some k → k < length bs
greatest_below [] k is = no_some k is
greatest_below (b ∷ bs) k is = later_below (greatest_of bs) b (length bs) k (λ j at. greatest_below bs j at) is

-- the value of a powerset's member
offset_fits : (f : Option FormTree) (o : Option ℕ) (bs : List Bool) (c : ClassTree) (x : ValueTree) → ((m : ModeTree) → f ≡ Some (of_powerset m) → length bs ≡ count_within (bounds_of m)) → ((k : ℕ) → o ≡ Some k → k < length bs)
    → member_class f ≡ Some c → at_offset (member_bounds f) o ≡ Some x → FitsClass c x
offset_fits (Some (of_powerset m)) o bs c x long less is made = subst (λ k. FitsClass k x) (same_some (value m) c is) (by (bounds_of m) o refl refl made)
  where
    by : (b : Option Bounds) (j : Option ℕ) → bounds_of m ≡ b → o ≡ j → at_offset b j ≡ Some x → IsOfMode m x
    by (Some b) (Some j) at is made =
        let count : length bs ≡ count_between b.low b.high = long m refl ∙ ap count_within at in
        let first = less j is in
        let within = offset_within b j (omega (arith, first, count)) in
        subst (λ y. IsOfMode m y) (same_some (number (b.low +ℤ pos j)) x made) (of_number (bounds_of m) (shape_of m) (b.low +ℤ pos j) (bounded_single m b at) (subst (λ k. IsBetween k (b.low +ℤ pos j)) (sym at) within))
    by None j at is made = no_some x made
    by (Some b) None at is made = no_some x made
offset_fits f o bs c x long less is made = no_some c is

members_long : (k : ClassTree) (bs : List Bool) → FitsClass k (members bs) → (m : ModeTree) → form_in k ≡ Some (of_powerset m) → length bs ≡ count_within (bounds_of m)
members_long k bs fits m is = subst (λ s. IsOfShape (class_bounds k) s (members bs)) (class_shape k (of_powerset m) is) fits

-- ---- routines

of_int_class : (c : ClassTree) (x : ValueTree) (z : ℤ) → derived int ≡ c → IsBetween (Some int_bounds) z → number z ≡ x → FitsClass c x
of_int_class c x z is within same = subst (λ k. FitsClass k x) is (int_fits (derived int) x refl refl (record { own = z; is = sym same; between = within }))

card_fits : (k c : ClassTree) (bs : List Bool) (x : ValueTree) → HasDeclarable k → class_is is_powerset k ≡ true → derived int ≡ c → FitsClass k (members bs) → number (pos (count_true bs)) ≡ x → FitsClass c x
card_fits k c bs x declared set is fits same =
    let p = powerset_in k set in
    let long = members_long k bs fits p.mode p.form in
    let few : count_within (bounds_of p.mode) ≤ 32 = class_few k p.mode declared p.form in
    let count = counted bs in
    of_int_class c x (pos (count_true bs)) is (natural_within (count_true bs) (omega (arith, long, few, count))) same

pub routine_fits : (p : Predefined) (k c : ClassTree) (v x : ValueTree) → HasDeclarable k → class_of_routine p k ≡ Some c → FitsClass k v → value_of_routine p k v ≡ Some x → FitsClass c x
routine_fits num k c (number n) x declared is fits made =
    let d = discrete_in k (number n) (when_holds (class_is is_discrete k) (derived int) c is) fits in
    let order = class_order k d.bounds declared d.are in
    of_int_class c x d.own (of_when (class_is is_discrete k) (derived int) c is) (inside d.bounds int_bounds d.own order.within d.between) (sym d.is ∙ same_some (number n) x made)
routine_fits succ k c (number n) x declared is fits made =
    let d = discrete_in k (number n) (when_holds (class_is is_discrete k) k c is) fits in
    let up = up_in d.bounds d.own x d.between (subst (λ j. up_to j d.own ≡ Some x) d.are (subst (λ (y : ValueTree). value_of_routine succ k y ≡ Some x) d.is made)) in
    subst (λ y. FitsClass y x) (of_when (class_is is_discrete k) k c is) (number_fits k d.bounds (d.own +ℤ pos 1) x d.are d.single up.0 up.1)
routine_fits pred k c (number n) x declared is fits made =
    let d = discrete_in k (number n) (when_holds (class_is is_discrete k) k c is) fits in
    let down = down_in d.bounds d.own x d.between (subst (λ j. down_to j d.own ≡ Some x) d.are (subst (λ (y : ValueTree). value_of_routine pred k y ≡ Some x) d.is made)) in
    subst (λ y. FitsClass y x) (of_when (class_is is_discrete k) k c is) (number_fits k d.bounds (d.own -ℤ pos 1) x d.are d.single down.0 down.1)
routine_fits abs k c (number n) x declared is fits made =
    let own = of_choice (class_is is_int k) (their_class k k) c is in
    let rooted = own_root k c own.1 in
    let shape = tested_shape is_int like_int k int_shape own.0 in
    int_fits c x (rooted_shape k c rooted ∙ shape) (rooted_int k c rooted shape) (in_int_fits (magnitude n) x made)
routine_fits card k c (members bs) x declared is fits made =
    card_fits k c bs x declared (when_holds (class_is is_powerset k) (derived int) c is) (of_when (class_is is_powerset k) (derived int) c is) fits (same_some (number (pos (count_true bs))) x made)
routine_fits min k c (members bs) x declared is fits made = offset_fits (form_in k) (least_of bs) bs c x (members_long k bs fits) (least_below bs) is made
routine_fits max k c (members bs) x declared is fits made = offset_fits (form_in k) (greatest_of bs) bs c x (members_long k bs fits) (greatest_below bs) is made
routine_fits p k c v x declared is fits made = no_some x made

-- ---- what is measured

-- a mode that may be measured is one that a location may have, and no place in it is impossible
pub record IsMeasuredWell (m : ModeTree) : Type 0 where
  pub declarable : IsDeclarable m
  pub possible : are_possible m ≡ true

abbrev pub MeasuresWell : Measured → Type 0
MeasuresWell (a_mode_of (Some m)) = IsMeasuredWell m
MeasuresWell m = Unit {0}

bound_fits : (m : ModeTree) (b : Bounds) (z : ℤ) (c : ClassTree) (x : ValueTree) → bounds_of m ≡ Some b → IsBetween (Some b) z → derived m ≡ c → number z ≡ x → FitsClass c x
bound_fits m b z c x at within is same = subst (λ k. FitsClass k x) is (number_fits (derived m) b z x at (bounded_single m b at) within same)

measured_declarable : (m : ModeTree) → IsDeclarable m → IsDeclarable (measured_mode m (form_of m))
measured_declarable m fits = by (form_of m) (form_is m fits)
  where
    by : (f : FormTree) → FormIs f → IsDeclarable (measured_mode m f)
    by (of_array i e how) own = language_declarable i own.0
    by f own = fits

upper_fits : (m : ModeTree) (c : ClassTree) (x : ValueTree) → IsDeclarable m → when (is_some (bounds_of m)) (derived m) ≡ Some c → option_map (λ b. number b.high) (bounds_of m) ≡ Some x → FitsClass c x
upper_fits m c x fits is made =
    let there = there_mapped (λ (b : Bounds). number b.high) (bounds_of m) x made in
    let order = declared_bounds m there.0 fits there.1 in
    bound_fits m there.0 there.0.high c x there.1 (order.ordered, itself there.0.high) (of_when (is_some (bounds_of m)) (derived m) c is) there.2

lower_fits : (m : ModeTree) (c : ClassTree) (x : ValueTree) → IsDeclarable m → when (is_some (bounds_of m)) (derived m) ≡ Some c → option_map (λ b. number b.low) (bounds_of m) ≡ Some x → FitsClass c x
lower_fits m c x fits is made =
    let there = there_mapped (λ (b : Bounds). number b.low) (bounds_of m) x made in
    let order = declared_bounds m there.0 fits there.1 in
    bound_fits m there.0 there.0.low c x there.1 (itself there.0.low, order.ordered) (of_when (is_some (bounds_of m)) (derived m) c is) there.2

measure_fits : (p : Predefined) (m : ModeTree) (c : ClassTree) (x : ValueTree) → IsMeasuredWell m → class_of_measure p m ≡ Some c → value_of_measure p m ≡ Some x → FitsClass c x
measure_fits upper m c x well is made = upper_fits (measured_mode m (form_of m)) c x (measured_declarable m well.declarable) is made
measure_fits lower m c x well is made = lower_fits (measured_mode m (form_of m)) c x (measured_declarable m well.declarable) is made
measure_fits size m c x well is made =
    let valued = when_holds (not (is_meeting (form_of m))) (derived int) c is in
    of_int_class c x (pos (words_of (spots_of m))) (of_when (not (is_meeting (form_of m))) (derived int) c is)
    (natural_within (words_of (spots_of m)) (few_words m (valued_language m well.declarable valued) well.possible)) (same_some (number (pos (words_of (spots_of m)))) x made)
measure_fits p m c x well is made = no_some x made

pub measured_fits : (p : Predefined) (m : Measured) (c : ClassTree) (x : ValueTree) → MeasuresWell m → class_of_measured p m ≡ Some c → value_of_measured p m ≡ Some x → FitsClass c x
measured_fits p (a_mode_of (Some m)) c x well is made = measure_fits p m c x well is made
measured_fits p (a_mode_of None) c x well is made = no_some c is
measured_fits p misfit c x well is made = no_some c is
measured_fits p other c x well is made = no_some c is
