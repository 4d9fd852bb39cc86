-- The mode that a text writes is one that a location may have.
use Rattle.std.proofs.lemmas.Int.{ints}
use Rattle.std.proofs.Common.{◌≡◌, ℕ, zero, suc, ◌+◌, ◌/◌, ◌≤◌, nat_le, le-leb, Bool, true, false, List, [], ◌∷◌, ◌++◌, length, ℤ, pos, negsuc, ◌+ℤ◌, ◌-ℤ◌, neg_ℤ, int_le, Option, Some, None, true≢false, arith, refl, sym, ap, ◌∙◌, subst}
use Rattle.std.specs.Prelude.{IsSome, IsTrue, is_some, option_map, option_and_then, not, ◌&&◌, ◌||◌, if◌then◌else◌, nat_lt, max, min}
use Rattle.chill_base.specs.declared.pos.Pos.{Pos}
use Rattle.chill_tree.specs.declared.tree.name.Name.{Name}
use Rattle.chill_tree.specs.ExprTree.{ExprTree, place_of}
use Rattle.chill_tree.specs.ModeTree as written
use Rattle.modes.specs.declared.mode.Bounds.{Bounds}
use Rattle.modes.specs.ModeTree.{ModeTree, ClassTree, int, boolean, char, instance, set_of, range, powerset, chars, array, structure, event, buffer, read, named, FieldNodes, no_fields, more_fields, PlaceTree, SpreadTree}
use Rattle.modes.specs.Form.{form_of}
use Rattle.modes.specs.Bounds.{bounds_of, bounds_in, values_of, count_within, count_between, natural_of}
use Rattle.modes.specs.Scalars.{leaves_of, numbers_of}
use Rattle.modes.specs.Language.{IsOfLanguage, parts_fit, fields_fit, is_filled, is_from_to, lie_in}
use Rattle.diagnostics.specs.declared.diagnostic.Diagnostic.{Diagnostic}
use Rattle.diagnostics.specs.declared.rule.Rule.TheVariants as rules
use Rattle.checks_model.specs.Alike.{is_discrete, is_meeting, of_form, goes_with}
use Rattle.checks_model.specs.Told.{tell_at, told_if, then_told, holds_of, holds_of_both}
use Rattle.checks_model.specs.ValueTrees.{ValueTree, number, members, parts}
use Rattle.checks_model.specs.Ground.{Ground, mode_of_name, number_at}
use Rattle.checks_model.specs.Classes.{class_of}
use Rattle.checks_model.specs.Constants.{has_form, constant_of}
use Rattle.checks_model.specs.ConstantRules.{by_itself, is_outside, told_of_constants, told_needed}
use Rattle.checks_model.specs.WrittenModes.{number_in, needed_number, from_to, told_length, length_of, some_length_of, bound_misfits, told_bound, told_bounds, is_above, told_range, range_from, range_of, is_meeting_name, told_name, named_mode_in, told_not_discrete, told_discrete_name, discrete_name, told_of_discrete, set_named, mode_of_discrete, first_place_of, is_large_powerset, told_of_powerset, has_index_values, told_of_index, mode_of_index, spread_there, told_spread, is_large, told_large, array_from, told_at_array, FieldThere, have_places, held_place, field_from, fields_from, is_packed, structure_from, told_fields, told_at_structure, fields_named, mode_of_base, fields_there, buffer_from, if_whole, mode_of}
use Rattle.table_laws.specs.Names.{names_in, names_in_discrete, names_in_index, names_in_some_place, names_in_spread, names_in_base, names_in_fields, names_in_some}
use Rattle.elaborated_laws.specs.Known.{IsDeclarable, IsModeFor, IsKnownName, AreKnown}
use Rattle.elaborated_laws.specs.Modes.{IsWrittenDiscrete, has_name, IsWrittenBase, AreWritten, IsWritten, WrittenModeLaw}
use Rattle.elaborated_laws.proofs.Told.{none_first, none_later, none_inside, none_then, not_broken, not_true, both_left, both_right, of_both, not_second, neither_left, neither_right, not_above, no_some, same_some, there_mapped, there_chained, unless_none, unless_there}
use Rattle.elaborated_laws.proofs.Constants.{known_first, known_later, class_there}

-- ---- modes of the language

one_scalar : 1 ≤ 4096
one_scalar = omega arith

pub language_declarable : (m : ModeTree) → IsOfLanguage m → IsDeclarable m
language_declarable int fits = fits
language_declarable boolean fits = fits
language_declarable char fits = fits
language_declarable instance fits = fits
language_declarable (set_of d n) fits = fits
language_declarable (range p l h) fits = fits
language_declarable (powerset m) fits = fits
language_declarable (chars n) fits = fits
language_declarable (array i e how) fits = fits
language_declarable (structure fs p) fits = fits
language_declarable (event l) fits = tt
language_declarable (buffer l e) fits = absurd (true≢false (sym fits.parts))
language_declarable (read m) fits = fits
language_declarable (named d n m) fits = language_declarable m (record { parts = fits.parts; size = fits.size })

pub declarable_language : (m : ModeTree) → IsDeclarable m → is_meeting (form_of m) ≡ false → IsOfLanguage m
declarable_language int fits none = fits
declarable_language boolean fits none = fits
declarable_language char fits none = fits
declarable_language instance fits none = fits
declarable_language (set_of d n) fits none = fits
declarable_language (range p l h) fits none = fits
declarable_language (powerset m) fits none = fits
declarable_language (chars n) fits none = fits
declarable_language (array i e how) fits none = fits
declarable_language (structure fs p) fits none = fits
declarable_language (event l) fits none = absurd (true≢false none)
declarable_language (buffer l e) fits none = absurd (true≢false none)
declarable_language (read m) fits none = fits
declarable_language (named d n m) fits none = let known = declarable_language m fits none in record { parts = known.parts; size = known.size }

fits_for : (whole : Bool) (m : ModeTree) → IsOfLanguage m → IsModeFor whole m
fits_for true m fits = language_declarable m fits
fits_for false m fits = fits

-- ---- bounds

abbrev limits : ℤ → ℤ → Bounds
limits l h = record { low = l; high = h }

discrete_bounds : (m : ModeTree) → is_discrete (form_of m) ≡ true → (b : Bounds) × (bounds_of m ≡ Some b)
discrete_bounds int is = (limits (neg_ℤ (pos 2147483648)) (pos 2147483647), refl)
discrete_bounds boolean is = (limits (pos 0) (pos 1), refl)
discrete_bounds char is = (limits (pos 0) (pos 255), refl)
discrete_bounds instance is = absurd (true≢false (sym is))
discrete_bounds (set_of d n) is = (limits (pos 0) (pos n -ℤ pos 1), refl)
discrete_bounds (range p l h) is = let parent = discrete_bounds p is in (limits l h, ap (λ b. bounds_in b l h) parent.1)
discrete_bounds (powerset m) is = absurd (true≢false (sym is))
discrete_bounds (chars n) is = absurd (true≢false (sym is))
discrete_bounds (array i e how) is = absurd (true≢false (sym is))
discrete_bounds (structure fs p) is = absurd (true≢false (sym is))
discrete_bounds (event l) is = absurd (true≢false (sym is))
discrete_bounds (buffer l e) is = absurd (true≢false (sym is))
discrete_bounds (read m) is = discrete_bounds m is
discrete_bounds (named d n m) is = discrete_bounds m is

abbrev in_order : Bounds → Bool
in_order b = int_le b.low b.high

set_ordered : (n : ℕ) → is_from_to 1 4096 n ≡ true → int_le (pos 0) (pos n -ℤ pos 1) ≡ true
set_ordered zero fits = absurd (true≢false (sym fits))
set_ordered (suc n) fits = grind (arith, ints)

range_ordered : (k : Option Bounds) (l h : ℤ) (b : Bounds) → lie_in l h k ≡ true → bounds_in k l h ≡ Some b → in_order b ≡ true
range_ordered None l h b fits is = no_some b is
range_ordered (Some c) l h b fits is = ap in_order (sym (same_some (limits l h) b is)) ∙ both_left (int_le l h) (int_le c.low l && int_le h c.high) fits

pub bounds_ordered : (m : ModeTree) (b : Bounds) → IsTrue (parts_fit m) → bounds_of m ≡ Some b → in_order b ≡ true
bounds_ordered int b fits is = ap in_order (sym (same_some (limits (neg_ℤ (pos 2147483648)) (pos 2147483647)) b is))
bounds_ordered boolean b fits is = ap in_order (sym (same_some (limits (pos 0) (pos 1)) b is))
bounds_ordered char b fits is = ap in_order (sym (same_some (limits (pos 0) (pos 255)) b is))
bounds_ordered instance b fits is = no_some b is
bounds_ordered (set_of d n) b fits is = ap in_order (sym (same_some (limits (pos 0) (pos n -ℤ pos 1)) b is)) ∙ set_ordered n fits
bounds_ordered (range p l h) b fits is = range_ordered (bounds_of p) l h b (both_right (parts_fit p) (lie_in l h (bounds_of p)) fits) is
bounds_ordered (powerset m) b fits is = no_some b is
bounds_ordered (chars n) b fits is = no_some b is
bounds_ordered (array i e how) b fits is = no_some b is
bounds_ordered (structure fs p) b fits is = no_some b is
bounds_ordered (event l) b fits is = no_some b is
bounds_ordered (buffer l e) b fits is = no_some b is
bounds_ordered (read m) b fits is = bounds_ordered m b fits is
bounds_ordered (named d n m) b fits is = bounds_ordered m b fits is

positive : (d : ℤ) → int_le (pos 1) d ≡ true → 1 ≤ min (natural_of d) 18446744073709551615
positive (pos zero) up = absurd (true≢false (sym up))
positive (pos (suc n)) up = omega arith
positive (negsuc n) up = absurd (true≢false (sym up))

count_positive : (l h : ℤ) → int_le l h ≡ true → 1 ≤ count_between l h
count_positive l h up = positive (h -ℤ l +ℤ pos 1) (let e : int_le (pos 1) (h -ℤ l +ℤ pos 1) ≡ true = grind (arith, ints, up) in e)

pub values_positive : (m : ModeTree) → IsTrue (parts_fit m) → is_discrete (form_of m) ≡ true → 1 ≤ values_of m
values_positive m fits is =
    let b = discrete_bounds m is in
    subst (λ k. 1 ≤ count_within k) (sym b.1) (count_positive b.0.low b.0.high (bounds_ordered m b.0 fits b.1))

-- ---- names of modes

not_meeting : (g : Ground) (n : Name) (m : ModeTree) → IsKnownName g n → mode_of_name g n ≡ Some m → told_name g false n ≡ [] → IsOfLanguage m
not_meeting g n m modes known none = declarable_language m (modes.mode m known) (ap (of_form is_meeting) (sym known) ∙ not_broken (is_meeting_name g n) (tell_at rules.M8 n.at) none)

name_fits : (g : Ground) (whole : Bool) (n : Name) (m : ModeTree) → IsKnownName g n → named_mode_in g whole n ≡ Some m → IsModeFor whole m
name_fits g true n m modes is = modes.mode m (unless_there (told_name g true n) (mode_of_name g n) m is)
name_fits g false n m modes is = not_meeting g n m modes (unless_there (told_name g false n) (mode_of_name g n) m is) (unless_none (told_name g false n) (mode_of_name g n) m is)

-- a discrete mode of the language
record IsDiscreteMode (m : ModeTree) : Type 0 where
  language : IsOfLanguage m
  discrete : is_discrete (form_of m) ≡ true

discrete_told : (k : Option ModeTree) (m : ModeTree) (at : Pos) → k ≡ Some m → told_not_discrete k at ≡ [] → is_discrete (form_of m) ≡ true
discrete_told k m at is none =
    not_true (is_discrete (form_of m)) (ap (holds_of (λ m. not (is_discrete (form_of m)))) (sym is) ∙ not_broken (holds_of (λ m. not (is_discrete (form_of m))) k) (tell_at rules.M4 at) none)

discrete_name_fits : (g : Ground) (n : Name) (m : ModeTree) → IsKnownName g n → told_discrete_name g n ≡ [] → mode_of_name g n ≡ Some m → IsDiscreteMode m
discrete_name_fits g n m modes none known = record {
  language = not_meeting g n m modes known (none_inside (told_name g false n) (told_not_discrete (mode_of_name g n) n.at) none);
  discrete = discrete_told (mode_of_name g n) m n.at known (none_then (told_name g false n) (told_not_discrete (mode_of_name g n) n.at) none);
}

-- ---- numbers in modes

number_is : (v : ValueTree) (z : ℤ) → number_in v ≡ Some z → v ≡ number z
number_is (number k) z is = ap number (same_some k z is)
number_is (members bs) z is = no_some z is
number_is (parts vs) z is = no_some z is

needed_is : (g : Ground) (e : ExprTree) (z : ℤ) → needed_number g e ≡ Some z → constant_of g e ≡ Some (number z)
needed_is g e z is =
    let there = there_chained number_in (constant_of g e) z (unless_there (told_needed g e) (option_and_then number_in (constant_of g e)) z is) in
    there.1 ∙ ap Some (number_is there.0 z there.2)

needed_class : (g : Ground) (e : ExprTree) (z : ℤ) → AreKnown g (names_in e) → told_needed g e ≡ [] → constant_of g e ≡ Some (number z) → IsSome (class_of g e)
needed_class g e z names clean is =
    let no_form = told_if (not (has_form g false e)) (tell_at rules.M1 (place_of e)) in
    class_there g by_itself false None e names (none_inside (told_of_constants g e) no_form clean)
    (not_true (has_form g false e) (not_broken (not (has_form g false e)) (tell_at rules.M1 (place_of e)) (none_then (told_of_constants g e) no_form clean))) (ap is_some is)

inside_bounds : (p : ModeTree) (c : Option ClassTree) (v : Option ValueTree) (b : Bounds) (z : ℤ) → IsSome c → bounds_of p ≡ Some b → v ≡ Some (number z)
    → (holds_of (λ c. not (goes_with c p)) c || (holds_of (λ c. goes_with c p) c && holds_of (is_outside (bounds_of p)) v)) ≡ false
    → (int_le b.low z && int_le z b.high) ≡ true
inside_bounds p None v b z there bounds is fits = absurd (true≢false (sym there))
inside_bounds p (Some c) v b z there bounds is fits =
    let out = holds_of (is_outside (bounds_of p)) v in
    let goes = not_true (goes_with c p) (neither_left (not (goes_with c p)) (goes_with c p && out) fits) in
    let none = not_second (goes_with c p) out goes (neither_right (not (goes_with c p)) (goes_with c p && out) fits) in
    not_true (int_le b.low z && int_le z b.high)
    (ap (λ k. holds_of (is_outside k) (Some (number z))) (sym bounds) ∙ ap (holds_of (is_outside (bounds_of p))) (sym is) ∙ none)

bound_inside : (g : Ground) (e : ExprTree) (p : ModeTree) (b : Bounds) (z : ℤ) → AreKnown g (names_in e) → bounds_of p ≡ Some b → told_bound g (Some p) e ≡ [] → needed_number g e ≡ Some z → (int_le b.low z && int_le z b.high) ≡ true
bound_inside g e p b z names bounds none is =
    let misfit = told_if (bound_misfits g e p) (tell_at rules.M3 (place_of e)) in
    let value = needed_is g e z is in
    inside_bounds p (class_of g e) (constant_of g e) b z (needed_class g e z names (none_inside (told_needed g e) misfit none) value) bounds value
    (not_broken (bound_misfits g e p) (tell_at rules.M3 (place_of e)) (none_then (told_needed g e) misfit none))

-- ---- ranges

record RangeParts (p : ModeTree) (x y : Option ℤ) (m : ModeTree) : Type 0 where
  low : ℤ
  high : ℤ
  of_low : x ≡ Some low
  of_high : y ≡ Some high
  whole : range p low high ≡ m

range_parts : (p : ModeTree) (x y : Option ℤ) (m : ModeTree) → range_from (Some p) x y ≡ Some m → RangeParts p x y m
range_parts p (Some a) (Some b) m is = record { low = a; high = b; of_low = refl; of_high = refl; whole = same_some (range p a b) m is }
range_parts p (Some a) None m is = no_some m is
range_parts p None (Some b) m is = no_some m is
range_parts p None None m is = no_some m is

lies : (l h : ℤ) (k : Option Bounds) (b : Bounds) → k ≡ Some b → int_le l h ≡ true → (int_le b.low l && int_le l b.high) ≡ true → (int_le b.low h && int_le h b.high) ≡ true → lie_in l h k ≡ true
lies l h k b is up first last =
    ap (lie_in l h) is ∙ of_both (int_le l h) (int_le b.low l && int_le h b.high) up
    (of_both (int_le b.low l) (int_le h b.high) (both_left (int_le b.low l) (int_le l b.high) first) (both_right (int_le b.low h) (int_le h b.high) last))

order_told : (x y : Option ℤ) (l h : ℤ) → x ≡ Some l → y ≡ Some h → holds_of_both is_above x y ≡ false → int_le l h ≡ true
order_told x y l h of_low of_high none =
    not_true (int_le l h) (ap (λ k. holds_of_both is_above k (Some h)) (sym of_low) ∙ ap (holds_of_both is_above x) (sym of_high) ∙ none)

range_there : (g : Ground) (p : ModeTree) (l h : ExprTree) (m : ModeTree) → AreKnown g (names_in l ++ names_in h) → IsDiscreteMode p → told_range g (Some p) l h ≡ [] → range_from (Some p) (needed_number g l) (needed_number g h) ≡ Some m → IsDiscreteMode m
range_there g p l h m names known none is =
    let ps = range_parts p (needed_number g l) (needed_number g h) m is in
    let above = holds_of_both is_above (needed_number g l) (needed_number g h) in
    let wrong = told_if above (tell_at rules.M2 (place_of l)) in
    let in_bounds = none_inside (told_bounds g (Some p) l h) wrong none in
    let up = order_told (needed_number g l) (needed_number g h) ps.low ps.high ps.of_low ps.of_high (not_broken above (tell_at rules.M2 (place_of l)) (none_then (told_bounds g (Some p) l h) wrong none)) in
    let b = discrete_bounds p known.discrete in
    let first = bound_inside g l p b.0 ps.low (known_first g (names_in l) (names_in h) names) b.1 (none_first (told_bound g (Some p) l) (told_bound g (Some p) h) in_bounds) ps.of_low in
    let last = bound_inside g h p b.0 ps.high (known_later g (names_in l) (names_in h) names) b.1 (none_later (told_bound g (Some p) l) (told_bound g (Some p) h) in_bounds) ps.of_high in
    subst IsDiscreteMode ps.whole
    (record {
      language = record {
        parts = of_both (parts_fit p) (lie_in ps.low ps.high (bounds_of p)) known.language.parts (lies ps.low ps.high (bounds_of p) b.0 b.1 up first last);
        size = one_scalar;
      };
      discrete = known.discrete;
    })

range_fits : (g : Ground) (p : Option ModeTree) (l h : ExprTree) (m : ModeTree) → AreKnown g (names_in l ++ names_in h) → ((q : ModeTree) → p ≡ Some q → IsDiscreteMode q) → range_of g p l h ≡ Some m → IsDiscreteMode m
range_fits g None l h m names known is = no_some m (unless_there (told_range g None l h) None m is)
range_fits g (Some p) l h m names known is =
    let made = range_from (Some p) (needed_number g l) (needed_number g h) in
    range_there g p l h m names (known p refl) (unless_none (told_range g (Some p) l h) made m is) (unless_there (told_range g (Some p) l h) made m is)

-- ---- where a discrete mode may stand

set_fits : (g : Ground) (ns : List Name) (m : ModeTree) → length ns ≤ 4096 → set_named g ns ≡ Some m → IsOfLanguage m
set_fits g [] m few is = no_some m is
set_fits g (n ∷ ns) m few is =
    let there = there_mapped (λ first. set_of first (length (n ∷ ns))) (number_at g.defined n.at) m is in
    subst IsOfLanguage there.2 (record { parts = of_both (nat_le 1 (length (n ∷ ns))) (nat_le (length (n ∷ ns)) 4096) (le-leb 1 (length (n ∷ ns)) (omega arith)) (le-leb (length (n ∷ ns)) 4096 few); size = one_scalar })

discrete_fits : (g : Ground) (whole : Bool) (d : written.DiscreteTree) (m : ModeTree) → AreKnown g (names_in_discrete d) → IsWrittenDiscrete d → mode_of_discrete g whole d ≡ Some m → IsModeFor whole m
discrete_fits g whole (written.named n) m names is_written is = name_fits g whole n m names.0 is
discrete_fits g whole (written.bounded n l h) m names is_written is =
    fits_for whole m (range_fits g (discrete_name g n) l h m names.1
    (λ q known. discrete_name_fits g n q names.0 (unless_none (told_discrete_name g n) (mode_of_name g n) q known) (unless_there (told_discrete_name g n) (mode_of_name g n) q known))
    is).language
discrete_fits g whole (written.set_of at ns) m names is_written is = fits_for whole m (set_fits g ns m is_written is)

-- ---- powersets

large_told : (k : Option ModeTree) (e : ModeTree) (at : Pos) → k ≡ Some e → told_if (holds_of is_large_powerset k) (tell_at rules.M5 at) ≡ [] → is_large_powerset e ≡ false
large_told k e at is none = ap (holds_of is_large_powerset) (sym is) ∙ not_broken (holds_of is_large_powerset k) (tell_at rules.M5 at) none

few_members : (v : ℕ) → 1 ≤ v → v ≤ 32 → is_from_to 1 32 v ≡ true
few_members v first last = of_both (nat_le 1 v) (nat_le v 32) (le-leb 1 v first) (le-leb v 32 last)

few_numbers : (v : ℕ) → v ≤ 32 → numbers_of v ≤ 4096
few_numbers v last = omega (arith, last)

powerset_fits : (g : Ground) (at : Pos) (d : written.DiscreteTree) (m : ModeTree) → AreKnown g (names_in_discrete d) → IsWrittenDiscrete d → told_of_powerset g at d ≡ [] → option_map powerset (mode_of_discrete g false d) ≡ Some m → IsOfLanguage m
powerset_fits g at d m names is_written none is =
    let there = there_mapped powerset (mode_of_discrete g false d) m is in
    let e = there.0 in
    let not_discrete = told_not_discrete (mode_of_discrete g false d) (first_place_of d) in
    let large = told_if (holds_of is_large_powerset (mode_of_discrete g false d)) (tell_at rules.M5 at) in
    let later = none_later (told_of_discrete g false d) (not_discrete ++ large) none in
    let member = discrete_fits g false d e names is_written there.1 in
    let discrete = discrete_told (mode_of_discrete g false d) e (first_place_of d) there.1 (none_first not_discrete large later) in
    let few = not_above 32 (values_of e) (not_second (is_discrete (form_of e)) (nat_lt 32 (values_of e)) discrete (large_told (mode_of_discrete g false d) e at there.1 (none_later not_discrete large later))) in
    subst IsOfLanguage there.2
    (record {
      parts = of_both (parts_fit e) (is_from_to 1 32 (values_of e)) member.parts (few_members (values_of e) (values_positive e member.parts discrete) few);
      size = few_numbers (values_of e) few;
    })

-- ---- texts

length_inside : (z : ℤ) → (int_le (pos 0) z && int_le z (pos 256)) ≡ true → natural_of z ≤ 256
length_inside (pos n) fits = let up = both_right (int_le (pos 0) (pos n)) (int_le (pos n) (pos 256)) fits in grind (arith, ints, up)
length_inside (negsuc n) fits = omega arith

pub few_leaves : (n : ℕ) → n ≤ 256 → max 1 n ≤ 4096
few_leaves n few = omega (arith, few)

length_fits : (g : Ground) (e : ExprTree) (n : ℕ) → length_of g 0 256 e ≡ Some n → n ≤ 256
length_fits g e n is =
    let number_there = option_map natural_of (needed_number g e) in
    let there = there_mapped natural_of (needed_number g e) n (unless_there (told_length g 0 256 e) number_there n is) in
    let z = there.0 in
    let no_int = holds_of (λ c. not (goes_with c int)) (class_of g e) in
    let out = holds_of (is_outside (from_to 0 256)) (constant_of g e) in
    let misfit = told_if (no_int || out) (tell_at rules.M6 (place_of e)) in
    let none = neither_right no_int out (not_broken (no_int || out) (tell_at rules.M6 (place_of e)) (none_then (told_needed g e) misfit (unless_none (told_length g 0 256 e) number_there n is))) in
    let inside = not_true (int_le (pos 0) z && int_le z (pos 256)) (ap (holds_of (is_outside (from_to 0 256))) (sym (needed_is g e z there.1)) ∙ none) in
    subst (λ k. k ≤ 256) there.2 (length_inside z inside)

chars_fits : (g : Ground) (e : ExprTree) (m : ModeTree) → option_map chars (length_of g 0 256 e) ≡ Some m → IsOfLanguage m
chars_fits g e m is =
    let there = there_mapped chars (length_of g 0 256 e) m is in
    let few = length_fits g e there.0 there.1 in
    subst IsOfLanguage there.2 (record { parts = le-leb there.0 256 few; size = few_leaves there.0 few })

-- ---- indices

-- a mode of indices: of the language, and of 1 to 4,096 values
record IsIndexMode (i : ModeTree) : Type 0 where
  language : IsOfLanguage i
  values : has_index_values i ≡ true

values_told : (k : Option ModeTree) (i : ModeTree) (at : Pos) → k ≡ Some i → told_if (holds_of (λ m. not (has_index_values m)) k) (tell_at rules.M6 at) ≡ [] → has_index_values i ≡ true
values_told k i at is none =
    not_true (has_index_values i) (ap (holds_of (λ m. not (has_index_values m))) (sym is) ∙ not_broken (holds_of (λ m. not (has_index_values m)) k) (tell_at rules.M6 at) none)

int_fits : IsDiscreteMode int
int_fits = record { language = record { parts = refl; size = one_scalar }; discrete = refl }

index_fits : (g : Ground) (w : written.IndexTree) (i : ModeTree) → AreKnown g (names_in_index w) → mode_of_index g w ≡ Some i → IsIndexMode i
index_fits g (written.index_named n) i names is =
    let told = told_of_index g (written.index_named n) in
    let misfit = told_if (holds_of (λ m. not (has_index_values m)) (mode_of_name g n)) (tell_at rules.M6 n.at) in
    let known = unless_there told (mode_of_name g n) i is in
    let none = unless_none told (mode_of_name g n) i is in
    record {
      language = (discrete_name_fits g n i names.0 (none_inside (told_discrete_name g n) misfit none) known).language;
      values = values_told (mode_of_name g n) i n.at known (none_then (told_discrete_name g n) misfit none);
    }
index_fits g (written.index_bounded l h) i names is =
    let told = told_of_index g (written.index_bounded l h) in
    let made = range_of g (Some int) l h in
    let misfit = told_if (holds_of (λ m. not (has_index_values m)) made) (tell_at rules.M6 (place_of l)) in
    let known = unless_there told made i is in
    record {
      language = (range_fits g (Some int) l h i names (λ q same. subst IsDiscreteMode (same_some int q same) int_fits) known).language;
      values = values_told made i (place_of l) known (none_then (told_range g (Some int) l h) misfit (unless_none told made i is));
    }

-- ---- arrays and structures

size_told : (k : Option ModeTree) (m : ModeTree) (at : Pos) → k ≡ Some m → told_large k at ≡ [] → leaves_of m ≤ 4096
size_told k m at is none = not_above 4096 (leaves_of m) (ap (holds_of is_large) (sym is) ∙ not_broken (holds_of is_large k) (tell_at rules.L5 at) none)

record ArrayParts (i e : Option ModeTree) (how : Option SpreadTree) (m : ModeTree) : Type 0 where
  index : ModeTree
  element : ModeTree
  spread : SpreadTree
  of_index : i ≡ Some index
  of_element : e ≡ Some element
  whole : array index element spread ≡ m

array_parts : (i e : Option ModeTree) (how : Option SpreadTree) (m : ModeTree) → array_from i e how ≡ Some m → ArrayParts i e how m
array_parts (Some i) (Some e) (Some how) m is = record { index = i; element = e; spread = how; of_index = refl; of_element = refl; whole = same_some (array i e how) m is }
array_parts (Some i) (Some e) None m is = no_some m is
array_parts (Some i) None (Some how) m is = no_some m is
array_parts (Some i) None None m is = no_some m is
array_parts None (Some e) (Some how) m is = no_some m is
array_parts None (Some e) None m is = no_some m is
array_parts None None (Some how) m is = no_some m is
array_parts None None None m is = no_some m is

array_fits : (i e : Option ModeTree) (how : Option SpreadTree) (m : ModeTree) → ((k : ModeTree) → i ≡ Some k → IsIndexMode k) → ((k : ModeTree) → e ≡ Some k → IsOfLanguage k) → array_from i e how ≡ Some m → leaves_of m ≤ 4096 → IsOfLanguage m
array_fits i e how m index element is few =
    let ps = array_parts i e how m is in
    let of_index = index ps.index ps.of_index in
    record {
      parts =
          ap parts_fit (sym ps.whole)
          ∙ of_both (parts_fit ps.index) (is_from_to 1 4096 (values_of ps.index) && parts_fit ps.element) of_index.language.parts
          (of_both (is_from_to 1 4096 (values_of ps.index)) (parts_fit ps.element) of_index.values (element ps.element ps.of_element).parts);
      size = few;
    }

-- the modes of fields, where they are known, are of the language
abbrev FieldsFit : List FieldThere → Type 0
FieldsFit [] = Unit {0}
FieldsFit (f ∷ fs) = ((m : ModeTree) → f.mode ≡ Some m → IsOfLanguage m) × FieldsFit fs

append_fit : (fs hs : List FieldThere) → FieldsFit fs → FieldsFit hs → FieldsFit (fs ++ hs)
append_fit [] hs first later = later
append_fit (f ∷ fs) hs first later = (first.0, append_fit fs hs first.1 later)

named_fit : (g : Ground) (m : Option ModeTree) (p : Option written.PlaceTree) (ns : List Name) → ((k : ModeTree) → m ≡ Some k → IsOfLanguage k) → FieldsFit (fields_named g m p ns)
named_fit g m p [] fits = tt
named_fit g m p (n ∷ ns) fits = (fits, named_fit g m p ns fits)

record FieldParts (name : List ℕ) (m : Option ModeTree) (fs : Option FieldNodes) (nodes : FieldNodes) : Type 0 where
  mode : ModeTree
  place : Option PlaceTree
  rest : FieldNodes
  of_mode : m ≡ Some mode
  of_rest : fs ≡ Some rest
  whole : more_fields name mode place rest ≡ nodes

field_parts : (name : List ℕ) (m : Option ModeTree) (at : Option (Option PlaceTree)) (fs : Option FieldNodes) (nodes : FieldNodes) → field_from name m at fs ≡ Some nodes → FieldParts name m fs nodes
field_parts name (Some m) (Some at) (Some fs) nodes is = record { mode = m; place = at; rest = fs; of_mode = refl; of_rest = refl; whole = same_some (more_fields name m at fs) nodes is }
field_parts name (Some m) (Some at) None nodes is = no_some nodes is
field_parts name (Some m) None (Some fs) nodes is = no_some nodes is
field_parts name (Some m) None None nodes is = no_some nodes is
field_parts name None (Some at) (Some fs) nodes is = no_some nodes is
field_parts name None (Some at) None nodes is = no_some nodes is
field_parts name None None (Some fs) nodes is = no_some nodes is
field_parts name None None None nodes is = no_some nodes is

nodes_fit : (fs : List FieldThere) (nodes : FieldNodes) → FieldsFit fs → fields_from fs ≡ Some nodes → fields_fit nodes ≡ true
nodes_fit [] nodes fits is = ap fields_fit (sym (same_some no_fields nodes is))
nodes_fit (f ∷ fs) nodes fits is =
    let ps = field_parts f.name.text f.mode (held_place f) (fields_from fs) nodes is in
    ap fields_fit (sym ps.whole) ∙ of_both (parts_fit ps.mode) (fields_fit ps.rest) (fits.0 ps.mode ps.of_mode).parts (nodes_fit fs ps.rest fits.1 ps.of_rest)

-- there is a field where some name is written
record HasFirst (fs : List FieldThere) : Type 0 where
  first : FieldThere
  rest : List FieldThere
  whole : fs ≡ first ∷ rest

has_first : (g : Ground) (fs : written.FieldNodes) → has_name fs ≡ true → HasFirst (fields_there g fs)
has_first g written.no_fields is_named = absurd (true≢false (sym is_named))
has_first g (written.more_fields [] b p fs) is_named = has_first g fs is_named
has_first g (written.more_fields (n ∷ ns) b p fs) is_named = record { first = _; rest = _; whole = refl }

filled : (fs : List FieldThere) (nodes : FieldNodes) → HasFirst fs → fields_from fs ≡ Some nodes → is_filled nodes ≡ true
filled fs nodes first is =
    let f = first.first in
    let ps = field_parts f.name.text f.mode (held_place f) (fields_from first.rest) nodes (ap fields_from (sym first.whole) ∙ is) in
    ap is_filled (sym ps.whole)

structure_fits : (p : _) (fs : List FieldThere) (m : ModeTree) → FieldsFit fs → HasFirst fs → structure_from p fs ≡ Some m → leaves_of m ≤ 4096 → IsOfLanguage m
structure_fits p fs m fits first is few =
    let there = there_mapped (λ nodes. structure nodes (is_packed p)) (fields_from fs) m is in
    record {
      parts = ap parts_fit (sym there.2) ∙ of_both (is_filled there.0) (fields_fit there.0) (filled fs there.0 first there.1) (nodes_fit fs there.0 fits there.1);
      size = few;
    }

-- ---- modes

mutual
  base_fits : (g : Ground) (whole : Bool) (b : written.BaseTree) (m : ModeTree) → AreKnown g (names_in_base b) → IsWrittenBase b → mode_of_base g whole b ≡ Some m → IsModeFor whole m
  base_fits g whole (written.discrete d) m names is_written is = discrete_fits g whole d m names is_written is
  base_fits g whole (written.powerset at d) m names is_written is =
      let made = option_map powerset (mode_of_discrete g false d) in
      fits_for whole m (powerset_fits g at d m names is_written (unless_none (told_of_powerset g at d) made m is) (unless_there (told_of_powerset g at d) made m is))
  base_fits g whole (written.chars at e) m names is_written is = fits_for whole m (chars_fits g e m is)
  base_fits g whole (written.structure at fs p) m names is_written is =
      let there = fields_there g fs in
      let told = told_at_structure g at p there in
      let made = structure_from p there in
      let known = unless_there told made m is in
      let few = size_told made m at known (none_then (told_fields g (have_places there) [] there) (told_large made at) (unless_none told made m is)) in
      fits_for whole m (structure_fits p there m (fields_are g fs names is_written.1) (has_first g fs is_written.0) known few)
  base_fits g whole (written.array at i b s) m names is_written is =
      let made = array_from (mode_of_index g i) (mode_of_base g false b) (spread_there g s) in
      let told = told_at_array g at (mode_of_index g i) (mode_of_base g false b) s in
      let known = unless_there told made m is in
      let few = size_told made m at known (none_then (told_spread g at (mode_of_index g i) (mode_of_base g false b) s) (told_large made at) (unless_none told made m is)) in
      let first = known_first g (names_in_index i ++ names_in_base b) (names_in_spread s) names in
      fits_for whole m
      (array_fits (mode_of_index g i) (mode_of_base g false b) (spread_there g s) m (λ k same. index_fits g i k (known_first g (names_in_index i) (names_in_base b) first) same)
      (λ k same. base_fits g false b k (known_later g (names_in_index i) (names_in_base b) first) is_written same) known few)

  fields_are : (g : Ground) (fs : written.FieldNodes) → AreKnown g (names_in_fields fs) → AreWritten fs → FieldsFit (fields_there g fs)
  fields_are g written.no_fields names is_written = tt
  fields_are g (written.more_fields ns b p fs) names is_written =
      let first = known_first g (names_in_base b ++ names_in_some_place p) (names_in_fields fs) names in
      append_fit (fields_named g (mode_of_base g false b) p ns) (fields_there g fs)
      (named_fit g (mode_of_base g false b) p ns (λ k same. base_fits g false b k (known_first g (names_in_base b) (names_in_some_place p) first) is_written.0 same))
      (fields_are g fs (known_later g (names_in_base b ++ names_in_some_place p) (names_in_fields fs) names) is_written.1)

-- a mode that stands as the whole one of a location alone
if_there : (whole : Bool) (x : Option ModeTree) (m : ModeTree) → if_whole whole x ≡ Some m → (IsDeclarable m) → IsModeFor whole m
if_there true x m is fits = fits
if_there false x m is fits = no_some m is

whole_there : (whole : Bool) (x : Option ModeTree) (m : ModeTree) → if_whole whole x ≡ Some m → x ≡ Some m
whole_there true x m is = is
whole_there false x m is = no_some m is

buffer_fits : (l : Option (Option ℕ)) (e : Option ModeTree) (m : ModeTree) → ((k : ModeTree) → e ≡ Some k → IsOfLanguage k) → buffer_from l e ≡ Some m → IsDeclarable m
buffer_fits (Some l) (Some e) m element is = subst IsDeclarable (same_some (buffer l e) m is) (element e refl)
buffer_fits (Some l) None m element is = no_some m is
buffer_fits None (Some e) m element is = no_some m is
buffer_fits None None m element is = no_some m is

read_language : (m : ModeTree) → IsOfLanguage m → IsOfLanguage (read m)
read_language m fits = record { parts = fits.parts; size = fits.size }

pub mode_fits : WrittenModeLaw
mode_fits g whole (written.base_mode b) m names is_written is = base_fits g whole b m names is_written is
mode_fits g whole (written.read_mode at b) m names is_written is =
    let there = there_mapped read (mode_of_base g false b) m is in
    fits_for whole m (subst IsOfLanguage there.2 (read_language there.0 (base_fits g false b there.0 names is_written there.1)))
mode_fits g whole (written.event_mode at l) m names is_written is =
    let made = option_map event (some_length_of g 1 1000 l) in
    let there = there_mapped event (some_length_of g 1 1000 l) m (whole_there whole made m is) in
    if_there whole made m is (subst IsDeclarable there.2 tt)
mode_fits g whole (written.buffer_mode at l b) m names is_written is =
    let made = buffer_from (some_length_of g 0 1000 l) (mode_of_base g false b) in
    if_there whole made m is (buffer_fits (some_length_of g 0 1000 l) (mode_of_base g false b) m (λ k same. base_fits g false b k (known_later g (names_in_some l) (names_in_base b) names) is_written same) (whole_there whole made m is))
