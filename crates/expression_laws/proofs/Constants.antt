-- Priorities and labels are there, where nothing is told of them.
use Rattle.std.proofs.Common.{◌≡◌, Bool, true, false, ◌&&◌, ◌||◌, List, [], ◌∷◌, ◌++◌, Option, Some, None, pos, negsuc, refl, sym, ap, ◌∙◌, subst, true≢false}
use Rattle.std.specs.Prelude.{IsSome, not, option_and_then, int_le, flat_map}
use Rattle.chill_tree.specs.declared.tree.name.Name.{Name}
use Rattle.chill_tree.specs.ExprTree.{ExprTree, RangeTree, alone, between, place_of}
use Rattle.modes.specs.ModeTree.{ModeTree, ClassTree, value, derived, null, nothing, int}
use Rattle.modes.specs.Form.{FormTree, form_of, of_instance}
use Rattle.diagnostics.specs.declared.diagnostic.Diagnostic.{Diagnostic}
use Rattle.diagnostics.specs.declared.rule.Rule.TheVariants as rules
use Rattle.checks_model.specs.Alike.{is_discrete, is_instance, class_is, goes_with, are_compatible, are_similar}
use Rattle.checks_model.specs.ValueTrees.{ValueTree, number, members, parts}
use Rattle.checks_model.specs.Ground.{Ground}
use Rattle.checks_model.specs.Classes.{class_of}
use Rattle.checks_model.specs.Constants.{has_form, constant_of}
use Rattle.checks_model.specs.ConstantRules.{told_of_constants, told_needed}
use Rattle.checks_model.specs.Told.{tell_at, told_if, then_told, holds_of, holds_of_both}
use Rattle.checks_model.specs.ValueRules.{nothing_asked, is_too_large, told_received, own_told, told_value, told_in, bare, clean_class}
use Rattle.checks_model.specs.WrittenModes.{number_in, unless_told, needed_number}
use Rattle.checks_model.specs.ActionRules.{clean, label_misfits, told_label_end, told_label}
use Rattle.checks_model.specs.ProcessRules.{is_priority, told_priority}
use Rattle.checks_model.specs.Phases.{told_met, told_of_priority, exprs_of_labels}
use Rattle.table_laws.specs.Names.{names_in}
use Rattle.elaborated_laws.proofs.Told.{none_first, none_later, none_inside, none_then, not_broken, not_true, not_second, both_left, neither_left, neither_right}
use Rattle.there_laws.specs.Shapes.{is_number, has_shape, is_of_class}
use Rattle.there_laws.proofs.Constants.{operand_there, alone_there}
use Rattle.there_laws.proofs.ConstantShapes.{similar_left, discrete_form, constant_shape}
use Rattle.there_laws.proofs.Shapes.{similar_shape}
use Rattle.there_laws.proofs.Modes.{value_in}
use Rattle.there_laws.proofs.Needs.{expr_needs}
use Rattle.written_laws.specs.Written.{Each}
use Rattle.elaboration_model.specs.Numbering.{Source}
use Rattle.elaboration_model.specs.Parts.{made_each}
use Rattle.elaboration_model.specs.Statements.{constant_number, natural_in, priority, range_bounds, label}
use Rattle.expression_laws.specs.Names.{IsWellNamed, AllNamesKnown}
use Rattle.expression_laws.proofs.Values.{equivalent_similar}
use Rattle.expression_laws.proofs.Known.{all_there}
use Rattle.expression_laws.proofs.Parts.{made_there, untold_there, all_known}

-- ---- constants that are needed

-- a constant with its value and class
pub record ConstantKnown (g : Ground) (e : ExprTree) : Type 0 where
  pub value : ValueTree
  pub is : constant_of g e ≡ Some value
  pub class : ClassTree
  pub has : class_of g e ≡ Some class
  pub shape : is_of_class class value ≡ true

pub constant_known : (s : Source) (e : ExprTree) → AllNamesKnown s → IsWellNamed s.known e → told_needed s.known e ≡ [] → ConstantKnown s.known e
constant_known s e known named none =
    let g = s.known in
    let missing = told_if (not (has_form g false e)) (tell_at rules.M1 (place_of e)) in
    let constants = none_inside (told_of_constants g e) missing none in
    let form = not_true (has_form g false e) (not_broken (not (has_form g false e)) (tell_at rules.M1 (place_of e)) (none_then (told_of_constants g e) missing none)) in
    let needs = expr_needs g e (all_there s known (names_in e)) named.tuples in
    let there = alone_there g e (all_known s known) needs.0 constants form in
    let both = operand_there g e (all_known s known) constants form there in
    let v = value_in (constant_of g e) both.value in
    let c = value_in (class_of g e) both.class in
    record { value = v.0; is = v.1; class = c.0; has = c.1; shape = constant_shape g None e c.0 v.0 needs.1 c.1 v.1 }

number_there : (s : Source) (e : ExprTree) (v : ValueTree) → told_needed s.known e ≡ [] → constant_of s.known e ≡ Some v → is_number v ≡ true → IsSome (constant_number s e)
number_there s e v none is holds = untold_there (told_needed s.known e) (option_and_then number_in (constant_of s.known e)) none (subst (λ x. IsSome (option_and_then number_in x)) (sym is) (by v holds))
  where
    by : (v : ValueTree) → is_number v ≡ true → IsSome (number_in v)
    by (number n) holds = refl
    by v holds = absurd (true≢false (sym holds))

-- ---- priorities

int_number : (c : ClassTree) (v : ValueTree) → goes_with c int ≡ true → is_of_class c v ≡ true → is_number v ≡ true
int_number (value n) v goes holds = similar_left n int v goes holds
int_number (derived n) v goes holds = similar_shape n int v goes holds
int_number null v goes holds = absurd (true≢false (sym goes))
int_number nothing v goes holds = absurd (true≢false (sym goes))

natural_there : (v : ValueTree) → is_number v ≡ true → is_priority v ≡ true → IsSome (option_and_then natural_in (number_in v))
natural_there (number (pos k)) holds fits = refl
natural_there (number (negsuc k)) holds fits = absurd (true≢false (sym fits))
natural_there v holds fits = absurd (true≢false (sym holds))

priority_made : (g : Ground) (e : ExprTree) → told_needed g e ≡ [] → IsSome (option_and_then natural_in (option_and_then number_in (constant_of g e))) → IsSome (option_and_then natural_in (needed_number g e))
priority_made g e none there = subst (λ l. IsSome (option_and_then natural_in (unless_told l (option_and_then number_in (constant_of g e))))) (sym none) there

pub priority_there : (s : Source) (e : ExprTree) → AllNamesKnown s → IsWellNamed s.known e → told_needed s.known e ≡ [] → told_of_priority s.known e ≡ [] → IsSome (priority s (Some e))
priority_there s e known named needed none =
    let g = s.known in
    let k = constant_known s e known named needed in
    let apart = holds_of (λ c. not (goes_with c int)) (class_of g e) in
    let outside = holds_of (λ v. not (is_priority v)) (constant_of g e) in
    let fits = not_broken (apart || outside) (tell_at rules.P6 (place_of e)) (none_then (told_met g e) (told_priority g (constant_of g) e) none) in
    let goes = not_true (goes_with k.class int) (ap (holds_of (λ c. not (goes_with c int))) (sym k.has) ∙ neither_left apart outside fits) in
    let within = not_true (is_priority k.value) (ap (holds_of (λ v. not (is_priority v))) (sym k.is) ∙ neither_right apart outside fits) in
    priority_made g e needed (subst (λ x. IsSome (option_and_then natural_in (option_and_then number_in x))) (sym k.is) (natural_there k.value (int_number k.class k.value goes k.shape) within))

pub some_priority_there : (s : Source) (p : Option ExprTree) → AllNamesKnown s → ((e : ExprTree) → p ≡ Some e → IsSome (priority s (Some e))) → IsSome (priority s p)
some_priority_there s None known each = refl
some_priority_there s (Some e) known each = each e refl

-- ---- labels

discrete_number : (b : ModeTree) (v : ValueTree) → is_discrete (form_of b) ≡ true → has_shape (form_of b) v ≡ true → is_number v ≡ true
discrete_number b v is holds = sym (discrete_form (form_of b) v is) ∙ holds

-- a label that is compatible with a discrete selector
label_number : (c k : ClassTree) (v : ValueTree) → class_is is_discrete k ≡ true → are_compatible c k ≡ true → is_of_class c v ≡ true → is_number v ≡ true
label_number (value a) (value b) v is fit holds = discrete_number b v is (similar_left a b v fit holds)
label_number (value a) (derived b) v is fit holds = discrete_number b v is (similar_shape a b v fit holds)
label_number (derived a) (value b) v is fit holds = discrete_number b v is (similar_shape a b v fit holds)
label_number (derived a) (derived b) v is fit holds = discrete_number b v is (similar_shape a b v fit holds)
label_number null k v is fit holds = holds
label_number (value a) null v is fit holds = absurd (true≢false (sym is))
label_number (derived a) null v is fit holds = absurd (true≢false (sym is))
label_number (value a) nothing v is fit holds = absurd (true≢false (sym is))
label_number (derived a) nothing v is fit holds = absurd (true≢false (sym is))
label_number nothing k v is fit holds = absurd (true≢false (sym fit))

end_there : (s : Source) (k : ClassTree) (e : ExprTree) → AllNamesKnown s → IsWellNamed s.known e → class_is is_discrete k ≡ true → told_needed s.known e ≡ [] → told_label_end s.known (Some k) e ≡ [] → IsSome (constant_number s e)
end_there s k e known named is needed none =
    let g = s.known in
    let c = constant_known s e known named needed in
    let inside = told_in g nothing_asked e in
    let large = told_if (holds_of is_too_large (class_of g e)) (tell_at rules.L6 (place_of (bare e))) in
    let misfits = told_if (holds_of_both label_misfits (Some k) (clean g e)) (tell_at rules.S7 (place_of e)) in
    let own = none_inside (told_value g nothing_asked e) misfits none in
    let untold = none_inside inside large (none_inside (own_told g nothing_asked e inside) (told_received g nothing_asked e) own) in
    let class : clean g e ≡ Some c.class = ap (λ l. clean_class l (class_of g e)) untold ∙ c.has in
    let fits = ap (holds_of_both label_misfits (Some k)) (sym class) ∙ not_broken (holds_of_both label_misfits (Some k) (clean g e)) (tell_at rules.S7 (place_of e)) (none_then (told_value g nothing_asked e) misfits none) in
    let alike = not_true (are_compatible c.class k) (not_second (class_is is_discrete k) (not (are_compatible c.class k)) is fits) in
    number_there s e c.value needed c.is (label_number c.class k c.value is alike c.shape)

pub labels_there : (s : Source) (k : ClassTree) (ls : List RangeTree) → AllNamesKnown s → class_is is_discrete k ≡ true → Each (IsWellNamed s.known) (exprs_of_labels ls) → flat_map (told_needed s.known) (exprs_of_labels ls) ≡ [] → flat_map (told_label s.known (Some k)) ls ≡ []
    → IsSome (made_each (label s) ls)
labels_there s k [] known is named needed none = refl
labels_there s k (alone e ∷ ls) known is named needed none =
    let g = s.known in
    let others = flat_map (told_needed g) (exprs_of_labels ls) in
    let later = flat_map (told_label g (Some k)) ls in
    let there = end_there s k e known named.0 is (none_first (told_needed g e) others needed) (none_first (told_label_end g (Some k) e) later none) in
    made_there (λ y ys. y ∷ ys) (label s (alone e)) (made_each (label s) ls) (made_there range_bounds (constant_number s e) (constant_number s e) there there)
    (labels_there s k ls known is named.1 (none_later (told_needed g e) others needed) (none_later (told_label_end g (Some k) e) later none))
labels_there s k (between l h ∷ ls) known is named needed none =
    let g = s.known in
    let others = flat_map (told_needed g) (exprs_of_labels ls) in
    let later = flat_map (told_label g (Some k)) ls in
    let low = told_label_end g (Some k) l in
    let high = told_label_end g (Some k) h in
    let ends = none_first (low ++ high) later none in
    let behind = none_later (told_needed g l) (told_needed g h ++ others) needed in
    let first = end_there s k l known named.0 is (none_first (told_needed g l) (told_needed g h ++ others) needed) (none_first low high ends) in
    let second = end_there s k h known named.1.0 is (none_first (told_needed g h) others behind) (none_later low high ends) in
    made_there (λ y ys. y ∷ ys) (label s (between l h)) (made_each (label s) ls) (made_there range_bounds (constant_number s l) (constant_number s h) first second)
    (labels_there s k ls known is named.1.1 (none_later (told_needed g h) others behind) (none_later (low ++ high) later none))
