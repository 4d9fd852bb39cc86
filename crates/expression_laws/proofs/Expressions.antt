-- Expressions, arguments and locations in which nothing is told are there, as they are elaborated.
use Rattle.std.proofs.Common.{◌≡◌, ℕ, suc, ◌==◌, Bool, true, false, ◌&&◌, ◌||◌, List, [], ◌∷◌, ◌++◌, length, Option, Some, None, refl, sym, ap, ◌∙◌, subst, arith, true≢false}
use Rattle.std.specs.Prelude.{IsSome, is_some, not, if◌then◌else◌, option_map, option_and_then, map, replicate}
use Rattle.chill_base.specs.declared.pos.Pos.{Pos}
use Rattle.chill_tree.specs.declared.tree.name.Name.{Name}
use Rattle.chill_tree.specs.declared.tree.item.Passing.{Passing}
use Rattle.chill_tree.specs.declared.tree.item.Passing.TheVariants as passings
use Rattle.chill_tree.specs.declared.tree.expr.Prefix.{Prefix}
use Rattle.chill_tree.specs.declared.tree.expr.Prefix.TheVariants as prefixes
use Rattle.chill_tree.specs.ExprTree.{ExprTree, ExprNodes, RangeTree, RangeNodes, whole, character, text, this_instance, paren, receive, start, tuple, uniform, name, apply, field, prefixed, binary, no_exprs, more_exprs, alone, between, no_ranges, more_ranges, place_of}
use Rattle.modes.specs.ModeTree.{ModeTree, ClassTree, value, derived, null, nothing}
use Rattle.modes.specs.Form.{FormTree, form_of, of_powerset}
use Rattle.modes.specs.Bounds.{bounds_of}
use Rattle.diagnostics.specs.declared.diagnostic.Diagnostic.{Diagnostic}
use Rattle.diagnostics.specs.declared.rule.Rule.TheVariants as rules
use Rattle.program_trees.specs.ExprTree as made
use Rattle.checks_model.specs.Alike.{is_powerset, is_meeting, mode_in, are_v_equivalent}
use Rattle.checks_model.specs.Ground.{Ground, Predefined, origin_of, entry_of, buffer_element}
use Rattle.checks_model.specs.Operations.{class_of_binary, class_of_unary, operands_misfit, operand_misfits, is_measuring, element_of_form, field_of_form}
use Rattle.checks_model.specs.Classes.{class_as, class_of, class_of_name, class_of_first, class_behind, both_classes, result_class, measured_first, Callee, calls, routine, no_callee, callee_of, tuple_mode, value_if, shape_fits, uniform_fits, are_alone, part_mode, mode_of_part, count_exprs}
use Rattle.checks_model.specs.Constants.{has_form, have_form, is_constant_origin, are_arguments, value_routine, literal_in}
use Rattle.checks_model.specs.ConstantRules.{by_itself, told_as, told_of_constants, told_in_each, told_in_ranges, told_in_range, told_before, told_unary, told_binary, told_if_constant, standing_of_parts, is_constant_tuple, is_judged, told_tuple, told_uniform, when_routine, told_call, in_a_tuple, in_a_synonym}
use Rattle.checks_model.specs.Told.{tell_at, told_if, then_told, holds_of, holds_of_both}
use Rattle.checks_model.specs.ActionRules.{measures}
use Rattle.checks_model.specs.ValueRules.{Receiver, Located, place_part, index_mode, nothing_asked, of_mode, passed_back, received_mode, place, path_of, is_free, does_not_fit_parameter, is_too_large, shape_misfits, told_received, own_told, value_told, bare, told_in, told_in_args, told_in_parts, told_in_range as told_in_part, told_inside_each, told_behind, told_number, receivers_of, each_receiver, receivers_behind, clean_class}
use Rattle.written_laws.specs.Written.{is_name_with_parts}
use Rattle.elaborated_laws.specs.Known.{IsDeclarable}
use Rattle.elaborated_laws.proofs.Told.{none_first, none_later, none_inside, none_then, not_broken, not_true, both_left, both_right, no_some, same_some, there_mapped, there_chained}
use Rattle.elaborated_laws.proofs.Constants.{minus_told, told_sign}
use Rattle.elaborated_laws.proofs.Classes.{no_receiver}
use Rattle.there_laws.proofs.Forms.{has_bounds, PartsThere, shape_there}
use Rattle.there_laws.proofs.Modes.{value_in}
use Rattle.elaboration_model.specs.Numbering.{Source, buffer_used, body_used}
use Rattle.elaboration_model.specs.Parts.{made_of, made_of_three, made_if}
use Rattle.elaboration_model.specs.Expressions.{Formal, Path, Target, call_operation, routine_operation, field_path, expr_as, path, arguments, received_each, only_one, ranges_as, range_as, parts_as, part_as, class_first, mode_in_brackets, formals_called, applied_operation, applied_path, operation_at, element_path, folded, location_named, modes_by, operator_before, operator_between, received_as, argument_for, target_of, tuple_operation, uniform_operation}
use Rattle.expression_laws.specs.Names.{is_of_values, IsPlace, ArePlaces, AreFormals, EachStands, IsWellNamed, AreWellNamed, IsRangeWellNamed, AreRangesWellNamed, AllNamesKnown}
use Rattle.expression_laws.specs.Expressions.{IsClean, ExprThereLaw}
use Rattle.expression_laws.proofs.Values.{declarable_in, goes_valued}
use Rattle.expression_laws.proofs.Operators.{map_there, operands_valued, operand_valued, operator_there}
use Rattle.expression_laws.proofs.Known.{callee_called}
use Rattle.expression_laws.proofs.Parts.{made_there, three_there, if_made, is_there, place_there, told_any, shown, class_declarable, value_by, TupleOf, tuple_of, tuple_made, uniform_made, part_of, element_part}
use Rattle.expression_laws.proofs.Applied.{told_inside, OnlyThere, RoutineParts, routine_shown, receiver_for, ArgumentsClean, arguments_clean, process_receivers, ArgumentsThere, call_shown, PartIn, part_in, PathThere, element_shown}
use Rattle.expression_laws.proofs.Places.{value_path, location_shown, name_mode, name_path, field_shown, is_located, in_place, part_place, TargetThere, target_there, free_located}

-- ---- what is told in parts

pub own_inside : (g : Ground) (e : ExprTree) → own_told g nothing_asked e (told_in g nothing_asked e) ≡ [] → told_in g nothing_asked e ≡ []
own_inside g e none = none_inside (told_in g nothing_asked e) (told_if (holds_of is_too_large (class_of g e)) (tell_at rules.L6 (place_of (bare e)))) none

no_literal : (g : Ground) (e : ExprTree) → has_form g false e ≡ false → literal_in e ≡ None
no_literal g (whole at n) form = absurd (true≢false form)
no_literal g e form = refl

-- before what is no constant
pub signed_inside : (g : Ground) (at : Pos) (o : Prefix) (e : ExprTree) → has_form g false e ≡ false → told_before g at o e (told_as g by_itself None e) ≡ [] → told_as g by_itself None e ≡ []
signed_inside g at prefixes.Not e form none = none_inside (told_as g by_itself None e) (told_if_constant (has_form g false e) (told_unary g at prefixes.Not e)) none
signed_inside g at prefixes.Minus e form none =
    none_inside (told_as g by_itself None e) (told_if_constant (has_form g false e) (told_unary g at prefixes.Minus e)) (sym (minus_told g at e (told_as g by_itself None e) (no_literal g e form)) ∙ none)

mapped_back : {A B : Type 0} (f : A → B) (x : Option A) (y : B) → option_map f x ≡ Some y → IsSome x
mapped_back f x y is = let there = there_mapped f x y is in is_there x there.0 there.1

-- the operands of an operator
pub record OperandsOf (f : ClassTree → ClassTree → Option ClassTree) (l r : Option ClassTree) (c : ClassTree) : Type 0 where
  pub left : ClassTree
  pub is_left : l ≡ Some left
  pub right : ClassTree
  pub is_right : r ≡ Some right
  pub result : f left right ≡ Some c

pub operands_of : (f : ClassTree → ClassTree → Option ClassTree) (l r : Option ClassTree) (c : ClassTree) → both_classes f l r ≡ Some c → OperandsOf f l r c
operands_of f (Some a) (Some b) c is = record { left = a; is_left = refl; right = b; is_right = refl; result = is }
operands_of f None r c is = no_some c is
operands_of f (Some a) None c is = no_some c is

-- a class with a mode that is no event's
pub mode_valued : (c : ClassTree) (k : ModeTree) → mode_in c ≡ Some k → not (is_meeting (form_of k)) ≡ true → is_of_values c ≡ true
mode_valued (value m) k has valued = subst (λ x. not (is_meeting (form_of x)) ≡ true) (sym (same_some m k has)) valued
mode_valued (derived m) k has valued = subst (λ x. not (is_meeting (form_of x)) ≡ true) (sym (same_some m k has)) valued
mode_valued null k has valued = no_some k has
mode_valued nothing k has valued = no_some k has

-- ---- brackets

-- what is there of the parts of brackets
pub record BracketParts (s : Source) (e : ExprTree) (es : ExprNodes) : Type 0 where
  pub known : AllNamesKnown s
  pub named : IsWellNamed s.known e
  pub base : (d : ClassTree) (k : ModeTree) → class_of s.known e ≡ Some d → mode_in d ≡ Some k → not (is_meeting (form_of k)) ≡ true → told_in s.known nothing_asked e ≡ [] → PathThere (path s e) k
  pub operand : measures (callee_of s.known e) ≡ false → RoutineParts s es
  pub each : measures (callee_of s.known e) ≡ false → ArgumentsThere s es

-- what is known of brackets behind what is called so
pub record BracketsClean (s : Source) (e : ExprTree) (es : ExprNodes) (k : Callee) (c : ClassTree) : Type 0 where
  pub is : callee_of s.known e ≡ k
  pub form : holds_of (λ p. are_arguments s.known (is_measuring p) es) (value_routine k) ≡ false
  pub class : class_behind k (result_class s.known e) (class_of s.known e) (measured_first s.known es) (class_of_first s.known es) ≡ Some c
  pub valued : is_of_values c ≡ true
  pub told : told_behind s.known k (place_of e) (class_of s.known e) (told_in s.known nothing_asked e) (told_in_args s.known (receivers_behind s.known k (clean_class (told_in s.known nothing_asked e) (class_of s.known e)) (count_exprs es)) es) (told_inside_each s.known es) es ≡ []

-- a call or a routine, whatever stands before the brackets
called_shown : (s : Source) (e : ExprTree) (es : ExprNodes) (c : ClassTree) (n : Name) → BracketParts s e es → BracketsClean s e es (calls n) c → IsSome (call_operation s n (arguments s (formals_called s (calls n)) es))
called_shown s e es c n parts clean =
    call_shown s n (place_of e) (class_of s.known e) (told_in s.known nothing_asked e) (told_inside_each s.known es) es parts.known (callee_called s.known e n clean.is).procedure (parts.each (ap measures clean.is)) clean.told

evaluated_shown : (s : Source) (e : ExprTree) (es : ExprNodes) (c : ClassTree) (p : Predefined) → BracketParts s e es → BracketsClean s e es (routine p) c → IsSome (routine_operation p (class_first s es) (only_one s None es))
evaluated_shown s e es c p parts clean =
    routine_shown s p (place_of e) (class_of s.known e) (told_in s.known nothing_asked e) es c (λ apart. parts.operand (ap measures clean.is ∙ apart)) clean.form clean.class clean.told

indexed_shown : (s : Source) (e : ExprTree) (es : ExprNodes) (c : ClassTree) → BracketParts s e es → BracketsClean s e es no_callee c
    → (k : ModeTree) × ((c ≡ value k) × PathThere (made_if element_path (only_one s (mode_in_brackets s no_callee e) es) (path s e)) k)
indexed_shown s e es c parts clean =
    let g = s.known in
    let inside = told_in g nothing_asked e in
    let args = told_in_args g (receivers_behind g no_callee (clean_class inside (class_of g e)) (count_exprs es)) es in
    let number = told_if (is_some (index_mode (class_of g e)) && not (count_exprs es == 1)) (tell_at rules.S5 (place_of e)) in
    let p = part_in element_of_form (class_of g e) c refl clean.class clean.valued in
    let base = parts.base p.whole p.mode p.is p.in_whole p.valued (none_first inside args (none_inside (inside ++ args) number clean.told)) in
    let declarable = declarable_in p.whole p.mode (class_declarable s None e p.whole parts.known parts.named no_receiver p.is) p.in_whole in
    (p.own, (p.class, element_shown s (place_of e) e es c (told_inside_each g es) (parts.operand (ap measures clean.is)) p base declarable clean.told))

applied_shown : (s : Source) (e : ExprTree) (es : ExprNodes) (c : ClassTree) (k : Callee) → BracketParts s e es → BracketsClean s e es k c
    → IsSome (applied_operation s k (arguments s (formals_called s k) es) (class_first s es) (only_one s (mode_in_brackets s k e) es) (made_if element_path (only_one s (mode_in_brackets s k e) es) (path s e)))
applied_shown s e es c (calls n) parts clean = called_shown s e es c n parts clean
applied_shown s e es c (routine p) parts clean = evaluated_shown s e es c p parts clean
applied_shown s e es c no_callee parts clean =
    let there = indexed_shown s e es c parts clean in
    let brackets = made_if element_path (only_one s (mode_in_brackets s no_callee e) es) (path s e) in
    map_there operation_at brackets (is_there brackets there.1.1.at there.1.1.is)

-- brackets as a name with parts
abbrev path_behind : Source → Pos → ExprTree → ExprNodes → Callee → Option Path
path_behind s at e es k =
    applied_path k (folded s None (apply at e es) (applied_operation s k (arguments s (formals_called s k) es) (class_first s es) (only_one s None es) None)) (class_of s.known (apply at e es))
    (made_if element_path (only_one s (mode_in_brackets s k e) es) (path s e))

applied_path_shown : (s : Source) (at : Pos) (e : ExprTree) (es : ExprNodes) (c : ClassTree) (m : ModeTree) (k : Callee) → BracketParts s e es → IsClean s.known nothing_asked (apply at e es) → class_of s.known (apply at e es) ≡ Some c → mode_in c ≡ Some m
    → (has_form s.known false (apply at e es) ≡ false → BracketsClean s e es k c) → (k ≡ no_callee → has_form s.known false (apply at e es) ≡ false) → PathThere (path_behind s at e es k) m
applied_path_shown s at e es c m (calls n) parts clean class has brackets apart =
    let o = call_operation s n (arguments s (formals_called s (calls n)) es) in
    value_path (folded s None (apply at e es) o) (class_of s.known (apply at e es)) c m (shown s nothing_asked (apply at e es) c o parts.known clean class (λ form. called_shown s e es c n parts (brackets form))) class has
applied_path_shown s at e es c m (routine p) parts clean class has brackets apart =
    let o = routine_operation p (class_first s es) (only_one s None es) in
    value_path (folded s None (apply at e es) o) (class_of s.known (apply at e es)) c m (shown s nothing_asked (apply at e es) c o parts.known clean class (λ form. evaluated_shown s e es c p parts (brackets form))) class has
applied_path_shown s at e es c m no_callee parts clean class has brackets apart =
    let there = indexed_shown s e es c parts (brackets (apart refl)) in
    subst (λ k. PathThere (path_behind s at e es no_callee) k) (same_some there.0 m (sym (ap mode_in there.1.0) ∙ has)) there.1.1

-- ---- tuples

pub parts_alone : (g : Ground) (n : Option Name) (has : Bool) → is_constant_tuple by_itself n has ≡ false → standing_of_parts by_itself n has ≡ by_itself
parts_alone g n has form = ap (λ b. if b then (if is_judged by_itself n has then in_a_tuple else in_a_synonym) else by_itself) form

-- the mode of a member, wherever it stands
pub member_part : (fits : FormTree → Bool) (k : ℕ) (own : ModeTree) → fits (form_of own) ≡ true → is_powerset (form_of own) ≡ true → mode_of_part fits k (Some own) ≡ mode_of_part (λ f. true) 0 (Some own)
member_part fits k own holds is = ap (λ b. if b then part_mode k (form_of own) else None) holds ∙ members (form_of own) is
  where
    members : (f : FormTree) → is_powerset f ≡ true → part_mode k f ≡ part_mode 0 f
    members (of_powerset m) is = refl
    members f is = absurd (true≢false (sym is))

pub member_there : (f : FormTree) → is_powerset f ≡ true → IsSome (part_mode 0 f)
member_there (of_powerset m) is = refl
member_there f is = absurd (true≢false (sym is))

-- a tuple whose parts have modes, and in which nothing is told from one of them on
pub record PartsClean (g : Ground) (fits : FormTree → Bool) (own : ModeTree) (k : ℕ) (rs : RangeNodes) : Type 0 where
  pub holds : fits (form_of own) ≡ true
  pub declarable : IsDeclarable own
  pub named : AreRangesWellNamed g rs
  pub told : told_in_parts g fits k (Some own) rs ≡ []

-- ---- arguments that are given back

pub told_located : (g : Ground) (r : Receiver) (e : ExprTree) → is_located (path_of g e).access ≡ true → told_in g r e ≡ told_in g nothing_asked e
told_located g r (name n) is = refl
told_located g r (field at e n) is = refl
told_located g r (apply at e es) is = refl
told_located g r e is = absurd (true≢false (sym is))

part_access_located : (part : FormTree → Option ModeTree) (l : Located) → is_located (place_part part l).access ≡ true → is_located l.access ≡ true
part_access_located part l is = (part_place part l is).whole

located_named : (g : Ground) (e : ExprTree) → is_located (path_of g e).access ≡ true → is_name_with_parts e ≡ true
located_named g (name n) is = refl
located_named g (field at e n) is = located_named g e (part_access_located (field_of_form n.text) (path_of g e) is)
located_named g (apply at e es) is = located_named g e (part_access_located element_of_form (path_of g e) is)
located_named g e is = absurd (true≢false (sym is))

abbrev pub PathOf : Source → ExprTree → Type 0
PathOf s e = (c : ClassTree) (k : ModeTree) → IsClean s.known nothing_asked e → is_name_with_parts e ≡ true → class_of s.known e ≡ Some c → mode_in c ≡ Some k → not (is_meeting (form_of k)) ≡ true → PathThere (path s e) k

-- a location that can be written, with its mode
pub free_target : (s : Source) (e : ExprTree) (k : ModeTree) → IsWellNamed s.known e → told_of_constants s.known e ≡ [] → told_in s.known nothing_asked e ≡ [] → is_free (place s.known e).access ≡ true → (path_of s.known e).mode ≡ Some k → not (is_meeting (form_of k)) ≡ true
    → PathOf s e → TargetThere (option_and_then target_of (path s e)) k
free_target s e k named constants told is has valued at =
    let g = s.known in
    let there = free_located g e is in
    let own = in_place g e there in
    let same = same_some own.mode k (sym own.is ∙ has) in
    target_there s e k there
    (at (value k) k (record { named = named; receives = no_receiver; constants = constants; told = told }) (located_named g e there) (own.class ∙ ap (λ x. Some (value x)) same) refl valued)

pub fits_parameter : (g : Ground) (e : ExprTree) (m : Option ModeTree) (k : ModeTree) → m ≡ Some k → holds_of (does_not_fit_parameter (place g e)) m ≡ false → (is_free (place g e).access && holds_of (λ own. are_v_equivalent own k) (place g e).mode) ≡ true
fits_parameter g e m k is fits = not_true (is_free (place g e).access && holds_of (λ own. are_v_equivalent own k) (place g e).mode) (ap (holds_of (does_not_fit_parameter (place g e))) (sym is) ∙ fits)

pub equivalent_mode : (own : Option ModeTree) (k : ModeTree) → holds_of (λ own. are_v_equivalent own k) own ≡ true → (m : ModeTree) × ((own ≡ Some m) × (not (is_meeting (form_of m)) ≡ true))
equivalent_mode (Some m) k fits = (m, (refl, goes_valued (value m) k fits))
equivalent_mode None k fits = absurd (true≢false (sym fits))

argument_target : (s : Source) (e : ExprTree) (m : Option ModeTree) → IsPlace m → IsWellNamed s.known e → told_of_constants s.known e ≡ [] → value_told s.known (passed_back m) e (told_in s.known (passed_back m) e) ≡ [] → PathOf s e → IsSome (option_and_then target_of (path s e))
argument_target s e m place_is named constants none at =
    let g = s.known in
    let r = passed_back m in
    let k = value_in m place_is.there in
    let misfits = holds_of (does_not_fit_parameter (place g e)) m in
    let fits = fits_parameter g e m k.0 k.1 (not_broken misfits (tell_at rules.S6 (place_of e)) (none_then (own_told g r e (told_in g r e)) (told_received g r e) none)) in
    let free = both_left (is_free (place g e).access) (holds_of (λ own. are_v_equivalent own k.0) (place g e).mode) fits in
    let own = equivalent_mode (place g e).mode k.0 (both_right (is_free (place g e).access) (holds_of (λ own. are_v_equivalent own k.0) (place g e).mode) fits) in
    let there = free_target s e own.0 named constants (sym (told_located g r e (free_located g e free)) ∙ told_inside g r e none) free own.1.0 own.1.1 at in
    is_there (option_and_then target_of (path s e)) there.at there.is

-- what goes to a parameter, as a value or as a location
argument_made : (s : Source) (e : ExprTree) (p : Passing) (m : Option ModeTree) → IsPlace m → (value_told s.known (of_mode m) e (told_in s.known (of_mode m) e) ≡ [] → IsSome (expr_as s m e)) → (value_told s.known (passed_back m) e (told_in s.known (passed_back m) e) ≡ [] → IsSome (option_and_then target_of (path s e)))
    → value_told s.known (receiver_for (p, m)) e (told_in s.known (receiver_for (p, m)) e) ≡ [] → IsSome (argument_for (p, m) (received_as m (expr_as s m e)) (option_and_then target_of (path s e)))
argument_made s e passings.In m place_is by_value back none = map_there made.taken (received_as m (expr_as s m e)) (place_there m (expr_as s m e) place_is.there (by_value none))
argument_made s e passings.Out m place_is by_value back none = map_there (λ (t : Target). made.given t.0 (bounds_of t.1)) (option_and_then target_of (path s e)) (back none)
argument_made s e passings.InOut m place_is by_value back none = made_there (λ m (t : Target). made.both t.0 (bounds_of m) (bounds_of t.1)) m (option_and_then target_of (path s e)) place_is.there (back none)

-- ---- fields and brackets, by what is there of their parts

pub field_there : (s : Source) (at : Pos) (e : ExprTree) (n : Name) (c : ClassTree) → AllNamesKnown s → IsWellNamed s.known (field at e n) → told_of_constants s.known e ≡ [] → told_in s.known nothing_asked e ≡ [] → class_of s.known (field at e n) ≡ Some c → is_of_values c ≡ true → PathOf s e
    → (k : ModeTree) × ((c ≡ value k) × PathThere (option_and_then (field_path n.text) (path s e)) k)
field_there s at e n c known named constants told class valued base_at =
    let p = part_in (field_of_form n.text) (class_of s.known e) c refl class valued in
    let base : IsClean s.known nothing_asked e = record { named = record { short = named.short; paths = named.paths.1; tuples = named.tuples; stands = named.stands }; receives = no_receiver; constants = constants; told = told } in
    (p.own, (p.class, field_shown n.text (path s e) p.mode p.own (base_at p.whole p.mode base named.paths.0 p.is p.in_whole p.valued) p.has))

pub bracket_parts : (s : Source) (at : Pos) (e : ExprTree) (es : ExprNodes) → AllNamesKnown s → IsWellNamed s.known (apply at e es) → told_of_constants s.known (apply at e es) ≡ []
    → PathOf s e → (AreWellNamed s.known false es → told_in_each s.known es ≡ [] → OnlyThere s es) → (AreWellNamed s.known false es → told_in_each s.known es ≡ [] → ArgumentsThere s es) → BracketParts s e es
bracket_parts s at e es known named constants base_at only_at each_at =
    let g = s.known in
    let own : IsWellNamed g e = record { short = named.short.0; paths = named.paths.1.0; tuples = named.tuples.0; stands = named.stands.0 } in
    let each : measures (callee_of g e) ≡ false → AreWellNamed g false es = λ apart. record { short = named.short.1; paths = named.paths.1.1; tuples = named.tuples.1; stands = subst (λ b. EachStands g b es) apart named.stands.1 } in
    let at_it = when_routine (value_routine (callee_of g e)) (λ p. told_if_constant (are_arguments g (is_measuring p) es) (told_call g (place_of e) p es)) in
    let before = told_as g by_itself None e in
    let first = none_first before (then_told (told_in_each g es) at_it) constants in
    let later = none_inside (told_in_each g es) at_it (none_later before (then_told (told_in_each g es) at_it) constants) in
    record {
      known = known;
      named = own;
      base = λ d k is has valued told. base_at d k (record { named = own; receives = no_receiver; constants = first; told = told }) named.paths.0 is has valued;
      operand = λ apart. record { known = known; named = each apart; only = only_at (each apart) later };
      each = λ apart. each_at (each apart) later;
    }

-- ---- the laws

mutual
  pub expr_there : ExprThereLaw
  expr_there s r (whole at n) c known clean class valued = shown s r (whole at n) c None known clean class (λ form. absurd (true≢false form))
  expr_there s r (character at n) c known clean class valued = shown s r (character at n) c None known clean class (λ form. absurd (true≢false form))
  expr_there s r (text at bytes) c known clean class valued = shown s r (text at bytes) c None known clean class (λ form. absurd (true≢false form))
  expr_there s r (this_instance at) c known clean class valued = shown s r (this_instance at) c (Some made.own_instance) known clean class (λ form. refl)
  expr_there s r (paren at e) c known clean class valued =
      let named = clean.named in
      let inner : IsClean s.known r e = record { named = record { short = named.short; paths = named.paths; tuples = named.tuples; stands = named.stands }; receives = clean.receives; constants = clean.constants; told = clean.told } in
      expr_there s r e c known inner class valued
  expr_there s r (receive at n) c known clean class valued =
      shown s r (receive at n) c (option_map made.receive (buffer_used s n)) known clean class (λ form. map_there made.receive (buffer_used s n) ((known n).buffer clean.named.stands.0 (mapped_back value (buffer_element s.known n) c class)))
  expr_there s r (start at n es) c known clean class valued =
      let g = s.known in
      let ms = modes_by s (origin_of g n) in
      let args = told_in_args g (each_receiver (receivers_of g n) (count_exprs es)) es in
      let number = told_number n.at (count_exprs es) (length (receivers_of g n)) in
      let named = clean.named in
      let own : AreWellNamed g false es = record { short = named.short; paths = named.paths; tuples = named.tuples; stands = named.stands.1 } in
      let fit = arguments_clean g of_mode ms (receivers_of g n) es n.at (process_receivers s n named.stands.0) (none_inside args number clean.told) (none_then args number clean.told) in
      let o = made_of (λ b rs. made.start (made.started b rs)) (body_used s n) (received_each s ms es) in
      shown s r (start at n es) c o known clean class (λ form. made_there (λ b rs. made.start (made.started b rs)) (body_used s n) (received_each s ms es) ((known n).started named.stands.0) (received_there s ms es known (known n).places own clean.constants fit))
  expr_there s r (tuple at n b rs) c known clean class valued =
      let g = s.known in
      let m = tuple_mode g n (received_mode r) in
      let t = tuple_of m (shape_fits rs) c (class_declarable s (received_mode r) (tuple at n b rs) c known clean.named clean.receives class) class in
      let operation : ModeTree → Option made.OperationTree = λ own. tuple_operation (form_of own) (ranges_as s own rs) (parts_as s (shape_fits rs) 0 (Some own) rs) in
      let misfit = told_if (shape_misfits (shape_fits rs) n r m) (tell_at rules.S11 b) in
      let inside = subst (λ k. told_in_parts g (shape_fits rs) 0 k rs ≡ []) t.is (none_inside (told_in_parts g (shape_fits rs) 0 m rs) misfit clean.told) in
      let named = clean.named in
      let parts : PartsClean g (shape_fits rs) t.own 0 rs = record { holds = t.form; declarable = t.declarable; named = record { short = named.short; paths = named.paths; tuples = named.tuples.1; stands = named.stands }; told = inside } in
      let standing = standing_of_parts by_itself n (have_form g rs) in
      let judged = told_if_constant (is_judged by_itself n (have_form g rs)) (told_tuple g (tuple_mode g n None) rs b) in
      let constants : has_form g false (tuple at n b rs) ≡ false → told_in_ranges g by_itself (shape_fits rs) 0 (tuple_mode g n None) rs ≡ [] = λ form. subst (λ k. told_in_ranges g k (shape_fits rs) 0 (tuple_mode g n None) rs ≡ []) (parts_alone g n (have_form g rs) form) (none_inside (told_in_ranges g standing (shape_fits rs) 0 (tuple_mode g n None) rs) judged clean.constants) in
      shown s r (tuple at n b rs) c (option_and_then operation m) known clean class
      (λ form. subst (λ k. IsSome (option_and_then operation k)) (sym t.is)
      (tuple_made (form_of t.own) rs (ranges_as s t.own rs) (parts_as s (shape_fits rs) 0 (Some t.own) rs) (has_bounds t.own t.declarable) t.form
      (λ is. members_there s (shape_fits rs) t.own 0 0 (tuple_mode g n None) rs known is parts (constants form))
      (λ alone. parts_there s (shape_fits rs) t.own 0 0 (tuple_mode g n None) rs known (shape_there (form_of t.own) rs t.form) alone parts (constants form))))
  expr_there s r (uniform at n b e) c known clean class valued =
      let g = s.known in
      let m = tuple_mode g n (received_mode r) in
      let t = tuple_of m uniform_fits c (class_declarable s (received_mode r) (uniform at n b e) c known clean.named clean.receives class) class in
      let part = mode_of_part uniform_fits 0 m in
      let inside = value_told g (of_mode part) e (told_in g (of_mode part) e) in
      let misfit = told_if (shape_misfits uniform_fits n r m) (tell_at rules.S11 b) in
      let named = clean.named in
      let own : IsWellNamed g e = record { short = named.short; paths = named.paths; tuples = named.tuples.1; stands = named.stands } in
      let is_place : IsPlace part = subst (λ k. IsPlace (mode_of_part uniform_fits 0 k)) (sym t.is) (part_of uniform_fits 0 t.own t.form t.declarable (element_part (form_of t.own) t.form)) in
      let within = mode_of_part uniform_fits 0 (tuple_mode g n None) in
      let standing = standing_of_parts by_itself n (has_form g true e) in
      let judged = told_if_constant (is_judged by_itself n (has_form g true e)) (told_uniform g (tuple_mode g n None) e b) in
      let constants : has_form g false (uniform at n b e) ≡ false → told_of_constants g e ≡ [] = λ form. told_any g None within e ∙ subst (λ k. told_as g k within e ≡ []) (parts_alone g n (has_form g true e) form) (none_inside (told_as g standing within e) judged clean.constants) in
      let operation : ModeTree → made.ReceivedTree → Option made.OperationTree = λ own r. uniform_operation (form_of own) r in
      shown s r (uniform at n b e) c (made_if operation m (received_as part (expr_as s part e))) known clean class
      (λ form.
      let value_is = value_by s part e known is_place own (none_inside inside misfit clean.told) (λ d is good told. expr_there s (of_mode part) e d known (record { named = own; receives = is_place.fits; constants = constants form; told = told }) is good) in
      let x = value_in (received_as part (expr_as s part e)) (place_there part (expr_as s part e) is_place.there value_is) in
      if_made operation m (received_as part (expr_as s part e)) t.own x.0 t.is x.1 (uniform_made (form_of t.own) x.0 t.form))
  expr_there s r (name n) c known clean class valued =
      shown s r (name n) c (option_map operation_at (location_named s n)) known clean class
      (λ form.
      let k = name_mode (entry_of s.known n) (origin_of s.known n) c form class valued in
      let there = location_shown s n c k.0 known form class valued k.1 in
      map_there operation_at (location_named s n) (is_there (location_named s n) there.at there.is))
  expr_there s r (apply at e es) c known clean class valued =
      let k = callee_of s.known e in
      let o = applied_operation s k (arguments s (formals_called s k) es) (class_first s es) (only_one s (mode_in_brackets s k e) es) (made_if element_path (only_one s (mode_in_brackets s k e) es) (path s e)) in
      let parts = bracket_parts s at e es known clean.named clean.constants (path_there s e known) (λ well none. only_there s es known well none) (λ well none fs formals fit. arguments_there s fs es known formals well none fit) in
      shown s r (apply at e es) c o known clean class (λ form. applied_shown s e es c k parts (record { is = refl; form = form; class = class; valued = valued; told = clean.told }))
  expr_there s r (field at e n) c known clean class valued =
      let there = field_there s at e n c known clean.named clean.constants clean.told class valued (path_there s e known) in
      let p = option_and_then (field_path n.text) (path s e) in
      shown s r (field at e n) c (option_map operation_at p) known clean class (λ form. map_there operation_at p (is_there p there.1.1.at there.1.1.is))
  expr_there s r (prefixed at o e) c known clean class valued =
      let g = s.known in
      let there = there_chained (class_of_unary o) (class_of g e) c class in
      let inside = own_told g nothing_asked e (told_in g nothing_asked e) in
      let misfit = told_if (holds_of (operand_misfits o) (class_of g e)) (tell_at rules.S1 at) in
      let named = clean.named in
      let own : IsWellNamed g e = record { short = named.short; paths = named.paths; tuples = named.tuples; stands = named.stands } in
      let operation : ClassTree → made.ExprTree → made.OperationTree = λ c e. made.prefixed (operator_before o c) e in
      shown s r (prefixed at o e) c (made_of operation (class_of g e) (expr_as s None e)) known clean class
      (λ form. made_there operation (class_of g e) (expr_as s None e) (is_there (class_of g e) there.0 there.1)
      (expr_there s nothing_asked e there.0 known (record { named = own; receives = no_receiver; constants = signed_inside g at o e form clean.constants; told = own_inside g e (none_inside inside misfit clean.told) }) there.1 (operand_valued o there.0 c there.2)))
  expr_there s r (binary at l o p k) c known clean class valued =
      let g = s.known in
      let of = operands_of (class_of_binary o) (class_of g l) (class_of g k) c class in
      let good = operands_valued o of.left of.right c of.result in
      let left = own_told g nothing_asked l (told_in g nothing_asked l) in
      let right = own_told g nothing_asked k (told_in g nothing_asked k) in
      let inside = none_inside (left ++ right) (told_if (holds_of_both (operands_misfit o) (class_of g l) (class_of g k)) (tell_at rules.S1 p)) clean.told in
      let constants = none_inside (told_as g by_itself None l ++ told_as g by_itself None k) (told_if_constant (has_form g false l && has_form g false k) (told_binary g p o l k)) clean.constants in
      let named = clean.named in
      let first : IsWellNamed g l = record { short = named.short.0; paths = named.paths.0; tuples = named.tuples.0; stands = named.stands.0 } in
      let second : IsWellNamed g k = record { short = named.short.1; paths = named.paths.1; tuples = named.tuples.1; stands = named.stands.1 } in
      let operator = made_if (operator_between o) (class_of g l) (class_of g k) in
      shown s r (binary at l o p k) c (made_of_three made.binary operator (expr_as s None l) (expr_as s None k)) known clean class
      (λ form. three_there made.binary operator (expr_as s None l) (expr_as s None k)
      (if_made (operator_between o) (class_of g l) (class_of g k) of.left of.right of.is_left of.is_right (operator_there o of.left of.right c (class_declarable s None k of.right known second no_receiver of.is_right) of.result))
      (expr_there s nothing_asked l of.left known (record { named = first; receives = no_receiver; constants = none_first (told_as g by_itself None l) (told_as g by_itself None k) constants; told = own_inside g l (none_first left right inside) }) of.is_left good.0)
      (expr_there s nothing_asked k of.right known (record { named = second; receives = no_receiver; constants = none_later (told_as g by_itself None l) (told_as g by_itself None k) constants; told = own_inside g k (none_later left right inside) }) of.is_right good.1))

  pub path_there : (s : Source) (e : ExprTree) → AllNamesKnown s → PathOf s e
  path_there s (name n) known c k clean named class has valued = name_path s n c k known clean.named.stands class (mode_valued c k has valued) has
  path_there s (field at e n) known c k clean named class has valued =
      let there = field_there s at e n c known clean.named clean.constants clean.told class (mode_valued c k has valued) (path_there s e known) in
      subst (λ m. PathThere (option_and_then (field_path n.text) (path s e)) m) (same_some there.0 k (sym (ap mode_in there.1.0) ∙ has)) there.1.1
  path_there s (apply at e es) known c k clean named class has valued =
      let f = callee_of s.known e in
      applied_path_shown s at e es c k f (bracket_parts s at e es known clean.named clean.constants (path_there s e known) (λ well none. only_there s es known well none) (λ well none fs formals fit. arguments_there s fs es known formals well none fit)) clean class has
      (λ form. record { is = refl; form = form; class = class; valued = mode_valued c k has valued; told = clean.told })
      (λ is. ap (λ x. holds_of (λ p. are_arguments s.known (is_measuring p) es) (value_routine x)) is)
  path_there s e known c k clean named class has valued = absurd (true≢false (sym named))

  pub only_there : (s : Source) (es : ExprNodes) → AllNamesKnown s → AreWellNamed s.known false es → told_in_each s.known es ≡ [] → OnlyThere s es
  only_there s no_exprs known named constants = tt
  only_there s (more_exprs e no_exprs) known named constants =
      λ r c receives inside class valued. expr_there s r e c known (record { named = record { short = named.short.0; paths = named.paths.0; tuples = named.tuples.0; stands = named.stands.0 }; receives = receives; constants = none_first (told_as s.known by_itself None e) [] constants; told = inside }) class valued
  only_there s (more_exprs e (more_exprs f fs)) known named constants = tt

  pub received_there : (s : Source) (ms : List (Option ModeTree)) (es : ExprNodes) → AllNamesKnown s → ArePlaces ms → AreWellNamed s.known false es → told_in_each s.known es ≡ [] → ArgumentsClean s.known of_mode ms es → IsSome (received_each s ms es)
  received_there s [] no_exprs known places named constants clean = refl
  received_there s (m ∷ ms) no_exprs known places named constants clean = (let count = clean.count in absurd (omega (arith, count)))
  received_there s [] (more_exprs e es) known places named constants clean = (let count = clean.count in absurd (omega (arith, count)))
  received_there s (m ∷ ms) (more_exprs e es) known places named constants clean =
      let g = s.known in
      let first = value_told g (of_mode m) e (told_in g (of_mode m) e) in
      let later = told_in_args g (map of_mode ms) es in
      let own : IsWellNamed g e = record { short = named.short.0; paths = named.paths.0; tuples = named.tuples.0; stands = named.stands.0 } in
      let others : AreWellNamed g false es = record { short = named.short.1; paths = named.paths.1; tuples = named.tuples.1; stands = named.stands.1 } in
      let is_clean = none_first (told_as g by_itself None e) (told_in_each g es) constants in
      let value_is = value_by s m e known places.0 own (none_first first later clean.told) (λ d is good told. expr_there s (of_mode m) e d known (record { named = own; receives = places.0.fits; constants = is_clean; told = told }) is good) in
      let count = clean.count in
      made_there made.more_received (received_as m (expr_as s m e)) (received_each s ms es) (place_there m (expr_as s m e) places.0.there value_is)
      (received_there s ms es known places.1 others (none_later (told_as g by_itself None e) (told_in_each g es) constants) (record { count = omega (arith, count); told = none_later first later clean.told }))

  pub arguments_there : (s : Source) (fs : List Formal) (es : ExprNodes) → AllNamesKnown s → AreFormals fs → AreWellNamed s.known false es → told_in_each s.known es ≡ [] → ArgumentsClean s.known receiver_for fs es → IsSome (arguments s fs es)
  arguments_there s [] no_exprs known formals named constants clean = refl
  arguments_there s (f ∷ fs) no_exprs known formals named constants clean = (let count = clean.count in absurd (omega (arith, count)))
  arguments_there s [] (more_exprs e es) known formals named constants clean = (let count = clean.count in absurd (omega (arith, count)))
  arguments_there s (f ∷ fs) (more_exprs e es) known formals named constants clean =
      let g = s.known in
      let m = f.1 in
      let first = value_told g (receiver_for f) e (told_in g (receiver_for f) e) in
      let later = told_in_args g (map receiver_for fs) es in
      let own : IsWellNamed g e = record { short = named.short.0; paths = named.paths.0; tuples = named.tuples.0; stands = named.stands.0 } in
      let others : AreWellNamed g false es = record { short = named.short.1; paths = named.paths.1; tuples = named.tuples.1; stands = named.stands.1 } in
      let is_clean = none_first (told_as g by_itself None e) (told_in_each g es) constants in
      let by_value : value_told g (of_mode m) e (told_in g (of_mode m) e) ≡ [] → IsSome (expr_as s m e) = λ none. value_by s m e known formals.0 own none (λ d is good told. expr_there s (of_mode m) e d known (record { named = own; receives = formals.0.fits; constants = is_clean; told = told }) is good) in
      let back : value_told g (passed_back m) e (told_in g (passed_back m) e) ≡ [] → IsSome (option_and_then target_of (path s e)) = λ none. argument_target s e m formals.0 own is_clean none (path_there s e known) in
      let count = clean.count in
      let target_is = option_and_then target_of (path s e) in
      made_there made.with_argument (argument_for f (received_as m (expr_as s m e)) target_is) (arguments s fs es) (argument_made s e f.0 m formals.0 by_value back (none_first first later clean.told))
      (arguments_there s fs es known formals.1 others (none_later (told_as g by_itself None e) (told_in_each g es) constants) (record { count = omega (arith, count); told = none_later first later clean.told }))

  -- the parts of an array or a structure
  parts_there : (s : Source) (fits : FormTree → Bool) (own : ModeTree) (k j : ℕ) (m : Option ModeTree) (rs : RangeNodes) → AllNamesKnown s → PartsThere (form_of own) k rs → are_alone rs ≡ true → PartsClean s.known fits own k rs → told_in_ranges s.known by_itself fits j m rs ≡ []
      → IsSome (parts_as s fits k (Some own) rs)
  parts_there s fits own k j m no_ranges known there alone_is clean constants = refl
  parts_there s fits own k j m (more_ranges (between l h) rs) known there alone_is clean constants = absurd (true≢false (sym alone_is))
  parts_there s fits own k j m (more_ranges (alone e) rs) known there alone_is clean constants =
      let g = s.known in
      let part = mode_of_part fits k (Some own) in
      let is_place = part_of fits k own clean.holds clean.declarable there.0 in
      let first = value_told g (of_mode part) e (told_in g (of_mode part) e) in
      let later = told_in_parts g fits (suc k) (Some own) rs in
      let named = clean.named in
      let own_named : IsWellNamed g e = record { short = named.short.0; paths = named.paths.0; tuples = named.tuples.0; stands = named.stands.0 } in
      let others : AreRangesWellNamed g rs = record { short = named.short.1; paths = named.paths.1; tuples = named.tuples.1; stands = named.stands.1 } in
      let within = mode_of_part fits j m in
      let is_clean = told_any g None within e ∙ none_first (told_as g by_itself within e) (told_in_ranges g by_itself fits (suc j) m rs) constants in
      let value_is = value_by s part e known is_place own_named (none_first first later clean.told) (λ d is good told. expr_there s (of_mode part) e d known (record { named = own_named; receives = is_place.fits; constants = is_clean; told = told }) is good) in
      made_there made.more_received (received_as part (expr_as s part e)) (parts_as s fits (suc k) (Some own) rs) (place_there part (expr_as s part e) is_place.there value_is)
      (parts_there s fits own (suc k) (suc j) m rs known there.1 alone_is (record { holds = clean.holds; declarable = clean.declarable; named = others; told = none_later first later clean.told })
      (none_later (told_as g by_itself within e) (told_in_ranges g by_itself fits (suc j) m rs) constants))

  -- the members of a powerset
  members_there : (s : Source) (fits : FormTree → Bool) (own : ModeTree) (k j : ℕ) (m : Option ModeTree) (rs : RangeNodes) → AllNamesKnown s → is_powerset (form_of own) ≡ true → PartsClean s.known fits own k rs → told_in_ranges s.known by_itself fits j m rs ≡ [] → IsSome (ranges_as s own rs)
  members_there s fits own k j m no_ranges known is clean constants = refl
  members_there s fits own k j m (more_ranges r rs) known is clean constants =
      let g = s.known in
      let part = mode_of_part (λ f. true) 0 (Some own) in
      let is_place = part_of (λ f. true) 0 own refl clean.declarable (member_there (form_of own) is) in
      let first = told_in_part g (mode_of_part fits k (Some own)) r in
      let later = told_in_parts g fits (suc k) (Some own) rs in
      let named = clean.named in
      let own_named : IsRangeWellNamed g r = record { short = named.short.0; paths = named.paths.0; tuples = named.tuples.0; stands = named.stands.0 } in
      let others : AreRangesWellNamed g rs = record { short = named.short.1; paths = named.paths.1; tuples = named.tuples.1; stands = named.stands.1 } in
      let inner = told_in_range g by_itself (mode_of_part fits j m) r in
      let behind = told_in_ranges g by_itself fits (suc j) m rs in
      made_there made.with_range (range_as s part r) (ranges_as s own rs)
      (range_there s part (mode_of_part fits j m) r known is_place own_named (subst (λ x. told_in_part g x r ≡ []) (member_part fits k own clean.holds is) (none_first first later clean.told)) (none_first inner behind constants))
      (members_there s fits own (suc k) (suc j) m rs known is (record { holds = clean.holds; declarable = clean.declarable; named = others; told = none_later first later clean.told }) (none_later inner behind constants))

  range_there : (s : Source) (m within : Option ModeTree) (r : RangeTree) → AllNamesKnown s → IsPlace m → IsRangeWellNamed s.known r → told_in_part s.known m r ≡ [] → told_in_range s.known by_itself within r ≡ [] → IsSome (range_as s m r)
  range_there s m within (alone e) known is_place named told constants =
      let own : IsWellNamed s.known e = record { short = named.short; paths = named.paths; tuples = named.tuples; stands = named.stands } in
      map_there made.alone (expr_as s m e) (value_by s m e known is_place own told (λ d is good inside. expr_there s (of_mode m) e d known (record { named = own; receives = is_place.fits; constants = told_any s.known None within e ∙ constants; told = inside }) is good))
  range_there s m within (between l h) known is_place named told constants =
      let g = s.known in
      let low : IsWellNamed g l = record { short = named.short.0; paths = named.paths.0; tuples = named.tuples.0; stands = named.stands.0 } in
      let high : IsWellNamed g h = record { short = named.short.1; paths = named.paths.1; tuples = named.tuples.1; stands = named.stands.1 } in
      let first = value_told g (of_mode m) l (told_in g (of_mode m) l) in
      let later = value_told g (of_mode m) h (told_in g (of_mode m) h) in
      let low_clean = told_any g None within l ∙ none_first (told_as g by_itself within l) (told_as g by_itself within h) constants in
      let high_clean = told_any g None within h ∙ none_later (told_as g by_itself within l) (told_as g by_itself within h) constants in
      made_there made.between (expr_as s m l) (expr_as s m h)
      (value_by s m l known is_place low (none_first first later told) (λ d is good inside. expr_there s (of_mode m) l d known (record { named = low; receives = is_place.fits; constants = low_clean; told = inside }) is good))
      (value_by s m h known is_place high (none_later first later told) (λ d is good inside. expr_there s (of_mode m) h d known (record { named = high; receives = is_place.fits; constants = high_clean; told = inside }) is good))
