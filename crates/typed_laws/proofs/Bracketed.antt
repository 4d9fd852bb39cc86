-- Locations that are given back, fields and brackets, by what is known of their parts.
use Rattle.std.proofs.Common.{◌≡◌, ℕ, suc, ◌==◌, Bool, true, false, ◌&&◌, List, [], ◌∷◌, ◌++◌, Option, Some, None, refl, sym, ap, ◌∙◌, subst, true≢false}
use Rattle.std.specs.Prelude.{is_some, not, if◌then◌else◌, option_map, option_and_then}
use Rattle.chill_base.specs.declared.pos.Pos.{Pos}
use Rattle.chill_tree.specs.declared.tree.name.Name.{Name}
use Rattle.chill_tree.specs.declared.tree.item.Passing.{Passing}
use Rattle.chill_tree.specs.declared.tree.item.Passing.TheVariants as passings
use Rattle.chill_tree.specs.ExprTree.{ExprTree, ExprNodes, name, apply, field, place_of}
use Rattle.modes.specs.ModeTree.{ModeTree, ClassTree, value}
use Rattle.modes.specs.Form.{FormTree, form_of}
use Rattle.modes.specs.Bounds.{bounds_of}
use Rattle.modes.specs.Scalars.{scalars_of}
use Rattle.modes.specs.Similar.{VEquivalent}
use Rattle.diagnostics.specs.declared.diagnostic.Diagnostic.{Diagnostic}
use Rattle.diagnostics.specs.declared.rule.Rule.TheVariants as rules
use Rattle.program_trees.specs.ExprTree as made
use Rattle.program_trees.specs.ProgramTree.{BodyRowTree}
use Rattle.checks_model.specs.Alike.{is_meeting, mode_in, are_v_equivalent}
use Rattle.checks_model.specs.Ground.{Ground, Predefined}
use Rattle.checks_model.specs.Operations.{element_of_form, field_of_form}
use Rattle.checks_model.specs.Classes.{class_of, class_as, result_class, Callee, calls, routine, no_callee, callee_of, count_exprs}
use Rattle.checks_model.specs.Constants.{has_form}
use Rattle.checks_model.specs.ConstantRules.{told_of_constants}
use Rattle.checks_model.specs.Told.{tell_at, told_if, holds_of}
use Rattle.checks_model.specs.ActionRules.{measures}
use Rattle.checks_model.specs.ValueRules.{nothing_asked, of_mode, passed_back, place, path_of, place_part, is_free, does_not_fit_parameter, told_received, own_told, value_told, told_in, told_in_args, told_inside_each, receivers_behind, index_mode, clean_class}
use Rattle.table_laws.specs.Names.{names_in}
use Rattle.written_laws.specs.Written.{is_name_with_parts}
use Rattle.elaborated_laws.proofs.Told.{none_first, none_inside, none_then, not_broken, both_left, both_right, same_some, no_some, there_mapped, there_chained}
use Rattle.elaborated_laws.proofs.Classes.{no_receiver}
use Rattle.there_laws.proofs.Modes.{value_in}
use Rattle.constant_laws.specs.Constants.{HasBytes}
use Rattle.elaboration_model.specs.Numbering.{Source}
use Rattle.elaboration_model.specs.Parts.{made_if}
use Rattle.elaboration_model.specs.Elaborated.{way_of}
use Rattle.elaboration_model.specs.Expressions.{Root, at_base, of_value, Path, Target, field_path, element_path, path, arguments, only_one, class_first, mode_in_brackets, formals_called, applied_operation, applied_path, operation_at, target_at, target_of, folded, received_as, argument_for, expr_as}
use Rattle.expression_laws.specs.Names.{is_of_values, IsPlace, IsWellNamed, AreWellNamed, AllNamesKnown}
use Rattle.expression_laws.specs.Expressions.{IsClean}
use Rattle.expression_laws.proofs.Values.{declarable_in}
use Rattle.expression_laws.proofs.Known.{callee_called}
use Rattle.expression_laws.proofs.Parts.{class_declarable}
use Rattle.expression_laws.proofs.Applied.{told_inside, receiver_for, PartIn, part_in}
use Rattle.expression_laws.proofs.Places.{is_located, part_place, in_place, free_located}
use Rattle.expression_laws.proofs.Expressions.{BracketsClean, told_located, fits_parameter, equivalent_mode, path_there, mode_valued}
use Rattle.source_meaning.specs.TypedValues.{Context, HasMode, OperationHas, LocationHas, IsParameter, IsTakenBy, ArgumentsFit}
use Rattle.typed_laws.specs.Typed.{mode_for, TypedAs, AreNamesTyped}
use Rattle.typed_laws.proofs.Modes.{mode_for_in, equivalent_modes}
use Rattle.typed_laws.proofs.Made.{made_parts, FoldedBy, folded_typed}
use Rattle.typed_laws.proofs.Paths.{RootHas, PathTyped, operation_has, field_typed, field_mode, value_path_typed}
use Rattle.typed_laws.proofs.Behind.{OnlyTyped, ArgumentsTyped, routine_typed, call_typed, brackets_typed}

-- a name with parts, whatever it is of
abbrev pub PathsTyped : Source → Context → ExprTree → Type 0
PathsTyped s ctx e = (c : ClassTree) (k : ModeTree) (p : Path) → IsClean s.known nothing_asked e → is_name_with_parts e ≡ true → class_of s.known e ≡ Some c → mode_in c ≡ Some k → not (is_meeting (form_of k)) ≡ true → path s e ≡ Some p → PathTyped ctx p × (p.mode ≡ k)

pub path_mode : (s : Source) (e : ExprTree) (c : ClassTree) (k : ModeTree) (p : Path) → AllNamesKnown s → IsClean s.known nothing_asked e → is_name_with_parts e ≡ true → class_of s.known e ≡ Some c → mode_in c ≡ Some k → not (is_meeting (form_of k)) ≡ true → path s e ≡ Some p → p.mode ≡ k
path_mode s e c k p known clean named class has valued built =
    let there = path_there s e known c k clean named class has valued in
    ap (λ (x : Path). x.mode) (same_some p there.at (sym built ∙ there.is)) ∙ there.mode

-- the operation of a name with parts
pub path_folded : (ctx : Context) (c : ClassTree) (q : Path) (o : made.OperationTree) (k : ModeTree) → PathTyped ctx q → q.mode ≡ k → mode_for c ≡ Some k → operation_at q ≡ o → FoldedBy ctx c o
path_folded ctx c q o k t mode class is m of fits = subst (λ x. OperationHas ctx o x) (mode ∙ same_some k m (sym class ∙ of)) (subst (λ x. OperationHas ctx x q.mode) is (operation_has ctx q t))

-- ---- locations

located_typed : (ctx : Context) (p : Path) (t : Target) → PathTyped ctx p → target_of p ≡ Some t → LocationHas ctx t.0 t.1 × (t.1 ≡ p.mode)
located_typed ctx p t typed is = by p.root typed.root is
  where
    by : (r : Root) → RootHas ctx r typed.of → target_at r p.parts p.mode ≡ Some t → LocationHas ctx t.0 t.1 × (t.1 ≡ p.mode)
    by (at_base b) has is = subst (λ (x : Target). LocationHas ctx x.0 x.1 × (x.1 ≡ p.mode)) (same_some (made.location b (made.part_nodes p.parts) (scalars_of p.mode), p.mode) t is) ((typed.of, has, typed.leads, refl), refl)
    by (of_value e) has is = no_some t is

located_named : (g : Ground) (e : ExprTree) → is_located (path_of g e).access ≡ true → is_name_with_parts e ≡ true
located_named g (name n) is = refl
located_named g (field at e n) is = located_named g e (part_place (field_of_form n.text) (path_of g e) is).whole
located_named g (apply at e es) is = located_named g e (part_place element_of_form (path_of g e) is).whole
located_named g e is = absurd (true≢false (sym is))

-- a location that can be written, with its mode
pub free_typed : (s : Source) (ctx : Context) (e : ExprTree) (k : ModeTree) (t : Target) → IsWellNamed s.known e → told_of_constants s.known e ≡ [] → told_in s.known nothing_asked e ≡ [] → is_free (place s.known e).access ≡ true → (path_of s.known e).mode ≡ Some k → not (is_meeting (form_of k)) ≡ true
    → PathsTyped s ctx e → option_and_then target_of (path s e) ≡ Some t → LocationHas ctx t.0 t.1 × (t.1 ≡ k)
free_typed s ctx e k t named constants told is has valued at built =
    let g = s.known in
    let there = free_located g e is in
    let own = in_place g e there in
    let same = same_some own.mode k (sym own.is ∙ has) in
    let p = there_chained target_of (path s e) t built in
    let typed = at (value k) k p.0 (record { named = named; receives = no_receiver; constants = constants; told = told }) (located_named g e there) (own.class ∙ ap (λ x. Some (value x)) same) refl valued p.1 in
    let loc = located_typed ctx p.0 t typed.0 p.2 in
    (loc.0, loc.1 ∙ typed.1)

-- a location that a parameter gives back to
pub back_typed : (s : Source) (ctx : Context) (e : ExprTree) (m : Option ModeTree) (t : Target) → IsWellNamed s.known e → told_of_constants s.known e ≡ [] → PathsTyped s ctx e → value_told s.known (passed_back m) e (told_in s.known (passed_back m) e) ≡ [] → option_and_then target_of (path s e) ≡ Some t
    → (q : ModeTree) → m ≡ Some q → LocationHas ctx t.0 t.1 × VEquivalent t.1 q
back_typed s ctx e m t named constants at none built q is =
    let g = s.known in
    let r = passed_back m in
    let misfits = holds_of (does_not_fit_parameter (place g e)) m in
    let fits = fits_parameter g e m q is (not_broken misfits (tell_at rules.S6 (place_of e)) (none_then (own_told g r e (told_in g r e)) (told_received g r e) none)) in
    let alike = holds_of (λ own. are_v_equivalent own q) (place g e).mode in
    let free = both_left (is_free (place g e).access) alike fits in
    let equal = both_right (is_free (place g e).access) alike fits in
    let own = equivalent_mode (place g e).mode q equal in
    let loc = free_typed s ctx e own.0 t named constants (sym (told_located g r e (free_located g e free)) ∙ told_inside g r e none) free own.1.0 own.1.1 at built in
    (loc.0, subst (λ x. VEquivalent x q) (sym loc.1) (equivalent_modes own.0 q (subst (λ x. holds_of (λ own. are_v_equivalent own q) x ≡ true) own.1.0 equal)))

-- what goes to a parameter, as a value or as a location
pub argument_typed : (s : Source) (ctx : Context) (e : ExprTree) (p : Passing) (m : Option ModeTree) (a : made.ArgumentTree) (rest : made.ArgumentNodes) (row : BodyRowTree) (k : ℕ) → IsPlace m
    → ((q : ModeTree) → m ≡ Some q → IsParameter row.locals row.parameters k (record { passing = way_of p }) q)
    → (value_told s.known (of_mode m) e (told_in s.known (of_mode m) e) ≡ [] → (r : made.ReceivedTree) → received_as m (expr_as s m e) ≡ Some r → (q : ModeTree) → m ≡ Some q → IsTakenBy ctx r q)
    → (value_told s.known (passed_back m) e (told_in s.known (passed_back m) e) ≡ [] → (t : Target) → option_and_then target_of (path s e) ≡ Some t → (q : ModeTree) → m ≡ Some q → LocationHas ctx t.0 t.1 × VEquivalent t.1 q)
    → value_told s.known (receiver_for (p, m)) e (told_in s.known (receiver_for (p, m)) e) ≡ [] → argument_for (p, m) (received_as m (expr_as s m e)) (option_and_then target_of (path s e)) ≡ Some a
    → ArgumentsFit ctx rest row (suc k) → ArgumentsFit ctx (made.with_argument a rest) row k
argument_typed s ctx e passings.In m a rest row k place_is parameter by_value back none built later =
    let there = there_mapped made.taken (received_as m (expr_as s m e)) a built in
    let q = value_in m place_is.there in
    subst (λ y. ArgumentsFit ctx (made.with_argument y rest) row k) there.2 (q.0, parameter q.0 q.1, by_value none there.0 there.1 q.0 q.1, later)
argument_typed s ctx e passings.Out m a rest row k place_is parameter by_value back none built later =
    let there = there_mapped (λ (t : Target). made.given t.0 (bounds_of t.1)) (option_and_then target_of (path s e)) a built in
    let q = value_in m place_is.there in
    let loc = back none there.0 there.1 q.0 q.1 in
    subst (λ y. ArgumentsFit ctx (made.with_argument y rest) row k) there.2 (q.0, parameter q.0 q.1, (there.0.1, loc.0, loc.1, refl), later)
argument_typed s ctx e passings.InOut m a rest row k place_is parameter by_value back none built later =
    let of_both : ModeTree → Target → made.ArgumentTree = λ m t. made.both t.0 (bounds_of m) (bounds_of t.1) in
    let built_by = made_parts of_both m (option_and_then target_of (path s e)) a built in
    let loc = back none built_by.second built_by.of_second built_by.first built_by.of_first in
    subst (λ y. ArgumentsFit ctx (made.with_argument y rest) row k) built_by.whole (built_by.first, parameter built_by.first built_by.of_first, refl, (built_by.second.1, loc.0, loc.1, refl), later)

-- ---- fields

pub field_built : (s : Source) (ctx : Context) (e : ExprTree) (n : Name) (c : ClassTree) (q : Path) → (p : PartIn (field_of_form n.text) (class_of s.known e) c) → ((b : Path) → path s e ≡ Some b → PathTyped ctx b × (b.mode ≡ p.mode)) → option_and_then (field_path n.text) (path s e) ≡ Some q
    → PathTyped ctx q × (q.mode ≡ p.own)
field_built s ctx e n c q p base built =
    let there = there_chained (field_path n.text) (path s e) q built in
    let b = base there.0 there.1 in
    (field_typed ctx n.text there.0 q b.0 there.2, field_mode n.text there.0 q p.own (ap (λ x. field_of_form n.text (form_of x)) b.1 ∙ p.has) there.2)

-- ---- brackets

-- what is known of the parts of brackets
pub record BracketsTyped (s : Source) (ctx : Context) (e : ExprTree) (es : ExprNodes) : Type 0 where
  pub own : IsWellNamed s.known e
  pub names : AreNamesTyped s ctx (names_in e)
  pub base : (d : ClassTree) (k : ModeTree) (b : Path) → class_of s.known e ≡ Some d → mode_in d ≡ Some k → not (is_meeting (form_of k)) ≡ true → told_in s.known nothing_asked e ≡ [] → path s e ≡ Some b → PathTyped ctx b × (b.mode ≡ k)
  pub named : measures (callee_of s.known e) ≡ false → AreWellNamed s.known false es
  pub only : measures (callee_of s.known e) ≡ false → OnlyTyped s ctx es
  pub each : measures (callee_of s.known e) ≡ false → ArgumentsTyped s ctx es

module _ (s : Source) (ctx : Context) (known : AllNamesKnown s) (e : ExprTree) (es : ExprNodes) (c : ClassTree) (parts : BracketsTyped s ctx e es) where
  called_built : (n : Name) (o : made.OperationTree) → BracketsClean s e es (calls n) c → applied_operation s (calls n) (arguments s (formals_called s (calls n)) es) (class_first s es) (only_one s None es) None ≡ Some o → FoldedBy ctx c o
  called_built n o clean built =
      let called = callee_called s.known e n clean.is in
      let own = subst (λ x. AreNamesTyped s ctx (names_in x)) called.is_name parts.names in
      let class = sym (ap (result_class s.known) called.is_name) ∙ clean.class in
      call_typed s ctx known n (place_of e) (class_of s.known e) (told_in s.known nothing_asked e) (told_inside_each s.known es) es c o own.0 called.procedure (parts.each (ap measures clean.is)) clean.told class built

  evaluated_built : (p : Predefined) (o : made.OperationTree) → BracketsClean s e es (routine p) c → applied_operation s (routine p) (arguments s (formals_called s (routine p)) es) (class_first s es) (only_one s None es) None ≡ Some o → FoldedBy ctx c o
  evaluated_built p o clean built =
      routine_typed s ctx known p (place_of e) (class_of s.known e) (told_in s.known nothing_asked e) es c o (λ apart. (parts.named (ap measures clean.is ∙ apart), parts.only (ap measures clean.is ∙ apart))) clean.class clean.told built

  indexed_built : (q : Path) → BracketsClean s e es no_callee c → made_if element_path (only_one s (mode_in_brackets s no_callee e) es) (path s e) ≡ Some q → (k : ModeTree) × ((c ≡ value k) × (PathTyped ctx q × (q.mode ≡ k)))
  indexed_built q clean built =
      let g = s.known in
      let inside = told_in g nothing_asked e in
      let args = told_in_args g (receivers_behind g no_callee (clean_class inside (class_of g e)) (count_exprs es)) es in
      let number = told_if (is_some (index_mode (class_of g e)) && not (count_exprs es == 1)) (tell_at rules.S5 (place_of e)) in
      let none = none_first inside args (none_inside (inside ++ args) number clean.told) in
      let p = part_in element_of_form (class_of g e) c refl clean.class clean.valued in
      let declarable = declarable_in p.whole p.mode (class_declarable s None e p.whole known parts.own no_receiver p.is) p.in_whole in
      (p.own, (p.class, brackets_typed s ctx known (place_of e) e es c q (told_inside_each g es) (parts.named (ap measures clean.is)) (parts.only (ap measures clean.is)) p (λ b at. parts.base p.whole p.mode b p.is p.in_whole p.valued none at) declarable clean.told built))

  pub applied_built : (k : Callee) (o : made.OperationTree) → BracketsClean s e es k c
      → applied_operation s k (arguments s (formals_called s k) es) (class_first s es) (only_one s (mode_in_brackets s k e) es) (made_if element_path (only_one s (mode_in_brackets s k e) es) (path s e)) ≡ Some o → FoldedBy ctx c o
  applied_built (calls n) o clean built = called_built n o clean built
  applied_built (routine p) o clean built = evaluated_built p o clean built
  applied_built no_callee o clean built =
      let there = there_mapped operation_at (made_if element_path (only_one s (mode_in_brackets s no_callee e) es) (path s e)) o built in
      let q = indexed_built there.0 clean there.1 in
      path_folded ctx c there.0 o q.0 q.1.1.0 q.1.1.1 (ap mode_for q.1.0) there.2

-- brackets as a name with parts
pub applied_path_typed : (s : Source) (ctx : Context) (at : Pos) (e : ExprTree) (es : ExprNodes) (c : ClassTree) (m : ModeTree) (k : Callee) (q : Path) → AllNamesKnown s → BracketsTyped s ctx e es → AreNamesTyped s ctx (names_in (apply at e es)) → HasBytes (apply at e es) → IsClean s.known nothing_asked (apply at e es)
    → class_of s.known (apply at e es) ≡ Some c → mode_in c ≡ Some m → is_of_values c ≡ true → (has_form s.known false (apply at e es) ≡ false → BracketsClean s e es k c) → (k ≡ no_callee → has_form s.known false (apply at e es) ≡ false)
    → applied_path k (folded s None (apply at e es) (applied_operation s k (arguments s (formals_called s k) es) (class_first s es) (only_one s None es) None)) (class_of s.known (apply at e es)) (made_if element_path (only_one s (mode_in_brackets s k e) es) (path s e)) ≡ Some q → PathTyped ctx q
applied_path_typed s ctx at e es c m (calls n) q known parts names bytes clean class has valued brackets apart built =
    let o = applied_operation s (calls n) (arguments s (formals_called s (calls n)) es) (class_first s es) (only_one s None es) None in
    value_path_typed ctx (folded s None (apply at e es) o) (class_of s.known (apply at e es)) c q
    (λ x is. folded_typed s ctx known nothing_asked (apply at e es) c o x names bytes clean class valued (λ form op op_is. applied_built s ctx known e es c parts (calls n) op (brackets form) op_is) is) class built
applied_path_typed s ctx at e es c m (routine p) q known parts names bytes clean class has valued brackets apart built =
    let o = applied_operation s (routine p) (arguments s (formals_called s (routine p)) es) (class_first s es) (only_one s None es) None in
    value_path_typed ctx (folded s None (apply at e es) o) (class_of s.known (apply at e es)) c q
    (λ x is. folded_typed s ctx known nothing_asked (apply at e es) c o x names bytes clean class valued (λ form op op_is. applied_built s ctx known e es c parts (routine p) op (brackets form) op_is) is) class built
applied_path_typed s ctx at e es c m no_callee q known parts names bytes clean class has valued brackets apart built = (indexed_built s ctx known e es c parts q (brackets (apart refl)) built).1.1.0
