-- Actions that hold no others are typed, where nothing is told of them.
use Rattle.std.proofs.Common.{◌≡◌, ◌≤◌, ◌<◌, ℕ, suc, ◌==◌, Bool, true, false, ◌&&◌, ◌||◌, List, [], ◌∷◌, ◌++◌, length, Option, Some, None, ℤ, pos, negsuc, refl, sym, ap, ◌∙◌, subst, arith, true≢false}
use Rattle.std.proofs.lemmas.Int.{ints}
use Rattle.std.specs.Prelude.{IsSome, is_some, not, int_le, if◌then◌else◌, option_map, option_and_then, map, flat_map, replicate}
use Rattle.std.specs.Str.{bytes_eq}
use Rattle.chill_base.specs.declared.pos.Pos.{Pos}
use Rattle.chill_tree.specs.declared.tree.name.Name.{Name}
use Rattle.chill_tree.specs.declared.tree.expr.Operator.{Operator}
use Rattle.chill_tree.specs.declared.tree.expr.Operator.TheVariants as ops
use Rattle.chill_tree.specs.ExprTree.{ExprTree, ExprNodes, name, apply, no_exprs, more_exprs, expr_nodes, place_of}
use Rattle.chill_tree.specs.SimpleTree.{SimpleTree, assign, update, call_of, exit, return_with, result_of, assert_that, cause, stop, start_of, delay, continue_event, send}
use Rattle.modes.specs.declared.mode.Bounds.{Bounds}
use Rattle.modes.specs.ModeTree.{ModeTree, ClassTree, value, derived, null, nothing, instance, int, event, buffer, read, named, range}
use Rattle.modes.specs.Form.{FormTree, form_of, of_meeting, of_powerset, of_instance}
use Rattle.modes.specs.Bounds.{bounds_of, bounds_in}
use Rattle.modes.specs.Roots.{root_of}
use Rattle.modes.specs.Similar.{Similar, Shape, like_instance, shape_of, has_values}
use Rattle.diagnostics.specs.declared.diagnostic.Diagnostic.{Diagnostic}
use Rattle.diagnostics.specs.declared.rule.Rule.TheVariants as rules
use Rattle.checked_program.specs.declared.expr.Binary.{Binary}
use Rattle.checked_program.specs.declared.expr.Routine.{Routine}
use Rattle.program_trees.specs.ExprTree as made
use Rattle.program_trees.specs.StatementTree as done
use Rattle.checks_model.specs.Alike.{is_int, is_chars, is_boolean, is_powerset, is_discrete, is_meeting, class_is, are_compatible, goes_with}
use Rattle.checks_model.specs.Ground.{Ground, Origin, Predefined, of_mode as of_its_mode, truth, no_instance, num, succ, pred, abs, card, min, max, upper, lower, size, put_int, put_text, put_nl, get_int, origin_of, message_parts}
use Rattle.checks_model.specs.Operations.{form_in, class_of_measure, measured_mode, member_class, class_of_binary, class_of_routine, operands_misfit, is_measuring, arguments_of, gives_no_value, takes, their_class}
use Rattle.checks_model.specs.Classes.{class_as, class_of, class_of_first, class_of_call, class_of_measured, class_behind, result_class, Measured, a_mode_of, misfit, other, Callee, calls, routine, no_callee, callee_named, measured_first, count_exprs}
use Rattle.checks_model.specs.ConstantRules.{told_of_constants, told_in_each, told_needed, told_some_needed}
use Rattle.checks_model.specs.Told.{tell_at, told_if, then_told, holds_of, holds_of_both}
use Rattle.checks_model.specs.ValueRules.{Receiver, nothing_asked, of_mode, condition, received_mode, told_value, told_some_value, value_told, told_in, told_in_args, told_inside_each, told_behind, told_number, receivers_of, each_receiver, receivers_behind, clean_class}
use Rattle.checks_model.specs.ActionRules.{Returning, no_procedure, no_value, a_value, not_allowed, result_receiver, measures, told_target, target_mode, clean, told_arguments, told_routine, told_message, args_in}
use Rattle.checks_model.specs.Sites as sites
use Rattle.checks_model.specs.Phases.{some_expr, some_exprs, returning_of, purpose_of_send, told_met, told_of_priority, told_of_some_priority}
use Rattle.checks_model.specs.ProcessRules.{for_events, told_misfit, is_priority, told_priority}
use Rattle.checks_model.specs.ValueTrees.{ValueTree, number}
use Rattle.checks_model.specs.Constants.{constant_of}
use Rattle.checks_model.specs.WrittenModes.{number_in, unless_told}
use Rattle.table_laws.specs.Names.{names_in, names_in_each}
use Rattle.written_laws.specs.Written.{Each}
use Rattle.class_laws.proofs.Clean.{clean_there}
use Rattle.elaborated_laws.specs.Known.{IsDeclarable}
use Rattle.elaborated_laws.proofs.Told.{none_first, none_later, none_inside, none_then, not_broken, not_true, both_right, neither_right, no_some, same_some, there_mapped, there_chained}
use Rattle.elaborated_laws.proofs.Classes.{no_receiver}
use Rattle.there_laws.proofs.Modes.{value_in}
use Rattle.elaboration_model.specs.Numbering.{Source, Thing, a_buffer, a_message, thing_used, event_used, body_used}
use Rattle.elaboration_model.specs.Parts.{made_of, made_if, made_of_some}
use Rattle.elaboration_model.specs.Expressions.{Target, expr_as, expr_alone, received_by, received_each, arguments, only_one, class_first, routine_on, operator_between, formals_by, modes_by, target}
use Rattle.elaboration_model.specs.Exceptions.{exception_number}
use Rattle.elaboration_model.specs.Statements.{Around, outwards, called, evaluated, routine_by, call_action, given_back, updated, priority, constant_number, natural_in, some_args, only_received, sent_by, receiver, parts_sent, sent, action_of}
use Rattle.constant_laws.specs.Constants.{HasBytes, HaveBytes}
use Rattle.constant_laws.proofs.Shapes.{form_shape, shape_is, root_shape, own_root}
use Rattle.expression_laws.specs.Names.{stands_for_call, stands_for_procedure, stands_for_process, is_of_values, takes_parts, MessageKnown, IsWellNamed, AreWellNamed, AllNamesKnown}
use Rattle.expression_laws.specs.Expressions.{IsClean}
use Rattle.expression_laws.specs.Statements.{IsAround}
use Rattle.expression_laws.proofs.Values.{goes_place, class_valued}
use Rattle.expression_laws.proofs.Operators.{operands_valued, routine_there}
use Rattle.expression_laws.proofs.Known.{known_there, called_by, procedure_of, process_of}
use Rattle.expression_laws.proofs.Parts.{class_declarable, value_goes}
use Rattle.expression_laws.proofs.Applied.{RoutineParts, first_declarable, same_first, receiver_for, ArgumentsClean, arguments_clean, procedure_receivers, process_receivers}
use Rattle.expression_laws.proofs.Expressions.{only_there}
use Rattle.expression_laws.proofs.Actions.{value_known, test_holds, target_told, target_declarable, listed_named, listed_told, brackets_named, brackets_told, RoutineTold, routine_told, routine_behind, routine_named, first_class, none_single, each_first, each_later, flat_both, sent_met, same_args, some_named, some_told, instance_fits}
use Rattle.source_meaning.specs.TypedValues.{Context, BufferHas, HasMode, LocationHas, IsTakenBy, BinaryHas, RoutineHas, IsTypedCall}
use Rattle.source_meaning.specs.TypedStatements as typed
use Rattle.source_meaning.specs.TypedStatements.{IsCondition, IsReceiver, IsTypedSend, IsTypedReturn, IsTypedAction}
use Rattle.typed_laws.specs.Typed.{mode_for, TypedAs, AreParameters, AreTaken, IsNameTyped, AreNamesTyped}
use Rattle.action_laws.specs.Actions.{IsSound, IsMessageTyped, is_updating, StandsAround, ActionTypedLaw}
use Rattle.typed_laws.proofs.Modes.{mode_for_in, tested_form, its_form, declared_mode, compatible_alike}
use Rattle.typed_laws.proofs.Operators.{int_form, boolean_form, chars_form, both_if, when_is, if_is, Operands, binary_has, routine_has}
use Rattle.typed_laws.proofs.Made.{made_parts, if_parts, TakenEach, taken_row, have_each, goes_typed, taken_typed}
use Rattle.typed_laws.proofs.Behind.{OnlyTyped, operand_typed}
use Rattle.typed_laws.proofs.Bracketed.{free_typed}
use Rattle.typed_laws.proofs.Expressions.{expr_typed, only_typed, received_typed, arguments_typed, path_typed_law}

-- ---- the operator of an assignment

operands_fit : (o : Operator) (m : Option ModeTree) (c : Option ClassTree) (k : ModeTree) (d : ClassTree) → m ≡ Some k → c ≡ Some d → holds_of_both (operands_misfit o) (option_map value m) c ≡ false → IsSome (class_of_binary o (value k) d)
operands_fit o m c k d mode class fits = not_true (is_some (class_of_binary o (value k) d)) (ap (λ x. holds_of_both (operands_misfit o) (Some (value k)) x) (sym class) ∙ (ap (λ x. holds_of_both (operands_misfit o) (option_map value x) c) (sym mode) ∙ fits))

table_root : (b : Bool) (a : ModeTree) (d c : ClassTree) (own : ModeTree) → mode_for d ≡ Some own → (if b && are_compatible (value a) d then their_class (value a) d else None) ≡ Some c → (c ≡ value (root_of a)) × Similar (root_of a) a
table_root b a d c own is built =
    let both = both_if b (are_compatible (value a) d) (their_class (value a) d) None c built refl in
    let alike = compatible_alike (value a) d a own refl is both.1.0 in
    (sym (same_some (value (root_of a)) c both.1.1), record { shape = root_shape a; values = subst (λ h. has_values h ≡ true) (sym (root_shape a)) alike.values })

updating_root : (o : Operator) (a : ModeTree) (d c : ClassTree) (own : ModeTree) → is_updating o ≡ true → mode_for d ≡ Some own → class_of_binary o (value a) d ≡ Some c → (c ≡ value (root_of a)) × Similar (root_of a) a
updating_root ops.Or a d c own updating is built = table_root (takes ops.Or (value a)) a d c own is built
updating_root ops.Xor a d c own updating is built = table_root (takes ops.Xor (value a)) a d c own is built
updating_root ops.And a d c own updating is built = table_root (takes ops.And (value a)) a d c own is built
updating_root ops.OrIf a d c own updating is built = table_root (takes ops.OrIf (value a)) a d c own is built
updating_root ops.AndIf a d c own updating is built = table_root (takes ops.AndIf (value a)) a d c own is built
updating_root ops.Plus a d c own updating is built = table_root (takes ops.Plus (value a)) a d c own is built
updating_root ops.Minus a d c own updating is built = table_root (takes ops.Minus (value a)) a d c own is built
updating_root ops.Times a d c own updating is built = table_root (takes ops.Times (value a)) a d c own is built
updating_root ops.Divide a d c own updating is built = table_root (takes ops.Divide (value a)) a d c own is built
updating_root ops.Mod a d c own updating is built = table_root (takes ops.Mod (value a)) a d c own is built
updating_root ops.Rem a d c own updating is built = table_root (takes ops.Rem (value a)) a d c own is built
updating_root o a d c own updating is built = absurd (true≢false (sym updating))

-- ---- classes of what is evaluated, and of routines

bounded_valued : (m : ModeTree) (b : Bounds) → bounds_of m ≡ Some b → not (is_meeting (form_of m)) ≡ true
bounded_valued (event l) b is = no_some b is
bounded_valued (buffer l e) b is = no_some b is
bounded_valued (read m) b is = bounded_valued m b is
bounded_valued (named d n m) b is = bounded_valued m b is
bounded_valued (range p l h) b is = let there = inner_bounds (bounds_of p) l h b is in bounded_valued p there.0 there.1
  where
    inner_bounds : (k : Option Bounds) (l h : ℤ) (b : Bounds) → bounds_in k l h ≡ Some b → (c : Bounds) × (k ≡ Some c)
    inner_bounds (Some c) l h b is = (c, refl)
    inner_bounds None l h b is = no_some b is
bounded_valued m b is = refl

derived_valued : (m : ModeTree) (c : ClassTree) → not (is_meeting (form_of m)) ≡ true → derived m ≡ c → is_of_values c ≡ true
derived_valued m c valued is = subst (λ k. is_of_values k ≡ true) is valued

measure_valued : (p : Predefined) (m : ModeTree) (c : ClassTree) → is_measuring p ≡ true → class_of_measure p m ≡ Some c → is_of_values c ≡ true
measure_valued size m c measures is = let both = when_is (not (is_meeting (form_of m))) (derived int) c is in derived_valued int c refl both.1
measure_valued upper m c measures is =
    let k = measured_mode m (form_of m) in
    let both = when_is (is_some (bounds_of k)) (derived k) c is in
    let b = value_in (bounds_of k) both.0 in
    derived_valued k c (bounded_valued k b.0 b.1) both.1
measure_valued lower m c measures is =
    let k = measured_mode m (form_of m) in
    let both = when_is (is_some (bounds_of k)) (derived k) c is in
    let b = value_in (bounds_of k) both.0 in
    derived_valued k c (bounded_valued k b.0 b.1) both.1
measure_valued p m c measures is = absurd (true≢false (sym measures))

measured_valued : (p : Predefined) (m : Measured) (c : ClassTree) → is_measuring p ≡ true → class_of_measured p m ≡ Some c → is_of_values c ≡ true
measured_valued p (a_mode_of m) c measures is = let k = there_chained (class_of_measure p) m c is in measure_valued p k.0 c measures k.2
measured_valued p misfit c measures is = no_some c is
measured_valued p other c measures is = no_some c is

-- the class of a routine's result has a mode
routine_mode : (p : Predefined) (c k : ClassTree) (a : ModeTree) → mode_for c ≡ Some a → class_of_routine p c ≡ Some k → (m : ModeTree) × (mode_for k ≡ Some m)
routine_mode num c k a of is = let both = when_is (class_is is_discrete c) (derived int) k is in (int, ap mode_for (sym both.1))
routine_mode succ c k a of is = let both = when_is (class_is is_discrete c) c k is in (a, ap mode_for (sym both.1) ∙ of)
routine_mode pred c k a of is = let both = when_is (class_is is_discrete c) c k is in (a, ap mode_for (sym both.1) ∙ of)
routine_mode abs c k a of is = let both = if_is (class_is is_int c) (their_class c c) k is in let root = own_root c k both.1 in (root_of root.mode, mode_for_in k (root_of root.mode) root.is)
routine_mode card c k a of is = let both = when_is (class_is is_powerset c) (derived int) k is in (int, ap mode_for (sym both.1))
routine_mode min c k a of is = member_mode (form_in c) k is
  where
    member_mode : (f : Option FormTree) (k : ClassTree) → member_class f ≡ Some k → (m : ModeTree) × (mode_for k ≡ Some m)
    member_mode (Some (of_powerset m)) k is = (m, ap mode_for (sym (same_some (value m) k is)))
    member_mode f k is = no_some k is
routine_mode max c k a of is = member_mode (form_in c) k is
  where
    member_mode : (f : Option FormTree) (k : ClassTree) → member_class f ≡ Some k → (m : ModeTree) × (mode_for k ≡ Some m)
    member_mode (Some (of_powerset m)) k is = (m, ap mode_for (sym (same_some (value m) k is)))
    member_mode f k is = no_some k is
routine_mode p c k a of is = no_some k is

-- ---- numbers

within_limit : (v : ValueTree) (z : ℤ) (k : ℕ) → number_in v ≡ Some z → natural_in z ≡ Some k → is_priority v ≡ true → k ≤ 1000000
within_limit (number (pos n)) z k is natural fits =
    let small = both_right (int_le (pos 0) (pos n)) (int_le (pos n) (pos 1000000)) fits in
    let same = same_some n k (ap natural_in (same_some (pos n) z is) ∙ natural) in
    grind (arith, ints, small, same)
within_limit (number (negsuc n)) z k is natural fits = absurd (true≢false (sym fits))
within_limit v z k is natural fits = no_some z is

pub outwards_below : (n : Name) (ls : List Name) (k : ℕ) → outwards n ls ≡ Some k → k < length ls
outwards_below n [] k is = no_some k is
outwards_below n (l ∷ ls) k is = by (bytes_eq l.text n.text) is (λ j. outwards_below n ls j)
  where
    by : (b : Bool) → (if b then Some 0 else option_map suc (outwards n ls)) ≡ Some k → ((j : ℕ) → outwards n ls ≡ Some j → j < length ls) → k < suc (length ls)
    by true is rest = (let same = same_some 0 k is in omega (arith, same))
    by false is rest = (let there = there_mapped suc (outwards n ls) k is in let few = rest there.0 there.1 in let same = there.2 in omega (arith, few, same))

not_returning : (m : Option ModeTree) → a_value m ≡ no_procedure → ⊥
not_returning m is = true≢false (ap returns_value is)
  where
    returns_value : Returning → Bool
    returns_value (a_value m) = true
    returns_value r = false

abbrev is_instance_shape : Shape → Bool
is_instance_shape like_instance = true
is_instance_shape s = false

instance_form : (m : ModeTree) → Similar m instance → form_of m ≡ of_instance
instance_form m same = by (form_of m) (sym (shape_is m) ∙ same.shape)
  where
    by : (f : FormTree) → form_shape f ≡ like_instance → f ≡ of_instance
    by of_instance is = refl
    by f is = absurd (true≢false (sym (ap is_instance_shape is)))

module _ (s : Source) (around : typed.Around) (known : AllNamesKnown s) where
  -- ---- values

  pub value_alone : (e : ExprTree) (c : ClassTree) (x : made.ExprTree) → IsSound s around.context e → IsWellNamed s.known e → told_of_constants s.known e ≡ [] → told_in s.known nothing_asked e ≡ [] → class_of s.known e ≡ Some c → is_of_values c ≡ true → expr_alone s e ≡ Some x → TypedAs around.context x c
  value_alone e c x sound well constants told is valued built = expr_typed s around.context known nothing_asked e c x sound.names sound.bytes (record { named = well; receives = no_receiver; constants = constants; told = told }) is valued built

  pub value_received : (m : Option ModeTree) (e : ExprTree) (r : made.ReceivedTree) → IsSound s around.context e → ((k : ModeTree) → m ≡ Some k → IsDeclarable k) → IsWellNamed s.known e → told_of_constants s.known e ≡ [] → told_value s.known (of_mode m) e ≡ [] → received_by s m e ≡ Some r → (k : ModeTree) → m ≡ Some k → IsTakenBy around.context r k
  value_received m e r sound fits well constants none built k is =
      taken_typed s around.context known m e r well none
      (λ d y class good told at. expr_typed s around.context known (of_mode m) e d y sound.names sound.bytes (record { named = well; receives = fits; constants = constants; told = told }) class good at) built k is

  pub condition_typed : (e : ExprTree) (x : made.ExprTree) → IsSound s around.context e → IsWellNamed s.known e → told_of_constants s.known e ≡ [] → told_value s.known condition e ≡ [] → expr_alone s e ≡ Some x → IsCondition around.context x
  condition_typed e x sound well constants none built =
      let v = value_known s condition e known well refl none in
      let passes = test_holds is_boolean (class_of s.known e) v.class (tell_at rules.S4 (place_of e)) v.is v.received in
      let t = expr_typed s around.context known condition e v.class x sound.names sound.bytes (record { named = well; receives = no_receiver; constants = constants; told = v.told }) v.is (class_valued is_boolean v.class refl passes) built in
      (t.mode, t.has, boolean_form (form_of t.mode) (tested_form is_boolean v.class t.mode t.of passes))

  -- ---- assignments

  pub assigned_typed : (t v : ExprTree) (x : done.ActionTree) → IsSound s around.context t → IsSound s around.context v → IsWellNamed s.known t → IsWellNamed s.known v → told_of_constants s.known t ≡ [] → told_of_constants s.known v ≡ [] → told_target s.known t ++ told_value s.known (of_mode (target_mode s.known t)) v ≡ []
      → option_and_then (λ t. option_map (done.assign t.0) (received_by s (Some t.1) v)) (target s t) ≡ Some x → IsTypedAction around x
  assigned_typed t v x place_sound value_sound place_named value_named place_constants value_constants none built =
      let g = s.known in
      let told = told_value g (of_mode (target_mode g t)) v in
      let place = target_told g t (none_first (told_target g t) told none) in
      let goes_to = subst (λ m. told_value g (of_mode m) v ≡ []) place.is (none_later (told_target g t) told none) in
      let goes = value_goes s place.mode v known value_named goes_to in
      let f : Target → Option done.ActionTree = λ t. option_map (done.assign t.0) (received_by s (Some t.1) v) in
      let l = there_chained f (target s t) x built in
      let r = there_mapped (done.assign l.0.0) (received_by s (Some l.0.1) v) x l.2 in
      let loc = free_typed s around.context t place.mode l.0 place_named place_constants place.told place.free place.has (goes_place goes.class place.mode goes.goes) (path_typed_law s around.context t known place_sound.names place_sound.bytes) l.1 in
      let fits : (k : ModeTree) → Some l.0.1 ≡ Some k → IsDeclarable k = λ k same. subst IsDeclarable (sym loc.1 ∙ same_some l.0.1 k same) (target_declarable s t place.mode known place_named place.class) in
      let taken = value_received (Some l.0.1) v r.0 value_sound fits value_named value_constants (subst (λ m. told_value g (of_mode (Some m)) v ≡ []) (sym loc.1) goes_to) r.1 l.0.1 refl in
      subst (λ y. IsTypedAction around y) r.2 (l.0.1, loc.0, taken)

  -- an assignment with an operator: the result is of the target's root
  record UpdateParts (o : Operator) (t : Option Target) (v : Option made.ExprTree) (c : Option ClassTree) (x : done.ActionTree) : Type 0 where
    target_at : Target
    value_at : made.ExprTree
    class_at : ClassTree
    operator : Binary
    of_target : t ≡ Some target_at
    of_value : v ≡ Some value_at
    of_class : c ≡ Some class_at
    of_operator : operator_between o (value target_at.1) class_at ≡ Some operator
    whole : done.update target_at.0 operator value_at (bounds_of target_at.1) ≡ x

  update_parts : (o : Operator) (t : Option Target) (v : Option made.ExprTree) (c : Option ClassTree) (x : done.ActionTree) → updated o t v c ≡ Some x → UpdateParts o t v c x
  update_parts o (Some t) (Some v) (Some c) x built =
      let op = there_mapped (λ op. done.update t.0 op v (bounds_of t.1)) (operator_between o (value t.1) c) x built in
      record { target_at = t; value_at = v; class_at = c; operator = op.0; of_target = refl; of_value = refl; of_class = refl; of_operator = op.1; whole = op.2 }
  update_parts o None v c x built = no_some x built
  update_parts o (Some t) None c x built = no_some x built
  update_parts o (Some t) (Some v) None x built = no_some x built

  pub updated_typed : (t v : ExprTree) (o : Operator) (p : Pos) (x : done.ActionTree) → is_updating o ≡ true → IsSound s around.context t → IsSound s around.context v → IsWellNamed s.known t → IsWellNamed s.known v → told_of_constants s.known t ≡ [] → told_of_constants s.known v ≡ []
      → told_target s.known t ++ told_value s.known nothing_asked v ++ told_if (holds_of_both (operands_misfit o) (option_map value (target_mode s.known t)) (clean s.known v)) (tell_at rules.S1 p) ≡ [] → updated o (target s t) (expr_alone s v) (class_of s.known v) ≡ Some x → IsTypedAction around x
  updated_typed t v o p x updating place_sound value_sound place_named value_named place_constants value_constants none built =
      let g = s.known in
      let misfits = holds_of_both (operands_misfit o) (option_map value (target_mode g t)) (clean g v) in
      let wrong = told_if misfits (tell_at rules.S1 p) in
      let inside = told_value g nothing_asked v in
      let before = none_first (told_target g t ++ inside) wrong none in
      let place = target_told g t (none_first (told_target g t) inside before) in
      let y = value_known s nothing_asked v known value_named refl (none_later (told_target g t) inside before) in
      let class : clean g v ≡ Some y.class = ap (λ l. clean_class l (class_of g v)) y.told ∙ y.is in
      let result = value_in (class_of_binary o (value place.mode) y.class) (operands_fit o (target_mode g t) (clean g v) place.mode y.class place.is class (not_broken misfits (tell_at rules.S1 p) (none_later (told_target g t ++ inside) wrong none))) in
      let valued = operands_valued o (value place.mode) y.class result.0 result.1 in
      let parts = update_parts o (target s t) (expr_alone s v) (class_of g v) x built in
      let loc = free_typed s around.context t place.mode parts.target_at place_named place_constants place.told place.free place.has valued.0 (path_typed_law s around.context t known place_sound.names place_sound.bytes) parts.of_target in
      let own = value_alone v y.class parts.value_at value_sound value_named value_constants y.told y.is valued.1 parts.of_value in
      let same_class = same_some parts.class_at y.class (sym parts.of_class ∙ y.is) in
      let operator = subst (λ k. operator_between o (value place.mode) k ≡ Some parts.operator) same_class (subst (λ k. operator_between o (value k) parts.class_at ≡ Some parts.operator) loc.1 parts.of_operator) in
      let root = updating_root o place.mode y.class result.0 own.mode updating own.of result.1 in
      let declarable = target_declarable s t place.mode known place_named place.class in
      let operands : Operands (value place.mode) y.class result.0 place.mode own.mode (root_of place.mode) = record { left = refl; right = own.of; result = ap mode_for root.0; declarable = declarable } in
      let has = binary_has o (value place.mode) y.class result.0 place.mode own.mode (root_of place.mode) parts.operator operands result.1 operator in
      subst (λ q. IsTypedAction around q) parts.whole
      (parts.target_at.1, own.mode, root_of place.mode, loc.0, own.has, subst (λ k. BinaryHas parts.operator k own.mode (root_of place.mode)) (sym loc.1) has, subst (λ k. Similar (root_of place.mode) k) (sym loc.1) root.1, refl)

  -- ---- STARTs and calls

  listed_typed : (es : List ExprTree) → Each (IsSound s around.context) es → AreNamesTyped s around.context (names_in_each (expr_nodes es)) × HaveBytes (expr_nodes es)
  listed_typed [] all = (tt, tt)
  listed_typed (e ∷ es) all = let rest = listed_typed es all.1 in (typed_both (names_in e) (names_in_each (expr_nodes es)) all.0.names rest.0, (all.0.bytes, rest.1))
    where
      typed_both : (ns ks : List Name) → AreNamesTyped s around.context ns → AreNamesTyped s around.context ks → AreNamesTyped s around.context (ns ++ ks)
      typed_both [] ks first later = later
      typed_both (n ∷ ns) ks first later = (first.0, typed_both ns ks first.1 later)

  pub started_typed : (n : Name) (es : List ExprTree) (x : done.ActionTree) → stands_for_process (origin_of s.known n) ≡ true → IsNameTyped s around.context n → Each (IsSound s around.context) es → Each (IsWellNamed s.known) es → flat_map (told_of_constants s.known) es ≡ []
      → told_arguments s.known (receivers_of s.known n) (expr_nodes es) n.at ≡ [] → made_of (λ b rs. done.start_of (made.started b rs)) (body_used s n) (received_each s (modes_by s (origin_of s.known n)) (expr_nodes es)) ≡ Some x → IsTypedAction around x
  started_typed n es x stands typed_name sound well constants none built =
      let g = s.known in
      let ms = modes_by s (origin_of g n) in
      let nodes = expr_nodes es in
      let args = told_in_args g (each_receiver (receivers_of g n) (count_exprs nodes)) nodes in
      let numbers = told_number n.at (count_exprs nodes) (length (receivers_of g n)) in
      let fit = arguments_clean g of_mode ms (receivers_of g n) nodes n.at (process_receivers s n stands) (none_first args numbers none) (none_later args numbers none) in
      let parts = made_parts (λ b rs. done.start_of (made.started b rs)) (body_used s n) (received_each s ms nodes) x built in
      let p = process_of (origin_of g n) stands in
      let row = typed_name.started p.0 parts.first p.1 parts.of_first in
      let all = listed_typed es sound in
      let taken = taken_row around.context parts.second ms row.row 0 (received_typed s around.context known ms nodes parts.second all.0 all.1 (known n).places (listed_named g es well) (sym (listed_told g es) ∙ constants) fit parts.of_second) (subst (λ q. AreTaken row.row 0 (modes_by s q)) (sym p.1) row.parameters) in
      subst (λ q. IsTypedAction around q) parts.whole (row.row, row.is, row.sort, taken)

  procedure_typed : (n : Name) (es : ExprNodes) (x : done.ActionTree) → stands_for_procedure (origin_of s.known n) ≡ true → IsNameTyped s around.context n → AreNamesTyped s around.context (names_in_each es) → HaveBytes es → AreWellNamed s.known false es → told_in_each s.known es ≡ []
      → told_arguments s.known (receivers_of s.known n) es n.at ≡ [] → made_of (λ b as'. done.perform (made.called b as')) (body_used s n) (arguments s (formals_by s (origin_of s.known n)) es) ≡ Some x → IsTypedAction around x
  procedure_typed n es x stands typed_name names bytes well constants none built =
      let g = s.known in
      let fs = formals_by s (origin_of g n) in
      let args = told_in_args g (each_receiver (receivers_of g n) (count_exprs es)) es in
      let numbers = told_number n.at (count_exprs es) (length (receivers_of g n)) in
      let fit = arguments_clean g receiver_for fs (receivers_of g n) es n.at (procedure_receivers s n stands) (none_first args numbers none) (none_later args numbers none) in
      let parts = made_parts (λ b as'. done.perform (made.called b as')) (body_used s n) (arguments s fs es) x built in
      let p = procedure_of (origin_of g n) stands in
      let row = typed_name.called p.0 parts.first p.1 parts.of_first in
      let fit_all = arguments_typed s around.context known fs es parts.second names bytes (known n).formals well constants fit parts.of_second row.row 0 (subst (λ q. AreParameters row.row 0 (formals_by s q)) (sym p.1) row.parameters) in
      subst (λ q. IsTypedAction around q) parts.whole (row.row.result, (row.row, row.is, row.sort, refl, row.reached, fit_all))

  -- ---- routines

  -- the one argument of a routine, with its class
  record ArgumentTyped (es : ExprNodes) (y : made.ExprTree) : Type 0 where
    class : ClassTree
    is : class_of_first s.known es ≡ Some class
    has : is_of_values class ≡ true → TypedAs around.context y class

  argument_first : (es : ExprNodes) (y : made.ExprTree) → RoutineParts s es → OnlyTyped s around.context es → count_exprs es ≡ 1 → told_in_args s.known (replicate (count_exprs es) nothing_asked) es ≡ [] → only_one s None es ≡ Some y → ArgumentTyped es y
  argument_first es y parts only count none built =
      let c = first_class s es parts count none in
      record { class = c.0; is = c.1; has = λ valued. operand_typed s around.context known es c.0 y only c.1 valued none built }

  -- one whose class passes a test
  record ArgumentTested (test : FormTree → Bool) (y : made.ExprTree) : Type 0 where
    mode : ModeTree
    has : HasMode around.context y mode
    form : test (form_of mode) ≡ true

  argument_tested : (test : FormTree → Bool) (es : ExprNodes) (y : made.ExprTree) → test of_meeting ≡ false → ArgumentTyped es y → holds_of (λ c. not (class_is test c)) (class_of_first s.known es) ≡ false → ArgumentTested test y
  argument_tested test es y apart a fits =
      let passes = not_true (class_is test a.class) (ap (holds_of (λ c. not (class_is test c))) (sym a.is) ∙ fits) in
      let t = a.has (class_valued test a.class apart passes) in
      record { mode = t.mode; has = t.has; form = tested_form test a.class t.mode t.of passes }

  dropped_typed : (p : Predefined) (es : ExprNodes) (x : done.ActionTree) → RoutineParts s es → OnlyTyped s around.context es → count_exprs es ≡ 1 → holds_of (λ c. not (is_some (class_of_routine p c))) (class_of_first s.known es) ≡ false → told_in_args s.known (replicate (count_exprs es) nothing_asked) es ≡ []
      → made_of done.drop_routine (option_and_then (routine_on p) (class_first s es)) (only_one s None es) ≡ Some x → IsTypedAction around x
  dropped_typed p es x parts only count fits none built =
      let by = made_parts done.drop_routine (option_and_then (routine_on p) (class_first s es)) (only_one s None es) x built in
      let a = argument_first es by.second parts only count none by.of_second in
      let k = value_in (class_of_routine p a.class) (not_true (is_some (class_of_routine p a.class)) (ap (holds_of (λ c. not (is_some (class_of_routine p c)))) (sym a.is) ∙ fits)) in
      let declared = first_declarable s es a.class parts.known parts.named a.is in
      let t = a.has (routine_there p a.class k.0 declared k.1).valued in
      let m = routine_mode p a.class k.0 t.mode t.of k.1 in
      let on = sym (ap (option_and_then (routine_on p)) (same_first s es ∙ a.is)) ∙ by.of_first in
      subst (λ q. IsTypedAction around q) by.whole (t.mode, m.0, t.has, routine_has p a.class k.0 t.mode m.0 by.first (declared_mode a.class t.mode declared t.of) t.of m.1 k.1 on)

  -- what is evaluated
  evaluated_typed : (n : Name) (es : ExprNodes) (p : Predefined) (x : done.ActionTree) → IsSound s around.context (apply n.at (name n) es) → IsWellNamed s.known (apply n.at (name n) es) → told_of_constants s.known (apply n.at (name n) es) ≡ [] → callee_named s.known n ≡ routine p → gives_no_value p ≡ false
      → ((c : ClassTree) → class_of_call p (measured_first s.known es) (class_of_first s.known es) ≡ Some c → is_of_values c ≡ true) → RoutineTold s.known p es → option_map done.evaluate (expr_alone s (apply n.at (name n) es)) ≡ Some x → IsTypedAction around x
  evaluated_typed n es p x sound well constants is gives valued told built =
      let g = s.known in
      let e = apply n.at (name n) es in
      let behind = routine_behind g p es n.at (class_of g (name n)) [] gives told in
      let untold = subst (λ k. told_behind g k n.at (class_of g (name n)) [] (told_in_args g (receivers_behind g k (clean_class [] (class_of g (name n))) (count_exprs es)) es) (told_inside_each g es) es ≡ []) (sym is) behind in
      let c = value_in (class_of g e) (clean_there g nothing_asked e (known_there s known e well.tuples well.stands) refl untold) in
      let class = ap (λ k. class_behind k (result_class g (name n)) (class_of g (name n)) (measured_first g es) (class_of_first g es)) (sym is) ∙ c.1 in
      let there = there_mapped done.evaluate (expr_alone s e) x built in
      let t = value_alone e c.0 there.0 sound well constants untold c.1 (valued c.0 class) there.1 in
      subst (λ q. IsTypedAction around q) there.2 (t.mode, t.has)

  routine_typed_by : (n : Name) (es : List ExprTree) (p : Predefined) (x : done.ActionTree) → IsSound s around.context (apply n.at (name n) (expr_nodes es)) → IsWellNamed s.known (apply n.at (name n) (expr_nodes es)) → told_of_constants s.known (apply n.at (name n) (expr_nodes es)) ≡ [] → callee_named s.known n ≡ routine p
      → (is_measuring p ≡ false → RoutineParts s (expr_nodes es) × OnlyTyped s around.context (expr_nodes es)) → RoutineTold s.known p (expr_nodes es) → routine_by s p n es ≡ Some x → IsTypedAction around x
  routine_typed_by n es get_int x sound well constants is parts told built = evaluated_typed n (expr_nodes es) get_int x sound well constants is refl (λ c class. subst (λ k. is_of_values k ≡ true) (same_some (value int) c class) refl) told built
  routine_typed_by n es upper x sound well constants is parts told built = evaluated_typed n (expr_nodes es) upper x sound well constants is refl (λ c class. measured_valued upper (measured_first s.known (expr_nodes es)) c refl class) told built
  routine_typed_by n es lower x sound well constants is parts told built = evaluated_typed n (expr_nodes es) lower x sound well constants is refl (λ c class. measured_valued lower (measured_first s.known (expr_nodes es)) c refl class) told built
  routine_typed_by n es size x sound well constants is parts told built = evaluated_typed n (expr_nodes es) size x sound well constants is refl (λ c class. measured_valued size (measured_first s.known (expr_nodes es)) c refl class) told built
  routine_typed_by n es put_nl x sound well constants is parts told built = subst (λ q. IsTypedAction around q) (same_some done.put_line x built) tt
  routine_typed_by n es put_int x sound well constants is parts told built =
      let y = there_mapped done.put_int (only_one s None (expr_nodes es)) x built in
      let a = argument_tested is_int (expr_nodes es) y.0 refl (argument_first (expr_nodes es) y.0 (parts refl).0 (parts refl).1 told.count told.arguments y.1) told.fits in
      subst (λ q. IsTypedAction around q) y.2 (a.mode, a.has, int_form (form_of a.mode) a.form)
  routine_typed_by n es put_text x sound well constants is parts told built =
      let y = there_mapped done.put_text (only_one s None (expr_nodes es)) x built in
      let a = argument_tested is_chars (expr_nodes es) y.0 refl (argument_first (expr_nodes es) y.0 (parts refl).0 (parts refl).1 told.count told.arguments y.1) told.fits in
      let f = chars_form (form_of a.mode) a.form in
      subst (λ q. IsTypedAction around q) y.2 (a.mode, f.0, a.has, f.1)
  routine_typed_by n es num x sound well constants is parts told built = dropped_typed num (expr_nodes es) x (parts refl).0 (parts refl).1 told.count told.fits told.arguments built
  routine_typed_by n es succ x sound well constants is parts told built = dropped_typed succ (expr_nodes es) x (parts refl).0 (parts refl).1 told.count told.fits told.arguments built
  routine_typed_by n es pred x sound well constants is parts told built = dropped_typed pred (expr_nodes es) x (parts refl).0 (parts refl).1 told.count told.fits told.arguments built
  routine_typed_by n es abs x sound well constants is parts told built = dropped_typed abs (expr_nodes es) x (parts refl).0 (parts refl).1 told.count told.fits told.arguments built
  routine_typed_by n es card x sound well constants is parts told built = dropped_typed card (expr_nodes es) x (parts refl).0 (parts refl).1 told.count told.fits told.arguments built
  routine_typed_by n es min x sound well constants is parts told built = dropped_typed min (expr_nodes es) x (parts refl).0 (parts refl).1 told.count told.fits told.arguments built
  routine_typed_by n es max x sound well constants is parts told built = dropped_typed max (expr_nodes es) x (parts refl).0 (parts refl).1 told.count told.fits told.arguments built
  routine_typed_by n es (of_its_mode m) x sound well constants is parts told built = absurd (true≢false (sym (routine_named n (origin_of s.known n) (of_its_mode m) is)))
  routine_typed_by n es (truth b) x sound well constants is parts told built = absurd (true≢false (sym (routine_named n (origin_of s.known n) (truth b) is)))
  routine_typed_by n es no_instance x sound well constants is parts told built = absurd (true≢false (sym (routine_named n (origin_of s.known n) no_instance is)))

  pub called_typed : (n : Name) (es : List ExprTree) (k : Callee) (x : done.ActionTree) → callee_named s.known n ≡ k → IsSound s around.context (apply n.at (name n) (expr_nodes es)) → IsWellNamed s.known (apply n.at (name n) (expr_nodes es)) → told_of_constants s.known (apply n.at (name n) (expr_nodes es)) ≡ []
      → told_routine s.known k (expr_nodes es) n.at ≡ [] → call_action s k n es ≡ Some x → IsTypedAction around x
  called_typed n es (calls m) x is sound well constants none built =
      let g = s.known in
      let by = called_by n m (origin_of g n) is in
      procedure_typed n (expr_nodes es) x by.1 sound.names.0 sound.names.1 sound.bytes.1 (brackets_named g n (expr_nodes es) (ap measures is) well) (brackets_told g n (expr_nodes es) constants)
      (subst (λ y. told_arguments g (receivers_of g y) (expr_nodes es) n.at ≡ []) (sym by.0) none) built
  called_typed n es (routine p) x is sound well constants none built =
      let g = s.known in
      let nodes = expr_nodes es in
      let told = routine_told g p nodes n.at none in
      let parts : is_measuring p ≡ false → RoutineParts s nodes × OnlyTyped s around.context nodes = λ apart. (let own = brackets_named g n nodes (ap measures is ∙ apart) well in (record { known = known; named = own; only = only_there s nodes known own (brackets_told g n nodes constants) }, only_typed s around.context known nodes sound.names.1 sound.bytes.1 own (brackets_told g n nodes constants))) in
      routine_typed_by n es p x sound well constants is parts told built
  called_typed n es no_callee x is sound well constants none built = no_some x built

  -- ---- priorities and results

  pub priority_small : (p : Option ExprTree) (k : ℕ) → told_some_needed s.known p ≡ [] → told_of_some_priority s.known p ≡ [] → priority s p ≡ Some k → k ≤ 1000000
  priority_small None k needed none built = subst (λ j. j ≤ 1000000) (same_some 0 k built) (omega arith)
  priority_small (Some e) k needed none built =
      let g = s.known in
      let z = there_chained natural_in (constant_number s e) k built in
      let v = there_chained number_in (constant_of g e) z.0 (subst (λ l. unless_told l (option_and_then number_in (constant_of g e)) ≡ Some z.0) needed z.1) in
      let apart = holds_of (λ c. not (goes_with c int)) (class_of g e) in
      let outside = holds_of (λ v. not (is_priority v)) (constant_of g e) in
      let fits = not_broken (apart || outside) (tell_at rules.P6 (place_of e)) (none_then (told_met g e) (told_priority g (constant_of g) e) none) in
      within_limit v.0 z.0 k v.2 z.2 (not_true (is_priority v.0) (ap (holds_of (λ v. not (is_priority v))) (sym v.1) ∙ neither_right apart outside fits))

  pub given_typed : (a : Around) (place_of_return : sites.Around) (at : Pos) (e : ExprTree) (r : made.ReceivedTree) → IsAround s a place_of_return → StandsAround s a place_of_return around → IsSound s around.context e → IsWellNamed s.known e → told_of_constants s.known e ≡ []
      → told_if (not_allowed (returning_of s.known place_of_return) true) (tell_at rules.S9 at) ++ told_value s.known (result_receiver (returning_of s.known place_of_return)) e ≡ [] → given_back s a e ≡ Some r → IsTypedReturn around (Some r)
  given_typed a place_of_return at e r is stands sound well constants none built =
      let wrong = told_if (not_allowed (returning_of s.known place_of_return) true) (tell_at rules.S9 at) in
      let told = told_value s.known (result_receiver (returning_of s.known place_of_return)) e in
      by (returning_of s.known place_of_return) refl (not_broken (not_allowed (returning_of s.known place_of_return) true) (tell_at rules.S9 at) (none_first wrong told none)) (none_later wrong told none)
    where
      by : (q : Returning) → returning_of s.known place_of_return ≡ q → not_allowed q true ≡ false → told_value s.known (result_receiver q) e ≡ [] → IsTypedReturn around (Some r)
      by no_procedure same allowed none = absurd (true≢false allowed)
      by no_value same allowed none = absurd (true≢false allowed)
      by (a_value m) same allowed none =
          let k = value_in m (is.place m same).there in
          let own = is.result m same in
          (stands.sort (λ none_is. not_returning m (sym same ∙ none_is)), k.0, stands.result ∙ (own ∙ k.1), value_received m e r sound (is.place m same).fits well constants none (subst (λ j. received_by s j e ≡ Some r) own built) k.0 k.1)

  -- ---- SEND

  receiver_typed : (to : Option ExprTree) (x : Option made.ExprTree) → Each (IsSound s around.context) (some_expr to) → Each (IsWellNamed s.known) (some_expr to) → flat_map (told_of_constants s.known) (some_expr to) ≡ [] → told_some_value s.known (of_mode (Some instance)) to ≡ [] → receiver s to ≡ Some x → IsReceiver around.context x
  receiver_typed None x sound well constants none built = subst (λ q. IsReceiver around.context q) (same_some None x built) tt
  receiver_typed (Some e) x sound well constants none built =
      let there = there_mapped Some (expr_as s (Some instance) e) x built in
      let fits : (k : ModeTree) → Some instance ≡ Some k → IsDeclarable k = λ k same. subst IsDeclarable (same_some instance k same) instance_fits in
      let clean_is = none_single (told_of_constants s.known e) constants in
      let goes = goes_typed s around.context known (Some instance) e there.0 well.0 none
      (λ d y class good told at. expr_typed s around.context known (of_mode (Some instance)) e d y sound.0.names sound.0.bytes (record { named = well.0; receives = fits; constants = clean_is; told = told }) class good at) there.1 instance refl
      in
      subst (λ q. IsReceiver around.context q) there.2 (goes.0, goes.1, instance_form goes.0 goes.2)

  sent_to : (thing : Thing) (n : Name) (ms : List (Option ModeTree)) (rs : made.ReceivedNodes) (to : Option made.ExprTree) (y : done.SentTree) → thing_used s n ≡ Some thing → message_parts s.known n ≡ Some ms → IsMessageTyped s around.context n → TakenEach around.context rs ms → takes_parts thing (length ms) ≡ true
      → IsReceiver around.context to → sent_by thing rs to ≡ Some y → IsTypedSend around.context y
  sent_to (a_message k) n ms rs to y used are message taken takes to_is built =
      let own = message.signal k ms used are in
      subst (λ q. IsTypedSend around.context q) (same_some (done.signal k rs to) y built) ((own.0, own.1.0, have_each around.context rs own.0 (subst (λ l. TakenEach around.context rs l) own.1.1 taken)), to_is)
  sent_to (a_buffer k) n ms rs to y used are message taken takes to_is built =
      let r = there_mapped (done.to_buffer k) (only_received rs) y built in
      subst (λ q. IsTypedSend around.context q) r.2 (one_part rs ms r.0 (λ m. message.buffer k m used) are taken r.1)
    where
      one_part : (rs : made.ReceivedNodes) (ms : List (Option ModeTree)) (r : made.ReceivedTree) → ((m : ModeTree) → message_parts s.known n ≡ Some (Some m ∷ []) → BufferHas around.context k m) → message_parts s.known n ≡ Some ms → TakenEach around.context rs ms → only_received rs ≡ Some r
          → (m : ModeTree) × BufferHas around.context k m × IsTakenBy around.context r m
      one_part (made.more_received r made.no_received) ms q has are taken is =
          (taken.0, has taken.0 (are ∙ ap Some (taken.2 ∙ ap (λ l. Some taken.0 ∷ l) taken.4)), subst (λ x. IsTakenBy around.context x taken.0) (same_some r q is) taken.3)
      one_part (made.more_received r (made.more_received p rs)) ms q has are taken is = no_some q is
      one_part made.no_received ms q has are taken is = no_some q is
  sent_to thing n ms rs to y used are message taken takes to_is built = absurd (true≢false (sym takes))

  pub sent_typed : (n : Name) (es : Option (List ExprTree)) (to : Option ExprTree) (y : done.SentTree) → MessageKnown s n → IsMessageTyped s around.context n → Each (IsSound s around.context) (some_exprs es) → Each (IsSound s around.context) (some_expr to) → Each (IsWellNamed s.known) (some_exprs es) → Each (IsWellNamed s.known) (some_expr to)
      → flat_map (told_of_constants s.known) (some_exprs es) ≡ [] → flat_map (told_of_constants s.known) (some_expr to) ≡ [] → told_message s.known (message_parts s.known n) (args_in es) n.at ≡ [] → told_some_value s.known (of_mode (Some instance)) to ≡ [] → sent s n es to ≡ Some y → IsTypedSend around.context y
  sent_typed n es to y m typed_name part_sound to_sound part_named to_named part_constants to_constants none to_none built =
      let g = s.known in
      let args = args_in es in
      let told = subst (λ ms. told_message g ms args n.at ≡ []) m.are none in
      let inside = told_in_args g (each_receiver (map of_mode m.parts) (count_exprs args)) args in
      let numbers = told_number n.at (count_exprs args) (length (map of_mode m.parts)) in
      let fit = arguments_clean g of_mode m.parts (map of_mode m.parts) args n.at refl (none_first inside numbers told) (none_later inside numbers told) in
      let f = there_chained (λ f. made_if f (parts_sent s n (some_args es)) (receiver s to)) (option_map sent_by (thing_used s n)) y built in
      let thing = there_mapped sent_by (thing_used s n) f.0 f.1 in
      let parts = if_parts f.0 (parts_sent s n (some_args es)) (receiver s to) y f.2 in
      let rs_is = sym (ap (parts_sent s n) (same_args es) ∙ ap (option_and_then (λ ms. received_each s ms args)) m.are) ∙ parts.of_first in
      let sound = some_sound es part_sound in
      let taken = received_typed s around.context known m.parts args parts.first sound.0 sound.1 m.places (some_named g es part_named) (some_told g es part_constants) fit rs_is in
      let to_is = receiver_typed to parts.second to_sound to_named to_constants to_none parts.of_second in
      sent_to m.thing n m.parts parts.first parts.second y m.used m.are typed_name taken m.takes to_is
      (subst (λ h. h parts.first parts.second ≡ Some y) (sym thing.2 ∙ ap sent_by (same_some thing.0 m.thing (sym thing.1 ∙ m.used))) parts.whole)
    where
      some_sound : (es : Option (List ExprTree)) → Each (IsSound s around.context) (some_exprs es) → AreNamesTyped s around.context (names_in_each (args_in es)) × HaveBytes (args_in es)
      some_sound None all = (tt, tt)
      some_sound (Some es) all = listed_typed es all

-- ---- the law

pub action_typed_law : ActionTypedLaw
action_typed_law s a around at (assign p t v) x known is stands clean sound typed_names built =
    let first = told_of_constants s.known t in
    let later = told_of_constants s.known v in
    let inner = none_first (first ++ (later ++ [])) [] clean.modes in
    let behind = none_later first (later ++ []) inner in
    assigned_typed s at known t v x sound.0 sound.1.0 clean.named.0 clean.named.1.0 (none_first first (later ++ []) inner) (none_single later behind) clean.statements built
action_typed_law s a around at (update p t o q v) x known is stands clean sound typed_names built =
    let first = told_of_constants s.known t in
    let later = told_of_constants s.known v in
    let inner = none_first (first ++ (later ++ [])) [] clean.modes in
    updated_typed s at known t v o q x typed_names sound.0 sound.1.0 clean.named.0 clean.named.1.0 (none_first first (later ++ []) inner) (none_single later (none_later first (later ++ []) inner)) clean.statements built
action_typed_law s a around at (call_of p word n es) x known is stands clean sound typed_names built =
    let k = told_of_constants s.known (apply n.at (name n) (expr_nodes es)) in
    called_typed s at known n es (callee_named s.known n) x refl sound.0 clean.named.0 (none_single k (none_single (k ++ []) clean.modes)) clean.statements built
action_typed_law s a around at (exit p n) x known is stands clean sound typed_names built =
    let there = there_mapped done.exit_from (outwards n a.labels) x built in
    subst (λ q. IsTypedAction at q) there.2 (subst (λ k. there.0 < k) (sym stands.labels) (outwards_below n a.labels there.0 there.1))
action_typed_law s a around at (return_with p None) x known is stands clean sound typed_names built =
    let wrong = not_allowed (returning_of s.known around) false in
    let allowed = not_broken wrong (tell_at rules.S9 p) (none_single (told_if wrong (tell_at rules.S9 p)) clean.statements) in
    subst (λ q. IsTypedAction at q) (same_some (done.return_with None) x built) (stands.sort (λ none. true≢false (ap (λ r. not_allowed r false) (sym none) ∙ allowed)))
action_typed_law s a around at (return_with p (Some e)) x known is stands clean sound typed_names built =
    let k = told_of_constants s.known e in
    let there = there_mapped done.return_with (made_of_some (given_back s a) (Some e)) x built in
    let r = there_mapped Some (given_back s a e) there.0 there.1 in
    subst (λ q. IsTypedAction at q) (ap done.return_with r.2 ∙ there.2) (given_typed s at known a around p e r.0 is stands sound.0 clean.named.0 (none_single k (none_single (k ++ []) clean.modes)) clean.statements r.1)
action_typed_law s a around at (result_of p e) x known is stands clean sound typed_names built =
    let k = told_of_constants s.known e in
    let r = there_mapped done.set_result (given_back s a e) x built in
    subst (λ q. IsTypedAction at q) r.2 (given_typed s at known a around p e r.0 is stands sound.0 clean.named.0 (none_single k (none_single (k ++ []) clean.modes)) clean.statements r.1)
action_typed_law s a around at (assert_that p c) x known is stands clean sound typed_names built =
    let k = told_of_constants s.known c in
    let there = there_mapped done.assert_that (expr_alone s c) x built in
    subst (λ q. IsTypedAction at q) there.2 (condition_typed s at known c there.0 sound.0 clean.named.0 (none_single k (none_single (k ++ []) clean.modes)) clean.statements there.1)
action_typed_law s a around at (cause p n) x known is stands clean sound typed_names built =
    let there = there_mapped done.cause (exception_number s.own_exceptions n) x built in
    subst (λ q. IsTypedAction at q) there.2 tt
action_typed_law s a around at (stop p) x known is stands clean sound typed_names built = subst (λ q. IsTypedAction at q) (same_some done.stop x built) tt
action_typed_law s a around at (start_of p n es) x known is stands clean sound typed_names built =
    started_typed s at known n es x clean.stands typed_names (each_first (IsSound s at.context) es [] sound) (each_first (IsWellNamed s.known) es [] clean.named) (none_single (flat_map (told_of_constants s.known) es) clean.modes) clean.statements built
action_typed_law s a around at (delay p n q) x known is stands clean sound typed_names built =
    let met = told_misfit s.known for_events n in
    let later = told_of_some_priority s.known q in
    let parts = made_parts done.delay (event_used s n) (priority s q) x built in
    subst (λ y. IsTypedAction at y) parts.whole (typed_names parts.first parts.of_first, priority_small s at known q parts.second clean.modes (none_later (met ++ []) later clean.processes) parts.of_second)
action_typed_law s a around at (continue_event p n) x known is stands clean sound typed_names built =
    let there = there_mapped done.continue_at (event_used s n) x built in
    subst (λ y. IsTypedAction at y) there.2 (typed_names there.0 there.1)
action_typed_law s a around at (send p n es to q) x known is stands clean sound typed_names built =
    let g = s.known in
    let parts = some_exprs es in
    let target_is = some_expr to in
    let well = each_first (IsWellNamed g) (parts ++ target_is) (some_expr q) clean.named in
    let sounds = each_first (IsSound s at.context) (parts ++ target_is) (some_expr q) sound in
    let constants = sym (flat_both (told_of_constants g) parts target_is) ∙ none_first (flat_map (told_of_constants g) (parts ++ target_is)) (told_some_needed g q) clean.modes in
    let part_constants = flat_map (told_of_constants g) parts in
    let target_constants = flat_map (told_of_constants g) target_is in
    let message = told_message g (message_parts g n) (args_in es) n.at in
    let to_whom = told_some_value g (of_mode (Some instance)) to in
    let urgent = told_some_value g nothing_asked q in
    let met = told_misfit g (purpose_of_send to) n in
    let inside = flat_map (told_met g) (parts ++ target_is) in
    let ranked = told_of_some_priority g q in
    let behind = none_first (message ++ to_whom) urgent clean.statements in
    let processes = none_first (met ++ inside) ranked clean.processes in
    let known_message = (known n).message clean.stands (sent_met g n to (none_first met inside processes)) in
    let by = made_parts done.send (sent s n es to) (priority s q) x built in
    subst (λ y. IsTypedAction at y) by.whole (
      sent_typed s at known n es to by.first known_message typed_names (each_first (IsSound s at.context) parts target_is sounds) (each_later (IsSound s at.context) parts target_is sounds) (each_first (IsWellNamed g) parts target_is well) (each_later (IsWellNamed g) parts target_is well)
          (none_first part_constants target_constants constants) (none_later part_constants target_constants constants) (none_first message to_whom behind) (none_later message to_whom behind) by.of_first,
      priority_small s at known q by.second (none_later (flat_map (told_of_constants g) (parts ++ target_is)) (told_some_needed g q) clean.modes) (none_later (met ++ inside) ranked clean.processes) by.of_second,
    )
