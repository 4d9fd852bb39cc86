-- Actions that hold no others are there, where nothing is told of them.
use Rattle.std.proofs.Common.{◌≡◌, ◌≤◌, ℕ, suc, ◌==◌, Bool, true, false, ◌&&◌, ◌||◌, List, [], ◌∷◌, ◌++◌, length, Option, Some, None, refl, sym, ap, ◌∙◌, subst, arith, true≢false, append_assoc}
use Rattle.std.proofs.lemmas.Bool.{eqb-true, eq-eqb}
use Rattle.std.specs.Prelude.{IsSome, is_some, not, if◌then◌else◌, option_map, option_and_then, map, flat_map, replicate}
use Rattle.chill_base.specs.declared.pos.Pos.{Pos}
use Rattle.chill_tree.specs.declared.tree.name.Name.{Name}
use Rattle.chill_tree.specs.declared.tree.expr.Operator.{Operator}
use Rattle.chill_tree.specs.ExprTree.{ExprTree, ExprNodes, name, apply, no_exprs, more_exprs, expr_nodes, place_of}
use Rattle.chill_tree.specs.SimpleTree.{SimpleTree, assign, update, call_of, exit, return_with, result_of, assert_that, cause, stop, start_of, delay, continue_event, send}
use Rattle.modes.specs.ModeTree.{ModeTree, ClassTree, value, instance}
use Rattle.modes.specs.Form.{FormTree, form_of, of_meeting}
use Rattle.modes.specs.Bounds.{bounds_of}
use Rattle.diagnostics.specs.declared.diagnostic.Diagnostic.{Diagnostic}
use Rattle.diagnostics.specs.declared.rule.Rule.TheVariants as rules
use Rattle.names_model.specs.NameRules.{tell}
use Rattle.program_trees.specs.ExprTree as made
use Rattle.program_trees.specs.StatementTree as done
use Rattle.checks_model.specs.Alike.{is_int, is_chars, is_boolean, is_powerset, is_discrete, is_meeting, class_is}
use Rattle.checks_model.specs.Ground.{Ground, Origin, Predefined, of_mode as of_its_mode, truth, no_instance, num, succ, pred, abs, card, min, max, upper, lower, size, put_int, put_text, put_nl, get_int, a_procedure, a_predefined, origin_of, message_parts}
use Rattle.checks_model.specs.Operations.{class_of_binary, class_of_routine, operands_misfit, argument_misfits, is_measuring, is_routine, arguments_of, gives_no_value}
use Rattle.checks_model.specs.Classes.{class_as, class_of, class_of_first, class_behind, result_class, Callee, calls, routine, no_callee, callee_by, callee_named, callee_of, measured_first, measured_misfits, count_exprs}
use Rattle.checks_model.specs.Constants.{has_form, are_arguments, value_routine}
use Rattle.checks_model.specs.ConstantRules.{by_itself, told_as, told_of_constants, told_of_some_constants, told_needed, told_some_needed, told_in_each, when_routine, told_if_constant, told_call}
use Rattle.checks_model.specs.Told.{tell_at, told_if, is_none_told, then_told, holds_of, holds_of_both}
use Rattle.checks_model.specs.ValueRules.{Receiver, nothing_asked, of_mode, condition, selector, bound, set_of_members, received_mode, is_not_boolean, is_not_discrete, is_no_powerset, is_too_large, told_received, own_told, value_told, told_value, told_some_value, told_in, told_in_args, told_inside_each, told_behind, told_number, call_misfits, receivers_of, each_receiver, receivers_behind, path_of, place, is_free, bare, clean_class}
use Rattle.checks_model.specs.ActionRules.{Returning, no_procedure, no_value, a_value, not_allowed, result_receiver, measures, told_in_indices, told_target, cannot_be_written, target_mode, clean, told_arguments, told_in_routine, told_routine, told_message, args_in, told_simple}
use Rattle.checks_model.specs.ProcessRules.{Meeting, meets_event, meets_buffer, meets_signal, meets_nothing, for_events, for_messages, for_signals, fits, met_at, told_misfit}
use Rattle.checks_model.specs.Sites as sites
use Rattle.checks_model.specs.Sites.{at_simple}
use Rattle.checks_model.specs.Phases.{some_expr, some_exprs, returning_of, exprs_of_simple, priority_of, told_met, told_of_priority, told_of_some_priority, purpose_of_send, told_met_by}
use Rattle.written_laws.specs.Written.{Each}
use Rattle.class_laws.specs.Known.{is_unknown_place}
use Rattle.class_laws.proofs.Clean.{clean_there}
use Rattle.elaborated_laws.specs.Known.{IsDeclarable}
use Rattle.elaborated_laws.specs.Classes.{HasDeclarable}
use Rattle.elaborated_laws.proofs.Told.{none_first, none_later, none_inside, none_then, not_broken, not_true, no_some, same_some}
use Rattle.elaborated_laws.proofs.Classes.{no_receiver}
use Rattle.there_laws.proofs.Modes.{value_in}
use Rattle.elaboration_model.specs.Numbering.{Source, Thing, a_buffer, a_message, thing_used, event_used, body_used}
use Rattle.elaboration_model.specs.Parts.{made_of, made_if, made_of_some}
use Rattle.elaboration_model.specs.Expressions.{Formal, Target, expr_as, expr_alone, received_as, received_by, received_each, arguments, only_one, class_first, routine_on, operator_between, formals_by, formals_called, modes_by, mode_in_brackets, applied_operation, element_path, path, target, target_of}
use Rattle.elaboration_model.specs.Exceptions.{exception_number}
use Rattle.elaboration_model.specs.Statements.{Around, outwards, priority, called, routine_action, evaluated, routine_by, call_action, some_args, only_received, sent_by, receiver, parts_sent, sent, given_back, updated, action_of}
use Rattle.expression_laws.specs.Names.{stands_for_call, stands_for_procedure, is_of_values, takes_parts, IsPlace, MessageKnown, EachStands, IsWellNamed, AreWellNamed, AllNamesKnown}
use Rattle.expression_laws.specs.Expressions.{IsClean}
use Rattle.expression_laws.specs.Statements.{ActionStands, IsNodeClean, IsAround, ExitStands, ActionThereLaw}
use Rattle.expression_laws.proofs.Values.{goes_place, class_valued}
use Rattle.expression_laws.proofs.Operators.{map_there, operands_valued, operator_there, routine_there}
use Rattle.expression_laws.proofs.Known.{known_there, called_by}
use Rattle.expression_laws.proofs.Parts.{made_there, if_made, is_there, place_there, shown, class_declarable, value_by, value_goes}
use Rattle.expression_laws.proofs.Applied.{told_inside, RoutineParts, operand_there, first_declarable, same_first, routine_shown, receiver_for, ArgumentsClean, arguments_clean, procedure_receivers, process_receivers}
use Rattle.expression_laws.proofs.Places.{in_place, TargetThere, free_located}
use Rattle.expression_laws.proofs.Expressions.{free_target, expr_there, path_there, received_there, arguments_there, only_there}
use Rattle.expression_laws.proofs.Constants.{priority_there}

-- ---- values by what receives them

-- a value with its class, and what its receiver tells
pub record ValueKnown (s : Source) (r : Receiver) (e : ExprTree) : Type 0 where
  pub class : ClassTree
  pub is : class_as s.known (received_mode r) e ≡ Some class
  pub told : told_in s.known r e ≡ []
  pub received : told_received s.known r e ≡ []

pub value_known : (s : Source) (r : Receiver) (e : ExprTree) → AllNamesKnown s → IsWellNamed s.known e → is_unknown_place r ≡ false → told_value s.known r e ≡ [] → ValueKnown s r e
value_known s r e known named place_is none =
    let g = s.known in
    let inside = told_in g r e in
    let large = told_if (holds_of is_too_large (class_as g (received_mode r) e)) (tell_at rules.L6 (place_of (bare e))) in
    let untold = none_inside inside large (none_inside (own_told g r e inside) (told_received g r e) none) in
    let c = value_in (class_as g (received_mode r) e) (clean_there g r e (known_there s known e named.tuples named.stands) place_is untold) in
    record { class = c.0; is = c.1; told = untold; received = none_then (own_told g r e inside) (told_received g r e) none }

pub test_holds : (test : FormTree → Bool) (c : Option ClassTree) (k : ClassTree) (d : Diagnostic) → c ≡ Some k → told_if (holds_of (λ c. not (class_is test c)) c) d ≡ [] → class_is test k ≡ true
test_holds test c k d is none = not_true (class_is test k) (ap (holds_of (λ c. not (class_is test c))) (sym is) ∙ not_broken (holds_of (λ c. not (class_is test c)) c) d none)

-- an expression whose class passes a test
pub record TestedThere (s : Source) (test : FormTree → Bool) (e : ExprTree) : Type 0 where
  pub there : IsSome (expr_alone s e)
  pub class : ClassTree
  pub is : class_of s.known e ≡ Some class
  pub passes : class_is test class ≡ true
  pub told : told_in s.known nothing_asked e ≡ []

valued_there : (s : Source) (e : ExprTree) (c : ClassTree) → AllNamesKnown s → IsWellNamed s.known e → told_of_constants s.known e ≡ [] → told_in s.known nothing_asked e ≡ [] → class_of s.known e ≡ Some c → is_of_values c ≡ true → IsSome (expr_alone s e)
valued_there s e c known named constants told is valued = expr_there s nothing_asked e c known (record { named = named; receives = no_receiver; constants = constants; told = told }) is valued

pub condition_there : (s : Source) (e : ExprTree) → AllNamesKnown s → IsWellNamed s.known e → told_of_constants s.known e ≡ [] → told_value s.known condition e ≡ [] → IsSome (expr_alone s e)
condition_there s e known named constants none =
    let v = value_known s condition e known named refl none in
    let passes = test_holds is_boolean (class_of s.known e) v.class (tell_at rules.S4 (place_of e)) v.is v.received in
    expr_there s condition e v.class known (record { named = named; receives = no_receiver; constants = constants; told = v.told }) v.is (class_valued is_boolean v.class refl passes)

-- where nothing is asked of it, and its class passes
pub operand_tested : (s : Source) (test : FormTree → Bool) (e : ExprTree) (c : ClassTree) → AllNamesKnown s → IsWellNamed s.known e → told_of_constants s.known e ≡ [] → told_in s.known nothing_asked e ≡ [] → class_of s.known e ≡ Some c → class_is test c ≡ true → is_of_values c ≡ true → TestedThere s test e
operand_tested s test e c known named constants told is passes valued = record { there = valued_there s e c known named constants told is valued; class = c; is = is; passes = passes; told = told }

-- ---- locations that are written

pub record TargetTold (g : Ground) (t : ExprTree) : Type 0 where
  pub free : is_free (place g t).access ≡ true
  pub mode : ModeTree
  pub has : (path_of g t).mode ≡ Some mode
  pub class : class_of g t ≡ Some (value mode)
  pub is : target_mode g t ≡ Some mode
  pub told : told_in g nothing_asked t ≡ []

pub target_told : (g : Ground) (t : ExprTree) → told_target g t ≡ [] → TargetTold g t
target_told g t none =
    let indices = told_in_indices g t in
    let read = told_if (cannot_be_written (place g t)) (tell_at rules.S3 (place_of t)) in
    let clean = none_inside indices read none in
    let free = not_true (is_free (place g t).access) (not_broken (cannot_be_written (place g t)) (tell_at rules.S3 (place_of t)) (none_then indices read none)) in
    let own = in_place g t (free_located g t free) in
    record { free = free; mode = own.mode; has = own.is; class = own.class; is = ap (λ l. if is_none_told l then (place g t).mode else None) clean ∙ own.is; told = sym own.told ∙ clean }

pub target_declarable : (s : Source) (t : ExprTree) (m : ModeTree) → AllNamesKnown s → IsWellNamed s.known t → class_of s.known t ≡ Some (value m) → IsDeclarable m
target_declarable s t m known named class = class_declarable s None t (value m) known named no_receiver class

-- a value that goes to a place of a mode
place_value : (s : Source) (m : ModeTree) (e : ExprTree) → AllNamesKnown s → IsDeclarable m → IsWellNamed s.known e → told_of_constants s.known e ≡ [] → told_value s.known (of_mode (Some m)) e ≡ [] → IsSome (received_by s (Some m) e)
place_value s m e known fits named constants none =
    let place_is : IsPlace (Some m) = record { there = refl; fits = λ k same. subst IsDeclarable (same_some m k same) fits } in
    place_there (Some m) (expr_as s (Some m) e) refl
    (value_by s (Some m) e known place_is named none (λ c is valued told. expr_there s (of_mode (Some m)) e c known (record { named = named; receives = place_is.fits; constants = constants; told = told }) is valued))

pub received_value : (s : Source) (m : Option ModeTree) (e : ExprTree) → AllNamesKnown s → IsPlace m → IsWellNamed s.known e → told_of_constants s.known e ≡ [] → told_value s.known (of_mode m) e ≡ [] → IsSome (received_by s m e)
received_value s m e known place_is named constants none =
    place_there m (expr_as s m e) place_is.there (value_by s m e known place_is named none (λ c is valued told. expr_there s (of_mode m) e c known (record { named = named; receives = place_is.fits; constants = constants; told = told }) is valued))

assigned : (s : Source) (t v : ExprTree) → AllNamesKnown s → IsWellNamed s.known t → IsWellNamed s.known v → told_of_constants s.known t ≡ [] → told_of_constants s.known v ≡ [] → told_target s.known t ++ told_value s.known (of_mode (target_mode s.known t)) v ≡ []
    → IsSome (option_and_then (λ t. option_map (done.assign t.0) (received_by s (Some t.1) v)) (target s t))
assigned s t v known place_named value_named place_constants value_constants none =
    let g = s.known in
    let told = told_value g (of_mode (target_mode g t)) v in
    let at = target_told g t (none_first (told_target g t) told none) in
    let goes_to = subst (λ m. told_value g (of_mode m) v ≡ []) at.is (none_later (told_target g t) told none) in
    let goes = value_goes s at.mode v known value_named goes_to in
    let there = free_target s t at.mode place_named place_constants at.told at.free at.has (goes_place goes.class at.mode goes.goes) (path_there s t known) in
    let value_is = place_value s at.mode v known (target_declarable s t at.mode known place_named at.class) value_named value_constants goes_to in
    subst (λ k. IsSome (option_and_then (λ (t : Target). option_map (done.assign t.0) (received_by s (Some t.1) v)) k)) (sym there.is)
    (map_there (done.assign there.at.0) (received_by s (Some there.at.1) v) (subst (λ m. IsSome (received_by s (Some m) v)) (sym there.mode) value_is))

updated_made : (o : Operator) (t : Option Target) (v : Option made.ExprTree) (c : Option ClassTree) (at : Target) (k : ClassTree) → t ≡ Some at → IsSome v → c ≡ Some k → IsSome (operator_between o (value at.1) k) → IsSome (updated o t v c)
updated_made o t v c at k target_is value_is class there =
    let x = value_in v value_is in
    subst (λ y. IsSome (updated o y v c)) (sym target_is)
    (subst (λ y. IsSome (updated o (Some at) y c)) (sym x.1) (subst (λ y. IsSome (updated o (Some at) (Some x.0) y)) (sym class) (map_there (λ op. done.update at.0 op x.0 (bounds_of at.1)) (operator_between o (value at.1) k) there)))

operands_fit : (o : Operator) (m : Option ModeTree) (c : Option ClassTree) (k : ModeTree) (d : ClassTree) → m ≡ Some k → c ≡ Some d → holds_of_both (operands_misfit o) (option_map value m) c ≡ false → IsSome (class_of_binary o (value k) d)
operands_fit o m c k d mode class fits = not_true (is_some (class_of_binary o (value k) d)) (ap (λ x. holds_of_both (operands_misfit o) (Some (value k)) x) (sym class) ∙ (ap (λ x. holds_of_both (operands_misfit o) (option_map value x) c) (sym mode) ∙ fits))

-- the target and the value of an assignment with an operator
stepped : (s : Source) (t v : ExprTree) (o : Operator) (p : Pos) → AllNamesKnown s → IsWellNamed s.known t → IsWellNamed s.known v → told_of_constants s.known t ≡ [] → told_of_constants s.known v ≡ []
    → told_target s.known t ++ told_value s.known nothing_asked v ++ told_if (holds_of_both (operands_misfit o) (option_map value (target_mode s.known t)) (clean s.known v)) (tell_at rules.S1 p) ≡ [] → IsSome (updated o (target s t) (expr_alone s v) (class_of s.known v))
stepped s t v o p known place_named value_named place_constants value_constants none =
    let g = s.known in
    let misfits = holds_of_both (operands_misfit o) (option_map value (target_mode g t)) (clean g v) in
    let misfit = told_if misfits (tell_at rules.S1 p) in
    let inside = told_value g nothing_asked v in
    let before = none_first (told_target g t ++ inside) misfit none in
    let at = target_told g t (none_first (told_target g t) inside before) in
    let x = value_known s nothing_asked v known value_named refl (none_later (told_target g t) inside before) in
    let class : clean g v ≡ Some x.class = ap (λ l. clean_class l (class_of g v)) x.told ∙ x.is in
    let result = value_in (class_of_binary o (value at.mode) x.class) (operands_fit o (target_mode g t) (clean g v) at.mode x.class at.is class (not_broken misfits (tell_at rules.S1 p) (none_later (told_target g t ++ inside) misfit none))) in
    let valued = operands_valued o (value at.mode) x.class result.0 result.1 in
    let there = free_target s t at.mode place_named place_constants at.told at.free at.has valued.0 (path_there s t known) in
    let operator = operator_there o (value at.mode) x.class result.0 (class_declarable s None v x.class known value_named no_receiver x.is) result.1 in
    updated_made o (target s t) (expr_alone s v) (class_of g v) there.at x.class there.is (valued_there s v x.class known value_named value_constants x.told x.is valued.1) x.is
    (subst (λ m. IsSome (operator_between o (value m) x.class)) (sym there.mode) operator)

-- ---- lists of expressions

pub each_first : {A : Type 0} (P : A → Type 0) (xs ys : List A) → Each P (xs ++ ys) → Each P xs
each_first P [] ys all = tt
each_first P (x ∷ xs) ys all = (all.0, each_first P xs ys all.1)

pub each_later : {A : Type 0} (P : A → Type 0) (xs ys : List A) → Each P (xs ++ ys) → Each P ys
each_later P [] ys all = all
each_later P (x ∷ xs) ys all = each_later P xs ys all.1

pub listed_named : (g : Ground) (es : List ExprTree) → Each (IsWellNamed g) es → AreWellNamed g false (expr_nodes es)
listed_named g [] all = record { short = tt; paths = tt; tuples = tt; stands = tt }
listed_named g (e ∷ es) all =
    let own = all.0 in
    let others = listed_named g es all.1 in
    record { short = (own.short, others.short); paths = (own.paths, others.paths); tuples = (own.tuples, others.tuples); stands = (own.stands, others.stands) }

pub listed_told : (g : Ground) (es : List ExprTree) → flat_map (told_of_constants g) es ≡ told_in_each g (expr_nodes es)
listed_told g [] = refl
listed_told g (e ∷ es) = ap (λ l. told_of_constants g e ++ l) (listed_told g es)

pub flat_both : {A B : Type 0} (f : A → List B) (xs ys : List A) → flat_map f (xs ++ ys) ≡ flat_map f xs ++ flat_map f ys
flat_both f [] ys = refl
flat_both f (x ∷ xs) ys = ap (λ l. f x ++ l) (flat_both f xs ys) ∙ sym (append_assoc (f x) (flat_map f xs) (flat_map f ys))

pub none_single : (xs : List Diagnostic) → xs ++ [] ≡ [] → xs ≡ []
none_single xs none = none_first xs [] none

-- ---- STARTs

started_there : (s : Source) (n : Name) (es : List ExprTree) → AllNamesKnown s → ActionStands s (start_of n.at n es) → Each (IsWellNamed s.known) es → flat_map (told_of_constants s.known) es ≡ [] → told_arguments s.known (receivers_of s.known n) (expr_nodes es) n.at ≡ []
    → IsSome (made_of (λ b rs. done.start_of (made.started b rs)) (body_used s n) (received_each s (modes_by s (origin_of s.known n)) (expr_nodes es)))
started_there s n es known stands named constants none =
    let g = s.known in
    let ms = modes_by s (origin_of g n) in
    let nodes = expr_nodes es in
    let args = told_in_args g (each_receiver (receivers_of g n) (count_exprs nodes)) nodes in
    let numbers = told_number n.at (count_exprs nodes) (length (receivers_of g n)) in
    let fit = arguments_clean g of_mode ms (receivers_of g n) nodes n.at (process_receivers s n stands) (none_first args numbers none) (none_later args numbers none) in
    made_there (λ b rs. done.start_of (made.started b rs)) (body_used s n) (received_each s ms nodes) ((known n).started stands) (received_there s ms nodes known (known n).places (listed_named g es named) (sym (listed_told g es) ∙ constants) fit)

-- ---- calls

-- what is told of a call of a procedure that stands as an action
procedure_called : (s : Source) (n : Name) (es : ExprNodes) → AllNamesKnown s → stands_for_procedure (origin_of s.known n) ≡ true → AreWellNamed s.known false es → told_in_each s.known es ≡ [] → told_arguments s.known (receivers_of s.known n) es n.at ≡ []
    → IsSome (made_of (λ b as'. done.perform (made.called b as')) (body_used s n) (arguments s (formals_by s (origin_of s.known n)) es))
procedure_called s n es known stands named constants none =
    let g = s.known in
    let fs = formals_by s (origin_of g n) in
    let args = told_in_args g (each_receiver (receivers_of g n) (count_exprs es)) es in
    let numbers = told_number n.at (count_exprs es) (length (receivers_of g n)) in
    let fit = arguments_clean g receiver_for fs (receivers_of g n) es n.at (procedure_receivers s n stands) (none_first args numbers none) (none_later args numbers none) in
    made_there (λ b as'. done.perform (made.called b as')) (body_used s n) (arguments s fs es) ((known n).called stands) (arguments_there s fs es known (known n).formals named constants fit)

pub brackets_named : (g : Ground) (n : Name) (es : ExprNodes) → measures (callee_named g n) ≡ false → IsWellNamed g (apply n.at (name n) es) → AreWellNamed g false es
brackets_named g n es apart named = record { short = named.short.1; paths = named.paths.1.1; tuples = named.tuples.1; stands = subst (λ b. EachStands g b es) apart named.stands.1 }

pub brackets_told : (g : Ground) (n : Name) (es : ExprNodes) → told_of_constants g (apply n.at (name n) es) ≡ [] → told_in_each g es ≡ []
brackets_told g n es none = none_inside (told_in_each g es) (when_routine (value_routine (callee_named g n)) (λ p. told_if_constant (are_arguments g (is_measuring p) es) (told_call g n.at p es))) none

-- what is told of a routine that stands as an action: nothing in its arguments, their number is right, and they fit
pub record RoutineTold (g : Ground) (p : Predefined) (es : ExprNodes) : Type 0 where
  pub arguments : told_in_routine g p es ≡ []
  pub count : count_exprs es ≡ arguments_of p
  pub fits : call_misfits g p es ≡ false

inside_none : (g : Ground) (es : ExprNodes) → told_in_args g (replicate (count_exprs es) nothing_asked) es ≡ [] → told_inside_each g es ≡ []
inside_none g no_exprs none = refl
inside_none g (more_exprs e es) none =
    let first = value_told g nothing_asked e (told_in g nothing_asked e) in
    let later = told_in_args g (replicate (count_exprs es) nothing_asked) es in
    ap (λ l. l ++ told_inside_each g es) (told_inside g nothing_asked e (none_first first later none)) ∙ inside_none g es (none_later first later none)

routine_inside : (g : Ground) (p : Predefined) (es : ExprNodes) → told_in_routine g p es ≡ [] → told_inside_each g es ≡ []
routine_inside g p es none = by (is_measuring p) none
  where
    by : (b : Bool) → (if b then told_inside_each g es else told_in_args g (replicate (count_exprs es) nothing_asked) es) ≡ [] → told_inside_each g es ≡ []
    by true none = none
    by false none = inside_none g es none

pub routine_told : (g : Ground) (p : Predefined) (es : ExprNodes) (at : Pos) → told_routine g (routine p) es at ≡ [] → RoutineTold g p es
routine_told g p es at none =
    let args = told_in_routine g p es in
    let numbers = told_number at (count_exprs es) (arguments_of p) in
    let misfits = is_none_told (told_inside_each g es) && call_misfits g p es in
    let misfit = told_if misfits (tell_at rules.S1 at) in
    let behind = none_later args (then_told numbers misfit) none in
    let inner = none_first args (then_told numbers misfit) none in
    record {
      arguments = inner;
      count = eqb-true (count_exprs es) (arguments_of p) (not_true (count_exprs es == arguments_of p) (not_broken (not (count_exprs es == arguments_of p)) (tell_at rules.S5 at) (none_inside numbers misfit behind)));
      fits = ap (λ l. is_none_told l && call_misfits g p es) (sym (routine_inside g p es inner)) ∙ not_broken misfits (tell_at rules.S1 at) (none_then numbers misfit behind);
    }

-- it is told of as an expression, too
pub routine_behind : (g : Ground) (p : Predefined) (es : ExprNodes) (at : Pos) (base : Option ClassTree) (inside : List Diagnostic) → gives_no_value p ≡ false → RoutineTold g p es
    → told_behind g (routine p) at base inside (told_in_args g (replicate (count_exprs es) nothing_asked) es) (told_inside_each g es) es ≡ []
routine_behind g p es at base inside gives told =
    let numbers : told_number at (count_exprs es) (arguments_of p) ≡ [] = ap (λ b. told_if (not b) (tell_at rules.S5 at)) (eq-eqb (count_exprs es) (arguments_of p) told.count) in
    let misfit : told_if (call_misfits g p es) (tell_at rules.S1 at) ≡ [] = ap (λ b. told_if b (tell_at rules.S1 at)) told.fits in
    let without : told_if (gives_no_value p) (tell_at rules.S10 at) ≡ [] = ap (λ b. told_if b (tell_at rules.S10 at)) gives in
    let at_it : told_if (gives_no_value p) (tell_at rules.S10 at) ++ then_told (told_number at (count_exprs es) (arguments_of p)) (told_if (call_misfits g p es) (tell_at rules.S1 at)) ≡ [] =
    ap (λ l. l ++ then_told (told_number at (count_exprs es) (arguments_of p)) (told_if (call_misfits g p es) (tell_at rules.S1 at))) without
    ∙ (ap (λ l. then_told l (told_if (call_misfits g p es) (tell_at rules.S1 at))) numbers ∙ misfit)
    in
    ap (λ l. then_told l (told_if (gives_no_value p) (tell_at rules.S10 at) ++ then_told (told_number at (count_exprs es) (arguments_of p)) (told_if (call_misfits g p es) (tell_at rules.S1 at)))) told.arguments ∙ at_it

-- what a call of a routine is as an expression
routine_alone : (s : Source) (n : Name) (es : ExprNodes) (p : Predefined) → AllNamesKnown s → IsWellNamed s.known (apply n.at (name n) es) → told_of_constants s.known (apply n.at (name n) es) ≡ [] → callee_named s.known n ≡ routine p → gives_no_value p ≡ false
    → (is_measuring p ≡ false → RoutineParts s es) → RoutineTold s.known p es → IsSome (expr_alone s (apply n.at (name n) es))
routine_alone s n es p known named constants is gives parts told =
    let g = s.known in
    let x = apply n.at (name n) es in
    let behind = routine_behind g p es n.at (class_of g (name n)) [] gives told in
    let untold = subst (λ k. told_behind g k n.at (class_of g (name n)) [] (told_in_args g (receivers_behind g k (clean_class [] (class_of g (name n))) (count_exprs es)) es) (told_inside_each g es) es ≡ []) (sym is) behind in
    let clean_is : IsClean g nothing_asked x = record { named = named; receives = no_receiver; constants = constants; told = untold } in
    let c = value_in (class_of g x) (clean_there g nothing_asked x (known_there s known x named.tuples named.stands) refl untold) in
    let operation : Callee → Option made.OperationTree = λ k. applied_operation s k (arguments s (formals_called s k) es) (class_first s es) (only_one s (mode_in_brackets s k (name n)) es) (made_if element_path (only_one s (mode_in_brackets s k (name n)) es) (path s (name n))) in
    shown s nothing_asked x c.0 (operation (callee_named g n)) known clean_is c.1
    (λ form. subst (λ k. IsSome (operation k)) (sym is)
    (routine_shown s p n.at (class_of g (name n)) [] es c.0 parts (ap (λ k. holds_of (λ p. are_arguments g (is_measuring p) es) (value_routine k)) (sym is) ∙ form)
    (ap (λ k. class_behind k (result_class g (name n)) (class_of g (name n)) (measured_first g es) (class_of_first g es)) (sym is) ∙ c.1) behind))

pub first_class : (s : Source) (es : ExprNodes) → RoutineParts s es → count_exprs es ≡ 1 → told_in_args s.known (replicate (count_exprs es) nothing_asked) es ≡ [] → (c : ClassTree) × (class_of_first s.known es ≡ Some c)
first_class s no_exprs parts count none = absurd (omega (arith, count))
first_class s (more_exprs e no_exprs) parts count none =
    let named = parts.named in
    value_in (class_of s.known e) (clean_there s.known nothing_asked e (known_there s parts.known e named.tuples.0 named.stands.0) refl (told_inside s.known nothing_asked e (none_single (value_told s.known nothing_asked e (told_in s.known nothing_asked e)) none)))
first_class s (more_exprs e (more_exprs f fs)) parts count none = absurd (omega (arith, count))

-- the one argument of a routine, whose class passes a test
argument_there : (s : Source) (test : FormTree → Bool) (es : ExprNodes) → test of_meeting ≡ false → RoutineParts s es → count_exprs es ≡ 1 → holds_of (λ c. not (class_is test c)) (class_of_first s.known es) ≡ false → told_in_args s.known (replicate (count_exprs es) nothing_asked) es ≡ [] → IsSome (only_one s None es)
argument_there s test es apart parts count fits none =
    let c = first_class s es parts count none in
    operand_there s es c.0 parts.only count c.1 (class_valued test c.0 apart (not_true (class_is test c.0) (ap (holds_of (λ c. not (class_is test c))) (sym c.1) ∙ fits))) none

dropped : (s : Source) (p : Predefined) (es : ExprNodes) → RoutineParts s es → count_exprs es ≡ 1 → holds_of (λ c. not (is_some (class_of_routine p c))) (class_of_first s.known es) ≡ false → told_in_args s.known (replicate (count_exprs es) nothing_asked) es ≡ []
    → IsSome (made_of done.drop_routine (option_and_then (routine_on p) (class_first s es)) (only_one s None es))
dropped s p es parts count fits none =
    let c = first_class s es parts count none in
    let result = value_in (class_of_routine p c.0) (not_true (is_some (class_of_routine p c.0)) (ap (holds_of (λ c. not (is_some (class_of_routine p c)))) (sym c.1) ∙ fits)) in
    let there = routine_there p c.0 result.0 (first_declarable s es c.0 parts.known parts.named c.1) result.1 in
    made_there done.drop_routine (option_and_then (routine_on p) (class_first s es)) (only_one s None es) (subst (λ x. IsSome (option_and_then (routine_on p) x)) (sym (same_first s es ∙ c.1)) there.made) (operand_there s es c.0 parts.only count c.1 there.valued none)

routine_done : (s : Source) (n : Name) (es : List ExprTree) (p : Predefined) → is_routine p ≡ true → (gives_no_value p ≡ false → IsSome (evaluated s n es)) → (is_measuring p ≡ false → RoutineParts s (expr_nodes es)) → RoutineTold s.known p (expr_nodes es) → IsSome (routine_by s p n es)
routine_done s n es get_int is alone parts told = alone refl
routine_done s n es upper is alone parts told = alone refl
routine_done s n es lower is alone parts told = alone refl
routine_done s n es size is alone parts told = alone refl
routine_done s n es put_nl is alone parts told = refl
routine_done s n es put_int is alone parts told = map_there done.put_int (only_one s None (expr_nodes es)) (argument_there s is_int (expr_nodes es) refl (parts refl) told.count told.fits told.arguments)
routine_done s n es put_text is alone parts told = map_there done.put_text (only_one s None (expr_nodes es)) (argument_there s is_chars (expr_nodes es) refl (parts refl) told.count told.fits told.arguments)
routine_done s n es num is alone parts told = dropped s num (expr_nodes es) (parts refl) told.count told.fits told.arguments
routine_done s n es succ is alone parts told = dropped s succ (expr_nodes es) (parts refl) told.count told.fits told.arguments
routine_done s n es pred is alone parts told = dropped s pred (expr_nodes es) (parts refl) told.count told.fits told.arguments
routine_done s n es abs is alone parts told = dropped s abs (expr_nodes es) (parts refl) told.count told.fits told.arguments
routine_done s n es card is alone parts told = dropped s card (expr_nodes es) (parts refl) told.count told.fits told.arguments
routine_done s n es min is alone parts told = dropped s min (expr_nodes es) (parts refl) told.count told.fits told.arguments
routine_done s n es max is alone parts told = dropped s max (expr_nodes es) (parts refl) told.count told.fits told.arguments
routine_done s n es (of_its_mode m) is alone parts told = absurd (true≢false (sym is))
routine_done s n es (truth b) is alone parts told = absurd (true≢false (sym is))
routine_done s n es no_instance is alone parts told = absurd (true≢false (sym is))

-- a callee that is a routine
abbrev is_called : Callee → Bool
is_called (calls n) = true
is_called _ = false

abbrev is_evaluated : Callee → Bool
is_evaluated (routine p) = true
is_evaluated _ = false

abbrev routine_or : Predefined → Callee → Predefined
routine_or q (routine p) = p
routine_or q _ = q

pub routine_named : (n : Name) (o : Option Origin) (p : Predefined) → callee_by n o ≡ routine p → is_routine p ≡ true
routine_named n (Some (a_procedure q)) p is = absurd (true≢false (ap is_called is))
routine_named n (Some (a_predefined q)) p is = by (is_routine q) refl is
  where
    by : (b : Bool) → is_routine q ≡ b → (if b then routine q else no_callee) ≡ routine p → is_routine p ≡ true
    by true same is = sym (ap (λ k. is_routine (routine_or q k)) is) ∙ same
    by false same is = absurd (true≢false (sym (ap is_evaluated is)))
routine_named n o p is = absurd (true≢false (sym (ap is_evaluated is)))

pub call_stands : {A : Type 0} (n : Name) (o : Option Origin) → stands_for_call o ≡ true → callee_by n o ≡ no_callee → A
call_stands n (Some (a_procedure p)) stands is = absurd (true≢false (ap is_called is))
call_stands n (Some (a_predefined p)) stands is = absurd (true≢false (ap is_evaluated (sym (ap (λ b. if b then routine p else no_callee) stands) ∙ is)))
call_stands n o stands is = absurd (true≢false (sym stands))

called_there : (s : Source) (n : Name) (es : List ExprTree) (k : Callee) → callee_named s.known n ≡ k → AllNamesKnown s → stands_for_call (origin_of s.known n) ≡ true → IsWellNamed s.known (apply n.at (name n) (expr_nodes es)) → told_of_constants s.known (apply n.at (name n) (expr_nodes es)) ≡ []
    → told_routine s.known k (expr_nodes es) n.at ≡ [] → IsSome (call_action s k n es)
called_there s n es (calls m) is known stands named constants none =
    let g = s.known in
    let by = called_by n m (origin_of g n) is in
    procedure_called s n (expr_nodes es) known by.1 (brackets_named g n (expr_nodes es) (ap measures is) named) (brackets_told g n (expr_nodes es) constants) (subst (λ x. told_arguments g (receivers_of g x) (expr_nodes es) n.at ≡ []) (sym by.0) none)
called_there s n es (routine p) is known stands named constants none =
    let g = s.known in
    let nodes = expr_nodes es in
    let told = routine_told g p nodes n.at none in
    let parts : is_measuring p ≡ false → RoutineParts s nodes = λ apart. (let own = brackets_named g n nodes (ap measures is ∙ apart) named in record { known = known; named = own; only = only_there s nodes known own (brackets_told g n nodes constants) }) in
    routine_done s n es p (routine_named n (origin_of g n) p is)
    (λ gives. map_there done.evaluate (expr_alone s (apply n.at (name n) nodes)) (routine_alone s n nodes p known named constants is gives parts told)) parts told
called_there s n es no_callee is known stands named constants none = call_stands n (origin_of s.known n) stands is

-- ---- SEND

signals_messages : (g : Ground) (n : Name) → told_misfit g for_signals n ≡ [] → told_misfit g for_messages n ≡ []
signals_messages g n none = by (met_at g n) none
  where
    by : (m : Option Meeting) → told_if (holds_of (λ m. not (fits for_signals m)) m) (tell n.at rules.P3 n.text) ≡ [] → told_if (holds_of (λ m. not (fits for_messages m)) m) (tell n.at rules.P3 n.text) ≡ []
    by None none = refl
    by (Some meets_signal) none = refl
    by (Some meets_buffer) none = refl
    by (Some meets_event) none = none
    by (Some meets_nothing) none = none

pub sent_met : (g : Ground) (n : Name) (to : Option ExprTree) → told_misfit g (purpose_of_send to) n ≡ [] → told_misfit g for_messages n ≡ []
sent_met g n None none = none
sent_met g n (Some e) none = signals_messages g n none

pub same_args : (es : Option (List ExprTree)) → some_args es ≡ args_in es
same_args None = refl
same_args (Some es) = refl

one_received : (s : Source) (m : Option ModeTree) (es : ExprNodes) (rs : made.ReceivedNodes) → received_each s (m ∷ []) es ≡ Some rs → IsSome (only_received rs)
one_received s m no_exprs rs is = no_some rs is
one_received s m (more_exprs e no_exprs) rs is = by (received_as m (expr_as s m e)) is
  where
    by : (r : Option made.ReceivedTree) → made_of made.more_received r (Some made.no_received) ≡ Some rs → IsSome (only_received rs)
    by (Some r) is = subst (λ x. IsSome (only_received x)) (same_some (made.more_received r made.no_received) rs is) refl
    by None is = no_some rs is
one_received s m (more_exprs e (more_exprs f fs)) rs is = by (received_as m (expr_as s m e)) (received_each s [] fs) is
  where
    by : (r : Option made.ReceivedTree) (xs : Option made.ReceivedNodes) → made_of made.more_received r (made_of made.more_received None xs) ≡ Some rs → IsSome (only_received rs)
    by None xs is = no_some rs is
    by (Some r) xs is = no_some rs is

sent_made : (s : Source) (thing : Thing) (ms : List (Option ModeTree)) (es : ExprNodes) (rs : made.ReceivedNodes) (to : Option made.ExprTree) → takes_parts thing (length ms) ≡ true → received_each s ms es ≡ Some rs → IsSome (sent_by thing rs to)
sent_made s (a_message k) ms es rs to takes is = refl
sent_made s (a_buffer k) (m ∷ []) es rs to takes is = map_there (done.to_buffer k) (only_received rs) (one_received s m es rs is)
sent_made s (a_buffer k) [] es rs to takes is = absurd (true≢false (sym takes))
sent_made s (a_buffer k) (m ∷ (l ∷ ms)) es rs to takes is = (let two = eqb-true (length (m ∷ (l ∷ ms))) 1 takes in absurd (omega (arith, two)))
sent_made s thing ms es rs to takes is = absurd (true≢false (sym takes))

pub instance_fits : IsDeclarable instance
instance_fits = record { parts = refl; size = (let e : 1 ≤ 4096 = omega arith in e) }

receiver_there : (s : Source) (to : Option ExprTree) → AllNamesKnown s → Each (IsWellNamed s.known) (some_expr to) → flat_map (told_of_constants s.known) (some_expr to) ≡ [] → told_some_value s.known (of_mode (Some instance)) to ≡ [] → IsSome (receiver s to)
receiver_there s None known named constants none = refl
receiver_there s (Some e) known named constants none =
    let place_is : IsPlace (Some instance) = record { there = refl; fits = λ k same. subst IsDeclarable (same_some instance k same) instance_fits } in
    let clean_is = none_single (told_of_constants s.known e) constants in
    map_there Some (expr_as s (Some instance) e)
    (value_by s (Some instance) e known place_is named.0 none (λ c is valued told. expr_there s (of_mode (Some instance)) e c known (record { named = named.0; receives = place_is.fits; constants = clean_is; told = told }) is valued))

pub some_named : (g : Ground) (es : Option (List ExprTree)) → Each (IsWellNamed g) (some_exprs es) → AreWellNamed g false (args_in es)
some_named g None all = record { short = tt; paths = tt; tuples = tt; stands = tt }
some_named g (Some es) all = listed_named g es all

pub some_told : (g : Ground) (es : Option (List ExprTree)) → flat_map (told_of_constants g) (some_exprs es) ≡ [] → told_in_each g (args_in es) ≡ []
some_told g None none = refl
some_told g (Some es) none = sym (listed_told g es) ∙ none

sent_there : (s : Source) (n : Name) (es : Option (List ExprTree)) (to : Option ExprTree) → AllNamesKnown s → MessageKnown s n → Each (IsWellNamed s.known) (some_exprs es) → flat_map (told_of_constants s.known) (some_exprs es) ≡ [] → told_message s.known (message_parts s.known n) (args_in es) n.at ≡ []
    → IsSome (receiver s to) → IsSome (sent s n es to)
sent_there s n es to known m named constants none to_is =
    let g = s.known in
    let args = args_in es in
    let told = subst (λ ms. told_message g ms args n.at ≡ []) m.are none in
    let inside = told_in_args g (each_receiver (map of_mode m.parts) (count_exprs args)) args in
    let numbers = told_number n.at (count_exprs args) (length (map of_mode m.parts)) in
    let fit = arguments_clean g of_mode m.parts (map of_mode m.parts) args n.at refl (none_first inside numbers told) (none_later inside numbers told) in
    let rs = value_in (received_each s m.parts args) (received_there s m.parts args known m.places (some_named g es named) (some_told g es constants) fit) in
    let to_there = value_in (receiver s to) to_is in
    let parts_are : parts_sent s n (some_args es) ≡ Some rs.0 = ap (parts_sent s n) (same_args es) ∙ (ap (option_and_then (λ ms. received_each s ms args)) m.are ∙ rs.1) in
    subst (λ t. IsSome (option_and_then (λ f. made_if f (parts_sent s n (some_args es)) (receiver s to)) (option_map sent_by t))) (sym m.used)
    (if_made (sent_by m.thing) (parts_sent s n (some_args es)) (receiver s to) rs.0 to_there.0 parts_are to_there.1 (sent_made s m.thing m.parts args rs.0 to_there.0 m.takes rs.1))

-- ---- the law

priority_made : (s : Source) (p : Option ExprTree) → AllNamesKnown s → Each (IsWellNamed s.known) (some_expr p) → told_some_needed s.known p ≡ [] → told_of_some_priority s.known p ≡ [] → IsSome (priority s p)
priority_made s None known named needed none = refl
priority_made s (Some e) known named needed none = priority_there s e known named.0 needed none

result_there : (s : Source) (a : Around) (around : sites.Around) (at : Pos) (e : ExprTree) → AllNamesKnown s → IsAround s a around → IsWellNamed s.known e → told_of_constants s.known e ≡ []
    → told_if (not_allowed (returning_of s.known around) true) (tell_at rules.S9 at) ++ told_value s.known (result_receiver (returning_of s.known around)) e ≡ [] → IsSome (given_back s a e)
result_there s a around at e known is named constants none =
    let wrong = told_if (not_allowed (returning_of s.known around) true) (tell_at rules.S9 at) in
    let told = told_value s.known (result_receiver (returning_of s.known around)) e in
    by (returning_of s.known around) refl (not_broken (not_allowed (returning_of s.known around) true) (tell_at rules.S9 at) (none_first wrong told none)) (none_later wrong told none)
  where
    by : (r : Returning) → returning_of s.known around ≡ r → not_allowed r true ≡ false → told_value s.known (result_receiver r) e ≡ [] → IsSome (given_back s a e)
    by no_procedure same allowed none = absurd (true≢false allowed)
    by no_value same allowed none = absurd (true≢false allowed)
    by (a_value m) same allowed none = subst (λ k. IsSome (received_by s k e)) (sym (is.result m same)) (received_value s m e known (is.place m same) named constants none)

pub action_there : ActionThereLaw
action_there s a around (assign at t v) known is exits clean =
    let g = s.known in
    let constants = clean.modes in
    let first = told_of_constants g t in
    let later = told_of_constants g v in
    let inner = none_first (first ++ (later ++ [])) [] constants in
    let behind = none_later first (later ++ []) inner in
    assigned s t v known clean.named.0 clean.named.1.0 (none_first first (later ++ []) inner) (none_single later behind) clean.statements
action_there s a around (update at t o p v) known is exits clean =
    let g = s.known in
    let first = told_of_constants g t in
    let later = told_of_constants g v in
    let inner = none_first (first ++ (later ++ [])) [] clean.modes in
    stepped s t v o p known clean.named.0 clean.named.1.0 (none_first first (later ++ []) inner) (none_single later (none_later first (later ++ []) inner)) clean.statements
action_there s a around (call_of at word n es) known is exits clean =
    let x = told_of_constants s.known (apply n.at (name n) (expr_nodes es)) in
    called_there s n es (callee_named s.known n) refl known clean.stands clean.named.0 (none_single x (none_single (x ++ []) clean.modes)) clean.statements
action_there s a around (exit at n) known is exits clean = map_there done.exit_from (outwards n a.labels) exits
action_there s a around (return_with at None) known is exits clean = refl
action_there s a around (return_with at (Some e)) known is exits clean =
    let x = told_of_constants s.known e in
    map_there done.return_with (made_of_some (given_back s a) (Some e)) (map_there Some (given_back s a e) (result_there s a around at e known is clean.named.0 (none_single x (none_single (x ++ []) clean.modes)) clean.statements))
action_there s a around (result_of at e) known is exits clean =
    let x = told_of_constants s.known e in
    map_there done.set_result (given_back s a e) (result_there s a around at e known is clean.named.0 (none_single x (none_single (x ++ []) clean.modes)) clean.statements)
action_there s a around (assert_that at c) known is exits clean =
    let x = told_of_constants s.known c in
    map_there done.assert_that (expr_alone s c) (condition_there s c known clean.named.0 (none_single x (none_single (x ++ []) clean.modes)) clean.statements)
action_there s a around (cause at n) known is exits clean = map_there done.cause (exception_number s.own_exceptions n) clean.stands
action_there s a around (stop at) known is exits clean = refl
action_there s a around (start_of at n es) known is exits clean =
    started_there s n es known clean.stands (each_first (IsWellNamed s.known) es [] clean.named) (none_single (flat_map (told_of_constants s.known) es) clean.modes) clean.statements
action_there s a around (delay at n p) known is exits clean =
    let met = told_misfit s.known for_events n in
    let later = told_of_some_priority s.known p in
    made_there done.delay (event_used s n) (priority s p) ((known n).event clean.stands (none_single met (none_first (met ++ []) later clean.processes))) (priority_made s p known clean.named clean.modes (none_later (met ++ []) later clean.processes))
action_there s a around (continue_event at n) known is exits clean =
    let met = told_misfit s.known for_events n in
    map_there done.continue_at (event_used s n) ((known n).event clean.stands (none_single met (none_single (met ++ []) clean.processes)))
action_there s a around (send at n es to p) known is exits clean =
    let g = s.known in
    let parts = some_exprs es in
    let target_is = some_expr to in
    let named = each_first (IsWellNamed g) (parts ++ target_is) (some_expr p) clean.named in
    let constants = sym (flat_both (told_of_constants g) parts target_is) ∙ none_first (flat_map (told_of_constants g) (parts ++ target_is)) (told_some_needed g p) clean.modes in
    let part_constants = flat_map (told_of_constants g) parts in
    let target_constants = flat_map (told_of_constants g) target_is in
    let message = told_message g (message_parts g n) (args_in es) n.at in
    let to_whom = told_some_value g (of_mode (Some instance)) to in
    let urgent = told_some_value g nothing_asked p in
    let met = told_misfit g (purpose_of_send to) n in
    let inside = flat_map (told_met g) (parts ++ target_is) in
    let ranked = told_of_some_priority g p in
    let behind = none_first (message ++ to_whom) urgent clean.statements in
    let processes = none_first (met ++ inside) ranked clean.processes in
    let known_message = (known n).message clean.stands (sent_met g n to (none_first met inside processes)) in
    let to_is = receiver_there s to known (each_later (IsWellNamed g) parts target_is named) (none_later part_constants target_constants constants) (none_later message to_whom behind) in
    let sent_is = sent_there s n es to known known_message (each_first (IsWellNamed g) parts target_is named) (none_first part_constants target_constants constants) (none_first message to_whom behind) to_is in
    made_there done.send (sent s n es to) (priority s p) sent_is
    (priority_made s p known (each_later (IsWellNamed g) (parts ++ target_is) (some_expr p) clean.named) (none_later (flat_map (told_of_constants g) (parts ++ target_is)) (told_some_needed g p) clean.modes)
    (none_later (met ++ inside) ranked clean.processes))
