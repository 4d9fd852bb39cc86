-- Actions that hold no others: where nothing is told of them they leave the counters of their body as they are.
use Rattle.std.proofs.Common.{◌≡◌, ℕ, Bool, true, false, ◌&&◌, List, [], ◌∷◌, ◌++◌, length, Option, Some, None, refl, sym, ap, ◌∙◌, subst}
use Rattle.std.specs.Prelude.{if◌then◌else◌, is_some, option_map, option_and_then, map}
use Rattle.chill_tree.specs.declared.tree.name.Name.{Name}
use Rattle.chill_tree.specs.declared.tree.expr.Operator.{Operator}
use Rattle.chill_tree.specs.ExprTree.{ExprTree, ExprNodes, name, apply, expr_nodes, place_of}
use Rattle.chill_tree.specs.SimpleTree.{SimpleTree, assign, update, call_of, exit, return_with, result_of, assert_that, cause, stop, start_of, delay, continue_event, send}
use Rattle.modes.specs.ModeTree.{ModeTree, ClassTree, value, instance}
use Rattle.modes.specs.Bounds.{bounds_of}
use Rattle.diagnostics.specs.declared.rule.Rule.TheVariants as rules
use Rattle.program_trees.specs.ExprTree as made
use Rattle.program_trees.specs.StatementTree as done
use Rattle.checks_model.specs.Ground.{Predefined, put_int, put_text, put_nl, get_int, origin_of, message_parts}
use Rattle.checks_model.specs.Operations.{operands_misfit, is_measuring, arguments_of}
use Rattle.checks_model.specs.Classes.{class_of, Callee, calls, routine, no_callee, callee_named, count_exprs}
use Rattle.checks_model.specs.Told.{tell_at, told_if, is_none_told, then_told, holds_of_both}
use Rattle.checks_model.specs.ValueRules.{Receiver, nothing_asked, of_mode, condition, place, is_free, told_in_args, told_inside_each, told_value, told_some_value, told_number, receivers_of, each_receiver, receivers_behind, call_misfits}
use Rattle.checks_model.specs.ActionRules.{told_in_indices, cannot_be_written, told_target, target_mode, clean, told_in_routine, told_routine, told_message, args_in, Returning, not_allowed, result_receiver, told_simple}
use Rattle.table_laws.specs.Names.{names_in, names_in_each, names_in_some}
use Rattle.written_laws.specs.Written.{Each}
use Rattle.elaborated_laws.proofs.Told.{none_first, none_later, none_inside, none_then, not_broken, not_true, no_some, same_some, of_both, there_mapped, there_chained}
use Rattle.elaboration_model.specs.Numbering.{Source, Thing, a_buffer, a_message, thing_used, body_used, event_used}
use Rattle.elaboration_model.specs.Parts.{made_of, made_if, made_of_some}
use Rattle.elaboration_model.specs.Exceptions.{exception_number}
use Rattle.elaboration_model.specs.Expressions.{Target, target, target_of, expr_as, expr_alone, received_by, received_each, arguments, only_one, path, class_first, operator_between, routine_on, formals_by, modes_by}
use Rattle.elaboration_model.specs.Statements.{Around, outwards, priority, evaluated, routine_by, call_action, some_args, only_received, sent_by, receiver, parts_sent, sent, given_back, updated, action_of}
use Rattle.expression_laws.specs.Names.{AllNamesKnown}
use Rattle.expression_laws.proofs.Actions.{each_first, each_later}
use Rattle.expression_laws.proofs.Known.{callee_called}
use Rattle.expression_laws.proofs.Applied.{receiver_for, arguments_clean, procedure_receivers}
use Rattle.expression_laws.proofs.Places.{in_place, free_located}
use Rattle.head_laws.proofs.Rows.{made_parts}
use Rattle.code_laws.specs.Counters.{expr_leaves, received_leaves, all_leave, target_leaves, some_leaves, some_received_leaves, sent_leaves, action_leaves, action_keeps}
use Rattle.within_laws.specs.Within.{IsUsedWithin, names_of_simple}
use Rattle.well_made_laws.proofs.Free.{IsFree, ArgumentsFree, CallFree, FreeIn, EachFree, arguments_free, by_measuring, expr_free, args_free, inside_free, value_free}
use Rattle.well_made_laws.proofs.Expressions.{IsCounterOf, if_parts, received_as_leaves, target_apart, expr_leave, path_leave, arguments_leave_all, each_leave, only_leave}

module _ (s : Source) where
  abbrev pub SomeFree : Option ExprTree → Type 0
  SomeFree None = Unit {0}
  SomeFree (Some e) = FreeIn s e

  -- a location that can be written
  abbrev pub TargetFree : ExprTree → Type 0
  TargetFree e = IsFree s e × FreeIn s e

  abbrev CallStands : Callee → ExprNodes → Type 0
  CallStands (calls n) es = EachFree s es × ArgumentsFree s (formals_by s (origin_of s.known n)) es
  CallStands (routine p) es = EachFree s es
  CallStands no_callee es = Unit {0}

  -- in the expressions of an action what is set can be written
  abbrev pub ActionFree : SimpleTree → Type 0
  ActionFree (assign at t v) = TargetFree t × FreeIn s v
  ActionFree (update at t o p v) = TargetFree t × FreeIn s v
  ActionFree (call_of at word n es) = CallStands (callee_named s.known n) (expr_nodes es)
  ActionFree (exit at n) = Unit {0}
  ActionFree (return_with at v) = SomeFree v
  ActionFree (result_of at v) = FreeIn s v
  ActionFree (assert_that at c) = FreeIn s c
  ActionFree (cause at n) = Unit {0}
  ActionFree (stop at) = Unit {0}
  ActionFree (start_of at n es) = EachFree s (expr_nodes es)
  ActionFree (delay at n p) = Unit {0}
  ActionFree (continue_event at n) = Unit {0}
  ActionFree (send at n es to p) = EachFree s (args_in es) × SomeFree to

  -- ---- where nothing is told

  pub located_free : (e : ExprTree) → IsFree s e → AllNamesKnown s → told_in_indices s.known e ≡ [] → TargetFree e
  located_free e free known none = (free, expr_free s known nothing_asked e (sym (in_place s.known e (free_located s.known e free)).told ∙ none))

  module _ (known : AllNamesKnown s) where
    target_free : (e : ExprTree) → told_target s.known e ≡ [] → TargetFree e
    target_free e none =
        let indices = told_in_indices s.known e in
        let wrong = told_if (cannot_be_written (place s.known e)) (tell_at rules.S3 (place_of e)) in
        located_free e (not_true (is_free (place s.known e).access) (not_broken (cannot_be_written (place s.known e)) (tell_at rules.S3 (place_of e)) (none_then indices wrong none))) known (none_inside indices wrong none)

    pub some_free : (r : Receiver) (e : Option ExprTree) → told_some_value s.known r e ≡ [] → SomeFree e
    some_free r None none = tt
    some_free r (Some e) none = value_free s known r e none

    call_stands : (n : Name) (es : ExprNodes) (k : Callee) → callee_named s.known n ≡ k → told_routine s.known k es n.at ≡ [] → CallStands k es
    call_stands n es (calls m) is none =
        let args = told_in_args s.known (each_receiver (receivers_of s.known m) (count_exprs es)) es in
        let number = told_number n.at (count_exprs es) (length (receivers_of s.known m)) in
        let stands = (callee_called s.known (name n) m is).procedure in
        let first = none_first args number none in
        let clean = arguments_clean s.known receiver_for (formals_by s (origin_of s.known m)) (receivers_of s.known m) es n.at (procedure_receivers s m stands) first (none_later args number none) in
        (args_free s known (each_receiver (receivers_of s.known m) (count_exprs es)) es first, arguments_free s known (formals_by s (origin_of s.known m)) es (known m).formals clean.told)
    call_stands n es (routine p) is none =
        let rs = receivers_behind s.known (routine p) None (count_exprs es) in
        let behind = then_told (told_number n.at (count_exprs es) (arguments_of p)) (told_if (is_none_told (told_inside_each s.known es) && call_misfits s.known p es) (tell_at rules.S1 n.at)) in
        by_measuring s known (is_measuring p) (told_inside_each s.known es) (told_in_args s.known rs es) (EachFree s es) (inside_free s known es) (args_free s known rs es) (none_first (told_in_routine s.known p es) behind none)
    call_stands n es no_callee is none = tt

    message_free : (ms : Option (List (Option ModeTree))) (es : ExprNodes) (n : Name) → told_message s.known ms es n.at ≡ [] → EachFree s es
    message_free None es n none = args_free s known [] es none
    message_free (Some ms) es n none =
        let rs = map of_mode ms in
        args_free s known (each_receiver rs (count_exprs es)) es (none_first (told_in_args s.known (each_receiver rs (count_exprs es)) es) (told_number n.at (count_exprs es) (length rs)) none)

    pub action_free : (around : Returning) (act : SimpleTree) → told_simple s.known around act ≡ [] → ActionFree act
    action_free around (assign at t v) none =
        let first = told_target s.known t in
        let later = told_value s.known (of_mode (target_mode s.known t)) v in
        (target_free t (none_first first later none), value_free s known (of_mode (target_mode s.known t)) v (none_later first later none))
    action_free around (update at t o p v) none =
        let first = told_target s.known t in
        let later = told_value s.known nothing_asked v in
        let both = none_first (first ++ later) (told_if (holds_of_both (operands_misfit o) (option_map value (target_mode s.known t)) (clean s.known v)) (tell_at rules.S1 p)) none in
        (target_free t (none_first first later both), value_free s known nothing_asked v (none_later first later both))
    action_free around (call_of at word n es) none = call_stands n (expr_nodes es) (callee_named s.known n) refl none
    action_free around (exit at n) none = tt
    action_free around (return_with at v) none = some_free (result_receiver around) v (none_later (told_if (not_allowed around (is_some v)) (tell_at rules.S9 at)) (told_some_value s.known (result_receiver around) v) none)
    action_free around (result_of at v) none = value_free s known (result_receiver around) v (none_later (told_if (not_allowed around true) (tell_at rules.S9 at)) (told_value s.known (result_receiver around) v) none)
    action_free around (assert_that at c) none = value_free s known condition c none
    action_free around (cause at n) none = tt
    action_free around (stop at) none = tt
    action_free around (start_of at n es) none =
        let rs = receivers_of s.known n in
        args_free s known (each_receiver rs (count_exprs (expr_nodes es))) (expr_nodes es) (none_first (told_in_args s.known (each_receiver rs (count_exprs (expr_nodes es))) (expr_nodes es)) (told_number n.at (count_exprs (expr_nodes es)) (length rs)) none)
    action_free around (delay at n p) none = tt
    action_free around (continue_event at n) none = tt
    action_free around (send at n es to p) none =
        let first = told_message s.known (message_parts s.known n) (args_in es) n.at in
        let second = told_some_value s.known (of_mode (Some instance)) to in
        let both = none_first (first ++ second) (told_some_value s.known nothing_asked p) none in
        (message_free (message_parts s.known n) (args_in es) n (none_first first second both), some_free (of_mode (Some instance)) to (none_later first second both))

  -- ---- what they are elaborated to

  -- an action that holds no others, and no declaration of locals without a value
  abbrev pub IsSimple : done.ActionTree → Type 0
  IsSimple (done.set_lowest ks xs) = ⊥
  IsSimple (done.module_at ss) = ⊥
  IsSimple (done.region_at r ss) = ⊥
  IsSimple (done.if_then cs ss) = ⊥
  IsSimple (done.case_of e cs o) = ⊥
  IsSimple (done.do_loop c ss) = ⊥
  IsSimple (done.begin_end ss) = ⊥
  IsSimple (done.delay_case set p ds) = ⊥
  IsSimple (done.receive_buffers set rs o) = ⊥
  IsSimple (done.receive_signals set rs o) = ⊥
  IsSimple a = Unit {0}

  pub simple_keeps : (z : done.ActionTree) → IsSimple z → action_keeps z ≡ true
  simple_keeps (done.set_lowest ks xs) is = absurd is
  simple_keeps (done.module_at ss) is = absurd is
  simple_keeps (done.region_at r ss) is = absurd is
  simple_keeps (done.if_then cs ss) is = absurd is
  simple_keeps (done.case_of e cs o) is = absurd is
  simple_keeps (done.do_loop c ss) is = absurd is
  simple_keeps (done.begin_end ss) is = absurd is
  simple_keeps (done.delay_case set p ds) is = absurd is
  simple_keeps (done.receive_buffers set rs o) is = absurd is
  simple_keeps (done.receive_signals set rs o) is = absurd is
  simple_keeps z is = refl

  mapped_plain : {A : Type 0} (f : A → done.ActionTree) (x : Option A) (z : done.ActionTree) → ((y : A) → IsSimple (f y)) → option_map f x ≡ Some z → IsSimple z
  mapped_plain f x z ok is = let there = there_mapped f x z is in subst IsSimple there.2 (ok there.0)

  made_plain : {A B : Type 0} (f : A → B → done.ActionTree) (x : Option A) (y : Option B) (z : done.ActionTree) → ((v : A) (w : B) → IsSimple (f v w)) → made_of f x y ≡ Some z → IsSimple z
  made_plain f x y z ok is = let m = made_parts f x y z is in subst IsSimple m.whole (ok m.first m.later)

  given_plain : (x z : done.ActionTree) → Some x ≡ Some z → IsSimple x → IsSimple z
  given_plain x z is ok = subst IsSimple (same_some x z is) ok

  updated_plain : (o : Operator) (t : Option Target) (v : Option made.ExprTree) (c : Option ClassTree) (z : done.ActionTree) → updated o t v c ≡ Some z → IsSimple z
  updated_plain o (Some t) (Some v) (Some c) z is = mapped_plain (λ op. done.update t.0 op v (bounds_of t.1)) (operator_between o (value t.1) c) z (λ op. tt) is
  updated_plain o (Some t) (Some v) None z is = no_some z is
  updated_plain o (Some t) None c z is = no_some z is
  updated_plain o None v c z is = no_some z is

  evaluated_plain : (n : Name) (es : List ExprTree) (z : done.ActionTree) → evaluated s n es ≡ Some z → IsSimple z
  evaluated_plain n es z is = mapped_plain done.evaluate (expr_alone s (apply n.at (name n) (expr_nodes es))) z (λ e. tt) is

  dropped_plain : (p : Predefined) (n : Name) (es : List ExprTree) (z : done.ActionTree) → (b : Bool) → (if b then evaluated s n es else made_of done.drop_routine (option_and_then (routine_on p) (class_first s (expr_nodes es))) (only_one s None (expr_nodes es))) ≡ Some z → IsSimple z
  dropped_plain p n es z true is = evaluated_plain n es z is
  dropped_plain p n es z false is = made_plain done.drop_routine (option_and_then (routine_on p) (class_first s (expr_nodes es))) (only_one s None (expr_nodes es)) z (λ r e. tt) is

  routine_plain : (p : Predefined) (n : Name) (es : List ExprTree) (z : done.ActionTree) → routine_by s p n es ≡ Some z → IsSimple z
  routine_plain get_int n es z is = evaluated_plain n es z is
  routine_plain put_int n es z is = mapped_plain done.put_int (only_one s None (expr_nodes es)) z (λ e. tt) is
  routine_plain put_text n es z is = mapped_plain done.put_text (only_one s None (expr_nodes es)) z (λ e. tt) is
  routine_plain put_nl n es z is = given_plain done.put_line z is tt
  routine_plain p n es z is = dropped_plain p n es z (is_measuring p) is

  call_plain : (k : Callee) (n : Name) (es : List ExprTree) (z : done.ActionTree) → call_action s k n es ≡ Some z → IsSimple z
  call_plain (calls m) n es z is = made_plain (λ b as'. done.perform (made.called b as')) (body_used s n) (arguments s (formals_by s (origin_of s.known n)) (expr_nodes es)) z (λ b as'. tt) is
  call_plain (routine p) n es z is = routine_plain p n es z is
  call_plain no_callee n es z is = no_some z is

  pub action_plain : (a : Around) (act : SimpleTree) (z : done.ActionTree) → action_of s a act ≡ Some z → IsSimple z
  action_plain a (assign at t v) z is = let there = there_chained (λ (t : Target). option_map (done.assign t.0) (received_by s (Some t.1) v)) (target s t) z is in mapped_plain (done.assign there.0.0) (received_by s (Some there.0.1) v) z (λ r. tt) there.2
  action_plain a (update at t o p v) z is = updated_plain o (target s t) (expr_alone s v) (class_of s.known v) z is
  action_plain a (call_of at word n es) z is = call_plain (callee_named s.known n) n es z is
  action_plain a (exit at n) z is = mapped_plain done.exit_from (outwards n a.labels) z (λ k. tt) is
  action_plain a (return_with at v) z is = mapped_plain done.return_with (made_of_some (given_back s a) v) z (λ r. tt) is
  action_plain a (result_of at v) z is = mapped_plain done.set_result (given_back s a v) z (λ r. tt) is
  action_plain a (assert_that at c) z is = mapped_plain done.assert_that (expr_alone s c) z (λ e. tt) is
  action_plain a (cause at n) z is = mapped_plain done.cause (exception_number s.own_exceptions n) z (λ k. tt) is
  action_plain a (stop at) z is = given_plain done.stop z is tt
  action_plain a (start_of at n es) z is = made_plain (λ b rs. done.start_of (made.started b rs)) (body_used s n) (received_each s (modes_by s (origin_of s.known n)) (expr_nodes es)) z (λ b rs. tt) is
  action_plain a (delay at n p) z is = made_plain done.delay (event_used s n) (priority s p) z (λ e p. tt) is
  action_plain a (continue_event at n) z is = mapped_plain done.continue_at (event_used s n) z (λ e. tt) is
  action_plain a (send at n es to p) z is = made_plain done.send (sent s n es to) (priority s p) z (λ t p. tt) is

-- ---- what they leave

module _ (s : Source) (b k0 d0 : ℕ) (counter : IsCounterOf s b k0 d0) where
  abbrev Own : List Name → Type 0
  Own ns = Each (IsUsedWithin s b) ns

  abbrev Leaves : done.ActionTree → Type 0
  Leaves z = action_leaves k0 z ≡ true

  pub expr_left : (m : Option ModeTree) (e : ExprTree) (x : made.ExprTree) → FreeIn s e → Own (names_in e) → expr_as s m e ≡ Some x → expr_leaves k0 x ≡ true
  expr_left m e x free own is = expr_leave s b k0 d0 counter m e x free own is

  pub received_left : (m : Option ModeTree) (e : ExprTree) (r : made.ReceivedTree) → FreeIn s e → Own (names_in e) → received_by s m e ≡ Some r → received_leaves k0 r ≡ true
  received_left m e r free own is = received_as_leaves s b k0 d0 counter m (expr_as s m e) r (λ x at. expr_left m e x free own at) is

  pub target_left : (e : ExprTree) (t : Target) → TargetFree s e → Own (names_in e) → target s e ≡ Some t → target_leaves k0 t.0 ≡ true
  target_left e t free own is =
      let p = there_chained target_of (path s e) t is in
      target_apart s b k0 d0 counter e p.0 t own free.0 p.1 (path_leave s b k0 d0 counter e p.0 free.1 own p.1) p.2

  pub some_left : (m : Option ModeTree) (e : Option ExprTree) (y : Option made.ExprTree) → SomeFree s e → Own (names_in_some e) → made_of_some (expr_as s m) e ≡ Some y → some_leaves k0 y ≡ true
  some_left m None y free own is = subst (λ x. some_leaves k0 x ≡ true) (same_some None y is) refl
  some_left m (Some e) y free own is = let there = there_mapped Some (expr_as s m e) y is in subst (λ x. some_leaves k0 x ≡ true) there.2 (expr_left m e there.0 free own there.1)

  given_left : (m : Option ModeTree) (e : Option ExprTree) (y : Option made.ReceivedTree) → SomeFree s e → Own (names_in_some e) → made_of_some (received_by s m) e ≡ Some y → some_received_leaves k0 y ≡ true
  given_left m None y free own is = subst (λ x. some_received_leaves k0 x ≡ true) (same_some None y is) refl
  given_left m (Some e) y free own is = let there = there_mapped Some (received_by s m e) y is in subst (λ x. some_received_leaves k0 x ≡ true) there.2 (received_left m e there.0 free own there.1)

  updated_left : (o : Operator) (t : ExprTree) (v : ExprTree) (z : done.ActionTree) → TargetFree s t → FreeIn s v → Own (names_in t) → Own (names_in v) → updated o (target s t) (expr_alone s v) (class_of s.known v) ≡ Some z → Leaves z
  updated_left o t v z target_is free own own_value is =
      by (target s t) (expr_alone s v) (class_of s.known v) (λ y at. target_left t y target_is own at) (λ y at. expr_left None v y free own_value at) is
    where
      by : (t : Option Target) (v : Option made.ExprTree) (c : Option ClassTree) → ((y : Target) → t ≡ Some y → target_leaves k0 y.0 ≡ true) → ((y : made.ExprTree) → v ≡ Some y → expr_leaves k0 y ≡ true) → updated o t v c ≡ Some z → Leaves z
      by (Some t) (Some v) (Some c) one other is =
          let there = there_mapped (λ op. done.update t.0 op v (bounds_of t.1)) (operator_between o (value t.1) c) z is in
          subst Leaves there.2 (of_both (target_leaves k0 t.0) (expr_leaves k0 v) (one t refl) (other v refl))
      by (Some t) (Some v) None one other is = no_some z is
      by (Some t) None c one other is = no_some z is
      by None v c one other is = no_some z is

  -- ---- calls

  evaluated_left : (p : Predefined) (n : Name) (es : List ExprTree) (z : done.ActionTree) → callee_named s.known n ≡ routine p → EachFree s (expr_nodes es) → Own (n ∷ names_in_each (expr_nodes es)) → evaluated s n es ≡ Some z → Leaves z
  evaluated_left p n es z named free own is =
      let e = apply n.at (name n) (expr_nodes es) in
      let there = there_mapped done.evaluate (expr_alone s e) z is in
      subst Leaves there.2 (expr_left None e there.0 (tt, free, subst (λ k. CallFree s k (expr_nodes es)) (sym named) tt) own there.1)

  only_left : (f : made.ExprTree → done.ActionTree) (es : ExprNodes) (z : done.ActionTree) → ((e : made.ExprTree) → expr_leaves k0 e ≡ true → Leaves (f e)) → EachFree s es → Own (names_in_each es) → option_map f (only_one s None es) ≡ Some z → Leaves z
  only_left f es z step free own is = let there = there_mapped f (only_one s None es) z is in subst Leaves there.2 (step there.0 (only_leave s b k0 d0 counter None es there.0 free own there.1))

  dropped_left : (p : Predefined) (n : Name) (es : List ExprTree) (z : done.ActionTree) → callee_named s.known n ≡ routine p → EachFree s (expr_nodes es) → Own (n ∷ names_in_each (expr_nodes es))
      → (b : Bool) → (if b then evaluated s n es else made_of done.drop_routine (option_and_then (routine_on p) (class_first s (expr_nodes es))) (only_one s None (expr_nodes es))) ≡ Some z → Leaves z
  dropped_left p n es z named free own true is = evaluated_left p n es z named free own is
  dropped_left p n es z named free own false is =
      let m = made_parts done.drop_routine (option_and_then (routine_on p) (class_first s (expr_nodes es))) (only_one s None (expr_nodes es)) z is in
      subst Leaves m.whole (only_leave s b k0 d0 counter None (expr_nodes es) m.later free own.1 m.of_later)

  routine_left : (p : Predefined) (n : Name) (es : List ExprTree) (z : done.ActionTree) → callee_named s.known n ≡ routine p → EachFree s (expr_nodes es) → Own (n ∷ names_in_each (expr_nodes es)) → routine_by s p n es ≡ Some z → Leaves z
  routine_left get_int n es z named free own is = evaluated_left get_int n es z named free own is
  routine_left put_int n es z named free own is = only_left done.put_int (expr_nodes es) z (λ e inside. inside) free own.1 is
  routine_left put_text n es z named free own is = only_left done.put_text (expr_nodes es) z (λ e inside. inside) free own.1 is
  routine_left put_nl n es z named free own is = subst Leaves (same_some done.put_line z is) refl
  routine_left p n es z named free own is = dropped_left p n es z named free own (is_measuring p) is

  call_left : (k : Callee) (n : Name) (es : List ExprTree) (z : done.ActionTree) → callee_named s.known n ≡ k → CallStands s k (expr_nodes es) → Own (n ∷ names_in_each (expr_nodes es)) → call_action s k n es ≡ Some z → Leaves z
  call_left (calls m) n es z named stands own is =
      let fs = formals_by s (origin_of s.known n) in
      let made_by = made_parts (λ b as'. done.perform (made.called b as')) (body_used s n) (arguments s fs (expr_nodes es)) z is in
      let one = (callee_called s.known (name n) m named).is_name in
      let same : m ≡ n = cc in
      let args = subst (λ x. ArgumentsFree s (formals_by s (origin_of s.known x)) (expr_nodes es)) same stands.1 in
      subst Leaves made_by.whole (arguments_leave_all s b k0 d0 counter fs (expr_nodes es) made_by.later stands.0 args own.1 made_by.of_later)
  call_left (routine p) n es z named stands own is = routine_left p n es z named stands own is
  call_left no_callee n es z named stands own is = no_some z is

  -- ---- SEND

  only_received_left : (rs : made.ReceivedNodes) (r : made.ReceivedTree) → all_leave k0 rs ≡ true → only_received rs ≡ Some r → received_leaves k0 r ≡ true
  only_received_left (made.more_received x made.no_received) r all is = subst (λ y. received_leaves k0 y ≡ true) (same_some x r is) (both_first (received_leaves k0 x) all)
    where
      both_first : (a : Bool) → (a && true) ≡ true → a ≡ true
      both_first true is = refl
      both_first false is = is
  only_received_left (made.more_received x (made.more_received y ys)) r all is = no_some r is
  only_received_left made.no_received r all is = no_some r is

  sent_left : (th : Thing) (rs : made.ReceivedNodes) (to : Option made.ExprTree) (t : done.SentTree) → all_leave k0 rs ≡ true → some_leaves k0 to ≡ true → sent_by th rs to ≡ Some t → sent_leaves k0 t ≡ true
  sent_left (a_buffer k) rs to t all some is = let there = there_mapped (done.to_buffer k) (only_received rs) t is in subst (λ y. sent_leaves k0 y ≡ true) there.2 (only_received_left rs there.0 all there.1)
  sent_left (a_message k) rs to t all some is = subst (λ y. sent_leaves k0 y ≡ true) (same_some (done.signal k rs to) t is) (of_both (all_leave k0 rs) (some_leaves k0 to) all some)
  sent_left th rs to t all some is = no_some t is

  same_args : (es : Option (List ExprTree)) → some_args es ≡ args_in es
  same_args None = refl
  same_args (Some es) = refl

  send_left : (n : Name) (es : Option (List ExprTree)) (to p : Option ExprTree) (z : done.ActionTree) → EachFree s (args_in es) → SomeFree s to → Own (names_in_each (args_in es)) → Own (names_in_some to) → made_of done.send (sent s n es to) (priority s p) ≡ Some z → Leaves z
  send_left n es to p z free free_to own own_to is =
      let m = made_parts done.send (sent s n es to) (priority s p) z is in
      let f = there_chained (λ (f : made.ReceivedNodes → Option made.ExprTree → Option done.SentTree). made_if f (parts_sent s n (some_args es)) (receiver s to)) (option_map sent_by (thing_used s n)) m.first m.of_first in
      let th = there_mapped sent_by (thing_used s n) f.0 f.1 in
      let parts = if_parts f.0 (parts_sent s n (some_args es)) (receiver s to) m.first f.2 in
      let ms = there_chained (λ ms. received_each s ms (some_args es)) (message_parts s.known n) parts.first parts.of_first in
      let all = each_leave s b k0 d0 counter ms.0 (some_args es) parts.first (subst (EachFree s) (sym (same_args es)) free) (subst (λ xs. Own (names_in_each xs)) (sym (same_args es)) own) ms.2 in
      let some = some_left (Some instance) to parts.second free_to own_to parts.of_second in
      subst Leaves m.whole (sent_left th.0 parts.first parts.second m.first all some (ap (λ (g : made.ReceivedNodes → Option made.ExprTree → Option done.SentTree). g parts.first parts.second) th.2 ∙ parts.whole))

  pub action_left : (a : Around) (act : SimpleTree) (z : done.ActionTree) → ActionFree s act → Own (names_of_simple act) → action_of s a act ≡ Some z → Leaves z
  action_left a (assign at t v) z free own is =
      let there = there_chained (λ (t : Target). option_map (done.assign t.0) (received_by s (Some t.1) v)) (target s t) z is in
      let last = there_mapped (done.assign there.0.0) (received_by s (Some there.0.1) v) z there.2 in
      let one = target_left t there.0 free.0 (each_first (IsUsedWithin s b) (names_in t) (names_in v) own) there.1 in
      let other = received_left (Some there.0.1) v last.0 free.1 (each_later (IsUsedWithin s b) (names_in t) (names_in v) own) last.1 in
      subst Leaves last.2 (of_both (target_leaves k0 there.0.0) (received_leaves k0 last.0) one other)
  action_left a (update at t o p v) z free own is = updated_left o t v z free.0 free.1 (each_first (IsUsedWithin s b) (names_in t) (names_in v) own) (each_later (IsUsedWithin s b) (names_in t) (names_in v) own) is
  action_left a (call_of at word n es) z free own is = call_left (callee_named s.known n) n es z refl free own is
  action_left a (exit at n) z free own is = let there = there_mapped done.exit_from (outwards n a.labels) z is in subst Leaves there.2 refl
  action_left a (return_with at v) z free own is = let there = there_mapped done.return_with (made_of_some (given_back s a) v) z is in subst Leaves there.2 (given_left a.result v there.0 free own there.1)
  action_left a (result_of at v) z free own is = let there = there_mapped done.set_result (given_back s a v) z is in subst Leaves there.2 (received_left a.result v there.0 free own there.1)
  action_left a (assert_that at c) z free own is = let there = there_mapped done.assert_that (expr_alone s c) z is in subst Leaves there.2 (expr_left None c there.0 free own there.1)
  action_left a (cause at n) z free own is = let there = there_mapped done.cause (exception_number s.own_exceptions n) z is in subst Leaves there.2 refl
  action_left a (stop at) z free own is = subst Leaves (same_some done.stop z is) refl
  action_left a (start_of at n es) z free own is =
      let ms = modes_by s (origin_of s.known n) in
      let m = made_parts (λ b rs. done.start_of (made.started b rs)) (body_used s n) (received_each s ms (expr_nodes es)) z is in
      subst Leaves m.whole (each_leave s b k0 d0 counter ms (expr_nodes es) m.later free own.1 m.of_later)
  action_left a (delay at n p) z free own is = let m = made_parts done.delay (event_used s n) (priority s p) z is in subst Leaves m.whole refl
  action_left a (continue_event at n) z free own is = let there = there_mapped done.continue_at (event_used s n) z is in subst Leaves there.2 refl
  action_left a (send at n es to p) z free own is =
      let args = names_in_each (args_in es) in
      let front = args ++ names_in_some to in
      let both = each_first (IsUsedWithin s b) front (names_in_some p) own.1 in
      send_left n es to p z free.0 free.1 (each_first (IsUsedWithin s b) args (names_in_some to) both) (each_later (IsUsedWithin s b) args (names_in_some to) both) is
