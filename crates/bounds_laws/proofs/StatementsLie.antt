-- Each value along a statement lies in its own bounds.
use Rattle.std.proofs.Common.{◌≡◌, ℕ, zero, suc, ◌<◌, Bool, true, false, List, [], length, Option, Some, None, refl, sym, ap, ◌∙◌, subst, arith}
use Rattle.std.specs.Prelude.{ℤ, pos, ◌≤ℤ◌, int_le, IsTrue, IfSome, All, if◌then◌else◌}
use Rattle.std.specs.List.{flat_map}
use Rattle.kernel_base.specs.declared.ends.Exc.{Exc}
use Rattle.kernel_base.specs.declared.ends.Exc.TheVariants.{Rangefail}
use Rattle.kernel_base.specs.declared.request.Request.{Request}
use Rattle.kernel_base.specs.declared.request.Request.TheVariants.{Enter, Delay, SendBuffer, ReceiveBuffer, ReceiveSignal, Put}
use Rattle.kernel_base.specs.declared.answer.Answer.TheVariants.{Got}
use Rattle.modes.specs.declared.mode.Bounds.{Bounds}
use Rattle.modes.specs.ModeTree.{ModeTree}
use Rattle.modes.specs.Bounds.{bounds_of, values_of}
use Rattle.modes.specs.Scalars.{numbers_of}
use Rattle.modes.specs.Form.{form_of}
use Rattle.modes.specs.Similar.{shape_of}
use Rattle.modes.specs.Language.{parts_fit, IsOfLanguage}
use Rattle.checked_program.specs.declared.program.Sort.{Sort}
use Rattle.program_trees.specs.ExprTree.{ExprTree, expr, ReceivedTree, LocationTree, location}
use Rattle.program_trees.specs.StatementTree.{SentTree, to_buffer, signal, ControlTree, while_true, for_ever, for_members, for_steps, StatementTree, statement, ActionTree, do_nothing, declare, set_lowest, module_at, region_at, assign, update, perform, drop_routine, evaluate, put_int, put_text, put_line, exit_from, return_with, set_result, assert_that, cause, stop, start_of, delay, continue_at, send, if_then, case_of, do_loop, begin_end, delay_case, receive_buffers, receive_signals, StatementNodes, no_statements, more_statements, ChoiceNodes, no_choices, more_choices, CaseNodes, no_cases, more_cases, DelayNodes, no_delays, more_delays, ReceiveNodes, no_receives, more_receives, OtherwiseNode, no_otherwise, otherwise, HandledNodes, no_handled, more_handled, HandlerNode, no_handler, handler}
use Rattle.program_trees.specs.ProgramTree.{SignalRowTree}
use Rattle.world_model.specs.Session.{Session}
use Rattle.world_model.specs.Lists.{number_for}
use Rattle.scalar_operators.specs.Numbers.{decimal_text, is_int, where_true}
use Rattle.scalar_operators.specs.Powersets.{first_of_list}
use Rattle.scalar_operators.specs.Members.{offsets_of}
use Rattle.code_types.specs.Operands.{number_in as number_of_32, bytes_of}
use Rattle.code_types.specs.Places.{names_exception}
use Rattle.source_meaning.specs.Store.{Store, Address, with_local}
use Rattle.source_meaning.specs.Flow.{Goes, Raised, Meaning}
use Rattle.source_meaning.specs.Operators.{sole_number, one, is_true, member_at, without_offset, routine_value, binary_value, takes_second}
use Rattle.source_meaning.specs.ExprMeaning.{Setting}
use Rattle.source_meaning.specs.StatementMeaning.{skip, no_state, set_address, sent_signal, sent_mean, return_mean, holds_one, delay_pairs, receive_list, receive_counts, is_written, Come, comes_to, nothing_came, woken_as, where_holds, next_member, passes_end, next_value, next_step, turns, bound_mean, step_mean, loop_mean, is_label, is_open, opened, behind_wait, delay_with, receive_with, statement_mean, handler_mean, alternatives_mean, otherwise_mean, statements_mean, action_mean, choices_mean, cases_mean, delay_mean, receive_mean}
use Rattle.source_meaning.specs.Values.{Domain, member_domains, domains_of, AreWithin, IsValueOf}
use Rattle.source_meaning.specs.Fitting.{thing_of, FitsAnswer}
use Rattle.source_meaning.specs.TypedValues.{HasMode}
use Rattle.source_meaning.specs.TypedStatements.{Around, Brings, BufferBrings, SignalHas, IsSomeCondition, IsReceiver, TakesInstance, LocalHas, IsStepped, IsTypedSend, IsTypedControl, IsTypedReturn, IsTypedStatement, AreTyped, IsTypedHandler, AreTypedAlternatives, IsTypedOtherwise, IsTypedAction, AreTypedChoices, AreTypedCases, AreTypedDelays, AreTypedReceives}
use Rattle.source_meaning.specs.Typed.{IsForProcess}
use Rattle.text_laws.specs.Requests.{FitsText}
use Rattle.text_laws.proofs.SoundFacts.{all_at}
use Rattle.text_laws.proofs.Operations.{number_value, set_domains, member_by}
use Rattle.text_laws.proofs.Powersets.{offsets_below, first_below}
use Rattle.text_laws.proofs.Taking.{shape_bounds, number_in_root}
use Rattle.text_laws.proofs.Stores.{StoreFits, with_local_fits}
use Rattle.text_laws.proofs.Stages.{Whole, Fits, Here, Comes, Any, Answers, no_got, asks, does}
use Rattle.text_laws.proofs.ExprAsks.{context_in, AddressFits, ModesFit, computes, reads, expr_asks, all_received_asks, location_asks}
use Rattle.text_laws.proofs.StatementAsks.{around_at, around_as, handler_as, modes_fit, AlternativesTyped, alternatives_typed, SetFits, ComeFits, woken_fits, delays_name, receives_name, received_tells, set_asks, address_asks, takes_in, receive_fills, where_asks, bound_asks, step_asks, member_asks, Counts, counted_value, step_on, bound_in, counts_first, buffer_below, signal_below, buffer_gives, signal_gives, statement_asks, statements_ask, action_asks}
use Rattle.text_laws.proofs.Growing.{in_store, same_goes, same_raises, same_returns, then_grows, if_grows, asked_grows, done_grows, caught_grows, leave_grows, same_turns}
use Rattle.text_laws.proofs.GrowingExpressions.{computed_grows, rangefail_grows, tested_grows, read_grows, assign_grows, binary_grows, expr_grows, received_grows}
use Rattle.text_laws.proofs.GrowingStatements.{names_grow, put_grows, send_to_grows, signal_grows, taken_in_grows, holds_grows, member_grows, step_grows, bound_grows, step_bound_grows, behind_grows, statements_grow, handler_grows, choices_grow, cases_grow, otherwise_grows, delays_grow, receives_grow}
use Rattle.code_laws.specs.StatementBounds.{Along, OpenCallsWithin, some_value_within, value_within, some_taken_within, some_place_within, sent_within, next_member_within, next_step_within, loop_within, nothing_within, behind_wait_within, delay_case_within, receive_case_within, statement_within, handler_within, alternatives_within, otherwise_within, statements_within, action_within, choices_within, cases_within, delays_within, receives_within}
use Rattle.bounds_laws.proofs.Outcomes.{IsOver, KeepsTold, and_holds, either_lies, first_over, where_through, joins, with_handler, before_label, before_leave, turns_hold}
use Rattle.bounds_laws.proofs.OwnValues.{mode_lies}
use Rattle.bounds_laws.proofs.ExprLies.{Lies, sides, expr_lies, received_lies, all_lie, location_lies, start_lies, call_lies}

-- along a part from each store on
abbrev pub LiesAlong : Whole → (Store → Type 0) → Meaning (Unit {0}) → Along → Type 0
LiesAlong g S part along = (store : Store) (s : Session) → Here g S store s → IsOver g (part store s) → along store s ≡ true

-- the actions of a loop
pub record LoopActions (g : Whole) (S : Store → Type 0) (body : Meaning (Unit {0})) (along : Along) : Type 0 where
  pub acts : (store : Store) (s : Session) → Here g S store s → Comes g S s Any (body store s)
  pub acted : LiesAlong g S body along
  pub stays : KeepsTold body

module _ (g : Whole) (result : Option ModeTree) (sort : Sort) (mode : IfSome result (λ m. IsTrue (parts_fit m))) (w : Setting) (region : Option ℕ) (c : OpenCallsWithin) (lies : Lies g w result c) where
  -- ---- waits

  set_place_lies : (o : Option LocationTree) (store : Store) (s : Session) → Here g (StoreFits w.rows result) store s → TakesInstance (context_in g w region) o → IsOver g (set_address w o store s) → some_place_within w c o store s ≡ true
  set_place_lies None store s h t f = refl
  set_place_lies (Some l) store s h t f = location_lies g w result region c lies l t.0 store s h t.1 (first_over (λ a. same_goes) f)

  wait_lies : (o : Option Address) (alternative : ℕ → Meaning (Unit {0})) (alongs : ℕ → Along) (none : Meaning (Unit {0})) (along : Along) (come : Come) (store : Store) (s : Session) → Here g (StoreFits w.rows result) store s → (Fits g s → SetFits (context_in g w region) o) → (Fits g s → ComeFits come) → ((k : ℕ) → KeepsTold (alternative k)) → ((k : ℕ) → LiesAlong g (StoreFits w.rows result) (alternative k) (alongs k)) → LiesAlong g (StoreFits w.rows result) none along → IsOver g (behind_wait o alternative none come store s) → behind_wait_within o alongs along come store s ≡ true
  wait_lies o alternative alongs none along (comes_to k by) store s h t v keep a n f =
      where_through g (StoreFits w.rows result) Any (set_asks g result sort mode w region lies.stands o by store s h t v) (λ u. keep k) f (λ u store1 s1 h1 b f1 q f2. a k store1 s1 h1 f2)
  wait_lies o alternative alongs none along nothing_came store s h t v keep a n f = n store s h f

  delay_lies : (n : ℕ) (set : Option LocationTree) (priority : ℕ) (ds : DelayNodes) (alternative : ℕ → Meaning (Unit {0})) (alongs : ℕ → Along) (store : Store) (s : Session) → Here g (StoreFits w.rows result) store s → TakesInstance (context_in g w region) set → AreTypedDelays (around_at g w region sort result n) ds → ((k : ℕ) → KeepsTold (alternative k)) → ((k : ℕ) → LiesAlong g (StoreFits w.rows result) (alternative k) (alongs k)) → IsOver g (delay_with w set priority ds alternative store s) → delay_case_within w c set priority ds alongs store s ≡ true
  delay_lies n set priority ds alternative alongs store s h t d keep a f =
      joins g (StoreFits w.rows result) (SetFits (context_in g w region)) (address_asks g result sort mode w region lies.stands set store s h t)
      (λ o. then_grows (asked_grows (Delay (delay_pairs 0 ds) priority) []) (λ answer. behind_grows o (woken_as answer) keep same_goes)) f
      (λ f1. set_place_lies set store s h t f1)
      (λ o store1 s1 h1 b1 f1 q f2.
      where_through g (StoreFits w.rows result) (Answers g (Delay (delay_pairs 0 ds) priority))
      (asks g (StoreFits w.rows result) (Delay (delay_pairs 0 ds) priority) [] store1 s1 h1 (λ f3. delays_name (around_at g w region sort result n) 0 ds d) (no_got g (Delay (delay_pairs 0 ds) priority) [] tt))
      (λ answer. behind_grows o (woken_as answer) keep same_goes) f2
      (λ answer store2 s2 h2 b2 f3 r f4.
      wait_lies o alternative alongs skip nothing_within (woken_as answer) store2 s2 h2 (λ f5. q) (λ f5. woken_fits g (Delay (delay_pairs 0 ds) priority) answer r) keep a (λ store3 s3 h3 f5. refl) f4))

  receive_lies : (n : ℕ) (request : Request) (brings : Brings) (set : Option LocationTree) (rs : ReceiveNodes) (alternative : ℕ → Meaning (Unit {0})) (alongs : ℕ → Along) (none : Meaning (Unit {0})) (along : Along) (store : Store) (s : Session) → Here g (StoreFits w.rows result) store s → TakesInstance (context_in g w region) set → AreTypedReceives (around_at g w region sort result n) brings rs → FitsText g.program request → ((number sent by : ℕ) (xs : List ℤ) → FitsAnswer g.program request (Got number sent xs by) → (thing : ℕ) × (number_for (receive_list 0 rs) thing ≡ Some number) × ((ms : List ModeTree) → brings thing ms → thing_of (receive_list 0 rs) number ≡ thing → AreWithin (flat_map domains_of ms) xs)) → ((k : ℕ) → KeepsTold (alternative k)) → KeepsTold none → ((k : ℕ) → LiesAlong g (StoreFits w.rows result) (alternative k) (alongs k)) → LiesAlong g (StoreFits w.rows result) none along → IsOver g (receive_with w request set rs alternative none store s) → receive_case_within w c request set rs alongs along store s ≡ true
  receive_lies n request brings set rs alternative alongs none along store s h t d fit b keep keep_none a e f =
      joins g (StoreFits w.rows result) (SetFits (context_in g w region)) (address_asks g result sort mode w region lies.stands set store s h t)
      (λ o. then_grows (asked_grows request (receive_counts w.rows rs)) (λ answer. then_grows (taken_in_grows w.rows rs answer) (λ come. behind_grows o come keep keep_none))) f
      (λ f1. set_place_lies set store s h t f1)
      (λ o store1 s1 h1 b1 f1 q f2.
      where_through g (StoreFits w.rows result) (Answers g request)
      (asks g (StoreFits w.rows result) request (receive_counts w.rows rs) store1 s1 h1 (λ f3. fit) (receive_fills g result sort mode w region lies.stands n request brings rs d b))
      (λ answer. then_grows (taken_in_grows w.rows rs answer) (λ come. behind_grows o come keep keep_none)) f2
      (λ answer store2 s2 h2 b2 f3 r f4.
      where_through g (StoreFits w.rows result) ComeFits (takes_in g result sort mode w region lies.stands n request brings rs answer store2 s2 h2 d (λ f5. r) b) (λ come. behind_grows o come keep keep_none) f4
      (λ come store3 s3 h3 b3 f5 u f6. wait_lies o alternative alongs none along come store3 s3 h3 (λ f7. q) (λ f7. u) keep a e f6)))

  -- ---- loops

  holds_lies : {C : Type 0} (o : Option ExprTree) (v : C) (store : Store) (s : Session) → Here g (StoreFits w.rows result) store s → IsSomeCondition (context_in g w region) o → IsOver g (where_holds w o v store s) → some_value_within w c o store s ≡ true
  holds_lies None v store s h t f = refl
  holds_lies (Some e) v store s h t f = expr_lies g w result region c lies e t.0 store s h t.1 (first_over (λ xs. same_goes) f)

  bound_lies : (e : ExprTree) (m : ModeTree) (store : Store) (s : Session) → Here g (StoreFits w.rows result) store s → HasMode (context_in g w region) e m → IsOver g (bound_mean w e store s) → value_within w c e store s ≡ true
  bound_lies e m store s h t f = expr_lies g w result region c lies e m store s h t (first_over (λ xs. rangefail_grows (where_true (is_int (sole_number xs)) (sole_number xs))) f)

  step_lies : (o : Option ExprTree) (form : _) (store : Store) (s : Session) → Here g (StoreFits w.rows result) store s → IsStepped (context_in g w region) o form → IsOver g (step_mean w o store s) → some_value_within w c o store s ≡ true
  step_lies None form store s h t f = refl
  step_lies (Some e) form store s h t f = bound_lies e t.0.0 store s h t.0.1 (first_over (λ z. rangefail_grows (where_true (int_le (pos 1) z) z)) f)

  member_lies : (counter : ℕ) (low : ℤ) (condition : Option ExprTree) (own : ModeTree) (b : Bounds) (set : List ℤ) (store : Store) (s : Session) → Here g (StoreFits w.rows result) store s → bounds_of own ≡ Some b → b.low ≡ low → LocalHas (context_in g w region) own counter → IsSomeCondition (context_in g w region) condition → (Fits g s → AreWithin (member_domains (values_of own) 0 (numbers_of (values_of own))) set) → (o : Option ℕ) → first_of_list (offsets_of set) ≡ o → IsOver g (next_member w counter low condition set o store s) → next_member_within w c counter low condition o store s ≡ true
  member_lies counter low condition own b set store s h bounds at local t v None e f = refl
  member_lies counter low condition own b set store s h bounds at local t v (Some k) e f =
      where_through g (StoreFits w.rows result) (IsValueOf own)
      (computes g w result region lies.stands own (member_at low (Some k)) store s h (λ f1. record {
        by = member_by own b low (Some k) bounds at (λ j q.
            let same : k ≡ j = cc in
            let below : k < values_of own = first_below (values_of own) (offsets_of set) k (offsets_below (values_of own) 0 (numbers_of (values_of own)) set (v f1)) e in
            omega (arith, same, below));
      }))
      (λ xs. in_counter xs) f
      (λ xs store1 s1 h1 b1 f1 q f2.
      holds_lies condition (without_offset k set) (with_local store1 counter xs) s1
      (record { stage = h1.stage; holds = λ f3. with_local_fits w.rows result store1 counter local.0 xs (h1.holds f3) local.1 (subst (λ (x : ModeTree). IsValueOf x xs) (sym local.2) q) })
      t f2)
    where
      in_counter : (xs : List ℤ) → KeepsTold (λ store1 s1. where_holds w condition (without_offset k set) (with_local store1 counter xs) s1)
      in_counter xs = in_store (λ store1. with_local store1 counter xs) (holds_grows (sides w lies.keeps 0) condition (without_offset k set))

  next_lies : (counter : ℕ) (down : Bool) (by end : ℤ) (condition : Option ExprTree) (m : ModeTree) (b : Bounds) (value : ℤ) (store : Store) (s : Session) → Here g (StoreFits w.rows result) store s → bounds_of m ≡ Some b → LocalHas (context_in g w region) m counter → IsSomeCondition (context_in g w region) condition → (Fits g s → Counts g result sort mode down b value × (pos 1 ≤ℤ by) × (b.low ≤ℤ end) × (end ≤ℤ b.high)) → IsOver g (next_step w counter down by end condition value store s) → next_step_within w c counter down end condition value store s ≡ true
  next_lies counter down by end condition m b value store s h bounds local t v f = next_by (passes_end down value end) refl f
    where
      next_by : (p : Bool) → passes_end down value end ≡ p → IsOver g (if p then Goes None store s else where_holds w condition (next_value down value by) (with_local store counter (one value)) s) → (if p then true else some_value_within w c condition (with_local store counter (one value)) s) ≡ true
      next_by true e f1 = refl
      next_by false e f1 =
          holds_lies condition (next_value down value by) (with_local store counter (one value)) s
          (record {
            stage = h.stage;
            holds = λ f2.
                let u = v f2 in
                let l = counted_value g result sort mode down b value end u.0 (u.2, u.3) e in
                with_local_fits w.rows result store counter local.0 (one value) (h.holds f2) local.1 (subst (λ (x : ModeTree). IsValueOf x (one value)) (sym local.2) (number_value m b value bounds l.0 l.1));
          })
          t f1

  loop_lies : (n : ℕ) (control : ControlTree) (body : Meaning (Unit {0})) (along : Along) (store : Store) (s : Session) → Here g (StoreFits w.rows result) store s → IsTypedControl (context_in g w region) control → LoopActions g (StoreFits w.rows result) body along → IsOver g (loop_mean w n control body store s) → loop_within w c n control body along store s ≡ true
  loop_lies n (while_true e) body along store s h t a f =
      turns_hold g (StoreFits w.rows result) Any n (where_holds w (Some e)) (λ z. value_within w c e) body along
      (record {
        comes = λ v store1 s1 h1 i. where_asks g result sort mode Any w region lies.stands (Some e) v store1 s1 h1 t i;
        tested = λ v store1 s1 h1 i f1. holds_lies (Some e) v store1 s1 h1 t f1;
        keeps = λ v. holds_grows (sides w lies.keeps n) (Some e) v;
        acts = a.acts;
        acted = a.acted;
        stays = a.stays;
      })
      no_state store s h (λ f1. tt) f
  loop_lies n for_ever body along store s h t a f =
      turns_hold g (StoreFits w.rows result) Any n (where_holds w None) (λ z store1 s1. true) body along
      (record {
        comes = λ v store1 s1 h1 i. where_asks g result sort mode Any w region lies.stands None v store1 s1 h1 tt i;
        tested = λ v store1 s1 h1 i f1. refl;
        keeps = λ v. holds_grows (sides w lies.keeps n) None v;
        acts = a.acts;
        acted = a.acted;
        stays = a.stays;
      })
      no_state store s h (λ f1. tt) f
  loop_lies n (for_members counter (expr j root_j o) low condition) body along store s h t a f =
      let m : ModeTree = t.0.0 in
      let own : ModeTree = t.0.1 in
      let l : IsOfLanguage m = t.0.3.0 in
      joins g (StoreFits w.rows result) (IsValueOf m) (expr_asks g w result region lies.stands (expr j root_j o) m store s h t.0.3)
      (λ xs. same_turns n xs (λ set. member_grows (sides w lies.keeps n) counter low condition set (first_of_list (offsets_of set))) a.stays) f
      (λ f1. expr_lies g w result region c lies (expr j root_j o) m store s h t.0.3 f1)
      (λ xs store1 s1 h1 b1 f1 q f2.
      turns_hold g (StoreFits w.rows result) (AreWithin (member_domains (values_of own) 0 (numbers_of (values_of own)))) n (λ set. next_member w counter low condition set (first_of_list (offsets_of set))) (λ set. next_member_within w c counter low condition (first_of_list (offsets_of set))) body along
      (record {
        comes = λ set store2 s2 h2 i. member_asks g result sort mode w region lies.stands counter low condition own t.0.2 set store2 s2 h2 t.0.5 t.0.6 t.0.7 t.1 i;
        tested = λ set store2 s2 h2 i f3. member_lies counter low condition own t.0.2 set store2 s2 h2 t.0.5 t.0.6 t.0.7 t.1 i (first_of_list (offsets_of set)) refl f3;
        keeps = λ set. member_grows (sides w lies.keeps n) counter low condition set (first_of_list (offsets_of set));
        acts = a.acts;
        acted = a.acted;
        stays = a.stays;
      })
      xs store1 s1 h1 (λ f3. subst (λ (ds : List Domain). AreWithin ds xs) (set_domains m own l.parts t.0.4) q) f2)
  loop_lies n (for_steps counter (expr j root_j o) step (expr i root_i p) down condition) body along store s h t a f =
      let m : ModeTree = t.0.0 in
      let own : ModeTree = t.0.1 in
      let other : ModeTree = t.0.2 in
      let d : Bounds = t.0.3 in
      let shapes : shape_of own ≡ shape_of other = t.0.6.shape in
      let root : shape_bounds (shape_of own) ≡ Some d = bound_in g result sort mode w region m own other d shapes t.0.8 t.0.9 in
      joins g (StoreFits w.rows result) (λ (z : ℤ). (d.low ≤ℤ z) × (z ≤ℤ d.high)) (bound_asks g result sort mode w region lies.stands (expr j root_j o) own (λ (z : ℤ). (d.low ≤ℤ z) × (z ≤ℤ d.high)) store s h t.0.4 (λ xs v. number_in_root own d xs t.0.4.0.parts root v))
      (λ from. then_grows (step_bound_grows (sides w lies.keeps n) step) (λ by. then_grows (bound_grows (sides w lies.keeps n) (expr i root_i p)) (λ end. steps_keep counter down by end condition from))) f
      (λ f1. bound_lies (expr j root_j o) own store s h t.0.4 f1)
      (λ from store1 s1 h1 b1 f1 q f2.
      joins g (StoreFits w.rows result) (λ (z : ℤ). pos 1 ≤ℤ z) (step_asks g result sort mode w region lies.stands step (form_of own) store1 s1 h1 t.0.10)
      (λ by. then_grows (bound_grows (sides w lies.keeps n) (expr i root_i p)) (λ end. steps_keep counter down by end condition from)) f2
      (λ f3. step_lies step (form_of own) store1 s1 h1 t.0.10 f3)
      (λ by store2 s2 h2 b2 f3 r f4.
      joins g (StoreFits w.rows result) (λ (z : ℤ). (d.low ≤ℤ z) × (z ≤ℤ d.high)) (bound_asks g result sort mode w region lies.stands (expr i root_i p) other (λ (z : ℤ). (d.low ≤ℤ z) × (z ≤ℤ d.high)) store2 s2 h2 t.0.5 (λ xs v. number_in_root other d xs t.0.5.0.parts (ap shape_bounds (sym shapes) ∙ root) v))
      (λ end. steps_keep counter down by end condition from) f4
      (λ f5. bound_lies (expr i root_i p) other store2 s2 h2 t.0.5 f5)
      (λ end store3 s3 h3 b3 f5 u f6.
      turns_hold g (StoreFits w.rows result) (λ (z : ℤ). Counts g result sort mode down d z × (pos 1 ≤ℤ by) × (d.low ≤ℤ end) × (end ≤ℤ d.high)) n (next_step w counter down by end condition) (next_step_within w c counter down end condition) body along
      (record {
        comes = λ value store4 s4 h4 v. step_on g result sort mode w region lies.stands counter down by end condition m d value store4 s4 h4 t.0.9 t.0.7 t.1 v;
        tested = λ value store4 s4 h4 v f7. next_lies counter down by end condition m d value store4 s4 h4 t.0.9 t.0.7 t.1 v f7;
        keeps = λ value. step_grows (sides w lies.keeps n) counter down by end condition value;
        acts = a.acts;
        acted = a.acted;
        stays = a.stays;
      })
      from store3 s3 h3 (λ f7. (counts_first g result sort mode down d from q, r, u.0, u.1)) f6)))
    where
      steps_keep : (counter : ℕ) (down : Bool) (by end : ℤ) (condition : Option ExprTree) (from : ℤ) → KeepsTold (turns n (next_step w counter down by end condition) body from)
      steps_keep counter down by end condition from = same_turns n from (λ value. step_grows (sides w lies.keeps n) counter down by end condition value) a.stays

  -- ---- messages and results

  receiver_lies : (k priority : ℕ) (o : Option ExprTree) (xs : List ℤ) (store : Store) (s : Session) → Here g (StoreFits w.rows result) store s → IsReceiver (context_in g w region) o → IsOver g (sent_signal w k priority o xs store s) → some_value_within w c o store s ≡ true
  receiver_lies k priority None xs store s h t f = refl
  receiver_lies k priority (Some e) xs store s h t f = expr_lies g w result region c lies e t.0 store s h t.1 (first_over (λ ys. send_to_grows k priority xs (number_of_32 (sole_number ys))) f)

  sent_lies : (st : SentTree) (priority : ℕ) (store : Store) (s : Session) → Here g (StoreFits w.rows result) store s → IsTypedSend (context_in g w region) st → IsOver g (sent_mean w st priority store s) → sent_within w c st store s ≡ true
  sent_lies (to_buffer b r) priority store s h t f = received_lies g w result region c lies r t.0 store s h t.2 (first_over (λ xs. done_grows (SendBuffer b xs priority)) f)
  sent_lies (signal k rs to) priority store s h t f =
      let ms : List ModeTree = t.0.0 in
      let row : SignalRowTree = t.0.1.0 in
      let fit : ModesFit ms = subst ModesFit t.0.1.2 (modes_fit row.parts (all_at (λ (row : SignalRowTree). All IsOfLanguage row.parts × IfSome row.process (IsForProcess g.program)) g.program.signals k row g.typed.signals t.0.1.1).0) in
      joins g (StoreFits w.rows result) (AreWithin (flat_map domains_of ms)) (all_received_asks g w result region lies.stands rs ms store s h fit t.0.2) (λ xs. signal_grows (sides w lies.keeps 0) k priority to xs) f
      (λ f1. all_lie g w result region c lies rs ms store s h fit t.0.2 f1)
      (λ xs store1 s1 h1 b1 f1 v f2. receiver_lies k priority to xs store1 s1 h1 t.1 f2)

  return_lies : (n : ℕ) (o : Option ReceivedTree) (store : Store) (s : Session) → Here g (StoreFits w.rows result) store s → IsTypedReturn (around_at g w region sort result n) o → IsOver g (return_mean w o store s) → some_taken_within w c o store s ≡ true
  return_lies n None store s h t f = refl
  return_lies n (Some r) store s h t f = received_lies g w result region c lies r t.1 store s h t.3 (first_over (λ xs. same_goes) (first_over (λ z. same_returns) f))

-- what stands in a region that is open too
abbrev inside_lies : (g : Whole) (w : Setting) (result : Option ModeTree) (c : OpenCallsWithin) (r : ℕ) → Lies g w result c → Lies g (opened w r) result c
inside_lies g w result c r lies = record { stands = record { rows = lies.stands.rows; who = lies.stands.who; calls = lies.stands.calls }; keeps = lies.keeps; calls = lies.calls }

module _ (g : Whole) (result : Option ModeTree) (sort : Sort) (mode : IfSome result (λ m. IsTrue (parts_fit m))) (c : OpenCallsWithin) where
  mutual
    pub statement_lies : (st : StatementTree) (w : Setting) (region : Option ℕ) (lies : Lies g w result c) (labelled n : ℕ) (store : Store) (s : Session) → Here g (StoreFits w.rows result) store s → IsTypedStatement (around_at g w region sort result labelled) st → IsOver g (statement_mean w n st store s) → statement_within w c n st store s ≡ true
    statement_lies (statement l (region_at r ss) hn) w region lies labelled n store s h t f =
        let inside : Lies g (opened w r) result c = inside_lies g w result c r lies in
        either_lies (is_open r w.open_now) f
        (λ f1. with_handler g (StoreFits w.rows result) (statements_ask g result sort mode ss w (Some r) lies.stands labelled n store s h t.1.1) (λ x. handler_grows (sides w lies.keeps n) hn x) f1
        (λ f2. statements_lie ss w (Some r) lies labelled n store s h t.1.1 f2)
        (λ x store2 s2 h2 f2. handler_lies hn w (Some r) lies labelled n x store2 s2 h2 t.2.1 f2))
        (λ f1. where_through g (StoreFits w.rows result) Any (does g (StoreFits w.rows result) (Enter r) store s h (λ q. t.1.0) tt)
        (λ z. leave_grows r (caught_grows (statements_grow (sides (opened w r) lies.keeps n) ss) (λ x. handler_grows (sides (opened w r) lies.keeps n) hn x))) f1
        (λ z store1 s1 h1 b1 f2 q f3.
        with_handler g (StoreFits w.rows result) (statements_ask g result sort mode ss (opened w r) (Some r) inside.stands labelled n store1 s1 h1 t.1.1) (λ x. handler_grows (sides (opened w r) lies.keeps n) hn x) (before_leave g (StoreFits w.rows result) r _ f3)
        (λ f4. statements_lie ss (opened w r) (Some r) inside labelled n store1 s1 h1 t.1.1 f4)
        (λ x store2 s2 h2 f4. handler_lies hn (opened w r) (Some r) inside labelled n x store2 s2 h2 t.2.1 f4)))
    statement_lies (statement l a hn) w region lies labelled n store s h t f =
        let around = around_as g w region sort result labelled l a in
        let behind = handler_as g w region t.2.0 sort result labelled l a in
        let typed : IsTypedAction (around_at g w around.region sort result around.labelled) a = subst (λ (x : Around). IsTypedAction x a) around.is t.1 in
        with_handler g (StoreFits w.rows result) (action_asks g result sort mode a w around.region lies.stands around.labelled n store s h typed) (λ x. handler_grows (sides w lies.keeps n) hn x)
        (before_label g (StoreFits w.rows result) (is_label l a) _ f)
        (λ f1. action_lies a w around.region lies around.labelled n store s h typed f1)
        (λ x store1 s1 h1 f1. handler_lies hn w behind.region lies behind.labelled n x store1 s1 h1 (subst (λ (x : Around). IsTypedHandler x hn) behind.is t.2.1) f1)

    pub statements_lie : (ss : StatementNodes) (w : Setting) (region : Option ℕ) (lies : Lies g w result c) (labelled n : ℕ) (store : Store) (s : Session) → Here g (StoreFits w.rows result) store s → AreTyped (around_at g w region sort result labelled) ss → IsOver g (statements_mean w n ss store s) → statements_within w c n ss store s ≡ true
    statements_lie no_statements w region lies labelled n store s h t f = refl
    statements_lie (more_statements st ss) w region lies labelled n store s h t f =
        joins g (StoreFits w.rows result) Any (statement_asks g result sort mode st w region lies.stands labelled n store s h t.0) (λ z. statements_grow (sides w lies.keeps n) ss) f
        (λ f1. statement_lies st w region lies labelled n store s h t.0 f1)
        (λ z store1 s1 h1 b1 f1 q f2. statements_lie ss w region lies labelled n store1 s1 h1 t.1 f2)

    pub handler_lies : (hn : HandlerNode) (w : Setting) (region : Option ℕ) (lies : Lies g w result c) (labelled n : ℕ) (x : Exc) (store : Store) (s : Session) → Here g (StoreFits w.rows result) store s → IsTypedHandler (around_at g w region sort result labelled) hn → IsOver g (handler_mean w n hn x store s) → handler_within w c n hn x store s ≡ true
    handler_lies no_handler w region lies labelled n x store s h t f = refl
    handler_lies (handler hs o) w region lies labelled n x store s h t f =
        alternatives_lie hs w region lies labelled n (otherwise_mean w n o (Raised x)) (otherwise_within w c n o) x store s h t.0 (λ store1 s1 h1 f1. otherwise_lies o w region lies labelled n (Raised x) store1 s1 h1 t.1 f1) f

    alternatives_lie : (hs : HandledNodes) (w : Setting) (region : Option ℕ) (lies : Lies g w result c) (labelled n : ℕ) (last : Meaning (Unit {0})) (along : Along) (x : Exc) (store : Store) (s : Session) → Here g (StoreFits w.rows result) store s → AreTypedAlternatives (around_at g w region sort result labelled) hs → LiesAlong g (StoreFits w.rows result) last along → IsOver g (alternatives_mean w n hs last x store s) → alternatives_within w c n hs along x store s ≡ true
    alternatives_lie no_handled w region lies labelled n last along x store s h t k f = k store s h f
    alternatives_lie (more_handled names ss hs) w region lies labelled n last along x store s h t k f =
        either_lies (names_exception names x) f (λ f1. statements_lie ss w region lies labelled n store s h t.0 f1) (λ f1. alternatives_lie hs w region lies labelled n last along x store s h t.1 k f1)

    otherwise_lies : (o : OtherwiseNode) (w : Setting) (region : Option ℕ) (lies : Lies g w result c) (labelled n : ℕ) (none : Meaning (Unit {0})) (store : Store) (s : Session) → Here g (StoreFits w.rows result) store s → IsTypedOtherwise (around_at g w region sort result labelled) o → IsOver g (otherwise_mean w n o none store s) → otherwise_within w c n o store s ≡ true
    otherwise_lies no_otherwise w region lies labelled n none store s h t f = refl
    otherwise_lies (otherwise ss) w region lies labelled n none store s h t f = statements_lie ss w region lies labelled n store s h t f

    action_lies : (a : ActionTree) (w : Setting) (region : Option ℕ) (lies : Lies g w result c) (labelled n : ℕ) (store : Store) (s : Session) → Here g (StoreFits w.rows result) store s → IsTypedAction (around_at g w region sort result labelled) a → IsOver g (action_mean w n a store s) → action_within w c n a store s ≡ true
    action_lies do_nothing w region lies labelled n store s h t f = refl
    action_lies (declare names r) w region lies labelled n store s h t f = received_lies g w result region c lies r t.0 store s h t.2 (first_over (λ xs. names_grow names xs) f)
    action_lies (set_lowest locals xs) w region lies labelled n store s h t f = refl
    action_lies (module_at ss) w region lies labelled n store s h t f = statements_lie ss w region lies labelled n store s h t f
    action_lies (region_at r ss) w region lies labelled n store s h t f = statements_lie ss w region lies labelled n store s h t.1 f
    action_lies (assign (location b ps k) r) w region lies labelled n store s h t f =
        joins g (StoreFits w.rows result) (AddressFits (context_in g w region) t.0) (location_asks g w result region lies.stands (location b ps k) t.0 store s h t.1)
        (λ address. then_grows (received_grows (sides w lies.keeps n) r) (λ xs. assign_grows k address xs)) f
        (λ f1. location_lies g w result region c lies (location b ps k) t.0 store s h t.1 f1)
        (λ address store1 s1 h1 b1 f1 q f2. received_lies g w result region c lies r t.0 store1 s1 h1 t.2 (first_over (λ xs. assign_grows k address xs) f2))
    action_lies (update (location b ps k) o e bounds) w region lies labelled n store s h t f =
        let m : ModeTree = t.0 in
        joins g (StoreFits w.rows result) (AddressFits (context_in g w region) m) (location_asks g w result region lies.stands (location b ps k) m store s h t.3)
        (λ address. then_grows (read_grows k address) (λ xs. then_grows (binary_grows o xs (expr_grows (sides w lies.keeps n) e)) (λ ys. then_grows (tested_grows bounds ys) (λ zs. assign_grows k address zs)))) f
        (λ f1. location_lies g w result region c lies (location b ps k) m store s h t.3 f1)
        (λ address store1 s1 h1 b1 f1 q f2.
        where_through g (StoreFits w.rows result) (IsValueOf m) (reads g w result region lies.stands m k address store1 s1 h1 (λ f3. (q, t.3.3)))
        (λ xs. then_grows (binary_grows o xs (expr_grows (sides w lies.keeps n) e)) (λ ys. then_grows (tested_grows bounds ys) (λ zs. assign_grows k address zs))) f2
        (λ xs store2 s2 h2 b2 f3 u f4.
        and_holds (mode_lies m bounds xs t.7 u)
        (either_lies (takes_second o xs) (first_over (λ ys. then_grows (tested_grows bounds ys) (λ zs. assign_grows k address zs)) f4)
        (λ f5. expr_lies g w result region c lies e t.1 store2 s2 h2 t.4 (first_over (λ ys. computed_grows (binary_value o xs ys)) f5)) (λ f5. refl))))
    action_lies (perform ct) w region lies labelled n store s h t f = call_lies g w result region c lies ct t.0 store s h t.1 (first_over (λ xs. same_goes) f)
    action_lies (drop_routine r e) w region lies labelled n store s h t f =
        expr_lies g w result region c lies e t.0 store s h t.2 (first_over (λ xs. then_grows (computed_grows (routine_value r xs)) (λ ys. same_goes)) f)
    action_lies (evaluate e) w region lies labelled n store s h t f = expr_lies g w result region c lies e t.0 store s h t.1 (first_over (λ xs. same_goes) f)
    action_lies (put_int e) w region lies labelled n store s h t f = expr_lies g w result region c lies e t.0 store s h t.1 (first_over (λ xs. done_grows (Put (decimal_text (sole_number xs)))) f)
    action_lies (put_text e) w region lies labelled n store s h t f = expr_lies g w result region c lies e t.0 store s h t.2 (first_over (λ xs. put_grows (bytes_of xs)) f)
    action_lies put_line w region lies labelled n store s h t f = refl
    action_lies (exit_from k) w region lies labelled n store s h t f = refl
    action_lies (return_with r) w region lies labelled n store s h t f = return_lies g result sort mode w region c lies labelled r store s h t f
    action_lies (set_result r) w region lies labelled n store s h t f = received_lies g w result region c lies r t.1 store s h t.3 (first_over (λ xs. same_goes) f)
    action_lies (assert_that e) w region lies labelled n store s h t f = expr_lies g w result region c lies e t.0 store s h t.1 (first_over (λ xs. if_grows (is_true xs) same_goes same_raises) f)
    action_lies (cause x) w region lies labelled n store s h t f = refl
    action_lies stop w region lies labelled n store s h t f = refl
    action_lies (start_of st) w region lies labelled n store s h t f = start_lies g w result region c lies st store s h t (first_over (λ xs. same_goes) f)
    action_lies (delay e priority) w region lies labelled n store s h t f = refl
    action_lies (continue_at e) w region lies labelled n store s h t f = refl
    action_lies (send sent priority) w region lies labelled n store s h t f = sent_lies g result sort mode w region c lies sent priority store s h t.0 f
    action_lies (if_then cs ss) w region lies labelled n store s h t f =
        choices_lie cs w region lies labelled n (statements_mean w n ss) (statements_within w c n ss) store s h t.0 (statements_grow (sides w lies.keeps n) ss) (λ store1 s1 h1 f1. statements_lie ss w region lies labelled n store1 s1 h1 t.1 f1) f
    action_lies (case_of e cs o) w region lies labelled n store s h t f =
        joins g (StoreFits w.rows result) (IsValueOf t.0.0) (expr_asks g w result region lies.stands e t.0.0 store s h t.0.2) (λ xs. cases_grow (sides w lies.keeps n) cs (sole_number xs) (otherwise_grows (sides w lies.keeps n) o same_raises)) f
        (λ f1. expr_lies g w result region c lies e t.0.0 store s h t.0.2 f1)
        (λ xs store1 s1 h1 b1 f1 v f2.
        cases_lie cs w region lies labelled n (otherwise_mean w n o (Raised Rangefail)) (otherwise_within w c n o) (sole_number xs) store1 s1 h1 t.1
        (λ store2 s2 h2 f3. otherwise_lies o w region lies labelled n (Raised Rangefail) store2 s2 h2 t.2 f3) f2)
    action_lies (do_loop control ss) w region lies labelled n store s h t f =
        loop_lies g result sort mode w region c lies n control (statements_mean w n ss) (statements_within w c n ss) store s h t.0
        (record {
          acts = λ store1 s1 h1. statements_ask g result sort mode ss w region lies.stands labelled n store1 s1 h1 t.1;
          acted = λ store1 s1 h1 f1. statements_lie ss w region lies labelled n store1 s1 h1 t.1 f1;
          stays = statements_grow (sides w lies.keeps n) ss;
        }) f
    action_lies (begin_end ss) w region lies labelled n store s h t f = statements_lie ss w region lies labelled n store s h t f
    action_lies (delay_case set priority ds) w region lies labelled n store s h t f =
        delay_lies g result sort mode w region c lies labelled set priority ds (delay_mean w n ds) (delays_within w c n ds) store s h t.0 t.2 (λ k. delays_grow (sides w lies.keeps n) ds k)
        (λ k store1 s1 h1 f1. delays_lie ds w region lies labelled n k store1 s1 h1 t.2 f1) f
    action_lies (receive_buffers set rs o) w region lies labelled n store s h t f =
        receive_lies g result sort mode w region c lies labelled (ReceiveBuffer (receive_list 0 rs) (is_written o)) (BufferBrings (context_in g w region)) set rs (receive_mean w n rs) (receives_within w c n rs) (otherwise_mean w n o skip) (otherwise_within w c n o) store s h t.0 t.1
        (receives_name (length g.program.buffers) (around_at g w region sort result labelled) (BufferBrings (context_in g w region)) 0 rs (buffer_below g result sort mode w region) t.1, received_tells (around_at g w region sort result labelled) (BufferBrings (context_in g w region)) rs t.1)
        (buffer_gives g result sort mode w region rs (is_written o))
        (λ k. receives_grow (sides w lies.keeps n) rs k) (otherwise_grows (sides w lies.keeps n) o same_goes)
        (λ k store1 s1 h1 f1. receives_lie rs w region lies labelled n k store1 s1 h1 (alternatives_typed (around_at g w region sort result labelled) (BufferBrings (context_in g w region)) rs t.1) f1)
        (λ store1 s1 h1 f1. otherwise_lies o w region lies labelled n skip store1 s1 h1 t.2 f1) f
    action_lies (receive_signals set rs o) w region lies labelled n store s h t f =
        receive_lies g result sort mode w region c lies labelled (ReceiveSignal (receive_list 0 rs) (is_written o)) (SignalHas (context_in g w region)) set rs (receive_mean w n rs) (receives_within w c n rs) (otherwise_mean w n o skip) (otherwise_within w c n o) store s h t.0 t.1
        (receives_name (length g.program.signals) (around_at g w region sort result labelled) (SignalHas (context_in g w region)) 0 rs (signal_below g result sort mode w region) t.1, received_tells (around_at g w region sort result labelled) (SignalHas (context_in g w region)) rs t.1)
        (signal_gives g result sort mode w region rs (is_written o))
        (λ k. receives_grow (sides w lies.keeps n) rs k) (otherwise_grows (sides w lies.keeps n) o same_goes)
        (λ k store1 s1 h1 f1. receives_lie rs w region lies labelled n k store1 s1 h1 (alternatives_typed (around_at g w region sort result labelled) (SignalHas (context_in g w region)) rs t.1) f1)
        (λ store1 s1 h1 f1. otherwise_lies o w region lies labelled n skip store1 s1 h1 t.2 f1) f

    choices_lie : (cs : ChoiceNodes) (w : Setting) (region : Option ℕ) (lies : Lies g w result c) (labelled n : ℕ) (last : Meaning (Unit {0})) (along : Along) (store : Store) (s : Session) → Here g (StoreFits w.rows result) store s → AreTypedChoices (around_at g w region sort result labelled) cs → KeepsTold last → LiesAlong g (StoreFits w.rows result) last along → IsOver g (choices_mean w n cs last store s) → choices_within w c n cs along store s ≡ true
    choices_lie no_choices w region lies labelled n last along store s h t keep k f = k store s h f
    choices_lie (more_choices e ss cs) w region lies labelled n last along store s h t keep k f =
        joins g (StoreFits w.rows result) (IsValueOf t.0.0) (expr_asks g w result region lies.stands e t.0.0 store s h t.0.1)
        (λ xs. if_grows (is_true xs) (statements_grow (sides w lies.keeps n) ss) (choices_grow (sides w lies.keeps n) cs keep)) f
        (λ f1. expr_lies g w result region c lies e t.0.0 store s h t.0.1 f1)
        (λ xs store1 s1 h1 b1 f1 v f2.
        either_lies (is_true xs) f2 (λ f3. statements_lie ss w region lies labelled n store1 s1 h1 t.1 f3) (λ f3. choices_lie cs w region lies labelled n last along store1 s1 h1 t.2 keep k f3))

    cases_lie : (cs : CaseNodes) (w : Setting) (region : Option ℕ) (lies : Lies g w result c) (labelled n : ℕ) (last : Meaning (Unit {0})) (along : Along) (x : ℤ) (store : Store) (s : Session) → Here g (StoreFits w.rows result) store s → AreTypedCases (around_at g w region sort result labelled) cs → LiesAlong g (StoreFits w.rows result) last along → IsOver g (cases_mean w n cs last x store s) → cases_within w c n cs along x store s ≡ true
    cases_lie no_cases w region lies labelled n last along x store s h t k f = k store s h f
    cases_lie (more_cases ls ss cs) w region lies labelled n last along x store s h t k f =
        either_lies (holds_one x ls) f (λ f1. statements_lie ss w region lies labelled n store s h t.0 f1) (λ f1. cases_lie cs w region lies labelled n last along x store s h t.1 k f1)

    delays_lie : (ds : DelayNodes) (w : Setting) (region : Option ℕ) (lies : Lies g w result c) (labelled n k : ℕ) (store : Store) (s : Session) → Here g (StoreFits w.rows result) store s → AreTypedDelays (around_at g w region sort result labelled) ds → IsOver g (delay_mean w n ds k store s) → delays_within w c n ds k store s ≡ true
    delays_lie no_delays w region lies labelled n k store s h t f = refl
    delays_lie (more_delays es ss ds) w region lies labelled n zero store s h t f = statements_lie ss w region lies labelled n store s h t.1 f
    delays_lie (more_delays es ss ds) w region lies labelled n (suc k) store s h t f = delays_lie ds w region lies labelled n k store s h t.2 f

    receives_lie : (rs : ReceiveNodes) (w : Setting) (region : Option ℕ) (lies : Lies g w result c) (labelled n k : ℕ) (store : Store) (s : Session) → Here g (StoreFits w.rows result) store s → AlternativesTyped (around_at g w region sort result labelled) rs → IsOver g (receive_mean w n rs k store s) → receives_within w c n rs k store s ≡ true
    receives_lie no_receives w region lies labelled n k store s h t f = refl
    receives_lie (more_receives thing is ss rs) w region lies labelled n zero store s h t f = statements_lie ss w region lies labelled n store s h t.0 f
    receives_lie (more_receives thing is ss rs) w region lies labelled n (suc k) store s h t f = receives_lie rs w region lies labelled n k store s h t.1 f
