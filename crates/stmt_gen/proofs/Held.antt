-- What is appended for statements that hold others, by what is appended for their parts.
use Rattle.std.proofs.Common.{◌≡◌, ℕ, suc, ◌+◌, ◌<◌, ◌≤◌, ◌-◌, Bool, true, false, List, [], ◌∷◌, ◌++◌, Option, Some, None, length, get_or, drop, refl, sym, ap, subst, ◌∙◌, arith}
use Rattle.std.specs.Prelude.{reverse, is_some, if◌then◌else◌}
use Rattle.std.specs.declared.alloc.Global.{Global}
use Rattle.std.specs.declared.boxed.Box.{Box}
use Rattle.std.proofs.lemmas.Bool.{false≢true}
use Rattle.std.proofs.lemmas.List.{append-nil, at_drop_all, reverse-append}
use Rattle.modes.specs.declared.mode.Bounds.{Bounds}
use Rattle.code_types.specs.declared.code.Code.{Code}
use Rattle.code_types.specs.declared.code.Handler.{Handler}
use Rattle.code_types.specs.declared.instr.Instr.{Instr}
use Rattle.code_types.specs.declared.instr.Instr.TheVariants as i
use Rattle.checked_program.specs.declared.expr.Expr.{Expr}
use Rattle.checked_program.specs.declared.expr.Location.{Location}
use Rattle.checked_program.specs.declared.statement.Action.{Action}
use Rattle.checked_program.specs.declared.statement.Action.TheVariants as actions
use Rattle.checked_program.specs.declared.statement.CaseAlternative.{CaseAlternative, out-CaseAlternative}
use Rattle.checked_program.specs.declared.statement.Choice.{Choice, out-Choice}
use Rattle.checked_program.specs.declared.statement.Control.{Control}
use Rattle.checked_program.specs.declared.statement.DelayAlternative.{DelayAlternative, out-DelayAlternative}
use Rattle.checked_program.specs.declared.statement.Handler.{Handler as CheckedHandler, out-Handler}
use Rattle.checked_program.specs.declared.statement.HandlerAlternative.{HandlerAlternative, out-HandlerAlternative}
use Rattle.checked_program.specs.declared.statement.ReceiveAlternative.{ReceiveAlternative, out-ReceiveAlternative}
use Rattle.checked_program.specs.declared.statement.Statement.{Statement, out-Statement}
use Rattle.program_trees.specs.ExprTree.{ExprTree, expr_tree, LocationTree}
use Rattle.program_trees.specs.StatementTree.{StatementTree, statement, ActionTree, do_nothing, declare, set_lowest, module_at, region_at, assign, update, perform, drop_routine, evaluate, put_int, put_text, put_line, exit_from, return_with, set_result, assert_that, cause, stop, start_of, delay, continue_at, send, if_then, case_of, do_loop, begin_end, delay_case, receive_buffers, receive_signals, StatementNodes, more_statements, ChoiceNodes, more_choices, CaseNodes, more_cases, DelayNodes, more_delays, ReceiveNodes, more_receives, OtherwiseNode, otherwise, HandledNodes, more_handled, HandlerNode, handler, ControlTree, ChoiceTree, CaseTree, NumbersTree, ReceiveTree, statement_tree, action_tree, handler_tree, statements_of, handler_of, control_tree, set_tree}
use Rattle.code_scheme.specs.Pieces.{capped}
use Rattle.code_scheme.specs.ExprSizes.{expr_size, condition_size}
use Rattle.code_scheme.specs.ExprCode.{condition_code}
use Rattle.code_scheme.specs.StatementSite.{Site, Standing, layout, taking, within_label}
use Rattle.code_scheme.specs.StatementGoing.{go_on, goes_on, action_goes_on, leave_size, leave_code}
use Rattle.code_scheme.specs.StatementPlain.{taken_by}
use Rattle.code_scheme.specs.StatementLoops.{before_turns, before_turns_size, turn_test, turn_test_size, control_code, control_size, locals_kept}
use Rattle.code_scheme.specs.StatementWaits.{Receives, from_buffers, of_signals, has_else, chosen_in, delay_wait_code, delay_wait_size, receive_wait_code, receive_wait_size, is_chosen_code}
use Rattle.code_scheme.specs.StatementSize.{labels_code, labels_size, turn_back_size, statements_size, statement_size, handler_size, handled_size, otherwise_size, action_size, choices_size, cases_size, delays_size, receives_size}
use Rattle.code_scheme.specs.StatementCode.{CodeAt, no_code, no_label_code, joining, chosen, loop_code, turn_back_code, statements_code, statement_code, handler_code, handled_code, otherwise_code, action_code, choices_code, cases_code, delays_code, receives_code}
use Rattle.code_scheme.specs.StatementRows.{RowsAt, own_rows, statements_rows, statement_rows, handler_rows, handled_rows, otherwise_rows, action_rows, choices_rows, cases_rows, delays_rows, receives_rows}
use Rattle.expr_gen.specs.declared.building.Draft.{Draft}
use Rattle.expr_gen.specs.declared.frames.Site.{Site as RustSite}
use Rattle.expr_gen.specs.Putting.{Appends}
use Rattle.expr_gen.proofs.Appending.{nothing, and_then}
use Rattle.expr_gen.proofs.Items.{item_at}
use Rattle.stmt_gen.specs.Appending.{AppendsAt, AppendsRows, StillTo}
use Rattle.stmt_gen.specs.Constructs.{guarded_code, choice_code, receive_action_code, receive_action_rows}
use Rattle.stmt_gen.specs.HandlerRows.{PutsRows}
use Rattle.stmt_gen.specs.Holding.{site_around, PutsStatements, PutsStatement, PutsGuarded, PutsAction, PutsActionTo, PutsHandler, handled_parts, PutsHandled, PutsJoining, PutsChosen, choice_parts, PutsChoice, choices_parts, PutsChoices, cases_parts, PutsCases, PutsDo, PutsDelays, receives_parts, PutsReceives, PutsReceiveCase}
use Rattle.action_gen.specs.Putting.{standing_of, site_of, holds_statements, rows_of_handler}
use Rattle.action_gen.specs.Receiving.{kind_of, waits_else}
use Rattle.action_gen.specs.Trees.{choice_tree, case_tree, delay_tree, handled_tree, receive_tree, choices_of, cases_of, delays_of, receives_of, handled_of, else_of}
use Rattle.stmt_gen.specs.declared.again.Span.{Span}
use Rattle.action_gen.specs.declared.around.Around.{Around}
use Rattle.stmt_gen.specs.declared.statements.Kept.{Kept}
use Rattle.stmt_gen.specs.declared.statements.Wait.{Wait}
use Rattle.stmt_gen.proofs.Made.{next_statement, last_statement, guarded, unguarded, handling, next_handled, joined_on, chosen_on, next_choice, cased, next_case, waited, next_delay, next_receive}
use Rattle.stmt_gen.proofs.Placing.{nothing_at, without_rows, then_at, told_as, still_as, before_still, begin, end}
use Rattle.action_gen.proofs.Views.{action_tree-If, action_tree-Case, action_tree-Do, action_tree-Begin, action_tree-DelayCase, action_tree-ReceiveBuffers, action_tree-ReceiveSignals, case_tree-out, choice_tree-out, delay_tree-out, handled_tree-out, receive_tree-out, handler_tree-out, statement_tree-out}

-- ---- what is appended for nodes

abbrev AtStatements : Standing → StatementNodes → Code → Code → Type 0
AtStatements w ss x y = AppendsAt (statements_code w ss) (statements_size w.site ss) (statements_rows w.site ss) x y

abbrev AtStatement : Standing → StatementTree → Code → Code → Type 0
AtStatement w t x y = AppendsAt (statement_code w t) (statement_size w.site t) (statement_rows w.site t) x y

abbrev AtGuarded : Standing → StatementTree → Code → Code → Type 0
AtGuarded w t x y = AppendsAt (guarded_code w t) (statement_size w.site t) (statement_rows w.site t) x y

abbrev AtAction : Standing → ActionTree → Code → Code → Type 0
AtAction w a x y = AppendsAt (action_code w a) (action_size w.site a) (action_rows w.site a) x y

abbrev AtHandler : Standing → HandlerNode → Bool → ℕ → Code → Code → Type 0
AtHandler w h comes from x y =
    AppendsAt (handler_code w h comes) (leave_size comes (handler_size w.site h) + handler_size w.site h) (handler_rows w.site h comes from) x y

abbrev AtOtherwise : Standing → OtherwiseNode → CodeAt → ℕ → Code → Code → Type 0
AtOtherwise w o none n x y = AppendsAt (otherwise_code w o none) (otherwise_size w.site o n) (otherwise_rows w.site o) x y

-- what is done by ELSE, where it is written
pub record PutsOtherwise (around : Around) (o : Option (List Statement)) (old new : Draft) : Type 0 where
  pub puts : AtOtherwise (standing_of around) (else_of o) no_code 0 old.code new.code

-- what is done where no label of a CASE holds its selector
pub record PutsUnlabelled (around : Around) (o : Option (List Statement)) (old new : Draft) : Type 0 where
  pub puts : AtOtherwise (standing_of around) (else_of o) no_label_code 1 old.code new.code

-- sums of places
behind_after : (x y first rest behind : ℕ) → behind ≡ x + (first + rest) → y ≡ x + first → behind ≡ y + rest
behind_after x y first rest behind e f = omega (arith, e, f)

case_place : (behind x y e rest : ℕ) → behind ≡ x + (e + suc rest) → y ≡ x + (e + 1) → behind ≡ y + rest
case_place behind x y e rest p q = omega (arith, p, q)

-- nothing is left to be appended
done : {a b : CodeAt} {m n : ℕ} {r s : RowsAt} {x y : Code} → StillTo a m r b n s x y → b (length y.instrs) ≡ [] → n ≡ 0 → s (length y.instrs) ≡ [] → AppendsAt a m r x y
done {a} {b} {m} {n} {r} {s} {x} {y} p code size rows = record {
  instrs = sym (append-nil y.instrs) ∙ ap (λ (is : List Instr). y.instrs ++ is) (sym code) ∙ p.instrs;
  length = omega (arith, p.length, size);
  handlers = sym (append-nil y.handlers) ∙ ap (λ (hs : List Handler). y.handlers ++ hs) (sym rows) ∙ p.handlers;
  bodies = p.bodies;
}

-- ---- statements one behind the other

abbrev LeftStatements : Standing → StatementNodes → StatementNodes → Code → Code → Type 0
LeftStatements w all ss x y =
    StillTo (statements_code w all) (statements_size w.site all) (statements_rows w.site all) (statements_code w ss) (statements_size w.site ss) (statements_rows w.site ss) x y

pub record StatementsLeft (around : Around) (ss : List Statement) (k : ℕ) (old now : Draft) : Type 0 where
  pub left : LeftStatements (standing_of around) (statements_of ss) (statements_of (drop k ss)) old.code now.code

pub statements_begin : (around : Around) (ss : List Statement) (x : Draft) → StatementsLeft around ss 0 x x
statements_begin around ss x = record { left = begin _ _ _ x.code }

statements_at : (xs : List Statement) (k : ℕ) (x : Statement) → k < length xs → x ≡ get_or xs k x → statements_of (drop k xs) ≡ more_statements (statement_tree x) (statements_of (drop (k + 1) xs))
statements_at xs k x h e = ap statements_of (item_at xs k x h e)

pub statements_turn : (around : Around) (ss : List Statement) (k : ℕ) (it : Statement) {x y z : Draft} → k < length ss → it ≡ get_or ss k it → goes_on (statement_tree it) ≡ true
    → StatementsLeft around ss k x y → PutsStatement around it y z → StatementsLeft around ss (k + 1) x z
statements_turn around ss k it {x} {y} {z} h e goes p q = record {
  left = next_statement (standing_of around) (statement_tree it) (statements_of (drop (k + 1) ss)) goes
      (subst (λ (t : StatementNodes). LeftStatements (standing_of around) (statements_of ss) t x.code y.code) (statements_at ss k it h e) p.left) q.puts;
}

-- behind a statement from which control doesn't go on there are no others
pub statements_stop : (around : Around) (ss : List Statement) (k : ℕ) (it : Statement) {x y z : Draft} → k < length ss → it ≡ get_or ss k it → goes_on (statement_tree it) ≡ false
    → StatementsLeft around ss k x y → PutsStatement around it y z → PutsStatements around ss x z
statements_stop around ss k it {x} {y} {z} h e goes p q = record {
  puts = done (last_statement (standing_of around) (statement_tree it) (statements_of (drop (k + 1) ss)) goes
      (subst (λ (t : StatementNodes). LeftStatements (standing_of around) (statements_of ss) t x.code y.code) (statements_at ss k it h e) p.left) q.puts) refl refl refl;
}

pub statements_end : (around : Around) (ss : List Statement) (k : ℕ) {x y : Draft} → length ss ≤ k → StatementsLeft around ss k x y → PutsStatements around ss x y
statements_end around ss k {x} {y} h p = record {
  puts = done (subst (λ (t : StatementNodes). LeftStatements (standing_of around) (statements_of ss) t x.code y.code) (at_drop_all statements_of ss k h) p.left) refl refl refl;
}

-- ---- a statement

unlabelled_node : (w : Standing) (a : ActionTree) (h : HandlerNode) {x y : Code} → AtGuarded w (statement false a h) x y → AtStatement w (statement false a h) x y
unlabelled_node w a h p = told_as _ _ _ refl refl refl p

pub unlabelled : (around : Around) (s : Statement) {x y : Draft} → (out-Statement s).labelled ≡ false → PutsGuarded around s x y → PutsStatement around s x y
unlabelled around s {x} {y} is p =
    let tree = statement_tree-out s ∙ ap (λ (l : Bool). statement l (action_tree (out-Statement s).action.value) (handler_of (out-Statement s).handler)) is in
    record { puts = subst (λ (t : StatementTree). AtGuarded (standing_of around) t x.code y.code → AtStatement (standing_of around) t x.code y.code) (sym tree) (unlabelled_node (standing_of around) _ _) p.puts }

labelled_node : (w : Standing) (a : ActionTree) (h : HandlerNode) (behind : ℕ) {x y : Code} → behind ≡ length x.instrs + statement_size w.site (statement true a h)
    → AtGuarded (within_label w behind) (statement true a h) x y → AtStatement w (statement true a h) x y
labelled_node w a h behind {x} {y} e p =
    told_as _ _ _ refl refl refl (subst (λ (b : ℕ). AtGuarded (within_label w b) (statement true a h) x y) e p)

abbrev standing_at : RustSite → ℕ → List ℕ → Standing
standing_at s n es = record { site = site_of s.program.now s.body.now; free = n; exits = es }

-- where a statement stands within its label
within : (around inside : Around) (behind : ℕ) → inside.site ≡ around.site → inside.free ≡ around.free → inside.exits.now ≡ around.exits.now ++ behind ∷ []
    → standing_of inside ≡ within_label (standing_of around) behind
within around inside behind site free exits =
    ap (λ (s : RustSite). standing_at s inside.free (reverse inside.exits.now)) site
    ∙ ap (λ (n : ℕ). standing_at around.site n (reverse inside.exits.now)) free
    ∙ ap (λ (es : List ℕ). standing_at around.site around.free (reverse es)) exits
    ∙ ap (λ (es : List ℕ). standing_at around.site around.free es) (reverse-append around.exits.now (behind ∷ []))

pub labelled : (around inside : Around) (s : Statement) (behind : ℕ) {x y : Draft} → (out-Statement s).labelled ≡ true
    → inside.site ≡ around.site → inside.free ≡ around.free → inside.exits.now ≡ around.exits.now ++ behind ∷ []
    → behind ≡ length x.code.instrs + statement_size (site_around around) (statement_tree s)
    → PutsGuarded inside s x y → PutsStatement around s x y
labelled around inside s behind {x} {y} is site free exits there p =
    let tree = statement_tree-out s ∙ ap (λ (l : Bool). statement l (action_tree (out-Statement s).action.value) (handler_of (out-Statement s).handler)) is in
    let own = subst (λ (w : Standing). AtGuarded w (statement_tree s) x.code y.code) (within around inside behind site free exits) p.puts in
    record {
      puts = subst (λ (t : StatementTree). behind ≡ length x.code.instrs + statement_size (site_around around) t → AtGuarded (within_label (standing_of around) behind) t x.code y.code → AtStatement (standing_of around) t x.code y.code)
          (sym tree) (labelled_node (standing_of around) _ _ behind) there own;
    }

handled_node : (w : Standing) (l : Bool) (a : ActionTree) (h : HandlerNode) (comes : Bool) (from : ℕ) {x y z : Code} → from ≡ length x.instrs → comes ≡ action_goes_on a
    → AtAction w a x y → AtHandler w h comes from y z → AtGuarded w (statement l a h) x z
handled_node w l a h comes from {x} {y} {z} there goes p q =
    guarded w l a h p (subst (λ (k : ℕ). AtHandler w h (action_goes_on a) k y z) there (subst (λ (g : Bool). AtHandler w h g from y z) goes q))

pub with_handler : (around : Around) (s : Statement) (a b : Action) (boxed : Box CheckedHandler Global) (h : CheckedHandler) (comes : Bool) (from : ℕ) {x y z : Draft}
    → a ≡ (out-Statement s).action.value → b ≡ (out-Statement s).action.value → (out-Statement s).handler ≡ Some boxed → h ≡ boxed.value
    → from ≡ length x.code.instrs → comes ≡ action_goes_on (action_tree b) → PutsAction around a x y → PutsHandler around h from comes y z → PutsGuarded around s x z
with_handler around s a b boxed h comes from {x} {y} {z} a_is b_is some h_is there goes p q =
    let tree = statement_tree-out s ∙ ap (λ (v : Action). statement (out-Statement s).labelled (action_tree v) (handler_of (out-Statement s).handler)) (sym a_is)
    ∙ ap (λ (o : Option (Box CheckedHandler Global)). statement (out-Statement s).labelled (action_tree a) (handler_of o)) some
    ∙ ap (λ (v : CheckedHandler). statement (out-Statement s).labelled (action_tree a) (handler_tree v)) (sym h_is) in
    let goes_too = goes ∙ ap (λ (v : Action). action_goes_on (action_tree v)) (b_is ∙ sym a_is) in
    record {
      puts = subst (λ (t : StatementTree). AtGuarded (standing_of around) t x.code z.code) (sym tree)
          (handled_node (standing_of around) (out-Statement s).labelled (action_tree a) (handler_tree h) comes from there goes_too p.puts q.puts);
    }

leaves_nothing : (g : Bool) → leave_size g 0 ≡ 0
leaves_nothing true = refl
leaves_nothing false = refl

pub without_handler : (around : Around) (s : Statement) (a : Action) {x y : Draft} → a ≡ (out-Statement s).action.value → (out-Statement s).handler ≡ None
    → PutsAction around a x y → PutsGuarded around s x y
without_handler around s a {x} {y} a_is none p =
    let tree = statement_tree-out s ∙ ap (λ (v : Action). statement (out-Statement s).labelled (action_tree v) (handler_of (out-Statement s).handler)) (sym a_is)
    ∙ ap (λ (o : Option (Box CheckedHandler Global)). statement (out-Statement s).labelled (action_tree a) (handler_of o)) none in
    record {
      puts = subst (λ (t : StatementTree). AtGuarded (standing_of around) t x.code y.code) (sym tree)
          (unguarded (standing_of around) (out-Statement s).labelled (action_tree a) p.puts (sym (append-nil _)) (sym (append-nil _)) (leaves_nothing (action_goes_on (action_tree a))));
    }

-- ---- handlers

-- The rows, the jump over the alternatives and these; the present place is told where a row has it.
handler_node : (w : Standing) (hs : HandledNodes) (o : OtherwiseNode) (comes : Bool) (from until target behind : ℕ) {u x y z : Code}
    → until ≡ length u.instrs → target ≡ length u.instrs + leave_size comes (handler_size w.site (handler hs o))
    → behind ≡ length u.instrs + (leave_size comes (handler_size w.site (handler hs o)) + handler_size w.site (handler hs o))
    → (behind ≡ target + handler_size w.site (handler hs o) → AppendsRows (rows_of_handler w.site from until (handler hs o) target) u x)
    → ((rest : ℕ) → behind ≡ length x.instrs + (leave_size comes rest + rest) → Appends (leave_code comes rest behind) (leave_size comes rest) x y)
    → (behind ≡ length y.instrs + handled_size w.site hs (otherwise_size w.site o 0)
    → AppendsAt (handled_code w hs behind (otherwise_size w.site o 0) (otherwise_code w o no_code)) (handled_size w.site hs (otherwise_size w.site o 0)) (handled_rows w.site hs (otherwise_size w.site o 0) (otherwise_rows w.site o)) y z)
    → AtHandler w (handler hs o) comes from u z
handler_node w hs o comes from until target behind {u} {x} {y} {z} until_is target_is is rows jump rest =
    let size : ℕ = handler_size w.site (handler hs o) in
    let own = rows (omega (arith, target_is, is)) in
    let here : length x.instrs ≡ length u.instrs = ap (λ (is : List Instr). length is) own.instrs in
    let over = jump (handler_size w.site (handler hs o)) (omega (arith, here, is)) in
    let place : behind ≡ length y.instrs + handler_size w.site (handler hs o) = omega (arith, here, is, over.length) in
    handling w hs o comes from behind is
    (subst (λ (k : ℕ). AppendsRows (own_rows w.site from (length u.instrs) hs o k) u x) target_is (subst (λ (k : ℕ). AppendsRows (own_rows w.site from k hs o target) u x) until_is own))
    over (rest place)

pub handler_told : (around : Around) (h : CheckedHandler) (hs : List HandlerAlternative) (o : Option (List Statement)) (first : Span) (comes : Bool) (behind : ℕ) {u x y v z : Draft}
    → hs ≡ (out-Handler h).alternatives → o ≡ (out-Handler h).otherwise
    → first.until ≡ length u.code.instrs → first.target ≡ length u.code.instrs + leave_size comes (handler_size (site_around around) (handler_tree h))
    → behind ≡ length u.code.instrs + (leave_size comes (handler_size (site_around around) (handler_tree h)) + handler_size (site_around around) (handler_tree h))
    → PutsRows around.site h first behind u x
    → ((rest : ℕ) → behind ≡ length x.code.instrs + (leave_size comes rest + rest) → Appends (leave_code comes rest behind) (leave_size comes rest) x.code y.code)
    → PutsHandled around hs behind y v → PutsOtherwise around o v z → PutsHandler around h first.from comes u z
handler_told around h hs o first comes behind {u} {x} {y} {v} {z} hs_is o_is until target is rows jump rest last =
    let tree : handler_tree h ≡ handler (handled_of hs) (else_of o) = handler_tree-out h ∙ ap (λ (v : List HandlerAlternative). handler (handled_of v) (else_of (out-Handler h).otherwise)) (sym hs_is)
    ∙ ap (λ (v : Option (List Statement)). handler (handled_of hs) (else_of v)) (sym o_is) in
    record {
      puts = subst (λ (t : HandlerNode). first.target ≡ length u.code.instrs + leave_size comes (handler_size (site_around around) t)
          → behind ≡ length u.code.instrs + (leave_size comes (handler_size (site_around around) t) + handler_size (site_around around) t)
          → (behind ≡ first.target + handler_size (site_around around) t → AppendsRows (rows_of_handler (site_around around) first.from first.until t first.target) u.code x.code)
          → AtHandler (standing_of around) t comes first.from u.code z.code) (sym tree)
          (λ target_is is_there own. handler_node (standing_of around) (handled_of hs) (else_of o) comes first.from first.until first.target behind until target_is is_there own jump (λ place. end (rest.puts o place) last.puts)) target is rows.puts;
    }

abbrev LeftHandled : Standing → HandledNodes → OtherwiseNode → ℕ → HandledNodes → Code → Code → Type 0
LeftHandled w all o behind hs x y =
    StillTo (handled_code w all behind (otherwise_size w.site o 0) (otherwise_code w o no_code)) (handled_size w.site all (otherwise_size w.site o 0)) (handled_rows w.site all (otherwise_size w.site o 0) (otherwise_rows w.site o))
    (handled_code w hs behind (otherwise_size w.site o 0) (otherwise_code w o no_code)) (handled_size w.site hs (otherwise_size w.site o 0)) (handled_rows w.site hs (otherwise_size w.site o 0) (otherwise_rows w.site o)) x y

pub record HandledLeft (around : Around) (hs : List HandlerAlternative) (k behind : ℕ) (old now : Draft) : Type 0 where
  pub left : (o : Option (List Statement)) → behind ≡ length old.code.instrs + handled_parts around hs o → LeftHandled (standing_of around) (handled_of hs) (else_of o) behind (handled_of (drop k hs)) old.code now.code

pub handled_begin : (around : Around) (hs : List HandlerAlternative) (behind : ℕ) (x : Draft) → HandledLeft around hs 0 behind x x
handled_begin around hs behind x = record { left = λ _ _. begin _ _ _ x.code }

handled_step : (w : Standing) (all hs : HandledNodes) (o : OtherwiseNode) (names : List ℕ) (ss : StatementNodes) (behind : ℕ) {x y z : Code}
    → behind ≡ length x.instrs + handled_size w.site all (otherwise_size w.site o 0)
    → LeftHandled w all o behind (more_handled names ss hs) x y
    → ((rest : ℕ) → behind ≡ length y.instrs + (statements_size w.site ss + (leave_size (go_on ss) rest + rest))
    → AppendsAt (λ at. joining (statements_code w ss at) (go_on ss) rest behind) (statements_size w.site ss + leave_size (go_on ss) rest) (statements_rows w.site ss) y z)
    → LeftHandled w all o behind hs x z
handled_step w all hs o names ss behind {x} {y} {z} e p q =
    next_handled w names ss hs behind (otherwise_size w.site o 0) (otherwise_code w o no_code) (otherwise_rows w.site o) p
    (q (handled_size w.site hs (otherwise_size w.site o 0)) (e ∙ sym p.length))

pub handled_turn : (around : Around) (hs : List HandlerAlternative) (k : ℕ) (it : HandlerAlternative) (ss : List Statement) (behind : ℕ) {x y z : Draft}
    → k < length hs → it ≡ get_or hs k it → ss ≡ (out-HandlerAlternative it).actions
    → HandledLeft around hs k behind x y → PutsJoining around ss behind y z → HandledLeft around hs (k + 1) behind x z
handled_turn around hs k it ss behind {x} {y} {z} h e ss_is p q =
    let own : (handled_tree it).actions ≡ statements_of ss = ap (λ (t : NumbersTree). t.actions) (handled_tree-out it) ∙ ap (λ (v : List Statement). statements_of v) (sym ss_is) in
    let tree : handled_of (drop k hs) ≡ more_handled (handled_tree it).numbers (statements_of ss) (handled_of (drop (k + 1) hs)) =
    ap handled_of (item_at hs k it h e) ∙ ap (λ (t : StatementNodes). more_handled (handled_tree it).numbers t (handled_of (drop (k + 1) hs))) own in
    record {
      left = λ o there. handled_step (standing_of around) (handled_of hs) (handled_of (drop (k + 1) hs)) (else_of o) (handled_tree it).numbers (statements_of ss) behind there
          (subst (λ (t : HandledNodes). LeftHandled (standing_of around) (handled_of hs) (else_of o) behind t x.code y.code) tree (p.left o there)) q.puts;
    }

pub handled_end : (around : Around) (hs : List HandlerAlternative) (k behind : ℕ) {x y : Draft} → length hs ≤ k
    → HandledLeft around hs k behind x y → PutsHandled around hs behind x y
handled_end around hs k behind {x} {y} h p = record {
  puts = λ o there. still_as _ _ _ _ _ _ refl refl refl refl refl refl
      (subst (λ (t : HandledNodes). LeftHandled (standing_of around) (handled_of hs) (else_of o) behind t x.code y.code) (at_drop_all handled_of hs k h) (p.left o there));
}

-- ---- ELSE

else_node : (w : Standing) (o : OtherwiseNode) (ss : StatementNodes) (none : CodeAt) (n : ℕ) {x y : Code} → o ≡ otherwise ss → AtStatements w ss x y → AtOtherwise w o none n x y
else_node w o ss none n {x} {y} is p = subst (λ (t : OtherwiseNode). AtOtherwise w t none n x y) (sym is) (told_as _ _ _ refl refl refl p)

else_is : (o : Option (List Statement)) (own ss : List Statement) → o ≡ Some own → ss ≡ own → else_of o ≡ otherwise (statements_of ss)
else_is o own ss some is = ap (λ (v : Option (List Statement)). else_of v) some ∙ ap (λ (v : List Statement). otherwise (statements_of v)) (sym is)

pub else_told : (around : Around) (o : Option (List Statement)) (own ss : List Statement) {x y : Draft} → o ≡ Some own → ss ≡ own → PutsStatements around ss x y → PutsOtherwise around o x y
else_told around o own ss some is p = record { puts = else_node (standing_of around) (else_of o) (statements_of ss) no_code 0 (else_is o own ss some is) p.puts }

pub no_else : (around : Around) (o : Option (List Statement)) (x : Draft) → o ≡ None → PutsOtherwise around o x x
no_else around o x none = record {
  puts = subst (λ (t : OtherwiseNode). AtOtherwise (standing_of around) t no_code 0 x.code x.code) (sym (ap (λ (v : Option (List Statement)). else_of v) none)) (told_as _ _ _ refl refl refl (nothing_at x.code));
}

pub else_unlabelled : (around : Around) (o : Option (List Statement)) (own ss : List Statement) {x y : Draft} → o ≡ Some own → ss ≡ own → PutsStatements around ss x y → PutsUnlabelled around o x y
else_unlabelled around o own ss some is p = record { puts = else_node (standing_of around) (else_of o) (statements_of ss) no_label_code 1 (else_is o own ss some is) p.puts }

pub raise_unlabelled : (around : Around) (o : Option (List Statement)) {x y : Draft} → o ≡ None → Appends (i.Raise 1 ∷ []) 1 x.code y.code → PutsUnlabelled around o x y
raise_unlabelled around o {x} {y} none p = record {
  puts = subst (λ (t : OtherwiseNode). AtOtherwise (standing_of around) t no_label_code 1 x.code y.code) (sym (ap (λ (v : Option (List Statement)). else_of v) none)) (told_as _ _ _ refl refl refl (without_rows no_label_code p));
}

-- ---- parts of which one is done

pub joining_told : (around : Around) (ss tt : List Statement) (goes : Bool) (behind : ℕ) {x y z : Draft} → goes ≡ go_on (statements_of ss) → PutsStatements around ss x y
    → ((rest : ℕ) → behind ≡ length y.code.instrs + (leave_size goes rest + rest) → Appends (leave_code goes rest behind) (leave_size goes rest) y.code z.code)
    → PutsJoining around ss behind x z
joining_told around ss tt goes behind {x} {y} {z} goes_is p q = record {
  puts = λ rest there.
      let jump = subst (λ (g : Bool). (rest : ℕ) → behind ≡ length y.code.instrs + (leave_size g rest + rest) → Appends (leave_code g rest behind) (leave_size g rest) y.code z.code) goes_is q in
      joined_on (standing_of around) (statements_of ss) rest behind p.puts (jump rest (omega (arith, there, p.puts.length))) (append-nil _);
}

pub chosen_told : (around : Around) (ss : List Statement) (behind next : ℕ) (goes : Bool) {x y z : Draft} → goes ≡ go_on (statements_of ss)
    → ((n rest : ℕ) → n ≡ suc (statements_size (site_around around) (statements_of ss)) → behind ≡ length x.code.instrs + (n + (leave_size goes rest + rest)) → next ≡ length x.code.instrs + (n + leave_size goes rest))
    → Appends (i.Unless next ∷ []) 1 x.code y.code → PutsJoining around ss behind y z → PutsChosen around ss behind x z
chosen_told around ss behind next goes {x} {y} {z} goes_is there p q = record {
  puts = λ rest is.
      let leave : leave_size goes rest ≡ leave_size (go_on (statements_of ss)) rest = ap (λ (g : Bool). leave_size g rest) goes_is in
      let to : next ≡ length x.code.instrs + (suc (statements_size (site_around around) (statements_of ss)) + leave_size goes rest) =
      there (suc (statements_size (site_around around) (statements_of ss))) rest refl (omega (arith, is, leave)) in
      let to_next : next ≡ length x.code.instrs + (suc (statements_size (site_around around) (statements_of ss)) + leave_size (go_on (statements_of ss)) rest) = omega (arith, to, leave) in
      chosen_on (standing_of around) (statements_of ss) rest behind next to_next p (q.puts rest (omega (arith, is, p.length)));
}

-- ---- IF

-- a condition, and the actions that are done where it is TRUE
choice_node : (w : Standing) (e : ExprTree) (ss : StatementNodes) (rest behind next : ℕ) {x y z : Code}
    → next ≡ length x.instrs + (condition_size e false + statements_size w.site ss + leave_size (go_on ss) rest)
    → Appends (condition_code (layout w.site) w.free e false next (length x.instrs)) (condition_size e false) x y
    → AppendsAt (λ at. joining (statements_code w ss at) (go_on ss) rest behind) (statements_size w.site ss + leave_size (go_on ss) rest) (statements_rows w.site ss) y z
    → AppendsAt (choice_code w e ss rest behind) (condition_size e false + statements_size w.site ss + leave_size (go_on ss) rest) (λ at. statements_rows w.site ss (at + condition_size e false)) x z
choice_node w e ss rest behind next {x} {y} {z} is p q =
    let own = subst (λ (k : ℕ). Appends (condition_code (layout w.site) w.free e false k (length x.instrs)) (condition_size e false) x y) is p in
    told_as _ _ _ refl (omega arith) refl
    (then_at (without_rows (λ at. condition_code (layout w.site) w.free e false (at + (condition_size e false + statements_size w.site ss + leave_size (go_on ss) rest)) at) own) q)

pub choice_told : (around : Around) (c : Choice) (e : Expr) (ss : List Statement) (behind next : ℕ) (goes : Bool) {x y z : Draft}
    → e ≡ (out-Choice c).condition.value → ss ≡ (out-Choice c).actions → goes ≡ go_on (statements_of ss)
    → ((n rest : ℕ) → n ≡ choice_parts around c → behind ≡ length x.code.instrs + (n + (leave_size goes rest + rest)) → next ≡ length x.code.instrs + (n + leave_size goes rest))
    → Appends (condition_code (layout (site_around around)) around.free (expr_tree e) false next (length x.code.instrs)) (condition_size (expr_tree e) false) x.code y.code
    → PutsJoining around ss behind y z → PutsChoice around c behind x z
choice_told around c e ss behind next goes {x} {y} {z} e_is ss_is goes_is there p q =
    let condition : expr_tree e ≡ (choice_tree c).condition = ap (λ (v : Expr). expr_tree v) e_is ∙ sym (ap (λ (t : ChoiceTree). t.condition) (choice_tree-out c)) in
    let own : statements_of ss ≡ (choice_tree c).actions = ap (λ (v : List Statement). statements_of v) ss_is ∙ sym (ap (λ (t : ChoiceTree). t.actions) (choice_tree-out c)) in
    let goes_on_is : goes ≡ go_on (choice_tree c).actions = goes_is ∙ ap (λ (t : StatementNodes). go_on t) own in
    let p1 = subst (λ (t : ExprTree). Appends (condition_code (layout (site_around around)) around.free t false next (length x.code.instrs)) (condition_size t false) x.code y.code) condition p in
    let q1 = subst (λ (t : StatementNodes). (rest : ℕ) → behind ≡ length y.code.instrs + (statements_size (site_around around) t + (leave_size (go_on t) rest + rest))
    → AppendsAt (λ at. joining (statements_code (standing_of around) t at) (go_on t) rest behind) (statements_size (site_around around) t + leave_size (go_on t) rest) (statements_rows (site_around around) t) y.code z.code) own q.puts in
    record {
      puts = λ rest is.
          let leave : leave_size goes rest ≡ leave_size (go_on (choice_tree c).actions) rest = ap (λ (g : Bool). leave_size g rest) goes_on_is in
          let to : next ≡ length x.code.instrs + (choice_parts around c + leave_size goes rest) = there (choice_parts around c) rest refl (omega (arith, is, leave)) in
          choice_node (standing_of around) (choice_tree c).condition (choice_tree c).actions rest behind next (omega (arith, to, leave)) p1 (q1 rest (omega (arith, is, p1.length)));
    }

abbrev LeftChoices : Standing → ChoiceNodes → StatementNodes → ℕ → ChoiceNodes → Code → Code → Type 0
LeftChoices w all ss behind cs x y =
    StillTo (choices_code w all behind (statements_size w.site ss) (statements_code w ss)) (choices_size w.site all (statements_size w.site ss)) (choices_rows w.site all (statements_size w.site ss) (statements_rows w.site ss))
    (choices_code w cs behind (statements_size w.site ss) (statements_code w ss)) (choices_size w.site cs (statements_size w.site ss)) (choices_rows w.site cs (statements_size w.site ss) (statements_rows w.site ss)) x y

pub record ChoicesLeft (around : Around) (cs : List Choice) (k behind : ℕ) (old now : Draft) : Type 0 where
  pub left : (ss : List Statement) → behind ≡ length old.code.instrs + choices_parts around cs ss → LeftChoices (standing_of around) (choices_of cs) (statements_of ss) behind (choices_of (drop k cs)) old.code now.code

pub choices_begin : (around : Around) (cs : List Choice) (behind : ℕ) (x : Draft) → ChoicesLeft around cs 0 behind x x
choices_begin around cs behind x = record { left = λ _ _. begin _ _ _ x.code }

choices_step : (w : Standing) (all cs : ChoiceNodes) (last : StatementNodes) (e : ExprTree) (ss : StatementNodes) (behind : ℕ) {x y z : Code}
    → behind ≡ length x.instrs + choices_size w.site all (statements_size w.site last)
    → LeftChoices w all last behind (more_choices e ss cs) x y
    → ((rest : ℕ) → behind ≡ length y.instrs + (condition_size e false + statements_size w.site ss + (leave_size (go_on ss) rest + rest))
    → AppendsAt (choice_code w e ss rest behind) (condition_size e false + statements_size w.site ss + leave_size (go_on ss) rest) (λ at. statements_rows w.site ss (at + condition_size e false)) y z)
    → LeftChoices w all last behind cs x z
choices_step w all cs last e ss behind there p q =
    next_choice w e ss cs behind (statements_size w.site last) (statements_code w last) (statements_rows w.site last) p (q (choices_size w.site cs (statements_size w.site last)) (there ∙ sym p.length))

pub choices_turn : (around : Around) (cs : List Choice) (k : ℕ) (it : Choice) (behind : ℕ) {x y z : Draft} → k < length cs → it ≡ get_or cs k it
    → ChoicesLeft around cs k behind x y → PutsChoice around it behind y z → ChoicesLeft around cs (k + 1) behind x z
choices_turn around cs k it behind {x} {y} {z} h e p q =
    let tree : choices_of (drop k cs) ≡ more_choices (choice_tree it).condition (choice_tree it).actions (choices_of (drop (k + 1) cs)) = ap choices_of (item_at cs k it h e) in
    record {
      left = λ ss there. choices_step (standing_of around) (choices_of cs) (choices_of (drop (k + 1) cs)) (statements_of ss) (choice_tree it).condition (choice_tree it).actions behind there
          (subst (λ (t : ChoiceNodes). LeftChoices (standing_of around) (choices_of cs) (statements_of ss) behind t x.code y.code) tree (p.left ss there)) q.puts;
    }

pub choices_end : (around : Around) (cs : List Choice) (k behind : ℕ) {x y : Draft} → length cs ≤ k
    → ChoicesLeft around cs k behind x y → PutsChoices around cs behind x y
choices_end around cs k behind {x} {y} h p = record {
  puts = λ ss there. still_as _ _ _ _ _ _ refl refl refl refl refl refl
      (subst (λ (t : ChoiceNodes). LeftChoices (standing_of around) (choices_of cs) (statements_of ss) behind t x.code y.code) (at_drop_all choices_of cs k h) (p.left ss there));
}

-- ---- CASE

abbrev LeftCases : Standing → CaseNodes → OtherwiseNode → ℕ → CaseNodes → Code → Code → Type 0
LeftCases w all o behind cs x y =
    StillTo (cases_code w all behind (otherwise_size w.site o 1) (otherwise_code w o no_label_code)) (cases_size w.site all (otherwise_size w.site o 1)) (cases_rows w.site all (otherwise_size w.site o 1) (otherwise_rows w.site o))
    (cases_code w cs behind (otherwise_size w.site o 1) (otherwise_code w o no_label_code)) (cases_size w.site cs (otherwise_size w.site o 1)) (cases_rows w.site cs (otherwise_size w.site o 1) (otherwise_rows w.site o)) x y

pub record CasesLeft (around : Around) (cs : List CaseAlternative) (k behind : ℕ) (old now : Draft) : Type 0 where
  pub left : (o : Option (List Statement)) → behind ≡ length old.code.instrs + cases_parts around cs o → LeftCases (standing_of around) (cases_of cs) (else_of o) behind (cases_of (drop k cs)) old.code now.code

pub cases_begin : (around : Around) (cs : List CaseAlternative) (behind : ℕ) (x : Draft) → CasesLeft around cs 0 behind x x
cases_begin around cs behind x = record { left = λ _ _. begin _ _ _ x.code }

cases_step : (w : Standing) (all cs : CaseNodes) (o : OtherwiseNode) (labels : List Bounds) (ss : StatementNodes) (behind : ℕ) {x y1 y2 z : Code}
    → behind ≡ length x.instrs + cases_size w.site all (otherwise_size w.site o 1)
    → LeftCases w all o behind (more_cases labels ss cs) x y1
    → Appends (labels_code w.free labels) (labels_size labels) y1 y2
    → ((rest : ℕ) → behind ≡ length y2.instrs + (1 + statements_size w.site ss + (leave_size (go_on ss) rest + rest))
    → AppendsAt (chosen (statements_code w ss) (statements_size w.site ss) (go_on ss) rest behind) (1 + statements_size w.site ss + leave_size (go_on ss) rest) (λ at. statements_rows w.site ss (at + 1)) y2 z)
    → LeftCases w all o behind cs x z
cases_step w all cs o labels ss behind {x} {y1} {y2} {z} there p l q =
    let rest : ℕ = cases_size w.site cs (otherwise_size w.site o 1) in
    let left : length y1.instrs + ((labels_size labels + suc (statements_size w.site ss)) + (leave_size (go_on ss) (cases_size w.site cs (otherwise_size w.site o 1)) + cases_size w.site cs (otherwise_size w.site o 1)))
    ≡ length x.instrs + cases_size w.site all (otherwise_size w.site o 1) = p.length in
    next_case w labels ss cs behind (otherwise_size w.site o 1) (otherwise_code w o no_label_code) (otherwise_rows w.site o) p
    (cased w labels ss (cases_size w.site cs (otherwise_size w.site o 1)) behind l (q (cases_size w.site cs (otherwise_size w.site o 1)) (omega (arith, there, left, l.length))))

abbrev case_of_parts : List Bounds → StatementNodes → CaseTree
case_of_parts labels ss = record { labels = labels; actions = ss }

pub cases_turn : (around : Around) (cs : List CaseAlternative) (k : ℕ) (it : CaseAlternative) (labels : List Bounds) (ss : List Statement) (behind : ℕ) {x y1 y2 z : Draft}
    → k < length cs → it ≡ get_or cs k it → labels ≡ (out-CaseAlternative it).labels → ss ≡ (out-CaseAlternative it).actions
    → CasesLeft around cs k behind x y1 → Appends (labels_code around.free labels) (labels_size labels) y1.code y2.code → PutsChosen around ss behind y2 z
    → CasesLeft around cs (k + 1) behind x z
cases_turn around cs k it labels ss behind {x} {y1} {y2} {z} h e labels_are ss_is p l q =
    let own : case_tree it ≡ record { labels = labels; actions = statements_of ss } = case_tree-out it
    ∙ ap (λ (v : List Bounds). case_of_parts v (statements_of (out-CaseAlternative it).actions)) (sym labels_are) ∙ ap (λ (v : List Statement). case_of_parts labels (statements_of v)) (sym ss_is) in
    let tree : cases_of (drop k cs) ≡ more_cases labels (statements_of ss) (cases_of (drop (k + 1) cs)) =
    ap cases_of (item_at cs k it h e) ∙ ap (λ (t : CaseTree). more_cases t.labels t.actions (cases_of (drop (k + 1) cs))) own in
    record {
      left = λ o there. cases_step (standing_of around) (cases_of cs) (cases_of (drop (k + 1) cs)) (else_of o) labels (statements_of ss) behind there
          (subst (λ (t : CaseNodes). LeftCases (standing_of around) (cases_of cs) (else_of o) behind t x.code y1.code) tree (p.left o there)) l q.puts;
    }

pub cases_end : (around : Around) (cs : List CaseAlternative) (k behind : ℕ) {x y : Draft} → length cs ≤ k
    → CasesLeft around cs k behind x y → PutsCases around cs behind x y
cases_end around cs k behind {x} {y} h p = record {
  puts = λ o there. still_as _ _ _ _ _ _ refl refl refl refl refl refl
      (subst (λ (t : CaseNodes). LeftCases (standing_of around) (cases_of cs) (else_of o) behind t x.code y.code) (at_drop_all cases_of cs k h) (p.left o there));
}

-- ---- DO

loop_node : (w : Standing) (c : ControlTree) (ss : StatementNodes) (behind : ℕ) (back : List Instr) {x y1 y2 y3 z : Code}
    → behind ≡ length x.instrs + (control_size c + (statements_size w.site ss + turn_back_size (go_on ss)))
    → Appends (before_turns w c behind (length x.instrs)) (before_turns_size c) x y1
    → Appends (turn_test w c behind (length y1.instrs)) (turn_test_size c) y1 y2
    → AtStatements (taking w (locals_kept c)) ss y2 y3
    → Appends back (turn_back_size (go_on ss)) y3 z
    → (back ≡ (if go_on ss then i.Again (length y1.instrs) ∷ [] else []))
    → AppendsAt (loop_code w c (statements_code (taking w (locals_kept c)) ss) (statements_size w.site ss) (go_on ss))
    (control_size c + (statements_size w.site ss + turn_back_size (go_on ss))) (λ at. statements_rows w.site ss (at + control_size c)) x z
loop_node w c ss behind back {x} {y1} {y2} {y3} {z} there p q r s back_is =
    let test = subst (λ (k : ℕ). Appends (turn_test w c behind k) (turn_test_size c) y1 y2) p.length q in
    let control : Appends (control_code w c behind (length x.instrs)) (control_size c) x y2 = and_then p test in
    let own = subst (λ (k : ℕ). Appends (control_code w c k (length x.instrs)) (control_size c) x y2) there control in
    let turned : back ≡ turn_back_code (go_on ss) (length x.instrs + before_turns_size c) = back_is ∙ ap (λ (k : ℕ). if go_on ss then i.Again k ∷ [] else []) p.length in
    let last = subst (λ (is : List Instr). Appends is (turn_back_size (go_on ss)) y3 z) turned s in
    told_as _ _ _ refl refl (append-nil _)
    (then_at (without_rows (λ at. control_code w c (at + (control_size c + (statements_size w.site ss + turn_back_size (go_on ss)))) at) own)
    (then_at r (without_rows (λ at. turn_back_code (go_on ss) (length x.instrs + before_turns_size c)) last)))

-- where the actions of a loop stand
loop_inside : (around inside : Around) (n m : ℕ) → inside ≡ record around { free = around.free + n } → n ≡ m → standing_of inside ≡ taking (standing_of around) m
loop_inside around inside n m e f = ap (λ (a : Around). standing_of a) e ∙ ap (λ (k : ℕ). taking (standing_of around) k) f

back_again : (g : Bool) (again at : ℕ) → g ≡ true → again ≡ at → i.Again again ∷ [] ≡ (if g then i.Again at ∷ [] else [])
back_again g again at e f = ap (λ (k : ℕ). i.Again k ∷ []) f ∙ sym (ap (λ (b : Bool). if b then i.Again at ∷ [] else []) e)

pub loop_again : (around inside : Around) (c : Control) (ss : List Statement) (n behind again : ℕ) (y1 y2 y3 : Draft) {x z : Draft}
    → inside ≡ record around { free = around.free + n } → n ≡ locals_kept (control_tree c) → go_on (statements_of ss) ≡ true → again ≡ length y1.code.instrs
    → Appends (before_turns (standing_of around) (control_tree c) behind (length x.code.instrs)) (before_turns_size (control_tree c)) x.code y1.code
    → Appends (turn_test (standing_of around) (control_tree c) behind (length y1.code.instrs)) (turn_test_size (control_tree c)) y1.code y2.code
    → PutsStatements inside ss y2 y3 → Appends (i.Again again ∷ []) 1 y3.code z.code → PutsDo around c ss behind x z
loop_again around inside c ss n behind again y1 y2 y3 {x} {z} in_is n_is goes there p q r s =
    let turns = subst (λ (w : Standing). AtStatements w (statements_of ss) y2.code y3.code) (loop_inside around inside n (locals_kept (control_tree c)) in_is n_is) r.puts in
    let back = subst (λ (g : Bool). Appends (i.Again again ∷ []) (turn_back_size g) y3.code z.code) (sym goes) s in
    record { puts = λ to. loop_node (standing_of around) (control_tree c) (statements_of ss) behind (i.Again again ∷ []) to p q turns back (back_again (go_on (statements_of ss)) again (length y1.code.instrs) goes there) }

pub loop_left : (around inside : Around) (c : Control) (ss : List Statement) (n behind : ℕ) (y1 y2 : Draft) {x y3 : Draft}
    → inside ≡ record around { free = around.free + n } → n ≡ locals_kept (control_tree c) → go_on (statements_of ss) ≡ false
    → Appends (before_turns (standing_of around) (control_tree c) behind (length x.code.instrs)) (before_turns_size (control_tree c)) x.code y1.code
    → Appends (turn_test (standing_of around) (control_tree c) behind (length y1.code.instrs)) (turn_test_size (control_tree c)) y1.code y2.code
    → PutsStatements inside ss y2 y3 → PutsDo around c ss behind x y3
loop_left around inside c ss n behind y1 y2 {x} {y3} in_is n_is goes p q r =
    let turns = subst (λ (w : Standing). AtStatements w (statements_of ss) y2.code y3.code) (loop_inside around inside n (locals_kept (control_tree c)) in_is n_is) r.puts in
    let back = subst (λ (g : Bool). Appends [] (turn_back_size g) y3.code y3.code) (sym goes) (nothing y3.code) in
    let none : [] ≡ (if go_on (statements_of ss) then i.Again (length y1.code.instrs) ∷ [] else []) = sym (ap (λ (b : Bool). if b then i.Again (length y1.code.instrs) ∷ [] else []) goes) in
    record { puts = λ to. loop_node (standing_of around) (control_tree c) (statements_of ss) behind [] to p q turns back none }

-- ---- DELAY CASE

abbrev LeftDelays : Standing → DelayNodes → ℕ → ℕ → ℕ → DelayNodes → Code → Code → Type 0
LeftDelays w all kept behind k ds x y =
    StillTo (delays_code w kept 0 all behind) (delays_size w.site all) (delays_rows w.site all) (delays_code w kept k ds behind) (delays_size w.site ds) (delays_rows w.site ds) x y

pub record DelaysLeft (around : Around) (ds : List DelayAlternative) (kept k behind : ℕ) (old now : Draft) : Type 0 where
  pub left : behind ≡ length old.code.instrs + delays_size (site_around around) (delays_of ds)
      → LeftDelays (standing_of around) (delays_of ds) kept behind k (delays_of (drop k ds)) old.code now.code

pub delays_begin : (around : Around) (ds : List DelayAlternative) (kept behind : ℕ) (x : Draft) → DelaysLeft around ds kept 0 behind x x
delays_begin around ds kept behind x = record { left = λ _. begin _ _ _ x.code }

abbrev IsChosen : Standing → StatementNodes → ℕ → Code → Code → Type 0
IsChosen w ss behind x y =
    (rest : ℕ) → behind ≡ length x.instrs + (1 + statements_size w.site ss + (leave_size (go_on ss) rest + rest))
    → AppendsAt (chosen (statements_code w ss) (statements_size w.site ss) (go_on ss) rest behind) (1 + statements_size w.site ss + leave_size (go_on ss) rest) (λ at. statements_rows w.site ss (at + 1)) x y

delays_step : (w : Standing) (all ds : DelayNodes) (kept k : ℕ) (es : List ℕ) (ss : StatementNodes) (behind : ℕ) {x y1 y2 z : Code}
    → behind ≡ length x.instrs + delays_size w.site all → LeftDelays w all kept behind k (more_delays es ss ds) x y1
    → Appends (is_chosen_code kept k) 3 y1 y2 → IsChosen w ss behind y2 z → LeftDelays w all kept behind (suc k) ds x z
delays_step w all ds kept k es ss behind {x} {y1} {y2} {z} there p t q =
    let left : length y1.instrs + ((3 + suc (statements_size w.site ss)) + (leave_size (go_on ss) (delays_size w.site ds) + delays_size w.site ds)) ≡ length x.instrs + delays_size w.site all = p.length in
    next_delay w kept k es ss ds behind p (waited w kept k ss (delays_size w.site ds) behind t (q (delays_size w.site ds) (omega (arith, there, left, t.length))))

pub delays_turn : (around : Around) (ds : List DelayAlternative) (kept k : ℕ) (it : DelayAlternative) (ss : List Statement) (behind : ℕ) {x y1 y2 z : Draft}
    → k < length ds → it ≡ get_or ds k it → ss ≡ (out-DelayAlternative it).actions
    → DelaysLeft around ds kept k behind x y1 → Appends (is_chosen_code kept k) 3 y1.code y2.code → PutsChosen around ss behind y2 z → DelaysLeft around ds kept (k + 1) behind x z
delays_turn around ds kept k it ss behind {x} {y1} {y2} {z} h e ss_is p t q =
    let own : (delay_tree it).actions ≡ statements_of ss = ap (λ (t : NumbersTree). t.actions) (delay_tree-out it) ∙ ap (λ (v : List Statement). statements_of v) (sym ss_is) in
    let tree : delays_of (drop k ds) ≡ more_delays (delay_tree it).numbers (statements_of ss) (delays_of (drop (k + 1) ds)) =
    ap delays_of (item_at ds k it h e) ∙ ap (λ (t : StatementNodes). more_delays (delay_tree it).numbers t (delays_of (drop (k + 1) ds))) own in
    let one : suc k ≡ k + 1 = omega arith in
    record {
      left = λ there. subst (λ (j : ℕ). LeftDelays (standing_of around) (delays_of ds) kept behind j (delays_of (drop (k + 1) ds)) x.code z.code) one
          (delays_step (standing_of around) (delays_of ds) (delays_of (drop (k + 1) ds)) kept k (delay_tree it).numbers (statements_of ss) behind there
          (subst (λ (t : DelayNodes). LeftDelays (standing_of around) (delays_of ds) kept behind k t x.code y1.code) tree (p.left there)) t q.puts);
    }

pub delays_end : (around : Around) (ds : List DelayAlternative) (kept k behind : ℕ) {x y : Draft} → length ds ≤ k → DelaysLeft around ds kept k behind x y → PutsDelays around ds kept behind x y
delays_end around ds kept k behind {x} {y} h p = record {
  puts = λ there. done (subst (λ (t : DelayNodes). LeftDelays (standing_of around) (delays_of ds) kept behind k t x.code y.code) (at_drop_all delays_of ds k h) (p.left there)) refl refl refl;
}

-- ---- RECEIVE CASE

abbrev LeftReceives : Standing → ReceiveNodes → OtherwiseNode → ℕ → ℕ → ℕ → ReceiveNodes → Code → Code → Type 0
LeftReceives w all o kept behind k rs x y =
    StillTo (receives_code w kept 0 all behind (otherwise_size w.site o 0) (otherwise_code w o no_code)) (receives_size w.site all (otherwise_size w.site o 0)) (receives_rows w.site all (otherwise_size w.site o 0) (otherwise_rows w.site o))
    (receives_code w kept k rs behind (otherwise_size w.site o 0) (otherwise_code w o no_code)) (receives_size w.site rs (otherwise_size w.site o 0)) (receives_rows w.site rs (otherwise_size w.site o 0) (otherwise_rows w.site o)) x y

pub record ReceivesLeft (around : Around) (rs : List ReceiveAlternative) (kept : Kept) (k : ℕ) (old now : Draft) : Type 0 where
  pub left : (o : Option (List Statement)) → kept.behind ≡ length old.code.instrs + receives_parts around rs o
      → LeftReceives (standing_of around) (receives_of rs) (else_of o) kept.chosen kept.behind k (receives_of (drop k rs)) old.code now.code

pub receives_begin : (around : Around) (rs : List ReceiveAlternative) (kept : Kept) (x : Draft) → ReceivesLeft around rs kept 0 x x
receives_begin around rs kept x = record { left = λ _ _. begin _ _ _ x.code }

receives_step : (w : Standing) (all rs : ReceiveNodes) (o : OtherwiseNode) (kept k source : ℕ) (ks : List ℕ) (ss : StatementNodes) (behind : ℕ) {x y1 y2 z : Code}
    → behind ≡ length x.instrs + receives_size w.site all (otherwise_size w.site o 0) → LeftReceives w all o kept behind k (more_receives source ks ss rs) x y1
    → Appends (is_chosen_code kept k) 3 y1 y2 → IsChosen w ss behind y2 z → LeftReceives w all o kept behind (suc k) rs x z
receives_step w all rs o kept k source ks ss behind {x} {y1} {y2} {z} there p t q =
    let left : length y1.instrs + ((3 + suc (statements_size w.site ss)) + (leave_size (go_on ss) (receives_size w.site rs (otherwise_size w.site o 0)) + receives_size w.site rs (otherwise_size w.site o 0)))
    ≡ length x.instrs + receives_size w.site all (otherwise_size w.site o 0) = p.length in
    next_receive w kept k source ks ss rs behind (otherwise_size w.site o 0) (otherwise_code w o no_code) (otherwise_rows w.site o) p
    (waited w kept k ss (receives_size w.site rs (otherwise_size w.site o 0)) behind t (q (receives_size w.site rs (otherwise_size w.site o 0)) (omega (arith, there, left, t.length))))

pub receives_turn : (around : Around) (rs : List ReceiveAlternative) (kept : Kept) (k : ℕ) (it : ReceiveAlternative) (ss : List Statement) {x y1 y2 z : Draft}
    → k < length rs → it ≡ get_or rs k it → ss ≡ (out-ReceiveAlternative it).actions
    → ReceivesLeft around rs kept k x y1 → Appends (is_chosen_code kept.chosen k) 3 y1.code y2.code → PutsChosen around ss kept.behind y2 z → ReceivesLeft around rs kept (k + 1) x z
receives_turn around rs kept k it ss {x} {y1} {y2} {z} h e ss_is p t q =
    let own : (receive_tree it).actions ≡ statements_of ss = ap (λ (t : ReceiveTree). t.actions) (receive_tree-out it) ∙ ap (λ (v : List Statement). statements_of v) (sym ss_is) in
    let tree : receives_of (drop k rs) ≡ more_receives (receive_tree it).source (receive_tree it).received (statements_of ss) (receives_of (drop (k + 1) rs)) =
    ap receives_of (item_at rs k it h e) ∙ ap (λ (t : StatementNodes). more_receives (receive_tree it).source (receive_tree it).received t (receives_of (drop (k + 1) rs))) own in
    let one : suc k ≡ k + 1 = omega arith in
    record {
      left = λ o there. subst (λ (j : ℕ). LeftReceives (standing_of around) (receives_of rs) (else_of o) kept.chosen kept.behind j (receives_of (drop (k + 1) rs)) x.code z.code) one
          (receives_step (standing_of around) (receives_of rs) (receives_of (drop (k + 1) rs)) (else_of o) kept.chosen k (receive_tree it).source (receive_tree it).received (statements_of ss) kept.behind there
          (subst (λ (t : ReceiveNodes). LeftReceives (standing_of around) (receives_of rs) (else_of o) kept.chosen kept.behind k t x.code y1.code) tree (p.left o there)) t q.puts);
    }

pub receives_end : (around : Around) (rs : List ReceiveAlternative) (kept : Kept) (k : ℕ) {x y : Draft} → length rs ≤ k
    → ReceivesLeft around rs kept k x y → PutsReceives around rs kept x y
receives_end around rs kept k {x} {y} h p = record {
  puts = λ o there. still_as _ _ _ _ _ _ refl refl refl refl refl refl
      (subst (λ (t : ReceiveNodes). LeftReceives (standing_of around) (receives_of rs) (else_of o) kept.chosen kept.behind k t x.code y.code) (at_drop_all receives_of rs k h) (p.left o there));
}

-- all alternatives are put, and ELSE is left
abbrev AllReceives : Standing → ReceiveNodes → OtherwiseNode → ℕ → ℕ → Code → Code → Type 0
AllReceives w rs o kept behind x y =
    StillTo (receives_code w kept 0 rs behind (otherwise_size w.site o 0) (otherwise_code w o no_code)) (receives_size w.site rs (otherwise_size w.site o 0)) (receives_rows w.site rs (otherwise_size w.site o 0) (otherwise_rows w.site o))
    (otherwise_code w o no_code) (otherwise_size w.site o 0) (otherwise_rows w.site o) x y

-- the wait and the alternatives
abbrev AtReceiving : Standing → Receives → Option LocationTree → ReceiveNodes → OtherwiseNode → Code → Code → Type 0
AtReceiving w kind set rs o x y =
    AppendsAt (receive_action_code w kind set rs o) (receive_wait_size set rs (has_else o) + receives_size w.site rs (otherwise_size w.site o 0)) (receive_action_rows w.site set rs o) x y

-- ELSE is left
abbrev ReceivingTo : Standing → Receives → Option LocationTree → ReceiveNodes → OtherwiseNode → Code → Code → Type 0
ReceivingTo w kind set rs o x y =
    StillTo (receive_action_code w kind set rs o) (receive_wait_size set rs (has_else o) + receives_size w.site rs (otherwise_size w.site o 0)) (receive_action_rows w.site set rs o)
    (otherwise_code w o no_code) (otherwise_size w.site o 0) (otherwise_rows w.site o) x y

receive_node : (w : Standing) (kind : Receives) (set : Option LocationTree) (rs : ReceiveNodes) (o : OtherwiseNode) (behind nothing_at : ℕ) {x y z : Code}
    → behind ≡ length x.instrs + (receive_wait_size set rs (has_else o) + receives_size w.site rs (otherwise_size w.site o 0))
    → nothing_at ≡ behind - otherwise_size w.site o 0
    → Appends (receive_wait_code w kind set rs (has_else o) nothing_at (length x.instrs)) (receive_wait_size set rs (has_else o)) x y
    → AllReceives w rs o (chosen_in w.free set) behind y z
    → ReceivingTo w kind set rs o x z
receive_node w from_buffers set rs o behind nothing_at {x} {y} {z} there is p q =
    let to = is ∙ ap (λ (k : ℕ). k - otherwise_size w.site o 0) there in
    let p1 = subst (λ (k : ℕ). Appends (receive_wait_code w from_buffers set rs (has_else o) k (length x.instrs)) (receive_wait_size set rs (has_else o)) x y) to p in
    let q1 = subst (λ (k : ℕ). AllReceives w rs o (chosen_in w.free set) k y z) there q in
    still_as _ _ _ _ _ _ refl refl refl refl refl refl
    (before_still (without_rows (λ at. receive_wait_code w from_buffers set rs (has_else o) ((at + (receive_wait_size set rs (has_else o) + receives_size w.site rs (otherwise_size w.site o 0))) - otherwise_size w.site o 0) at) p1) q1)
receive_node w of_signals set rs o behind nothing_at {x} {y} {z} there is p q =
    let to = is ∙ ap (λ (k : ℕ). k - otherwise_size w.site o 0) there in
    let p1 = subst (λ (k : ℕ). Appends (receive_wait_code w of_signals set rs (has_else o) k (length x.instrs)) (receive_wait_size set rs (has_else o)) x y) to p in
    let q1 = subst (λ (k : ℕ). AllReceives w rs o (chosen_in w.free set) k y z) there q in
    still_as _ _ _ _ _ _ refl refl refl refl refl refl
    (before_still (without_rows (λ at. receive_wait_code w of_signals set rs (has_else o) ((at + (receive_wait_size set rs (has_else o) + receives_size w.site rs (otherwise_size w.site o 0))) - otherwise_size w.site o 0) at) p1) q1)

pub receive_told : (around : Around) (rs : List ReceiveAlternative) (o : Option (List Statement)) (wait : Wait) (kept : Kept) (last nothing_at : ℕ) {x y z : Draft}
    → wait.behind ≤ 4294967295 → last ≡ capped (otherwise_size (site_around around) (else_of o) 0) → nothing_at ≡ wait.behind - last
    → kept.chosen ≡ chosen_in around.free (set_tree wait.set.now) → kept.behind ≡ wait.behind
    → Appends (receive_wait_code (standing_of around) (kind_of wait.receives) (set_tree wait.set.now) (receives_of rs) (waits_else wait.receives) nothing_at (length x.code.instrs)) (receive_wait_size (set_tree wait.set.now) (receives_of rs) (waits_else wait.receives)) x.code y.code
    → PutsReceives around rs kept y z → PutsReceiveCase around rs o wait x z
receive_told around rs o wait kept last nothing_at {x} {y} {z} fits last_is is chosen_is behind_is p q =
    let at_nothing : nothing_at ≡ wait.behind - otherwise_size (site_around around) (else_of o) 0 = omega (arith, fits, last_is, is) in
    record {
      puts = λ same there.
          let p1 = subst (λ (b : Bool). Appends (receive_wait_code (standing_of around) (kind_of wait.receives) (set_tree wait.set.now) (receives_of rs) b nothing_at (length x.code.instrs)) (receive_wait_size (set_tree wait.set.now) (receives_of rs) b) x.code y.code) same p in
          let q1 = q.puts o (behind_is ∙ behind_after (length x.code.instrs) (length y.code.instrs) _ _ wait.behind there p1.length) in
          let q2 = subst (λ (k : ℕ). AllReceives (standing_of around) (receives_of rs) (else_of o) k kept.behind y.code z.code) chosen_is q1 in
          let q3 = subst (λ (k : ℕ). AllReceives (standing_of around) (receives_of rs) (else_of o) (chosen_in around.free (set_tree wait.set.now)) k y.code z.code) behind_is q2 in
          receive_node (standing_of around) (kind_of wait.receives) (set_tree wait.set.now) (receives_of rs) (else_of o) wait.behind nothing_at there at_nothing p1 q3;
    }

-- ---- actions

rows_of_none : (site : Site) (t : ActionTree) (at : ℕ) → holds_statements t ≡ false → action_rows site t at ≡ []
rows_of_none site do_nothing at h = refl
rows_of_none site (declare names r) at h = refl
rows_of_none site (set_lowest locals xs) at h = refl
rows_of_none site (module_at ss) at h = refl
rows_of_none site (region_at r ss) at h = refl
rows_of_none site (assign l r) at h = refl
rows_of_none site (update l o e bounds) at h = refl
rows_of_none site (perform c) at h = refl
rows_of_none site (drop_routine r e) at h = refl
rows_of_none site (evaluate e) at h = refl
rows_of_none site (put_int e) at h = refl
rows_of_none site (put_text e) at h = refl
rows_of_none site put_line at h = refl
rows_of_none site (exit_from k) at h = refl
rows_of_none site (return_with r) at h = refl
rows_of_none site (set_result r) at h = refl
rows_of_none site (assert_that e) at h = refl
rows_of_none site (cause x) at h = refl
rows_of_none site stop at h = refl
rows_of_none site (start_of t) at h = refl
rows_of_none site (delay e priority) at h = refl
rows_of_none site (continue_at e) at h = refl
rows_of_none site (send sent priority) at h = refl
rows_of_none site (if_then cs ss) at h = absurd (false≢true (sym h))
rows_of_none site (case_of e cs o) at h = absurd (false≢true (sym h))
rows_of_none site (do_loop c ss) at h = absurd (false≢true (sym h))
rows_of_none site (begin_end ss) at h = absurd (false≢true (sym h))
rows_of_none site (delay_case set priority ds) at h = absurd (false≢true (sym h))
rows_of_none site (receive_buffers set rs o) at h = absurd (false≢true (sym h))
rows_of_none site (receive_signals set rs o) at h = absurd (false≢true (sym h))

pub plain_told : (around : Around) (a : Action) (behind : ℕ) {x y : Draft} → holds_statements (action_tree a) ≡ false
    → Appends (action_code (standing_of around) (action_tree a) (length x.code.instrs)) (action_size (site_around around) (action_tree a)) x.code y.code
    → PutsActionTo around a behind x y
plain_told around a behind {x} none p = record {
  puts = λ _. told_as _ _ _ refl refl (sym (rows_of_none (site_around around) (action_tree a) (length x.code.instrs) none)) (without_rows (λ at. action_code (standing_of around) (action_tree a) at) p);
}

pub action_told : (around : Around) (a : Action) (behind : ℕ) {x y : Draft} → behind ≡ length x.code.instrs + action_size (site_around around) (action_tree a)
    → PutsActionTo around a behind x y → PutsAction around a x y
action_told around a behind there p = record { puts = p.puts there }

-- an action of this tree, behind which is a place
of_tree : (around : Around) (a : Action) (t : ActionTree) (behind : ℕ) {x y : Draft} → action_tree a ≡ t
    → (behind ≡ length x.code.instrs + action_size (site_around around) t → AtAction (standing_of around) t x.code y.code) → PutsActionTo around a behind x y
of_tree around a t behind {x} {y} is p = record {
  puts = subst (λ (v : ActionTree). behind ≡ length x.code.instrs + action_size (site_around around) v → AtAction (standing_of around) v x.code y.code) (sym is) p;
}

if_node : (w : Standing) (cs : ChoiceNodes) (ss : StatementNodes) (behind : ℕ) {x y : Code}
    → behind ≡ length x.instrs + choices_size w.site cs (statements_size w.site ss)
    → AppendsAt (choices_code w cs behind (statements_size w.site ss) (statements_code w ss)) (choices_size w.site cs (statements_size w.site ss)) (choices_rows w.site cs (statements_size w.site ss) (statements_rows w.site ss)) x y
    → AtAction w (if_then cs ss) x y
if_node w cs ss behind {x} e p = told_as _ _ _ (ap (λ (k : ℕ). choices_code w cs k (statements_size w.site ss) (statements_code w ss) (length x.instrs)) e) refl refl p

pub if_told : (around : Around) (a : Action) (own_cs cs : List Choice) (own_ss ss : List Statement) (behind : ℕ) {x y z : Draft} → a ≡ actions.If own_cs own_ss → cs ≡ own_cs → ss ≡ own_ss
    → PutsChoices around cs behind x y → PutsStatements around ss y z → PutsActionTo around a behind x z
if_told around a own_cs cs own_ss ss behind is cs_are ss_are p q =
    let tree = ap action_tree is ∙ action_tree-If own_cs own_ss ∙ ap (λ (v : List Choice). if_then (choices_of v) (statements_of own_ss)) (sym cs_are) ∙ ap (λ (v : List Statement). if_then (choices_of cs) (statements_of v)) (sym ss_are) in
    of_tree around a (if_then (choices_of cs) (statements_of ss)) behind tree (λ there. if_node (standing_of around) (choices_of cs) (statements_of ss) behind there (end (p.puts ss there) q.puts))

pub do_told : (around : Around) (a : Action) (boxed : Box Control Global) (c : Control) (own ss : List Statement) (behind : ℕ) {x y : Draft} → a ≡ actions.Do boxed own → c ≡ boxed.value → ss ≡ own
    → PutsDo around c ss behind x y → PutsActionTo around a behind x y
do_told around a boxed c own ss behind is c_is ss_are p =
    let tree = ap action_tree is ∙ action_tree-Do boxed own ∙ ap (λ (v : Control). do_loop (control_tree v) (statements_of own)) (sym c_is) ∙ ap (λ (v : List Statement). do_loop (control_tree c) (statements_of v)) (sym ss_are) in
    of_tree around a (do_loop (control_tree c) (statements_of ss)) behind tree (λ there. told_as _ _ _ refl refl refl (p.puts there))

pub begin_told : (around : Around) (a : Action) (own ss : List Statement) (behind : ℕ) {x y : Draft} → a ≡ actions.Begin own → ss ≡ own
    → PutsStatements around ss x y → PutsActionTo around a behind x y
begin_told around a own ss behind is ss_are p =
    let tree = ap action_tree is ∙ action_tree-Begin own ∙ ap (λ (v : List Statement). begin_end (statements_of v)) (sym ss_are) in
    of_tree around a (begin_end (statements_of ss)) behind tree (λ _. told_as _ _ _ refl refl refl p.puts)

case_node : (w : Standing) (e : ExprTree) (cs : CaseNodes) (o : OtherwiseNode) (behind : ℕ) {x y z : Code}
    → behind ≡ length x.instrs + (expr_size e + suc (cases_size w.site cs (otherwise_size w.site o 1)))
    → Appends (taken_by w e (i.SetLocal w.free 1) (length x.instrs)) (expr_size e + 1) x y
    → AppendsAt (cases_code w cs behind (otherwise_size w.site o 1) (otherwise_code w o no_label_code)) (cases_size w.site cs (otherwise_size w.site o 1)) (cases_rows w.site cs (otherwise_size w.site o 1) (otherwise_rows w.site o)) y z
    → AtAction w (case_of e cs o) x z
case_node w e cs o behind {x} {y} {z} there p q =
    let q1 = subst (λ (k : ℕ). AppendsAt (cases_code w cs k (otherwise_size w.site o 1) (otherwise_code w o no_label_code)) (cases_size w.site cs (otherwise_size w.site o 1)) (cases_rows w.site cs (otherwise_size w.site o 1) (otherwise_rows w.site o)) y z) there q in
    told_as _ _ _ refl (omega arith) refl (then_at (without_rows (λ at. taken_by w e (i.SetLocal w.free 1) at) p) q1)

pub case_told : (around : Around) (a : Action) (boxed : Box Expr Global) (e : Expr) (own_cs cs : List CaseAlternative) (own_o o : Option (List Statement)) (behind : ℕ) {x y v z : Draft}
    → a ≡ actions.Case boxed own_cs own_o → e ≡ boxed.value → cs ≡ own_cs → o ≡ own_o
    → Appends (taken_by (standing_of around) (expr_tree e) (i.SetLocal around.free 1) (length x.code.instrs)) (expr_size (expr_tree e) + 1) x.code y.code
    → PutsCases around cs behind y v → PutsUnlabelled around o v z → PutsActionTo around a behind x z
case_told around a boxed e own_cs cs own_o o behind {x} {y} {v} {z} is e_is cs_are o_is p q last =
    let tree = ap action_tree is ∙ action_tree-Case boxed own_cs own_o ∙ ap (λ (v : Expr). case_of (expr_tree v) (cases_of own_cs) (else_of own_o)) (sym e_is)
    ∙ ap (λ (v : List CaseAlternative). case_of (expr_tree e) (cases_of v) (else_of own_o)) (sym cs_are) ∙ ap (λ (v : Option (List Statement)). case_of (expr_tree e) (cases_of cs) (else_of v)) (sym o_is) in
    of_tree around a (case_of (expr_tree e) (cases_of cs) (else_of o)) behind tree
    (λ there.
    let place : behind ≡ length y.code.instrs + cases_parts around cs o = case_place behind (length x.code.instrs) (length y.code.instrs) (expr_size (expr_tree e)) (cases_parts around cs o) there p.length in
    case_node (standing_of around) (expr_tree e) (cases_of cs) (else_of o) behind there p (end (q.puts o place) last.puts))

delay_node : (w : Standing) (set : Option LocationTree) (priority : ℕ) (ds : DelayNodes) (behind : ℕ) {x y z : Code}
    → behind ≡ length x.instrs + (delay_wait_size set ds + delays_size w.site ds)
    → Appends (delay_wait_code w set priority ds (length x.instrs)) (delay_wait_size set ds) x y
    → AppendsAt (delays_code w (chosen_in w.free set) 0 ds behind) (delays_size w.site ds) (delays_rows w.site ds) y z
    → AtAction w (delay_case set priority ds) x z
delay_node w set priority ds behind {x} {y} {z} there p q =
    let q1 = subst (λ (k : ℕ). AppendsAt (delays_code w (chosen_in w.free set) 0 ds k) (delays_size w.site ds) (delays_rows w.site ds) y z) there q in
    told_as _ _ _ refl refl refl (then_at (without_rows (λ at. delay_wait_code w set priority ds at) p) q1)

pub delay_told : (around : Around) (a : Action) (set : Option (Box Location Global)) (priority : ℕ) (own es ds : List DelayAlternative) (kept behind : ℕ) {x y z : Draft}
    → a ≡ actions.DelayCase set priority own → es ≡ own → ds ≡ own → kept ≡ chosen_in around.free (set_tree set)
    → Appends (delay_wait_code (standing_of around) (set_tree set) priority (delays_of es) (length x.code.instrs)) (delay_wait_size (set_tree set) (delays_of es)) x.code y.code
    → PutsDelays around ds kept behind y z → PutsActionTo around a behind x z
delay_told around a set priority own es ds kept behind {x} {y} {z} is es_are ds_are kept_is wait q =
    let p = subst (λ (v : List DelayAlternative). Appends (delay_wait_code (standing_of around) (set_tree set) priority (delays_of v) (length x.code.instrs)) (delay_wait_size (set_tree set) (delays_of v)) x.code y.code) (es_are ∙ sym ds_are) wait in
    let tree = ap action_tree is ∙ action_tree-DelayCase set priority own ∙ ap (λ (v : List DelayAlternative). delay_case (set_tree set) priority (delays_of v)) (sym ds_are) in
    of_tree around a (delay_case (set_tree set) priority (delays_of ds)) behind tree
    (λ there.
    let q1 = q.puts (behind_after (length x.code.instrs) (length y.code.instrs) _ _ behind there p.length) in
    let q2 = subst (λ (k : ℕ). AppendsAt (delays_code (standing_of around) k 0 (delays_of ds) behind) (delays_size (site_around around) (delays_of ds)) (delays_rows (site_around around) (delays_of ds)) y.code z.code) kept_is q1 in
    delay_node (standing_of around) (set_tree set) priority (delays_of ds) behind there p q2)

pub buffers_told : (around : Around) (a : Action) (own_rs rs : List ReceiveAlternative) (own_o o : Option (List Statement)) (wait : Wait) {x y z : Draft}
    → a ≡ actions.ReceiveBuffers wait.set.now own_rs own_o → rs ≡ own_rs → o ≡ own_o → kind_of wait.receives ≡ from_buffers → waits_else wait.receives ≡ has_else (else_of o)
    → PutsReceiveCase around rs o wait x y → PutsOtherwise around o y z → PutsActionTo around a wait.behind x z
buffers_told around a own_rs rs own_o o wait {x} {y} {z} is rs_are o_is kind same p q =
    let tree = ap action_tree is ∙ action_tree-ReceiveBuffers wait.set.now own_rs own_o ∙ ap (λ (v : List ReceiveAlternative). receive_buffers (set_tree wait.set.now) (receives_of v) (else_of own_o)) (sym rs_are)
    ∙ ap (λ (v : Option (List Statement)). receive_buffers (set_tree wait.set.now) (receives_of rs) (else_of v)) (sym o_is) in
    of_tree around a (receive_buffers (set_tree wait.set.now) (receives_of rs) (else_of o)) wait.behind tree
    (λ there. told_as _ _ _ refl refl refl (subst (λ (k : Receives). AtReceiving (standing_of around) k (set_tree wait.set.now) (receives_of rs) (else_of o) x.code z.code) kind (end (p.puts same there) q.puts)))

pub signals_told : (around : Around) (a : Action) (own_rs rs : List ReceiveAlternative) (own_o o : Option (List Statement)) (wait : Wait) {x y z : Draft}
    → a ≡ actions.ReceiveSignals wait.set.now own_rs own_o → rs ≡ own_rs → o ≡ own_o → kind_of wait.receives ≡ of_signals → waits_else wait.receives ≡ has_else (else_of o)
    → PutsReceiveCase around rs o wait x y → PutsOtherwise around o y z → PutsActionTo around a wait.behind x z
signals_told around a own_rs rs own_o o wait {x} {y} {z} is rs_are o_is kind same p q =
    let tree = ap action_tree is ∙ action_tree-ReceiveSignals wait.set.now own_rs own_o ∙ ap (λ (v : List ReceiveAlternative). receive_signals (set_tree wait.set.now) (receives_of v) (else_of own_o)) (sym rs_are)
    ∙ ap (λ (v : Option (List Statement)). receive_signals (set_tree wait.set.now) (receives_of rs) (else_of v)) (sym o_is) in
    of_tree around a (receive_signals (set_tree wait.set.now) (receives_of rs) (else_of o)) wait.behind tree
    (λ there. told_as _ _ _ refl refl refl (subst (λ (k : Receives). AtReceiving (standing_of around) k (set_tree wait.set.now) (receives_of rs) (else_of o) x.code z.code) kind (end (p.puts same there) q.puts)))

-- ELSE is written
pub else_written : (o : Option (List Statement)) → is_some o ≡ has_else (else_of o)
else_written None = refl
else_written (Some ss) = refl
