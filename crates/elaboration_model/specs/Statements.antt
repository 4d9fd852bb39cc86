-- Statements, actions and handlers as they are elaborated. None is where something isn't there, which no text that breaks no
-- rule has.
use Rattle.std.specs.Prelude.{ℕ, suc, Bool, true, false, if◌then◌else◌, List, [], ◌∷◌, map, Option, Some, None, is_some, option_map, option_and_then, ℤ, pos, negsuc}
use Rattle.std.specs.Str.{bytes_eq}
use Rattle.chill_tree.specs.declared.tree.name.Name.{Name}
use Rattle.chill_tree.specs.declared.tree.expr.Operator.{Operator}
use Rattle.chill_tree.specs.ExprTree.{ExprTree, ExprNodes, RangeTree, no_exprs, alone, between, expr_nodes}
use Rattle.chill_tree.specs.LocalTree.{DeclarationTree, LocalTree, synonyms, syn_modes, new_modes, locations}
use Rattle.chill_tree.specs.SimpleTree.{SimpleTree, assign, update, call_of, exit, return_with, result_of, assert_that, cause, stop, start_of, delay, continue_event, send, ControlTree, while_holds, for_ever, for_members, for_steps}
use Rattle.chill_tree.specs.StatementTree.{StatementTree, BracketedTree, StatementNodes, ElsIfNodes, CaseNodes, NamedNodes, ReceiveNodes, OtherwiseNode, HandlerNode, BodyNodes, empty, simple, bracketed, if_then, case_of, do_loop, begin_end, delay_case, receive_case, no_statements, more_statements, no_branches, more_branches, no_cases, more_cases, no_named, more_named, no_receives, more_receives, no_otherwise, otherwise, no_handler, handler, no_parts, more_locals, more_actions}
use Rattle.modes.specs.declared.mode.Bounds.{Bounds}
use Rattle.modes.specs.ModeTree.{ModeTree, ClassTree, value, instance}
use Rattle.modes.specs.Bounds.{bounds_of}
use Rattle.modes.specs.Scalars.{lowest_of}
use Rattle.checked_program.specs.declared.expr.Base.{Base}
use Rattle.program_trees.specs.ExprTree as made
use Rattle.program_trees.specs.StatementTree as done
use Rattle.checks_model.specs.Ground.{Predefined, put_int, put_text, put_nl, get_int, origin_of, message_parts}
use Rattle.checks_model.specs.Operations.{is_measuring}
use Rattle.checks_model.specs.Classes.{class_of, Callee, calls, routine, no_callee, callee_named}
use Rattle.checks_model.specs.WrittenModes.{needed_number}
use Rattle.elaboration_model.specs.Parts.{made_of, made_of_three, made_if, made_each, made_of_some}
use Rattle.elaboration_model.specs.Numbering.{Source, Thing, a_buffer, a_message, thing_used, thing_defined, event_used, body_used, source_number, local_defined}
use Rattle.elaboration_model.specs.Exceptions.{exception_number}
use Rattle.elaboration_model.specs.Expressions.{Target, expr_as, expr_alone, received_by, received_each, arguments, only_one, target, class_first, operator_between, routine_on, formals_by, modes_by, base_of, mode_defined}

-- what stands around a statement in its body: the labels of the statements around it, the innermost first, and the mode of
-- the result
pub record Around : Type 0 where
  pub labels : List Name
  pub result : Option ModeTree

abbrev pub in_body : Option ModeTree → Around
in_body m = record { labels = []; result = m }

abbrev pub within : Option Name → Around → Around
within None a = a
within (Some l) a = record { labels = l ∷ a.labels; result = a.result }

-- how many labelled statements further out than the innermost one the innermost one of that label stands
abbrev pub outwards : Name → List Name → Option ℕ
outwards n [] = None
outwards n (l ∷ ls) = if bytes_eq l.text n.text then Some 0 else option_map suc (outwards n ls)

-- ---- numbers of constants

-- the number of an expression that has to be constant: it is there only where nothing is told of that
abbrev pub constant_number : Source → ExprTree → Option ℤ
constant_number s e = needed_number s.known e

abbrev pub natural_in : ℤ → Option ℕ
natural_in (pos k) = Some k
natural_in (negsuc k) = None

-- a priority is 0 where none is written
abbrev pub priority : Source → Option ExprTree → Option ℕ
priority s None = Some 0
priority s (Some e) = option_and_then natural_in (constant_number s e)

abbrev pub range_bounds : ℤ → ℤ → Bounds
range_bounds l h = record { low = l; high = h }

abbrev pub label : Source → RangeTree → Option Bounds
label s (alone e) = made_of range_bounds (constant_number s e) (constant_number s e)
label s (between l h) = made_of range_bounds (constant_number s l) (constant_number s h)

-- ---- declarations, each a statement at its place

abbrev pub plain : done.ActionTree → done.StatementTree
plain a = done.statement false a done.no_handler

abbrev pub base_defined : Source → Name → Option Base
base_defined s n = option_and_then base_of (thing_defined s n)

-- those of the names that define locals
abbrev pub locals_among : List (Option ℕ) → List ℕ
locals_among [] = []
locals_among (None ∷ ks) = locals_among ks
locals_among (Some k ∷ ks) = k ∷ locals_among ks

abbrev pub set_locals : List ℕ → ModeTree → done.ActionTree
set_locals [] m = done.do_nothing
set_locals (k ∷ ks) m = done.set_lowest (k ∷ ks) (lowest_of m)

-- without a value locals are set to the lowest one, and shared locations, events and buffers to nothing
abbrev pub declared_as : Source → List Name → Option ModeTree → Option ExprTree → Option done.ActionTree
declared_as s ns m (Some e) = made_of done.declare (made_each (base_defined s) ns) (received_by s m e)
declared_as s ns m None = option_map (set_locals (locals_among (map (local_defined s) ns))) m

abbrev pub first_mode : Source → List Name → Option ModeTree
first_mode s [] = None
first_mode s (n ∷ ns) = mode_defined s n

abbrev pub declaration : Source → DeclarationTree → Option done.StatementTree
declaration s d = option_map plain (declared_as s d.names (first_mode s d.names) (option_map (λ i. i.value) d.initial))

-- of definition statements only declarations do anything
abbrev pub declarations : Source → LocalTree → Option (List done.StatementTree)
declarations s (locations at ds) = made_each (declaration s) ds
declarations s (synonyms at ss) = Some []
declarations s (syn_modes at ds) = Some []
declarations s (new_modes at ds) = Some []

abbrev pub before : List done.StatementTree → done.StatementNodes → done.StatementNodes
before [] rest = rest
before (x ∷ xs) rest = done.more_statements x (before xs rest)

-- ---- calls that stand as actions

abbrev pub called : Source → Name → List ExprTree → Option done.ActionTree
called s n es = made_of (λ b as'. done.perform (made.called b as')) (body_used s n) (arguments s (formals_by s (origin_of s.known n)) (expr_nodes es))

-- GET_INT, UPPER, LOWER and SIZE are evaluated, and the other routines of one value keep their routine
abbrev pub routine_action : Source → Predefined → Option done.ActionTree → Name → List ExprTree → Option done.ActionTree
routine_action s put_int other n es = option_map done.put_int (only_one s None (expr_nodes es))
routine_action s put_text other n es = option_map done.put_text (only_one s None (expr_nodes es))
routine_action s put_nl other n es = Some done.put_line
routine_action s p other n es =
    if is_measuring p then other
    else made_of done.drop_routine (option_and_then (routine_on p) (class_first s (expr_nodes es))) (only_one s None (expr_nodes es))

abbrev pub evaluated : Source → Name → List ExprTree → Option done.ActionTree
evaluated s n es = option_map done.evaluate (expr_alone s (ExprTree.apply n.at (ExprTree.name n) (expr_nodes es)))

abbrev pub routine_by : Source → Predefined → Name → List ExprTree → Option done.ActionTree
routine_by s get_int n es = evaluated s n es
routine_by s p n es = routine_action s p (evaluated s n es) n es

abbrev pub call_action : Source → Callee → Name → List ExprTree → Option done.ActionTree
call_action s (calls m) n es = called s n es
call_action s (routine p) n es = routine_by s p n es
call_action s no_callee n es = None

-- ---- SEND

abbrev pub some_args : Option (List ExprTree) → ExprNodes
some_args None = no_exprs
some_args (Some es) = expr_nodes es

abbrev pub only_received : made.ReceivedNodes → Option made.ReceivedTree
only_received (made.more_received r made.no_received) = Some r
only_received _ = None

abbrev pub sent_by : Thing → made.ReceivedNodes → Option made.ExprTree → Option done.SentTree
sent_by (a_buffer k) rs to = option_map (done.to_buffer k) (only_received rs)
sent_by (a_message k) rs to = Some (done.signal k rs to)
sent_by _ rs to = None

-- to whom a signal is sent: an expression that goes to an INSTANCE
abbrev pub receiver : Source → Option ExprTree → Option (Option made.ExprTree)
receiver s to = made_of_some (expr_as s (Some instance)) to

abbrev pub parts_sent : Source → Name → ExprNodes → Option made.ReceivedNodes
parts_sent s n es = option_and_then (λ ms. received_each s ms es) (message_parts s.known n)

abbrev pub sent : Source → Name → Option (List ExprTree) → Option ExprTree → Option done.SentTree
sent s n es to = option_and_then (λ f. made_if f (parts_sent s n (some_args es)) (receiver s to)) (option_map sent_by (thing_used s n))

-- ---- actions that hold no others

-- a value that the procedure gives back
abbrev pub given_back : Source → Around → ExprTree → Option made.ReceivedTree
given_back s a e = received_by s a.result e

abbrev pub updated : Operator → Option Target → Option made.ExprTree → Option ClassTree → Option done.ActionTree
updated o (Some t) (Some v) (Some c) = option_map (λ op. done.update t.0 op v (bounds_of t.1)) (operator_between o (value t.1) c)
updated o _ _ _ = None

abbrev pub action_of : Source → Around → SimpleTree → Option done.ActionTree
action_of s a (assign at t v) = option_and_then (λ t. option_map (done.assign t.0) (received_by s (Some t.1) v)) (target s t)
action_of s a (update at t o p v) = updated o (target s t) (expr_alone s v) (class_of s.known v)
action_of s a (call_of at word n es) = call_action s (callee_named s.known n) n es
action_of s a (exit at n) = option_map done.exit_from (outwards n a.labels)
action_of s a (return_with at v) = option_map done.return_with (made_of_some (given_back s a) v)
action_of s a (result_of at v) = option_map done.set_result (given_back s a v)
action_of s a (assert_that at c) = option_map done.assert_that (expr_alone s c)
action_of s a (cause at n) = option_map done.cause (exception_number s.own_exceptions n)
action_of s a (stop at) = Some done.stop
action_of s a (start_of at n es) = made_of (λ b rs. done.start_of (made.started b rs)) (body_used s n) (received_each s (modes_by s (origin_of s.known n)) (expr_nodes es))
action_of s a (delay at n p) = made_of done.delay (event_used s n) (priority s p)
action_of s a (continue_event at n) = option_map done.continue_at (event_used s n)
action_of s a (send at n es to p) = made_of done.send (sent s n es to) (priority s p)

-- ---- loops

abbrev pub low_of : Option ModeTree → Option ℤ
low_of m = option_map (λ b. b.low) (option_and_then bounds_of m)

abbrev pub members_loop : Option ℕ → Option made.ExprTree → Option ℤ → Option (Option made.ExprTree) → Option done.ControlTree
members_loop (Some k) (Some set) (Some low) (Some c) = Some (done.for_members k set low c)
members_loop _ _ _ _ = None

abbrev pub steps_loop : Bool → Option ℕ → Option made.ExprTree → Option (Option made.ExprTree) → Option made.ExprTree → Option (Option made.ExprTree) → Option done.ControlTree
steps_loop down (Some k) (Some from) (Some step) (Some to) (Some c) = Some (done.for_steps k from step to down c)
steps_loop down _ _ _ _ _ = None

abbrev pub control : Source → ControlTree → Option done.ControlTree
control s (while_holds at c) = option_map done.while_true (expr_alone s c)
control s (for_ever at) = Some done.for_ever
control s (for_members at n set c) = members_loop (local_defined s n) (expr_alone s set) (low_of (mode_defined s n)) (made_of_some (expr_alone s) c)
control s (for_steps at n from step down to c) =
    steps_loop down (local_defined s n) (expr_alone s from) (made_of_some (expr_alone s) step) (expr_alone s to) (made_of_some (expr_alone s) c)

-- ---- RECEIVE CASE

abbrev pub some_names : Option (List Name) → List Name
some_names None = []
some_names (Some ns) = ns

abbrev pub is_buffer : Option Thing → Bool
is_buffer (Some (a_buffer k)) = true
is_buffer _ = false

-- all its names are of buffers where the first is
abbrev pub receives_from : Bool → Option made.LocationTree → done.ReceiveNodes → done.OtherwiseNode → done.ActionTree
receives_from true set as' o = done.receive_buffers set as' o
receives_from false set as' o = done.receive_signals set as' o

abbrev pub first_is_buffer : Source → ReceiveNodes → Bool
first_is_buffer s no_receives = false
first_is_buffer s (more_receives at n r ss as') = is_buffer (thing_used s n)

-- the location behind SET
abbrev pub set_location : Source → Option ExprTree → Option (Option made.LocationTree)
set_location s set = made_of_some (λ e. option_map (λ t. t.0) (target s e)) set

abbrev pub source_used : Source → Name → Option ℕ
source_used s n = option_and_then source_number (thing_used s n)

abbrev pub with_receive : Option ℕ → Option (List ℕ) → Option done.StatementNodes → Option done.ReceiveNodes → Option done.ReceiveNodes
with_receive (Some k) (Some ks) (Some ss) (Some as') = Some (done.more_receives k ks ss as')
with_receive _ _ _ _ = None

abbrev pub delayed : Option (Option made.LocationTree) → Option ℕ → Option done.DelayNodes → Option done.ActionTree
delayed set p as' = made_of_three done.delay_case set p as'

-- ---- statements

abbrev pub is_labelled : Option Name → Bool
is_labelled l = is_some l

abbrev mutual
  pub statement : Source → Around → StatementTree → Option done.StatementTree
  statement s a (empty at) = Some (plain done.do_nothing)
  statement s a (simple at act h) = made_of (done.statement false) (action_of s a act) (handled s a h)
  statement s a (bracketed at l act h closing) = made_of (done.statement (is_labelled l)) (holding s (within l a) act) (handled s (within l a) h)

  pub holding : Source → Around → BracketedTree → Option done.ActionTree
  holding s a (if_then at c ss bs o) = made_of done.if_then (made_of_three done.more_choices (expr_alone s c) (each s a ss) (choices s a bs)) (otherwise_done s a o)
  holding s a (case_of at e as' o) = made_of_three done.case_of (expr_alone s e) (cases s a as') (or_else s a o)
  holding s a (do_loop at c ss) = made_of done.do_loop (control s c) (each s a ss)
  holding s a (begin_end at ps) = option_map done.begin_end (body s a ps)
  holding s a (delay_case at set p as') = delayed (set_location s set) (priority s p) (delays s a as')
  holding s a (receive_case at set as' o) = made_of_three (receives_from (first_is_buffer s as')) (set_location s set) (receives s a as') (or_else s a o)

  pub each : Source → Around → StatementNodes → Option done.StatementNodes
  each s a no_statements = Some done.no_statements
  each s a (more_statements x xs) = made_of done.more_statements (statement s a x) (each s a xs)

  pub choices : Source → Around → ElsIfNodes → Option done.ChoiceNodes
  choices s a no_branches = Some done.no_choices
  choices s a (more_branches at c ss bs) = made_of_three done.more_choices (expr_alone s c) (each s a ss) (choices s a bs)

  pub cases : Source → Around → CaseNodes → Option done.CaseNodes
  cases s a no_cases = Some done.no_cases
  cases s a (more_cases at ls ss as') = made_of_three done.more_cases (made_each (label s) ls) (each s a ss) (cases s a as')

  pub delays : Source → Around → NamedNodes → Option done.DelayNodes
  delays s a no_named = Some done.no_delays
  delays s a (more_named at ns ss as') = made_of_three done.more_delays (made_each (event_used s) ns) (each s a ss) (delays s a as')

  pub receives : Source → Around → ReceiveNodes → Option done.ReceiveNodes
  receives s a no_receives = Some done.no_receives
  receives s a (more_receives at n r ss as') = with_receive (source_used s n) (made_each (local_defined s) (some_names r)) (each s a ss) (receives s a as')

  -- the actions behind ELSE of an IF: none where there is no ELSE
  pub otherwise_done : Source → Around → OtherwiseNode → Option done.StatementNodes
  otherwise_done s a no_otherwise = Some done.no_statements
  otherwise_done s a (otherwise ss) = each s a ss

  pub or_else : Source → Around → OtherwiseNode → Option done.OtherwiseNode
  or_else s a no_otherwise = Some done.no_otherwise
  or_else s a (otherwise ss) = option_map done.otherwise (each s a ss)

  pub handled : Source → Around → HandlerNode → Option done.HandlerNode
  handled s a no_handler = Some done.no_handler
  handled s a (handler at as' o) = made_of done.handler (exceptions s a as') (or_else s a o)

  pub exceptions : Source → Around → NamedNodes → Option done.HandledNodes
  exceptions s a no_named = Some done.no_handled
  exceptions s a (more_named at ns ss as') = made_of_three done.more_handled (made_each (exception_number s.own_exceptions) ns) (each s a ss) (exceptions s a as')

  pub body : Source → Around → BodyNodes → Option done.StatementNodes
  body s a no_parts = Some done.no_statements
  body s a (more_locals l ps) = made_of before (declarations s l) (body s a ps)
  body s a (more_actions x ps) = made_of done.more_statements (statement s a x) (body s a ps)
