-- The size of a text: 4 for each node of an expression, 8 for each action and for each alternative of a CASE, DELAY CASE,
-- RECEIVE CASE or handler, and 16 for each body, the outermost process being one.
use Rattle.std.specs.Prelude.{ℕ, ◌+◌, ◌*◌, List, [], ◌∷◌, Option, Some, None}
use Rattle.chill_tree.specs.ExprTree.{ExprTree}
use Rattle.chill_tree.specs.ModeTree.{ModeTree}
use Rattle.chill_tree.specs.SimpleTree.{SimpleTree, assign, update, call_of, exit, return_with, result_of, assert_that, cause, stop, start_of, delay, continue_event, send, ControlTree, while_holds, for_ever, for_members, for_steps}
use Rattle.chill_tree.specs.LocalTree.{LocalTree, synonyms, syn_modes, new_modes, locations, SynonymTree, ModeDefinitionTree, DeclarationTree, InitialTree}
use Rattle.chill_tree.specs.StatementTree.{StatementTree, empty, simple, bracketed, BracketedTree, if_then, case_of, do_loop, begin_end, delay_case, receive_case, StatementNodes, no_statements, more_statements, ElsIfNodes, no_branches, more_branches, CaseNodes, no_cases, more_cases, NamedNodes, no_named, more_named, ReceiveNodes, no_receives, more_receives, OtherwiseNode, no_otherwise, otherwise, HandlerNode, no_handler, handler, BodyNodes, no_parts, more_locals, more_actions, HandlerTree, BodyTree, local_part, action_part, ElsIfTree, CaseTree, NamedTree, ReceiveTree, handler_node, body_nodes, statement_nodes}
use Rattle.chill_tree.specs.ItemTree.{ItemTree, seize, grant, local_item, signals, procedure, process, modulion, action, ItemNodes, no_items, more_items, item_nodes, ModulionTree, ProgramTree, SignalTree, ParamTree, FormalTree, ProcedureTree, ProcessTree}
use Rattle.text_size.specs.Nodes.{nodes, nodes_in_some, nodes_in_all, nodes_in_labels}
use Rattle.text_size.specs.ModeNodes.{nodes_in_mode, nodes_in_some_mode, nodes_in_modes}

-- ---- definitions

abbrev pub nodes_in_synonyms : List SynonymTree → ℕ
nodes_in_synonyms [] = 0
nodes_in_synonyms (s ∷ ss) = nodes_in_some_mode s.mode + nodes s.value + nodes_in_synonyms ss

abbrev pub nodes_in_definitions : List ModeDefinitionTree → ℕ
nodes_in_definitions [] = 0
nodes_in_definitions (d ∷ ds) = nodes_in_mode d.mode + nodes_in_definitions ds

abbrev pub nodes_in_initial : Option InitialTree → ℕ
nodes_in_initial None = 0
nodes_in_initial (Some i) = nodes i.value

abbrev pub nodes_in_declarations : List DeclarationTree → ℕ
nodes_in_declarations [] = 0
nodes_in_declarations (d ∷ ds) = nodes_in_mode d.mode + nodes_in_initial d.initial + nodes_in_declarations ds

abbrev pub nodes_in_local : LocalTree → ℕ
nodes_in_local (synonyms at ss) = nodes_in_synonyms ss
nodes_in_local (syn_modes at ds) = nodes_in_definitions ds
nodes_in_local (new_modes at ds) = nodes_in_definitions ds
nodes_in_local (locations at ds) = nodes_in_declarations ds

-- ---- actions that hold no others, and what controls loops: the name of what is called, started or waited for is no node

abbrev pub nodes_in_list : Option (List ExprTree) → ℕ
nodes_in_list None = 0
nodes_in_list (Some es) = nodes_in_all es

abbrev pub nodes_in_simple : SimpleTree → ℕ
nodes_in_simple (assign at t v) = nodes t + nodes v
nodes_in_simple (update at t o p v) = nodes t + nodes v
nodes_in_simple (call_of at c n es) = nodes_in_all es
nodes_in_simple (exit at n) = 0
nodes_in_simple (return_with at v) = nodes_in_some v
nodes_in_simple (result_of at v) = nodes v
nodes_in_simple (assert_that at c) = nodes c
nodes_in_simple (cause at n) = 0
nodes_in_simple (stop at) = 0
nodes_in_simple (start_of at n es) = nodes_in_all es
nodes_in_simple (delay at n p) = nodes_in_some p
nodes_in_simple (continue_event at n) = 0
nodes_in_simple (send at n es r p) = nodes_in_list es + nodes_in_some r + nodes_in_some p

abbrev pub nodes_in_control : ControlTree → ℕ
nodes_in_control (while_holds at c) = nodes c
nodes_in_control (for_ever at) = 0
nodes_in_control (for_members at n s c) = nodes s + nodes_in_some c
nodes_in_control (for_steps at n s b d e c) = nodes s + nodes_in_some b + nodes e + nodes_in_some c

-- ---- actions and bodies: an ELSE is no alternative

abbrev mutual
  pub statement_size : StatementTree → ℕ
  statement_size (empty at) = 8
  statement_size (simple at a h) = 8 + 4 * nodes_in_simple a + handler_size h
  statement_size (bracketed at l a h c) = 8 + bracketed_size a + handler_size h

  pub bracketed_size : BracketedTree → ℕ
  bracketed_size (if_then at c ss bs o) = 4 * nodes c + statements_size ss + branches_size bs + otherwise_size o
  bracketed_size (case_of at e as' o) = 4 * nodes e + cases_size as' + otherwise_size o
  bracketed_size (do_loop at c ss) = 4 * nodes_in_control c + statements_size ss
  bracketed_size (begin_end at ps) = parts_size ps
  bracketed_size (delay_case at s p as') = 4 * nodes_in_some s + 4 * nodes_in_some p + named_size as'
  bracketed_size (receive_case at s as' o) = 4 * nodes_in_some s + receives_size as' + otherwise_size o

  pub statements_size : StatementNodes → ℕ
  statements_size no_statements = 0
  statements_size (more_statements s ss) = statement_size s + statements_size ss

  pub branches_size : ElsIfNodes → ℕ
  branches_size no_branches = 0
  branches_size (more_branches at c ss bs) = 4 * nodes c + statements_size ss + branches_size bs

  pub cases_size : CaseNodes → ℕ
  cases_size no_cases = 0
  cases_size (more_cases at ls ss as') = 8 + 4 * nodes_in_labels ls + statements_size ss + cases_size as'

  pub named_size : NamedNodes → ℕ
  named_size no_named = 0
  named_size (more_named at ns ss as') = 8 + statements_size ss + named_size as'

  pub receives_size : ReceiveNodes → ℕ
  receives_size no_receives = 0
  receives_size (more_receives at n r ss as') = 8 + statements_size ss + receives_size as'

  pub otherwise_size : OtherwiseNode → ℕ
  otherwise_size no_otherwise = 0
  otherwise_size (otherwise ss) = statements_size ss

  pub handler_size : HandlerNode → ℕ
  handler_size no_handler = 0
  handler_size (handler at as' o) = named_size as' + otherwise_size o

  pub parts_size : BodyNodes → ℕ
  parts_size no_parts = 0
  parts_size (more_locals l ps) = 4 * nodes_in_local l + parts_size ps
  parts_size (more_actions s ps) = statement_size s + parts_size ps

-- the same in two parts: what stands before the ELSE, and the ELSE
abbrev pub size_before_else : BracketedTree → ℕ
size_before_else (if_then at c ss bs o) = 4 * nodes c + statements_size ss + branches_size bs
size_before_else (case_of at e as' o) = 4 * nodes e + cases_size as'
size_before_else (do_loop at c ss) = 4 * nodes_in_control c + statements_size ss
size_before_else (begin_end at ps) = parts_size ps
size_before_else (delay_case at s p as') = 4 * nodes_in_some s + 4 * nodes_in_some p + named_size as'
size_before_else (receive_case at s as' o) = 4 * nodes_in_some s + receives_size as'

abbrev pub else_size : BracketedTree → ℕ
else_size (if_then at c ss bs o) = otherwise_size o
else_size (case_of at e as' o) = otherwise_size o
else_size (do_loop at c ss) = 0
else_size (begin_end at ps) = 0
else_size (delay_case at s p as') = 0
else_size (receive_case at s as' o) = otherwise_size o

-- one of a list
abbrev pub branch_size : ElsIfTree → ℕ
branch_size b = 4 * nodes b.condition + statements_size (statement_nodes b.actions)

abbrev pub case_size : CaseTree → ℕ
case_size a = 8 + 4 * nodes_in_labels a.labels + statements_size (statement_nodes a.actions)

abbrev pub alternative_size : NamedTree → ℕ
alternative_size a = 8 + statements_size (statement_nodes a.actions)

abbrev pub receive_size : ReceiveTree → ℕ
receive_size a = 8 + statements_size (statement_nodes a.actions)

abbrev pub part_size : BodyTree → ℕ
part_size (local_part l) = 4 * nodes_in_local l
part_size (action_part s) = statement_size s

abbrev pub some_handler_size : Option HandlerTree → ℕ
some_handler_size h = handler_size (handler_node h)

abbrev pub body_size : List BodyTree → ℕ
body_size ps = parts_size (body_nodes ps)

-- ---- modulions

abbrev pub nodes_in_parts : Option (List ModeTree) → ℕ
nodes_in_parts None = 0
nodes_in_parts (Some ms) = nodes_in_modes ms

abbrev pub nodes_in_signals : List SignalTree → ℕ
nodes_in_signals [] = 0
nodes_in_signals (s ∷ ss) = nodes_in_parts s.parts + nodes_in_signals ss

abbrev pub nodes_in_params : List ParamTree → ℕ
nodes_in_params [] = 0
nodes_in_params (p ∷ ps) = nodes_in_mode p.mode + nodes_in_params ps

abbrev pub nodes_in_formals : List FormalTree → ℕ
nodes_in_formals [] = 0
nodes_in_formals (p ∷ ps) = nodes_in_mode p.mode + nodes_in_formals ps

abbrev pub procedure_size : ProcedureTree → ℕ
procedure_size p = 16 + 4 * (nodes_in_some_mode p.returns + nodes_in_params p.params) + body_size p.body + some_handler_size p.handler

abbrev pub process_size : ProcessTree → ℕ
process_size p = 16 + 4 * nodes_in_formals p.formals + body_size p.body + some_handler_size p.handler

-- an item that isn't a modulion
abbrev pub own_size : ItemTree → ℕ
own_size (seize at p) = 0
own_size (grant at p) = 0
own_size (local_item l) = 4 * nodes_in_local l
own_size (signals at ss) = 4 * nodes_in_signals ss
own_size (procedure p) = procedure_size p
own_size (process p) = process_size p
own_size (modulion n k is h c) = 0
own_size (action s) = statement_size s

abbrev mutual
  pub item_size : ItemTree → ℕ
  item_size (seize at p) = 0
  item_size (grant at p) = 0
  item_size (local_item l) = 4 * nodes_in_local l
  item_size (signals at ss) = 4 * nodes_in_signals ss
  item_size (procedure p) = procedure_size p
  item_size (process p) = process_size p
  item_size (modulion n k is h c) = items_size is + some_handler_size h
  item_size (action s) = statement_size s

  pub items_size : ItemNodes → ℕ
  items_size no_items = 0
  items_size (more_items i is) = item_size i + items_size is

abbrev pub modulion_size : ModulionTree → ℕ
modulion_size m = items_size (item_nodes m.items) + some_handler_size m.handler

abbrev pub modulions_size : List ModulionTree → ℕ
modulions_size [] = 0
modulions_size (m ∷ ms) = modulion_size m + modulions_size ms

-- the size of a program
abbrev pub program_size : ProgramTree → ℕ
program_size p = 16 + modulions_size p.modulions

-- what stands in a modulion but for other modulions
abbrev pub own_sizes : List ItemTree → ℕ
own_sizes [] = 0
own_sizes (i ∷ is) = own_size i + own_sizes is

-- a modulion without the modulions that stand in it
abbrev pub size_without_inner : ModulionTree → ℕ
size_without_inner m = own_sizes m.items + some_handler_size m.handler
