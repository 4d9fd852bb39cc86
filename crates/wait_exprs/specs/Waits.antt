-- The priorities of a program and the locations that take an instance, in the order of the text.
use Rattle.std.specs.Prelude.{List, [], ◌∷◌, ◌++◌, flat_map, Option, Some, None}
use Rattle.chill_tree.specs.ExprTree.{ExprTree}
use Rattle.chill_tree.specs.SimpleTree.{SimpleTree, assign, update, call_of, exit, return_with, result_of, assert_that, cause, stop, start_of, delay, continue_event, send}
use Rattle.chill_tree.specs.StatementTree.{StatementTree, BracketedTree, StatementNodes, ElsIfNodes, CaseNodes, NamedNodes, ReceiveNodes, OtherwiseNode, HandlerNode, BodyNodes, BodyTree, HandlerTree, empty, simple, bracketed, if_then, case_of, do_loop, begin_end, delay_case, receive_case, no_statements, more_statements, no_branches, more_branches, no_cases, more_cases, no_named, more_named, no_receives, more_receives, no_otherwise, otherwise, no_handler, handler, no_parts, more_locals, more_actions, body_nodes, handler_node}
use Rattle.chill_tree.specs.ItemTree.{ItemTree, ItemNodes, seize, grant, local_item, signals, procedure, process, modulion, action, no_items, more_items, ModulionTree, modulion_item, ProgramTree}

-- what an action that waits has besides: a location that takes an instance, or a priority
pub data WaitTree : Type 0 where
  set_of : ExprTree → WaitTree
  priority_of : ExprTree → WaitTree

abbrev pub some_wait : (ExprTree → WaitTree) → Option ExprTree → List WaitTree
some_wait of None = []
some_wait of (Some e) = of e ∷ []

abbrev pub waits_of_simple : SimpleTree → List WaitTree
waits_of_simple (delay at n p) = some_wait priority_of p
waits_of_simple (send at n es to p) = some_wait priority_of p
waits_of_simple (assign at t v) = []
waits_of_simple (update at t o p v) = []
waits_of_simple (call_of at word n es) = []
waits_of_simple (exit at n) = []
waits_of_simple (return_with at v) = []
waits_of_simple (result_of at v) = []
waits_of_simple (assert_that at c) = []
waits_of_simple (cause at n) = []
waits_of_simple (stop at) = []
waits_of_simple (start_of at n es) = []
waits_of_simple (continue_event at n) = []

-- of an action that holds others, before what it holds
abbrev pub waits_at_head : BracketedTree → List WaitTree
waits_at_head (delay_case at set p as') = some_wait set_of set ++ some_wait priority_of p
waits_at_head (receive_case at set as' o) = some_wait set_of set
waits_at_head (if_then at c ss bs o) = []
waits_at_head (case_of at e as' o) = []
waits_at_head (do_loop at c ss) = []
waits_at_head (begin_end at ps) = []

abbrev mutual
  pub waits_in : StatementTree → List WaitTree
  waits_in (empty at) = []
  waits_in (simple at a h) = waits_of_simple a ++ waits_in_handler h
  waits_in (bracketed at l a h closing) = waits_at_head a ++ (waits_held a ++ waits_in_handler h)

  -- in the actions that an action holds
  pub waits_held : BracketedTree → List WaitTree
  waits_held (if_then at c ss bs o) = waits_in_each ss ++ (waits_in_branches bs ++ waits_otherwise o)
  waits_held (case_of at e as' o) = waits_in_cases as' ++ waits_otherwise o
  waits_held (do_loop at c ss) = waits_in_each ss
  waits_held (begin_end at ps) = waits_in_parts ps
  waits_held (delay_case at set p as') = waits_in_named as'
  waits_held (receive_case at set as' o) = waits_in_receives as' ++ waits_otherwise o

  pub waits_in_each : StatementNodes → List WaitTree
  waits_in_each no_statements = []
  waits_in_each (more_statements s ss) = waits_in s ++ waits_in_each ss

  pub waits_in_branches : ElsIfNodes → List WaitTree
  waits_in_branches no_branches = []
  waits_in_branches (more_branches at c ss bs) = waits_in_each ss ++ waits_in_branches bs

  pub waits_in_cases : CaseNodes → List WaitTree
  waits_in_cases no_cases = []
  waits_in_cases (more_cases at ls ss as') = waits_in_each ss ++ waits_in_cases as'

  pub waits_in_named : NamedNodes → List WaitTree
  waits_in_named no_named = []
  waits_in_named (more_named at ns ss as') = waits_in_each ss ++ waits_in_named as'

  pub waits_in_receives : ReceiveNodes → List WaitTree
  waits_in_receives no_receives = []
  waits_in_receives (more_receives at n r ss as') = waits_in_each ss ++ waits_in_receives as'

  pub waits_otherwise : OtherwiseNode → List WaitTree
  waits_otherwise no_otherwise = []
  waits_otherwise (otherwise ss) = waits_in_each ss

  pub waits_in_handler : HandlerNode → List WaitTree
  waits_in_handler no_handler = []
  waits_in_handler (handler at as' o) = waits_in_named as' ++ waits_otherwise o

  pub waits_in_parts : BodyNodes → List WaitTree
  waits_in_parts no_parts = []
  waits_in_parts (more_locals l ps) = waits_in_parts ps
  waits_in_parts (more_actions s ps) = waits_in s ++ waits_in_parts ps

-- a body with its handler
abbrev pub waits_in_body : List BodyTree → Option HandlerTree → List WaitTree
waits_in_body ps h = waits_in_parts (body_nodes ps) ++ waits_in_handler (handler_node h)

abbrev mutual
  pub waits_in_item : ItemTree → List WaitTree
  waits_in_item (procedure p) = waits_in_body p.body p.handler
  waits_in_item (process p) = waits_in_body p.body p.handler
  waits_in_item (modulion n kind items h closing) = waits_in_items items ++ waits_in_handler (handler_node h)
  waits_in_item (action s) = waits_in s
  waits_in_item (seize at passed) = []
  waits_in_item (grant at passed) = []
  waits_in_item (local_item l) = []
  waits_in_item (signals at ss) = []

  pub waits_in_items : ItemNodes → List WaitTree
  waits_in_items no_items = []
  waits_in_items (more_items i is) = waits_in_item i ++ waits_in_items is

abbrev pub waits_of : ProgramTree → List WaitTree
waits_of t = flat_map (λ m. waits_in_item (modulion_item m)) t.modulions
