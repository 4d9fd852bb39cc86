-- The nodes of a program at which rules on modes, statements and processes stand, in the order of the text, each with what
-- its rules need of its surroundings. The rules of each phase are asked of each node; a node's expressions are gone over by
-- the rules on expressions.
use Rattle.std.specs.Prelude.{Bool, true, false, List, [], ◌∷◌, ◌++◌, map, flat_map, Option, Some, None}
use Rattle.chill_tree.specs.declared.tree.name.Name.{Name}
use Rattle.chill_tree.specs.declared.tree.item.ModulionKind.{ModulionKind}
use Rattle.chill_tree.specs.ExprTree.{ExprTree, RangeTree}
use Rattle.chill_tree.specs.ModeTree as written
use Rattle.chill_tree.specs.LocalTree.{SynonymTree, ModeDefinitionTree, DeclarationTree, LocalTree, synonyms, syn_modes, new_modes, locations}
use Rattle.chill_tree.specs.SimpleTree.{SimpleTree, ControlTree, while_holds, for_ever, for_members, for_steps}
use Rattle.chill_tree.specs.StatementTree.{StatementTree, BracketedTree, StatementNodes, ElsIfNodes, CaseNodes, NamedNodes, ReceiveNodes, OtherwiseNode, HandlerNode, BodyNodes, HandlerTree, BodyTree, empty, simple, bracketed, if_then, case_of, do_loop, begin_end, delay_case, receive_case, no_statements, more_statements, no_branches, more_branches, no_cases, more_cases, no_named, more_named, no_receives, more_receives, no_otherwise, otherwise, no_handler, handler, no_parts, more_locals, more_actions, handler_node, body_nodes}
use Rattle.chill_tree.specs.ItemTree.{ProcedureTree, ProcessTree, ItemTree, ItemNodes, seize, grant, local_item, signals, procedure, process, modulion, action, no_items, more_items, ProgramTree, modulion_item}

-- the procedure that an action stands in, its handler included, or none
pub data Around : Type 0 where
  in_procedure : ProcedureTree → Around
  in_no_procedure : Around

pub data Site : Type 0 where
  -- an item that stands directly in a modulion of a kind, which has these items
  at_item : ModulionKind → ItemNodes → ItemTree → Site
  at_synonym : SynonymTree → Site
  -- the mode of a SYNMODE or NEWMODE
  at_mode_definition : ModeDefinitionTree → Site
  -- a declaration, and whether it is directly an item of a modulion
  at_declaration : Bool → DeclarationTree → Site
  -- the mode of a parameter, of a result or of a part of a signal
  at_mode : written.ModeTree → Site
  -- an action that holds no other
  at_simple : Around → SimpleTree → Site
  at_condition : ExprTree → Site
  -- the selector of a CASE, and the labels of one of its alternatives
  at_selector : ExprTree → Site
  at_labels : ExprTree → List RangeTree → Site
  at_control : ControlTree → Site
  -- the location and the priority of a DELAY CASE or RECEIVE CASE
  at_set : ExprTree → Site
  at_priority : ExprTree → Site
  -- a name that a DELAY CASE or a RECEIVE CASE lists, behind those that it lists before
  at_event : List Name → Name → Site
  at_source : List Name → Name → Site
  -- what an alternative of a RECEIVE CASE receives
  at_received : Name → Option (List Name) → Site
  -- the exceptions of an alternative of a handler, behind those that the handler lists before
  at_exceptions : List Name → List Name → Site
  -- a body with its name, where it has one, and the names of its locals
  at_body : Option Name → List Name → Site
  -- the program, with the locations that its processes share
  at_program : List Name → Site

-- ---- definition statements

abbrev pub sites_of_local : Bool → LocalTree → List Site
sites_of_local shared (synonyms at ss) = map at_synonym ss
sites_of_local shared (syn_modes at ds) = map at_mode_definition ds
sites_of_local shared (new_modes at ds) = map at_mode_definition ds
sites_of_local shared (locations at ds) = map (at_declaration shared) ds

-- ---- actions

abbrev pub some_site : (ExprTree → Site) → Option ExprTree → List Site
some_site f None = []
some_site f (Some e) = f e ∷ []

abbrev pub events_listed : List Name → List Name → List Site
events_listed earlier [] = []
events_listed earlier (n ∷ ns) = at_event earlier n ∷ events_listed (earlier ++ n ∷ []) ns

abbrev mutual
  pub sites_of : Around → StatementTree → List Site
  sites_of a (empty at) = []
  sites_of a (simple at s h) = at_simple a s ∷ sites_of_handler a h
  sites_of a (bracketed at l s h closing) = sites_of_bracketed a s ++ sites_of_handler a h

  pub sites_of_bracketed : Around → BracketedTree → List Site
  sites_of_bracketed a (if_then at c ss bs o) = at_condition c ∷ sites_of_each a ss ++ sites_of_branches a bs ++ sites_of_otherwise a o
  sites_of_bracketed a (case_of at e as' o) = at_selector e ∷ sites_of_cases a e as' ++ sites_of_otherwise a o
  sites_of_bracketed a (do_loop at c ss) = at_control c ∷ sites_of_each a ss
  sites_of_bracketed a (begin_end at ps) = sites_of_parts a ps
  sites_of_bracketed a (delay_case at set p as') = some_site at_set set ++ some_site at_priority p ++ sites_of_events a [] as'
  sites_of_bracketed a (receive_case at set as' o) = some_site at_set set ++ sites_of_receives a [] as' ++ sites_of_otherwise a o

  pub sites_of_each : Around → StatementNodes → List Site
  sites_of_each a no_statements = []
  sites_of_each a (more_statements s ss) = sites_of a s ++ sites_of_each a ss

  pub sites_of_branches : Around → ElsIfNodes → List Site
  sites_of_branches a no_branches = []
  sites_of_branches a (more_branches at c ss bs) = (at_condition c ∷ sites_of_each a ss) ++ sites_of_branches a bs

  pub sites_of_cases : Around → ExprTree → CaseNodes → List Site
  sites_of_cases a selector no_cases = []
  sites_of_cases a selector (more_cases at ls ss as') = (at_labels selector ls ∷ sites_of_each a ss) ++ sites_of_cases a selector as'

  -- the alternatives of a DELAY CASE behind some events
  pub sites_of_events : Around → List Name → NamedNodes → List Site
  sites_of_events a earlier no_named = []
  sites_of_events a earlier (more_named at ns ss as') = (events_listed earlier ns ++ sites_of_each a ss) ++ sites_of_events a (earlier ++ ns) as'

  -- the alternatives of a RECEIVE CASE behind some buffers and signals
  pub sites_of_receives : Around → List Name → ReceiveNodes → List Site
  sites_of_receives a earlier no_receives = []
  sites_of_receives a earlier (more_receives at n r ss as') =
      (at_source earlier n ∷ at_received n r ∷ sites_of_each a ss) ++ sites_of_receives a (earlier ++ n ∷ []) as'

  pub sites_of_otherwise : Around → OtherwiseNode → List Site
  sites_of_otherwise a no_otherwise = []
  sites_of_otherwise a (otherwise ss) = sites_of_each a ss

  pub sites_of_handler : Around → HandlerNode → List Site
  sites_of_handler a no_handler = []
  sites_of_handler a (handler at as' o) = sites_of_exceptions a [] as' ++ sites_of_otherwise a o

  -- the alternatives of a handler behind some exceptions
  pub sites_of_exceptions : Around → List Name → NamedNodes → List Site
  sites_of_exceptions a earlier no_named = []
  sites_of_exceptions a earlier (more_named at ns ss as') = (at_exceptions earlier ns ∷ sites_of_each a ss) ++ sites_of_exceptions a (earlier ++ ns) as'

  pub sites_of_parts : Around → BodyNodes → List Site
  sites_of_parts a no_parts = []
  sites_of_parts a (more_locals l ps) = sites_of_local false l ++ sites_of_parts a ps
  sites_of_parts a (more_actions s ps) = sites_of a s ++ sites_of_parts a ps

-- ---- the names of locals: what is declared, counted and received in actions

abbrev pub declared_in : LocalTree → List Name
declared_in (locations at ds) = flat_map (λ d. d.names) ds
declared_in (synonyms at ss) = []
declared_in (syn_modes at ds) = []
declared_in (new_modes at ds) = []

abbrev pub counter_in : ControlTree → List Name
counter_in (while_holds at c) = []
counter_in (for_ever at) = []
counter_in (for_members at n s c) = n ∷ []
counter_in (for_steps at n s b down e c) = n ∷ []

abbrev pub names_received : Option (List Name) → List Name
names_received None = []
names_received (Some ns) = ns

abbrev mutual
  pub locals_in : StatementTree → List Name
  locals_in (empty at) = []
  locals_in (simple at a h) = locals_in_handler h
  locals_in (bracketed at l a h closing) = locals_in_bracketed a ++ locals_in_handler h

  pub locals_in_bracketed : BracketedTree → List Name
  locals_in_bracketed (if_then at c ss bs o) = locals_in_each ss ++ locals_in_branches bs ++ locals_in_otherwise o
  locals_in_bracketed (case_of at e as' o) = locals_in_cases as' ++ locals_in_otherwise o
  locals_in_bracketed (do_loop at c ss) = counter_in c ++ locals_in_each ss
  locals_in_bracketed (begin_end at ps) = locals_in_parts ps
  locals_in_bracketed (delay_case at set p as') = locals_in_named as'
  locals_in_bracketed (receive_case at set as' o) = locals_in_receives as' ++ locals_in_otherwise o

  pub locals_in_each : StatementNodes → List Name
  locals_in_each no_statements = []
  locals_in_each (more_statements s ss) = locals_in s ++ locals_in_each ss

  pub locals_in_branches : ElsIfNodes → List Name
  locals_in_branches no_branches = []
  locals_in_branches (more_branches at c ss bs) = locals_in_each ss ++ locals_in_branches bs

  pub locals_in_cases : CaseNodes → List Name
  locals_in_cases no_cases = []
  locals_in_cases (more_cases at ls ss as') = locals_in_each ss ++ locals_in_cases as'

  pub locals_in_named : NamedNodes → List Name
  locals_in_named no_named = []
  locals_in_named (more_named at ns ss as') = locals_in_each ss ++ locals_in_named as'

  pub locals_in_receives : ReceiveNodes → List Name
  locals_in_receives no_receives = []
  locals_in_receives (more_receives at n r ss as') = (names_received r ++ locals_in_each ss) ++ locals_in_receives as'

  pub locals_in_otherwise : OtherwiseNode → List Name
  locals_in_otherwise no_otherwise = []
  locals_in_otherwise (otherwise ss) = locals_in_each ss

  pub locals_in_handler : HandlerNode → List Name
  locals_in_handler no_handler = []
  locals_in_handler (handler at as' o) = locals_in_named as' ++ locals_in_otherwise o

  pub locals_in_parts : BodyNodes → List Name
  locals_in_parts no_parts = []
  locals_in_parts (more_locals l ps) = declared_in l ++ locals_in_parts ps
  locals_in_parts (more_actions s ps) = locals_in s ++ locals_in_parts ps

-- the locals of a body with its handler
abbrev pub locals_of_body : List BodyTree → Option HandlerTree → List Name
locals_of_body ps h = locals_in_parts (body_nodes ps) ++ locals_in_handler (handler_node h)

-- ---- items

abbrev pub sites_of_modes : Option (List written.ModeTree) → List Site
sites_of_modes None = []
sites_of_modes (Some ms) = map at_mode ms

abbrev pub sites_of_result : Option written.ModeTree → List Site
sites_of_result None = []
sites_of_result (Some m) = at_mode m ∷ []

abbrev pub sites_of_body : Around → List BodyTree → Option HandlerTree → List Site
sites_of_body a ps h = sites_of_parts a (body_nodes ps) ++ sites_of_handler a (handler_node h)

abbrev pub sites_of_procedure : ProcedureTree → List Site
sites_of_procedure p =
    map (λ q. at_mode q.mode) p.params
    ++ sites_of_result p.returns
    ++ at_body (Some p.name) (flat_map (λ q. q.names) p.params ++ locals_of_body p.body p.handler)
    ∷ sites_of_body (in_procedure p) p.body p.handler

abbrev pub sites_of_process : ProcessTree → List Site
sites_of_process p =
    map (λ q. at_mode q.mode) p.formals
    ++ at_body (Some p.name) (flat_map (λ q. q.names) p.formals ++ locals_of_body p.body p.handler)
    ∷ sites_of_body in_no_procedure p.body p.handler

abbrev mutual
  pub sites_of_item : ItemTree → List Site
  sites_of_item (seize at passed) = []
  sites_of_item (grant at passed) = []
  sites_of_item (local_item l) = sites_of_local true l
  sites_of_item (signals at ss) = flat_map (λ s. sites_of_modes s.parts) ss
  sites_of_item (procedure p) = sites_of_procedure p
  sites_of_item (process p) = sites_of_process p
  sites_of_item (modulion n kind items h closing) = sites_of_items kind items items ++ sites_of_handler in_no_procedure (handler_node h)
  sites_of_item (action s) = sites_of in_no_procedure s

  -- some items of a modulion that has these
  pub sites_of_items : ModulionKind → ItemNodes → ItemNodes → List Site
  sites_of_items kind all no_items = []
  sites_of_items kind all (more_items i is) = (at_item kind all i ∷ sites_of_item i) ++ sites_of_items kind all is

-- ---- the outermost body and the shared locations

abbrev mutual
  pub shared_in : ItemTree → List Name
  shared_in (local_item l) = declared_in l
  shared_in (modulion n kind items h closing) = shared_in_each items
  shared_in (seize at passed) = []
  shared_in (grant at passed) = []
  shared_in (signals at ss) = []
  shared_in (procedure p) = []
  shared_in (process p) = []
  shared_in (action s) = []

  pub shared_in_each : ItemNodes → List Name
  shared_in_each no_items = []
  shared_in_each (more_items i is) = shared_in i ++ shared_in_each is

abbrev mutual
  pub outermost_locals : ItemTree → List Name
  outermost_locals (action s) = locals_in s
  outermost_locals (modulion n kind items h closing) = outermost_locals_in items ++ locals_in_handler (handler_node h)
  outermost_locals (local_item l) = []
  outermost_locals (seize at passed) = []
  outermost_locals (grant at passed) = []
  outermost_locals (signals at ss) = []
  outermost_locals (procedure p) = []
  outermost_locals (process p) = []

  pub outermost_locals_in : ItemNodes → List Name
  outermost_locals_in no_items = []
  outermost_locals_in (more_items i is) = outermost_locals i ++ outermost_locals_in is

abbrev pub items_of : ProgramTree → List ItemTree
items_of t = map modulion_item t.modulions

-- the nodes of a program
abbrev pub sites : ProgramTree → List Site
sites t =
    at_body None (flat_map outermost_locals (items_of t))
    ∷ at_program (flat_map shared_in (items_of t))
    ∷ flat_map sites_of_item (items_of t)
