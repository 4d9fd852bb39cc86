-- What the rules that names decide tell in a program: what is told in each part of it, one behind the other. What an action
-- lists is told before its alternatives, and what a region grants before its items; else it is in the order of the text.
use Rattle.std.specs.Prelude.{List, [], ◌++◌, flat_map, Option, Some, None}
use Rattle.chill_tree.specs.declared.tree.name.Name.{Name}
use Rattle.chill_tree.specs.declared.tree.item.ModulionKind.{ModulionKind}
use Rattle.chill_tree.specs.ExprTree.{ExprTree}
use Rattle.chill_tree.specs.ModeTree.{ModeTree}
use Rattle.chill_tree.specs.LocalTree.{SynonymTree, ModeDefinitionTree, InitialTree, DeclarationTree, LocalTree, synonyms, syn_modes, new_modes, locations}
use Rattle.chill_tree.specs.SimpleTree.{SimpleTree, assign, update, call_of, exit, return_with, result_of, assert_that, cause, stop, start_of, delay, continue_event, send, ControlTree, while_holds, for_ever, for_members, for_steps}
use Rattle.chill_tree.specs.StatementTree.{StatementTree, BracketedTree, StatementNodes, ElsIfNodes, CaseNodes, NamedNodes, ReceiveNodes, OtherwiseNode, HandlerNode, BodyNodes, BodyTree, HandlerTree, empty, simple, bracketed, if_then, case_of, do_loop, begin_end, delay_case, receive_case, no_statements, more_statements, no_branches, more_branches, no_cases, more_cases, no_named, more_named, no_receives, more_receives, no_otherwise, otherwise, no_handler, handler, no_parts, more_locals, more_actions, body_nodes, handler_node}
use Rattle.chill_tree.specs.ItemTree.{SignalTree, ParamTree, ProcedureTree, FormalTree, ProcessTree, ItemTree, ItemNodes, seize, grant, local_item, signals, procedure, process, modulion, action, no_items, more_items, modulion_item, ProgramTree}
use Rattle.diagnostics.specs.declared.diagnostic.Diagnostic.{Diagnostic}
use Rattle.met_names.specs.declared.purpose.Purpose.{Purpose}
use Rattle.met_names.specs.declared.purpose.Purpose.TheVariants as purposes
use Rattle.met_names.specs.Facts.{Facts, told_misfit, told_source}
use Rattle.met_names.specs.Sources.{over_expr, over_all, over_some, over_some_all, over_labels, over_mode, over_some_mode}
use Rattle.process_names.specs.Rules.{told_local, told_place, told_grants}
use Rattle.process_names.specs.Heard.{nothing_heard, told_events, told_sources}

-- what a SEND is for, which names the instance that is to receive or doesn't
abbrev pub purpose_of_send : Option ExprTree → Purpose
purpose_of_send None = purposes.Messages
purpose_of_send (Some e) = purposes.Signals

module _ (f : Facts) where
  -- ---- definition statements

  abbrev pub over_synonym : SynonymTree → List Diagnostic
  over_synonym s = over_some_mode (told_source f) s.mode ++ over_expr (told_source f) s.value

  abbrev pub over_initial : Option InitialTree → List Diagnostic
  over_initial None = []
  over_initial (Some i) = over_expr (told_source f) i.value

  abbrev pub over_declaration : DeclarationTree → List Diagnostic
  over_declaration d = over_mode (told_source f) d.mode ++ over_initial d.initial

  abbrev pub over_definition : ModeDefinitionTree → List Diagnostic
  over_definition d = over_mode (told_source f) d.mode

  abbrev pub over_local : LocalTree → List Diagnostic
  over_local (synonyms at ss) = flat_map over_synonym ss
  over_local (syn_modes at ds) = flat_map over_definition ds
  over_local (new_modes at ds) = flat_map over_definition ds
  over_local (locations at ds) = flat_map over_declaration ds

  -- P8 of each name that is declared in a body
  abbrev pub declared_names : List Name → List Diagnostic
  declared_names ns = flat_map (told_local f) ns

  abbrev pub over_declared_names : LocalTree → List Diagnostic
  over_declared_names (synonyms at ss) = []
  over_declared_names (syn_modes at ds) = []
  over_declared_names (new_modes at ds) = []
  over_declared_names (locations at ds) = flat_map (λ d. declared_names d.names) ds

  abbrev pub over_local_of_body : LocalTree → List Diagnostic
  over_local_of_body l = over_declared_names l ++ over_local l

  -- ---- actions

  abbrev pub over_simple : SimpleTree → List Diagnostic
  over_simple (assign at t v) = over_expr (told_source f) t ++ over_expr (told_source f) v
  over_simple (update at t o p v) = over_expr (told_source f) t ++ over_expr (told_source f) v
  over_simple (call_of at word n es) = over_all (told_source f) es
  over_simple (exit at n) = []
  over_simple (return_with at v) = over_some (told_source f) v
  over_simple (result_of at v) = over_expr (told_source f) v
  over_simple (assert_that at c) = over_expr (told_source f) c
  over_simple (cause at n) = []
  over_simple (stop at) = []
  over_simple (start_of at n es) = over_all (told_source f) es
  over_simple (delay at n p) = told_misfit f purposes.Events n ++ over_some (told_source f) p
  over_simple (continue_event at n) = told_misfit f purposes.Events n
  over_simple (send at n es to p) = told_misfit f (purpose_of_send to) n ++ (over_some_all (told_source f) es ++ (over_some (told_source f) to ++ over_some (told_source f) p))

  abbrev pub over_control : ControlTree → List Diagnostic
  over_control (while_holds at c) = over_expr (told_source f) c
  over_control (for_ever at) = []
  over_control (for_members at n s c) = over_expr (told_source f) s ++ over_some (told_source f) c
  over_control (for_steps at n s b down e c) = over_expr (told_source f) s ++ (over_some (told_source f) b ++ (over_expr (told_source f) e ++ over_some (told_source f) c))

  abbrev mutual
    pub over_statement : StatementTree → List Diagnostic
    over_statement (empty at) = []
    over_statement (simple at a h) = over_simple a ++ over_handler h
    over_statement (bracketed at l a h closing) = over_bracketed a ++ over_handler h

    pub over_bracketed : BracketedTree → List Diagnostic
    over_bracketed (if_then at c ss bs o) = over_expr (told_source f) c ++ (over_actions ss ++ (over_branches bs ++ over_otherwise o))
    over_bracketed (case_of at e as' o) = over_expr (told_source f) e ++ (over_cases as' ++ over_otherwise o)
    over_bracketed (do_loop at c ss) = over_control c ++ over_actions ss
    over_bracketed (begin_end at ps) = over_body ps
    over_bracketed (delay_case at set p as') = over_some (told_source f) set ++ (over_some (told_source f) p ++ (told_events f nothing_heard as' ++ over_named as'))
    over_bracketed (receive_case at set as' o) = over_some (told_source f) set ++ (told_sources f nothing_heard as' ++ (over_receives as' ++ over_otherwise o))

    pub over_actions : StatementNodes → List Diagnostic
    over_actions no_statements = []
    over_actions (more_statements s ss) = over_statement s ++ over_actions ss

    pub over_branches : ElsIfNodes → List Diagnostic
    over_branches no_branches = []
    over_branches (more_branches at c ss bs) = (over_expr (told_source f) c ++ over_actions ss) ++ over_branches bs

    pub over_cases : CaseNodes → List Diagnostic
    over_cases no_cases = []
    over_cases (more_cases at ls ss as') = (over_labels (told_source f) ls ++ over_actions ss) ++ over_cases as'

    -- the actions of the alternatives of a RECEIVE CASE
    pub over_receives : ReceiveNodes → List Diagnostic
    over_receives no_receives = []
    over_receives (more_receives at n r ss as') = over_actions ss ++ over_receives as'

    pub over_otherwise : OtherwiseNode → List Diagnostic
    over_otherwise no_otherwise = []
    over_otherwise (otherwise ss) = over_actions ss

    pub over_handler : HandlerNode → List Diagnostic
    over_handler no_handler = []
    over_handler (handler at as' o) = over_named as' ++ over_otherwise o

    -- the actions of the alternatives of a DELAY CASE or a handler
    pub over_named : NamedNodes → List Diagnostic
    over_named no_named = []
    over_named (more_named at ns ss as') = over_actions ss ++ over_named as'

    pub over_body : BodyNodes → List Diagnostic
    over_body no_parts = []
    over_body (more_locals l ps) = over_local_of_body l ++ over_body ps
    over_body (more_actions s ps) = over_statement s ++ over_body ps

  -- ---- items

  abbrev pub over_some_modes : Option (List ModeTree) → List Diagnostic
  over_some_modes None = []
  over_some_modes (Some ms) = flat_map (over_mode (told_source f)) ms

  abbrev pub over_signal : SignalTree → List Diagnostic
  over_signal s = over_some_modes s.parts

  abbrev pub over_param : ParamTree → List Diagnostic
  over_param p = over_mode (told_source f) p.mode

  abbrev pub over_formal : FormalTree → List Diagnostic
  over_formal p = over_mode (told_source f) p.mode

  abbrev pub whole_body : List BodyTree → Option HandlerTree → List Diagnostic
  whole_body ps h = over_body (body_nodes ps) ++ over_handler (handler_node h)

  abbrev pub over_procedure : ProcedureTree → List Diagnostic
  over_procedure p = flat_map over_param p.params ++ (over_some_mode (told_source f) p.returns ++ whole_body p.body p.handler)

  abbrev pub over_process : ProcessTree → List Diagnostic
  over_process p = flat_map over_formal p.formals ++ whole_body p.body p.handler

  abbrev mutual
    -- what is in an item
    pub inside_item : ItemTree → List Diagnostic
    inside_item (seize at passed) = []
    inside_item (grant at passed) = []
    inside_item (local_item l) = over_local l
    inside_item (signals at ss) = flat_map over_signal ss
    inside_item (procedure p) = over_procedure p
    inside_item (process p) = over_process p
    inside_item (modulion n kind items h closing) = told_grants kind items ++ (over_items kind items ++ over_handler (handler_node h))
    inside_item (action s) = over_statement s

    -- of each item in a modulion of a kind first what is asked of it there, then what is in it
    pub over_items : ModulionKind → ItemNodes → List Diagnostic
    over_items around no_items = []
    over_items around (more_items i is) = (told_place around i ++ inside_item i) ++ over_items around is

  abbrev pub over_item : ModulionKind → ItemTree → List Diagnostic
  over_item around i = told_place around i ++ inside_item i

  -- an outermost modulion stands in none
  abbrev pub over_program : ProgramTree → List Diagnostic
  over_program t = flat_map (λ m. inside_item (modulion_item m)) t.modulions
