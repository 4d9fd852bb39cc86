-- What the rules on modes and constants tell in a program: what is told in each part of it, one behind the other.
use Rattle.std.specs.Prelude.{true, false, List, [], ◌∷◌, ◌++◌, flat_map, Option, Some, None, option_map}
use Rattle.chill_tree.specs.declared.tree.name.Name.{Name}
use Rattle.chill_tree.specs.ExprTree.{ExprTree, ExprNodes, RangeTree, alone, between, apply, name, expr_nodes}
use Rattle.chill_tree.specs.ModeTree as written
use Rattle.chill_tree.specs.LocalTree.{SynonymTree, ModeDefinitionTree, InitialTree, DeclarationTree, LocalTree, synonyms, syn_modes, new_modes, locations}
use Rattle.chill_tree.specs.SimpleTree.{SimpleTree, assign, update, call_of, exit, return_with, result_of, assert_that, cause, stop, start_of, delay, continue_event, send, ControlTree, while_holds, for_ever, for_members, for_steps}
use Rattle.chill_tree.specs.StatementTree.{StatementTree, BracketedTree, StatementNodes, ElsIfNodes, CaseNodes, NamedNodes, ReceiveNodes, OtherwiseNode, HandlerNode, BodyNodes, BodyTree, HandlerTree, empty, simple, bracketed, if_then, case_of, do_loop, begin_end, delay_case, receive_case, no_statements, more_statements, no_branches, more_branches, no_cases, more_cases, no_named, more_named, no_receives, more_receives, no_otherwise, otherwise, no_handler, handler, no_parts, more_locals, more_actions, body_nodes, handler_node}
use Rattle.chill_tree.specs.ItemTree.{SignalTree, ParamTree, ProcedureTree, FormalTree, ProcessTree, ItemTree, ItemNodes, seize, grant, local_item, signals, procedure, process, modulion, action, no_items, more_items, modulion_item, ProgramTree}
use Rattle.diagnostics.specs.declared.diagnostic.Diagnostic.{Diagnostic}
use Rattle.checks_model.specs.Ground.{Ground}
use Rattle.checks_model.specs.ConstantRules.{told_of_constants, told_of_some_constants, told_needed, told_some_needed}
use Rattle.checks_model.specs.WrittenModes.{told_of_mode, told_of_some_mode}
use Rattle.checks_model.specs.Table.{told_of_synonym}
use Rattle.checks_model.specs.Limits.{told_shared}
use Rattle.checks_model.specs.Phases.{initial_expr, told_without_value}
use Rattle.checks_model.specs.Sites.{declared_in, shared_in, items_of}

module _ (g : Ground) where
  -- ---- expressions

  abbrev pub over_all : List ExprTree → List Diagnostic
  over_all es = flat_map (told_of_constants g) es

  abbrev pub over_some_all : Option (List ExprTree) → List Diagnostic
  over_some_all None = []
  over_some_all (Some es) = over_all es

  abbrev pub over_label : RangeTree → List Diagnostic
  over_label (alone e) = told_needed g e
  over_label (between l h) = told_needed g l ++ told_needed g h

  abbrev pub over_labels : List RangeTree → List Diagnostic
  over_labels ls = flat_map over_label ls

  -- ---- definition statements

  abbrev pub over_synonym : SynonymTree → List Diagnostic
  over_synonym s = told_of_some_mode g s.mode ++ told_of_synonym g s

  abbrev pub over_definition : ModeDefinitionTree → List Diagnostic
  over_definition d = told_of_mode g true d.mode

  abbrev pub over_without_value : Option InitialTree → List Name → List Diagnostic
  over_without_value i ns = flat_map (told_without_value g i) ns

  abbrev pub over_initial : Option InitialTree → List Diagnostic
  over_initial i = told_of_some_constants g (initial_expr i)

  abbrev pub over_declaration : DeclarationTree → List Diagnostic
  over_declaration d = told_of_mode g true d.mode ++ (over_without_value d.initial d.names ++ over_initial d.initial)

  abbrev pub over_local : LocalTree → List Diagnostic
  over_local (synonyms at ss) = flat_map over_synonym ss
  over_local (syn_modes at ds) = flat_map over_definition ds
  over_local (new_modes at ds) = flat_map over_definition ds
  over_local (locations at ds) = flat_map over_declaration ds

  -- ---- actions

  -- a call that stands as an action, as the expression that it would be
  abbrev pub over_call : Name → List ExprTree → List Diagnostic
  over_call n es = told_of_constants g (apply n.at (name n) (expr_nodes es))

  abbrev pub over_simple : SimpleTree → List Diagnostic
  over_simple (assign at t v) = told_of_constants g t ++ told_of_constants g v
  over_simple (update at t o p v) = told_of_constants g t ++ told_of_constants g v
  over_simple (call_of at word n es) = over_call n es
  over_simple (exit at n) = []
  over_simple (return_with at v) = told_of_some_constants g v
  over_simple (result_of at v) = told_of_constants g v
  over_simple (assert_that at c) = told_of_constants g c
  over_simple (cause at n) = []
  over_simple (stop at) = []
  over_simple (start_of at n es) = over_all es
  over_simple (delay at n p) = told_some_needed g p
  over_simple (continue_event at n) = []
  over_simple (send at n es to p) = over_some_all es ++ (told_of_some_constants g to ++ told_some_needed g p)

  abbrev pub over_control : ControlTree → List Diagnostic
  over_control (while_holds at c) = told_of_constants g c
  over_control (for_ever at) = []
  over_control (for_members at n s c) = told_of_constants g s ++ told_of_some_constants g c
  over_control (for_steps at n s b down e c) = told_of_constants g s ++ (told_of_some_constants g b ++ (told_of_constants g e ++ told_of_some_constants g c))

  abbrev mutual
    pub over_statement : StatementTree → List Diagnostic
    over_statement (empty at) = []
    over_statement (simple at a h) = over_simple a ++ over_handler h
    over_statement (bracketed at l a h closing) = over_bracketed a ++ over_handler h

    pub over_bracketed : BracketedTree → List Diagnostic
    over_bracketed (if_then at c ss bs o) = told_of_constants g c ++ (over_actions ss ++ (over_branches bs ++ over_otherwise o))
    over_bracketed (case_of at e as' o) = told_of_constants g e ++ (over_cases as' ++ over_otherwise o)
    over_bracketed (do_loop at c ss) = over_control c ++ over_actions ss
    over_bracketed (begin_end at ps) = over_body ps
    over_bracketed (delay_case at set p as') = told_of_some_constants g set ++ (told_some_needed g p ++ over_named as')
    over_bracketed (receive_case at set as' o) = told_of_some_constants g set ++ (over_receives as' ++ over_otherwise o)

    pub over_actions : StatementNodes → List Diagnostic
    over_actions no_statements = []
    over_actions (more_statements s ss) = over_statement s ++ over_actions ss

    pub over_branches : ElsIfNodes → List Diagnostic
    over_branches no_branches = []
    over_branches (more_branches at c ss bs) = (told_of_constants g c ++ over_actions ss) ++ over_branches bs

    pub over_cases : CaseNodes → List Diagnostic
    over_cases no_cases = []
    over_cases (more_cases at ls ss as') = (over_labels ls ++ over_actions ss) ++ over_cases as'

    pub over_receives : ReceiveNodes → List Diagnostic
    over_receives no_receives = []
    over_receives (more_receives at n r ss as') = over_actions ss ++ over_receives as'

    pub over_otherwise : OtherwiseNode → List Diagnostic
    over_otherwise no_otherwise = []
    over_otherwise (otherwise ss) = over_actions ss

    pub over_handler : HandlerNode → List Diagnostic
    over_handler no_handler = []
    over_handler (handler at as' o) = over_named as' ++ over_otherwise o

    pub over_named : NamedNodes → List Diagnostic
    over_named no_named = []
    over_named (more_named at ns ss as') = over_actions ss ++ over_named as'

    pub over_body : BodyNodes → List Diagnostic
    over_body no_parts = []
    over_body (more_locals l ps) = over_local l ++ over_body ps
    over_body (more_actions s ps) = over_statement s ++ over_body ps

  -- an action that holds others in three: before what it holds, in what it holds, and in its ELSE
  abbrev pub over_head : BracketedTree → List Diagnostic
  over_head (if_then at c ss bs o) = told_of_constants g c
  over_head (case_of at e as' o) = told_of_constants g e
  over_head (do_loop at c ss) = over_control c
  over_head (begin_end at ps) = []
  over_head (delay_case at set p as') = told_of_some_constants g set ++ told_some_needed g p
  over_head (receive_case at set as' o) = told_of_some_constants g set

  abbrev pub over_held : BracketedTree → List Diagnostic
  over_held (if_then at c ss bs o) = over_actions ss ++ over_branches bs
  over_held (case_of at e as' o) = over_cases as'
  over_held (do_loop at c ss) = over_actions ss
  over_held (begin_end at ps) = over_body ps
  over_held (delay_case at set p as') = over_named as'
  over_held (receive_case at set as' o) = over_receives as'

  abbrev pub over_else : BracketedTree → List Diagnostic
  over_else (if_then at c ss bs o) = over_otherwise o
  over_else (case_of at e as' o) = over_otherwise o
  over_else (do_loop at c ss) = []
  over_else (begin_end at ps) = []
  over_else (delay_case at set p as') = []
  over_else (receive_case at set as' o) = over_otherwise o

  -- ---- items

  abbrev pub over_modes : List written.ModeTree → List Diagnostic
  over_modes ms = flat_map (told_of_mode g false) ms

  abbrev pub over_some_modes : Option (List written.ModeTree) → List Diagnostic
  over_some_modes None = []
  over_some_modes (Some ms) = over_modes ms

  abbrev pub over_signal : SignalTree → List Diagnostic
  over_signal s = over_some_modes s.parts

  abbrev pub over_param : ParamTree → List Diagnostic
  over_param p = told_of_mode g false p.mode

  abbrev pub over_formal : FormalTree → List Diagnostic
  over_formal p = told_of_mode g false p.mode

  abbrev pub whole_body : List BodyTree → Option HandlerTree → List Diagnostic
  whole_body ps h = over_body (body_nodes ps) ++ over_handler (handler_node h)

  abbrev pub over_procedure : ProcedureTree → List Diagnostic
  over_procedure p = flat_map over_param p.params ++ (told_of_some_mode g p.returns ++ whole_body p.body p.handler)

  abbrev pub over_process : ProcessTree → List Diagnostic
  over_process p = flat_map over_formal p.formals ++ whole_body p.body p.handler

  abbrev mutual
    pub over_item : ItemTree → List Diagnostic
    over_item (seize at passed) = []
    over_item (grant at passed) = []
    over_item (local_item l) = over_local l
    over_item (signals at ss) = flat_map over_signal ss
    over_item (procedure p) = over_procedure p
    over_item (process p) = over_process p
    over_item (modulion n kind items h closing) = over_items items ++ over_handler (handler_node h)
    over_item (action s) = over_statement s

    pub over_items : ItemNodes → List Diagnostic
    over_items no_items = []
    over_items (more_items i is) = over_item i ++ over_items is

  abbrev pub over_modulions : ProgramTree → List Diagnostic
  over_modulions t = flat_map (λ m. over_item (modulion_item m)) t.modulions

  -- L7, then what is told in the parts
  abbrev pub over_program : ProgramTree → List Diagnostic
  over_program t = told_shared g 0 (flat_map shared_in (items_of t)) ++ over_modulions t
