-- Trees that are the same but for the places of their tokens.
use Rattle.std.specs.Prelude.{◌≡◌, map, option_map}
use Rattle.chill_base.specs.declared.pos.Pos.{Pos}
use Rattle.chill_tree.specs.declared.tree.name.Name.{Name}
use Rattle.chill_tree.specs.declared.tree.item.Passed.{Passed}
use Rattle.chill_tree.specs.declared.tree.item.Passed.TheVariants as passes
use Rattle.chill_tree.specs.ExprTree.{ExprTree, whole, character, text, this_instance, paren, receive, start, tuple, uniform, name, apply, field, prefixed, binary, ExprNodes, no_exprs, more_exprs, RangeTree, alone, between, RangeNodes, no_ranges, more_ranges}
use Rattle.chill_tree.specs.ModeTree.{DiscreteTree, named, bounded, set_of, IndexTree, index_named, index_bounded, PlaceTree, StepTree, SpreadTree, by_packing, by_step, BaseTree, discrete, powerset, chars, structure, array, FieldNodes, no_fields, more_fields, ModeTree, base_mode, read_mode, event_mode, buffer_mode}
use Rattle.chill_tree.specs.LocalTree.{SynonymTree, ModeDefinitionTree, InitialTree, DeclarationTree, LocalTree, synonyms, syn_modes, new_modes, locations}
use Rattle.chill_tree.specs.SimpleTree.{SimpleTree, assign, update, call_of, exit, return_with, result_of, assert_that, cause, stop, start_of, delay, continue_event, send, ControlTree, while_holds, for_ever, for_members, for_steps}
use Rattle.chill_tree.specs.StatementTree.{StatementTree, empty, simple, bracketed, BracketedTree, if_then, case_of, do_loop, begin_end, delay_case, receive_case, StatementNodes, no_statements, more_statements, ElsIfNodes, no_branches, more_branches, CaseNodes, no_cases, more_cases, NamedNodes, no_named, more_named, ReceiveNodes, no_receives, more_receives, OtherwiseNode, no_otherwise, otherwise, HandlerNode, no_handler, handler, BodyNodes, no_parts, more_locals, more_actions, NamedTree, HandlerTree, BodyTree, local_part, action_part}
use Rattle.chill_tree.specs.ItemTree.{SignalTree, ParamTree, ProcedureTree, FormalTree, ProcessTree, ItemTree, seize, grant, local_item, signals, procedure, process, modulion, action, ItemNodes, no_items, more_items, ModulionTree, ProgramTree}
use Rattle.rules_model.specs.Marks.{Toks}
use Rattle.rules_model.specs.ItemGrammar.{IsTreeOf}
use Rattle.rules_model.specs.TreeTokens.{tokens_of_tree}
use Rattle.tree_print.specs.Canonical.{token_kinds}

-- no place of a text: lines and columns count from 1
abbrev pub nowhere : Pos
nowhere = record { line = 0; column = 0 }

-- Each tree with no place in it, and all else as it was: first of names and expressions.

abbrev pub unplaced_name : Name → Name
unplaced_name n = record { at = nowhere; text = n.text }

abbrev mutual
  pub unplaced_expr : ExprTree → ExprTree
  unplaced_expr (whole at n) = whole nowhere n
  unplaced_expr (character at n) = character nowhere n
  unplaced_expr (text at s) = text nowhere s
  unplaced_expr (this_instance at) = this_instance nowhere
  unplaced_expr (paren at e) = paren nowhere (unplaced_expr e)
  unplaced_expr (receive at n) = receive nowhere (unplaced_name n)
  unplaced_expr (start at n es) = start nowhere (unplaced_name n) (unplaced_exprs es)
  unplaced_expr (tuple at m b rs) = tuple nowhere (option_map unplaced_name m) nowhere (unplaced_ranges rs)
  unplaced_expr (uniform at m b e) = uniform nowhere (option_map unplaced_name m) nowhere (unplaced_expr e)
  unplaced_expr (name n) = name (unplaced_name n)
  unplaced_expr (apply at e es) = apply nowhere (unplaced_expr e) (unplaced_exprs es)
  unplaced_expr (field at e n) = field nowhere (unplaced_expr e) (unplaced_name n)
  unplaced_expr (prefixed at o e) = prefixed nowhere o (unplaced_expr e)
  unplaced_expr (binary at l o p r) = binary nowhere (unplaced_expr l) o nowhere (unplaced_expr r)

  pub unplaced_exprs : ExprNodes → ExprNodes
  unplaced_exprs no_exprs = no_exprs
  unplaced_exprs (more_exprs e es) = more_exprs (unplaced_expr e) (unplaced_exprs es)

  pub unplaced_range : RangeTree → RangeTree
  unplaced_range (alone e) = alone (unplaced_expr e)
  unplaced_range (between e f) = between (unplaced_expr e) (unplaced_expr f)

  pub unplaced_ranges : RangeNodes → RangeNodes
  unplaced_ranges no_ranges = no_ranges
  unplaced_ranges (more_ranges r rs) = more_ranges (unplaced_range r) (unplaced_ranges rs)

-- ---- modes and definitions

abbrev pub unplaced_discrete : DiscreteTree → DiscreteTree
unplaced_discrete (named n) = named (unplaced_name n)
unplaced_discrete (bounded n l h) = bounded (unplaced_name n) (unplaced_expr l) (unplaced_expr h)
unplaced_discrete (set_of at ns) = set_of nowhere (map unplaced_name ns)

abbrev pub unplaced_index : IndexTree → IndexTree
unplaced_index (index_named n) = index_named (unplaced_name n)
unplaced_index (index_bounded l h) = index_bounded (unplaced_expr l) (unplaced_expr h)

abbrev pub unplaced_place : PlaceTree → PlaceTree
unplaced_place p = record { at = nowhere; word = unplaced_expr p.word; start = unplaced_expr p.start; form = p.form; bound = unplaced_expr p.bound }

abbrev pub unplaced_step : StepTree → StepTree
unplaced_step s = record { at = nowhere; place = unplaced_place s.place; distance = unplaced_expr s.distance }

abbrev pub unplaced_spread : SpreadTree → SpreadTree
unplaced_spread (by_packing p) = by_packing p
unplaced_spread (by_step s) = by_step (unplaced_step s)

abbrev mutual
  pub unplaced_base : BaseTree → BaseTree
  unplaced_base (discrete d) = discrete (unplaced_discrete d)
  unplaced_base (powerset at d) = powerset nowhere (unplaced_discrete d)
  unplaced_base (chars at e) = chars nowhere (unplaced_expr e)
  unplaced_base (structure at fs p) = structure nowhere (unplaced_fields fs) p
  unplaced_base (array at i e s) = array nowhere (unplaced_index i) (unplaced_base e) (option_map unplaced_spread s)

  pub unplaced_fields : FieldNodes → FieldNodes
  unplaced_fields no_fields = no_fields
  unplaced_fields (more_fields ns b p fs) = more_fields (map unplaced_name ns) (unplaced_base b) (option_map unplaced_place p) (unplaced_fields fs)

abbrev pub unplaced_mode : ModeTree → ModeTree
unplaced_mode (base_mode b) = base_mode (unplaced_base b)
unplaced_mode (read_mode at b) = read_mode nowhere (unplaced_base b)
unplaced_mode (event_mode at l) = event_mode nowhere (option_map unplaced_expr l)
unplaced_mode (buffer_mode at l b) = buffer_mode nowhere (option_map unplaced_expr l) (unplaced_base b)

abbrev pub unplaced_synonym : SynonymTree → SynonymTree
unplaced_synonym s = record { names = map unplaced_name s.names; mode = option_map unplaced_mode s.mode; value = unplaced_expr s.value }

abbrev pub unplaced_mode_definition : ModeDefinitionTree → ModeDefinitionTree
unplaced_mode_definition d = record { name = unplaced_name d.name; mode = unplaced_mode d.mode }

abbrev pub unplaced_initial : InitialTree → InitialTree
unplaced_initial i = record { at = nowhere; init = i.init; value = unplaced_expr i.value }

abbrev pub unplaced_declaration : DeclarationTree → DeclarationTree
unplaced_declaration d = record { names = map unplaced_name d.names; mode = unplaced_mode d.mode; initial = option_map unplaced_initial d.initial }

abbrev pub unplaced_local : LocalTree → LocalTree
unplaced_local (synonyms at ss) = synonyms nowhere (map unplaced_synonym ss)
unplaced_local (syn_modes at ds) = syn_modes nowhere (map unplaced_mode_definition ds)
unplaced_local (new_modes at ds) = new_modes nowhere (map unplaced_mode_definition ds)
unplaced_local (locations at ds) = locations nowhere (map unplaced_declaration ds)

-- ---- actions and statements

abbrev pub unplaced_control : ControlTree → ControlTree
unplaced_control (while_holds at e) = while_holds nowhere (unplaced_expr e)
unplaced_control (for_ever at) = for_ever nowhere
unplaced_control (for_members at n e c) = for_members nowhere (unplaced_name n) (unplaced_expr e) (option_map unplaced_expr c)
unplaced_control (for_steps at n e b d f c) = for_steps nowhere (unplaced_name n) (unplaced_expr e) (option_map unplaced_expr b) d (unplaced_expr f) (option_map unplaced_expr c)

abbrev pub unplaced_simple : SimpleTree → SimpleTree
unplaced_simple (assign at t v) = assign nowhere (unplaced_expr t) (unplaced_expr v)
unplaced_simple (update at t o p v) = update nowhere (unplaced_expr t) o nowhere (unplaced_expr v)
unplaced_simple (call_of at c n es) = call_of nowhere c (unplaced_name n) (map unplaced_expr es)
unplaced_simple (exit at n) = exit nowhere (unplaced_name n)
unplaced_simple (return_with at v) = return_with nowhere (option_map unplaced_expr v)
unplaced_simple (result_of at v) = result_of nowhere (unplaced_expr v)
unplaced_simple (assert_that at v) = assert_that nowhere (unplaced_expr v)
unplaced_simple (cause at n) = cause nowhere (unplaced_name n)
unplaced_simple (stop at) = stop nowhere
unplaced_simple (start_of at n es) = start_of nowhere (unplaced_name n) (map unplaced_expr es)
unplaced_simple (delay at n c) = delay nowhere (unplaced_name n) (option_map unplaced_expr c)
unplaced_simple (continue_event at n) = continue_event nowhere (unplaced_name n)
unplaced_simple (send at n es t c) = send nowhere (unplaced_name n) (option_map (map unplaced_expr) es) (option_map unplaced_expr t) (option_map unplaced_expr c)

abbrev mutual
  pub unplaced_statement : StatementTree → StatementTree
  unplaced_statement (empty at) = empty nowhere
  unplaced_statement (simple at a h) = simple nowhere (unplaced_simple a) (unplaced_handler h)
  unplaced_statement (bracketed at l b h c) = bracketed nowhere (option_map unplaced_name l) (unplaced_bracketed b) (unplaced_handler h) (option_map unplaced_name c)

  pub unplaced_bracketed : BracketedTree → BracketedTree
  unplaced_bracketed (if_then at e ss bs o) = if_then nowhere (unplaced_expr e) (unplaced_statements ss) (unplaced_branches bs) (unplaced_otherwise o)
  unplaced_bracketed (case_of at e cs o) = case_of nowhere (unplaced_expr e) (unplaced_cases cs) (unplaced_otherwise o)
  unplaced_bracketed (do_loop at c ss) = do_loop nowhere (unplaced_control c) (unplaced_statements ss)
  unplaced_bracketed (begin_end at ps) = begin_end nowhere (unplaced_body ps)
  unplaced_bracketed (delay_case at l c ns) = delay_case nowhere (option_map unplaced_expr l) (option_map unplaced_expr c) (unplaced_named ns)
  unplaced_bracketed (receive_case at l rs o) = receive_case nowhere (option_map unplaced_expr l) (unplaced_receives rs) (unplaced_otherwise o)

  pub unplaced_statements : StatementNodes → StatementNodes
  unplaced_statements no_statements = no_statements
  unplaced_statements (more_statements s ss) = more_statements (unplaced_statement s) (unplaced_statements ss)

  pub unplaced_branches : ElsIfNodes → ElsIfNodes
  unplaced_branches no_branches = no_branches
  unplaced_branches (more_branches at e ss bs) = more_branches nowhere (unplaced_expr e) (unplaced_statements ss) (unplaced_branches bs)

  pub unplaced_cases : CaseNodes → CaseNodes
  unplaced_cases no_cases = no_cases
  unplaced_cases (more_cases at ls ss cs) = more_cases nowhere (map unplaced_range ls) (unplaced_statements ss) (unplaced_cases cs)

  pub unplaced_named : NamedNodes → NamedNodes
  unplaced_named no_named = no_named
  unplaced_named (more_named at ns ss cs) = more_named nowhere (map unplaced_name ns) (unplaced_statements ss) (unplaced_named cs)

  pub unplaced_receives : ReceiveNodes → ReceiveNodes
  unplaced_receives no_receives = no_receives
  unplaced_receives (more_receives at n ns ss cs) = more_receives nowhere (unplaced_name n) (option_map (map unplaced_name) ns) (unplaced_statements ss) (unplaced_receives cs)

  pub unplaced_otherwise : OtherwiseNode → OtherwiseNode
  unplaced_otherwise no_otherwise = no_otherwise
  unplaced_otherwise (otherwise ss) = otherwise (unplaced_statements ss)

  pub unplaced_handler : HandlerNode → HandlerNode
  unplaced_handler no_handler = no_handler
  unplaced_handler (handler at ns o) = handler nowhere (unplaced_named ns) (unplaced_otherwise o)

  pub unplaced_body : BodyNodes → BodyNodes
  unplaced_body no_parts = no_parts
  unplaced_body (more_locals l ps) = more_locals (unplaced_local l) (unplaced_body ps)
  unplaced_body (more_actions s ps) = more_actions (unplaced_statement s) (unplaced_body ps)

-- ---- items

-- handlers and parts of bodies as items hold them
abbrev pub unplaced_alternative : NamedTree → NamedTree
unplaced_alternative a = record { at = nowhere; names = map unplaced_name a.names; actions = map unplaced_statement a.actions }

abbrev pub unplaced_handler_tree : HandlerTree → HandlerTree
unplaced_handler_tree h = record { at = nowhere; alternatives = map unplaced_alternative h.alternatives; otherwise_part = option_map (map unplaced_statement) h.otherwise_part }

abbrev pub unplaced_part : BodyTree → BodyTree
unplaced_part (local_part l) = local_part (unplaced_local l)
unplaced_part (action_part s) = action_part (unplaced_statement s)

abbrev pub unplaced_passed : Passed → Passed
unplaced_passed (passes.Names ns) = passes.Names (map unplaced_name ns)
unplaced_passed (passes.All at) = passes.All nowhere

abbrev pub unplaced_signal : SignalTree → SignalTree
unplaced_signal s = record { name = unplaced_name s.name; parts = option_map (map unplaced_mode) s.parts; process = option_map unplaced_name s.process }

abbrev pub unplaced_param : ParamTree → ParamTree
unplaced_param p = record { names = map unplaced_name p.names; mode = unplaced_mode p.mode; passing = p.passing }

abbrev pub unplaced_formal : FormalTree → FormalTree
unplaced_formal p = record { names = map unplaced_name p.names; mode = unplaced_mode p.mode }

abbrev pub unplaced_procedure : ProcedureTree → ProcedureTree
unplaced_procedure p = record { name = unplaced_name p.name; params = map unplaced_param p.params; returns = option_map unplaced_mode p.returns; exceptions = option_map (map unplaced_name) p.exceptions; body = map unplaced_part p.body; handler = option_map unplaced_handler_tree p.handler; closing = option_map unplaced_name p.closing }

abbrev pub unplaced_process : ProcessTree → ProcessTree
unplaced_process p = record { name = unplaced_name p.name; formals = map unplaced_formal p.formals; body = map unplaced_part p.body; handler = option_map unplaced_handler_tree p.handler; closing = option_map unplaced_name p.closing }

abbrev mutual
  pub unplaced_item : ItemTree → ItemTree
  unplaced_item (seize at p) = seize nowhere (unplaced_passed p)
  unplaced_item (grant at p) = grant nowhere (unplaced_passed p)
  unplaced_item (local_item l) = local_item (unplaced_local l)
  unplaced_item (signals at ss) = signals nowhere (map unplaced_signal ss)
  unplaced_item (procedure p) = procedure (unplaced_procedure p)
  unplaced_item (process p) = process (unplaced_process p)
  unplaced_item (modulion n k is h c) = modulion (unplaced_name n) k (unplaced_items is) (option_map unplaced_handler_tree h) (option_map unplaced_name c)
  unplaced_item (action s) = action (unplaced_statement s)

  pub unplaced_items : ItemNodes → ItemNodes
  unplaced_items no_items = no_items
  unplaced_items (more_items i is) = more_items (unplaced_item i) (unplaced_items is)

abbrev pub unplaced_modulion : ModulionTree → ModulionTree
unplaced_modulion m = record { name = unplaced_name m.name; kind = m.kind; items = map unplaced_item m.items; handler = option_map unplaced_handler_tree m.handler; closing = option_map unplaced_name m.closing }

abbrev pub unplaced_program : ProgramTree → ProgramTree
unplaced_program x = record { modulions = map unplaced_modulion x.modulions }

-- ---- the laws

-- trees that differ in nothing but places
abbrev pub IsSameTree : ProgramTree → ProgramTree → Type 0
IsSameTree x y = unplaced_program x ≡ unplaced_program y

-- tokens that have a tree are of the tree's kinds
abbrev pub TreeTokensLaw : Type 0
TreeTokensLaw = (toks : Toks) (x : ProgramTree) → IsTreeOf toks x → token_kinds toks ≡ tokens_of_tree x

-- where tokens have a tree, any others of the same kinds have one too: the same but for places
abbrev pub SameTreeLaw : Type 0
SameTreeLaw = (toks others : Toks) (x : ProgramTree) → IsTreeOf toks x → token_kinds others ≡ token_kinds toks → (y : ProgramTree) × IsTreeOf others y × IsSameTree x y
