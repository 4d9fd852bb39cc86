-- The size of a program: what its expressions, actions, alternatives and bodies count.
use Rattle.std.specs.Prelude.{ℕ, ◌+◌, Option, Some, None, sum_by}
use Rattle.chill_tree.specs.ExprTree.{ExprTree, whole, character, text, this_instance, paren, receive, start, tuple, uniform, name, apply, field, prefixed, binary, ExprNodes, no_exprs, more_exprs, RangeTree, alone, between, RangeNodes, no_ranges, more_ranges}
use Rattle.chill_tree.specs.ModeTree.{DiscreteTree, named, bounded, set_of, IndexTree, index_named, index_bounded, PlaceTree, SpreadTree, by_packing, by_step, BaseTree, discrete, powerset, chars, structure, array, FieldNodes, no_fields, more_fields, ModeTree, base_mode, read_mode, event_mode, buffer_mode}
use Rattle.chill_tree.specs.LocalTree.{SynonymTree, ModeDefinitionTree, InitialTree, DeclarationTree, LocalTree, synonyms, syn_modes, new_modes, locations}
use Rattle.chill_tree.specs.SimpleTree.{SimpleTree, assign, update, call_of, exit, return_with, result_of, assert_that, cause, stop, start_of, delay, continue_event, send, ControlTree, while_holds, for_ever, for_members, for_steps}
use Rattle.chill_tree.specs.StatementTree.{StatementTree, empty, simple, bracketed, BracketedTree, if_then, case_of, do_loop, begin_end, delay_case, receive_case, StatementNodes, no_statements, more_statements, ElsIfNodes, no_branches, more_branches, CaseNodes, no_cases, more_cases, NamedNodes, no_named, more_named, ReceiveNodes, no_receives, more_receives, OtherwiseNode, no_otherwise, otherwise, HandlerNode, no_handler, handler, handler_node, BodyNodes, no_parts, more_locals, more_actions, body_nodes}
use Rattle.chill_tree.specs.ItemTree.{SignalTree, ParamTree, ProcedureTree, FormalTree, ProcessTree, ItemTree, seize, grant, local_item, signals, procedure, process, modulion, action, ItemNodes, no_items, more_items, item_nodes, ModulionTree, ProgramTree}

-- what is there counts, or nothing
abbrev pub if_given : {X : Type 0} → (X → ℕ) → Option X → ℕ
if_given f None = 0
if_given f (Some x) = f x

-- Each literal, THIS and tuple, each operator, each RECEIVE and START as a value, each name that begins a location or
-- a value, and each part in brackets or behind a dot counts 4; parentheses alone count nothing.
abbrev mutual
  pub expr_size : ExprTree → ℕ
  expr_size (whole at n) = 4
  expr_size (character at n) = 4
  expr_size (text at n) = 4
  expr_size (this_instance at) = 4
  expr_size (paren at e) = expr_size e
  expr_size (receive at n) = 4
  expr_size (start at n es) = 4 + exprs_size es
  expr_size (tuple at m b rs) = 4 + ranges_size rs
  expr_size (uniform at m b e) = 4 + expr_size e
  expr_size (name n) = 4
  expr_size (apply at e es) = 4 + expr_size e + exprs_size es
  expr_size (field at e n) = 4 + expr_size e
  expr_size (prefixed at o e) = 4 + expr_size e
  expr_size (binary at l o p r) = 4 + expr_size l + expr_size r

  pub exprs_size : ExprNodes → ℕ
  exprs_size no_exprs = 0
  exprs_size (more_exprs e es) = expr_size e + exprs_size es

  pub range_size : RangeTree → ℕ
  range_size (alone e) = expr_size e
  range_size (between e f) = expr_size e + expr_size f

  pub ranges_size : RangeNodes → ℕ
  ranges_size no_ranges = 0
  ranges_size (more_ranges r rs) = range_size r + ranges_size rs

-- ---- modes and definitions: the expressions in them

abbrev pub discrete_size : DiscreteTree → ℕ
discrete_size (named n) = 0
discrete_size (bounded n l h) = expr_size l + expr_size h
discrete_size (set_of at ns) = 0

-- an index that is a name is no expression: it stands for a mode
abbrev pub index_size : IndexTree → ℕ
index_size (index_named n) = 0
index_size (index_bounded l h) = expr_size l + expr_size h

abbrev pub place_size : PlaceTree → ℕ
place_size p = expr_size p.word + expr_size p.start + expr_size p.bound

abbrev pub spread_size : SpreadTree → ℕ
spread_size (by_packing p) = 0
spread_size (by_step x) = place_size x.place + expr_size x.distance

abbrev mutual
  pub base_size : BaseTree → ℕ
  base_size (discrete d) = discrete_size d
  base_size (powerset at d) = discrete_size d
  base_size (chars at e) = expr_size e
  base_size (structure at fs p) = fields_size fs
  base_size (array at i e x) = index_size i + base_size e + if_given spread_size x

  pub fields_size : FieldNodes → ℕ
  fields_size no_fields = 0
  fields_size (more_fields ns b p fs) = base_size b + if_given place_size p + fields_size fs

abbrev pub mode_size : ModeTree → ℕ
mode_size (base_mode b) = base_size b
mode_size (read_mode at b) = base_size b
mode_size (event_mode at l) = if_given expr_size l
mode_size (buffer_mode at l b) = if_given expr_size l + base_size b

abbrev pub synonym_size : SynonymTree → ℕ
synonym_size x = if_given mode_size x.mode + expr_size x.value

abbrev pub mode_definition_size : ModeDefinitionTree → ℕ
mode_definition_size x = mode_size x.mode

abbrev pub initial_size : InitialTree → ℕ
initial_size x = expr_size x.value

abbrev pub declaration_size : DeclarationTree → ℕ
declaration_size x = mode_size x.mode + if_given initial_size x.initial

abbrev pub local_size : LocalTree → ℕ
local_size (synonyms at xs) = sum_by synonym_size xs
local_size (syn_modes at xs) = sum_by mode_definition_size xs
local_size (new_modes at xs) = sum_by mode_definition_size xs
local_size (locations at xs) = sum_by declaration_size xs

-- ---- actions: the expressions in them

abbrev pub control_size : ControlTree → ℕ
control_size (while_holds at e) = expr_size e
control_size (for_ever at) = 0
control_size (for_members at n e c) = expr_size e + if_given expr_size c
control_size (for_steps at n e b d f c) = expr_size e + if_given expr_size b + expr_size f + if_given expr_size c

abbrev pub simple_size : SimpleTree → ℕ
simple_size (assign at t v) = expr_size t + expr_size v
simple_size (update at t o p v) = expr_size t + expr_size v
simple_size (call_of at c n es) = sum_by expr_size es
simple_size (exit at n) = 0
simple_size (return_with at v) = if_given expr_size v
simple_size (result_of at v) = expr_size v
simple_size (assert_that at v) = expr_size v
simple_size (cause at n) = 0
simple_size (stop at) = 0
simple_size (start_of at n es) = sum_by expr_size es
simple_size (delay at n c) = if_given expr_size c
simple_size (continue_event at n) = 0
simple_size (send at n es t c) = if_given (sum_by expr_size) es + if_given expr_size t + if_given expr_size c

-- ---- statements: each action and each alternative counts 8
abbrev mutual
  pub statement_size : StatementTree → ℕ
  statement_size (empty at) = 8
  statement_size (simple at a h) = 8 + simple_size a + handler_size h
  statement_size (bracketed at l b h c) = 8 + bracketed_size b + handler_size h

  pub bracketed_size : BracketedTree → ℕ
  bracketed_size (if_then at e ss bs o) = expr_size e + statements_size ss + branches_size bs + otherwise_size o
  bracketed_size (case_of at e cs o) = expr_size e + cases_size cs + otherwise_size o
  bracketed_size (do_loop at c ss) = control_size c + statements_size ss
  bracketed_size (begin_end at ps) = body_size ps
  bracketed_size (delay_case at l c ns) = if_given expr_size l + if_given expr_size c + named_size ns
  bracketed_size (receive_case at l rs o) = if_given expr_size l + receives_size rs + otherwise_size o

  pub statements_size : StatementNodes → ℕ
  statements_size no_statements = 0
  statements_size (more_statements x ss) = statement_size x + statements_size ss

  pub branches_size : ElsIfNodes → ℕ
  branches_size no_branches = 0
  branches_size (more_branches at e ss bs) = expr_size e + statements_size ss + branches_size bs

  pub cases_size : CaseNodes → ℕ
  cases_size no_cases = 0
  cases_size (more_cases at ls ss cs) = 8 + sum_by range_size ls + statements_size ss + cases_size cs

  pub named_size : NamedNodes → ℕ
  named_size no_named = 0
  named_size (more_named at ns ss cs) = 8 + statements_size ss + named_size cs

  pub receives_size : ReceiveNodes → ℕ
  receives_size no_receives = 0
  receives_size (more_receives at n ns ss cs) = 8 + statements_size ss + receives_size cs

  pub otherwise_size : OtherwiseNode → ℕ
  otherwise_size no_otherwise = 0
  otherwise_size (otherwise ss) = statements_size ss

  pub handler_size : HandlerNode → ℕ
  handler_size no_handler = 0
  handler_size (handler at ns o) = named_size ns + otherwise_size o

  pub body_size : BodyNodes → ℕ
  body_size no_parts = 0
  body_size (more_locals l ps) = local_size l + body_size ps
  body_size (more_actions x ps) = statement_size x + body_size ps

-- ---- items: each body of a procedure or process counts 16

abbrev pub signal_size : SignalTree → ℕ
signal_size x = if_given (sum_by mode_size) x.parts

abbrev pub param_size : ParamTree → ℕ
param_size x = mode_size x.mode

abbrev pub formal_size : FormalTree → ℕ
formal_size x = mode_size x.mode

abbrev pub procedure_size : ProcedureTree → ℕ
procedure_size x = 16 + sum_by param_size x.params + if_given mode_size x.returns + body_size (body_nodes x.body) + handler_size (handler_node x.handler)

abbrev pub process_size : ProcessTree → ℕ
process_size x = 16 + sum_by formal_size x.formals + body_size (body_nodes x.body) + handler_size (handler_node x.handler)

abbrev mutual
  pub item_size : ItemTree → ℕ
  item_size (seize at p) = 0
  item_size (grant at p) = 0
  item_size (local_item l) = local_size l
  item_size (signals at xs) = sum_by signal_size xs
  item_size (procedure x) = procedure_size x
  item_size (process x) = process_size x
  item_size (modulion n k is h c) = items_size is + handler_size (handler_node h)
  item_size (action x) = statement_size x

  pub items_size : ItemNodes → ℕ
  items_size no_items = 0
  items_size (more_items i is) = item_size i + items_size is

-- a modulion, whose own body is the outermost process's
abbrev pub modulion_size : ModulionTree → ℕ
modulion_size m = items_size (item_nodes m.items) + handler_size (handler_node m.handler)

-- the size of a program, with the body of the outermost process
abbrev pub size_of_tree : ProgramTree → ℕ
size_of_tree x = 16 + sum_by modulion_size x.modulions
