-- What each definition of a program is defined by, in the order in which definitions are numbered, with the predefined names
-- behind them.
use Rattle.std.specs.Prelude.{Bool, true, false, List, [], ◌∷◌, ◌++◌, map, flat_map, length, replicate, Option, Some, None, if◌then◌else◌}
use Rattle.chill_tree.specs.declared.tree.name.Name.{Name}
use Rattle.chill_tree.specs.ModeTree as written
use Rattle.chill_tree.specs.LocalTree.{SynonymTree, ModeDefinitionTree, DeclarationTree, LocalTree, synonyms, syn_modes, new_modes, locations}
use Rattle.chill_tree.specs.SimpleTree.{ControlTree, while_holds, for_ever, for_members, for_steps}
use Rattle.chill_tree.specs.StatementTree.{StatementTree, BracketedTree, StatementNodes, ElsIfNodes, CaseNodes, NamedNodes, ReceiveNodes, OtherwiseNode, HandlerNode, BodyNodes, HandlerTree, BodyTree, empty, simple, bracketed, if_then, case_of, do_loop, begin_end, delay_case, receive_case, no_statements, more_statements, no_branches, more_branches, no_cases, more_cases, no_named, more_named, no_receives, more_receives, no_otherwise, otherwise, no_handler, handler, no_parts, more_locals, more_actions, handler_node, body_nodes}
use Rattle.chill_tree.specs.ItemTree.{SignalTree, ParamTree, ProcedureTree, FormalTree, ProcessTree, ItemTree, ItemNodes, seize, grant, local_item, signals, procedure, process, modulion, action, no_items, more_items, ProgramTree, modulion_item}
use Rattle.modes.specs.ModeTree.{int, boolean, char, instance}
use Rattle.names_model.specs.Definitions.{numbers_on}
use Rattle.checks_model.specs.Ground.{Origin, Predefined, of_mode, truth, no_instance, num, succ, pred, abs, card, min, max, upper, lower, size, put_int, put_text, put_nl, get_int, a_synonym, a_mode, an_element, a_location, a_parameter, a_counter, a_received, a_procedure, a_process, a_signal, a_modulion, a_predefined}

-- ---- SETs

abbrev pub set_in_discrete : written.DiscreteTree → List (List Name)
set_in_discrete (written.named n) = []
set_in_discrete (written.bounded n l h) = []
set_in_discrete (written.set_of at ns) = ns ∷ []

abbrev mutual
  -- the SETs in a mode of values, each by its elements
  pub sets_in_base : written.BaseTree → List (List Name)
  sets_in_base (written.discrete d) = set_in_discrete d
  sets_in_base (written.powerset at d) = set_in_discrete d
  sets_in_base (written.chars at e) = []
  sets_in_base (written.structure at fs p) = sets_in_fields fs
  sets_in_base (written.array at i b s) = sets_in_base b

  pub sets_in_fields : written.FieldNodes → List (List Name)
  sets_in_fields written.no_fields = []
  sets_in_fields (written.more_fields ns b p fs) = sets_in_base b ++ sets_in_fields fs

abbrev pub sets_in : written.ModeTree → List (List Name)
sets_in (written.base_mode b) = sets_in_base b
sets_in (written.read_mode at b) = sets_in_base b
sets_in (written.event_mode at l) = []
sets_in (written.buffer_mode at l b) = sets_in_base b

abbrev pub is_set_base : written.BaseTree → Bool
is_set_base (written.discrete (written.set_of at ns)) = true
is_set_base _ = false

-- the mode is a SET, READ aside
abbrev pub is_set : written.ModeTree → Bool
is_set (written.base_mode b) = is_set_base b
is_set (written.read_mode at b) = is_set_base b
is_set _ = false

-- the elements of a SET, which is the whole mode of a name or of none
abbrev pub elements : Option (Name × Bool) → List Name → List Origin
elements owner ns = map (λ part. an_element ns part owner) (numbers_on 0 (length ns))

abbrev pub elements_of : Option (Name × Bool) → written.ModeTree → List Origin
elements_of owner m = flat_map (elements owner) (sets_in m)

abbrev pub elements_of_some : Option written.ModeTree → List Origin
elements_of_some None = []
elements_of_some (Some m) = elements_of None m

-- ---- definition statements

-- each of these names, then the elements of the SETs in the mode
abbrev pub origins_of_names : List Name → Origin → List Origin → List Origin
origins_of_names ns o inside = replicate (length ns) o ++ inside

abbrev pub origins_of_synonym : SynonymTree → List Origin
origins_of_synonym s = origins_of_names s.names (a_synonym s) (elements_of_some s.mode)

abbrev pub owner_of : Bool → ModeDefinitionTree → Option (Name × Bool)
owner_of novel d = if is_set d.mode then Some (d.name, novel) else None

abbrev pub origins_of_mode : Bool → ModeDefinitionTree → List Origin
origins_of_mode novel d = a_mode novel d.mode ∷ elements_of (owner_of novel d) d.mode

abbrev pub origins_of_declaration : DeclarationTree → List Origin
origins_of_declaration d = origins_of_names d.names (a_location d) (elements_of None d.mode)

abbrev pub origins_of_local : LocalTree → List Origin
origins_of_local (synonyms at ss) = flat_map origins_of_synonym ss
origins_of_local (syn_modes at ds) = flat_map (origins_of_mode false) ds
origins_of_local (new_modes at ds) = flat_map (origins_of_mode true) ds
origins_of_local (locations at ds) = flat_map origins_of_declaration ds

-- ---- actions

-- the counter of a loop
abbrev pub counters_in : ControlTree → List Origin
counters_in (while_holds at c) = []
counters_in (for_ever at) = []
counters_in (for_members at n s c) = a_counter (for_members at n s c) ∷ []
counters_in (for_steps at n s b down e c) = a_counter (for_steps at n s b down e c) ∷ []

-- the names that are received from a buffer or by a signal
abbrev pub received_in : Name → Option (List Name) → List Origin
received_in n None = []
received_in n (Some ns) = map (a_received n (length ns)) (numbers_on 0 (length ns))

abbrev mutual
  pub origins_in : StatementTree → List Origin
  origins_in (empty at) = []
  origins_in (simple at a h) = origins_in_handler h
  origins_in (bracketed at l a h closing) = origins_in_bracketed a ++ origins_in_handler h

  pub origins_in_bracketed : BracketedTree → List Origin
  origins_in_bracketed (if_then at c ss bs o) = origins_in_each ss ++ origins_in_branches bs ++ origins_in_otherwise o
  origins_in_bracketed (case_of at e as' o) = origins_in_cases as' ++ origins_in_otherwise o
  origins_in_bracketed (do_loop at c ss) = counters_in c ++ origins_in_each ss
  origins_in_bracketed (begin_end at ps) = origins_in_parts ps
  origins_in_bracketed (delay_case at set p as') = origins_in_named as'
  origins_in_bracketed (receive_case at set as' o) = origins_in_receives as' ++ origins_in_otherwise o

  pub origins_in_each : StatementNodes → List Origin
  origins_in_each no_statements = []
  origins_in_each (more_statements s ss) = origins_in s ++ origins_in_each ss

  pub origins_in_branches : ElsIfNodes → List Origin
  origins_in_branches no_branches = []
  origins_in_branches (more_branches at c ss bs) = origins_in_each ss ++ origins_in_branches bs

  pub origins_in_cases : CaseNodes → List Origin
  origins_in_cases no_cases = []
  origins_in_cases (more_cases at ls ss as') = origins_in_each ss ++ origins_in_cases as'

  pub origins_in_named : NamedNodes → List Origin
  origins_in_named no_named = []
  origins_in_named (more_named at ns ss as') = origins_in_each ss ++ origins_in_named as'

  pub origins_in_receives : ReceiveNodes → List Origin
  origins_in_receives no_receives = []
  origins_in_receives (more_receives at n r ss as') = (received_in n r ++ origins_in_each ss) ++ origins_in_receives as'

  pub origins_in_otherwise : OtherwiseNode → List Origin
  origins_in_otherwise no_otherwise = []
  origins_in_otherwise (otherwise ss) = origins_in_each ss

  pub origins_in_handler : HandlerNode → List Origin
  origins_in_handler no_handler = []
  origins_in_handler (handler at as' o) = origins_in_named as' ++ origins_in_otherwise o

  pub origins_in_parts : BodyNodes → List Origin
  origins_in_parts no_parts = []
  origins_in_parts (more_locals l ps) = origins_of_local l ++ origins_in_parts ps
  origins_in_parts (more_actions s ps) = origins_in s ++ origins_in_parts ps

-- ---- items

abbrev pub origins_of_signal : SignalTree → List Origin
origins_of_signal s = a_signal s ∷ by_parts s.parts
  where
    by_parts : Option (List written.ModeTree) → List Origin
    by_parts None = []
    by_parts (Some ms) = flat_map (elements_of None) ms

abbrev pub origins_of_param : ParamTree → List Origin
origins_of_param p = origins_of_names p.names (a_parameter p.mode) (elements_of None p.mode)

abbrev pub origins_of_formal : FormalTree → List Origin
origins_of_formal p = origins_of_names p.names (a_parameter p.mode) (elements_of None p.mode)

-- a body with its handler
abbrev pub origins_of_body : List BodyTree → Option HandlerTree → List Origin
origins_of_body ps h = origins_in_parts (body_nodes ps) ++ origins_in_handler (handler_node h)

abbrev pub origins_of_procedure : ProcedureTree → List Origin
origins_of_procedure p = a_procedure p ∷ (flat_map origins_of_param p.params ++ elements_of_some p.returns) ++ origins_of_body p.body p.handler

abbrev pub origins_of_process : ProcessTree → List Origin
origins_of_process p = a_process p ∷ flat_map origins_of_formal p.formals ++ origins_of_body p.body p.handler

abbrev mutual
  pub origins_of_item : ItemTree → List Origin
  origins_of_item (seize at passed) = []
  origins_of_item (grant at passed) = []
  origins_of_item (local_item l) = origins_of_local l
  origins_of_item (signals at ss) = flat_map origins_of_signal ss
  origins_of_item (procedure p) = origins_of_procedure p
  origins_of_item (process p) = origins_of_process p
  origins_of_item (modulion n kind items h closing) = a_modulion kind items ∷ origins_of_items items ++ origins_in_handler (handler_node h)
  origins_of_item (action s) = origins_in s

  pub origins_of_items : ItemNodes → List Origin
  origins_of_items no_items = []
  origins_of_items (more_items i is) = origins_of_item i ++ origins_of_items is

-- the definitions of a text
abbrev pub text_origins : ProgramTree → List Origin
text_origins t = flat_map (λ m. origins_of_item (modulion_item m)) t.modulions

-- ---- predefined names, each in upper and in lower case

abbrev pub in_both_cases : Predefined → List Origin
in_both_cases p = a_predefined p ∷ a_predefined p ∷ []

abbrev pub predefined_origins : List Origin
predefined_origins =
    flat_map in_both_cases
    (of_mode int ∷ of_mode boolean ∷ of_mode char ∷ of_mode instance
    ∷ truth true ∷ truth false ∷ no_instance
    ∷ num ∷ succ ∷ pred ∷ abs ∷ card ∷ min ∷ max ∷ upper ∷ lower ∷ size
    ∷ put_int ∷ put_text ∷ put_nl ∷ get_int ∷ [])

-- the definitions of a program with the predefined names behind them
abbrev pub origins_of : ProgramTree → List Origin
origins_of t = text_origins t ++ predefined_origins
