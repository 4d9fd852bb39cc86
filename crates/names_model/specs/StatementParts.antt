-- The parts that definition statements and actions are of their reach. `labels` are those of the actions around.
use Rattle.std.specs.Prelude.{List, [], ◌∷◌, ◌++◌, map, flat_map, if◌then◌else◌, Bool, Option, Some, None}
use Rattle.std.specs.List.{list_any}
use Rattle.std.specs.Str.{bytes_eq}
use Rattle.chill_tree.specs.declared.tree.name.Name.{Name}
use Rattle.chill_tree.specs.ExprTree.{ExprTree}
use Rattle.chill_tree.specs.LocalTree.{SynonymTree, ModeDefinitionTree, InitialTree, DeclarationTree, LocalTree, synonyms, syn_modes, new_modes, locations}
use Rattle.chill_tree.specs.SimpleTree.{SimpleTree, assign, update, call_of, exit, return_with, result_of, assert_that, cause, stop, start_of, delay, continue_event, send, ControlTree, while_holds, for_ever, for_members, for_steps}
use Rattle.chill_tree.specs.StatementTree.{StatementTree, BracketedTree, StatementNodes, ElsIfNodes, CaseNodes, NamedNodes, ReceiveNodes, OtherwiseNode, HandlerNode, BodyNodes, empty, simple, bracketed, if_then, case_of, do_loop, begin_end, delay_case, receive_case, no_statements, more_statements, no_branches, more_branches, no_cases, more_cases, no_named, more_named, no_receives, more_receives, no_otherwise, otherwise, no_handler, handler, no_parts, more_locals, more_actions}
use Rattle.names_model.specs.declared.kind.Kind.{Kind}
use Rattle.names_model.specs.declared.kind.Kind.TheVariants as kinds
use Rattle.names_model.specs.declared.kind.Need.TheVariants as needs
use Rattle.names_model.specs.declared.part.Mention.{Mention}
use Rattle.names_model.specs.declared.part.Clause.{Clause}
use Rattle.names_model.specs.Identifiers.{identifier, identifiers}
use Rattle.names_model.specs.Parts.{PartTree, define, mention, stray}
use Rattle.names_model.specs.Sizes.{block_of}
use Rattle.names_model.specs.ExprMentions.{used, mentions_of, mentions_of_some, mentions_of_args, mentions_of_ranges}
use Rattle.names_model.specs.ModeMentions.{mentions_of_mode, mentions_of_some_mode}

-- names of a kind, defined by a text
abbrev pub clause : Kind → List Name → List Mention → Clause
clause kind names text = record { kind = kind; names = identifiers names; text = text }

-- mentions as parts
abbrev pub mentioned : List Mention → List PartTree
mentioned ms = map mention ms

-- ---- definition statements

abbrev pub synonym_part : SynonymTree → PartTree
synonym_part s = define (clause kinds.Synonym s.names (mentions_of_some_mode s.mode ++ mentions_of s.value))

abbrev pub mode_part : ModeDefinitionTree → PartTree
mode_part d = define (clause kinds.Mode (d.name ∷ []) (mentions_of_mode d.mode))

abbrev pub initial_parts : Option InitialTree → List PartTree
initial_parts None = []
initial_parts (Some i) = mentioned (mentions_of i.value)

abbrev pub declaration_parts : DeclarationTree → List PartTree
declaration_parts d = define (clause kinds.Location d.names (mentions_of_mode d.mode)) ∷ initial_parts d.initial

abbrev pub local_parts : LocalTree → List PartTree
local_parts (synonyms at ss) = map synonym_part ss
local_parts (syn_modes at ds) = map mode_part ds
local_parts (new_modes at ds) = map mode_part ds
local_parts (locations at ds) = flat_map declaration_parts ds

-- ---- actions that hold no other

-- an action of that label is around
abbrev pub encloses : List Name → Name → Bool
encloses labels n = list_any (λ l. bytes_eq l.text n.text) labels

abbrev pub exit_parts : List Name → Name → List PartTree
exit_parts labels n = if encloses labels n then [] else stray (identifier n) ∷ []

abbrev pub mentions_of_some_args : Option (List ExprTree) → List Mention
mentions_of_some_args None = []
mentions_of_some_args (Some es) = mentions_of_args None es

abbrev pub simple_parts : List Name → SimpleTree → List PartTree
simple_parts labels (assign at t v) = mentioned (mentions_of t ++ mentions_of v)
simple_parts labels (update at t o p v) = mentioned (mentions_of t ++ mentions_of v)
simple_parts labels (call_of at word n es) = mentioned (used needs.Action n ++ mentions_of_args (Some n) es)
simple_parts labels (exit at n) = exit_parts labels n
simple_parts labels (return_with at v) = mentioned (mentions_of_some v)
simple_parts labels (result_of at v) = mentioned (mentions_of v)
simple_parts labels (assert_that at c) = mentioned (mentions_of c)
simple_parts labels (cause at n) = []
simple_parts labels (stop at) = []
simple_parts labels (start_of at n es) = mentioned (used needs.Process n ++ mentions_of_args None es)
simple_parts labels (delay at n p) = mentioned (used needs.Location n ++ mentions_of_some p)
simple_parts labels (continue_event at n) = mentioned (used needs.Location n)
simple_parts labels (send at n es to p) = mentioned (used needs.Message n ++ mentions_of_some_args es ++ mentions_of_some to ++ mentions_of_some p)

-- ---- loops

-- what a loop evaluates once, in the reach around it
abbrev pub control_parts : ControlTree → List PartTree
control_parts (while_holds at c) = []
control_parts (for_ever at) = []
control_parts (for_members at n s c) = mentioned (mentions_of s)
control_parts (for_steps at n s b down e c) = mentioned (mentions_of s ++ mentions_of_some b ++ mentions_of e)

abbrev pub counter_part : Name → PartTree
counter_part n = define (clause kinds.Counter (n ∷ []) [])

-- its counter and its condition, which stand in its own block
abbrev pub turn_parts : ControlTree → List PartTree
turn_parts (while_holds at c) = mentioned (mentions_of c)
turn_parts (for_ever at) = []
turn_parts (for_members at n s c) = counter_part n ∷ mentioned (mentions_of_some c)
turn_parts (for_steps at n s b down e c) = counter_part n ∷ mentioned (mentions_of_some c)

-- ---- actions

-- the label of an action is among those around its parts and its handler
abbrev pub labelled : Option Name → List Name → List Name
labelled None labels = labels
labelled (Some l) labels = l ∷ labels

abbrev pub received_parts : Option (List Name) → List PartTree
received_parts None = []
received_parts (Some names) = define (clause kinds.Received names []) ∷ []

abbrev mutual
  pub statement_parts : List Name → StatementTree → List PartTree
  statement_parts labels (empty at) = []
  statement_parts labels (simple at a h) = simple_parts labels a ++ handler_parts labels h
  statement_parts labels (bracketed at l a h closing) = bracketed_parts (labelled l labels) a ++ handler_parts (labelled l labels) h

  pub bracketed_parts : List Name → BracketedTree → List PartTree
  bracketed_parts labels (if_then at c ss bs o) = mentioned (mentions_of c) ++ action_parts labels ss ++ branch_parts labels bs ++ otherwise_parts labels o
  bracketed_parts labels (case_of at e as' o) = mentioned (mentions_of e) ++ case_parts labels as' ++ otherwise_parts labels o
  bracketed_parts labels (do_loop at c ss) = control_parts c ++ block_of (turn_parts c ++ action_parts labels ss) ∷ []
  bracketed_parts labels (begin_end at ps) = block_of (body_parts labels ps) ∷ []
  bracketed_parts labels (delay_case at set p as') = mentioned (mentions_of_some set ++ mentions_of_some p) ++ event_parts labels as'
  bracketed_parts labels (receive_case at set as' o) = mentioned (mentions_of_some set) ++ receive_parts labels as' ++ otherwise_parts labels o

  pub action_parts : List Name → StatementNodes → List PartTree
  action_parts labels no_statements = []
  action_parts labels (more_statements s ss) = statement_parts labels s ++ action_parts labels ss

  pub branch_parts : List Name → ElsIfNodes → List PartTree
  branch_parts labels no_branches = []
  branch_parts labels (more_branches at c ss bs) = (mentioned (mentions_of c) ++ action_parts labels ss) ++ branch_parts labels bs

  pub case_parts : List Name → CaseNodes → List PartTree
  case_parts labels no_cases = []
  case_parts labels (more_cases at ls ss as') = (mentioned (mentions_of_ranges ls) ++ action_parts labels ss) ++ case_parts labels as'

  -- the alternatives of a DELAY CASE: their events stand around them, their actions in a block
  pub event_parts : List Name → NamedNodes → List PartTree
  event_parts labels no_named = []
  event_parts labels (more_named at ns ss as') = (mentioned (flat_map (used needs.Location) ns) ++ block_of (action_parts labels ss) ∷ []) ++ event_parts labels as'

  -- the alternatives of a RECEIVE CASE: what they receive from stands around them, received names and actions in a block
  pub receive_parts : List Name → ReceiveNodes → List PartTree
  receive_parts labels no_receives = []
  receive_parts labels (more_receives at n r ss as') = (mentioned (used needs.Message n) ++ block_of (received_parts r ++ action_parts labels ss) ∷ []) ++ receive_parts labels as'

  pub otherwise_parts : List Name → OtherwiseNode → List PartTree
  otherwise_parts labels no_otherwise = []
  otherwise_parts labels (otherwise ss) = action_parts labels ss

  -- a handler is a block
  pub handler_parts : List Name → HandlerNode → List PartTree
  handler_parts labels no_handler = []
  handler_parts labels (handler at as' o) = block_of (exception_parts labels as' ++ otherwise_parts labels o) ∷ []

  -- the names of exceptions aren't subject to visibility
  pub exception_parts : List Name → NamedNodes → List PartTree
  exception_parts labels no_named = []
  exception_parts labels (more_named at ns ss as') = action_parts labels ss ++ exception_parts labels as'

  pub body_parts : List Name → BodyNodes → List PartTree
  body_parts labels no_parts = []
  body_parts labels (more_locals l ps) = local_parts l ++ body_parts labels ps
  body_parts labels (more_actions s ps) = statement_parts labels s ++ body_parts labels ps
