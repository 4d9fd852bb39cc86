-- The laws that actions and statements of which nothing is told are there, as they are elaborated.
use Rattle.std.specs.Prelude.{◌≡◌, Bool, true, List, [], ◌∷◌, Option, Some, None, IsSome, not}
use Rattle.chill_tree.specs.declared.tree.name.Name.{Name}
use Rattle.chill_tree.specs.SimpleTree.{SimpleTree, assign, update, call_of, exit, return_with, result_of, assert_that, cause, stop, start_of, delay, continue_event, send, ControlTree, while_holds, for_ever, for_members, for_steps}
use Rattle.chill_tree.specs.StatementTree.{StatementTree, BracketedTree, StatementNodes, ElsIfNodes, CaseNodes, NamedNodes, ReceiveNodes, OtherwiseNode, HandlerNode, BodyNodes, empty, simple, bracketed, if_then, case_of, do_loop, begin_end, delay_case, receive_case, no_statements, more_statements, no_branches, more_branches, no_cases, more_cases, no_named, more_named, no_receives, more_receives, no_otherwise, otherwise, no_handler, handler, no_parts, more_locals, more_actions}
use Rattle.names_model.specs.StatementParts.{labelled}
use Rattle.modes.specs.ModeTree.{ModeTree}
use Rattle.modes.specs.Form.{form_of}
use Rattle.checks_model.specs.Alike.{is_meeting}
use Rattle.checks_model.specs.Ground.{origin_of}
use Rattle.checks_model.specs.ActionRules.{a_value}
use Rattle.checks_model.specs.Sites as sites
use Rattle.checks_model.specs.Sites.{Site, at_item, at_synonym, at_mode_definition, at_declaration, at_mode, at_simple, at_condition, at_selector, at_labels, at_control, at_set, at_priority, at_event, at_source, at_received, at_exceptions, at_body, at_program, sites_of, sites_of_parts, sites_of_handler}
use Rattle.checks_model.specs.Phases.{modes_told_at, statements_told_at, processes_told_at, returning_of}
use Rattle.written_laws.specs.Written.{Each, exprs_at}
use Rattle.elaboration_model.specs.Numbering.{Source, local_defined}
use Rattle.elaboration_model.specs.Exceptions.{exception_number}
use Rattle.elaboration_model.specs.Expressions.{mode_defined}
use Rattle.elaboration_model.specs.Statements.{Around, within, outwards, some_names, base_defined, first_mode, low_of, action_of, statement, handled, body}
use Rattle.expression_laws.specs.Names.{stands_for_location, stands_for_message, stands_for_process, stands_for_call, IsPlace, IsWellNamed, AllNamesKnown}

-- ---- what is known at a node

-- the names of an action, those in its expressions aside, stand for what they have to
abbrev pub ActionStands : Source → SimpleTree → Type 0
ActionStands s (call_of at word n es) = stands_for_call (origin_of s.known n) ≡ true
ActionStands s (start_of at n es) = stands_for_process (origin_of s.known n) ≡ true
ActionStands s (delay at n p) = stands_for_location (origin_of s.known n) ≡ true
ActionStands s (continue_event at n) = stands_for_location (origin_of s.known n) ≡ true
ActionStands s (send at n es to p) = stands_for_message (origin_of s.known n) ≡ true
ActionStands s (cause at n) = IsSome (exception_number s.own_exceptions n)
ActionStands s a = Unit {0}

-- names that are declared together: their mode, and where they are kept, unless they are events or buffers
pub record AreDeclared (s : Source) (names : List Name) : Type 0 where
  pub mode : IsPlace (first_mode s names)
  pub bases : (m : ModeTree) → first_mode s names ≡ Some m → not (is_meeting (form_of m)) ≡ true → Each (λ n. IsSome (base_defined s n)) names

-- the counter of a loop has its number and the least value of its mode
abbrev pub ControlStands : Source → ControlTree → Type 0
ControlStands s (for_members at n set c) = IsSome (local_defined s n) × IsSome (low_of (mode_defined s n))
ControlStands s (for_steps at n from step down to c) = IsSome (local_defined s n)
ControlStands s c = Unit {0}

-- the names at a node, those in its expressions aside
abbrev pub NodeStands : Source → Site → Type 0
NodeStands s (at_declaration shared d) = AreDeclared s d.names
NodeStands s (at_simple a act) = ActionStands s act
NodeStands s (at_control c) = ControlStands s c
NodeStands s (at_event earlier n) = stands_for_location (origin_of s.known n) ≡ true
NodeStands s (at_source earlier n) = stands_for_message (origin_of s.known n) ≡ true
NodeStands s (at_received n names) = Each (λ n. IsSome (local_defined s n)) (some_names names)
NodeStands s (at_exceptions earlier ns) = Each (λ n. IsSome (exception_number s.own_exceptions n)) ns
NodeStands s n = Unit {0}

-- a node as a text has it, of which nothing is told
pub record IsNodeClean (s : Source) (n : Site) : Type 0 where
  pub named : Each (IsWellNamed s.known) (exprs_at n)
  pub stands : NodeStands s n
  pub modes : modes_told_at s.known n ≡ []
  pub statements : statements_told_at s.known n ≡ []
  pub processes : processes_told_at s.known n ≡ []

-- the result of the procedure around is that of the body
pub record IsAround (s : Source) (a : Around) (around : sites.Around) : Type 0 where
  pub result : (m : Option ModeTree) → returning_of s.known around ≡ a_value m → a.result ≡ m
  pub place : (m : Option ModeTree) → returning_of s.known around ≡ a_value m → IsPlace m

-- ---- labels

abbrev pub ExitStands : List Name → SimpleTree → Type 0
ExitStands labels (exit at n) = IsSome (outwards n labels)
ExitStands labels a = Unit {0}

abbrev mutual
  -- each EXIT has the label of an action around it
  pub ExitsStand : List Name → StatementTree → Type 0
  ExitsStand labels (empty at) = Unit {0}
  ExitsStand labels (simple at a h) = ExitStands labels a × HandlerExits labels h
  ExitsStand labels (bracketed at l b h closing) = BracketedExits (labelled l labels) b × HandlerExits (labelled l labels) h

  pub BracketedExits : List Name → BracketedTree → Type 0
  BracketedExits labels (if_then at c ss bs o) = EachExits labels ss × (BranchExits labels bs × ElseExits labels o)
  BracketedExits labels (case_of at e as' o) = CaseExits labels as' × ElseExits labels o
  BracketedExits labels (do_loop at c ss) = EachExits labels ss
  BracketedExits labels (begin_end at ps) = BodyExits labels ps
  BracketedExits labels (delay_case at set p as') = NamedExits labels as'
  BracketedExits labels (receive_case at set as' o) = ReceiveExits labels as' × ElseExits labels o

  pub EachExits : List Name → StatementNodes → Type 0
  EachExits labels no_statements = Unit {0}
  EachExits labels (more_statements x xs) = ExitsStand labels x × EachExits labels xs

  pub BranchExits : List Name → ElsIfNodes → Type 0
  BranchExits labels no_branches = Unit {0}
  BranchExits labels (more_branches at c ss bs) = EachExits labels ss × BranchExits labels bs

  pub CaseExits : List Name → CaseNodes → Type 0
  CaseExits labels no_cases = Unit {0}
  CaseExits labels (more_cases at ls ss as') = EachExits labels ss × CaseExits labels as'

  pub NamedExits : List Name → NamedNodes → Type 0
  NamedExits labels no_named = Unit {0}
  NamedExits labels (more_named at ns ss as') = EachExits labels ss × NamedExits labels as'

  pub ReceiveExits : List Name → ReceiveNodes → Type 0
  ReceiveExits labels no_receives = Unit {0}
  ReceiveExits labels (more_receives at n r ss as') = EachExits labels ss × ReceiveExits labels as'

  pub ElseExits : List Name → OtherwiseNode → Type 0
  ElseExits labels no_otherwise = Unit {0}
  ElseExits labels (otherwise ss) = EachExits labels ss

  pub HandlerExits : List Name → HandlerNode → Type 0
  HandlerExits labels no_handler = Unit {0}
  HandlerExits labels (handler at as' o) = NamedExits labels as' × ElseExits labels o

  pub BodyExits : List Name → BodyNodes → Type 0
  BodyExits labels no_parts = Unit {0}
  BodyExits labels (more_locals l ps) = BodyExits labels ps
  BodyExits labels (more_actions x ps) = ExitsStand labels x × BodyExits labels ps

-- ---- the laws

-- An action that holds no other, and of which nothing is told, is there.
abbrev pub ActionThereLaw : Type 0
ActionThereLaw = (s : Source) (a : Around) (around : sites.Around) (act : SimpleTree) → AllNamesKnown s → IsAround s a around → ExitStands a.labels act → IsNodeClean s (at_simple around act) → IsSome (action_of s a act)

-- So is a statement, at none of whose nodes anything is told.
abbrev pub StatementThereLaw : Type 0
StatementThereLaw = (s : Source) (a : Around) (around : sites.Around) (x : StatementTree) → AllNamesKnown s → IsAround s a around → ExitsStand a.labels x → Each (IsNodeClean s) (sites_of around x) → IsSome (statement s a x)

-- So are a body and a handler.
abbrev pub BodyThereLaw : Type 0
BodyThereLaw = (s : Source) (a : Around) (around : sites.Around) (ps : BodyNodes) → AllNamesKnown s → IsAround s a around → BodyExits a.labels ps → Each (IsNodeClean s) (sites_of_parts around ps) → IsSome (body s a ps)

abbrev pub HandlerThereLaw : Type 0
HandlerThereLaw = (s : Source) (a : Around) (around : sites.Around) (h : HandlerNode) → AllNamesKnown s → IsAround s a around → HandlerExits a.labels h → Each (IsNodeClean s) (sites_of_handler around h) → IsSome (handled s a h)
