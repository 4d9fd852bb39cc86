-- The lists of the phases: what is told at each node, the list over the nodes of a program, and that list in order and once.
use Rattle.std.specs.Prelude.{true, false, List, [], ◌∷◌, ◌++◌, flat_map, Option, Some, None, is_some, if◌then◌else◌, option_map}
use Rattle.chill_tree.specs.declared.tree.name.Name.{Name}
use Rattle.chill_tree.specs.ExprTree.{ExprTree, ExprNodes, RangeTree, RangeNodes, whole, character, text, this_instance, paren, receive, start, tuple, uniform, name, apply, field, prefixed, binary, no_exprs, more_exprs, alone, between, no_ranges, more_ranges, expr_nodes}
use Rattle.chill_tree.specs.ModeTree as written
use Rattle.chill_tree.specs.LocalTree.{SynonymTree, InitialTree}
use Rattle.chill_tree.specs.SimpleTree.{SimpleTree, assign, update, call_of, exit, return_with, result_of, assert_that, cause, stop, start_of, delay, continue_event, send, ControlTree, while_holds, for_ever, for_members, for_steps}
use Rattle.chill_tree.specs.ItemTree.{ProgramTree}
use Rattle.modes.specs.ModeTree.{ModeTree}
use Rattle.modes.specs.Roots.{holds_read}
use Rattle.diagnostics.specs.declared.diagnostic.Diagnostic.{Diagnostic}
use Rattle.diagnostics.specs.declared.rule.Rule.TheVariants as rules
use Rattle.diagnostics.specs.Listing.{listed}
use Rattle.diagnostics.specs.Order.{diagnostic_cmp}
use Rattle.names_model.specs.NameRules.{tell}
use Rattle.checks_model.specs.Ground.{Ground, entry_defined, mode_of_entry}
use Rattle.checks_model.specs.Told.{told_if, then_told, holds_of}
use Rattle.checks_model.specs.ConstantRules.{told_of_constants, told_of_some_constants, told_needed, told_some_needed}
use Rattle.checks_model.specs.WrittenModes.{told_of_mode, told_of_some_mode}
use Rattle.checks_model.specs.Table.{told_of_synonym}
use Rattle.checks_model.specs.ValueRules.{Receiver, nothing_asked, of_mode, condition, selector, told_value, told_some_value}
use Rattle.checks_model.specs.ActionRules.{Returning, no_procedure, no_value, a_value, told_simple, told_labels, told_control, told_received_names, told_exceptions, told_in_indices}
use Rattle.checks_model.specs.ProcessRules.{told_item, Purpose, for_events, for_messages, for_signals, told_misfit, told_listed, told_priority, told_set, told_local}
use Rattle.checks_model.specs.Constants.{constant_of}
use Rattle.checks_model.specs.Limits.{told_locals, told_shared}
use Rattle.checks_model.specs.Sites.{Site, Around, in_procedure, in_no_procedure, at_item, at_synonym, at_mode_definition, at_declaration, at_mode, at_simple, at_condition, at_selector, at_labels, at_control, at_set, at_priority, at_event, at_source, at_received, at_exceptions, at_body, at_program, sites}

-- ---- the expressions of an action, of a loop's control, and of a mode, in the order of the text

abbrev pub some_expr : Option ExprTree → List ExprTree
some_expr None = []
some_expr (Some e) = e ∷ []

abbrev pub some_exprs : Option (List ExprTree) → List ExprTree
some_exprs None = []
some_exprs (Some es) = es

-- the expressions of an action but its priority; a call that stands as an action is asked as the expression that it would be
abbrev pub exprs_of_simple : SimpleTree → List ExprTree
exprs_of_simple (assign at t v) = t ∷ v ∷ []
exprs_of_simple (update at t o p v) = t ∷ v ∷ []
exprs_of_simple (call_of at word n es) = apply n.at (name n) (expr_nodes es) ∷ []
exprs_of_simple (return_with at v) = some_expr v
exprs_of_simple (result_of at v) = v ∷ []
exprs_of_simple (assert_that at c) = c ∷ []
exprs_of_simple (start_of at n es) = es
exprs_of_simple (send at n es to p) = some_exprs es ++ some_expr to
exprs_of_simple (delay at n p) = []
exprs_of_simple (exit at n) = []
exprs_of_simple (cause at n) = []
exprs_of_simple (stop at) = []
exprs_of_simple (continue_event at n) = []

abbrev pub priority_of : SimpleTree → Option ExprTree
priority_of (delay at n p) = p
priority_of (send at n es to p) = p
priority_of _ = None

abbrev pub exprs_of_control : ControlTree → List ExprTree
exprs_of_control (while_holds at c) = c ∷ []
exprs_of_control (for_ever at) = []
exprs_of_control (for_members at n s c) = s ∷ some_expr c
exprs_of_control (for_steps at n s b down e c) = s ∷ some_expr b ++ e ∷ some_expr c

abbrev pub exprs_of_label : RangeTree → List ExprTree
exprs_of_label (alone e) = e ∷ []
exprs_of_label (between l h) = l ∷ h ∷ []

abbrev pub exprs_of_labels : List RangeTree → List ExprTree
exprs_of_labels ls = flat_map exprs_of_label ls

abbrev pub exprs_of_discrete : written.DiscreteTree → List ExprTree
exprs_of_discrete (written.named n) = []
exprs_of_discrete (written.bounded n l h) = l ∷ h ∷ []
exprs_of_discrete (written.set_of at ns) = []

abbrev pub exprs_of_index : written.IndexTree → List ExprTree
exprs_of_index (written.index_named n) = []
exprs_of_index (written.index_bounded l h) = l ∷ h ∷ []

abbrev pub exprs_of_place : written.PlaceTree → List ExprTree
exprs_of_place p = p.word ∷ p.start ∷ p.bound ∷ []

abbrev pub exprs_of_some_place : Option written.PlaceTree → List ExprTree
exprs_of_some_place None = []
exprs_of_some_place (Some p) = exprs_of_place p

abbrev pub exprs_of_spread : Option written.SpreadTree → List ExprTree
exprs_of_spread (Some (written.by_step s)) = exprs_of_place s.place ++ s.distance ∷ []
exprs_of_spread _ = []

abbrev mutual
  pub exprs_of_base : written.BaseTree → List ExprTree
  exprs_of_base (written.discrete d) = exprs_of_discrete d
  exprs_of_base (written.powerset at d) = exprs_of_discrete d
  exprs_of_base (written.chars at e) = e ∷ []
  exprs_of_base (written.structure at fs p) = exprs_of_fields fs
  exprs_of_base (written.array at i b s) = exprs_of_index i ++ exprs_of_base b ++ exprs_of_spread s

  pub exprs_of_fields : written.FieldNodes → List ExprTree
  exprs_of_fields written.no_fields = []
  exprs_of_fields (written.more_fields ns b p fs) = (exprs_of_base b ++ exprs_of_some_place p) ++ exprs_of_fields fs

abbrev pub exprs_of_mode : written.ModeTree → List ExprTree
exprs_of_mode (written.base_mode b) = exprs_of_base b
exprs_of_mode (written.read_mode at b) = exprs_of_base b
exprs_of_mode (written.event_mode at l) = some_expr l
exprs_of_mode (written.buffer_mode at l b) = some_expr l ++ exprs_of_base b

abbrev pub exprs_of_some_mode : Option written.ModeTree → List ExprTree
exprs_of_some_mode None = []
exprs_of_some_mode (Some m) = exprs_of_mode m

abbrev pub initial_expr : Option InitialTree → Option ExprTree
initial_expr i = option_map (λ i. i.value) i

-- ---- modes and constants

abbrev pub mode_defined : Ground → Name → Option ModeTree
mode_defined g n = mode_of_entry (entry_defined g n)

-- M9: a READ location has no initialisation
abbrev pub told_without_value : Ground → Option InitialTree → Name → List Diagnostic
told_without_value g (Some i) n = []
told_without_value g None n = told_if (holds_of holds_read (mode_defined g n)) (tell n.at rules.M9 n.text)

abbrev pub modes_told_at : Ground → Site → List Diagnostic
modes_told_at g (at_synonym s) = told_of_some_mode g s.mode ++ told_of_synonym g s
modes_told_at g (at_mode_definition d) = told_of_mode g true d.mode
modes_told_at g (at_declaration shared d) = told_of_mode g true d.mode ++ flat_map (told_without_value g d.initial) d.names ++ told_of_some_constants g (initial_expr d.initial)
modes_told_at g (at_mode m) = told_of_mode g false m
modes_told_at g (at_simple a s) = flat_map (told_of_constants g) (exprs_of_simple s) ++ told_some_needed g (priority_of s)
modes_told_at g (at_condition e) = told_of_constants g e
modes_told_at g (at_selector e) = told_of_constants g e
modes_told_at g (at_labels e ls) = flat_map (told_needed g) (exprs_of_labels ls)
modes_told_at g (at_control c) = flat_map (told_of_constants g) (exprs_of_control c)
modes_told_at g (at_set e) = told_of_constants g e
modes_told_at g (at_priority e) = told_needed g e
modes_told_at g (at_program shared) = told_shared g 0 shared
modes_told_at g (at_item kind all i) = []
modes_told_at g (at_event earlier n) = []
modes_told_at g (at_source earlier n) = []
modes_told_at g (at_received n names) = []
modes_told_at g (at_exceptions earlier ns) = []
modes_told_at g (at_body n locals) = []

-- ---- statements

abbrev pub returning_of : Ground → Around → Returning
returning_of g in_no_procedure = no_procedure
returning_of g (in_procedure p) = if is_some p.returns then a_value (mode_defined g p.name) else no_value

abbrev pub told_alone : Ground → ExprTree → List Diagnostic
told_alone g e = told_value g nothing_asked e

-- each of the names that are defined together has the mode that their value goes to
abbrev pub declared_mode : Ground → List Name → Option ModeTree
declared_mode g [] = None
declared_mode g (n ∷ ns) = mode_defined g n

-- the expression of a synonym goes to its written mode
abbrev pub synonym_receiver : Ground → SynonymTree → Receiver
synonym_receiver g s = if is_some s.mode then of_mode (declared_mode g s.names) else nothing_asked

abbrev pub statements_told_at : Ground → Site → List Diagnostic
statements_told_at g (at_synonym s) = flat_map (told_alone g) (exprs_of_some_mode s.mode) ++ told_value g (synonym_receiver g s) s.value
statements_told_at g (at_mode_definition d) = flat_map (told_alone g) (exprs_of_mode d.mode)
statements_told_at g (at_declaration shared d) = flat_map (told_alone g) (exprs_of_mode d.mode) ++ told_some_value g (of_mode (declared_mode g d.names)) (initial_expr d.initial)
statements_told_at g (at_mode m) = flat_map (told_alone g) (exprs_of_mode m)
statements_told_at g (at_simple a s) = told_simple g (returning_of g a) s
statements_told_at g (at_condition e) = told_value g condition e
statements_told_at g (at_selector e) = told_value g selector e
statements_told_at g (at_labels e ls) = told_labels g e ls
statements_told_at g (at_control c) = told_control g c
statements_told_at g (at_set e) = told_in_indices g e
statements_told_at g (at_priority e) = told_alone g e
statements_told_at g (at_received n names) = told_received_names g n names
statements_told_at g (at_exceptions earlier ns) = told_exceptions earlier ns
statements_told_at g (at_body n locals) = told_locals g n locals
statements_told_at g (at_item kind all i) = []
statements_told_at g (at_event earlier n) = []
statements_told_at g (at_source earlier n) = []
statements_told_at g (at_program shared) = []

-- ---- processes

abbrev mutual
  -- the names from which an expression receives
  pub sources_in : ExprTree → List Name
  sources_in (receive at n) = n ∷ []
  sources_in (whole at n) = []
  sources_in (character at n) = []
  sources_in (text at n) = []
  sources_in (this_instance at) = []
  sources_in (name n) = []
  sources_in (paren at e) = sources_in e
  sources_in (start at n es) = sources_in_each es
  sources_in (tuple at m b rs) = sources_in_ranges rs
  sources_in (uniform at m b e) = sources_in e
  sources_in (apply at e es) = sources_in e ++ sources_in_each es
  sources_in (field at e n) = sources_in e
  sources_in (prefixed at o e) = sources_in e
  sources_in (binary at l o p r) = sources_in l ++ sources_in r

  pub sources_in_each : ExprNodes → List Name
  sources_in_each no_exprs = []
  sources_in_each (more_exprs e es) = sources_in e ++ sources_in_each es

  pub sources_in_range : RangeTree → List Name
  sources_in_range (alone e) = sources_in e
  sources_in_range (between l h) = sources_in l ++ sources_in h

  pub sources_in_ranges : RangeNodes → List Name
  sources_in_ranges no_ranges = []
  sources_in_ranges (more_ranges r rs) = sources_in_range r ++ sources_in_ranges rs

-- P3 of the RECEIVEs in an expression
abbrev pub told_met : Ground → ExprTree → List Diagnostic
told_met g e = flat_map (told_misfit g for_messages) (sources_in e)

abbrev pub told_some_met : Ground → Option ExprTree → List Diagnostic
told_some_met g None = []
told_some_met g (Some e) = told_met g e

-- P3 in a priority, and P6 of it
abbrev pub told_of_priority : Ground → ExprTree → List Diagnostic
told_of_priority g e = then_told (told_met g e) (told_priority g (constant_of g) e)

abbrev pub told_of_some_priority : Ground → Option ExprTree → List Diagnostic
told_of_some_priority g None = []
told_of_some_priority g (Some e) = told_of_priority g e

-- what is needed of the name after SEND: with TO it is a signal
abbrev pub purpose_of_send : Option ExprTree → Purpose
purpose_of_send None = for_messages
purpose_of_send (Some to) = for_signals

-- P3 of the name in an action
abbrev pub told_met_by : Ground → SimpleTree → List Diagnostic
told_met_by g (delay at n p) = told_misfit g for_events n
told_met_by g (continue_event at n) = told_misfit g for_events n
told_met_by g (send at n es to p) = told_misfit g (purpose_of_send to) n
told_met_by g _ = []

abbrev pub processes_told_at : Ground → Site → List Diagnostic
processes_told_at g (at_item kind all i) = told_item kind all i
processes_told_at g (at_synonym s) = flat_map (told_met g) (exprs_of_some_mode s.mode) ++ told_met g s.value
processes_told_at g (at_mode_definition d) = flat_map (told_met g) (exprs_of_mode d.mode)
processes_told_at g (at_declaration true d) = flat_map (told_met g) (exprs_of_mode d.mode) ++ told_some_met g (initial_expr d.initial)
processes_told_at g (at_declaration false d) = flat_map (told_local g) d.names ++ flat_map (told_met g) (exprs_of_mode d.mode) ++ told_some_met g (initial_expr d.initial)
processes_told_at g (at_mode m) = flat_map (told_met g) (exprs_of_mode m)
processes_told_at g (at_simple a s) = told_met_by g s ++ flat_map (told_met g) (exprs_of_simple s) ++ told_of_some_priority g (priority_of s)
processes_told_at g (at_condition e) = told_met g e
processes_told_at g (at_selector e) = told_met g e
processes_told_at g (at_labels e ls) = flat_map (told_met g) (exprs_of_labels ls)
processes_told_at g (at_control c) = flat_map (told_met g) (exprs_of_control c)
processes_told_at g (at_set e) = then_told (told_met g e) (told_set g e)
processes_told_at g (at_priority e) = told_of_priority g e
processes_told_at g (at_event earlier n) = told_misfit g for_events n ++ told_listed g earlier n
processes_told_at g (at_source earlier n) = told_misfit g for_messages n ++ told_listed g earlier n
processes_told_at g (at_received n names) = []
processes_told_at g (at_exceptions earlier ns) = []
processes_told_at g (at_body n locals) = []
processes_told_at g (at_program shared) = []

-- ---- the lists of the phases: over the nodes, and in order and once

abbrev pub told_of_modes : Ground → ProgramTree → List Diagnostic
told_of_modes g t = flat_map (modes_told_at g) (sites t)

abbrev pub told_of_statements : Ground → ProgramTree → List Diagnostic
told_of_statements g t = flat_map (statements_told_at g) (sites t)

abbrev pub told_of_processes : Ground → ProgramTree → List Diagnostic
told_of_processes g t = flat_map (processes_told_at g) (sites t)

abbrev pub broken_modes : Ground → ProgramTree → List Diagnostic
broken_modes g t = listed diagnostic_cmp (told_of_modes g t)

abbrev pub broken_statements : Ground → ProgramTree → List Diagnostic
broken_statements g t = listed diagnostic_cmp (told_of_statements g t)

abbrev pub broken_processes : Ground → ProgramTree → List Diagnostic
broken_processes g t = listed diagnostic_cmp (told_of_processes g t)
