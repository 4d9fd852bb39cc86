-- The law of what names in bodies stand for: a name that is used at a node of a body, or defined there, stands for no local of another body;
-- and what is defined there is numbered in the order of its nodes.
use Rattle.std.specs.Prelude.{◌≡◌, ◌≤◌, ℕ, suc, true, List, [], ◌∷◌, ◌++◌, flat_map, Some, slice_get}
use Rattle.chill_tree.specs.declared.tree.name.Name.{Name}
use Rattle.chill_tree.specs.ExprTree.{expr_nodes, range_nodes}
use Rattle.chill_tree.specs.SimpleTree.{SimpleTree, assign, update, call_of, exit, return_with, result_of, assert_that, cause, stop, start_of, delay, continue_event, send, ControlTree, while_holds, for_ever, for_members, for_steps}
use Rattle.chill_tree.specs.StatementTree.{handler_node}
use Rattle.chill_tree.specs.ItemTree.{ItemTree, ItemNodes, seize, grant, local_item, signals, procedure, process, modulion, action, no_items, more_items, ProgramTree}
use Rattle.checks_model.specs.Ground.{Ground, Origin, a_procedure, a_process, number_at}
use Rattle.checks_model.specs.Table.{ground_with}
use Rattle.checks_model.specs.Diagnoses.{HasNames}
use Rattle.checks_model.specs.ActionRules.{args_in}
use Rattle.checks_model.specs.Phases.{initial_expr}
use Rattle.checks_model.specs.Sites.{Site, in_procedure, in_no_procedure, at_item, at_synonym, at_mode_definition, at_declaration, at_mode, at_simple, at_condition, at_selector, at_labels, at_control, at_set, at_priority, at_event, at_source, at_received, at_exceptions, at_body, at_program, counter_in, names_received, sites_of_local, sites_of, sites_of_handler, sites_of_body, items_of}
use Rattle.table_laws.specs.Names.{names_in, names_in_each, names_in_ranges, names_in_some}
use Rattle.written_laws.specs.Written.{Each}
use Rattle.elaboration_model.specs.Numbering.{Source, Thing, a_local, thing_of, body_of}
use Rattle.elaboration_model.specs.Elaborated.{source_of}

-- ---- the names at a node, those in modes aside

-- those that an action uses
abbrev pub names_of_simple : SimpleTree → List Name
names_of_simple (assign at t v) = names_in t ++ names_in v
names_of_simple (update at t o p v) = names_in t ++ names_in v
names_of_simple (call_of at word n es) = n ∷ names_in_each (expr_nodes es)
names_of_simple (exit at n) = []
names_of_simple (return_with at v) = names_in_some v
names_of_simple (result_of at v) = names_in v
names_of_simple (assert_that at c) = names_in c
names_of_simple (cause at n) = []
names_of_simple (stop at) = []
names_of_simple (start_of at n es) = n ∷ names_in_each (expr_nodes es)
names_of_simple (delay at n p) = n ∷ names_in_some p
names_of_simple (continue_event at n) = n ∷ []
names_of_simple (send at n es to p) = n ∷ names_in_each (args_in es) ++ names_in_some to ++ names_in_some p

abbrev pub names_of_control : ControlTree → List Name
names_of_control (while_holds at c) = names_in c
names_of_control (for_ever at) = []
names_of_control (for_members at n s c) = names_in s ++ names_in_some c
names_of_control (for_steps at n s b down e c) = (names_in s ++ names_in_some b ++ names_in e) ++ names_in_some c

abbrev pub names_used : Site → List Name
names_used (at_synonym s) = names_in s.value
names_used (at_declaration shared d) = names_in_some (initial_expr d.initial)
names_used (at_simple a x) = names_of_simple x
names_used (at_condition e) = names_in e
names_used (at_selector e) = names_in e
names_used (at_labels e ls) = names_in_ranges (range_nodes ls)
names_used (at_control c) = names_of_control c
names_used (at_set e) = names_in e
names_used (at_priority e) = names_in e
names_used (at_event earlier n) = n ∷ []
names_used (at_source earlier n) = n ∷ []
names_used (at_received n names) = []
names_used (at_item kind all i) = []
names_used (at_mode_definition d) = []
names_used (at_mode m) = []
names_used (at_exceptions earlier ns) = []
names_used (at_body n locals) = []
names_used (at_program shared) = []

-- those that may define locals
abbrev pub names_defined : Site → List Name
names_defined (at_declaration shared d) = d.names
names_defined (at_control c) = counter_in c
names_defined (at_received n names) = names_received names
names_defined (at_item kind all i) = []
names_defined (at_synonym s) = []
names_defined (at_mode_definition d) = []
names_defined (at_mode m) = []
names_defined (at_simple a x) = []
names_defined (at_condition e) = []
names_defined (at_selector e) = []
names_defined (at_labels e ls) = []
names_defined (at_set e) = []
names_defined (at_priority e) = []
names_defined (at_event earlier n) = []
names_defined (at_source earlier n) = []
names_defined (at_exceptions earlier ns) = []
names_defined (at_body n locals) = []
names_defined (at_program shared) = []

-- ---- what they stand for

-- a local is one of this body
abbrev pub IsOfBody : ℕ → Thing → Type 0
IsOfBody b (a_local c k) = c ≡ b
IsOfBody b thing = Unit {0}

-- a name that is used
abbrev pub IsUsedWithin : Source → ℕ → Name → Type 0
IsUsedWithin s b n = (d : ℕ) → number_at s.known.uses n.at ≡ Some d → IsOfBody b (thing_of s.rows d)

-- names that are defined, by numbers that rise from one on and stay below another
abbrev pub AreDefinedFrom : Source → ℕ → ℕ → List Name → ℕ → Type 0
AreDefinedFrom s b low [] high = low ≤ high
AreDefinedFrom s b low (n ∷ ns) high = (d : ℕ) × (low ≤ d) × (number_at s.known.defined n.at ≡ Some d) × IsOfBody b (thing_of s.rows d) × AreDefinedFrom s b (suc d) ns high

-- so are the names at nodes
abbrev pub AreSitesWithin : Source → ℕ → ℕ → List Site → ℕ → Type 0
AreSitesWithin s b low [] high = low ≤ high
AreSitesWithin s b low (n ∷ ns) high = Each (IsUsedWithin s b) (names_used n) × ((middle : ℕ) × AreDefinedFrom s b low (names_defined n) middle × AreSitesWithin s b middle ns high)

-- nodes of a body, by some numbers
pub record StandWithin (s : Source) (b : ℕ) (ns : List Site) : Type 0 where
  pub low : ℕ
  pub high : ℕ
  pub within : AreSitesWithin s b low ns high

-- ---- the law

-- what is done at the places of modulions
abbrev mutual
  pub IsItemWithin : Source → ItemTree → Type 0
  IsItemWithin s (local_item l) = StandWithin s 0 (sites_of_local true l)
  IsItemWithin s (action x) = StandWithin s 0 (sites_of in_no_procedure x)
  IsItemWithin s (modulion n kind items h closing) = AreItemsWithin s items × StandWithin s 0 (sites_of_handler in_no_procedure (handler_node h))
  IsItemWithin s (seize at passed) = Unit {0}
  IsItemWithin s (grant at passed) = Unit {0}
  IsItemWithin s (signals at ss) = Unit {0}
  IsItemWithin s (procedure p) = Unit {0}
  IsItemWithin s (process p) = Unit {0}

  pub AreItemsWithin : Source → ItemNodes → Type 0
  AreItemsWithin s no_items = Unit {0}
  AreItemsWithin s (more_items i is) = IsItemWithin s i × AreItemsWithin s is

-- the parameters of a body that something of a number has, and behind them its nodes
pub record BodyStands (s : Source) (d : ℕ) (params : List Name) (ns : List Site) : Type 0 where
  pub start : ℕ
  pub params_within : AreDefinedFrom s (body_of s.rows d) (suc d) params start
  pub high : ℕ
  pub within : AreSitesWithin s (body_of s.rows d) start ns high

abbrev pub IsBodyWithin : Source → ℕ → Origin → Type 0
IsBodyWithin s d (a_procedure p) = BodyStands s d (flat_map (λ q. q.names) p.params) (sites_of_body (in_procedure p) p.body p.handler)
IsBodyWithin s d (a_process p) = BodyStands s d (flat_map (λ q. q.names) p.formals) (sites_of_body in_no_procedure p.body p.handler)
IsBodyWithin s d o = Unit {0}

pub record IsTextWithin (s : Source) (t : ProgramTree) : Type 0 where
  pub items : Each (IsItemWithin s) (items_of t)
  pub bodies : (d : ℕ) (o : Origin) → slice_get s.known.origins d ≡ Some o → IsBodyWithin s d o

abbrev pub WithinLaw : Type 0
WithinLaw = (text : List ℕ) (t : ProgramTree) (g : Ground) → HasNames text t → g ≡ ground_with t g.entries → IsTextWithin (source_of g t) t
