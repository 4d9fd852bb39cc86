-- The laws that modulions, bodies and the program are there, as they are elaborated, where nothing is told at their nodes.
use Rattle.std.specs.Prelude.{◌≡◌, ℕ, Bool, true, List, [], ◌∷◌, Option, Some, None, IsSome, is_some, option_and_then, slice_get}
use Rattle.chill_tree.specs.declared.tree.name.Name.{Name}
use Rattle.chill_tree.specs.StatementTree.{BodyTree, HandlerTree, body_nodes, handler_node}
use Rattle.chill_tree.specs.ItemTree.{ProcedureTree, ProcessTree, ItemTree, ItemNodes, seize, grant, local_item, signals, procedure, process, modulion, action, no_items, more_items, ProgramTree}
use Rattle.names_model.specs.ItemParts.{is_region}
use Rattle.checks_model.specs.Ground.{Origin, a_procedure, a_process, a_signal}
use Rattle.checks_model.specs.Sites as sites
use Rattle.checks_model.specs.Sites.{in_procedure, in_no_procedure, sites_of_body, sites_of_item, items_of}
use Rattle.written_laws.specs.Written.{Each}
use Rattle.elaboration_model.specs.Numbering.{Source, Row, may_be_local, thing_defined, region_number}
use Rattle.elaboration_model.specs.Parts.{made_of_some}
use Rattle.elaboration_model.specs.Numbering.{body_used}
use Rattle.elaboration_model.specs.Expressions.{mode_defined}
use Rattle.elaboration_model.specs.Elaborated.{parts_known, listed_by, elaborated_by}
use Rattle.expression_laws.specs.Names.{IsPlace, AllNamesKnown}
use Rattle.expression_laws.specs.Statements.{IsNodeClean, ExitsStand, HandlerExits, BodyExits}

-- ---- modulions

abbrev mutual
  -- regions have their numbers, and each EXIT has the label of an action around it
  pub ItemStands : Source → ItemTree → Type 0
  ItemStands s (modulion n kind items h closing) = (is_region kind ≡ true → IsSome (option_and_then region_number (thing_defined s n))) × (ItemsStand s items × HandlerExits [] (handler_node h))
  ItemStands s (action x) = ExitsStand [] x
  ItemStands s (seize at passed) = Unit {0}
  ItemStands s (grant at passed) = Unit {0}
  ItemStands s (local_item l) = Unit {0}
  ItemStands s (signals at ss) = Unit {0}
  ItemStands s (procedure p) = Unit {0}
  ItemStands s (process p) = Unit {0}

  pub ItemsStand : Source → ItemNodes → Type 0
  ItemsStand s no_items = Unit {0}
  ItemsStand s (more_items i is) = ItemStands s i × ItemsStand s is

-- an item of a program, at none of whose nodes anything is told
pub record IsItemClean (s : Source) (i : ItemTree) : Type 0 where
  pub stands : ItemStands s i
  pub nodes : Each (IsNodeClean s) (sites_of_item i)

-- ---- rows

-- a body with its handler
pub record IsBodyClean (s : Source) (around : sites.Around) (ps : List BodyTree) (h : Option HandlerTree) : Type 0 where
  pub exits : BodyExits [] (body_nodes ps)
  pub handler_exits : HandlerExits [] (handler_node h)
  pub nodes : Each (IsNodeClean s) (sites_of_body around ps h)

-- what is known of a definition: of a signal the modes of its parts and the process that it is for, of a procedure its exceptions and its
-- result, and that nothing is told in bodies
abbrev pub OriginStands : Source → ℕ → Origin → Type 0
OriginStands s d (a_signal own) = IsSome (parts_known s.known d) × IsSome (made_of_some (body_used s) own.process)
OriginStands s d (a_process p) = IsBodyClean s in_no_procedure p.body p.handler
OriginStands s d (a_procedure p) = IsSome (listed_by s p.exceptions) × ((is_some p.returns ≡ true → IsPlace (mode_defined s p.name)) × IsBodyClean s (in_procedure p) p.body p.handler)
OriginStands s d o = Unit {0}

-- a row of a definition: what may be a local has a mode
pub record IsRowClean (s : Source) (d : ℕ) (r : Row) : Type 0 where
  pub mode : may_be_local r.origin ≡ true → IsSome r.mode
  pub stands : OriginStands s d r.origin

abbrev pub AllRowsClean : Source → Type 0
AllRowsClean s = (d : ℕ) (r : Row) → slice_get s.rows d ≡ Some r → IsRowClean s d r

-- ---- the law

-- A program at none of whose nodes anything is told has an elaborated program.
abbrev pub ProgramThereLaw : Type 0
ProgramThereLaw = (s : Source) (t : ProgramTree) → AllNamesKnown s → AllRowsClean s → Each (IsItemClean s) (items_of t) → IsSome (elaborated_by s t)
