-- The law of the program of a text: what is so of its nodes, its names and its definitions makes its elaborated program be there.
use Rattle.std.specs.Prelude.{◌≡◌, ℕ, Bool, true, List, [], Option, Some, IsSome, is_some, option_and_then, slice_get}
use Rattle.chill_tree.specs.ItemTree.{ItemTree, ItemNodes, seize, grant, local_item, signals, procedure, process, modulion, action, no_items, more_items, ProgramTree}
use Rattle.names_model.specs.ItemParts.{is_region}
use Rattle.checks_model.specs.Diagnoses.{HasNames}
use Rattle.checks_model.specs.Ground.{Ground, Origin, a_signal, a_procedure}
use Rattle.checks_model.specs.Sites.{items_of, sites}
use Rattle.checks_model.specs.Table.{IsStatementGroundOf}
use Rattle.written_laws.specs.Written.{Each}
use Rattle.elaboration_model.specs.Numbering.{Source, Row, may_be_local, thing_defined, region_number, body_used}
use Rattle.elaboration_model.specs.Parts.{made_of_some}
use Rattle.elaboration_model.specs.Expressions.{mode_defined}
use Rattle.elaboration_model.specs.Elaborated.{parts_known, source_of, elaborated}
use Rattle.expression_laws.specs.Names.{IsPlace, AllNamesKnown}
use Rattle.expression_laws.specs.Statements.{IsNodeClean}

abbrev mutual
  -- regions have their numbers
  pub RegionsStand : Source → ItemTree → Type 0
  RegionsStand s (modulion n kind items h closing) = (is_region kind ≡ true → IsSome (option_and_then region_number (thing_defined s n))) × EachRegionStands s items
  RegionsStand s (action x) = Unit {0}
  RegionsStand s (seize at passed) = Unit {0}
  RegionsStand s (grant at passed) = Unit {0}
  RegionsStand s (local_item l) = Unit {0}
  RegionsStand s (signals at ss) = Unit {0}
  RegionsStand s (procedure p) = Unit {0}
  RegionsStand s (process p) = Unit {0}

  pub EachRegionStands : Source → ItemNodes → Type 0
  EachRegionStands s no_items = Unit {0}
  EachRegionStands s (more_items i is) = RegionsStand s i × EachRegionStands s is

-- the modes of a signal's parts and of what a procedure returns are known, and the process that a signal is for
abbrev pub ModesStand : Source → ℕ → Origin → Type 0
ModesStand s d (a_signal own) = IsSome (parts_known s.known d) × IsSome (made_of_some (body_used s) own.process)
ModesStand s d (a_procedure p) = is_some p.returns ≡ true → IsPlace (mode_defined s p.name)
ModesStand s d o = Unit {0}

-- a definition: what may be a local has a mode
pub record IsDefinitionKnown (s : Source) (d : ℕ) (r : Row) : Type 0 where
  pub mode : may_be_local r.origin ≡ true → IsSome r.mode
  pub modes : ModesStand s d r.origin

pub record IsTextClean (s : Source) (t : ProgramTree) : Type 0 where
  pub names : AllNamesKnown s
  pub nodes : Each (IsNodeClean s) (sites t)
  pub definitions : (d : ℕ) (r : Row) → slice_get s.rows d ≡ Some r → IsDefinitionKnown s d r
  pub regions : Each (RegionsStand s) (items_of t)

-- A text that breaks no rule on names, and at none of whose nodes anything is told, has an elaborated program.
abbrev pub TextElaboratedLaw : Type 0
TextElaboratedLaw = (text : List ℕ) (t : ProgramTree) (g : Ground) → HasNames text t → IsStatementGroundOf t g → IsTextClean (source_of g t) t → IsSome (elaborated g t)
