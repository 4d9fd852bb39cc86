-- Definitions as they are written, without where they lie in memory.
use Rattle.std.specs.Prelude.{Bool, List, map, Option, option_map}
use Rattle.chill_base.specs.declared.pos.Pos.{Pos}
use Rattle.chill_tree.specs.declared.tree.name.Name.{Name}
use Rattle.chill_tree.specs.declared.tree.local.Synonym.{Synonym}
use Rattle.chill_tree.specs.declared.tree.local.ModeDefinition.{ModeDefinition}
use Rattle.chill_tree.specs.declared.tree.local.Initial.{Initial}
use Rattle.chill_tree.specs.declared.tree.local.Declaration.{Declaration}
use Rattle.chill_tree.specs.declared.tree.local.Local.{Local}
use Rattle.chill_tree.specs.declared.tree.local.Local.TheVariants as locals
use Rattle.chill_tree.specs.ExprTree.{ExprTree, boxed_expr}
use Rattle.chill_tree.specs.ModeTree.{ModeTree, mode_tree}

-- names for the value of a constant
pub record SynonymTree : Type 0 where
  pub names : List Name
  pub mode : Option ModeTree
  pub value : ExprTree

-- a name for a mode
pub record ModeDefinitionTree : Type 0 where
  pub name : Name
  pub mode : ModeTree

-- what locations hold at first
pub record InitialTree : Type 0 where
  pub at : Pos
  pub init : Bool
  pub value : ExprTree

-- locations of one mode
pub record DeclarationTree : Type 0 where
  pub names : List Name
  pub mode : ModeTree
  pub initial : Option InitialTree

-- a definition statement
pub data LocalTree : Type 0 where
  synonyms : Pos → List SynonymTree → LocalTree
  syn_modes : Pos → List ModeDefinitionTree → LocalTree
  new_modes : Pos → List ModeDefinitionTree → LocalTree
  locations : Pos → List DeclarationTree → LocalTree

-- ---- the trees of values

abbrev pub synonym_tree : Synonym → SynonymTree
synonym_tree s = record { names = s.names; mode = option_map mode_tree s.mode; value = boxed_expr s.value }

abbrev pub mode_definition_tree : ModeDefinition → ModeDefinitionTree
mode_definition_tree d = record { name = d.name; mode = mode_tree d.mode }

abbrev pub initial_tree : Initial → InitialTree
initial_tree i = record { at = i.at; init = i.init; value = boxed_expr i.value }

abbrev pub declaration_tree : Declaration → DeclarationTree
declaration_tree d = record { names = d.names; mode = mode_tree d.mode; initial = option_map initial_tree d.initial }

abbrev pub local_tree : Local → LocalTree
local_tree (locals.Synonyms at ss) = synonyms at (map synonym_tree ss)
local_tree (locals.SynModes at ds) = syn_modes at (map mode_definition_tree ds)
local_tree (locals.NewModes at ds) = new_modes at (map mode_definition_tree ds)
local_tree (locals.Locations at ds) = locations at (map declaration_tree ds)
