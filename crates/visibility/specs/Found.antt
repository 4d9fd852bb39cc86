-- What is found of the names of a program.
use Rattle.std.specs.Prelude.{◌≡◌, List, length}
use Rattle.chill_tree.specs.ItemTree.{ProgramTree}
use Rattle.diagnostics.specs.Listing.{SameMembers}
use Rattle.names_model.specs.Definitions.{text_definitions}
use Rattle.names_model.specs.Dependence.{groups_in}
use Rattle.names_model.specs.NameRules.{told_in}
use Rattle.names_model.specs.Resolving.{level_of, resolved_in}
use Rattle.names_model.specs.Seeing.{outermost}
use Rattle.reach_tables.specs.Books.{Keeps}
use Rattle.reach_walk.specs.SameGroups.{SameGroups}
use Rattle.visibility.specs.declared.finding.Found.{Found}

-- the definitions of a tree, and all that its parts tell, depend on and use; what is told may be told once for many, and the
-- groups are any that say the same
pub record IsFound (tree : ProgramTree) (found : Found) : Type 0 where
  pub keeps : Keeps found.book (text_definitions (level_of tree))
  pub count : found.count ≡ length (text_definitions (level_of tree))
  pub told : SameMembers found.findings.told.items (told_in (text_definitions (level_of tree)) (outermost (level_of tree)) 0 (level_of tree))
  pub groups : SameGroups found.findings.groups.items (groups_in (text_definitions (level_of tree)) (outermost (level_of tree)) 0 (level_of tree))
  pub uses : found.findings.uses.items ≡ resolved_in (text_definitions (level_of tree)) (outermost (level_of tree)) 0 (level_of tree)
