use Rattle.chill_tree.specs.LocalTree.{declaration_tree}
use Rattle.definition_table.proofs.EntryLemmas.{location_found}
use Rattle.definition_table.proofs.entries.location_entry.Goals as goal

pub returns : goal.returns
returns c = λ keeps few. location_found c.args.ground.now (declaration_tree c.args.own.now) c.in_ok-entry.entry keeps few (c.in_ok-entry.ensures keeps few)
