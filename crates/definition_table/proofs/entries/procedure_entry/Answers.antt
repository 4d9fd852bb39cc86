use Rattle.chill_tree.specs.ItemTree.{procedure_tree}
use Rattle.constant_operators.specs.Grounds.{ground_of}
use Rattle.definition_table.proofs.EntryLemmas.{procedure_found}
use Rattle.definition_table.proofs.entries.procedure_entry.Goals as goal

pub returns : goal.returns
returns c = λ keeps few. procedure_found (ground_of c.args.ground.now) (procedure_tree c.args.own.now) c.in_ok-entry.entry (c.in_ok-entry.ensures keeps few)
