use Rattle.chill_tree.specs.ModeTree as written
use Rattle.definition_table.proofs.EntryLemmas.{parameter_found}
use Rattle.definition_table.proofs.entries.parameter_entry.Goals as goal

pub returns : goal.returns
returns c = λ keeps few. parameter_found c.args.ground.now (written.mode_tree c.args.mode.now) c.in_ok-entry.entry keeps few (c.in_ok-entry.ensures keeps few)
