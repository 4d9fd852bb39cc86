use Rattle.chill_tree.specs.ModeTree as written
use Rattle.definition_table.proofs.EntryLemmas.{mode_found}
use Rattle.definition_table.proofs.entries.mode_entry.Goals as goal

pub returns : goal.returns
returns c = λ keeps few novel. mode_found c.args.ground.now novel (written.mode_tree c.args.own.now.mode) c.in_ok-entry.entry keeps few (c.in_ok-entry.ensures keeps few)
