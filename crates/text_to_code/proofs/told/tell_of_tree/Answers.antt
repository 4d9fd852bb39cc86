use Rattle.chill_tree.specs.ItemTree.{program_tree}
use Rattle.text_to_code.proofs.TellingLemmas.{names_told}
use Rattle.text_to_code.proofs.told.tell_of_tree.Goals as goal

-- it breaks no rule on names
pub returns-in-Ok : goal.returns-in-Ok
returns-in-Ok c = λ text has. c.tell_of_checks.ensures text (record { has = record { has_tree = has; names = c.in-Ok.ensures.0 }; are = c.in-Ok.ensures.1 })

-- it breaks some
pub returns-in-Err-Broken : goal.returns-in-Err-Broken
returns-in-Err-Broken c = λ text has.
    let arm = c.in-Err-Broken in
    let told = rw arm.field-0-is at arm.ensures in
    rw arm.field-0-is (names_told text (program_tree c.args.tree.now) arm.misnamed has told.0 told.1)
