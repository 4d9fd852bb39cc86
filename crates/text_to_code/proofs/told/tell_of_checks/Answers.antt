use Rattle.chill_tree.specs.ItemTree.{program_tree}
use Rattle.constant_operators.specs.Grounds.{ground_of}
use Rattle.text_to_code.proofs.TellingLemmas.{checks_told}
use Rattle.text_to_code.proofs.told.tell_of_checks.Goals as goal

-- the checks tell nothing
pub returns-in-Ok : goal.returns-in-Ok
returns-in-Ok c = λ text has.
    let sound = c.in-Ok.ensures.exact text has.has (c.in_ok-evaluation.ensures text has.has has.are) in
    c.tell_of_code.ensures text (record { ground = ground_of c.check_text.new.evaluation; none = sound.none })

-- they tell what is broken
pub returns-in-Err-Broken : goal.returns-in-Err-Broken
returns-in-Err-Broken c = λ text has.
    let arm = c.in-Err-Broken in
    let order = rw arm.field-0-is at arm.ensures.order in
    let exactly = rw arm.field-0-is at arm.ensures.exact text has.has (c.in_ok-evaluation.ensures text has.has has.are) in
    rw arm.field-0-is (checks_told text (program_tree c.args.tree.now) arm.told has.has order exactly)
