use Rattle.text_to_code.proofs.OneAnswer.{told_exactly, exactly}
use Rattle.text_to_code.proofs.TellingLemmas.{broken_told}
use Rattle.text_to_code.proofs.told.tell.Goals as goal

-- it has a tree
pub returns-in-Ok-clause-exact : goal.returns-in-Ok-clause-exact
returns-in-Ok-clause-exact c = told_exactly c.args.text.now c.in-Ok.told c.in-Ok.ensures.tells

-- it breaks a rule on tokens or grammar
pub returns-in-Err-Breaks-clause-told : goal.returns-in-Err-Breaks-clause-told
returns-in-Err-Breaks-clause-told c =
    let arm = c.in-Err-Breaks in
    broken_told c.args.text.now arm.told c.refuse.result (rw arm.field-0-is at arm.ensures.breaks) c.refuse.ensures

pub returns-in-Err-Breaks-clause-exact : goal.returns-in-Err-Breaks-clause-exact
returns-in-Err-Breaks-clause-exact c =
    let arm = c.in-Err-Breaks in
    exactly c.args.text.now c.refuse.result (broken_told c.args.text.now arm.told c.refuse.result (rw arm.field-0-is at arm.ensures.breaks) c.refuse.ensures)
