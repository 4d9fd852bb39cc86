use Rattle.std.proofs.Common.{arith}
use Rattle.chill_tree.specs.ItemTree.{program_tree}
use Rattle.text_to_code.proofs.TellingLemmas.{large_told, unbuilt_told, built_told}
use Rattle.text_to_code.proofs.told.tell_of_code.Goals as goal

-- it is too large
pub returns-then-size_of_program-gt-GREATEST_SIZE : goal.returns-then-size_of_program-gt-GREATEST_SIZE
returns-then-size_of_program-gt-GREATEST_SIZE c = λ text sound.
    large_told text (program_tree c.args.tree.now) c.refuse_plainly.result sound (omega (arith, c.size_of_program.ensures)) c.refuse_plainly.ensures

-- it is built
pub returns-in_ok-new-in-Ok : goal.returns-in_ok-new-in-Ok
returns-in_ok-new-in-Ok c = λ text sound.
    let kept = c.in_ok-new-in-Ok in
    built_told text (program_tree c.args.tree.now) c.in-Ok.built sound (omega (arith, c.size_of_program.ensures)) c.in-Ok.ensures.built kept.field-0.value kept.ensures.ok

-- it isn't built
pub returns-in-Err-NotBuilt : goal.returns-in-Err-NotBuilt
returns-in-Err-NotBuilt c = λ text sound.
    let arm = c.in-Err-NotBuilt in
    unbuilt_told text (program_tree c.args.tree.now) c.refuse_plainly-in-Err-NotBuilt.result sound (omega (arith, c.size_of_program.ensures)) (rw arm.field-0-is at arm.ensures.refused) c.refuse_plainly-in-Err-NotBuilt.ensures
