use Rattle.chill_tree.specs.ItemTree.{modulion_item}
use Rattle.process_names.specs.Walk.{inside_item}
use Rattle.process_names.proofs.Walked.{walked_on}
use Rattle.process_names.proofs.items.tell_in_program.Goals as goal

pub loop-modulion-preserved : goal.loop-modulion-preserved
loop-modulion-preserved c =
    walked_on (λ m. inside_item c.args.meetings.now (modulion_item m)) c.as_slice-modulion-items.result.now c.loop-modulion.modulion-index c.modulion-item.result c.loop-modulion.told c.tell_in_modulion.new.told _
    c.loop-modulion-test.true c.modulion-item.is c.loop-modulion.invariant c.in_ok-tell_in_modulion.ensures
