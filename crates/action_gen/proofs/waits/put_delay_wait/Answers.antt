use Rattle.std.proofs.lemmas.Result.{on_ok_weaker}
use Rattle.program_trees.specs.StatementTree.{set_tree}
use Rattle.action_gen.specs.Trees.{delays_of}
use Rattle.code_scheme.specs.StatementWaits.{count_of_events}
use Rattle.action_gen.specs.Putting.{standing_of}
use Rattle.action_gen.proofs.Waiting.{delay_made}
use Rattle.action_gen.proofs.waits.put_delay_wait.Goals as goal

pub returns-clause-puts : goal.returns-clause-puts
returns-clause-puts c =
    let count = c.in_ok-count.ensures (count_of_events (delays_of c.args.alternatives.now)) c.count_of_events.ensures in
    let delay = rw count at c.in_ok-put.ensures.puts in
    let kept = rw c.in_ok-chosen.ensures at c.in_ok-put-2.ensures.puts in
    on_ok_weaker c.put_set.result
    (λ q. delay_made (standing_of c.args.around.now) (set_tree c.args.set.now) c.args.priority (delays_of c.args.alternatives.now)
    c.in_ok-put_set_place.ensures.puts c.in_ok-put_all_events.ensures.puts delay kept q)
    c.put_set.ensures.puts
