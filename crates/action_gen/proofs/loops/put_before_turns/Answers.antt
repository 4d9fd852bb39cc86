use Rattle.std.proofs.Common.{sym}
use Rattle.std.proofs.lemmas.Result.{on_ok_weaker}
use Rattle.action_gen.specs.Counting.{steps_of}
use Rattle.action_gen.specs.Putting.{standing_of}
use Rattle.action_gen.proofs.Controls.{steps_before}
use Rattle.action_gen.proofs.loops.put_before_turns.Goals as goal

pub returns-in_ok-new-in-Steps-clause-puts : goal.returns-in_ok-new-in-Steps-clause-puts
returns-in_ok-new-in-Steps-clause-puts c =
    let row = sym c.first_of_local-counter.ensures in
    on_ok_weaker c.put_first_value.result
    (λ q. steps_before (standing_of c.args.around.now) c.args.control.now c.in-Steps.counter c.first_of_local-counter.result c.in-Steps.start c.in-Steps.step c.in-Steps.end c.in-Steps.down c.in-Steps.condition
    c.deref-in-Steps.result.now c.deref-in-Steps-2.result.now (steps_of c.in_ok-new-in-Steps.field-0) c.args.behind c.in-Steps.is c.deref-in-Steps.ensures c.deref-in-Steps-2.ensures row c.in_ok-new-in-Steps.ensures
    c.in_ok-put_bounds-in-Steps.ensures.puts q)
    c.put_first_value.ensures.puts
