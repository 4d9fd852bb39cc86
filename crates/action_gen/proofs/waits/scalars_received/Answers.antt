use Rattle.std.proofs.Common.{◌+◌, get_or, refl}
use Rattle.action_gen.specs.Puts.{rows_around}
use Rattle.action_gen.proofs.Waiting.{scalars_turn, scalars_done}
use Rattle.action_gen.proofs.waits.scalars_received.Goals as goal

pub loop-number-preserved : goal.loop-number-preserved
loop-number-preserved c =
    scalars_turn (rows_around c.args.around.now) c.args.received.now c.loop-number.number-index (get_or c.args.received.now c.loop-number.number-index 0) c.scalars_of_local.result c.loop-number.count c.in_ok-count.count _
    c.loop-number-test.true refl c.scalars_of_local.ensures c.in_ok-count.ensures c.loop-number.invariant

pub returns : goal.returns
returns c = scalars_done (rows_around c.args.around.now) c.args.received.now c.loop-number.number-index c.loop-number.count _ c.loop-number-test.false c.loop-number.invariant
