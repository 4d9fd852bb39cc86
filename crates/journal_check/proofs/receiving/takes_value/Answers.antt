use Rattle.std.proofs.Common.{arith}
use Rattle.world_check.proofs.Waiters.{refuted}
use Rattle.journal_check.proofs.ListedThings.{takes_none}
use Rattle.journal_check.proofs.receiving.takes_value.Goals as goal

pub returns : goal.returns
returns c = refuted (takes_none c.args.facts.now c.args.world.now c.args.buffers.now c.args.receipt.now.alternative c.args.receipt.now.send c.args.receipt.now.scalars.now c.args.receipt.now.by c.args.refill c.loop-place.place (omega arith) c.loop-place.invariant)
