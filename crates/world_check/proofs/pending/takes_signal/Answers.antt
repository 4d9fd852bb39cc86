use Rattle.std.proofs.Common.{arith}
use Rattle.world_check.proofs.Waiters.{refuted, granted}
use Rattle.world_check.proofs.Signals.{takes_at, takes_none}
use Rattle.world_check.proofs.pending.takes_signal.Goals as goal

pub returns-then-may_take : goal.returns-then-may_take
returns-then-may_take c = granted (takes_at c.args.facts.now c.args.world.now c.args.who c.args.signals.now c.args.receipt.now.alternative c.args.receipt.now.send c.args.receipt.now.scalars.now c.args.receipt.now.by c.loop-place.place c.at-signal.result.now c.at-signal.ensures (c.may_take.ensures.0 c.if-may_take.true))

pub returns : goal.returns
returns c = refuted (takes_none c.args.facts.now c.args.world.now c.args.who c.args.signals.now c.args.receipt.now.alternative c.args.receipt.now.send c.args.receipt.now.scalars.now c.args.receipt.now.by c.loop-place.place (omega arith) c.loop-place.invariant)
