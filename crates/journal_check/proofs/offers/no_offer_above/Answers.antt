use Rattle.std.proofs.Common.{sym, arith}
use Rattle.world_check.proofs.Waiters.{refuted, granted}
use Rattle.journal_check.proofs.Buffers.{higher_offer, no_higher_offer}
use Rattle.journal_check.proofs.offers.no_offer_above.Goals as goal

pub returns-then-other-priority : goal.returns-then-other-priority
returns-then-other-priority c = refuted (higher_offer c.args.world.now c.args.buffer c.loop-p.p c.args.priority c.in-Some.other (sym c.in-Some.ensures) (omega arith))

pub returns : goal.returns
returns c = granted (no_higher_offer c.args.world.now c.args.buffer c.args.priority c.loop-p.p (omega arith) c.loop-p.invariant)
