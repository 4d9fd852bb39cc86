use Rattle.std.proofs.Common.{sym}
use Rattle.journal_check.proofs.Buffers.{refill_by, none_above_refill}
use Rattle.journal_check.proofs.receiving.offers_highest.Goals as goal

pub returns-in-Some : goal.returns-in-Some
returns-in-Some c = (
  λ is. refill_by c.args.world.now c.args.buffer c.args.sender c.in-Some.priority (sym c.in-Some.ensures) (c.no_offer_above.ensures.0 is),
  λ refill. c.no_offer_above.ensures.1 (none_above_refill c.args.world.now c.args.buffer c.args.sender c.in-Some.priority (sym c.in-Some.ensures) refill),
)
