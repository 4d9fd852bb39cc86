use Rattle.std.proofs.Common.{sym, arith}
use Rattle.world_check.proofs.Waiters.{refuted, granted}
use Rattle.journal_check.proofs.Buffers.{offered_is, nobody_from}
use Rattle.journal_check.proofs.offers.nobody_sends.Goals as goal

pub returns-in-Some : goal.returns-in-Some
returns-in-Some c = refuted (λ none. let made = offered_is c.args.world.now c.args.buffer c.loop-p.p c.in-Some.field-0 (sym c.in-Some.ensures) in none made.value made.offered)

pub returns : goal.returns
returns c = granted (nobody_from c.args.world.now c.args.buffer c.loop-p.p (omega arith) c.loop-p.invariant)
