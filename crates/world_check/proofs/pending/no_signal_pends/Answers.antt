use Rattle.std.proofs.Common.{sym, arith}
use Rattle.world_check.proofs.Waiters.{refuted, granted}
use Rattle.world_check.proofs.Signals.{pends_at, no_signal}
use Rattle.world_check.proofs.pending.no_signal_pends.Goals as goal

pub returns-in-Some : goal.returns-in-Some
returns-in-Some c = refuted (λ none.
    none c.in-Some.field-0 c.at-signal.result.now (pends_at c.args.facts.now c.args.world.now c.args.who c.args.signals.now c.in-Some.field-0 c.loop-place.place c.at-signal.result.now c.at-signal.ensures (sym c.in-Some.ensures)))

pub returns : goal.returns
returns c = granted (no_signal c.args.facts.now c.args.world.now c.args.who c.args.signals.now c.loop-place.place (omega arith) c.loop-place.invariant)
