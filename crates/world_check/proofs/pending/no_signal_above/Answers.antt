use Rattle.std.proofs.Common.{◌≤◌, sym, arith}
use Rattle.world_check.proofs.Waiters.{refuted, granted}
use Rattle.world_check.proofs.Signals.{pends_at, none_above}
use Rattle.world_check.proofs.pending.no_signal_above.Goals as goal

pub returns-then-signal-priority : goal.returns-then-signal-priority
returns-then-signal-priority c = refuted (λ all.
    let most : c.at-signal.result.now.value.priority ≤ c.args.priority =
    all c.in-Some.field-0 c.at-signal.result.now (pends_at c.args.facts.now c.args.world.now c.args.who c.args.signals.now c.in-Some.field-0 c.loop-place.place c.at-signal.result.now c.at-signal.ensures (sym c.in-Some.ensures)) in
    let f : ⊥ = omega arith in f)

pub returns : goal.returns
returns c = granted (none_above c.args.facts.now c.args.world.now c.args.who c.args.signals.now c.args.priority c.loop-place.place (omega arith) c.loop-place.invariant)
