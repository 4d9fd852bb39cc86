use Rattle.std.proofs.Common.{◌≤◌, sym, arith}
use Rattle.world_check.proofs.Waiters.{no_higher, refuted, granted}
use Rattle.world_check.proofs.choices.no_sleeper_above.Goals as goal

pub returns-then-other-priority : goal.returns-then-other-priority
returns-then-other-priority c = refuted (λ all. let most : c.in-Some.other.priority ≤ c.args.priority = all c.loop-q.q c.in-Some.other (sym c.in-Some.ensures) in let f : ⊥ = omega arith in f)

pub returns : goal.returns
returns c = granted (no_higher c.args.world.now c.args.event c.args.priority c.loop-q.q (omega arith) c.loop-q.invariant)
