use Rattle.std.proofs.Common.{refl, sym, ◌∙◌}
use Rattle.machine_steps.proofs.Handlers.{taker_here, taker_later}
use Rattle.machine_steps.proofs.raising.landing.Goals as goal

pub returns-then-takes_at : goal.returns-then-takes_at
returns-then-takes_at c =
    let found = c.loop-i.invariant ∙ taker_here c.args.code.now.handlers c.loop-i.i c.args.place c.args.exception c.at-handler.result.now c.at-handler.ensures (sym c.takes_at.ensures ∙ c.if-takes_at.true) in
    rw found (refl, refl)

pub loop-i-preserved : goal.loop-i-preserved
loop-i-preserved c = c.loop-i.invariant ∙ taker_later c.args.code.now.handlers c.loop-i.i c.args.place c.args.exception c.at-handler.result.now c.at-handler.ensures (sym c.takes_at.ensures ∙ c.if-takes_at.false)
