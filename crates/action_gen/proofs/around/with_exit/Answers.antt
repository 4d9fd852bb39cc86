use Rattle.action_gen.proofs.Exits.{exit_turn, exits_done}
use Rattle.action_gen.proofs.around.with_exit.Goals as goal

pub loop-exit-preserved : goal.loop-exit-preserved
loop-exit-preserved c = exit_turn c.args.exits.now _ _ c.loop-exit.exit-index c.loop-exit-test.true c.in_ok-push.ensures.items c.loop-exit.invariant

pub returns : goal.returns
returns c = exits_done c.args.exits.now _ _ c.loop-exit.exit-index c.args.behind c.loop-exit-test.false c.in_ok-push-2.ensures.items c.loop-exit.invariant
