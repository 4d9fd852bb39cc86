use Rattle.std.proofs.Common.{arith, length, ◌+◌}
use Rattle.code_types.specs.declared.code.Handler.{Handler}
use Rattle.code_types.specs.Agreement.{HasHeight, HandlesInOneBody}
use Rattle.code_guard.specs.Heights.{IsTold}
use Rattle.code_guard.proofs.EachItem.{all_at}
use Rattle.code_guard.proofs.Belonging.{target_inside}
use Rattle.code_guard.proofs.KnownHeights.{known_set, tells_target}
use Rattle.code_guard.proofs.heights.tell_targets.Goals as goal

pub loop-i-preserved : goal.loop-i-preserved
loop-i-preserved c =
    known_set c.args.code.now (IsTold c.args.code.now (length c.args.code.now.bodies) c.loop-i.i 0) (IsTold c.args.code.now (length c.args.code.now.bodies) (c.loop-i.i + 1) 0) c.loop-i.known c.at-handler.result.now.target c.at-handler.result.now.height c.loop-i.invariant (target_inside c.args.code.now c.at-handler.result.now c.requires.rise (all_at (HandlesInOneBody c.args.code.now) c.args.code.now.handlers c.loop-i.i c.at-handler.result.now c.requires.handlers c.at-handler.ensures)) (tells_target c.args.code.now (length c.args.code.now.bodies) c.loop-i.i c.at-handler.result.now c.at-handler.ensures) (λ heights are. all_at (λ (handler : Handler). HasHeight heights handler.target handler.height) c.args.code.now.handlers c.loop-i.i c.at-handler.result.now are.targets c.at-handler.ensures)

pub bounds-known-handler : goal.bounds-known-handler
bounds-known-handler c = let inside = target_inside c.args.code.now c.at-handler.result.now c.requires.rise (all_at (HandlesInOneBody c.args.code.now) c.args.code.now.handlers c.loop-i.i c.at-handler.result.now c.requires.handlers c.at-handler.ensures) in let count = c.loop-i.invariant.count in omega arith
