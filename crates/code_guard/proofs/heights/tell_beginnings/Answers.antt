use Rattle.std.proofs.Common.{◌<◌, length}
use Rattle.code_types.specs.declared.code.BodyRow.{BodyRow}
use Rattle.code_types.specs.Agreement.{HasHeight}
use Rattle.code_guard.specs.Heights.{IsTold}
use Rattle.code_guard.proofs.EachItem.{all_at}
use Rattle.code_guard.proofs.KnownHeights.{known_set, tells_beginning}
use Rattle.code_guard.proofs.heights.tell_beginnings.Goals as goal

pub loop-body-preserved : goal.loop-body-preserved
loop-body-preserved c =
    let inside : c.at.result.now.first < length c.args.code.now.instrs = all_at (λ (row : BodyRow). row.first < length c.args.code.now.instrs) c.args.code.now.bodies c.loop-body.body c.at.result.now c.requires.rise.inside c.at.ensures in
    known_set c.args.code.now (IsTold c.args.code.now c.loop-body.body 0 0) _ c.loop-body.known c.at.result.now.first 0 c.loop-body.invariant inside (tells_beginning c.args.code.now c.loop-body.body c.at.result.now c.at.ensures) (λ heights are. all_at (λ (row : BodyRow). HasHeight heights row.first 0) c.args.code.now.bodies c.loop-body.body c.at.result.now are.begin c.at.ensures)
