use Rattle.std.proofs.Common.{◌<◌, length, get_or, arith, rules, pos, w64}
use Rattle.std.proofs.lemmas.List.Elements.{All-more}
use Rattle.std.proofs.lemmas.Int.{ints}
use Rattle.world_model.specs.Ranges.{IsScalar}
use Rattle.kernel_steps.proofs.ranges.scalars_in_range.Goals as goal
use mir.Val.{SFits}

pub loop-i-preserved : goal.loop-i-preserved
loop-i-preserved c =
    let low : c.loop-i.i < length c.args.scalars.now = omega arith in
    let f : SFits w64 (get_or c.args.scalars.now c.loop-i.i (pos 0)) = search rules in
    let here : IsScalar (get_or c.args.scalars.now c.loop-i.i (pos 0)) = (omega (arith, ints), omega (arith, ints)) in
    All-more IsScalar c.args.scalars.now c.loop-i.i (pos 0) low c.loop-i.invariant here
