use Rattle.std.proofs.Common.{◌<◌, length, arith}
use Rattle.std.proofs.lemmas.List.{take_all}
use Rattle.std.proofs.lemmas.List.Elements.{All-more}
use Rattle.kernel_base.specs.declared.request.Alternative.{Alternative}
use Rattle.world_model.specs.Ranges.{IsNumber}
use Rattle.kernel_steps.proofs.ranges.alternatives_in_range.Goals as goal

pub loop-i-preserved : goal.loop-i-preserved
loop-i-preserved c =
    let low : c.loop-i.i < length c.args.alternatives.now = omega arith in
    All-more (λ (a : Alternative). IsNumber a.thing × IsNumber a.number) c.args.alternatives.now c.loop-i.i _ low c.loop-i.invariant c.alternative_in_range.ensures

pub returns : goal.returns
returns c = rw (← take_all c.loop-i.i c.args.alternatives.now (omega arith)) c.loop-i.invariant
