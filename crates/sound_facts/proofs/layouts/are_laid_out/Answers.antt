use Rattle.std.proofs.Common.{arith}
use Rattle.sound_facts.specs.Layouts.{IsLaidOutAt}
use Rattle.sound_facts.proofs.PowersetLemmas.{refuted, granted}
use Rattle.sound_facts.proofs.PlaceLemmas.{laid_at, laid_here, more_below}
use Rattle.sound_facts.proofs.layouts.are_laid_out.Goals as goal

pub loop-i-preserved : goal.loop-i-preserved
loop-i-preserved c =
    more_below (IsLaidOutAt c.args.values.now c.args.layouts.now) c.loop-i.i c.loop-i.invariant
    (laid_at c.args.values.now c.args.layouts.now c.loop-i.i c.index-values-i.result c.index-layouts-i.result c.as_slice-in-loop-i.result.now c.index-values-i.is c.index-layouts-i.is c.as_slice-in-loop-i.ensures
    (c.is_laid_out.ensures.0 c.if-not-is_laid_out.false))

pub returns-then-not-is_laid_out : goal.returns-then-not-is_laid_out
returns-then-not-is_laid_out c = refuted (λ all.
    let yes = c.is_laid_out.ensures.1 (laid_here c.args.values.now c.args.layouts.now c.loop-i.i c.index-values-i.result c.index-layouts-i.result c.as_slice-in-loop-i.result.now (omega arith) (omega arith) c.index-values-i.is c.index-layouts-i.is c.as_slice-in-loop-i.ensures all) in
    let no = c.if-not-is_laid_out.true in cc)

pub returns : goal.returns
returns c = granted (λ k low. c.loop-i.invariant k (omega arith))
