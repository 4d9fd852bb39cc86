use Rattle.std.proofs.Common.{arith}
use Rattle.sound_facts.specs.Layouts.{IsWithinAt}
use Rattle.sound_facts.proofs.PowersetLemmas.{refuted}
use Rattle.sound_facts.proofs.PlaceLemmas.{within_at, fits_at, more_below}
use Rattle.sound_facts.proofs.layouts.fit_layout.Goals as goal

pub loop-i-preserved : goal.loop-i-preserved
loop-i-preserved c =
    more_below (IsWithinAt c.args.scalars.now c.args.layout.now) c.loop-i.i c.loop-i.invariant
    (within_at c.args.scalars.now c.args.layout.now c.loop-i.i (c.is_within_bits.ensures.0 c.if-not-is_within_bits.false))

pub returns-then-not-is_within_bits : goal.returns-then-not-is_within_bits
returns-then-not-is_within_bits c = refuted (λ fit.
    let yes = c.is_within_bits.ensures.1 (fits_at c.args.scalars.now c.args.layout.now c.loop-i.i (omega arith) fit) in
    let no = c.if-not-is_within_bits.true in cc)
