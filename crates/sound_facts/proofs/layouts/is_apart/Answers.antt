use Rattle.std.proofs.Common.{arith}
use Rattle.std.proofs.lemmas.List.Elements.{All-get_or}
use Rattle.kernel_base.specs.Facts.{ShareNoBit}
use Rattle.sound_facts.proofs.PowersetLemmas.{refuted, granted}
use Rattle.sound_facts.proofs.PlaceLemmas.{no_bits, apart_from_more, apart_from_all}
use Rattle.sound_facts.proofs.layouts.is_apart.Goals as goal

pub loop-other-preserved : goal.loop-other-preserved
loop-other-preserved c = apart_from_more c.args.bits c.args.others.now c.loop-other.other-index (omega arith) c.loop-other.invariant (c.share_no_bit.ensures.0 c.if-not-share_no_bit.false)

pub returns-then-not-share_no_bit : goal.returns-then-not-share_no_bit
returns-then-not-share_no_bit c = refuted (λ all.
    let yes = c.share_no_bit.ensures.1 (All-get_or (ShareNoBit c.args.bits) c.args.others.now c.loop-other.other-index no_bits (omega arith) all) in
    let no = c.if-not-share_no_bit.true in cc)

pub returns : goal.returns
returns c = granted (apart_from_all c.args.bits c.args.others.now c.loop-other.other-index (omega arith) c.loop-other.invariant)
