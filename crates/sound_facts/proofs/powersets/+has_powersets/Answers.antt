use Rattle.std.proofs.Common.{arith}
use Rattle.sound_facts.proofs.PowersetLemmas.{refuted, granted, number_has, members_have, parts_have, part_has, part_more}
use Rattle.sound_facts.proofs.powersets.+has_powersets.Goals as goal

pub returns-then-not-has_powersets : goal.returns-then-not-has_powersets
returns-then-not-has_powersets t c = refuted (λ has.
    let yes = c.has_powersets.ensures.1 (part_has c.args.value.now c.in-Parts.parts c.as_slice-part-items.result.now c.loop-part.part-index c.part-item.result has c.in-Parts.is c.as_slice-part-items.ensures c.loop-part-test.true c.part-item.is) in
    let no = c.if-not-has_powersets.true in cc)

pub returns-in-Number : goal.returns-in-Number
returns-in-Number t c = granted (number_has c.args.value.now c.in-Number.field-0 c.in-Number.is)

pub returns-in-Members : goal.returns-in-Members
returns-in-Members t c = members_have c.args.value.now c.in-Members.size c.in-Members.offsets c.as_slice.result.now c.is_powerset.result c.in-Members.is c.as_slice.ensures c.is_powerset.ensures

pub returns-after-loop-part : goal.returns-after-loop-part
returns-after-loop-part t c = granted (parts_have c.args.value.now c.in-Parts.parts c.as_slice-part-items.result.now c.loop-part.part-index c.in-Parts.is c.as_slice-part-items.ensures (omega arith) c.loop-part.invariant)

pub loop-part-preserved : goal.loop-part-preserved
loop-part-preserved t c = part_more c.as_slice-part-items.result.now c.loop-part.part-index c.part-item.result c.loop-part.invariant (c.has_powersets.ensures.0 c.if-not-has_powersets.false) c.loop-part-test.true c.part-item.is
