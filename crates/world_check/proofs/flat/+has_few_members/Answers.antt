use Rattle.std.proofs.Common.{◌≤◌, length, sym, subst, arith}
use Rattle.std.proofs.lemmas.Bool.{leb-true, le-leb}
use Rattle.world_check.specs.Opening.{HasFewMembersEach}
use Rattle.world_check.proofs.Waiters.{refuted, granted}
use Rattle.world_check.proofs.PowersetsInValues.{few_here, few_members, few_of_number, few_of_members, few_of_parts}
use Rattle.world_check.proofs.flat.+has_few_members.Goals as goal

pub returns-then-not-has_few_members : goal.returns-then-not-has_few_members
returns-then-not-has_few_members t c = refuted (λ few.
    let yes = c.has_few_members.ensures.1 (few_here c.args.value.now c.in-Parts.parts c.as_slice-part-items.result.now c.loop-part.part-index c.part-item.result few c.in-Parts.is c.as_slice-part-items.ensures c.loop-part-test.true c.part-item.is) in
    let no = c.if-not-has_few_members.true in cc)

pub returns-in-Number : goal.returns-in-Number
returns-in-Number t c = granted (subst HasFewMembersEach (sym c.in-Number.is) (few_of_number c.in-Number.field-0))

pub returns-in-Members : goal.returns-in-Members
returns-in-Members t c = (
  λ is. let low : c.len.result ≤ c.in-Members.size = leb-true c.len.result c.in-Members.size is in
      subst HasFewMembersEach (sym c.in-Members.is) (few_of_members c.in-Members.size c.in-Members.offsets (omega arith)),
  λ few. let low : length c.in-Members.offsets ≤ c.in-Members.size = few_members c.in-Members.size c.in-Members.offsets (subst HasFewMembersEach c.in-Members.is few) in
      le-leb c.len.result c.in-Members.size (omega arith),
)

pub returns-after-loop-part : goal.returns-after-loop-part
returns-after-loop-part t c = granted (few_of_parts c.args.value.now c.in-Parts.parts c.as_slice-part-items.result.now c.loop-part.part-index c.in-Parts.is c.as_slice-part-items.ensures (omega arith) c.loop-part.invariant)
