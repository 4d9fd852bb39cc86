use Rattle.member_laws.proofs.laws.members_law.Goals as goal
use Rattle.member_laws.proofs.Bits as bits

pub returns : goal.returns
returns c = record {
  union = bits.union_members;
  intersection = bits.intersection_members;
  symmetric_difference = bits.symmetric_difference_members;
  difference = bits.difference_members;
  complement = bits.complement_members;
  member = bits.one_member;
}
