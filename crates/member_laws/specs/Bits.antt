-- The law of bits: an operation on the members of powersets is the operation on the numbers that tell of them.
use Rattle.std.specs.Prelude.{◌≡◌, ℕ, Bool, not, List, map, length}
use Rattle.chill_tree.specs.declared.tree.expr.Operator.TheVariants as ops
use Rattle.scalar_operators.specs.Members.{union_of, intersection_of, symmetric_difference_of, difference_of, complement_of, has_member_at}
use Rattle.checks_model.specs.ValueTrees.{members, scalars_in}
use Rattle.checks_model.specs.OperatorValues.{zipped, logic, member_at}

abbrev pub UnionLaw : Type 0
UnionLaw = (as' bs : List Bool) → length as' ≡ length bs → scalars_in (members (zipped (logic ops.Or) as' bs)) ≡ union_of (scalars_in (members as')) (scalars_in (members bs))

abbrev pub IntersectionLaw : Type 0
IntersectionLaw = (as' bs : List Bool) → length as' ≡ length bs → scalars_in (members (zipped (logic ops.And) as' bs)) ≡ intersection_of (scalars_in (members as')) (scalars_in (members bs))

abbrev pub SymmetricDifferenceLaw : Type 0
SymmetricDifferenceLaw = (as' bs : List Bool) → length as' ≡ length bs → scalars_in (members (zipped (logic ops.Xor) as' bs)) ≡ symmetric_difference_of (scalars_in (members as')) (scalars_in (members bs))

abbrev pub DifferenceLaw : Type 0
DifferenceLaw = (as' bs : List Bool) → length as' ≡ length bs → scalars_in (members (zipped (logic ops.Minus) as' bs)) ≡ difference_of (scalars_in (members as')) (scalars_in (members bs))

abbrev pub ComplementLaw : Type 0
ComplementLaw = (bs : List Bool) → scalars_in (members (map not bs)) ≡ complement_of (length bs) (scalars_in (members bs))

-- a member is there exactly where its bit is set
abbrev pub MemberLaw : Type 0
MemberLaw = (k : ℕ) (bs : List Bool) → has_member_at k (scalars_in (members bs)) ≡ member_at k bs
