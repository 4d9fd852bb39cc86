-- The numbers of scalars in an expression fit each other: what an operator takes, what a place has, and what a call gives.
use Rattle.std.specs.Prelude.{◌≡◌, ℕ, ◌+◌, ◌*◌, ◌≤◌, ◌<◌, Bool, true, false, List, length, Option, Some, None, slice_get}
use Rattle.modes.specs.declared.mode.Bounds.{Bounds}
use Rattle.checked_program.specs.declared.expr.Binary.{Binary}
use Rattle.checked_program.specs.declared.expr.Binary.TheVariants.{Equal, NotEqual, Less, LessOrEqual, Greater, GreaterOrEqual}
use Rattle.program_trees.specs.ExprTree.{ExprTree, expr, OperationTree, constant, own_instance, contents, part_of, receive, start, call, powerset, parts, uniform, routine, get_int, prefixed, binary, ReceivedTree, received, ReceivedNodes, no_received, more_received, PartNodes, no_parts, field, element, RangeNodes, no_ranges, one_member, members, LocationTree, location, StartTree, started, CallTree, called, ArgumentNodes, no_arguments, in_argument, out_argument, inout_argument, count_of, received_count, location_count}
use Rattle.program_trees.specs.ProgramTree.{LocalRowTree, BodyRowTree, CheckedTree}
use Rattle.code_scheme.specs.Pieces.{has_index, first_of_parts, lowest_in_row}
use Rattle.code_scheme.specs.ExprCode.{counts_of}
use Rattle.code_scheme.specs.StatementSite.{parameter_scalars, call_results}

-- an operator takes operands of so many scalars each
abbrev pub TakesCounts : Binary → ℕ → ℕ → Type 0
TakesCounts Equal m n = m ≡ n
TakesCounts NotEqual m n = m ≡ n
TakesCounts Less m n = m ≡ n
TakesCounts LessOrEqual m n = m ≡ n
TakesCounts Greater m n = m ≡ n
TakesCounts GreaterOrEqual m n = m ≡ n
TakesCounts o m n = (m ≡ 1) × (n ≡ 1)

-- only one scalar is tested
abbrev pub TestsOne : Option Bounds → ℕ → Type 0
TestsOne None n = Unit {0}
TestsOne (Some b) n = n ≡ 1

-- so many scalars from a number on lie among others, where no index tells more
abbrev pub LiesIn : Bool → ℕ → ℕ → ℕ → Type 0
LiesIn true first n of = Unit {0}
LiesIn false first n of = first + n ≤ of

-- how many scalars the arguments of a call have, and how many of them are copied out
abbrev pub argument_scalars : ArgumentNodes → ℕ
argument_scalars no_arguments = 0
argument_scalars (in_argument r as') = received_count r + argument_scalars as'
argument_scalars (out_argument l b as') = location_count l + argument_scalars as'
argument_scalars (inout_argument l t b as') = location_count l + argument_scalars as'

abbrev pub copied_scalars : ArgumentNodes → ℕ
copied_scalars no_arguments = 0
copied_scalars (in_argument r as') = copied_scalars as'
copied_scalars (out_argument l b as') = location_count l + copied_scalars as'
copied_scalars (inout_argument l t b as') = location_count l + copied_scalars as'

abbrev mutual
  pub CountsFit : CheckedTree → ExprTree → Type 0
  CountsFit p (expr n own o) = OperationFits p n o

  pub OperationFits : CheckedTree → ℕ → OperationTree → Type 0
  OperationFits p n (constant xs) = (length xs ≡ n) × (n ≤ 4294967295)
  OperationFits p n own_instance = n ≡ 1
  OperationFits p n (contents l) = PlaceFits p l × (location_count l ≡ n)
  OperationFits p n (part_of e ps) = CountsFit p e × PartsFit p ps × LiesIn (has_index ps) (first_of_parts ps) n (count_of e)
  OperationFits p n (receive b) = Unit {0}
  OperationFits p n (start t) = StartFits p t × (n ≡ 1)
  OperationFits p n (call c) = CallFits p n c
  OperationFits p n (powerset b rs) = RangesFit p rs × (n ≡ 1)
  OperationFits p n (parts rs) = AllFit p rs × (counts_of rs ≡ n)
  OperationFits p n (uniform m r) = ReceivedFits p r × (1 ≤ m) × (m ≤ 4294967295) × (m * received_count r ≡ n)
  OperationFits p n (routine r e) = CountsFit p e × (count_of e ≡ 1) × (n ≡ 1)
  OperationFits p n get_int = n ≡ 1
  OperationFits p n (prefixed o e) = CountsFit p e × (count_of e ≡ 1) × (n ≡ 1)
  OperationFits p n (binary o a b) = CountsFit p a × CountsFit p b × TakesCounts o (count_of a) (count_of b) × (n ≡ 1)

  pub ReceivedFits : CheckedTree → ReceivedTree → Type 0
  ReceivedFits p (received e b) = CountsFit p e × TestsOne b (count_of e)

  pub AllFit : CheckedTree → ReceivedNodes → Type 0
  AllFit p no_received = Unit {0}
  AllFit p (more_received r rs) = ReceivedFits p r × AllFit p rs

  -- each index is one scalar
  pub PartsFit : CheckedTree → PartNodes → Type 0
  PartsFit p no_parts = Unit {0}
  PartsFit p (field first count ps) = PartsFit p ps
  PartsFit p (element e b count ps) = CountsFit p e × (count_of e ≡ 1) × PartsFit p ps

  pub PlaceFits : CheckedTree → LocationTree → Type 0
  PlaceFits p (location b ps n) = PartsFit p ps

  -- each member is one scalar
  pub RangesFit : CheckedTree → RangeNodes → Type 0
  RangesFit p no_ranges = Unit {0}
  RangesFit p (one_member e rs) = CountsFit p e × (count_of e ≡ 1) × RangesFit p rs
  RangesFit p (members e f rs) = CountsFit p e × (count_of e ≡ 1) × CountsFit p f × (count_of f ≡ 1) × RangesFit p rs

  pub StartFits : CheckedTree → StartTree → Type 0
  StartFits p (started k rs) = (k < length p.bodies) × AllFit p rs

  -- a call gives a result of so many scalars, and what is copied out
  pub CallFits : CheckedTree → ℕ → CallTree → Type 0
  CallFits p n (called k as') =
      (b : BodyRowTree) × (slice_get p.bodies k ≡ Some b) × ArgumentsFit p b.locals 0 as' × (parameter_scalars b ≡ argument_scalars as') × (call_results b ≡ n + copied_scalars as')

  -- arguments for the locals from number k on
  pub ArgumentsFit : CheckedTree → List LocalRowTree → ℕ → ArgumentNodes → Type 0
  ArgumentsFit p rows k no_arguments = Unit {0}
  ArgumentsFit p rows k (in_argument r as') = ReceivedFits p r × ArgumentsFit p rows (k + 1) as'
  ArgumentsFit p rows k (out_argument l b as') =
      PlaceFits p l × (length (lowest_in_row (slice_get rows k)) ≡ location_count l) × TestsOne b (location_count l) × ArgumentsFit p rows (k + 1) as'
  ArgumentsFit p rows k (inout_argument l t b as') = PlaceFits p l × TestsOne t (location_count l) × TestsOne b (location_count l) × ArgumentsFit p rows (k + 1) as'
