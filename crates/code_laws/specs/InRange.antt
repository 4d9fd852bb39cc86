-- When the numbers in an expression are in range, as a program's are that may be compiled.
use Rattle.std.specs.Prelude.{◌≡◌, ℕ, ◌+◌, ◌*◌, ◌<◌, ◌≤◌, true, false, List, [], ◌∷◌, length, Option, Some, None, slice_get}
use Rattle.modes.specs.declared.mode.Bounds.{Bounds}
use Rattle.modes.specs.Bounds.{count_between}
use Rattle.modes.specs.Scalars.{lowest_of}
use Rattle.checked_program.specs.declared.expr.Base.{Base}
use Rattle.checked_program.specs.declared.expr.Base.TheVariants.{Shared, Local}
use Rattle.checked_program.specs.declared.expr.Binary.{Binary}
use Rattle.checked_program.specs.declared.expr.Binary.TheVariants.{Equal, NotEqual, Less, LessOrEqual, Greater, GreaterOrEqual, Member}
use Rattle.checked_program.specs.declared.program.Passing.TheVariants.{In, Out, InOut}
use Rattle.checked_program.specs.declared.program.Parameter.{Parameter}
use Rattle.program_trees.specs.ExprTree.{ExprTree, expr, OperationTree, constant, own_instance, contents, part_of, receive, start, call, powerset, parts, uniform, routine, get_int, prefixed, binary, ReceivedTree, received, ReceivedNodes, no_received, more_received, PartNodes, no_parts, field, element, RangeNodes, no_ranges, one_member, members, LocationTree, location, StartTree, started, CallTree, called, ArgumentNodes, no_arguments, in_argument, out_argument, inout_argument, count_of, received_count, location_count}
use Rattle.program_trees.specs.ProgramTree.{LocalRowTree, BodyRowTree}
use Rattle.scalar_operators.specs.Numbers.{is_int}
use Rattle.source_meaning.specs.Fitting.{has_instances}
use Rattle.code_scheme.specs.Pieces.{Layout}
use Rattle.code_scheme.specs.ExprCode.{counts_of}
use Rattle.code_laws.specs.Calls.{result_scalars}

-- a number of scalars that offsets may pass over, and a number of a thing
abbrev pub IsOffset : ℕ → Type 0
IsOffset n = n < 2147483648

abbrev pub IsNumber32 : ℕ → Type 0
IsNumber32 n = n < 4294967296

-- bounds in INT, in order
abbrev pub AreInts : Bounds → Type 0
AreInts b = (is_int b.low ≡ true) × (is_int b.high ≡ true)

-- those of members of a powerset that is one number: at least 1 and at most 32
abbrev pub AreMembers : Bounds → Type 0
AreMembers b = AreInts b × (1 ≤ count_between b.low b.high) × (count_between b.low b.high ≤ 32)

-- only one number is tested
abbrev pub BoundsFit : Option Bounds → ℕ → Type 0
BoundsFit None n = Unit {0}
BoundsFit (Some b) n = n ≡ 1

-- operands of so many scalars
abbrev pub OperandsFit : Binary → ℕ → ℕ → Type 0
OperandsFit Equal m n = m ≡ n
OperandsFit NotEqual m n = m ≡ n
OperandsFit Less m n = m ≡ n
OperandsFit LessOrEqual m n = m ≡ n
OperandsFit Greater m n = m ≡ n
OperandsFit GreaterOrEqual m n = m ≡ n
OperandsFit (Member b) m n = AreMembers b × (m ≡ 1) × (n ≡ 1)
OperandsFit o m n = (m ≡ 1) × (n ≡ 1)

-- a local of the body, or a shared location, of so many scalars
abbrev pub BaseFits : Layout → Base → ℕ → Type 0
BaseFits lay (Shared l) of = Unit {0}
BaseFits lay (Local k) of = (row : LocalRowTree) × (slice_get lay.rows k ≡ Some row) × (row.count ≡ of)

-- the parameter and the local of this number of a procedure
pub record IsPassed (b : BodyRowTree) (k : ℕ) (p : Parameter) (row : LocalRowTree) : Type 0 where
  pub parameter : slice_get b.parameters k ≡ Some p
  pub local : slice_get b.locals k ≡ Some row

abbrev mutual
  pub FitsExpr : Layout → ExprTree → Type 0
  FitsExpr lay (expr n own o) = FitsOperation lay n o

  pub FitsOperation : Layout → ℕ → OperationTree → Type 0
  FitsOperation lay n (constant xs) = (length xs ≡ n) × IsNumber32 n
  FitsOperation lay n own_instance = n ≡ 1
  FitsOperation lay n (contents l) = FitsLocation lay l × (location_count l ≡ n)
  FitsOperation lay n (part_of e ps) = FitsExpr lay e × FitsParts lay (count_of e) ps n × IsOffset (count_of e)
  FitsOperation lay n (receive b) = IsNumber32 b
  FitsOperation lay n (start t) = FitsStart lay t × (n ≡ 1)
  FitsOperation lay n (call c) = FitsCall lay c n
  FitsOperation lay n (powerset b rs) = FitsRanges lay b rs × AreMembers b × (n ≡ 1)
  FitsOperation lay n (parts rs) = FitsAll lay rs × (counts_of rs ≡ n)
  FitsOperation lay n (uniform m r) = FitsReceived lay r × (1 ≤ m) × IsNumber32 m × (m * received_count r ≡ n)
  FitsOperation lay n (routine r e) = FitsExpr lay e × (count_of e ≡ 1) × (n ≡ 1)
  FitsOperation lay n get_int = n ≡ 1
  FitsOperation lay n (prefixed o e) = FitsExpr lay e × (count_of e ≡ 1) × (n ≡ 1)
  FitsOperation lay n (binary o a b) = FitsExpr lay a × FitsExpr lay b × OperandsFit o (count_of a) (count_of b) × (n ≡ 1)

  -- a value that something takes
  pub FitsReceived : Layout → ReceivedTree → Type 0
  FitsReceived lay (received e bounds) = FitsExpr lay e × BoundsFit bounds (count_of e)

  pub FitsAll : Layout → ReceivedNodes → Type 0
  FitsAll lay no_received = Unit {0}
  FitsAll lay (more_received r rs) = FitsReceived lay r × FitsAll lay rs

  -- the parts lead from so many scalars to so many
  pub FitsParts : Layout → ℕ → PartNodes → ℕ → Type 0
  FitsParts lay of no_parts n = of ≡ n
  FitsParts lay of (field first count ps) n = (first + count ≤ of) × FitsParts lay count ps n
  FitsParts lay of (element e b count ps) n = FitsExpr lay e × (count_of e ≡ 1) × (AreInts b × (count_between b.low b.high * count ≤ of)) × FitsParts lay count ps n

  pub FitsRanges : Layout → Bounds → RangeNodes → Type 0
  FitsRanges lay b no_ranges = Unit {0}
  FitsRanges lay b (one_member e rs) = FitsExpr lay e × (count_of e ≡ 1) × FitsRanges lay b rs
  FitsRanges lay b (members e f rs) = FitsExpr lay e × (count_of e ≡ 1) × FitsExpr lay f × (count_of f ≡ 1) × FitsRanges lay b rs

  pub FitsLocation : Layout → LocationTree → Type 0
  FitsLocation lay (location b ps n) = (of : ℕ) × BaseFits lay b of × IsOffset of × FitsParts lay of ps n

  pub FitsStart : Layout → StartTree → Type 0
  FitsStart lay (started p rs) = FitsAll lay rs

  -- a procedure whose result has so many scalars, and arguments for all of its parameters
  pub FitsCall : Layout → CallTree → ℕ → Type 0
  FitsCall lay (called b as') n =
      (body : BodyRowTree) × (slice_get lay.program.bodies b ≡ Some body) × (has_instances body.sort ≡ false) × (result_scalars body.result ≡ n) × FitsArguments lay as' body.parameters body.locals

  -- arguments for these parameters, which are the first of these locals
  pub FitsArguments : Layout → ArgumentNodes → List Parameter → List LocalRowTree → Type 0
  FitsArguments lay no_arguments ps rows = ps ≡ []
  FitsArguments lay (in_argument r as') ps rows =
      (row : LocalRowTree) × (more : List Parameter) × (others : List LocalRowTree) × (ps ≡ record { passing = In } ∷ more) × (rows ≡ row ∷ others) × FitsReceived lay r × (received_count r ≡ row.count) × FitsArguments lay as' more others
  FitsArguments lay (out_argument l bounds as') ps rows =
      (row : LocalRowTree) × (more : List Parameter) × (others : List LocalRowTree) × (ps ≡ record { passing = Out } ∷ more) × (rows ≡ row ∷ others) × (FitsLocation lay l × BoundsFit bounds (location_count l)) × ((location_count l ≡ row.count) × (length (lowest_of row.mode) ≡ row.count)) × FitsArguments lay as' more others
  FitsArguments lay (inout_argument l taken bounds as') ps rows =
      (row : LocalRowTree) × (more : List Parameter) × (others : List LocalRowTree) × (ps ≡ record { passing = InOut } ∷ more) × (rows ≡ row ∷ others) × (FitsLocation lay l × BoundsFit taken (location_count l) × BoundsFit bounds (location_count l)) × (location_count l ≡ row.count) × FitsArguments lay as' more others
