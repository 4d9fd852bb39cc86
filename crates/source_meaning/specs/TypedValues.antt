-- What an elaborated program says of its expressions and locations is what their modes say: each number of scalars, first
-- scalar, bound, number of members and operator. The meaning takes these numbers as they are.
use Rattle.std.specs.Prelude.{◌≡◌, ◌⊎◌, ℕ, suc, ◌+◌, Bool, true, false, List, [], ◌∷◌, ℤ, pos, ◌-ℤ◌, Option, Some, None, slice_get}
use Rattle.modes.specs.declared.mode.Bounds.{Bounds}
use Rattle.modes.specs.ModeTree.{ModeTree, int, boolean, char, instance, FieldNodes, no_fields, more_fields}
use Rattle.modes.specs.Form.{FormTree, of_int, of_boolean, of_powerset, of_chars, of_array, of_structure, form_of}
use Rattle.modes.specs.Roots.{root_of}
use Rattle.modes.specs.Bounds.{bounds_of, values_of}
use Rattle.modes.specs.Scalars.{scalars_of}
use Rattle.modes.specs.Similar.{Similar, VEquivalent}
use Rattle.modes.specs.Language.{IsOfLanguage}
use Rattle.checked_program.specs.declared.expr.Base.{Base}
use Rattle.checked_program.specs.declared.expr.Base.TheVariants.{Shared, Local}
use Rattle.checked_program.specs.declared.expr.Binary.{Binary}
use Rattle.checked_program.specs.declared.expr.Binary.TheVariants.{Add, Subtract, Multiply, Divide, Modulo, Remainder, And, Or, Xor, AndIf, OrIf, Equal, NotEqual, Less, LessOrEqual, Greater, GreaterOrEqual, Union, Intersection, SymmetricDifference, Difference, Included, ProperlyIncluded, Includes, ProperlyIncludes, Member}
use Rattle.checked_program.specs.declared.expr.Prefix.{Prefix}
use Rattle.checked_program.specs.declared.expr.Prefix.TheVariants.{Minus, Not, Complement}
use Rattle.checked_program.specs.declared.expr.Routine.{Routine}
use Rattle.checked_program.specs.declared.expr.Routine.TheVariants.{Number, Absolute, Cardinality, Successor, Predecessor, Least, Greatest}
use Rattle.checked_program.specs.declared.program.Sort.TheVariants.{Process, Procedure}
use Rattle.checked_program.specs.declared.program.Passing.TheVariants.{In, Out, InOut}
use Rattle.checked_program.specs.declared.program.Parameter.{Parameter}
use Rattle.program_trees.specs.ExprTree.{ExprTree, expr, OperationTree, constant, own_instance, contents, part_of, receive, start, call, powerset, parts, uniform, routine, get_int, prefixed, binary, ReceivedTree, received, ReceivedNodes, no_received, more_received, PartNodes, no_parts, field, element, RangeNodes, no_ranges, one_member, members, LocationTree, location, StartTree, started, CallTree, called, ArgumentNodes, no_arguments, in_argument, out_argument, inout_argument}
use Rattle.program_trees.specs.ProgramTree.{LocationRowTree, BufferRowTree, LocalRowTree, BodyRowTree, CheckedTree}
use Rattle.source_meaning.specs.Values.{IsValueOf}

-- where a part of a text stands: its program, the locals of its body, and the region that it stands in
pub record Context : Type 0 where
  pub program : CheckedTree
  pub rows : List LocalRowTree
  pub region : Option ℕ

-- ---- modes of parts

-- a region's location or procedure is named inside it alone
abbrev pub IsReached : Option ℕ → Option ℕ → Type 0
IsReached None around = Unit {0}
IsReached (Some r) around = around ≡ Some r

-- a location that is declared, or a local, has the mode
abbrev pub BaseHas : Context → Base → ModeTree → Type 0
BaseHas c (Local i) m = (row : LocalRowTree) × (slice_get c.rows i ≡ Some row) × (row.mode ≡ m)
BaseHas c (Shared l) m = (row : LocationRowTree) × (slice_get c.program.locations l ≡ Some row) × (row.mode ≡ m) × IsReached row.region c.region

-- one of the fields has this mode, and its first scalar this number, where that of the first field is given
abbrev pub HasField : FieldNodes → ℕ → ℕ → ModeTree → Type 0
HasField no_fields from first m = ⊥
HasField (more_fields name own at fs) from first m = ((from ≡ first) × (own ≡ m)) ⊎ HasField fs (from + scalars_of own) first m

-- what is indexed has indices of this mode within these bounds, and elements of this mode
abbrev pub IsIndexed : FormTree → Bounds → ModeTree → ModeTree → Type 0
IsIndexed (of_array i e how) b index m = (i ≡ index) × (bounds_of i ≡ Some b) × (e ≡ m)
IsIndexed (of_chars n) b index m = (int ≡ index) × (record { low = pos 0; high = pos n -ℤ pos 1 } ≡ b) × (char ≡ m)
IsIndexed f b index m = ⊥

abbrev pub IsStructure : FormTree → FieldNodes → Type 0
IsStructure (of_structure own p) fs = own ≡ fs
IsStructure f fs = ⊥

abbrev pub IsArray : FormTree → ModeTree → ModeTree → Type 0
IsArray (of_array i e how) index m = (i ≡ index) × (e ≡ m)
IsArray f index m = ⊥

-- ---- operators

-- the mode of a result: the root of one operand's
abbrev pub IsRootOfEither : ModeTree → ModeTree → ModeTree → Type 0
IsRootOfEither m a b = (m ≡ root_of a) ⊎ (m ≡ root_of b)

abbrev pub IsOnInts : ModeTree → ModeTree → ModeTree → Type 0
IsOnInts a b m = (form_of a ≡ of_int) × Similar a b × IsRootOfEither m a b

abbrev pub IsOnTruths : ModeTree → ModeTree → ModeTree → Type 0
IsOnTruths a b m = (form_of a ≡ of_boolean) × Similar a b × IsRootOfEither m a b

abbrev pub AreSets : ModeTree → ModeTree → Type 0
AreSets a b = ((e : ModeTree) × (form_of a ≡ of_powerset e)) × Similar a b

abbrev pub IsOnSets : ModeTree → ModeTree → ModeTree → Type 0
IsOnSets a b m = AreSets a b × IsRootOfEither m a b

-- discrete values, or texts
abbrev pub AreOrdered : ModeTree → ModeTree → Type 0
AreOrdered a b = (((d : Bounds) × (bounds_of a ≡ Some d)) ⊎ ((n : ℕ) × (form_of a ≡ of_chars n))) × Similar a b

-- the operator takes operands of the first two modes, and its result is of the third
abbrev pub BinaryHas : Binary → ModeTree → ModeTree → ModeTree → Type 0
BinaryHas Add a b m = IsOnInts a b m
BinaryHas Subtract a b m = IsOnInts a b m
BinaryHas Multiply a b m = IsOnInts a b m
BinaryHas Divide a b m = IsOnInts a b m
BinaryHas Modulo a b m = IsOnInts a b m
BinaryHas Remainder a b m = IsOnInts a b m
BinaryHas And a b m = IsOnTruths a b m
BinaryHas Or a b m = IsOnTruths a b m
BinaryHas Xor a b m = IsOnTruths a b m
BinaryHas AndIf a b m = IsOnTruths a b m
BinaryHas OrIf a b m = IsOnTruths a b m
BinaryHas Equal a b m = Similar a b × (m ≡ boolean)
BinaryHas NotEqual a b m = Similar a b × (m ≡ boolean)
BinaryHas Less a b m = AreOrdered a b × (m ≡ boolean)
BinaryHas LessOrEqual a b m = AreOrdered a b × (m ≡ boolean)
BinaryHas Greater a b m = AreOrdered a b × (m ≡ boolean)
BinaryHas GreaterOrEqual a b m = AreOrdered a b × (m ≡ boolean)
BinaryHas Union a b m = IsOnSets a b m
BinaryHas Intersection a b m = IsOnSets a b m
BinaryHas SymmetricDifference a b m = IsOnSets a b m
BinaryHas Difference a b m = IsOnSets a b m
BinaryHas Included a b m = AreSets a b × (m ≡ boolean)
BinaryHas ProperlyIncluded a b m = AreSets a b × (m ≡ boolean)
BinaryHas Includes a b m = AreSets a b × (m ≡ boolean)
BinaryHas ProperlyIncludes a b m = AreSets a b × (m ≡ boolean)
BinaryHas (Member d) a b m = (e : ModeTree) × (form_of b ≡ of_powerset e) × (bounds_of e ≡ Some d) × Similar a e × (m ≡ boolean)

abbrev pub PrefixHas : Prefix → ModeTree → ModeTree → Type 0
PrefixHas Minus a m = (form_of a ≡ of_int) × (m ≡ root_of a)
PrefixHas Not a m = (form_of a ≡ of_boolean) × (m ≡ root_of a)
PrefixHas (Complement n) a m = (e : ModeTree) × (form_of a ≡ of_powerset e) × (values_of e ≡ n) × (m ≡ root_of a)

abbrev pub RoutineHas : Routine → ModeTree → ModeTree → Type 0
RoutineHas Number a m = ((d : Bounds) × (bounds_of a ≡ Some d)) × (m ≡ int)
RoutineHas Absolute a m = (form_of a ≡ of_int) × (m ≡ root_of a)
RoutineHas Cardinality a m = ((e : ModeTree) × (form_of a ≡ of_powerset e)) × (m ≡ int)
RoutineHas (Successor high) a m = ((d : Bounds) × (bounds_of a ≡ Some d) × (d.high ≡ high)) × (m ≡ a)
RoutineHas (Predecessor low) a m = ((d : Bounds) × (bounds_of a ≡ Some d) × (d.low ≡ low)) × (m ≡ a)
RoutineHas (Least low) a m = (d : Bounds) × (form_of a ≡ of_powerset m) × (bounds_of m ≡ Some d) × (d.low ≡ low)
RoutineHas (Greatest low) a m = (d : Bounds) × (form_of a ≡ of_powerset m) × (bounds_of m ≡ Some d) × (d.low ≡ low)

-- ---- expressions and locations

-- the modes of a body's parameters, with the ways in which they are passed
abbrev pub IsParameter : List LocalRowTree → List Parameter → ℕ → Parameter → ModeTree → Type 0
IsParameter rows ps k p m = (slice_get ps k ≡ Some p) × ((row : LocalRowTree) × (slice_get rows k ≡ Some row) × (row.mode ≡ m))

-- there are no more parameters than these
abbrev pub AreAllParameters : BodyRowTree → ℕ → Type 0
AreAllParameters b k = slice_get b.parameters k ≡ None

-- a structure's first field has the mode, and these are the others
abbrev pub IsFirstField : FieldNodes → ModeTree → FieldNodes → Type 0
IsFirstField no_fields m rest = ⊥
IsFirstField (more_fields name own at fs) m rest = (own ≡ m) × (fs ≡ rest)

-- the values of a buffer have the mode
abbrev pub BufferHas : Context → ℕ → ModeTree → Type 0
BufferHas c b m = (row : BufferRowTree) × (slice_get c.program.buffers b ≡ Some row) × (row.element ≡ m)

-- a procedure of a region that isn't granted is called inside it alone
abbrev pub IsReachedFrom : Bool → Option ℕ → Option ℕ → Type 0
IsReachedFrom true region around = Unit {0}
IsReachedFrom false region around = IsReached region around

abbrev pub IsCalledFrom : BodyRowTree → Option ℕ → Type 0
IsCalledFrom b around = IsReachedFrom b.critical b.region around

abbrev mutual
  -- a text can give the mode, the expression has so many scalars as a value of it and the bounds of its root, and its value is one
  pub HasMode : Context → ExprTree → ModeTree → Type 0
  HasMode c (expr n own o) m = IsOfLanguage m × (n ≡ scalars_of m) × (own ≡ bounds_of (root_of m)) × OperationHas c o m

  pub OperationHas : Context → OperationTree → ModeTree → Type 0
  OperationHas c (constant xs) m = IsValueOf m xs
  OperationHas c own_instance m = m ≡ instance
  OperationHas c (contents l) m = LocationHas c l m
  OperationHas c (part_of e ps) m = (of : ModeTree) × HasMode c e of × PartsLead c ps of m
  OperationHas c (receive b) m = BufferHas c b m
  OperationHas c (start t) m = (m ≡ instance) × IsTypedStart c t
  OperationHas c (call t) m = IsTypedCall c t (Some m)
  OperationHas c (powerset b rs) m = (e : ModeTree) × (form_of m ≡ of_powerset e) × (bounds_of e ≡ Some b) × RangesHave c rs e
  OperationHas c (parts rs) m =
      ((index : ModeTree) × (e : ModeTree) × IsArray (form_of m) index e × ElementsHave c rs (values_of index) e) ⊎ ((fs : FieldNodes) × IsStructure (form_of m) fs × FieldsHave c rs fs)
  OperationHas c (uniform n r) m = (index : ModeTree) × (e : ModeTree) × IsArray (form_of m) index e × (values_of index ≡ n) × IsTakenBy c r e
  OperationHas c (routine r e) m = (a : ModeTree) × HasMode c e a × RoutineHas r a m
  OperationHas c get_int m = m ≡ int
  OperationHas c (prefixed o e) m = (a : ModeTree) × HasMode c e a × PrefixHas o a m
  OperationHas c (binary o e f) m = (a : ModeTree) × (b : ModeTree) × HasMode c e a × HasMode c f b × BinaryHas o a b m

  -- the value goes with the mode that takes it, by whose bounds it is tested
  pub IsTakenBy : Context → ReceivedTree → ModeTree → Type 0
  IsTakenBy c (received e bounds) m = ((own : ModeTree) × HasMode c e own × Similar own m) × (bounds_of m ≡ bounds)

  -- so many values, which the mode takes
  pub ElementsHave : Context → ReceivedNodes → ℕ → ModeTree → Type 0
  ElementsHave c no_received n m = n ≡ 0
  ElementsHave c (more_received r rs) n m = (k : ℕ) × (n ≡ suc k) × IsTakenBy c r m × ElementsHave c rs k m

  -- a value for each field
  pub FieldsHave : Context → ReceivedNodes → FieldNodes → Type 0
  FieldsHave c no_received fs = fs ≡ no_fields
  FieldsHave c (more_received r rs) fs = (m : ModeTree) × (rest : FieldNodes) × IsFirstField fs m rest × IsTakenBy c r m × FieldsHave c rs rest

  -- a value for each of the modes
  pub AllHave : Context → ReceivedNodes → List ModeTree → Type 0
  AllHave c no_received ms = ms ≡ []
  AllHave c (more_received r rs) ms = (m : ModeTree) × (rest : List ModeTree) × (ms ≡ m ∷ rest) × IsTakenBy c r m × AllHave c rs rest

  -- the parts lead from the first mode to the second
  pub PartsLead : Context → PartNodes → ModeTree → ModeTree → Type 0
  PartsLead c no_parts of m = of ≡ m
  PartsLead c (field first count ps) of m =
      (fs : FieldNodes) × (own : ModeTree) × IsStructure (form_of of) fs × HasField fs 0 first own × (count ≡ scalars_of own) × PartsLead c ps own m
  PartsLead c (element e b count ps) of m =
      (index : ModeTree) × (own : ModeTree) × IsIndexed (form_of of) b index own × ((a : ModeTree) × HasMode c e a × Similar a index) × (count ≡ scalars_of own) × PartsLead c ps own m

  -- the members are values that the member mode is similar to
  pub RangesHave : Context → RangeNodes → ModeTree → Type 0
  RangesHave c no_ranges m = Unit {0}
  RangesHave c (one_member e rs) m = ((a : ModeTree) × HasMode c e a × Similar a m) × RangesHave c rs m
  RangesHave c (members e f rs) m = ((a : ModeTree) × HasMode c e a × Similar a m) × ((b : ModeTree) × HasMode c f b × Similar b m) × RangesHave c rs m

  -- the location has the mode, and as many scalars
  pub LocationHas : Context → LocationTree → ModeTree → Type 0
  LocationHas c (location b ps n) m = (of : ModeTree) × BaseHas c b of × PartsLead c ps of m × (n ≡ scalars_of m)

  -- a process with its arguments
  pub IsTypedStart : Context → StartTree → Type 0
  IsTypedStart c (started p rs) = (b : BodyRowTree) × (slice_get c.program.bodies p ≡ Some b) × (b.sort ≡ Process) × AllTaken c rs b 0

  -- values for the parameters from one on
  pub AllTaken : Context → ReceivedNodes → BodyRowTree → ℕ → Type 0
  AllTaken c no_received b k = AreAllParameters b k
  AllTaken c (more_received r rs) b k = (m : ModeTree) × IsParameter b.locals b.parameters k (record { passing = In }) m × IsTakenBy c r m × AllTaken c rs b (suc k)

  -- a procedure that is reached here, with its arguments and its result
  pub IsTypedCall : Context → CallTree → Option ModeTree → Type 0
  IsTypedCall c (called p as') result =
      (b : BodyRowTree) × (slice_get c.program.bodies p ≡ Some b) × (b.sort ≡ Procedure) × (b.result ≡ result) × IsCalledFrom b c.region × ArgumentsFit c as' b 0

  -- arguments for the parameters from one on
  pub ArgumentsFit : Context → ArgumentNodes → BodyRowTree → ℕ → Type 0
  ArgumentsFit c no_arguments b k = AreAllParameters b k
  ArgumentsFit c (in_argument r as') b k = (m : ModeTree) × IsParameter b.locals b.parameters k (record { passing = In }) m × IsTakenBy c r m × ArgumentsFit c as' b (suc k)
  ArgumentsFit c (out_argument l bounds as') b k =
      (m : ModeTree) × IsParameter b.locals b.parameters k (record { passing = Out }) m × ((own : ModeTree) × LocationHas c l own × VEquivalent own m × (bounds_of own ≡ bounds)) × ArgumentsFit c as' b (suc k)
  ArgumentsFit c (inout_argument l taken bounds as') b k =
      (m : ModeTree) × IsParameter b.locals b.parameters k (record { passing = InOut }) m × (bounds_of m ≡ taken) × ((own : ModeTree) × LocationHas c l own × VEquivalent own m × (bounds_of own ≡ bounds)) × ArgumentsFit c as' b (suc k)
