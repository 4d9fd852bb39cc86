-- What expressions and locations mean.
use Rattle.std.specs.Prelude.{ℕ, ◌+◌, false, List, [], ◌∷◌, ◌++◌, ℤ, pos, nat_abs, Option, Some, None, if◌then◌else◌}
use Rattle.kernel_base.specs.declared.ends.Exc.TheVariants.{Rangefail}
use Rattle.kernel_base.specs.declared.request.Request.{Request}
use Rattle.kernel_base.specs.declared.request.Request.TheVariants.{Read, Write, ReceiveBuffer, Start, Get}
use Rattle.kernel_base.specs.declared.answer.Answer.{Answer}
use Rattle.kernel_base.specs.declared.answer.Answer.TheVariants.{Value, Got, Instance}
use Rattle.modes.specs.declared.mode.Bounds.{Bounds}
use Rattle.modes.specs.Scalars.{repeated}
use Rattle.checked_program.specs.declared.expr.Binary.{Binary}
use Rattle.world_model.specs.Lists.{scalars_at}
use Rattle.world_model.specs.Session.{Session}
use Rattle.scalar_operators.specs.Numbers.{is_between}
use Rattle.program_trees.specs.ProgramTree.{LocalRowTree}
use Rattle.program_trees.specs.ExprTree.{ExprTree, expr, OperationTree, constant, own_instance, contents, part_of, receive, start, call, powerset, parts, uniform, routine, get_int, prefixed, binary, ReceivedTree, received, ReceivedNodes, no_received, more_received, PartNodes, no_parts, field, element, RangeNodes, no_ranges, one_member, members, LocationTree, location, StartTree, started, CallTree, called, ArgumentNodes, no_arguments, in_argument, out_argument, inout_argument}
use Rattle.source_meaning.specs.Store.{Store, local_value, with_part, Address, in_local, in_shared, address_of, Taken, brings, lowest}
use Rattle.source_meaning.specs.Flow.{Goes, Raised, Meaning, then_do, asked, done}
use Rattle.source_meaning.specs.Operators.{sole_number, one, Computed, Yields, Throws, offset_within, empty_within, with_span, binary_value, takes_second, prefix_value, routine_value}

-- what a call of each body means, with what its parameters begin with: it gives the store at its end
abbrev pub Calls : Type 0
Calls = ℕ → List Taken → Meaning Store

-- where a part of a text stands: the own instance, the rows of the body's locals, the regions that are open, and what calls
-- mean where these regions are open
pub record Setting : Type 0 where
  pub instance : ℕ
  pub rows : List LocalRowTree
  pub open_now : List ℕ
  pub calls : List ℕ → Calls

-- a value, or an exception
abbrev pub as_computed : Computed → Meaning (List ℤ)
as_computed (Yields xs) store s = Goes xs store s
as_computed (Throws x) store s = Raised x store s

abbrev pub or_rangefail : {A : Type 0} → Option A → Meaning A
or_rangefail (Some v) store s = Goes v store s
or_rangefail None store s = Raised Rangefail store s

-- The value within the bounds of what takes it, or RANGEFAIL. Only what has a discrete mode has bounds; the parts of a
-- composite value lie in their modes, since these are the same.
abbrev pub tested : Option Bounds → List ℤ → Meaning (List ℤ)
tested None xs store s = Goes xs store s
tested (Some b) xs store s = if is_between b.low b.high (sole_number xs) then Goes xs store s else Raised Rangefail store s

-- the scalars that an answer brings, and an instance; no other answer comes to a request for a value
abbrev pub brought_by : Answer → List ℤ
brought_by (Value xs) = xs
brought_by (Got alternative send xs by) = xs
brought_by (Instance i) = one (pos i)
brought_by answer = []

-- a request that gives a value
abbrev pub asked_value : Request → List ℕ → Meaning (List ℤ)
asked_value request counts store s = then_do (asked request counts store s) (λ answer. Goes (brought_by answer))

-- the contents of a location, and the assignment to one
abbrev pub read_at : ℕ → Address → Meaning (List ℤ)
read_at count (in_local i first) store s = Goes (scalars_at (local_value store i) first count) store s
read_at count (in_shared l first) store s = asked_value (Read (record { location = l; first = first; count = count })) [] store s

abbrev pub assign_at : ℕ → Address → List ℤ → Meaning (Unit {0})
assign_at count (in_local i first) xs store s = Goes tt (with_part store i first xs) s
assign_at count (in_shared l first) xs store s = done (Write (record { location = l; first = first; count = count }) xs) store s

-- an argument whose parts are evaluated: what its parameter begins with, and where the parameter is copied out to
pub record CopyOut : Type 0 where
  pub address : Address
  pub count : ℕ
  pub bounds : Option Bounds

pub record Passed : Type 0 where
  pub begins : Taken
  pub copy_out : Option CopyOut

abbrev pub takens : List Passed → List Taken
takens [] = []
takens (p ∷ ps) = p.begins ∷ takens ps

-- the parameter of an argument is copied out, once it is tested
abbrev pub copied_out : Option CopyOut → List ℤ → Meaning (Unit {0})
copied_out None xs store s = Goes tt store s
copied_out (Some b) xs store s = then_do (tested b.bounds xs store s) (assign_at b.count b.address)

-- OUT and INOUT parameters are copied out in order, whose values at the end are these; each has one, since the parameters
-- are the first locals
abbrev pub all_copied_out : List Passed → List (List ℤ) → Meaning (Unit {0})
all_copied_out [] values store s = Goes tt store s
all_copied_out (p ∷ ps) [] store s = Goes tt store s
all_copied_out (p ∷ ps) (xs ∷ values) store s = then_do (copied_out p.copy_out xs store s) (λ _. all_copied_out ps values)

-- a call whose arguments are evaluated: the result
abbrev pub call_with : Setting → ℕ → List Passed → Meaning (List ℤ)
call_with w b ps store s =
    then_do (w.calls w.open_now b (takens ps) store s) (λ final store1 s1.
    then_do (all_copied_out ps final.locals store1 s1) (λ _. Goes final.result))

-- an operator whose first operand has this value, with what its second means
abbrev pub binary_with : Binary → List ℤ → Meaning (List ℤ) → Meaning (List ℤ)
binary_with o xs second store s =
    if takes_second o xs
    then then_do (second store s) (λ ys. as_computed (binary_value o xs ys))
    else Goes xs store s

abbrev mutual
  -- the value of an expression
  pub expr_mean : Setting → ExprTree → Meaning (List ℤ)
  expr_mean w (expr n own o) store s = operation_mean w n o store s

  pub operation_mean : Setting → ℕ → OperationTree → Meaning (List ℤ)
  operation_mean w n (constant xs) store s = Goes xs store s
  operation_mean w n own_instance store s = Goes (one (pos w.instance)) store s
  operation_mean w n (contents l) store s = then_do (location_mean w l store s) (read_at n)
  operation_mean w n (part_of e ps) store s =
      then_do (expr_mean w e store s) (λ xs store1 s1.
      then_do (offset_mean w ps 0 store1 s1) (λ k. Goes (scalars_at xs k n)))
  operation_mean w n (receive b) store s = asked_value (ReceiveBuffer (record { thing = b; number = 0 } ∷ []) false) (n ∷ []) store s
  operation_mean w n (start t) store s = start_mean w t store s
  operation_mean w n (call c) store s = call_mean w c store s
  operation_mean w n (powerset b rs) store s = members_mean w b rs (empty_within b) store s
  operation_mean w n (parts rs) store s = all_received_mean w rs store s
  operation_mean w n (uniform m r) store s = then_do (received_mean w r store s) (λ xs. Goes (repeated m xs))
  operation_mean w n (routine r e) store s = then_do (expr_mean w e store s) (λ xs. as_computed (routine_value r xs))
  operation_mean w n get_int store s = asked_value Get [] store s
  operation_mean w n (prefixed o e) store s = then_do (expr_mean w e store s) (λ xs. as_computed (prefix_value o xs))
  operation_mean w n (binary o a b) store s = then_do (expr_mean w a store s) (λ xs. binary_with o xs (expr_mean w b))

  -- a value that something takes
  pub received_mean : Setting → ReceivedTree → Meaning (List ℤ)
  received_mean w (received e b) store s = then_do (expr_mean w e store s) (tested b)

  -- values that are taken one after another, joined
  pub all_received_mean : Setting → ReceivedNodes → Meaning (List ℤ)
  all_received_mean w no_received store s = Goes [] store s
  all_received_mean w (more_received r rs) store s =
      then_do (received_mean w r store s) (λ xs store1 s1.
      then_do (all_received_mean w rs store1 s1) (λ ys. Goes (xs ++ ys)))

  -- the offset that parts lead to, from this one on; an index outside its bounds is RANGEFAIL directly behind it
  pub offset_mean : Setting → PartNodes → ℕ → Meaning ℕ
  offset_mean w no_parts k store s = Goes k store s
  offset_mean w (field first count ps) k store s = offset_mean w ps (k + first) store s
  offset_mean w (element e b count ps) k store s =
      then_do (expr_mean w e store s) (λ xs store1 s1.
      then_do (or_rangefail (offset_within b count (sole_number xs)) store1 s1) (λ z. offset_mean w ps (k + nat_abs z)))

  -- where a location lies
  pub location_mean : Setting → LocationTree → Meaning Address
  location_mean w (location b ps n) store s = then_do (offset_mean w ps 0 store s) (λ k. Goes (address_of b k))

  -- the powerset of these members and of those of another
  pub members_mean : Setting → Bounds → RangeNodes → List ℤ → Meaning (List ℤ)
  members_mean w b no_ranges set store s = Goes set store s
  members_mean w b (one_member e rs) set store s =
      then_do (expr_mean w e store s) (λ xs store1 s1.
      then_do (or_rangefail (offset_within b 1 (sole_number xs)) store1 s1) (λ k. members_mean w b rs (with_span b k k set)))
  members_mean w b (members e f rs) set store s =
      then_do (expr_mean w e store s) (λ xs store1 s1.
      then_do (or_rangefail (offset_within b 1 (sole_number xs)) store1 s1) (λ j store2 s2.
      then_do (expr_mean w f store2 s2) (λ ys store3 s3.
      then_do (or_rangefail (offset_within b 1 (sole_number ys)) store3 s3) (λ k. members_mean w b rs (with_span b j k set)))))

  -- a process is started, whose instance this gives
  pub start_mean : Setting → StartTree → Meaning (List ℤ)
  start_mean w (started p rs) store s = then_do (all_received_mean w rs store s) (λ xs. asked_value (Start p xs) [])

  -- a call: arguments and places, the call, and what is copied out; this gives the result
  pub call_mean : Setting → CallTree → Meaning (List ℤ)
  call_mean w (called b as') store s = then_do (arguments_mean w as' store s) (call_with w b)

  pub arguments_mean : Setting → ArgumentNodes → Meaning (List Passed)
  arguments_mean w no_arguments store s = Goes [] store s
  arguments_mean w (in_argument r as') store s =
      then_do (received_mean w r store s) (λ xs store1 s1.
      then_do (arguments_mean w as' store1 s1) (λ ps. Goes (record { begins = brings xs; copy_out = None } ∷ ps)))
  arguments_mean w (out_argument l b as') store s =
      then_do (place_mean w l b store s) (λ place store1 s1.
      then_do (arguments_mean w as' store1 s1) (λ ps. Goes (record { begins = lowest; copy_out = Some place } ∷ ps)))
  arguments_mean w (inout_argument l t b as') store s =
      then_do (place_mean w l b store s) (λ place store1 s1.
      then_do (read_at place.count place.address store1 s1) (λ xs store2 s2.
      then_do (tested t xs store2 s2) (λ ys store3 s3.
      then_do (arguments_mean w as' store3 s3) (λ ps. Goes (record { begins = brings ys; copy_out = Some place } ∷ ps)))))

  -- the place of an OUT or INOUT argument
  pub place_mean : Setting → LocationTree → Option Bounds → Meaning CopyOut
  place_mean w (location b ps n) bounds store s = then_do (offset_mean w ps 0 store s) (λ k. Goes (record { address = address_of b k; count = n; bounds = bounds }))
