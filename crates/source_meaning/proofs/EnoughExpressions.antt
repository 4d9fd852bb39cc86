-- Expressions and locations come to an outcome, where calls do.
use Rattle.std.proofs.Common.{ℕ, ◌+◌, false, List, [], ◌∷◌, ℤ, Option, Some, None}
use Rattle.std.specs.Prelude.{nat_abs}
use Rattle.kernel_base.specs.declared.request.Request.{Request}
use Rattle.kernel_base.specs.declared.request.Request.TheVariants.{Read, Write, ReceiveBuffer, Start, Get}
use Rattle.modes.specs.declared.mode.Bounds.{Bounds}
use Rattle.checked_program.specs.declared.expr.Binary.{Binary}
use Rattle.scalar_operators.specs.Numbers.{is_between}
use Rattle.program_trees.specs.ExprTree.{ExprTree, expr, OperationTree, constant, own_instance, contents, part_of, receive, start, call, powerset, parts, uniform, routine, get_int, prefixed, binary, ReceivedTree, received, ReceivedNodes, no_received, more_received, PartNodes, no_parts, field, element, RangeNodes, no_ranges, one_member, members, LocationTree, location, StartTree, started, CallTree, called, ArgumentNodes, no_arguments, in_argument, out_argument, inout_argument}
use Rattle.source_meaning.specs.Store.{Address, in_local, in_shared, Taken}
use Rattle.source_meaning.specs.Flow.{Meaning, asked}
use Rattle.source_meaning.specs.Operators.{sole_number, Computed, Yields, Throws, offset_within, binary_value, takes_second, prefix_value, routine_value, with_span, empty_within}
use Rattle.source_meaning.specs.ExprMeaning.{Calls, Setting, as_computed, or_rangefail, tested, asked_value, read_at, assign_at, CopyOut, Passed, takens, copied_out, all_copied_out, call_with, binary_with, expr_mean, operation_mean, received_mean, all_received_mean, offset_mean, location_mean, members_mean, start_mean, call_mean, arguments_mean, place_mean}
use Rattle.source_meaning.proofs.EnoughFlows.{Keeps, then_keeps, if_within, asked_keeps, done_keeps}

-- calls come to an outcome
abbrev pub CallsKeep : ℕ → (List ℕ → Calls) → Type 0
CallsKeep m calls = (now : List ℕ) (k : ℕ) (ts : List Taken) → Keeps m (calls now k ts)

pub computed_keeps : (m : ℕ) (v : Computed) → Keeps m (as_computed v)
computed_keeps m (Yields xs) store s low = low
computed_keeps m (Throws x) store s low = low

pub rangefail_keeps : {A : Type 0} (m : ℕ) (v : Option A) → Keeps m (or_rangefail v)
rangefail_keeps m (Some v) store s low = low
rangefail_keeps m None store s low = low

pub tested_keeps : (m : ℕ) (o : Option Bounds) (xs : List ℤ) → Keeps m (tested o xs)
tested_keeps m None xs store s low = low
tested_keeps m (Some b) xs store s low = if_within m (is_between b.low b.high (sole_number xs)) _ _ low low

pub value_keeps : (m : ℕ) (request : Request) (counts : List ℕ) → Keeps m (asked_value request counts)
value_keeps m request counts store s low = then_keeps m (asked request counts store s) _ (asked_keeps m request counts store s low) (λ answer store' s' low'. low')

pub read_keeps : (m count : ℕ) (address : Address) → Keeps m (read_at count address)
read_keeps m count (in_local i first) store s low = low
read_keeps m count (in_shared l first) store s low = value_keeps m (Read (record { location = l; first = first; count = count })) [] store s low

pub assign_keeps : (m count : ℕ) (address : Address) (xs : List ℤ) → Keeps m (assign_at count address xs)
assign_keeps m count (in_local i first) xs store s low = low
assign_keeps m count (in_shared l first) xs store s low = done_keeps m (Write (record { location = l; first = first; count = count }) xs) store s low

copied_keeps : (m : ℕ) (o : Option CopyOut) (xs : List ℤ) → Keeps m (copied_out o xs)
copied_keeps m None xs store s low = low
copied_keeps m (Some place) xs store s low = then_keeps m (tested place.bounds xs store s) _ (tested_keeps m place.bounds xs store s low) (λ ys. assign_keeps m place.count place.address ys)

all_copied_keep : (m : ℕ) (ps : List Passed) (values : List (List ℤ)) → Keeps m (all_copied_out ps values)
all_copied_keep m [] values store s low = low
all_copied_keep m (a ∷ as') [] store s low = low
all_copied_keep m (a ∷ as') (xs ∷ values) store s low = then_keeps m (copied_out a.copy_out xs store s) _ (copied_keeps m a.copy_out xs store s low) (λ _. all_copied_keep m as' values)

call_keeps : (m : ℕ) (w : Setting) (k : ℕ) (ps : List Passed) → CallsKeep m w.calls → Keeps m (call_with w k ps)
call_keeps m w k ps all store s low =
    then_keeps m (w.calls w.open_now k (takens ps) store s) _ (all w.open_now k (takens ps) store s low) (λ final store1 s1 low1.
    then_keeps m (all_copied_out ps final.locals store1 s1) _ (all_copied_keep m ps final.locals store1 s1 low1) (λ _ store' s' low'. low'))

pub binary_keeps : (m : ℕ) (o : Binary) (xs : List ℤ) (second : Meaning (List ℤ)) → Keeps m second → Keeps m (binary_with o xs second)
binary_keeps m o xs second is store s low =
    if_within m (takes_second o xs) _ _ (then_keeps m (second store s) _ (is store s low) (λ ys. computed_keeps m (binary_value o xs ys))) low

mutual
  pub expr_keeps : (m : ℕ) (w : Setting) (e : ExprTree) → CallsKeep m w.calls → Keeps m (expr_mean w e)
  expr_keeps m w (expr n own o) all store s low = operation_keeps m w n o all store s low

  operation_keeps : (m : ℕ) (w : Setting) (n : ℕ) (o : OperationTree) → CallsKeep m w.calls → Keeps m (operation_mean w n o)
  operation_keeps m w n (constant xs) all store s low = low
  operation_keeps m w n own_instance all store s low = low
  operation_keeps m w n (contents l) all store s low = then_keeps m (location_mean w l store s) _ (location_keeps m w l all store s low) (λ address. read_keeps m n address)
  operation_keeps m w n (part_of e ps) all store s low =
      then_keeps m (expr_mean w e store s) _ (expr_keeps m w e all store s low) (λ xs store1 s1 low1.
      then_keeps m (offset_mean w ps 0 store1 s1) _ (offset_keeps m w ps 0 all store1 s1 low1) (λ k store' s' low'. low'))
  operation_keeps m w n (receive b) all store s low = value_keeps m (ReceiveBuffer (record { thing = b; number = 0 } ∷ []) false) (n ∷ []) store s low
  operation_keeps m w n (start t) all store s low = start_keeps m w t all store s low
  operation_keeps m w n (call t) all store s low = call_tree_keeps m w t all store s low
  operation_keeps m w n (powerset b rs) all store s low = members_keep m w b rs (empty_within b) all store s low
  operation_keeps m w n (parts rs) all store s low = all_received_keep m w rs all store s low
  operation_keeps m w n (uniform k r) all store s low = then_keeps m (received_mean w r store s) _ (received_keeps m w r all store s low) (λ xs store' s' low'. low')
  operation_keeps m w n (routine r e) all store s low = then_keeps m (expr_mean w e store s) _ (expr_keeps m w e all store s low) (λ xs. computed_keeps m (routine_value r xs))
  operation_keeps m w n get_int all store s low = value_keeps m Get [] store s low
  operation_keeps m w n (prefixed o e) all store s low = then_keeps m (expr_mean w e store s) _ (expr_keeps m w e all store s low) (λ xs. computed_keeps m (prefix_value o xs))
  operation_keeps m w n (binary o e f) all store s low = then_keeps m (expr_mean w e store s) _ (expr_keeps m w e all store s low) (λ xs. binary_keeps m o xs (expr_mean w f) (expr_keeps m w f all))

  pub received_keeps : (m : ℕ) (w : Setting) (r : ReceivedTree) → CallsKeep m w.calls → Keeps m (received_mean w r)
  received_keeps m w (received e b) all store s low = then_keeps m (expr_mean w e store s) _ (expr_keeps m w e all store s low) (λ xs. tested_keeps m b xs)

  pub all_received_keep : (m : ℕ) (w : Setting) (rs : ReceivedNodes) → CallsKeep m w.calls → Keeps m (all_received_mean w rs)
  all_received_keep m w no_received all store s low = low
  all_received_keep m w (more_received r rs) all store s low =
      then_keeps m (received_mean w r store s) _ (received_keeps m w r all store s low) (λ xs store1 s1 low1.
      then_keeps m (all_received_mean w rs store1 s1) _ (all_received_keep m w rs all store1 s1 low1) (λ ys store' s' low'. low'))

  offset_keeps : (m : ℕ) (w : Setting) (ps : PartNodes) (k : ℕ) → CallsKeep m w.calls → Keeps m (offset_mean w ps k)
  offset_keeps m w no_parts k all store s low = low
  offset_keeps m w (field first count ps) k all store s low = offset_keeps m w ps (k + first) all store s low
  offset_keeps m w (element e b count ps) k all store s low =
      then_keeps m (expr_mean w e store s) _ (expr_keeps m w e all store s low) (λ xs store1 s1 low1.
      then_keeps m (or_rangefail (offset_within b count (sole_number xs)) store1 s1) _ (rangefail_keeps m (offset_within b count (sole_number xs)) store1 s1 low1) (λ z. offset_keeps m w ps (k + nat_abs z) all))

  pub location_keeps : (m : ℕ) (w : Setting) (l : LocationTree) → CallsKeep m w.calls → Keeps m (location_mean w l)
  location_keeps m w (location b ps n) all store s low = then_keeps m (offset_mean w ps 0 store s) _ (offset_keeps m w ps 0 all store s low) (λ k store' s' low'. low')

  members_keep : (m : ℕ) (w : Setting) (b : Bounds) (rs : RangeNodes) (set : List ℤ) → CallsKeep m w.calls → Keeps m (members_mean w b rs set)
  members_keep m w b no_ranges set all store s low = low
  members_keep m w b (one_member e rs) set all store s low =
      then_keeps m (expr_mean w e store s) _ (expr_keeps m w e all store s low) (λ xs store1 s1 low1.
      then_keeps m (or_rangefail (offset_within b 1 (sole_number xs)) store1 s1) _ (rangefail_keeps m (offset_within b 1 (sole_number xs)) store1 s1 low1) (λ k. members_keep m w b rs (with_span b k k set) all))
  members_keep m w b (members e f rs) set all store s low =
      then_keeps m (expr_mean w e store s) _ (expr_keeps m w e all store s low) (λ xs store1 s1 low1.
      then_keeps m (or_rangefail (offset_within b 1 (sole_number xs)) store1 s1) _ (rangefail_keeps m (offset_within b 1 (sole_number xs)) store1 s1 low1) (λ j store2 s2 low2.
      then_keeps m (expr_mean w f store2 s2) _ (expr_keeps m w f all store2 s2 low2) (λ ys store3 s3 low3.
      then_keeps m (or_rangefail (offset_within b 1 (sole_number ys)) store3 s3) _ (rangefail_keeps m (offset_within b 1 (sole_number ys)) store3 s3 low3) (λ k. members_keep m w b rs (with_span b j k set) all))))

  pub start_keeps : (m : ℕ) (w : Setting) (t : StartTree) → CallsKeep m w.calls → Keeps m (start_mean w t)
  start_keeps m w (started k rs) all store s low = then_keeps m (all_received_mean w rs store s) _ (all_received_keep m w rs all store s low) (λ xs. value_keeps m (Start k xs) [])

  pub call_tree_keeps : (m : ℕ) (w : Setting) (t : CallTree) → CallsKeep m w.calls → Keeps m (call_mean w t)
  call_tree_keeps m w (called k as') all store s low = then_keeps m (arguments_mean w as' store s) _ (arguments_keep m w as' all store s low) (λ ps. call_keeps m w k ps all)

  arguments_keep : (m : ℕ) (w : Setting) (as' : ArgumentNodes) → CallsKeep m w.calls → Keeps m (arguments_mean w as')
  arguments_keep m w no_arguments all store s low = low
  arguments_keep m w (in_argument r as') all store s low =
      then_keeps m (received_mean w r store s) _ (received_keeps m w r all store s low) (λ xs store1 s1 low1.
      then_keeps m (arguments_mean w as' store1 s1) _ (arguments_keep m w as' all store1 s1 low1) (λ ps store' s' low'. low'))
  arguments_keep m w (out_argument l b as') all store s low =
      then_keeps m (place_mean w l b store s) _ (place_keeps m w l b all store s low) (λ place store1 s1 low1.
      then_keeps m (arguments_mean w as' store1 s1) _ (arguments_keep m w as' all store1 s1 low1) (λ ps store' s' low'. low'))
  arguments_keep m w (inout_argument l t b as') all store s low =
      then_keeps m (place_mean w l b store s) _ (place_keeps m w l b all store s low) (λ place store1 s1 low1.
      then_keeps m (read_at place.count place.address store1 s1) _ (read_keeps m place.count place.address store1 s1 low1) (λ xs store2 s2 low2.
      then_keeps m (tested t xs store2 s2) _ (tested_keeps m t xs store2 s2 low2) (λ ys store3 s3 low3.
      then_keeps m (arguments_mean w as' store3 s3) _ (arguments_keep m w as' all store3 s3 low3) (λ ps store' s' low'. low'))))

  place_keeps : (m : ℕ) (w : Setting) (l : LocationTree) (b : Option Bounds) → CallsKeep m w.calls → Keeps m (place_mean w l b)
  place_keeps m w (location a ps n) b all store s low = then_keeps m (offset_mean w ps 0 store s) _ (offset_keeps m w ps 0 all store s low) (λ k store' s' low'. low')
