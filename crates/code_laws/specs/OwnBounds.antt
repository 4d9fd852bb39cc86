-- Whether each value of an expression, along what it does, lies in its own bounds: those in which it lies by what it is. Compiled
-- code leaves out the tests of values whose own bounds lie in those of what takes them.
use Rattle.std.specs.Prelude.{ℕ, Bool, true, ◌&&◌, List, [], ◌∷◌, ℤ, Option, Some, None, if◌then◌else◌}
use Rattle.world_model.specs.Session.{Session}
use Rattle.modes.specs.declared.mode.Bounds.{Bounds}
use Rattle.modes.specs.ModeTree.{int}
use Rattle.modes.specs.Bounds.{bounds_of}
use Rattle.scalar_operators.specs.Numbers.{is_between}
use Rattle.program_trees.specs.ExprTree.{ExprTree, expr, OperationTree, constant, own_instance, contents, part_of, receive, start, call, powerset, parts, uniform, routine, get_int, prefixed, binary, ReceivedTree, received, ReceivedNodes, no_received, more_received, PartNodes, no_parts, field, element, RangeNodes, no_ranges, one_member, members, LocationTree, location, StartTree, started, CallTree, called, ArgumentNodes, no_arguments, in_argument, out_argument, inout_argument}
use Rattle.source_meaning.specs.Store.{Store, Taken}
use Rattle.source_meaning.specs.Flow.{Flow, Goes}
use Rattle.source_meaning.specs.Operators.{sole_number, offset_within, takes_second}
use Rattle.source_meaning.specs.ExprMeaning.{Setting, or_rangefail, tested, read_at, takens, expr_mean, operation_mean, received_mean, arguments_mean, place_mean}
use Rattle.code_scheme.specs.Pieces.{bounds_of_value}

-- where a part goes through, whether this holds of its value
abbrev pub where_goes : {A : Type 0} → Flow A → (A → Store → Session → Bool) → Bool
where_goes (Goes v store s) holds = holds v store s
where_goes o holds = true

-- a number within bounds, where there are some
abbrev pub lies_in : Option Bounds → List ℤ → Bool
lies_in None xs = true
lies_in (Some b) xs = is_between b.low b.high (sole_number xs)

-- the same of what is tested
abbrev pub lies_where : Option Bounds → Option Bounds → List ℤ → Bool
lies_where None own xs = true
lies_where (Some b) own xs = lies_in own xs

-- whether what a call does keeps within, with what its parameters begin with
abbrev pub CallsWithin : Type 0
CallsWithin = ℕ → List Taken → Session → Bool

-- The parameters that are copied out, with these values at the end of a call: an OUT parameter's lies in INT, an INOUT parameter's
-- in its own bounds.
abbrev pub copies_within : ArgumentNodes → List (List ℤ) → Bool
copies_within no_arguments values = true
copies_within (in_argument r as') [] = true
copies_within (in_argument r as') (xs ∷ values) = copies_within as' values
copies_within (out_argument l bounds as') [] = true
copies_within (out_argument l bounds as') (xs ∷ values) = lies_where bounds (bounds_of int) xs && copies_within as' values
copies_within (inout_argument l taken bounds as') [] = true
copies_within (inout_argument l taken bounds as') (xs ∷ values) = lies_where bounds taken xs && copies_within as' values

abbrev mutual
  pub expr_within : Setting → CallsWithin → ExprTree → Store → Session → Bool
  expr_within v c (expr n own o) store s = operation_within v c n o store s && where_goes (operation_mean v n o store s) (λ xs store1 s1. lies_in (bounds_of_value (expr n own o)) xs)

  pub operation_within : Setting → CallsWithin → ℕ → OperationTree → Store → Session → Bool
  operation_within v c n (constant xs) store s = true
  operation_within v c n own_instance store s = true
  operation_within v c n (contents l) store s = location_within v c l store s
  operation_within v c n (part_of e ps) store s = expr_within v c e store s && where_goes (expr_mean v e store s) (λ xs store1 s1. parts_within v c ps store1 s1)
  operation_within v c n (receive b) store s = true
  operation_within v c n (start t) store s = start_within v c t store s
  operation_within v c n (call t) store s = call_within v c t store s
  operation_within v c n (powerset b rs) store s = members_within v c b rs store s
  operation_within v c n (parts rs) store s = all_within v c rs store s
  operation_within v c n (uniform m r) store s = received_within v c r store s
  operation_within v c n (routine r e) store s = expr_within v c e store s
  operation_within v c n get_int store s = true
  operation_within v c n (prefixed o e) store s = expr_within v c e store s
  operation_within v c n (binary o a b) store s = expr_within v c a store s && where_goes (expr_mean v a store s) (λ xs store1 s1. if takes_second o xs then expr_within v c b store1 s1 else true)

  pub received_within : Setting → CallsWithin → ReceivedTree → Store → Session → Bool
  received_within v c (received e b) store s = expr_within v c e store s

  pub all_within : Setting → CallsWithin → ReceivedNodes → Store → Session → Bool
  all_within v c no_received store s = true
  all_within v c (more_received r rs) store s = received_within v c r store s && where_goes (received_mean v r store s) (λ xs store1 s1. all_within v c rs store1 s1)

  pub parts_within : Setting → CallsWithin → PartNodes → Store → Session → Bool
  parts_within v c no_parts store s = true
  parts_within v c (field first count ps) store s = parts_within v c ps store s
  parts_within v c (element e b count ps) store s =
      expr_within v c e store s && where_goes (expr_mean v e store s) (λ xs store1 s1.
      where_goes (or_rangefail (offset_within b count (sole_number xs)) store1 s1) (λ z store2 s2. parts_within v c ps store2 s2))

  pub location_within : Setting → CallsWithin → LocationTree → Store → Session → Bool
  location_within v c (location b ps n) store s = parts_within v c ps store s

  pub members_within : Setting → CallsWithin → Bounds → RangeNodes → Store → Session → Bool
  members_within v c b no_ranges store s = true
  members_within v c b (one_member e rs) store s =
      expr_within v c e store s && where_goes (expr_mean v e store s) (λ xs store1 s1.
      where_goes (or_rangefail (offset_within b 1 (sole_number xs)) store1 s1) (λ z store2 s2. members_within v c b rs store2 s2))
  members_within v c b (members e f rs) store s =
      expr_within v c e store s && where_goes (expr_mean v e store s) (λ xs store1 s1.
      where_goes (or_rangefail (offset_within b 1 (sole_number xs)) store1 s1) (λ j store2 s2.
      expr_within v c f store2 s2 && where_goes (expr_mean v f store2 s2) (λ ys store3 s3.
      where_goes (or_rangefail (offset_within b 1 (sole_number ys)) store3 s3) (λ k store4 s4. members_within v c b rs store4 s4))))

  pub start_within : Setting → CallsWithin → StartTree → Store → Session → Bool
  start_within v c (started p rs) store s = all_within v c rs store s

  pub call_within : Setting → CallsWithin → CallTree → Store → Session → Bool
  call_within v c (called b as') store s =
      arguments_within v c as' store s && where_goes (arguments_mean v as' store s) (λ ps store1 s1.
      c b (takens ps) s1 && where_goes (v.calls v.open_now b (takens ps) store1 s1) (λ final store2 s2. copies_within as' final.locals))

  pub arguments_within : Setting → CallsWithin → ArgumentNodes → Store → Session → Bool
  arguments_within v c no_arguments store s = true
  arguments_within v c (in_argument r as') store s = received_within v c r store s && where_goes (received_mean v r store s) (λ xs store1 s1. arguments_within v c as' store1 s1)
  arguments_within v c (out_argument l b as') store s = location_within v c l store s && where_goes (place_mean v l b store s) (λ place store1 s1. arguments_within v c as' store1 s1)
  arguments_within v c (inout_argument l t b as') store s =
      location_within v c l store s && where_goes (place_mean v l b store s) (λ place store1 s1.
      where_goes (read_at place.count place.address store1 s1) (λ xs store2 s2.
      lies_where t b xs && where_goes (tested t xs store2 s2) (λ ys store3 s3. arguments_within v c as' store3 s3)))
