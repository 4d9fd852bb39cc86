-- How many instructions each expression has: what the targets of jumps are found from.
use Rattle.std.specs.Prelude.{ℕ, ◌+◌, Bool, true, false, not, pos, length, Option, Some, None, if◌then◌else◌}
use Rattle.checked_program.specs.declared.expr.Prefix.{Prefix}
use Rattle.checked_program.specs.declared.expr.Prefix.TheVariants.{Minus, Not, Complement}
use Rattle.modes.specs.declared.mode.Bounds.{Bounds}
use Rattle.program_trees.specs.ExprTree.{ExprTree, expr, OperationTree, constant, own_instance, contents, part_of, receive, start, call, powerset, parts, uniform, routine, get_int, prefixed, binary, ReceivedTree, received, ReceivedNodes, no_received, more_received, PartNodes, no_parts, field, element, RangeNodes, no_ranges, one_member, members, LocationTree, location, StartTree, started, CallTree, called, ArgumentNodes, no_arguments, in_argument, out_argument, inout_argument}
use Rattle.code_scheme.specs.Pieces.{scalars_code, copies_code, check_code, tested, tested_in, tested_out, tested_back, bounds_of_value, member_code, between_size, behind_size, routine_code, branch_size, decided_by, straight, turned, has_index, first_of_parts, needs_offset, has_offset, offsets_kept}

-- offsets behind the first are added
abbrev pub sum_size : Bool → ℕ
sum_size is_first = if is_first then 0 else 1

-- what copies out a parameter
abbrev pub copy_out_size : LocationTree → Option Bounds → ℕ
copy_out_size l bounds = length (check_code bounds) + ((if has_offset l then 3 else 0) + 1)

abbrev pub copies_out_size : ArgumentNodes → ℕ
copies_out_size no_arguments = 0
copies_out_size (in_argument r as') = copies_out_size as'
copies_out_size (out_argument l bounds as') = copy_out_size l (tested_out bounds) + copies_out_size as'
copies_out_size (inout_argument l taken bounds as') = copy_out_size l (tested_back taken bounds) + copies_out_size as'

abbrev mutual
  pub expr_size : ExprTree → ℕ
  expr_size (expr n own o) = operation_size o

  pub operation_size : OperationTree → ℕ
  operation_size (constant xs) = length (scalars_code xs)
  operation_size own_instance = 1
  operation_size (contents l) = place_size l + 1
  operation_size (part_of e ps) = expr_size e + ((if has_index ps then indices_size true ps + length (member_code (pos (first_of_parts ps))) else 0) + 1)
  operation_size (receive b) = 6
  operation_size (start t) = start_size t
  operation_size (call c) = call_size c
  operation_size (powerset b rs) = 1 + members_size rs
  operation_size (parts rs) = received_sizes rs
  operation_size (uniform m r) = received_size r + length (copies_code m 0)
  operation_size (routine r e) = expr_size e + length (routine_code r)
  operation_size get_int = 1
  operation_size (prefixed o e) = expr_size e + 1
  operation_size (binary o a b) = expr_size a + (between_size o (bounds_of_value a) + (expr_size b + behind_size o))

  -- a location's place
  pub place_size : LocationTree → ℕ
  place_size (location b ps n) = if has_index ps then indices_size true ps else if needs_offset b ps then 1 else 0

  -- the indices among the parts, of which the first one isn't added
  pub indices_size : Bool → PartNodes → ℕ
  indices_size is_first no_parts = 0
  indices_size is_first (field first count ps) = indices_size is_first ps
  indices_size is_first (element e b count ps) = expr_size e + (1 + (sum_size is_first + indices_size false ps))

  pub received_size : ReceivedTree → ℕ
  received_size (received e b) = expr_size e + length (check_code (tested (received e b)))

  pub received_sizes : ReceivedNodes → ℕ
  received_sizes no_received = 0
  received_sizes (more_received r rs) = received_size r + received_sizes rs

  pub members_size : RangeNodes → ℕ
  members_size no_ranges = 0
  members_size (one_member e rs) = expr_size e + (4 + members_size rs)
  members_size (members e f rs) = expr_size e + (1 + (expr_size f + (3 + members_size rs)))

  pub start_size : StartTree → ℕ
  start_size (started p rs) = received_sizes rs + 1

  pub call_size : CallTree → ℕ
  call_size (called b as') = arguments_size as' + (1 + copies_out_size as')

  -- the arguments of a call, before it
  pub arguments_size : ArgumentNodes → ℕ
  arguments_size no_arguments = 0
  arguments_size (in_argument r as') = received_size r + arguments_size as'
  arguments_size (out_argument (location b ps n) bounds as') = (place_size (location b ps n) + (offsets_kept (location b ps n) + n)) + arguments_size as'
  arguments_size (inout_argument l taken bounds as') =
      (place_size l + (offsets_kept l + (offsets_kept l + (1 + length (check_code (tested_in taken bounds)))))) + arguments_size as'

-- ---- conditions that jump where they have a value

abbrev pub is_not : Prefix → Bool
is_not Minus = false
is_not Not = true
is_not (Complement m) = false

-- where one value of a first operand decides the whole, by that value
abbrev pub by_decided : {A : Type 0} → Option Bool → (Bool → A) → A → A
by_decided (Some value) decided compared = decided value
by_decided None decided compared = compared

abbrev mutual
  pub condition_size : ExprTree → Bool → ℕ
  condition_size (expr n own o) when = operation_condition_size o when

  pub operation_condition_size : OperationTree → Bool → ℕ
  operation_condition_size (prefixed o e) when = if is_not o then condition_size e (not when) else (expr_size e + 1) + branch_size when
  operation_condition_size (binary o a b) when =
      by_decided (decided_by o)
      (λ value. condition_size a value + condition_size b when)
      (expr_size a + (between_size o (bounds_of_value a) + (expr_size b + (behind_size (straight o) + branch_size (turned o when)))))
  operation_condition_size o when = operation_size o + branch_size when
