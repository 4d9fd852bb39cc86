-- The instructions of each expression: where it stands, the first free scratch local, and the place of the first instruction.
use Rattle.std.specs.Prelude.{ℕ, ◌+◌, Bool, true, false, not, List, [], ◌∷◌, ◌++◌, pos, length, slice_get, if◌then◌else◌}
use Rattle.code_types.specs.declared.instr.Instr.{Instr}
use Rattle.code_types.specs.declared.instr.Instr.TheVariants as i
use Rattle.modes.specs.declared.mode.Bounds.{Bounds}
use Rattle.program_trees.specs.ExprTree.{ExprTree, expr, OperationTree, constant, own_instance, contents, part_of, receive, start, call, powerset, parts, uniform, routine, get_int, prefixed, binary, ReceivedTree, received, ReceivedNodes, no_received, more_received, PartNodes, no_parts, field, element, RangeNodes, no_ranges, one_member, members, LocationTree, location, StartTree, started, CallTree, called, ArgumentNodes, no_arguments, in_argument, out_argument, inout_argument, count_of, received_count}
use Rattle.program_trees.specs.ProgramTree.{LocalRowTree}
use Rattle.code_scheme.specs.Pieces.{Layout, pushes, scalars_code, copies_code, check_code, tested, tested_in, bounds_of_value, member_code, between_code, between_size, behind_code, behind_size, prefix_code, routine_code, branch_code, decided_by, straight, turned, has_index, first_of_parts, needs_offset, contents_code, offsets_kept, keep_code, kept_code, copies_out, kept_behind, lowest_as, rows_of}
use Rattle.code_scheme.specs.ExprSizes.{expr_size, operation_size, place_size, received_size, sum_size, is_not, by_decided, condition_size}

-- how many scalars values have together
abbrev pub counts_of : ReceivedNodes → ℕ
counts_of no_received = 0
counts_of (more_received r rs) = received_count r + counts_of rs

-- the sum of the offset on top and the one below it, which there isn't where the offset is the first
abbrev pub sum_code : Bool → List Instr
sum_code is_first = if is_first then [] else i.Add ∷ []

-- the part of the value on top, behind its indices
abbrev pub cut_code : PartNodes → ℕ → ℕ → List Instr
cut_code ps n of =
    if has_index ps
    then member_code (pos (first_of_parts ps)) ++ i.PartAt n of ∷ []
    else i.Part (first_of_parts ps) n of ∷ []

-- a value that is received from a buffer
abbrev pub receive_code : ℕ → ℕ → ℕ → List Instr
receive_code b n free = i.Thing b ∷ i.Push (pos free) ∷ i.Push (pos n) ∷ i.Take 1 false ∷ i.Pop 2 ∷ i.Local free n ∷ []

abbrev pub member_offset : Bounds → Instr
member_offset b = i.Index b.low b.high 1

abbrev mutual
  pub expr_code : Layout → ℕ → ExprTree → ℕ → List Instr
  expr_code lay free (expr n own o) at = operation_code lay free n o at

  pub operation_code : Layout → ℕ → ℕ → OperationTree → ℕ → List Instr
  operation_code lay free n (constant xs) at = scalars_code xs
  operation_code lay free n own_instance at = i.This ∷ []
  operation_code lay free n (contents l) at = place_code lay free l at ++ contents_code lay l
  operation_code lay free n (part_of e ps) at =
      expr_code lay free e at ++ (indices_code lay free true ps (at + expr_size e) ++ cut_code ps n (count_of e))
  operation_code lay free n (receive b) at = receive_code b n free
  operation_code lay free n (start t) at = start_code lay free t at
  operation_code lay free n (call c) at = call_code lay free c at
  operation_code lay free n (powerset b rs) at = i.Push (pos 0) ∷ members_code lay free b rs (at + 1)
  operation_code lay free n (parts rs) at = received_codes lay free rs at
  operation_code lay free n (uniform m r) at = received_code lay free r at ++ copies_code m (received_count r)
  operation_code lay free n (routine r e) at = expr_code lay free e at ++ routine_code r
  operation_code lay free n get_int at = i.GetInt ∷ []
  operation_code lay free n (prefixed o e) at = expr_code lay free e at ++ prefix_code o
  operation_code lay free n (binary o a b) at =
      expr_code lay free a at ++
      (between_code o (bounds_of_value a) (at + expr_size a) (expr_size b) ++
      (expr_code lay free b (at + expr_size a + between_size o (bounds_of_value a)) ++ behind_code o (count_of a)))

  -- a location's place
  pub place_code : Layout → ℕ → LocationTree → ℕ → List Instr
  place_code lay free (location b ps n) at =
      if has_index ps then indices_code lay free true ps at else if needs_offset b ps then i.Push (pos 0) ∷ [] else []

  -- the offset to which the indices among the parts lead
  pub indices_code : Layout → ℕ → Bool → PartNodes → ℕ → List Instr
  indices_code lay free is_first no_parts at = []
  indices_code lay free is_first (field first count ps) at = indices_code lay free is_first ps at
  indices_code lay free is_first (element e b count ps) at =
      expr_code lay free e at ++
      (i.Index b.low b.high count ∷ (sum_code is_first ++ indices_code lay free false ps (at + expr_size e + (1 + sum_size is_first))))

  -- a value that something takes, with its test
  pub received_code : Layout → ℕ → ReceivedTree → ℕ → List Instr
  received_code lay free (received e b) at = expr_code lay free e at ++ check_code (tested (received e b))

  pub received_codes : Layout → ℕ → ReceivedNodes → ℕ → List Instr
  received_codes lay free no_received at = []
  received_codes lay free (more_received r rs) at = received_code lay free r at ++ received_codes lay free rs (at + received_size r)

  -- the members of a powerset
  pub members_code : Layout → ℕ → Bounds → RangeNodes → ℕ → List Instr
  members_code lay free b no_ranges at = []
  members_code lay free b (one_member e rs) at =
      expr_code lay free e at ++ (member_offset b ∷ i.Copy 1 ∷ i.Span ∷ i.BitOr ∷ members_code lay free b rs (at + expr_size e + 4))
  members_code lay free b (members e f rs) at =
      expr_code lay free e at ++ (member_offset b ∷ (expr_code lay free f (at + expr_size e + 1) ++
      (member_offset b ∷ i.Span ∷ i.BitOr ∷ members_code lay free b rs (at + expr_size e + 1 + expr_size f + 3))))

  pub start_code : Layout → ℕ → StartTree → ℕ → List Instr
  start_code lay free (started p rs) at = received_codes lay free rs at ++ i.Start p (counts_of rs) ∷ []

  -- The places of OUT and INOUT arguments that have an offset are kept in scratch locals, one behind the other.
  pub call_code : Layout → ℕ → CallTree → ℕ → List Instr
  call_code lay free (called b as') at =
      arguments_code lay (rows_of (slice_get lay.program.bodies b)) 0 free as' at ++
      (i.Call b ∷ copies_out lay as' free (kept_behind as' free))

  -- arguments for the parameters of a procedure with these locals, from number k on
  pub arguments_code : Layout → List LocalRowTree → ℕ → ℕ → ArgumentNodes → ℕ → List Instr
  arguments_code lay rows k kept no_arguments at = []
  arguments_code lay rows k kept (in_argument r as') at =
      received_code lay kept r at ++ arguments_code lay rows (k + 1) kept as' (at + received_size r)
  arguments_code lay rows k kept (out_argument (location b ps n) bounds as') at =
      (place_code lay kept (location b ps n) at ++ (keep_code (location b ps n) kept ++ pushes (lowest_as n (slice_get rows k)))) ++
      arguments_code lay rows (k + 1) (kept + offsets_kept (location b ps n)) as' (at + (place_size (location b ps n) + (offsets_kept (location b ps n) + n)))
  arguments_code lay rows k kept (inout_argument l taken bounds as') at =
      (place_code lay kept l at ++
      (keep_code l kept ++ (kept_code l kept ++ (contents_code lay l ++ check_code (tested_in taken bounds))))) ++
      arguments_code lay rows (k + 1) (kept + offsets_kept l) as'
      (at + (place_size l + (offsets_kept l + (offsets_kept l + (1 + length (check_code (tested_in taken bounds)))))))

-- ---- conditions: control goes to the target where the condition has this value, else on

-- where control goes by the first of two conditions, of which one value decides the whole: to the target or behind both
abbrev pub first_target : Bool → Bool → ℕ → ℕ → ℕ
first_target value when target behind = if (if value then when else not when) then target else behind

abbrev mutual
  pub condition_code : Layout → ℕ → ExprTree → Bool → ℕ → ℕ → List Instr
  condition_code lay free (expr n own o) when target at = operation_condition lay free n o when target at

  pub operation_condition : Layout → ℕ → ℕ → OperationTree → Bool → ℕ → ℕ → List Instr
  operation_condition lay free n (prefixed o e) when target at =
      if is_not o then condition_code lay free e (not when) target at
      else operation_code lay free n (prefixed o e) at ++ branch_code when target (at + operation_size (prefixed o e))
  operation_condition lay free n (binary o a b) when target at =
      by_decided (decided_by o)
      (λ value.
      condition_code lay free a value (first_target value when target (at + (condition_size a value + condition_size b when))) at ++
      condition_code lay free b when target (at + condition_size a value))
      (expr_code lay free a at ++
      (between_code o (bounds_of_value a) (at + expr_size a) (expr_size b) ++
      (expr_code lay free b (at + expr_size a + between_size o (bounds_of_value a)) ++
      (behind_code (straight o) (count_of a) ++
      branch_code (turned o when) target (at + expr_size a + between_size o (bounds_of_value a) + expr_size b + behind_size (straight o))))))
  operation_condition lay free n o when target at = operation_code lay free n o at ++ branch_code when target (at + operation_size o)
