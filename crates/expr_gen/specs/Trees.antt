-- The nodes of lists of parts, members and arguments, and the scheme of one argument alone.
use Rattle.std.specs.Prelude.{ℕ, ◌+◌, Bool, true, false, List, [], ◌∷◌, ◌++◌, map, length, slice_get}
use Rattle.code_types.specs.declared.instr.Instr.{Instr}
use Rattle.code_types.specs.declared.instr.Instr.TheVariants as i
use Rattle.modes.specs.declared.mode.Bounds.{Bounds}
use Rattle.checked_program.specs.declared.expr.Argument.{Argument}
use Rattle.checked_program.specs.declared.expr.Binary.{Binary}
use Rattle.checked_program.specs.declared.expr.Part.{Part}
use Rattle.checked_program.specs.declared.expr.Range.{Range}
use Rattle.program_trees.specs.ExprTree.{ExprTree, count_of, PartNodes, RangeNodes, ArgumentNodes, part_nodes, range_nodes, argument_nodes, part_tree, range_tree, argument_tree, PartTree, one_field, one_element, ArgumentTree, taken, given, both, RangeTree, alone, between}
use Rattle.program_trees.specs.ProgramTree.{LocalRowTree}
use Rattle.code_scheme.specs.Pieces.{Layout, pushes, lowest_as, check_code, tested_in, tested_out, tested_back, contents_code, keep_code, kept_code, offsets_kept, copy_out_code, location_scalars, between_code, between_size, bounds_of_value, behind_code, behind_size, straight, turned, branch_code, branch_size}
use Rattle.code_scheme.specs.ExprSizes.{expr_size, received_size, place_size, copy_out_size, sum_size}
use Rattle.code_scheme.specs.ExprCode.{expr_code, received_code, place_code, member_offset, sum_code}

abbrev pub parts_of : List Part → PartNodes
parts_of ps = part_nodes (map part_tree ps)

abbrev pub ranges_of : List Range → RangeNodes
ranges_of rs = range_nodes (map range_tree rs)

abbrev pub arguments_of : List Argument → ArgumentNodes
arguments_of as' = argument_nodes (map argument_tree as')

-- ---- the members of one range

abbrev pub range_code : Layout → ℕ → Bounds → RangeTree → ℕ → List Instr
range_code lay free b (alone e) at = expr_code lay free e at ++ (member_offset b ∷ i.Copy 1 ∷ i.Span ∷ i.BitOr ∷ [])
range_code lay free b (between e f) at = expr_code lay free e at ++ (member_offset b ∷ (expr_code lay free f (at + expr_size e + 1) ++ (member_offset b ∷ i.Span ∷ i.BitOr ∷ [])))

abbrev pub range_size : RangeTree → ℕ
range_size (alone e) = expr_size e + 4
range_size (between e f) = expr_size e + (1 + (expr_size f + 3))

-- ---- one argument, for parameter k of a procedure with these locals

abbrev pub argument_code : Layout → List LocalRowTree → ℕ → ℕ → ArgumentTree → ℕ → List Instr
argument_code lay rows k kept (taken r) at = received_code lay kept r at
argument_code lay rows k kept (given l bounds) at = place_code lay kept l at ++ (keep_code l kept ++ pushes (lowest_as (location_scalars l) (slice_get rows k)))
argument_code lay rows k kept (both l taken_by bounds) at =
    place_code lay kept l at ++ (keep_code l kept ++ (kept_code l kept ++ (contents_code lay l ++ check_code (tested_in taken_by bounds))))

abbrev pub argument_size : ArgumentTree → ℕ
argument_size (taken r) = received_size r
argument_size (given l bounds) = place_size l + (offsets_kept l + location_scalars l)
argument_size (both l taken_by bounds) = place_size l + (offsets_kept l + (offsets_kept l + (1 + length (check_code (tested_in taken_by bounds)))))

-- the scratch locals that keep its place
abbrev pub places_kept : ArgumentTree → ℕ
places_kept (taken r) = 0
places_kept (given l bounds) = offsets_kept l
places_kept (both l taken_by bounds) = offsets_kept l

-- its parameter is copied out
abbrev pub copy_out : Layout → ArgumentTree → ℕ → ℕ → List Instr
copy_out lay (taken r) kept free = []
copy_out lay (given l bounds) kept free = copy_out_code lay l (tested_out bounds) kept free
copy_out lay (both l taken_by bounds) kept free = copy_out_code lay l (tested_back taken_by bounds) kept free

abbrev pub copying_size : ArgumentTree → ℕ
copying_size (taken r) = 0
copying_size (given l bounds) = copy_out_size l (tested_out bounds)
copying_size (both l taken_by bounds) = copy_out_size l (tested_back taken_by bounds)

-- ---- conditions: an operator other than ANDIF and ORIF, and an expression like others

abbrev pub compared_code : Layout → ℕ → Binary → ExprTree → ExprTree → Bool → ℕ → ℕ → List Instr
compared_code lay free o a b when target at =
    expr_code lay free a at ++
    (between_code o (bounds_of_value a) (at + expr_size a) (expr_size b) ++
    (expr_code lay free b (at + expr_size a + between_size o (bounds_of_value a)) ++
    (behind_code (straight o) (count_of a) ++
    branch_code (turned o when) target (at + expr_size a + between_size o (bounds_of_value a) + expr_size b + behind_size (straight o)))))

abbrev pub compared_size : Binary → ExprTree → ExprTree → Bool → ℕ
compared_size o a b when = expr_size a + (between_size o (bounds_of_value a) + (expr_size b + (behind_size (straight o) + branch_size (turned o when))))

abbrev pub plain_condition : Layout → ℕ → ExprTree → Bool → ℕ → ℕ → List Instr
plain_condition lay free e when target at = expr_code lay free e at ++ branch_code when target (at + expr_size e)

abbrev pub plain_size : ExprTree → Bool → ℕ
plain_size e when = expr_size e + branch_size when

-- ---- parts, one by one

abbrev pub is_index : PartTree → Bool
is_index (one_field first count) = false
is_index (one_element e b count) = true

abbrev pub first_in_part : PartTree → ℕ
first_in_part (one_field first count) = first
first_in_part (one_element e b count) = 0

-- the offset of an index, added to the one below it where it isn't the first
abbrev pub index_code : Layout → ℕ → Bool → PartTree → ℕ → List Instr
index_code lay free is_first (one_field first count) at = []
index_code lay free is_first (one_element e b count) at = expr_code lay free e at ++ (i.Index b.low b.high count ∷ sum_code is_first)

abbrev pub index_size : Bool → PartTree → ℕ
index_size is_first (one_field first count) = 0
index_size is_first (one_element e b count) = expr_size e + (1 + sum_size is_first)
