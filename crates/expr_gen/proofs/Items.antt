-- The items of lists that a loop goes along, and the nodes of those that are left.
use Rattle.std.proofs.Common.{◌≡◌, ℕ, ◌+◌, ◌<◌, ◌≤◌, List, ◌∷◌, length, get_or, drop, map, refl, ap, add-one, drop-cons}
use Rattle.std.proofs.lemmas.List.{at_drop_all}
use Rattle.checked_program.specs.declared.expr.Argument.{Argument}
use Rattle.checked_program.specs.declared.expr.Part.{Part}
use Rattle.checked_program.specs.declared.expr.Range.{Range}
use Rattle.checked_program.specs.declared.expr.Received.{Received}
use Rattle.checked_program.specs.declared.program.LocalRow.{LocalRow}
use Rattle.program_trees.specs.ExprTree.{part_tree, received_tree, range_tree, argument_tree, received_of, more_received, no_received, with_part, no_parts, with_range, no_ranges, with_argument, no_arguments}
use Rattle.program_trees.specs.ProgramTree.{local_row_tree}
use Rattle.code_scheme.specs.Pieces.{first_of_parts}
use Rattle.code_scheme.specs.ExprCode.{counts_of}
use Rattle.code_scheme.specs.StatementSite.{scalars_in}
use Rattle.expr_gen.specs.Trees.{parts_of, ranges_of, arguments_of}

-- what is left begins with the item at a place
pub item_at : {A : Type 0} (xs : List A) (k : ℕ) (x : A) → k < length xs → x ≡ get_or xs k x → drop k xs ≡ x ∷ drop (k + 1) xs
item_at xs k x h e = rw (add-one, drop-cons xs k x h, ← e) refl

pub parts_at : (xs : List Part) (k : ℕ) (x : Part) → k < length xs → x ≡ get_or xs k x → parts_of (drop k xs) ≡ with_part (part_tree x) (parts_of (drop (k + 1) xs))
parts_at xs k x h e = ap parts_of (item_at xs k x h e)

pub parts_end : (xs : List Part) (k : ℕ) → length xs ≤ k → parts_of (drop k xs) ≡ no_parts
parts_end xs k h = at_drop_all parts_of xs k h

pub received_at : (xs : List Received) (k : ℕ) (x : Received) → k < length xs → x ≡ get_or xs k x → received_of (drop k xs) ≡ more_received (received_tree x) (received_of (drop (k + 1) xs))
received_at xs k x h e = ap received_of (item_at xs k x h e)

pub received_end : (xs : List Received) (k : ℕ) → length xs ≤ k → received_of (drop k xs) ≡ no_received
received_end xs k h = at_drop_all received_of xs k h

pub ranges_at : (xs : List Range) (k : ℕ) (x : Range) → k < length xs → x ≡ get_or xs k x → ranges_of (drop k xs) ≡ with_range (range_tree x) (ranges_of (drop (k + 1) xs))
ranges_at xs k x h e = ap ranges_of (item_at xs k x h e)

pub ranges_end : (xs : List Range) (k : ℕ) → length xs ≤ k → ranges_of (drop k xs) ≡ no_ranges
ranges_end xs k h = at_drop_all ranges_of xs k h

pub arguments_at : (xs : List Argument) (k : ℕ) (x : Argument) → k < length xs → x ≡ get_or xs k x → arguments_of (drop k xs) ≡ with_argument (argument_tree x) (arguments_of (drop (k + 1) xs))
arguments_at xs k x h e = ap arguments_of (item_at xs k x h e)

pub arguments_end : (xs : List Argument) (k : ℕ) → length xs ≤ k → arguments_of (drop k xs) ≡ no_arguments
arguments_end xs k h = at_drop_all arguments_of xs k h

-- ---- what loops count

pub first_end : (xs : List Part) (k : ℕ) → length xs ≤ k → first_of_parts (parts_of (drop k xs)) ≡ 0
first_end xs k h = ap first_of_parts (parts_end xs k h)

pub count_end : (xs : List Received) (k : ℕ) → length xs ≤ k → counts_of (received_of (drop k xs)) ≡ 0
count_end xs k h = ap counts_of (received_end xs k h)

pub locals_end : (xs : List LocalRow) (k : ℕ) → length xs ≤ k → scalars_in (map local_row_tree (drop k xs)) ≡ 0
locals_end xs k h = at_drop_all (λ (rows : List LocalRow). scalars_in (map local_row_tree rows)) xs k h
