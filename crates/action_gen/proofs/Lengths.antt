-- How many instructions labels, parameters and the end of a DO FOR have.
use Rattle.std.proofs.Common.{◌≡◌, ℕ, suc, ◌+◌, Bool, true, false, List, [], ◌∷◌, length, refl, length-append}
use Rattle.std.specs.Prelude.{if◌then◌else◌}
use Rattle.modes.specs.declared.mode.Bounds.{Bounds}
use Rattle.code_types.specs.declared.instr.Instr.TheVariants as i
use Rattle.checked_program.specs.declared.program.Parameter.{Parameter}
use Rattle.program_trees.specs.ProgramTree.{LocalRowTree}
use Rattle.code_scheme.specs.Pieces.{are_same}
use Rattle.code_scheme.specs.StatementSite.{is_given_back}
use Rattle.code_scheme.specs.StatementPlain.{parameters_code}
use Rattle.code_scheme.specs.StatementLoops.{Step, by_constant, by_kept, Steps, rest_code, nearest_code, nearer_code, near_end_code}
use Rattle.code_scheme.specs.StatementSize.{label_code, more_labels_code, labels_size}

-- a label has as many instructions wherever the selector is kept
one_or_more : (g : Bool) (k : ℕ) (b : Bounds)
    → length (if g then i.Local k 1 ∷ i.Push b.low ∷ i.Same 1 ∷ [] else i.Local k 1 ∷ i.Push b.low ∷ i.Less 1 ∷ i.Push b.high ∷ i.Local k 1 ∷ i.Less 1 ∷ i.Or ∷ i.Not ∷ [])
    ≡ length (if g then i.Local 0 1 ∷ i.Push b.low ∷ i.Same 1 ∷ [] else i.Local 0 1 ∷ i.Push b.low ∷ i.Less 1 ∷ i.Push b.high ∷ i.Local 0 1 ∷ i.Less 1 ∷ i.Or ∷ i.Not ∷ [])
one_or_more true k b = refl
one_or_more false k b = refl

pub label_length : (k : ℕ) (b : Bounds) → length (label_code k b) ≡ length (label_code 0 b)
label_length k b = one_or_more (are_same b.low b.high) k b

pub more_labels_length : (b : Bounds) (bs : List Bounds) → length (more_labels_code 0 (b ∷ bs)) ≡ length (label_code 0 b) + suc (length (more_labels_code 0 bs))
more_labels_length b bs = length-append (label_code 0 b) (i.Or ∷ more_labels_code 0 bs)

pub labels_length : (b : Bounds) (bs : List Bounds) → labels_size (b ∷ bs) ≡ length (label_code 0 b) + length (more_labels_code 0 bs)
labels_length b bs = length-append (label_code 0 b) (more_labels_code 0 bs)

pub parameters_length : (p : Parameter) (ps : List Parameter) (row : LocalRowTree) (rows : List LocalRowTree)
    → length (parameters_code (p ∷ ps) (row ∷ rows)) ≡ length (parameters_code ps rows) + length (if is_given_back p.passing then i.Local row.first row.count ∷ [] else [])
parameters_length p ps row rows = length-append (parameters_code ps rows) (if is_given_back p.passing then i.Local row.first row.count ∷ [] else [])

-- ---- the end of a DO FOR

nearer_cases : (counter start : ℕ) (step : Step) (end : ℕ) (down : Bool)
    → length (nearer_code (record { counter = counter; start = start; step = step; end = end; down = down })) ≡ length (rest_code step) + 3
nearer_cases counter start (by_constant d) end true = refl
nearer_cases counter start (by_constant d) end false = refl
nearer_cases counter start (by_kept k) end true = refl
nearer_cases counter start (by_kept k) end false = refl

pub nearer_length : (c : Steps) → length (nearer_code c) ≡ length (rest_code c.step) + 3
nearer_length c = nearer_cases c.counter c.start c.step c.end c.down

near_end_cases : (counter start : ℕ) (step : Step) (end : ℕ) (down : Bool) (at : ℕ)
    → length (nearer_code (record { counter = counter; start = start; step = step; end = end; down = down })) + (1 + (1 + (length (nearest_code (record { counter = counter; start = start; step = step; end = end; down = down })) + 1)))
    ≡ length (near_end_code (record { counter = counter; start = start; step = step; end = end; down = down }) at)
near_end_cases counter start (by_constant d) end true at = refl
near_end_cases counter start (by_constant d) end false at = refl
near_end_cases counter start (by_kept k) end true at = refl
near_end_cases counter start (by_kept k) end false at = refl

pub near_end_length : (c : Steps) (at : ℕ) → length (nearer_code c) + (1 + (1 + (length (nearest_code c) + 1))) ≡ length (near_end_code c at)
near_end_length c at = near_end_cases c.counter c.start c.step c.end c.down at

pub ruleset lengths = (more_labels_length, labels_length, parameters_length)
