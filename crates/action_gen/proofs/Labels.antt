-- What is appended for the labels of a CASE.
use Rattle.std.proofs.Common.{◌≡◌, ℕ, ◌+◌, ◌≤◌, ◌<◌, Bool, true, false, List, [], ◌∷◌, length, pos, refl, sym, ap, subst, arith, append_assoc, length-append, get_or, drop, add-one, drop-cons, if◌then◌else◌}
use Rattle.std.proofs.lemmas.List.{at_drop_all}
use Rattle.code_types.specs.declared.code.Code.{Code}
use Rattle.code_types.specs.declared.instr.Instr.{Instr}
use Rattle.code_types.specs.declared.instr.Instr.TheVariants as i
use Rattle.modes.specs.declared.mode.Bounds.{Bounds}
use Rattle.code_scheme.specs.Pieces.{capped, are_same}
use Rattle.code_scheme.specs.StatementSize.{label_code, more_labels_code, labels_code, labels_size}
use Rattle.expr_gen.specs.Putting.{Appends}
use Rattle.expr_gen.proofs.Appending.{and_then, resized, StillTo, step, done}

-- how many instructions further labels have, or one
abbrev pub more_labels_size : List Bounds → ℕ
more_labels_size bs = length (more_labels_code 0 bs)

abbrev pub label_size : Bounds → ℕ
label_size b = length (label_code 0 b)

-- one number, or others
pub one_label : (kept : ℕ) (b : Bounds) {x z : Code} → are_same b.low b.high ≡ true
    → Appends (i.Local kept 1 ∷ i.Push b.low ∷ i.Same 1 ∷ []) 3 x z → Appends (label_code kept b) (label_size b) x z
one_label kept b e p = rw e p

pub wide_label : (kept : ℕ) (b : Bounds) {x z : Code} → are_same b.low b.high ≡ false
    → Appends (i.Local kept 1 ∷ i.Push b.low ∷ i.Less 1 ∷ i.Push b.high ∷ i.Local kept 1 ∷ i.Less 1 ∷ i.Or ∷ i.Not ∷ []) 8 x z → Appends (label_code kept b) (label_size b) x z
wide_label kept b e p = rw e p

pub label_length : (same : Bool) (b : Bounds) → are_same b.low b.high ≡ same → label_size b ≡ (if same then 3 else 8)
label_length true b e = rw e refl
label_length false b e = rw e refl

-- ---- turns of the loop along labels

-- what stands behind the last label
abbrev pub no_bounds : Bounds
no_bounds = record { low = pos 0; high = pos 0 }

label_at : (xs : List Bounds) (k : ℕ) (it : Bounds) → k < length xs → it ≡ get_or xs k no_bounds → drop k xs ≡ it ∷ drop (k + 1) xs
label_at xs k it h e = rw (add-one, drop-cons xs k no_bounds h, ← e) refl

pub labels_turn : {a : ℕ → List Instr} {m : ℕ} (kept : ℕ) (xs : List Bounds) (k : ℕ) (it : Bounds) {x y1 y2 z : Code} → k < length xs → it ≡ get_or xs k no_bounds
    → StillTo a m (λ at. more_labels_code kept (drop k xs)) (more_labels_size (drop k xs)) x y1
    → Appends (label_code kept it) (label_size it) y1 y2
    → Appends (i.Or ∷ []) 1 y2 z
    → StillTo a m (λ at. more_labels_code kept (drop (k + 1) xs)) (more_labels_size (drop (k + 1) xs)) x z
labels_turn {a} {m} kept xs k it {x} {y1} h e p q r =
    let rest = drop (k + 1) xs in
    let there : StillTo a m (λ at. more_labels_code kept (it ∷ rest)) (more_labels_size (it ∷ rest)) x y1 =
    subst (λ (ys : List Bounds). StillTo a m (λ at. more_labels_code kept ys) (more_labels_size ys) x y1) (label_at xs k it h e) p in
    let size = length-append (label_code 0 it) (i.Or ∷ more_labels_code 0 rest) in
    step (λ at. more_labels_code kept rest) (more_labels_size rest) (sym (append_assoc (label_code kept it) (i.Or ∷ []) (more_labels_code kept rest)))
    (omega (arith, size)) there (and_then q r)

pub labels_done : {a : ℕ → List Instr} {m : ℕ} (kept : ℕ) (xs : List Bounds) (k : ℕ) {x y : Code} → length xs ≤ k
    → StillTo a m (λ at. more_labels_code kept (drop k xs)) (more_labels_size (drop k xs)) x y → Appends (a (length x.instrs)) m x y
labels_done kept xs k h p =
    done p (at_drop_all (λ (ys : List Bounds). more_labels_code kept ys) xs k h) (at_drop_all (λ (ys : List Bounds). more_labels_size ys) xs k h)

pub labels_made : (kept : ℕ) (b : Bounds) (bs : List Bounds) {x y z : Code}
    → Appends (label_code kept b) (label_size b) x y → Appends (more_labels_code kept bs) (more_labels_size bs) y z
    → Appends (labels_code kept (b ∷ bs)) (labels_size (b ∷ bs)) x z
labels_made kept b bs p q = resized (sym (length-append (label_code 0 b) (more_labels_code 0 bs))) (and_then p q)

-- how many they are, where numbers are held in 32 bits
pub counted_turn : (xs : List Bounds) (k : ℕ) (it : Bounds) (size one next new all : ℕ) → k < length xs → it ≡ get_or xs k no_bounds
    → one ≡ label_size it → next ≡ capped (size + one) → new ≡ capped (next + 1)
    → capped (size + more_labels_size (drop k xs)) ≡ all → capped (new + more_labels_size (drop (k + 1) xs)) ≡ all
counted_turn xs k it size one next new all h e f g o p =
    let rest = drop (k + 1) xs in
    let there : more_labels_size (drop k xs) ≡ more_labels_size (it ∷ rest) = ap (λ (ys : List Bounds). more_labels_size ys) (label_at xs k it h e) in
    let size_on = length-append (label_code 0 it) (i.Or ∷ more_labels_code 0 rest) in
    omega (arith, f, g, o, p, there, size_on)

pub counted_done : (xs : List Bounds) (k : ℕ) → length xs ≤ k → more_labels_size (drop k xs) ≡ 0
counted_done xs k h = at_drop_all (λ (ys : List Bounds). more_labels_size ys) xs k h
