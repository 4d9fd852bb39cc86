-- How many instructions declarations have, by what their parts have.
use Rattle.std.proofs.Common.{◌≡◌, ℕ, suc, ◌+◌, ◌<◌, ◌≤◌, List, ◌∷◌, ℤ, length, get_or, drop, refl, ap, add-one, drop-cons}
use Rattle.std.proofs.lemmas.List.{at_drop_all}
use Rattle.checked_program.specs.declared.expr.Base.{Base}
use Rattle.code_scheme.specs.Pieces.{scalars_code}
use Rattle.code_scheme.specs.StatementPlain.{names_size, set_lowest_size}

pub names_end : (xs : List Base) (k : ℕ) → length xs ≤ k → names_size (drop k xs) ≡ 0
names_end xs k h = at_drop_all names_size xs k h

number_at : (xs : List ℕ) (k : ℕ) → k < length xs → drop k xs ≡ get_or xs k 0 ∷ drop (k + 1) xs
number_at xs k h = rw (add-one, drop-cons xs k 0 h) refl

pub lowest_at : (locals : List ℕ) (k : ℕ) (xs : List ℤ) → k < length locals
    → set_lowest_size (drop k locals) xs ≡ suc (length (scalars_code xs)) + set_lowest_size (drop (k + 1) locals) xs
lowest_at locals k xs h = ap (λ (ks : List ℕ). set_lowest_size ks xs) (number_at locals k h)

pub lowest_end : (locals : List ℕ) (k : ℕ) (xs : List ℤ) → length locals ≤ k → set_lowest_size (drop k locals) xs ≡ 0
lowest_end locals k xs h = at_drop_all (λ (ks : List ℕ). set_lowest_size ks xs) locals k h
