-- Lists that are put together of copies.
use Rattle.std.proofs.Common.{◌≡◌, ℕ, zero, suc, ◌+◌, List, [], ◌++◌, refl, sym, ap, ◌∙◌, append_assoc, append-nil, add-one}
use Rattle.modes.specs.Scalars.{repeated}
use Rattle.modes.proofs.ModeViews.{mode_built}

behind : {A : Type 0} (n : ℕ) (xs : List A) → repeated n xs ++ xs ≡ xs ++ repeated n xs
behind zero xs = sym (append-nil xs)
behind (suc n) xs = append_assoc xs (repeated n xs) xs ∙ ap (λ ys. xs ++ ys) (behind n xs)

-- one copy more
pub repeated-more : {A : Type 0} (n : ℕ) (xs : List A) → repeated (n + 1) xs ≡ repeated n xs ++ xs
repeated-more n xs = rw add-one (sym (behind n xs))

pub ruleset lowest_steps = (mode_built, append-nil, append_assoc, repeated-more)
