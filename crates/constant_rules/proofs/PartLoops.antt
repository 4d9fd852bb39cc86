-- Scalars that are joined turn by turn.
use Rattle.std.proofs.Common.{◌≡◌, ℕ, zero, suc, ◌+◌, List, [], ◌++◌, Option, Some, None, ℤ, refl, ap, sym, ◌∙◌, append_assoc, arith}
use Rattle.std.proofs.lemmas.List.{append-nil}
use Rattle.constant_rules.specs.Parts.{joined, times}

pub joined_first : (o : Option (List ℤ)) → joined (Some []) o ≡ o
joined_first None = refl
joined_first (Some xs) = refl

pub joined_last : (o : Option (List ℤ)) → joined o (Some []) ≡ o
joined_last None = refl
joined_last (Some xs) = ap Some (append-nil xs)

pub joined_assoc : (a b c : Option (List ℤ)) → joined (joined a b) c ≡ joined a (joined b c)
joined_assoc None b c = refl
joined_assoc (Some xs) None c = refl
joined_assoc (Some xs) (Some ys) None = refl
joined_assoc (Some xs) (Some ys) (Some zs) = ap Some (append_assoc xs ys zs)

times_last : (n : ℕ) (xs : List ℤ) → times n xs ++ xs ≡ xs ++ times n xs
times_last zero xs = sym (append-nil xs)
times_last (suc n) xs = append_assoc xs (times n xs) xs ∙ ap (λ (ys : List ℤ). xs ++ ys) (times_last n xs)

pub times_more : (n : ℕ) (xs : List ℤ) → times n xs ++ xs ≡ times (n + 1) xs
times_more n xs = times_last n xs ∙ (let next : suc n ≡ n + 1 = omega arith in ap (λ (k : ℕ). times k xs) next)
