-- The places behind labelled statements, copied one by one.
use Rattle.std.proofs.Common.{◌≡◌, ℕ, ◌+◌, ◌<◌, ◌≤◌, List, [], ◌∷◌, ◌++◌, length, get_or, drop, refl, sym, ap, ◌∙◌, append_assoc, add-one, drop-cons}
use Rattle.std.proofs.lemmas.List.{append-nil, at_drop_all}

number_at : (xs : List ℕ) (k : ℕ) → k < length xs → drop k xs ≡ get_or xs k 0 ∷ drop (k + 1) xs
number_at xs k h = rw (add-one, drop-cons xs k 0 h) refl

pub exit_turn : (exits all next : List ℕ) (k : ℕ) → k < length exits → next ≡ all ++ get_or exits k 0 ∷ [] → all ++ drop k exits ≡ exits → next ++ drop (k + 1) exits ≡ exits
exit_turn exits all next k h e p =
    ap (λ (xs : List ℕ). xs ++ drop (k + 1) exits) e ∙ append_assoc all (get_or exits k 0 ∷ []) (drop (k + 1) exits)
    ∙ ap (λ (xs : List ℕ). all ++ xs) (sym (number_at exits k h)) ∙ p

pub exits_done : (exits all next : List ℕ) (k behind : ℕ) → length exits ≤ k → next ≡ all ++ behind ∷ [] → all ++ drop k exits ≡ exits → next ≡ exits ++ behind ∷ []
exits_done exits all next k behind h e p =
    e ∙ ap (λ (xs : List ℕ). xs ++ behind ∷ []) (sym (append-nil all) ∙ ap (λ (xs : List ℕ). all ++ xs) (sym (at_drop_all (λ (xs : List ℕ). xs) exits k h)) ∙ p)
