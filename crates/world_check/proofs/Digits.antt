-- The value of digits, one digit more, and below the limit the same as clipped.
use Rattle.std.proofs.Common.{◌≡◌, ℕ, ◌+◌, ◌-◌, ◌*◌, List, [], ◌∷◌, ◌++◌, refl, ap, ◌∙◌, arith, inl, inr}
use Rattle.std.proofs.lemmas.Bool.{cases_lt}
use Rattle.world_model.specs.Input.{value_from}
use Rattle.world_check.specs.Numbers.{limit, IsClipped}

pub value_from-append : (read : ℕ) (digits : List ℕ) (digit : ℕ) → value_from read (digits ++ digit ∷ []) ≡ 10 * value_from read digits + (digit - 48)
value_from-append read [] digit = refl
value_from-append read (d ∷ digits) digit = value_from-append (10 * read + (d - 48)) digits digit

-- a number clipped, with a digit more and clipped again, is the number with the digit more, clipped
pub clipped_again : (number read digit next : ℕ) → IsClipped number read → IsClipped (10 * read + digit) next → IsClipped (10 * number + digit) next
clipped_again number read digit next is clips = elim (cases_lt number limit) [
  | inl low ↦ (let same : read ≡ number = is.same low in
      record { same = λ below. clips.same (omega arith) ∙ ap (λ (n : ℕ). 10 * n + digit) same; above = λ behind. clips.above (omega arith) })
  | inr high ↦ (let at : read ≡ limit = is.above high in
      record { same = λ below. absurd (let f : ⊥ = omega arith in f); above = λ behind. clips.above (omega arith) })
]
