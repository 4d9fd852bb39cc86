-- What a take hands over.
use Rattle.std.specs.Prelude.{◌≡◌, ℕ, ◌<◌, List, [], length, take, drop, None, Some, MatchResult}
use Rattle.std.specs.declared.option.Option.{Option}
use Rattle.std.specs.declared.result.Result.{Result}

-- the first n bytes of a buffer are the first of a text, the others of it are left, and there are none only at its end or in no
-- room
pub record IsHanded (text : List ℕ) (after : Option (List ℕ)) (n : ℕ) (buffer : List ℕ) : Type 0 where
  pub bytes : take n buffer ≡ take n text
  pub left : after ≡ Some (drop n text)
  pub end : n ≡ 0 → 0 < length buffer → text ≡ []

-- where the bytes that are left are told, a take hands over a front of them, and none at a fault; whether they are told stays
abbrev pub Hands : {E : Type 0} → Option (List ℕ) → Option (List ℕ) → Result ℕ E → List ℕ → Type 0
Hands None after result buffer = after ≡ None
Hands (Some text) after result buffer = MatchResult result (λ n. IsHanded text after n buffer) (λ _. after ≡ Some text)
