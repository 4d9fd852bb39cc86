-- What a library tells of a name, and what a read gives.
use Rattle.std.specs.Prelude.{◌≡◌, ℕ, ◌<◌, ◌≤◌, List, length, take, drop, ⊤, IfOk, IsErr}
use Rattle.std.specs.declared.result.Result.{Result}

-- what a library tells of a name: nothing, that there is no such file, or the bytes of the file
pub data Contents : Type 0 where
  untold : Contents
  missing : Contents
  held : List ℕ → Contents

-- the first n bytes of a buffer are those that stand at a place of a text, and there are none only at its end or in no room
pub record Copies (text : List ℕ) (at n : ℕ) (buffer : List ℕ) : Type 0 where
  pub bytes : take n buffer ≡ take n (drop at text)
  pub end : n ≡ 0 → 0 < length buffer → length text ≤ at

-- where the text is told, a read that isn't a fault gives a piece of it; a read of a file that is told to be missing is a fault
abbrev pub Gives : {E : Type 0} → Contents → ℕ → Result ℕ E → List ℕ → Type 0
Gives untold at result buffer = ⊤
Gives missing at result buffer = IsErr result
Gives (held text) at result buffer = IfOk result (λ n. Copies text at n buffer)
