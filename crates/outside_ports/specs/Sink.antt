-- What a put takes.
use Rattle.std.specs.Prelude.{ℕ, ◌<◌, ◌≤◌, List, length, take, MatchResult}
use Rattle.std.specs.declared.option.Option.{Option}
use Rattle.std.specs.declared.result.Result.{Result}
use Rattle.std.specs.Io.KnownBytes.{Appends, Keeps}

-- a sink takes a front of the piece, at least a byte of one that isn't empty, and nothing at a fault
abbrev pub Takes : {E : Type 0} → Option (List ℕ) → Option (List ℕ) → Result ℕ E → List ℕ → Type 0
Takes old new result piece = MatchResult result
    (λ n. (n ≤ length piece) × (0 < length piece → 0 < n) × Appends old new (take n piece))
    (λ _. Keeps old new)
