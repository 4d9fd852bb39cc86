-- Lists in which each process has at most one entry.
use Rattle.std.specs.Prelude.{◌≡◌, ℕ, ◌==◌, not, List, [], ◌∷◌, None}
use Rattle.std.specs.List.{filter, find}
use Rattle.std.specs.declared.option.Option.{Option}

-- the entry of a process
abbrev pub entry_of : {X : Type 0} → (X → ℕ) → List X → ℕ → Option X
entry_of process xs who = find (λ x. process x == who) xs

-- the entries of the others
abbrev pub others : {X : Type 0} → (X → ℕ) → List X → ℕ → List X
others process xs who = filter (λ x. not (process x == who)) xs

-- no process has two entries
abbrev pub AreOnce : {X : Type 0} → (X → ℕ) → List X → Type 0
AreOnce process [] = Unit {0}
AreOnce process (x ∷ xs) = (entry_of process xs (process x) ≡ None) × AreOnce process xs
