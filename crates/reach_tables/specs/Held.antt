-- What tables hold.
use Rattle.std.specs.Prelude.{ℕ, List, [], unwrap_or}
use Rattle.std.specs.Map.{lookup}
use Rattle.std.specs.Str.{bytes_eq}

-- definitions by names
abbrev pub Holdings : Type 0
Holdings = List (List ℕ × List ℕ)

-- the definitions of a name
abbrev pub held : Holdings → List ℕ → List ℕ
held t n = unwrap_or (lookup (bytes_eq n) t) []
