-- Where the bytes of a name lie.
use Rattle.std.specs.Prelude.{ℕ, ◌≤◌, List, take}
use Rattle.chill_tree.specs.declared.name_text.Held.{Held}
use Rattle.chill_tree.specs.declared.name_text.Held.TheVariants as held

-- the bytes: of an array the first ones
abbrev pub held_bytes : Held → List ℕ
held_bytes (held.Inline length bytes) = take length bytes
held_bytes (held.Heap bytes) = bytes.value

-- an array holds as many
abbrev pub IsHeld : Held → Type 0
IsHeld (held.Inline length bytes) = length ≤ 14
IsHeld (held.Heap bytes) = Unit {0}
