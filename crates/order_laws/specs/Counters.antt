-- The law that a table that knows counters has the same of what constants and modes look up.
use Rattle.std.specs.Prelude.{◌≡◌, ℕ, Bool, true, List, map, Option, Some, slice_get}
use Rattle.checks_model.specs.Ground.{Ground, Origin, a_predefined}
use Rattle.checks_model.specs.Table.{entry_with_counters}
use Rattle.table_laws.specs.Frames.{is_read}
use Rattle.table_laws.specs.OneTable.{IsEvaluated, IsOrder, SameText}

-- the table of a ground is that of its definitions, counters among them
abbrev pub IsEvaluatedWithCounters : Ground → Type 0
IsEvaluatedWithCounters g = g.entries ≡ map (entry_with_counters g) g.origins

-- what constants and modes look up, and what the language defines
abbrev pub is_looked_up : Option Origin → Bool
is_looked_up (Some (a_predefined p)) = true
is_looked_up o = is_read o

-- Of two tables of the same definitions, of which the second knows counters, both have the same of what is looked up.
abbrev pub CountersLaw : Type 0
CountersLaw = (g h : Ground) (order : List ℕ) → SameText g h → IsOrder g order → IsEvaluated g → IsEvaluatedWithCounters h
    → (d : ℕ) → is_looked_up (slice_get g.origins d) ≡ true → slice_get g.entries d ≡ slice_get h.entries d
