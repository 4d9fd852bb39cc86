-- The table that knows counters, filled by their numbers; the law, as a statement.
use Rattle.std.specs.Prelude.{ℕ, zero, suc, List, set, length, Option, Some, slice_get}
use Rattle.chill_tree.specs.ItemTree.{ProgramTree}
use Rattle.checks_model.specs.Ground.{Ground, Origin, Entry, a_counter}
use Rattle.checks_model.specs.ActionRules.{counter_mode}
use Rattle.checks_model.specs.Table.{of_mode_alone, IsGroundOf, IsStatementGroundOf}
use Rattle.checks_model.specs.Diagnoses.{HasNames}
use Rattle.table_laws.specs.OneTable.{with_entries}

-- the entries, with that of a definition where it is a counter
abbrev pub entries_counted : Ground → ℕ → Option Origin → List Entry
entries_counted g k (Some (a_counter c)) = set g.entries k (of_mode_alone (counter_mode g c))
entries_counted g k o = g.entries

abbrev pub counted_at : Ground → ℕ → Ground
counted_at g k = with_entries g (entries_counted g k (slice_get g.origins k))

-- the same of so many definitions from a number on, one after the other
abbrev pub counted : Ground → ℕ → ℕ → Ground
counted g k zero = g
counted g k (suc n) = counted (counted_at g k) (suc k) n

-- In a text that breaks no rule on names, the table so filled is the one that knows counters.
abbrev pub CountedLaw : Type 0
CountedLaw = (text : List ℕ) (t : ProgramTree) (g : Ground) → HasNames text t → IsGroundOf t g → IsStatementGroundOf t (counted g 0 (length g.origins))
