-- How the table keeps its instances.
use Rattle.std.specs.Prelude.{◌≡◌, ℕ, ◌+◌, ◌<◌, ◌^◌, Bool, List, [], ◌∷◌, length, map, slice_index_or, if◌then◌else◌, Some, None}
use Rattle.std.specs.List.{count_by}
use Rattle.std.specs.declared.option.Option.{Option}
use Rattle.instance_table.specs.declared.phase.Phase.{Phase}
use Rattle.instance_table.specs.declared.phase.Phase.TheVariants.{Active}
use Rattle.instance_table.specs.declared.records.Record.{Record}
use Rattle.instance_table.specs.Phase.{is_live_in, is_active_in}

abbrev pub Slots : Type 0
Slots = List (Option Record)

-- the records under these keys
abbrev pub under : Slots → ℕ → Option Record
under slots key = slice_index_or slots key None

abbrev pub records_of : Slots → List ℕ → List (Option Record)
records_of slots keys = map (under slots) keys

abbrev pub process_of : Option Record → ℕ
process_of None = 0
process_of (Some r) = r.process

abbrev pub phase_of : Option Record → Phase
phase_of None = Active
phase_of (Some r) = r.phase

abbrev pub processes_of : Slots → List ℕ → List ℕ
processes_of slots keys = map process_of (records_of slots keys)

abbrev pub phases_of : Slots → List ℕ → List Phase
phases_of slots keys = map phase_of (records_of slots keys)

-- there is a record of this number
pub record IsNumbered (slot : Option Record) (n : ℕ) : Type 0 where
  pub kept : Record
  pub found : slot ≡ Some kept
  pub number : kept.number ≡ n

-- the records are numbered from n on
abbrev pub AreNumbered : ℕ → List (Option Record) → Type 0
AreNumbered n [] = Unit {0}
AreNumbered n (slot ∷ slots) = IsNumbered slot n × AreNumbered (n + 1) slots

-- 1 where it holds
abbrev pub one_if : Bool → ℕ
one_if holds = if holds then 1 else 0

-- the records are numbered from 1 on, so many of them are live, and so many active
pub record IsKept (slots : Slots) (keys : List ℕ) (live active : ℕ) : Type 0 where
  pub numbered : AreNumbered 1 (records_of slots keys)
  pub live_is : live ≡ count_by is_live_in (phases_of slots keys)
  pub active_is : active ≡ count_by is_active_in (phases_of slots keys)
  pub few : length keys < 2 ^ 32
