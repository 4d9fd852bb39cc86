-- What a contract sees of the table.
use Rattle.std.specs.Prelude.{ℕ, zero, suc, List, slice_get, None}
use Rattle.std.specs.List.{count_by}
use Rattle.std.specs.declared.option.Option.{Option}
use Rattle.instance_table.specs.declared.phase.Phase.{Phase}
use Rattle.instance_table.specs.Phase.{is_live_in, is_active_in}

-- the process and the phase of each instance, and for how many more there is room. The first item stands for instance 0,
-- which is none: its process is 0, and it has ended.
pub record Table : Type 0 where
  pub processes : List ℕ
  pub phases : List Phase
  pub spare : ℕ

-- what stands in a list for an instance that was made
abbrev pub made_at : {X : Type 0} → List X → ℕ → Option X
made_at xs zero = None
made_at xs (suc n) = slice_get xs (suc n)

-- how many have not ended
abbrev pub count_of_live : List Phase → ℕ
count_of_live phases = count_by is_live_in phases

-- how many may ask
abbrev pub count_of_active : List Phase → ℕ
count_of_active phases = count_by is_active_in phases
