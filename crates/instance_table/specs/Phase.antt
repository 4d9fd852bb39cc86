-- Which phases are live and active.
use Rattle.std.specs.Prelude.{Bool, true, false}
use Rattle.instance_table.specs.declared.phase.Phase.{Phase}
use Rattle.instance_table.specs.declared.phase.Phase.TheVariants.{Active, Waiting, Suspended, Ended}

-- it has not ended
abbrev pub is_live_in : Phase → Bool
is_live_in Active = true
is_live_in Waiting = true
is_live_in Suspended = true
is_live_in (Ended how) = false

-- it may ask
abbrev pub is_active_in : Phase → Bool
is_active_in Active = true
is_active_in Waiting = false
is_active_in Suspended = false
is_active_in (Ended how) = false
