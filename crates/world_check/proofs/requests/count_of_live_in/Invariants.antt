use Rattle.std.proofs.Common.{◌≡◌, ◌≤◌, take}
use Rattle.std.specs.List.{count_by}
use Rattle.world_model.specs.Waiting.{is_live_in}
use Rattle.world_check.proofs.requests.count_of_live_in.Given as goal

abbrev pub invariant-loop-phase : goal.invariant-loop-phase
invariant-loop-phase l = (l.count ≡ count_by is_live_in (take l.phase-index l.phases)) × (l.count ≤ l.phase-index)
