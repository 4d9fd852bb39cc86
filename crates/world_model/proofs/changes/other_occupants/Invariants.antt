use Rattle.std.proofs.Common.{◌≡◌, map, take}
use Rattle.world_model.specs.World.{other_occupant}
use Rattle.world_model.proofs.changes.other_occupants.Given as goal

abbrev pub invariant-loop-occupant : goal.invariant-loop-occupant
invariant-loop-occupant l = l.rest.items ≡ map (other_occupant l.who) (take l.occupant-index l.occupant-items)
