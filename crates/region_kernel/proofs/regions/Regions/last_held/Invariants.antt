use Rattle.std.proofs.Common.{◌≡◌, take}
use Rattle.world_model.specs.Lists.{last_of}
use Rattle.region_kernel.specs.Regions.{held_by}
use Rattle.region_kernel.proofs.regions.Regions.last_held.Given as goal

abbrev pub invariant-loop-lock : goal.invariant-loop-lock
invariant-loop-lock l = l.last ≡ last_of (held_by (take l.lock-index l.lock-items) l.who)
