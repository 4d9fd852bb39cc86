use Rattle.std.proofs.Common.{◌≡◌}
use Rattle.watchers.specs.Counts.{regions_below}
use Rattle.watchers.proofs.region_counter.RegionCounterWatcher.tell.Given as goal

-- the lines of the regions so far
abbrev pub invariant-loop-region : goal.invariant-loop-region
invariant-loop-region l = l.lines.items ≡ regions_below l.self l.region
