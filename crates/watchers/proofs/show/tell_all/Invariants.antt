use Rattle.std.proofs.Common.{◌≡◌, take, map}
use Rattle.std.specs.List.{flat_map}
use Rattle.outside_ports.specs.Watcher.{told}
use Rattle.watchers.proofs.show.tell_all.Given as goal

-- the texts so far
abbrev pub invariant-loop-watcher : goal.invariant-loop-watcher
invariant-loop-watcher g l =
    l.all ≡ flat_map told (map (λ b. (goal.Watcher-dyn g (b.vtable, b.value)).watching b.value) (take l.watcher-index l.boxes))
