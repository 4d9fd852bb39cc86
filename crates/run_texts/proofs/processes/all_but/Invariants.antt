use Rattle.std.proofs.Common.{◌≡◌, take}
use Rattle.world_model.specs.Lists.{without}
use Rattle.run_texts.proofs.processes.all_but.Given as goal

abbrev pub invariant-loop-other : goal.invariant-loop-other
invariant-loop-other l = l.rest.items ≡ without l.region (take l.other-index l.other-items)
