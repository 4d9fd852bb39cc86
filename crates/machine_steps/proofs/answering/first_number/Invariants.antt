use Rattle.std.proofs.Common.{◌≡◌, drop}
use Rattle.world_model.specs.Lists.{number_for}
use Rattle.machine_steps.proofs.answering.first_number.Given as goal

abbrev pub invariant-loop-alternative : goal.invariant-loop-alternative
invariant-loop-alternative l = number_for l.alternatives l.thing ≡ number_for (drop l.alternative-index l.alternatives) l.thing
