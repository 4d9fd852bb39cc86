use Rattle.std.proofs.Common.{◌≡◌, drop}
use Rattle.world_model.specs.Waiting.{is_full}
use Rattle.world_check.proofs.requests.is_full.Given as goal

abbrev pub invariant-loop-alternative : goal.invariant-loop-alternative
invariant-loop-alternative l = is_full l.facts l.world l.listed ≡ is_full l.facts l.world (drop l.alternative-index l.listed)
