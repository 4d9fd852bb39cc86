-- Modes whose root is INSTANCE.
use Rattle.std.proofs.Common.{◌≡◌}
use Rattle.modes.proofs.SimilarLemmas.{similar_steps}

pub ruleset instances = (similar_steps)
