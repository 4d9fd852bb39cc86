-- What priorities and locations to be set are asked against.
use Rattle.checks_model.specs.Ground.{Ground}
use Rattle.constant_operators.specs.Grounds.{ground_of, HasGround}
use Rattle.process_names.specs.Phase.{AreFactsOf}
use Rattle.process_checks.specs.declared.waiting.Waiting.{Waiting}

abbrev pub ground_for : Waiting → Ground
ground_for w = ground_of w.evaluation.now

-- the evaluation keeps its ground, and what processes meet at is what they meet at in it
pub record IsWaiting (w : Waiting) : Type 0 where
  pub ground : HasGround w.evaluation.now
  pub facts : AreFactsOf w.meetings.now (ground_for w)
