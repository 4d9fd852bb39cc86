-- An evaluation against which the rules can be asked.
use Rattle.constant_operators.specs.declared.evaluation.Evaluation.{Evaluation}
use Rattle.constant_operators.specs.Grounds.{ground_of, HasGround}
use Rattle.laid_laws.specs.Few.{AreFew}

-- it keeps its ground, and no mode that can be measured has too many scalars
pub record IsReady (e : Evaluation) : Type 0 where
  pub keeps : HasGround e
  pub few : AreFew (ground_of e)
