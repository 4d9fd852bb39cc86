use Rattle.names_model.specs.declared.definition.Inside.TheVariants.{Outermost}
use Rattle.names_model.specs.Resolving.{level_of}
use Rattle.reach_walk.proofs.Measuring.{length-definitions}
use Rattle.reach_walk.proofs.ProgramMeasures.{program-measured}
use Rattle.reach_walk.proofs.laws.size_law.Goals as goal

pub returns : goal.returns
returns c = λ tree. length-definitions Outermost 0 (level_of tree) (program-measured tree)
