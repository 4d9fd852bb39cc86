use Rattle.std.proofs.Common.{arith}
use Rattle.names_model.specs.Resolving.{level_of}
use Rattle.reach_walk.proofs.Measuring.{fits-measured}
use Rattle.reach_walk.proofs.ProgramMeasures.{program-measured}
use Rattle.reach_walk.proofs.laws.fits_law.Goals as goal

pub returns : goal.returns
returns c = λ tree small. fits-measured 0 (level_of tree) (program-measured tree) (omega arith)
