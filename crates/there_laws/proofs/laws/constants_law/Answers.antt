use Rattle.there_laws.proofs.laws.constants_law.Goals as goal
use Rattle.there_laws.proofs.Constants.{constant_there}
use Rattle.there_laws.proofs.ConstantShapes.{constant_shape}

pub returns : goal.returns
returns c = record { value = constant_there; shape = constant_shape }
