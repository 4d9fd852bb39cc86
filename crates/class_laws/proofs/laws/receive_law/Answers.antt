use Rattle.class_laws.proofs.laws.receive_law.Goals as goal
use Rattle.class_laws.proofs.Receiving.{receive_there}

pub returns : goal.returns
returns c = receive_there
