use Rattle.world_model.proofs.Locking.{one_occupant_law}
use Rattle.world_model.proofs.laws.one_occupant_law.Goals as goal

pub returns : goal.returns
returns c = one_occupant_law
