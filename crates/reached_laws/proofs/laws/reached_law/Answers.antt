use Rattle.reached_laws.proofs.Items.{reached}
use Rattle.reached_laws.proofs.laws.reached_law.Goals as goal

pub returns : goal.returns
returns c = reached
