use Rattle.class_laws.proofs.laws.class_law.Goals as goal
use Rattle.class_laws.proofs.Clean.{clean_there}

pub returns : goal.returns
returns c = clean_there
