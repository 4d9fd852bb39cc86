use Rattle.made_laws.proofs.laws.numbers_law.Goals as goal
use Rattle.made_laws.proofs.Numbers.{made_in_range, made_fits}

pub returns : goal.returns
returns c = record { in_range = made_in_range; fits = made_fits }
