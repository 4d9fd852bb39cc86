use Rattle.constant_laws.proofs.laws.constants_law.Goals as goal
use Rattle.constant_laws.proofs.Constants.{constant_fits}
use Rattle.constant_laws.proofs.Names.{text_names_fit}

pub returns : goal.returns
returns c = record { fits = constant_fits; names = text_names_fit }
