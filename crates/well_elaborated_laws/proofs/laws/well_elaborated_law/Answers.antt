use Rattle.well_elaborated_laws.proofs.laws.well_elaborated_law.Goals as goal
use Rattle.well_elaborated_laws.proofs.WellElaborated.{well_elaborated}

pub returns : goal.returns
returns c = well_elaborated
