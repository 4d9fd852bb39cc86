use Rattle.code_types.proofs.laws.leads_on_law.Goals as goal
use Rattle.code_types.proofs.Shifts.{leads_on}

pub returns : goal.returns
returns c = leads_on
