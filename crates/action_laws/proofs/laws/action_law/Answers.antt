use Rattle.action_laws.proofs.laws.action_law.Goals as goal
use Rattle.action_laws.proofs.Actions.{action_typed_law}
use Rattle.action_laws.proofs.Controls.{control_typed_law}

pub returns : goal.returns
returns c = record { actions = action_typed_law; controls = control_typed_law }
