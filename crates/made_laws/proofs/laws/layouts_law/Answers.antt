use Rattle.made_laws.proofs.laws.layouts_law.Goals as goal
use Rattle.made_laws.proofs.Layouts.{layouts_made}

pub returns : goal.returns
returns c = layouts_made
