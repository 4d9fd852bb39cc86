use Rattle.names_laws.proofs.laws.seeing_law.Goals as goal
use Rattle.names_laws.proofs.Seen.{seeing}

pub returns : goal.returns
returns c = seeing
