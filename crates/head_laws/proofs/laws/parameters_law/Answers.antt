use Rattle.head_laws.proofs.laws.parameters_law.Goals as goal
use Rattle.head_laws.proofs.Formals.{formals_are, started_are}

pub returns : goal.returns
returns c = record { called = formals_are; started = started_are }
