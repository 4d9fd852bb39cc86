use Rattle.names_laws.proofs.laws.one_definition_law.Goals as goal
use Rattle.names_laws.proofs.OneSeen.{one_definition}
use Rattle.names_laws.proofs.Telling.{told_nowhere}

pub returns-clause-one : goal.returns-clause-one
returns-clause-one c = one_definition

pub returns-clause-told : goal.returns-clause-told
returns-clause-told c = told_nowhere
