use Rattle.diagnosis_laws.proofs.Grounds.{one_statement_ground}
use Rattle.diagnosis_laws.proofs.Lists.{one_list, some_list}
use Rattle.diagnosis_laws.proofs.laws.diagnosis_law.Goals as goal

pub returns-clause-ground : goal.returns-clause-ground
returns-clause-ground c = one_statement_ground

pub returns-clause-one : goal.returns-clause-one
returns-clause-one c = one_list

pub returns-clause-some : goal.returns-clause-some
returns-clause-some c = some_list
