use Rattle.names_laws.proofs.laws.granting_back_law.Goals as goal
use Rattle.names_laws.proofs.GivingBack.{up_without, given_without, nothing_granted}

pub returns-clause-has : goal.returns-clause-has
returns-clause-has c = up_without

pub returns-clause-gives : goal.returns-clause-gives
returns-clause-gives c = given_without

pub returns-clause-nothing : goal.returns-clause-nothing
returns-clause-nothing c = nothing_granted
