use Rattle.expression_laws.proofs.laws.statements_law.Goals as goal
use Rattle.expression_laws.proofs.Actions.{action_there}
use Rattle.expression_laws.proofs.Statements.{statement_there, handler_there, body_there}

pub returns : goal.returns
returns c = record { action = action_there; statement = statement_there; body = body_there; handler = handler_there }
