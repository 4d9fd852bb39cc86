use Rattle.body_laws.proofs.laws.body_law.Goals as goal
use Rattle.body_laws.proofs.Statements.{statement_typed_law, body_typed_law, handler_typed_law}
use Rattle.body_laws.proofs.Rows.{procedure_typed, process_typed}

pub returns : goal.returns
returns c = record { statements = statement_typed_law; bodies = body_typed_law; handlers = handler_typed_law; procedures = procedure_typed; processes = process_typed }
