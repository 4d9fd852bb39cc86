use Rattle.statement_parser.proofs.Labels.{same_tested}
use Rattle.statement_parser.proofs.closing.same_name.Goals as goal

pub returns : goal.returns
returns c = same_tested c.equals.result c.args.text.now c.args.other.now c.equals.ensures
