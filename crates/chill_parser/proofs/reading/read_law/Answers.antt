use Rattle.chill_parser.proofs.ItemTaken.{program_is}
use Rattle.chill_parser.proofs.reading.read_law.Goals as goal

pub returns : goal.returns
returns c = program_is
