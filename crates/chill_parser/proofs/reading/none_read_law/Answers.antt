use Rattle.chill_parser.proofs.Parsing.{no_tree}
use Rattle.chill_parser.proofs.reading.none_read_law.Goals as goal

pub returns : goal.returns
returns c = no_tree
