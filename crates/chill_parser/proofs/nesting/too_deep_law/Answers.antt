use Rattle.chill_parser.proofs.Nested.{reaches_first}
use Rattle.chill_parser.proofs.nesting.too_deep_law.Goals as goal

pub returns : goal.returns
returns c = reaches_first
