use Rattle.chill_parser.proofs.Nested.{never_reaches}
use Rattle.chill_parser.proofs.nesting.none_too_deep_law.Goals as goal

pub returns : goal.returns
returns c = never_reaches
