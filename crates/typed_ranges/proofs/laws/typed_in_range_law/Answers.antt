use Rattle.typed_ranges.proofs.laws.typed_in_range_law.Goals as goal
use Rattle.typed_ranges.proofs.Statements.{bodies_in_range}

pub returns : goal.returns
returns c = bodies_in_range
