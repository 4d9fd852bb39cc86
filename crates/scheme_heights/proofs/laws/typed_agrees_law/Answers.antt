use Rattle.scheme_heights.proofs.laws.typed_agrees_law.Goals as goal
use Rattle.scheme_heights.proofs.TypedPrograms.{typed_agrees}

pub returns : goal.returns
returns c = typed_agrees
