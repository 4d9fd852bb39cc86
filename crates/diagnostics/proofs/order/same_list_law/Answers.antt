use Rattle.diagnostics.proofs.Apart.{diagnostic_total, told_apart}
use Rattle.diagnostics.proofs.Ordered.{listed_same}
use Rattle.diagnostics.proofs.order.same_list_law.Goals as goal

pub returns : goal.returns
returns c = listed_same diagnostic_total told_apart
