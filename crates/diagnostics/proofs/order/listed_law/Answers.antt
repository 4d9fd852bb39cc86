use Rattle.diagnostics.proofs.Apart.{diagnostic_total, told_apart}
use Rattle.diagnostics.proofs.Ordered.{sorted_listed, in_listed, from_listed}
use Rattle.diagnostics.proofs.order.listed_law.Goals as goal

pub returns-clause-ordered : goal.returns-clause-ordered
returns-clause-ordered c = sorted_listed diagnostic_total told_apart

pub returns-clause-members : goal.returns-clause-members
returns-clause-members c = λ xs. record {
  there = λ x h. in_listed diagnostic_total told_apart x xs h;
  back = λ x h. from_listed diagnostic_total told_apart x xs h;
}
