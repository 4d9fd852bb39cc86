use Rattle.std.proofs.Common.{◌≡◌, ◌++◌}
use Rattle.exchange_text.specs.Exchange.{lines_to}
use Rattle.exchange_text.proofs.made.push_lines.Given as goal

abbrev pub invariant-loop-k : goal.invariant-loop-k
invariant-loop-k l = l.text.items ≡ l.fn.text.items ++ lines_to l.k
