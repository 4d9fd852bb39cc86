use Rattle.std.proofs.Common.{◌≡◌, ◌++◌, replicate}
use Rattle.list_texts.proofs.code_lines.push_times.Given as goal

abbrev pub invariant-loop-k : goal.invariant-loop-k
invariant-loop-k l = l.text.items ≡ l.fn.text.items ++ replicate l._k l.byte
