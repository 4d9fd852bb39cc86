use Rattle.std.proofs.Common.{◌≡◌, ◌++◌, replicate}
use Rattle.list_texts.proofs.paths.push_copies.Given as goal

abbrev pub invariant-loop-k : goal.invariant-loop-k
invariant-loop-k l = l.out ≡ l.initial.out ++ replicate l._k l.path
