use Rattle.std.proofs.Common.{◌≡◌, ◌++◌, replicate}
use Rattle.definition_origins.proofs.origin_list.Origins.push_for_each.Given as goal

abbrev pub invariant-loop-name : goal.invariant-loop-name
invariant-loop-name l = l.self ≡ l.fn.self ++ replicate l._name-index l.origin
