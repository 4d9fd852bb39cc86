use Rattle.std.proofs.Common.{◌≡◌, ◌++◌, length}
use Rattle.rules_model.specs.TokensShapes.{quoted}
use Rattle.tree_print.proofs.canonical.push_quoted.Given as goal

-- the text so far goes on with what is left of the value
abbrev pub invariant-loop-rest : goal.invariant-loop-rest
invariant-loop-rest l = l.text.items ++ quoted l.rest ≡ l.fn.text.items ++ quoted l.value

abbrev pub decreases-loop-rest : goal.decreases-loop-rest
decreases-loop-rest l = length l.rest
