use Rattle.std.proofs.Common.{◌≡◌, ◌++◌, length}
use Rattle.tree_print.specs.Canonical.{token_kinds, canonical_text}
use Rattle.tree_print.proofs.canonical.print.Given as goal

-- the text so far goes on with that of the tokens that are left
abbrev pub invariant-loop-rest : goal.invariant-loop-rest
invariant-loop-rest l = l.text.items ++ canonical_text (token_kinds l.rest) ≡ canonical_text (token_kinds l.tokens)

abbrev pub decreases-loop-rest : goal.decreases-loop-rest
decreases-loop-rest l = length l.rest
