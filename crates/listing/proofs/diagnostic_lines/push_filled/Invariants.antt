use Rattle.std.proofs.Common.{◌≡◌, ◌++◌, length}
use Rattle.diagnostics.specs.Rules.{filled}
use Rattle.listing.proofs.diagnostic_lines.push_filled.Given as goal

-- the text so far goes on with what is left of the rule's text
abbrev pub invariant-bytes : goal.invariant-bytes
invariant-bytes l = l.text.items ++ filled l.first l.second l.rest ≡ l.fn.text.items ++ filled l.first l.second l.rule

abbrev pub decreases-bytes : goal.decreases-bytes
decreases-bytes l = length l.rest
