use Rattle.std.proofs.Common.{◌≡◌, ◌++◌, drop}
use Rattle.listing.specs.Diagnostics.{lines_of}
use Rattle.listing.proofs.diagnostic_lines.diagnostics_text.Given as goal

-- the lines so far go on with those of the diagnostics that are left
abbrev pub invariant-loop-diagnostic : goal.invariant-loop-diagnostic
invariant-loop-diagnostic l = l.text.items ++ lines_of (drop l.diagnostic-index l.diagnostic-items) ≡ lines_of l.diagnostic-items
