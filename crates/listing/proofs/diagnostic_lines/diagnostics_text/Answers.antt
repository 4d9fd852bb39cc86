use Rattle.listing.proofs.Lines.{lines-next}
use Rattle.listing.proofs.diagnostic_lines.diagnostics_text.Goals as goal

pub loop-diagnostic-preserved : goal.loop-diagnostic-preserved
loop-diagnostic-preserved c = lines-next _ _ _ c.loop-diagnostic.diagnostic-index c.diagnostic-item.result c.in_ok-push_line.ensures c.diagnostic-item.is c.loop-diagnostic-test.true c.loop-diagnostic.invariant
