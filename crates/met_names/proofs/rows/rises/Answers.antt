use Rattle.std.proofs.Common.{arith}
use Rattle.met_names.proofs.Rising.{finished}
use Rattle.met_names.proofs.rows.rises.Goals as goal

pub returns : goal.returns
returns c = λ e. finished c.args.rows.now c.loop-row.row-index c.loop-row.last (omega (arith, c.loop-row.auto.row-index-end)) c.loop-row.invariant
