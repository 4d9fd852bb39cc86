use Rattle.std.proofs.Common.{arith}
use Rattle.action_gen.proofs.Waiting.{sources_count}
use Rattle.action_gen.proofs.waits.receive_wait_size.Goals as goal

pub returns : goal.returns
returns c = omega (arith, sources_count c.args.alternatives.now)
