use Rattle.std.proofs.Common.{◌<◌, arith}
use Rattle.expr_gen.proofs.Copies.{run_length, few_copies}
use Rattle.expr_gen.proofs.repeating.run_size.Goals as goal

pub returns-else-run-eq0 : goal.returns-else-run-eq0
returns-else-run-eq0 c =
    let some : 0 < c.args.run.count = omega arith in
    omega (arith, run_length c.args.run.scalar c.args.run.count some, few_copies c.args.run.count 0)
