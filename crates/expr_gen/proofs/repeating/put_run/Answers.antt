use Rattle.std.proofs.Common.{◌<◌, rules, w64, arith}
use mir.Val.{SFits}
use Rattle.std.proofs.lemmas.Int.{to_z-of_z}
use Rattle.std.proofs.lemmas.Result.{on_ok_weaker}
use Rattle.expr_gen.proofs.Copies.{run_made}
use Rattle.expr_gen.proofs.repeating.put_run.Goals as goal

pub returns-clause-puts : goal.returns-clause-puts
returns-clause-puts c =
    let fits : SFits w64 c.args.run.scalar = search rules in
    let pushed = simp to_z-of_z at c.in_ok-put.ensures.puts in
    let some : 0 < c.args.run.count = omega arith in
    on_ok_weaker c.put_copies.result (λ q. run_made c.args.run.scalar c.args.run.count some pushed q) c.put_copies.ensures.puts
