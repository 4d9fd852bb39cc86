use Rattle.std.proofs.Common.{sym}
use Rattle.std.proofs.lemmas.Result.{on_ok_weaker}
use Rattle.action_gen.specs.Puts.{lay_around}
use Rattle.action_gen.proofs.Assigned.{lowest_told}
use Rattle.action_gen.proofs.assigning.put_lowest.Goals as goal

pub returns-clause-puts : goal.returns-clause-puts
returns-clause-puts c =
    on_ok_weaker c.put.result
    (λ q e. lowest_told (lay_around c.args.around.now) c.args.number c.args.value.now _ c.args.count (sym c.first_of_local-first.ensures) e c.in_ok-put_scalars.ensures.puts q)
    c.put.ensures.puts
