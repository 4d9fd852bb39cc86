use Rattle.std.proofs.Common.{rules, w64}
use mir.Val.{SFits}
use Rattle.std.proofs.lemmas.Int.{to_z-of_z}
use Rattle.std.proofs.lemmas.Result.{on_ok_weaker}
use Rattle.action_gen.proofs.Controls.{all_then}
use Rattle.action_gen.proofs.steps.put_nearest.Goals as goal

pub returns-clause-puts : goal.returns-clause-puts
returns-clause-puts c =
    let fits : SFits w64 c.first_counted.result = search rules in
    let pushed = simp to_z-of_z at c.in_ok-put.ensures.puts in
    let last = rw c.first_counted.ensures at pushed in
    let forth = rw c.forth.ensures at c.put-2.ensures.puts in
    on_ok_weaker c.put-2.result (λ q. all_then last (all_then c.in_ok-put_rest.ensures.puts q)) forth
