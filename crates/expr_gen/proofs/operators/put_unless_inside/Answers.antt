use Rattle.std.proofs.Common.{rules, w64}
use mir.Val.{SFits}
use Rattle.std.proofs.lemmas.Int.{to_z-of_z}
use Rattle.expr_gen.proofs.Appending.{and_then, at_last}
use Rattle.expr_gen.proofs.operators.put_unless_inside.Goals as goal

pub returns-clause-puts : goal.returns-clause-puts
returns-clause-puts c =
    let fits : SFits w64 c.args.none = search rules in
    let pushed = simp to_z-of_z at c.put-4.ensures.puts in
    at_last c.put-4.result _ _ _ (and_then (and_then c.in_ok-put.ensures.puts c.in_ok-put-2.ensures.puts) c.in_ok-put-3.ensures.puts) pushed
