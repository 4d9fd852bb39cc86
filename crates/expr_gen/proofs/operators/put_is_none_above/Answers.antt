use Rattle.std.proofs.Common.{rules, w64}
use mir.Val.{SFits}
use Rattle.std.proofs.lemmas.Int.{to_z-of_z}
use Rattle.expr_gen.proofs.Appending.{and_then, at_last, kept_by, kept_on}
use Rattle.expr_gen.proofs.operators.put_is_none_above.Goals as goal

pub returns-clause-puts : goal.returns-clause-puts
returns-clause-puts c =
    let fits : SFits w64 c.args.above = search rules in
    let pushed = simp to_z-of_z at c.in_ok-put-3.ensures.puts in
    at_last c.put-5.result _ _ _ (and_then (and_then (and_then c.in_ok-put.ensures.puts c.in_ok-put-2.ensures.puts) pushed) c.in_ok-put-4.ensures.puts) c.put-5.ensures.puts

pub returns-clause-keeps : goal.returns-clause-keeps
returns-clause-keeps c = kept_on (kept_by (and_then (and_then (and_then c.in_ok-put.ensures.puts c.in_ok-put-2.ensures.puts) c.in_ok-put-3.ensures.puts) c.in_ok-put-4.ensures.puts)) c.put-5.ensures.keeps
