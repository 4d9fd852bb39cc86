use Rattle.std.proofs.Common.{sym, ◌∙◌}
use Rattle.std.proofs.lemmas.Result.{on_ok_weaker}
use Rattle.expr_gen.proofs.Appending.{and_then}
use Rattle.expr_gen.proofs.Told.{under_told}
use Rattle.expr_gen.proofs.copying.put_under.Goals as goal

pub returns-in_ok-put-2-clause-puts : goal.returns-in_ok-put-2-clause-puts
returns-in_ok-put-2-clause-puts c =
    on_ok_weaker c.put-then-has_offset-2.result
    (λ q. under_told c.args.target.now c.args.kept c.args.free (sym c.has_offset.ensures ∙ c.if-has_offset.true) (and_then (and_then c.in_ok-put.ensures.puts c.in_ok-put-2.ensures.puts) q))
    c.put-then-has_offset-2.ensures.puts
