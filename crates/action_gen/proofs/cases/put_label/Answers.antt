use Rattle.std.proofs.Common.{◌≡◌, false, arith, rules, w64}
use mir.Val.{SFits}
use Rattle.std.proofs.lemmas.Int.{ints, to_z-of_z}
use Rattle.std.proofs.lemmas.Result.{on_ok_weaker}
use Rattle.code_scheme.specs.Pieces.{are_same}
use Rattle.expr_gen.proofs.Appending.{and_then, kept_by, kept_on}
use Rattle.action_gen.proofs.Labels.{wide_label}
use Rattle.action_gen.proofs.cases.put_label.Goals as goal

pub returns-in_err-put-7-clause-keeps : goal.returns-in_err-put-7-clause-keeps
returns-in_err-put-7-clause-keeps c =
    kept_on (kept_by (and_then c.in_ok-put.ensures.puts (and_then c.in_ok-put-2.ensures.puts (and_then c.in_ok-put-3.ensures.puts (and_then c.in_ok-put-4.ensures.puts
    (and_then c.in_ok-put-5.ensures.puts c.in_ok-put-6.ensures.puts)))))) c.in_err-put-7.ensures.keeps

pub returns-clause-puts : goal.returns-clause-puts
returns-clause-puts c =
    let low : SFits w64 c.args.label.low = search rules in
    let high : SFits w64 c.args.label.high = search rules in
    let first = simp to_z-of_z at c.in_ok-put-2.ensures.puts in
    let last = simp to_z-of_z at c.in_ok-put-4.ensures.puts in
    let differ : are_same c.args.label.low c.args.label.high ≡ false = grind (arith, ints, c.if-label.false) in
    on_ok_weaker c.put-8.result
    (λ q. wide_label c.args.kept c.args.label differ
    (and_then c.in_ok-put.ensures.puts (and_then first (and_then c.in_ok-put-3.ensures.puts (and_then last
    (and_then c.in_ok-put-5.ensures.puts (and_then c.in_ok-put-6.ensures.puts (and_then c.in_ok-put-7.ensures.puts q))))))))
    c.put-8.ensures.puts

pub returns-clause-keeps : goal.returns-clause-keeps
returns-clause-keeps c =
    kept_on (kept_by (and_then c.in_ok-put.ensures.puts (and_then c.in_ok-put-2.ensures.puts (and_then c.in_ok-put-3.ensures.puts (and_then c.in_ok-put-4.ensures.puts
    (and_then c.in_ok-put-5.ensures.puts (and_then c.in_ok-put-6.ensures.puts c.in_ok-put-7.ensures.puts))))))) c.put-8.ensures.keeps
