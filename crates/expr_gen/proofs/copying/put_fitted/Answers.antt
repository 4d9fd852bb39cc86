use Rattle.std.proofs.Common.{rules, w64}
use mir.Val.{SFits}
use Rattle.std.proofs.lemmas.Int.{to_z-of_z}
use Rattle.expr_gen.proofs.Appending.{kept_on}
use Rattle.expr_gen.proofs.Fitting.{fitted_turn, fitted_done}
use Rattle.expr_gen.proofs.copying.put_fitted.Goals as goal

pub loop-number-preserved : goal.loop-number-preserved
loop-number-preserved c =
    let fits : SFits w64 c.scalar_at.result = search rules in
    let pushed = simp to_z-of_z at c.in_ok-put.ensures.puts in
    record {
      left = fitted_turn c.args.count c.loop-number.number c.args.scalars.now c.scalar_at.result c.loop-number-test.true c.scalar_at.ensures c.loop-number.invariant.left pushed;
      keeps = kept_on c.loop-number.invariant.keeps c.in_ok-put.ensures.keeps;
    }

pub returns-clause-puts : goal.returns-clause-puts
returns-clause-puts c = fitted_done c.args.count c.loop-number.number c.args.scalars.now c.loop-number-test.false c.loop-number.invariant.left
