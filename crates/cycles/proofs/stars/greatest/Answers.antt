use Rattle.std.proofs.Common.{arith}
use Rattle.cycles.proofs.Bounds.{more_low, all_low}
use Rattle.cycles.proofs.stars.greatest.Goals as goal
use Rattle.cycles.proofs.stars.greatest.Goals.{then-number-greatest, else-number-greatest}

pub loop-number-preserved : goal.loop-number-preserved
loop-number-preserved c =
    let i = c.loop-number.invariant in
    let more = more_low c.args.numbers.now c.loop-number.greatest c.if-number-greatest.greatest c.loop-number.number-index c.loop-number-test.true i.1 in
    elim c.if-number-greatest.branch [
      | then-number-greatest w ↦ (omega (arith, i.0, w.greatest-is, w.if-number-greatest), more (omega (arith, w.greatest-is, w.if-number-greatest)) (omega (arith, w.greatest-is)))
      | else-number-greatest w ↦ (omega (arith, i.0, w.greatest-is), more (omega (arith, w.greatest-is)) (omega (arith, w.greatest-is, w.if-number-greatest)))
    ]

pub returns-clause-all : goal.returns-clause-all
returns-clause-all c = all_low c.args.numbers.now _ c.loop-number.number-index c.loop-number-test.false c.loop-number.invariant.1
