use Rattle.std.proofs.Common.{◌∙◌, refl, ℤ, pos, get_or, rules, arith, w64}
use mir.Val.{SFits}
use Rattle.std.proofs.lemmas.Int.{to_z-of_z}
use Rattle.code_scheme.specs.Pieces.{run_behind}
use Rattle.expr_gen.proofs.Copies.{size_turn, count_turn, size_done}
use Rattle.expr_gen.proofs.repeating.scalars_size.Goals as goal

pub loop-scalar-preserved : goal.loop-scalar-preserved
loop-scalar-preserved c =
    let y : ℤ = get_or c.args.scalars.now c.loop-scalar.scalar-index (pos 0) in
    let fits : SFits w64 (get_or c.args.scalars.now c.loop-scalar.scalar-index (pos 0)) = search rules in
    let ended = simp to_z-of_z at c.ended_size.ensures in
    let scalar = simp to_z-of_z at c.with-run.ensures.scalar in
    let count = simp to_z-of_z at c.with-run.ensures.count in
    let whole = c.loop-scalar.invariant.whole in
    record {
      whole = run_behind c.loop-scalar.run.scalar whole y;
      count = count_turn c.loop-scalar.run.scalar whole c.loop-scalar.run.count y c.with-run.result.count c.loop-scalar.invariant.count count;
      sum = size_turn c.args.scalars.now c.loop-scalar.scalar-index y c.loop-scalar.run.scalar c.with-run.result.scalar whole c.loop-scalar.run.count c.ended_size.result c.loop-scalar.size c.saturating_add-size.result _
          c.loop-scalar-test.true refl scalar c.loop-scalar.invariant.count ended c.saturating_add-size.ensures c.loop-scalar.invariant.sum;
      few = omega arith;
    }

pub returns : goal.returns
returns c =
    c.saturating_add.ensures
    ∙ size_done c.args.scalars.now c.loop-scalar.scalar-index c.loop-scalar.run.scalar c.loop-scalar.invariant.whole c.loop-scalar.run.count c.run_size.result c.loop-scalar.size _
    c.loop-scalar-test.false c.loop-scalar.invariant.count c.run_size.ensures c.loop-scalar.invariant.sum
