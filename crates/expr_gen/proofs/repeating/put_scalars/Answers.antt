use Rattle.std.proofs.Common.{◌≡◌, ℤ, pos, get_or, refl, sym, ◌∙◌, rules, arith, w64}
use mir.Val.{SFits}
use Rattle.std.proofs.lemmas.Int.{to_z-of_z}
use Rattle.std.proofs.lemmas.Result.{on_ok_weaker}
use Rattle.code_scheme.specs.Pieces.{run_behind}
use Rattle.expr_gen.proofs.Appending.{kept_on}
use Rattle.expr_gen.proofs.Copies.{scalars_turn, scalars_done}
use Rattle.expr_gen.proofs.repeating.put_scalars.Goals as goal

pub loop-scalar-preserved : goal.loop-scalar-preserved
loop-scalar-preserved c =
    let y : ℤ = get_or c.args.scalars.now c.loop-scalar.scalar-index (pos 0) in
    let fits : SFits w64 (get_or c.args.scalars.now c.loop-scalar.scalar-index (pos 0)) = search rules in
    let ended = simp to_z-of_z at c.in_ok-put_ended.ensures.puts in
    let scalar = simp to_z-of_z at c.with-run.ensures.scalar in
    let count = simp to_z-of_z at c.with-run.ensures.count in
    let own : c.in_ok-uncapped.field-0 ≡ c.with-run.result.count = c.in_ok-uncapped.ensures c.with-run.result.count (omega (arith, count)) in
    let whole : c.in_ok-uncapped.field-0 ≡ run_behind c.loop-scalar.run.scalar c.loop-scalar.run.count y = c.in_ok-uncapped.ensures (run_behind c.loop-scalar.run.scalar c.loop-scalar.run.count y) count in
    record {
      left = scalars_turn c.args.scalars.now c.loop-scalar.scalar-index y c.loop-scalar.run.scalar c.with-run.result.scalar c.loop-scalar.run.count c.with-run.result.count
          c.loop-scalar-test.true refl scalar (sym own ∙ whole) c.loop-scalar.invariant.left ended;
      keeps = kept_on c.loop-scalar.invariant.keeps c.in_ok-put_ended.ensures.keeps;
    }

pub returns-clause-puts : goal.returns-clause-puts
returns-clause-puts c =
    on_ok_weaker c.put_run.result (λ q. scalars_done c.args.scalars.now c.loop-scalar.scalar-index c.loop-scalar.run.scalar c.loop-scalar.run.count c.loop-scalar-test.false c.loop-scalar.invariant.left q) c.put_run.ensures.puts
