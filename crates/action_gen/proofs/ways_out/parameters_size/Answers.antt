use Rattle.std.proofs.Common.{◌≡◌, ◌+◌, ◌<◌, length, drop, true, false, arith}
use Rattle.action_gen.specs.Puts.{given_back}
use Rattle.action_gen.proofs.GivenBack.{size_at, none_left}
use Rattle.action_gen.proofs.ways_out.parameters_size.Goals.{then-is_given_back, else-is_given_back}
use Rattle.action_gen.proofs.ways_out.parameters_size.Goals as goal

pub loop-i-preserved : goal.loop-i-preserved
loop-i-preserved c =
    let in_ps : c.loop-i.i < length c.args.parameters.now = omega (arith, c.loop-i-test.true, c.min-count.ensures) in
    let in_ls : c.loop-i.i < length c.args.locals.now = omega (arith, c.loop-i-test.true, c.min-count.ensures) in
    elim c.if-is_given_back.branch [
      | then-is_given_back w ↦ (
          let len : length (given_back (drop c.loop-i.i c.args.parameters.now) (drop c.loop-i.i c.args.locals.now)) ≡ 1 + length (given_back (drop (c.loop-i.i + 1) c.args.parameters.now) (drop (c.loop-i.i + 1) c.args.locals.now)) =
          size_at c.args.parameters.now c.args.locals.now c.loop-i.i _ c.is_given_back.result true in_ps in_ls c.is_given_back.ensures w.if-is_given_back.true in
          record {
            counted = omega (arith, len, w.saturating_add-size.ensures, w.size-is, c.loop-i.invariant.counted, c.loop-i.invariant.few);
            few = omega (arith, w.saturating_add-size.ensures, w.size-is);
          })
      | else-is_given_back w ↦ (
          let len : length (given_back (drop c.loop-i.i c.args.parameters.now) (drop c.loop-i.i c.args.locals.now)) ≡ 0 + length (given_back (drop (c.loop-i.i + 1) c.args.parameters.now) (drop (c.loop-i.i + 1) c.args.locals.now)) =
          size_at c.args.parameters.now c.args.locals.now c.loop-i.i _ c.is_given_back.result false in_ps in_ls c.is_given_back.ensures w.if-is_given_back.false in
          record {
            counted = omega (arith, len, w.size-is, c.loop-i.invariant.counted, c.loop-i.invariant.few);
            few = omega (arith, w.size-is, c.loop-i.invariant.few);
          })
    ]

pub returns : goal.returns
returns c =
    omega (arith, none_left c.args.parameters.now c.args.locals.now c.loop-i.i (omega (arith, c.loop-i-test.false, c.min-count.ensures)), c.loop-i.invariant.counted, c.loop-i.invariant.few)
