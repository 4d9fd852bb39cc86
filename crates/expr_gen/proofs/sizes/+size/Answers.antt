use Rattle.std.proofs.Common.{ap, arith}
use Rattle.program_trees.specs.ExprTree.{PartNodes, RangeNodes, ReceivedNodes, ArgumentNodes}
use Rattle.code_scheme.specs.ExprSizes.{indices_size, received_sizes, members_size, arguments_size, copies_out_size}
use Rattle.expr_gen.proofs.Items.{parts_end, received_end, ranges_end, arguments_end}
use Rattle.expr_gen.proofs.Told.{uniform_sized}
use Rattle.expr_gen.proofs.sizes.+size.Goals as goal

pub indices_size-returns : goal.indices_size-returns
indices_size-returns t c =
    let none = ap (λ (ps : PartNodes). indices_size c.loop-part.is_first ps) (parts_end c.args.parts.now c.loop-part.part-index c.loop-part-test.false) in
    omega (arith, none, c.loop-part.invariant.counted, c.loop-part.invariant.few)

pub received_sizes-returns : goal.received_sizes-returns
received_sizes-returns t c =
    let none = ap (λ (rs : ReceivedNodes). received_sizes rs) (received_end c.args.all.now c.loop-received.received-index c.loop-received-test.false) in
    omega (arith, none, c.loop-received.invariant.counted, c.loop-received.invariant.few)

pub powerset_size-returns : goal.powerset_size-returns
powerset_size-returns t c =
    let none = ap (λ (rs : RangeNodes). members_size rs) (ranges_end c.args.members.now c.loop-range.range-index c.loop-range-test.false) in
    omega (arith, none, c.loop-range.invariant.counted, c.loop-range.invariant.few)

pub arguments_size-returns : goal.arguments_size-returns
arguments_size-returns t c =
    let none = ap (λ (ts : ArgumentNodes). arguments_size ts) (arguments_end c.args.arguments.now c.loop-argument.argument-index c.loop-argument-test.false) in
    let none_out = ap (λ (ts : ArgumentNodes). copies_out_size ts) (arguments_end c.args.arguments.now c.loop-argument.argument-index c.loop-argument-test.false) in
    omega (arith, none, none_out, c.loop-argument.invariant.counted, c.loop-argument.invariant.few)

pub expr_size-returns-in-Uniform : goal.expr_size-returns-in-Uniform
expr_size-returns-in-Uniform t c = uniform_sized c.args.expr.now c.in-Uniform.elements c.in-Uniform.value c.received_size.result c.copies_size.result c.saturating_add-in-Uniform.result c.in-Uniform.is c.received_size.ensures c.copies_size.ensures c.saturating_add-in-Uniform.ensures
