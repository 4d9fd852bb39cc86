use Rattle.std.proofs.Common.{◌-◌}
use Rattle.chill_tree.specs.ExprTree.{boxed_expr}
use Rattle.rules_model.specs.ExprReading.{part_at, with_part, turn_at, with_turn, ranked_at, expr_at}
use Rattle.expr_parser.specs.Parts.{part_of}
use Rattle.expr_parser.proofs.Repeats.{goes_on_by}
use Rattle.expr_parser.proofs.expr.+expr.Goals as goal

pub turns-loop-preserved : goal.turns-loop-preserved
turns-loop-preserved t c =
    goes_on_by (turn_at c.args.extent (ranked_at c.args.extent c.args.inner (expr_at c.args.inner) (c.args.rank - 1)) c.args.rank) with_turn 32 _ (λ x. (((x.0.sign, x.0.operator), boxed_expr x.0.right), x.1.now)) c.loop.counter (boxed_expr c.loop.left) (boxed_expr c.in_ok-left.left) c.loop.rest.now c.in_ok-turn.field-0 (c.in-Some.turn, c.in-Some.after) c.loop-test.true c.in_ok-turn.ensures c.in-Some.is c.in_ok-left.ensures c.loop.invariant

pub parts-loop-preserved : goal.parts-loop-preserved
parts-loop-preserved t c =
    goes_on_by (part_at c.args.extent c.args.inner (expr_at c.args.inner)) with_part 32 _ (λ x. (part_of x.0, x.1.now)) c.loop.counter (boxed_expr c.loop.of) (boxed_expr c.in_ok-of.of) c.loop.rest.now c.in_ok-piece.field-0 (c.in-Some.piece, c.in-Some.after) c.loop-test.true c.in_ok-piece.ensures c.in-Some.is c.in_ok-of.ensures c.loop.invariant
