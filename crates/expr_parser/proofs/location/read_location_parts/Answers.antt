use Rattle.std.proofs.Common.{◌-◌}
use Rattle.chill_tree.specs.ExprTree.{boxed_expr}
use Rattle.rules_model.specs.ExprReading.{location_part_at, with_part, expr_at}
use Rattle.expr_parser.specs.Parts.{part_of}
use Rattle.expr_parser.proofs.Repeats.{goes_on_by}
use Rattle.expr_parser.proofs.location.read_location_parts.Goals as goal

pub loop-preserved : goal.loop-preserved
loop-preserved c =
    goes_on_by (location_part_at (expr_at c.args.inner)) with_part 32 _ (λ x. (part_of x.0, x.1.now)) c.loop.counter (boxed_expr c.loop.of) (boxed_expr c.in_ok-of.of) c.loop.rest.now c.in_ok-piece.field-0 (c.in-Some.piece, c.in-Some.after) c.loop-test.true c.in_ok-piece.ensures c.in-Some.is c.in_ok-of.ensures c.loop.invariant
