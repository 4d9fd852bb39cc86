use Rattle.std.proofs.Common.{◌≡◌, ◌-◌}
use Rattle.chill_tree.specs.ExprTree.{boxed_expr}
use Rattle.rules_model.specs.Reading.{repeat}
use Rattle.rules_model.specs.ExprReading.{location_part_at, with_part, expr_at}
use Rattle.expr_parser.proofs.location.read_location_parts.Given as goal

-- what is still read from here is what was read from the start
abbrev pub invariant-loop : goal.invariant-loop
invariant-loop l =
    repeat (location_part_at (expr_at l.inner)) with_part (32 - l.counter) (boxed_expr l.of) l.rest ≡ repeat (location_part_at (expr_at l.inner)) with_part (32 - l.read) (boxed_expr l.fn.first) l.tokens
