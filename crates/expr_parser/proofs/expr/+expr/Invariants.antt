use Rattle.std.proofs.Common.{◌≡◌, ◌-◌, ◌+◌, ◌*◌}
use Rattle.chill_tree.specs.ExprTree.{boxed_expr}
use Rattle.rules_model.specs.Reading.{repeat}
use Rattle.rules_model.specs.ExprReading.{part_at, with_part, turn_at, with_turn, ranked_at, expr_at}
use Rattle.expr_parser.proofs.expr.+expr.Given as goal

abbrev pub decreases-read_expr : goal.decreases-read_expr
decreases-read_expr l = 40 * l.room + 20

abbrev pub decreases-ranked : goal.decreases-ranked
decreases-ranked l = 40 * l.inner + 30 + 3 * l.rank

abbrev pub decreases-turns : goal.decreases-turns
decreases-turns l = 40 * l.inner + 29 + 3 * l.rank

abbrev pub decreases-turn : goal.decreases-turn
decreases-turn l = 40 * l.inner + 28 + 3 * l.rank

abbrev pub decreases-prefixed : goal.decreases-prefixed
decreases-prefixed l = 40 * l.inner + 29

abbrev pub decreases-operand : goal.decreases-operand
decreases-operand l = 40 * l.inner + 28

abbrev pub decreases-begun : goal.decreases-begun
decreases-begun l = 40 * l.inner + 27

abbrev pub decreases-paren : goal.decreases-paren
decreases-paren l = 40 * l.inner + 26

abbrev pub decreases-parts : goal.decreases-parts
decreases-parts l = 40 * l.inner + 26

abbrev pub decreases-part : goal.decreases-part
decreases-part l = 40 * l.inner + 25

abbrev pub decreases-read_args : goal.decreases-read_args
decreases-read_args l = 40 * l.inner + 24

abbrev pub decreases-read_exprs : goal.decreases-read_exprs
decreases-read_exprs l = 40 * l.room + 23

abbrev pub decreases-read_exprs-read_list : goal.decreases-read_exprs-read_list
decreases-read_exprs-read_list l = 40 * l.room + 22

abbrev pub decreases-read_ranges-read_list : goal.decreases-read_ranges-read_list
decreases-read_ranges-read_list l = 40 * l.room + 22

abbrev pub decreases-tuple : goal.decreases-tuple
decreases-tuple l = 40 * l.inner + 26

abbrev pub decreases-uniform : goal.decreases-uniform
decreases-uniform l = 40 * l.inner + 25

abbrev pub decreases-tuple_parts : goal.decreases-tuple_parts
decreases-tuple_parts l = 40 * l.inner + 25

abbrev pub decreases-read_ranges : goal.decreases-read_ranges
decreases-read_ranges l = 40 * l.room + 24

abbrev pub decreases-read_range : goal.decreases-read_range
decreases-read_range l = 40 * l.room + 21

-- what is still read from here is what was read from the start
abbrev pub invariant-parts-loop : goal.invariant-parts-loop
invariant-parts-loop l =
    repeat (part_at l.extent l.inner (expr_at l.inner)) with_part (32 - l.counter) (boxed_expr l.of) l.rest ≡ repeat (part_at l.extent l.inner (expr_at l.inner)) with_part 32 (boxed_expr l.fn.first) l.tokens

abbrev pub invariant-turns-loop : goal.invariant-turns-loop
invariant-turns-loop l =
    repeat (turn_at l.extent (ranked_at l.extent l.inner (expr_at l.inner) (l.rank - 1)) l.rank) with_turn (32 - l.counter) (boxed_expr l.left) l.rest ≡ repeat (turn_at l.extent (ranked_at l.extent l.inner (expr_at l.inner) (l.rank - 1)) l.rank) with_turn 32 (boxed_expr l.fn.first) l.tokens
