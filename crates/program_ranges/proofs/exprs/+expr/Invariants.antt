use Rattle.std.proofs.Common.{◌≡◌, drop, map}
use Rattle.program_ranges.specs.ExprRanges.{part_ranges, range_in_range, received_ranges, argument_in_range, all_hold, parts_lead, values_fill, arguments_fit, values_fit}
use Rattle.program_ranges.proofs.exprs.+expr.Given as goal

abbrev pub invariant-parts_lead-loop-part : goal.invariant-parts_lead-loop-part
invariant-parts_lead-loop-part l =
    parts_lead l.left (map part_ranges (drop l.part-index l.parts)) l.count l.program l.body ≡ parts_lead l.of (map part_ranges l.parts) l.count l.program l.body

abbrev pub invariant-ranges_in_range-loop-range : goal.invariant-ranges_in_range-loop-range
invariant-ranges_in_range-loop-range l =
    all_hold (map range_in_range (drop l.range-index l.ranges)) l.program l.body ≡ all_hold (map range_in_range l.ranges) l.program l.body

abbrev pub invariant-values_fill-loop-value : goal.invariant-values_fill-loop-value
invariant-values_fill-loop-value l =
    values_fill (map received_ranges (drop l.value-index l.values)) l.left l.program l.body ≡ values_fill (map received_ranges l.values) l.count l.program l.body

abbrev pub invariant-values_fit-loop-number : goal.invariant-values_fit-loop-number
invariant-values_fit-loop-number l =
    values_fit l.callee l.number (map received_ranges (drop l.number l.values)) l.program l.body ≡ values_fit l.callee 0 (map received_ranges l.values) l.program l.body

abbrev pub invariant-arguments_fit-loop-number : goal.invariant-arguments_fit-loop-number
invariant-arguments_fit-loop-number l =
    arguments_fit l.callee l.number (map argument_in_range (drop l.number l.arguments)) l.program l.body ≡ arguments_fit l.callee 0 (map argument_in_range l.arguments) l.program l.body
