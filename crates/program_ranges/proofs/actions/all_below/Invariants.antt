use Rattle.std.proofs.Common.{◌≡◌, drop}
use Rattle.program_ranges.specs.ActionRanges.{all_below}
use Rattle.program_ranges.proofs.actions.all_below.Given as goal

abbrev pub invariant-loop-number : goal.invariant-loop-number
invariant-loop-number l =
    all_below l.limit (drop l.number-index l.numbers) ≡ all_below l.limit l.numbers
