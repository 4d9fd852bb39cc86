use Rattle.std.proofs.Common.{◌≡◌, drop}
use Rattle.program_ranges.specs.ActionRanges.{all_exceptions}
use Rattle.program_ranges.proofs.actions.all_exceptions.Given as goal

abbrev pub invariant-loop-number : goal.invariant-loop-number
invariant-loop-number l =
    all_exceptions (drop l.number-index l.numbers) l.program ≡ all_exceptions l.numbers l.program
