use Rattle.std.proofs.Common.{◌≡◌, drop}
use Rattle.program_ranges.specs.ActionRanges.{names_fit}
use Rattle.program_ranges.proofs.actions.names_fit.Given as goal

abbrev pub invariant-loop-name : goal.invariant-loop-name
invariant-loop-name l =
    names_fit (drop l.name-index l.names) l.count l.program l.body ≡ names_fit l.names l.count l.program l.body
