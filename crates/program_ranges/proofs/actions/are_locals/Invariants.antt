use Rattle.std.proofs.Common.{◌≡◌, drop}
use Rattle.program_ranges.specs.ActionRanges.{are_locals}
use Rattle.program_ranges.proofs.actions.are_locals.Given as goal

abbrev pub invariant-loop-local : goal.invariant-loop-local
invariant-loop-local l =
    are_locals (drop l.local-index l.locals) l.count l.body ≡ are_locals l.locals l.count l.body
