use Rattle.std.proofs.Common.{◌≡◌, None, drop}
use Rattle.program_ranges.specs.Messages.{locals_follow}
use Rattle.program_ranges.proofs.messages.locals_follow.Given as goal

abbrev pub invariant-loop-local : goal.invariant-loop-local
invariant-loop-local l =
    locals_follow l.first (drop l.local-index l.locals) l.body ≡ locals_follow None l.locals l.body
