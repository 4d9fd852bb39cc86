use Rattle.std.proofs.Common.{◌≡◌, ◌++◌, drop, length}
use Rattle.process_checks.specs.MetByNumber.{used_from}
use Rattle.process_checks.proofs.meeting.used_meetings.Given as goal

abbrev pub invariant-loop-origin : goal.invariant-loop-origin
invariant-loop-origin l =
    l.found ++ used_from l.evaluation.entries.items (length l.found) (drop l.origin-index l.origin-items) ≡ used_from l.evaluation.entries.items 0 l.evaluation.origins
