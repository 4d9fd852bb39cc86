use Rattle.std.proofs.Common.{◌≡◌, ◌++◌, drop, map}
use Rattle.process_checks.specs.MetByNumber.{declared_as}
use Rattle.process_checks.proofs.meeting.declared_meetings.Given as goal

abbrev pub invariant-loop-entry : goal.invariant-loop-entry
invariant-loop-entry l = l.found ++ map declared_as (drop l.entry-index l.entry-items) ≡ map declared_as l.evaluation.entries.items
