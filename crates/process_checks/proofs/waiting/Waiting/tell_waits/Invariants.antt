use Rattle.std.proofs.Common.{◌++◌, List, drop}
use Rattle.std.specs.Prelude.{flat_map}
use Rattle.diagnostics.specs.declared.diagnostic.Diagnostic.{Diagnostic}
use Rattle.wait_exprs.specs.Views.{wait_trees}
use Rattle.wait_exprs.specs.Split.{told_wait}
use Rattle.process_checks.specs.Telling.{could_be_told, IsToldMore}
use Rattle.process_checks.specs.Waiting.{AreNeeded}
use Rattle.process_checks.specs.Asked.{ground_for, IsWaiting}
use Rattle.process_checks.proofs.WaitsTold.{Left}
use Rattle.process_checks.proofs.waiting.Waiting.tell_waits.Given as goal

-- what is told more of the rest is told more of all; and what is told, and the rest tells, is what all tell
abbrev pub invariant-loop-wait : goal.invariant-loop-wait
invariant-loop-wait l =
    ((after : List Diagnostic) → IsToldMore (flat_map (could_be_told l.self.meetings.now) (wait_trees (drop l.wait-index l.waits))) l.told after
    → IsToldMore (flat_map (could_be_told l.self.meetings.now) (wait_trees l.waits)) l.fn.told after)
    × (IsWaiting l.self → AreNeeded (ground_for l.self) (wait_trees l.waits) → Left (ground_for l.self) (drop l.wait-index l.waits) l.told (l.fn.told ++ flat_map (told_wait (ground_for l.self)) (wait_trees l.waits)))
