use Rattle.run_checker.specs.Standing.{Holds}
use Rattle.run_checker.proofs.checking.check_events.Given as goal

abbrev pub invariant-loop-place : goal.invariant-loop-place
invariant-loop-place l = Holds l.guarded l.facts l.events l.place l.checker
