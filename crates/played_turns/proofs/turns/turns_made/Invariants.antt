use Rattle.code_machine.specs.Running.{RunsOn}
use Rattle.played_turns.proofs.turns.turns_made.Given as goal

abbrev pub invariant-loop-place : goal.invariant-loop-place
invariant-loop-place l = RunsOn l.guarded l.machine
