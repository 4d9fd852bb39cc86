use Rattle.code_machine.specs.Running.{RunsOn}
use Rattle.code_tests.proofs.machine.a_process_starts_with_its_scalars.Given as goal

abbrev pub invariant-loop-text : goal.invariant-loop-text
invariant-loop-text g l = RunsOn l.guarded-inside.code l.machine
