use Rattle.code_types.specs.declared.code.Code.{Code}
use Rattle.serial_run.specs.Standing.{AllStand, KeepsJournal}
use Rattle.serial_run.proofs.runner.next_listed.Given as goal

abbrev pub invariant-loop-place : goal.invariant-loop-place
invariant-loop-place l = record {
  journal : KeepsJournal l.fn.kernel l.kernel;
  stand : (code : Code) → AllStand code l.fn.kernel l.fn.runners → AllStand code l.kernel l.runners;
}
