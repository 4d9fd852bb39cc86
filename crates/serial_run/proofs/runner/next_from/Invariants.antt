use Rattle.code_types.specs.declared.code.Code.{Code}
use Rattle.serial_run.specs.Standing.{AllStand, KeepsJournal}
use Rattle.serial_run.proofs.Fetching.{RestBetween}
use Rattle.serial_run.proofs.runner.next_from.Given as goal

abbrev pub invariant-loop-k : goal.invariant-loop-k
invariant-loop-k l = record {
  journal : KeepsJournal l.fn.kernel l.kernel;
  stand : (code : Code) → AllStand code l.fn.kernel l.fn.runners → AllStand code l.kernel l.runners;
  rest : RestBetween l.kernel l.runners l.fn.from l.k;
}
