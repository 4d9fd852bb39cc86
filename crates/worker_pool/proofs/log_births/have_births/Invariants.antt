use Rattle.std.proofs.Common.{◌≡◌, length}
use Rattle.worker_pool.proofs.Starting.{Begin}
use Rattle.worker_pool.proofs.log_births.have_births.Given as goal

abbrev pub invariant-loop-event : goal.invariant-loop-event
invariant-loop-event l = record {
  count : length l.started.items ≡ length l.logs;
  begin : Begin l.logs l.journal l.event-index l.started.items;
}
