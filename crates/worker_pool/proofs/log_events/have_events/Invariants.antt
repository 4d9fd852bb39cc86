use Rattle.std.proofs.Common.{◌≡◌, length, drop}
use Rattle.std.specs.List.{list_all}
use Rattle.worker_pool.specs.Gather.{has_log, who_of}
use Rattle.worker_pool.proofs.Following.{Follow}
use Rattle.worker_pool.proofs.log_events.have_events.Given as goal

abbrev pub invariant-loop-event : goal.invariant-loop-event
invariant-loop-event l = record {
  count : length l.nexts.items ≡ length l.logs;
  follow : Follow l.logs l.journal l.event-index l.nexts.items;
  each : list_all (λ event. has_log l.logs (who_of event)) l.journal ≡ list_all (λ event. has_log l.logs (who_of event)) (drop l.event-index l.journal);
}
