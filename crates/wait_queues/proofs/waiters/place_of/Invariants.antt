use Rattle.std.proofs.Common.{◌≡◌, drop}
use Rattle.std.specs.List.{find}
use Rattle.wait_queues.specs.Waiting.{is_of}
use Rattle.wait_queues.proofs.waiters.place_of.Given as goal

abbrev pub invariant-loop-place : goal.invariant-loop-place
invariant-loop-place l = find (is_of l.who) (drop l.place l.waiters.items) ≡ find (is_of l.who) l.waiters.items
