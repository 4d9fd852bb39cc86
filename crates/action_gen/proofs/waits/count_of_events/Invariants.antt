use Rattle.std.proofs.Common.{◌≡◌, ◌+◌, ◌≤◌, drop}
use Rattle.code_scheme.specs.Pieces.{capped}
use Rattle.code_scheme.specs.StatementWaits.{count_of_events}
use Rattle.action_gen.specs.Trees.{delays_of}
use Rattle.action_gen.proofs.waits.count_of_events.Given as goal

abbrev pub invariant-loop-alternative : goal.invariant-loop-alternative
invariant-loop-alternative l = record {
  counted : capped (l.count + count_of_events (delays_of (drop l.alternative-index l.alternatives))) ≡ capped (count_of_events (delays_of l.alternatives));
  few : l.count ≤ 4294967295;
}
