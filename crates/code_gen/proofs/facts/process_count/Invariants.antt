use Rattle.std.proofs.Common.{◌≡◌, ◌≤◌, drop}
use Rattle.std.specs.Prelude.{max}
use Rattle.code_gen.specs.Facts.{behind_processes}
use Rattle.code_gen.proofs.facts.process_count.Given as goal

-- the number so far, and what the bodies that are left make of it
abbrev pub invariant-loop-body : goal.invariant-loop-body
invariant-loop-body l = record {
  place : l.behind ≡ l.body-index;
  few : l.count ≤ l.behind;
  rest : max l.count (behind_processes l.body-index (drop l.body-index l.bodies)) ≡ behind_processes 0 l.bodies;
}
