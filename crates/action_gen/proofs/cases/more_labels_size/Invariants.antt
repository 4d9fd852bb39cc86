use Rattle.std.proofs.Common.{◌≡◌, ◌+◌, ◌≤◌, drop}
use Rattle.code_scheme.specs.Pieces.{capped}
use Rattle.action_gen.proofs.Labels.{more_labels_size}
use Rattle.action_gen.proofs.cases.more_labels_size.Given as goal

abbrev pub invariant-loop-label : goal.invariant-loop-label
invariant-loop-label l = record {
  counted : capped (l.size + more_labels_size (drop l.label-index l.labels)) ≡ capped (more_labels_size l.labels);
  few : l.size ≤ 4294967295;
}
