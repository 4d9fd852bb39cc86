use Rattle.std.proofs.Common.{drop}
use Rattle.code_scheme.specs.StatementSize.{more_labels_code}
use Rattle.expr_gen.specs.Putting.{Keeps}
use Rattle.expr_gen.proofs.Appending.{StillTo}
use Rattle.action_gen.proofs.Labels.{more_labels_size}
use Rattle.action_gen.proofs.cases.put_more_labels.Given as goal

abbrev pub invariant-loop-label : goal.invariant-loop-label
invariant-loop-label l = record {
  left : StillTo (λ at. more_labels_code l.kept l.labels) (more_labels_size l.labels)
      (λ at. more_labels_code l.kept (drop l.label-index l.labels)) (more_labels_size (drop l.label-index l.labels))
      l.initial.draft.code l.draft.code;
  keeps : Keeps l.initial.draft.code l.draft.code;
}
