use Rattle.std.proofs.Common.{drop}
use Rattle.std.specs.Prelude.{◌↔◌}
use Rattle.modes.specs.ModeTree.{field_nodes, field_trees}
use Rattle.modes.specs.Similar.{SimilarFields}
use Rattle.modes.proofs.similarity.+similar.Given as goal

abbrev pub invariant-last_field_beside-loop-i : goal.invariant-last_field_beside-loop-i
invariant-last_field_beside-loop-i l =
    SimilarFields (field_nodes (field_trees l.fields)) (field_nodes (field_trees l.others)) ↔ SimilarFields (field_nodes (field_trees (drop l.i l.fields))) (field_nodes (field_trees (drop l.i l.others)))
