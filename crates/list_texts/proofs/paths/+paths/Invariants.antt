use Rattle.std.proofs.Common.{◌≡◌, ◌++◌, drop, pos, ◌+ℤ◌}
use Rattle.modes.specs.ModeTree.{mode_tree, field_nodes, field_trees}
use Rattle.list_texts.specs.Paths.{in_elements, element_path, paths_of, paths_of_fields}
use Rattle.list_texts.proofs.paths.+paths.Given as goal

abbrev pub invariant-push_field_paths-loop-field : goal.invariant-push_field_paths-loop-field
invariant-push_field_paths-loop-field l =
    l.out ++ paths_of_fields (field_nodes (field_trees (drop l.field-index l.fields))) l.path ≡ l.fn.out ++ paths_of_fields (field_nodes (field_trees l.fields)) l.path

abbrev pub invariant-push_paths-loop-k : goal.invariant-push_paths-loop-k
invariant-push_paths-loop-k l = l.out ≡ l.initial.out ++ in_elements l.k (λ k. paths_of (mode_tree l.element.value) (element_path l.path (l.low +ℤ pos k)))
