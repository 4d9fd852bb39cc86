use Rattle.std.proofs.Common.{◌≡◌, drop}
use Rattle.modes.specs.ModeTree.{field_nodes, field_trees}
use Rattle.modes.specs.Language.{fields_fit}
use Rattle.modes.proofs.language.+fitting.Given as goal

abbrev pub invariant-fields_fit-loop-field : goal.invariant-fields_fit-loop-field
invariant-fields_fit-loop-field l =
    fields_fit (field_nodes (field_trees (drop l.field-index l.fields))) ≡ fields_fit (field_nodes (field_trees l.fields))
