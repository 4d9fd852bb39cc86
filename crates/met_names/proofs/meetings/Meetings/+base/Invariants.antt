use Rattle.std.proofs.Common.{◌≡◌, ◌++◌, drop}
use Rattle.chill_tree.specs.ModeTree.{field_nodes, field_trees}
use Rattle.met_names.specs.Facts.{told_source}
use Rattle.met_names.specs.Sources.{over_fields}
use Rattle.met_names.proofs.meetings.Meetings.+base.Given as goal

abbrev pub invariant-tell_in_fields-loop-field : goal.invariant-tell_in_fields-loop-field
invariant-tell_in_fields-loop-field l =
    l.told ++ over_fields (told_source l.self) (field_nodes (field_trees (drop l.field-index l.fields))) ≡ l.fn.told ++ over_fields (told_source l.self) (field_nodes (field_trees l.fields))
