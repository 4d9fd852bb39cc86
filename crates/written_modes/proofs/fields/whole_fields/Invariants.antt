use Rattle.std.proofs.Common.{◌≡◌, ◌++◌, drop, map}
use Rattle.std.specs.Prelude.{option_map}
use Rattle.modes.specs.ModeTree.{field_trees}
use Rattle.written_modes.specs.Fields.{field_view, trees_of_fields}
use Rattle.written_modes.proofs.fields.whole_fields.Given as goal

abbrev pub invariant-loop-field : goal.invariant-loop-field
invariant-loop-field l = option_map (λ rest. field_trees l.fields ++ rest) (trees_of_fields (map field_view (drop l.field-index l.placed))) ≡ trees_of_fields (map field_view l.placed)
