use Rattle.std.proofs.Common.{◌≡◌, drop, map}
use Rattle.written_modes.specs.Fields.{field_view, all_placed}
use Rattle.written_modes.proofs.fields.all_placed.Given as goal

abbrev pub invariant-loop-field : goal.invariant-loop-field
invariant-loop-field l = all_placed (map field_view (drop l.field-index l.fields)) ≡ all_placed (map field_view l.fields)
