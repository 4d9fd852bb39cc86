use Rattle.std.proofs.Common.{◌≡◌, drop, map}
use Rattle.written_modes.specs.Fields.{field_view, told_sharing}
use Rattle.written_modes.proofs.fields.tell_sharing.Given as goal

abbrev pub invariant-loop-other : goal.invariant-loop-other
invariant-loop-other l = record {
  told : l.told ≡ l.fn.told;
  rest : told_sharing (map field_view (drop l.other-index l.earlier)) (field_view l.field) ≡ told_sharing (map field_view l.earlier) (field_view l.field);
}
