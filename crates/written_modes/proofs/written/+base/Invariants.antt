use Rattle.std.proofs.Common.{◌≡◌, ◌++◌, drop, map}
use Rattle.chill_tree.specs.ModeTree.{field_nodes, field_trees}
use Rattle.checks_model.specs.WrittenModes.{told_in_fields, fields_there}
use Rattle.constant_operators.specs.Grounds.{ground_of, HasGround}
use Rattle.laid_laws.specs.Few.{AreFew}
use Rattle.written_modes.specs.Fields.{field_view, field_seen}
use Rattle.written_modes.proofs.written.+base.Given as goal

abbrev pub invariant-structure_mode-loop-field : goal.invariant-structure_mode-loop-field
invariant-structure_mode-loop-field l =
    let rest = field_nodes (field_trees (drop l.field-index l.fields)) in
    let whole = field_nodes (field_trees l.fields) in
    let g = ground_of l.ground in
    HasGround l.ground → AreFew g →
    record {
      told : l.told ++ told_in_fields g rest ≡ l.fn.told ++ told_in_fields g whole;
      placed : map field_view l.placed.items ++ map (field_seen g) (fields_there g rest) ≡ map (field_seen g) (fields_there g whole);
    }
