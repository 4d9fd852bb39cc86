use Rattle.std.proofs.Common.{◌≡◌, ◌++◌, drop, map}
use Rattle.written_modes.specs.Wholes.{tree_there}
use Rattle.written_modes.specs.Places.{placed_tree}
use Rattle.written_modes.specs.Fields.{field_view, seen_as}
use Rattle.written_modes.proofs.written.add_names.Given as goal

abbrev pub invariant-loop-name : goal.invariant-loop-name
invariant-loop-name l =
    map field_view l.placed.items ++ map (seen_as (tree_there l.mode) (placed_tree l.at)) (drop l.name-index l.names)
    ≡ map field_view l.fn.placed.items ++ map (seen_as (tree_there l.mode) (placed_tree l.at)) l.names
