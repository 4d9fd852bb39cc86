-- The places of names.
use Rattle.std.specs.Prelude.{List, map}
use Rattle.chill_base.specs.declared.pos.Pos.{Pos}
use Rattle.chill_tree.specs.declared.tree.name.Name.{Name}

abbrev pub place_of : Name → Pos
place_of n = n.at

abbrev pub places_of : List Name → List Pos
places_of ns = map place_of ns
