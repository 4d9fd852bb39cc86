-- Names as they are looked up.
use Rattle.std.specs.Prelude.{List, map}
use Rattle.chill_tree.specs.declared.tree.name.Name.{Name}
use Rattle.names_model.specs.declared.identifier.Identifier.{Identifier}

-- the name of a tree, at its place
abbrev pub identifier : Name → Identifier
identifier n = record { at = n.at; spelling = n.text }

abbrev pub identifiers : List Name → List Identifier
identifiers ns = map identifier ns
