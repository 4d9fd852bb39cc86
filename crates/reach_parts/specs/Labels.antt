-- The labels of the actions around a place.
use Rattle.std.specs.Prelude.{List, []}
use Rattle.chill_tree.specs.declared.tree.name.Name.{Name}
use Rattle.names_model.specs.StatementParts.{labelled}
use Rattle.reach_parts.specs.declared.labels.Labels.{Labels, Empty, Around'}

-- as a list, the innermost first
abbrev pub labels_in : Labels → List Name
labels_in Empty = []
labels_in (Around' label p outer) = labelled label.now (labels_in outer)
