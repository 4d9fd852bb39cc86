-- Entries of one definition each.
use Rattle.std.specs.Prelude.{List, [], ◌∷◌, map}
use Rattle.names_model.specs.declared.entry.Entry.{Entry}
use Rattle.names_model.specs.Entries.{entry}
use Rattle.reach_tables.specs.declared.place.Place.{Place}

-- the entry of the one definition
abbrev pub single : Place → Entry
single p = entry p.at (p.number ∷ [])

abbrev pub singles : List Place → List Entry
singles ps = map single ps
