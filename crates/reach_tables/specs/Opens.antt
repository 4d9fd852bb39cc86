-- What is known of a reach that is being opened.
use Rattle.std.specs.Prelude.{◌≡◌, List, [], ◌++◌}
use Rattle.diagnostics.specs.Listing.{SameMembers}
use Rattle.names_model.specs.declared.definition.Definition.{Definition}
use Rattle.names_model.specs.declared.entry.Entry.{Entry}
use Rattle.names_model.specs.NameRules.{told_behind}
use Rattle.reach_tables.specs.declared.opening.Opening.{Opening}
use Rattle.reach_tables.specs.Marks.{Marks}
use Rattle.reach_tables.specs.Scopes.{Holds}

-- its table, its marks and its N1 are those of these entries; N1 may be told once for many
pub record Opens (o : Opening) (all : List Definition) (es : List Entry) : Type 0 where
  pub table : Holds o.table all es
  pub marks : Marks o.marked o.table all
  pub told : SameMembers o.told.items (told_behind all [] es)

-- of the whole that is to be entered behind some entries, the rest is left; of those that are there a fact is known
pub record Entering (P : List Entry → Type 0) (es rest whole : List Entry) : Type 0 where
  pub done : List Entry
  pub holds : P (es ++ done)
  pub is : done ++ rest ≡ whole
