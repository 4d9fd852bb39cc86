-- What tables hold of reaches, and what is seen by them.
use Rattle.std.specs.Prelude.{◌≡◌, ℕ, List, [], if◌then◌else◌}
use Rattle.names_model.specs.declared.definition.Definition.{Definition}
use Rattle.names_model.specs.declared.entry.Entry.{Entry}
use Rattle.names_model.specs.Entries.{found}
use Rattle.names_model.specs.Seeing.{Reach, sees, seen_around, or_else}
use Rattle.reach_tables.specs.Held.{Holdings, held}
use Rattle.reach_tables.specs.Books.{Keeps}
use Rattle.reach_tables.specs.declared.book.Book.{Book}
use Rattle.reach_tables.specs.declared.scope.Scope.{Scope, Outermost, Modulion', Block'}
use Rattle.reach_tables.specs.declared.source.Source.{Source}
use Rattle.reach_tables.specs.declared.source.Source.TheVariants.{Nothing, Table, Around}

-- the table holds what entries have under each name
pub record Holds (t : Holdings) (all : List Definition) (es : List Entry) : Type 0 where
  pub by : (n : List ℕ) → held t n ≡ found all es n

-- the definitions that tables show under a name
abbrev pub shown : Book → Scope → List ℕ → List ℕ
shown b (Outermost t) n = or_else (held t n) (held b.predefined n)
shown b (Modulion' t all p o) n = or_else (held t n) (if all then shown b o n else held b.predefined n)
shown b (Block' t p o) n = or_else (held t n) (shown b o n)

-- those that the tables around show
abbrev pub shown_around : Book → Scope → List ℕ → List ℕ
shown_around b (Outermost t) n = []
shown_around b (Modulion' t all p o) n = shown b o n
shown_around b (Block' t p o) n = shown b o n

-- the book has the definitions of the text, and the tables show what the reach sees
pub record Shows (b : Book) (s : Scope) (text : List Definition) (r : Reach) : Type 0 where
  pub keeps : Keeps b text
  pub by : (n : List ℕ) → shown b s n ≡ sees text r n
  pub around : (n : List ℕ) → shown_around b s n ≡ seen_around text r n

-- the definitions of which a source tells under a name
abbrev pub told_by : Source → List ℕ → List ℕ
told_by Nothing n = []
told_by (Table t) n = held t.now n
told_by (Around b s) n = shown b.now s.now n
