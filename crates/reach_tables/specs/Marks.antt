-- Which numbers are in a table.
use Rattle.std.specs.Prelude.{◌≡◌, ℕ, Bool, true, List, nat_eq}
use Rattle.std.specs.Str.{bytes_eq}
use Rattle.std.specs.List.{list_any}
use Rattle.names_model.specs.declared.definition.Definition.{Definition}
use Rattle.names_model.specs.Definitions.{spelling_at, under}
use Rattle.names_model.specs.Entries.{is_among, once_behind}
use Rattle.reach_tables.specs.Held.{Holdings, held}

-- the number is marked
abbrev pub is_marked : List ℕ → ℕ → Bool
is_marked marks d = list_any (nat_eq d) marks

-- those are marked that the table has under their own names, and it has none under another name
pub record Marks (marks : List ℕ) (t : Holdings) (all : List Definition) : Type 0 where
  pub by : (d : ℕ) → is_marked marks d ≡ is_among d (held t (spelling_at all d))
  pub own : (n : List ℕ) (d : ℕ) → is_among d (held t n) ≡ true → bytes_eq (spelling_at all d) n ≡ true

-- the table has each of the numbers under its own name
pub record EachHeld (all : List Definition) (t : Holdings) (ds : List ℕ) : Type 0 where
  pub by : (d : ℕ) → is_among d ds ≡ true → is_among d (held t (spelling_at all d)) ≡ true

-- numbers are put into a table, each once under its own name, and marked
pub record Added (all : List Definition) (ds : List ℕ) (t t' : Holdings) (new : List ℕ) : Type 0 where
  pub by : (n : List ℕ) → held t' n ≡ once_behind (held t n) (under all n ds)
  pub marks : Marks new t' all
