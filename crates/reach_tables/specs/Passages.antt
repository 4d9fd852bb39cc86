-- What passed a border before.
use Rattle.std.specs.Prelude.{◌≡◌, ℕ, true, List, [], ◌⊎◌, None}
use Rattle.names_model.specs.declared.definition.Definition.{Definition}
use Rattle.names_model.specs.declared.entry.Entry.{Entry}
use Rattle.names_model.specs.Entries.{is_among, numbers_of, passed}
use Rattle.reach_tables.specs.declared.opening.Opening.{Opening}
use Rattle.reach_tables.specs.Held.{Holdings, held}
use Rattle.reach_tables.specs.Opens.{Opens}
use Rattle.reach_tables.specs.Tellings.{firsts}

-- each of some numbers is among others
abbrev pub AreAmong : (ds es : List ℕ) → Type 0
AreAmong ds es = (d : ℕ) → is_among d ds ≡ true → is_among d es ≡ true

-- Of these entries a reach is known, and of each name under which something is noted that what passes under it, where `has` has
-- it, was entered before; noted is the first of it of each name.
pub record Passes (o : Opening) (noted : Holdings) (all : List Definition) (has : List ℕ → List ℕ) (es : List Entry) : Type 0 where
  pub opens : Opens o all es
  pub before : (n : List ℕ) → (held noted n ≡ []) ⊎ ((held noted n ≡ firsts all None (passed all has n)) × AreAmong (passed all has n) (numbers_of es))
