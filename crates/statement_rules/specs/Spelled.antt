-- The exceptions that a handler lists, and a set of their spellings.
use Rattle.std.specs.Prelude.{◌≡◌, ℕ, Bool, ◌||◌, List}
use Rattle.std.specs.List.{list_any}
use Rattle.std.specs.Str.{bytes_eq}
use Rattle.std.specs.HashSet.{HashSet, contains_by}
use Rattle.std.specs.declared.alloc.Global.{Global}
use Rattle.std.specs.declared.vec.Vec.{Vec}
use Rattle.chill_tree.specs.declared.tree.name.Name.{Name}
use Rattle.checks_model.specs.ActionRules.{one_spelling}

abbrev pub has_text : {S : Type 0} → HashSet (Vec ℕ Global) S → List ℕ → Bool
has_text s n = contains_by (λ k. bytes_eq n k.items) s

-- one of the names has this spelling
abbrev pub is_spelled : List Name → List ℕ → Bool
is_spelled names n = list_any (λ e. bytes_eq (one_spelling e.text) n) names

-- the set has the spellings of the names, and no others
abbrev pub Spells : {S : Type 0} → HashSet (Vec ℕ Global) S → List Name → Type 0
Spells s names = (n : List ℕ) → has_text s n ≡ is_spelled names n

-- the new set has what the old one has, and a text besides
abbrev pub HasAdded : {S : Type 0} → List ℕ → HashSet (Vec ℕ Global) S → HashSet (Vec ℕ Global) S → Type 0
HasAdded n old new = (q : List ℕ) → has_text new q ≡ (has_text old q || bytes_eq n q)
