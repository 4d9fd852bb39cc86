-- What a reach sees under a name.
use Rattle.std.specs.Prelude.{ℕ, ◌+◌, Bool, true, false, List, [], ◌∷◌, ◌++◌, if◌then◌else◌}
use Rattle.std.specs.List.{list_any}
use Rattle.names_model.specs.declared.definition.Definition.{Definition}
use Rattle.names_model.specs.declared.entry.Entry.{Entry}
use Rattle.names_model.specs.Parts.{PartTree, PartNodes, define, mention, seize, seize_all, grant, grant_all, stray, modulion, routine, block, no_parts, more_parts, parts_in}
use Rattle.names_model.specs.Sizes.{size_of}
use Rattle.names_model.specs.Definitions.{with_predefined, predefined_under}
use Rattle.names_model.specs.Entries.{entry, own_entries, given_entries, found, passed}

-- a reach in a text: its parts with the number of their first definition, and the reach around it; a block with what its head
-- enters
pub data Reach : Type 0 where
  outermost : PartNodes → Reach
  in_modulion : Reach → ℕ → PartNodes → Reach
  in_block : Reach → List Entry → ℕ → PartNodes → Reach

abbrev pub is_seize_all : PartTree → Bool
is_seize_all (seize_all at) = true
is_seize_all (define c) = false
is_seize_all (mention m) = false
is_seize_all (seize n) = false
is_seize_all (grant n) = false
is_seize_all (grant_all at) = false
is_seize_all (stray n) = false
is_seize_all (modulion n region size ps) = false
is_seize_all (routine n kind params result size ps) = false
is_seize_all (block size ps) = false

abbrev pub seizes_all : PartNodes → Bool
seizes_all ps = list_any is_seize_all (parts_in ps)

-- what a part takes by name from around its reach, where `around` is seen
abbrev pub seized_entries : List Definition → (List ℕ → List ℕ) → PartTree → List Entry
seized_entries all around (seize n) = entry n.at (passed all around n.spelling) ∷ []
seized_entries all around (define c) = []
seized_entries all around (mention m) = []
seized_entries all around (seize_all at) = []
seized_entries all around (grant n) = []
seized_entries all around (grant_all at) = []
seized_entries all around (stray n) = []
seized_entries all around (modulion n region size ps) = []
seized_entries all around (routine n kind params result size ps) = []
seized_entries all around (block size ps) = []

-- the entries of a reach in the order of the text: what it defines, what it seizes by name, and what its modulions give
abbrev pub entries_in : List Definition → (List ℕ → List ℕ) → ℕ → PartNodes → List Entry
entries_in all around from no_parts = []
entries_in all around from (more_parts p ps) = (own_entries from p ++ seized_entries all around p ++ given_entries all from p) ++ entries_in all around (from + size_of p) ps

abbrev pub is_empty : List ℕ → Bool
is_empty [] = true
is_empty (x ∷ xs) = false

-- the first list, or the second where it is empty
abbrev pub or_else : List ℕ → List ℕ → List ℕ
or_else xs ys = if is_empty xs then ys else xs

abbrev pub nothing : List ℕ → List ℕ
nothing n = []

-- The definitions that a reach sees under a name, where `text` are the definitions of the text: those of its entries; where
-- there are none, a block and a modulion with SEIZE ALL see what is seen around them, and any other reach the predefined name.
abbrev pub sees : List Definition → Reach → List ℕ → List ℕ
sees text (outermost ps) n = or_else (found (with_predefined text) (entries_in (with_predefined text) nothing 0 ps) n) (predefined_under text n)
sees text (in_modulion r from ps) n = or_else (found (with_predefined text) (entries_in (with_predefined text) (sees text r) from ps) n) (if seizes_all ps then sees text r n else predefined_under text n)
sees text (in_block r head from ps) n = or_else (found (with_predefined text) (head ++ entries_in (with_predefined text) (sees text r) from ps) n) (sees text r n)

-- what is seen around a reach
abbrev pub seen_around : List Definition → Reach → List ℕ → List ℕ
seen_around text (outermost ps) n = []
seen_around text (in_modulion r from ps) n = sees text r n
seen_around text (in_block r head from ps) n = sees text r n

-- the entries of a reach
abbrev pub reach_entries : List Definition → Reach → List Entry
reach_entries text (outermost ps) = entries_in (with_predefined text) nothing 0 ps
reach_entries text (in_modulion r from ps) = entries_in (with_predefined text) (sees text r) from ps
reach_entries text (in_block r head from ps) = head ++ entries_in (with_predefined text) (sees text r) from ps
