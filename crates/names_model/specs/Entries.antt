-- The entries of reaches: which definitions each place of a text enters into the reach that it stands in. A definition is
-- entered under its own name.
use Rattle.std.specs.Prelude.{ℕ, suc, ◌+◌, ◌==◌, Bool, ◌&&◌, not, List, [], ◌∷◌, ◌++◌, flat_map, length, if◌then◌else◌}
use Rattle.std.specs.List.{filter, list_any}
use Rattle.chill_base.specs.declared.pos.Pos.{Pos}
use Rattle.names_model.specs.declared.identifier.Identifier.{Identifier}
use Rattle.names_model.specs.declared.definition.Definition.{Definition}
use Rattle.names_model.specs.declared.entry.Entry.{Entry}
use Rattle.names_model.specs.declared.part.Clause.{Clause}
use Rattle.names_model.specs.Kinds.{is_location}
use Rattle.names_model.specs.Parts.{PartTree, PartNodes, define, mention, seize, seize_all, grant, grant_all, stray, modulion, routine, block, no_parts, more_parts, parts_in}
use Rattle.names_model.specs.Sizes.{elements_in, clause_size, clauses_size, size_of}
use Rattle.names_model.specs.Definitions.{under, elements_at, spelling_at, is_kind_at}

-- the definitions that one place enters
abbrev pub entry : Pos → List ℕ → Entry
entry at numbers = record { at = at; numbers = numbers }

abbrev pub numbers_of : List Entry → List ℕ
numbers_of es = flat_map (λ e. e.numbers) es

-- each name at its place, numbered on
abbrev pub named_entries : ℕ → List Identifier → List Entry
named_entries from [] = []
named_entries from (n ∷ ns) = entry n.at (from ∷ []) ∷ named_entries (suc from) ns

-- the elements in the modes of parameters, which are entered around the body
abbrev pub param_elements : ℕ → List Clause → List Entry
param_elements from [] = []
param_elements from (c ∷ cs) = named_entries (from + length c.names) (elements_in c.text) ++ param_elements (from + clause_size c) cs

-- the parameters themselves, which are entered into the body
abbrev pub param_names : ℕ → List Clause → List Entry
param_names from [] = []
param_names from (c ∷ cs) = named_entries from c.names ++ param_names (from + clause_size c) cs

-- what a part, whose first definition has the number `from`, defines directly in its reach
abbrev pub own_entries : ℕ → PartTree → List Entry
own_entries from (define c) = named_entries from c.names ++ named_entries (from + length c.names) (elements_in c.text)
own_entries from (modulion n region size ps) = entry n.at (from ∷ []) ∷ []
own_entries from (routine n kind params result size ps) = entry n.at (from ∷ []) ∷ param_elements (suc from) params ++ named_entries (suc from + clauses_size params) (elements_in result)
own_entries from (mention m) = []
own_entries from (seize n) = []
own_entries from (seize_all at) = []
own_entries from (grant n) = []
own_entries from (grant_all at) = []
own_entries from (stray n) = []
own_entries from (block size ps) = []

-- what parts define directly in their reach
abbrev pub own_numbers : ℕ → PartNodes → List ℕ
own_numbers from no_parts = []
own_numbers from (more_parts p ps) = numbers_of (own_entries from p) ++ own_numbers (from + size_of p) ps

-- ---- what is had under a name

abbrev pub is_among : ℕ → List ℕ → Bool
is_among d ds = list_any (λ e. e == d) ds

-- numbers behind others, each once
abbrev pub once_behind : List ℕ → List ℕ → List ℕ
once_behind xs [] = xs
once_behind xs (y ∷ ys) = once_behind (if is_among y xs then xs else xs ++ y ∷ []) ys

-- the definitions that entries have under a name, each once
abbrev pub found : List Definition → List Entry → List ℕ → List ℕ
found all es n = once_behind [] (under all n (numbers_of es))

-- ---- what passes the border of a modulion

-- the elements that go with a definition, where `has` has them
abbrev pub along : List Definition → (List ℕ → List ℕ) → ℕ → List ℕ
along all has d = filter (λ e. is_among e (has (spelling_at all e))) (elements_at all d)

-- what passes under a name of which `has` tells the definitions, with the elements that go along
abbrev pub passed : List Definition → (List ℕ → List ℕ) → List ℕ → List ℕ
passed all has n = has n ++ flat_map (along all has) (has n)

-- what GRANT ALL gives of what is defined directly in a modulion; a region keeps its locations
abbrev pub given_all : List Definition → Bool → List ℕ → List ℕ
given_all all region own = filter (λ d. not (region && is_kind_at is_location all d)) own

-- what a part of a modulion enters into the reach around it
abbrev pub granted_entries : List Definition → Bool → (List ℕ → List ℕ) → List ℕ → PartTree → List Entry
granted_entries all region has own (grant n) = entry n.at (passed all has n.spelling) ∷ []
granted_entries all region has own (grant_all at) = entry at (given_all all region own) ∷ []
granted_entries all region has own (define c) = []
granted_entries all region has own (mention m) = []
granted_entries all region has own (seize n) = []
granted_entries all region has own (seize_all at) = []
granted_entries all region has own (stray n) = []
granted_entries all region has own (modulion n inner size ps) = []
granted_entries all region has own (routine n kind params result size ps) = []
granted_entries all region has own (block size ps) = []

abbrev mutual
  -- what a modulion among the parts of a reach enters into that reach
  pub given_entries : List Definition → ℕ → PartTree → List Entry
  given_entries all from (modulion n region size ps) = flat_map (granted_entries all region (found all (up_entries all (suc from) ps)) (own_numbers (suc from) ps)) (parts_in ps)
  given_entries all from (define c) = []
  given_entries all from (mention m) = []
  given_entries all from (seize n) = []
  given_entries all from (seize_all at) = []
  given_entries all from (grant n) = []
  given_entries all from (grant_all at) = []
  given_entries all from (stray n) = []
  given_entries all from (routine n kind params result size ps) = []
  given_entries all from (block size ps) = []

  -- what a reach has from itself and from its modulions
  pub up_entries : List Definition → ℕ → PartNodes → List Entry
  up_entries all from no_parts = []
  up_entries all from (more_parts p ps) = (own_entries from p ++ given_entries all from p) ++ up_entries all (from + size_of p) ps
