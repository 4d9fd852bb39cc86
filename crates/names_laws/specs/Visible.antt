-- What a reach sees, in the words of the standard's chapter on visibility. A definition is entered under its own name, so a
-- name is compared only where a statement writes one.
use Rattle.std.specs.Prelude.{◌≡◌, ℕ, suc, ◌+◌, ◌<◌, ◌≤◌, Bool, IsTrue, List, [], length}
use Rattle.std.specs.List.{Contains}
use Rattle.chill_base.specs.declared.pos.Pos.{Pos}
use Rattle.names_model.specs.declared.identifier.Identifier.{Identifier}
use Rattle.names_model.specs.declared.definition.Definition.{Definition}
use Rattle.names_model.specs.declared.entry.Entry.{Entry}
use Rattle.names_model.specs.Kinds.{is_location}
use Rattle.names_model.specs.Parts.{PartTree, PartNodes, seize, seize_all, grant, grant_all, modulion, more_parts, parts_in}
use Rattle.names_model.specs.Sizes.{size_of}
use Rattle.names_model.specs.Definitions.{with_predefined, spelling_at, elements_at, is_kind_at}
use Rattle.names_model.specs.Entries.{numbers_of, own_numbers}
use Rattle.names_model.specs.Seeing.{Reach, outermost, in_modulion, in_block}

-- a modulion stands among parts whose first definition has the number `from`: its own number, whether it is a region, and
-- its parts
pub data HasModulion : ℕ → PartNodes → ℕ → Bool → PartNodes → Type 0 where
  -- it is the first of them
  first : {name : Identifier} {from size : ℕ} {region : Bool} {inner ps : PartNodes}
      → HasModulion from (more_parts (modulion name region size inner) ps) from region inner
  -- it stands behind the first
  later : {p : PartTree} {from number : ℕ} {region : Bool} {inner ps : PartNodes}
      → HasModulion (from + size_of p) ps number region inner
      → HasModulion from (more_parts p ps) number region inner

-- parts whose first definition has the number `from` have a definition from themselves, without what is seen around them
pub data Up (all : List Definition) : ℕ → PartNodes → ℕ → Type 0 where
  -- it is defined directly in them
  own : {from d : ℕ} {ps : PartNodes} → Contains (own_numbers from ps) d → Up all from ps d
  -- a modulion among them grants its name, and has it
  granted : {from number d : ℕ} {region : Bool} {ps inner : PartNodes}
      → HasModulion from ps number region inner
      → (n : Identifier) → Contains (parts_in inner) (grant n)
      → spelling_at all d ≡ n.spelling → Up all (suc number) inner d
      → Up all from ps d
  -- it goes along as an element of a mode that a modulion among them grants by name, where the modulion has both
  granted_along : {from number d : ℕ} {region : Bool} {ps inner : PartNodes}
      → HasModulion from ps number region inner
      → (n : Identifier) → Contains (parts_in inner) (grant n)
      → (mode : ℕ) → spelling_at all mode ≡ n.spelling → Up all (suc number) inner mode
      → Contains (elements_at all mode) d → Up all (suc number) inner d
      → Up all from ps d
  -- a modulion among them grants ALL, and it is defined directly there, and is no location of a region
  granted_all : {from number d : ℕ} {region : Bool} {ps inner : PartNodes}
      → HasModulion from ps number region inner
      → (at : Pos) → Contains (parts_in inner) (grant_all at)
      → Contains (own_numbers (suc number) inner) d → ¬ (IsTrue region × IsTrue (is_kind_at is_location all d))
      → Up all from ps d

-- parts seize a definition by a name, where some are seen around them
pub data Seized (all : List Definition) (around : ℕ → Type 0) (ps : PartNodes) (d : ℕ) : Type 0 where
  -- they seize its name
  seized : (n : Identifier) → Contains (parts_in ps) (seize n)
      → spelling_at all d ≡ n.spelling → around d
      → Seized all around ps d
  -- it goes along as an element of a mode that they seize, where both are seen around them
  seized_along : (n : Identifier) → Contains (parts_in ps) (seize n)
      → (mode : ℕ) → spelling_at all mode ≡ n.spelling → around mode
      → Contains (elements_at all mode) d → around d
      → Seized all around ps d

-- a reach enters a definition: by the head of its block, from its parts, or by seizing its name
pub data Entered (all : List Definition) (around : ℕ → Type 0) (head : List Entry) (from : ℕ) (ps : PartNodes) (d : ℕ) : Type 0 where
  by_head : Contains (numbers_of head) d → Entered all around head from ps d
  by_parts : Up all from ps d → Entered all around head from ps d
  by_name : Seized all around ps d → Entered all around head from ps d

-- a definition is entered; or none of its name is, and it is there otherwise
pub data Had (all : List Definition) (entered otherwise : ℕ → Type 0) (d : ℕ) : Type 0 where
  at_once : entered d → Had all entered otherwise d
  failing : ((e : ℕ) → entered e → ¬ (spelling_at all e ≡ spelling_at all d)) → otherwise d
      → Had all entered otherwise d

-- the predefined definitions stand behind those of the text
pub record IsPredefined (text : List Definition) (d : ℕ) : Type 0 where
  pub behind : length text ≤ d
  pub within : d < length (with_predefined text)

-- what a modulion sees under names of which nothing is entered: with SEIZE ALL what is seen around it, else what is predefined
pub data Inherited (text : List Definition) (around : ℕ → Type 0) (ps : PartNodes) (d : ℕ) : Type 0 where
  from_around : (at : Pos) → Contains (parts_in ps) (seize_all at) → around d → Inherited text around ps d
  from_language : ((at : Pos) → ¬ Contains (parts_in ps) (seize_all at)) → IsPredefined text d → Inherited text around ps d

-- nothing stands around the outermost reach
abbrev pub NoneAround : ℕ → Type 0
NoneAround d = ⊥

-- a reach sees a definition, where `text` are the definitions of the text
abbrev pub Sees : List Definition → Reach → ℕ → Type 0
Sees text (outermost ps) d = Had (with_predefined text) (Entered (with_predefined text) NoneAround [] 0 ps) (IsPredefined text) d
Sees text (in_modulion r from ps) d = Had (with_predefined text) (Entered (with_predefined text) (Sees text r) [] from ps) (Inherited text (Sees text r) ps) d
Sees text (in_block r head from ps) d = Had (with_predefined text) (Entered (with_predefined text) (Sees text r) head from ps) (Sees text r) d
