-- The laws of what is seen.
use Rattle.std.specs.Prelude.{◌≡◌, ◌↔◌, ◌≤◌, ◌⊎◌, ℕ, suc, ◌+◌, Bool, List, [], ◌∷◌, length}
use Rattle.std.specs.List.{Contains}
use Rattle.diagnostics.specs.declared.rule.Rule.TheVariants as rules
use Rattle.diagnostics.specs.declared.diagnostic.Diagnostic.{Diagnostic}
use Rattle.names_model.specs.declared.identifier.Identifier.{Identifier}
use Rattle.names_model.specs.declared.definition.Definition.{Definition}
use Rattle.names_model.specs.Parts.{PartTree, PartNodes, define, mention, seize, seize_all, grant, grant_all, stray, modulion, routine, block, no_parts, more_parts}
use Rattle.names_model.specs.Sizes.{head_size, size_of}
use Rattle.names_model.specs.Definitions.{with_predefined, spelling_at}
use Rattle.names_model.specs.Entries.{entry, found, own_numbers, granted_entries, given_entries, up_entries}
use Rattle.names_model.specs.Seeing.{Reach, outermost, in_modulion, in_block, sees}
use Rattle.names_model.specs.NameRules.{body_reach, told_twice, told_in}
use Rattle.names_laws.specs.Visible.{Up, Sees}

-- The list of what is seen under a name has exactly the definitions of that name that the reach sees. A number at which no
-- definition stands has the empty name.
abbrev pub SeeingLaw : Type 0
SeeingLaw = (text : List Definition) (r : Reach) (n : List ℕ) (d : ℕ) → Contains (sees text r n) d ↔ (Sees text r d × (spelling_at (with_predefined text) d ≡ n))

-- ---- one definition

abbrev mutual
  -- the part opens the reach `q` in the reach `r`, or `q` stands in the one that it opens
  pub IsInside : Reach → ℕ → PartTree → Reach → Type 0
  IsInside r from (modulion n region size ps) q = (q ≡ in_modulion r (suc from) ps) ⊎ StandsIn (in_modulion r (suc from) ps) (suc from) ps q
  IsInside r from (routine n kind params result size ps) q = (q ≡ body_reach r from params result ps) ⊎ StandsIn (body_reach r from params result ps) (from + head_size params result) ps q
  IsInside r from (block size ps) q = (q ≡ in_block r [] from ps) ⊎ StandsIn (in_block r [] from ps) from ps q
  IsInside r from (define c) q = ⊥
  IsInside r from (mention m) q = ⊥
  IsInside r from (seize n) q = ⊥
  IsInside r from (seize_all at) q = ⊥
  IsInside r from (grant n) q = ⊥
  IsInside r from (grant_all at) q = ⊥
  IsInside r from (stray n) q = ⊥

  -- the reach `q` stands in these parts of the reach `r`
  pub StandsIn : Reach → ℕ → PartNodes → Reach → Type 0
  StandsIn r from no_parts q = ⊥
  StandsIn r from (more_parts p ps) q = IsInside r from p q ⊎ StandsIn r (from + size_of p) ps q

-- a reach of a program is its outermost one, or stands in it
abbrev pub IsReachOf : PartNodes → Reach → Type 0
IsReachOf ps q = (q ≡ outermost ps) ⊎ StandsIn (outermost ps) 0 ps q

-- N1 is told in no reach of a program
abbrev pub NoneToldTwice : List Definition → PartNodes → Type 0
NoneToldTwice text ps = (r : Reach) → IsReachOf ps r → told_twice text r ≡ []

-- N1 is told in no reach of a program exactly where it isn't among what is told of the program's names.
abbrev pub ToldLaw : Type 0
ToldLaw = (text : List Definition) (ps : PartNodes) → NoneToldTwice text ps ↔ ((d : Diagnostic) → Contains (told_in text (outermost ps) 0 ps) d → ¬ (d.rule ≡ rules.N1))

-- Where N1 is told nowhere in a program, each of its reaches sees at most one definition under a name.
abbrev pub OneDefinitionLaw : Type 0
OneDefinitionLaw = (text : List Definition) (ps : PartNodes) → NoneToldTwice text ps → (r : Reach) (n : List ℕ) → IsReachOf ps r → length (sees text r n) ≤ 1

-- ---- granting back

abbrev mutual
  -- a part without the SEIZE statements in it
  pub without_seizes_in : PartTree → PartTree
  without_seizes_in (modulion n region size ps) = modulion n region size (without_seizes ps)
  without_seizes_in (routine n kind params result size ps) = routine n kind params result size (without_seizes ps)
  without_seizes_in (block size ps) = block size (without_seizes ps)
  without_seizes_in p = p

  -- parts without SEIZE statements, at any depth
  pub without_seizes : PartNodes → PartNodes
  without_seizes no_parts = no_parts
  without_seizes (more_parts (seize n) ps) = without_seizes ps
  without_seizes (more_parts (seize_all at) ps) = without_seizes ps
  without_seizes (more_parts p ps) = more_parts (without_seizes_in p) (without_seizes ps)

-- What parts have from themselves is the same without all SEIZE statements.
abbrev pub UpWithoutSeizesLaw : Type 0
UpWithoutSeizesLaw = (all : List Definition) (from : ℕ) (ps : PartNodes) → up_entries all from (without_seizes ps) ≡ up_entries all from ps

-- What a modulion gives is the same without all SEIZE statements.
abbrev pub GivenWithoutSeizesLaw : Type 0
GivenWithoutSeizesLaw = (all : List Definition) (from : ℕ) (n : Identifier) (region : Bool) (size : ℕ) (ps : PartNodes) → given_entries all from (modulion n region size (without_seizes ps)) ≡ given_entries all from (modulion n region size ps)

-- Where a modulion, whose own number is given, has no definition of a name from its parts, granting that name enters nothing.
abbrev pub NothingGrantedLaw : Type 0
NothingGrantedLaw = (all : List Definition) (number : ℕ) (region : Bool) (ps : PartNodes) (n : Identifier)
    → ((d : ℕ) → Up all (suc number) ps d → ¬ (spelling_at all d ≡ n.spelling))
    → granted_entries all region (found all (up_entries all (suc number) ps)) (own_numbers (suc number) ps) (grant n) ≡ entry n.at [] ∷ []
