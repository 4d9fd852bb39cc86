-- What is so of all that a reach sees: where it is so around, and of what stands in it.
use Rattle.std.proofs.Common.{◌≡◌, ℕ, suc, Bool, List, [], Some, arith, Contains, IsTrue}
use Rattle.std.specs.Prelude.{slice_get}
use Rattle.std.proofs.lemmas.Option.{slice_get_within}
use Rattle.chill_base.specs.declared.pos.Pos.{Pos}
use Rattle.names_model.specs.declared.identifier.Identifier.{Identifier}
use Rattle.names_model.specs.declared.definition.Inside.{Inside}
use Rattle.names_model.specs.declared.definition.Definition.{Definition}
use Rattle.names_model.specs.declared.entry.Entry.{Entry}
use Rattle.names_model.specs.Kinds.{is_location}
use Rattle.names_model.specs.Parts.{PartNodes, grant, grant_all, parts_in}
use Rattle.names_model.specs.Definitions.{definitions_in, with_predefined, spelling_at, elements_at, is_kind_at}
use Rattle.names_model.specs.Entries.{numbers_of, own_numbers}
use Rattle.names_model.specs.Seeing.{Reach, outermost, in_modulion, in_block}
use Rattle.names_laws.specs.Visible.{HasModulion, Up, own, granted, granted_along, granted_all, Seized, seized, seized_along, Entered, by_head, by_parts, by_name, Had, at_once, failing, IsPredefined, Inherited, from_around, from_language, NoneAround, Sees}
use Rattle.names_laws.proofs.Members.{none_in}
use Rattle.written_laws.proofs.Rows.{AreSized}
use Rattle.reached_laws.proofs.Upward.{up_between}
use Rattle.reached_laws.proofs.Standing.{ArePlain, StandsIn, plain_parts, parts_long, Stand, found}

module _ (text : List Definition) where
  abbrev all : List Definition
  all = with_predefined text

  -- what is so of a definition of the text
  abbrev pub Fact : Type 1
  Fact = ℕ → Definition → Type 0

  -- it is so of all that a reach sees
  abbrev pub IsGood : Fact → Reach → Type 0
  IsGood Q r = (d : ℕ) (x : Definition) → slice_get text d ≡ Some x → Sees text r d → Q d x

  -- it is so of what stands somewhere, or in a block there
  abbrev pub Fits : Fact → Inside → Type 0
  Fits Q i = (d : ℕ) (x : Definition) → slice_get text d ≡ Some x → StandsIn i x → Q d x

  not_predefined : {X : Type 0} (d : ℕ) (x : Definition) → slice_get text d ≡ Some x → IsPredefined text d → X
  not_predefined d x at is = let less = slice_get_within text d x at in let behind = is.behind in absurd (let none : ⊥ = omega (arith, less, behind) in none)

  seized_good : (Q : Fact) (around : ℕ → Type 0) (ps : PartNodes) (d : ℕ) (x : Definition) → (around d → Q d x) → Seized all around ps d → Q d x
  seized_good Q around ps d x good (seized n there e a) = good a
  seized_good Q around ps d x good (seized_along n there mode e am element a) = good a

  entered_good : (Q : Fact) (around : ℕ → Type 0) (head : List Entry) (from : ℕ) (ps : PartNodes) (d : ℕ) (x : Definition) → (Contains (numbers_of head) d → Q d x) → (Up all from ps d → Q d x) → (around d → Q d x) → Entered all around head from ps d → Q d x
  entered_good Q around head from ps d x heads ups good (by_head c) = heads c
  entered_good Q around head from ps d x heads ups good (by_parts u) = ups u
  entered_good Q around head from ps d x heads ups good (by_name s) = seized_good Q around ps d x good s

  pub block_good : (Q : Fact) (r : Reach) (head : List Entry) (from : ℕ) (ps : PartNodes) → ((d : ℕ) (x : Definition) → slice_get text d ≡ Some x → Contains (numbers_of head) d → Q d x) → ((d : ℕ) (x : Definition) → slice_get text d ≡ Some x → Up all from ps d → Q d x) → IsGood Q r → IsGood Q (in_block r head from ps)
  block_good Q r head from ps heads ups good d x at h = by h
    where
      by : Had all (Entered all (Sees text r) head from ps) (Sees text r) d → Q d x
      by (at_once e) = entered_good Q (Sees text r) head from ps d x (heads d x at) (ups d x at) (good d x at) e
      by (failing none s) = good d x at s

  pub modulion_good : (Q : Fact) (r : Reach) (from : ℕ) (ps : PartNodes) → ((d : ℕ) (x : Definition) → slice_get text d ≡ Some x → Up all from ps d → Q d x) → IsGood Q r → IsGood Q (in_modulion r from ps)
  modulion_good Q r from ps ups good d x at h = by h
    where
      other : Inherited text (Sees text r) ps d → Q d x
      other (from_around p there s) = good d x at s
      other (from_language none p) = not_predefined d x at p

      by : Had all (Entered all (Sees text r) [] from ps) (Inherited text (Sees text r) ps) d → Q d x
      by (at_once e) = entered_good Q (Sees text r) [] from ps d x (λ c. absurd (none_in d c)) (ups d x at) (good d x at) e
      by (failing none s) = other s

  pub outermost_good : (Q : Fact) (ps : PartNodes) → ((d : ℕ) (x : Definition) → slice_get text d ≡ Some x → Up all 0 ps d → Q d x) → IsGood Q (outermost ps)
  outermost_good Q ps ups d x at h = by h
    where
      by : Had all (Entered all NoneAround [] 0 ps) (IsPredefined text) d → Q d x
      by (at_once e) = entered_good Q NoneAround [] 0 ps d x (λ c. absurd (none_in d c)) (ups d x at) (λ none. absurd none) e
      by (failing none p) = not_predefined d x at p

  -- what plain parts have from themselves stands in them
  pub plain_ups : (Q : Fact) (i : Inside) (from : ℕ) (ps : PartNodes) → AreSized ps → ArePlain ps → Fits Q i → Stand text from (definitions_in i from ps) → (d : ℕ) (x : Definition) → slice_get text d ≡ Some x → Up all from ps d → Q d x
  plain_ups Q i from ps sized plain fits stands d x at u =
      let is = up_between all u sized in
      let low = is.above in
      let high = is.below in
      let long = parts_long i from ps sized in
      fits d x at (found text (StandsIn i) from (definitions_in i from ps) d x stands (record { above = low; below = omega (arith, high, long) }) at (plain_parts i from ps plain))

  -- ---- what modulions give

  -- it is so of what a modulion of a number gives
  pub record AreGiven (P : ℕ → Type 0) (number : ℕ) (region : Bool) (inner : PartNodes) : Type 0 where
    pub by_name_alone : (d : ℕ) (n : Identifier) → Contains (parts_in inner) (grant n) → spelling_at all d ≡ n.spelling → Up all (suc number) inner d → P d
    pub going_along : (d mode : ℕ) → Up all (suc number) inner mode → Contains (elements_at all mode) d → Up all (suc number) inner d → P d
    pub with_all : (d : ℕ) (at : Pos) → Contains (parts_in inner) (grant_all at) → Contains (own_numbers (suc number) inner) d → ¬ (IsTrue region × IsTrue (is_kind_at is_location all d)) → P d

  pub ups_good : (P : ℕ → Type 0) (from : ℕ) (ps : PartNodes) → ((d : ℕ) → Contains (own_numbers from ps) d → P d) → ((number : ℕ) (region : Bool) (inner : PartNodes) → HasModulion from ps number region inner → AreGiven P number region inner) → (d : ℕ) → Up all from ps d → P d
  ups_good P from ps owns gives d (own c) = owns d c
  ups_good P from ps owns gives d (granted {number = number} {region = region} {inner = inner} h n there e u) = (gives number region inner h).by_name_alone d n there e u
  ups_good P from ps owns gives d (granted_along {number = number} {region = region} {inner = inner} h n there mode e um element u) = (gives number region inner h).going_along d mode um element u
  ups_good P from ps owns gives d (granted_all {number = number} {region = region} {inner = inner} h at there c none) = (gives number region inner h).with_all d at there c none

  -- so it is where it is so of all that the modulion has
  pub all_given : (P : ℕ → Type 0) (number : ℕ) (region : Bool) (inner : PartNodes) → ((d : ℕ) → Up all (suc number) inner d → P d) → AreGiven P number region inner
  all_given P number region inner ups = record { by_name_alone = λ d n there e u. ups d u; going_along = λ d mode um element u. ups d u; with_all = λ d at there c none. ups d (own c) }
