-- What parts have from themselves is what their entries list.
use Rattle.std.proofs.Common.{◌≡◌, ℕ, suc, ◌+◌, Bool, true, false, ◌&&◌, List, ◌++◌, inl, inr, refl, subst, Contains, IsTrue}
use Rattle.std.specs.Prelude.{flat_map, not}
use Rattle.std.proofs.lemmas.List.Elements.{Contains-append_left, Contains-append_right, Contains-append_cases}
use Rattle.names_model.specs.declared.definition.Definition.{Definition}
use Rattle.names_model.specs.declared.entry.Entry.{Entry}
use Rattle.names_model.specs.Kinds.{is_location}
use Rattle.names_model.specs.Parts.{PartTree, PartNodes, grant, grant_all, modulion, no_parts, more_parts, parts_in}
use Rattle.names_model.specs.Sizes.{size_of}
use Rattle.names_model.specs.Definitions.{is_kind_at}
use Rattle.names_model.specs.Entries.{entry, numbers_of, own_entries, own_numbers, found, passed, given_all, granted_entries, given_entries, up_entries}
use Rattle.names_laws.specs.Visible.{HasModulion, first, later, Up, own, granted, granted_along, granted_all}
use Rattle.names_laws.proofs.Members.{none_in, in_filter, filter_in, in_flat_map, flat_map_in, in_found, found_in, numbers_left, numbers_right, numbers_cases, in_one, one_in}
use Rattle.names_laws.proofs.Passing.{Tells, passes, passes_along, passed_is}

module _ (all : List Definition) where
  -- the entries that a modulion makes around it
  abbrev pub given_by : ℕ → Bool → PartNodes → List Entry
  given_by number region inner = flat_map (granted_entries all region (found all (up_entries all (suc number) inner)) (own_numbers (suc number) inner)) (parts_in inner)

  -- ---- what is had is listed

  pub own_listed : (from d : ℕ) (ps : PartNodes) → Contains (own_numbers from ps) d → Contains (numbers_of (up_entries all from ps)) d
  own_listed from d no_parts c = c
  own_listed from d (more_parts p ps) c = elim (Contains-append_cases (numbers_of (own_entries from p)) (own_numbers (from + size_of p) ps) d c) [
    | inl here ↦ numbers_left (own_entries from p ++ given_entries all from p) (up_entries all (from + size_of p) ps) d (numbers_left (own_entries from p) (given_entries all from p) d here)
    | inr there ↦ numbers_right (own_entries from p ++ given_entries all from p) (up_entries all (from + size_of p) ps) d (own_listed (from + size_of p) d ps there)
  ]

  given_listed : {from number : ℕ} {region : Bool} {ps inner : PartNodes} (d : ℕ) → HasModulion from ps number region inner → Contains (numbers_of (given_by number region inner)) d → Contains (numbers_of (up_entries all from ps)) d
  given_listed d (first {name} {from} {size} {region} {inner} {ps}) c =
      let p = modulion name region size inner in
      numbers_left (own_entries from p ++ given_entries all from p) (up_entries all (from + size_of p) ps) d (numbers_right (own_entries from p) (given_entries all from p) d c)
  given_listed d (later {p} {from} {number} {region} {inner} {ps} h) c =
      numbers_right (own_entries from p ++ given_entries all from p) (up_entries all (from + size_of p) ps) d (given_listed d h c)

  -- a part of the modulion that enters the definition
  by_part : (number d : ℕ) (region : Bool) (inner : PartNodes) (q : PartTree) → Contains (parts_in inner) q → Contains (numbers_of (granted_entries all region (found all (up_entries all (suc number) inner)) (own_numbers (suc number) inner) q)) d → Contains (numbers_of (given_by number region inner)) d
  by_part number d region inner q there c =
      let h = flat_map_in (λ (e : Entry). e.numbers) (granted_entries all region (found all (up_entries all (suc number) inner)) (own_numbers (suc number) inner) q) d c in
      in_flat_map (λ (e : Entry). e.numbers) (given_by number region inner) h.0 d (in_flat_map (granted_entries all region (found all (up_entries all (suc number) inner)) (own_numbers (suc number) inner)) (parts_in inner) q h.0 there h.1) h.2

  -- the definitions that are listed
  abbrev pub Listed : ℕ → PartNodes → ℕ → Type 0
  Listed from ps d = Contains (numbers_of (up_entries all from ps)) d

  pub tells_listed : (from : ℕ) (ps : PartNodes) → Tells all (found all (up_entries all from ps)) (Listed from ps)
  tells_listed from ps = record {
    listed = λ n d h e. in_found all (up_entries all from ps) n d h e;
    told = λ n d c. (found_in all (up_entries all from ps) n d c).0;
    named = λ n d c. (found_in all (up_entries all from ps) n d c).1;
  }

  kept_given : (region : Bool) (d : ℕ) → ¬ (IsTrue region × IsTrue (is_kind_at is_location all d)) → not (region && is_kind_at is_location all d) ≡ true
  kept_given true d none = by (is_kind_at is_location all d) (λ h. none (refl, h))
    where
      by : (b : Bool) → ¬ (IsTrue b) → not b ≡ true
      by true none = absurd (none refl)
      by false none = refl
  kept_given false d none = refl

  pub up_listed : {from d : ℕ} {ps : PartNodes} → Up all from ps d → Contains (numbers_of (up_entries all from ps)) d
  up_listed (own {from} {d} {ps} c) = own_listed from d ps c
  up_listed (granted {from} {number} {d} {region} {ps} {inner} h n there e u) =
      given_listed d h (by_part number d region inner (grant n) there (in_one (entry n.at (passed all (found all (up_entries all (suc number) inner)) n.spelling)) d
      (passes all (found all (up_entries all (suc number) inner)) (Listed (suc number) inner) (tells_listed (suc number) inner) n.spelling d (up_listed u) e)))
  up_listed (granted_along {from} {number} {d} {region} {ps} {inner} h n there mode e um element u) =
      given_listed d h (by_part number d region inner (grant n) there (in_one (entry n.at (passed all (found all (up_entries all (suc number) inner)) n.spelling)) d
      (passes_along all (found all (up_entries all (suc number) inner)) (Listed (suc number) inner) (tells_listed (suc number) inner) n.spelling d
      (record { mode = mode; named = e; has_mode = up_listed um; element = element; has = up_listed u }))))
  up_listed (granted_all {from} {number} {d} {region} {ps} {inner} h at there c none) =
      given_listed d h (by_part number d region inner (grant_all at) there (in_one (entry at (given_all all region (own_numbers (suc number) inner))) d
      (in_filter (λ k. not (region && is_kind_at is_location all k)) (own_numbers (suc number) inner) d c (kept_given region d none))))

  -- ---- what is listed is had

  -- behind a part
  behind : {start d : ℕ} {ps : PartNodes} (p : PartTree) (from : ℕ) → Up all start ps d → start ≡ from + size_of p → Up all from (more_parts p ps) d
  behind p from (own {from = start} {d} {ps} c) is = own (Contains-append_right (numbers_of (own_entries from p)) (own_numbers (from + size_of p) ps) d (subst (λ k. Contains (own_numbers k ps) d) is c))
  behind p from (granted {from = start} {number} {d} {region} {ps} {inner} h n there same v) is = granted (later (subst (λ k. HasModulion k ps number region inner) is h)) n there same v
  behind p from (granted_along {from = start} {number} {d} {region} {ps} {inner} h n there mode same vm element v) is = granted_along (later (subst (λ k. HasModulion k ps number region inner) is h)) n there mode same vm element v
  behind p from (granted_all {from = start} {number} {d} {region} {ps} {inner} h at there c none) is = granted_all (later (subst (λ k. HasModulion k ps number region inner) is h)) at there c none

  given_not : (region : Bool) (d : ℕ) → not (region && is_kind_at is_location all d) ≡ true → ¬ (IsTrue region × IsTrue (is_kind_at is_location all d))
  given_not true d e h = by (is_kind_at is_location all d) e h.1
    where
      by : (b : Bool) → not b ≡ true → IsTrue b → ⊥
      by true e t = cc
      by false e t = cc
  given_not false d e h = let f : false ≡ true = h.0 in cc

  -- what a part of a modulion enters around it, the modulion has
  granted_up : {from : ℕ} {ps : PartNodes} (number d : ℕ) (region : Bool) (inner : PartNodes) → HasModulion from ps number region inner → ((e : ℕ) → Listed (suc number) inner e → Up all (suc number) inner e) → (q : PartTree) → Contains (parts_in inner) q → Contains (numbers_of (granted_entries all region (found all (up_entries all (suc number) inner)) (own_numbers (suc number) inner) q)) d → Up all from ps d
  granted_up number d region inner h ups (grant n) there c =
      elim (passed_is all (found all (up_entries all (suc number) inner)) (Listed (suc number) inner) (tells_listed (suc number) inner) n.spelling d (one_in (entry n.at (passed all (found all (up_entries all (suc number) inner)) n.spelling)) d c)) [
        | inl has ↦ granted h n there has.1 (ups d has.0)
        | inr a ↦ granted_along h n there a.mode a.named (ups a.mode a.has_mode) a.element (ups d a.has)
      ]
  granted_up number d region inner h ups (grant_all at) there c =
      let kept = filter_in (λ k. not (region && is_kind_at is_location all k)) (own_numbers (suc number) inner) d (one_in (entry at (given_all all region (own_numbers (suc number) inner))) d c) in
      granted_all h at there kept.0 (given_not region d kept.1)
  granted_up number d region inner h ups q there c = absurd (none_in d c)

  given_up : {from : ℕ} {ps : PartNodes} (number d : ℕ) (region : Bool) (inner : PartNodes) → HasModulion from ps number region inner → ((e : ℕ) → Listed (suc number) inner e → Up all (suc number) inner e) → Contains (numbers_of (given_by number region inner)) d → Up all from ps d
  given_up number d region inner h ups c =
      let e = flat_map_in (λ (e : Entry). e.numbers) (given_by number region inner) d c in
      let q = flat_map_in (granted_entries all region (found all (up_entries all (suc number) inner)) (own_numbers (suc number) inner)) (parts_in inner) e.0 e.1 in
      granted_up number d region inner h ups q.0 q.1 (in_flat_map (λ (e : Entry). e.numbers) (granted_entries all region (found all (up_entries all (suc number) inner)) (own_numbers (suc number) inner) q.0) e.0 d q.2 e.2)

  mutual
    part_up : (p : PartTree) (from d : ℕ) (ps : PartNodes) → Contains (numbers_of (given_entries all from p)) d → Up all from (more_parts p ps) d
    part_up (modulion name region size inner) from d ps c = given_up from d region inner first (λ e l. listed_up inner (suc from) e l) c
    part_up p from d ps c = absurd (none_in d c)

    pub listed_up : (ps : PartNodes) (from d : ℕ) → Contains (numbers_of (up_entries all from ps)) d → Up all from ps d
    listed_up no_parts from d c = absurd (none_in d c)
    listed_up (more_parts p ps) from d c = elim (numbers_cases (own_entries from p ++ given_entries all from p) (up_entries all (from + size_of p) ps) d c) [
      | inl here ↦ (elim (numbers_cases (own_entries from p) (given_entries all from p) d here) [
        | inl mine ↦ own (Contains-append_left (numbers_of (own_entries from p)) (own_numbers (from + size_of p) ps) d mine)
        | inr given ↦ part_up p from d ps given
      ])
      | inr there ↦ behind p from (listed_up ps (from + size_of p) d there) refl
    ]
