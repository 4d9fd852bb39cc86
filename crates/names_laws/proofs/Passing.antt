-- What passes the border of a modulion: a name's definitions, and the elements that go along.
use Rattle.std.proofs.Common.{◌≡◌, ℕ, List, ◌⊎◌, inl, inr, refl, Contains}
use Rattle.std.specs.Prelude.{flat_map}
use Rattle.std.proofs.lemmas.List.Elements.{Contains-append_left, Contains-append_right, Contains-append_cases}
use Rattle.names_model.specs.declared.definition.Definition.{Definition}
use Rattle.names_model.specs.Definitions.{spelling_at, elements_at}
use Rattle.names_model.specs.Entries.{is_among, along, passed}
use Rattle.names_laws.proofs.Members.{in_filter, filter_in, in_flat_map, flat_map_in, among_in, in_among}

-- the list `has` tells, by name, of the definitions of which `Has` holds
pub record Tells (all : List Definition) (has : List ℕ → List ℕ) (Has : ℕ → Type 0) : Type 0 where
  pub listed : (n : List ℕ) (d : ℕ) → Has d → spelling_at all d ≡ n → Contains (has n) d
  pub told : (n : List ℕ) (d : ℕ) → Contains (has n) d → Has d
  pub named : (n : List ℕ) (d : ℕ) → Contains (has n) d → spelling_at all d ≡ n

-- a definition goes along with a mode of this name
pub record Along (all : List Definition) (Has : ℕ → Type 0) (n : List ℕ) (d : ℕ) : Type 0 where
  pub mode : ℕ
  pub named : spelling_at all mode ≡ n
  pub has_mode : Has mode
  pub element : Contains (elements_at all mode) d
  pub has : Has d

module _ (all : List Definition) (has : List ℕ → List ℕ) (Has : ℕ → Type 0) (tells : Tells all has Has) where
  pub passes : (n : List ℕ) (d : ℕ) → Has d → spelling_at all d ≡ n → Contains (passed all has n) d
  passes n d h e = Contains-append_left (has n) (flat_map (along all has) (has n)) d (tells.listed n d h e)

  pub passes_along : (n : List ℕ) (d : ℕ) → Along all Has n d → Contains (passed all has n) d
  passes_along n d a =
      let among = in_among d (has (spelling_at all d)) (tells.listed (spelling_at all d) d a.has refl) in
      let kept : Contains (along all has a.mode) d = in_filter (λ e. is_among e (has (spelling_at all e))) (elements_at all a.mode) d a.element among in
      Contains-append_right (has n) (flat_map (along all has) (has n)) d
      (in_flat_map (along all has) (has n) a.mode d (tells.listed n a.mode a.has_mode a.named) kept)

  pub passed_is : (n : List ℕ) (d : ℕ) → Contains (passed all has n) d → (Has d × (spelling_at all d ≡ n)) ⊎ Along all Has n d
  passed_is n d c = elim (Contains-append_cases (has n) (flat_map (along all has) (has n)) d c) [
    | inl here ↦ inl (tells.told n d here, tells.named n d here)
    | inr there ↦ (
        let from = flat_map_in (along all has) (has n) d there in
        let kept = filter_in (λ e. is_among e (has (spelling_at all e))) (elements_at all from.0) d from.2 in
        inr (record {
          mode = from.0;
          named = tells.named n from.0 from.1;
          has_mode = tells.told n from.0 from.1;
          element = kept.0;
          has = tells.told (spelling_at all d) d (among_in d (has (spelling_at all d)) kept.1);
        }))
  ]
