-- What a modulion gives doesn't depend on what it seizes.
use Rattle.std.proofs.Common.{◌≡◌, ℕ, suc, ◌+◌, Bool, List, [], ◌∷◌, ◌++◌, refl, sym, ap, ◌∙◌}
use Rattle.std.specs.Prelude.{flat_map}
use Rattle.std.proofs.Math.Nat.{add-zero}
use Rattle.names_model.specs.declared.identifier.Identifier.{Identifier}
use Rattle.names_model.specs.declared.definition.Definition.{Definition}
use Rattle.names_model.specs.Parts.{PartTree, PartNodes, seize, seize_all, grant, modulion, no_parts, more_parts, parts_in}
use Rattle.names_model.specs.Sizes.{size_of}
use Rattle.names_model.specs.Definitions.{spelling_at}
use Rattle.names_model.specs.Entries.{entry, numbers_of, own_entries, own_numbers, along, found, granted_entries, given_entries, up_entries}
use Rattle.names_laws.specs.Visible.{Up}
use Rattle.names_laws.specs.Laws.{without_seizes_in, without_seizes}
use Rattle.names_laws.proofs.Members.{none_listed, found_in}
use Rattle.names_laws.proofs.Ups.{given_by, listed_up}

-- a part stays where it is
size_without : (p : PartTree) → size_of (without_seizes_in p) ≡ size_of p
size_without (modulion n region size ps) = refl
size_without p = refl

own_without : (from : ℕ) (p : PartTree) → own_entries from (without_seizes_in p) ≡ own_entries from p
own_without from (modulion n region size ps) = refl
own_without from p = refl

granted_without : (all : List Definition) (region : Bool) (has : List ℕ → List ℕ) (own : List ℕ) (p : PartTree) → granted_entries all region has own (without_seizes_in p) ≡ granted_entries all region has own p
granted_without all region has own (modulion n inner size ps) = refl
granted_without all region has own p = refl

-- what is defined directly

kept_own : (from : ℕ) (p : PartTree) (ps : PartNodes) → own_numbers (from + size_of p) (without_seizes ps) ≡ own_numbers (from + size_of p) ps → own_numbers from (more_parts (without_seizes_in p) (without_seizes ps)) ≡ own_numbers from (more_parts p ps)
kept_own from p ps e =
    ap (λ es. numbers_of es ++ own_numbers (from + size_of (without_seizes_in p)) (without_seizes ps)) (own_without from p)
    ∙ ap (λ k. numbers_of (own_entries from p) ++ own_numbers (from + k) (without_seizes ps)) (size_without p)
    ∙ ap (λ ns. numbers_of (own_entries from p) ++ ns) e

own_same : (ps : PartNodes) (from : ℕ) → own_numbers from (without_seizes ps) ≡ own_numbers from ps
own_same no_parts from = refl
own_same (more_parts (seize n) ps) from = own_same ps from ∙ ap (λ k. own_numbers k ps) (sym (add-zero from))
own_same (more_parts (seize_all at) ps) from = own_same ps from ∙ ap (λ k. own_numbers k ps) (sym (add-zero from))
own_same (more_parts p ps) from = kept_own from p ps (own_same ps (from + size_of p))

-- what is given

module _ (all : List Definition) where
  granted_parts : (region : Bool) (has : List ℕ → List ℕ) (own : List ℕ) (ps : PartNodes) → flat_map (granted_entries all region has own) (parts_in (without_seizes ps)) ≡ flat_map (granted_entries all region has own) (parts_in ps)
  granted_parts region has own no_parts = refl
  granted_parts region has own (more_parts (seize n) ps) = granted_parts region has own ps
  granted_parts region has own (more_parts (seize_all at) ps) = granted_parts region has own ps
  granted_parts region has own (more_parts p ps) =
      ap (λ es. es ++ flat_map (granted_entries all region has own) (parts_in (without_seizes ps))) (granted_without all region has own p)
      ∙ ap (λ es. granted_entries all region has own p ++ es) (granted_parts region has own ps)

  kept_up : (from : ℕ) (p : PartTree) (ps : PartNodes) → given_entries all from (without_seizes_in p) ≡ given_entries all from p → up_entries all (from + size_of p) (without_seizes ps) ≡ up_entries all (from + size_of p) ps → up_entries all from (more_parts (without_seizes_in p) (without_seizes ps)) ≡ up_entries all from (more_parts p ps)
  kept_up from p ps given e =
      ap (λ es. (es ++ given_entries all from (without_seizes_in p)) ++ up_entries all (from + size_of (without_seizes_in p)) (without_seizes ps)) (own_without from p)
      ∙ ap (λ es. (own_entries from p ++ es) ++ up_entries all (from + size_of (without_seizes_in p)) (without_seizes ps)) given
      ∙ ap (λ k. (own_entries from p ++ given_entries all from p) ++ up_entries all (from + k) (without_seizes ps)) (size_without p)
      ∙ ap (λ es. (own_entries from p ++ given_entries all from p) ++ es) e

  -- a modulion gives the same where it has the same
  modulion_same : (from : ℕ) (region : Bool) (ps : PartNodes) → up_entries all (suc from) (without_seizes ps) ≡ up_entries all (suc from) ps → given_by all from region (without_seizes ps) ≡ given_by all from region ps
  modulion_same from region ps e =
      granted_parts region (found all (up_entries all (suc from) (without_seizes ps))) (own_numbers (suc from) (without_seizes ps)) ps
      ∙ ap (λ es. flat_map (granted_entries all region (found all es) (own_numbers (suc from) (without_seizes ps))) (parts_in ps)) e
      ∙ ap (λ ns. flat_map (granted_entries all region (found all (up_entries all (suc from) ps)) ns) (parts_in ps)) (own_same ps (suc from))

  mutual
    given_same : (p : PartTree) (from : ℕ) → given_entries all from (without_seizes_in p) ≡ given_entries all from p
    given_same (modulion n region size ps) from = modulion_same from region ps (up_same ps (suc from))
    given_same p from = refl

    up_same : (ps : PartNodes) (from : ℕ) → up_entries all from (without_seizes ps) ≡ up_entries all from ps
    up_same no_parts from = refl
    up_same (more_parts (seize n) ps) from = up_same ps from ∙ ap (λ k. up_entries all k ps) (sym (add-zero from))
    up_same (more_parts (seize_all at) ps) from = up_same ps from ∙ ap (λ k. up_entries all k ps) (sym (add-zero from))
    up_same (more_parts p ps) from = kept_up from p ps (given_same p from) (up_same ps (from + size_of p))

pub up_without : (all : List Definition) (from : ℕ) (ps : PartNodes) → up_entries all from (without_seizes ps) ≡ up_entries all from ps
up_without all from ps = up_same all ps from

pub given_without : (all : List Definition) (from : ℕ) (n : Identifier) (region : Bool) (size : ℕ) (ps : PartNodes) → given_entries all from (modulion n region size (without_seizes ps)) ≡ given_entries all from (modulion n region size ps)
given_without all from n region size ps = modulion_same all from region ps (up_same all ps (suc from))

-- ---- a name that the modulion hasn't from its parts

pub nothing_granted : (all : List Definition) (number : ℕ) (region : Bool) (ps : PartNodes) (n : Identifier)
    → ((d : ℕ) → Up all (suc number) ps d → ¬ (spelling_at all d ≡ n.spelling))
    → granted_entries all region (found all (up_entries all (suc number) ps)) (own_numbers (suc number) ps) (grant n) ≡ entry n.at [] ∷ []
nothing_granted all number region ps n none =
    let has = found all (up_entries all (suc number) ps) in
    let empty : has n.spelling ≡ [] = none_listed (has n.spelling) (λ d c. let f = found_in all (up_entries all (suc number) ps) n.spelling d c in none d (listed_up all ps (suc number) d f.0) f.1) in
    ap (λ xs. entry n.at (xs ++ flat_map (along all has) xs) ∷ []) empty
