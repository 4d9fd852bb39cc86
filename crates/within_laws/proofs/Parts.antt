-- What is so of the names in parts: those that are used, and those that are defined, each in the body that its part stands in.
use Rattle.std.proofs.Common.{◌≡◌, ℕ, suc, ◌+◌, Bool, true, false, List, [], ◌∷◌, ◌++◌, Some, refl, subst, arith}
use Rattle.names_model.specs.declared.identifier.Identifier.{Identifier}
use Rattle.names_model.specs.declared.part.Mention.{Mention}
use Rattle.names_model.specs.declared.part.Clause.{Clause}
use Rattle.names_model.specs.Parts.{PartTree, PartNodes, define, mention, seize, seize_all, grant, grant_all, stray, modulion, routine, block, no_parts, more_parts, part_nodes}
use Rattle.names_model.specs.Sizes.{clause_size, head_size, size_of, sizes_of}
use Rattle.names_model.specs.StatementParts.{mentioned}
use Rattle.ground_laws.specs.Rows.{used_in_mention, used_in_mentions}
use Rattle.checks_model.specs.Ground.{number_at}
use Rattle.written_laws.specs.Written.{Each}
use Rattle.written_laws.proofs.Shown.{each_append}
use Rattle.order_laws.proofs.Numbered.{EachAt}
use Rattle.elaboration_model.specs.Numbering.{Source, thing_of, body_of}
use Rattle.within_laws.specs.Within.{IsOfBody}

-- ---- parts in which modulions and routines stand in modulions alone

abbrev mutual
  pub IsFlat : Bool → PartTree → Type 0
  IsFlat true (modulion n region size ps) = AreFlat true ps
  IsFlat false (modulion n region size ps) = ⊥
  IsFlat true (routine n kind params result size ps) = AreFlat false ps
  IsFlat false (routine n kind params result size ps) = ⊥
  IsFlat direct (block size ps) = AreFlat false ps
  IsFlat direct (define c) = Unit {0}
  IsFlat direct (mention m) = Unit {0}
  IsFlat direct (seize n) = Unit {0}
  IsFlat direct (seize_all at) = Unit {0}
  IsFlat direct (grant n) = Unit {0}
  IsFlat direct (grant_all at) = Unit {0}
  IsFlat direct (stray n) = Unit {0}

  pub AreFlat : Bool → PartNodes → Type 0
  AreFlat direct no_parts = Unit {0}
  AreFlat direct (more_parts p ps) = IsFlat direct p × AreFlat direct ps

pub flat_both : (direct : Bool) (ps qs : List PartTree) → AreFlat direct (part_nodes ps) → AreFlat direct (part_nodes qs) → AreFlat direct (part_nodes (ps ++ qs))
flat_both direct [] qs one other = other
flat_both direct (p ∷ ps) qs one other = (one.0, flat_both direct ps qs one.1 other)

pub flat_mentions : (direct : Bool) (ms : List Mention) → AreFlat direct (part_nodes (mentioned ms))
flat_mentions direct [] = tt
flat_mentions true (m ∷ ms) = (tt, flat_mentions true ms)
flat_mentions false (m ∷ ms) = (tt, flat_mentions false ms)

mutual
  flat_inner : (p : PartTree) → IsFlat false p → IsFlat true p
  flat_inner (modulion n region size ps) flat = absurd flat
  flat_inner (routine n kind params result size ps) flat = absurd flat
  flat_inner (block size ps) flat = flat
  flat_inner (define c) flat = tt
  flat_inner (mention m) flat = tt
  flat_inner (seize n) flat = tt
  flat_inner (seize_all at) flat = tt
  flat_inner (grant n) flat = tt
  flat_inner (grant_all at) flat = tt
  flat_inner (stray n) flat = tt

-- what may stand in a body may stand in a modulion
pub flat_direct : (ps : PartNodes) → AreFlat false ps → AreFlat true ps
flat_direct no_parts flat = tt
flat_direct (more_parts p ps) flat = (flat_inner p flat.0, flat_direct ps flat.1)

-- ---- names in parts

module _ (s : Source) where
  abbrev pub Used : ℕ → Identifier → Type 0
  Used b n = (d : ℕ) → number_at s.known.uses n.at ≡ Some d → IsOfBody b (thing_of s.rows d)

  abbrev pub Defined : ℕ → ℕ → Identifier → Type 0
  Defined b d n = (number_at s.known.defined n.at ≡ Some d) × IsOfBody b (thing_of s.rows d)

  -- the parameters of a routine, with the elements in their modes behind each
  abbrev pub ParamsSo : ℕ → ℕ → List Clause → Type 0
  ParamsSo b from [] = Unit {0}
  ParamsSo b from (c ∷ cs) = EachAt (Defined b) from c.names × ParamsSo b (from + clause_size c) cs

  abbrev mutual
    -- a part in a body, the first of whose definitions has a number
    pub PartSo : ℕ → ℕ → PartTree → Type 0
    PartSo b from (define c) = Each (Used b) (used_in_mentions c.text) × EachAt (Defined b) from c.names
    PartSo b from (mention m) = Each (Used b) (used_in_mention m)
    PartSo b from (modulion n region size ps) = PartsSo 0 (suc from) ps
    PartSo b from (routine n kind params result size ps) = (number_at s.known.defined n.at ≡ Some from) × ParamsSo (body_of s.rows from) (suc from) params × PartsSo (body_of s.rows from) (from + head_size params result) ps
    PartSo b from (block size ps) = PartsSo b from ps
    PartSo b from (seize n) = Unit {0}
    PartSo b from (seize_all at) = Unit {0}
    PartSo b from (grant n) = Unit {0}
    PartSo b from (grant_all at) = Unit {0}
    PartSo b from (stray n) = Unit {0}

    pub PartsSo : ℕ → ℕ → PartNodes → Type 0
    PartsSo b from no_parts = Unit {0}
    PartsSo b from (more_parts p ps) = PartSo b from p × PartsSo b (from + size_of p) ps

  pub parts_moved : (b m n : ℕ) (ps : PartNodes) → m ≡ n → PartsSo b m ps → PartsSo b n ps
  parts_moved b m n ps same so = subst (λ k. PartsSo b k ps) same so

  pub parts_first : (b from : ℕ) (ps qs : List PartTree) → PartsSo b from (part_nodes (ps ++ qs)) → PartsSo b from (part_nodes ps)
  parts_first b from [] qs so = tt
  parts_first b from (p ∷ ps) qs so = (so.0, parts_first b (from + size_of p) ps qs so.1)

  pub parts_later : (b from : ℕ) (ps qs : List PartTree) → PartsSo b from (part_nodes (ps ++ qs)) → PartsSo b (from + sizes_of (part_nodes ps)) (part_nodes qs)
  parts_later b from [] qs so = parts_moved b from (from + 0) (part_nodes qs) (let same : from ≡ from + 0 = omega arith in same) so
  parts_later b from (p ∷ ps) qs so =
      parts_moved b ((from + size_of p) + sizes_of (part_nodes ps)) (from + (size_of p + sizes_of (part_nodes ps))) (part_nodes qs) (let same : (from + size_of p) + sizes_of (part_nodes ps) ≡ from + (size_of p + sizes_of (part_nodes ps)) = omega arith in same)
      (parts_later b (from + size_of p) ps qs so.1)

  pub mentions_so : (b from : ℕ) (ms : List Mention) → PartsSo b from (part_nodes (mentioned ms)) → Each (Used b) (used_in_mentions ms)
  mentions_so b from [] so = tt
  mentions_so b from (m ∷ ms) so = each_append (Used b) (used_in_mention m) (used_in_mentions ms) so.0 (mentions_so b (from + 0) ms so.1)

pub no_sizes : (ms : List Mention) → sizes_of (part_nodes (mentioned ms)) ≡ 0
no_sizes [] = refl
no_sizes (m ∷ ms) = let rest = no_sizes ms in omega (arith, rest)

pub sizes_split : (ps qs : List PartTree) → sizes_of (part_nodes (ps ++ qs)) ≡ sizes_of (part_nodes ps) + sizes_of (part_nodes qs)
sizes_split [] qs = omega arith
sizes_split (p ∷ ps) qs = let rest = sizes_split ps qs in omega (arith, rest)
