-- Parts of measured size: their numbers, and their definitions.
use Rattle.std.proofs.Common.{◌≡◌, ℕ, suc, ◌+◌, ◌<◌, List, [], ◌∷◌, ◌++◌, length, length-append, ap, refl, ◌∙◌, arith}
use Rattle.std.specs.Prelude.{◌^◌}
use Rattle.std.proofs.lemmas.List.{length-map}
use Rattle.names_model.specs.declared.definition.Inside.{Inside}
use Rattle.names_model.specs.declared.definition.Inside.TheVariants.{Modulion, Body}
use Rattle.names_model.specs.declared.kind.Kind.TheVariants as kinds
use Rattle.names_model.specs.declared.definition.Definition.{Definition}
use Rattle.names_model.specs.declared.part.Mention.{Mention}
use Rattle.names_model.specs.declared.part.Clause.{Clause}
use Rattle.names_model.specs.Parts.{PartTree, PartNodes, define, mention, seize, seize_all, grant, grant_all, stray, modulion, routine, block, no_parts, more_parts}
use Rattle.names_model.specs.Sizes.{elements_in, clause_size, clauses_size, head_size, size_of, sizes_of}
use Rattle.names_model.specs.Definitions.{within, defined, elements_defined, names_defined, params_defined, definitions_of, definitions_in}
use Rattle.reach_tables.specs.Offsets.{Fits, FitsInside}
use Rattle.reach_walk.specs.Measures.{Measured, AllMeasured}

mutual
  pub fits-measured : (from : ℕ) (ps : PartNodes) → AllMeasured ps → from + sizes_of ps < 2 ^ 32 → Fits from ps
  fits-measured from no_parts m h = tt
  fits-measured from (more_parts p ps) m h = (omega arith, fits-inside from p m.0 (omega arith), fits-measured (from + size_of p) ps m.1 (omega arith))

  fits-inside : (from : ℕ) (p : PartTree) → Measured p → from + size_of p < 2 ^ 32 → FitsInside from p
  fits-inside from (modulion n region size ps) m h = let is : size ≡ sizes_of ps = m.0 in fits-measured (suc from) ps m.1 (omega arith)
  fits-inside from (routine n kind params result size ps) m h = let is : size ≡ sizes_of ps = m.0 in fits-measured (from + head_size params result) ps m.1 (omega arith)
  fits-inside from (block size ps) m h = let is : size ≡ sizes_of ps = m.0 in fits-measured from ps m.1 (omega arith)
  fits-inside from (define c) m h = tt
  fits-inside from (mention w) m h = tt
  fits-inside from (seize n) m h = tt
  fits-inside from (seize_all at) m h = tt
  fits-inside from (grant n) m h = tt
  fits-inside from (grant_all at) m h = tt
  fits-inside from (stray n) m h = tt

length-clause : (inside around : Inside) (c : Clause) → length (names_defined inside c ++ elements_defined around (elements_in c.text)) ≡ clause_size c
length-clause inside around c = simp (length-append, length-map) refl

length-params : (around body : Inside) (cs : List Clause) → length (params_defined around body cs) ≡ clauses_size cs
length-params around body [] = refl
length-params around body (c ∷ cs) = length-append (names_defined body c ++ elements_defined around (elements_in c.text)) (params_defined around body cs) ∙ ap (λ k. k + length (params_defined around body cs)) (length-clause body around c) ∙ ap (λ k. clause_size c + k) (length-params around body cs)

length-head : (inside : Inside) (from : ℕ) (own : Definition) (params : List Clause) (result : List Mention) → length (own ∷ params_defined inside (Body from) params ++ elements_defined inside (elements_in result)) ≡ head_size params result
length-head inside from own params result = ap suc (length-append (params_defined inside (Body from) params) (elements_defined inside (elements_in result)) ∙ ap (λ k. k + length (elements_defined inside (elements_in result))) (length-params inside (Body from) params)
    ∙ ap (λ k. clauses_size params + k) (length-map (elements_in result) (defined inside kinds.Element)))

mutual
  pub length-definitions : (inside : Inside) (from : ℕ) (ps : PartNodes) → AllMeasured ps → length (definitions_in inside from ps) ≡ sizes_of ps
  length-definitions inside from no_parts m = refl
  length-definitions inside from (more_parts p ps) m =
      let one : length (definitions_of inside from p) ≡ size_of p = length-inside inside from p m.0 in
      let rest : length (definitions_in inside (from + size_of p) ps) ≡ sizes_of ps = length-definitions inside (from + size_of p) ps m.1 in
      length-append (definitions_of inside from p) (definitions_in inside (from + size_of p) ps) ∙ (λ i. one i + rest i)

  length-inside : (inside : Inside) (from : ℕ) (p : PartTree) → Measured p → length (definitions_of inside from p) ≡ size_of p
  length-inside inside from (define c) m = length-clause inside inside c
  length-inside inside from (modulion n region size ps) m = let is : size ≡ sizes_of ps = m.0 in
      let rest : length (definitions_in (Modulion from) (suc from) ps) ≡ sizes_of ps = length-definitions (Modulion from) (suc from) ps m.1 in omega arith
  length-inside inside from (routine n kind params result size ps) m = let is : size ≡ sizes_of ps = m.0 in
      let rest : length (definitions_in (Body from) (from + head_size params result) ps) ≡ sizes_of ps = length-definitions (Body from) (from + head_size params result) ps m.1 in
      let head = length-head inside from (defined inside kind n) params result in
      let all = length-append (defined inside kind n ∷ params_defined inside (Body from) params ++ elements_defined inside (elements_in result)) (definitions_in (Body from) (from + head_size params result) ps) in
      omega (arith, is, rest, head, all)
  length-inside inside from (block size ps) m = let is : size ≡ sizes_of ps = m.0 in
      let rest : length (definitions_in (within inside) from ps) ≡ sizes_of ps = length-definitions (within inside) from ps m.1 in omega arith
  length-inside inside from (mention w) m = refl
  length-inside inside from (seize n) m = refl
  length-inside inside from (seize_all at) m = refl
  length-inside inside from (grant n) m = refl
  length-inside inside from (grant_all at) m = refl
  length-inside inside from (stray n) m = refl
