-- What is defined directly in parts, by its name and its kind; the modulions among parts; parts that grant nothing.
use Rattle.std.proofs.Common.{◌≡◌, ℕ, zero, suc, ◌+◌, Bool, List, [], ◌∷◌, ◌++◌, Some, length, length-append, inl, inr, refl, sym, ap, ◌∙◌, subst, arith, Contains}
use Rattle.std.specs.Prelude.{map, slice_get}
use Rattle.std.proofs.lemmas.List.Elements.{Contains-append_cases}
use Rattle.chill_base.specs.declared.pos.Pos.{Pos}
use Rattle.names_model.specs.declared.identifier.Identifier.{Identifier}
use Rattle.names_model.specs.declared.kind.Kind.{Kind}
use Rattle.names_model.specs.declared.kind.Kind.TheVariants as kinds
use Rattle.names_model.specs.declared.definition.Inside.{Inside}
use Rattle.names_model.specs.declared.definition.Inside.TheVariants.{Body}
use Rattle.names_model.specs.declared.definition.Definition.{Definition}
use Rattle.names_model.specs.declared.part.Clause.{Clause}
use Rattle.names_model.specs.Parts.{PartTree, PartNodes, define, mention, seize, seize_all, grant, grant_all, stray, modulion, routine, block, no_parts, more_parts, parts_in, part_nodes}
use Rattle.names_model.specs.Sizes.{elements_in, clause_size, clauses_size, head_size, size_of, sizes_of}
use Rattle.names_model.specs.Definitions.{defined, elements_defined, elements_with, names_defined, params_defined, definitions_of, definitions_in}
use Rattle.names_model.specs.Entries.{numbers_of, named_entries, param_elements, own_entries, own_numbers}
use Rattle.names_laws.specs.Visible.{HasModulion, first, later}
use Rattle.names_laws.proofs.Members.{none_in, in_cases, numbers_cases}
use Rattle.elaborated_laws.proofs.Told.{same_some}
use Rattle.written_laws.specs.Written.{Each}
use Rattle.written_laws.proofs.Rows.{AreSized}
use Rattle.reached_laws.proofs.Standing.{named_so, names_long, params_long, IsPlain, ArePlain, Stand, stand_left, stand_right, stand_next, stand_first, stand_rest}

-- ---- lists of parts

pub sized_first : (ps qs : List PartTree) → AreSized (part_nodes (ps ++ qs)) → AreSized (part_nodes ps)
sized_first [] qs all = tt
sized_first (p ∷ ps) qs all = (all.0, sized_first ps qs all.1)

pub sized_later : (ps qs : List PartTree) → AreSized (part_nodes (ps ++ qs)) → AreSized (part_nodes qs)
sized_later [] qs all = all
sized_later (p ∷ ps) qs all = sized_later ps qs all.1

pub parts_back : (ps : List PartTree) → parts_in (part_nodes ps) ≡ ps
parts_back [] = refl
parts_back (p ∷ ps) = ap (λ qs. p ∷ qs) (parts_back ps)

-- ---- modulions among parts

abbrev pub Modulions : (ℕ → Bool → PartNodes → Type 0) → ℕ → PartNodes → Type 0
Modulions R from no_parts = Unit {0}
Modulions R from (more_parts (modulion n region size inner) ps) = R from region inner × Modulions R (from + size_of (modulion n region size inner)) ps
Modulions R from (more_parts p ps) = Modulions R (from + size_of p) ps

behind_part : (R : ℕ → Bool → PartNodes → Type 0) (from : ℕ) (p : PartTree) (ps : PartNodes) → Modulions R from (more_parts p ps) → Modulions R (from + size_of p) ps
behind_part R from (modulion n region size inner) ps all = all.1
behind_part R from (define c) ps all = all
behind_part R from (mention m) ps all = all
behind_part R from (seize n) ps all = all
behind_part R from (seize_all at) ps all = all
behind_part R from (grant n) ps all = all
behind_part R from (grant_all at) ps all = all
behind_part R from (stray n) ps all = all
behind_part R from (routine n kind params result size qs) ps all = all
behind_part R from (block size qs) ps all = all

pub modulion_so : (R : ℕ → Bool → PartNodes → Type 0) {from number : ℕ} {region : Bool} {ps inner : PartNodes} → HasModulion from ps number region inner → Modulions R from ps → R number region inner
modulion_so R (first {name} {from} {size} {region} {inner} {ps}) all = all.0
modulion_so R (later {p} {from} {number} {region} {inner} {ps} h) all = modulion_so R h (behind_part R from p ps all)

before_part : (R : ℕ → Bool → PartNodes → Type 0) (from : ℕ) (p : PartTree) (ps : PartNodes) → Modulions R from (more_parts p no_parts) → Modulions R (from + size_of p) ps → Modulions R from (more_parts p ps)
before_part R from (modulion n region size inner) ps one all = (one.0, all)
before_part R from (define c) ps one all = all
before_part R from (mention m) ps one all = all
before_part R from (seize n) ps one all = all
before_part R from (seize_all at) ps one all = all
before_part R from (grant n) ps one all = all
before_part R from (grant_all at) ps one all = all
before_part R from (stray n) ps one all = all
before_part R from (routine n kind params result size qs) ps one all = all
before_part R from (block size qs) ps one all = all

alone_part : (R : ℕ → Bool → PartNodes → Type 0) (from : ℕ) (p : PartTree) (ps : PartNodes) → Modulions R from (more_parts p ps) → Modulions R from (more_parts p no_parts)
alone_part R from (modulion n region size inner) ps all = (all.0, tt)
alone_part R from (define c) ps all = tt
alone_part R from (mention m) ps all = tt
alone_part R from (seize n) ps all = tt
alone_part R from (seize_all at) ps all = tt
alone_part R from (grant n) ps all = tt
alone_part R from (grant_all at) ps all = tt
alone_part R from (stray n) ps all = tt
alone_part R from (routine n kind params result size qs) ps all = tt
alone_part R from (block size qs) ps all = tt

pub modulions_both : (R : ℕ → Bool → PartNodes → Type 0) (from : ℕ) (ps qs : List PartTree) → Modulions R from (part_nodes ps) → Modulions R (from + sizes_of (part_nodes ps)) (part_nodes qs) → Modulions R from (part_nodes (ps ++ qs))
modulions_both R from [] qs one other = subst (λ k. Modulions R k (part_nodes qs)) (let same : from + 0 ≡ from = omega arith in same) other
modulions_both R from (p ∷ ps) qs one other =
    before_part R from p (part_nodes (ps ++ qs)) (alone_part R from p (part_nodes ps) one)
    (modulions_both R (from + size_of p) ps qs (behind_part R from p (part_nodes ps) one) (subst (λ k. Modulions R k (part_nodes qs)) (let same : from + (size_of p + sizes_of (part_nodes ps)) ≡ (from + size_of p) + sizes_of (part_nodes ps) = omega arith in same) other))

-- parts without modulions
abbrev pub NoModulion : PartTree → Type 0
NoModulion (modulion n region size inner) = ⊥
NoModulion p = Unit {0}

pub no_modulions : (R : ℕ → Bool → PartNodes → Type 0) (from : ℕ) (ps : List PartTree) → Each NoModulion ps → Modulions R from (part_nodes ps)
no_modulions R from [] none = tt
no_modulions R from (modulion n region size inner ∷ ps) none = absurd none.0
no_modulions R from (define c ∷ ps) none = no_modulions R (from + size_of (define c)) ps none.1
no_modulions R from (mention m ∷ ps) none = no_modulions R (from + size_of (mention m)) ps none.1
no_modulions R from (seize n ∷ ps) none = no_modulions R (from + size_of (seize n)) ps none.1
no_modulions R from (seize_all at ∷ ps) none = no_modulions R (from + size_of (seize_all at)) ps none.1
no_modulions R from (grant n ∷ ps) none = no_modulions R (from + size_of (grant n)) ps none.1
no_modulions R from (grant_all at ∷ ps) none = no_modulions R (from + size_of (grant_all at)) ps none.1
no_modulions R from (stray n ∷ ps) none = no_modulions R (from + size_of (stray n)) ps none.1
no_modulions R from (routine n kind params result size qs ∷ ps) none = no_modulions R (from + size_of (routine n kind params result size qs)) ps none.1
no_modulions R from (block size qs ∷ ps) none = no_modulions R (from + size_of (block size qs)) ps none.1

-- ---- plain parts

abbrev pub GrantsNothing : PartTree → Type 0
GrantsNothing (grant n) = ⊥
GrantsNothing (grant_all at) = ⊥
GrantsNothing p = Unit {0}

plain_part : (p : PartTree) → IsPlain p → NoModulion p × GrantsNothing p
plain_part (define c) plain = (tt, tt)
plain_part (mention m) plain = (tt, tt)
plain_part (stray n) plain = (tt, tt)
plain_part (block size ps) plain = (tt, tt)
plain_part (seize n) plain = absurd plain
plain_part (seize_all at) plain = absurd plain
plain_part (grant n) plain = absurd plain
plain_part (grant_all at) plain = absurd plain
plain_part (modulion n region size ps) plain = absurd plain
plain_part (routine n kind params result size ps) plain = absurd plain

pub plain_modulions : (ps : List PartTree) → ArePlain (part_nodes ps) → Each NoModulion ps
plain_modulions [] plain = tt
plain_modulions (p ∷ ps) plain = ((plain_part p plain.0).0, plain_modulions ps plain.1)

pub plain_grants : (ps : List PartTree) → ArePlain (part_nodes ps) → Each GrantsNothing ps
plain_grants [] plain = tt
plain_grants (p ∷ ps) plain = ((plain_part p plain.0).1, plain_grants ps plain.1)

pub nothing_granted : (ps : List PartTree) (n : Identifier) → Each GrantsNothing ps → ¬ (Contains ps (grant n))
nothing_granted [] n none c = none_in (grant n) c
nothing_granted (p ∷ ps) n none c = elim (in_cases p ps (grant n) c) [
  | inl is ↦ subst GrantsNothing is none.0
  | inr there ↦ nothing_granted ps n none.1 there
]

pub no_all_granted : (ps : List PartTree) (at : Pos) → Each GrantsNothing ps → ¬ (Contains ps (grant_all at))
no_all_granted [] at none c = none_in (grant_all at) c
no_all_granted (p ∷ ps) at none c = elim (in_cases p ps (grant_all at) c) [
  | inl is ↦ subst GrantsNothing is none.0
  | inr there ↦ no_all_granted ps at none.1 there
]

-- ---- names and kinds of what is defined directly

module _ (text : List Definition) (P : Kind → Identifier → Type 0) (element : (n : Identifier) → P kinds.Element n) where
  abbrev pub DefinesSo : PartTree → Type 0
  DefinesSo (define c) = Each (P c.kind) c.names
  DefinesSo (routine n kind params result size ps) = P kind n
  DefinesSo (modulion n region size ps) = P kinds.Modulion n
  DefinesSo p = Unit {0}

  abbrev Is : Definition → Type 0
  Is x = P x.kind x.name

  clause_named : (i : Inside) (kind : Kind) (count from : ℕ) (ns : List Identifier) (d : ℕ) (x : Definition) → Each (P kind) ns → Stand text from (map (named_so i kind count) ns) → Contains (numbers_of (named_entries from ns)) d → slice_get text d ≡ Some x → Is x
  clause_named i kind count from [] d x all stands c at = absurd (none_in d c)
  clause_named i kind count from (n ∷ ns) d x all stands c at =
      let y = named_so i kind count n in
      elim (in_cases from (numbers_of (named_entries (suc from) ns)) d c) [
        | inl is ↦ subst Is (same_some y x (sym (stands zero d y refl (omega (arith, is))) ∙ at)) all.0
        | inr there ↦ clause_named i kind count (suc from) ns d x all.1 (stand_next text from y (map (named_so i kind count) ns) stands) there at
      ]

  each_element : (ns : List Identifier) → Each (P kinds.Element) ns
  each_element [] = tt
  each_element (n ∷ ns) = (element n, each_element ns)

  elements_named : (i : Inside) (from : ℕ) (ns : List Identifier) (d : ℕ) (x : Definition) → Stand text from (elements_defined i ns) → Contains (numbers_of (named_entries from ns)) d → slice_get text d ≡ Some x → Is x
  elements_named i from ns d x stands c at = clause_named i kinds.Element 0 from ns d x (each_element ns) stands c at

  params_named : (i body : Inside) (from : ℕ) (cs : List Clause) (d : ℕ) (x : Definition) → Stand text from (params_defined i body cs) → Contains (numbers_of (param_elements from cs)) d → slice_get text d ≡ Some x → Is x
  params_named i body from [] d x stands c at = absurd (none_in d c)
  params_named i body from (k ∷ cs) d x stands c at =
      let own = names_defined body k in
      let es = elements_defined i (elements_in k.text) in
      let long = names_long body k in
      let more = length-append own es in
      let elements_long = names_long i (record { kind = kinds.Element; names = elements_in k.text; text = [] }) in
      elim (numbers_cases (named_entries (from + length k.names) (elements_in k.text)) (param_elements (from + clause_size k) cs) d c) [
        | inl here ↦ elements_named i (from + length k.names) (elements_in k.text) d x (stand_right text from (from + length k.names) own es (omega (arith, long)) (stand_left text from (own ++ es) (params_defined i body cs) stands)) here at
        | inr there ↦ params_named i body (from + clause_size k) cs d x (stand_right text from (from + clause_size k) (own ++ es) (params_defined i body cs) (omega (arith, long, more, elements_long)) stands) there at
      ]

  own_named : (i : Inside) (from : ℕ) (p : PartTree) (d : ℕ) (x : Definition) → DefinesSo p → Stand text from (definitions_of i from p) → Contains (numbers_of (own_entries from p)) d → slice_get text d ≡ Some x → Is x
  own_named i from (define k) d x all stands c at =
      let own = names_defined i k in
      let es = elements_defined i (elements_in k.text) in
      let long = names_long i k in
      elim (numbers_cases (named_entries from k.names) (named_entries (from + length k.names) (elements_in k.text)) d c) [
        | inl here ↦ clause_named i k.kind (elements_with k.kind (elements_in k.text)) from k.names d x all (stand_left text from own es stands) here at
        | inr there ↦ elements_named i (from + length k.names) (elements_in k.text) d x (stand_right text from (from + length k.names) own es (omega (arith, long)) stands) there at
      ]
  own_named i from (modulion n region size ps) d x all stands c at =
      let y = defined i kinds.Modulion n in
      elim (in_cases from [] d c) [
        | inl is ↦ subst Is (same_some y x (sym (stands zero d y refl (omega (arith, is))) ∙ at)) all
        | inr none ↦ absurd (none_in d none)
      ]
  own_named i from (routine n kind params result size ps) d x all stands c at =
      let y = defined i kind n in
      let head = params_defined i (Body from) params in
      let es = elements_defined i (elements_in result) in
      let body = definitions_in (Body from) (from + head_size params result) ps in
      let front = stand_left text (suc from) (head ++ es) body (stand_next text from y ((head ++ es) ++ body) stands) in
      let long = params_long i (Body from) params in
      elim (in_cases from (numbers_of (param_elements (suc from) params ++ named_entries (suc from + clauses_size params) (elements_in result))) d c) [
        | inl is ↦ subst Is (same_some y x (sym (stands zero d y refl (omega (arith, is))) ∙ at)) all
        | inr rest ↦ (elim (numbers_cases (param_elements (suc from) params) (named_entries (suc from + clauses_size params) (elements_in result)) d rest) [
          | inl here ↦ params_named i (Body from) (suc from) params d x (stand_left text (suc from) head es front) here at
          | inr there ↦ elements_named i (suc from + clauses_size params) (elements_in result) d x (stand_right text (suc from) (suc from + clauses_size params) head es (omega (arith, long)) front) there at
        ])
      ]
  own_named i from (mention m) d x all stands c at = absurd (none_in d c)
  own_named i from (seize n) d x all stands c at = absurd (none_in d c)
  own_named i from (seize_all p) d x all stands c at = absurd (none_in d c)
  own_named i from (grant n) d x all stands c at = absurd (none_in d c)
  own_named i from (grant_all p) d x all stands c at = absurd (none_in d c)
  own_named i from (stray n) d x all stands c at = absurd (none_in d c)
  own_named i from (block size ps) d x all stands c at = absurd (none_in d c)

  pub owns_named : (i : Inside) (from : ℕ) (ps : List PartTree) (d : ℕ) (x : Definition) → Each DefinesSo ps → AreSized (part_nodes ps) → Stand text from (definitions_in i from (part_nodes ps)) → Contains (own_numbers from (part_nodes ps)) d → slice_get text d ≡ Some x → Is x
  owns_named i from [] d x all sized stands c at = absurd (none_in d c)
  owns_named i from (p ∷ ps) d x all sized stands c at = elim (Contains-append_cases (numbers_of (own_entries from p)) (own_numbers (from + size_of p) (part_nodes ps)) d c) [
    | inl here ↦ own_named i from p d x all.0 (stand_first text i from p (part_nodes ps) stands) here at
    | inr there ↦ owns_named i (from + size_of p) ps d x all.1 sized.1 (stand_rest text i from p (part_nodes ps) sized.0 stands) there at
  ]
