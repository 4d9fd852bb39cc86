-- What parts have from themselves stands among their definitions.
use Rattle.std.proofs.Common.{ℕ, suc, Bool, ◌+◌, ◌<◌, ◌≤◌, List, [], ◌∷◌, ◌++◌, length, inl, inr, arith, Contains}
use Rattle.std.proofs.lemmas.List.Elements.{Contains-append_cases}
use Rattle.names_model.specs.declared.identifier.Identifier.{Identifier}
use Rattle.names_model.specs.declared.definition.Definition.{Definition}
use Rattle.names_model.specs.declared.part.Clause.{Clause}
use Rattle.names_model.specs.Parts.{PartTree, PartNodes, define, mention, seize, seize_all, grant, grant_all, stray, modulion, routine, block, no_parts, more_parts}
use Rattle.names_model.specs.Sizes.{elements_in, clause_size, clauses_size, head_size, size_of, sizes_of}
use Rattle.names_model.specs.Entries.{numbers_of, named_entries, param_elements, own_entries, own_numbers}
use Rattle.names_laws.specs.Visible.{HasModulion, first, later, Up, own, granted, granted_along, granted_all}
use Rattle.names_laws.proofs.Members.{none_in, in_cases, numbers_cases}
use Rattle.written_laws.proofs.Rows.{AreSized}

-- from a number on, and before another
pub record IsBetween (low high d : ℕ) : Type 0 where
  pub above : low ≤ d
  pub below : d < high

pub wider : (low high from to d : ℕ) → from ≤ low → high ≤ to → IsBetween low high d → IsBetween from to d
wider low high from to d front back is = let a = is.above in let b = is.below in record { above = omega (arith, a, front); below = omega (arith, b, back) }

-- ---- what is defined directly

pub named_between : (from : ℕ) (ns : List Identifier) (d : ℕ) → Contains (numbers_of (named_entries from ns)) d → IsBetween from (from + length ns) d
named_between from [] d c = absurd (none_in d c)
named_between from (n ∷ ns) d c = elim (in_cases from (numbers_of (named_entries (suc from) ns)) d c) [
  | inl is ↦ record { above = omega (arith, is); below = omega (arith, is) }
  | inr there ↦ wider (suc from) (suc from + length ns) from (from + suc (length ns)) d (omega arith) (omega arith) (named_between (suc from) ns d there)
]

params_between : (from : ℕ) (cs : List Clause) (d : ℕ) → Contains (numbers_of (param_elements from cs)) d → IsBetween from (from + clauses_size cs) d
params_between from [] d c = absurd (none_in d c)
params_between from (k ∷ cs) d c = elim (numbers_cases (named_entries (from + length k.names) (elements_in k.text)) (param_elements (from + clause_size k) cs) d c) [
  | inl here ↦ wider (from + length k.names) ((from + length k.names) + length (elements_in k.text)) from (from + clauses_size (k ∷ cs)) d (omega arith) (omega arith) (named_between (from + length k.names) (elements_in k.text) d here)
  | inr there ↦ wider (from + clause_size k) ((from + clause_size k) + clauses_size cs) from (from + clauses_size (k ∷ cs)) d (omega arith) (omega arith) (params_between (from + clause_size k) cs d there)
]

pub own_between : (from : ℕ) (p : PartTree) (d : ℕ) → Contains (numbers_of (own_entries from p)) d → IsBetween from (from + size_of p) d
own_between from (define k) d c = elim (numbers_cases (named_entries from k.names) (named_entries (from + length k.names) (elements_in k.text)) d c) [
  | inl here ↦ wider from (from + length k.names) from (from + clause_size k) d (omega arith) (omega arith) (named_between from k.names d here)
  | inr there ↦ wider (from + length k.names) ((from + length k.names) + length (elements_in k.text)) from (from + clause_size k) d (omega arith) (omega arith) (named_between (from + length k.names) (elements_in k.text) d there)
]
own_between from (modulion n region size ps) d c = elim (in_cases from [] d c) [
  | inl is ↦ record { above = omega (arith, is); below = omega (arith, is) }
  | inr none ↦ absurd (none_in d none)
]
own_between from (routine n kind params result size ps) d c =
    let es = named_entries (suc from + clauses_size params) (elements_in result) in
    elim (in_cases from (numbers_of (param_elements (suc from) params ++ es)) d c) [
      | inl is ↦ record { above = omega (arith, is); below = omega (arith, is) }
      | inr rest ↦ (elim (numbers_cases (param_elements (suc from) params) es d rest) [
        | inl here ↦ wider (suc from) (suc from + clauses_size params) from (from + (head_size params result + size)) d (omega arith) (omega arith) (params_between (suc from) params d here)
        | inr there ↦ wider (suc from + clauses_size params) ((suc from + clauses_size params) + length (elements_in result)) from (from + (head_size params result + size)) d (omega arith) (omega arith) (named_between (suc from + clauses_size params) (elements_in result) d there)
      ])
    ]
own_between from (mention m) d c = absurd (none_in d c)
own_between from (seize n) d c = absurd (none_in d c)
own_between from (seize_all at) d c = absurd (none_in d c)
own_between from (grant n) d c = absurd (none_in d c)
own_between from (grant_all at) d c = absurd (none_in d c)
own_between from (stray n) d c = absurd (none_in d c)
own_between from (block size ps) d c = absurd (none_in d c)

pub owns_between : (from : ℕ) (ps : PartNodes) (d : ℕ) → Contains (own_numbers from ps) d → IsBetween from (from + sizes_of ps) d
owns_between from no_parts d c = absurd (none_in d c)
owns_between from (more_parts p ps) d c = elim (Contains-append_cases (numbers_of (own_entries from p)) (own_numbers (from + size_of p) ps) d c) [
  | inl here ↦ wider from (from + size_of p) from (from + (size_of p + sizes_of ps)) d (omega arith) (omega arith) (own_between from p d here)
  | inr there ↦ wider (from + size_of p) ((from + size_of p) + sizes_of ps) from (from + (size_of p + sizes_of ps)) d (omega arith) (omega arith) (owns_between (from + size_of p) ps d there)
]

-- ---- what a modulion among parts gives them

-- the definitions of a modulion stand among those of the parts that it stands among
pub record IsAmong (from : ℕ) (ps : PartNodes) (number : ℕ) (inner : PartNodes) : Type 0 where
  pub above : from ≤ number
  pub below : suc number + sizes_of inner ≤ from + sizes_of ps
  pub sized : AreSized inner

pub modulion_among : {from number : ℕ} {region : Bool} {ps inner : PartNodes} → HasModulion from ps number region inner → AreSized ps → IsAmong from ps number inner
modulion_among (first {name} {from} {size} {region} {inner} {ps}) sized = (let same = sized.0.0 in record { above = omega arith; below = omega (arith, same); sized = sized.0.1 })
modulion_among (later {p} {from} {number} {region} {inner} {ps} h) sized =
    let a = modulion_among h sized.1 in
    let low = a.above in
    let high = a.below in
    record { above = omega (arith, low); below = omega (arith, high); sized = a.sized }

module _ (all : List Definition) where
  pub up_between : {from d : ℕ} {ps : PartNodes} → Up all from ps d → AreSized ps → IsBetween from (from + sizes_of ps) d
  up_between (own {from} {d} {ps} c) sized = owns_between from ps d c
  up_between (granted {from} {number} {d} {region} {ps} {inner} h n there e u) sized =
      let a = modulion_among h sized in
      let low = a.above in
      let high = a.below in
      wider (suc number) (suc number + sizes_of inner) from (from + sizes_of ps) d (omega (arith, low)) (omega (arith, high)) (up_between u a.sized)
  up_between (granted_along {from} {number} {d} {region} {ps} {inner} h n there mode e um element u) sized =
      let a = modulion_among h sized in
      let low = a.above in
      let high = a.below in
      wider (suc number) (suc number + sizes_of inner) from (from + sizes_of ps) d (omega (arith, low)) (omega (arith, high)) (up_between u a.sized)
  up_between (granted_all {from} {number} {d} {region} {ps} {inner} h at there c none) sized =
      let a = modulion_among h sized in
      let low = a.above in
      let high = a.below in
      wider (suc number) (suc number + sizes_of inner) from (from + sizes_of ps) d (omega (arith, low)) (omega (arith, high)) (owns_between (suc number) inner d c)
