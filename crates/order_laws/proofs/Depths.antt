-- How many blocks stand around a definition: a reach sees what stands no deeper than the reach does.
use Rattle.std.proofs.Common.{◌≡◌, ◌≤◌, ℕ, suc, ◌+◌, Bool, List, [], ◌∷◌, ◌++◌, length, length-append, inl, inr, refl, sym, ap, subst, arith, Contains}
use Rattle.std.specs.Prelude.{replicate}
use Rattle.std.proofs.lemmas.List.{length-replicate}
use Rattle.std.proofs.lemmas.List.Elements.{Contains-append_cases}
use Rattle.names_model.specs.declared.identifier.Identifier.{Identifier}
use Rattle.names_model.specs.declared.definition.Definition.{Definition}
use Rattle.names_model.specs.declared.entry.Entry.{Entry}
use Rattle.names_model.specs.declared.part.Clause.{Clause}
use Rattle.names_model.specs.Parts.{PartTree, PartNodes, define, mention, seize, seize_all, grant, grant_all, stray, modulion, routine, block, no_parts, more_parts}
use Rattle.names_model.specs.Sizes.{elements_in, clause_size, clauses_size, size_of, sizes_of}
use Rattle.names_model.specs.Definitions.{with_predefined}
use Rattle.names_model.specs.Entries.{numbers_of, named_entries, param_elements, param_names, own_entries, own_numbers}
use Rattle.names_model.specs.Seeing.{Reach, outermost, in_modulion, in_block}
use Rattle.names_laws.specs.Visible.{HasModulion, first, later, Up, own, granted, granted_along, granted_all, Seized, seized, seized_along, by_head, by_parts, by_name, at_once, failing, IsPredefined, from_around, from_language, Sees}
use Rattle.names_laws.proofs.Members.{none_in, in_cases, numbers_cases}
use Rattle.written_laws.proofs.Rows.{IsSized, AreSized}
use Rattle.order_laws.proofs.Numbered.{EachAt, at_moved, at_first, at_later}

-- ---- depths, as definitions are listed

abbrev pub depths_of_params : ℕ → List Clause → List ℕ
depths_of_params k [] = []
depths_of_params k (c ∷ cs) = (replicate (length c.names) (suc k) ++ replicate (length (elements_in c.text)) k) ++ depths_of_params k cs

abbrev mutual
  pub depths_of : ℕ → PartTree → List ℕ
  depths_of k (define c) = replicate (length c.names) k ++ replicate (length (elements_in c.text)) k
  depths_of k (modulion n region size ps) = k ∷ depths_in k ps
  depths_of k (routine n kind params result size ps) = (k ∷ depths_of_params k params ++ replicate (length (elements_in result)) k) ++ depths_in (suc k) ps
  depths_of k (block size ps) = depths_in (suc k) ps
  depths_of k (mention m) = []
  depths_of k (seize n) = []
  depths_of k (seize_all at) = []
  depths_of k (grant n) = []
  depths_of k (grant_all at) = []
  depths_of k (stray n) = []

  pub depths_in : ℕ → PartNodes → List ℕ
  depths_in k no_parts = []
  depths_in k (more_parts p ps) = depths_of k p ++ depths_in k ps

pub two_lengths : (m n j k : ℕ) → length (replicate m j ++ replicate n k) ≡ m + n
two_lengths m n j k = let both = length-append (replicate m j) (replicate n k) in let one = length-replicate m j in let other = length-replicate n k in omega (arith, both, one, other)

pub params_lengths : (k : ℕ) (cs : List Clause) → length (depths_of_params k cs) ≡ clauses_size cs
params_lengths k [] = refl
params_lengths k (c ∷ cs) =
    let own = two_lengths (length c.names) (length (elements_in c.text)) (suc k) k in
    let both = length-append (replicate (length c.names) (suc k) ++ replicate (length (elements_in c.text)) k) (depths_of_params k cs) in
    let rest = params_lengths k cs in
    omega (arith, own, both, rest)

mutual
  pub part_length : (k : ℕ) (p : PartTree) → IsSized p → length (depths_of k p) ≡ size_of p
  part_length k (define c) is = two_lengths (length c.names) (length (elements_in c.text)) k k
  part_length k (modulion n region size ps) is = let same = is.0 in let inner = parts_length k ps is.1 in omega (arith, same, inner)
  part_length k (routine n kind params result size ps) is =
      let same = is.0 in
      let inner = parts_length (suc k) ps is.1 in
      let in_params = params_lengths k params in
      let in_result = length-replicate (length (elements_in result)) k in
      let head = length-append (depths_of_params k params) (replicate (length (elements_in result)) k) in
      let all = length-append (k ∷ depths_of_params k params ++ replicate (length (elements_in result)) k) (depths_in (suc k) ps) in
      omega (arith, same, inner, in_params, in_result, head, all)
  part_length k (block size ps) is = let same = is.0 in let inner = parts_length (suc k) ps is.1 in omega (arith, same, inner)
  part_length k (mention m) is = refl
  part_length k (seize n) is = refl
  part_length k (seize_all at) is = refl
  part_length k (grant n) is = refl
  part_length k (grant_all at) is = refl
  part_length k (stray n) is = refl

  pub parts_length : (k : ℕ) (ps : PartNodes) → AreSized ps → length (depths_in k ps) ≡ sizes_of ps
  parts_length k no_parts are = refl
  parts_length k (more_parts p ps) are =
      let own = part_length k p are.0 in
      let rest = parts_length k ps are.1 in
      let both = length-append (depths_of k p) (depths_in k ps) in
      omega (arith, own, rest, both)

-- ---- a function that has these depths from a number on

abbrev pub Stand : (ℕ → ℕ) → ℕ → List ℕ → Type 0
Stand f from xs = EachAt (λ d x. f d ≡ x) from xs

pub stand_first : (f : ℕ → ℕ) (from : ℕ) (xs ys : List ℕ) → Stand f from (xs ++ ys) → Stand f from xs
stand_first f from xs ys stand = at_first (λ d x. f d ≡ x) from xs ys stand

pub stand_later : (f : ℕ → ℕ) (from : ℕ) (xs ys : List ℕ) → Stand f from (xs ++ ys) → Stand f (from + length xs) ys
stand_later f from xs ys stand = at_later (λ d x. f d ≡ x) from xs ys stand

pub moved : (f : ℕ → ℕ) (m n : ℕ) (xs : List ℕ) → m ≡ n → Stand f m xs → Stand f n xs
moved f m n xs same stand = at_moved (λ d x. f d ≡ x) m n xs same stand

abbrev pub IsWithin : (ℕ → ℕ) → ℕ → List Entry → Type 0
IsWithin f k es = (d : ℕ) → Contains (numbers_of es) d → f d ≤ k

pub both_within : (f : ℕ → ℕ) (k : ℕ) (es fs : List Entry) → IsWithin f k es → IsWithin f k fs → IsWithin f k (es ++ fs)
both_within f k es fs one other d c = elim (numbers_cases es fs d c) [
  | inl here ↦ one d here
  | inr there ↦ other d there
]

pub named_within : (f : ℕ → ℕ) (j k from : ℕ) (ns : List Identifier) → j ≤ k → Stand f from (replicate (length ns) j) → IsWithin f k (named_entries from ns)
named_within f j k from [] low stand d c = absurd (none_in d c)
named_within f j k from (n ∷ ns) low stand d c = elim (in_cases from (numbers_of (named_entries (suc from) ns)) d c) [
  | inl is ↦ subst (λ x. f x ≤ k) is (subst (λ x. x ≤ k) (sym stand.0) low)
  | inr there ↦ named_within f j k (suc from) ns low stand.1 d there
]

-- names of one depth, then elements of another
pub clause_stand : (f : ℕ → ℕ) (j k from : ℕ) (c : Clause) → Stand f from (replicate (length c.names) j ++ replicate (length (elements_in c.text)) k)
    → Stand f from (replicate (length c.names) j) × Stand f (from + length c.names) (replicate (length (elements_in c.text)) k)
clause_stand f j k from c stand =
    let own = replicate (length c.names) j in (
      stand_first f from own (replicate (length (elements_in c.text)) k) stand,
      moved f (from + length own) (from + length c.names) (replicate (length (elements_in c.text)) k) (ap (λ n. from + n) (length-replicate (length c.names) j)) (stand_later f from own (replicate (length (elements_in c.text)) k) stand),
    )

-- the first of some parameters, and the rest
pub params_stand : (f : ℕ → ℕ) (k from : ℕ) (c : Clause) (cs : List Clause) → Stand f from (depths_of_params k (c ∷ cs))
    → Stand f from (replicate (length c.names) (suc k) ++ replicate (length (elements_in c.text)) k) × Stand f (from + clause_size c) (depths_of_params k cs)
params_stand f k from c cs stand =
    let own = replicate (length c.names) (suc k) ++ replicate (length (elements_in c.text)) k in (
      stand_first f from own (depths_of_params k cs) stand,
      moved f (from + length own) (from + clause_size c) (depths_of_params k cs) (ap (λ n. from + n) (two_lengths (length c.names) (length (elements_in c.text)) (suc k) k)) (stand_later f from own (depths_of_params k cs) stand),
    )

pub same_low : (k : ℕ) → k ≤ k
same_low k = omega arith

pub param_elements_within : (f : ℕ → ℕ) (k from : ℕ) (cs : List Clause) → Stand f from (depths_of_params k cs) → IsWithin f k (param_elements from cs)
param_elements_within f k from [] stand d c = absurd (none_in d c)
param_elements_within f k from (c ∷ cs) stand d i =
    let two = params_stand f k from c cs stand in
    both_within f k (named_entries (from + length c.names) (elements_in c.text)) (param_elements (from + clause_size c) cs) (named_within f k k (from + length c.names) (elements_in c.text) (same_low k) (clause_stand f (suc k) k from c two.0).1)
    (param_elements_within f k (from + clause_size c) cs two.1) d i

pub param_names_within : (f : ℕ → ℕ) (k from : ℕ) (cs : List Clause) → Stand f from (depths_of_params k cs) → IsWithin f (suc k) (param_names from cs)
param_names_within f k from [] stand d c = absurd (none_in d c)
param_names_within f k from (c ∷ cs) stand d i =
    let two = params_stand f k from c cs stand in
    both_within f (suc k) (named_entries from c.names) (param_names (from + clause_size c) cs) (named_within f (suc k) (suc k) from c.names (same_low (suc k)) (clause_stand f (suc k) k from c two.0).0)
    (param_names_within f k (from + clause_size c) cs two.1) d i

-- ---- what parts define directly

-- the parameters of a routine, and the elements in its result
pub routine_stand : (f : ℕ → ℕ) (k from : ℕ) (params : List Clause) (elements : List Identifier) → Stand f from (depths_of_params k params ++ replicate (length elements) k)
    → Stand f from (depths_of_params k params) × Stand f (from + clauses_size params) (replicate (length elements) k)
routine_stand f k from params elements stand =
    let own = depths_of_params k params in (
      stand_first f from own (replicate (length elements) k) stand,
      moved f (from + length own) (from + clauses_size params) (replicate (length elements) k) (ap (λ n. from + n) (params_lengths k params)) (stand_later f from own (replicate (length elements) k) stand),
    )

own_within : (f : ℕ → ℕ) (k from : ℕ) (p : PartTree) → Stand f from (depths_of k p) → IsWithin f k (own_entries from p)
own_within f k from (define c) stand d i =
    let two = clause_stand f k k from c stand in
    both_within f k (named_entries from c.names) (named_entries (from + length c.names) (elements_in c.text)) (named_within f k k from c.names (same_low k) two.0) (named_within f k k (from + length c.names) (elements_in c.text) (same_low k) two.1) d i
own_within f k from (modulion n region size ps) stand d i = named_within f k k from (n ∷ []) (same_low k) (stand.0, tt) d i
own_within f k from (routine n kind params result size ps) stand d i =
    let head = stand_first f (suc from) (depths_of_params k params ++ replicate (length (elements_in result)) k) (depths_in (suc k) ps) stand.1 in
    let two = routine_stand f k (suc from) params (elements_in result) head in
    both_within f k (named_entries from (n ∷ [])) (param_elements (suc from) params ++ named_entries (suc from + clauses_size params) (elements_in result)) (named_within f k k from (n ∷ []) (same_low k) (stand.0, tt))
    (both_within f k (param_elements (suc from) params) (named_entries (suc from + clauses_size params) (elements_in result)) (param_elements_within f k (suc from) params two.0) (named_within f k k (suc from + clauses_size params) (elements_in result) (same_low k) two.1)) d i
own_within f k from (mention m) stand d c = absurd (none_in d c)
own_within f k from (seize n) stand d c = absurd (none_in d c)
own_within f k from (seize_all at) stand d c = absurd (none_in d c)
own_within f k from (grant n) stand d c = absurd (none_in d c)
own_within f k from (grant_all at) stand d c = absurd (none_in d c)
own_within f k from (stray n) stand d c = absurd (none_in d c)
own_within f k from (block size ps) stand d c = absurd (none_in d c)

-- the parts behind the first
pub rest_stand : (f : ℕ → ℕ) (k from : ℕ) (p : PartTree) (ps : PartNodes) → IsSized p → Stand f from (depths_in k (more_parts p ps)) → Stand f (from + size_of p) (depths_in k ps)
rest_stand f k from p ps is stand = moved f (from + length (depths_of k p)) (from + size_of p) (depths_in k ps) (ap (λ n. from + n) (part_length k p is)) (stand_later f from (depths_of k p) (depths_in k ps) stand)

numbers_within : (f : ℕ → ℕ) (k from : ℕ) (ps : PartNodes) → AreSized ps → Stand f from (depths_in k ps) → (d : ℕ) → Contains (own_numbers from ps) d → f d ≤ k
numbers_within f k from no_parts are stand d c = absurd (none_in d c)
numbers_within f k from (more_parts p ps) are stand d c = elim (Contains-append_cases (numbers_of (own_entries from p)) (own_numbers (from + size_of p) ps) d c) [
  | inl here ↦ own_within f k from p (stand_first f from (depths_of k p) (depths_in k ps) stand) d here
  | inr there ↦ numbers_within f k (from + size_of p) ps are.1 (rest_stand f k from p ps are.0 stand) d there
]

-- ---- what parts have from themselves

record Inner (f : ℕ → ℕ) (k number : ℕ) (ps : PartNodes) : Type 0 where
  are : AreSized ps
  stand : Stand f (suc number) (depths_in k ps)

modulion_stands : (f : ℕ → ℕ) (k : ℕ) {from number : ℕ} {region : Bool} {ps inner : PartNodes} → HasModulion from ps number region inner → AreSized ps → Stand f from (depths_in k ps) → Inner f k number inner
modulion_stands f k (first {name} {from} {size} {region} {inner} {ps}) are stand = record { are = are.0.1; stand = stand_first f (suc from) (depths_in k inner) (depths_in k ps) stand.1 }
modulion_stands f k (later {p} {from} {number} {region} {inner} {ps} h) are stand = modulion_stands f k h are.1 (rest_stand f k from p ps are.0 stand)

pub up_within : (f : ℕ → ℕ) (k : ℕ) (all : List Definition) {from d : ℕ} {ps : PartNodes} → Up all from ps d → AreSized ps → Stand f from (depths_in k ps) → f d ≤ k
up_within f k all (own {from} {d} {ps} c) are stand = numbers_within f k from ps are stand d c
up_within f k all (granted h n grants same up) are stand = let inner = modulion_stands f k h are stand in up_within f k all up inner.are inner.stand
up_within f k all (granted_along h n grants mode same up_mode among up) are stand = let inner = modulion_stands f k h are stand in up_within f k all up inner.are inner.stand
up_within f k all (granted_all {from} {number} {d} {region} {ps} {inner} h at grants c kept) are stand =
    let of = modulion_stands f k h are stand in numbers_within f k (suc number) inner of.are of.stand d c

-- ---- what reaches see

abbrev pub SeesWithin : (ℕ → ℕ) → List Definition → Reach → ℕ → Type 0
SeesWithin f text r k = (d : ℕ) → Sees text r d → f d ≤ k

-- what the language defines stands in no block
abbrev pub LanguageOutside : (ℕ → ℕ) → List Definition → Type 0
LanguageOutside f text = (d : ℕ) → IsPredefined text d → f d ≤ 0

pub no_less : (n k : ℕ) → n ≤ 0 → n ≤ k
no_less n k none = omega (arith, none)

one_deeper : (n k : ℕ) → n ≤ k → n ≤ suc k
one_deeper n k low = omega (arith, low)

pub seized_seen : {all : List Definition} {around : ℕ → Type 0} {ps : PartNodes} {d : ℕ} → Seized all around ps d → around d
seized_seen (seized n c same seen) = seen
seized_seen (seized_along n c mode same seen_mode among seen) = seen

pub outermost_within : (f : ℕ → ℕ) (text : List Definition) (ps : PartNodes) → AreSized ps → Stand f 0 (depths_in 0 ps) → LanguageOutside f text → SeesWithin f text (outermost ps) 0
outermost_within f text ps are stand language d (at_once (by_head c)) = absurd (none_in d c)
outermost_within f text ps are stand language d (at_once (by_parts up)) = up_within f 0 (with_predefined text) up are stand
outermost_within f text ps are stand language d (at_once (by_name is)) = absurd (seized_seen is)
outermost_within f text ps are stand language d (failing none is) = language d is

pub modulion_within : (f : ℕ → ℕ) (text : List Definition) (r : Reach) (k from : ℕ) (ps : PartNodes) → AreSized ps → Stand f from (depths_in k ps) → LanguageOutside f text → SeesWithin f text r k → SeesWithin f text (in_modulion r from ps) k
modulion_within f text r k from ps are stand language around d (at_once (by_head c)) = absurd (none_in d c)
modulion_within f text r k from ps are stand language around d (at_once (by_parts up)) = up_within f k (with_predefined text) up are stand
modulion_within f text r k from ps are stand language around d (at_once (by_name is)) = around d (seized_seen is)
modulion_within f text r k from ps are stand language around d (failing none (from_around at c seen)) = around d seen
modulion_within f text r k from ps are stand language around d (failing none (from_language without is)) = no_less (f d) k (language d is)

pub block_within : (f : ℕ → ℕ) (text : List Definition) (r : Reach) (k from : ℕ) (head : List Entry) (ps : PartNodes) → AreSized ps → Stand f from (depths_in (suc k) ps) → IsWithin f (suc k) head → SeesWithin f text r k
    → SeesWithin f text (in_block r head from ps) (suc k)
block_within f text r k from head ps are stand in_head around d (at_once (by_head c)) = in_head d c
block_within f text r k from head ps are stand in_head around d (at_once (by_parts up)) = up_within f (suc k) (with_predefined text) up are stand
block_within f text r k from head ps are stand in_head around d (at_once (by_name is)) = one_deeper (f d) k (around d (seized_seen is))
block_within f text r k from head ps are stand in_head around d (failing none seen) = one_deeper (f d) k (around d seen)
