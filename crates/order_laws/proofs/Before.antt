-- What sees a counter stands behind it: among the parts that it is defined in it is the first, and no other reach has it.
use Rattle.std.proofs.Common.{◌≡◌, Bool, ◌<◌, ◌≤◌, ◌⊎◌, ℕ, suc, ◌+◌, List, [], ◌∷◌, ◌++◌, length, length-append, inl, inr, refl, sym, ap, ◌∙◌, subst, arith, append_assoc, Contains}
use Rattle.std.specs.Prelude.{map, replicate}
use Rattle.std.proofs.lemmas.List.{length-replicate, map-append}
use Rattle.std.proofs.lemmas.List.Elements.{Contains-append_cases}
use Rattle.names_model.specs.declared.identifier.Identifier.{Identifier}
use Rattle.names_model.specs.declared.definition.Definition.{Definition}
use Rattle.names_model.specs.declared.definition.Inside.{Inside}
use Rattle.names_model.specs.declared.definition.Inside.TheVariants.{Modulion, Body}
use Rattle.names_model.specs.declared.entry.Entry.{Entry}
use Rattle.names_model.specs.declared.kind.Kind.{Kind}
use Rattle.names_model.specs.declared.kind.Kind.TheVariants as kinds
use Rattle.names_model.specs.declared.part.Mention.{Mention}
use Rattle.names_model.specs.declared.part.Clause.{Clause}
use Rattle.names_model.specs.Parts.{PartTree, PartNodes, define, mention, seize, seize_all, grant, grant_all, stray, modulion, routine, block, no_parts, more_parts}
use Rattle.names_model.specs.Sizes.{elements_in, clause_size, clauses_size, head_size, size_of, sizes_of}
use Rattle.names_model.specs.Definitions.{with_predefined, within, defined, elements_defined, names_defined, params_defined, definitions_of, definitions_in}
use Rattle.names_model.specs.Entries.{numbers_of, named_entries, param_elements, param_names, own_entries, own_numbers}
use Rattle.names_model.specs.Seeing.{Reach, outermost, in_modulion, in_block}
use Rattle.names_model.specs.NameRules.{Node, node, nodes, nodes_inside, body_reach}
use Rattle.names_laws.specs.Visible.{HasModulion, first, later, Up, own, granted, granted_along, granted_all, Seized, by_head, by_parts, by_name, at_once, failing, from_around, from_language, Sees}
use Rattle.names_laws.proofs.Members.{none_in, here_in, in_cases, numbers_cases}
use Rattle.written_laws.proofs.Rows.{IsSized, AreSized}
use Rattle.order_laws.proofs.Depths.{depths_of_params, two_lengths, params_lengths, Stand, stand_first, stand_later, moved, IsWithin, both_within, named_within, clause_stand, same_low, param_elements_within, routine_stand, seized_seen, LanguageOutside}

-- ---- marks, as definitions are listed: of a counter or a parameter, and of all else

abbrev pub mark_of : Kind → ℕ
mark_of kinds.Counter = 1
mark_of kinds.Parameter = 1
mark_of _ = 0

abbrev mutual
  pub marks_of : PartTree → List ℕ
  marks_of (define c) = replicate (length c.names) (mark_of c.kind) ++ replicate (length (elements_in c.text)) 0
  marks_of (modulion n region size ps) = 0 ∷ marks_in ps
  marks_of (routine n kind params result size ps) = (0 ∷ depths_of_params 0 params ++ replicate (length (elements_in result)) 0) ++ marks_in ps
  marks_of (block size ps) = marks_in ps
  marks_of (mention m) = []
  marks_of (seize n) = []
  marks_of (seize_all at) = []
  marks_of (grant n) = []
  marks_of (grant_all at) = []
  marks_of (stray n) = []

  pub marks_in : PartNodes → List ℕ
  marks_in no_parts = []
  marks_in (more_parts p ps) = marks_of p ++ marks_in ps

mutual
  part_length : (p : PartTree) → IsSized p → length (marks_of p) ≡ size_of p
  part_length (define c) is = two_lengths (length c.names) (length (elements_in c.text)) (mark_of c.kind) 0
  part_length (modulion n region size ps) is = let same = is.0 in let inner = parts_length ps is.1 in omega (arith, same, inner)
  part_length (routine n kind params result size ps) is =
      let same = is.0 in
      let inner = parts_length ps is.1 in
      let in_params = params_lengths 0 params in
      let in_result = length-replicate {A = ℕ} (length (elements_in result)) 0 in
      let head = length-append (depths_of_params 0 params) (replicate (length (elements_in result)) 0) in
      let all = length-append (0 ∷ depths_of_params 0 params ++ replicate (length (elements_in result)) 0) (marks_in ps) in
      omega (arith, same, inner, in_params, in_result, head, all)
  part_length (block size ps) is = let same = is.0 in let inner = parts_length ps is.1 in omega (arith, same, inner)
  part_length (mention m) is = refl
  part_length (seize n) is = refl
  part_length (seize_all at) is = refl
  part_length (grant n) is = refl
  part_length (grant_all at) is = refl
  part_length (stray n) is = refl

  pub parts_length : (ps : PartNodes) → AreSized ps → length (marks_in ps) ≡ sizes_of ps
  parts_length no_parts are = refl
  parts_length (more_parts p ps) are =
      let mine = part_length p are.0 in
      let rest = parts_length ps are.1 in
      let both = length-append (marks_of p) (marks_in ps) in
      omega (arith, mine, rest, both)

-- ---- parts in which a counter is only the first of its block

-- it defines no counter in its reach
abbrev pub IsOpen : PartTree → Type 0
IsOpen (define c) = mark_of c.kind ≡ 0
IsOpen (mention m) = Unit {0}
IsOpen (seize n) = Unit {0}
IsOpen (seize_all at) = Unit {0}
IsOpen (grant n) = Unit {0}
IsOpen (grant_all at) = Unit {0}
IsOpen (stray n) = Unit {0}
IsOpen (modulion n region size ps) = Unit {0}
IsOpen (routine n kind params result size ps) = Unit {0}
IsOpen (block size ps) = Unit {0}

abbrev pub AreOpen : PartNodes → Type 0
AreOpen no_parts = Unit {0}
AreOpen (more_parts p ps) = IsOpen p × AreOpen ps

-- all but the first define none
abbrev pub AreLed : PartNodes → Type 0
AreLed no_parts = Unit {0}
AreLed (more_parts p ps) = AreOpen ps

abbrev pub AreParams : List Clause → Type 0
AreParams [] = Unit {0}
AreParams (c ∷ cs) = (c.kind ≡ kinds.Parameter) × AreParams cs

abbrev mutual
  pub IsTidy : PartTree → Type 0
  IsTidy (modulion n region size ps) = AreOpen ps × AreTidy ps
  IsTidy (routine n kind params result size ps) = ((mark_of kind ≡ 0) × AreParams params) × (AreOpen ps × AreTidy ps)
  IsTidy (block size ps) = AreLed ps × AreTidy ps
  IsTidy (define c) = Unit {0}
  IsTidy (mention m) = Unit {0}
  IsTidy (seize n) = Unit {0}
  IsTidy (seize_all at) = Unit {0}
  IsTidy (grant n) = Unit {0}
  IsTidy (grant_all at) = Unit {0}
  IsTidy (stray n) = Unit {0}

  pub AreTidy : PartNodes → Type 0
  AreTidy no_parts = Unit {0}
  AreTidy (more_parts p ps) = IsTidy p × AreTidy ps

-- ---- what parts define directly, where a function has their marks

rest_stand : (f : ℕ → ℕ) (from : ℕ) (p : PartTree) (ps : PartNodes) → IsSized p → Stand f from (marks_in (more_parts p ps)) → Stand f (from + size_of p) (marks_in ps)
rest_stand f from p ps is stand = moved f (from + length (marks_of p)) (from + size_of p) (marks_in ps) (ap (λ n. from + n) (part_length p is)) (stand_later f from (marks_of p) (marks_in ps) stand)

own_low : (f : ℕ → ℕ) (from : ℕ) (p : PartTree) → IsOpen p → Stand f from (marks_of p) → IsWithin f 0 (own_entries from p)
own_low f from (define c) free stand d i =
    let marks = subst (λ k. Stand f from (replicate (length c.names) k ++ replicate (length (elements_in c.text)) 0)) free stand in
    let two = clause_stand f 0 0 from c marks in
    both_within f 0 (named_entries from c.names) (named_entries (from + length c.names) (elements_in c.text)) (named_within f 0 0 from c.names (same_low 0) two.0) (named_within f 0 0 (from + length c.names) (elements_in c.text) (same_low 0) two.1) d i
own_low f from (modulion n region size ps) plain stand d i = named_within f 0 0 from (n ∷ []) (same_low 0) (stand.0, tt) d i
own_low f from (routine n kind params result size ps) plain stand d i =
    let head = stand_first f (suc from) (depths_of_params 0 params ++ replicate (length (elements_in result)) 0) (marks_in ps) stand.1 in
    let two = routine_stand f 0 (suc from) params (elements_in result) head in
    both_within f 0 (named_entries from (n ∷ [])) (param_elements (suc from) params ++ named_entries (suc from + clauses_size params) (elements_in result)) (named_within f 0 0 from (n ∷ []) (same_low 0) (stand.0, tt))
    (both_within f 0 (param_elements (suc from) params) (named_entries (suc from + clauses_size params) (elements_in result)) (param_elements_within f 0 (suc from) params two.0) (named_within f 0 0 (suc from + clauses_size params) (elements_in result) (same_low 0) two.1)) d i
own_low f from (mention m) plain stand d c = absurd (none_in d c)
own_low f from (seize n) plain stand d c = absurd (none_in d c)
own_low f from (seize_all at) plain stand d c = absurd (none_in d c)
own_low f from (grant n) plain stand d c = absurd (none_in d c)
own_low f from (grant_all at) plain stand d c = absurd (none_in d c)
own_low f from (stray n) plain stand d c = absurd (none_in d c)
own_low f from (block size ps) plain stand d c = absurd (none_in d c)

numbers_low : (f : ℕ → ℕ) (from : ℕ) (ps : PartNodes) → AreSized ps → AreOpen ps → Stand f from (marks_in ps) → (d : ℕ) → Contains (own_numbers from ps) d → f d ≤ 0
numbers_low f from no_parts are free stand d c = absurd (none_in d c)
numbers_low f from (more_parts p ps) are free stand d c = elim (Contains-append_cases (numbers_of (own_entries from p)) (own_numbers (from + size_of p) ps) d c) [
  | inl here ↦ own_low f from p free.0 (stand_first f from (marks_of p) (marks_in ps) stand) d here
  | inr there ↦ numbers_low f (from + size_of p) ps are.1 free.1 (rest_stand f from p ps are.0 stand) d there
]

record Inner (f : ℕ → ℕ) (number : ℕ) (ps : PartNodes) : Type 0 where
  sized : AreSized ps
  open_parts : AreOpen ps
  tidy : AreTidy ps
  stand : Stand f (suc number) (marks_in ps)

modulion_stands : (f : ℕ → ℕ) {from number : ℕ} {region : Bool} {ps inner : PartNodes} → HasModulion from ps number region inner → AreSized ps → AreTidy ps → Stand f from (marks_in ps) → Inner f number inner
modulion_stands f (first {name} {from} {size} {region} {inner} {ps}) are tidy stand = record { sized = are.0.1; open_parts = tidy.0.0; tidy = tidy.0.1; stand = stand_first f (suc from) (marks_in inner) (marks_in ps) stand.1 }
modulion_stands f (later {p} {from} {number} {region} {inner} {ps} h) are tidy stand = modulion_stands f h are.1 tidy.1 (rest_stand f from p ps are.0 stand)

low_there : (f : ℕ → ℕ) {number d : ℕ} {ps : PartNodes} → Inner f number ps → Contains (own_numbers (suc number) ps) d ⊎ (f d ≤ 0) → f d ≤ 0
low_there f {number} {d} {ps} of (inl c) = numbers_low f (suc number) ps of.sized of.open_parts of.stand d c
low_there f of (inr low) = low

one_more : (n : ℕ) → n ≤ suc n
one_more n = omega arith

no_mention : (c : Clause) (m : Mention) → define c ≡ mention m → ⊥
no_mention c m is = cc

-- what parts have from themselves is defined directly in them, or is no counter
up_low : (f : ℕ → ℕ) (all : List Definition) {from d : ℕ} {ps : PartNodes} → Up all from ps d → AreSized ps → AreTidy ps → Stand f from (marks_in ps) → Contains (own_numbers from ps) d ⊎ (f d ≤ 0)
up_low f all (own {from} {d} {ps} c) are tidy stand = inl c
up_low f all (granted h n grants same up) are tidy stand = let of = modulion_stands f h are tidy stand in inr (low_there f of (up_low f all up of.sized of.tidy of.stand))
up_low f all (granted_along h n grants mode same up_mode among up) are tidy stand = let of = modulion_stands f h are tidy stand in inr (low_there f of (up_low f all up of.sized of.tidy of.stand))
up_low f all (granted_all {from} {number} {d} {region} {ps} {inner} h at grants c kept) are tidy stand = let of = modulion_stands f h are tidy stand in inr (numbers_low f (suc number) inner of.sized of.open_parts of.stand d c)

up_open : (f : ℕ → ℕ) (all : List Definition) (from d : ℕ) (ps : PartNodes) → Up all from ps d → AreSized ps → AreOpen ps → AreTidy ps → Stand f from (marks_in ps) → f d ≤ 0
up_open f all from d ps up are free tidy stand = elim (up_low f all up are tidy stand) [
  | inl c ↦ numbers_low f from ps are free stand d c
  | inr low ↦ low
]

-- ---- what reaches see

-- each counter or parameter that a reach sees stands before a number
abbrev pub SeesBefore : (ℕ → ℕ) → List Definition → Reach → ℕ → Type 0
SeesBefore f text r from = (d : ℕ) → Sees text r d → 1 ≤ f d → d < from

not_low : (A : Type 0) (n : ℕ) → n ≤ 0 → 1 ≤ n → A
not_low A n none some = absurd (omega (arith, none, some))

before_more : (f : ℕ → ℕ) (text : List Definition) (r : Reach) (m n : ℕ) → m ≤ n → SeesBefore f text r m → SeesBefore f text r n
before_more f text r m n more before d seen marked = let less = before d seen marked in omega (arith, less, more)

pub outermost_before : (f : ℕ → ℕ) (text : List Definition) (ps : PartNodes) → AreSized ps → AreOpen ps → AreTidy ps → Stand f 0 (marks_in ps) → LanguageOutside f text → SeesBefore f text (outermost ps) 0
outermost_before f text ps are free tidy stand language d (at_once (by_head c)) marked = absurd (none_in d c)
outermost_before f text ps are free tidy stand language d (at_once (by_parts up)) marked = not_low (d < 0) (f d) (up_open f (with_predefined text) 0 d ps up are free tidy stand) marked
outermost_before f text ps are free tidy stand language d (at_once (by_name is)) marked = absurd (seized_seen is)
outermost_before f text ps are free tidy stand language d (failing none is) marked = not_low (d < 0) (f d) (language d is) marked

modulion_before : (f : ℕ → ℕ) (text : List Definition) (r : Reach) (from : ℕ) (ps : PartNodes) → AreSized ps → AreOpen ps → AreTidy ps → Stand f from (marks_in ps) → LanguageOutside f text → SeesBefore f text r from → SeesBefore f text (in_modulion r from ps) from
modulion_before f text r from ps are free tidy stand language around d (at_once (by_head c)) marked = absurd (none_in d c)
modulion_before f text r from ps are free tidy stand language around d (at_once (by_parts up)) marked = not_low (d < from) (f d) (up_open f (with_predefined text) from d ps up are free tidy stand) marked
modulion_before f text r from ps are free tidy stand language around d (at_once (by_name is)) marked = around d (seized_seen is) marked
modulion_before f text r from ps are free tidy stand language around d (failing none (from_around at c seen)) marked = around d seen marked
modulion_before f text r from ps are free tidy stand language around d (failing none (from_language without is)) marked = not_low (d < from) (f d) (language d is) marked

-- a block whose head stands before it, where its own parts define nothing behind that number
block_before : (f : ℕ → ℕ) (text : List Definition) (r : Reach) (head : List Entry) (from to : ℕ) (ps : PartNodes) → ((d : ℕ) → Contains (numbers_of head) d → d < to) → ((d : ℕ) → Up (with_predefined text) from ps d → 1 ≤ f d → d < to)
    → SeesBefore f text r to → SeesBefore f text (in_block r head from ps) to
block_before f text r head from to ps in_head from_parts around d (at_once (by_head c)) marked = in_head d c
block_before f text r head from to ps in_head from_parts around d (at_once (by_parts up)) marked = from_parts d up marked
block_before f text r head from to ps in_head from_parts around d (at_once (by_name is)) marked = around d (seized_seen is) marked
block_before f text r head from to ps in_head from_parts around d (failing none seen) marked = around d seen marked

named_below : (from : ℕ) (ns : List Identifier) (d : ℕ) → Contains (numbers_of (named_entries from ns)) d → d < from + length ns
named_below from [] d c = absurd (none_in d c)
named_below from (n ∷ ns) d c = elim (in_cases from (numbers_of (named_entries (suc from) ns)) d c) [
  | inl is ↦ omega (arith, is)
  | inr there ↦ (let less = named_below (suc from) ns d there in omega (arith, less))
]

params_below : (from : ℕ) (cs : List Clause) (d : ℕ) → Contains (numbers_of (param_names from cs)) d → d < from + clauses_size cs
params_below from [] d c = absurd (none_in d c)
params_below from (x ∷ cs) d c = elim (numbers_cases (named_entries from x.names) (param_names (from + clause_size x) cs) d c) [
  | inl here ↦ (let less = named_below from x.names d here in omega (arith, less))
  | inr there ↦ (let less = params_below (from + clause_size x) cs d there in omega (arith, less))
]

clause_below : (from : ℕ) (c : Clause) (d : ℕ) → Contains (numbers_of (own_entries from (define c))) d → d < from + clause_size c
clause_below from c d i = elim (numbers_cases (named_entries from c.names) (named_entries (from + length c.names) (elements_in c.text)) d i) [
  | inl here ↦ (let less = named_below from c.names d here in omega (arith, less))
  | inr there ↦ (let less = named_below (from + length c.names) (elements_in c.text) d there in omega (arith, less))
]

-- ---- nodes

-- at each mention among nodes
abbrev pub EachBefore : (ℕ → ℕ) → List Definition → List Node → Type 0
EachBefore f text ks = (k : Node) → Contains ks k → (m : Mention) → k.part ≡ mention m → SeesBefore f text k.reach k.from

none_before : (f : ℕ → ℕ) (text : List Definition) → EachBefore f text []
none_before f text k c m is = absurd (none_in k c)

module _ (f : ℕ → ℕ) (text : List Definition) (language : LanguageOutside f text) where
  alone_before : (r : Reach) (from : ℕ) (p : PartTree) (ks : List Node) → ((m : Mention) → p ≡ mention m → SeesBefore f text r from) → EachBefore f text ks → EachBefore f text (node r from p ∷ ks)
  alone_before r from p ks here rest k c m is = elim (in_cases (node r from p) ks k c) [
    | inl same ↦ subst (λ (x : Node). SeesBefore f text x.reach x.from) same (here m (ap (λ (x : Node). x.part) same ∙ is))
    | inr there ↦ rest k there m is
  ]

  two_before : (ks js : List Node) → EachBefore f text ks → EachBefore f text js → EachBefore f text (ks ++ js)
  two_before ks js one other k c m is = elim (Contains-append_cases ks js k c) [
    | inl here ↦ one k here m is
    | inr there ↦ other k there m is
  ]

  low_led : (from : ℕ) (c : Clause) (ps : PartNodes) → AreSized (more_parts (define c) ps) → AreLed (more_parts (define c) ps) → AreTidy (more_parts (define c) ps) → Stand f from (marks_in (more_parts (define c) ps))
      → (d : ℕ) → Up (with_predefined text) from (more_parts (define c) ps) d → 1 ≤ f d → d < from + clause_size c
  low_led from c ps are led tidy stand d up marked = elim (up_low f (with_predefined text) up are tidy stand) [
    | inl i ↦ elim (Contains-append_cases (numbers_of (own_entries from (define c))) (own_numbers (from + size_of (define c)) ps) d i) [
      | inl here ↦ clause_below from c d here
      | inr there ↦ not_low (d < from + clause_size c) (f d) (numbers_low f (from + size_of (define c)) ps are.1 led (rest_stand f from (define c) ps are.0 stand) d there) marked
    ]
    | inr low ↦ not_low (d < from + clause_size c) (f d) low marked
  ]

  open_before : (r : Reach) (from : ℕ) (p : PartTree) (ps : PartNodes) → AreSized (more_parts p ps) → AreOpen (more_parts p ps) → AreTidy (more_parts p ps) → Stand f from (marks_in (more_parts p ps)) → SeesBefore f text r from
      → SeesBefore f text (in_block r [] from (more_parts p ps)) from
  open_before r from p ps are free tidy stand around =
      block_before f text r [] from from (more_parts p ps) (λ d i. absurd (none_in d i)) (λ d up marked. not_low (d < from) (f d) (up_open f (with_predefined text) from d (more_parts p ps) up are free tidy stand) marked) around

  mutual
    inside_before : (r : Reach) (from : ℕ) (p : PartTree) → IsSized p → IsTidy p → Stand f from (marks_of p) → SeesBefore f text r from → EachBefore f text (nodes_inside r from p)
    inside_before r from (modulion n region size ps) is tidy stand around =
        let next = before_more f text r from (suc from) (one_more from) around in
        parts_before (in_modulion r (suc from) ps) (suc from) ps is.1 tidy.1 stand.1 (modulion_before f text r (suc from) ps is.1 tidy.0 tidy.1 stand.1 language next)
    inside_before r from (routine n kind params result size ps) is tidy stand around =
        let to = from + head_size params result in
        let head = depths_of_params 0 params ++ replicate (length (elements_in result)) 0 in
        let in_params = params_lengths 0 params in
        let in_result = length-replicate {A = ℕ} (length (elements_in result)) 0 in
        let both = length-append (depths_of_params 0 params) (replicate (length (elements_in result)) 0) in
        let long : suc from + length head ≡ to = omega (arith, in_params, in_result, both) in
        let inner = moved f (suc from + length head) to (marks_in ps) long (stand_later f (suc from) head (marks_in ps) stand.1) in
        parts_before (body_reach r from params result ps) to ps is.1 tidy.1.1 inner
        (block_before f text r (param_names (suc from) params) to to ps
        (λ d c. let less = params_below (suc from) params d c in omega (arith, less))
        (λ d up marked. not_low (d < to) (f d) (up_open f (with_predefined text) to d ps up is.1 tidy.1.0 tidy.1.1 inner) marked)
        (before_more f text r from to (omega arith) around))
    inside_before r from (block size no_parts) is tidy stand around = none_before f text
    inside_before r from (block size (more_parts (define c) ps)) is tidy stand around =
        let inner = in_block r [] from (more_parts (define c) ps) in
        let to = from + clause_size c in
        alone_before inner from (define c) (nodes inner to ps) (λ m same. absurd (no_mention c m same))
        (parts_before inner to ps is.1.1 tidy.1.1 (rest_stand f from (define c) ps is.1.0 stand)
        (block_before f text r [] from to (more_parts (define c) ps) (λ d i. absurd (none_in d i)) (low_led from c ps is.1 tidy.0 tidy.1 stand) (before_more f text r from to (omega arith) around)))
    inside_before r from (block size (more_parts (mention m) ps)) is tidy stand around =
        parts_before (in_block r [] from (more_parts (mention m) ps)) from (more_parts (mention m) ps) is.1 tidy.1 stand (open_before r from (mention m) ps is.1 (tt, tidy.0) tidy.1 stand around)
    inside_before r from (block size (more_parts (seize n) ps)) is tidy stand around =
        parts_before (in_block r [] from (more_parts (seize n) ps)) from (more_parts (seize n) ps) is.1 tidy.1 stand (open_before r from (seize n) ps is.1 (tt, tidy.0) tidy.1 stand around)
    inside_before r from (block size (more_parts (seize_all at) ps)) is tidy stand around =
        parts_before (in_block r [] from (more_parts (seize_all at) ps)) from (more_parts (seize_all at) ps) is.1 tidy.1 stand (open_before r from (seize_all at) ps is.1 (tt, tidy.0) tidy.1 stand around)
    inside_before r from (block size (more_parts (grant n) ps)) is tidy stand around =
        parts_before (in_block r [] from (more_parts (grant n) ps)) from (more_parts (grant n) ps) is.1 tidy.1 stand (open_before r from (grant n) ps is.1 (tt, tidy.0) tidy.1 stand around)
    inside_before r from (block size (more_parts (grant_all at) ps)) is tidy stand around =
        parts_before (in_block r [] from (more_parts (grant_all at) ps)) from (more_parts (grant_all at) ps) is.1 tidy.1 stand (open_before r from (grant_all at) ps is.1 (tt, tidy.0) tidy.1 stand around)
    inside_before r from (block size (more_parts (stray n) ps)) is tidy stand around =
        parts_before (in_block r [] from (more_parts (stray n) ps)) from (more_parts (stray n) ps) is.1 tidy.1 stand (open_before r from (stray n) ps is.1 (tt, tidy.0) tidy.1 stand around)
    inside_before r from (block size (more_parts (modulion n region k qs) ps)) is tidy stand around =
        parts_before (in_block r [] from (more_parts (modulion n region k qs) ps)) from (more_parts (modulion n region k qs) ps) is.1 tidy.1 stand (open_before r from (modulion n region k qs) ps is.1 (tt, tidy.0) tidy.1 stand around)
    inside_before r from (block size (more_parts (routine n kind params result k qs) ps)) is tidy stand around =
        parts_before (in_block r [] from (more_parts (routine n kind params result k qs) ps)) from (more_parts (routine n kind params result k qs) ps) is.1 tidy.1 stand (open_before r from (routine n kind params result k qs) ps is.1 (tt, tidy.0) tidy.1 stand around)
    inside_before r from (block size (more_parts (block k qs) ps)) is tidy stand around =
        parts_before (in_block r [] from (more_parts (block k qs) ps)) from (more_parts (block k qs) ps) is.1 tidy.1 stand (open_before r from (block k qs) ps is.1 (tt, tidy.0) tidy.1 stand around)
    inside_before r from (define c) is tidy stand around = none_before f text
    inside_before r from (mention m) is tidy stand around = none_before f text
    inside_before r from (seize n) is tidy stand around = none_before f text
    inside_before r from (seize_all at) is tidy stand around = none_before f text
    inside_before r from (grant n) is tidy stand around = none_before f text
    inside_before r from (grant_all at) is tidy stand around = none_before f text
    inside_before r from (stray n) is tidy stand around = none_before f text

    pub parts_before : (r : Reach) (from : ℕ) (ps : PartNodes) → AreSized ps → AreTidy ps → Stand f from (marks_in ps) → SeesBefore f text r from → EachBefore f text (nodes r from ps)
    parts_before r from no_parts are tidy stand around = none_before f text
    parts_before r from (more_parts p ps) are tidy stand around =
        alone_before r from p (nodes_inside r from p ++ nodes r (from + size_of p) ps) (λ m is. around)
        (two_before (nodes_inside r from p) (nodes r (from + size_of p) ps) (inside_before r from p are.0 tidy.0 (stand_first f from (marks_of p) (marks_in ps) stand) around)
        (parts_before r (from + size_of p) ps are.1 tidy.1 (rest_stand f from p ps are.0 stand) (before_more f text r from (from + size_of p) (omega arith) around)))
