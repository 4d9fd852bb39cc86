-- Where the definitions of parts stand in a text, and what they stand in.
use Rattle.std.proofs.Common.{◌≡◌, ℕ, zero, suc, ◌+◌, List, [], ◌∷◌, ◌++◌, Some, length, length-append, append_assoc, ◌⊎◌, inl, inr, refl, sym, ap, ◌∙◌, subst, arith, Contains}
use Rattle.std.specs.Prelude.{map, slice_get}
use Rattle.std.proofs.lemmas.List.{length-map}
use Rattle.std.proofs.lemmas.List.Elements.{Contains-append_cases}
use Rattle.std.proofs.lemmas.Bool.{cases_eq}
use Rattle.names_model.specs.declared.identifier.Identifier.{Identifier}
use Rattle.names_model.specs.declared.kind.Kind.{Kind}
use Rattle.names_model.specs.declared.kind.Kind.TheVariants as kinds
use Rattle.names_model.specs.declared.definition.Inside.{Inside}
use Rattle.names_model.specs.declared.definition.Inside.TheVariants.{Outermost, Modulion, Body, Block}
use Rattle.names_model.specs.declared.definition.Definition.{Definition}
use Rattle.names_model.specs.declared.part.Clause.{Clause}
use Rattle.names_model.specs.Parts.{PartTree, PartNodes, define, mention, seize, seize_all, grant, grant_all, stray, modulion, routine, block, no_parts, more_parts, part_nodes}
use Rattle.names_model.specs.Sizes.{elements_in, clause_size, clauses_size, head_size, size_of, sizes_of}
use Rattle.names_model.specs.Definitions.{within, defined, elements_defined, elements_with, names_defined, params_defined, definitions_of, definitions_in}
use Rattle.names_model.specs.Entries.{numbers_of, named_entries, param_elements, param_names, own_entries, own_numbers}
use Rattle.names_laws.proofs.Members.{none_in, in_cases, numbers_cases}
use Rattle.elaborated_laws.proofs.Told.{no_some, same_some}
use Rattle.written_laws.specs.Written.{Each}
use Rattle.written_laws.proofs.Shown.{each_append}
use Rattle.written_laws.proofs.Rows.{IsSized, AreSized}
use Rattle.reached_laws.proofs.Upward.{IsBetween}

-- ---- how many definitions parts have

-- a name of a clause
abbrev pub named_so : Inside → Kind → ℕ → Identifier → Definition
named_so i kind count n = record { name = n; kind = kind; inside = i; elements = count }

pub names_long : (i : Inside) (c : Clause) → length (names_defined i c) ≡ length c.names
names_long i c = length-map c.names (named_so i c.kind (elements_with c.kind (elements_in c.text)))

clause_long : (i around : Inside) (c : Clause) → length (names_defined i c ++ elements_defined around (elements_in c.text)) ≡ clause_size c
clause_long i around c =
    let both = length-append (names_defined i c) (elements_defined around (elements_in c.text)) in
    let names = names_long i c in
    let elements : length (elements_defined around (elements_in c.text)) ≡ length (elements_in c.text) = length-map (elements_in c.text) (defined around kinds.Element) in
    omega (arith, both, names, elements)

pub params_long : (around body : Inside) (cs : List Clause) → length (params_defined around body cs) ≡ clauses_size cs
params_long around body [] = refl
params_long around body (c ∷ cs) =
    let own = clause_long body around c in
    let rest = params_long around body cs in
    let both = length-append (names_defined body c ++ elements_defined around (elements_in c.text)) (params_defined around body cs) in
    omega (arith, own, rest, both)

mutual
  pub part_long : (i : Inside) (from : ℕ) (p : PartTree) → IsSized p → length (definitions_of i from p) ≡ size_of p
  part_long i from (define c) sized = clause_long i i c
  part_long i from (modulion n region size ps) sized = let same = sized.0 in let inner = parts_long (Modulion from) (suc from) ps sized.1 in omega (arith, same, inner)
  part_long i from (routine n kind params result size ps) sized =
      let same = sized.0 in
      let head = params_defined i (Body from) params in
      let es = elements_defined i (elements_in result) in
      let inner = parts_long (Body from) (from + head_size params result) ps sized.1 in
      let one = params_long i (Body from) params in
      let other : length es ≡ length (elements_in result) = length-map (elements_in result) (defined i kinds.Element) in
      let front = length-append head es in
      let whole = length-append (head ++ es) (definitions_in (Body from) (from + head_size params result) ps) in
      omega (arith, same, inner, one, other, front, whole)
  part_long i from (block size ps) sized = let same = sized.0 in let inner = parts_long (within i) from ps sized.1 in omega (arith, same, inner)
  part_long i from (mention m) sized = refl
  part_long i from (seize n) sized = refl
  part_long i from (seize_all at) sized = refl
  part_long i from (grant n) sized = refl
  part_long i from (grant_all at) sized = refl
  part_long i from (stray n) sized = refl

  pub parts_long : (i : Inside) (from : ℕ) (ps : PartNodes) → AreSized ps → length (definitions_in i from ps) ≡ sizes_of ps
  parts_long i from no_parts sized = refl
  parts_long i from (more_parts p ps) sized =
      let own = part_long i from p sized.0 in
      let rest = parts_long i (from + size_of p) ps sized.1 in
      let both = length-append (definitions_of i from p) (definitions_in i (from + size_of p) ps) in
      omega (arith, own, rest, both)

pub sizes_both : (ps qs : List PartTree) → sizes_of (part_nodes (ps ++ qs)) ≡ sizes_of (part_nodes ps) + sizes_of (part_nodes qs)
sizes_both [] qs = omega arith
sizes_both (p ∷ ps) qs = let rest = sizes_both ps qs in omega (arith, rest)

pub definitions_both : (i : Inside) (from : ℕ) (ps qs : List PartTree) → definitions_in i from (part_nodes (ps ++ qs)) ≡ definitions_in i from (part_nodes ps) ++ definitions_in i (from + sizes_of (part_nodes ps)) (part_nodes qs)
definitions_both i from [] qs = ap (λ k. definitions_in i k (part_nodes qs)) (let same : from ≡ from + 0 = omega arith in same)
definitions_both i from (p ∷ ps) qs =
    let own = definitions_of i from p in
    let rest = definitions_in i (from + size_of p) (part_nodes ps) in
    let same : (from + size_of p) + sizes_of (part_nodes ps) ≡ from + (size_of p + sizes_of (part_nodes ps)) = omega arith in
    ap (λ ds. own ++ ds) (definitions_both i (from + size_of p) ps qs) ∙ (sym (append_assoc own rest (definitions_in i ((from + size_of p) + sizes_of (part_nodes ps)) (part_nodes qs)))
    ∙ ap (λ k. (own ++ rest) ++ definitions_in i k (part_nodes qs)) same)

-- ---- plain parts: those of bodies

-- a clause has elements behind its one name, or they go with none
abbrev pub GoesAlong : Clause → Type 0
GoesAlong c = (elements_with c.kind (elements_in c.text) ≡ 0) ⊎ ((n : Identifier) × ((c.names ≡ n ∷ []) × (elements_with c.kind (elements_in c.text) ≡ length (elements_in c.text))))

abbrev mutual
  pub IsPlain : PartTree → Type 0
  IsPlain (define c) = GoesAlong c
  IsPlain (mention m) = Unit {0}
  IsPlain (stray n) = Unit {0}
  IsPlain (block size ps) = ArePlain ps
  IsPlain (seize n) = ⊥
  IsPlain (seize_all at) = ⊥
  IsPlain (grant n) = ⊥
  IsPlain (grant_all at) = ⊥
  IsPlain (modulion n region size ps) = ⊥
  IsPlain (routine n kind params result size ps) = ⊥

  pub ArePlain : PartNodes → Type 0
  ArePlain no_parts = Unit {0}
  ArePlain (more_parts p ps) = IsPlain p × ArePlain ps

pub plain_both : (ps qs : List PartTree) → ArePlain (part_nodes ps) → ArePlain (part_nodes qs) → ArePlain (part_nodes (ps ++ qs))
plain_both [] qs one other = other
plain_both (p ∷ ps) qs one other = (one.0, plain_both ps qs one.1 other)

-- it stands there, or in a block there
abbrev pub StandsIn : Inside → Definition → Type 0
StandsIn i x = (x.inside ≡ i) ⊎ (x.inside ≡ within i)

within_within : (i : Inside) → within (within i) ≡ within i
within_within Outermost = refl
within_within (Modulion d) = refl
within_within (Body d) = refl
within_within (Block d) = refl

pub stands_within : (i : Inside) (x : Definition) → StandsIn (within i) x → StandsIn i x
stands_within i x (inl is) = inr is
stands_within i x (inr is) = inr (is ∙ within_within i)

each_named : (P : Definition → Type 0) (f : Identifier → Definition) → ((n : Identifier) → P (f n)) → (ns : List Identifier) → Each P (map f ns)
each_named P f so [] = tt
each_named P f so (n ∷ ns) = (so n, each_named P f so ns)

each_so : (P Q : Definition → Type 0) → ((x : Definition) → P x → Q x) → (ds : List Definition) → Each P ds → Each Q ds
each_so P Q so [] all = tt
each_so P Q so (d ∷ ds) all = (so d all.0, each_so P Q so ds all.1)

mutual
  plain_part : (i : Inside) (from : ℕ) (p : PartTree) → IsPlain p → Each (StandsIn i) (definitions_of i from p)
  plain_part i from (define c) plain =
      each_append (StandsIn i) (names_defined i c) (elements_defined i (elements_in c.text)) (each_named (StandsIn i) (named_so i c.kind (elements_with c.kind (elements_in c.text))) (λ n. inl refl) c.names)
      (each_named (StandsIn i) (defined i kinds.Element) (λ n. inl refl) (elements_in c.text))
  plain_part i from (mention m) plain = tt
  plain_part i from (stray n) plain = tt
  plain_part i from (block size ps) plain = each_so (StandsIn (within i)) (StandsIn i) (stands_within i) (definitions_in (within i) from ps) (plain_parts (within i) from ps plain)
  plain_part i from (seize n) plain = absurd plain
  plain_part i from (seize_all at) plain = absurd plain
  plain_part i from (grant n) plain = absurd plain
  plain_part i from (grant_all at) plain = absurd plain
  plain_part i from (modulion n region size ps) plain = absurd plain
  plain_part i from (routine n kind params result size ps) plain = absurd plain

  pub plain_parts : (i : Inside) (from : ℕ) (ps : PartNodes) → ArePlain ps → Each (StandsIn i) (definitions_in i from ps)
  plain_parts i from no_parts plain = tt
  plain_parts i from (more_parts p ps) plain = each_append (StandsIn i) (definitions_of i from p) (definitions_in i (from + size_of p) ps) (plain_part i from p plain.0) (plain_parts i (from + size_of p) ps plain.1)

-- ---- where definitions stand in the text

module _ (text : List Definition) where
  -- the definitions of the text from a number on begin with these
  abbrev pub Stand : ℕ → List Definition → Type 0
  Stand from ds = (k e : ℕ) (x : Definition) → slice_get ds k ≡ Some x → e ≡ from + k → slice_get text e ≡ Some x

  among_left : (ds es : List Definition) (k : ℕ) (x : Definition) → slice_get ds k ≡ Some x → slice_get (ds ++ es) k ≡ Some x
  among_left [] es k x at = no_some x at
  among_left (d ∷ ds) es zero x at = at
  among_left (d ∷ ds) es (suc k) x at = among_left ds es k x at

  among_right : (ds es : List Definition) (k e : ℕ) (x : Definition) → slice_get es k ≡ Some x → e ≡ length ds + k → slice_get (ds ++ es) e ≡ Some x
  among_right [] es k e x at same = ap (slice_get es) (let back : e ≡ k = omega (arith, same) in back) ∙ at
  among_right (d ∷ ds) es k zero x at same = absurd (let none : ⊥ = omega (arith, same) in none)
  among_right (d ∷ ds) es k (suc e) x at same = among_right ds es k e x at (omega (arith, same))

  pub stand_left : (from : ℕ) (ds es : List Definition) → Stand from (ds ++ es) → Stand from ds
  stand_left from ds es all k e x at same = all k e x (among_left ds es k x at) same

  pub stand_right : (from next : ℕ) (ds es : List Definition) → next ≡ from + length ds → Stand from (ds ++ es) → Stand next es
  stand_right from next ds es is all k e x at same = all (length ds + k) e x (among_right ds es k (length ds + k) x at refl) (omega (arith, is, same))

  pub stand_next : (from : ℕ) (d : Definition) (ds : List Definition) → Stand from (d ∷ ds) → Stand (suc from) ds
  stand_next from d ds all k e x at same = all (suc k) e x at (omega (arith, same))

  -- what stands at a number among them is one of them
  pub found : (P : Definition → Type 0) (from : ℕ) (ds : List Definition) (d : ℕ) (x : Definition) → Stand from ds → IsBetween from (from + length ds) d → slice_get text d ≡ Some x → Each P ds → P x
  found P from [] d x all is at each = (let low = is.above in let high = is.below in absurd (let none : ⊥ = omega (arith, low, high) in none))
  found P from (y ∷ ds) d x all is at each = elim (cases_eq from d) [
    | inl here ↦ subst P (same_some y x (sym (all zero d y refl (omega (arith, here))) ∙ at)) each.0
    | inr isnt ↦ (let low = is.above in let high = is.below in found P (suc from) ds d x (stand_next from y ds all) (record { above = omega (arith, low, isnt); below = omega (arith, high) }) at each.1)
  ]

  -- something stands at each number among them
  pub there : (from : ℕ) (ds : List Definition) (d : ℕ) → Stand from ds → IsBetween from (from + length ds) d → (x : Definition) × (slice_get text d ≡ Some x)
  there from [] d all is = (let low = is.above in let high = is.below in absurd (let none : ⊥ = omega (arith, low, high) in none))
  there from (y ∷ ds) d all is = elim (cases_eq from d) [
    | inl here ↦ (y, all zero d y refl (omega (arith, here)))
    | inr isnt ↦ (let low = is.above in let high = is.below in there (suc from) ds d (stand_next from y ds all) (record { above = omega (arith, low, isnt); below = omega (arith, high) }))
  ]

  -- the definitions of names one behind the other
  pub named_found : (P : Definition → Type 0) (f : Identifier → Definition) → ((n : Identifier) → P (f n)) → (from : ℕ) (ns : List Identifier) (d : ℕ) (x : Definition) → Stand from (map f ns) → Contains (numbers_of (named_entries from ns)) d → slice_get text d ≡ Some x → P x
  named_found P f so from [] d x all c at = absurd (none_in d c)
  named_found P f so from (n ∷ ns) d x all c at = elim (in_cases from (numbers_of (named_entries (suc from) ns)) d c) [
    | inl is ↦ subst P (same_some (f n) x (sym (all zero d (f n) refl (omega (arith, is))) ∙ at)) (so n)
    | inr there ↦ named_found P f so (suc from) ns d x (stand_next from (f n) (map f ns) all) there at
  ]

  -- ---- what is defined directly stands there

  abbrev IsIn : Inside → Definition → Type 0
  IsIn i x = x.inside ≡ i

  clause_inside : (i body : Inside) (from : ℕ) (c : Clause) (d : ℕ) (x : Definition) → Stand from (names_defined body c ++ elements_defined i (elements_in c.text)) → Contains (numbers_of (named_entries (from + length c.names) (elements_in c.text))) d → slice_get text d ≡ Some x → x.inside ≡ i
  clause_inside i body from c d x all there at =
      let long = names_long body c in
      named_found (IsIn i) (defined i kinds.Element) (λ n. refl) (from + length c.names) (elements_in c.text) d x
      (stand_right from (from + length c.names) (names_defined body c) (elements_defined i (elements_in c.text)) (omega (arith, long)) all) there at

  params_inside : (i body : Inside) (from : ℕ) (cs : List Clause) (d : ℕ) (x : Definition) → Stand from (params_defined i body cs) → Contains (numbers_of (param_elements from cs)) d → slice_get text d ≡ Some x → x.inside ≡ i
  params_inside i body from [] d x all c at = absurd (none_in d c)
  params_inside i body from (k ∷ cs) d x all c at =
      let own = names_defined body k ++ elements_defined i (elements_in k.text) in
      let long = clause_long body i k in
      elim (numbers_cases (named_entries (from + length k.names) (elements_in k.text)) (param_elements (from + clause_size k) cs) d c) [
        | inl here ↦ clause_inside i body from k d x (stand_left from own (params_defined i body cs) all) here at
        | inr there ↦ params_inside i body (from + clause_size k) cs d x (stand_right from (from + clause_size k) own (params_defined i body cs) (omega (arith, long)) all) there at
      ]

  -- parameters stand in the body
  pub heads_inside : (i body : Inside) (from : ℕ) (cs : List Clause) (d : ℕ) (x : Definition) → Stand from (params_defined i body cs) → Contains (numbers_of (param_names from cs)) d → slice_get text d ≡ Some x → x.inside ≡ body
  heads_inside i body from [] d x all c at = absurd (none_in d c)
  heads_inside i body from (k ∷ cs) d x all c at =
      let own = names_defined body k ++ elements_defined i (elements_in k.text) in
      let long = clause_long body i k in
      elim (numbers_cases (named_entries from k.names) (param_names (from + clause_size k) cs) d c) [
        | inl here ↦ named_found (IsIn body) (named_so body k.kind (elements_with k.kind (elements_in k.text))) (λ n. refl) from k.names d x
            (stand_left from (names_defined body k) (elements_defined i (elements_in k.text)) (stand_left from own (params_defined i body cs) all)) here at
        | inr there ↦ heads_inside i body (from + clause_size k) cs d x (stand_right from (from + clause_size k) own (params_defined i body cs) (omega (arith, long)) all) there at
      ]

  pub own_inside : (i : Inside) (from : ℕ) (p : PartTree) (d : ℕ) (x : Definition) → Stand from (definitions_of i from p) → Contains (numbers_of (own_entries from p)) d → slice_get text d ≡ Some x → x.inside ≡ i
  own_inside i from (define k) d x all c at = elim (numbers_cases (named_entries from k.names) (named_entries (from + length k.names) (elements_in k.text)) d c) [
    | inl here ↦ named_found (IsIn i) (named_so i k.kind (elements_with k.kind (elements_in k.text))) (λ n. refl) from k.names d x (stand_left from (names_defined i k) (elements_defined i (elements_in k.text)) all) here at
    | inr there ↦ clause_inside i i from k d x all there at
  ]
  own_inside i from (modulion n region size ps) d x all c at = elim (in_cases from [] d c) [
    | inl is ↦ subst (IsIn i) (same_some (defined i kinds.Modulion n) x (sym (all zero d (defined i kinds.Modulion n) refl (omega (arith, is))) ∙ at)) refl
    | inr none ↦ absurd (none_in d none)
  ]
  own_inside i from (routine n kind params result size ps) d x all c at =
      let head = params_defined i (Body from) params in
      let es = elements_defined i (elements_in result) in
      let body = definitions_in (Body from) (from + head_size params result) ps in
      let behind = stand_next from (defined i kind n) ((head ++ es) ++ body) all in
      let front = stand_left (suc from) (head ++ es) body behind in
      let long = params_long i (Body from) params in
      elim (in_cases from (numbers_of (param_elements (suc from) params ++ named_entries (suc from + clauses_size params) (elements_in result))) d c) [
        | inl is ↦ subst (IsIn i) (same_some (defined i kind n) x (sym (all zero d (defined i kind n) refl (omega (arith, is))) ∙ at)) refl
        | inr rest ↦ (elim (numbers_cases (param_elements (suc from) params) (named_entries (suc from + clauses_size params) (elements_in result)) d rest) [
          | inl here ↦ params_inside i (Body from) (suc from) params d x (stand_left (suc from) head es front) here at
          | inr there ↦ named_found (IsIn i) (defined i kinds.Element) (λ n. refl) (suc from + clauses_size params) (elements_in result) d x (stand_right (suc from) (suc from + clauses_size params) head es (omega (arith, long)) front) there at
        ])
      ]
  own_inside i from (mention m) d x all c at = absurd (none_in d c)
  own_inside i from (seize n) d x all c at = absurd (none_in d c)
  own_inside i from (seize_all p) d x all c at = absurd (none_in d c)
  own_inside i from (grant n) d x all c at = absurd (none_in d c)
  own_inside i from (grant_all p) d x all c at = absurd (none_in d c)
  own_inside i from (stray n) d x all c at = absurd (none_in d c)
  own_inside i from (block size ps) d x all c at = absurd (none_in d c)

  -- those of parts begin with those of the first, and go on with those of the others
  pub stand_first : (i : Inside) (from : ℕ) (p : PartTree) (ps : PartNodes) → Stand from (definitions_in i from (more_parts p ps)) → Stand from (definitions_of i from p)
  stand_first i from p ps all = stand_left from (definitions_of i from p) (definitions_in i (from + size_of p) ps) all

  pub stand_rest : (i : Inside) (from : ℕ) (p : PartTree) (ps : PartNodes) → IsSized p → Stand from (definitions_in i from (more_parts p ps)) → Stand (from + size_of p) (definitions_in i (from + size_of p) ps)
  stand_rest i from p ps sized all = let long = part_long i from p sized in stand_right from (from + size_of p) (definitions_of i from p) (definitions_in i (from + size_of p) ps) (omega (arith, long)) all

  pub owns_inside : (i : Inside) (from : ℕ) (ps : PartNodes) (d : ℕ) (x : Definition) → AreSized ps → Stand from (definitions_in i from ps) → Contains (own_numbers from ps) d → slice_get text d ≡ Some x → x.inside ≡ i
  owns_inside i from no_parts d x sized all c at = absurd (none_in d c)
  owns_inside i from (more_parts p ps) d x sized all c at = elim (Contains-append_cases (numbers_of (own_entries from p)) (own_numbers (from + size_of p) ps) d c) [
    | inl here ↦ own_inside i from p d x (stand_first i from p ps all) here at
    | inr there ↦ owns_inside i (from + size_of p) ps d x sized.1 (stand_rest i from p ps sized.0 all) there at
  ]

  -- lists of parts
  pub stand_both : (i : Inside) (from : ℕ) (ps qs : List PartTree) → AreSized (part_nodes ps) → Stand from (definitions_in i from (part_nodes (ps ++ qs))) → Stand from (definitions_in i from (part_nodes ps)) × Stand (from + sizes_of (part_nodes ps)) (definitions_in i (from + sizes_of (part_nodes ps)) (part_nodes qs))
  stand_both i from ps qs sized all =
      let one = definitions_in i from (part_nodes ps) in
      let other = definitions_in i (from + sizes_of (part_nodes ps)) (part_nodes qs) in
      let long = parts_long i from (part_nodes ps) sized in
      let split = subst (λ ds. Stand from ds) (definitions_both i from ps qs) all in
      (stand_left from one other split, stand_right from (from + sizes_of (part_nodes ps)) one other (omega (arith, long)) split)
