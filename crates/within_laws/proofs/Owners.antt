-- What a reach sees stands in a modulion, or in the same body as the reach.
use Rattle.std.proofs.Common.{◌≡◌, ℕ, suc, ◌+◌, Bool, List, [], ◌∷◌, ◌++◌, length, length-append, Option, Some, None, inl, inr, refl, sym, ◌∙◌, subst, arith, Contains}
use Rattle.std.specs.Prelude.{map, slice_get}
use Rattle.std.proofs.lemmas.List.{length-map}
use Rattle.std.proofs.lemmas.List.Elements.{Contains-append_cases}
use Rattle.names_model.specs.declared.identifier.Identifier.{Identifier}
use Rattle.names_model.specs.declared.definition.Definition.{Definition}
use Rattle.names_model.specs.declared.definition.Inside.{Inside}
use Rattle.names_model.specs.declared.definition.Inside.TheVariants.{Outermost, Modulion, Body, Block}
use Rattle.names_model.specs.declared.entry.Entry.{Entry}
use Rattle.names_model.specs.declared.kind.Kind.{Kind}
use Rattle.names_model.specs.declared.kind.Kind.TheVariants as kinds
use Rattle.names_model.specs.declared.part.Mention.{Mention}
use Rattle.names_model.specs.declared.part.Clause.{Clause}
use Rattle.names_model.specs.Parts.{PartTree, PartNodes, define, mention, seize, seize_all, grant, grant_all, stray, modulion, routine, block, no_parts, more_parts}
use Rattle.names_model.specs.Sizes.{elements_in, clause_size, clauses_size, head_size, size_of, sizes_of}
use Rattle.names_model.specs.Definitions.{within, defined, elements_defined, elements_with, names_defined, params_defined, definitions_of, definitions_in, with_predefined}
use Rattle.names_model.specs.Entries.{numbers_of, named_entries, param_elements, param_names, own_entries, own_numbers}
use Rattle.names_model.specs.Seeing.{Reach, outermost, in_modulion, in_block}
use Rattle.names_laws.specs.Visible.{HasModulion, first, later, Up, own, granted, granted_along, granted_all, by_head, by_parts, by_name, at_once, failing, IsPredefined, from_around, from_language, Sees}
use Rattle.names_laws.proofs.Members.{none_in, in_cases, numbers_cases}
use Rattle.elaborated_laws.proofs.Told.{no_some, same_some}
use Rattle.written_laws.proofs.Rows.{IsSized, AreSized}
use Rattle.order_laws.proofs.Numbered.{EachAt, at_moved, at_first, at_later}
use Rattle.order_laws.proofs.Depths.{seized_seen}

-- ---- bodies that something stands in

-- the routine, or the modulion with the block, around it
abbrev pub owner : Inside → Option ℕ
owner Outermost = None
owner (Modulion d) = None
owner (Body d) = Some d
owner (Block d) = Some d

-- it stands in a modulion, or in this
abbrev pub IsOwn : Option ℕ → Inside → Type 0
IsOwn o Outermost = Unit {0}
IsOwn o (Modulion d) = Unit {0}
IsOwn o (Body d) = o ≡ Some d
IsOwn o (Block d) = o ≡ Some d

pub own_self : (i : Inside) → IsOwn (owner i) i
own_self Outermost = tt
own_self (Modulion d) = tt
own_self (Body d) = refl
own_self (Block d) = refl

own_any : (o : Option ℕ) (i : Inside) → IsOwn None i → IsOwn o i
own_any o Outermost is = tt
own_any o (Modulion d) is = tt
own_any o (Body d) is = no_some d is
own_any o (Block d) is = no_some d is

own_within : (i j : Inside) → IsOwn (owner i) j → IsOwn (owner (within i)) j
own_within Outermost j is = is
own_within (Modulion d) j is = own_any (Some d) j is
own_within (Body d) j is = is
own_within (Block d) j is = is

-- ---- how many definitions there are

named_long : (i : Inside) (c : Clause) → length (names_defined i c) ≡ length c.names
named_long i c = length-map c.names (λ n. record { name = n; kind = c.kind; inside = i; elements = elements_with c.kind (elements_in c.text) })

elements_long : (i : Inside) (ns : List Identifier) → length (elements_defined i ns) ≡ length ns
elements_long i ns = length-map ns (defined i kinds.Element)

clause_long : (i around : Inside) (c : Clause) → length (names_defined i c ++ elements_defined around (elements_in c.text)) ≡ clause_size c
clause_long i around c =
    let both = length-append (names_defined i c) (elements_defined around (elements_in c.text)) in
    let names = named_long i c in
    let elements = elements_long around (elements_in c.text) in
    omega (arith, both, names, elements)

params_long : (around body : Inside) (cs : List Clause) → length (params_defined around body cs) ≡ clauses_size cs
params_long around body [] = refl
params_long around body (c ∷ cs) =
    let mine = clause_long body around c in
    let rest = params_long around body cs in
    let both = length-append (names_defined body c ++ elements_defined around (elements_in c.text)) (params_defined around body cs) in
    omega (arith, mine, rest, both)

mutual
  part_long : (i : Inside) (from : ℕ) (p : PartTree) → IsSized p → length (definitions_of i from p) ≡ size_of p
  part_long i from (define c) sized = clause_long i i c
  part_long i from (modulion n region size ps) sized = let same = sized.0 in let inner = parts_long (Modulion from) (suc from) ps sized.1 in omega (arith, same, inner)
  part_long i from (routine n kind params result size ps) sized =
      let same = sized.0 in
      let head = params_defined i (Body from) params in
      let es = elements_defined i (elements_in result) in
      let inner = parts_long (Body from) (from + head_size params result) ps sized.1 in
      let one = params_long i (Body from) params in
      let other = elements_long i (elements_in result) in
      let front = length-append head es in
      let whole = length-append (head ++ es) (definitions_in (Body from) (from + head_size params result) ps) in
      omega (arith, same, inner, one, other, front, whole)
  part_long i from (block size ps) sized = let same = sized.0 in let inner = parts_long (within i) from ps sized.1 in omega (arith, same, inner)
  part_long i from (mention m) sized = refl
  part_long i from (seize n) sized = refl
  part_long i from (seize_all at) sized = refl
  part_long i from (grant n) sized = refl
  part_long i from (grant_all at) sized = refl
  part_long i from (stray n) sized = refl

  parts_long : (i : Inside) (from : ℕ) (ps : PartNodes) → AreSized ps → length (definitions_in i from ps) ≡ sizes_of ps
  parts_long i from no_parts sized = refl
  parts_long i from (more_parts p ps) sized =
      let mine = part_long i from p sized.0 in
      let rest = parts_long i (from + size_of p) ps sized.1 in
      let both = length-append (definitions_of i from p) (definitions_in i (from + size_of p) ps) in
      omega (arith, mine, rest, both)

-- ---- definitions that stand among all from a number on

module _ (all : List Definition) where
  abbrev pub IsThere : ℕ → Definition → Type 0
  IsThere d x = slice_get all d ≡ Some x

  abbrev pub Lie : ℕ → List Definition → Type 0
  Lie from ds = EachAt IsThere from ds

  -- those of these numbers stand in a modulion, or in this
  abbrev pub OwnAt : Option ℕ → ℕ → Type 0
  OwnAt o d = (x : Definition) → slice_get all d ≡ Some x → IsOwn o x.inside

  abbrev pub OwnEntries : Option ℕ → List Entry → Type 0
  OwnEntries o es = (d : ℕ) → Contains (numbers_of es) d → OwnAt o d

  pub lie_rest : (i : Inside) (from : ℕ) (p : PartTree) (ps : PartNodes) → IsSized p → Lie from (definitions_in i from (more_parts p ps)) → Lie (from + size_of p) (definitions_in i (from + size_of p) ps)
  lie_rest i from p ps sized lie =
      let ds = definitions_of i from p in
      let rest = definitions_in i (from + size_of p) ps in
      let long = part_long i from p sized in
      at_moved IsThere (from + length ds) (from + size_of p) rest (omega (arith, long)) (at_later IsThere from ds rest lie)

  pub lie_first : (i : Inside) (from : ℕ) (p : PartTree) (ps : PartNodes) → Lie from (definitions_in i from (more_parts p ps)) → Lie from (definitions_of i from p)
  lie_first i from p ps lie = at_first IsThere from (definitions_of i from p) (definitions_in i (from + size_of p) ps) lie

  -- behind the head of a routine stands its body
  pub lie_body : (i : Inside) (from : ℕ) (n : Identifier) (kind : Kind) (params : List Clause) (result : List Mention) (size : ℕ) (ps : PartNodes) → Lie from (definitions_of i from (routine n kind params result size ps))
      → Lie (from + head_size params result) (definitions_in (Body from) (from + head_size params result) ps)
  lie_body i from n kind params result size ps lie =
      let head = params_defined i (Body from) params in
      let es = elements_defined i (elements_in result) in
      let body = definitions_in (Body from) (from + head_size params result) ps in
      let one = params_long i (Body from) params in
      let other = elements_long i (elements_in result) in
      let both = length-append head es in
      at_moved IsThere (suc from + length (head ++ es)) (from + head_size params result) body (omega (arith, one, other, both)) (at_later IsThere (suc from) (head ++ es) body lie.1)

  own_both : (o : Option ℕ) (es fs : List Entry) → OwnEntries o es → OwnEntries o fs → OwnEntries o (es ++ fs)
  own_both o es fs one other d c = elim (numbers_cases es fs d c) [
    | inl here ↦ one d here
    | inr there ↦ other d there
  ]

  named_own : (o : Option ℕ) (f : Identifier → Definition) → ((n : Identifier) → IsOwn o (f n).inside) → (from : ℕ) (ns : List Identifier) → Lie from (map f ns) → OwnEntries o (named_entries from ns)
  named_own o f is from [] lie d c = absurd (none_in d c)
  named_own o f is from (n ∷ ns) lie d c = elim (in_cases from (numbers_of (named_entries (suc from) ns)) d c) [
    | inl same ↦ subst (OwnAt o) same (λ x at. subst (λ y. IsOwn o y.inside) (same_some (f n) x (sym lie.0 ∙ at)) (is n))
    | inr there ↦ named_own o f is (suc from) ns lie.1 d there
  ]

  -- the names of a clause, and the elements in it, which may stand elsewhere
  pub clause_lie : (i around : Inside) (from : ℕ) (c : Clause) → Lie from (names_defined i c ++ elements_defined around (elements_in c.text)) → Lie from (names_defined i c) × Lie (from + length c.names) (elements_defined around (elements_in c.text))
  clause_lie i around from c lie =
      let names = names_defined i c in
      let es = elements_defined around (elements_in c.text) in
      let long = named_long i c in
      (at_first IsThere from names es lie, at_moved IsThere (from + length names) (from + length c.names) es (omega (arith, long)) (at_later IsThere from names es lie))

  pub params_lie : (around body : Inside) (from : ℕ) (c : Clause) (cs : List Clause) → Lie from (params_defined around body (c ∷ cs))
      → Lie from (names_defined body c ++ elements_defined around (elements_in c.text)) × Lie (from + clause_size c) (params_defined around body cs)
  params_lie around body from c cs lie =
      let mine = names_defined body c ++ elements_defined around (elements_in c.text) in
      let rest = params_defined around body cs in
      let long = clause_long body around c in
      (at_first IsThere from mine rest lie, at_moved IsThere (from + length mine) (from + clause_size c) rest (omega (arith, long)) (at_later IsThere from mine rest lie))

  names_own : (i : Inside) (from : ℕ) (c : Clause) → Lie from (names_defined i c) → OwnEntries (owner i) (named_entries from c.names)
  names_own i from c lie = named_own (owner i) (λ n. record { name = n; kind = c.kind; inside = i; elements = elements_with c.kind (elements_in c.text) }) (λ n. own_self i) from c.names lie

  elements_own : (i : Inside) (from : ℕ) (ns : List Identifier) → Lie from (elements_defined i ns) → OwnEntries (owner i) (named_entries from ns)
  elements_own i from ns lie = named_own (owner i) (defined i kinds.Element) (λ n. own_self i) from ns lie

  param_elements_own : (i body : Inside) (from : ℕ) (cs : List Clause) → Lie from (params_defined i body cs) → OwnEntries (owner i) (param_elements from cs)
  param_elements_own i body from [] lie d c = absurd (none_in d c)
  param_elements_own i body from (c ∷ cs) lie d among =
      let two = params_lie i body from c cs lie in
      own_both (owner i) (named_entries (from + length c.names) (elements_in c.text)) (param_elements (from + clause_size c) cs) (elements_own i (from + length c.names) (elements_in c.text) (clause_lie body i from c two.0).1) (param_elements_own i body (from + clause_size c) cs two.1) d among

  param_names_own : (i body : Inside) (from : ℕ) (cs : List Clause) → Lie from (params_defined i body cs) → OwnEntries (owner body) (param_names from cs)
  param_names_own i body from [] lie d c = absurd (none_in d c)
  param_names_own i body from (c ∷ cs) lie d among =
      let two = params_lie i body from c cs lie in
      own_both (owner body) (named_entries from c.names) (param_names (from + clause_size c) cs) (names_own body from c (clause_lie body i from c two.0).0) (param_names_own i body (from + clause_size c) cs two.1) d among

  -- the parameters of a routine, and the elements in its result
  pub head_lie : (i : Inside) (from : ℕ) (n : Identifier) (kind : Kind) (params : List Clause) (result : List Mention) (size : ℕ) (ps : PartNodes) → Lie from (definitions_of i from (routine n kind params result size ps))
      → Lie (suc from) (params_defined i (Body from) params) × Lie (suc from + clauses_size params) (elements_defined i (elements_in result))
  head_lie i from n kind params result size ps lie =
      let head = params_defined i (Body from) params in
      let es = elements_defined i (elements_in result) in
      let long = params_long i (Body from) params in
      let front = at_first IsThere (suc from) (head ++ es) (definitions_in (Body from) (from + head_size params result) ps) lie.1 in
      (at_first IsThere (suc from) head es front, at_moved IsThere (suc from + length head) (suc from + clauses_size params) es (omega (arith, long)) (at_later IsThere (suc from) head es front))

  part_own : (i : Inside) (from : ℕ) (p : PartTree) → Lie from (definitions_of i from p) → OwnEntries (owner i) (own_entries from p)
  part_own i from (define c) lie d among =
      let two = clause_lie i i from c lie in
      own_both (owner i) (named_entries from c.names) (named_entries (from + length c.names) (elements_in c.text)) (names_own i from c two.0) (elements_own i (from + length c.names) (elements_in c.text) two.1) d among
  part_own i from (modulion n region size ps) lie d among = named_own (owner i) (defined i kinds.Modulion) (λ n. own_self i) from (n ∷ []) (lie.0, tt) d among
  part_own i from (routine n kind params result size ps) lie d among =
      let two = head_lie i from n kind params result size ps lie in
      let rest = param_elements (suc from) params ++ named_entries (suc from + clauses_size params) (elements_in result) in
      own_both (owner i) (named_entries from (n ∷ [])) rest (named_own (owner i) (defined i kind) (λ n. own_self i) from (n ∷ []) (lie.0, tt))
      (own_both (owner i) (param_elements (suc from) params) (named_entries (suc from + clauses_size params) (elements_in result)) (param_elements_own i (Body from) (suc from) params two.0) (elements_own i (suc from + clauses_size params) (elements_in result) two.1)) d among
  part_own i from (mention m) lie d c = absurd (none_in d c)
  part_own i from (seize n) lie d c = absurd (none_in d c)
  part_own i from (seize_all at) lie d c = absurd (none_in d c)
  part_own i from (grant n) lie d c = absurd (none_in d c)
  part_own i from (grant_all at) lie d c = absurd (none_in d c)
  part_own i from (stray n) lie d c = absurd (none_in d c)
  part_own i from (block size ps) lie d c = absurd (none_in d c)

  numbers_own : (i : Inside) (from : ℕ) (ps : PartNodes) → AreSized ps → Lie from (definitions_in i from ps) → (d : ℕ) → Contains (own_numbers from ps) d → OwnAt (owner i) d
  numbers_own i from no_parts are lie d c = absurd (none_in d c)
  numbers_own i from (more_parts p ps) are lie d c = elim (Contains-append_cases (numbers_of (own_entries from p)) (own_numbers (from + size_of p) ps) d c) [
    | inl here ↦ part_own i from p (lie_first i from p ps lie) d here
    | inr there ↦ numbers_own i (from + size_of p) ps are.1 (lie_rest i from p ps are.0 lie) d there
  ]

  -- ---- what parts have from themselves

  record Inner (number : ℕ) (ps : PartNodes) : Type 0 where
    are : AreSized ps
    lie : Lie (suc number) (definitions_in (Modulion number) (suc number) ps)

  modulion_lies : (i : Inside) {from number : ℕ} {region : Bool} {ps inner : PartNodes} → HasModulion from ps number region inner → AreSized ps → Lie from (definitions_in i from ps) → Inner number inner
  modulion_lies i (first {name} {from} {size} {region} {inner} {ps}) are lie = record { are = are.0.1; lie = at_first IsThere (suc from) (definitions_in (Modulion from) (suc from) inner) (definitions_in i (from + suc size) ps) lie.1 }
  modulion_lies i (later {p} {from} {number} {region} {inner} {ps} h) are lie = modulion_lies i h are.1 (lie_rest i from p ps are.0 lie)

  up_own : (i : Inside) {from d : ℕ} {ps : PartNodes} → Up all from ps d → AreSized ps → Lie from (definitions_in i from ps) → OwnAt (owner i) d
  up_own i (own {from} {d} {ps} c) are lie x at = numbers_own i from ps are lie d c x at
  up_own i (granted {from} {number} h n grants same up) are lie x at = let of = modulion_lies i h are lie in own_any (owner i) x.inside (up_own (Modulion number) up of.are of.lie x at)
  up_own i (granted_along {from} {number} h n grants mode same up_mode among up) are lie x at = let of = modulion_lies i h are lie in own_any (owner i) x.inside (up_own (Modulion number) up of.are of.lie x at)
  up_own i (granted_all {from} {number} {d} {region} {ps} {inner} h at' grants c kept) are lie x at =
      let of = modulion_lies i h are lie in own_any (owner i) x.inside (numbers_own (Modulion number) (suc number) inner of.are of.lie d c x at)

-- ---- what reaches see

module _ (text : List Definition) where
  abbrev pub all : List Definition
  all = with_predefined text

  -- what a reach sees stands in a modulion, or in this
  abbrev pub SeesOwn : Reach → Option ℕ → Type 0
  SeesOwn r o = (d : ℕ) → Sees text r d → (x : Definition) → slice_get (with_predefined text) d ≡ Some x → IsOwn o x.inside

  -- what the language defines stands in no body
  abbrev pub LanguageOutside : Type 0
  LanguageOutside = (d : ℕ) → IsPredefined text d → (x : Definition) → slice_get (with_predefined text) d ≡ Some x → IsOwn None x.inside

  pub outermost_own : (ps : PartNodes) → AreSized ps → Lie all 0 (definitions_in Outermost 0 ps) → LanguageOutside → SeesOwn (outermost ps) None
  outermost_own ps are lie language d (at_once (by_head c)) x at = absurd (none_in d c)
  outermost_own ps are lie language d (at_once (by_parts up)) x at = up_own all Outermost up are lie x at
  outermost_own ps are lie language d (at_once (by_name is)) x at = absurd (seized_seen is)
  outermost_own ps are lie language d (failing none is) x at = language d is x at

  pub modulion_own : (r : Reach) (m from : ℕ) (ps : PartNodes) → AreSized ps → Lie all from (definitions_in (Modulion m) from ps) → LanguageOutside → SeesOwn r None → SeesOwn (in_modulion r from ps) None
  modulion_own r m from ps are lie language around d (at_once (by_head c)) x at = absurd (none_in d c)
  modulion_own r m from ps are lie language around d (at_once (by_parts up)) x at = up_own all (Modulion m) up are lie x at
  modulion_own r m from ps are lie language around d (at_once (by_name is)) x at = around d (seized_seen is) x at
  modulion_own r m from ps are lie language around d (failing none (from_around at' c seen)) x at = around d seen x at
  modulion_own r m from ps are lie language around d (failing none (from_language without is)) x at = language d is x at

  pub block_own : (r : Reach) (o : Option ℕ) (i : Inside) (from : ℕ) (head : List Entry) (ps : PartNodes) → AreSized ps → Lie all from (definitions_in i from ps) → OwnEntries all (owner i) head → ((j : Inside) → IsOwn o j → IsOwn (owner i) j) → SeesOwn r o
      → SeesOwn (in_block r head from ps) (owner i)
  block_own r o i from head ps are lie in_head wider around d (at_once (by_head c)) x at = in_head d c x at
  block_own r o i from head ps are lie in_head wider around d (at_once (by_parts up)) x at = up_own all i up are lie x at
  block_own r o i from head ps are lie in_head wider around d (at_once (by_name is)) x at = wider x.inside (around d (seized_seen is) x at)
  block_own r o i from head ps are lie in_head wider around d (failing none seen) x at = wider x.inside (around d seen x at)

  -- a routine in a modulion
  pub routine_own : (r : Reach) (i : Inside) (from : ℕ) (n : Identifier) (kind : Kind) (params : List Clause) (result : List Mention) (size : ℕ) (ps : PartNodes) → AreSized ps → Lie all from (definitions_of i from (routine n kind params result size ps)) → SeesOwn r None
      → SeesOwn (in_block r (param_names (suc from) params) (from + head_size params result) ps) (Some from)
  routine_own r i from n kind params result size ps are lie around =
      block_own r None (Body from) (from + head_size params result) (param_names (suc from) params) ps are (lie_body all i from n kind params result size ps lie)
      (param_names_own all i (Body from) (suc from) params (head_lie all i from n kind params result size ps lie).0) (λ j is. own_any (Some from) j is) around

  -- a block somewhere
  pub inner_own : (r : Reach) (i : Inside) (from : ℕ) (ps : PartNodes) → AreSized ps → Lie all from (definitions_in (within i) from ps) → SeesOwn r (owner i) → SeesOwn (in_block r [] from ps) (owner (within i))
  inner_own r i from ps are lie around = block_own r (owner i) (within i) from [] ps are lie (λ d c. absurd (none_in d c)) (own_within i) around
