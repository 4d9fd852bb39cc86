-- Each definition stands in what is defined before it.
use Rattle.std.proofs.Common.{◌≡◌, ◌<◌, ◌≤◌, ℕ, zero, suc, ◌+◌, List, [], ◌∷◌, ◌++◌, Some, length, length-append, arith, refl, subst}
use Rattle.std.proofs.lemmas.List.{length-map}
use Rattle.std.specs.Prelude.{map, slice_get}
use Rattle.chill_tree.specs.ItemTree.{ProgramTree}
use Rattle.names_model.specs.declared.identifier.Identifier.{Identifier}
use Rattle.names_model.specs.declared.kind.Kind.{Kind}
use Rattle.names_model.specs.declared.kind.Kind.TheVariants as kinds
use Rattle.names_model.specs.declared.definition.Inside.{Inside}
use Rattle.names_model.specs.declared.definition.Inside.TheVariants.{Outermost, Modulion, Body, Block}
use Rattle.names_model.specs.declared.definition.Definition.{Definition}
use Rattle.names_model.specs.declared.part.Clause.{Clause}
use Rattle.names_model.specs.Parts.{PartTree, PartNodes, define, mention, seize, seize_all, grant, grant_all, stray, modulion, routine, block, no_parts, more_parts}
use Rattle.names_model.specs.Sizes.{elements_in, clause_size, clauses_size, head_size, size_of, sizes_of}
use Rattle.names_model.specs.Definitions.{within, defined, elements_defined, elements_with, names_defined, params_defined, definitions_of, definitions_in, text_definitions}
use Rattle.names_model.specs.Resolving.{level_of}
use Rattle.written_laws.proofs.Rows.{IsSized, AreSized}
use Rattle.written_laws.proofs.Defining.{program_sized}
use Rattle.elaborated_laws.proofs.Told.{no_some, same_some}

-- before a number
abbrev pub Under : ℕ → Inside → Type 0
Under j Outermost = Unit {0}
Under j (Modulion x) = x < j
Under j (Body x) = x < j
Under j (Block x) = x < j

under_later : (j k : ℕ) (i : Inside) → j ≤ k → Under j i → Under k i
under_later j k Outermost less under = tt
under_later j k (Modulion x) less under = omega (arith, less, under)
under_later j k (Body x) less under = omega (arith, less, under)
under_later j k (Block x) less under = omega (arith, less, under)

under_within : (j : ℕ) (i : Inside) → Under j i → Under j (within i)
under_within j Outermost under = tt
under_within j (Modulion x) under = under
under_within j (Body x) under = under
under_within j (Block x) under = under

-- each of these, the first of which has a number, stands in what is before it
abbrev EachUnder : ℕ → List Definition → Type 0
EachUnder j [] = Unit {0}
EachUnder j (d ∷ ds) = Under j d.inside × EachUnder (suc j) ds

both_under : (j : ℕ) (ds es : List Definition) → EachUnder j ds → EachUnder (j + length ds) es → EachUnder j (ds ++ es)
both_under j [] es first later = subst (λ n. EachUnder n es) (let same : j + 0 ≡ j = omega arith in same) later
both_under j (d ∷ ds) es first later = (first.0, both_under (suc j) ds es first.1 (subst (λ n. EachUnder n es) (let same : j + suc (length ds) ≡ suc j + length ds = omega arith in same) later))

moved : (j k : ℕ) (ds : List Definition) → j ≡ k → EachUnder j ds → EachUnder k ds
moved j k ds same under = subst (λ n. EachUnder n ds) same under

named_under : (i : Inside) (kind : Kind) (count j : ℕ) (ns : List Identifier) → Under j i → EachUnder j (map (λ n. record { name = n; kind = kind; inside = i; elements = count }) ns)
named_under i kind count j [] under = tt
named_under i kind count j (n ∷ ns) under = (under, named_under i kind count (suc j) ns (under_later j (suc j) i (omega arith) under))

clause_under : (i around : Inside) (j : ℕ) (c : Clause) → Under j i → Under j around → EachUnder j (names_defined i c ++ elements_defined around (elements_in c.text))
clause_under i around j c first later =
    both_under j (names_defined i c) (elements_defined around (elements_in c.text)) (named_under i c.kind (elements_with c.kind (elements_in c.text)) j c.names first)
    (named_under around kinds.Element 0 (j + length (names_defined i c)) (elements_in c.text) (under_later j (j + length (names_defined i c)) around (omega arith) later))

clause_long : (i around : Inside) (c : Clause) → length (names_defined i c ++ elements_defined around (elements_in c.text)) ≡ clause_size c
clause_long i around c =
    let both = length-append (names_defined i c) (elements_defined around (elements_in c.text)) in
    let names : length (names_defined i c) ≡ length c.names = length-map c.names (λ n. record { name = n; kind = c.kind; inside = i; elements = elements_with c.kind (elements_in c.text) }) in
    let elements : length (elements_defined around (elements_in c.text)) ≡ length (elements_in c.text) = length-map (elements_in c.text) (defined around kinds.Element) in
    omega (arith, both, names, elements)

params_under : (around body : Inside) (j : ℕ) (cs : List Clause) → Under j body → Under j around → EachUnder j (params_defined around body cs)
params_under around body j [] first later = tt
params_under around body j (c ∷ cs) first later =
    let own = names_defined body c ++ elements_defined around (elements_in c.text) in
    both_under j own (params_defined around body cs) (clause_under body around j c first later)
    (params_under around body (j + length own) cs (under_later j (j + length own) body (omega arith) first) (under_later j (j + length own) around (omega arith) later))

params_long : (around body : Inside) (cs : List Clause) → length (params_defined around body cs) ≡ clauses_size cs
params_long around body [] = refl
params_long around body (c ∷ cs) =
    let own = clause_long body around c in
    let rest = params_long around body cs in
    let both = length-append (names_defined body c ++ elements_defined around (elements_in c.text)) (params_defined around body cs) in
    omega (arith, own, rest, both)

mutual
  part_long : (i : Inside) (from : ℕ) (p : PartTree) → IsSized p → length (definitions_of i from p) ≡ size_of p
  part_long i from (define c) sized = clause_long i i c
  part_long i from (modulion n region size ps) sized = let same = sized.0 in let inner = parts_long (Modulion from) (suc from) ps sized.1 in omega (arith, same, inner)
  part_long i from (routine n kind params result size ps) sized =
      let same = sized.0 in
      let head = params_defined i (Body from) params in
      let es = elements_defined i (elements_in result) in
      let inner = parts_long (Body from) (from + head_size params result) ps sized.1 in
      let one = params_long i (Body from) params in
      let other : length es ≡ length (elements_in result) = length-map (elements_in result) (defined i kinds.Element) in
      let first = length-append head es in
      let whole = length-append (head ++ es) (definitions_in (Body from) (from + head_size params result) ps) in
      omega (arith, same, inner, one, other, first, whole)
  part_long i from (block size ps) sized = let same = sized.0 in let inner = parts_long (within i) from ps sized.1 in omega (arith, same, inner)
  part_long i from (mention m) sized = refl
  part_long i from (seize n) sized = refl
  part_long i from (seize_all at) sized = refl
  part_long i from (grant n) sized = refl
  part_long i from (grant_all at) sized = refl
  part_long i from (stray n) sized = refl

  parts_long : (i : Inside) (from : ℕ) (ps : PartNodes) → AreSized ps → length (definitions_in i from ps) ≡ sizes_of ps
  parts_long i from no_parts sized = refl
  parts_long i from (more_parts p ps) sized =
      let own = part_long i from p sized.0 in
      let rest = parts_long i (from + size_of p) ps sized.1 in
      let both = length-append (definitions_of i from p) (definitions_in i (from + size_of p) ps) in
      omega (arith, own, rest, both)

mutual
  part_under : (i : Inside) (from : ℕ) (p : PartTree) → IsSized p → Under from i → EachUnder from (definitions_of i from p)
  part_under i from (define c) sized under = clause_under i i from c under under
  part_under i from (modulion n region size ps) sized under = (under, parts_under (Modulion from) (suc from) ps sized.1 (omega arith))
  part_under i from (routine n kind params result size ps) sized under =
      let head = params_defined i (Body from) params in
      let es = elements_defined i (elements_in result) in
      let body = definitions_in (Body from) (from + head_size params result) ps in
      let next : Under (suc from) i = under_later from (suc from) i (omega arith) under in
      let in_body : Under (suc from) (Body from) = omega arith in
      let one = params_long i (Body from) params in
      let other : length es ≡ length (elements_in result) = length-map (elements_in result) (defined i kinds.Element) in
      let first = length-append head es in
      let at_body : from + head_size params result ≡ suc from + length (head ++ es) = omega (arith, one, other, first) in
      let behind : Under (from + head_size params result) (Body from) = omega arith in (
        under,
        both_under (suc from) (head ++ es) body
            (both_under (suc from) head es (params_under i (Body from) (suc from) params in_body next)
            (named_under i kinds.Element 0 (suc from + length head) (elements_in result) (under_later (suc from) (suc from + length head) i (omega arith) next)))
            (moved (from + head_size params result) (suc from + length (head ++ es)) body at_body (parts_under (Body from) (from + head_size params result) ps sized.1 behind)),
      )
  part_under i from (block size ps) sized under = parts_under (within i) from ps sized.1 (under_within from i under)
  part_under i from (mention m) sized under = tt
  part_under i from (seize n) sized under = tt
  part_under i from (seize_all at) sized under = tt
  part_under i from (grant n) sized under = tt
  part_under i from (grant_all at) sized under = tt
  part_under i from (stray n) sized under = tt

  parts_under : (i : Inside) (from : ℕ) (ps : PartNodes) → AreSized ps → Under from i → EachUnder from (definitions_in i from ps)
  parts_under i from no_parts sized under = tt
  parts_under i from (more_parts p ps) sized under =
      let own = definitions_of i from p in
      let rest = definitions_in i (from + size_of p) ps in
      let long = part_long i from p sized.0 in
      both_under from own rest (part_under i from p sized.0 under)
      (moved (from + size_of p) (from + length own) rest (omega (arith, long)) (parts_under i (from + size_of p) ps sized.1 (under_later from (from + size_of p) i (omega arith) under)))

at_number : (j k : ℕ) (ds : List Definition) (d : Definition) → EachUnder j ds → slice_get ds k ≡ Some d → Under (j + k) d.inside
at_number j k [] d all at = no_some d at
at_number j zero (e ∷ ds) d all at = under_later j (j + 0) d.inside (omega arith) (subst (λ (x : Definition). Under j x.inside) (same_some e d at) all.0)
at_number j (suc k) (e ∷ ds) d all at = under_later (suc j + k) (j + suc k) d.inside (omega arith) (at_number (suc j) k ds d all.1 at)

-- a definition of a text stands in what is defined before it
pub text_under : (t : ProgramTree) (k : ℕ) (d : Definition) → slice_get (text_definitions (level_of t)) k ≡ Some d → Under k d.inside
text_under t k d at = under_later (0 + k) k d.inside (omega arith) (at_number 0 k (text_definitions (level_of t)) d (parts_under Outermost 0 (level_of t) (program_sized t) tt) at)
