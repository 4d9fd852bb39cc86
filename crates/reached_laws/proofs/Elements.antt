-- What goes along with a mode are elements.
use Rattle.std.proofs.Common.{◌≡◌, ℕ, zero, suc, ◌+◌, ◌<◌, List, [], ◌∷◌, ◌++◌, Some, length, inl, inr, refl, sym, ap, ◌∙◌, subst, arith}
use Rattle.std.specs.Prelude.{map, slice_get}
use Rattle.names_model.specs.declared.identifier.Identifier.{Identifier}
use Rattle.names_model.specs.declared.kind.Kind.TheVariants as kinds
use Rattle.names_model.specs.declared.definition.Inside.{Inside}
use Rattle.names_model.specs.declared.definition.Inside.TheVariants.{Modulion, Body}
use Rattle.names_model.specs.declared.definition.Definition.{Definition}
use Rattle.names_model.specs.declared.part.Clause.{Clause}
use Rattle.names_model.specs.Parts.{PartTree, PartNodes, define, mention, seize, seize_all, grant, grant_all, stray, modulion, routine, block, no_parts, more_parts, part_nodes}
use Rattle.names_model.specs.Sizes.{elements_in, head_size, size_of}
use Rattle.names_model.specs.Definitions.{within, defined, elements_defined, elements_with, names_defined, params_defined, definitions_of, definitions_in}
use Rattle.elaborated_laws.proofs.Told.{no_some, same_some}
use Rattle.written_laws.specs.Written.{Each}
use Rattle.reached_laws.proofs.Standing.{named_so, GoesAlong, IsPlain, ArePlain}

-- so many elements stand in front
abbrev pub BeginElements : ℕ → List Definition → Type 0
BeginElements zero ds = Unit {0}
BeginElements (suc n) [] = ⊥
BeginElements (suc n) (d ∷ ds) = (d.kind ≡ kinds.Element) × BeginElements n ds

-- as many stand behind each definition as go with it
abbrev pub GoElements : List Definition → Type 0
GoElements [] = Unit {0}
GoElements (d ∷ ds) = BeginElements d.elements ds × GoElements ds

begin_more : (n : ℕ) (ds es : List Definition) → BeginElements n ds → BeginElements n (ds ++ es)
begin_more zero ds es all = tt
begin_more (suc n) [] es all = absurd all
begin_more (suc n) (d ∷ ds) es all = (all.0, begin_more n ds es all.1)

pub go_both : (ds es : List Definition) → GoElements ds → GoElements es → GoElements (ds ++ es)
go_both [] es one other = other
go_both (d ∷ ds) es one other = (begin_more d.elements ds es one.0, go_both ds es one.1 other)

begin_elements : (i : Inside) (ns : List Identifier) → BeginElements (length ns) (elements_defined i ns)
begin_elements i [] = tt
begin_elements i (n ∷ ns) = (refl, begin_elements i ns)

go_alone : (f : Identifier → Definition) → ((n : Identifier) → (f n).elements ≡ 0) → (ns : List Identifier) → GoElements (map f ns)
go_alone f none [] = tt
go_alone f none (n ∷ ns) = (subst (λ k. BeginElements k (map f ns)) (sym (none n)) tt, go_alone f none ns)

pub go_defined : (i : Inside) (ns : List Identifier) → GoElements (elements_defined i ns)
go_defined i ns = go_alone (defined i kinds.Element) (λ n. refl) ns

go_clause : (i around : Inside) (c : Clause) → GoesAlong c → GoElements (names_defined i c ++ elements_defined around (elements_in c.text))
go_clause i around c (inl none) = go_both (names_defined i c) (elements_defined around (elements_in c.text)) (go_alone (named_so i c.kind (elements_with c.kind (elements_in c.text))) (λ n. none) c.names) (go_defined around (elements_in c.text))
go_clause i around c (inr (n, (alone, count))) =
    let es = elements_in c.text in
    let own = named_so i c.kind (elements_with c.kind es) in
    subst (λ ns. GoElements (map own ns ++ elements_defined around es)) (sym alone) (subst (λ k. BeginElements k (elements_defined around es)) (sym count) (begin_elements around es), go_defined around es)

params_go : (around body : Inside) (cs : List Clause) → Each GoesAlong cs → GoElements (params_defined around body cs)
params_go around body [] all = tt
params_go around body (c ∷ cs) all = go_both (names_defined body c ++ elements_defined around (elements_in c.text)) (params_defined around body cs) (go_clause body around c all.0) (params_go around body cs all.1)

abbrev mutual
  -- each clause of parts has its elements behind it
  pub IsFit : PartTree → Type 0
  IsFit (define c) = GoesAlong c
  IsFit (routine n kind params result size ps) = Each GoesAlong params × AreFit ps
  IsFit (modulion n region size ps) = AreFit ps
  IsFit (block size ps) = AreFit ps
  IsFit (mention m) = Unit {0}
  IsFit (seize n) = Unit {0}
  IsFit (seize_all at) = Unit {0}
  IsFit (grant n) = Unit {0}
  IsFit (grant_all at) = Unit {0}
  IsFit (stray n) = Unit {0}

  pub AreFit : PartNodes → Type 0
  AreFit no_parts = Unit {0}
  AreFit (more_parts p ps) = IsFit p × AreFit ps

pub fit_both : (ps qs : List PartTree) → AreFit (part_nodes ps) → AreFit (part_nodes qs) → AreFit (part_nodes (ps ++ qs))
fit_both [] qs one other = other
fit_both (p ∷ ps) qs one other = (one.0, fit_both ps qs one.1 other)

mutual
  fit_part : (p : PartTree) → IsPlain p → IsFit p
  fit_part (define c) plain = plain
  fit_part (block size ps) plain = plain_fit ps plain
  fit_part (mention m) plain = tt
  fit_part (stray n) plain = tt
  fit_part (seize n) plain = absurd plain
  fit_part (seize_all at) plain = absurd plain
  fit_part (grant n) plain = absurd plain
  fit_part (grant_all at) plain = absurd plain
  fit_part (modulion n region size ps) plain = absurd plain
  fit_part (routine n kind params result size ps) plain = absurd plain

  pub plain_fit : (ps : PartNodes) → ArePlain ps → AreFit ps
  plain_fit no_parts plain = tt
  plain_fit (more_parts p ps) plain = (fit_part p plain.0, plain_fit ps plain.1)

mutual
  part_go : (i : Inside) (from : ℕ) (p : PartTree) → IsFit p → GoElements (definitions_of i from p)
  part_go i from (define c) fit = go_clause i i c fit
  part_go i from (modulion n region size ps) fit = (tt, parts_go (Modulion from) (suc from) ps fit)
  part_go i from (routine n kind params result size ps) fit =
      let head = params_defined i (Body from) params in
      let es = elements_defined i (elements_in result) in
      let body = definitions_in (Body from) (from + head_size params result) ps in
      (tt, go_both (head ++ es) body (go_both head es (params_go i (Body from) params fit.0) (go_defined i (elements_in result))) (parts_go (Body from) (from + head_size params result) ps fit.1))
  part_go i from (block size ps) fit = parts_go (within i) from ps fit
  part_go i from (mention m) fit = tt
  part_go i from (seize n) fit = tt
  part_go i from (seize_all at) fit = tt
  part_go i from (grant n) fit = tt
  part_go i from (grant_all at) fit = tt
  part_go i from (stray n) fit = tt

  pub parts_go : (i : Inside) (from : ℕ) (ps : PartNodes) → AreFit ps → GoElements (definitions_in i from ps)
  parts_go i from no_parts fit = tt
  parts_go i from (more_parts p ps) fit = go_both (definitions_of i from p) (definitions_in i (from + size_of p) ps) (part_go i from p fit.0) (parts_go i (from + size_of p) ps fit.1)

begins_there : (n : ℕ) (ds : List Definition) (j : ℕ) (y : Definition) → BeginElements n ds → j < n → slice_get ds j ≡ Some y → y.kind ≡ kinds.Element
begins_there zero ds j y all less at = absurd (let none : ⊥ = omega (arith, less) in none)
begins_there (suc n) [] j y all less at = absurd all
begins_there (suc n) (d ∷ ds) zero y all less at = subst (λ (x : Definition). x.kind ≡ kinds.Element) (same_some d y at) all.0
begins_there (suc n) (d ∷ ds) (suc j) y all less at = begins_there n ds j y all.1 (omega (arith, less)) at

-- what stands so far behind a definition as its elements do is one
pub goes_element : (ds : List Definition) (m e : ℕ) (x y : Definition) (j : ℕ) → GoElements ds → slice_get ds m ≡ Some x → j < x.elements → e ≡ suc (m + j) → slice_get ds e ≡ Some y → y.kind ≡ kinds.Element
goes_element [] m e x y j all at less same there = no_some x at
goes_element (d ∷ ds) zero zero x y j all at less same there = absurd (let none : ⊥ = omega (arith, same) in none)
goes_element (d ∷ ds) zero (suc e) x y j all at less same there =
    begins_there d.elements ds j y all.0 (subst (λ (z : Definition). j < z.elements) (sym (same_some d x at)) less) (ap (slice_get ds) (let back : j ≡ e = omega (arith, same) in back) ∙ there)
goes_element (d ∷ ds) (suc m) zero x y j all at less same there = absurd (let none : ⊥ = omega (arith, same) in none)
goes_element (d ∷ ds) (suc m) (suc e) x y j all at less same there = goes_element ds m e x y j all.1 at less (omega (arith, same)) there
