-- The names that parts define, one for each definition, and how many definitions there are.
use Rattle.std.proofs.Common.{◌≡◌, ℕ, suc, ◌+◌, List, [], ◌∷◌, ◌++◌, length, refl, sym, ap, ◌∙◌, arith, append_assoc}
use Rattle.std.specs.Prelude.{map}
use Rattle.std.proofs.lemmas.List.{length-map, map-append}
use Rattle.names_model.specs.declared.identifier.Identifier.{Identifier}
use Rattle.names_model.specs.declared.kind.Kind.TheVariants as kinds
use Rattle.names_model.specs.declared.definition.Inside.{Inside}
use Rattle.names_model.specs.declared.definition.Inside.TheVariants.{Modulion, Body}
use Rattle.names_model.specs.declared.definition.Definition.{Definition}
use Rattle.names_model.specs.declared.part.Clause.{Clause}
use Rattle.names_model.specs.Parts.{PartTree, PartNodes, define, mention, seize, seize_all, grant, grant_all, stray, modulion, routine, block, no_parts as no_part, more_parts, part_nodes}
use Rattle.names_model.specs.Sizes.{elements_in, head_size, size_of, sizes_of}
use Rattle.names_model.specs.Definitions.{within, defined, elements_defined, elements_with, names_defined, params_defined, definitions_of, definitions_in}
use Rattle.written_laws.proofs.Rows.{DefineNothing}

abbrev pub names_of_clause : Clause → List Identifier
names_of_clause c = c.names ++ elements_in c.text

abbrev pub names_of_params : List Clause → List Identifier
names_of_params [] = []
names_of_params (c ∷ cs) = names_of_clause c ++ names_of_params cs

abbrev mutual
  pub names_of : PartTree → List Identifier
  names_of (define c) = names_of_clause c
  names_of (modulion n region size ps) = n ∷ names_in ps
  names_of (routine n kind params result size ps) = (n ∷ names_of_params params ++ elements_in result) ++ names_in ps
  names_of (block size ps) = names_in ps
  names_of (mention m) = []
  names_of (seize n) = []
  names_of (seize_all at) = []
  names_of (grant n) = []
  names_of (grant_all at) = []
  names_of (stray n) = []

  pub names_in : PartNodes → List Identifier
  names_in no_part = []
  names_in (more_parts p ps) = names_of p ++ names_in ps

pub names_split : (ps qs : List PartTree) → names_in (part_nodes (ps ++ qs)) ≡ names_in (part_nodes ps) ++ names_in (part_nodes qs)
names_split [] qs = refl
names_split (p ∷ ps) qs = ap (λ is. names_of p ++ is) (names_split ps qs) ∙ sym (append_assoc (names_of p) (names_in (part_nodes ps)) (names_in (part_nodes qs)))

pub two : {A : Type 0} {x y : A} {xs ys : List A} → x ≡ y → xs ≡ ys → x ∷ xs ≡ y ∷ ys
two {x = x} {y = y} {xs = xs} {ys = ys} one rest = ap (λ z. z ∷ xs) one ∙ ap (λ zs. y ∷ zs) rest

pub two_lists : {A : Type 0} {a b c d : List A} → a ≡ c → b ≡ d → a ++ b ≡ c ++ d
two_lists {a = a} {b = b} {c = c} {d = d} one rest = ap (λ z. z ++ b) one ∙ ap (λ z. c ++ z) rest

abbrev pub name_of_definition : Definition → Identifier
name_of_definition d = d.name

pub named_again : (f : Identifier → Definition) → ((n : Identifier) → (f n).name ≡ n) → (ns : List Identifier) → map name_of_definition (map f ns) ≡ ns
named_again f same [] = refl
named_again f same (n ∷ ns) = two (same n) (named_again f same ns)

pub clause_names : (i around : Inside) (c : Clause) → map name_of_definition (names_defined i c ++ elements_defined around (elements_in c.text)) ≡ names_of_clause c
clause_names i around c =
    map-append name_of_definition (names_defined i c) (elements_defined around (elements_in c.text))
    ∙ two_lists (named_again (λ n. record { name = n; kind = c.kind; inside = i; elements = elements_with c.kind (elements_in c.text) }) (λ n. refl) c.names) (named_again (defined around kinds.Element) (λ n. refl) (elements_in c.text))

pub params_names : (around body : Inside) (cs : List Clause) → map name_of_definition (params_defined around body cs) ≡ names_of_params cs
params_names around body [] = refl
params_names around body (c ∷ cs) =
    map-append name_of_definition (names_defined body c ++ elements_defined around (elements_in c.text)) (params_defined around body cs) ∙ two_lists (clause_names body around c) (params_names around body cs)

mutual
  pub part_names : (inside : Inside) (from : ℕ) (p : PartTree) → map name_of_definition (definitions_of inside from p) ≡ names_of p
  part_names inside from (define c) = clause_names inside inside c
  part_names inside from (modulion n region size ps) = ap (λ is. n ∷ is) (all_names (Modulion from) (suc from) ps)
  part_names inside from (routine n kind params result size ps) =
      let head = params_defined inside (Body from) params in
      let es = elements_defined inside (elements_in result) in
      ap (λ is. n ∷ is)
      (map-append name_of_definition (head ++ es) (definitions_in (Body from) (from + head_size params result) ps)
      ∙ two_lists (map-append name_of_definition head es ∙ two_lists (params_names inside (Body from) params) (named_again (defined inside kinds.Element) (λ n. refl) (elements_in result)))
      (all_names (Body from) (from + head_size params result) ps))
  part_names inside from (block size ps) = all_names (within inside) from ps
  part_names inside from (mention m) = refl
  part_names inside from (seize n) = refl
  part_names inside from (seize_all at) = refl
  part_names inside from (grant n) = refl
  part_names inside from (grant_all at) = refl
  part_names inside from (stray n) = refl

  -- the definitions in parts have these names
  pub all_names : (inside : Inside) (from : ℕ) (ps : PartNodes) → map name_of_definition (definitions_in inside from ps) ≡ names_in ps
  all_names inside from no_part = refl
  all_names inside from (more_parts p ps) = map-append name_of_definition (definitions_of inside from p) (definitions_in inside (from + size_of p) ps) ∙ two_lists (part_names inside from p) (all_names inside (from + size_of p) ps)

pub no_names : (ps : List PartTree) → DefineNothing ps → names_in (part_nodes ps) ≡ []
no_names [] none = refl
no_names (mention m ∷ ps) none = no_names ps none.1
no_names (seize n ∷ ps) none = no_names ps none.1
no_names (seize_all at ∷ ps) none = no_names ps none.1
no_names (grant n ∷ ps) none = no_names ps none.1
no_names (grant_all at ∷ ps) none = no_names ps none.1
no_names (stray n ∷ ps) none = no_names ps none.1
no_names (define c ∷ ps) none = absurd none.0
no_names (modulion n region size qs ∷ ps) none = absurd none.0
no_names (routine n kind params result size qs ∷ ps) none = absurd none.0
no_names (block size qs ∷ ps) none = absurd none.0

pub definitions_length : (inside : Inside) (from : ℕ) (ps : PartNodes) → length (definitions_in inside from ps) ≡ length (names_in ps)
definitions_length inside from ps = sym (length-map (definitions_in inside from ps) name_of_definition) ∙ ap length (all_names inside from ps)

pub sizes_split : (ps qs : List PartTree) → sizes_of (part_nodes (ps ++ qs)) ≡ sizes_of (part_nodes ps) + sizes_of (part_nodes qs)
sizes_split [] qs = omega arith
sizes_split (p ∷ ps) qs = let rest = sizes_split ps qs in omega (arith, rest)

pub definitions_split : (inside : Inside) (from : ℕ) (ps qs : List PartTree)
    → definitions_in inside from (part_nodes (ps ++ qs)) ≡ definitions_in inside from (part_nodes ps) ++ definitions_in inside (from + sizes_of (part_nodes ps)) (part_nodes qs)
definitions_split inside from [] qs = ap (λ k. definitions_in inside k (part_nodes qs)) (let same : from ≡ from + 0 = omega arith in same)
definitions_split inside from (p ∷ ps) qs =
    let own = definitions_of inside from p in
    let rest = definitions_in inside (from + size_of p) (part_nodes ps) in
    let same : (from + size_of p) + sizes_of (part_nodes ps) ≡ from + (size_of p + sizes_of (part_nodes ps)) = omega arith in
    ap (λ ds. own ++ ds) (definitions_split inside (from + size_of p) ps qs) ∙ (sym (append_assoc own rest (definitions_in inside ((from + size_of p) + sizes_of (part_nodes ps)) (part_nodes qs)))
    ∙ ap (λ k. (own ++ rest) ++ definitions_in inside k (part_nodes qs)) same)

pub no_sizes : (ps : List PartTree) → DefineNothing ps → sizes_of (part_nodes ps) ≡ 0
no_sizes [] none = refl
no_sizes (mention m ∷ ps) none = let rest = no_sizes ps none.1 in omega (arith, rest)
no_sizes (seize n ∷ ps) none = let rest = no_sizes ps none.1 in omega (arith, rest)
no_sizes (seize_all at ∷ ps) none = let rest = no_sizes ps none.1 in omega (arith, rest)
no_sizes (grant n ∷ ps) none = let rest = no_sizes ps none.1 in omega (arith, rest)
no_sizes (grant_all at ∷ ps) none = let rest = no_sizes ps none.1 in omega (arith, rest)
no_sizes (stray n ∷ ps) none = let rest = no_sizes ps none.1 in omega (arith, rest)
no_sizes (define c ∷ ps) none = absurd none.0
no_sizes (modulion n region size qs ∷ ps) none = absurd none.0
no_sizes (routine n kind params result size qs ∷ ps) none = absurd none.0
no_sizes (block size qs ∷ ps) none = absurd none.0
