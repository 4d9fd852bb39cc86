-- The places of the definitions of a program rise where those of its tokens do.
use Rattle.std.proofs.Common.{◌≡◌, ℕ, suc, ◌+◌, List, [], ◌∷◌, ◌++◌, refl, ap, sym, ◌∙◌, subst}
use Rattle.std.specs.Prelude.{map, flat_map}
use Rattle.std.proofs.lemmas.List.{map-append}
use Rattle.chill_base.specs.declared.pos.Pos.{Pos}
use Rattle.names_model.specs.declared.identifier.Identifier.{Identifier}
use Rattle.names_model.specs.declared.kind.Kind.{Kind}
use Rattle.names_model.specs.declared.definition.Inside.{Inside}
use Rattle.names_model.specs.declared.definition.Inside.TheVariants.{Outermost, Modulion, Body}
use Rattle.names_model.specs.declared.definition.Definition.{Definition}
use Rattle.names_model.specs.declared.part.Mention.{Mention}
use Rattle.names_model.specs.declared.part.Mention.TheVariants.{Use, Argument, Element}
use Rattle.names_model.specs.declared.part.Clause.{Clause}
use Rattle.names_model.specs.Parts.{PartTree, PartNodes, define, mention, seize, seize_all, grant, grant_all, stray, modulion, routine, block, no_parts, more_parts}
use Rattle.names_model.specs.Sizes.{elements_in, head_size, size_of}
use Rattle.names_model.specs.Definitions.{within, defined, elements_defined, elements_with, names_defined, params_defined, definitions_of, definitions_in, text_definitions}
use Rattle.names_model.specs.ItemParts.{program_parts}
use Rattle.names_model.specs.Resolving.{level_of}
use Rattle.names_laws.specs.Rising.{Rise, definition_places, RisingDefinitionsLaw}
use Rattle.names_laws.proofs.NamePlaces.{definitions, of_name, of_clause, of_mention, of_part, of_nodes, nodes_flat}
use Rattle.names_laws.proofs.NamePlacesItem.{program_within}
use Rattle.names_laws.proofs.RisingUses.{rise_within}

joined : (ds es : List Definition) (ps qs : List Pos) → definition_places ds ≡ ps → definition_places es ≡ qs → definition_places (ds ++ es) ≡ ps ++ qs
joined ds es ps qs d e = map-append (λ x. x.name.at) ds es ∙ ap (λ xs. xs ++ definition_places es) d ∙ ap (λ xs. ps ++ xs) e

-- names with what is the same for all of them
names_places : (kind : Kind) (inside : Inside) (elements : ℕ) (ns : List Identifier)
    → definition_places (map (λ n. record { name = n; kind = kind; inside = inside; elements = elements }) ns) ≡ flat_map (of_name definitions) ns
names_places kind inside elements [] = refl
names_places kind inside elements (n ∷ ns) = ap (λ ps. n.at ∷ ps) (names_places kind inside elements ns)

elements_places : (inside : Inside) (ms : List Mention) → definition_places (elements_defined inside (elements_in ms)) ≡ flat_map (of_mention definitions) ms
elements_places inside [] = refl
elements_places inside (Use n need ∷ ms) = elements_places inside ms
elements_places inside (Argument n callee ∷ ms) = elements_places inside ms
elements_places inside (Element n ∷ ms) = ap (λ ps. n.at ∷ ps) (elements_places inside ms)

-- the names of a clause may stand elsewhere than the elements that go with them
clause_places : (names around : Inside) (c : Clause) → definition_places (names_defined names c ++ elements_defined around (elements_in c.text)) ≡ of_clause definitions c
clause_places names around c =
    joined (names_defined names c) (elements_defined around (elements_in c.text)) (flat_map (of_name definitions) c.names) (flat_map (of_mention definitions) c.text)
    (names_places c.kind names (elements_with c.kind (elements_in c.text)) c.names) (elements_places around c.text)

params_places : (around body : Inside) (cs : List Clause) → definition_places (params_defined around body cs) ≡ flat_map (of_clause definitions) cs
params_places around body [] = refl
params_places around body (c ∷ cs) =
    joined (names_defined body c ++ elements_defined around (elements_in c.text)) (params_defined around body cs) (of_clause definitions c) (flat_map (of_clause definitions) cs)
    (clause_places body around c) (params_places around body cs)

head_places : (inside body : Inside) (params : List Clause) (result : List Mention)
    → definition_places (params_defined inside body params ++ elements_defined inside (elements_in result)) ≡ flat_map (of_clause definitions) params ++ flat_map (of_mention definitions) result
head_places inside body params result =
    joined (params_defined inside body params) (elements_defined inside (elements_in result)) (flat_map (of_clause definitions) params) (flat_map (of_mention definitions) result)
    (params_places inside body params) (elements_places inside result)

mutual
  part_places : (p : PartTree) (inside : Inside) (from : ℕ) → definition_places (definitions_of inside from p) ≡ of_part definitions p
  part_places (define c) inside from = clause_places inside inside c
  part_places (mention m) inside from = refl
  part_places (seize n) inside from = refl
  part_places (seize_all at) inside from = refl
  part_places (grant n) inside from = refl
  part_places (grant_all at) inside from = refl
  part_places (stray n) inside from = refl
  part_places (modulion n region size ps) inside from = ap (λ qs. n.at ∷ qs) (nodes_places ps (Modulion from) (suc from))
  part_places (routine n kind params result size ps) inside from =
      ap (λ qs. n.at ∷ qs)
      (joined (params_defined inside (Body from) params ++ elements_defined inside (elements_in result)) (definitions_in (Body from) (from + head_size params result) ps)
      (flat_map (of_clause definitions) params ++ flat_map (of_mention definitions) result) (of_nodes definitions ps)
      (head_places inside (Body from) params result) (nodes_places ps (Body from) (from + head_size params result)))
  part_places (block size ps) inside from = nodes_places ps (within inside) from

  nodes_places : (ps : PartNodes) (inside : Inside) (from : ℕ) → definition_places (definitions_in inside from ps) ≡ of_nodes definitions ps
  nodes_places no_parts inside from = refl
  nodes_places (more_parts p ps) inside from =
      joined (definitions_of inside from p) (definitions_in inside (from + size_of p) ps) (of_part definitions p) (of_nodes definitions ps) (part_places p inside from) (nodes_places ps inside (from + size_of p))

pub rising_definitions : RisingDefinitionsLaw
rising_definitions tokens tree rise d =
    let ps = program_parts tree in
    let same : definition_places (text_definitions (level_of tree)) ≡ flat_map (of_part definitions) ps = nodes_places (level_of tree) Outermost 0 ∙ sym (nodes_flat definitions ps) in
    subst Rise (sym same) (rise_within (program_within definitions d) rise)
