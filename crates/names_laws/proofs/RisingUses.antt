-- The places of the uses of a program rise where those of its tokens do.
use Rattle.std.proofs.Common.{◌≡◌, ℕ, ◌+◌, List, [], ◌∷◌, ◌++◌, refl, ap, sym, ◌∙◌, subst, append_assoc, append-nil}
use Rattle.std.specs.Prelude.{flat_map}
use Rattle.std.proofs.lemmas.Grind.{flat_map-append}
use Rattle.std.proofs.lemmas.List.{map-append}
use Rattle.chill_base.specs.declared.pos.Pos.{Pos}
use Rattle.rules_model.specs.Marks.{Toks}
use Rattle.names_model.specs.declared.definition.Definition.{Definition}
use Rattle.names_model.specs.declared.identifier.Identifier.{Identifier}
use Rattle.names_model.specs.declared.names.Resolved.{Resolved}
use Rattle.names_model.specs.declared.part.Mention.{Mention}
use Rattle.names_model.specs.declared.part.Mention.TheVariants.{Use, Argument, Element}
use Rattle.names_model.specs.declared.part.Clause.{Clause}
use Rattle.names_model.specs.Parts.{PartTree, PartNodes, define, mention, seize, seize_all, grant, grant_all, stray, modulion, routine, block, no_parts, more_parts}
use Rattle.names_model.specs.Sizes.{size_of}
use Rattle.names_model.specs.Definitions.{text_definitions}
use Rattle.names_model.specs.Seeing.{Reach, outermost}
use Rattle.names_model.specs.NameRules.{Node, nodes, nodes_inside}
use Rattle.names_model.specs.ItemParts.{program_parts}
use Rattle.names_model.specs.Resolving.{resolved_mention, resolved_mentions, resolved_here, resolved_in, level_of}
use Rattle.names_laws.specs.Rising.{PrecedesEach, Rise, token_places, use_places, RisingUsesLaw}
use Rattle.names_laws.proofs.NamePlaces.{uses, of_name, of_clause, of_mention, of_part, of_nodes, nodes_flat, Within, nowhere, passed, taken}
use Rattle.names_laws.proofs.NamePlacesItem.{program_within}

-- ---- the uses in reaches are those in the parts

module _ (text : List Definition) where
  mention_places : (r : Reach) (ms : List Mention) → use_places (resolved_mentions text r ms) ≡ flat_map (of_mention uses) ms
  mention_places r [] = refl
  mention_places r (Use n need ∷ ms) = ap (λ ps. n.at ∷ ps) (mention_places r ms)
  mention_places r (Argument n callee ∷ ms) = ap (λ ps. n.at ∷ ps) (mention_places r ms)
  mention_places r (Element n ∷ ms) = mention_places r ms

  joined_places : (us vs : List Resolved) (ps qs : List Pos) → use_places us ≡ ps → use_places vs ≡ qs → use_places (us ++ vs) ≡ ps ++ qs
  joined_places us vs ps qs d e = map-append (λ u. u.at) us vs ∙ ap (λ xs. xs ++ use_places vs) d ∙ ap (λ xs. ps ++ xs) e

  -- no name of a clause is a use
  unused : (ns : List Identifier) → [] ≡ flat_map (of_name uses) ns
  unused [] = refl
  unused (n ∷ ns) = unused ns

  clause_use_places : (r : Reach) (c : Clause) → use_places (resolved_mentions text r c.text) ≡ of_clause uses c
  clause_use_places r c = mention_places r c.text ∙ ap (λ ps. ps ++ flat_map (of_mention uses) c.text) (unused c.names)

  clauses_places : (r : Reach) (cs : List Clause) → use_places (flat_map (λ c. resolved_mentions text r c.text) cs) ≡ flat_map (of_clause uses) cs
  clauses_places r [] = refl
  clauses_places r (c ∷ cs) = joined_places (resolved_mentions text r c.text) (flat_map (λ d. resolved_mentions text r d.text) cs) (of_clause uses c) (flat_map (of_clause uses) cs) (clause_use_places r c) (clauses_places r cs)

  head_places : (r : Reach) (cs : List Clause) (ms : List Mention) → use_places (flat_map (λ c. resolved_mentions text r c.text) cs ++ resolved_mentions text r ms) ≡ flat_map (of_clause uses) cs ++ flat_map (of_mention uses) ms
  head_places r cs ms = joined_places (flat_map (λ c. resolved_mentions text r c.text) cs) (resolved_mentions text r ms) (flat_map (of_clause uses) cs) (flat_map (of_mention uses) ms) (clauses_places r cs) (mention_places r ms)

  -- what a part has in its reach, and in the reaches inside it
  abbrev at_node : Node → List Resolved
  at_node k = resolved_here text k.reach k.part

  abbrev all_in : Reach → ℕ → PartTree → List Resolved
  all_in r from p = resolved_here text r p ++ flat_map at_node (nodes_inside r from p)

  mutual
    part_places : (p : PartTree) (r : Reach) (from : ℕ) → use_places (all_in r from p) ≡ of_part uses p
    part_places (define c) r from = ap use_places (append-nil (resolved_mentions text r c.text)) ∙ clause_use_places r c
    part_places (mention m) r from = mention_places r (m ∷ []) ∙ append-nil (of_mention uses m)
    part_places (routine n kind params result size ps) r from =
        joined_places (flat_map (λ c. resolved_mentions text r c.text) params ++ resolved_mentions text r result) _ (flat_map (of_clause uses) params ++ flat_map (of_mention uses) result) (of_nodes uses ps) (head_places r params result) (nodes_places ps _ _)
    part_places (modulion n region size ps) r from = nodes_places ps _ _
    part_places (block size ps) r from = nodes_places ps _ _
    part_places (seize n) r from = refl
    part_places (seize_all at) r from = refl
    part_places (grant n) r from = refl
    part_places (grant_all at) r from = refl
    part_places (stray n) r from = refl

    nodes_places : (ps : PartNodes) (r : Reach) (from : ℕ) → use_places (resolved_in text r from ps) ≡ of_nodes uses ps
    nodes_places no_parts r from = refl
    nodes_places (more_parts p ps) r from =
        let rest = nodes r (from + size_of p) ps in
        ap use_places (ap (λ us. resolved_here text r p ++ us) (flat_map-append at_node (nodes_inside r from p) rest) ∙ sym (append_assoc (resolved_here text r p) (flat_map at_node (nodes_inside r from p)) (flat_map at_node rest)))
        ∙ joined_places (all_in r from p) (flat_map at_node rest) (of_part uses p) (of_nodes uses ps) (part_places p r from) (nodes_places ps r (from + size_of p))

-- ---- some of what rises

each_within : (q : Pos) {ps : List Pos} {toks : Toks} → Within ps toks → PrecedesEach q (token_places toks) → PrecedesEach q ps
each_within q nowhere each = tt
each_within q (passed w) each = each_within q w each.1
each_within q (taken w) each = (each.0, each_within q w each.1)

pub rise_within : {ps : List Pos} {toks : Toks} → Within ps toks → Rise (token_places toks) → Rise ps
rise_within nowhere rise = tt
rise_within (passed w) rise = rise_within w rise.1
rise_within (taken w) rise = (each_within _ w rise.0, rise_within w rise.1)

pub rising_uses : RisingUsesLaw
rising_uses tokens tree rise d =
    let ps = program_parts tree in
    let text = text_definitions (level_of tree) in
    let same : use_places (resolved_in text (outermost (level_of tree)) 0 (level_of tree)) ≡ flat_map (of_part uses) ps = nodes_places text (level_of tree) (outermost (level_of tree)) 0 ∙ sym (nodes_flat uses ps) in
    subst Rise (sym same) (rise_within (program_within uses d) rise)
