-- What the phase of names gives of a program: the names, or the list of the rules that are broken.
use Rattle.std.specs.Prelude.{ℕ, List, [], ◌∷◌, ◌++◌, flat_map, slice_index_or}
use Rattle.diagnostics.specs.declared.diagnostic.Diagnostic.{Diagnostic}
use Rattle.chill_tree.specs.ItemTree.{ProgramTree}
use Rattle.diagnostics.specs.Listing.{listed}
use Rattle.diagnostics.specs.Order.{diagnostic_cmp}
use Rattle.names_model.specs.declared.definition.Definition.{Definition}
use Rattle.names_model.specs.declared.names.Resolved.{Resolved}
use Rattle.names_model.specs.declared.names.Names.{Names}
use Rattle.names_model.specs.declared.part.Mention.{Mention}
use Rattle.names_model.specs.declared.part.Mention.TheVariants.{Use, Argument, Element}
use Rattle.names_model.specs.Parts.{PartTree, PartNodes, define, mention, seize, seize_all, grant, grant_all, stray, modulion, routine, block, part_nodes}
use Rattle.names_model.specs.ItemParts.{program_parts}
use Rattle.names_model.specs.Definitions.{text_definitions, with_predefined}
use Rattle.names_model.specs.Seeing.{Reach, outermost, sees}
use Rattle.names_model.specs.NameRules.{nodes, told_in, told_surplus}
use Rattle.names_model.specs.Dependence.{groups_in, told_selves}

-- ---- the list of the phase

-- all that is told of the names of a program: N1 to N5 in the order of the text, N6 and L3
abbrev pub told_of_names : PartNodes → List Diagnostic
told_of_names ps = told_in (text_definitions ps) (outermost ps) 0 ps ++ told_selves (text_definitions ps) (groups_in (text_definitions ps) (outermost ps) 0 ps) ++ told_surplus (text_definitions ps)

-- the list of the phase: in order, each once
abbrev pub broken_names : PartNodes → List Diagnostic
broken_names ps = listed diagnostic_cmp (told_of_names ps)

-- ---- the names

-- a use stands for the definition that is seen
abbrev pub resolved_mention : List Definition → Reach → Mention → List Resolved
resolved_mention text r (Use n need) = record { at = n.at; to = slice_index_or (sees text r n.spelling) 0 0 } ∷ []
resolved_mention text r (Argument n callee) = record { at = n.at; to = slice_index_or (sees text r n.spelling) 0 0 } ∷ []
resolved_mention text r (Element n) = []

abbrev pub resolved_mentions : List Definition → Reach → List Mention → List Resolved
resolved_mentions text r ms = flat_map (resolved_mention text r) ms

abbrev pub resolved_here : List Definition → Reach → PartTree → List Resolved
resolved_here text r (define c) = resolved_mentions text r c.text
resolved_here text r (mention m) = resolved_mention text r m
resolved_here text r (routine n kind params result size ps) = flat_map (λ c. resolved_mentions text r c.text) params ++ resolved_mentions text r result
resolved_here text r (seize n) = []
resolved_here text r (seize_all at) = []
resolved_here text r (grant n) = []
resolved_here text r (grant_all at) = []
resolved_here text r (stray n) = []
resolved_here text r (modulion n region size ps) = []
resolved_here text r (block size ps) = []

-- the uses in a reach and in those inside it
abbrev pub resolved_in : List Definition → Reach → ℕ → PartNodes → List Resolved
resolved_in text r from ps = flat_map (λ k. resolved_here text k.reach k.part) (nodes r from ps)

-- the definitions of a program and what its uses stand for
abbrev pub names_of : PartNodes → Names
names_of ps = record {
  definitions = with_predefined (text_definitions ps);
  uses = resolved_in (text_definitions ps) (outermost ps) 0 ps;
}

-- the outermost level of a program
abbrev pub level_of : ProgramTree → PartNodes
level_of tree = part_nodes (program_parts tree)
