-- Which definitions depend on which, and what is told of those that depend on themselves.
use Rattle.std.specs.Prelude.{ℕ, suc, ◌+◌, Bool, ◌&&◌, ◌||◌, List, [], ◌∷◌, map, flat_map, length, slice_get, Option, Some, None, if◌then◌else◌}
use Rattle.std.specs.List.{filter}
use Rattle.diagnostics.specs.declared.rule.Rule.TheVariants as rules
use Rattle.diagnostics.specs.declared.diagnostic.Diagnostic.{Diagnostic}
use Rattle.cycles.specs.declared.group.Group.{Group}
use Rattle.cycles.specs.Groups.{edges_of}
use Rattle.cycles.specs.Testing.{depends_on}
use Rattle.names_model.specs.declared.identifier.Identifier.{Identifier}
use Rattle.names_model.specs.declared.definition.Definition.{Definition}
use Rattle.names_model.specs.declared.part.Mention.{Mention}
use Rattle.names_model.specs.declared.part.Mention.TheVariants.{Use, Argument, Element}
use Rattle.names_model.specs.declared.part.Clause.{Clause}
use Rattle.names_model.specs.Kinds.{is_constant, is_location}
use Rattle.names_model.specs.Parts.{PartTree, PartNodes, define, mention, seize, seize_all, grant, grant_all, stray, modulion, routine, block}
use Rattle.names_model.specs.Sizes.{clause_size}
use Rattle.names_model.specs.Definitions.{numbers_on, with_predefined, is_kind_at}
use Rattle.names_model.specs.Seeing.{Reach, sees}
use Rattle.names_model.specs.NameRules.{nodes, tell}

-- the names that are used in a text
abbrev pub uses_in : List Mention → List Identifier
uses_in [] = []
uses_in (Use n need ∷ ms) = n ∷ uses_in ms
uses_in (Argument n callee ∷ ms) = n ∷ uses_in ms
uses_in (Element n ∷ ms) = uses_in ms

-- all definitions that are seen under the names in a text
abbrev pub named_in : List Definition → Reach → List Mention → List ℕ
named_in text r ms = flat_map (λ n. sees text r n.spelling) (uses_in ms)

abbrev pub group : List ℕ → List ℕ → Group
group from to = record { from = from; to = to }

-- each name of a clause depends on what is named in the clause's text
abbrev pub clause_group : List Definition → Reach → ℕ → Clause → Group
clause_group text r from c = group (numbers_on from (length c.names)) (named_in text r c.text)

abbrev pub param_groups : List Definition → Reach → ℕ → List Clause → List Group
param_groups text r from [] = []
param_groups text r from (c ∷ cs) = clause_group text r from c ∷ param_groups text r (from + clause_size c) cs

-- a procedure depends on the mode of its result alone, and no definition on initial values or bodies
abbrev pub groups_of : List Definition → Reach → ℕ → PartTree → List Group
groups_of text r from (define c) = clause_group text r from c ∷ []
groups_of text r from (routine n kind params result size ps) = group (from ∷ []) (named_in text r result) ∷ param_groups text r (suc from) params
groups_of text r from (mention m) = []
groups_of text r from (seize n) = []
groups_of text r from (seize_all at) = []
groups_of text r from (grant n) = []
groups_of text r from (grant_all at) = []
groups_of text r from (stray n) = []
groups_of text r from (modulion n region size ps) = []
groups_of text r from (block size ps) = []

-- what depends on what in a reach and in those inside it
abbrev pub groups_in : List Definition → Reach → ℕ → PartNodes → List Group
groups_in text r from ps = flat_map (λ k. groups_of text k.reach k.from k.part) (nodes r from ps)

-- the locations among some definitions, where `all` are those of the text and the predefined ones
abbrev pub locations_in : List Definition → List ℕ → List ℕ
locations_in all ds = filter (is_kind_at is_location all) ds

-- what depends on what among locations alone
abbrev pub among_locations : List Definition → List Group → List Group
among_locations all gs = map (λ g. group (locations_in all g.from) (locations_in all g.to)) gs

-- ---- N6: a synonym or mode depends on itself, or a location through locations alone

abbrev pub is_self : List Definition → List Group → ℕ → Bool
is_self all gs d = (is_kind_at is_constant all d && depends_on (edges_of gs) d d) || (is_kind_at is_location all d && depends_on (edges_of (among_locations all gs)) d d)

abbrev pub told_self : Bool → Option Definition → List Diagnostic
told_self self None = []
told_self self (Some d) = if self then tell d.name.at rules.N6 d.name.spelling ∷ [] else []

abbrev pub told_selves : List Definition → List Group → List Diagnostic
told_selves text gs = flat_map (λ d. told_self (is_self (with_predefined text) gs d) (slice_get (with_predefined text) d)) (numbers_on 0 (length text))
