-- The rules on names, each stated of one part in its reach.
use Rattle.std.specs.Prelude.{ℕ, suc, ◌+◌, ◌==◌, Bool, ◌&&◌, ◌||◌, not, List, [], ◌∷◌, ◌++◌, flat_map, length, nat_lt, slice_get, Option, Some, None, if◌then◌else◌}
use Rattle.std.specs.List.{list_any}
use Rattle.std.specs.Str.{bytes_eq}
use Rattle.chill_base.specs.declared.pos.Pos.{Pos}
use Rattle.diagnostics.specs.declared.rule.Rule.{Rule}
use Rattle.diagnostics.specs.declared.rule.Rule.TheVariants as rules
use Rattle.diagnostics.specs.declared.diagnostic.Diagnostic.{Diagnostic}
use Rattle.names_model.specs.declared.identifier.Identifier.{Identifier}
use Rattle.names_model.specs.declared.kind.Kind.{Kind}
use Rattle.names_model.specs.declared.kind.Need.TheVariants as needs
use Rattle.names_model.specs.declared.definition.Definition.{Definition}
use Rattle.names_model.specs.declared.entry.Entry.{Entry}
use Rattle.names_model.specs.declared.part.Mention.{Mention}
use Rattle.names_model.specs.declared.part.Mention.TheVariants.{Use, Argument, Element}
use Rattle.names_model.specs.declared.part.Clause.{Clause}
use Rattle.names_model.specs.Kinds.{fits, is_measuring}
use Rattle.names_model.specs.Parts.{PartTree, PartNodes, define, mention, seize, seize_all, grant, grant_all, stray, modulion, routine, block, no_parts, more_parts}
use Rattle.names_model.specs.Sizes.{head_size, size_of}
use Rattle.names_model.specs.Definitions.{with_predefined, spelling_at, is_kind_at}
use Rattle.names_model.specs.Entries.{param_names}
use Rattle.names_model.specs.Seeing.{Reach, in_modulion, in_block, sees, seen_around, reach_entries, is_empty}

-- a part and the reach in which it stands; its first definition has the number `from`
pub record Node : Type 0 where
  pub reach : Reach
  pub from : ℕ
  pub part : PartTree

abbrev pub node : Reach → ℕ → PartTree → Node
node r from p = record { reach = r; from = from; part = p }

-- the body of a procedure or process as a reach
abbrev pub body_reach : Reach → ℕ → List Clause → List Mention → PartNodes → Reach
body_reach r from params result ps = in_block r (param_names (suc from) params) (from + head_size params result) ps

abbrev mutual
  -- the parts in the reach that a part opens, and in those inside it
  pub nodes_inside : Reach → ℕ → PartTree → List Node
  nodes_inside r from (modulion n region size ps) = nodes (in_modulion r (suc from) ps) (suc from) ps
  nodes_inside r from (routine n kind params result size ps) = nodes (body_reach r from params result ps) (from + head_size params result) ps
  nodes_inside r from (block size ps) = nodes (in_block r [] from ps) from ps
  nodes_inside r from (define c) = []
  nodes_inside r from (mention m) = []
  nodes_inside r from (seize n) = []
  nodes_inside r from (seize_all at) = []
  nodes_inside r from (grant n) = []
  nodes_inside r from (grant_all at) = []
  nodes_inside r from (stray n) = []

  -- the parts of a reach and of those inside it, in the order of the text
  pub nodes : Reach → ℕ → PartNodes → List Node
  nodes r from no_parts = []
  nodes r from (more_parts p ps) = node r from p ∷ (nodes_inside r from p ++ nodes r (from + size_of p) ps)

-- a diagnostic that tells one name
abbrev pub tell : Pos → Rule → List ℕ → Diagnostic
tell at rule n = record { at = at; rule = rule; first = n; second = [] }

-- a rule is told of a name unless something is seen
abbrev pub unless_seen : Rule → Identifier → List ℕ → List Diagnostic
unless_seen rule n seen = if is_empty seen then tell n.at rule n.spelling ∷ [] else []

-- ---- N1: a name gets a second entry in one reach for another definition

-- an earlier entry of the definition's name is for another definition
abbrev pub clashes : List Definition → List ℕ → ℕ → Bool
clashes all earlier d = list_any (λ e. bytes_eq (spelling_at all e) (spelling_at all d) && not (e == d)) earlier

abbrev pub told_number : List Definition → List ℕ → Pos → ℕ → List Diagnostic
told_number all earlier at d = if clashes all earlier d then tell at rules.N1 (spelling_at all d) ∷ [] else []

-- the entries of a reach that clash with those of earlier places
abbrev pub told_behind : List Definition → List ℕ → List Entry → List Diagnostic
told_behind all earlier [] = []
told_behind all earlier (e ∷ es) = flat_map (told_number all earlier e.at) e.numbers ++ told_behind all (earlier ++ e.numbers) es

abbrev pub told_twice : List Definition → Reach → List Diagnostic
told_twice text r = told_behind (with_predefined text) [] (reach_entries text r)

-- N1 in the reach that a part opens
abbrev pub twice_inside : List Definition → Reach → ℕ → PartTree → List Diagnostic
twice_inside text r from (modulion n region size ps) = told_twice text (in_modulion r (suc from) ps)
twice_inside text r from (routine n kind params result size ps) = told_twice text (body_reach r from params result ps)
twice_inside text r from (block size ps) = told_twice text (in_block r [] from ps)
twice_inside text r from (define c) = []
twice_inside text r from (mention m) = []
twice_inside text r from (seize n) = []
twice_inside text r from (seize_all at) = []
twice_inside text r from (grant n) = []
twice_inside text r from (grant_all at) = []
twice_inside text r from (stray n) = []

-- ---- N2: a used name isn't seen. N5: none of the definitions seen is of a kind that its place needs

abbrev pub any_kind : (Kind → Bool) → List Definition → List ℕ → Bool
any_kind test all ds = list_any (is_kind_at test all) ds

abbrev pub told_use : Identifier → List ℕ → Bool → List Diagnostic
told_use n seen fit = if is_empty seen then tell n.at rules.N2 n.spelling ∷ [] else (if fit then [] else tell n.at rules.N5 n.spelling ∷ [])

-- an argument of UPPER, LOWER or SIZE may be a mode
abbrev pub fits_argument : List Definition → List ℕ → List ℕ → Bool
fits_argument all callee seen = any_kind (fits needs.Value) all seen || (any_kind is_measuring all callee && any_kind (fits needs.Mode) all seen)

abbrev pub told_mention : List Definition → Reach → Mention → List Diagnostic
told_mention text r (Use n need) = told_use n (sees text r n.spelling) (any_kind (fits need) (with_predefined text) (sees text r n.spelling))
told_mention text r (Argument n callee) = told_use n (sees text r n.spelling) (fits_argument (with_predefined text) (sees text r callee.spelling) (sees text r n.spelling))
told_mention text r (Element n) = []

abbrev pub told_mentions : List Definition → Reach → List Mention → List Diagnostic
told_mentions text r ms = flat_map (told_mention text r) ms

-- ---- what is told of a part in its reach: N2 and N5; N3, a seized name isn't seen outside, or a granted one isn't seen
-- inside; N4, no action of that label encloses the EXIT

abbrev pub told_here : List Definition → Reach → PartTree → List Diagnostic
told_here text r (define c) = told_mentions text r c.text
told_here text r (mention m) = told_mention text r m
told_here text r (seize n) = unless_seen rules.N3 n (seen_around text r n.spelling)
told_here text r (seize_all at) = []
told_here text r (grant n) = unless_seen rules.N3 n (sees text r n.spelling)
told_here text r (grant_all at) = []
told_here text r (stray n) = tell n.at rules.N4 n.spelling ∷ []
told_here text r (modulion n region size ps) = []
told_here text r (routine n kind params result size ps) = flat_map (λ c. told_mentions text r c.text) params ++ told_mentions text r result
told_here text r (block size ps) = []

abbrev pub told : List Definition → Node → List Diagnostic
told text k = told_here text k.reach k.part ++ twice_inside text k.reach k.from k.part

-- N1 to N5 in a reach and in those inside it
abbrev pub told_in : List Definition → Reach → ℕ → PartNodes → List Diagnostic
told_in text r from ps = told_twice text r ++ flat_map (told text) (nodes r from ps)

-- ---- L3: there is a 4,097th definition

abbrev pub surplus_of : Option Definition → List Diagnostic
surplus_of None = []
surplus_of (Some d) = record { at = d.name.at; rule = rules.L3; first = []; second = [] } ∷ []

abbrev pub told_surplus : List Definition → List Diagnostic
told_surplus text = if nat_lt 4096 (length text) then surplus_of (slice_get (with_predefined text) 4096) else []
