-- A test that holds of each mention of which nothing is told holds in a program whose names break no rule; and a use of which nothing
-- is told stands for what it needs.
use Rattle.std.proofs.Common.{◌≡◌, ℕ, suc, ◌+◌, Bool, true, false, ◌||◌, List, [], ◌∷◌, ◌++◌, refl, subst, inl, inr, Contains}
use Rattle.std.specs.Prelude.{flat_map, Some}
use Rattle.std.proofs.lemmas.List.Elements.{Contains-append_left, Contains-append_right}
use Rattle.diagnostics.specs.declared.diagnostic.Diagnostic.{Diagnostic}
use Rattle.chill_tree.specs.declared.token.Token.{Token}
use Rattle.chill_tree.specs.ItemTree.{ProgramTree}
use Rattle.names_model.specs.declared.identifier.Identifier.{Identifier}
use Rattle.names_model.specs.declared.definition.Definition.{Definition}
use Rattle.names_model.specs.declared.kind.Need.{Need}
use Rattle.names_model.specs.declared.part.Mention.{Mention}
use Rattle.names_model.specs.declared.part.Mention.TheVariants.{Use}
use Rattle.names_model.specs.declared.part.Clause.{Clause}
use Rattle.names_model.specs.Kinds.{fits}
use Rattle.names_model.specs.Parts.{PartTree, PartNodes, define, mention, seize, seize_all, grant, grant_all, stray, modulion, routine, block, no_parts, more_parts}
use Rattle.names_model.specs.Sizes.{head_size, size_of}
use Rattle.names_model.specs.Definitions.{text_definitions, with_predefined, is_kind_at}
use Rattle.names_model.specs.Dependence.{told_selves, groups_in}
use Rattle.names_model.specs.Seeing.{Reach, outermost, in_modulion, in_block}
use Rattle.names_model.specs.NameRules.{Node, node, nodes, nodes_inside, body_reach, any_kind, told_use, told_mention, told_mentions, told_here, told, twice_inside, told_twice, told_in, told_surplus}
use Rattle.names_model.specs.Resolving.{told_of_names, broken_names, level_of}
use Rattle.names_laws.proofs.Members.{here_in, later_in, none_in, in_cases}
use Rattle.names_laws.proofs.RisingTokens.{rising_tokens}
use Rattle.ground_laws.specs.Rows.{used_in_mention, used_in_mentions, used_in, uses_of, IsUsedAt, IsResolved}
use Rattle.ground_laws.proofs.Rows.{each_use}
use Rattle.checks_model.specs.Ground.{number_at}
use Rattle.checks_model.specs.Diagnoses.{HasNames}
use Rattle.elaborated_laws.proofs.Told.{none_first, none_later}
use Rattle.written_laws.specs.Written.{Each}
use Rattle.written_laws.proofs.Texts.{AllPass, ClausePasses, HeadPasses, PartPasses, PartsPass}
use Rattle.written_laws.proofs.WrittenSo.{none_listed}

-- ---- uses

use_fits : (n : Identifier) (k : ℕ) (fit : Bool) → told_use n (k ∷ []) fit ≡ [] → fit ≡ true
use_fits n k true none = refl
use_fits n k false none = cc

first_of : (a : Bool) → (a || false) ≡ true → a ≡ true
first_of true e = refl
first_of false e = e

abbrev pub definitions_of : ProgramTree → List Definition
definitions_of t = text_definitions (level_of t)

-- what a name stands for is of a kind that its place needs
pub record StandsFor (t : ProgramTree) (n : Identifier) (need : Need) : Type 0 where
  pub number : ℕ
  pub has_row : number_at (uses_of t) n.at ≡ Some number
  pub fitting : is_kind_at (fits need) (with_predefined (definitions_of t)) number ≡ true

pub use_stands : (tokens : List Token) (t : ProgramTree) (k : Node) (n : Identifier) (need : Need) → IsResolved tokens t → IsUsedAt (level_of t) k n → told_mention (definitions_of t) k.reach (Use n need) ≡ [] → StandsFor t n need
use_stands tokens t k n need resolved used none =
    let row = each_use tokens t k n resolved used in
    let all = with_predefined (definitions_of t) in
    let alone = subst (λ seen. told_use n seen (any_kind (fits need) all seen) ≡ []) row.is_seen none in
    record {
      number = row.number;
      has_row = row.has_row;
      fitting = first_of (is_kind_at (fits need) all row.number) (use_fits n row.number (any_kind (fits need) all (row.number ∷ [])) alone);
    }

-- ---- parts

-- the test holds in what a part mentions in its own reach
abbrev OwnPasses : (Mention → Bool) → PartTree → Type 0
OwnPasses test (define c) = ClausePasses test c
OwnPasses test (mention m) = test m ≡ true
OwnPasses test (routine n kind params result count ps) = HeadPasses test params result
OwnPasses test p = Unit {0}

mutual
  part_passes : (test : Mention → Bool) (p : PartTree) (r : Reach) (from : ℕ) → OwnPasses test p → ((k : Node) → Contains (nodes_inside r from p) k → OwnPasses test k.part) → PartPasses test p
  part_passes test (define c) r from own inside = own
  part_passes test (modulion n region count ps) r from own inside = parts_pass test ps (in_modulion r (suc from) ps) (suc from) inside
  part_passes test (routine n kind params result count ps) r from own inside = (own, parts_pass test ps (body_reach r from params result ps) (from + head_size params result) inside)
  part_passes test (block count ps) r from own inside = parts_pass test ps (in_block r [] from ps) from inside
  part_passes test (mention m) r from own inside = own
  part_passes test (seize n) r from own inside = tt
  part_passes test (seize_all at) r from own inside = tt
  part_passes test (grant n) r from own inside = tt
  part_passes test (grant_all at) r from own inside = tt
  part_passes test (stray n) r from own inside = tt

  parts_pass : (test : Mention → Bool) (ps : PartNodes) (r : Reach) (from : ℕ) → ((k : Node) → Contains (nodes r from ps) k → OwnPasses test k.part) → PartsPass test ps
  parts_pass test no_parts r from each = tt
  parts_pass test (more_parts p ps) r from each =
      let inside = nodes_inside r from p in
      let behind = nodes r (from + size_of p) ps in (
        part_passes test p r from (each (node r from p) (here_in (node r from p) (inside ++ behind) (node r from p) refl)) (λ k c. each k (later_in (node r from p) (inside ++ behind) k (Contains-append_left inside behind k c))),
        parts_pass test ps r (from + size_of p) (λ k c. each k (later_in (node r from p) (inside ++ behind) k (Contains-append_right inside behind k c))),
      )

-- ---- where nothing is told of a part

abbrev SoWhereUntold : (Mention → Bool) → List Definition → Reach → List Identifier → Type 0
SoWhereUntold test text r used = (m : Mention) → ((n : Identifier) → Contains (used_in_mention m) n → Contains used n) → told_mention text r m ≡ [] → test m ≡ true

mentions_so : (test : Mention → Bool) (text : List Definition) (r : Reach) (used : List Identifier) (ms : List Mention) → SoWhereUntold test text r used → ((n : Identifier) → Contains (used_in_mentions ms) n → Contains used n)
    → told_mentions text r ms ≡ [] → AllPass test ms
mentions_so test text r used [] so within none = tt
mentions_so test text r used (m ∷ ms) so within none = (
  so m (λ n c. within n (Contains-append_left (used_in_mention m) (used_in_mentions ms) n c)) (none_first (told_mention text r m) (told_mentions text r ms) none),
  mentions_so test text r used ms so (λ n c. within n (Contains-append_right (used_in_mention m) (used_in_mentions ms) n c)) (none_later (told_mention text r m) (told_mentions text r ms) none),
)

abbrev used_in_clauses : List Clause → List Identifier
used_in_clauses cs = flat_map (λ (c : Clause). used_in_mentions c.text) cs

abbrev told_clauses : List Definition → Reach → List Clause → List Diagnostic
told_clauses text r cs = flat_map (λ (c : Clause). told_mentions text r c.text) cs

clauses_so : (test : Mention → Bool) (text : List Definition) (r : Reach) (used : List Identifier) (cs : List Clause) → SoWhereUntold test text r used → ((n : Identifier) → Contains (used_in_clauses cs) n → Contains used n)
    → told_clauses text r cs ≡ [] → Each (ClausePasses test) cs
clauses_so test text r used [] so within none = tt
clauses_so test text r used (c ∷ cs) so within none = (
  mentions_so test text r used c.text so (λ n i. within n (Contains-append_left (used_in_mentions c.text) (used_in_clauses cs) n i)) (none_first (told_mentions text r c.text) (told_clauses text r cs) none),
  clauses_so test text r used cs so (λ n i. within n (Contains-append_right (used_in_mentions c.text) (used_in_clauses cs) n i)) (none_later (told_mentions text r c.text) (told_clauses text r cs) none),
)

part_so : (test : Mention → Bool) (text : List Definition) (r : Reach) (p : PartTree) → SoWhereUntold test text r (used_in p) → told_here text r p ≡ [] → OwnPasses test p
part_so test text r (define c) so none = mentions_so test text r (used_in (define c)) c.text so (λ n i. i) none
part_so test text r (routine n kind params result count ps) so none =
    let used = used_in (routine n kind params result count ps) in (
      clauses_so test text r used params so (λ m i. Contains-append_left (used_in_clauses params) (used_in_mentions result) m i) (none_first (told_clauses text r params) (told_mentions text r result) none),
      mentions_so test text r used result so (λ m i. Contains-append_right (used_in_clauses params) (used_in_mentions result) m i) (none_later (told_clauses text r params) (told_mentions text r result) none),
    )
part_so test text r (mention m) so none = so m (λ n i. i) none
part_so test text r p so none = tt

-- ---- the program

none_at : {X : Type 0} (f : X → List Diagnostic) (xs : List X) (x : X) → flat_map f xs ≡ [] → Contains xs x → f x ≡ []
none_at f [] x none c = absurd (none_in x c)
none_at f (y ∷ xs) x none c = elim (in_cases y xs x c) [
  | inl is ↦ subst (λ z. f z ≡ []) is (none_first (f y) (flat_map f xs) none)
  | inr there ↦ none_at f xs x (none_later (f y) (flat_map f xs) none) there
]

-- nothing is told of a node where nothing is told of names
untold_here : (t : ProgramTree) (k : Node) → broken_names (level_of t) ≡ [] → Contains (nodes (outermost (level_of t)) 0 (level_of t)) k → told_here (definitions_of t) k.reach k.part ≡ []
untold_here t k none c =
    let ps = level_of t in
    let text = definitions_of t in
    let rules = told_in text (outermost ps) 0 ps in
    let selves = told_selves text (groups_in text (outermost ps) 0 ps) in
    let first = none_first rules selves (none_first (rules ++ selves) (told_surplus text) (none_listed (told_of_names ps) none)) in
    let each = none_later (told_twice text (outermost ps)) (flat_map (told text) (nodes (outermost ps) 0 ps)) first in
    none_first (told_here text k.reach k.part) (twice_inside text k.reach k.from k.part) (none_at (told text) (nodes (outermost ps) 0 ps) k each c)

pub is_resolved : (text : List ℕ) (t : ProgramTree) (has : HasNames text t) → IsResolved has.has_tree.tokens t
is_resolved text t has = record { rise = rising_tokens text has.has_tree.tokens has.has_tree.are; is_tree = has.has_tree.tree_of; names = has.names }

-- the test holds of each mention at a node of which nothing is told
abbrev pub HoldsWhereUntold : ProgramTree → (Mention → Bool) → Type 0
HoldsWhereUntold t test = (k : Node) (m : Mention) → ((n : Identifier) → Contains (used_in_mention m) n → IsUsedAt (level_of t) k n) → told_mention (definitions_of t) k.reach m ≡ [] → test m ≡ true

pub program_passes : (text : List ℕ) (t : ProgramTree) (test : Mention → Bool) → HasNames text t → HoldsWhereUntold t test → PartsPass test (level_of t)
program_passes text t test has holds =
    parts_pass test (level_of t) (outermost (level_of t)) 0 (λ k c.
    part_so test (definitions_of t) k.reach k.part (λ m within none. holds k m (λ n i. record { is_node = c; is_used = within n i }) none) (untold_here t k has.names c))
