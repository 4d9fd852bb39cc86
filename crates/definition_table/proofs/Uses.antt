-- What a name stands for is a definition, in a text whose names break no rule.
use Rattle.std.proofs.Common.{◌≡◌, ◌<◌, ℕ, zero, suc, Bool, true, false, ◌||◌, ◌&&◌, List, [], ◌∷◌, ◌++◌, Option, Some, None, length, true≢false, refl, sym, ap, subst, inl, inr, ◌∙◌, arith, Contains}
use Rattle.std.specs.Prelude.{slice_get, flat_map}
use Rattle.std.specs.List.{list_any}
use Rattle.std.proofs.lemmas.List.Elements.{Contains-append_cases}
use Rattle.diagnostics.specs.declared.diagnostic.Diagnostic.{Diagnostic}
use Rattle.chill_base.specs.declared.pos.Pos.{Pos}
use Rattle.chill_tree.specs.ItemTree.{ProgramTree}
use Rattle.names_model.specs.declared.identifier.Identifier.{Identifier}
use Rattle.names_model.specs.declared.definition.Definition.{Definition}
use Rattle.names_model.specs.declared.kind.Kind.{Kind}
use Rattle.names_model.specs.declared.names.Resolved.{Resolved}
use Rattle.names_model.specs.declared.part.Mention.{Mention}
use Rattle.names_model.specs.declared.part.Mention.TheVariants.{Use, Argument, Element}
use Rattle.names_model.specs.declared.part.Clause.{Clause}
use Rattle.names_model.specs.declared.kind.Need.TheVariants as needs
use Rattle.names_model.specs.Kinds.{fits, is_measuring}
use Rattle.names_model.specs.Parts.{PartTree, define, mention, seize, seize_all, grant, grant_all, stray, modulion, routine, block}
use Rattle.names_model.specs.Definitions.{with_predefined, is_kind_at, kind_of, is_of}
use Rattle.names_model.specs.Dependence.{told_selves, groups_in}
use Rattle.names_model.specs.Seeing.{Reach, outermost, sees}
use Rattle.names_model.specs.NameRules.{Node, nodes, any_kind, fits_argument, told, told_in, told_twice, twice_inside, told_surplus, told_use, told_mention, told_mentions, told_here}
use Rattle.names_model.specs.Resolving.{broken_names, told_of_names, level_of}
use Rattle.names_laws.specs.Rising.{Rise, use_places}
use Rattle.names_laws.proofs.Members.{none_in, in_cases}
use Rattle.ground_laws.specs.Rows.{used_in_mention, used_in_mentions, used_in, uses_of, IsUsedAt, IsRowOf}
use Rattle.ground_laws.proofs.Rows.{row_found, each_row}
use Rattle.ground_laws.proofs.Defining.{origins_define}
use Rattle.checks_model.specs.Ground.{number_at}
use Rattle.checks_model.specs.Origins.{origins_of}
use Rattle.checks_model.specs.Diagnoses.{HasNames}
use Rattle.elaborated_laws.proofs.Told.{none_first, none_later, same_some}
use Rattle.written_laws.proofs.Rows.{same_length}
use Rattle.written_laws.proofs.Mentioned.{definitions_of, is_resolved}
use Rattle.written_laws.proofs.WrittenSo.{none_listed}

below : {A : Type 0} (xs : List A) (k : ℕ) (x : A) → slice_get xs k ≡ Some x → k < length xs
below [] k x is = cc
below (y ∷ xs) zero x is = omega arith
below (y ∷ xs) (suc k) x is = let less = below xs k x is in omega (arith, less)

-- a definition of some kind is one of all
kind_below : (test : Kind → Bool) (all : List Definition) (d : ℕ) → is_kind_at test all d ≡ true → d < length all
kind_below test all d is = by (slice_get all d) refl is
  where
    by : (o : Option Definition) → slice_get all d ≡ o → is_of test (kind_of o) ≡ true → d < length all
    by None at e = absurd (true≢false (sym e))
    by (Some x) at e = below all d x at

any_below : (test : Kind → Bool) (all : List Definition) (d : ℕ) → any_kind test all (d ∷ []) ≡ true → d < length all
any_below test all d is = by (is_kind_at test all d) refl is
  where
    by : (b : Bool) → is_kind_at test all d ≡ b → (b || false) ≡ true → d < length all
    by true at e = kind_below test all d at
    by false at e = absurd (true≢false (sym e))

use_fits : (n : Identifier) (k : ℕ) (fit : Bool) → told_use n (k ∷ []) fit ≡ [] → fit ≡ true
use_fits n k true none = refl
use_fits n k false none = cc

argument_below : (all : List Definition) (d : ℕ) (a b c : Bool) → any_kind (fits needs.Value) all (d ∷ []) ≡ a → any_kind (fits needs.Mode) all (d ∷ []) ≡ c → (a || (b && c)) ≡ true → d < length all
argument_below all d true b c value mode is = any_below (fits needs.Value) all d value
argument_below all d false true true value mode is = any_below (fits needs.Mode) all d mode
argument_below all d false true false value mode is = absurd (true≢false (sym is))
argument_below all d false false c value mode is = absurd (true≢false (sym is))

module _ (text : List Definition) (r : Reach) (n : Identifier) (d : ℕ) (seen : sees text r n.spelling ≡ d ∷ []) where
  mention_below : (m : Mention) → told_mention text r m ≡ [] → Contains (used_in_mention m) n → d < length (with_predefined text)
  mention_below (Use i need) none c = elim (in_cases i [] n c) [
    | inl is ↦ (
        let told : told_use n (sees text r n.spelling) (any_kind (fits need) (with_predefined text) (sees text r n.spelling)) ≡ [] =
        subst (λ (j : Identifier). told_use j (sees text r j.spelling) (any_kind (fits need) (with_predefined text) (sees text r j.spelling)) ≡ []) is none in
        any_below (fits need) (with_predefined text) d
        (use_fits n d (any_kind (fits need) (with_predefined text) (d ∷ [])) (subst (λ (ds : List ℕ). told_use n ds (any_kind (fits need) (with_predefined text) ds) ≡ []) seen told)))
    | inr there ↦ absurd (none_in n there)
  ]
  mention_below (Argument i callee) none c = elim (in_cases i [] n c) [
    | inl is ↦ (
        let all = with_predefined text in
        let told : told_use n (sees text r n.spelling) (fits_argument all (sees text r callee.spelling) (sees text r n.spelling)) ≡ [] =
        subst (λ (j : Identifier). told_use j (sees text r j.spelling) (fits_argument all (sees text r callee.spelling) (sees text r j.spelling)) ≡ []) is none in
        argument_below all d (any_kind (fits needs.Value) all (d ∷ [])) (any_kind is_measuring all (sees text r callee.spelling)) (any_kind (fits needs.Mode) all (d ∷ [])) refl refl
        (use_fits n d (fits_argument all (sees text r callee.spelling) (d ∷ [])) (subst (λ (ds : List ℕ). told_use n ds (fits_argument all (sees text r callee.spelling) ds) ≡ []) seen told)))
    | inr there ↦ absurd (none_in n there)
  ]
  mention_below (Element i) none c = absurd (none_in n c)

  mentions_below : (ms : List Mention) → told_mentions text r ms ≡ [] → Contains (used_in_mentions ms) n → d < length (with_predefined text)
  mentions_below [] none c = absurd (none_in n c)
  mentions_below (m ∷ ms) none c = elim (Contains-append_cases (used_in_mention m) (used_in_mentions ms) n c) [
    | inl here ↦ mention_below m (none_first (told_mention text r m) (told_mentions text r ms) none) here
    | inr there ↦ mentions_below ms (none_later (told_mention text r m) (told_mentions text r ms) none) there
  ]

  clauses_below : (cs : List Clause) → flat_map (λ (c : Clause). told_mentions text r c.text) cs ≡ [] → Contains (flat_map (λ (c : Clause). used_in_mentions c.text) cs) n → d < length (with_predefined text)
  clauses_below [] none c = absurd (none_in n c)
  clauses_below (k ∷ cs) none c = elim (Contains-append_cases (used_in_mentions k.text) (flat_map (λ (c : Clause). used_in_mentions c.text) cs) n c) [
    | inl here ↦ mentions_below k.text (none_first (told_mentions text r k.text) (flat_map (λ (c : Clause). told_mentions text r c.text) cs) none) here
    | inr there ↦ clauses_below cs (none_later (told_mentions text r k.text) (flat_map (λ (c : Clause). told_mentions text r c.text) cs) none) there
  ]

  here_below : (p : PartTree) → told_here text r p ≡ [] → Contains (used_in p) n → d < length (with_predefined text)
  here_below (define c) none used = mentions_below c.text none used
  here_below (mention m) none used = mention_below m none used
  here_below (routine i kind params result size ps) none used = elim (Contains-append_cases (flat_map (λ (c : Clause). used_in_mentions c.text) params) (used_in_mentions result) n used) [
    | inl here ↦ clauses_below params (none_first (flat_map (λ (c : Clause). told_mentions text r c.text) params) (told_mentions text r result) none) here
    | inr there ↦ mentions_below result (none_later (flat_map (λ (c : Clause). told_mentions text r c.text) params) (told_mentions text r result) none) there
  ]
  here_below (seize i) none used = absurd (none_in n used)
  here_below (seize_all at) none used = absurd (none_in n used)
  here_below (grant i) none used = absurd (none_in n used)
  here_below (grant_all at) none used = absurd (none_in n used)
  here_below (stray i) none used = absurd (none_in n used)
  here_below (modulion i region size ps) none used = absurd (none_in n used)
  here_below (block size ps) none used = absurd (none_in n used)

-- ---- the program

none_at : {X : Type 0} (f : X → List Diagnostic) (xs : List X) (x : X) → flat_map f xs ≡ [] → Contains xs x → f x ≡ []
none_at f [] x none c = absurd (none_in x c)
none_at f (y ∷ xs) x none c = elim (in_cases y xs x c) [
  | inl is ↦ subst (λ z. f z ≡ []) is (none_first (f y) (flat_map f xs) none)
  | inr there ↦ none_at f xs x (none_later (f y) (flat_map f xs) none) there
]

-- nothing is told of a node where nothing is told of names
untold_here : (t : ProgramTree) (k : Node) → broken_names (level_of t) ≡ [] → Contains (nodes (outermost (level_of t)) 0 (level_of t)) k → told_here (definitions_of t) k.reach k.part ≡ []
untold_here t k none c =
    let ps = level_of t in
    let text = definitions_of t in
    let rules = told_in text (outermost ps) 0 ps in
    let selves = told_selves text (groups_in text (outermost ps) 0 ps) in
    let first = none_first rules selves (none_first (rules ++ selves) (told_surplus text) (none_listed (told_of_names ps) none)) in
    let each = none_later (told_twice text (outermost ps)) (flat_map (told text) (nodes (outermost ps) 0 ps)) first in
    none_first (told_here text k.reach k.part) (twice_inside text k.reach k.from k.part) (none_at (told text) (nodes (outermost ps) 0 ps) k each c)

-- each row of the uses leads to a definition
pub used_below : (text : List ℕ) (t : ProgramTree) → HasNames text t → Rise (use_places (uses_of t)) → (u : Resolved) → Contains (uses_of t) u → u.to < length (origins_of t)
used_below text t has rise u c =
    let all = with_predefined (definitions_of t) in
    let row : IsRowOf t u.at u.to = each_row has.has_tree.tokens t u.at u.to (is_resolved text t has) (row_found (uses_of t) u rise c) in
    let less = here_below (definitions_of t) row.node.reach row.name u.to row.is_seen row.node.part (untold_here t row.node has.names row.is_used.is_node) row.is_used.is_used in
    let same = same_length (origins_of t) all (origins_define t) in
    omega (arith, less, same)
