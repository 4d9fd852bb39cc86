-- Each use of a program has its row.
use Rattle.std.proofs.Common.{◌≡◌, ℕ, suc, ◌+◌, ◌<◌, ◌≤◌, ◌==◌, ◌&&◌, Bool, true, false, List, [], ◌∷◌, ◌++◌, length, ◌⊎◌, inl, inr, refl, sym, ap, ◌∙◌, subst, arith, Some, Contains}
use Rattle.std.specs.Prelude.{map, flat_map, slice_index_or, if◌then◌else◌}
use Rattle.std.proofs.lemmas.Bool.{eqb-true, eq-eqb}
use Rattle.std.proofs.lemmas.List.{map-append}
use Rattle.std.proofs.lemmas.List.Elements.{Contains-append_cases}
use Rattle.chill_base.specs.declared.pos.Pos.{Pos}
use Rattle.chill_tree.specs.declared.token.Token.{Token}
use Rattle.chill_tree.specs.ItemTree.{ProgramTree}
use Rattle.diagnostics.specs.declared.diagnostic.Diagnostic.{Diagnostic}
use Rattle.diagnostics.specs.Listing.{insert_once, placed, listed}
use Rattle.diagnostics.specs.Order.{diagnostic_cmp}
use Rattle.std.specs.declared.cmp.Ordering.{Ordering}
use Rattle.std.specs.declared.cmp.Ordering.TheVariants.{Less, Equal, Greater}
use Rattle.names_model.specs.declared.identifier.Identifier.{Identifier}
use Rattle.names_model.specs.declared.definition.Definition.{Definition}
use Rattle.names_model.specs.declared.names.Resolved.{Resolved}
use Rattle.names_model.specs.declared.part.Mention.{Mention}
use Rattle.names_model.specs.declared.part.Mention.TheVariants.{Use, Argument, Element}
use Rattle.names_model.specs.declared.part.Clause.{Clause}
use Rattle.names_model.specs.Kinds.{fits}
use Rattle.names_model.specs.Parts.{PartTree, PartNodes, define, mention, seize, seize_all, grant, grant_all, stray, modulion, routine, block, no_parts, more_parts}
use Rattle.names_model.specs.Sizes.{head_size, size_of}
use Rattle.names_model.specs.Definitions.{text_definitions, with_predefined}
use Rattle.names_model.specs.Dependence.{groups_in, told_selves}
use Rattle.names_model.specs.Seeing.{Reach, outermost, in_modulion, in_block, sees}
use Rattle.names_model.specs.NameRules.{Node, node, nodes, nodes_inside, body_reach, any_kind, fits_argument, told_use, told_mention, told_mentions, told_here, told, twice_inside, told_twice, told_in, told_surplus}
use Rattle.names_model.specs.Resolving.{told_of_names, resolved_mention, resolved_mentions, resolved_here, level_of}
use Rattle.names_laws.specs.Laws.{IsInside, StandsIn, NoneToldTwice}
use Rattle.names_laws.specs.Rising.{Precedes, PrecedesEach, Rise, use_places}
use Rattle.names_laws.proofs.Members.{none_in, here_in, later_in, in_cases, in_flat_map, flat_map_in}
use Rattle.names_laws.proofs.OneSeen.{one_definition}
use Rattle.names_laws.proofs.Telling.{told_nowhere}
use Rattle.names_laws.proofs.RisingUses.{rising_uses}
use Rattle.checks_model.specs.Ground.{same_place, number_at}
use Rattle.ground_laws.specs.Rows.{used_in_mention, used_in_mentions, used_in, IsUsedAt, uses_of, SeesJust, HasItsRow, IsRowOf, IsResolved, EachUseLaw, EachRowLaw}

-- ---- the row of a place

place_alike : (p : Pos) → same_place p p ≡ true
place_alike p = rw (eq-eqb p.line p.line refl) (eq-eqb p.column p.column refl)

less_apart : (m n : ℕ) → m < n → (m == n) ≡ false
less_apart m n less = by (m == n) refl
  where
    by : (b : Bool) → (m == n) ≡ b → (m == n) ≡ false
    by false e = e
    by true e = absurd (let same : m ≡ n = eqb-true m n e in omega arith)

and-false : (b : Bool) → (b && false) ≡ false
and-false true = refl
and-false false = refl

place_apart : (p q : Pos) → Precedes p q → same_place p q ≡ false
place_apart p q (inl lines) = rw (less_apart p.line q.line lines) refl
place_apart p q (inr columns) = rw (less_apart p.column q.column columns.1) (and-false (p.line == q.line))

precedes_use : (p : Pos) (us : List Resolved) (u : Resolved) → PrecedesEach p (use_places us) → Contains us u → Precedes p u.at
precedes_use p [] u each c = absurd (none_in u c)
precedes_use p (v ∷ us) u each c = elim (in_cases v us u c) [
  | inl is ↦ subst (λ w. Precedes p w.at) is each.0
  | inr there ↦ precedes_use p us u each.1 there
]

-- in a list whose places rise, a row is found by its place
pub row_found : (us : List Resolved) (u : Resolved) → Rise (use_places us) → Contains us u → number_at us u.at ≡ Some u.to
row_found [] u rise c = absurd (none_in u c)
row_found (v ∷ us) u rise c = elim (in_cases v us u c) [
  | inl is ↦ subst (λ w. number_at (v ∷ us) w.at ≡ Some w.to) is (rw (place_alike v.at) refl)
  | inr there ↦ rw (place_apart v.at u.at (precedes_use v.at us u rise.0 there)) (row_found us u rise.1 there)
]

abbrev position : ℕ → ℕ → Pos
position l c = record { line = l; column = c }

placed_same : (l m c k : ℕ) → l ≡ m → c ≡ k → position l c ≡ position m k
placed_same l m c k lines columns = rw (lines, columns) refl

-- what is found at a place is a row
same_found : (p q : Pos) → same_place p q ≡ true → p ≡ q
same_found p q e = by (p.line == q.line) (p.column == q.column) refl refl e
  where
    by : (a b : Bool) → (p.line == q.line) ≡ a → (p.column == q.column) ≡ b → (a && b) ≡ true → p ≡ q
    by true true f g h = placed_same p.line q.line p.column q.column (eqb-true p.line q.line f) (eqb-true p.column q.column g)
    by true false f g h = cc
    by false b f g h = cc

abbrev row : Pos → ℕ → Resolved
row at d = record { at = at; to = d }

row_same : (p q : Pos) (d e : ℕ) → p ≡ q → d ≡ e → row p d ≡ row q e
row_same p q d e places numbers = rw (places, numbers) refl

number_same : (d e : ℕ) → Some d ≡ Some e → d ≡ e
number_same d e same = cc

pub found_row : (us : List Resolved) (at : Pos) (d : ℕ) → number_at us at ≡ Some d → Contains us (record { at = at; to = d })
found_row [] at d e = cc
found_row (u ∷ us) at d e = by (same_place u.at at) refl e (found_row us at d)
  where
    by : (b : Bool) → same_place u.at at ≡ b → (if b then Some u.to else number_at us at) ≡ Some d → (number_at us at ≡ Some d → Contains us (record { at = at; to = d })) → Contains (u ∷ us) (record { at = at; to = d })
    by true f g rest = here_in u us (record { at = at; to = d }) (row_same u.at at u.to d (same_found u.at at f) (number_same u.to d g))
    by false f g rest = later_in u us (record { at = at; to = d }) (rest g)

-- ---- nothing is told

placed_some : (o : Ordering) (x y : Diagnostic) (ys later : List Diagnostic) → placed diagnostic_cmp o x y ys later ≡ [] → ⊥
placed_some Less x y ys later e = cc
placed_some Equal x y ys later e = cc
placed_some Greater x y ys later e = cc

inserted_some : (x : Diagnostic) (ys : List Diagnostic) → insert_once diagnostic_cmp x ys ≡ [] → ⊥
inserted_some x [] e = cc
inserted_some x (y ∷ ys) e = placed_some (diagnostic_cmp x y) x y ys (insert_once diagnostic_cmp x ys) e

none_listed : (xs : List Diagnostic) → listed diagnostic_cmp xs ≡ [] → xs ≡ []
none_listed [] e = refl
none_listed (x ∷ xs) e = absurd (inserted_some x (listed diagnostic_cmp xs) e)

first_none : {X : Type 0} (xs ys : List X) → xs ++ ys ≡ [] → xs ≡ []
first_none [] ys e = refl
first_none (x ∷ xs) ys e = cc

second_none : {X : Type 0} (xs ys : List X) → xs ++ ys ≡ [] → ys ≡ []
second_none [] ys e = e
second_none (x ∷ xs) ys e = cc

none_inside : {X Y : Type 0} (f : X → List Y) (xs : List X) (x : X) → flat_map f xs ≡ [] → Contains xs x → f x ≡ []
none_inside f [] x e c = absurd (none_in x c)
none_inside f (y ∷ xs) x e c = elim (in_cases y xs x c) [
  | inl is ↦ subst (λ z. f z ≡ []) is (first_none (f y) (flat_map f xs) e)
  | inr there ↦ none_inside f xs x (second_none (f y) (flat_map f xs) e) there
]

-- ---- the reaches of nodes

mutual
  reach_inside : (p : PartTree) (r : Reach) (from : ℕ) (k : Node) → Contains (nodes_inside r from p) k → IsInside r from p k.reach
  reach_inside (modulion n region size ps) r from k c = reach_standing ps (in_modulion r (suc from) ps) (suc from) k c
  reach_inside (routine n kind params result size ps) r from k c = reach_standing ps (body_reach r from params result ps) (from + head_size params result) k c
  reach_inside (block size ps) r from k c = reach_standing ps (in_block r [] from ps) from k c
  reach_inside p r from k c = absurd (none_in k c)

  -- a node stands in the reach of its parts, or in one inside it
  reach_standing : (ps : PartNodes) (r : Reach) (from : ℕ) (k : Node) → Contains (nodes r from ps) k → (k.reach ≡ r) ⊎ StandsIn r from ps k.reach
  reach_standing no_parts r from k c = absurd (none_in k c)
  reach_standing (more_parts p ps) r from k c = elim (in_cases (node r from p) (nodes_inside r from p ++ nodes r (from + size_of p) ps) k c) [
    | inl is ↦ inl (ap (λ (q : Node). q.reach) (sym is))
    | inr there ↦ elim (Contains-append_cases (nodes_inside r from p) (nodes r (from + size_of p) ps) k there) [
      | inl inside ↦ inr (inl (reach_inside p r from k inside))
      | inr behind ↦ elim (reach_standing ps r (from + size_of p) k behind) [
        | inl is ↦ inl is
        | inr stands ↦ inr (inr stands)
      ]
    ]
  ]

module _ (text : List Definition) where
  -- ---- a use sees something where nothing is told of it

  seen_use : (n : Identifier) (seen : List ℕ) (fit : Bool) → told_use n seen fit ≡ [] → seen ≡ [] → ⊥
  seen_use n [] fit e none = cc
  seen_use n (x ∷ seen) fit e none = cc

  seen_mention : (r : Reach) (m : Mention) (n : Identifier) → told_mention text r m ≡ [] → Contains (used_in_mention m) n → sees text r n.spelling ≡ [] → ⊥
  seen_mention r (Use i need) n e c none = elim (in_cases i [] n c) [
    | inl is ↦ seen_use i (sees text r i.spelling) (any_kind (fits need) (with_predefined text) (sees text r i.spelling)) e (subst (λ j. sees text r j.spelling ≡ []) (sym is) none)
    | inr there ↦ none_in n there
  ]
  seen_mention r (Argument i callee) n e c none = elim (in_cases i [] n c) [
    | inl is ↦ seen_use i (sees text r i.spelling) (fits_argument (with_predefined text) (sees text r callee.spelling) (sees text r i.spelling)) e (subst (λ j. sees text r j.spelling ≡ []) (sym is) none)
    | inr there ↦ none_in n there
  ]
  seen_mention r (Element i) n e c none = none_in n c

  seen_mentions : (r : Reach) (ms : List Mention) (n : Identifier) → told_mentions text r ms ≡ [] → Contains (used_in_mentions ms) n → sees text r n.spelling ≡ [] → ⊥
  seen_mentions r ms n e c none = let h = flat_map_in used_in_mention ms n c in seen_mention r h.0 n (none_inside (told_mention text r) ms h.0 e h.1) h.2 none

  seen_clauses : (r : Reach) (cs : List Clause) (n : Identifier) → flat_map (λ (c : Clause). told_mentions text r c.text) cs ≡ [] → Contains (flat_map (λ (c : Clause). used_in_mentions c.text) cs) n → sees text r n.spelling ≡ [] → ⊥
  seen_clauses r cs n e c none =
      let h = flat_map_in (λ (c : Clause). used_in_mentions c.text) cs n c in
      seen_mentions r h.0.text n (none_inside (λ (c : Clause). told_mentions text r c.text) cs h.0 e h.1) h.2 none

  seen_here : (r : Reach) (p : PartTree) (n : Identifier) → told_here text r p ≡ [] → Contains (used_in p) n → sees text r n.spelling ≡ [] → ⊥
  seen_here r (define c) n e u none = seen_mentions r c.text n e u none
  seen_here r (mention m) n e u none = seen_mention r m n e u none
  seen_here r (routine i kind params result size ps) n e u none = elim (Contains-append_cases (flat_map (λ (c : Clause). used_in_mentions c.text) params) (used_in_mentions result) n u) [
    | inl here ↦ seen_clauses r params n (first_none (flat_map (λ (c : Clause). told_mentions text r c.text) params) (told_mentions text r result) e) here none
    | inr there ↦ seen_mentions r result n (second_none (flat_map (λ (c : Clause). told_mentions text r c.text) params) (told_mentions text r result) e) there none
  ]
  seen_here r p n e u none = none_in n u

  -- ---- the rows of a part are those of the names that it uses

  abbrev row_of : Reach → Identifier → Resolved
  row_of r n = record { at = n.at; to = slice_index_or (sees text r n.spelling) 0 0 }

  mention_rows : (r : Reach) (m : Mention) → resolved_mention text r m ≡ map (row_of r) (used_in_mention m)
  mention_rows r (Use n need) = refl
  mention_rows r (Argument n callee) = refl
  mention_rows r (Element n) = refl

  mentions_rows : (r : Reach) (ms : List Mention) → resolved_mentions text r ms ≡ map (row_of r) (used_in_mentions ms)
  mentions_rows r [] = refl
  mentions_rows r (m ∷ ms) =
      ap (λ us. us ++ resolved_mentions text r ms) (mention_rows r m) ∙ ap (λ us. map (row_of r) (used_in_mention m) ++ us) (mentions_rows r ms) ∙ sym (map-append (row_of r) (used_in_mention m) (used_in_mentions ms))

  clauses_rows : (r : Reach) (cs : List Clause) → flat_map (λ (c : Clause). resolved_mentions text r c.text) cs ≡ map (row_of r) (flat_map (λ (c : Clause). used_in_mentions c.text) cs)
  clauses_rows r [] = refl
  clauses_rows r (c ∷ cs) =
      let rest = flat_map (λ (c : Clause). used_in_mentions c.text) cs in
      ap (λ us. us ++ flat_map (λ (c : Clause). resolved_mentions text r c.text) cs) (mentions_rows r c.text) ∙ ap (λ us. map (row_of r) (used_in_mentions c.text) ++ us) (clauses_rows r cs) ∙ sym (map-append (row_of r) (used_in_mentions c.text) rest)

  here_rows : (r : Reach) (p : PartTree) → resolved_here text r p ≡ map (row_of r) (used_in p)
  here_rows r (define c) = mentions_rows r c.text
  here_rows r (mention m) = mention_rows r m
  here_rows r (routine i kind params result size ps) =
      ap (λ us. us ++ resolved_mentions text r result) (clauses_rows r params) ∙ ap (λ us. map (row_of r) (flat_map (λ (c : Clause). used_in_mentions c.text) params) ++ us) (mentions_rows r result)
      ∙ sym (map-append (row_of r) (flat_map (λ (c : Clause). used_in_mentions c.text) params) (used_in_mentions result))
  here_rows r (seize n) = refl
  here_rows r (seize_all at) = refl
  here_rows r (grant n) = refl
  here_rows r (grant_all at) = refl
  here_rows r (stray n) = refl
  here_rows r (modulion n region size ps) = refl
  here_rows r (block size ps) = refl

in_map : {X Y : Type 0} (f : X → Y) (xs : List X) (x : X) → Contains xs x → Contains (map f xs) (f x)
in_map f [] x c = absurd (none_in x c)
in_map f (y ∷ xs) x c = elim (in_cases y xs x c) [
  | inl is ↦ here_in (f y) (map f xs) (f x) (ap f is)
  | inr there ↦ later_in (f y) (map f xs) (f x) (in_map f xs x there)
]

map_in : {X Y : Type 0} (f : X → Y) (xs : List X) (y : Y) → Contains (map f xs) y → (x : X) × Contains xs x × (f x ≡ y)
map_in f [] y c = absurd (none_in y c)
map_in f (x ∷ xs) y c = elim (in_cases (f x) (map f xs) y c) [
  | inl is ↦ (x, here_in x xs x refl, is)
  | inr there ↦ (let h = map_in f xs y there in (h.0, later_in x xs h.0 h.1, h.2))
]

-- ---- the program

one_seen : (seen : List ℕ) → length seen ≤ 1 → (seen ≡ [] → ⊥) → seen ≡ slice_index_or seen 0 0 ∷ []
one_seen [] short some = absurd (some refl)
one_seen (d ∷ []) short some = refl
one_seen (d ∷ e ∷ seen) short some = absurd (omega arith)

module _ (tokens : List Token) (t : ProgramTree) (resolved : IsResolved tokens t) where
  abbrev level : PartNodes
  level = level_of t

  abbrev text : List Definition
  text = text_definitions (level_of t)

  none_told : told_in text (outermost level) 0 level ≡ []
  none_told = first_none (told_in text (outermost level) 0 level) (told_selves text (groups_in text (outermost level) 0 level)) (first_none (told_in text (outermost level) 0 level ++ told_selves text (groups_in text (outermost level) 0 level)) (told_surplus text) (none_listed (told_of_names level) resolved.names))

  none_at_nodes : flat_map (told text) (nodes (outermost level) 0 level) ≡ []
  none_at_nodes = second_none (told_twice text (outermost level)) (flat_map (told text) (nodes (outermost level) 0 level)) none_told

  none_twice : NoneToldTwice text level
  none_twice = (told_nowhere text level).1 (λ d c same. none_in d (subst (λ ds. Contains ds d) none_told c))

  -- the reach of a use sees one definition
  seen_once : (k : Node) (n : Identifier) → IsUsedAt level k n → sees text k.reach n.spelling ≡ slice_index_or (sees text k.reach n.spelling) 0 0 ∷ []
  seen_once k n used =
      let here = first_none (told_here text k.reach k.part) (twice_inside text k.reach k.from k.part) (none_inside (told text) (nodes (outermost level) 0 level) k none_at_nodes used.is_node) in
      one_seen (sees text k.reach n.spelling) (one_definition text level none_twice k.reach n.spelling (reach_standing level (outermost level) 0 k used.is_node)) (seen_here text k.reach k.part n here used.is_used)

  rises : Rise (use_places (uses_of t))
  rises = rising_uses tokens t resolved.rise resolved.is_tree

  row_there : (k : Node) (n : Identifier) → IsUsedAt level k n → Contains (uses_of t) (row_of text k.reach n)
  row_there k n used =
      in_flat_map (λ (q : Node). resolved_here text q.reach q.part) (nodes (outermost level) 0 level) k (row_of text k.reach n) used.is_node
      (subst (λ us. Contains us (row_of text k.reach n)) (sym (here_rows text k.reach k.part)) (in_map (row_of text k.reach) (used_in k.part) n used.is_used))

  its_row : (k : Node) (n : Identifier) → IsUsedAt level k n → HasItsRow t k n
  its_row k n used = record {
    number = slice_index_or (sees text k.reach n.spelling) 0 0;
    is_seen = seen_once k n used;
    has_row = row_found (uses_of t) (row_of text k.reach n) rises (row_there k n used);
  }

  row_is_of : (at : Pos) (d : ℕ) → number_at (uses_of t) at ≡ Some d → IsRowOf t at d
  row_is_of at d e =
      let row : Resolved = record { at = at; to = d } in
      let h = flat_map_in (λ (q : Node). resolved_here text q.reach q.part) (nodes (outermost level) 0 level) row (found_row (uses_of t) at d e) in
      let m = map_in (row_of text h.0.reach) (used_in h.0.part) row (subst (λ us. Contains us row) (here_rows text h.0.reach h.0.part) h.2) in
      let used : IsUsedAt level h.0 m.0 = record { is_node = h.1; is_used = m.1 } in
      record {
        node = h.0;
        name = m.0;
        is_there = ap (λ (u : Resolved). u.at) m.2;
        is_used = used;
        is_seen = subst (λ c. SeesJust t h.0 m.0 c) (ap (λ (u : Resolved). u.to) m.2) (seen_once h.0 m.0 used);
      }

pub each_use : EachUseLaw
each_use tokens t k n resolved used = its_row tokens t resolved k n used

pub each_row : EachRowLaw
each_row tokens t at d resolved e = row_is_of tokens t resolved at d e
