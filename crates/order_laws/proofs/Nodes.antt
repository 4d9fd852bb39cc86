-- At which node of a program each definition's text stands: the names in it are used there, the definition depends on what is seen under
-- them, and this stands in no deeper block, for a parameter in one further out.
use Rattle.std.proofs.Common.{◌≡◌, ◌<◌, ◌≤◌, ℕ, zero, suc, ◌+◌, Bool, true, false, List, [], ◌∷◌, ◌++◌, length, length-append, refl, sym, ap, subst, arith, true≢false, Contains}
use Rattle.std.specs.Prelude.{flat_map, replicate}
use Rattle.std.proofs.lemmas.List.{length-replicate}
use Rattle.std.proofs.lemmas.List.Elements.{Contains-append_left, Contains-append_right}
use Rattle.cycles.specs.declared.group.Group.{Group}
use Rattle.names_model.specs.declared.identifier.Identifier.{Identifier}
use Rattle.names_model.specs.declared.definition.Definition.{Definition}
use Rattle.names_model.specs.declared.part.Mention.{Mention}
use Rattle.names_model.specs.declared.part.Clause.{Clause}
use Rattle.names_model.specs.Parts.{PartTree, PartNodes, define, mention, seize, seize_all, grant, grant_all, stray, modulion, routine, block, no_parts, more_parts}
use Rattle.names_model.specs.Sizes.{elements_in, clause_size, clauses_size, head_size, size_of, sizes_of}
use Rattle.names_model.specs.Definitions.{numbers_on}
use Rattle.names_model.specs.Entries.{param_names}
use Rattle.names_model.specs.Seeing.{Reach, in_modulion, in_block, sees}
use Rattle.names_model.specs.NameRules.{Node, node, nodes, nodes_inside, body_reach}
use Rattle.names_model.specs.Dependence.{uses_in, named_in, group, clause_group, param_groups, groups_of}
use Rattle.names_laws.specs.Visible.{Sees}
use Rattle.names_laws.proofs.Members.{none_in, here_in, later_in, in_flat_map}
use Rattle.ground_laws.specs.Rows.{used_in_mentions, used_in}
use Rattle.written_laws.proofs.Rows.{Row, no_text, rows_of_clause, rows_of_params, rows_of, rows_in, IsSized, AreSized}
use Rattle.order_laws.proofs.Numbered.{EachAt, at_moved, at_both}
use Rattle.order_laws.proofs.Used.{used_depended}
use Rattle.order_laws.proofs.Depths.{depths_of_params, depths_of, depths_in, params_lengths, Stand, stand_first, stand_later, clause_stand, params_stand, param_names_within, routine_stand, rest_stand, SeesWithin, LanguageOutside, modulion_within, block_within}

-- ---- how many rows there are

clause_length : (b : Bool) (c : Clause) → length (rows_of_clause b c) ≡ clause_size c
clause_length b c =
    let row : Row = (b, c.text) in
    let own = length-replicate (length c.names) row in
    let inner = length-replicate (length (elements_in c.text)) no_text in
    let both = length-append (replicate (length c.names) row) (replicate (length (elements_in c.text)) no_text) in
    omega (arith, own, inner, both)

params_length : (cs : List Clause) → length (rows_of_params cs) ≡ clauses_size cs
params_length [] = refl
params_length (c ∷ cs) =
    let own = clause_length true c in
    let rest = params_length cs in
    let both = length-append (rows_of_clause true c) (rows_of_params cs) in
    omega (arith, own, rest, both)

-- those of a routine's parameters, and of the elements in its result
head_length : (params : List Clause) (result : List Mention) → length (rows_of_params params ++ replicate (length (elements_in result)) no_text) ≡ clauses_size params + length (elements_in result)
head_length params result =
    let own = params_length params in
    let inner = length-replicate (length (elements_in result)) no_text in
    let both = length-append (rows_of_params params) (replicate (length (elements_in result)) no_text) in
    omega (arith, own, inner, both)

mutual
  part_length : (p : PartTree) → IsSized p → length (rows_of p) ≡ size_of p
  part_length (define c) sized = clause_length false c
  part_length (modulion n region size ps) sized = let same = sized.0 in let inner = parts_length ps sized.1 in omega (arith, same, inner)
  part_length (routine n kind params result size ps) sized =
      let same = sized.0 in
      let inner = parts_length ps sized.1 in
      let head = head_length params result in
      let both = length-append ((false, result) ∷ rows_of_params params ++ replicate (length (elements_in result)) no_text) (rows_in ps) in
      omega (arith, same, inner, head, both)
  part_length (block size ps) sized = let same = sized.0 in let inner = parts_length ps sized.1 in omega (arith, same, inner)
  part_length (mention m) sized = refl
  part_length (seize n) sized = refl
  part_length (seize_all at) sized = refl
  part_length (grant n) sized = refl
  part_length (grant_all at) sized = refl
  part_length (stray n) sized = refl

  pub parts_length : (ps : PartNodes) → AreSized ps → length (rows_in ps) ≡ sizes_of ps
  parts_length no_parts sized = refl
  parts_length (more_parts p ps) sized =
      let own = part_length p sized.0 in
      let rest = parts_length ps sized.1 in
      let both = length-append (rows_of p) (rows_in ps) in
      omega (arith, own, rest, both)

-- ---- the nodes of texts, where `all` are those of the program and `f` says how deep definitions stand

module _ (text : List Definition) (all : List Node) (f : ℕ → ℕ) (language : LanguageOutside f text) where
  -- the node at which a name is used for a definition, which depends on what is seen there
  pub record NodeOf (d : ℕ) (is_param : Bool) (n : Identifier) : Type 0 where
    pub at : Node
    pub is_node : Contains all at
    pub is_used : Contains (used_in at.part) n
    pub dependence : (e : ℕ) → Contains (sees text at.reach n.spelling) e → (g : Group) × Contains (groups_of text at.reach at.from at.part) g × (Contains g.from d × Contains g.to e)
    pub near : (e : ℕ) → Sees text at.reach e → f e ≤ f d
    pub nearer : is_param ≡ true → (e : ℕ) → Sees text at.reach e → f e < f d

  abbrev pub HasNodes : ℕ → Row → Type 0
  HasNodes d row = (n : Identifier) → Contains (used_in_mentions row.1) n → NodeOf d row.0 n

  -- a node at which a text stands
  record Place (at : Node) (depth : ℕ) (text_there : List Mention) : Type 0 where
    is_node : Contains all at
    used : (n : Identifier) → Contains (used_in_mentions text_there) n → Contains (used_in at.part) n
    within : SeesWithin f text at.reach depth

  low : (x depth y : ℕ) → x ≤ depth → depth ≤ y → x ≤ y
  low x depth y first later = omega (arith, first, later)

  lower : (x depth y : ℕ) → x ≤ depth → depth < y → x < y
  lower x depth y first later = omega (arith, first, later)

  -- a definition among those that depend on what is named in the text
  placed : (at : Node) (depth : ℕ) (ms : List Mention) (from : List ℕ) (d : ℕ) (b : Bool) → Place at depth ms → Contains (groups_of text at.reach at.from at.part) (group from (named_in text at.reach ms)) → Contains from d
      → depth ≤ f d → (b ≡ true → depth < f d) → HasNodes d (b, ms)
  placed at depth ms from d b place has_group among deep deeper n used = record {
    at = at;
    is_node = place.is_node;
    is_used = place.used n used;
    dependence = λ e seen. (group from (named_in text at.reach ms), has_group, (among, in_flat_map (λ (m : Identifier). sees text at.reach m.spelling) (uses_in ms) n e (used_depended ms n used) seen));
    near = λ e seen. low (f e) depth (f d) (place.within e seen) deep;
    nearer = λ is e seen. lower (f e) depth (f d) (place.within e seen) (deeper is);
  }

  unused : (d : ℕ) → HasNodes d no_text
  unused d n c = absurd (none_in n c)

  no_texts : (from count : ℕ) → EachAt HasNodes from (replicate count no_text)
  no_texts from zero = tt
  no_texts from (suc count) = (unused from, no_texts (suc from) count)

  each_name : (from count j : ℕ) (row : Row) → Stand f from (replicate count j) → ((d : ℕ) → Contains (numbers_on from count) d → f d ≡ j → HasNodes d row) → EachAt HasNodes from (replicate count row)
  each_name from zero j row stand has = tt
  each_name from (suc count) j row stand has = (
    has from (here_in from (numbers_on (suc from) count) from refl) stand.0,
    each_name (suc from) count j row stand.1 (λ d c is. has d (later_in from (numbers_on (suc from) count) d c) is),
  )

  -- the names of a clause
  clause_nodes : (at : Node) (depth j from : ℕ) (b : Bool) (c : Clause) → Place at depth c.text → Contains (groups_of text at.reach at.from at.part) (clause_group text at.reach from c)
      → Stand f from (replicate (length c.names) j ++ replicate (length (elements_in c.text)) depth) → depth ≤ j → (b ≡ true → depth < j) → EachAt HasNodes from (rows_of_clause b c)
  clause_nodes at depth j from b c place has_group stand deep deeper =
      let own = replicate (length c.names) (b, c.text) in
      let inner = replicate (length (elements_in c.text)) no_text in
      at_both HasNodes from own inner
      (each_name from (length c.names) j (b, c.text) (clause_stand f j depth from c stand).0 (λ d among is. placed at depth c.text (numbers_on from (length c.names)) d b place has_group among (subst (λ x. depth ≤ x) (sym is) deep) (λ param. subst (λ x. depth < x) (sym is) (deeper param))))
      (no_texts (from + length own) (length (elements_in c.text)))

  one_less : (depth : ℕ) → depth < suc depth
  one_less depth = omega arith

  less_or_same : (depth : ℕ) → depth ≤ suc depth
  less_or_same depth = omega arith

  same : (depth : ℕ) → depth ≤ depth
  same depth = omega arith

  -- the parameters of a routine
  params_nodes : (at : Node) (depth from : ℕ) (cs : List Clause) → Contains all at → SeesWithin f text at.reach depth → ((n : Identifier) → Contains (flat_map (λ (c : Clause). used_in_mentions c.text) cs) n → Contains (used_in at.part) n)
      → ((g : Group) → Contains (param_groups text at.reach from cs) g → Contains (groups_of text at.reach at.from at.part) g) → Stand f from (depths_of_params depth cs) → EachAt HasNodes from (rows_of_params cs)
  params_nodes at depth from [] is within used has_groups stand = tt
  params_nodes at depth from (c ∷ cs) is within used has_groups stand =
      let two = params_stand f depth from c cs stand in
      let own = rows_of_clause true c in
      let rest = flat_map (λ (c : Clause). used_in_mentions c.text) cs in
      let size : from + clause_size c ≡ from + length own = ap (λ k. from + k) (sym (clause_length true c)) in
      at_both HasNodes from own (rows_of_params cs)
      (clause_nodes at depth (suc depth) from true c (record { is_node = is; used = λ n u. used n (Contains-append_left (used_in_mentions c.text) rest n u); within = within })
      (has_groups (clause_group text at.reach from c) (here_in (clause_group text at.reach from c) (param_groups text at.reach (from + clause_size c) cs) (clause_group text at.reach from c) refl)) two.0 (less_or_same depth) (λ param. one_less depth))
      (at_moved HasNodes (from + clause_size c) (from + length own) (rows_of_params cs) size
      (params_nodes at depth (from + clause_size c) cs is within (λ n u. used n (Contains-append_right (used_in_mentions c.text) rest n u)) (λ g among. has_groups g (later_in (clause_group text at.reach from c) (param_groups text at.reach (from + clause_size c) cs) g among)) two.1))

  -- a routine itself, with its parameters and the elements in its result
  head_nodes : (r : Reach) (from depth : ℕ) (p : PartTree) (params : List Clause) (result : List Mention) → Contains all (node r from p) → SeesWithin f text r depth
      → ((n : Identifier) → Contains (flat_map (λ (c : Clause). used_in_mentions c.text) params ++ used_in_mentions result) n → Contains (used_in p) n)
      → ((g : Group) → Contains (group (from ∷ []) (named_in text r result) ∷ param_groups text r (suc from) params) g → Contains (groups_of text r from p) g)
      → Stand f from (depth ∷ depths_of_params depth params ++ replicate (length (elements_in result)) depth)
      → EachAt HasNodes from ((false, result) ∷ rows_of_params params ++ replicate (length (elements_in result)) no_text)
  head_nodes r from depth p params result is within used has_groups stand =
      let at = node r from p in
      let own = group (from ∷ []) (named_in text r result) in
      let groups = param_groups text r (suc from) params in
      let clauses = flat_map (λ (c : Clause). used_in_mentions c.text) params in
      let two = routine_stand f depth (suc from) params (elements_in result) stand.1 in (
        placed at depth result (from ∷ []) from false (record { is_node = is; used = λ n u. used n (Contains-append_right clauses (used_in_mentions result) n u); within = within }) (has_groups own (here_in own groups own refl)) (here_in from [] from refl)
            (subst (λ x. depth ≤ x) (sym stand.0) (same depth)) (λ param. absurd (true≢false (sym param))),
        at_both HasNodes (suc from) (rows_of_params params) (replicate (length (elements_in result)) no_text)
            (params_nodes at depth (suc from) params is within (λ n u. used n (Contains-append_left clauses (used_in_mentions result) n u)) (λ g among. has_groups g (later_in own groups g among)) two.0)
            (no_texts (suc from + length (rows_of_params params)) (length (elements_in result))),
      )

  -- where the body of a routine begins
  pub body_stand : (from depth : ℕ) (params : List Clause) (result : List Mention) (ps : PartNodes) → Stand f from ((depth ∷ depths_of_params depth params ++ replicate (length (elements_in result)) depth) ++ depths_in (suc depth) ps)
      → Stand f (from + head_size params result) (depths_in (suc depth) ps)
  body_stand from depth params result ps stand =
      let own = depths_of_params depth params in
      let inner = replicate (length (elements_in result)) depth in
      let first = params_lengths depth params in
      let later = length-replicate (length (elements_in result)) depth in
      let both = length-append own inner in
      let size : from + length (depth ∷ own ++ inner) ≡ from + head_size params result = omega (arith, first, later, both) in
      at_moved (λ d x. f d ≡ x) (from + length (depth ∷ own ++ inner)) (from + head_size params result) (depths_in (suc depth) ps) size (stand_later f from (depth ∷ own ++ inner) (depths_in (suc depth) ps) stand)

  pub head_within : (from depth : ℕ) (params : List Clause) (result : List Mention) → Stand f from (depth ∷ depths_of_params depth params ++ replicate (length (elements_in result)) depth) → (d : ℕ) → Contains (flat_map (λ e. e.numbers) (param_names (suc from) params)) d → f d ≤ suc depth
  head_within from depth params result stand d c = param_names_within f depth (suc from) params (routine_stand f depth (suc from) params (elements_in result) stand.1).0 d c

  mutual
    part_nodes : (p : PartTree) (r : Reach) (from depth : ℕ) → IsSized p → Stand f from (depths_of depth p) → SeesWithin f text r depth → Contains all (node r from p) → ((k : Node) → Contains (nodes_inside r from p) k → Contains all k)
        → EachAt HasNodes from (rows_of p)
    part_nodes (define c) r from depth sized stand within is inside =
        let own = clause_group text r from c in
        clause_nodes (node r from (define c)) depth depth from false c (record { is_node = is; used = λ n u. u; within = within }) (here_in own [] own refl) stand (same depth) (λ param. absurd (true≢false (sym param)))
    part_nodes (modulion n region size ps) r from depth sized stand within is inside =
        (unused from, parts_nodes ps (in_modulion r (suc from) ps) (suc from) depth sized.1 stand.1 (modulion_within f text r depth (suc from) ps sized.1 stand.1 language within) inside)
    part_nodes (routine n kind params result size ps) r from depth sized stand within is inside =
        let own = (false, result) ∷ rows_of_params params ++ replicate (length (elements_in result)) no_text in
        let depths = depth ∷ depths_of_params depth params ++ replicate (length (elements_in result)) depth in
        let head = stand_first f from depths (depths_in (suc depth) ps) stand in
        let body = body_stand from depth params result ps stand in
        let start = from + head_size params result in
        let count = head_length params result in
        let long : start ≡ from + length own = omega (arith, count) in
        at_both HasNodes from own (rows_in ps) (head_nodes r from depth (routine n kind params result size ps) params result is within (λ m u. u) (λ g among. among) head)
        (at_moved HasNodes start (from + length own) (rows_in ps) long
        (parts_nodes ps (body_reach r from params result ps) start (suc depth) sized.1 body (block_within f text r depth start (param_names (suc from) params) ps sized.1 body (head_within from depth params result head) within) inside))
    part_nodes (block size ps) r from depth sized stand within is inside =
        parts_nodes ps (in_block r [] from ps) from (suc depth) sized.1 stand (block_within f text r depth from [] ps sized.1 stand (λ d c. absurd (none_in d c)) within) inside
    part_nodes (mention m) r from depth sized stand within is inside = tt
    part_nodes (seize n) r from depth sized stand within is inside = tt
    part_nodes (seize_all at) r from depth sized stand within is inside = tt
    part_nodes (grant n) r from depth sized stand within is inside = tt
    part_nodes (grant_all at) r from depth sized stand within is inside = tt
    part_nodes (stray n) r from depth sized stand within is inside = tt

    pub parts_nodes : (ps : PartNodes) (r : Reach) (from depth : ℕ) → AreSized ps → Stand f from (depths_in depth ps) → SeesWithin f text r depth → ((k : Node) → Contains (nodes r from ps) k → Contains all k) → EachAt HasNodes from (rows_in ps)
    parts_nodes no_parts r from depth sized stand within each = tt
    parts_nodes (more_parts p ps) r from depth sized stand within each =
        let inside = nodes_inside r from p in
        let behind = nodes r (from + size_of p) ps in
        let size : from + size_of p ≡ from + length (rows_of p) = ap (λ k. from + k) (sym (part_length p sized.0)) in
        at_both HasNodes from (rows_of p) (rows_in ps)
        (part_nodes p r from depth sized.0 (stand_first f from (depths_of depth p) (depths_in depth ps) stand) within (each (node r from p) (here_in (node r from p) (inside ++ behind) (node r from p) refl))
        (λ k c. each k (later_in (node r from p) (inside ++ behind) k (Contains-append_left inside behind k c))))
        (at_moved HasNodes (from + size_of p) (from + length (rows_of p)) (rows_in ps) size
        (parts_nodes ps r (from + size_of p) depth sized.1 (rest_stand f depth from p ps sized.0 stand) within (λ k c. each k (later_in (node r from p) (inside ++ behind) k (Contains-append_right inside behind k c)))))
