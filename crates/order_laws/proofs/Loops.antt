-- The values around a counter's loop are mentioned in the reach around the loop's block, so what is seen there stands less deep than the
-- counter.
use Rattle.std.proofs.Common.{◌≡◌, ◌<◌, ◌≤◌, ℕ, suc, ◌+◌, Bool, true, false, List, [], ◌∷◌, ◌++◌, Option, Some, None, length, length-append, inl, inr, refl, sym, ap, ◌∙◌, subst, arith, append_assoc, Contains}
use Rattle.std.specs.Prelude.{map, flat_map, replicate}
use Rattle.std.proofs.lemmas.List.{length-map}
use Rattle.std.proofs.lemmas.List.Elements.{Contains-append_left, Contains-append_right, Contains-append_cases}
use Rattle.chill_tree.specs.declared.tree.name.Name.{Name}
use Rattle.chill_tree.specs.declared.tree.item.ModulionKind.{ModulionKind}
use Rattle.chill_tree.specs.ModeTree as written
use Rattle.chill_tree.specs.LocalTree.{LocalTree, synonyms, syn_modes, new_modes, locations}
use Rattle.chill_tree.specs.SimpleTree.{ControlTree, while_holds, for_ever, for_members, for_steps}
use Rattle.chill_tree.specs.StatementTree.{StatementTree, BracketedTree, StatementNodes, ElsIfNodes, CaseNodes, NamedNodes, ReceiveNodes, OtherwiseNode, HandlerNode, BodyNodes, HandlerTree, BodyTree, empty, simple, bracketed, if_then, case_of, do_loop, begin_end, delay_case, receive_case, no_statements, more_statements, no_branches, more_branches, no_cases, more_cases, no_named, more_named, no_receives, more_receives, no_otherwise, otherwise, no_handler, handler, no_parts, more_locals, more_actions, handler_node, body_nodes}
use Rattle.chill_tree.specs.ItemTree.{SignalTree, ParamTree, ProcedureTree, FormalTree, ProcessTree, ItemTree, ItemNodes, local_item, signals, procedure, process, action, no_items, more_items, ModulionTree, modulion_item, ProgramTree}
use Rattle.chill_tree.specs.ItemTree.{seize as seize_item, grant as grant_item, modulion as modulion_of}
use Rattle.names_model.specs.declared.definition.Definition.{Definition}
use Rattle.names_model.specs.declared.identifier.Identifier.{Identifier}
use Rattle.names_model.specs.declared.kind.Need.TheVariants as uses
use Rattle.names_model.specs.declared.kind.Kind.{Kind}
use Rattle.names_model.specs.declared.kind.Kind.TheVariants as kinds
use Rattle.names_model.specs.declared.part.Mention.{Mention}
use Rattle.names_model.specs.declared.part.Mention.TheVariants.{Use}
use Rattle.names_model.specs.declared.part.Clause.{Clause}
use Rattle.names_model.specs.Identifiers.{identifier}
use Rattle.names_model.specs.Parts.{PartTree, mention, modulion, routine, part_nodes}
use Rattle.names_model.specs.Sizes.{elements_in, head_size, size_of, sizes_of, block_of}
use Rattle.names_model.specs.Definitions.{numbers_on}
use Rattle.names_model.specs.Entries.{param_names}
use Rattle.names_model.specs.Seeing.{Reach, outermost, in_modulion, in_block}
use Rattle.names_model.specs.NameRules.{Node, node, nodes, nodes_inside, body_reach}
use Rattle.names_model.specs.ExprMentions.{used, mentions_of, mentions_of_some, mentions_of_ranges}
use Rattle.names_model.specs.ModeMentions.{mentions_of_some_mode}
use Rattle.names_model.specs.StatementParts.{mentioned, local_parts, simple_parts, control_parts, counter_part, turn_parts, labelled, received_parts, statement_parts, bracketed_parts, action_parts, branch_parts, case_parts, event_parts, receive_parts, otherwise_parts, handler_parts, exception_parts, body_parts}
use Rattle.names_model.specs.ItemParts.{is_region, seized, granted, signal_parts, param_clause, formal_clause, whole_body, procedure_part, process_part, item_parts, each_item}
use Rattle.names_model.specs.Resolving.{level_of}
use Rattle.names_laws.specs.Visible.{Sees}
use Rattle.names_laws.proofs.Members.{none_in, here_in, later_in, in_cases}
use Rattle.checks_model.specs.Ground.{Origin, a_synonym, a_mode, an_element, a_location, a_parameter, a_counter, a_received, a_procedure, a_process, a_signal, a_modulion, a_predefined}
use Rattle.checks_model.specs.Origins.{sets_in, elements, elements_of, elements_of_some, origins_of_names, origins_of_synonym, owner_of, origins_of_mode, origins_of_declaration, origins_of_local, counters_in, received_in, origins_in, origins_in_bracketed, origins_in_each, origins_in_branches, origins_in_cases, origins_in_named, origins_in_receives, origins_in_otherwise, origins_in_handler, origins_in_parts, origins_of_signal, origins_of_param, origins_of_formal, origins_of_body, origins_of_procedure, origins_of_process, origins_of_item, origins_of_items, text_origins}
use Rattle.written_laws.specs.Written.{Each}
use Rattle.written_laws.proofs.Shown.{each_append, each_map, each_any, each_flat, each_same}
use Rattle.written_laws.proofs.Rows.{row_of, rows_in, AreSized, nothing_sized, mentions_define, simple_defines}
use Rattle.written_laws.proofs.Defining.{DefiningBehind, Defining, joined, nothing, mentions_alone, blocked, behind, headed, local_defining, counters_defining, received_defining, statement_defining, bracketed_defining, each_defining, branches_defining, cases_defining, receives_defining, otherwise_defining, handler_defining, exceptions_defining, body_defining, item_defining, items_defining, procedure_defining, process_defining, body_of_defining}
use Rattle.order_laws.proofs.Numbered.{EachAt, at_moved, at_both}
use Rattle.order_laws.proofs.Depths.{depths_of_params, depths_of, depths_in, Stand, stand_first, stand_later, SeesWithin, LanguageOutside, modulion_within, block_within}
use Rattle.order_laws.proofs.Depths as depths
use Rattle.order_laws.proofs.Nodes as rows

-- ---- lists of parts

depths_split : (k : ℕ) (ps qs : List PartTree) → depths_in k (part_nodes (ps ++ qs)) ≡ depths_in k (part_nodes ps) ++ depths_in k (part_nodes qs)
depths_split k [] qs = refl
depths_split k (p ∷ ps) qs = ap (λ ds. depths_of k p ++ ds) (depths_split k ps qs) ∙ sym (append_assoc (depths_of k p) (depths_in k (part_nodes ps)) (depths_in k (part_nodes qs)))

nodes_first : (r : Reach) (from : ℕ) (ps qs : List PartTree) (k : Node) → Contains (nodes r from (part_nodes ps)) k → Contains (nodes r from (part_nodes (ps ++ qs))) k
nodes_first r from [] qs k c = absurd (none_in k c)
nodes_first r from (p ∷ ps) qs k c = elim (in_cases (node r from p) (nodes_inside r from p ++ nodes r (from + size_of p) (part_nodes ps)) k c) [
  | inl is ↦ here_in (node r from p) (nodes_inside r from p ++ nodes r (from + size_of p) (part_nodes (ps ++ qs))) k is
  | inr there ↦ later_in (node r from p) (nodes_inside r from p ++ nodes r (from + size_of p) (part_nodes (ps ++ qs))) k (elim (Contains-append_cases (nodes_inside r from p) (nodes r (from + size_of p) (part_nodes ps)) k there) [
    | inl inside ↦ Contains-append_left (nodes_inside r from p) (nodes r (from + size_of p) (part_nodes (ps ++ qs))) k inside
    | inr behind ↦ Contains-append_right (nodes_inside r from p) (nodes r (from + size_of p) (part_nodes (ps ++ qs))) k (nodes_first r (from + size_of p) ps qs k behind)
  ])
]

nodes_later : (r : Reach) (from : ℕ) (ps qs : List PartTree) (k : Node) → Contains (nodes r (from + sizes_of (part_nodes ps)) (part_nodes qs)) k → Contains (nodes r from (part_nodes (ps ++ qs))) k
nodes_later r from [] qs k c = let same : from + 0 ≡ from = omega arith in subst (λ n. Contains (nodes r n (part_nodes qs)) k) same c
nodes_later r from (p ∷ ps) qs k c =
    let same : from + (size_of p + sizes_of (part_nodes ps)) ≡ (from + size_of p) + sizes_of (part_nodes ps) = omega arith in
    later_in (node r from p) (nodes_inside r from p ++ nodes r (from + size_of p) (part_nodes (ps ++ qs))) k
    (Contains-append_right (nodes_inside r from p) (nodes r (from + size_of p) (part_nodes (ps ++ qs))) k (nodes_later r (from + size_of p) ps qs k (subst (λ n. Contains (nodes r n (part_nodes qs)) k) same c)))

-- the mentions at the front of parts stand at the number of what is defined first behind them
mention_node : (r : Reach) (from : ℕ) (ms : List Mention) (m : Mention) → Contains ms m → (number : ℕ) × (Contains (nodes r from (part_nodes (mentioned ms))) (node r number (mention m)) × (number ≡ from))
mention_node r from [] m c = absurd (none_in m c)
mention_node r from (x ∷ ms) m c = elim (in_cases x ms m c) [
  | inl is ↦ (from, (here_in (node r from (mention x)) (nodes r (from + 0) (part_nodes (mentioned ms))) (node r from (mention m)) (ap (λ y. node r from (mention y)) is), refl))
  | inr there ↦ (let h = mention_node r (from + 0) ms m there in let same = h.1.1 in (h.0, (later_in (node r from (mention x)) (nodes r (from + 0) (part_nodes (mentioned ms))) (node r h.0 (mention m)) h.1.0, omega (arith, same))))
]

mentions_size : (ms : List Mention) → sizes_of (part_nodes (mentioned ms)) ≡ 0
mentions_size [] = refl
mentions_size (m ∷ ms) = let rest = mentions_size ms in omega (arith, rest)

-- as many definitions stand in parts as they define
counted : (os : List Origin) (ps : List PartTree) → map row_of os ≡ rows_in (part_nodes ps) → AreSized (part_nodes ps) → length os ≡ sizes_of (part_nodes ps)
counted os ps same sized = sym (length-map os row_of) ∙ ap length same ∙ rows.parts_length (part_nodes ps) sized

-- ---- loops

-- the mentions of the values around a loop
abbrev pub mentions_bounding : ControlTree → List Mention
mentions_bounding (while_holds at c) = []
mentions_bounding (for_ever at) = []
mentions_bounding (for_members at n s c) = mentions_of s
mentions_bounding (for_steps at n s b down e c) = mentions_of s ++ mentions_of_some b ++ mentions_of e

abbrev IsNoCounter : Origin → Type 0
IsNoCounter (a_counter c) = ⊥
IsNoCounter o = Unit {0}

module _ (text : List Definition) (all : List Node) (f : ℕ → ℕ) (language : LanguageOutside f text) where
  -- a mention stands at a node that sees nothing as deep as a definition, and has its number
  pub record MentionNode (d : ℕ) (m : Mention) : Type 0 where
    pub at : Node
    pub is_node : Contains all at
    pub is_mention : at.part ≡ mention m
    pub near : (e : ℕ) → Sees text at.reach e → f e < f d
    pub number : at.from ≡ d

  abbrev pub HasLoop : ℕ → Origin → Type 0
  HasLoop d (a_counter c) = (m : Mention) → Contains (mentions_bounding c) m → MentionNode d m
  HasLoop d o = Unit {0}

  no_loop : (d : ℕ) (o : Origin) → IsNoCounter o → HasLoop d o
  no_loop d (a_counter c) none = absurd none
  no_loop d (a_synonym s) none = tt
  no_loop d (a_mode novel m) none = tt
  no_loop d (an_element ns part owner) none = tt
  no_loop d (a_location l) none = tt
  no_loop d (a_parameter m) none = tt
  no_loop d (a_received n count part) none = tt
  no_loop d (a_procedure p) none = tt
  no_loop d (a_process p) none = tt
  no_loop d (a_signal s) none = tt
  no_loop d (a_modulion kind items) none = tt
  no_loop d (a_predefined p) none = tt

  no_loops : (from : ℕ) (os : List Origin) → Each IsNoCounter os → EachAt HasLoop from os
  no_loops from [] none = tt
  no_loops from (o ∷ os) none = (no_loop from o none.0, no_loops (suc from) os none.1)

  -- the counters that parts define have their loops, in whatever reach the parts stand
  record Looping (os : List Origin) (ps : List PartTree) : Type 0 where
    loops : (r : Reach) (from depth : ℕ) → Stand f from (depths_in depth (part_nodes ps)) → SeesWithin f text r depth → ((k : Node) → Contains (nodes r from (part_nodes ps)) k → Contains all k) → EachAt HasLoop from os

  plain : (os : List Origin) (ps : List PartTree) → Each IsNoCounter os → Looping os ps
  plain os ps none = record { loops = λ r from depth stand within inside. no_loops from os none }

  empty_parts : (ps : List PartTree) → Looping [] ps
  empty_parts ps = record { loops = λ r from depth stand within inside. tt }

  -- parts behind others
  behind_parts : {before : List Mention} {xs us : List Origin} {ps qs : List PartTree} → DefiningBehind before xs ps → Looping us qs → (r : Reach) (from depth : ℕ) → Stand f from (depths_in depth (part_nodes (ps ++ qs))) → SeesWithin f text r depth → ((k : Node) → Contains (nodes r from (part_nodes (ps ++ qs))) k → Contains all k) → EachAt HasLoop (from + length xs) us
  behind_parts {xs = xs} {us = us} {ps = ps} {qs = qs} m later r from depth stand within inside =
      let long : from + length xs ≡ from + sizes_of (part_nodes ps) = ap (λ n. from + n) (counted xs ps m.rows m.sized) in
      let deep : from + length (depths_in depth (part_nodes ps)) ≡ from + sizes_of (part_nodes ps) = ap (λ n. from + n) (depths.parts_length depth (part_nodes ps) m.sized) in
      let both = subst (λ ds. Stand f from ds) (depths_split depth ps qs) stand in
      let own = at_moved (λ d x. f d ≡ x) (from + length (depths_in depth (part_nodes ps))) (from + sizes_of (part_nodes ps)) (depths_in depth (part_nodes qs)) deep (stand_later f from (depths_in depth (part_nodes ps)) (depths_in depth (part_nodes qs)) both) in
      at_moved HasLoop (from + sizes_of (part_nodes ps)) (from + length xs) us (sym long) (later.loops r (from + sizes_of (part_nodes ps)) depth own within (λ k c. inside k (nodes_later r from ps qs k c)))

  follow : {before : List Mention} {os us : List Origin} {ps qs : List PartTree} → DefiningBehind before os ps → Looping os ps → Looping us qs → Looping (os ++ us) (ps ++ qs)
  follow {os = os} {us = us} {ps = ps} {qs = qs} m first later = record {
    loops = λ r from depth stand within inside.
        at_both HasLoop from os us
        (first.loops r from depth (stand_first f from (depths_in depth (part_nodes ps)) (depths_in depth (part_nodes qs)) (subst (λ ds. Stand f from ds) (depths_split depth ps qs) stand)) within (λ k c. inside k (nodes_first r from ps qs k c)))
        (behind_parts m later r from depth stand within inside);
  }

  -- a block alone
  in_its_block : {os : List Origin} {ps : List PartTree} → AreSized (part_nodes ps) → Looping os ps → Looping os (block_of ps ∷ [])
  in_its_block {os = os} {ps = ps} sized inner = record {
    loops = λ r from depth stand within inside.
        let own = stand_first f from (depths_in (suc depth) (part_nodes ps)) [] stand in
        inner.loops (in_block r [] from (part_nodes ps)) from (suc depth) own (block_within f text r depth from [] (part_nodes ps) sized own (λ d c. absurd (none_in d c)) within)
        (λ k c. inside k (later_in (node r from (block_of ps)) (nodes (in_block r [] from (part_nodes ps)) from (part_nodes ps) ++ []) k (Contains-append_left (nodes (in_block r [] from (part_nodes ps)) from (part_nodes ps)) [] k c)));
  }

  less_deep : (x depth y : ℕ) → x ≤ depth → y ≡ suc depth → x < y
  less_deep x depth y low is = omega (arith, low, is)

  -- the block of a counter behind the mentions around its loop
  looped : (c : ControlTree) (n : Name) (cond : List Mention) {os : List Origin} {ps : List PartTree} → Defining (a_counter c ∷ []) (counter_part n ∷ mentioned cond) → Defining os ps → Looping os ps → Looping (a_counter c ∷ os) (mentioned (mentions_bounding c) ++ block_of ((counter_part n ∷ mentioned cond) ++ ps) ∷ [])
  looped c n cond {os = os} {ps = ps} whole body inner = record {
    loops = λ r from depth stand within inside.
        let ms = mentions_bounding c in
        let turns = counter_part n ∷ mentioned cond in
        let start = from + sizes_of (part_nodes (mentioned ms)) in
        let none = mentions_size ms in
        let same : start ≡ from = omega (arith, none) in
        let deep : from + length (depths_in depth (part_nodes (mentioned ms))) ≡ start = ap (λ k. from + k) (depths.parts_length depth (part_nodes (mentioned ms)) (nothing_sized (mentioned ms) (mentions_define ms))) in
        let split = subst (λ ds. Stand f from ds) (depths_split depth (mentioned ms) (block_of (turns ++ ps) ∷ [])) stand in
        let at_block = at_moved (λ d x. f d ≡ x) (from + length (depths_in depth (part_nodes (mentioned ms)))) start (depths_in depth (part_nodes (block_of (turns ++ ps) ∷ []))) deep (stand_later f from (depths_in depth (part_nodes (mentioned ms))) (depths_in depth (part_nodes (block_of (turns ++ ps) ∷ []))) split) in
        let own = stand_first f start (depths_in (suc depth) (part_nodes (turns ++ ps))) [] at_block in
        let inside_block : (k : Node) → Contains (nodes (in_block r [] start (part_nodes (turns ++ ps))) start (part_nodes (turns ++ ps))) k → Contains all k = λ k i.
        inside k (nodes_later r from (mentioned ms) (block_of (turns ++ ps) ∷ []) k (later_in (node r start (block_of (turns ++ ps))) (nodes (in_block r [] start (part_nodes (turns ++ ps))) start (part_nodes (turns ++ ps)) ++ []) k (Contains-append_left (nodes (in_block r [] start (part_nodes (turns ++ ps))) start (part_nodes (turns ++ ps))) [] k i))) in
        let sized = (joined whole body).sized in
        let rest = behind_parts whole inner (in_block r [] start (part_nodes (turns ++ ps))) start (suc depth) own (block_within f text r depth start [] (part_nodes (turns ++ ps)) sized own (λ d i. absurd (none_in d i)) within) inside_block in
        let next : start + 1 ≡ suc from = omega (arith, same) in (
          λ m i. let h = mention_node r from ms m i in record {
            at = node r h.0 (mention m);
            is_node = inside (node r h.0 (mention m)) (nodes_first r from (mentioned ms) (block_of (turns ++ ps) ∷ []) (node r h.0 (mention m)) h.1.0);
            is_mention = refl;
            number = h.1.1;
            near = λ e seen. less_deep (f e) depth (f from) (within e seen) (ap f (sym same) ∙ own.0);
          },
          at_moved HasLoop (start + 1) (suc from) os next rest,
        );
  }

  -- ---- what defines no counter

  elements_plain : (owner : Option (Name × Bool)) (sets : List (List Name)) → Each IsNoCounter (flat_map (elements owner) sets)
  elements_plain owner sets =
      each_flat (λ ns. Unit {0}) IsNoCounter (elements owner) (λ ns fits. each_map (λ k. Unit {0}) IsNoCounter (λ part. an_element ns part owner) (λ k fits. tt) (numbers_on 0 (length ns)) (each_any (λ k. Unit {0}) (λ k. tt) (numbers_on 0 (length ns)))) sets
      (each_any (λ ns. Unit {0}) (λ ns. tt) sets)

  some_plain : (w : Option written.ModeTree) → Each IsNoCounter (elements_of_some w)
  some_plain None = tt
  some_plain (Some w) = elements_plain None (sets_in w)

  names_plain : (ns : List Name) (o : Origin) (inside : List Origin) → IsNoCounter o → Each IsNoCounter inside → Each IsNoCounter (origins_of_names ns o inside)
  names_plain ns o inside own rest = each_append IsNoCounter (replicate (length ns) o) inside (each_same IsNoCounter (length ns) o own) rest

  each_plain : {A : Type 0} (g : A → List Origin) (xs : List A) → ((x : A) → Each IsNoCounter (g x)) → Each IsNoCounter (flat_map g xs)
  each_plain g xs fits = each_flat (λ x. Unit {0}) IsNoCounter g (λ x is. fits x) xs (each_any (λ x. Unit {0}) (λ x. tt) xs)

  local_plain : (l : LocalTree) → Each IsNoCounter (origins_of_local l)
  local_plain (synonyms at ss) = each_plain origins_of_synonym ss (λ s. names_plain s.names (a_synonym s) (elements_of_some s.mode) tt (some_plain s.mode))
  local_plain (syn_modes at ds) = each_plain (origins_of_mode false) ds (λ d. (tt, elements_plain (owner_of false d) (sets_in d.mode)))
  local_plain (new_modes at ds) = each_plain (origins_of_mode true) ds (λ d. (tt, elements_plain (owner_of true d) (sets_in d.mode)))
  local_plain (locations at ds) = each_plain origins_of_declaration ds (λ d. names_plain d.names (a_location d) (elements_of None d.mode) tt (elements_plain None (sets_in d.mode)))

  received_plain : (n : Name) (r : Option (List Name)) → Each IsNoCounter (received_in n r)
  received_plain n None = tt
  received_plain n (Some ns) = each_map (λ k. Unit {0}) IsNoCounter (a_received n (length ns)) (λ k fits. tt) (numbers_on 0 (length ns)) (each_any (λ k. Unit {0}) (λ k. tt) (numbers_on 0 (length ns)))

  by_parts_plain : (ws : Option (List written.ModeTree)) → Each IsNoCounter (elim ws [ None ↦ [] | Some ms ↦ flat_map (elements_of None) ms ])
  by_parts_plain None = tt
  by_parts_plain (Some ms) = each_plain (elements_of None) ms (λ w. elements_plain None (sets_in w))

  signal_plain : (s : SignalTree) → Each IsNoCounter (origins_of_signal s)
  signal_plain s = (tt, by_parts_plain s.parts)

  params_plain : (ps : List ParamTree) → Each IsNoCounter (flat_map origins_of_param ps)
  params_plain ps = each_plain origins_of_param ps (λ p. names_plain p.names (a_parameter p.mode) (elements_of None p.mode) tt (elements_plain None (sets_in p.mode)))

  formals_plain : (ps : List FormalTree) → Each IsNoCounter (flat_map origins_of_formal ps)
  formals_plain ps = each_plain origins_of_formal ps (λ p. names_plain p.names (a_parameter p.mode) (elements_of None p.mode) tt (elements_plain None (sets_in p.mode)))

  -- ---- actions

  loop_looping : (c : ControlTree) {os : List Origin} {ps : List PartTree} → Defining os ps → Looping os ps → Looping (counters_in c ++ os) (control_parts c ++ block_of (turn_parts c ++ ps) ∷ [])
  loop_looping (while_holds at e) m x =
      let head = mentions_alone (mentions_of e) in
      in_its_block (joined head m).sized (follow head (empty_parts (mentioned (mentions_of e))) x)
  loop_looping (for_ever at) m x = in_its_block m.sized x
  loop_looping (for_members at n s c) m x = looped (for_members at n s c) n (mentions_of_some c) (counters_defining (for_members at n s c)) m x
  loop_looping (for_steps at n s b down e c) m x = looped (for_steps at n s b down e c) n (mentions_of_some c) (counters_defining (for_steps at n s b down e c)) m x

  mutual
    statement_looping : (s : StatementTree) (labels : List Name) → Looping (origins_in s) (statement_parts labels s)
    statement_looping (empty at) labels = empty_parts []
    statement_looping (simple at a h) labels = follow (nothing (simple_parts labels a) (simple_defines labels a)) (empty_parts (simple_parts labels a)) (handler_looping h labels)
    statement_looping (bracketed at l a h closing) labels = follow (bracketed_defining a (labelled l labels)) (bracketed_looping a (labelled l labels)) (handler_looping h (labelled l labels))

    bracketed_looping : (a : BracketedTree) (labels : List Name) → Looping (origins_in_bracketed a) (bracketed_parts labels a)
    bracketed_looping (if_then at c ss bs o) labels =
        let head = mentions_alone (mentions_of c) in
        let first = joined head (each_defining ss labels) in
        follow (joined first (branches_defining bs labels)) (follow first (follow head (empty_parts (mentioned (mentions_of c))) (each_looping ss labels)) (branches_looping bs labels)) (otherwise_looping o labels)
    bracketed_looping (case_of at e as' o) labels =
        let head = mentions_alone (mentions_of e) in
        follow (joined head (cases_defining as' labels)) (follow head (empty_parts (mentioned (mentions_of e))) (cases_looping as' labels)) (otherwise_looping o labels)
    bracketed_looping (do_loop at c ss) labels = loop_looping c (each_defining ss labels) (each_looping ss labels)
    bracketed_looping (begin_end at ps) labels = in_its_block (body_defining ps labels).sized (body_looping ps labels)
    bracketed_looping (delay_case at set p as') labels =
        let ms = mentions_of_some set ++ mentions_of_some p in follow (mentions_alone ms) (empty_parts (mentioned ms)) (events_looping as' labels)
    bracketed_looping (receive_case at set as' o) labels =
        let head = mentions_alone (mentions_of_some set) in
        follow (joined head (receives_defining as' labels)) (follow head (empty_parts (mentioned (mentions_of_some set))) (receives_looping as' labels)) (otherwise_looping o labels)

    each_looping : (ss : StatementNodes) (labels : List Name) → Looping (origins_in_each ss) (action_parts labels ss)
    each_looping no_statements labels = empty_parts []
    each_looping (more_statements s ss) labels = follow (statement_defining s labels) (statement_looping s labels) (each_looping ss labels)

    branches_looping : (bs : ElsIfNodes) (labels : List Name) → Looping (origins_in_branches bs) (branch_parts labels bs)
    branches_looping no_branches labels = empty_parts []
    branches_looping (more_branches at c ss bs) labels =
        let head = mentions_alone (mentions_of c) in
        follow (joined head (each_defining ss labels)) (follow head (empty_parts (mentioned (mentions_of c))) (each_looping ss labels)) (branches_looping bs labels)

    cases_looping : (as' : CaseNodes) (labels : List Name) → Looping (origins_in_cases as') (case_parts labels as')
    cases_looping no_cases labels = empty_parts []
    cases_looping (more_cases at ls ss as') labels =
        let head = mentions_alone (mentions_of_ranges ls) in
        follow (joined head (each_defining ss labels)) (follow head (empty_parts (mentioned (mentions_of_ranges ls))) (each_looping ss labels)) (cases_looping as' labels)

    events_looping : (as' : NamedNodes) (labels : List Name) → Looping (origins_in_named as') (event_parts labels as')
    events_looping no_named labels = empty_parts []
    events_looping (more_named at ns ss as') labels =
        let ms = flat_map (used uses.Location) ns in
        let inner = each_defining ss labels in
        follow (joined (mentions_alone ms) (blocked inner)) (follow (mentions_alone ms) (empty_parts (mentioned ms)) (in_its_block inner.sized (each_looping ss labels))) (events_looping as' labels)

    receives_looping : (as' : ReceiveNodes) (labels : List Name) → Looping (origins_in_receives as') (receive_parts labels as')
    receives_looping no_receives labels = empty_parts []
    receives_looping (more_receives at n r ss as') labels =
        let ms = used uses.Message n in
        let inner = joined (received_defining n r) (behind (each_defining ss labels)) in
        follow (headed (Use (identifier n) uses.Message) (blocked inner)) (follow (mentions_alone ms) (empty_parts (mentioned ms)) (in_its_block inner.sized (follow (received_defining n r) (plain (received_in n r) (received_parts r) (received_plain n r)) (each_looping ss labels)))) (receives_looping as' labels)

    otherwise_looping : (o : OtherwiseNode) (labels : List Name) → Looping (origins_in_otherwise o) (otherwise_parts labels o)
    otherwise_looping no_otherwise labels = empty_parts []
    otherwise_looping (otherwise ss) labels = each_looping ss labels

    handler_looping : (h : HandlerNode) (labels : List Name) → Looping (origins_in_handler h) (handler_parts labels h)
    handler_looping no_handler labels = empty_parts []
    handler_looping (handler at as' o) labels =
        in_its_block (joined (exceptions_defining as' labels) (otherwise_defining o labels)).sized (follow (exceptions_defining as' labels) (exceptions_looping as' labels) (otherwise_looping o labels))

    exceptions_looping : (as' : NamedNodes) (labels : List Name) → Looping (origins_in_named as') (exception_parts labels as')
    exceptions_looping no_named labels = empty_parts []
    exceptions_looping (more_named at ns ss as') labels = follow (each_defining ss labels) (each_looping ss labels) (exceptions_looping as' labels)

    body_looping : (ps : BodyNodes) (labels : List Name) → Looping (origins_in_parts ps) (body_parts labels ps)
    body_looping no_parts labels = empty_parts []
    body_looping (more_locals l ps) labels = follow (local_defining l) (plain (origins_of_local l) (local_parts l) (local_plain l)) (body_looping ps labels)
    body_looping (more_actions s ps) labels = follow (statement_defining s labels) (statement_looping s labels) (body_looping ps labels)

  whole_looping : (ps : List BodyTree) (h : Option HandlerTree) → Looping (origins_of_body ps h) (whole_body ps h)
  whole_looping ps h = follow (body_defining (body_nodes ps) []) (body_looping (body_nodes ps) []) (handler_looping (handler_node h) [])

  -- ---- procedures, processes and modulions

  routine_looping : (os body : List Origin) (n : Identifier) (kind : Kind) (params : List Clause) (result : List Mention) (ps : List PartTree) → Each IsNoCounter os → length os ≡ head_size params result → AreSized (part_nodes ps) → Looping body ps
      → Looping (os ++ body) (routine n kind params result (sizes_of (part_nodes ps)) (part_nodes ps) ∷ [])
  routine_looping os body n kind params result ps none long sized inner = record {
    loops = λ r from depth stand within inside.
        let p = routine n kind params result (sizes_of (part_nodes ps)) (part_nodes ps) in
        let own = stand_first f from (depths_of depth p) [] stand in
        let head = stand_first f from (depth ∷ depths_of_params depth params ++ replicate (length (elements_in result)) depth) (depths_in (suc depth) (part_nodes ps)) own in
        let start = from + head_size params result in
        let at_body = rows.body_stand text all f language from depth params result (part_nodes ps) own in
        let reach = body_reach r from params result (part_nodes ps) in
        let next : start ≡ from + length os = ap (λ k. from + k) (sym long) in
        at_both HasLoop from os body (no_loops from os none) (at_moved HasLoop start (from + length os) body next
        (inner.loops reach start (suc depth) at_body (block_within f text r depth start (param_names (suc from) params) (part_nodes ps) sized at_body (rows.head_within text all f language from depth params result head) within)
        (λ k c. inside k (later_in (node r from p) (nodes reach start (part_nodes ps) ++ []) k (Contains-append_left (nodes reach start (part_nodes ps)) [] k c)))));
  }

  head_length : (os body : List Origin) (params : List Clause) (result : List Mention) (ps : List PartTree) → length (os ++ body) ≡ head_size params result + sizes_of (part_nodes ps) + 0 → length body ≡ sizes_of (part_nodes ps) → length os ≡ head_size params result
  head_length os body params result ps whole inner = let both = length-append os body in omega (arith, whole, inner, both)

  procedure_looping : (p : ProcedureTree) → Looping (origins_of_procedure p) (procedure_part p ∷ [])
  procedure_looping p =
      let params = flat_map origins_of_param p.params in
      let result = elements_of_some p.returns in
      let os = a_procedure p ∷ params ++ result in
      let body = origins_of_body p.body p.handler in
      let m = procedure_defining p in
      let inner = body_of_defining p.body p.handler in
      routine_looping os body (identifier p.name) kinds.Procedure (map param_clause p.params) (mentions_of_some_mode p.returns) (whole_body p.body p.handler) (tt, each_append IsNoCounter params result (params_plain p.params) (some_plain p.returns))
      (head_length os body (map param_clause p.params) (mentions_of_some_mode p.returns) (whole_body p.body p.handler) (counted (origins_of_procedure p) (procedure_part p ∷ []) m.rows m.sized) (counted body (whole_body p.body p.handler) inner.rows inner.sized)) inner.sized (whole_looping p.body p.handler)

  process_looping : (p : ProcessTree) → Looping (origins_of_process p) (process_part p ∷ [])
  process_looping p =
      let os = a_process p ∷ flat_map origins_of_formal p.formals in
      let body = origins_of_body p.body p.handler in
      let m = process_defining p in
      let inner = body_of_defining p.body p.handler in
      routine_looping os body (identifier p.name) kinds.Process (map formal_clause p.formals) [] (whole_body p.body p.handler) (tt, formals_plain p.formals)
      (head_length os body (map formal_clause p.formals) [] (whole_body p.body p.handler) (counted (origins_of_process p) (process_part p ∷ []) m.rows m.sized) (counted body (whole_body p.body p.handler) inner.rows inner.sized)) inner.sized (whole_looping p.body p.handler)

  modulion_looping : (os : List Origin) (kind : ModulionKind) (items : ItemNodes) (n : Identifier) (region : Bool) (ps : List PartTree) → AreSized (part_nodes ps) → Looping os ps → Looping (a_modulion kind items ∷ os) (modulion n region (sizes_of (part_nodes ps)) (part_nodes ps) ∷ [])
  modulion_looping os kind items n region ps sized inner = record {
    loops = λ r from depth stand within inside.
        let p = modulion n region (sizes_of (part_nodes ps)) (part_nodes ps) in
        let own = stand_first f (suc from) (depths_in depth (part_nodes ps)) [] stand.1 in
        let reach = in_modulion r (suc from) (part_nodes ps) in (
          tt,
          inner.loops reach (suc from) depth own (modulion_within f text r depth (suc from) (part_nodes ps) sized own language within)
              (λ k c. inside k (later_in (node r from p) (nodes reach (suc from) (part_nodes ps) ++ []) k (Contains-append_left (nodes reach (suc from) (part_nodes ps)) [] k c))),
        );
  }

  mutual
    item_looping : (i : ItemTree) → Looping (origins_of_item i) (item_parts i)
    item_looping (seize_item at w) = empty_parts (seized w)
    item_looping (grant_item at w) = empty_parts (granted w)
    item_looping (local_item l) = plain (origins_of_local l) (local_parts l) (local_plain l)
    item_looping (signals at ss) = plain (flat_map origins_of_signal ss) (flat_map signal_parts ss) (each_plain origins_of_signal ss signal_plain)
    item_looping (procedure p) = procedure_looping p
    item_looping (process p) = process_looping p
    item_looping (modulion_of n kind items h closing) =
        let inner = joined (items_defining items) (handler_defining (handler_node h) []) in
        modulion_looping (origins_of_items items ++ origins_in_handler (handler_node h)) kind items (identifier n) (is_region kind) (each_item items ++ handler_parts [] (handler_node h)) inner.sized (follow (items_defining items) (items_looping items) (handler_looping (handler_node h) []))
    item_looping (action s) = statement_looping s []

    items_looping : (is : ItemNodes) → Looping (origins_of_items is) (each_item is)
    items_looping no_items = empty_parts []
    items_looping (more_items i is) = follow (item_defining i) (item_looping i) (items_looping is)

  modulions_looping : (ms : List ModulionTree) → Looping (flat_map (λ m. origins_of_item (modulion_item m)) ms) (flat_map (λ m. item_parts (modulion_item m)) ms)
  modulions_looping [] = empty_parts []
  modulions_looping (m ∷ ms) = follow (item_defining (modulion_item m)) (item_looping (modulion_item m)) (modulions_looping ms)

  pub program_loops : (t : ProgramTree) → Stand f 0 (depths_in 0 (level_of t)) → SeesWithin f text (outermost (level_of t)) 0 → ((k : Node) → Contains (nodes (outermost (level_of t)) 0 (level_of t)) k → Contains all k) → EachAt HasLoop 0 (text_origins t)
  program_loops t stand within inside = (modulions_looping t.modulions).loops (outermost (level_of t)) 0 0 stand within inside
