-- The nodes of statements beside their parts: the names at them are those of the parts, in their order.
use Rattle.std.proofs.Common.{◌≡◌, ◌≤◌, ℕ, suc, ◌+◌, Bool, true, false, List, [], ◌∷◌, ◌++◌, length, Option, Some, None, refl, sym, ap, ◌∙◌, subst, arith}
use Rattle.std.specs.Prelude.{map, flat_map, replicate, if◌then◌else◌}
use Rattle.std.proofs.lemmas.Grind.{flat_map-append}
use Rattle.std.proofs.lemmas.List.{map-append, length-map}
use Rattle.chill_tree.specs.declared.tree.name.Name.{Name}
use Rattle.chill_tree.specs.ExprTree.{ExprTree, ExprNodes, RangeTree, RangeNodes, whole, character, text, this_instance, paren, receive, start, tuple, uniform, name, apply, field, prefixed, binary, no_exprs, more_exprs, alone, between, no_ranges, more_ranges, expr_nodes, range_nodes}
use Rattle.chill_tree.specs.ModeTree as written
use Rattle.chill_tree.specs.LocalTree.{SynonymTree, ModeDefinitionTree, InitialTree, DeclarationTree, LocalTree, synonyms, syn_modes, new_modes, locations}
use Rattle.chill_tree.specs.SimpleTree.{SimpleTree, assign, update, call_of, exit, return_with, result_of, assert_that, cause, stop, start_of, delay, continue_event, send, ControlTree, while_holds, for_ever, for_members, for_steps}
use Rattle.chill_tree.specs.StatementTree.{StatementTree, BracketedTree, StatementNodes, ElsIfNodes, CaseNodes, NamedNodes, ReceiveNodes, OtherwiseNode, HandlerNode, BodyNodes, HandlerTree, BodyTree, empty, simple, bracketed, if_then, case_of, do_loop, begin_end, delay_case, receive_case, no_statements, more_statements, no_branches, more_branches, no_cases, more_cases, no_named, more_named, no_receives, more_receives, no_otherwise, otherwise, no_handler, handler, no_parts, more_locals, more_actions, handler_node, body_nodes}
use Rattle.names_model.specs.declared.identifier.Identifier.{Identifier}
use Rattle.names_model.specs.declared.kind.Kind.TheVariants as kinds
use Rattle.names_model.specs.declared.kind.Need.TheVariants as needs
use Rattle.names_model.specs.declared.part.Mention.{Mention}
use Rattle.names_model.specs.Identifiers.{identifier, identifiers}
use Rattle.names_model.specs.Parts.{PartTree, mention, stray, part_nodes}
use Rattle.names_model.specs.Sizes.{clause_size, size_of, sizes_of, block_of}
use Rattle.names_model.specs.Definitions.{numbers_on}
use Rattle.names_model.specs.ExprMentions.{used, begun, callee_of, tuple_mode, mentions_as, mentions_in_each, mentions_in_range, mentions_in_ranges, mentions_of, mentions_of_some, mentions_of_args, mentions_of_ranges}
use Rattle.names_model.specs.ModeMentions.{mentions_of_mode, mentions_of_some_mode}
use Rattle.names_model.specs.StatementParts.{clause, mentioned, synonym_part, mode_part, initial_parts, declaration_parts, local_parts, encloses, exit_parts, mentions_of_some_args, simple_parts, control_parts, counter_part, turn_parts, labelled, received_parts, statement_parts, bracketed_parts, action_parts, branch_parts, case_parts, event_parts, receive_parts, otherwise_parts, handler_parts, exception_parts, body_parts}
use Rattle.names_model.specs.ItemParts.{whole_body}
use Rattle.ground_laws.specs.Rows.{used_in_mention, used_in_mentions}
use Rattle.checks_model.specs.Ground.{Origin, a_synonym, an_element, a_location, a_counter, a_received, a_procedure, a_process}
use Rattle.checks_model.specs.ActionRules.{args_in}
use Rattle.checks_model.specs.Phases.{initial_expr}
use Rattle.checks_model.specs.Origins.{sets_in, elements, elements_of, elements_of_some, origins_of_synonym, owner_of, origins_of_mode, origins_of_declaration, origins_of_local, counters_in, received_in, origins_in, origins_in_bracketed, origins_in_each, origins_in_branches, origins_in_cases, origins_in_named, origins_in_receives, origins_in_otherwise, origins_in_handler, origins_in_parts, origins_of_body}
use Rattle.checks_model.specs.Sites.{Site, Around, at_synonym, at_mode_definition, at_declaration, at_simple, at_condition, at_selector, at_labels, at_control, at_set, at_priority, at_event, at_source, at_received, at_exceptions, some_site, events_listed, counter_in, sites_of_local, sites_of, sites_of_bracketed, sites_of_each, sites_of_branches, sites_of_cases, sites_of_events, sites_of_receives, sites_of_otherwise, sites_of_handler, sites_of_exceptions, sites_of_parts, sites_of_body}
use Rattle.table_laws.specs.Names.{some_name, names_in, names_in_each, names_in_range, names_in_ranges, names_in_some}
use Rattle.written_laws.specs.Written.{Each}
use Rattle.written_laws.proofs.Shown.{each_append, each_map, each_any, each_flat, each_same}
use Rattle.order_laws.proofs.Numbered.{EachAt}
use Rattle.elaboration_model.specs.Numbering.{Source}
use Rattle.within_laws.specs.Within.{IsUsedWithin, AreDefinedFrom, AreSitesWithin, names_of_control, names_used, names_defined}
use Rattle.within_laws.proofs.Parts.{AreFlat, flat_both, flat_mentions, Used, Defined, PartsSo, parts_moved, parts_first, parts_later, mentions_so, no_sizes, sizes_split}

-- ---- the names in expressions are those that are mentioned

abbrev Are : List Mention → List Name → Type 0
Are ms ns = used_in_mentions ms ≡ identifiers ns

two : (ms ps : List Mention) (ns ks : List Name) → Are ms ns → Are ps ks → Are (ms ++ ps) (ns ++ ks)
two ms ps ns ks first later =
    flat_map-append used_in_mention ms ps ∙ ap (λ xs. xs ++ used_in_mentions ps) first ∙ ap (λ xs. identifiers ns ++ xs) later ∙ sym (map-append identifier ns ks)

mode_used : (n : Option Name) → Are (tuple_mode n) (some_name n)
mode_used None = refl
mode_used (Some n) = refl

begun_used : (of : Option Name) (n : Name) → Are (begun of n) (n ∷ [])
begun_used None n = refl
begun_used (Some callee) n = refl

mutual
  expr_used : (e : ExprTree) (of : Option Name) → Are (mentions_as of e) (names_in e)
  expr_used (whole at n) of = refl
  expr_used (character at n) of = refl
  expr_used (text at n) of = refl
  expr_used (this_instance at) of = refl
  expr_used (paren at e) of = expr_used e None
  expr_used (receive at n) of = refl
  expr_used (start at n es) of = ap (λ xs. identifier n ∷ xs) (args_used es None)
  expr_used (tuple at m b rs) of = two (tuple_mode m) (mentions_in_ranges rs) (some_name m) (names_in_ranges rs) (mode_used m) (ranges_used rs)
  expr_used (uniform at m b e) of = two (tuple_mode m) (mentions_as None e) (some_name m) (names_in e) (mode_used m) (expr_used e None)
  expr_used (name n) of = begun_used of n
  expr_used (apply at e es) of = two (mentions_as None e) (mentions_in_each (callee_of e) es) (names_in e) (names_in_each es) (expr_used e None) (args_used es (callee_of e))
  expr_used (field at e n) of = expr_used e None
  expr_used (prefixed at o e) of = expr_used e None
  expr_used (binary at l o p r) of = two (mentions_as None l) (mentions_as None r) (names_in l) (names_in r) (expr_used l None) (expr_used r None)

  args_used : (es : ExprNodes) (of : Option Name) → Are (mentions_in_each of es) (names_in_each es)
  args_used no_exprs of = refl
  args_used (more_exprs e es) of = two (mentions_as of e) (mentions_in_each of es) (names_in e) (names_in_each es) (expr_used e of) (args_used es of)

  range_used : (r : RangeTree) → Are (mentions_in_range r) (names_in_range r)
  range_used (alone e) = expr_used e None
  range_used (between l h) = two (mentions_as None l) (mentions_as None h) (names_in l) (names_in h) (expr_used l None) (expr_used h None)

  ranges_used : (rs : RangeNodes) → Are (mentions_in_ranges rs) (names_in_ranges rs)
  ranges_used no_ranges = refl
  ranges_used (more_ranges r rs) = two (mentions_in_range r) (mentions_in_ranges rs) (names_in_range r) (names_in_ranges rs) (range_used r) (ranges_used rs)

one_used : (e : ExprTree) → Are (mentions_of e) (names_in e)
one_used e = expr_used e None

some_used : (e : Option ExprTree) → Are (mentions_of_some e) (names_in_some e)
some_used None = refl
some_used (Some e) = one_used e

some_args_used : (es : Option (List ExprTree)) → Are (mentions_of_some_args es) (names_in_each (args_in es))
some_args_used None = refl
some_args_used (Some es) = args_used (expr_nodes es) None

-- ---- what defines no routine

abbrev pub IsPlain : Origin → Type 0
IsPlain (a_procedure p) = ⊥
IsPlain (a_process p) = ⊥
IsPlain o = Unit {0}

elements_plain : (owner : Option (Name × Bool)) (sets : List (List Name)) → Each IsPlain (flat_map (elements owner) sets)
elements_plain owner sets =
    each_flat (λ ns. Unit {0}) IsPlain (elements owner) (λ ns fits. each_map (λ k. Unit {0}) IsPlain (λ part. an_element ns part owner) (λ k own. tt) (numbers_on 0 (length ns)) (each_any (λ k. Unit {0}) (λ k. tt) (numbers_on 0 (length ns)))) sets
    (each_any (λ ns. Unit {0}) (λ ns. tt) sets)

pub some_plain : (w : Option written.ModeTree) → Each IsPlain (elements_of_some w)
some_plain None = tt
some_plain (Some w) = elements_plain None (sets_in w)

pub mode_plain : (owner : Option (Name × Bool)) (w : written.ModeTree) → Each IsPlain (elements_of owner w)
mode_plain owner w = elements_plain owner (sets_in w)

pub names_plain : (count : ℕ) (o : Origin) (inside : List Origin) → IsPlain o → Each IsPlain inside → Each IsPlain (replicate count o ++ inside)
names_plain count o inside own rest = each_append IsPlain (replicate count o) inside (each_same IsPlain count o own) rest

synonyms_plain : (ss : List SynonymTree) → Each IsPlain (flat_map origins_of_synonym ss)
synonyms_plain [] = tt
synonyms_plain (s ∷ ss) = each_append IsPlain (origins_of_synonym s) (flat_map origins_of_synonym ss) (names_plain (length s.names) (a_synonym s) (elements_of_some s.mode) tt (some_plain s.mode)) (synonyms_plain ss)

modes_plain : (novel : Bool) (ds : List ModeDefinitionTree) → Each IsPlain (flat_map (origins_of_mode novel) ds)
modes_plain novel [] = tt
modes_plain novel (d ∷ ds) = each_append IsPlain (origins_of_mode novel d) (flat_map (origins_of_mode novel) ds) (tt, mode_plain (owner_of novel d) d.mode) (modes_plain novel ds)

received_plain : (n : Name) (r : Option (List Name)) → Each IsPlain (received_in n r)
received_plain n None = tt
received_plain n (Some ns) = each_map (λ k. Unit {0}) IsPlain (a_received n (length ns)) (λ k own. tt) (numbers_on 0 (length ns)) (each_any (λ k. Unit {0}) (λ k. tt) (numbers_on 0 (length ns)))

-- ---- walks

module _ (s : Source) where
  pub record Walk (os : List Origin) (ps : List PartTree) (ss : List Site) : Type 0 where
    pub flat : AreFlat false (part_nodes ps)
    pub plain : Each IsPlain os
    pub within : (b from : ℕ) → PartsSo s b from (part_nodes ps) → AreSitesWithin s b from ss (from + sizes_of (part_nodes ps))

  pub defined_lower : (b low under : ℕ) (ns : List Name) (high : ℕ) → under ≤ low → AreDefinedFrom s b low ns high → AreDefinedFrom s b under ns high
  defined_lower b low under [] high less so = omega (arith, less, so)
  defined_lower b low under (n ∷ ns) high less so = (so.0, (let above = so.1 in omega (arith, less, above)), so.2, so.3, so.4)

  lower : (b low under : ℕ) (ss : List Site) (high : ℕ) → under ≤ low → AreSitesWithin s b low ss high → AreSitesWithin s b under ss high
  lower b low under [] high less so = omega (arith, less, so)
  lower b low under (n ∷ ns) high less so = (so.0, (so.1.0, defined_lower b low under (names_defined n) so.1.0 less so.1.1, so.1.2))

  pub higher : (b low : ℕ) (ss : List Site) (high above : ℕ) → high ≤ above → AreSitesWithin s b low ss high → AreSitesWithin s b low ss above
  higher b low [] high above less so = omega (arith, less, so)
  higher b low (n ∷ ns) high above less so = (so.0, (so.1.0, so.1.1, higher b so.1.0 ns high above less so.1.2))

  sites_both : (b low middle high : ℕ) (ss ts : List Site) → AreSitesWithin s b low ss middle → AreSitesWithin s b middle ts high → AreSitesWithin s b low (ss ++ ts) high
  sites_both b low middle high [] ts one other = lower b middle low ts high one other
  sites_both b low middle high (n ∷ ss) ts one other = (one.0, (one.1.0, one.1.1, sites_both b one.1.0 middle high ss ts one.1.2 other))

  pub nothing : Walk [] [] []
  nothing = record { flat = tt; plain = tt; within = λ b from so. omega arith }

  pub joined : {os us : List Origin} {ps qs : List PartTree} {ss ts : List Site} → Walk os ps ss → Walk us qs ts → Walk (os ++ us) (ps ++ qs) (ss ++ ts)
  joined {os = os} {us = us} {ps = ps} {qs = qs} {ss = ss} {ts = ts} m k = record {
    flat = flat_both false ps qs m.flat k.flat;
    plain = each_append IsPlain os us m.plain k.plain;
    within = λ b from so.
        let middle = from + sizes_of (part_nodes ps) in
        let split = sizes_split ps qs in
        higher b from (ss ++ ts) (middle + sizes_of (part_nodes qs)) (from + sizes_of (part_nodes (ps ++ qs))) (omega (arith, split))
        (sites_both b from middle (middle + sizes_of (part_nodes qs)) ss ts (m.within b from (parts_first s b from ps qs so)) (k.within b middle (parts_later s b from ps qs so)));
  }

  blocked : {os : List Origin} {ps : List PartTree} {ss : List Site} → Walk os ps ss → Walk os (block_of ps ∷ []) ss
  blocked {os = os} {ps = ps} {ss = ss} m = record {
    flat = (m.flat, tt);
    plain = m.plain;
    within = λ b from so. higher b from ss (from + sizes_of (part_nodes ps)) (from + sizes_of (part_nodes (block_of ps ∷ []))) (omega arith) (m.within b from so.0);
  }

  used_names : (b : ℕ) (ms : List Mention) (ns : List Name) → Are ms ns → Each (Used s b) (used_in_mentions ms) → Each (IsUsedWithin s b) ns
  used_names b ms ns same each = by ns (subst (Each (Used s b)) same each)
    where
      by : (ns : List Name) → Each (Used s b) (identifiers ns) → Each (IsUsedWithin s b) ns
      by [] all = tt
      by (n ∷ ns) all = (all.0, by ns all.1)

  -- a node whose names are mentioned
  one_site : (ms : List Mention) (n : Site) → Are ms (names_used n) → names_defined n ≡ [] → Walk [] (mentioned ms) (n ∷ [])
  one_site ms n same none = record {
    flat = flat_mentions false ms;
    plain = tt;
    within = λ b from so. (
      used_names b ms (names_used n) same (mentions_so s b from ms so),
      (from, subst (λ ns. AreDefinedFrom s b from ns from) (sym none) (omega arith), omega arith),
    );
  }

  -- a node at which no name is, beside no part
  bare_site : (n : Site) → names_used n ≡ [] → names_defined n ≡ [] → Walk [] [] (n ∷ [])
  bare_site n same none = record {
    flat = tt;
    plain = tt;
    within = λ b from so. (subst (Each (IsUsedWithin s b)) (sym same) tt, (from, subst (λ ns. AreDefinedFrom s b from ns from) (sym none) (omega arith), omega arith));
  }

  -- ---- definitions

  pub defined_names : (b from : ℕ) (ns : List Name) → EachAt (Defined s b) from (identifiers ns) → AreDefinedFrom s b from ns (from + length ns)
  defined_names b from [] each = omega arith
  defined_names b from (n ∷ ns) each =
      (from, omega arith, each.0.0, each.0.1, subst (AreDefinedFrom s b (suc from) ns) (let same : suc from + length ns ≡ from + suc (length ns) = omega arith in same) (defined_names b (suc from) ns each.1))

  initial_used : (i : Option InitialTree) (b from : ℕ) → PartsSo s b from (part_nodes (initial_parts i)) → Each (IsUsedWithin s b) (names_in_some (initial_expr i))
  initial_used None b from so = tt
  initial_used (Some i) b from so = used_names b (mentions_of i.value) (names_in i.value) (one_used i.value) (mentions_so s b from (mentions_of i.value) so)

  initial_flat : (i : Option InitialTree) → AreFlat false (part_nodes (initial_parts i))
  initial_flat None = tt
  initial_flat (Some i) = flat_mentions false (mentions_of i.value)

  declaration_walk : (shared : Bool) (d : DeclarationTree) → Walk (origins_of_declaration d) (declaration_parts d) (at_declaration shared d ∷ [])
  declaration_walk shared d = record {
    flat = (tt, initial_flat d.initial);
    plain = names_plain (length d.names) (a_location d) (elements_of None d.mode) tt (mode_plain None d.mode);
    within = λ b from so.
        let long = length-map d.names identifier in (
          initial_used d.initial b (from + clause_size (clause kinds.Location d.names (mentions_of_mode d.mode))) so.1,
          (from + length d.names, defined_names b from d.names so.0.1, omega (arith, long)),
        );
  }

  declarations_walk : (shared : Bool) (ds : List DeclarationTree) → Walk (flat_map origins_of_declaration ds) (flat_map declaration_parts ds) (map (at_declaration shared) ds)
  declarations_walk shared [] = nothing
  declarations_walk shared (d ∷ ds) = joined (declaration_walk shared d) (declarations_walk shared ds)

  each_split : (b : ℕ) (ms ps : List Mention) → Each (Used s b) (used_in_mentions (ms ++ ps)) → Each (Used s b) (used_in_mentions ps)
  each_split b [] ps each = each
  each_split b (m ∷ ms) ps each = each_split b ms ps (behind (used_in_mention m) (used_in_mentions (ms ++ ps)) each)
    where
      behind : (xs ys : List Identifier) → Each (Used s b) (xs ++ ys) → Each (Used s b) ys
      behind [] ys each = each
      behind (x ∷ xs) ys each = behind xs ys each.1

  synonym_walk : (x : SynonymTree) → Walk (origins_of_synonym x) (synonym_part x ∷ []) (at_synonym x ∷ [])
  synonym_walk x = record {
    flat = (tt, tt);
    plain = names_plain (length x.names) (a_synonym x) (elements_of_some x.mode) tt (some_plain x.mode);
    within = λ b from so. (
      used_names b (mentions_of x.value) (names_in x.value) (one_used x.value) (each_split b (mentions_of_some_mode x.mode) (mentions_of x.value) so.0.0),
      (from, omega arith, omega arith),
    );
  }

  synonyms_walk : (xs : List SynonymTree) → Walk (flat_map origins_of_synonym xs) (map synonym_part xs) (map at_synonym xs)
  synonyms_walk [] = nothing
  synonyms_walk (x ∷ xs) = joined (synonym_walk x) (synonyms_walk xs)

  mode_walk : (novel : Bool) (d : ModeDefinitionTree) → Walk (origins_of_mode novel d) (mode_part d ∷ []) (at_mode_definition d ∷ [])
  mode_walk novel d = record { flat = (tt, tt); plain = (tt, mode_plain (owner_of novel d) d.mode); within = λ b from so. (tt, (from, omega arith, omega arith)) }

  modes_walk : (novel : Bool) (ds : List ModeDefinitionTree) → Walk (flat_map (origins_of_mode novel) ds) (map mode_part ds) (map at_mode_definition ds)
  modes_walk novel [] = nothing
  modes_walk novel (d ∷ ds) = joined (mode_walk novel d) (modes_walk novel ds)

  pub local_walk : (shared : Bool) (l : LocalTree) → Walk (origins_of_local l) (local_parts l) (sites_of_local shared l)
  local_walk shared (synonyms at xs) = synonyms_walk xs
  local_walk shared (syn_modes at ds) = modes_walk false ds
  local_walk shared (new_modes at ds) = modes_walk true ds
  local_walk shared (locations at ds) = declarations_walk shared ds

  -- ---- actions

  exit_walk : (labels : List Name) (n : Name) (x : Site) → names_used x ≡ [] → names_defined x ≡ [] → Walk [] (exit_parts labels n) (x ∷ [])
  exit_walk labels n x same none = by (encloses labels n)
    where
      by : (b : Bool) → Walk [] (if b then [] else stray (identifier n) ∷ []) (x ∷ [])
      by true = bare_site x same none
      by false = record {
        flat = (tt, tt);
        plain = tt;
        within = λ b from so. (subst (Each (IsUsedWithin s b)) (sym same) tt, (from, subst (λ ns. AreDefinedFrom s b from ns from) (sym none) (omega arith), omega arith));
      }

  simple_walk : (a : Around) (labels : List Name) (x : SimpleTree) → Walk [] (simple_parts labels x) (at_simple a x ∷ [])
  simple_walk a labels (assign at t v) = one_site (mentions_of t ++ mentions_of v) (at_simple a (assign at t v)) (two (mentions_of t) (mentions_of v) (names_in t) (names_in v) (one_used t) (one_used v)) refl
  simple_walk a labels (update at t o p v) = one_site (mentions_of t ++ mentions_of v) (at_simple a (update at t o p v)) (two (mentions_of t) (mentions_of v) (names_in t) (names_in v) (one_used t) (one_used v)) refl
  simple_walk a labels (call_of at word n es) = one_site (used needs.Action n ++ mentions_of_args (Some n) es) (at_simple a (call_of at word n es)) (ap (λ xs. identifier n ∷ xs) (args_used (expr_nodes es) (Some n))) refl
  simple_walk a labels (exit at n) = exit_walk labels n (at_simple a (exit at n)) refl refl
  simple_walk a labels (return_with at v) = one_site (mentions_of_some v) (at_simple a (return_with at v)) (some_used v) refl
  simple_walk a labels (result_of at v) = one_site (mentions_of v) (at_simple a (result_of at v)) (one_used v) refl
  simple_walk a labels (assert_that at c) = one_site (mentions_of c) (at_simple a (assert_that at c)) (one_used c) refl
  simple_walk a labels (cause at n) = bare_site (at_simple a (cause at n)) refl refl
  simple_walk a labels (stop at) = bare_site (at_simple a (stop at)) refl refl
  simple_walk a labels (start_of at n es) = one_site (used needs.Process n ++ mentions_of_args None es) (at_simple a (start_of at n es)) (ap (λ xs. identifier n ∷ xs) (args_used (expr_nodes es) None)) refl
  simple_walk a labels (delay at n p) = one_site (used needs.Location n ++ mentions_of_some p) (at_simple a (delay at n p)) (ap (λ xs. identifier n ∷ xs) (some_used p)) refl
  simple_walk a labels (continue_event at n) = one_site (used needs.Location n) (at_simple a (continue_event at n)) refl refl
  simple_walk a labels (send at n es to p) =
      let args = mentions_of_some_args es in
      let behind = mentions_of_some to ++ mentions_of_some p in
      one_site (used needs.Message n ++ mentions_of_some_args es ++ mentions_of_some to ++ mentions_of_some p) (at_simple a (send at n es to p))
      (ap (λ xs. identifier n ∷ xs)
      (two (args ++ mentions_of_some to) (mentions_of_some p) (names_in_each (args_in es) ++ names_in_some to) (names_in_some p) (two args (mentions_of_some to) (names_in_each (args_in es)) (names_in_some to) (some_args_used es) (some_used to)) (some_used p))) refl

  received_walk : (n : Name) (r : Option (List Name)) → Walk (received_in n r) (received_parts r) (at_received n r ∷ [])
  received_walk n None = bare_site (at_received n None) refl refl
  received_walk n (Some ns) = record {
    flat = (tt, tt);
    plain = received_plain n (Some ns);
    within = λ b from so. let long = length-map ns identifier in (tt, (from + length ns, defined_names b from ns so.0.1, omega (arith, long)));
  }

  events_walk : (earlier ns : List Name) → Walk [] (mentioned (flat_map (used needs.Location) ns)) (events_listed earlier ns)
  events_walk earlier [] = nothing
  events_walk earlier (n ∷ ns) = joined (one_site (used needs.Location n) (at_event earlier n) refl refl) (events_walk (earlier ++ n ∷ []) ns)

  some_site_walk : (f : ExprTree → Site) (e : Option ExprTree) → ((x : ExprTree) → names_used (f x) ≡ names_in x) → ((x : ExprTree) → names_defined (f x) ≡ []) → Walk [] (mentioned (mentions_of_some e)) (some_site f e)
  some_site_walk f None same none = nothing
  some_site_walk f (Some e) same none = one_site (mentions_of e) (f e) (subst (Are (mentions_of e)) (sym (same e)) (one_used e)) (none e)

  -- a loop that counts: what it evaluates once stands before its block, its counter and its condition in it
  counted : {os : List Origin} {ps : List PartTree} {ss : List Site} (c : ControlTree) (n : Name) (ms : List Mention) (ns : List Name) (condition : Option ExprTree) → Are ms ns
      → control_parts c ≡ mentioned ms → turn_parts c ≡ counter_part n ∷ mentioned (mentions_of_some condition) → names_of_control c ≡ ns ++ names_in_some condition → counter_in c ≡ n ∷ [] → counters_in c ≡ a_counter c ∷ []
      → Walk os ps ss → Walk (counters_in c ++ os) (control_parts c ++ block_of (turn_parts c ++ ps) ∷ []) (at_control c ∷ ss)
  counted {os = os} {ps = ps} {ss = ss} c n ms ns condition same before turn names counter origin m =
      let cond = mentions_of_some condition in
      let inner = counter_part n ∷ (mentioned cond ++ ps) in
      let whole = mentioned ms ++ block_of inner ∷ [] in
      let walk : Walk (a_counter c ∷ os) whole (at_control c ∷ ss) = record {
        flat = flat_both false (mentioned ms) (block_of inner ∷ []) (flat_mentions false ms) ((tt, flat_both false (mentioned cond) ps (flat_mentions false cond) m.flat), tt);
        plain = (tt, m.plain);
        within = λ b from so.
            let none = no_sizes ms in
            let none_behind = no_sizes cond in
            let split = sizes_split (mentioned ms) (block_of inner ∷ []) in
            let behind = sizes_split (mentioned cond) ps in
            let start = from + sizes_of (part_nodes (mentioned ms)) in
            let at : start ≡ from = omega (arith, none) in
            let block_so = parts_moved s b start from (part_nodes (block_of inner ∷ [])) at (parts_later s b from (mentioned ms) (block_of inner ∷ []) so) in
            let rest = block_so.0.1 in
            let later = parts_later s b (from + size_of (counter_part n)) (mentioned cond) ps rest in
            let middle = (from + size_of (counter_part n)) + sizes_of (part_nodes (mentioned cond)) in
            let next : middle ≡ suc from = omega (arith, none_behind) in
            let first = used_names b ms ns same (mentions_so s b from ms (parts_first s b from (mentioned ms) (block_of inner ∷ []) so)) in
            let second = used_names b cond (names_in_some condition) (some_used condition) (mentions_so s b (from + size_of (counter_part n)) cond (parts_first s b (from + size_of (counter_part n)) (mentioned cond) ps rest)) in (
              subst (Each (IsUsedWithin s b)) (sym names) (each_append (IsUsedWithin s b) ns (names_in_some condition) first second),
              (
                suc from,
                subst (λ xs. AreDefinedFrom s b from xs (suc from)) (sym counter) (from, omega arith, block_so.0.0.1.0.0, block_so.0.0.1.0.1, omega arith),
                higher b (suc from) ss (suc from + sizes_of (part_nodes ps)) (from + sizes_of (part_nodes whole)) (omega (arith, split, none, none_behind, behind)) (m.within b (suc from) (parts_moved s b middle (suc from) (part_nodes ps) next later)),
              ),
            );
      } in
      subst (λ us. Walk (us ++ os) (control_parts c ++ block_of (turn_parts c ++ ps) ∷ []) (at_control c ∷ ss)) (sym origin)
      (subst (λ qs. Walk (a_counter c ∷ os) (qs ++ block_of (turn_parts c ++ ps) ∷ []) (at_control c ∷ ss)) (sym before) (subst (λ qs. Walk (a_counter c ∷ os) (mentioned ms ++ block_of (qs ++ ps) ∷ []) (at_control c ∷ ss)) (sym turn) walk))

  control_walk : {os : List Origin} {ps : List PartTree} {ss : List Site} (c : ControlTree) → Walk os ps ss → Walk (counters_in c ++ os) (control_parts c ++ block_of (turn_parts c ++ ps) ∷ []) (at_control c ∷ ss)
  control_walk {os = os} {ps = ps} {ss = ss} (while_holds at c) m = blocked (joined (one_site (mentions_of c) (at_control (while_holds at c)) (one_used c) refl) m)
  control_walk {os = os} {ps = ps} {ss = ss} (for_ever at) m = blocked (joined (bare_site (at_control (for_ever at)) refl refl) m)
  control_walk {os = os} {ps = ps} {ss = ss} (for_members at n x c) m = counted (for_members at n x c) n (mentions_of x) (names_in x) c (one_used x) refl refl refl refl refl m
  control_walk {os = os} {ps = ps} {ss = ss} (for_steps at n x b down e c) m =
      counted (for_steps at n x b down e c) n (mentions_of x ++ mentions_of_some b ++ mentions_of e) (names_in x ++ names_in_some b ++ names_in e) c
      (two (mentions_of x ++ mentions_of_some b) (mentions_of e) (names_in x ++ names_in_some b) (names_in e) (two (mentions_of x) (mentions_of_some b) (names_in x) (names_in_some b) (one_used x) (some_used b)) (one_used e)) refl refl refl refl refl m

  -- the location and the priority of a DELAY CASE
  two_sites : (set p : Option ExprTree) → Walk [] (mentioned (mentions_of_some set ++ mentions_of_some p)) (some_site at_set set ++ some_site at_priority p)
  two_sites None p = some_site_walk at_priority p (λ x. refl) (λ x. refl)
  two_sites (Some e) p =
      subst (λ qs. Walk [] qs (at_set e ∷ some_site at_priority p)) (sym (map-append mention (mentions_of e) (mentions_of_some p)))
      (joined (one_site (mentions_of e) (at_set e) (one_used e) refl) (some_site_walk at_priority p (λ x. refl) (λ x. refl)))

  mutual
    pub statement_walk : (x : StatementTree) (a : Around) (labels : List Name) → Walk (origins_in x) (statement_parts labels x) (sites_of a x)
    statement_walk (empty at) a labels = nothing
    statement_walk (simple at x h) a labels = joined (simple_walk a labels x) (handler_walk h a labels)
    statement_walk (bracketed at l x h closing) a labels = joined (bracketed_walk x a (labelled l labels)) (handler_walk h a (labelled l labels))

    bracketed_walk : (x : BracketedTree) (a : Around) (labels : List Name) → Walk (origins_in_bracketed x) (bracketed_parts labels x) (sites_of_bracketed a x)
    bracketed_walk (if_then at c ss bs o) a labels = joined (joined (joined (one_site (mentions_of c) (at_condition c) (one_used c) refl) (each_walk ss a labels)) (branches_walk bs a labels)) (otherwise_walk o a labels)
    bracketed_walk (case_of at e as' o) a labels = joined (joined (one_site (mentions_of e) (at_selector e) (one_used e) refl) (cases_walk as' a e labels)) (otherwise_walk o a labels)
    bracketed_walk (do_loop at c ss) a labels = control_walk c (each_walk ss a labels)
    bracketed_walk (begin_end at ps) a labels = blocked (body_walk ps a labels)
    bracketed_walk (delay_case at set p as') a labels = joined (two_sites set p) (delays_walk as' a [] labels)
    bracketed_walk (receive_case at set as' o) a labels = joined (joined (some_site_walk at_set set (λ x. refl) (λ x. refl)) (receives_walk as' a [] labels)) (otherwise_walk o a labels)

    each_walk : (xs : StatementNodes) (a : Around) (labels : List Name) → Walk (origins_in_each xs) (action_parts labels xs) (sites_of_each a xs)
    each_walk no_statements a labels = nothing
    each_walk (more_statements x xs) a labels = joined (statement_walk x a labels) (each_walk xs a labels)

    branches_walk : (bs : ElsIfNodes) (a : Around) (labels : List Name) → Walk (origins_in_branches bs) (branch_parts labels bs) (sites_of_branches a bs)
    branches_walk no_branches a labels = nothing
    branches_walk (more_branches at c ss bs) a labels = joined (joined (one_site (mentions_of c) (at_condition c) (one_used c) refl) (each_walk ss a labels)) (branches_walk bs a labels)

    cases_walk : (as' : CaseNodes) (a : Around) (e : ExprTree) (labels : List Name) → Walk (origins_in_cases as') (case_parts labels as') (sites_of_cases a e as')
    cases_walk no_cases a e labels = nothing
    cases_walk (more_cases at ls ss as') a e labels = joined (joined (one_site (mentions_of_ranges ls) (at_labels e ls) (ranges_used (range_nodes ls)) refl) (each_walk ss a labels)) (cases_walk as' a e labels)

    delays_walk : (as' : NamedNodes) (a : Around) (earlier labels : List Name) → Walk (origins_in_named as') (event_parts labels as') (sites_of_events a earlier as')
    delays_walk no_named a earlier labels = nothing
    delays_walk (more_named at ns ss as') a earlier labels = joined (joined (events_walk earlier ns) (blocked (each_walk ss a labels))) (delays_walk as' a (earlier ++ ns) labels)

    receives_walk : (as' : ReceiveNodes) (a : Around) (earlier labels : List Name) → Walk (origins_in_receives as') (receive_parts labels as') (sites_of_receives a earlier as')
    receives_walk no_receives a earlier labels = nothing
    receives_walk (more_receives at n r ss as') a earlier labels =
        joined (joined (one_site (used needs.Message n) (at_source earlier n) refl refl) (blocked (joined (received_walk n r) (each_walk ss a labels)))) (receives_walk as' a (earlier ++ n ∷ []) labels)

    otherwise_walk : (o : OtherwiseNode) (a : Around) (labels : List Name) → Walk (origins_in_otherwise o) (otherwise_parts labels o) (sites_of_otherwise a o)
    otherwise_walk no_otherwise a labels = nothing
    otherwise_walk (otherwise ss) a labels = each_walk ss a labels

    pub handler_walk : (h : HandlerNode) (a : Around) (labels : List Name) → Walk (origins_in_handler h) (handler_parts labels h) (sites_of_handler a h)
    handler_walk no_handler a labels = nothing
    handler_walk (handler at as' o) a labels = blocked (joined (exceptions_walk as' a [] labels) (otherwise_walk o a labels))

    exceptions_walk : (as' : NamedNodes) (a : Around) (earlier labels : List Name) → Walk (origins_in_named as') (exception_parts labels as') (sites_of_exceptions a earlier as')
    exceptions_walk no_named a earlier labels = nothing
    exceptions_walk (more_named at ns ss as') a earlier labels = joined (joined (bare_site (at_exceptions earlier ns) refl refl) (each_walk ss a labels)) (exceptions_walk as' a (earlier ++ ns) labels)

    pub body_walk : (ps : BodyNodes) (a : Around) (labels : List Name) → Walk (origins_in_parts ps) (body_parts labels ps) (sites_of_parts a ps)
    body_walk no_parts a labels = nothing
    body_walk (more_locals l ps) a labels = joined (local_walk false l) (body_walk ps a labels)
    body_walk (more_actions x ps) a labels = joined (statement_walk x a labels) (body_walk ps a labels)

  pub whole_walk : (a : Around) (ps : List BodyTree) (h : Option HandlerTree) → Walk (origins_of_body ps h) (whole_body ps h) (sites_of_body a ps h)
  whole_walk a ps h = joined (body_walk (body_nodes ps) a []) (handler_walk (handler_node h) a [])
