-- The items of a text beside their parts: the names at the nodes of each body are those of its parts.
use Rattle.std.proofs.Common.{◌≡◌, ◌≤◌, ℕ, suc, ◌+◌, true, List, [], ◌∷◌, ◌++◌, length, Option, Some, None, sym, ◌∙◌, subst, arith}
use Rattle.std.proofs.lemmas.List.{length-map}
use Rattle.std.specs.Prelude.{map, flat_map}
use Rattle.chill_tree.specs.declared.tree.name.Name.{Name}
use Rattle.chill_tree.specs.declared.tree.item.Passed.{Passed}
use Rattle.chill_tree.specs.declared.tree.item.Passed.TheVariants.{Names, All}
use Rattle.chill_tree.specs.ModeTree as written
use Rattle.chill_tree.specs.StatementTree.{handler_node}
use Rattle.chill_tree.specs.ItemTree.{SignalTree, ParamTree, ProcedureTree, FormalTree, ProcessTree, ItemTree, ItemNodes, local_item, signals, procedure, process, action, no_items, more_items, ModulionTree, modulion_item}
use Rattle.chill_tree.specs.ItemTree.{seize as seize_item, grant as grant_item, modulion as modulion_of}
use Rattle.names_model.specs.Identifiers.{identifier}
use Rattle.names_model.specs.Parts.{PartTree, seize, grant, part_nodes}
use Rattle.names_model.specs.declared.kind.Kind.TheVariants as kinds
use Rattle.names_model.specs.declared.part.Mention.{Mention}
use Rattle.names_model.specs.ModeMentions.{mentions_of_mode, mentions_of_some_mode}
use Rattle.names_model.specs.Sizes.{clause_size, clauses_size, head_size, sizes_of}
use Rattle.names_model.specs.StatementParts.{clause, handler_parts}
use Rattle.names_model.specs.ItemParts.{seized, granted, receiver_parts, signal_parts, item_parts, each_item}
use Rattle.checks_model.specs.Ground.{Origin, a_parameter, a_procedure, a_process, number_at}
use Rattle.checks_model.specs.Origins.{elements_of, elements_of_some, origins_of_signal, origins_of_param, origins_of_formal, origins_of_body, origins_of_item, origins_of_items, origins_in_handler}
use Rattle.checks_model.specs.Sites.{Site, in_procedure, in_no_procedure, sites_of_body}
use Rattle.elaborated_laws.proofs.Told.{same_some}
use Rattle.written_laws.specs.Written.{Each}
use Rattle.written_laws.proofs.Shown.{each_append}
use Rattle.written_laws.proofs.Sets.{each_more}
use Rattle.elaboration_model.specs.Numbering.{Source, body_of}
use Rattle.within_laws.specs.Within.{AreDefinedFrom, BodyStands, StandWithin, IsItemWithin, AreItemsWithin, IsBodyWithin}
use Rattle.within_laws.proofs.Parts.{AreFlat, flat_both, flat_direct, ParamsSo, PartsSo, parts_first, parts_later}
use Rattle.within_laws.proofs.Walk.{IsPlain, some_plain, mode_plain, names_plain, Walk, defined_lower, defined_names, local_walk, statement_walk, handler_walk, whole_walk}

-- ---- parts that hold no others

seized_flat : (passed : Passed) → AreFlat true (part_nodes (seized passed))
seized_flat (Names ns) = by ns
  where
    by : (ns : List Name) → AreFlat true (part_nodes (map (λ n. seize (identifier n)) ns))
    by [] = tt
    by (n ∷ ns) = (tt, by ns)
seized_flat (All at) = (tt, tt)

granted_flat : (passed : Passed) → AreFlat true (part_nodes (granted passed))
granted_flat (Names ns) = by ns
  where
    by : (ns : List Name) → AreFlat true (part_nodes (map (λ n. grant (identifier n)) ns))
    by [] = tt
    by (n ∷ ns) = (tt, by ns)
granted_flat (All at) = (tt, tt)

receiver_flat : (n : Option Name) → AreFlat true (part_nodes (receiver_parts n))
receiver_flat None = tt
receiver_flat (Some n) = (tt, tt)

signals_flat : (ss : List SignalTree) → AreFlat true (part_nodes (flat_map signal_parts ss))
signals_flat [] = tt
signals_flat (s ∷ ss) = flat_both true (signal_parts s) (flat_map signal_parts ss) (tt, receiver_flat s.process) (signals_flat ss)

modes_plain : (ws : List written.ModeTree) → Each IsPlain (flat_map (elements_of None) ws)
modes_plain [] = tt
modes_plain (w ∷ ws) = each_append IsPlain (elements_of None w) (flat_map (elements_of None) ws) (mode_plain None w) (modes_plain ws)

abbrev origins_of_parts : Option (List written.ModeTree) → List Origin
origins_of_parts None = []
origins_of_parts (Some ws) = flat_map (elements_of None) ws

parts_plain : (ws : Option (List written.ModeTree)) → Each IsPlain (origins_of_parts ws)
parts_plain None = tt
parts_plain (Some ws) = modes_plain ws

signal_plain : (s : SignalTree) → Each IsPlain (origins_of_signal s)
signal_plain s = (tt, parts_plain s.parts)

signals_plain : (ss : List SignalTree) → Each IsPlain (flat_map origins_of_signal ss)
signals_plain [] = tt
signals_plain (s ∷ ss) = each_append IsPlain (origins_of_signal s) (flat_map origins_of_signal ss) (signal_plain s) (signals_plain ss)

params_plain : (ps : List ParamTree) → Each IsPlain (flat_map origins_of_param ps)
params_plain [] = tt
params_plain (p ∷ ps) = each_append IsPlain (origins_of_param p) (flat_map origins_of_param ps) (names_plain (length p.names) (a_parameter p.mode) (elements_of None p.mode) tt (mode_plain None p.mode)) (params_plain ps)

formals_plain : (ps : List FormalTree) → Each IsPlain (flat_map origins_of_formal ps)
formals_plain [] = tt
formals_plain (p ∷ ps) = each_append IsPlain (origins_of_formal p) (flat_map origins_of_formal ps) (names_plain (length p.names) (a_parameter p.mode) (elements_of None p.mode) tt (mode_plain None p.mode)) (formals_plain ps)

module _ (s : Source) where
  -- what is so of a body, where the number of its name is known
  abbrev pub BodySo : Origin → Type 0
  BodySo (a_procedure p) = (d : ℕ) → number_at s.known.defined p.name.at ≡ Some d → IsBodyWithin s d (a_procedure p)
  BodySo (a_process p) = (d : ℕ) → number_at s.known.defined p.name.at ≡ Some d → IsBodyWithin s d (a_process p)
  BodySo o = Unit {0}

  plain_so : (o : Origin) → IsPlain o → BodySo o
  plain_so (a_procedure p) plain = absurd plain
  plain_so (a_process p) plain = absurd plain
  plain_so o plain = tt

  all_plain : (os : List Origin) → Each IsPlain os → Each BodySo os
  all_plain os plain = each_more IsPlain BodySo plain_so os plain

  stand_within : (b from : ℕ) {os : List Origin} {ps : List PartTree} {ss : List Site} → Walk s os ps ss → PartsSo s b from (part_nodes ps) → StandWithin s b ss
  stand_within b from {os = os} {ps = ps} {ss = ss} m so = record { low = from; high = from + sizes_of (part_nodes ps); within = m.within b from so }

  defined_both : (b low middle high : ℕ) (ns ms : List Name) → AreDefinedFrom s b low ns middle → AreDefinedFrom s b middle ms high → AreDefinedFrom s b low (ns ++ ms) high
  defined_both b low middle high [] ms one other = defined_lower s b middle low ms high one other
  defined_both b low middle high (n ∷ ns) ms one other = (one.0, one.1, one.2, one.3, defined_both b (suc one.0) middle high ns ms one.4 other)

  defined_higher : (b low : ℕ) (ns : List Name) (high above : ℕ) → high ≤ above → AreDefinedFrom s b low ns high → AreDefinedFrom s b low ns above
  defined_higher b low [] high above less so = omega (arith, less, so)
  defined_higher b low (n ∷ ns) high above less so = (so.0, so.1, so.2, so.3, defined_higher b (suc so.0) ns high above less so.4)

  -- the parameters of a routine
  params_walk : {A : Type 0} (names : A → List Name) (mode : A → written.ModeTree) (b from : ℕ) (xs : List A) → ParamsSo s b from (map (λ x. clause kinds.Parameter (names x) (mentions_of_mode (mode x))) xs)
      → AreDefinedFrom s b from (flat_map names xs) (from + clauses_size (map (λ x. clause kinds.Parameter (names x) (mentions_of_mode (mode x))) xs))
  params_walk names mode b from [] so = omega arith
  params_walk names mode b from (x ∷ xs) so =
      let c = clause kinds.Parameter (names x) (mentions_of_mode (mode x)) in
      let rest = map (λ x. clause kinds.Parameter (names x) (mentions_of_mode (mode x))) xs in
      let long = length-map (names x) identifier in
      let first = defined_higher b from (names x) (from + length (names x)) (from + clause_size c) (omega (arith, long)) (defined_names s b from (names x) so.0) in
      let all = defined_both b from (from + clause_size c) ((from + clause_size c) + clauses_size rest) (names x) (flat_map names xs) first (params_walk names mode b (from + clause_size c) xs so.1) in
      defined_higher b from (names x ++ flat_map names xs) ((from + clause_size c) + clauses_size rest) (from + clauses_size (c ∷ rest)) (omega arith) all

  -- the parameters and the nodes of a routine
  body_stands : {A : Type 0} (names : A → List Name) (mode : A → written.ModeTree) (xs : List A) (result : List Mention) (from : ℕ) {os : List Origin} {ps : List PartTree} {ss : List Site} → Walk s os ps ss
      → ParamsSo s (body_of s.rows from) (suc from) (map (λ x. clause kinds.Parameter (names x) (mentions_of_mode (mode x))) xs)
      → PartsSo s (body_of s.rows from) (from + head_size (map (λ x. clause kinds.Parameter (names x) (mentions_of_mode (mode x))) xs) result) (part_nodes ps) → BodyStands s from (flat_map names xs) ss
  body_stands names mode xs result from {os = os} {ps = ps} {ss = ss} m params so =
      let cs = map (λ x. clause kinds.Parameter (names x) (mentions_of_mode (mode x))) xs in
      let b = body_of s.rows from in
      let start = from + head_size cs result in
      record {
        start = start;
        params_within = defined_higher b (suc from) (flat_map names xs) (suc from + clauses_size cs) start (omega arith) (params_walk names mode b (suc from) xs params);
        high = start + sizes_of (part_nodes ps);
        within = m.within b start so;
      }

  -- an item of a modulion, and what is in it
  record ItemWalk (i : ItemTree) : Type 0 where
    flat : AreFlat true (part_nodes (item_parts i))
    own : (from : ℕ) → PartsSo s 0 from (part_nodes (item_parts i)) → IsItemWithin s i
    bodies : (from : ℕ) → PartsSo s 0 from (part_nodes (item_parts i)) → Each BodySo (origins_of_item i)

  record ItemsWalk (is : ItemNodes) : Type 0 where
    flat : AreFlat true (part_nodes (each_item is))
    own : (from : ℕ) → PartsSo s 0 from (part_nodes (each_item is)) → AreItemsWithin s is
    bodies : (from : ℕ) → PartsSo s 0 from (part_nodes (each_item is)) → Each BodySo (origins_of_items is)

  procedure_walk : (p : ProcedureTree) → ItemWalk (procedure p)
  procedure_walk p =
      let m = whole_walk s (in_procedure p) p.body p.handler in
      let head = flat_map origins_of_param p.params ++ elements_of_some p.returns in
      record {
        flat = (m.flat, tt);
        own = λ from so. tt;
        bodies = λ from so. (
          (λ d at.
              let same = same_some from d (sym so.0.0 ∙ at) in
              subst (λ k. BodyStands s k (flat_map (λ (q : ParamTree). q.names) p.params) (sites_of_body (in_procedure p) p.body p.handler)) same
              (body_stands (λ (q : ParamTree). q.names) (λ q. q.mode) p.params (mentions_of_some_mode p.returns) from m so.0.1 so.0.2)),
          each_append BodySo head (origins_of_body p.body p.handler)
              (all_plain head (each_append IsPlain (flat_map origins_of_param p.params) (elements_of_some p.returns) (params_plain p.params) (some_plain p.returns))) (all_plain (origins_of_body p.body p.handler) m.plain),
        );
      }

  process_walk : (p : ProcessTree) → ItemWalk (process p)
  process_walk p =
      let m = whole_walk s in_no_procedure p.body p.handler in
      let head = flat_map origins_of_formal p.formals in
      record {
        flat = (m.flat, tt);
        own = λ from so. tt;
        bodies = λ from so. (
          (λ d at.
              let same = same_some from d (sym so.0.0 ∙ at) in
              subst (λ k. BodyStands s k (flat_map (λ (q : FormalTree). q.names) p.formals) (sites_of_body in_no_procedure p.body p.handler)) same
              (body_stands (λ (q : FormalTree). q.names) (λ q. q.mode) p.formals [] from m so.0.1 so.0.2)),
          each_append BodySo head (origins_of_body p.body p.handler) (all_plain head (formals_plain p.formals)) (all_plain (origins_of_body p.body p.handler) m.plain),
        );
      }

  mutual
    item_walk : (i : ItemTree) → ItemWalk i
    item_walk (seize_item at passed) = record { flat = seized_flat passed; own = λ from so. tt; bodies = λ from so. tt }
    item_walk (grant_item at passed) = record { flat = granted_flat passed; own = λ from so. tt; bodies = λ from so. tt }
    item_walk (local_item l) =
        let m = local_walk s true l in
        record { flat = flat_direct (part_nodes (item_parts (local_item l))) m.flat; own = λ from so. stand_within 0 from m so; bodies = λ from so. all_plain (origins_of_item (local_item l)) m.plain }
    item_walk (signals at ss) = record { flat = signals_flat ss; own = λ from so. tt; bodies = λ from so. all_plain (flat_map origins_of_signal ss) (signals_plain ss) }
    item_walk (procedure p) = procedure_walk p
    item_walk (process p) = process_walk p
    item_walk (action x) =
        let m = statement_walk s x in_no_procedure [] in
        record { flat = flat_direct (part_nodes (item_parts (action x))) m.flat; own = λ from so. stand_within 0 from m so; bodies = λ from so. all_plain (origins_of_item (action x)) m.plain }
    item_walk (modulion_of n kind items h closing) =
        let all = items_walk items in
        let m = handler_walk s (handler_node h) in_no_procedure [] in
        let ps = each_item items in
        let qs = handler_parts [] (handler_node h) in
        record {
          flat = (flat_both true ps qs all.flat (flat_direct (part_nodes qs) m.flat), tt);
          own = λ from so. (all.own (suc from) (parts_first s 0 (suc from) ps qs so.0), stand_within 0 _ m (parts_later s 0 (suc from) ps qs so.0));
          bodies = λ from so. (tt, each_append BodySo (origins_of_items items) (origins_in_handler (handler_node h)) (all.bodies (suc from) (parts_first s 0 (suc from) ps qs so.0)) (all_plain (origins_in_handler (handler_node h)) m.plain));
        }

    items_walk : (is : ItemNodes) → ItemsWalk is
    items_walk no_items = record { flat = tt; own = λ from so. tt; bodies = λ from so. tt }
    items_walk (more_items i is) =
        let one = item_walk i in
        let rest = items_walk is in
        let ps = item_parts i in
        let qs = each_item is in
        record {
          flat = flat_both true ps qs one.flat rest.flat;
          own = λ from so. (one.own from (parts_first s 0 from ps qs so), rest.own (from + sizes_of (part_nodes ps)) (parts_later s 0 from ps qs so));
          bodies = λ from so. each_append BodySo (origins_of_item i) (origins_of_items is) (one.bodies from (parts_first s 0 from ps qs so)) (rest.bodies (from + sizes_of (part_nodes ps)) (parts_later s 0 from ps qs so));
        }

  -- the modulions of a text
  pub record TextWalk (ms : List ModulionTree) : Type 0 where
    pub flat : AreFlat true (part_nodes (flat_map (λ m. item_parts (modulion_item m)) ms))
    pub own : (from : ℕ) → PartsSo s 0 from (part_nodes (flat_map (λ m. item_parts (modulion_item m)) ms)) → Each (IsItemWithin s) (map modulion_item ms)
    pub bodies : (from : ℕ) → PartsSo s 0 from (part_nodes (flat_map (λ m. item_parts (modulion_item m)) ms)) → Each BodySo (flat_map (λ m. origins_of_item (modulion_item m)) ms)

  pub text_walk : (ms : List ModulionTree) → TextWalk ms
  text_walk [] = record { flat = tt; own = λ from so. tt; bodies = λ from so. tt }
  text_walk (m ∷ ms) =
      let one = item_walk (modulion_item m) in
      let rest = text_walk ms in
      let ps = item_parts (modulion_item m) in
      let qs = flat_map (λ m. item_parts (modulion_item m)) ms in
      record {
        flat = flat_both true ps qs one.flat rest.flat;
        own = λ from so. (one.own from (parts_first s 0 from ps qs so), rest.own (from + sizes_of (part_nodes ps)) (parts_later s 0 from ps qs so));
        bodies = λ from so.
            each_append BodySo (origins_of_item (modulion_item m)) (flat_map (λ m. origins_of_item (modulion_item m)) ms) (one.bodies from (parts_first s 0 from ps qs so))
            (rest.bodies (from + sizes_of (part_nodes ps)) (parts_later s 0 from ps qs so));
      }
