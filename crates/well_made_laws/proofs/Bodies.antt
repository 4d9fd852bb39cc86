-- The bodies of an elaborated program are well made.
use Rattle.std.proofs.Common.{◌≡◌, ℕ, zero, suc, Bool, true, false, List, [], ◌∷◌, ◌++◌, length, length-append, Option, Some, None, Contains, refl, sym, ap, ◌∙◌, subst, arith, true≢false}
use Rattle.std.specs.Prelude.{not, if◌then◌else◌, map, flat_map, slice_get, option_map, option_and_then}
use Rattle.std.specs.List.{list_any}
use Rattle.std.proofs.lemmas.List.{length-map}
use Rattle.chill_tree.specs.declared.tree.name.Name.{Name}
use Rattle.chill_tree.specs.declared.tree.item.ModulionKind.{ModulionKind}
use Rattle.chill_tree.specs.ExprTree.{ExprTree, place_of}
use Rattle.chill_tree.specs.SimpleTree.{ControlTree, while_holds, for_ever, for_members, for_steps}
use Rattle.chill_tree.specs.StatementTree.{BodyTree, HandlerTree, body_nodes, handler_node}
use Rattle.chill_tree.specs.ItemTree.{ParamTree, FormalTree, ItemTree, ItemNodes, seize, grant, local_item, signals, procedure, process, modulion, action, no_items, more_items, items_in, ProgramTree, ModulionTree, modulion_item}
use Rattle.modes.specs.Form.{form_of}
use Rattle.modes.specs.ModeTree.{ModeTree}
use Rattle.diagnostics.specs.declared.rule.Rule.TheVariants as rules
use Rattle.names_model.specs.Definitions.{text_definitions}
use Rattle.names_model.specs.ItemParts.{is_region}
use Rattle.names_model.specs.Resolving.{level_of}
use Rattle.program_trees.specs.StatementTree as done
use Rattle.program_trees.specs.ProgramTree.{BodyRowTree, CheckedTree}
use Rattle.checks_model.specs.Alike.{is_instance}
use Rattle.checks_model.specs.Ground.{Ground, Origin, a_counter, a_procedure, a_process, number_at}
use Rattle.checks_model.specs.Origins.{text_origins}
use Rattle.checks_model.specs.Told.{tell_at, told_if, holds_of, holds_of_both}
use Rattle.checks_model.specs.ValueRules.{condition, selector, bound, set_of_members, nothing_asked, of_mode, place, is_free, told_value, told_some_value}
use Rattle.checks_model.specs.ActionRules.{bounds_misfit, clean, counter_of_both, step_misfits, told_step, told_control}
use Rattle.checks_model.specs.ProcessRules.{takes_instance, told_set}
use Rattle.checks_model.specs.Phases.{exprs_of_mode, initial_expr, declared_mode, told_alone, told_met, returning_of}
use Rattle.checks_model.specs.Sites.{Site, Around as Place, in_procedure, in_no_procedure, at_declaration, at_simple, at_condition, at_selector, at_control, at_set, counter_in, sites_of, sites_of_parts, sites_of_handler, sites_of_body, sites_of_item, sites_of_items, items_of, sites}
use Rattle.checks_model.specs.Diagnoses.{BreaksNoRule}
use Rattle.written_laws.specs.Written.{Each}
use Rattle.written_laws.proofs.Shown.{each_flat}
use Rattle.written_laws.proofs.Sets.{each_more}
use Rattle.written_laws.proofs.WrittenSo.{each_pair, each_there}
use Rattle.elaborated_laws.proofs.Told.{none_first, none_later, none_inside, none_then, not_broken, not_true, both_right, of_both, same_some, there_mapped, there_chained}
use Rattle.elaboration_model.specs.Parts.{made_of}
use Rattle.elaboration_model.specs.Numbering.{Source, Row, has_body, count_before, body_of, thing_of, thing_defined, region_number}
use Rattle.elaboration_model.specs.Statements.{in_body, statement, body, handled, declarations, before}
use Rattle.elaboration_model.specs.Modulions.{has_value, region_action, modulion_action, item_before, items_done, modulions_done}
use Rattle.elaboration_model.specs.Elaborated.{rows_made, locals_of, listed_by, result_of, inside_of, parameters_of, passed_in, outermost_body, process_body, procedure_body, procedure_made, body_as, outermost, source_of, elaborated}
use Rattle.expression_laws.specs.Names.{AllNamesKnown}
use Rattle.expression_laws.specs.Statements.{IsNodeClean}
use Rattle.expression_laws.proofs.Actions.{each_first, each_later}
use Rattle.expression_laws.proofs.Exits.{exits_there}
use Rattle.expression_laws.proofs.Nodes.{nodes_there}
use Rattle.expression_laws.proofs.Outside.{row_parts}
use Rattle.expression_laws.proofs.Text.{of_member}
use Rattle.program_laws.proofs.Rows.{IsDefinedAs, SiteSo, ParamSo, FormalSo}
use Rattle.program_laws.proofs.Defined.{names_list, defined_in, origin_so, sites_so}
use Rattle.program_laws.proofs.Grounds.{all_names_known}
use Rattle.program_laws.proofs.Nodes.{all_clean}
use Rattle.head_laws.proofs.Rows.{MadeOf, made_parts, three_parts, each_row}
use Rattle.head_laws.proofs.Heads.{FiveParts, five_parts}
use Rattle.code_laws.specs.Counters.{statements_keep, statement_keeps, handler_keeps, action_keeps}
use Rattle.code_laws.specs.Bodies.{DeclareBehind}
use Rattle.code_laws.specs.Talk.{IsWellMade}
use Rattle.within_laws.specs.Within.{IsOfBody, AreDefinedFrom, AreSitesWithin, BodyStands, IsItemWithin, AreItemsWithin, names_defined}
use Rattle.within_laws.proofs.Text.{text_within}
use Rattle.well_made_laws.specs.WellMade.{WellMadeLaw}
use Rattle.well_made_laws.proofs.Free.{value_free}
use Rattle.well_made_laws.proofs.Actions.{SomeFree, located_free, some_free, action_free}
use Rattle.well_made_laws.proofs.Statements.{ControlFree, CounterIs, SiteFree, SiteGood, rises_first, rises_later, rises_within}
use Rattle.well_made_laws.proofs.Keeps.{local_kept, statement_kept, handler_kept, body_kept, body_behind, none_before}
use Rattle.well_made_laws.proofs.Parameters.{IsParameter, sites_behind, parameter_local}

-- ---- nodes of which nothing is told

-- a counter is defined by its loop
abbrev CountersSo : Source → ControlTree → Type 0
CountersSo s c = Each (λ n. (d : ℕ) → number_at s.known.defined n.at ≡ Some d → slice_get s.known.origins d ≡ Some (a_counter c)) (counter_in c)

abbrev Ready : Source → Site → Type 0
Ready s (at_control c) = ControlFree s 0 c × CountersSo s c
Ready s n = SiteFree s 0 n

module _ (s : Source) where
  counters_are : (b low : ℕ) (c : ControlTree) (ns : List Name) (high : ℕ) → Each (λ n. (d : ℕ) → number_at s.known.defined n.at ≡ Some d → slice_get s.known.origins d ≡ Some (a_counter c)) ns → AreDefinedFrom s b low ns high → Each (CounterIs s b c) ns
  counters_are b low c [] high so defined = tt
  counters_are b low c (n ∷ ns) high so defined = (
    (λ d at. (subst (λ x. IsOfBody b (thing_of s.rows x)) (same_some defined.0 d (sym defined.2 ∙ at)) defined.3, so.0 d at)),
    counters_are b (suc defined.0) c ns high so.1 defined.4,
  )

  site_free : (b low high : ℕ) (n : Site) → Ready s n → AreDefinedFrom s b low (names_defined n) high → SiteFree s b n
  site_free b low high (at_control c) ready defined = (ready.0, counters_are b low c (counter_in c) high ready.1 defined)
  site_free b low high n ready defined = ready

  good_sites : (b low : ℕ) (ss : List Site) (high : ℕ) → AreSitesWithin s b low ss high → Each (Ready s) ss → Each (SiteGood s b) ss
  good_sites b low [] high within ready = tt
  good_sites b low (n ∷ ss) high within ready = (record { free = site_free b low within.1.0 n ready.0 within.1.1; own = within.0 }, good_sites b within.1.0 ss high within.1.2 ready.1)

  module _ (known : AllNamesKnown s) where
    step_free : (m : Option ModeTree) (e : Option ExprTree) → told_step s.known m e ≡ [] → SomeFree s e
    step_free m None none = tt
    step_free m (Some e) none = value_free s known nothing_asked e (none_inside (told_value s.known nothing_asked e) (told_if (step_misfits s.known m e) (tell_at rules.S8 (place_of e))) none)

    control_free : (c : ControlTree) → told_control s.known c ≡ [] → ControlFree s 0 c
    control_free (while_holds at c) none = value_free s known condition c none
    control_free (for_ever at) none = tt
    control_free (for_members at n x c) none =
        let first = told_value s.known set_of_members x in
        let later = told_some_value s.known condition c in
        (value_free s known set_of_members x (none_first first later none), some_free s known condition c (none_later first later none))
    control_free (for_steps at n x step down to c) none =
        let first = told_value s.known bound x in
        let second = told_value s.known bound to in
        let third = told_if (holds_of_both bounds_misfit (clean s.known x) (clean s.known to)) (tell_at rules.S8 (place_of to)) in
        let fourth = told_step s.known (counter_of_both (clean s.known x) (clean s.known to)) step in
        let fifth = told_some_value s.known condition c in
        let front = none_first (((first ++ second) ++ third) ++ fourth) fifth none in
        let three = none_first ((first ++ second) ++ third) fourth front in
        let two = none_first (first ++ second) third three in (
          value_free s known bound x (none_first first second two),
          step_free (counter_of_both (clean s.known x) (clean s.known to)) step (none_later ((first ++ second) ++ third) fourth front),
          value_free s known bound to (none_later first second two),
          some_free s known condition c (none_later (((first ++ second) ++ third) ++ fourth) fifth none),
        )

    site_ready : (n : Site) → IsNodeClean s n → ((c : ControlTree) → n ≡ at_control c → CountersSo s c) → Ready s n
    site_ready (at_declaration shared d) node counters =
        some_free s known (of_mode (declared_mode s.known d.names)) (initial_expr d.initial)
        (none_later (flat_map (told_alone s.known) (exprs_of_mode d.mode)) (told_some_value s.known (of_mode (declared_mode s.known d.names)) (initial_expr d.initial)) node.statements)
    site_ready (at_simple a act) node counters = action_free s known (returning_of s.known a) act node.statements
    site_ready (at_condition e) node counters = value_free s known condition e node.statements
    site_ready (at_selector e) node counters = value_free s known selector e node.statements
    site_ready (at_control c) node counters = (control_free c node.statements, counters c refl)
    site_ready (at_set e) node counters =
        let wrong = not (takes_instance (place s.known e)) in
        let taken = not_true (takes_instance (place s.known e)) (not_broken wrong (tell_at rules.P7 (place_of e)) (none_then (told_met s.known e) (told_set s.known e) node.processes)) in
        located_free s e (both_right (holds_of (λ m. is_instance (form_of m)) (place s.known e).mode) (is_free (place s.known e).access) taken) known node.statements
    site_ready n node counters = tt

-- ---- the text

module _ (text : List ℕ) (t : ProgramTree) (h : Ground) (has : BreaksNoRule text t h) where
  abbrev s : Source
  s = source_of h t

  abbrev So : Site → Type 0
  So n = SiteSo (text_origins t) (names_list text t h has) n

  counter_so : (c : ControlTree) (n : Name) → IsDefinedAs (text_origins t) (names_list text t h has) n (a_counter c) → (d : ℕ) → number_at h.defined n.at ≡ Some d → slice_get h.origins d ≡ Some (a_counter c)
  counter_so c n defined d at =
      let k = defined_in text t h has n (a_counter c) defined in
      subst (λ x. slice_get h.origins x ≡ Some (a_counter c)) (same_some k.number d (sym k.at ∙ at)) k.origin

  counters_so : (c : ControlTree) → So (at_control c) → CountersSo s c
  counters_so c so =
      each_more (λ n. IsDefinedAs (text_origins t) (names_list text t h has) n (a_counter c)) (λ n. (d : ℕ) → number_at h.defined n.at ≡ Some d → slice_get h.origins d ≡ Some (a_counter c)) (counter_so c) (counter_in c) so

  inner_ready : Each (Ready s) (flat_map sites_of_item (items_of t))
  inner_ready =
      each_pair (IsNodeClean s) So (Ready s) (λ n node so. site_ready s (all_names_known text t h has) n node (λ c is. counters_so c (subst So is so))) (flat_map sites_of_item (items_of t)) (all_clean text t h has).1.1 (sites_so text t h has)

  all_ready : Each (Ready s) (sites t)
  all_ready = (tt, (tt, inner_ready))

  of_nodes : (ss : List Site) → Each (λ n. Contains (sites t) n) ss → Each (Ready s) ss
  of_nodes ss inside = each_more (λ n. Contains (sites t) n) (Ready s) (λ n c. of_member (Ready s) (sites t) n all_ready c) ss inside

  -- ---- bodies

  record InsideWell (n : ℕ) (z : done.StatementNodes × done.HandlerNode) : Type 0 where
    statements : statements_keep z.0 ≡ true
    handler : handler_keeps z.1 ≡ true
    behind : DeclareBehind n z.0

  inside_well : (d : ℕ) (params : List Name) (result : Option ModeTree) (place : Place) (ps : List BodyTree) (k : Option HandlerTree) (z : done.StatementNodes × done.HandlerNode) → BodyStands s d params (sites_of_body place ps k) → Each (Ready s) (sites_of_body place ps k)
      → Each (IsParameter s (body_of s.rows d)) params → inside_of s result ps k ≡ Some z → InsideWell (length params) z
  inside_well d params result place ps k z stands ready parameters is =
      let b = body_of s.rows d in
      let m = made_parts (λ ss hs. (ss, hs)) (body s (in_body result) (body_nodes ps)) (handled s (in_body result) (handler_node k)) z is in
      let first = sites_of_parts place (body_nodes ps) in
      let later = sites_of_handler place (handler_node k) in
      let good = good_sites s b stands.start (first ++ later) stands.high stands.within ready in
      let rise = rises_within s b stands.start (first ++ later) stands.high stands.within in
      let behind = sites_behind s b (suc d) params stands.start stands.start (first ++ later) stands.high stands.params_within parameters (omega arith) stands.within in
      subst (InsideWell (length params)) m.whole
      (record {
        statements = body_kept s b (in_body result) place (body_nodes ps) m.first m.of_first (each_first (SiteGood s b) first later good) (rises_first s b first later rise);
        handler = handler_kept s b (in_body result) place (handler_node k) m.later m.of_later (each_later (SiteGood s b) first later good) (rises_later s b first later rise);
        behind = body_behind s (length params) (in_body result) place (body_nodes ps) m.first m.of_first (each_first _ first later behind);
      })

  parameters_long : (ps : List ParamTree) → length (flat_map (λ (q : ParamTree). q.names) ps) ≡ length (flat_map parameters_of ps)
  parameters_long [] = refl
  parameters_long (p ∷ ps) =
      let one = length-append p.names (flat_map (λ (q : ParamTree). q.names) ps) in
      let other = length-append (parameters_of p) (flat_map parameters_of ps) in
      let own : length (parameters_of p) ≡ length p.names = length-map p.names _ in
      let rest = parameters_long ps in
      omega (arith, one, other, own, rest)

  formals_long : (ps : List FormalTree) → length (flat_map (λ (q : FormalTree). q.names) ps) ≡ length (flat_map (λ (q : FormalTree). passed_in q.names) ps)
  formals_long [] = refl
  formals_long (p ∷ ps) =
      let one = length-append p.names (flat_map (λ (q : FormalTree). q.names) ps) in
      let other = length-append (passed_in p.names) (flat_map (λ (q : FormalTree). passed_in q.names) ps) in
      let own : length (passed_in p.names) ≡ length p.names = length-map p.names _ in
      let rest = formals_long ps in
      omega (arith, one, other, own, rest)

  params_local : (b : ℕ) (ps : List ParamTree) → Each (ParamSo (text_origins t) (names_list text t h has)) ps → Each (IsParameter s b) (flat_map (λ (q : ParamTree). q.names) ps)
  params_local b ps so =
      each_flat (ParamSo (text_origins t) (names_list text t h has)) (IsParameter s b) (λ (q : ParamTree). q.names)
      (λ q own. each_more (λ n. IsDefinedAs (text_origins t) (names_list text t h has) n _) (IsParameter s b) (λ n at. parameter_local text t h has b q.mode n at) q.names own) ps so

  formals_local : (b : ℕ) (ps : List FormalTree) → Each (FormalSo (text_origins t) (names_list text t h has)) ps → Each (IsParameter s b) (flat_map (λ (q : FormalTree). q.names) ps)
  formals_local b ps so =
      each_flat (FormalSo (text_origins t) (names_list text t h has)) (IsParameter s b) (λ (q : FormalTree). q.names)
      (λ q own. each_more (λ n. IsDefinedAs (text_origins t) (names_list text t h has) n _) (IsParameter s b) (λ n at. parameter_local text t h has b q.mode n at) q.names own) ps so

  body_made : (d : ℕ) (r : Row) (b : BodyRowTree) → slice_get s.rows d ≡ Some r → has_body r.origin ≡ true → body_as s d r r.origin ≡ Some b → IsWellMade b
  body_made d r b at holds is = by r.origin (row_parts (text_definitions (level_of t)) h.origins h.entries d r at).origin holds is
    where
      by : (o : Origin) → slice_get h.origins d ≡ Some o → has_body o ≡ true → body_as s d r o ≡ Some b → IsWellMade b
      by (a_process q) origin holds is =
          let names = has.has_modes.has_names in
          let m = made_parts (process_body d r q) (locals_of s (suc (count_before (λ r. has_body r.origin) d s.rows))) (inside_of s None q.body q.handler) b is in
          let here = sym (ap (λ (y : Ground). slice_get y.origins d) has.is_ground.names) ∙ origin in
          let nodes = nodes_there t (exits_there text t names) d (a_process q) here in
          let stands = (text_within text t h names has.is_ground.names).bodies d (a_process q) origin in
          let inside = inside_well d (flat_map (λ (f : FormalTree). f.names) q.formals) None in_no_procedure q.body q.handler m.later stands (of_nodes (sites_of_body in_no_procedure q.body q.handler) nodes.1) (formals_local (body_of s.rows d) q.formals (origin_so text t h has d (a_process q) origin)) m.of_later in
          subst IsWellMade m.whole (record { counters = record { statements = inside.statements; handler = inside.handler }; declared = subst (λ n. DeclareBehind n m.later.0) (formals_long q.formals) inside.behind })
      by (a_procedure q) origin holds is =
          let names = has.has_modes.has_names in
          let number = suc (count_before (λ r. has_body r.origin) d s.rows) in
          let result = there_chained (procedure_made s d r q) (result_of s q) b is in
          let m = three_parts (procedure_body s d r q result.0) (listed_by s q.exceptions) (locals_of s number) (inside_of s result.0 q.body q.handler) b result.2 in
          let here = sym (ap (λ (y : Ground). slice_get y.origins d) has.is_ground.names) ∙ origin in
          let nodes = nodes_there t (exits_there text t names) d (a_procedure q) here in
          let stands = (text_within text t h names has.is_ground.names).bodies d (a_procedure q) origin in
          let inside = inside_well d (flat_map (λ (f : ParamTree). f.names) q.params) result.0 (in_procedure q) q.body q.handler m.later stands (of_nodes (sites_of_body (in_procedure q) q.body q.handler) nodes.1.1) (params_local (body_of s.rows d) q.params (origin_so text t h has d (a_procedure q) origin).1) m.of_later in
          subst IsWellMade m.whole (record { counters = record { statements = inside.statements; handler = inside.handler }; declared = subst (λ n. DeclareBehind n m.later.0) (parameters_long q.params) inside.behind })
      by o origin holds is = absurd (true≢false (sym holds))

  -- ---- what modulions do

  modulion_kept : (n : Name) (kind : ModulionKind) (inner : ItemNodes) (ss : done.StatementNodes) (z : done.ActionTree) → modulion_action s n kind inner ss ≡ Some z → statements_keep ss ≡ true → action_keeps z ≡ true
  modulion_kept n kind inner ss z is kept = by (is_region kind) is
    where
      by_value : (valued : Bool) (k : ℕ) → action_keeps (region_action valued k ss) ≡ true
      by_value true k = kept
      by_value false k = refl

      by : (b : Bool) → (if b then option_map (λ k. region_action (list_any has_value (items_in inner)) k ss) (option_and_then region_number (thing_defined s n)) else Some (done.module_at ss)) ≡ Some z → action_keeps z ≡ true
      by true is =
          let there = there_mapped (λ k. region_action (list_any has_value (items_in inner)) k ss) (option_and_then region_number (thing_defined s n)) z is in
          subst (λ y. action_keeps y ≡ true) there.2 (by_value (list_any has_value (items_in inner)) there.0)
      by false is = subst (λ y. action_keeps y ≡ true) (same_some (done.module_at ss) z is) kept

  mutual
    item_kept : (i : ItemTree) (rest : Option done.StatementNodes) (z : done.StatementNodes) → item_before s i rest ≡ Some z → IsItemWithin s i → Each (Ready s) (sites_of_item i) → ((ys : done.StatementNodes) → rest ≡ Some ys → statements_keep ys ≡ true) → statements_keep z ≡ true
    item_kept (local_item l) rest z is within ready behind =
        let m = made_parts before (declarations s l) rest z is in
        subst (λ y. statements_keep y ≡ true) m.whole (local_kept s 0 l m.first m.later m.of_first (behind m.later m.of_later))
    item_kept (action x) rest z is within ready behind =
        let m = made_parts done.more_statements (statement s (in_body None) x) rest z is in
        let ss = sites_of in_no_procedure x in
        let one = statement_kept s 0 (in_body None) in_no_procedure x m.first m.of_first (good_sites s 0 within.low ss within.high within.within ready) (rises_within s 0 within.low ss within.high within.within) in
        subst (λ y. statements_keep y ≡ true) m.whole (of_both (statement_keeps m.first) (statements_keep m.later) one (behind m.later m.of_later))
    item_kept (modulion n kind inner k closing) rest z is within ready behind =
        let act = option_and_then (modulion_action s n kind inner) (items_done s inner) in
        let m = made_parts done.more_statements (made_of (done.statement false) act (handled s (in_body None) (handler_node k))) rest z is in
        let j = made_parts (done.statement false) act (handled s (in_body None) (handler_node k)) m.first m.of_first in
        let there = there_chained (modulion_action s n kind inner) (items_done s inner) j.first j.of_first in
        let first = sites_of_items kind inner inner in
        let later = sites_of_handler in_no_procedure (handler_node k) in
        let inside = items_kept kind inner inner there.0 there.1 within.0 (each_first (Ready s) first later ready) in
        let own = within.1 in
        let other = handler_kept s 0 (in_body None) in_no_procedure (handler_node k) j.later j.of_later (good_sites s 0 own.low later own.high own.within (each_later (Ready s) first later ready)) (rises_within s 0 own.low later own.high own.within) in
        let one : statement_keeps m.first ≡ true = subst (λ y. statement_keeps y ≡ true) j.whole (of_both (action_keeps j.first) (handler_keeps j.later) (modulion_kept n kind inner there.0 j.first there.2 inside) other) in
        subst (λ y. statements_keep y ≡ true) m.whole (of_both (statement_keeps m.first) (statements_keep m.later) one (behind m.later m.of_later))
    item_kept (seize at passed) rest z is within ready behind = behind z is
    item_kept (grant at passed) rest z is within ready behind = behind z is
    item_kept (signals at ss) rest z is within ready behind = behind z is
    item_kept (procedure q) rest z is within ready behind = behind z is
    item_kept (process q) rest z is within ready behind = behind z is

    items_kept : (kind : ModulionKind) (all is : ItemNodes) (z : done.StatementNodes) → items_done s is ≡ Some z → AreItemsWithin s is → Each (Ready s) (sites_of_items kind all is) → statements_keep z ≡ true
    items_kept kind all no_items z made within ready = subst (λ y. statements_keep y ≡ true) (same_some done.no_statements z made) refl
    items_kept kind all (more_items i is) z made within ready =
        let first = sites_of_item i in
        let later = sites_of_items kind all is in
        item_kept i (items_done s is) z made within.0 (each_first (Ready s) first later ready.1) (λ ys there. items_kept kind all is ys there within.1 (each_later (Ready s) first later ready.1))

  modulions_kept : (ms : List ModulionTree) (z : done.StatementNodes) → modulions_done s (map modulion_item ms) ≡ Some z → Each (IsItemWithin s) (map modulion_item ms) → Each (Ready s) (flat_map sites_of_item (map modulion_item ms)) → statements_keep z ≡ true
  modulions_kept [] z is within ready = subst (λ y. statements_keep y ≡ true) (same_some done.no_statements z is) refl
  modulions_kept (m ∷ ms) z is within ready =
      let first = sites_of_item (modulion_item m) in
      let later = flat_map sites_of_item (map modulion_item ms) in
      item_kept (modulion_item m) (modulions_done s (map modulion_item ms)) z is within.0 (each_first (Ready s) first later ready) (λ ys there. modulions_kept ms ys there within.1 (each_later (Ready s) first later ready))

  outermost_made : (b : BodyRowTree) → outermost s t ≡ Some b → IsWellMade b
  outermost_made b is =
      let m = made_parts outermost_body (locals_of s 0) (modulions_done s (items_of t)) b is in
      let kept = modulions_kept t.modulions m.later m.of_later (text_within text t h has.has_modes.has_names has.is_ground.names).items inner_ready in
      subst IsWellMade m.whole (record { counters = record { statements = kept; handler = refl }; declared = none_before m.later })

  -- ---- the program

  module _ (p : CheckedTree) (made : elaborated h t ≡ Some p) where
    parts : FiveParts s t p
    parts = five_parts s t p made

    all_bodies : MadeOf (λ b bs. b ∷ bs) (outermost s t) (rows_made (λ d r. body_as s d r r.origin) (λ r. has_body r.origin) 0 s.rows) p.bodies
    all_bodies = made_parts (λ b bs. b ∷ bs) (outermost s t) (rows_made (λ d r. body_as s d r r.origin) (λ r. has_body r.origin) 0 s.rows) p.bodies parts.of_bodies

    later_bodies : Each IsWellMade all_bodies.later
    later_bodies = each_row IsWellMade (λ d r. body_as s d r r.origin) (λ r. has_body r.origin) s.rows all_bodies.later all_bodies.of_later body_made

    by_number : (k : ℕ) (b : BodyRowTree) → slice_get (all_bodies.first ∷ all_bodies.later) k ≡ Some b → IsWellMade b
    by_number zero b at = subst IsWellMade (same_some all_bodies.first b at) (outermost_made all_bodies.first all_bodies.of_first)
    by_number (suc n) b at = each_there IsWellMade all_bodies.later n b later_bodies at

    pub well_made : (k : ℕ) (b : BodyRowTree) → slice_get p.bodies k ≡ Some b → IsWellMade b
    well_made k b at = by_number k b (ap (λ bs. slice_get bs k) all_bodies.whole ∙ at)

pub bodies_well_made : WellMadeLaw
bodies_well_made text t g p has made k b at = well_made text t g has p made k b at
