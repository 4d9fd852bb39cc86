-- The elaborated program of a text that breaks no rule is typed.
use Rattle.std.proofs.Common.{◌≡◌, ◌<◌, ℕ, zero, suc, Bool, true, false, List, [], ◌∷◌, Option, Some, None, Contains, refl, sym, ap, ◌∙◌, subst, true≢false}
use Rattle.std.specs.Prelude.{All, is_some, flat_map, slice_get, option_map, option_and_then, if◌then◌else◌}
use Rattle.std.specs.List.{list_any}
use Rattle.chill_tree.specs.declared.tree.name.Name.{Name}
use Rattle.chill_tree.specs.declared.tree.item.ModulionKind.{ModulionKind}
use Rattle.chill_tree.specs.declared.tree.item.ModulionKind.TheVariants as modulions
use Rattle.chill_tree.specs.StatementTree.{HandlerTree, handler_node, body_nodes}
use Rattle.chill_tree.specs.ItemTree.{ProcedureTree, ProcessTree, ItemTree, ItemNodes, seize, grant, local_item, signals, procedure, process, modulion, action, no_items, more_items, items_in, ProgramTree}
use Rattle.modes.specs.ModeTree.{ModeTree}
use Rattle.layout_map.specs.Spots.{spots_of}
use Rattle.layout_map.specs.Outcome.{outcome_of, spots}
use Rattle.names_model.specs.Definitions.{text_definitions}
use Rattle.names_model.specs.ItemParts.{is_region}
use Rattle.names_model.specs.Resolving.{level_of}
use Rattle.checked_program.specs.declared.program.Sort.TheVariants as sorts
use Rattle.program_trees.specs.StatementTree as done
use Rattle.program_trees.specs.ProgramTree.{CheckedTree, LocalRowTree, BodyRowTree}
use Rattle.checks_model.specs.Ground.{Ground, Origin, a_synonym, a_procedure, a_process, a_modulion, number_at}
use Rattle.checks_model.specs.ActionRules.{Returning, no_value, a_value}
use Rattle.checks_model.specs.Phases.{returning_of}
use Rattle.checks_model.specs.ProcessRules.{for_messages, told_misfit, told_listed, told_item}
use Rattle.checks_model.specs.Origins.{text_origins, origins_of}
use Rattle.checks_model.specs.Diagnoses.{BreaksNoRule}
use Rattle.checks_model.specs.Sites as sites
use Rattle.checks_model.specs.Sites.{Site, in_procedure, in_no_procedure, at_item, at_synonym, at_source, at_body, at_program, outermost_locals, shared_in, sites_of_local, sites_of, sites_of_handler, sites_of_parts, sites_of_body, sites_of_item, sites_of_items, items_of}
use Rattle.byte_laws.specs.Bytes as bytes_of
use Rattle.byte_laws.specs.Bytes.{IsByte}
use Rattle.byte_laws.proofs.Items.{tree_bytes}
use Rattle.written_laws.specs.Written.{Each}
use Rattle.written_laws.proofs.Sets.{each_more}
use Rattle.written_laws.proofs.WrittenSo.{each_there}
use Rattle.elaborated_laws.specs.Rows.{LeadsTo}
use Rattle.elaborated_laws.proofs.Rows.{leads}
use Rattle.elaborated_laws.proofs.Told.{no_some, same_some, there_mapped, there_chained, none_first}
use Rattle.elaboration_model.specs.Numbering.{Source, Row, has_body, body_of, body_by, body_number, count_before, Thing, a_region, thing_of, thing_defined, region_number}
use Rattle.elaboration_model.specs.Parts.{made_of}
use Rattle.elaboration_model.specs.Elaborated.{region_in, locals_of, result_of, listed_by, inside_of, outermost_body, process_body, procedure_body, procedure_made, body_as, outermost, rows_made, source_of, elaborated}
use Rattle.elaboration_model.specs.Expressions.{mode_defined}
use Rattle.elaboration_model.specs.Statements.{in_body, statement, handled, declarations, before}
use Rattle.elaboration_model.specs.Modulions.{has_value, region_action, modulion_action, item_before, items_done, modulions_done}
use Rattle.expression_laws.specs.Names.{IsPlace}
use Rattle.expression_laws.specs.Statements.{IsNodeClean, IsAround}
use Rattle.expression_laws.proofs.Text.{of_member}
use Rattle.expression_laws.proofs.Exits.{exits_there}
use Rattle.expression_laws.proofs.Nodes.{nodes_there}
use Rattle.constant_laws.specs.Constants.{IsNameFit}
use Rattle.constant_laws.specs.Text.{SynonymsHaveBytes}
use Rattle.constant_laws.proofs.Names.{text_names_fit}
use Rattle.program_laws.proofs.Rows.{IsDefinedAs, SiteSo, ModulionSo, EachModulionSo}
use Rattle.program_laws.proofs.Defined.{names_list, defined_in, sites_so, modulions_so, result_place, defined_place}
use Rattle.program_laws.proofs.Counters.{processes_clean}
use Rattle.program_laws.proofs.Grounds.{all_names_known}
use Rattle.program_laws.proofs.Nodes.{all_clean}
use Rattle.head_laws.proofs.Rows.{MadeOf, made_parts, three_parts, each_row}
use Rattle.head_laws.proofs.Heads.{five_parts, heads_are}
use Rattle.source_meaning.specs.TypedValues.{Context}
use Rattle.source_meaning.specs.TypedStatements as typed
use Rattle.source_meaning.specs.TypedStatements.{AreTyped, IsTypedStatement, IsTypedHandler, IsTypedAction}
use Rattle.source_meaning.specs.Typed.{IsTyped}
use Rattle.lead_laws.specs.Leads.{IsInBody}
use Rattle.action_laws.specs.Actions.{StandsAround}
use Rattle.body_laws.specs.Statements.{IsNodeSound}
use Rattle.body_laws.specs.Rows.{IsTypedInside}
use Rattle.body_laws.proofs.Statements.{declarations_typed, before_typed, statement_typed_law, handler_typed_law}
use Rattle.body_laws.proofs.Rows.{procedure_typed, process_typed}
use Rattle.reached_laws.specs.Reached.{IsSiteReached, IsItemReached, AreItemsReached, ModulionsKnown, EachModulionKnown}
use Rattle.reached_laws.proofs.Places.{row_is, IsModulionRow, module_alone}
use Rattle.reached_laws.proofs.Items.{number_is, defines_is, reached}
use Rattle.ground_laws.specs.Defining.{Defines}
use Rattle.typed_program_laws.proofs.Messages.{IsSource}
use Rattle.typed_program_laws.proofs.Nodes.{UpdateSo, SourceSo, DefinedSo, IsNodeKnown, node_sound}
use Rattle.typed_program_laws.proofs.Updates.{updates_ok}
use Rattle.typed_program_laws.proofs.Sources.{So, first_of, later_of, program_so}
use Rattle.typed_program_laws.proofs.Routines.{RoutineWithin, routines_within}

members : {A : Type 0} (P : A → Type 0) (all xs : List A) → Each P all → Each (λ x. Contains all x) xs → Each P xs
members P all [] holds within = tt
members P all (x ∷ xs) holds within = (of_member P all x holds within.0, members P all xs holds within.1)

each_both : {A : Type 0} (P Q R : A → Type 0) → ((x : A) → P x → Q x → R x) → (xs : List A) → Each P xs → Each Q xs → Each R xs
each_both P Q R so [] first later = tt
each_both P Q R so (x ∷ xs) first later = (so x first.0 later.0, each_both P Q R so xs first.1 later.1)

module _ (text : List ℕ) (t : ProgramTree) (h : Ground) (p : CheckedTree) (bytes : Each IsByte text) (has : BreaksNoRule text t h) (made : elaborated h t ≡ Some p) where
  abbrev s : Source
  s = source_of h t

  -- ---- what is known of nodes

  origins_are : (d : ℕ) (o : Origin) → slice_get h.origins d ≡ Some o → slice_get (origins_of t) d ≡ Some o
  origins_are d o at = sym (ap (λ (x : Ground). slice_get x.origins d) has.is_ground.names) ∙ at

  synonyms_bytes : SynonymsHaveBytes h
  synonyms_bytes d x at =
      (of_member bytes_of.HasByteExprs (sites.sites t) (at_synonym x) (tree_bytes text t bytes has.has_modes.has_names.has_tree) (nodes_there t (exits_there text t has.has_modes.has_names) d (a_synonym x) (origins_are d (a_synonym x) at))).0

  fit : (n : Name) → IsNameFit h n
  fit n = text_names_fit text t has.plain_ground h has.has_modes has.is_ground synonyms_bytes n

  abbrev Known : Site → Type 0
  Known n = IsNodeKnown text t h p has made n

  so_defined : (n : Site) → SiteSo (text_origins t) (names_list text t h has) n → DefinedSo text t h p has made n
  so_defined (at_program shared) so = absurd so
  so_defined n so = so

  source_clean : (earlier : List Name) (n : Name) → IsNodeClean s (at_source earlier n) → IsSource text t h p has made n
  source_clean earlier n clean_is = record { stands = clean_is.stands; fits = none_first (told_misfit h for_messages n) (told_listed h earlier n) clean_is.processes }

  abbrev rest_sites : List Site
  rest_sites = flat_map sites_of_item (items_of t)

  each_known : (ns : List Site) → Each (IsNodeClean s) ns → Each (SiteSo (text_origins t) (names_list text t h has)) ns → Each bytes_of.HasByteExprs ns → Each UpdateSo ns → Each (SourceSo text t h p has made) ns → Each Known ns
  each_known [] clean_are so written updates sources = tt
  each_known (n ∷ ns) clean_are so written updates sources = (record { clean = clean_are.0; defined = so_defined n so.0; bytes = written.0; updates = updates.0; sources = sources.0 }, each_known ns clean_are.1 so.1 written.1 updates.1 sources.1)

  sources_known : Each (SourceSo text t h p has made) rest_sites
  sources_known = each_more _ (SourceSo text t h p has made) same rest_sites (program_so (IsNodeClean s) (IsSource text t h p has made) source_clean (items_of t) (all_clean text t h has).1.1)
    where
      same : (n : Site) → So (IsNodeClean s) (IsSource text t h p has made) source_clean n → SourceSo text t h p has made n
      same (at_source earlier n) so = so
      same n so = tt

  rest_known : Each Known rest_sites
  rest_known = each_known rest_sites (all_clean text t h has).1.1 (sites_so text t h has) (tree_bytes text t bytes has.has_modes.has_names.has_tree).1.1 (updates_ok text t has.has_modes.has_names.has_tree) sources_known

  all_known : Each Known (sites.sites t)
  all_known = (
    record { clean = (all_clean text t h has).0; defined = tt; bytes = tt; updates = tt; sources = tt },
    (record { clean = (all_clean text t h has).1.0; defined = tt; bytes = tt; updates = tt; sources = tt }, rest_known),
  )

  sounds : (body : ℕ) (ctx : Context) → IsInBody s p ctx body → (ns : List Site) → Each Known ns → Each (IsSiteReached s body ctx.region) ns → Each (IsNodeSound s ctx) ns
  sounds body ctx is_in ns known within = each_both Known (IsSiteReached s body ctx.region) (IsNodeSound s ctx) (node_sound text t h p has made fit body ctx is_in) ns known within

  -- ---- what is reached

  modulion_known : (n : Name) (kind : ModulionKind) (items : ItemNodes) → IsDefinedAs (text_origins t) (names_list text t h has) n (a_modulion kind items) → (d : ℕ) → number_at h.defined n.at ≡ Some d → slice_get h.origins d ≡ Some (a_modulion kind items)
  modulion_known n kind items so d number = let k = defined_in text t h has n (a_modulion kind items) so in ap (slice_get h.origins) (same_some d k.number (sym number ∙ k.at)) ∙ k.origin

  mutual
    item_known : (i : ItemTree) → ModulionSo (text_origins t) (names_list text t h has) i → ModulionsKnown h i
    item_known (modulion n kind items hd closing) so = (modulion_known n kind items so.0, items_known items so.1)
    item_known (local_item l) so = tt
    item_known (action x) so = tt
    item_known (procedure q) so = tt
    item_known (process q) so = tt
    item_known (seize at passed) so = tt
    item_known (grant at passed) so = tt
    item_known (signals at ss) so = tt

    items_known : (is : ItemNodes) → EachModulionSo (text_origins t) (names_list text t h has) is → EachModulionKnown h is
    items_known no_items so = tt
    items_known (more_items i is) so = (item_known i so.0, items_known is so.1)

  all_reached : Each (IsItemReached s None) (items_of t)
  all_reached =
      reached text t h has.has_modes.has_names has.is_ground.names (processes_clean text t h has)
      (each_more (ModulionSo (text_origins t) (names_list text t h has)) (ModulionsKnown h) item_known (items_of t) (modulions_so text t h has))

  -- ---- the bodies of procedures and processes

  routine_within : (d : ℕ) (o : Origin) → slice_get h.origins d ≡ Some o → RoutineWithin s o
  routine_within d o at = routines_within s t all_reached d o (origins_are d o at)

  row_origin : (d : ℕ) (r : Row) → slice_get s.rows d ≡ Some r → slice_get h.origins d ≡ Some r.origin
  row_origin d r at = (row_is (text_definitions (level_of t)) h.origins h.entries d r at).origin

  body_is : (d : ℕ) (r : Row) → slice_get s.rows d ≡ Some r → has_body r.origin ≡ true → body_of s.rows d ≡ suc (count_before (λ r. has_body r.origin) d s.rows)
  body_is d r at holds = ap (body_by s.rows d) at ∙ ap (λ b. if b then body_number s.rows d else 0) holds

  value_or : Returning → Option ModeTree
  value_or (a_value m) = m
  value_or r = None

  is_value : Returning → Bool
  is_value (a_value m) = true
  is_value r = false

  procedure_around : (d : ℕ) (q : ProcedureTree) (result : Option ModeTree) → slice_get h.origins d ≡ Some (a_procedure q) → number_at h.defined q.name.at ≡ Some d → result_of s q ≡ Some result → IsAround s (in_body result) (in_procedure q)
  unfolding value_or is_value
  procedure_around d q result origin number is = by (is_some q.returns) refl is
    where
      by : (b : Bool) → is_some q.returns ≡ b → (if b then option_map Some (mode_defined s q.name) else Some None) ≡ Some result → IsAround s (in_body result) (in_procedure q)
      by true returns built =
          let gives : returning_of h (in_procedure q) ≡ a_value (mode_defined s q.name) = ap (λ b. if b then a_value (mode_defined s q.name) else no_value) returns in
          let m = there_mapped Some (mode_defined s q.name) result built in
          let place = defined_place text t h has q.name (a_procedure q) (record { number = d; at = number; origin = origin }) (result_place text t h has d q origin returns) in
          record {
            result = λ k same. sym m.2 ∙ (sym m.1 ∙ ap value_or (sym gives ∙ same));
            place = λ k same. subst IsPlace (ap value_or (sym gives ∙ same)) place;
          }
      by false returns built =
          let gives : returning_of h (in_procedure q) ≡ no_value = ap (λ b. if b then a_value (mode_defined s q.name) else no_value) returns in
          record {
            result = λ k same. absurd (true≢false (sym (ap is_value (sym gives ∙ same))));
            place = λ k same. absurd (true≢false (sym (ap is_value (sym gives ∙ same))));
          }

  abbrev context_of : BodyRowTree → Context
  context_of b = record { program = p; rows = b.locals; region = b.region }

  procedure_number : (d : ℕ) (r : Row) (q : ProcedureTree) → slice_get s.rows d ≡ Some r → slice_get h.origins d ≡ Some (a_procedure q) → number_at h.defined q.name.at ≡ Some d
  procedure_number d r q at origin =
      let own = row_is (text_definitions (level_of t)) h.origins h.entries d r at in
      let defines = subst (λ o. Defines o own.definition) (same_some r.origin (a_procedure q) (sym own.origin ∙ origin)) (defines_is text t h has.has_modes.has_names has.is_ground.names d r own.definition at own.is) in
      number_is text t h has.has_modes.has_names has.is_ground.names q.name d own.definition own.is defines.1

  process_number : (d : ℕ) (r : Row) (q : ProcessTree) → slice_get s.rows d ≡ Some r → slice_get h.origins d ≡ Some (a_process q) → number_at h.defined q.name.at ≡ Some d
  process_number d r q at origin =
      let own = row_is (text_definitions (level_of t)) h.origins h.entries d r at in
      let defines = subst (λ o. Defines o own.definition) (same_some r.origin (a_process q) (sym own.origin ∙ origin)) (defines_is text t h has.has_modes.has_names has.is_ground.names d r own.definition at own.is) in
      number_is text t h has.has_modes.has_names has.is_ground.names q.name d own.definition own.is defines.1

  procedure_inside : (d : ℕ) (r : Row) (q : ProcedureTree) (b : BodyRowTree) → slice_get s.rows d ≡ Some r → slice_get h.origins d ≡ Some (a_procedure q) → has_body r.origin ≡ true → body_as s d r (a_procedure q) ≡ Some b → IsTypedInside p b
  procedure_inside d r q b at origin holds is =
      let number = procedure_number d r q at origin in
      let result = there_chained (procedure_made s d r q) (result_of s q) b is in
      let m = three_parts (procedure_body s d r q result.0) (listed_by s q.exceptions) (locals_of s (suc (count_before (λ r. has_body r.origin) d s.rows))) (inside_of s result.0 q.body q.handler) b result.2 in
      let same_result : result.0 ≡ b.result = ap (λ (x : BodyRowTree). x.result) m.whole in
      let around = subst (λ k. IsAround s (in_body k) (in_procedure q)) same_result (procedure_around d q result.0 origin number result.1) in
      let own = routine_within d (a_procedure q) origin in
      let within = own.1 d r (record { number = number; row = at }) in
      let same_region : own.0 ≡ b.region = within.0 ∙ ap (λ (x : BodyRowTree). x.region) m.whole in
      let locals : locals_of s (body_of s.rows d) ≡ Some b.locals = ap (locals_of s) (body_is d r at holds) ∙ (m.of_middle ∙ ap (λ (x : BodyRowTree). Some x.locals) m.whole) in
      let ns = sites_of_body (in_procedure q) q.body q.handler in
      let known = members Known (sites.sites t) ns all_known (nodes_there t (exits_there text t has.has_modes.has_names) d (a_procedure q) (origins_are d (a_procedure q) origin)).1.1 in
      let all = sounds (body_of s.rows d) (context_of b) (record { program = refl; locals = locals }) ns known (subst (λ k. Each (IsSiteReached s (body_of s.rows d) k) ns) same_region within.1) in
      let front = sites_of_parts (in_procedure q) (body_nodes q.body) in
      let back = sites_of_handler (in_procedure q) (handler_node q.handler) in
      procedure_typed s p d r q b (in_procedure q) (all_names_known text t h has) is around (first_of (IsNodeSound s (context_of b)) front back all) (later_of (IsNodeSound s (context_of b)) front back all)

  process_inside : (d : ℕ) (r : Row) (q : ProcessTree) (b : BodyRowTree) → slice_get s.rows d ≡ Some r → slice_get h.origins d ≡ Some (a_process q) → has_body r.origin ≡ true → body_as s d r (a_process q) ≡ Some b → IsTypedInside p b
  process_inside d r q b at origin holds is =
      let m = made_parts (process_body d r q) (locals_of s (suc (count_before (λ r. has_body r.origin) d s.rows))) (inside_of s None q.body q.handler) b is in
      let own = routine_within d (a_process q) origin in
      let within = own.1 d r (record { number = process_number d r q at origin; row = at }) in
      let same_region : None ≡ b.region = ap (λ (x : BodyRowTree). x.region) m.whole in
      let locals : locals_of s (body_of s.rows d) ≡ Some b.locals = ap (locals_of s) (body_is d r at holds) ∙ (m.of_first ∙ ap (λ (x : BodyRowTree). Some x.locals) m.whole) in
      let ns = sites_of_body in_no_procedure q.body q.handler in
      let known = members Known (sites.sites t) ns all_known (nodes_there t (exits_there text t has.has_modes.has_names) d (a_process q) (origins_are d (a_process q) origin)).1 in
      let all = sounds (body_of s.rows d) (context_of b) (record { program = refl; locals = locals }) ns known (subst (λ k. Each (IsSiteReached s (body_of s.rows d) k) ns) same_region within) in
      let front = sites_of_parts in_no_procedure (body_nodes q.body) in
      let back = sites_of_handler in_no_procedure (handler_node q.handler) in
      process_typed s p d r q b in_no_procedure (all_names_known text t h has) is refl (first_of (IsNodeSound s (context_of b)) front back all) (later_of (IsNodeSound s (context_of b)) front back all)

  inside_typed : (d : ℕ) (r : Row) (b : BodyRowTree) → slice_get s.rows d ≡ Some r → has_body r.origin ≡ true → body_as s d r r.origin ≡ Some b → IsTypedInside p b
  inside_typed d r b at holds is = by r.origin (row_origin d r at) holds is
    where
      by : (o : Origin) → slice_get h.origins d ≡ Some o → has_body o ≡ true → body_as s d r o ≡ Some b → IsTypedInside p b
      by (a_procedure q) origin holds is = procedure_inside d r q b at origin (ap has_body (same_some r.origin (a_procedure q) (sym (row_origin d r at) ∙ origin)) ∙ holds) is
      by (a_process q) origin holds is = process_inside d r q b at origin (ap has_body (same_some r.origin (a_process q) (sym (row_origin d r at) ∙ origin)) ∙ holds) is
      by o origin holds is = absurd (true≢false (sym holds))

  -- ---- the outermost body

  module _ (locals : List LocalRowTree) (are : locals_of s 0 ≡ Some locals) where
    abbrev at_region : Option ℕ → typed.Around
    at_region region = record { context = record { program = p; rows = locals; region = region }; sort = sorts.Outermost; result = None; labels = 0 }

    is_in : (region : Option ℕ) → IsInBody s p (record { program = p; rows = locals; region = region }) 0
    is_in region = record { program = refl; locals = are }

    sounds_in : (region : Option ℕ) (ns : List Site) → Each Known ns → Each (IsSiteReached s 0 region) ns → Each (IsNodeSound s (at_region region).context) ns
    sounds_in region ns known within = sounds 0 (record { program = p; rows = locals; region = region }) (is_in region) ns known within

    outside : IsAround s (in_body None) in_no_procedure
    unfolding is_value
    outside = record { result = λ m is. absurd (true≢false (sym (ap is_value is))); place = λ m is. absurd (true≢false (sym (ap is_value is))) }

    stands : (region : Option ℕ) → StandsAround s (in_body None) in_no_procedure (at_region region)
    stands region = record { labels = refl; result = refl; sort = λ other. absurd (other refl) }

    at_top : typed.StandsAtTop (at_region None)
    at_top = record { outermost = refl; unlabelled = refl; outside = refl }

    -- what an item does is typed, where what follows it is
    Follows : Option ℕ → Option done.StatementNodes → Type 0
    Follows region rest = (ys : done.StatementNodes) → rest ≡ Some ys → AreTyped (at_region region) ys

    handler_in : (region : Option ℕ) (hd : Option HandlerTree) (y : done.HandlerNode) → Each Known (sites_of_handler in_no_procedure (handler_node hd)) → Each (IsSiteReached s 0 region) (sites_of_handler in_no_procedure (handler_node hd)) → handled s (in_body None) (handler_node hd) ≡ Some y → IsTypedHandler (at_region region) y
    handler_in region hd y known within built =
        handler_typed_law s (in_body None) in_no_procedure (at_region region) (handler_node hd) y (all_names_known text t h has) outside (stands region) (sounds_in region (sites_of_handler in_no_procedure (handler_node hd)) known within) built

    region_thing : (x : Thing) (k : ℕ) → region_number x ≡ Some k → x ≡ a_region k
    region_thing (a_region j) k is = ap a_region (same_some j k is)
    region_thing x k is = no_some k is

    -- a modulion: what its items do, and its handler
    modulion_typed : (n : Name) (kind : ModulionKind) (items : ItemNodes) (hd : Option HandlerTree) (closing : Option Name) (inner : Option ℕ) (y : done.StatementTree) → IsDefinedAs (text_origins t) (names_list text t h has) n (a_modulion kind items) → ((d : ℕ) → number_at h.defined n.at ≡ Some d → inner ≡ region_in (thing_of s.rows d))
        → ((ss : done.StatementNodes) → items_done s items ≡ Some ss → AreTyped (at_region inner) ss) → ((hs : done.HandlerNode) → handled s (in_body None) (handler_node hd) ≡ Some hs → IsTypedHandler (at_region inner) hs)
        → made_of (done.statement false) (option_and_then (modulion_action s n kind items) (items_done s items)) (handled s (in_body None) (handler_node hd)) ≡ Some y → IsTypedStatement (at_region None) y
    modulion_typed n modulions.Module items hd closing inner y so number_is done_typed handled_typed built =
        let k = defined_in text t h has n (a_modulion modulions.Module items) so in
        let row : IsModulionRow s.rows k.number modulions.Module items = λ r at. same_some r.origin (a_modulion modulions.Module items) (sym (row_origin k.number r at) ∙ k.origin) in
        let alone : inner ≡ None = number_is k.number k.at ∙ module_alone s.rows k.number items row in
        let parts = made_parts (done.statement false) (option_and_then (modulion_action s n modulions.Module items) (items_done s items)) (handled s (in_body None) (handler_node hd)) y built in
        let ss = there_chained (modulion_action s n modulions.Module items) (items_done s items) parts.first parts.of_first in
        let typed_ss = subst (λ q. AreTyped (at_region q) ss.0) alone (done_typed ss.0 ss.1) in
        let typed_h = subst (λ q. IsTypedHandler (at_region q) parts.later) alone (handled_typed parts.later parts.of_later) in
        subst (λ z. IsTypedStatement (at_region None) z) parts.whole
        (subst (λ x. IsTypedStatement (at_region None) (done.statement false x parts.later)) (same_some (done.module_at ss.0) parts.first ss.2) (at_top, typed_ss, (None, typed_h)))
    modulion_typed n modulions.Region items hd closing inner y so number_is done_typed handled_typed built =
        let k = defined_in text t h has n (a_modulion modulions.Region items) so in
        let parts = made_parts (done.statement false) (option_and_then (modulion_action s n modulions.Region items) (items_done s items)) (handled s (in_body None) (handler_node hd)) y built in
        let ss = there_chained (modulion_action s n modulions.Region items) (items_done s items) parts.first parts.of_first in
        let act = there_mapped (λ j. region_action (list_any has_value (items_in items)) j ss.0) (option_and_then region_number (thing_defined s n)) parts.first ss.2 in
        let thing = there_chained region_number (thing_defined s n) act.0 act.1 in
        let at_number : thing_of s.rows k.number ≡ thing.0 = same_some (thing_of s.rows k.number) thing.0 (sym (ap (option_map (thing_of s.rows)) k.at) ∙ thing.1) in
        let is_region_thing = at_number ∙ region_thing thing.0 act.0 thing.2 in
        let alone : inner ≡ Some act.0 = number_is k.number k.at ∙ ap region_in is_region_thing in
        let below : act.0 < p.regions = subst (λ x. LeadsTo s p k.number x) is_region_thing (leads s t p k.number made) in
        let typed_ss = subst (λ q. AreTyped (at_region q) ss.0) alone (done_typed ss.0 ss.1) in
        let typed_h = subst (λ q. IsTypedHandler (at_region q) parts.later) alone (handled_typed parts.later parts.of_later) in
        subst (λ z. IsTypedStatement (at_region None) z) parts.whole
        (subst (λ x. IsTypedStatement (at_region None) (done.statement false x parts.later)) act.2 (by_value (list_any has_value (items_in items)) act.0 ss.0 parts.later below typed_ss typed_h))
      where
        by_value : (b : Bool) (k : ℕ) (ss : done.StatementNodes) (hs : done.HandlerNode) → k < p.regions → AreTyped (at_region (Some k)) ss → IsTypedHandler (at_region (Some k)) hs → IsTypedStatement (at_region None) (done.statement false (region_action b k ss) hs)
        by_value true k ss hs below first later = (at_top, (below, first), (None, later))
        by_value false k ss hs below first later = (tt, tt, (Some k, later))

    -- the items of a module stand in no region
    module_region : (n : Name) (kind : ModulionKind) (items : ItemNodes) → IsDefinedAs (text_origins t) (names_list text t h has) n (a_modulion kind items) → (inner : Option ℕ) → ((d : ℕ) → number_at h.defined n.at ≡ Some d → inner ≡ region_in (thing_of s.rows d)) → is_region kind ≡ false → inner ≡ None
    module_region n modulions.Module items so inner number_is other =
        let k = defined_in text t h has n (a_modulion modulions.Module items) so in
        number_is k.number k.at ∙ module_alone s.rows k.number items (λ r at. same_some r.origin (a_modulion modulions.Module items) (sym (row_origin k.number r at) ∙ k.origin))
    module_region n modulions.Region items so inner number_is other = absurd (true≢false other)

    alone_in : (kind : ModulionKind) (every : ItemNodes) (n : Name) (own : ModulionKind) (items : ItemNodes) (hd : Option HandlerTree) (closing : Option Name) → told_item kind every (modulion n own items hd closing) ≡ [] → is_region kind ≡ false
    alone_in modulions.Module every n own items hd closing clean_is = refl
    alone_in modulions.Region every n own items hd closing clean_is = let none : ⊥ = cc in absurd none

    mutual
      unfolding Follows

      item_typed : (i : ItemTree) (region : Option ℕ) (rest : Option done.StatementNodes) → (is_modulion : ((n : Name) (kind : ModulionKind) (items : ItemNodes) (hd : Option HandlerTree) (closing : Option Name) → i ≡ modulion n kind items hd closing → region ≡ None)) → IsItemReached s region i → ModulionSo (text_origins t) (names_list text t h has) i
          → Each Known (sites_of_item i) → Follows region rest → Follows region (item_before s i rest)
      item_typed (local_item l) region rest top within so known next ys built =
          let parts = made_parts before (declarations s l) rest ys built in
          let all = declarations_typed s (at_region region) (all_names_known text t h has) true l parts.first (sounds_in region (sites_of_local true l) known within) parts.of_first in
          subst (AreTyped (at_region region)) parts.whole (before_typed (at_region region) parts.first parts.later all (next parts.later parts.of_later))
      item_typed (action x) region rest top within so known next ys built =
          let parts = made_parts done.more_statements (statement s (in_body None) x) rest ys built in
          let one = statement_typed_law s (in_body None) in_no_procedure (at_region region) x parts.first (all_names_known text t h has) outside (stands region) (sounds_in region (sites_of in_no_procedure x) known within) parts.of_first in
          subst (AreTyped (at_region region)) parts.whole (one, next parts.later parts.of_later)
      item_typed (modulion n kind items hd closing) region rest top within so known next ys built =
          let inner = within.0 in
          let front = sites_of_items kind items items in
          let back = sites_of_handler in_no_procedure (handler_node hd) in
          let parts = made_parts done.more_statements (made_of (done.statement false) (option_and_then (modulion_action s n kind items) (items_done s items)) (handled s (in_body None) (handler_node hd))) rest ys built in
          let own = modulion_typed n kind items hd closing inner parts.first so.0 within.1.0
          (λ ss is. items_typed items kind items inner (module_region n kind items so.0 inner within.1.0) within.1.1.0 so.1 (first_of Known front back known) ss is)
          (λ hs is. handler_in inner hd hs (later_of Known front back known) within.1.1.1 is) parts.of_first in
          let alone = top n kind items hd closing refl in
          subst (AreTyped (at_region region)) parts.whole (subst (λ q. IsTypedStatement (at_region q) parts.first) (sym alone) own, next parts.later parts.of_later)
      item_typed (procedure q) region rest top within so known next ys built = next ys built
      item_typed (process q) region rest top within so known next ys built = next ys built
      item_typed (seize at passed) region rest top within so known next ys built = next ys built
      item_typed (grant at passed) region rest top within so known next ys built = next ys built
      item_typed (signals at ss) region rest top within so known next ys built = next ys built

      items_typed : (is : ItemNodes) (kind : ModulionKind) (every : ItemNodes) (region : Option ℕ) → (is_region kind ≡ false → region ≡ None) → AreItemsReached s region is → EachModulionSo (text_origins t) (names_list text t h has) is → Each Known (sites_of_items kind every is) → Follows region (items_done s is)
      items_typed no_items kind every region alone within so known ys built = subst (AreTyped (at_region region)) (same_some done.no_statements ys built) tt
      items_typed (more_items i is) kind every region alone within so known ys built =
          let later = sites_of_items kind every is in
          let clean_is = known.0.clean in
          item_typed i region (items_done s is) (λ n own items hd closing is_one. alone (alone_in kind every n own items hd closing (subst (λ x. told_item kind every x ≡ []) is_one clean_is.processes))) within.0 so.0
          (first_of Known (sites_of_item i) later known.1) (λ zs is_rest. items_typed is kind every region alone within.1 so.1 (later_of Known (sites_of_item i) later known.1) zs is_rest) ys built

    tops_typed : (is : List ItemTree) → Each (IsItemReached s None) is → Each (ModulionSo (text_origins t) (names_list text t h has)) is → Each Known (flat_map sites_of_item is) → Follows None (modulions_done s is)
    unfolding Follows
    tops_typed [] within so known ys built = subst (AreTyped (at_region None)) (same_some done.no_statements ys built) tt
    tops_typed (i ∷ is) within so known ys built =
        let later = flat_map sites_of_item is in
        item_typed i None (modulions_done s is) (λ n own items hd closing is_one. refl) within.0 so.0 (first_of Known (sites_of_item i) later known) (λ zs is_rest. tops_typed is within.1 so.1 (later_of Known (sites_of_item i) later known) zs is_rest) ys built

    pub outermost_does : (ys : done.StatementNodes) → modulions_done s (items_of t) ≡ Some ys → AreTyped (at_region None) ys
    unfolding Follows
    outermost_does ys built = tops_typed (items_of t) all_reached (modulions_so text t h has) rest_known ys built

  outermost_inside : (b : BodyRowTree) → outermost s t ≡ Some b → IsTypedInside p b
  outermost_inside b is =
      let m = made_parts outermost_body (locals_of s 0) (modulions_done s (items_of t)) b is in
      subst (λ x. IsTypedInside p x) m.whole (record { statements = outermost_does m.first m.of_first m.later m.of_later; handler = tt })

  -- ---- the program

  all_bodies : MadeOf (λ b bs. b ∷ bs) (outermost s t) (rows_made (λ d r. body_as s d r r.origin) (λ r. has_body r.origin) 0 s.rows) p.bodies
  all_bodies = made_parts (λ b bs. b ∷ bs) (outermost s t) (rows_made (λ d r. body_as s d r r.origin) (λ r. has_body r.origin) 0 s.rows) p.bodies (five_parts s t p made).of_bodies

  later_inside : Each (λ b. IsTypedInside p b) all_bodies.later
  later_inside = each_row (λ b. IsTypedInside p b) (λ d r. body_as s d r r.origin) (λ r. has_body r.origin) s.rows all_bodies.later all_bodies.of_later (λ d r b at holds is. inside_typed d r b at holds is)

  by_number : (k : ℕ) (b : BodyRowTree) → slice_get (all_bodies.first ∷ all_bodies.later) k ≡ Some b → IsTypedInside p b
  by_number zero b at = subst (λ x. IsTypedInside p x) (same_some all_bodies.first b at) (outermost_inside all_bodies.first all_bodies.of_first)
  by_number (suc n) b at = each_there (λ x. IsTypedInside p x) all_bodies.later n b later_inside at

  pub program_typed : All (λ row. outcome_of row.mode ≡ spots (spots_of row.mode)) p.locations → IsTyped p
  program_typed layouts_are =
      let heads = heads_are text t h p has made in
      record {
        outermost = heads.outermost;
        bodies = λ k b at.
            let head_is = heads.bodies k b at in
            let inside = by_number k b (ap (λ bs. slice_get bs k) all_bodies.whole ∙ at) in
            record { head = head_is.head; result = head_is.result; locals = head_is.locals; parameters = head_is.parameters; statements = inside.statements; handler = inside.handler };
        locations = heads.locations;
        layouts = layouts_are;
        buffers = heads.buffers;
        signals = heads.signals;
      }
