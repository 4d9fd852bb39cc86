-- At the nodes of a text that breaks no rule names have their numbers, and nothing is told in the ground that knows counters.
use Rattle.std.proofs.Common.{◌≡◌, ℕ, ◌==◌, true, false, List, [], ◌∷◌, length, Option, Some, None, Contains, true≢false, refl, sym, ap, ◌∙◌, subst}
use Rattle.std.proofs.lemmas.Bool.{eq-eqb}
use Rattle.std.specs.Prelude.{IsSome, is_some, not, flat_map, slice_get, option_map, option_and_then, if◌then◌else◌}
use Rattle.diagnostics.specs.declared.diagnostic.Diagnostic.{Diagnostic}
use Rattle.chill_tree.specs.declared.tree.name.Name.{Name}
use Rattle.chill_tree.specs.declared.tree.item.ModulionKind.{ModulionKind}
use Rattle.chill_tree.specs.LocalTree.{DeclarationTree}
use Rattle.chill_tree.specs.SimpleTree.{SimpleTree, call_of, cause, start_of, delay, continue_event, send, ControlTree, while_holds, for_ever, for_members, for_steps}
use Rattle.chill_tree.specs.ItemTree.{ItemTree, ItemNodes, seize, grant, local_item, signals, procedure, process, modulion, action, no_items, more_items, ProgramTree}
use Rattle.modes.specs.ModeTree.{ModeTree, ClassTree, value, derived, null, nothing}
use Rattle.modes.specs.Form.{FormTree, form_of, of_powerset}
use Rattle.modes.specs.Bounds.{bounds_of}
use Rattle.names_model.specs.declared.kind.Kind.TheVariants as kinds
use Rattle.names_model.specs.declared.definition.Definition.{Definition}
use Rattle.names_model.specs.ItemParts.{is_region}
use Rattle.names_model.specs.Definitions.{text_definitions, predefined, with_predefined}
use Rattle.names_model.specs.Resolving.{level_of}
use Rattle.names_laws.proofs.Members.{here_in, later_in}
use Rattle.ground_laws.proofs.Defining.{origins_define}
use Rattle.checks_model.specs.Alike.{is_meeting}
use Rattle.checks_model.specs.Ground.{Ground, Origin, a_location, a_counter, a_received, a_modulion, entry_defined, mode_of_entry}
use Rattle.checks_model.specs.Told.{holds_of}
use Rattle.checks_model.specs.Operations.{form_in}
use Rattle.checks_model.specs.Classes.{class_of}
use Rattle.checks_model.specs.ValueRules.{nothing_asked, told_in, clean_class}
use Rattle.checks_model.specs.ActionRules.{clean, member_in, counter_mode}
use Rattle.checks_model.specs.Phases.{modes_told_at, statements_told_at, processes_told_at, told_of_modes, told_of_statements}
use Rattle.checks_model.specs.Origins.{text_origins, origins_of}
use Rattle.checks_model.specs.Table.{entry_with_counters}
use Rattle.checks_model.specs.Sites.{Site, at_item, at_synonym, at_mode_definition, at_declaration, at_mode, at_simple, at_condition, at_selector, at_labels, at_control, at_set, at_priority, at_event, at_source, at_received, at_exceptions, at_body, at_program, outermost_locals, shared_in, sites_of_item, items_of, sites}
use Rattle.checks_model.specs.Sites as sites
use Rattle.checks_model.specs.Diagnoses.{BreaksNoRule}
use Rattle.table_laws.specs.Names.{names_in}
use Rattle.elaborated_laws.specs.Classes.{HasDeclarable, HaveModes}
use Rattle.elaborated_laws.proofs.Classes.{class_mode, no_receiver}
use Rattle.elaborated_laws.proofs.Told.{no_some, same_some, of_both}
use Rattle.written_laws.specs.Written.{Each, is_some_name, DeclaresSome}
use Rattle.written_laws.proofs.Sets.{each_more}
use Rattle.written_laws.proofs.ShownItem.{declarations_named}
use Rattle.written_laws.proofs.WrittenSo.{each_there, none_listed}
use Rattle.order_laws.specs.Texts.{is_counter}
use Rattle.there_laws.proofs.Forms.{HasBounds, has_bounds}
use Rattle.there_laws.proofs.Modes.{value_in}
use Rattle.there_laws.proofs.Told.{each_clean}
use Rattle.there_laws.proofs.CounterModes.{names_modes}
use Rattle.elaboration_model.specs.Numbering.{Source, Row, is_direct, is_location, may_be_local, is_signal, is_region_origin, has_body, body_number, count_before, body_around, is_local_of, Thing, a_local, a_message, a_region, a_body, no_thing, local_in, thing_by, thing_of, thing_defined, local_number, region_number, local_defined}
use Rattle.elaboration_model.specs.Exceptions.{exception_number, own_exceptions}
use Rattle.elaboration_model.specs.Expressions.{mode_defined}
use Rattle.elaboration_model.specs.Statements.{some_names, base_defined, low_of}
use Rattle.elaboration_model.specs.Elaborated.{source_of}
use Rattle.expression_laws.specs.Named.{NamesNamed, IsNodeNamed}
use Rattle.expression_laws.specs.Statements.{ActionStands, AreDeclared, ControlStands, NodeStands, IsNodeClean}
use Rattle.expression_laws.specs.Text.{RegionsStand, EachRegionStands}
use Rattle.expression_laws.specs.Things.{AllRowsPlaced, is_of_text, origin_is}
use Rattle.expression_laws.proofs.Exceptions.{exceptions_there}
use Rattle.expression_laws.proofs.Named.{nodes_named}
use Rattle.expression_laws.proofs.Operators.{map_there}
use Rattle.expression_laws.proofs.Outside.{row_parts, among_both}
use Rattle.expression_laws.proofs.Placed.{fits_kind, FitsPlace, text_placed}
use Rattle.expression_laws.proofs.Text.{of_member, each_one}
use Rattle.expression_laws.proofs.TextRows.{definition_there}
use Rattle.expression_laws.proofs.Things.{in_body, apart_thing, things_known}
use Rattle.program_laws.proofs.Rows.{AreDefinedAs, IsDefinedAs, IsReceivedAs, each_received, SiteSo, ModulionSo, EachModulionSo}
use Rattle.program_laws.proofs.Counters.{IsWellAt, sites_well, processes_clean, all_modal}
use Rattle.program_laws.proofs.Frames.{DeclaredSo, all_shared, SameMode, SiteSame, mode_same, site_same}
use Rattle.program_laws.proofs.Defined.{DefinedIn, names_list, defined_in, sites_so, modulions_so, entry_at, location_place, defined_place}
use Rattle.program_laws.proofs.Grounds.{all_placed}

-- ---- the least value of a loop over members

clean_some : (inside : List Diagnostic) (x : Option ClassTree) (c : ClassTree) → clean_class inside x ≡ Some c → x ≡ Some c
clean_some [] x c is = is
clean_some (d ∷ ds) x c is = no_some c is

member_bounded : (f : FormTree) (m : ModeTree) → HasBounds f → member_in f ≡ Some m → IsSome (bounds_of m)
member_bounded (of_powerset own) m there is = subst (λ k. IsSome (bounds_of k)) (same_some own m is) there
member_bounded f m there is = no_some m is

members_bounded : (x : Option ClassTree) (m : ModeTree) → ((c : ClassTree) → x ≡ Some c → HasDeclarable c) → option_and_then member_in (option_and_then form_in x) ≡ Some m → IsSome (bounds_of m)
members_bounded None m fits is = no_some m is
members_bounded (Some (value k)) m fits is = member_bounded (form_of k) m (has_bounds k (fits (value k) refl)) is
members_bounded (Some (derived k)) m fits is = member_bounded (form_of k) m (has_bounds k (fits (derived k) refl)) is
members_bounded (Some null) m fits is = no_some m is
members_bounded (Some nothing) m fits is = no_some m is

abbrev rest_by : List Row → ℕ → Origin → Thing
rest_by rs d o =
    if is_signal o then a_message (count_before (λ r. is_signal r.origin) d rs)
    else (if is_region_origin o then a_region (count_before (λ r. is_region_origin r.origin) d rs)
    else (if has_body o then a_body (body_number rs d) else no_thing))

module _ (text : List ℕ) (t : ProgramTree) (h : Ground) (has : BreaksNoRule text t h) where
  -- ---- things by what names define

  -- the names of definitions are looked up as those of uses
  abbrev by_defined : Source
  by_defined = record { known = record { uses = h.defined; defined = h.defined; origins = h.origins; entries = h.entries }; rows = (source_of h t).rows; own_exceptions = (source_of h t).own_exceptions }

  placed_too : AllRowsPlaced by_defined
  placed_too d o at in_text = let r = all_placed text t h has d o at in_text in record { row = r.row; is = r.is; origin = r.origin; mode = r.mode; placed = r.placed }

  base_there : (n : Name) (o : Origin) (k : DefinedIn h n o) → may_be_local o ≡ true → (m : ModeTree) → mode_of_entry (entry_defined h n) ≡ Some m → not (is_meeting (form_of m)) ≡ true → IsSome (base_defined (source_of h t) n)
  base_there n o k local m mode valued =
      let thing = things_known by_defined n placed_too in
      thing.base (ap (λ x. origin_is may_be_local (option_and_then (slice_get h.origins) x)) k.at ∙ (ap (origin_is may_be_local) k.origin ∙ local)) m mode valued

  local_there : (n : Name) (o : Origin) → DefinedIn h n o → may_be_local o ≡ true → is_location o ≡ false → is_of_text o ≡ true → IsSome (local_defined (source_of h t) n)
  local_there n o k local apart in_text =
      let rs = (source_of h t).rows in
      let r = all_placed text t h has k.number o k.origin in_text in
      let may : may_be_local r.row.origin ≡ true = ap may_be_local r.origin ∙ local in
      let inner = r.placed.inner (of_both (may_be_local r.row.origin) (not (is_location r.row.origin)) may (ap not (ap is_location r.origin ∙ apart))) in
      let b = in_body rs r.row.inside inner in
      let own = of_both (may_be_local r.row.origin) (holds_of (λ c. c == b.0) (body_around rs r.row.inside)) may (ap (holds_of (λ c. c == b.0)) b.1 ∙ eq-eqb b.0 b.0 refl) in
      ap (λ x. is_some (option_and_then local_number (option_map (thing_of rs) x))) k.at
      ∙ (ap (λ x. is_some (local_number (thing_by rs k.number x))) r.is
      ∙ (ap (λ x. is_some (local_number (local_in rs k.number r.row x))) b.1
      ∙ ap (λ x. is_some (local_number (if x then a_local b.0 (count_before (is_local_of rs b.0) k.number rs) else no_thing))) own))

  -- ---- regions

  region_there : (n : Name) (kind : ModulionKind) (items : ItemNodes) → DefinedIn h n (a_modulion kind items) → is_region kind ≡ true → IsSome (option_and_then region_number (thing_defined (source_of h t) n))
  region_there n kind items k region =
      let rs = (source_of h t).rows in
      let ds = text_definitions (level_of t) in
      let r = all_placed text t h has k.number (a_modulion kind items) k.origin refl in
      let parts = row_parts ds h.origins h.entries k.number r.row r.is in
      let made = definition_there (origins_of t) (with_predefined ds) k.number (a_modulion kind items) (origins_define t) (sym (ap (λ (y : Ground). slice_get y.origins k.number) has.is_ground.names) ∙ k.origin) in
      let same = same_some made.0 parts.definition (sym made.1.0 ∙ among_both ds predefined k.number parts.definition parts.is) in
      let kind_is : parts.definition.kind ≡ kinds.Modulion = ap (λ (x : Definition). x.kind) (sym same) ∙ made.1.1 in
      let fit = each_there FitsPlace ds k.number parts.definition (text_placed t) parts.is in
      let direct : is_direct r.row.inside ≡ true = ap is_direct parts.inside ∙ (sym (ap (λ x. fits_kind x (is_direct parts.definition.inside)) kind_is) ∙ fit) in
      ap (λ x. is_some (option_and_then region_number (option_map (thing_of rs) x))) k.at
      ∙ (ap (λ x. is_some (region_number (thing_by rs k.number x))) r.is
      ∙ (ap (λ x. is_some (region_number x)) (apart_thing rs k.number r.row (ap is_location r.origin) direct)
      ∙ (ap (λ o. is_some (region_number (rest_by rs k.number o))) r.origin
      ∙ ap (λ x. is_some (region_number (if x then a_region (count_before (λ r. is_region_origin r.origin) k.number rs) else no_thing))) region)))

  mutual
    region_stands : (i : ItemTree) → ModulionSo (text_origins t) (names_list text t h has) i → RegionsStand (source_of h t) i
    region_stands (modulion n kind items handler closing) so = (region_there n kind items (defined_in text t h has n (a_modulion kind items) so.0), regions_stand items so.1)
    region_stands (action x) so = tt
    region_stands (seize at passed) so = tt
    region_stands (grant at passed) so = tt
    region_stands (local_item l) so = tt
    region_stands (signals at ss) so = tt
    region_stands (procedure p) so = tt
    region_stands (process p) so = tt

    regions_stand : (is : ItemNodes) → EachModulionSo (text_origins t) (names_list text t h has) is → EachRegionStands (source_of h t) is
    regions_stand no_items so = tt
    regions_stand (more_items i is) so = (region_stands i so.0, regions_stand is so.1)

  pub all_regions : Each (RegionsStand (source_of h t)) (items_of t)
  all_regions = each_more (ModulionSo (text_origins t) (names_list text t h has)) (RegionsStand (source_of h t)) region_stands (items_of t) (modulions_so text t h has)

  -- ---- names at nodes

  mode_by : (n : Name) (o : Origin) (k : DefinedIn h n o) → mode_of_entry (entry_defined h n) ≡ (entry_with_counters h o).mode
  mode_by n o k = ap (λ x. mode_of_entry (option_and_then (slice_get h.entries) x)) k.at ∙ ap mode_of_entry (entry_at text t h has k.number o k.origin)

  declared : (d : DeclarationTree) (ns : List Name) → is_some_name ns ≡ true → AreDefinedAs (text_origins t) (names_list text t h has) (a_location d) ns → AreDeclared (source_of h t) ns
  declared d [] some all = absurd (true≢false (sym some))
  declared d (n ∷ ns) some all =
      let k = defined_in text t h has n (a_location d) all.0 in
      record {
        mode = defined_place text t h has n (a_location d) k (location_place text t h has k.number d k.origin);
        bases = λ m is valued.
            each_more (λ x. IsDefinedAs (text_origins t) (names_list text t h has) x (a_location d)) (λ x. IsSome (base_defined (source_of h t) x))
            (λ x at. let j = defined_in text t h has x (a_location d) at in base_there x (a_location d) j refl m (mode_by x (a_location d) j ∙ (sym (mode_by n (a_location d) k) ∙ is)) valued) (n ∷ ns) all;
      }

  have_all : (ns : List Name) → HaveModes h ns
  have_all [] = tt
  have_all (n ∷ ns) = (names_modes text t has.plain_ground h has.has_modes has.is_ground n, have_all ns)

  counter_local : (c : ControlTree) (n : Name) → IsDefinedAs (text_origins t) (names_list text t h has) n (a_counter c) → IsSome (local_defined (source_of h t) n)
  counter_local c n at = local_there n (a_counter c) (defined_in text t h has n (a_counter c) at) refl refl refl

  control_stands : (c : ControlTree) → SiteSo (text_origins t) (names_list text t h has) (at_control c) → IsWellAt h (at_control c) → ControlStands (source_of h t) c
  control_stands (while_holds at c) so well = tt
  control_stands (for_ever at) so well = tt
  control_stands (for_steps at n from step down to c) so well = counter_local (for_steps at n from step down to c) n so.0
  control_stands (for_members at n set c) so well =
      let loop = for_members at n set c in
      let k = defined_in text t h has n (a_counter loop) so.0 in
      let m = value_in (counter_mode h loop) (all_modal text t h has k.number loop k.origin) in
      let bounded = members_bounded (clean h set) m.0 (λ x there. class_mode h None set x (have_all (names_in set)) well.0.short no_receiver (clean_some (told_in h nothing_asked set) (class_of h set) x there)) m.1 in
      let mode_is : mode_defined (source_of h t) n ≡ Some m.0 = mode_by n (a_counter loop) k ∙ m.1 in
      (counter_local loop n so.0, subst (λ x. IsSome (low_of x)) (sym mode_is) (map_there (λ b. b.low) (bounds_of m.0) bounded))

  action_stands : (a : sites.Around) (act : SimpleTree) → Contains (sites t) (at_simple a act) → NamesNamed h (at_simple a act) → ActionStands (source_of h t) act
  action_stands a (call_of at word n es) c named = named
  action_stands a (start_of at n es) c named = named
  action_stands a (delay at n p) c named = named
  action_stands a (continue_event at n) c named = named
  action_stands a (send at n es to p) c named = named
  action_stands a (cause at n) c named = exceptions_there t (at_simple a (cause at n)) n c (here_in n [] n refl)
  action_stands a act c named = tt

  received_stands : (n : Name) (names : Option (List Name)) → SiteSo (text_origins t) (names_list text t h has) (at_received n names) → Each (λ x. IsSome (local_defined (source_of h t) x)) (some_names names)
  received_stands n None so = tt
  received_stands n (Some ns) so =
      each_more (IsReceivedAs (text_origins t) (names_list text t h has) n (length ns)) (λ x. IsSome (local_defined (source_of h t) x))
      (λ x at. local_there x (a_received n (length ns) at.0) (defined_in text t h has x (a_received n (length ns) at.0) at.1) refl refl refl) ns (each_received (text_origins t) (names_list text t h has) n (length ns) 0 ns so)

  node_stands : (n : Site) → Contains (sites t) n → SiteSo (text_origins t) (names_list text t h has) n → IsWellAt h n → NamesNamed h n → DeclaresSome n → NodeStands (source_of h t) n
  node_stands (at_declaration shared d) c so well named some = declared d d.names some so
  node_stands (at_simple a act) c so well named some = action_stands a act c named
  node_stands (at_control x) c so well named some = control_stands x so well
  node_stands (at_event earlier n) c so well named some = named
  node_stands (at_source earlier n) c so well named some = named
  node_stands (at_received n names) c so well named some = received_stands n names so
  node_stands (at_exceptions earlier ns) c so well named some = each_one (λ n. IsSome (exception_number (own_exceptions t) n)) ns (λ n i. exceptions_there t (at_exceptions earlier ns) n c i)
  node_stands n c so well named some = tt

  -- ---- what is told

  location_same : (n : Name) (d : DeclarationTree) → IsDefinedAs (text_origins t) (names_list text t h has) n (a_location d) → SameMode text t has.plain_ground h has.has_modes.has_names has.has_modes.is_ground has.is_ground n
  location_same n d at =
      let k = defined_in text t h has n (a_location d) at in
      mode_same text t has.plain_ground h has.has_modes.has_names has.has_modes.is_ground has.is_ground n k.number k.at (ap is_counter k.origin)

  abbrev Same : Name → Type 0
  Same n = SameMode text t has.plain_ground h has.has_modes.has_names has.has_modes.is_ground has.is_ground n

  abbrev SameAt : Site → Type 0
  SameAt n = SiteSame text t has.plain_ground h has.has_modes.has_names has.has_modes.is_ground has.is_ground n

  declared_same : (n : Site) → SiteSo (text_origins t) (names_list text t h has) n → DeclaredSo Same n
  declared_same (at_declaration shared d) so = each_more (λ x. IsDefinedAs (text_origins t) (names_list text t h has) x (a_location d)) Same (λ x at. location_same x d at) d.names so
  declared_same n so = tt

  same_at : (n : Site) → SiteSo (text_origins t) (names_list text t h has) n → SameAt n
  same_at (at_declaration shared d) so = declared_same (at_declaration shared d) so
  same_at (at_program shared) so = absurd so
  same_at n so = tt

  node_clean : (n : Site) → Contains (sites t) n → NodeStands (source_of h t) n → SameAt n → IsNodeClean (source_of h t) n
  node_clean n c stands same = record {
    named = of_member (IsWellAt h) (sites t) n (sites_well text t h has) c;
    stands = stands;
    modes = sym (site_same text t has.plain_ground h has.has_modes.has_names has.has_modes.is_ground has.is_ground n same)
        ∙ of_member (λ x. modes_told_at has.plain_ground x ≡ []) (sites t) n (each_clean (modes_told_at has.plain_ground) (sites t) (none_listed (told_of_modes has.plain_ground t) has.has_modes.modes)) c;
    statements = of_member (λ x. statements_told_at h x ≡ []) (sites t) n (each_clean (statements_told_at h) (sites t) (none_listed (told_of_statements h t) has.statements)) c;
    processes = of_member (λ x. processes_told_at h x ≡ []) (sites t) n (processes_clean text t h has) c;
  }

  inner_clean : (n : Site) → Contains (flat_map sites_of_item (items_of t)) n → IsNodeClean (source_of h t) n
  inner_clean n i =
      let names = has.has_modes.has_names in
      let rest = flat_map sites_of_item (items_of t) in
      let body = at_body None (flat_map outermost_locals (items_of t)) in
      let whole = at_program (flat_map shared_in (items_of t)) in
      let c : Contains (sites t) n = later_in body (whole ∷ rest) n (later_in whole rest n i) in
      let so = of_member (SiteSo (text_origins t) (names_list text t h has)) rest n (sites_so text t h has) i in
      let well = of_member (IsWellAt h) (sites t) n (sites_well text t h has) c in
      let named = (of_member (IsNodeNamed h) (sites t) n (nodes_named text t h names has.is_ground.names) c).1 in
      let some = of_member DeclaresSome (sites t) n (declarations_named text t names.has_tree) c in
      node_clean n c (node_stands n c so well named some) (same_at n so)

  pub all_clean : Each (IsNodeClean (source_of h t)) (sites t)
  all_clean =
      let rest = flat_map sites_of_item (items_of t) in
      let body = at_body None (flat_map outermost_locals (items_of t)) in
      let whole = at_program (flat_map shared_in (items_of t)) in
      let shared = all_shared Same (items_of t) (each_more (SiteSo (text_origins t) (names_list text t h has)) (DeclaredSo Same) declared_same rest (sites_so text t h has)) in (
        node_clean body (here_in body (whole ∷ rest) body refl) tt tt,
        (node_clean whole (later_in body (whole ∷ rest) whole (here_in whole rest whole refl)) tt shared, each_one (IsNodeClean (source_of h t)) rest inner_clean),
      )
