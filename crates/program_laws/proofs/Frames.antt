-- Of the nodes of a text the same is told of modes and constants in the ground that knows counters.
use Rattle.std.proofs.Common.{◌≡◌, ℕ, ◌+◌, Bool, true, false, List, [], ◌∷◌, Option, Some, None, true≢false, refl, sym, ap, ◌∙◌}
use Rattle.std.specs.Prelude.{nat_lt, not, map, flat_map, slice_get, option_and_then, if◌then◌else◌}
use Rattle.diagnostics.specs.declared.rule.Rule.TheVariants as rules
use Rattle.chill_tree.specs.declared.tree.name.Name.{Name}
use Rattle.chill_tree.specs.declared.tree.item.ModulionKind.{ModulionKind}
use Rattle.chill_tree.specs.ExprTree.{ExprTree, place_of}
use Rattle.chill_tree.specs.ModeTree as written
use Rattle.chill_tree.specs.LocalTree.{InitialTree, DeclarationTree, LocalTree, synonyms, syn_modes, new_modes, locations}
use Rattle.chill_tree.specs.StatementTree.{handler_node}
use Rattle.chill_tree.specs.ItemTree.{ItemTree, ItemNodes, seize, grant, local_item, signals, procedure, process, modulion, action, no_items, more_items, ProgramTree}
use Rattle.modes.specs.Roots.{holds_read}
use Rattle.names_model.specs.NameRules.{tell}
use Rattle.checks_model.specs.Ground.{Ground, Origin, a_synonym, a_mode, an_element, a_location, a_parameter, number_at, origin_of, entry_of, mode_of_entry}
use Rattle.checks_model.specs.Told.{tell_at, told_if, then_told, holds_of}
use Rattle.checks_model.specs.Constants.{has_form}
use Rattle.checks_model.specs.ConstantRules.{by_itself, told_of_constants, told_of_some_constants, told_needed, told_some_needed}
use Rattle.checks_model.specs.WrittenModes.{told_of_mode, told_of_some_mode}
use Rattle.checks_model.specs.Table.{IsGroundOf, IsStatementGroundOf}
use Rattle.checks_model.specs.Limits.{scalars_in_mode, scalars_named, told_shared}
use Rattle.checks_model.specs.Phases.{mode_defined, told_without_value, initial_expr, exprs_of_simple, priority_of, exprs_of_control, exprs_of_labels, modes_told_at}
use Rattle.checks_model.specs.Sites.{Site, at_item, at_synonym, at_mode_definition, at_declaration, at_mode, at_simple, at_condition, at_selector, at_labels, at_control, at_set, at_priority, at_event, at_source, at_received, at_exceptions, at_body, at_program, in_no_procedure, declared_in, shared_in, shared_in_each, sites_of_local, sites_of_handler, sites_of_item, sites_of_items}
use Rattle.checks_model.specs.Diagnoses.{HasNames}
use Rattle.table_laws.specs.Names.{names_in, names_in_mode, names_in_some_mode}
use Rattle.table_laws.specs.Frames.{is_read, SameKnown, SameKnownEach}
use Rattle.table_laws.specs.OneTable.{SameText}
use Rattle.table_laws.proofs.KnownFrames.{form_frame}
use Rattle.table_laws.proofs.ConstantFrames.{told_constant_frame}
use Rattle.table_laws.proofs.ModeFrames.{told_mode_frame}
use Rattle.table_laws.proofs.EntryFrames.{told_synonym_frame}
use Rattle.written_laws.specs.Written.{Each}
use Rattle.written_laws.proofs.Shown.{each_append}
use Rattle.order_laws.specs.Texts.{is_counter}
use Rattle.order_laws.proofs.Counters.{number_same, origin_same}
use Rattle.order_laws.proofs.TextCounters.{grounds_alike, but_counters}
use Rattle.expression_laws.proofs.Actions.{each_first, each_later}
use Rattle.program_laws.proofs.DefinitionNames.{two_lists}

read_plain : (o : Option Origin) → is_read o ≡ true → is_counter o ≡ false
read_plain (Some (a_synonym s)) read = refl
read_plain (Some (a_mode novel m)) read = refl
read_plain (Some (an_element ns i owner)) read = refl
read_plain (Some (a_location d)) read = refl
read_plain (Some (a_parameter m)) read = refl
read_plain o read = absurd (true≢false (sym read))

-- the names that are declared, at modulions or anywhere
module _ (Q : Name → Type 0) where
  abbrev pub DeclaredSo : Site → Type 0
  DeclaredSo (at_declaration shared d) = Each Q d.names
  DeclaredSo n = Unit {0}

  declarations_so : (ds : List DeclarationTree) → Each DeclaredSo (map (at_declaration true) ds) → Each Q (flat_map (λ d. d.names) ds)
  declarations_so [] all = tt
  declarations_so (d ∷ ds) all = each_append Q d.names (flat_map (λ d. d.names) ds) all.0 (declarations_so ds all.1)

  local_so : (l : LocalTree) → Each DeclaredSo (sites_of_local true l) → Each Q (declared_in l)
  local_so (synonyms at ss) all = tt
  local_so (syn_modes at ds) all = tt
  local_so (new_modes at ds) all = tt
  local_so (locations at ds) all = declarations_so ds all

  mutual
    shared_so : (i : ItemTree) → Each DeclaredSo (sites_of_item i) → Each Q (shared_in i)
    shared_so (local_item l) all = local_so l all
    shared_so (modulion n kind items h closing) all = shared_each items kind items (each_first DeclaredSo (sites_of_items kind items items) (sites_of_handler in_no_procedure (handler_node h)) all)
    shared_so (seize at passed) all = tt
    shared_so (grant at passed) all = tt
    shared_so (signals at ss) all = tt
    shared_so (procedure p) all = tt
    shared_so (process p) all = tt
    shared_so (action s) all = tt

    shared_each : (is : ItemNodes) (kind : ModulionKind) (whole : ItemNodes) → Each DeclaredSo (sites_of_items kind whole is) → Each Q (shared_in_each is)
    shared_each no_items kind whole all = tt
    shared_each (more_items i is) kind whole all =
        each_append Q (shared_in i) (shared_in_each is) (shared_so i (each_first DeclaredSo (sites_of_item i) (sites_of_items kind whole is) all.1)) (shared_each is kind whole (each_later DeclaredSo (sites_of_item i) (sites_of_items kind whole is) all.1))

  -- those of the locations that processes share
  pub all_shared : (is : List ItemTree) → Each DeclaredSo (flat_map sites_of_item is) → Each Q (flat_map shared_in is)
  all_shared [] all = tt
  all_shared (i ∷ is) all = each_append Q (shared_in i) (flat_map shared_in is) (shared_so i (each_first DeclaredSo (sites_of_item i) (flat_map sites_of_item is) all)) (all_shared is (each_later DeclaredSo (sites_of_item i) (flat_map sites_of_item is) all))

module _ (text : List ℕ) (t : ProgramTree) (g h : Ground) (has : HasNames text t) (is_g : IsGroundOf t g) (is_h : IsStatementGroundOf t h) where
  alike : SameText g h
  alike = grounds_alike t g h is_g.names is_h.names

  entry_named : (n : Name) → is_counter (origin_of g n) ≡ false → entry_of g n ≡ entry_of h n
  entry_named n apart = by (number_at g.uses n.at) apart ∙ ap (option_and_then (slice_get h.entries)) (number_same g h n alike)
    where
      by : (k : Option ℕ) → is_counter (option_and_then (slice_get g.origins) k) ≡ false → option_and_then (slice_get g.entries) k ≡ option_and_then (slice_get h.entries) k
      by None apart = refl
      by (Some d) apart = but_counters text t g h has is_g is_h d apart

  same_known : (n : Name) → SameKnown g h n
  same_known n = record { number = number_same g h n alike; origin = origin_same g h n alike; entry = λ read. entry_named n (read_plain (origin_of g n) read) }

  all_same : (ns : List Name) → SameKnownEach g h ns
  all_same [] = tt
  all_same (n ∷ ns) = (same_known n, all_same ns)

  -- the mode of what a name defines is the same
  abbrev pub SameMode : Name → Type 0
  SameMode n = mode_defined g n ≡ mode_defined h n

  pub mode_same : (n : Name) (k : ℕ) → number_at h.defined n.at ≡ Some k → is_counter (slice_get h.origins k) ≡ false → SameMode n
  mode_same n k number apart =
      ap (λ ds. mode_of_entry (option_and_then (slice_get g.entries) (number_at ds n.at))) alike.defined
      ∙ (ap (λ x. mode_of_entry (option_and_then (slice_get g.entries) x)) number
      ∙ (ap mode_of_entry (but_counters text t g h has is_g is_h k (ap (λ os. is_counter (slice_get os k)) alike.origins ∙ apart))
      ∙ ap (λ x. mode_of_entry (option_and_then (slice_get h.entries) x)) (sym number)))

  expr_same : (e : ExprTree) → told_of_constants g e ≡ told_of_constants h e
  expr_same e = told_constant_frame g h by_itself None e (all_same (names_in e))

  some_same : (e : Option ExprTree) → told_of_some_constants g e ≡ told_of_some_constants h e
  some_same None = refl
  some_same (Some e) = expr_same e

  exprs_same : (es : List ExprTree) → flat_map (told_of_constants g) es ≡ flat_map (told_of_constants h) es
  exprs_same [] = refl
  exprs_same (e ∷ es) = two_lists (expr_same e) (exprs_same es)

  needed_same : (e : ExprTree) → told_needed g e ≡ told_needed h e
  needed_same e =
      ap (λ ds. then_told ds (told_if (not (has_form g false e)) (tell_at rules.M1 (place_of e)))) (expr_same e)
      ∙ ap (λ b. then_told (told_of_constants h e) (told_if (not b) (tell_at rules.M1 (place_of e)))) (form_frame g h false e (all_same (names_in e)))

  some_needed_same : (e : Option ExprTree) → told_some_needed g e ≡ told_some_needed h e
  some_needed_same None = refl
  some_needed_same (Some e) = needed_same e

  each_needed_same : (es : List ExprTree) → flat_map (told_needed g) es ≡ flat_map (told_needed h) es
  each_needed_same [] = refl
  each_needed_same (e ∷ es) = two_lists (needed_same e) (each_needed_same es)

  mode_told_same : (whole : Bool) (m : written.ModeTree) → told_of_mode g whole m ≡ told_of_mode h whole m
  mode_told_same whole m = told_mode_frame g h whole m alike.defined (all_same (names_in_mode m))

  some_mode_same : (m : Option written.ModeTree) → told_of_some_mode g m ≡ told_of_some_mode h m
  some_mode_same None = refl
  some_mode_same (Some m) = mode_told_same false m

  without_value_same : (i : Option InitialTree) (ns : List Name) → Each SameMode ns → flat_map (told_without_value g i) ns ≡ flat_map (told_without_value h i) ns
  without_value_same i [] all = refl
  without_value_same i (n ∷ ns) all = two_lists (one i n all.0) (without_value_same i ns all.1)
    where
      one : (i : Option InitialTree) (n : Name) → SameMode n → told_without_value g i n ≡ told_without_value h i n
      one (Some i) n same = refl
      one None n same = ap (λ m. told_if (holds_of holds_read m) (tell n.at rules.M9 n.text)) same

  shared_same : (before : ℕ) (ns : List Name) → Each SameMode ns → told_shared g before ns ≡ told_shared h before ns
  shared_same before [] all = refl
  shared_same before (n ∷ ns) all =
      ap (λ m. if nat_lt 65536 (before + scalars_in_mode m) then tell_at rules.L7 n.at ∷ [] else told_shared g (before + scalars_in_mode m) ns) all.0
      ∙ ap (λ ds. if nat_lt 65536 (before + scalars_named h n) then tell_at rules.L7 n.at ∷ [] else ds) (shared_same (before + scalars_named h n) ns all.1)

  abbrev pub SiteSame : Site → Type 0
  SiteSame (at_declaration shared d) = Each SameMode d.names
  SiteSame (at_program shared) = Each SameMode shared
  SiteSame n = Unit {0}

  pub site_same : (n : Site) → SiteSame n → modes_told_at g n ≡ modes_told_at h n
  site_same (at_synonym s) same = two_lists (some_mode_same s.mode) (told_synonym_frame g h s alike.defined (all_same (names_in_some_mode s.mode)) (all_same (names_in s.value)))
  site_same (at_mode_definition d) same = mode_told_same true d.mode
  site_same (at_declaration shared d) same = two_lists (two_lists (mode_told_same true d.mode) (without_value_same d.initial d.names same)) (some_same (initial_expr d.initial))
  site_same (at_mode m) same = mode_told_same false m
  site_same (at_simple a s) same = two_lists (exprs_same (exprs_of_simple s)) (some_needed_same (priority_of s))
  site_same (at_condition e) same = expr_same e
  site_same (at_selector e) same = expr_same e
  site_same (at_labels e ls) same = each_needed_same (exprs_of_labels ls)
  site_same (at_control c) same = exprs_same (exprs_of_control c)
  site_same (at_set e) same = expr_same e
  site_same (at_priority e) same = needed_same e
  site_same (at_program shared) same = shared_same 0 shared same
  site_same (at_item kind all i) same = refl
  site_same (at_event earlier n) same = refl
  site_same (at_source earlier n) same = refl
  site_same (at_received n names) same = refl
  site_same (at_exceptions earlier ns) same = refl
  site_same (at_body n locals) same = refl
