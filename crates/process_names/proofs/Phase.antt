-- What the walk tells are the lines of the phase of processes without P6 and P7.
use Rattle.std.proofs.Common.{◌≡◌, Bool, true, false, List, [], ◌∷◌, ◌++◌, refl, sym, ap, ◌∙◌, subst, append_assoc, append-nil, Option, Some, None}
use Rattle.std.specs.Prelude.{map, flat_map, option_map, not, if◌then◌else◌}
use Rattle.std.proofs.lemmas.Grind.{flat_map-append}
use Rattle.chill_tree.specs.declared.tree.name.Name.{Name}
use Rattle.chill_tree.specs.declared.tree.item.ModulionKind.{ModulionKind}
use Rattle.chill_tree.specs.ExprTree.{ExprTree, ExprNodes, RangeTree, RangeNodes, whole, character, text, this_instance, paren, receive, start, tuple, uniform, name, apply, field, prefixed, binary, no_exprs, more_exprs, alone, between, no_ranges, more_ranges, expr_nodes}
use Rattle.chill_tree.specs.ModeTree as written
use Rattle.chill_tree.specs.LocalTree.{SynonymTree, ModeDefinitionTree, InitialTree, DeclarationTree, LocalTree, synonyms, syn_modes, new_modes, locations}
use Rattle.chill_tree.specs.SimpleTree.{SimpleTree, assign, update, call_of, exit, return_with, result_of, assert_that, cause, stop, start_of, delay, continue_event, send, ControlTree, while_holds, for_ever, for_members, for_steps}
use Rattle.chill_tree.specs.StatementTree.{StatementTree, BracketedTree, StatementNodes, ElsIfNodes, CaseNodes, NamedNodes, ReceiveNodes, OtherwiseNode, HandlerNode, BodyNodes, HandlerTree, BodyTree, empty, simple, bracketed, if_then, case_of, do_loop, begin_end, delay_case, receive_case, no_statements, more_statements, no_branches, more_branches, no_cases, more_cases, no_named, more_named, no_receives, more_receives, no_otherwise, otherwise, no_handler, handler, no_parts, more_locals, more_actions, handler_node, body_nodes}
use Rattle.chill_tree.specs.ItemTree.{SignalTree, ParamTree, ProcedureTree, FormalTree, ProcessTree, ItemTree, ItemNodes, seize, grant, local_item, signals, procedure, process, modulion, action, no_items, more_items, items_in, ModulionTree, modulion_item}
use Rattle.diagnostics.specs.declared.diagnostic.Diagnostic.{Diagnostic}
use Rattle.diagnostics.specs.declared.rule.Rule.TheVariants as rules
use Rattle.diagnostics.specs.Listing.{SameMembers}
use Rattle.names_model.specs.NameRules.{tell}
use Rattle.checks_model.specs.Ground.{Ground, mode_of_entry, entry_defined}
use Rattle.checks_model.specs.Told.{told_if, holds_of}
use Rattle.checks_model.specs.ProcessRules.{meeting_of, is_region, told_item, for_events, for_messages, for_signals}
use Rattle.checks_model.specs.ProcessRules as model
use Rattle.checks_model.specs.Phases.{some_expr, some_exprs, exprs_of_simple, exprs_of_control, exprs_of_label, exprs_of_labels, exprs_of_discrete, exprs_of_index, exprs_of_place, exprs_of_some_place, exprs_of_spread, exprs_of_base, exprs_of_fields, exprs_of_mode, exprs_of_some_mode, initial_expr, sources_in, sources_in_each, sources_in_range, sources_in_ranges, told_met, told_some_met}
use Rattle.checks_model.specs.Phases as phases
use Rattle.checks_model.specs.Sites.{Site, Around, in_procedure, in_no_procedure, at_item, at_synonym, at_mode_definition, at_declaration, at_mode, at_simple, at_condition, at_selector, at_labels, at_control, at_set, at_priority, at_event, at_source, at_received, at_exceptions, at_body, sites_of_local, some_site, events_listed, sites_of, sites_of_bracketed, sites_of_each, sites_of_branches, sites_of_cases, sites_of_events, sites_of_receives, sites_of_otherwise, sites_of_handler, sites_of_exceptions, sites_of_parts, sites_of_modes, sites_of_result, sites_of_body, locals_of_body, sites_of_procedure, sites_of_process, sites_of_item, sites_of_items}
use Rattle.met_names.specs.declared.meeting.Meeting.{Meeting}
use Rattle.met_names.specs.declared.meeting.Meeting.TheVariants as meetings
use Rattle.met_names.specs.declared.purpose.Purpose.{Purpose}
use Rattle.met_names.specs.declared.purpose.Purpose.TheVariants as purposes
use Rattle.met_names.specs.Facts.{Facts, number_of, met_at, declared_at, fits, told_misfit, told_source}
use Rattle.met_names.specs.Sources.{over_expr, over_each, over_range, over_ranges, over_some, over_all, over_some_all, over_labels, over_discrete, over_index, over_place, over_some_place, over_spread, over_base, over_fields, over_mode, over_some_mode}
use Rattle.process_names.specs.Rules.{told_place, told_grant, told_grants, told_local, is_event_or_buffer}
use Rattle.process_names.specs.Heard.{Heard, nothing_heard, told_heard, told_listed, told_names, heard_name, heard_names, told_events, told_sources}
use Rattle.process_names.specs.Walk.{purpose_of_send, over_synonym, over_initial, over_declaration, over_definition, over_local, declared_names, over_local_of_body, over_simple, over_control, over_statement, over_bracketed, over_actions, over_branches, over_cases, over_receives, over_otherwise, over_handler, over_named, over_body, over_some_modes, over_signal, over_param, over_formal, whole_body, over_procedure, over_process, inside_item, over_items}
use Rattle.wait_exprs.specs.Split.{names_told_at}
use Rattle.process_names.specs.Phase.{as_met, AreFactsOf, NamesLaw}
use Rattle.wait_exprs.proofs.Same.{same, after, swapped, three_left, four_left, joined, begun, passed, equal_on}
use Rattle.process_names.proofs.HeardLists.{Hears, hears_none, hears_name, listed_alike}

abbrev as_purpose : Purpose → model.Purpose
as_purpose purposes.Events = for_events
as_purpose purposes.Messages = for_messages
as_purpose purposes.Signals = for_signals

fits_alike : (p : Purpose) (m : Meeting) → fits p m ≡ model.fits (as_purpose p) (as_met m)
fits_alike purposes.Events meetings.Event = refl
fits_alike purposes.Events meetings.Buffer = refl
fits_alike purposes.Events meetings.Signal = refl
fits_alike purposes.Events meetings.Other = refl
fits_alike purposes.Messages meetings.Event = refl
fits_alike purposes.Messages meetings.Buffer = refl
fits_alike purposes.Messages meetings.Signal = refl
fits_alike purposes.Messages meetings.Other = refl
fits_alike purposes.Signals meetings.Event = refl
fits_alike purposes.Signals meetings.Buffer = refl
fits_alike purposes.Signals meetings.Signal = refl
fits_alike purposes.Signals meetings.Other = refl

misfit_holds : (p : Purpose) (o : Option Meeting) → holds_of (λ m. not (fits p m)) o ≡ holds_of (λ m. not (model.fits (as_purpose p) m)) (option_map as_met o)
misfit_holds p None = refl
misfit_holds p (Some m) = ap not (fits_alike p m)

shared_holds : (o : Option Meeting) → holds_of is_event_or_buffer o ≡ holds_of model.is_event_or_buffer (option_map as_met o)
shared_holds None = refl
shared_holds (Some meetings.Event) = refl
shared_holds (Some meetings.Buffer) = refl
shared_holds (Some meetings.Signal) = refl
shared_holds (Some meetings.Other) = refl

holds-map : {A B : Type 0} (test : B → Bool) (h : A → B) (o : Option A) → holds_of test (option_map h o) ≡ holds_of (λ a. test (h a)) o
holds-map test h None = refl
holds-map test h (Some a) = refl

-- ---- expressions

-- what is told of the names from which an expression receives, one behind the other
module _ {A : Type 0} (at : Name → List A) where
  two : (xs ys : List A) (ns ms : List Name) → xs ≡ flat_map at ns → ys ≡ flat_map at ms → xs ++ ys ≡ flat_map at (ns ++ ms)
  two xs ys ns ms e d = ap (λ zs. zs ++ ys) e ∙ ap (λ zs. flat_map at ns ++ zs) d ∙ sym (flat_map-append at ns ms)

  mutual
    pub expr_sources : (e : ExprTree) → over_expr at e ≡ flat_map at (sources_in e)
    expr_sources (whole p n) = refl
    expr_sources (character p n) = refl
    expr_sources (text p n) = refl
    expr_sources (this_instance p) = refl
    expr_sources (name n) = refl
    expr_sources (paren p e) = expr_sources e
    expr_sources (receive p n) = sym (append-nil (at n))
    expr_sources (start p n es) = each_sources es
    expr_sources (tuple p m b rs) = ranges_sources rs
    expr_sources (uniform p m b e) = expr_sources e
    expr_sources (apply p e es) = two (over_expr at e) (over_each at es) (sources_in e) (sources_in_each es) (expr_sources e) (each_sources es)
    expr_sources (field p e n) = expr_sources e
    expr_sources (prefixed p o e) = expr_sources e
    expr_sources (binary p l o q r) = two (over_expr at l) (over_expr at r) (sources_in l) (sources_in r) (expr_sources l) (expr_sources r)

    each_sources : (es : ExprNodes) → over_each at es ≡ flat_map at (sources_in_each es)
    each_sources no_exprs = refl
    each_sources (more_exprs e es) = two (over_expr at e) (over_each at es) (sources_in e) (sources_in_each es) (expr_sources e) (each_sources es)

    range_sources : (r : RangeTree) → over_range at r ≡ flat_map at (sources_in_range r)
    range_sources (alone e) = expr_sources e
    range_sources (between l h) = two (over_expr at l) (over_expr at h) (sources_in l) (sources_in h) (expr_sources l) (expr_sources h)

    ranges_sources : (rs : RangeNodes) → over_ranges at rs ≡ flat_map at (sources_in_ranges rs)
    ranges_sources no_ranges = refl
    ranges_sources (more_ranges r rs) = two (over_range at r) (over_ranges at rs) (sources_in_range r) (sources_in_ranges rs) (range_sources r) (ranges_sources rs)

module _ (f : Facts) (g : Ground) (facts : AreFactsOf f g) where
  misfit : (p : Purpose) (n : Name) → told_misfit f p n ≡ model.told_misfit g (as_purpose p) n
  misfit p n = ap (λ b. told_if b (tell n.at rules.P3 n.text)) (misfit_holds p (met_at f n) ∙ ap (holds_of (λ m. not (model.fits (as_purpose p) m))) (sym (facts.used n)))

  local_told : (n : Name) → told_local f n ≡ model.told_local g n
  local_told n =
      ap (λ b. told_if b (tell n.at rules.P8 n.text))
      (shared_holds (declared_at f n) ∙ ap (holds_of model.is_event_or_buffer) (sym (facts.declared n)) ∙ holds-map model.is_event_or_buffer meeting_of (mode_of_entry (entry_defined g n)))

  abbrev S : Name → List Diagnostic
  S = told_source f

  abbrev T : ExprTree → List Diagnostic
  T = told_met g

  abbrev N : Site → List Diagnostic
  N = names_told_at g

  expr : (e : ExprTree) → over_expr S e ≡ T e
  expr e = expr_sources S e ∙ equal_on (model.told_misfit g for_messages) S (misfit purposes.Messages) (sources_in e)

  -- expressions one behind the other
  one : (e : ExprTree) → over_expr S e ≡ flat_map T (e ∷ [])
  one e = expr e ∙ sym (append-nil (T e))

  pair : (xs ys : List Diagnostic) (es ds : List ExprTree) → xs ≡ flat_map T es → ys ≡ flat_map T ds → xs ++ ys ≡ flat_map T (es ++ ds)
  pair xs ys es ds p q = ap (λ zs. zs ++ ys) p ∙ ap (λ zs. flat_map T es ++ zs) q ∙ sym (flat_map-append T es ds)

  some : (e : Option ExprTree) → over_some S e ≡ flat_map T (some_expr e)
  some None = refl
  some (Some e) = one e

  some_met : (e : Option ExprTree) → over_some S e ≡ told_some_met g e
  some_met None = refl
  some_met (Some e) = expr e

  all : (es : List ExprTree) → over_all S es ≡ flat_map T es
  all [] = refl
  all (e ∷ es) = ap (λ xs. xs ++ over_all S es) (expr e) ∙ ap (λ xs. T e ++ xs) (all es)

  some_all : (es : Option (List ExprTree)) → over_some_all S es ≡ flat_map T (some_exprs es)
  some_all None = refl
  some_all (Some es) = all es

  range : (r : RangeTree) → over_range S r ≡ flat_map T (exprs_of_label r)
  range (alone e) = one e
  range (between l h) = pair (over_expr S l) (over_expr S h) (l ∷ []) (h ∷ []) (one l) (one h)

  labels : (ls : List RangeTree) → over_labels S ls ≡ flat_map T (exprs_of_labels ls)
  labels [] = refl
  labels (l ∷ ls) = pair (over_range S l) (over_labels S ls) (exprs_of_label l) (exprs_of_labels ls) (range l) (labels ls)

  -- ---- modes

  bounds : (l h : ExprTree) → over_expr S l ++ over_expr S h ≡ flat_map T (l ∷ h ∷ [])
  bounds l h = pair (over_expr S l) (over_expr S h) (l ∷ []) (h ∷ []) (one l) (one h)

  discrete : (d : written.DiscreteTree) → over_discrete S d ≡ flat_map T (exprs_of_discrete d)
  discrete (written.named n) = refl
  discrete (written.bounded n l h) = bounds l h
  discrete (written.set_of p ns) = refl

  index : (i : written.IndexTree) → over_index S i ≡ flat_map T (exprs_of_index i)
  index (written.index_named n) = refl
  index (written.index_bounded l h) = bounds l h

  place : (p : written.PlaceTree) → over_place S p ≡ flat_map T (exprs_of_place p)
  place p = pair (over_expr S p.word) (over_expr S p.start ++ over_expr S p.bound) (p.word ∷ []) (p.start ∷ p.bound ∷ []) (one p.word) (bounds p.start p.bound)

  some_place : (p : Option written.PlaceTree) → over_some_place S p ≡ flat_map T (exprs_of_some_place p)
  some_place None = refl
  some_place (Some p) = place p

  spread : (s : Option written.SpreadTree) → over_spread S s ≡ flat_map T (exprs_of_spread s)
  spread None = refl
  spread (Some (written.by_packing p)) = refl
  spread (Some (written.by_step s)) = pair (over_place S s.place) (over_expr S s.distance) (exprs_of_place s.place) (s.distance ∷ []) (place s.place) (one s.distance)

  mutual
    base : (b : written.BaseTree) → over_base S b ≡ flat_map T (exprs_of_base b)
    base (written.discrete d) = discrete d
    base (written.powerset p d) = discrete d
    base (written.chars p e) = one e
    base (written.structure p fs q) = fields fs
    base (written.array p i b s) =
        three_left (over_index S i) (over_base S b) (over_spread S s)
        ∙ pair (over_index S i ++ over_base S b) (over_spread S s) (exprs_of_index i ++ exprs_of_base b) (exprs_of_spread s) (pair (over_index S i) (over_base S b) (exprs_of_index i) (exprs_of_base b) (index i) (base b)) (spread s)

    fields : (fs : written.FieldNodes) → over_fields S fs ≡ flat_map T (exprs_of_fields fs)
    fields written.no_fields = refl
    fields (written.more_fields ns b p fs) =
        pair (over_base S b ++ over_some_place S p) (over_fields S fs) (exprs_of_base b ++ exprs_of_some_place p) (exprs_of_fields fs) (pair (over_base S b) (over_some_place S p) (exprs_of_base b) (exprs_of_some_place p) (base b) (some_place p)) (fields fs)

  mode : (m : written.ModeTree) → over_mode S m ≡ flat_map T (exprs_of_mode m)
  mode (written.base_mode b) = base b
  mode (written.read_mode p b) = base b
  mode (written.event_mode p l) = some l
  mode (written.buffer_mode p l b) = pair (over_some S l) (over_base S b) (some_expr l) (exprs_of_base b) (some l) (base b)

  some_mode : (m : Option written.ModeTree) → over_some_mode S m ≡ flat_map T (exprs_of_some_mode m)
  some_mode None = refl
  some_mode (Some m) = mode m

  -- ---- definition statements

  synonym : (s : SynonymTree) → over_synonym f s ≡ N (at_synonym s)
  synonym s = ap (λ xs. xs ++ over_expr S s.value) (some_mode s.mode) ∙ ap (λ xs. flat_map T (exprs_of_some_mode s.mode) ++ xs) (expr s.value)

  definition : (d : ModeDefinitionTree) → over_definition f d ≡ N (at_mode_definition d)
  definition d = mode d.mode

  initial : (i : Option InitialTree) → over_initial f i ≡ told_some_met g (initial_expr i)
  initial None = refl
  initial (Some i) = expr i.value

  declaration : (d : DeclarationTree) → over_declaration f d ≡ N (at_declaration true d)
  declaration d = ap (λ xs. xs ++ over_initial f d.initial) (mode d.mode) ∙ ap (λ xs. flat_map T (exprs_of_mode d.mode) ++ xs) (initial d.initial)

  each-map : {X : Type 0} (h : X → List Diagnostic) (to : X → Site) → ((x : X) → h x ≡ N (to x)) → (xs : List X) → flat_map h xs ≡ flat_map N (map to xs)
  each-map h to e [] = refl
  each-map h to e (x ∷ xs) = ap (λ ys. ys ++ flat_map h xs) (e x) ∙ ap (λ ys. N (to x) ++ ys) (each-map h to e xs)

  local : (l : LocalTree) → over_local f l ≡ flat_map N (sites_of_local true l)
  local (synonyms p ss) = each-map (over_synonym f) at_synonym synonym ss
  local (syn_modes p ds) = each-map (over_definition f) at_mode_definition definition ds
  local (new_modes p ds) = each-map (over_definition f) at_mode_definition definition ds
  local (locations p ds) = each-map (over_declaration f) (at_declaration true) declaration ds

  own_names : (ns : List Name) → declared_names f ns ≡ flat_map (model.told_local g) ns
  own_names ns = equal_on (model.told_local g) (told_local f) local_told ns

  own_declaration : (d : DeclarationTree) → declared_names f d.names ++ over_declaration f d ≡ N (at_declaration false d)
  own_declaration d =
      ap (λ xs. xs ++ over_declaration f d) (own_names d.names)
      ∙ ap (λ xs. flat_map (model.told_local g) d.names ++ xs) (declaration d)
      ∙ three_left (flat_map (model.told_local g) d.names) (flat_map T (exprs_of_mode d.mode)) (told_some_met g (initial_expr d.initial))

  own_declarations : (ds : List DeclarationTree) → SameMembers (flat_map (λ d. declared_names f d.names) ds ++ flat_map (over_declaration f) ds) (flat_map N (map (at_declaration false) ds))
  own_declarations [] = same [] [] refl
  own_declarations (d ∷ ds) =
      let a = declared_names f d.names in let b = flat_map (λ (e : DeclarationTree). declared_names f e.names) ds in
      let c = over_declaration f d in let e = flat_map (over_declaration f) ds in
      after ((a ++ b) ++ (c ++ e)) ((a ++ c) ++ (b ++ e)) (N (at_declaration false d) ++ flat_map N (map (at_declaration false) ds)) (swapped a b c e)
      (begun N (a ++ c) (b ++ e) (at_declaration false d) (map (at_declaration false) ds) (own_declaration d) (own_declarations ds))

  local_of_body : (l : LocalTree) → SameMembers (over_local_of_body f l) (flat_map N (sites_of_local false l))
  local_of_body (synonyms p ss) = same (over_local f (synonyms p ss)) (flat_map N (sites_of_local false (synonyms p ss))) (local (synonyms p ss))
  local_of_body (syn_modes p ds) = same (over_local f (syn_modes p ds)) (flat_map N (sites_of_local false (syn_modes p ds))) (local (syn_modes p ds))
  local_of_body (new_modes p ds) = same (over_local f (new_modes p ds)) (flat_map N (sites_of_local false (new_modes p ds))) (local (new_modes p ds))
  local_of_body (locations p ds) = own_declarations ds

  -- ---- actions

  send_purpose : (to : Option ExprTree) → as_purpose (purpose_of_send to) ≡ phases.purpose_of_send to
  send_purpose None = refl
  send_purpose (Some e) = refl

  simple_told : (a : Around) (s : SimpleTree) → over_simple f s ≡ N (at_simple a s)
  simple_told a (assign p t v) = bounds t v ∙ sym (append-nil (flat_map T (t ∷ v ∷ [])))
  simple_told a (update p t o q v) = bounds t v ∙ sym (append-nil (flat_map T (t ∷ v ∷ [])))
  simple_told a (call_of p word n es) = one (apply n.at (name n) (expr_nodes es)) ∙ sym (append-nil (flat_map T (apply n.at (name n) (expr_nodes es) ∷ [])))
  simple_told a (exit p n) = refl
  simple_told a (return_with p v) = some v ∙ sym (append-nil (flat_map T (some_expr v)))
  simple_told a (result_of p v) = one v ∙ sym (append-nil (flat_map T (v ∷ [])))
  simple_told a (assert_that p c) = one c ∙ sym (append-nil (flat_map T (c ∷ [])))
  simple_told a (cause p n) = refl
  simple_told a (stop p) = refl
  simple_told a (start_of p n es) = all es ∙ sym (append-nil (flat_map T es))
  simple_told a (delay p n c) =
      ap (λ xs. xs ++ over_some S c) (misfit purposes.Events n) ∙ ap (λ xs. model.told_misfit g for_events n ++ xs) (some_met c)
      ∙ ap (λ xs. xs ++ told_some_met g c) (sym (append-nil (model.told_misfit g for_events n)))
  simple_told a (continue_event p n) = misfit purposes.Events n ∙ sym (append-nil (model.told_misfit g for_events n)) ∙ sym (append-nil (model.told_misfit g for_events n ++ []))
  simple_told a (send p n es to c) =
      let m = model.told_misfit g (phases.purpose_of_send to) n in
      ap (λ xs. xs ++ (over_some_all S es ++ (over_some S to ++ over_some S c))) (misfit (purpose_of_send to) n ∙ ap (λ q. model.told_misfit g q n) (send_purpose to))
      ∙ ap (λ xs. m ++ xs) (three_left (over_some_all S es) (over_some S to) (over_some S c))
      ∙ ap (λ xs. m ++ (xs ++ over_some S c)) (pair (over_some_all S es) (over_some S to) (some_exprs es) (some_expr to) (some_all es) (some to))
      ∙ ap (λ xs. m ++ (flat_map T (some_exprs es ++ some_expr to) ++ xs)) (some_met c)
      ∙ three_left m (flat_map T (some_exprs es ++ some_expr to)) (told_some_met g c)

  control : (c : ControlTree) → over_control f c ≡ N (at_control c)
  control (while_holds p c) = one c
  control (for_ever p) = refl
  control (for_members p n s c) = pair (over_expr S s) (over_some S c) (s ∷ []) (some_expr c) (one s) (some c)
  control (for_steps p n s b down e c) =
      three_left (over_expr S s) (over_some S b) (over_expr S e ++ over_some S c)
      ∙ pair (over_expr S s ++ over_some S b) (over_expr S e ++ over_some S c) (s ∷ some_expr b) (e ∷ some_expr c) (pair (over_expr S s) (over_some S b) (s ∷ []) (some_expr b) (one s) (some b)) (pair (over_expr S e) (over_some S c) (e ∷ []) (some_expr c) (one e) (some c))

  -- ---- what DELAY CASE and RECEIVE CASE list

  listed_told : (p : Purpose) (earlier : List Name) (h : Heard) (n : Name) → Hears f earlier h → told_listed f p h n ≡ model.told_misfit g (as_purpose p) n ++ model.told_listed g earlier n
  listed_told p earlier h n hears =
      ap (λ xs. xs ++ told_heard h (number_of f n) (met_at f n) n) (misfit p n) ∙ ap (λ xs. model.told_misfit g (as_purpose p) n ++ xs) (listed_alike f g facts earlier h n hears)

  names_listed : (ns earlier : List Name) (h : Heard) → Hears f earlier h → told_names f h ns ≡ flat_map N (events_listed earlier ns)
  names_listed [] earlier h hears = refl
  names_listed (n ∷ ns) earlier h hears =
      ap (λ xs. xs ++ told_names f (heard_name f h n) ns) (listed_told purposes.Events earlier h n hears)
      ∙ ap (λ xs. N (at_event earlier n) ++ xs) (names_listed ns (earlier ++ n ∷ []) (heard_name f h n) (hears_name f earlier h n hears))

  names_heard : (ns earlier : List Name) (h : Heard) → Hears f earlier h → Hears f (earlier ++ ns) (heard_names f h ns)
  names_heard [] earlier h hears = subst (λ xs. Hears f xs h) (sym (append-nil earlier)) hears
  names_heard (n ∷ ns) earlier h hears =
      subst (λ xs. Hears f xs (heard_names f (heard_name f h n) ns)) (append_assoc earlier (n ∷ []) ns) (names_heard ns (earlier ++ n ∷ []) (heard_name f h n) (hears_name f earlier h n hears))

  some_at : (to : ExprTree → Site) → ((e : ExprTree) → T e ≡ N (to e)) → (e : Option ExprTree) → over_some S e ≡ flat_map N (some_site to e)
  some_at to is None = refl
  some_at to is (Some e) = expr e ∙ is e ∙ sym (append-nil (N (to e)))

  -- ---- statements

  module _ (a : Around) where
    mutual
      statement : (s : StatementTree) → SameMembers (over_statement f s) (flat_map N (sites_of a s))
      statement (empty p) = same [] [] refl
      statement (simple p s h) = begun N (over_simple f s) (over_handler f h) (at_simple a s) (sites_of_handler a h) (simple_told a s) (handler_told h)
      statement (bracketed p l s h closing) = joined N (over_bracketed f s) (over_handler f h) (sites_of_bracketed a s) (sites_of_handler a h) (bracketed_told s) (handler_told h)

      bracketed_told : (s : BracketedTree) → SameMembers (over_bracketed f s) (flat_map N (sites_of_bracketed a s))
      bracketed_told (if_then p c ss bs o) =
          let e = over_expr S c in let x = over_actions f ss in let b = over_branches f bs in let z = over_otherwise f o in
          let es = sites_of_each a ss in let bt = sites_of_branches a bs in let zt = sites_of_otherwise a o in
          after (e ++ (x ++ (b ++ z))) (((e ++ x) ++ b) ++ z) (flat_map N (((at_condition c ∷ es) ++ bt) ++ zt)) (same (e ++ (x ++ (b ++ z))) (((e ++ x) ++ b) ++ z) (four_left e x b z))
          (joined N ((e ++ x) ++ b) z ((at_condition c ∷ es) ++ bt) zt (joined N (e ++ x) b (at_condition c ∷ es) bt (begun N e x (at_condition c) es (expr c) (each_told ss)) (branches_told bs)) (otherwise_told o))
      bracketed_told (case_of p e as' o) =
          let x = over_expr S e in let c = over_cases f as' in let z = over_otherwise f o in
          let ct = sites_of_cases a e as' in let zt = sites_of_otherwise a o in
          after (x ++ (c ++ z)) ((x ++ c) ++ z) (flat_map N ((at_selector e ∷ ct) ++ zt)) (same (x ++ (c ++ z)) ((x ++ c) ++ z) (three_left x c z))
          (joined N (x ++ c) z (at_selector e ∷ ct) zt (begun N x c (at_selector e) ct (expr e) (cases_told as' e)) (otherwise_told o))
      bracketed_told (do_loop p c ss) = begun N (over_control f c) (over_actions f ss) (at_control c) (sites_of_each a ss) (control c) (each_told ss)
      bracketed_told (begin_end p ps) = parts_told ps
      bracketed_told (delay_case p set c as') =
          let x = over_some S set in let q = over_some S c in let r = told_events f nothing_heard as' ++ over_named f as' in
          let xt = some_site at_set set in let qt = some_site at_priority c in let rt = sites_of_events a [] as' in
          after (x ++ (q ++ r)) ((x ++ q) ++ r) (flat_map N ((xt ++ qt) ++ rt)) (same (x ++ (q ++ r)) ((x ++ q) ++ r) (three_left x q r))
          (joined N (x ++ q) r (xt ++ qt) rt
          (joined N x q xt qt (same x (flat_map N xt) (some_at at_set (λ e. refl) set)) (same q (flat_map N qt) (some_at at_priority (λ e. refl) c)))
          (events_told as' [] nothing_heard (hears_none f)))
      bracketed_told (receive_case p set as' o) =
          let x = over_some S set in let t = told_sources f nothing_heard as' in let r = over_receives f as' in let z = over_otherwise f o in
          let xt = some_site at_set set in let rt = sites_of_receives a [] as' in let zt = sites_of_otherwise a o in
          after (x ++ (t ++ (r ++ z))) ((x ++ (t ++ r)) ++ z) (flat_map N ((xt ++ rt) ++ zt))
          (same (x ++ (t ++ (r ++ z))) ((x ++ (t ++ r)) ++ z) (ap (λ ys. x ++ ys) (three_left t r z) ∙ three_left x (t ++ r) z))
          (joined N (x ++ (t ++ r)) z (xt ++ rt) zt
          (joined N x (t ++ r) xt rt (same x (flat_map N xt) (some_at at_set (λ e. refl) set)) (receives_told as' [] nothing_heard (hears_none f))) (otherwise_told o))

      each_told : (ss : StatementNodes) → SameMembers (over_actions f ss) (flat_map N (sites_of_each a ss))
      each_told no_statements = same [] [] refl
      each_told (more_statements s ss) = joined N (over_statement f s) (over_actions f ss) (sites_of a s) (sites_of_each a ss) (statement s) (each_told ss)

      branches_told : (bs : ElsIfNodes) → SameMembers (over_branches f bs) (flat_map N (sites_of_branches a bs))
      branches_told no_branches = same [] [] refl
      branches_told (more_branches p c ss bs) =
          joined N (over_expr S c ++ over_actions f ss) (over_branches f bs) (at_condition c ∷ sites_of_each a ss) (sites_of_branches a bs)
          (begun N (over_expr S c) (over_actions f ss) (at_condition c) (sites_of_each a ss) (expr c) (each_told ss)) (branches_told bs)

      cases_told : (as' : CaseNodes) (e : ExprTree) → SameMembers (over_cases f as') (flat_map N (sites_of_cases a e as'))
      cases_told no_cases e = same [] [] refl
      cases_told (more_cases p ls ss as') e =
          joined N (over_labels S ls ++ over_actions f ss) (over_cases f as') (at_labels e ls ∷ sites_of_each a ss) (sites_of_cases a e as')
          (begun N (over_labels S ls) (over_actions f ss) (at_labels e ls) (sites_of_each a ss) (labels ls) (each_told ss)) (cases_told as' e)

      events_told : (as' : NamedNodes) (earlier : List Name) (h : Heard) → Hears f earlier h → SameMembers (told_events f h as' ++ over_named f as') (flat_map N (sites_of_events a earlier as'))
      events_told no_named earlier h hears = same [] [] refl
      events_told (more_named p ns ss as') earlier h hears =
          let x = told_names f h ns in let y = told_events f (heard_names f h ns) as' in let u = over_actions f ss in let v = over_named f as' in
          let xt = events_listed earlier ns in let ut = sites_of_each a ss in let yt = sites_of_events a (earlier ++ ns) as' in
          after ((x ++ y) ++ (u ++ v)) ((x ++ u) ++ (y ++ v)) (flat_map N ((xt ++ ut) ++ yt)) (swapped x y u v)
          (joined N (x ++ u) (y ++ v) (xt ++ ut) yt (joined N x u xt ut (same x (flat_map N xt) (names_listed ns earlier h hears)) (each_told ss))
          (events_told as' (earlier ++ ns) (heard_names f h ns) (names_heard ns earlier h hears)))

      receives_told : (as' : ReceiveNodes) (earlier : List Name) (h : Heard) → Hears f earlier h → SameMembers (told_sources f h as' ++ over_receives f as') (flat_map N (sites_of_receives a earlier as'))
      receives_told no_receives earlier h hears = same [] [] refl
      receives_told (more_receives p n r ss as') earlier h hears =
          let x = told_listed f purposes.Messages h n in let y = told_sources f (heard_name f h n) as' in let u = over_actions f ss in let v = over_receives f as' in
          let ut = sites_of_each a ss in let yt = sites_of_receives a (earlier ++ n ∷ []) as' in
          after ((x ++ y) ++ (u ++ v)) ((x ++ u) ++ (y ++ v)) (flat_map N ((at_source earlier n ∷ at_received n r ∷ ut) ++ yt)) (swapped x y u v)
          (joined N (x ++ u) (y ++ v) (at_source earlier n ∷ at_received n r ∷ ut) yt
          (begun N x u (at_source earlier n) (at_received n r ∷ ut) (listed_told purposes.Messages earlier h n hears) (passed N u (at_received n r) ut refl (each_told ss)))
          (receives_told as' (earlier ++ n ∷ []) (heard_name f h n) (hears_name f earlier h n hears)))

      otherwise_told : (o : OtherwiseNode) → SameMembers (over_otherwise f o) (flat_map N (sites_of_otherwise a o))
      otherwise_told no_otherwise = same [] [] refl
      otherwise_told (otherwise ss) = each_told ss

      handler_told : (h : HandlerNode) → SameMembers (over_handler f h) (flat_map N (sites_of_handler a h))
      handler_told no_handler = same [] [] refl
      handler_told (handler p as' o) = joined N (over_named f as') (over_otherwise f o) (sites_of_exceptions a [] as') (sites_of_otherwise a o) (named_told as' []) (otherwise_told o)

      named_told : (as' : NamedNodes) (earlier : List Name) → SameMembers (over_named f as') (flat_map N (sites_of_exceptions a earlier as'))
      named_told no_named earlier = same [] [] refl
      named_told (more_named p ns ss as') earlier =
          joined N (over_actions f ss) (over_named f as') (at_exceptions earlier ns ∷ sites_of_each a ss) (sites_of_exceptions a (earlier ++ ns) as')
          (passed N (over_actions f ss) (at_exceptions earlier ns) (sites_of_each a ss) refl (each_told ss)) (named_told as' (earlier ++ ns))

      parts_told : (ps : BodyNodes) → SameMembers (over_body f ps) (flat_map N (sites_of_parts a ps))
      parts_told no_parts = same [] [] refl
      parts_told (more_locals l ps) = joined N (over_local_of_body f l) (over_body f ps) (sites_of_local false l) (sites_of_parts a ps) (local_of_body l) (parts_told ps)
      parts_told (more_actions s ps) = joined N (over_statement f s) (over_body f ps) (sites_of a s) (sites_of_parts a ps) (statement s) (parts_told ps)

    body : (ps : List BodyTree) (h : Option HandlerTree) → SameMembers (whole_body f ps h) (flat_map N (sites_of_body a ps h))
    body ps h = joined N (over_body f (body_nodes ps)) (over_handler f (handler_node h)) (sites_of_parts a (body_nodes ps)) (sites_of_handler a (handler_node h)) (parts_told (body_nodes ps)) (handler_told (handler_node h))

  -- ---- items

  result : (m : Option written.ModeTree) → over_some_mode S m ≡ flat_map N (sites_of_result m)
  result None = refl
  result (Some m) = mode m ∙ sym (append-nil (N (at_mode m)))

  procedure_told : (p : ProcedureTree) → SameMembers (over_procedure f p) (flat_map N (sites_of_procedure p))
  procedure_told p =
      let x = flat_map (over_param f) p.params in let r = over_some_mode S p.returns in let b = whole_body f p.body p.handler in
      let xt = map (λ (q : ParamTree). at_mode q.mode) p.params in let rt = sites_of_result p.returns in
      let own = at_body (Some p.name) (flat_map (λ (q : ParamTree). q.names) p.params ++ locals_of_body p.body p.handler) in let bt = sites_of_body (in_procedure p) p.body p.handler in
      after (x ++ (r ++ b)) ((x ++ r) ++ b) (flat_map N ((xt ++ rt) ++ own ∷ bt)) (same (x ++ (r ++ b)) ((x ++ r) ++ b) (three_left x r b))
      (joined N (x ++ r) b (xt ++ rt) (own ∷ bt)
      (joined N x r xt rt (same x (flat_map N xt) (each-map (over_param f) (λ (q : ParamTree). at_mode q.mode) (λ q. mode q.mode) p.params)) (same r (flat_map N rt) (result p.returns)))
      (passed N b own bt refl (body (in_procedure p) p.body p.handler)))

  process_told : (p : ProcessTree) → SameMembers (over_process f p) (flat_map N (sites_of_process p))
  process_told p =
      let x = flat_map (over_formal f) p.formals in let b = whole_body f p.body p.handler in let xt = map (λ (q : FormalTree). at_mode q.mode) p.formals in
      let own = at_body (Some p.name) (flat_map (λ (q : FormalTree). q.names) p.formals ++ locals_of_body p.body p.handler) in let bt = sites_of_body in_no_procedure p.body p.handler in
      joined N x b xt (own ∷ bt) (same x (flat_map N xt) (each-map (over_formal f) (λ (q : FormalTree). at_mode q.mode) (λ q. mode q.mode) p.formals)) (passed N b own bt refl (body in_no_procedure p.body p.handler))

  signal : (ms : Option (List written.ModeTree)) → over_some_modes f ms ≡ flat_map N (sites_of_modes ms)
  signal None = refl
  signal (Some ms) = each-map (over_mode S) at_mode mode ms

  signals_told : (ss : List SignalTree) → flat_map (over_signal f) ss ≡ flat_map N (flat_map (λ (s : SignalTree). sites_of_modes s.parts) ss)
  signals_told [] = refl
  signals_told (s ∷ ss) =
      ap (λ xs. xs ++ flat_map (over_signal f) ss) (signal s.parts) ∙ ap (λ xs. flat_map N (sites_of_modes s.parts) ++ xs) (signals_told ss)
      ∙ sym (flat_map-append N (sites_of_modes s.parts) (flat_map (λ (q : SignalTree). sites_of_modes q.parts) ss))

  -- P4 of an item by itself
  abbrev granted_by : ModulionKind → ItemNodes → ItemTree → List Diagnostic
  granted_by kind items i = if is_region kind then told_grant items i else []

  either_none : (b : Bool) (none : List Diagnostic) → (if b then none else none) ≡ none
  either_none true none = refl
  either_none false none = refl

  placed : (kind : ModulionKind) (items : ItemNodes) (i : ItemTree) → granted_by kind items i ++ told_place kind i ≡ N (at_item kind items i)
  placed kind items (seize p passed) = ap (λ xs. xs ++ []) (either_none (is_region kind) [])
  placed kind items (grant p passed) = append-nil (granted_by kind items (grant p passed))
  placed kind items (local_item l) = ap (λ xs. xs ++ []) (either_none (is_region kind) [])
  placed kind items (signals p ss) = ap (λ xs. xs ++ []) (either_none (is_region kind) [])
  placed kind items (procedure p) = ap (λ xs. xs ++ []) (either_none (is_region kind) [])
  placed kind items (process p) = ap (λ xs. xs ++ told_place kind (process p)) (either_none (is_region kind) [])
  placed kind items (modulion n k inner h closing) = ap (λ xs. xs ++ told_place kind (modulion n k inner h closing)) (either_none (is_region kind) [])
  placed kind items (action s) = ap (λ xs. xs ++ told_place kind (action s)) (either_none (is_region kind) [])

  grants : (kind : ModulionKind) (items : ItemNodes) → told_grants kind items ≡ flat_map (granted_by kind items) (items_in items)
  grants kind items = by (is_region kind) (items_in items)
    where
      by : (b : Bool) (is : List ItemTree) → (if b then flat_map (told_grant items) is else []) ≡ flat_map (λ i. if b then told_grant items i else []) is
      by true is = refl
      by false [] = refl
      by false (i ∷ is) = by false is

  mutual
    item : (i : ItemTree) → SameMembers (inside_item f i) (flat_map N (sites_of_item i))
    item (seize p passed) = same [] [] refl
    item (grant p passed) = same [] [] refl
    item (local_item l) = same (over_local f l) (flat_map N (sites_of_local true l)) (local l)
    item (signals p ss) = same (flat_map (over_signal f) ss) (flat_map N (flat_map (λ (s : SignalTree). sites_of_modes s.parts) ss)) (signals_told ss)
    item (procedure p) = procedure_told p
    item (process p) = process_told p
    item (action s) = statement in_no_procedure s
    item (modulion n kind is h closing) =
        let x = told_grants kind is in let y = over_items f kind is in let z = over_handler f (handler_node h) in
        let g = flat_map (granted_by kind is) (items_in is) in
        let yt = sites_of_items kind is is in let zt = sites_of_handler in_no_procedure (handler_node h) in
        after (x ++ (y ++ z)) ((g ++ y) ++ z) (flat_map N (yt ++ zt)) (same (x ++ (y ++ z)) ((g ++ y) ++ z) (three_left x y z ∙ ap (λ ws. (ws ++ y) ++ z) (grants kind is)))
        (joined N (g ++ y) z yt zt (items kind is is) (handler_told in_no_procedure (handler_node h)))

    items : (kind : ModulionKind) (among is : ItemNodes) → SameMembers (flat_map (granted_by kind among) (items_in is) ++ over_items f kind is) (flat_map N (sites_of_items kind among is))
    items kind among no_items = same [] [] refl
    items kind among (more_items i is) =
        let x = granted_by kind among i in let y = flat_map (granted_by kind among) (items_in is) in let u = told_place kind i ++ inside_item f i in let v = over_items f kind is in
        let it = at_item kind among i ∷ sites_of_item i in let yt = sites_of_items kind among is in
        after ((x ++ y) ++ (u ++ v)) ((x ++ u) ++ (y ++ v)) (flat_map N (it ++ yt)) (swapped x y u v)
        (joined N (x ++ u) (y ++ v) it yt
        (after (x ++ u) ((x ++ told_place kind i) ++ inside_item f i) (flat_map N it) (same (x ++ u) ((x ++ told_place kind i) ++ inside_item f i) (three_left x (told_place kind i) (inside_item f i)))
        (begun N (x ++ told_place kind i) (inside_item f i) (at_item kind among i) (sites_of_item i) (placed kind among i) (item i)))
        (items kind among is))

  program_told : (ms : List ModulionTree) → SameMembers (flat_map (λ m. inside_item f (modulion_item m)) ms) (flat_map N (flat_map sites_of_item (map modulion_item ms)))
  program_told [] = same [] [] refl
  program_told (m ∷ ms) = joined N (inside_item f (modulion_item m)) (flat_map (λ k. inside_item f (modulion_item k)) ms) (sites_of_item (modulion_item m)) (flat_map sites_of_item (map modulion_item ms)) (item (modulion_item m)) (program_told ms)

pub names_told : NamesLaw
names_told f g t facts = program_told f g facts t.modulions

-- what an expression receives from is told alike
pub source_told : (f : Facts) (g : Ground) → AreFactsOf f g → (e : ExprTree) → over_expr (told_source f) e ≡ told_met g e
source_told f g facts e = expr f g facts e
