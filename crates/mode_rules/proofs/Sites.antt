-- What the walk tells is what is told at the nodes of the program.
use Rattle.std.proofs.Common.{◌≡◌, ◌++◌, List, [], ◌∷◌, Option, Some, None, map, refl, sym, ap, ◌∙◌, append-nil, append_assoc}
use Rattle.std.specs.Prelude.{Bool, true, false, flat_map, option_map}
use Rattle.std.proofs.lemmas.Grind.{flat_map-append}
use Rattle.chill_tree.specs.declared.tree.name.Name.{Name}
use Rattle.chill_tree.specs.declared.tree.item.ModulionKind.{ModulionKind}
use Rattle.chill_tree.specs.ExprTree.{ExprTree, RangeTree, alone, between}
use Rattle.chill_tree.specs.ModeTree as written
use Rattle.chill_tree.specs.LocalTree.{SynonymTree, ModeDefinitionTree, DeclarationTree, LocalTree, synonyms, syn_modes, new_modes, locations}
use Rattle.chill_tree.specs.SimpleTree.{SimpleTree, assign, update, call_of, exit, return_with, result_of, assert_that, cause, stop, start_of, delay, continue_event, send, ControlTree, while_holds, for_ever, for_members, for_steps}
use Rattle.chill_tree.specs.StatementTree.{StatementTree, BracketedTree, StatementNodes, ElsIfNodes, CaseNodes, NamedNodes, ReceiveNodes, OtherwiseNode, HandlerNode, BodyNodes, BodyTree, HandlerTree, empty, simple, bracketed, if_then, case_of, do_loop, begin_end, delay_case, receive_case, no_statements, more_statements, no_branches, more_branches, no_cases, more_cases, no_named, more_named, no_receives, more_receives, no_otherwise, otherwise, no_handler, handler, no_parts, more_locals, more_actions, body_nodes, handler_node}
use Rattle.chill_tree.specs.ItemTree.{SignalTree, ProcedureTree, ProcessTree, ModulionTree, ItemTree, ItemNodes, seize, grant, local_item, signals, procedure, process, modulion, action, no_items, more_items, modulion_item, ProgramTree}
use Rattle.diagnostics.specs.declared.diagnostic.Diagnostic.{Diagnostic}
use Rattle.checks_model.specs.Ground.{Ground}
use Rattle.checks_model.specs.ConstantRules.{told_of_constants, told_of_some_constants, told_needed, told_some_needed}
use Rattle.checks_model.specs.WrittenModes.{told_of_mode, told_of_some_mode}
use Rattle.checks_model.specs.Limits.{told_shared}
use Rattle.checks_model.specs.Phases.{some_expr, some_exprs, exprs_of_simple, priority_of, exprs_of_control, exprs_of_label, exprs_of_labels, modes_told_at, told_of_modes}
use Rattle.checks_model.specs.Sites.{Site, Around, in_procedure, in_no_procedure, at_synonym, at_mode_definition, at_declaration, at_mode, at_simple, at_condition, at_selector, at_labels, at_control, at_set, at_priority, at_event, at_source, at_received, at_exceptions, at_body, at_program, at_item, sites_of_local, some_site, events_listed, sites_of, sites_of_bracketed, sites_of_each, sites_of_branches, sites_of_cases, sites_of_events, sites_of_receives, sites_of_otherwise, sites_of_handler, sites_of_exceptions, sites_of_parts, sites_of_modes, sites_of_result, sites_of_body, sites_of_procedure, sites_of_process, sites_of_item, sites_of_items, shared_in, items_of, sites, locals_of_body}
use Rattle.mode_rules.specs.Shared.{told_places, all_shared}
use Rattle.mode_rules.proofs.SharedPlaces.{shared_told}
use Rattle.mode_rules.specs.Walk.{over_all, over_some_all, over_label, over_labels, over_synonym, over_definition, over_without_value, over_initial, over_declaration, over_local, over_simple, over_control, over_statement, over_bracketed, over_actions, over_branches, over_cases, over_receives, over_otherwise, over_handler, over_named, over_body, over_some_modes, over_signal, over_param, over_formal, over_procedure, over_process, over_item, over_items, over_modulions, over_program}

module _ (g : Ground) where
  abbrev Told : List Site → List Diagnostic
  Told ss = flat_map (modes_told_at g) ss

  abbrev constants : List ExprTree → List Diagnostic
  constants es = flat_map (told_of_constants g) es

  split : (xs ys : List Site) (ds es : List Diagnostic) → Told xs ≡ ds → Told ys ≡ es → Told (xs ++ ys) ≡ ds ++ es
  split xs ys ds es first later = flat_map-append (modes_told_at g) xs ys ∙ ap (λ k. k ++ Told ys) first ∙ ap (λ k. ds ++ k) later

  -- ---- a node's expressions

  some_told : (e : Option ExprTree) → constants (some_expr e) ≡ told_of_some_constants g e
  some_told None = refl
  some_told (Some e) = append-nil (told_of_constants g e)

  some_all_told : (es : Option (List ExprTree)) → constants (some_exprs es) ≡ over_some_all g es
  some_all_told None = refl
  some_all_told (Some es) = refl

  both_told : (es fs : List ExprTree) (ds ks : List Diagnostic) → constants es ≡ ds → constants fs ≡ ks → constants (es ++ fs) ≡ ds ++ ks
  both_told es fs ds ks first later = flat_map-append (told_of_constants g) es fs ∙ ap (λ k. k ++ constants fs) first ∙ ap (λ k. ds ++ k) later

  simple_told : (s : SimpleTree) → constants (exprs_of_simple s) ++ told_some_needed g (priority_of s) ≡ over_simple g s
  simple_told (assign at t v) = append-nil (constants (t ∷ v ∷ [])) ∙ ap (λ k. told_of_constants g t ++ k) (append-nil (told_of_constants g v))
  simple_told (update at t o p v) = append-nil (constants (t ∷ v ∷ [])) ∙ ap (λ k. told_of_constants g t ++ k) (append-nil (told_of_constants g v))
  simple_told (call_of at word n es) = append-nil (constants (exprs_of_simple (call_of at word n es))) ∙ append-nil _
  simple_told (exit at n) = refl
  simple_told (return_with at v) = append-nil (constants (some_expr v)) ∙ some_told v
  simple_told (result_of at v) = append-nil (constants (v ∷ [])) ∙ append-nil (told_of_constants g v)
  simple_told (assert_that at c) = append-nil (constants (c ∷ [])) ∙ append-nil (told_of_constants g c)
  simple_told (cause at n) = refl
  simple_told (stop at) = refl
  simple_told (start_of at n es) = append-nil (constants es)
  simple_told (delay at n p) = refl
  simple_told (continue_event at n) = refl
  simple_told (send at n es to p) =
      ap (λ k. k ++ told_some_needed g p) (both_told (some_exprs es) (some_expr to) (over_some_all g es) (told_of_some_constants g to) (some_all_told es) (some_told to))
      ∙ append_assoc (over_some_all g es) (told_of_some_constants g to) (told_some_needed g p)

  control_told : (c : ControlTree) → constants (exprs_of_control c) ≡ over_control g c
  control_told (while_holds at c) = append-nil (told_of_constants g c)
  control_told (for_ever at) = refl
  control_told (for_members at n s c) = ap (λ k. told_of_constants g s ++ k) (some_told c)
  control_told (for_steps at n s b down e c) =
      ap (λ k. told_of_constants g s ++ k)
      (both_told (some_expr b) (e ∷ some_expr c) (told_of_some_constants g b) (told_of_constants g e ++ told_of_some_constants g c) (some_told b) (ap (λ k. told_of_constants g e ++ k) (some_told c)))

  label_told : (l : RangeTree) → flat_map (told_needed g) (exprs_of_label l) ≡ over_label g l
  label_told (alone e) = append-nil (told_needed g e)
  label_told (between l h) = ap (λ k. told_needed g l ++ k) (append-nil (told_needed g h))

  labels_told : (ls : List RangeTree) → flat_map (told_needed g) (exprs_of_labels ls) ≡ over_labels g ls
  labels_told [] = refl
  labels_told (l ∷ ls) = flat_map-append (told_needed g) (exprs_of_label l) (exprs_of_labels ls) ∙ ap (λ k. k ++ flat_map (told_needed g) (exprs_of_labels ls)) (label_told l) ∙ ap (λ k. over_label g l ++ k) (labels_told ls)

  -- ---- definition statements

  mapped : {A : Type 0} (site : A → Site) (f : A → List Diagnostic) (xs : List A) → ((x : A) → modes_told_at g (site x) ≡ f x) → Told (map site xs) ≡ flat_map f xs
  mapped site f [] each = refl
  mapped site f (x ∷ xs) each = ap (λ k. k ++ Told (map site xs)) (each x) ∙ ap (λ k. f x ++ k) (mapped site f xs each)

  local_told : (shared : Bool) (l : LocalTree) → Told (sites_of_local shared l) ≡ over_local g l
  local_told shared (synonyms at ss) = mapped at_synonym (over_synonym g) ss (λ s. refl)
  local_told shared (syn_modes at ds) = mapped at_mode_definition (over_definition g) ds (λ d. refl)
  local_told shared (new_modes at ds) = mapped at_mode_definition (over_definition g) ds (λ d. refl)
  local_told shared (locations at ds) = mapped (at_declaration shared) (over_declaration g) ds (λ d. append_assoc (told_of_mode g true d.mode) (over_without_value g d.initial d.names) (over_initial g d.initial))

  -- ---- actions

  set_told : (e : Option ExprTree) → Told (some_site at_set e) ≡ told_of_some_constants g e
  set_told None = refl
  set_told (Some e) = append-nil (told_of_constants g e)

  priority_told : (e : Option ExprTree) → Told (some_site at_priority e) ≡ told_some_needed g e
  priority_told None = refl
  priority_told (Some e) = append-nil (told_needed g e)

  events_untold : (earlier ns : List Name) → Told (events_listed earlier ns) ≡ []
  events_untold earlier [] = refl
  events_untold earlier (n ∷ ns) = events_untold (earlier ++ n ∷ []) ns

  mutual
    statement_told : (a : Around) (s : StatementTree) → Told (sites_of a s) ≡ over_statement g s
    statement_told a (empty at) = refl
    statement_told a (simple at s h) = ap (λ k. k ++ Told (sites_of_handler a h)) (simple_told s) ∙ ap (λ k. over_simple g s ++ k) (handler_told a h)
    statement_told a (bracketed at l s h closing) = split (sites_of_bracketed a s) (sites_of_handler a h) (over_bracketed g s) (over_handler g h) (bracketed_told a s) (handler_told a h)

    bracketed_told : (a : Around) (s : BracketedTree) → Told (sites_of_bracketed a s) ≡ over_bracketed g s
    bracketed_told a (if_then at c ss bs o) =
        ap (λ k. told_of_constants g c ++ k)
        (split (sites_of_each a ss ++ sites_of_branches a bs) (sites_of_otherwise a o) (over_actions g ss ++ over_branches g bs) (over_otherwise g o)
        (split (sites_of_each a ss) (sites_of_branches a bs) (over_actions g ss) (over_branches g bs) (each_told a ss) (branches_told a bs)) (otherwise_told a o)
        ∙ append_assoc (over_actions g ss) (over_branches g bs) (over_otherwise g o))
    bracketed_told a (case_of at e as' o) = ap (λ k. told_of_constants g e ++ k) (split (sites_of_cases a e as') (sites_of_otherwise a o) (over_cases g as') (over_otherwise g o) (cases_told a e as') (otherwise_told a o))
    bracketed_told a (do_loop at c ss) = ap (λ k. k ++ Told (sites_of_each a ss)) (control_told c) ∙ ap (λ k. over_control g c ++ k) (each_told a ss)
    bracketed_told a (begin_end at ps) = parts_told a ps
    bracketed_told a (delay_case at set p as') =
        split (some_site at_set set ++ some_site at_priority p) (sites_of_events a [] as') (told_of_some_constants g set ++ told_some_needed g p) (over_named g as')
        (split (some_site at_set set) (some_site at_priority p) (told_of_some_constants g set) (told_some_needed g p) (set_told set) (priority_told p)) (events_told a [] as')
        ∙ append_assoc (told_of_some_constants g set) (told_some_needed g p) (over_named g as')
    bracketed_told a (receive_case at set as' o) =
        split (some_site at_set set ++ sites_of_receives a [] as') (sites_of_otherwise a o) (told_of_some_constants g set ++ over_receives g as') (over_otherwise g o)
        (split (some_site at_set set) (sites_of_receives a [] as') (told_of_some_constants g set) (over_receives g as') (set_told set) (receives_told a [] as')) (otherwise_told a o)
        ∙ append_assoc (told_of_some_constants g set) (over_receives g as') (over_otherwise g o)

    each_told : (a : Around) (ss : StatementNodes) → Told (sites_of_each a ss) ≡ over_actions g ss
    each_told a no_statements = refl
    each_told a (more_statements s ss) = split (sites_of a s) (sites_of_each a ss) (over_statement g s) (over_actions g ss) (statement_told a s) (each_told a ss)

    branches_told : (a : Around) (bs : ElsIfNodes) → Told (sites_of_branches a bs) ≡ over_branches g bs
    branches_told a no_branches = refl
    branches_told a (more_branches at c ss bs) =
        split (at_condition c ∷ sites_of_each a ss) (sites_of_branches a bs) (told_of_constants g c ++ over_actions g ss) (over_branches g bs) (ap (λ k. told_of_constants g c ++ k) (each_told a ss)) (branches_told a bs)

    cases_told : (a : Around) (e : ExprTree) (as' : CaseNodes) → Told (sites_of_cases a e as') ≡ over_cases g as'
    cases_told a e no_cases = refl
    cases_told a e (more_cases at ls ss as') =
        split (at_labels e ls ∷ sites_of_each a ss) (sites_of_cases a e as') (over_labels g ls ++ over_actions g ss) (over_cases g as')
        (ap (λ k. k ++ Told (sites_of_each a ss)) (labels_told ls) ∙ ap (λ k. over_labels g ls ++ k) (each_told a ss)) (cases_told a e as')

    events_told : (a : Around) (earlier : List Name) (as' : NamedNodes) → Told (sites_of_events a earlier as') ≡ over_named g as'
    events_told a earlier no_named = refl
    events_told a earlier (more_named at ns ss as') =
        split (events_listed earlier ns ++ sites_of_each a ss) (sites_of_events a (earlier ++ ns) as') (over_actions g ss) (over_named g as')
        (split (events_listed earlier ns) (sites_of_each a ss) [] (over_actions g ss) (events_untold earlier ns) (each_told a ss)) (events_told a (earlier ++ ns) as')

    receives_told : (a : Around) (earlier : List Name) (as' : ReceiveNodes) → Told (sites_of_receives a earlier as') ≡ over_receives g as'
    receives_told a earlier no_receives = refl
    receives_told a earlier (more_receives at n r ss as') =
        split (at_source earlier n ∷ at_received n r ∷ sites_of_each a ss) (sites_of_receives a (earlier ++ n ∷ []) as') (over_actions g ss) (over_receives g as') (each_told a ss) (receives_told a (earlier ++ n ∷ []) as')

    otherwise_told : (a : Around) (o : OtherwiseNode) → Told (sites_of_otherwise a o) ≡ over_otherwise g o
    otherwise_told a no_otherwise = refl
    otherwise_told a (otherwise ss) = each_told a ss

    handler_told : (a : Around) (h : HandlerNode) → Told (sites_of_handler a h) ≡ over_handler g h
    handler_told a no_handler = refl
    handler_told a (handler at as' o) = split (sites_of_exceptions a [] as') (sites_of_otherwise a o) (over_named g as') (over_otherwise g o) (exceptions_told a [] as') (otherwise_told a o)

    exceptions_told : (a : Around) (earlier : List Name) (as' : NamedNodes) → Told (sites_of_exceptions a earlier as') ≡ over_named g as'
    exceptions_told a earlier no_named = refl
    exceptions_told a earlier (more_named at ns ss as') =
        split (at_exceptions earlier ns ∷ sites_of_each a ss) (sites_of_exceptions a (earlier ++ ns) as') (over_actions g ss) (over_named g as') (each_told a ss) (exceptions_told a (earlier ++ ns) as')

    parts_told : (a : Around) (ps : BodyNodes) → Told (sites_of_parts a ps) ≡ over_body g ps
    parts_told a no_parts = refl
    parts_told a (more_locals l ps) = split (sites_of_local false l) (sites_of_parts a ps) (over_local g l) (over_body g ps) (local_told false l) (parts_told a ps)
    parts_told a (more_actions s ps) = split (sites_of a s) (sites_of_parts a ps) (over_statement g s) (over_body g ps) (statement_told a s) (parts_told a ps)

  -- ---- items

  modes_told : (ms : Option (List written.ModeTree)) → Told (sites_of_modes ms) ≡ over_some_modes g ms
  modes_told None = refl
  modes_told (Some ms) = mapped at_mode (told_of_mode g false) ms (λ m. refl)

  result_told : (m : Option written.ModeTree) → Told (sites_of_result m) ≡ told_of_some_mode g m
  result_told None = refl
  result_told (Some m) = append-nil (told_of_mode g false m)

  signals_told : (ss : List SignalTree) → Told (flat_map (λ s. sites_of_modes s.parts) ss) ≡ flat_map (over_signal g) ss
  signals_told [] = refl
  signals_told (s ∷ ss) = split (sites_of_modes s.parts) (flat_map (λ s. sites_of_modes s.parts) ss) (over_signal g s) (flat_map (over_signal g) ss) (modes_told s.parts) (signals_told ss)

  body_told : (a : Around) (ps : List BodyTree) (h : Option HandlerTree) → Told (sites_of_body a ps h) ≡ over_body g (body_nodes ps) ++ over_handler g (handler_node h)
  body_told a ps h = split (sites_of_parts a (body_nodes ps)) (sites_of_handler a (handler_node h)) (over_body g (body_nodes ps)) (over_handler g (handler_node h)) (parts_told a (body_nodes ps)) (handler_told a (handler_node h))

  procedure_told : (p : ProcedureTree) → Told (sites_of_procedure p) ≡ over_procedure g p
  procedure_told p =
      let body = over_body g (body_nodes p.body) ++ over_handler g (handler_node p.handler) in
      split (map (λ q. at_mode q.mode) p.params ++ sites_of_result p.returns) (at_body (Some p.name) (flat_map (λ q. q.names) p.params ++ locals_of_body p.body p.handler) ∷ sites_of_body (in_procedure p) p.body p.handler)
      (flat_map (over_param g) p.params ++ told_of_some_mode g p.returns) body
      (split (map (λ q. at_mode q.mode) p.params) (sites_of_result p.returns) (flat_map (over_param g) p.params) (told_of_some_mode g p.returns) (mapped (λ q. at_mode q.mode) (over_param g) p.params (λ q. refl)) (result_told p.returns))
      (body_told (in_procedure p) p.body p.handler)
      ∙ append_assoc (flat_map (over_param g) p.params) (told_of_some_mode g p.returns) body

  process_told : (p : ProcessTree) → Told (sites_of_process p) ≡ over_process g p
  process_told p =
      split (map (λ q. at_mode q.mode) p.formals) (at_body (Some p.name) (flat_map (λ q. q.names) p.formals ++ locals_of_body p.body p.handler) ∷ sites_of_body in_no_procedure p.body p.handler)
      (flat_map (over_formal g) p.formals) (over_body g (body_nodes p.body) ++ over_handler g (handler_node p.handler))
      (mapped (λ q. at_mode q.mode) (over_formal g) p.formals (λ q. refl)) (body_told in_no_procedure p.body p.handler)

  mutual
    item_told : (i : ItemTree) → Told (sites_of_item i) ≡ over_item g i
    item_told (seize at passed) = refl
    item_told (grant at passed) = refl
    item_told (local_item l) = local_told true l
    item_told (signals at ss) = signals_told ss
    item_told (procedure p) = procedure_told p
    item_told (process p) = process_told p
    item_told (modulion n kind items h closing) = split (sites_of_items kind items items) (sites_of_handler in_no_procedure (handler_node h)) (over_items g items) (over_handler g (handler_node h)) (items_told kind items items) (handler_told in_no_procedure (handler_node h))
    item_told (action s) = statement_told in_no_procedure s

    items_told : (kind : ModulionKind) (all is : ItemNodes) → Told (sites_of_items kind all is) ≡ over_items g is
    items_told kind all no_items = refl
    items_told kind all (more_items i is) = split (at_item kind all i ∷ sites_of_item i) (sites_of_items kind all is) (over_item g i) (over_items g is) (item_told i) (items_told kind all is)

  modulions_told : (ms : List ModulionTree) → Told (flat_map sites_of_item (map modulion_item ms)) ≡ flat_map (λ m. over_item g (modulion_item m)) ms
  modulions_told [] = refl
  modulions_told (m ∷ ms) = split (sites_of_item (modulion_item m)) (flat_map sites_of_item (map modulion_item ms)) (over_item g (modulion_item m)) (flat_map (λ m. over_item g (modulion_item m)) ms) (item_told (modulion_item m)) (modulions_told ms)

  pub program_told : (t : ProgramTree) → told_of_modes g t ≡ over_program g t
  program_told t = ap (λ k. told_shared g 0 (flat_map shared_in (items_of t)) ++ k) (modulions_told t.modulions)

pub program_so : (g : Ground) (t : ProgramTree) (ds : List Diagnostic) → ds ≡ told_places g 0 (all_shared t.modulions) ++ flat_map (λ m. over_item g (modulion_item m)) t.modulions → ds ≡ told_of_modes g t
program_so g t ds is = is ∙ ap (λ k. k ++ flat_map (λ m. over_item g (modulion_item m)) t.modulions) (shared_told g t) ∙ sym (program_told g t)
