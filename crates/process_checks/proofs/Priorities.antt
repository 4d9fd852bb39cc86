-- Where the phase of modes and constants tells nothing, it tells nothing of a priority.
use Rattle.std.proofs.Common.{◌≡◌, false, List, [], ◌∷◌, ◌++◌, refl, sym, ◌∙◌, Option, Some, None}
use Rattle.std.specs.Prelude.{map, flat_map}
use Rattle.std.proofs.lemmas.Grind.{flat_map-append}
use Rattle.chill_tree.specs.declared.tree.name.Name.{Name}
use Rattle.chill_tree.specs.declared.tree.item.ModulionKind.{ModulionKind}
use Rattle.chill_tree.specs.ExprTree.{ExprTree}
use Rattle.chill_tree.specs.SimpleTree.{SimpleTree, assign, update, call_of, exit, return_with, result_of, assert_that, cause, stop, start_of, delay, continue_event, send}
use Rattle.chill_tree.specs.StatementTree.{StatementTree, BracketedTree, StatementNodes, ElsIfNodes, CaseNodes, NamedNodes, ReceiveNodes, OtherwiseNode, HandlerNode, BodyNodes, BodyTree, HandlerTree, empty, simple, bracketed, if_then, case_of, do_loop, begin_end, delay_case, receive_case, no_statements, more_statements, no_branches, more_branches, no_cases, more_cases, no_named, more_named, no_receives, more_receives, no_otherwise, otherwise, no_handler, handler, no_parts, more_locals, more_actions, body_nodes, handler_node}
use Rattle.chill_tree.specs.ItemTree.{ItemTree, ItemNodes, seize, grant, local_item, signals, procedure, process, modulion, action, no_items, more_items, ModulionTree, modulion_item, ProgramTree}
use Rattle.diagnostics.specs.declared.diagnostic.Diagnostic.{Diagnostic}
use Rattle.checks_model.specs.Ground.{Ground}
use Rattle.checks_model.specs.ConstantRules.{told_of_constants, told_some_needed}
use Rattle.checks_model.specs.Phases.{exprs_of_simple, modes_told_at, told_of_modes}
use Rattle.checks_model.specs.Sites.{Site, Around, in_procedure, in_no_procedure, at_item, at_simple, at_condition, at_selector, at_labels, at_control, at_set, at_priority, at_source, at_received, at_exceptions, at_body, at_program, sites_of_local, some_site, events_listed, sites_of, sites_of_bracketed, sites_of_each, sites_of_branches, sites_of_cases, sites_of_events, sites_of_receives, sites_of_otherwise, sites_of_handler, sites_of_exceptions, sites_of_parts, sites_of_result, sites_of_body, locals_of_body, at_mode, sites_of_item, sites_of_items, outermost_locals, shared_in, items_of}
use Rattle.wait_exprs.specs.Waits.{WaitTree, set_of, priority_of, some_wait, waits_of_simple, waits_at_head, waits_in, waits_held, waits_in_each, waits_in_branches, waits_in_cases, waits_in_named, waits_in_receives, waits_otherwise, waits_in_handler, waits_in_parts, waits_in_body, waits_in_item, waits_in_items, waits_of}
use Rattle.process_checks.specs.Waiting.{AreNeeded}

none_first : {X : Type 0} (xs ys : List X) → xs ++ ys ≡ [] → xs ≡ []
none_first [] ys e = refl
none_first (x ∷ xs) ys e = absurd (let no : ⊥ = cc in no)

none_second : {X : Type 0} (xs ys : List X) → xs ++ ys ≡ [] → ys ≡ []
none_second [] ys e = e
none_second (x ∷ xs) ys e = absurd (let no : ⊥ = cc in no)

module _ (g : Ground) where
  abbrev M : Site → List Diagnostic
  M = modes_told_at g

  -- nothing is told at these nodes
  abbrev Quiet : List Site → Type 0
  Quiet ss = flat_map M ss ≡ []

  first : (xs ys : List Site) → Quiet (xs ++ ys) → Quiet xs
  first xs ys q = none_first (flat_map M xs) (flat_map M ys) (sym (flat_map-append M xs ys) ∙ q)

  second : (xs ys : List Site) → Quiet (xs ++ ys) → Quiet ys
  second xs ys q = none_second (flat_map M xs) (flat_map M ys) (sym (flat_map-append M xs ys) ∙ q)

  here : (s : Site) (ss : List Site) → Quiet (s ∷ ss) → M s ≡ []
  here s ss q = none_first (M s) (flat_map M ss) q

  behind : (s : Site) (ss : List Site) → Quiet (s ∷ ss) → Quiet ss
  behind s ss q = none_second (M s) (flat_map M ss) q

  both : (ws vs : List WaitTree) → AreNeeded g ws → AreNeeded g vs → AreNeeded g (ws ++ vs)
  both [] vs p q = q
  both (w ∷ ws) vs p q = (p.0, both ws vs p.1 q)

  priorities : (p : Option ExprTree) → told_some_needed g p ≡ [] → AreNeeded g (some_wait priority_of p)
  priorities None e = tt
  priorities (Some p) e = (e, tt)

  sets : (set : Option ExprTree) → AreNeeded g (some_wait set_of set)
  sets None = tt
  sets (Some e) = (tt, tt)

  at_priorities : (p : Option ExprTree) → Quiet (some_site at_priority p) → AreNeeded g (some_wait priority_of p)
  at_priorities None q = tt
  at_priorities (Some p) q = (here (at_priority p) [] q, tt)

  simple_needed : (a : Around) (s : SimpleTree) → M (at_simple a s) ≡ [] → AreNeeded g (waits_of_simple s)
  simple_needed a (delay at n p) e = priorities p (none_second (flat_map (told_of_constants g) (exprs_of_simple (delay at n p))) (told_some_needed g p) e)
  simple_needed a (send at n es to p) e = priorities p (none_second (flat_map (told_of_constants g) (exprs_of_simple (send at n es to p))) (told_some_needed g p) e)
  simple_needed a (assign at t v) e = tt
  simple_needed a (update at t o p v) e = tt
  simple_needed a (call_of at word n es) e = tt
  simple_needed a (exit at n) e = tt
  simple_needed a (return_with at v) e = tt
  simple_needed a (result_of at v) e = tt
  simple_needed a (assert_that at c) e = tt
  simple_needed a (cause at n) e = tt
  simple_needed a (stop at) e = tt
  simple_needed a (start_of at n es) e = tt
  simple_needed a (continue_event at n) e = tt

  head_needed : (a : Around) (s : BracketedTree) → Quiet (sites_of_bracketed a s) → AreNeeded g (waits_at_head s)
  head_needed a (delay_case at set p as') q =
      let heads = first (some_site at_set set ++ some_site at_priority p) (sites_of_events a [] as') q in
      both (some_wait set_of set) (some_wait priority_of p) (sets set) (at_priorities p (second (some_site at_set set) (some_site at_priority p) heads))
  head_needed a (receive_case at set as' o) q = sets set
  head_needed a (if_then at c ss bs o) q = tt
  head_needed a (case_of at e as' o) q = tt
  head_needed a (do_loop at c ss) q = tt
  head_needed a (begin_end at ps) q = tt

  mutual
    statement : (a : Around) (s : StatementTree) → Quiet (sites_of a s) → AreNeeded g (waits_in s)
    statement a (empty at) q = tt
    statement a (simple at s h) q =
        both (waits_of_simple s) (waits_in_handler h) (simple_needed a s (here (at_simple a s) (sites_of_handler a h) q)) (handled a h (behind (at_simple a s) (sites_of_handler a h) q))
    statement a (bracketed at l s h closing) q =
        let inside = first (sites_of_bracketed a s) (sites_of_handler a h) q in
        both (waits_at_head s) (waits_held s ++ waits_in_handler h) (head_needed a s inside)
        (both (waits_held s) (waits_in_handler h) (held a s inside) (handled a h (second (sites_of_bracketed a s) (sites_of_handler a h) q)))

    held : (a : Around) (s : BracketedTree) → Quiet (sites_of_bracketed a s) → AreNeeded g (waits_held s)
    held a (if_then at c ss bs o) q =
        let x = sites_of_each a ss in let b = sites_of_branches a bs in let z = sites_of_otherwise a o in
        let all = behind (at_condition c) (x ++ b ++ z) q in
        let two = first (x ++ b) z all in
        both (waits_in_each ss) (waits_in_branches bs ++ waits_otherwise o) (each a ss (first x b two))
        (both (waits_in_branches bs) (waits_otherwise o) (branches a bs (second x b two)) (elses a o (second (x ++ b) z all)))
    held a (case_of at e as' o) q =
        let c = sites_of_cases a e as' in let z = sites_of_otherwise a o in
        let all = behind (at_selector e) (c ++ z) q in
        both (waits_in_cases as') (waits_otherwise o) (cases a e as' (first c z all)) (elses a o (second c z all))
    held a (do_loop at c ss) q = each a ss (behind (at_control c) (sites_of_each a ss) q)
    held a (begin_end at ps) q = parts a ps q
    held a (delay_case at set p as') q = events a [] as' (second (some_site at_set set ++ some_site at_priority p) (sites_of_events a [] as') q)
    held a (receive_case at set as' o) q =
        let s = some_site at_set set in let r = sites_of_receives a [] as' in let z = sites_of_otherwise a o in
        both (waits_in_receives as') (waits_otherwise o) (receives a [] as' (second s r (first (s ++ r) z q))) (elses a o (second (s ++ r) z q))

    each : (a : Around) (ss : StatementNodes) → Quiet (sites_of_each a ss) → AreNeeded g (waits_in_each ss)
    each a no_statements q = tt
    each a (more_statements s ss) q = both (waits_in s) (waits_in_each ss) (statement a s (first (sites_of a s) (sites_of_each a ss) q)) (each a ss (second (sites_of a s) (sites_of_each a ss) q))

    branches : (a : Around) (bs : ElsIfNodes) → Quiet (sites_of_branches a bs) → AreNeeded g (waits_in_branches bs)
    branches a no_branches q = tt
    branches a (more_branches at c ss bs) q =
        let own = at_condition c ∷ sites_of_each a ss in
        both (waits_in_each ss) (waits_in_branches bs) (each a ss (behind (at_condition c) (sites_of_each a ss) (first own (sites_of_branches a bs) q))) (branches a bs (second own (sites_of_branches a bs) q))

    cases : (a : Around) (e : ExprTree) (as' : CaseNodes) → Quiet (sites_of_cases a e as') → AreNeeded g (waits_in_cases as')
    cases a e no_cases q = tt
    cases a e (more_cases at ls ss as') q =
        let own = at_labels e ls ∷ sites_of_each a ss in
        both (waits_in_each ss) (waits_in_cases as') (each a ss (behind (at_labels e ls) (sites_of_each a ss) (first own (sites_of_cases a e as') q))) (cases a e as' (second own (sites_of_cases a e as') q))

    events : (a : Around) (earlier : List Name) (as' : NamedNodes) → Quiet (sites_of_events a earlier as') → AreNeeded g (waits_in_named as')
    events a earlier no_named q = tt
    events a earlier (more_named at ns ss as') q =
        let own = events_listed earlier ns ++ sites_of_each a ss in let rest = sites_of_events a (earlier ++ ns) as' in
        both (waits_in_each ss) (waits_in_named as') (each a ss (second (events_listed earlier ns) (sites_of_each a ss) (first own rest q))) (events a (earlier ++ ns) as' (second own rest q))

    receives : (a : Around) (earlier : List Name) (as' : ReceiveNodes) → Quiet (sites_of_receives a earlier as') → AreNeeded g (waits_in_receives as')
    receives a earlier no_receives q = tt
    receives a earlier (more_receives at n r ss as') q =
        let got = at_received n r ∷ sites_of_each a ss in let own = at_source earlier n ∷ got in let rest = sites_of_receives a (earlier ++ n ∷ []) as' in
        both (waits_in_each ss) (waits_in_receives as') (each a ss (behind (at_received n r) (sites_of_each a ss) (behind (at_source earlier n) got (first own rest q))))
        (receives a (earlier ++ n ∷ []) as' (second own rest q))

    elses : (a : Around) (o : OtherwiseNode) → Quiet (sites_of_otherwise a o) → AreNeeded g (waits_otherwise o)
    elses a no_otherwise q = tt
    elses a (otherwise ss) q = each a ss q

    handled : (a : Around) (h : HandlerNode) → Quiet (sites_of_handler a h) → AreNeeded g (waits_in_handler h)
    handled a no_handler q = tt
    handled a (handler at as' o) q =
        let x = sites_of_exceptions a [] as' in let z = sites_of_otherwise a o in
        both (waits_in_named as') (waits_otherwise o) (exceptions a [] as' (first x z q)) (elses a o (second x z q))

    exceptions : (a : Around) (earlier : List Name) (as' : NamedNodes) → Quiet (sites_of_exceptions a earlier as') → AreNeeded g (waits_in_named as')
    exceptions a earlier no_named q = tt
    exceptions a earlier (more_named at ns ss as') q =
        let own = at_exceptions earlier ns ∷ sites_of_each a ss in let rest = sites_of_exceptions a (earlier ++ ns) as' in
        both (waits_in_each ss) (waits_in_named as') (each a ss (behind (at_exceptions earlier ns) (sites_of_each a ss) (first own rest q))) (exceptions a (earlier ++ ns) as' (second own rest q))

    parts : (a : Around) (ps : BodyNodes) → Quiet (sites_of_parts a ps) → AreNeeded g (waits_in_parts ps)
    parts a no_parts q = tt
    parts a (more_locals l ps) q = parts a ps (second (sites_of_local false l) (sites_of_parts a ps) q)
    parts a (more_actions s ps) q = both (waits_in s) (waits_in_parts ps) (statement a s (first (sites_of a s) (sites_of_parts a ps) q)) (parts a ps (second (sites_of a s) (sites_of_parts a ps) q))

  whole_body : (a : Around) (ps : List BodyTree) (h : Option HandlerTree) → Quiet (sites_of_body a ps h) → AreNeeded g (waits_in_body ps h)
  whole_body a ps h q =
      let x = sites_of_parts a (body_nodes ps) in let z = sites_of_handler a (handler_node h) in
      both (waits_in_parts (body_nodes ps)) (waits_in_handler (handler_node h)) (parts a (body_nodes ps) (first x z q)) (handled a (handler_node h) (second x z q))

  mutual
    item : (i : ItemTree) → Quiet (sites_of_item i) → AreNeeded g (waits_in_item i)
    item (procedure p) q =
        let body = sites_of_body (in_procedure p) p.body p.handler in
        let own = at_body (Some p.name) (flat_map (λ q. q.names) p.params ++ locals_of_body p.body p.handler) in
        whole_body (in_procedure p) p.body p.handler (behind own body (second (map (λ q. at_mode q.mode) p.params ++ sites_of_result p.returns) (own ∷ body) q))
    item (process p) q =
        let body = sites_of_body in_no_procedure p.body p.handler in
        let own = at_body (Some p.name) (flat_map (λ q. q.names) p.formals ++ locals_of_body p.body p.handler) in
        whole_body in_no_procedure p.body p.handler (behind own body (second (map (λ q. at_mode q.mode) p.formals) (own ∷ body) q))
    item (modulion n kind inner h closing) q =
        let x = sites_of_items kind inner inner in let z = sites_of_handler in_no_procedure (handler_node h) in
        both (waits_in_items inner) (waits_in_handler (handler_node h)) (items kind inner inner (first x z q)) (handled in_no_procedure (handler_node h) (second x z q))
    item (action s) q = statement in_no_procedure s q
    item (seize at passed) q = tt
    item (grant at passed) q = tt
    item (local_item l) q = tt
    item (signals at ss) q = tt

    items : (kind : ModulionKind) (all is : ItemNodes) → Quiet (sites_of_items kind all is) → AreNeeded g (waits_in_items is)
    items kind all no_items q = tt
    items kind all (more_items i is) q =
        let own = at_item kind all i ∷ sites_of_item i in let rest = sites_of_items kind all is in
        both (waits_in_item i) (waits_in_items is) (item i (behind (at_item kind all i) (sites_of_item i) (first own rest q))) (items kind all is (second own rest q))

  modulions : (ms : List ModulionTree) → Quiet (flat_map sites_of_item (map modulion_item ms)) → AreNeeded g (flat_map (λ m. waits_in_item (modulion_item m)) ms)
  modulions [] q = tt
  modulions (m ∷ ms) q =
      let own = sites_of_item (modulion_item m) in let rest = flat_map sites_of_item (map modulion_item ms) in
      both (waits_in_item (modulion_item m)) (flat_map (λ m. waits_in_item (modulion_item m)) ms) (item (modulion_item m) (first own rest q)) (modulions ms (second own rest q))

  pub all_needed : (t : ProgramTree) → told_of_modes g t ≡ [] → AreNeeded g (waits_of t)
  all_needed t q =
      let all = flat_map sites_of_item (items_of t) in
      let shared = at_program (flat_map shared_in (items_of t)) in
      modulions t.modulions (behind shared all (behind (at_body None (flat_map outermost_locals (items_of t))) (shared ∷ all) q))
