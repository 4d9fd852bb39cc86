-- Of the names that a RECEIVE CASE lists before one nothing is told either.
use Rattle.std.proofs.Common.{List, [], ◌∷◌, ◌++◌, Option, Some, None}
use Rattle.std.specs.Prelude.{map, flat_map}
use Rattle.chill_tree.specs.declared.tree.name.Name.{Name}
use Rattle.chill_tree.specs.declared.tree.item.ModulionKind.{ModulionKind}
use Rattle.chill_tree.specs.ExprTree.{ExprTree}
use Rattle.chill_tree.specs.LocalTree.{LocalTree, synonyms, syn_modes, new_modes, locations}
use Rattle.chill_tree.specs.StatementTree.{StatementTree, BracketedTree, StatementNodes, ElsIfNodes, CaseNodes, NamedNodes, ReceiveNodes, OtherwiseNode, HandlerNode, BodyNodes, HandlerTree, BodyTree, empty, simple, bracketed, if_then, case_of, do_loop, begin_end, delay_case, receive_case, no_statements, more_statements, no_branches, more_branches, no_cases, more_cases, no_named, more_named, no_receives, more_receives, no_otherwise, otherwise, no_handler, handler, no_parts, more_locals, more_actions, handler_node, body_nodes}
use Rattle.chill_tree.specs.ModeTree as written
use Rattle.chill_tree.specs.ItemTree.{SignalTree, ItemTree, ItemNodes, seize, grant, local_item, signals, procedure, process, modulion, action, no_items, more_items}
use Rattle.checks_model.specs.Sites.{Site, Around, in_procedure, in_no_procedure, at_item, at_synonym, at_mode_definition, at_declaration, at_mode, at_set, at_priority, at_source, at_body, some_site, events_listed, sites_of_local, sites_of, sites_of_bracketed, sites_of_each, sites_of_branches, sites_of_cases, sites_of_events, sites_of_receives, sites_of_otherwise, sites_of_handler, sites_of_exceptions, sites_of_parts, locals_of_body, sites_of_modes, sites_of_result, sites_of_body, sites_of_item, sites_of_items}
use Rattle.written_laws.specs.Written.{Each}
use Rattle.written_laws.proofs.Shown.{each_append}

pub first_of : {A : Type 0} (P : A → Type 0) (xs ys : List A) → Each P (xs ++ ys) → Each P xs
first_of P [] ys all = tt
first_of P (x ∷ xs) ys all = (all.0, first_of P xs ys all.1)

pub later_of : {A : Type 0} (P : A → Type 0) (xs ys : List A) → Each P (xs ++ ys) → Each P ys
later_of P [] ys all = all
later_of P (x ∷ xs) ys all = later_of P xs ys all.1

-- what is so of each name from which something is received is so of those before it
module _ (P : Site → Type 0) (S : Name → Type 0) (source : (earlier : List Name) (n : Name) → P (at_source earlier n) → S n) where
  abbrev pub So : Site → Type 0
  So (at_source earlier n) = Each S earlier
  So n = Unit {0}

  abbrev All : List Site → Type 0
  All ns = Each P ns

  abbrev Sos : List Site → Type 0
  Sos ns = Each So ns

  both : (xs ys : List Site) → Sos xs → Sos ys → Sos (xs ++ ys)
  both xs ys one other = each_append So xs ys one other

  some_so : (f : ExprTree → Site) → ((e : ExprTree) → So (f e)) → (e : Option ExprTree) → Sos (some_site f e)
  some_so f so None = tt
  some_so f so (Some e) = (so e, tt)

  events_so : (earlier ns : List Name) → Sos (events_listed earlier ns)
  events_so earlier [] = tt
  events_so earlier (n ∷ ns) = (tt, events_so (earlier ++ n ∷ []) ns)

  mapped_so : {A : Type 0} (f : A → Site) → ((x : A) → So (f x)) → (xs : List A) → Sos (map f xs)
  mapped_so f so [] = tt
  mapped_so f so (x ∷ xs) = (so x, mapped_so f so xs)

  local_so : (shared : _) (l : LocalTree) → Sos (sites_of_local shared l)
  local_so shared (synonyms at ss) = mapped_so at_synonym (λ x. tt) ss
  local_so shared (syn_modes at ds) = mapped_so at_mode_definition (λ x. tt) ds
  local_so shared (new_modes at ds) = mapped_so at_mode_definition (λ x. tt) ds
  local_so shared (locations at ds) = mapped_so (at_declaration shared) (λ x. tt) ds

  mutual
    statement_so : (s : StatementTree) (a : Around) → All (sites_of a s) → Sos (sites_of a s)
    statement_so (empty at) a all = tt
    statement_so (simple at x h) a all = (tt, handler_so h a all.1)
    statement_so (bracketed at l x h closing) a all =
        let first = sites_of_bracketed a x in
        let later = sites_of_handler a h in
        both first later (bracketed_so x a (first_of P first later all)) (handler_so h a (later_of P first later all))

    bracketed_so : (x : BracketedTree) (a : Around) → All (sites_of_bracketed a x) → Sos (sites_of_bracketed a x)
    bracketed_so (if_then at c ss bs o) a all =
        let one = sites_of_each a ss in
        let two = sites_of_branches a bs in
        let three = sites_of_otherwise a o in
        let front = first_of P (one ++ two) three all.1 in
        (tt, both (one ++ two) three (both one two (each_so ss a (first_of P one two front)) (branches_so bs a (later_of P one two front))) (else_so o a (later_of P (one ++ two) three all.1)))
    bracketed_so (case_of at e as' o) a all =
        let one = sites_of_cases a e as' in
        let two = sites_of_otherwise a o in
        (tt, both one two (cases_so as' a e (first_of P one two all.1)) (else_so o a (later_of P one two all.1)))
    bracketed_so (do_loop at c ss) a all = (tt, each_so ss a all.1)
    bracketed_so (begin_end at ps) a all = parts_so ps a all
    bracketed_so (delay_case at set p as') a all =
        let one = some_site at_set set in
        let two = some_site at_priority p in
        let three = sites_of_events a [] as' in
        both (one ++ two) three (both one two (some_so at_set (λ e. tt) set) (some_so at_priority (λ e. tt) p)) (delays_so as' a [] (later_of P (one ++ two) three all))
    bracketed_so (receive_case at set as' o) a all =
        let one = some_site at_set set in
        let two = sites_of_receives a [] as' in
        let three = sites_of_otherwise a o in
        both (one ++ two) three (both one two (some_so at_set (λ e. tt) set) (receives_so as' a [] tt (later_of P one two (first_of P (one ++ two) three all)))) (else_so o a (later_of P (one ++ two) three all))

    each_so : (ss : StatementNodes) (a : Around) → All (sites_of_each a ss) → Sos (sites_of_each a ss)
    each_so no_statements a all = tt
    each_so (more_statements s ss) a all = (let one = sites_of a s in let two = sites_of_each a ss in both one two (statement_so s a (first_of P one two all)) (each_so ss a (later_of P one two all)))

    branches_so : (bs : ElsIfNodes) (a : Around) → All (sites_of_branches a bs) → Sos (sites_of_branches a bs)
    branches_so no_branches a all = tt
    branches_so (more_branches at c ss bs) a all =
        let one = sites_of_each a ss in
        let two = sites_of_branches a bs in
        (tt, both one two (each_so ss a (first_of P one two all.1)) (branches_so bs a (later_of P one two all.1)))

    cases_so : (as' : CaseNodes) (a : Around) (e : ExprTree) → All (sites_of_cases a e as') → Sos (sites_of_cases a e as')
    cases_so no_cases a e all = tt
    cases_so (more_cases at ls ss as') a e all =
        let one = sites_of_each a ss in
        let two = sites_of_cases a e as' in
        (tt, both one two (each_so ss a (first_of P one two all.1)) (cases_so as' a e (later_of P one two all.1)))

    delays_so : (as' : NamedNodes) (a : Around) (earlier : List Name) → All (sites_of_events a earlier as') → Sos (sites_of_events a earlier as')
    delays_so no_named a earlier all = tt
    delays_so (more_named at ns ss as') a earlier all =
        let one = events_listed earlier ns in
        let two = sites_of_each a ss in
        let three = sites_of_events a (earlier ++ ns) as' in
        both (one ++ two) three (both one two (events_so earlier ns) (each_so ss a (later_of P one two (first_of P (one ++ two) three all)))) (delays_so as' a (earlier ++ ns) (later_of P (one ++ two) three all))

    receives_so : (as' : ReceiveNodes) (a : Around) (earlier : List Name) → Each S earlier → All (sites_of_receives a earlier as') → Sos (sites_of_receives a earlier as')
    receives_so no_receives a earlier before all = tt
    receives_so (more_receives at n r ss as') a earlier before all =
        let one = sites_of_each a ss in
        let two = sites_of_receives a (earlier ++ n ∷ []) as' in
        let next = each_append S earlier (n ∷ []) before (source earlier n all.0, tt) in
        (before, (tt, both one two (each_so ss a (first_of P one two all.1.1)) (receives_so as' a (earlier ++ n ∷ []) next (later_of P one two all.1.1))))

    else_so : (o : OtherwiseNode) (a : Around) → All (sites_of_otherwise a o) → Sos (sites_of_otherwise a o)
    else_so no_otherwise a all = tt
    else_so (otherwise ss) a all = each_so ss a all

    handler_so : (h : HandlerNode) (a : Around) → All (sites_of_handler a h) → Sos (sites_of_handler a h)
    handler_so no_handler a all = tt
    handler_so (handler at as' o) a all =
        let one = sites_of_exceptions a [] as' in
        let two = sites_of_otherwise a o in
        both one two (exceptions_so as' a [] (first_of P one two all)) (else_so o a (later_of P one two all))

    exceptions_so : (as' : NamedNodes) (a : Around) (earlier : List Name) → All (sites_of_exceptions a earlier as') → Sos (sites_of_exceptions a earlier as')
    exceptions_so no_named a earlier all = tt
    exceptions_so (more_named at ns ss as') a earlier all =
        let one = sites_of_each a ss in
        let two = sites_of_exceptions a (earlier ++ ns) as' in
        (tt, both one two (each_so ss a (first_of P one two all.1)) (exceptions_so as' a (earlier ++ ns) (later_of P one two all.1)))

    parts_so : (ps : BodyNodes) (a : Around) → All (sites_of_parts a ps) → Sos (sites_of_parts a ps)
    parts_so no_parts a all = tt
    parts_so (more_locals l ps) a all = (let one = sites_of_local _ l in let two = sites_of_parts a ps in both one two (local_so _ l) (parts_so ps a (later_of P one two all)))
    parts_so (more_actions s ps) a all = (let one = sites_of a s in let two = sites_of_parts a ps in both one two (statement_so s a (first_of P one two all)) (parts_so ps a (later_of P one two all)))

  body_so : (a : Around) (ps : List BodyTree) (h : Option HandlerTree) → All (sites_of_body a ps h) → Sos (sites_of_body a ps h)
  body_so a ps h all =
      let one = sites_of_parts a (body_nodes ps) in
      let two = sites_of_handler a (handler_node h) in
      both one two (parts_so (body_nodes ps) a (first_of P one two all)) (handler_so (handler_node h) a (later_of P one two all))

  modes_so : (ms : Option (List written.ModeTree)) → Sos (sites_of_modes ms)
  modes_so None = tt
  modes_so (Some ms) = mapped_so at_mode (λ x. tt) ms

  signals_so : (ss : List SignalTree) → Sos (flat_map (λ s. sites_of_modes s.parts) ss)
  signals_so [] = tt
  signals_so (s ∷ ss) = both (sites_of_modes s.parts) (flat_map (λ s. sites_of_modes s.parts) ss) (modes_so s.parts) (signals_so ss)

  result_so : (m : Option written.ModeTree) → Sos (sites_of_result m)
  result_so None = tt
  result_so (Some m) = (tt, tt)

  mutual
    item_so : (i : ItemTree) → All (sites_of_item i) → Sos (sites_of_item i)
    item_so (seize at w) all = tt
    item_so (grant at w) all = tt
    item_so (local_item l) all = local_so _ l
    item_so (signals at ss) all = signals_so ss
    item_so (procedure p) all =
        let one = map (λ q. at_mode q.mode) p.params in
        let front = one ++ sites_of_result p.returns in
        let inner = sites_of_body (in_procedure p) p.body p.handler in
        let own = at_body (Some p.name) (flat_map (λ q. q.names) p.params ++ locals_of_body p.body p.handler) in
        both front (own ∷ inner) (both one (sites_of_result p.returns) (mapped_so (λ q. at_mode q.mode) (λ x. tt) p.params) (result_so p.returns)) (tt, body_so (in_procedure p) p.body p.handler (later_of P front (own ∷ inner) all).1)
    item_so (process p) all =
        let front = map (λ q. at_mode q.mode) p.formals in
        let inner = sites_of_body in_no_procedure p.body p.handler in
        let own = at_body (Some p.name) (flat_map (λ q. q.names) p.formals ++ locals_of_body p.body p.handler) in
        both front (own ∷ inner) (mapped_so (λ q. at_mode q.mode) (λ x. tt) p.formals) (tt, body_so in_no_procedure p.body p.handler (later_of P front (own ∷ inner) all).1)
    item_so (modulion n kind items h closing) all =
        let one = sites_of_items kind items items in
        let two = sites_of_handler in_no_procedure (handler_node h) in
        both one two (items_so items kind items (first_of P one two all)) (handler_so (handler_node h) in_no_procedure (later_of P one two all))
    item_so (action s) all = statement_so s in_no_procedure all

    items_so : (is : ItemNodes) (kind : ModulionKind) (every : ItemNodes) → All (sites_of_items kind every is) → Sos (sites_of_items kind every is)
    items_so no_items kind every all = tt
    items_so (more_items i is) kind every all =
        let one = at_item kind every i ∷ sites_of_item i in
        let two = sites_of_items kind every is in
        both one two (tt, item_so i (first_of P one two all).1) (items_so is kind every (later_of P one two all))

  pub program_so : (is : List ItemTree) → All (flat_map sites_of_item is) → Sos (flat_map sites_of_item is)
  program_so [] all = tt
  program_so (i ∷ is) all = (let one = sites_of_item i in let two = flat_map sites_of_item is in both one two (item_so i (first_of P one two all)) (program_so is (later_of P one two all)))
