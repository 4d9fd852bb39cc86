-- What the phase of processes tells is what names decide, and what is told of all that waits have.
use Rattle.std.proofs.Common.{◌≡◌, Bool, true, false, List, [], ◌∷◌, ◌++◌, refl, sym, ap, ◌∙◌, subst, append_assoc, append-nil, Option, Some, None}
use Rattle.std.specs.Prelude.{map, flat_map}
use Rattle.std.proofs.lemmas.Grind.{flat_map-append}
use Rattle.chill_tree.specs.declared.tree.name.Name.{Name}
use Rattle.chill_tree.specs.declared.tree.item.ModulionKind.{ModulionKind}
use Rattle.chill_tree.specs.ExprTree.{ExprTree}
use Rattle.chill_tree.specs.LocalTree.{LocalTree, synonyms, syn_modes, new_modes, locations}
use Rattle.chill_tree.specs.SimpleTree.{SimpleTree, assign, update, call_of, exit, return_with, result_of, assert_that, cause, stop, start_of, delay, continue_event, send}
use Rattle.chill_tree.specs.StatementTree.{StatementTree, BracketedTree, StatementNodes, ElsIfNodes, CaseNodes, NamedNodes, ReceiveNodes, OtherwiseNode, HandlerNode, BodyNodes, HandlerTree, BodyTree, empty, simple, bracketed, if_then, case_of, do_loop, begin_end, delay_case, receive_case, no_statements, more_statements, no_branches, more_branches, no_cases, more_cases, no_named, more_named, no_receives, more_receives, no_otherwise, otherwise, no_handler, handler, no_parts, more_locals, more_actions, handler_node, body_nodes}
use Rattle.chill_tree.specs.ItemTree.{SignalTree, ParamTree, ProcedureTree, FormalTree, ProcessTree, ItemTree, ItemNodes, seize, grant, local_item, signals, procedure, process, modulion, action, no_items, more_items, ModulionTree, ProgramTree, modulion_item}
use Rattle.chill_tree.specs.ModeTree as written
use Rattle.diagnostics.specs.declared.diagnostic.Diagnostic.{Diagnostic}
use Rattle.diagnostics.specs.Listing.{SameMembers}
use Rattle.checks_model.specs.Ground.{Ground}
use Rattle.checks_model.specs.Phases.{exprs_of_simple, told_met, told_some_met, told_met_by, processes_told_at}
use Rattle.checks_model.specs.Phases as phases
use Rattle.checks_model.specs.Sites.{Site, Around, in_procedure, in_no_procedure, at_item, at_synonym, at_mode_definition, at_declaration, at_mode, at_simple, at_condition, at_selector, at_labels, at_control, at_set, at_priority, at_event, at_source, at_received, at_exceptions, at_body, at_program, sites_of_local, some_site, events_listed, sites_of, sites_of_bracketed, sites_of_each, sites_of_branches, sites_of_cases, sites_of_events, sites_of_receives, sites_of_otherwise, sites_of_handler, sites_of_exceptions, sites_of_parts, sites_of_modes, sites_of_result, sites_of_body, locals_of_body, sites_of_procedure, sites_of_process, sites_of_item, sites_of_items, items_of, sites}
use Rattle.wait_exprs.specs.Waits.{WaitTree, set_of, priority_of, some_wait, waits_of_simple, waits_at_head, waits_in, waits_held, waits_in_each, waits_in_branches, waits_in_cases, waits_in_named, waits_in_receives, waits_otherwise, waits_in_handler, waits_in_parts, waits_in_body, waits_in_item, waits_in_items, waits_of}
use Rattle.wait_exprs.specs.Split.{names_told_at, told_by_names, told_wait, SplitLaw}
use Rattle.wait_exprs.proofs.Same.{same, after, both, swapped}

-- what a node has
abbrev waits_at : Site → List WaitTree
waits_at (at_simple a s) = some_wait priority_of (phases.priority_of s)
waits_at (at_set e) = set_of e ∷ []
waits_at (at_priority e) = priority_of e ∷ []
waits_at _ = []

module _ (g : Ground) where
  abbrev N : Site → List Diagnostic
  N = names_told_at g

  abbrev W : WaitTree → List Diagnostic
  W = told_wait g

  alone : (xs : List Diagnostic) → xs ++ [] ≡ xs
  alone xs = append-nil xs

  -- a node tells what names decide, and what is told of what it has
  at_node : (s : Site) → N s ++ flat_map W (waits_at s) ≡ processes_told_at g s
  at_node (at_simple a s) = by (phases.priority_of s)
    where
      by : (p : Option ExprTree) → (told_met_by g s ++ flat_map (told_met g) (exprs_of_simple s) ++ told_some_met g p) ++ flat_map W (some_wait priority_of p) ≡ told_met_by g s ++ flat_map (told_met g) (exprs_of_simple s) ++ phases.told_of_some_priority g p
      by None = alone (told_met_by g s ++ flat_map (told_met g) (exprs_of_simple s) ++ [])
      by (Some p) =
          let x = told_met_by g s ++ flat_map (told_met g) (exprs_of_simple s) in
          append_assoc x (told_met g p) (W (priority_of p) ++ []) ∙ ap (λ ys. x ++ (told_met g p ++ ys)) (alone (W (priority_of p)))
  at_node (at_set e) = ap (λ ys. told_met g e ++ ys) (alone (W (set_of e)))
  at_node (at_priority e) = ap (λ ys. told_met g e ++ ys) (alone (W (priority_of e)))
  at_node (at_item kind all i) = alone (N (at_item kind all i))
  at_node (at_synonym s) = alone (N (at_synonym s))
  at_node (at_mode_definition d) = alone (N (at_mode_definition d))
  at_node (at_declaration shared d) = alone (N (at_declaration shared d))
  at_node (at_mode m) = alone (N (at_mode m))
  at_node (at_condition e) = alone (N (at_condition e))
  at_node (at_selector e) = alone (N (at_selector e))
  at_node (at_labels e ls) = alone (N (at_labels e ls))
  at_node (at_control c) = alone (N (at_control c))
  at_node (at_event earlier n) = alone (N (at_event earlier n))
  at_node (at_source earlier n) = alone (N (at_source earlier n))
  at_node (at_received n names) = refl
  at_node (at_exceptions earlier ns) = refl
  at_node (at_body n locals) = refl
  at_node (at_program shared) = refl

  at_nodes : (ss : List Site) → SameMembers (flat_map N ss ++ flat_map W (flat_map waits_at ss)) (flat_map (processes_told_at g) ss)
  at_nodes [] = same [] [] refl
  at_nodes (s ∷ ss) =
      let n = N s in let ns = flat_map N ss in let w = flat_map W (waits_at s) in let ws = flat_map W (flat_map waits_at ss) in
      after ((n ++ ns) ++ flat_map W (waits_at s ++ flat_map waits_at ss)) ((n ++ ns) ++ (w ++ ws)) (processes_told_at g s ++ flat_map (processes_told_at g) ss)
      (same ((n ++ ns) ++ flat_map W (waits_at s ++ flat_map waits_at ss)) ((n ++ ns) ++ (w ++ ws)) (ap (λ ys. (n ++ ns) ++ ys) (flat_map-append W (waits_at s) (flat_map waits_at ss))))
      (after ((n ++ ns) ++ (w ++ ws)) ((n ++ w) ++ (ns ++ ws)) (processes_told_at g s ++ flat_map (processes_told_at g) ss) (swapped n ns w ws)
      (both (n ++ w) (ns ++ ws) (processes_told_at g s) (flat_map (processes_told_at g) ss) (same (n ++ w) (processes_told_at g s) (at_node s)) (at_nodes ss)))

-- ---- the nodes of a program have what its statements have

abbrev Has : List Site → List WaitTree → Type 0
Has ss ws = flat_map waits_at ss ≡ ws

none_at : {X : Type 0} (to : X → Site) → ((x : X) → waits_at (to x) ≡ []) → (xs : List X) → Has (map to xs) []
none_at to none [] = refl
none_at to none (x ∷ xs) = ap (λ ws. ws ++ flat_map waits_at (map to xs)) (none x) ∙ none_at to none xs

and : (ss ts : List Site) (ws vs : List WaitTree) → Has ss ws → Has ts vs → Has (ss ++ ts) (ws ++ vs)
and ss ts ws vs h k = flat_map-append waits_at ss ts ∙ ap (λ xs. xs ++ flat_map waits_at ts) h ∙ ap (λ xs. ws ++ xs) k

-- nothing stands before
and_none : (ss ts : List Site) (vs : List WaitTree) → Has ss [] → Has ts vs → Has (ss ++ ts) vs
and_none ss ts vs h k = and ss ts [] vs h k

local_has : (shared : Bool) (l : LocalTree) → Has (sites_of_local shared l) []
local_has shared (synonyms p ss) = none_at at_synonym (λ s. refl) ss
local_has shared (syn_modes p ds) = none_at at_mode_definition (λ d. refl) ds
local_has shared (new_modes p ds) = none_at at_mode_definition (λ d. refl) ds
local_has shared (locations p ds) = none_at (at_declaration shared) (λ d. refl) ds

listed_has : (earlier ns : List Name) → Has (events_listed earlier ns) []
listed_has earlier [] = refl
listed_has earlier (n ∷ ns) = listed_has (earlier ++ n ∷ []) ns

some_set : (e : Option ExprTree) → Has (some_site at_set e) (some_wait set_of e)
some_set None = refl
some_set (Some e) = refl

some_priority : (e : Option ExprTree) → Has (some_site at_priority e) (some_wait priority_of e)
some_priority None = refl
some_priority (Some e) = refl

simple_has : (a : Around) (s : SimpleTree) → waits_at (at_simple a s) ≡ waits_of_simple s
simple_has a (assign p t v) = refl
simple_has a (update p t o q v) = refl
simple_has a (call_of p word n es) = refl
simple_has a (exit p n) = refl
simple_has a (return_with p v) = refl
simple_has a (result_of p v) = refl
simple_has a (assert_that p c) = refl
simple_has a (cause p n) = refl
simple_has a (stop p) = refl
simple_has a (start_of p n es) = refl
simple_has a (delay p n c) = refl
simple_has a (continue_event p n) = refl
simple_has a (send p n es to c) = refl

module _ (a : Around) where
  mutual
    statement : (s : StatementTree) → Has (sites_of a s) (waits_in s)
    statement (empty p) = refl
    statement (simple p s h) = ap (λ ws. ws ++ flat_map waits_at (sites_of_handler a h)) (simple_has a s) ∙ ap (λ ws. waits_of_simple s ++ ws) (handler_has h)
    statement (bracketed p l s h closing) =
        and (sites_of_bracketed a s) (sites_of_handler a h) (waits_at_head s ++ waits_held s) (waits_in_handler h) (bracketed_has s) (handler_has h) ∙ append_assoc (waits_at_head s) (waits_held s) (waits_in_handler h)

    bracketed_has : (s : BracketedTree) → Has (sites_of_bracketed a s) (waits_at_head s ++ waits_held s)
    bracketed_has (if_then p c ss bs o) =
        and (at_condition c ∷ sites_of_each a ss ++ sites_of_branches a bs) (sites_of_otherwise a o) (waits_in_each ss ++ waits_in_branches bs) (waits_otherwise o)
        (and (at_condition c ∷ sites_of_each a ss) (sites_of_branches a bs) (waits_in_each ss) (waits_in_branches bs) (each_has ss) (branches_has bs)) (otherwise_has o)
        ∙ append_assoc (waits_in_each ss) (waits_in_branches bs) (waits_otherwise o)
    bracketed_has (case_of p e as' o) = and (at_selector e ∷ sites_of_cases a e as') (sites_of_otherwise a o) (waits_in_cases as') (waits_otherwise o) (cases_has as' e) (otherwise_has o)
    bracketed_has (do_loop p c ss) = each_has ss
    bracketed_has (begin_end p ps) = parts_has ps
    bracketed_has (delay_case p set c as') =
        and (some_site at_set set ++ some_site at_priority c) (sites_of_events a [] as') (some_wait set_of set ++ some_wait priority_of c) (waits_in_named as')
        (and (some_site at_set set) (some_site at_priority c) (some_wait set_of set) (some_wait priority_of c) (some_set set) (some_priority c)) (events_has as' [])
    bracketed_has (receive_case p set as' o) =
        and (some_site at_set set ++ sites_of_receives a [] as') (sites_of_otherwise a o) (some_wait set_of set ++ waits_in_receives as') (waits_otherwise o)
        (and (some_site at_set set) (sites_of_receives a [] as') (some_wait set_of set) (waits_in_receives as') (some_set set) (receives_has as' [])) (otherwise_has o)
        ∙ append_assoc (some_wait set_of set) (waits_in_receives as') (waits_otherwise o)

    each_has : (ss : StatementNodes) → Has (sites_of_each a ss) (waits_in_each ss)
    each_has no_statements = refl
    each_has (more_statements s ss) = and (sites_of a s) (sites_of_each a ss) (waits_in s) (waits_in_each ss) (statement s) (each_has ss)

    branches_has : (bs : ElsIfNodes) → Has (sites_of_branches a bs) (waits_in_branches bs)
    branches_has no_branches = refl
    branches_has (more_branches p c ss bs) = and (at_condition c ∷ sites_of_each a ss) (sites_of_branches a bs) (waits_in_each ss) (waits_in_branches bs) (each_has ss) (branches_has bs)

    cases_has : (as' : CaseNodes) (e : ExprTree) → Has (sites_of_cases a e as') (waits_in_cases as')
    cases_has no_cases e = refl
    cases_has (more_cases p ls ss as') e = and (at_labels e ls ∷ sites_of_each a ss) (sites_of_cases a e as') (waits_in_each ss) (waits_in_cases as') (each_has ss) (cases_has as' e)

    events_has : (as' : NamedNodes) (earlier : List Name) → Has (sites_of_events a earlier as') (waits_in_named as')
    events_has no_named earlier = refl
    events_has (more_named p ns ss as') earlier =
        and (events_listed earlier ns ++ sites_of_each a ss) (sites_of_events a (earlier ++ ns) as') (waits_in_each ss) (waits_in_named as')
        (and_none (events_listed earlier ns) (sites_of_each a ss) (waits_in_each ss) (listed_has earlier ns) (each_has ss)) (events_has as' (earlier ++ ns))

    receives_has : (as' : ReceiveNodes) (earlier : List Name) → Has (sites_of_receives a earlier as') (waits_in_receives as')
    receives_has no_receives earlier = refl
    receives_has (more_receives p n r ss as') earlier =
        and (at_source earlier n ∷ at_received n r ∷ sites_of_each a ss) (sites_of_receives a (earlier ++ n ∷ []) as') (waits_in_each ss) (waits_in_receives as') (each_has ss) (receives_has as' (earlier ++ n ∷ []))

    otherwise_has : (o : OtherwiseNode) → Has (sites_of_otherwise a o) (waits_otherwise o)
    otherwise_has no_otherwise = refl
    otherwise_has (otherwise ss) = each_has ss

    handler_has : (h : HandlerNode) → Has (sites_of_handler a h) (waits_in_handler h)
    handler_has no_handler = refl
    handler_has (handler p as' o) = and (sites_of_exceptions a [] as') (sites_of_otherwise a o) (waits_in_named as') (waits_otherwise o) (named_has as' []) (otherwise_has o)

    named_has : (as' : NamedNodes) (earlier : List Name) → Has (sites_of_exceptions a earlier as') (waits_in_named as')
    named_has no_named earlier = refl
    named_has (more_named p ns ss as') earlier = and (at_exceptions earlier ns ∷ sites_of_each a ss) (sites_of_exceptions a (earlier ++ ns) as') (waits_in_each ss) (waits_in_named as') (each_has ss) (named_has as' (earlier ++ ns))

    parts_has : (ps : BodyNodes) → Has (sites_of_parts a ps) (waits_in_parts ps)
    parts_has no_parts = refl
    parts_has (more_locals l ps) = and_none (sites_of_local false l) (sites_of_parts a ps) (waits_in_parts ps) (local_has false l) (parts_has ps)
    parts_has (more_actions s ps) = and (sites_of a s) (sites_of_parts a ps) (waits_in s) (waits_in_parts ps) (statement s) (parts_has ps)

  body : (ps : List BodyTree) (h : Option HandlerTree) → Has (sites_of_body a ps h) (waits_in_body ps h)
  body ps h = and (sites_of_parts a (body_nodes ps)) (sites_of_handler a (handler_node h)) (waits_in_parts (body_nodes ps)) (waits_in_handler (handler_node h)) (parts_has (body_nodes ps)) (handler_has (handler_node h))

result : (m : Option written.ModeTree) → Has (sites_of_result m) []
result None = refl
result (Some m) = refl

procedure_has : (p : ProcedureTree) → Has (sites_of_procedure p) (waits_in_body p.body p.handler)
procedure_has p =
    let own = at_body (Some p.name) (flat_map (λ (q : ParamTree). q.names) p.params ++ locals_of_body p.body p.handler) in
    and_none (map (λ (q : ParamTree). at_mode q.mode) p.params ++ sites_of_result p.returns) (own ∷ sites_of_body (in_procedure p) p.body p.handler) (waits_in_body p.body p.handler)
    (and_none (map (λ (q : ParamTree). at_mode q.mode) p.params) (sites_of_result p.returns) [] (none_at (λ (q : ParamTree). at_mode q.mode) (λ q. refl) p.params) (result p.returns)) (body (in_procedure p) p.body p.handler)

process_has : (p : ProcessTree) → Has (sites_of_process p) (waits_in_body p.body p.handler)
process_has p =
    let own = at_body (Some p.name) (flat_map (λ (q : FormalTree). q.names) p.formals ++ locals_of_body p.body p.handler) in
    and_none (map (λ (q : FormalTree). at_mode q.mode) p.formals) (own ∷ sites_of_body in_no_procedure p.body p.handler) (waits_in_body p.body p.handler)
    (none_at (λ (q : FormalTree). at_mode q.mode) (λ q. refl) p.formals) (body in_no_procedure p.body p.handler)

parts_of_signal : (ms : Option (List written.ModeTree)) → Has (sites_of_modes ms) []
parts_of_signal None = refl
parts_of_signal (Some ms) = none_at at_mode (λ m. refl) ms

signals_has : (ss : List SignalTree) → Has (flat_map (λ (s : SignalTree). sites_of_modes s.parts) ss) []
signals_has [] = refl
signals_has (s ∷ ss) = and_none (sites_of_modes s.parts) (flat_map (λ (q : SignalTree). sites_of_modes q.parts) ss) [] (parts_of_signal s.parts) (signals_has ss)

mutual
  item : (i : ItemTree) → Has (sites_of_item i) (waits_in_item i)
  item (seize p passed) = refl
  item (grant p passed) = refl
  item (local_item l) = local_has true l
  item (signals p ss) = signals_has ss
  item (procedure p) = procedure_has p
  item (process p) = process_has p
  item (modulion n kind is h closing) = and (sites_of_items kind is is) (sites_of_handler in_no_procedure (handler_node h)) (waits_in_items is) (waits_in_handler (handler_node h)) (items kind is is) (handler_has in_no_procedure (handler_node h))
  item (action s) = statement in_no_procedure s

  items : (kind : ModulionKind) (among is : ItemNodes) → Has (sites_of_items kind among is) (waits_in_items is)
  items kind among no_items = refl
  items kind among (more_items i is) = and (at_item kind among i ∷ sites_of_item i) (sites_of_items kind among is) (waits_in_item i) (waits_in_items is) (item i) (items kind among is)

program : (ms : List ModulionTree) → Has (flat_map sites_of_item (map modulion_item ms)) (flat_map (λ m. waits_in_item (modulion_item m)) ms)
program [] = refl
program (m ∷ ms) = and (sites_of_item (modulion_item m)) (flat_map sites_of_item (map modulion_item ms)) (waits_in_item (modulion_item m)) (flat_map (λ k. waits_in_item (modulion_item k)) ms) (item (modulion_item m)) (program ms)

pub split : SplitLaw
split g t = subst (λ ws. SameMembers (told_by_names g t ++ flat_map (told_wait g) ws) (phases.told_of_processes g t)) (program t.modulions) (at_nodes g (sites t))
