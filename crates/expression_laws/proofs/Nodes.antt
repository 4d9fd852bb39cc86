-- The definitions of a text stand at nodes of it.
use Rattle.std.proofs.Common.{◌≡◌, Bool, true, false, List, [], ◌∷◌, ◌++◌, Option, Some, None, length, Contains, refl, ap, ◌∙◌, subst}
use Rattle.std.specs.Prelude.{map, flat_map, replicate, slice_get}
use Rattle.chill_tree.specs.declared.tree.name.Name.{Name}
use Rattle.chill_tree.specs.declared.tree.item.ModulionKind.{ModulionKind}
use Rattle.chill_tree.specs.ExprTree.{ExprTree}
use Rattle.chill_tree.specs.ModeTree as written
use Rattle.chill_tree.specs.LocalTree.{SynonymTree, ModeDefinitionTree, DeclarationTree, LocalTree, synonyms, syn_modes, new_modes, locations}
use Rattle.chill_tree.specs.SimpleTree.{ControlTree, while_holds, for_ever, for_members, for_steps}
use Rattle.chill_tree.specs.StatementTree.{StatementTree, BracketedTree, StatementNodes, ElsIfNodes, CaseNodes, NamedNodes, ReceiveNodes, OtherwiseNode, HandlerNode, BodyNodes, HandlerTree, BodyTree, empty, simple, bracketed, if_then, case_of, do_loop, begin_end, delay_case, receive_case, no_statements, more_statements, no_branches, more_branches, no_cases, more_cases, no_named, more_named, no_receives, more_receives, no_otherwise, otherwise, no_handler, handler, no_parts, more_locals, more_actions, handler_node, body_nodes}
use Rattle.chill_tree.specs.ItemTree.{SignalTree, ParamTree, ProcedureTree, FormalTree, ProcessTree, ItemTree, ItemNodes, seize, grant, local_item, signals, procedure, process, modulion, action, no_items, more_items, ModulionTree, modulion_item, ProgramTree}
use Rattle.names_model.specs.Definitions.{numbers_on}
use Rattle.checks_model.specs.Ground.{Ground, Origin, a_synonym, an_element, a_location, a_parameter, a_received}
use Rattle.checks_model.specs.Origins.{sets_in, elements, elements_of, elements_of_some, origins_of_names, origins_of_synonym, owner_of, origins_of_mode, origins_of_declaration, origins_of_local, counters_in, received_in, origins_in, origins_in_bracketed, origins_in_each, origins_in_branches, origins_in_cases, origins_in_named, origins_in_receives, origins_in_otherwise, origins_in_handler, origins_in_parts, origins_of_signal, origins_of_param, origins_of_formal, origins_of_body, origins_of_procedure, origins_of_process, origins_of_item, origins_of_items, text_origins, in_both_cases, predefined_origins, origins_of}
use Rattle.checks_model.specs.Sites.{Site, Around, in_procedure, in_no_procedure, at_item, at_synonym, at_mode_definition, at_declaration, at_mode, at_condition, at_selector, at_labels, at_set, at_control, at_priority, at_source, at_received, at_exceptions, at_body, some_site, events_listed, sites_of_local, sites_of, sites_of_bracketed, sites_of_each, sites_of_branches, sites_of_cases, sites_of_events, sites_of_receives, sites_of_otherwise, sites_of_handler, sites_of_exceptions, sites_of_parts, sites_of_modes, sites_of_result, sites_of_body, sites_of_procedure, sites_of_process, sites_of_item, sites_of_items, locals_of_body, items_of, sites}
use Rattle.written_laws.specs.Written.{Each}
use Rattle.written_laws.proofs.Shown.{each_append, each_map, each_any, each_flat, each_same}
use Rattle.written_laws.proofs.WrittenSo.{each_there, each_predefined}
use Rattle.expression_laws.specs.Exits.{ItemExits, EachItemExits}
use Rattle.expression_laws.specs.Nodes.{NodesOf, NodesLaw}
use Rattle.names_laws.proofs.Members.{here_in, later_in}

-- ---- lists

first_of : {A : Type 0} (P : A → Type 0) (xs ys : List A) → Each P (xs ++ ys) → Each P xs
first_of P [] ys each = tt
first_of P (x ∷ xs) ys each = (each.0, first_of P xs ys each.1)

later_of : {A : Type 0} (P : A → Type 0) (xs ys : List A) → Each P (xs ++ ys) → Each P ys
later_of P [] ys each = each
later_of P (x ∷ xs) ys each = later_of P xs ys each.1

of_mapped : {A B : Type 0} (P : B → Type 0) (f : A → B) (xs : List A) → Each P (map f xs) → Each (λ x. P (f x)) xs
of_mapped P f [] each = tt
of_mapped P f (x ∷ xs) each = (each.0, of_mapped P f xs each.1)

of_flat : {A B : Type 0} (P : B → Type 0) (f : A → List B) (xs : List A) → Each P (flat_map f xs) → Each (λ x. Each P (f x)) xs
of_flat P f [] each = tt
of_flat P f (x ∷ xs) each = (first_of P (f x) (flat_map f xs) each, of_flat P f xs (later_of P (f x) (flat_map f xs) each))

module _ (P : Site → Type 0) where
  -- some nodes are so, and those of some definitions
  abbrev Clean : List Site → Type 0
  Clean ss = Each P ss

  abbrev Stand : List Origin → Type 0
  Stand os = Each (NodesOf P) os

  both : (os ps : List Origin) → Stand os → Stand ps → Stand (os ++ ps)
  both os ps first later = each_append (NodesOf P) os ps first later

  first : (ss ts : List Site) → Clean (ss ++ ts) → Clean ss
  first ss ts clean = first_of P ss ts clean

  later : (ss ts : List Site) → Clean (ss ++ ts) → Clean ts
  later ss ts clean = later_of P ss ts clean

  -- ---- elements

  elements_stand : (owner : Option (Name × Bool)) (sets : List (List Name)) → Stand (flat_map (elements owner) sets)
  elements_stand owner sets =
      each_flat (λ ns. Unit {0}) (NodesOf P) (elements owner) (λ ns fits. each_map (λ k. Unit {0}) (NodesOf P) (λ part. an_element ns part owner) (λ k fits. tt) (numbers_on 0 (length ns)) (each_any (λ k. Unit {0}) (λ k. tt) (numbers_on 0 (length ns)))) sets
      (each_any (λ ns. Unit {0}) (λ ns. tt) sets)

  some_stand : (w : Option written.ModeTree) → Stand (elements_of_some w)
  some_stand None = tt
  some_stand (Some w) = elements_stand None (sets_in w)

  names_stand : (ns : List Name) (o : Origin) (inside : List Origin) → NodesOf P o → Stand inside → Stand (origins_of_names ns o inside)
  names_stand ns o inside own rest = both (replicate (length ns) o) inside (each_same (NodesOf P) (length ns) o own) rest

  -- ---- definition statements

  synonym_stand : (s : SynonymTree) → P (at_synonym s) → Stand (origins_of_synonym s)
  synonym_stand s clean = names_stand s.names (a_synonym s) (elements_of_some s.mode) clean (some_stand s.mode)

  definition_stand : (novel : Bool) (d : ModeDefinitionTree) → P (at_mode_definition d) → Stand (origins_of_mode novel d)
  definition_stand novel d clean = (tt, elements_stand (owner_of novel d) (sets_in d.mode))

  declaration_stand : (shared : Bool) (d : DeclarationTree) → P (at_declaration shared d) → Stand (origins_of_declaration d)
  declaration_stand shared d clean = names_stand d.names (a_location d) (elements_of None d.mode) (shared, clean) (elements_stand None (sets_in d.mode))

  local_stand : (shared : Bool) (l : LocalTree) → Clean (sites_of_local shared l) → Stand (origins_of_local l)
  local_stand shared (synonyms at ss) clean = each_flat (λ s. P (at_synonym s)) (NodesOf P) origins_of_synonym synonym_stand ss (of_mapped P at_synonym ss clean)
  local_stand shared (syn_modes at ds) clean = each_flat (λ d. P (at_mode_definition d)) (NodesOf P) (origins_of_mode false) (definition_stand false) ds (of_mapped P at_mode_definition ds clean)
  local_stand shared (new_modes at ds) clean = each_flat (λ d. P (at_mode_definition d)) (NodesOf P) (origins_of_mode true) (definition_stand true) ds (of_mapped P at_mode_definition ds clean)
  local_stand shared (locations at ds) clean = each_flat (λ d. P (at_declaration shared d)) (NodesOf P) origins_of_declaration (declaration_stand shared) ds (of_mapped P (at_declaration shared) ds clean)

  -- ---- actions

  counters_stand : (c : ControlTree) → P (at_control c) → Stand (counters_in c)
  counters_stand (while_holds at c) own = tt
  counters_stand (for_ever at) own = tt
  counters_stand (for_members at n s c) own = (own, tt)
  counters_stand (for_steps at n s b down e c) own = (own, tt)

  received_stand : (earlier : List Name) (n : Name) (r : Option (List Name)) → P (at_source earlier n) → P (at_received n r) → Stand (received_in n r)
  received_stand earlier n None source own = tt
  received_stand earlier n (Some ns) source own =
      each_map (λ k. Unit {0}) (NodesOf P) (a_received n (length ns)) (λ k fits. (earlier, (ns, (refl, (source, own))))) (numbers_on 0 (length ns)) (each_any (λ k. Unit {0}) (λ k. tt) (numbers_on 0 (length ns)))

  mutual
    statement_stand : (s : StatementTree) (a : Around) → Clean (sites_of a s) → Stand (origins_in s)
    statement_stand (empty at) a clean = tt
    statement_stand (simple at x h) a clean = handler_stand h a clean.1
    statement_stand (bracketed at l x h closing) a clean =
        both (origins_in_bracketed x) (origins_in_handler h) (bracketed_stand x a (first (sites_of_bracketed a x) (sites_of_handler a h) clean)) (handler_stand h a (later (sites_of_bracketed a x) (sites_of_handler a h) clean))

    bracketed_stand : (x : BracketedTree) (a : Around) → Clean (sites_of_bracketed a x) → Stand (origins_in_bracketed x)
    bracketed_stand (if_then at c ss bs o) a clean =
        let front = at_condition c ∷ sites_of_each a ss in
        let most = first (front ++ sites_of_branches a bs) (sites_of_otherwise a o) clean in
        both (origins_in_each ss ++ origins_in_branches bs) (origins_in_otherwise o)
        (both (origins_in_each ss) (origins_in_branches bs) (each_stand ss a (first front (sites_of_branches a bs) most).1) (branches_stand bs a (later front (sites_of_branches a bs) most))) (otherwise_stand o a (later (front ++ sites_of_branches a bs) (sites_of_otherwise a o) clean))
    bracketed_stand (case_of at e as' o) a clean =
        let front = at_selector e ∷ sites_of_cases a e as' in
        both (origins_in_cases as') (origins_in_otherwise o) (cases_stand as' a e (first front (sites_of_otherwise a o) clean).1) (otherwise_stand o a (later front (sites_of_otherwise a o) clean))
    bracketed_stand (do_loop at c ss) a clean = both (counters_in c) (origins_in_each ss) (counters_stand c clean.0) (each_stand ss a clean.1)
    bracketed_stand (begin_end at ps) a clean = parts_stand ps a clean
    bracketed_stand (delay_case at set p as') a clean = events_stand as' a [] (later (some_site at_set set ++ some_site at_priority p) (sites_of_events a [] as') clean)
    bracketed_stand (receive_case at set as' o) a clean =
        let front = some_site at_set set ++ sites_of_receives a [] as' in
        both (origins_in_receives as') (origins_in_otherwise o) (receives_stand as' a [] (later (some_site at_set set) (sites_of_receives a [] as') (first front (sites_of_otherwise a o) clean))) (otherwise_stand o a (later front (sites_of_otherwise a o) clean))

    each_stand : (ss : StatementNodes) (a : Around) → Clean (sites_of_each a ss) → Stand (origins_in_each ss)
    each_stand no_statements a clean = tt
    each_stand (more_statements s ss) a clean = both (origins_in s) (origins_in_each ss) (statement_stand s a (first (sites_of a s) (sites_of_each a ss) clean)) (each_stand ss a (later (sites_of a s) (sites_of_each a ss) clean))

    branches_stand : (bs : ElsIfNodes) (a : Around) → Clean (sites_of_branches a bs) → Stand (origins_in_branches bs)
    branches_stand no_branches a clean = tt
    branches_stand (more_branches at c ss bs) a clean =
        let front = at_condition c ∷ sites_of_each a ss in
        both (origins_in_each ss) (origins_in_branches bs) (each_stand ss a (first front (sites_of_branches a bs) clean).1) (branches_stand bs a (later front (sites_of_branches a bs) clean))

    cases_stand : (as' : CaseNodes) (a : Around) (e : ExprTree) → Clean (sites_of_cases a e as') → Stand (origins_in_cases as')
    cases_stand no_cases a e clean = tt
    cases_stand (more_cases at ls ss as') a e clean =
        let front = at_labels e ls ∷ sites_of_each a ss in
        both (origins_in_each ss) (origins_in_cases as') (each_stand ss a (first front (sites_of_cases a e as') clean).1) (cases_stand as' a e (later front (sites_of_cases a e as') clean))

    events_stand : (as' : NamedNodes) (a : Around) (earlier : List Name) → Clean (sites_of_events a earlier as') → Stand (origins_in_named as')
    events_stand no_named a earlier clean = tt
    events_stand (more_named at ns ss as') a earlier clean =
        let front = events_listed earlier ns ++ sites_of_each a ss in
        let rest = sites_of_events a (earlier ++ ns) as' in
        both (origins_in_each ss) (origins_in_named as') (each_stand ss a (later (events_listed earlier ns) (sites_of_each a ss) (first front rest clean))) (events_stand as' a (earlier ++ ns) (later front rest clean))

    receives_stand : (as' : ReceiveNodes) (a : Around) (earlier : List Name) → Clean (sites_of_receives a earlier as') → Stand (origins_in_receives as')
    receives_stand no_receives a earlier clean = tt
    receives_stand (more_receives at n r ss as') a earlier clean =
        let front = at_source earlier n ∷ at_received n r ∷ sites_of_each a ss in
        let rest = sites_of_receives a (earlier ++ n ∷ []) as' in
        both (received_in n r ++ origins_in_each ss) (origins_in_receives as') (both (received_in n r) (origins_in_each ss) (received_stand earlier n r (first front rest clean).0 (first front rest clean).1.0) (each_stand ss a (first front rest clean).1.1)) (receives_stand as' a (earlier ++ n ∷ []) (later front rest clean))

    otherwise_stand : (o : OtherwiseNode) (a : Around) → Clean (sites_of_otherwise a o) → Stand (origins_in_otherwise o)
    otherwise_stand no_otherwise a clean = tt
    otherwise_stand (otherwise ss) a clean = each_stand ss a clean

    handler_stand : (h : HandlerNode) (a : Around) → Clean (sites_of_handler a h) → Stand (origins_in_handler h)
    handler_stand no_handler a clean = tt
    handler_stand (handler at as' o) a clean =
        both (origins_in_named as') (origins_in_otherwise o) (exceptions_stand as' a [] (first (sites_of_exceptions a [] as') (sites_of_otherwise a o) clean)) (otherwise_stand o a (later (sites_of_exceptions a [] as') (sites_of_otherwise a o) clean))

    exceptions_stand : (as' : NamedNodes) (a : Around) (earlier : List Name) → Clean (sites_of_exceptions a earlier as') → Stand (origins_in_named as')
    exceptions_stand no_named a earlier clean = tt
    exceptions_stand (more_named at ns ss as') a earlier clean =
        let front = at_exceptions earlier ns ∷ sites_of_each a ss in
        let rest = sites_of_exceptions a (earlier ++ ns) as' in
        both (origins_in_each ss) (origins_in_named as') (each_stand ss a (first front rest clean).1) (exceptions_stand as' a (earlier ++ ns) (later front rest clean))

    parts_stand : (ps : BodyNodes) (a : Around) → Clean (sites_of_parts a ps) → Stand (origins_in_parts ps)
    parts_stand no_parts a clean = tt
    parts_stand (more_locals l ps) a clean = both (origins_of_local l) (origins_in_parts ps) (local_stand false l (first (sites_of_local false l) (sites_of_parts a ps) clean)) (parts_stand ps a (later (sites_of_local false l) (sites_of_parts a ps) clean))
    parts_stand (more_actions s ps) a clean = both (origins_in s) (origins_in_parts ps) (statement_stand s a (first (sites_of a s) (sites_of_parts a ps) clean)) (parts_stand ps a (later (sites_of a s) (sites_of_parts a ps) clean))

  -- ---- signals, procedures and processes

  signal_stand : (s : SignalTree) → Stand (origins_of_signal s)
  signal_stand s = (tt, by_parts s.parts)
    where
      by_parts : (ws : Option (List written.ModeTree)) → Stand (elim ws [ None ↦ [] | Some ms ↦ flat_map (elements_of None) ms ])
      by_parts None = tt
      by_parts (Some ms) = each_flat (λ w. Unit {0}) (NodesOf P) (elements_of None) (λ w fits. elements_stand None (sets_in w)) ms (each_any (λ w. Unit {0}) (λ w. tt) ms)

  params_stand : (ps : List ParamTree) → Stand (flat_map origins_of_param ps)
  params_stand ps = each_flat (λ q. Unit {0}) (NodesOf P) origins_of_param (λ q own. names_stand q.names (a_parameter q.mode) (elements_of None q.mode) tt (elements_stand None (sets_in q.mode))) ps (each_any (λ q. Unit {0}) (λ q. tt) ps)

  formals_stand : (ps : List FormalTree) → Stand (flat_map origins_of_formal ps)
  formals_stand ps = each_flat (λ q. Unit {0}) (NodesOf P) origins_of_formal (λ q own. names_stand q.names (a_parameter q.mode) (elements_of None q.mode) tt (elements_stand None (sets_in q.mode))) ps (each_any (λ q. Unit {0}) (λ q. tt) ps)

  body_stand : (a : Around) (ps : List BodyTree) (h : Option HandlerTree) → Clean (sites_of_body a ps h) → Stand (origins_of_body ps h)
  body_stand a ps h clean =
      both (origins_in_parts (body_nodes ps)) (origins_in_handler (handler_node h)) (parts_stand (body_nodes ps) a (first (sites_of_parts a (body_nodes ps)) (sites_of_handler a (handler_node h)) clean)) (handler_stand (handler_node h) a (later (sites_of_parts a (body_nodes ps)) (sites_of_handler a (handler_node h)) clean))

  -- an item stands in a modulion
  abbrev ItemNode : ItemTree → Type 0
  ItemNode (procedure p) = (kind : ModulionKind) × ((all : ItemNodes) × P (at_item kind all (procedure p)))
  ItemNode i = Unit {0}

  item_node : (kind : ModulionKind) (all : ItemNodes) (i : ItemTree) → P (at_item kind all i) → ItemNode i
  item_node kind all (procedure p) own = (kind, (all, own))
  item_node kind all i own = tt

  procedure_stand : (p : ProcedureTree) → ItemNode (procedure p) → ItemExits (procedure p) → Clean (sites_of_procedure p) → Stand (origins_of_procedure p)
  procedure_stand p own exits clean =
      let params = map (λ q. at_mode q.mode) p.params in
      let body_sites = sites_of_body (in_procedure p) p.body p.handler in
      let inner = at_body (Some p.name) (flat_map (λ q. q.names) p.params ++ locals_of_body p.body p.handler) ∷ body_sites in
      let body_clean = (later (params ++ sites_of_result p.returns) inner clean).1 in (
        (own, (exits, body_clean)),
        both (flat_map origins_of_param p.params ++ elements_of_some p.returns) (origins_of_body p.body p.handler) (both (flat_map origins_of_param p.params) (elements_of_some p.returns) (params_stand p.params) (some_stand p.returns))
            (body_stand (in_procedure p) p.body p.handler body_clean),
      )

  process_stand : (p : ProcessTree) → ItemExits (process p) → Clean (sites_of_process p) → Stand (origins_of_process p)
  process_stand p exits clean =
      let formals = map (λ q. at_mode q.mode) p.formals in
      let inner = at_body (Some p.name) (flat_map (λ q. q.names) p.formals ++ locals_of_body p.body p.handler) ∷ sites_of_body in_no_procedure p.body p.handler in
      let body_clean = (later formals inner clean).1 in
      ((exits, body_clean), both (flat_map origins_of_formal p.formals) (origins_of_body p.body p.handler) (formals_stand p.formals) (body_stand in_no_procedure p.body p.handler body_clean))

  -- ---- items

  mutual
    item_stand : (i : ItemTree) → ItemNode i → ItemExits i → Clean (sites_of_item i) → Stand (origins_of_item i)
    item_stand (seize at w) own exits clean = tt
    item_stand (grant at w) own exits clean = tt
    item_stand (local_item l) own exits clean = local_stand true l clean
    item_stand (signals at ss) own exits clean = each_flat (λ s. Unit {0}) (NodesOf P) origins_of_signal (λ s fits. signal_stand s) ss (each_any (λ s. Unit {0}) (λ s. tt) ss)
    item_stand (procedure p) own exits clean = procedure_stand p own exits clean
    item_stand (process p) own exits clean = process_stand p exits clean
    item_stand (modulion n kind items h closing) own exits clean =
        let inner = sites_of_items kind items items in
        (tt, both (origins_of_items items) (origins_in_handler (handler_node h)) (items_stand items kind items exits.0 (first inner (sites_of_handler in_no_procedure (handler_node h)) clean)) (handler_stand (handler_node h) in_no_procedure (later inner (sites_of_handler in_no_procedure (handler_node h)) clean)))
    item_stand (action s) own exits clean = statement_stand s in_no_procedure clean

    items_stand : (is : ItemNodes) (kind : ModulionKind) (all : ItemNodes) → EachItemExits is → Clean (sites_of_items kind all is) → Stand (origins_of_items is)
    items_stand no_items kind all exits clean = tt
    items_stand (more_items i is) kind all exits clean =
        let front = at_item kind all i ∷ sites_of_item i in
        both (origins_of_item i) (origins_of_items is) (item_stand i (item_node kind all i (first front (sites_of_items kind all is) clean).0) exits.0 (first front (sites_of_items kind all is) clean).1) (items_stand is kind all exits.1 (later front (sites_of_items kind all is) clean))

  modulions_stand : (ms : List ModulionTree) → Each ItemExits (map modulion_item ms) → Clean (flat_map sites_of_item (map modulion_item ms)) → Stand (flat_map (λ m. origins_of_item (modulion_item m)) ms)
  modulions_stand [] exits clean = tt
  modulions_stand (m ∷ ms) exits clean =
      both (origins_of_item (modulion_item m)) (flat_map (λ k. origins_of_item (modulion_item k)) ms) (item_stand (modulion_item m) tt exits.0 (first (sites_of_item (modulion_item m)) (flat_map sites_of_item (map modulion_item ms)) clean))
      (modulions_stand ms exits.1 (later (sites_of_item (modulion_item m)) (flat_map sites_of_item (map modulion_item ms)) clean))

  predefined_stand : Stand predefined_origins
  predefined_stand = each_flat (λ p. Unit {0}) (NodesOf P) in_both_cases (λ p fits. (tt, (tt, tt))) each_predefined (each_any (λ p. Unit {0}) (λ p. tt) each_predefined)

  program_stand : (t : ProgramTree) → Each ItemExits (items_of t) → Clean (sites t) → Stand (origins_of t)
  program_stand t exits clean = both (text_origins t) predefined_origins (modulions_stand t.modulions exits clean.1.1) predefined_stand

-- each of a list is in it
each_member : {A : Type 0} (all xs : List A) → ((x : A) → Contains xs x → Contains all x) → Each (λ x. Contains all x) xs
each_member all [] within = tt
each_member all (x ∷ xs) within = (within x (here_in x xs x refl), each_member all xs (λ y c. within y (later_in x xs y c)))

pub nodes_there : NodesLaw
nodes_there t exits d o at = each_there (NodesOf (λ n. Contains (sites t) n)) (origins_of t) d o (program_stand (λ n. Contains (sites t) n) t exits (each_member (sites t) (sites t) (λ n c. c))) at
