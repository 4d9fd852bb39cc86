-- What holds at each node of a program gives what holds of each thing that is defined there.
use Rattle.std.proofs.Common.{◌≡◌, ◌<◌, ◌+◌, ℕ, zero, suc, arith, Bool, true, false, List, [], ◌∷◌, ◌++◌, Option, Some, None, length}
use Rattle.std.specs.Prelude.{map, flat_map, replicate}
use Rattle.chill_tree.specs.declared.tree.name.Name.{Name}
use Rattle.chill_tree.specs.declared.tree.item.ModulionKind.{ModulionKind}
use Rattle.chill_tree.specs.ExprTree.{ExprTree}
use Rattle.chill_tree.specs.ModeTree as written
use Rattle.chill_tree.specs.LocalTree.{SynonymTree, ModeDefinitionTree, DeclarationTree, LocalTree, synonyms, syn_modes, new_modes, locations}
use Rattle.chill_tree.specs.SimpleTree.{ControlTree, while_holds, for_ever, for_members, for_steps}
use Rattle.chill_tree.specs.StatementTree.{StatementTree, BracketedTree, StatementNodes, ElsIfNodes, CaseNodes, NamedNodes, ReceiveNodes, OtherwiseNode, HandlerNode, BodyNodes, HandlerTree, BodyTree, empty, simple, bracketed, if_then, case_of, do_loop, begin_end, delay_case, receive_case, no_statements, more_statements, no_branches, more_branches, no_cases, more_cases, no_named, more_named, no_receives, more_receives, no_otherwise, otherwise, no_handler, handler, no_parts, more_locals, more_actions, handler_node, body_nodes}
use Rattle.chill_tree.specs.ItemTree.{SignalTree, ParamTree, ProcedureTree, FormalTree, ProcessTree, ItemTree, ItemNodes, seize, grant, local_item, signals, procedure, process, modulion, action, no_items, more_items, ModulionTree, modulion_item, ProgramTree}
use Rattle.names_model.specs.Definitions.{numbers_on}
use Rattle.checks_model.specs.Ground.{Origin, Predefined, a_synonym, a_mode, an_element, a_location, a_parameter, a_counter, a_received, a_procedure, a_process, a_signal, a_modulion, a_predefined}
use Rattle.checks_model.specs.Origins.{sets_in, elements, elements_of, elements_of_some, origins_of_names, origins_of_synonym, owner_of, origins_of_mode, origins_of_declaration, origins_of_local, counters_in, received_in, origins_in, origins_in_bracketed, origins_in_each, origins_in_branches, origins_in_cases, origins_in_named, origins_in_receives, origins_in_otherwise, origins_in_handler, origins_in_parts, origins_of_signal, origins_of_param, origins_of_formal, origins_of_body, origins_of_procedure, origins_of_process, origins_of_item, origins_of_items, text_origins, in_both_cases, predefined_origins, origins_of}
use Rattle.checks_model.specs.Sites.{Site, Around, in_procedure, in_no_procedure, at_item, at_synonym, at_mode_definition, at_declaration, at_mode, at_condition, at_selector, at_labels, at_control, at_set, at_priority, at_source, at_received, at_exceptions, at_body, some_site, events_listed, sites_of_local, sites_of, sites_of_bracketed, sites_of_each, sites_of_branches, sites_of_cases, sites_of_events, sites_of_receives, sites_of_otherwise, sites_of_handler, sites_of_exceptions, sites_of_parts, sites_of_modes, sites_of_result, sites_of_body, sites_of_procedure, sites_of_process, sites_of_item, sites_of_items, locals_of_body, sites}
use Rattle.written_laws.specs.Written.{Each}
use Rattle.written_laws.proofs.Shown.{each_append, each_map, each_any, each_flat, each_same}
use Rattle.written_laws.proofs.WrittenSo.{each_predefined}

-- ---- lists

first_of : {A : Type 0} (P : A → Type 0) (xs ys : List A) → Each P (xs ++ ys) → Each P xs
first_of P [] ys each = tt
first_of P (x ∷ xs) ys each = (each.0, first_of P xs ys each.1)

later_of : {A : Type 0} (P : A → Type 0) (xs ys : List A) → Each P (xs ++ ys) → Each P ys
later_of P [] ys each = each
later_of P (x ∷ xs) ys each = later_of P xs ys each.1

pub of_mapped : {A B : Type 0} (P : B → Type 0) (f : A → B) (xs : List A) → Each P (map f xs) → Each (λ x. P (f x)) xs
of_mapped P f [] each = tt
of_mapped P f (x ∷ xs) each = (each.0, of_mapped P f xs each.1)

of_flat : {A B : Type 0} (P : B → Type 0) (f : A → List B) (xs : List A) → Each P (flat_map f xs) → Each (λ x. Each P (f x)) xs
of_flat P f [] each = tt
of_flat P f (x ∷ xs) each = (first_of P (f x) (flat_map f xs) each, of_flat P f xs (later_of P (f x) (flat_map f xs) each))

-- so many numbers from one on are below their end
each_below : (from count end : ℕ) → from + count ≡ end → Each (λ k. k < end) (numbers_on from count)
each_below from zero end same = tt
each_below from (suc count) end same = (omega (arith, same), (let next : suc from + count ≡ end = omega (arith, same) in each_below (suc from) count end next))

-- what holds at a node gives what holds of what is defined there; of some things nothing is asked at a node
pub record Gives (P : Site → Type 0) (Q : Origin → Type 0) : Type 0 where
  pub synonym : (s : SynonymTree) → P (at_synonym s) → Q (a_synonym s)
  pub mode : (novel : Bool) (d : ModeDefinitionTree) → P (at_mode_definition d) → Q (a_mode novel d.mode)
  pub location : (shared : Bool) (d : DeclarationTree) → P (at_declaration shared d) → Q (a_location d)
  pub parameter : (w : written.ModeTree) → P (at_mode w) → Q (a_parameter w)
  pub procedure : (p : ProcedureTree) → Each P (sites_of_result p.returns) → Q (a_procedure p)
  pub signal : (s : SignalTree) → Each P (sites_of_modes s.parts) → Q (a_signal s)
  pub counter : (c : ControlTree) → P (at_control c) → Q (a_counter c)
  pub received : (earlier : List Name) (n : Name) (ns : List Name) (part : ℕ) → part < length ns → P (at_source earlier n) → P (at_received n (Some ns)) → Q (a_received n (length ns) part)
  pub element : (ns : List Name) (part : ℕ) (owner : Option (Name × Bool)) → Q (an_element ns part owner)
  pub process : (p : ProcessTree) → Q (a_process p)
  pub modulion : (kind : ModulionKind) (items : ItemNodes) → Q (a_modulion kind items)
  pub predefined : (p : Predefined) → Q (a_predefined p)

module _ (P : Site → Type 0) (Q : Origin → Type 0) (gives : Gives P Q) where
  abbrev AtAll : List Site → Type 0
  AtAll ss = Each P ss

  abbrev OfAll : List Origin → Type 0
  OfAll os = Each Q os

  both : (os ps : List Origin) → OfAll os → OfAll ps → OfAll (os ++ ps)
  both os ps first later = each_append Q os ps first later

  first : (ss ts : List Site) → AtAll (ss ++ ts) → AtAll ss
  first ss ts holds = first_of P ss ts holds

  later : (ss ts : List Site) → AtAll (ss ++ ts) → AtAll ts
  later ss ts holds = later_of P ss ts holds

  -- ---- elements

  elements_defined : (owner : Option (Name × Bool)) (sets : List (List Name)) → OfAll (flat_map (elements owner) sets)
  elements_defined owner sets =
      each_flat (λ ns. Unit {0}) Q (elements owner) (λ ns fits. each_map (λ k. Unit {0}) Q (λ part. an_element ns part owner) (λ k fits. gives.element ns k owner) (numbers_on 0 (length ns)) (each_any (λ k. Unit {0}) (λ k. tt) (numbers_on 0 (length ns)))) sets
      (each_any (λ ns. Unit {0}) (λ ns. tt) sets)

  some_defined : (w : Option written.ModeTree) → OfAll (elements_of_some w)
  some_defined None = tt
  some_defined (Some w) = elements_defined None (sets_in w)

  names_defined : (ns : List Name) (o : Origin) (inside : List Origin) → Q o → OfAll inside → OfAll (origins_of_names ns o inside)
  names_defined ns o inside own rest = both (replicate (length ns) o) inside (each_same Q (length ns) o own) rest

  -- ---- definition statements

  synonym_defined : (s : SynonymTree) → P (at_synonym s) → OfAll (origins_of_synonym s)
  synonym_defined s holds = names_defined s.names (a_synonym s) (elements_of_some s.mode) (gives.synonym s holds) (some_defined s.mode)

  definition_defined : (novel : Bool) (d : ModeDefinitionTree) → P (at_mode_definition d) → OfAll (origins_of_mode novel d)
  definition_defined novel d holds = (gives.mode novel d holds, elements_defined (owner_of novel d) (sets_in d.mode))

  declaration_defined : (shared : Bool) (d : DeclarationTree) → P (at_declaration shared d) → OfAll (origins_of_declaration d)
  declaration_defined shared d holds = names_defined d.names (a_location d) (elements_of None d.mode) (gives.location shared d holds) (elements_defined None (sets_in d.mode))

  local_defined : (shared : Bool) (l : LocalTree) → AtAll (sites_of_local shared l) → OfAll (origins_of_local l)
  local_defined shared (synonyms at ss) holds = each_flat (λ s. P (at_synonym s)) Q origins_of_synonym synonym_defined ss (of_mapped P at_synonym ss holds)
  local_defined shared (syn_modes at ds) holds = each_flat (λ d. P (at_mode_definition d)) Q (origins_of_mode false) (definition_defined false) ds (of_mapped P at_mode_definition ds holds)
  local_defined shared (new_modes at ds) holds = each_flat (λ d. P (at_mode_definition d)) Q (origins_of_mode true) (definition_defined true) ds (of_mapped P at_mode_definition ds holds)
  local_defined shared (locations at ds) holds = each_flat (λ d. P (at_declaration shared d)) Q origins_of_declaration (declaration_defined shared) ds (of_mapped P (at_declaration shared) ds holds)

  -- ---- actions

  counters_defined : (c : ControlTree) → P (at_control c) → OfAll (counters_in c)
  counters_defined (while_holds at c) holds = tt
  counters_defined (for_ever at) holds = tt
  counters_defined (for_members at n s c) holds = (gives.counter (for_members at n s c) holds, tt)
  counters_defined (for_steps at n s b down e c) holds = (gives.counter (for_steps at n s b down e c) holds, tt)

  received_defined : (earlier : List Name) (n : Name) (r : Option (List Name)) → P (at_source earlier n) → P (at_received n r) → OfAll (received_in n r)
  received_defined earlier n None source holds = tt
  received_defined earlier n (Some ns) source holds =
      let none : 0 + length ns ≡ length ns = omega arith in
      each_map (λ k. k < length ns) Q (a_received n (length ns)) (λ k less. gives.received earlier n ns k less source holds) (numbers_on 0 (length ns)) (each_below 0 (length ns) (length ns) none)

  mutual
    statement_defined : (s : StatementTree) (a : Around) → AtAll (sites_of a s) → OfAll (origins_in s)
    statement_defined (empty at) a holds = tt
    statement_defined (simple at x h) a holds = handler_defined h a holds.1
    statement_defined (bracketed at l x h closing) a holds =
        both (origins_in_bracketed x) (origins_in_handler h) (bracketed_defined x a (first (sites_of_bracketed a x) (sites_of_handler a h) holds)) (handler_defined h a (later (sites_of_bracketed a x) (sites_of_handler a h) holds))

    bracketed_defined : (x : BracketedTree) (a : Around) → AtAll (sites_of_bracketed a x) → OfAll (origins_in_bracketed x)
    bracketed_defined (if_then at c ss bs o) a holds =
        let front = at_condition c ∷ sites_of_each a ss in
        let most = first (front ++ sites_of_branches a bs) (sites_of_otherwise a o) holds in
        both (origins_in_each ss ++ origins_in_branches bs) (origins_in_otherwise o)
        (both (origins_in_each ss) (origins_in_branches bs) (each_defined ss a (first front (sites_of_branches a bs) most).1) (branches_defined bs a (later front (sites_of_branches a bs) most))) (otherwise_defined o a (later (front ++ sites_of_branches a bs) (sites_of_otherwise a o) holds))
    bracketed_defined (case_of at e as' o) a holds =
        let front = at_selector e ∷ sites_of_cases a e as' in
        both (origins_in_cases as') (origins_in_otherwise o) (cases_defined as' a e (first front (sites_of_otherwise a o) holds).1) (otherwise_defined o a (later front (sites_of_otherwise a o) holds))
    bracketed_defined (do_loop at c ss) a holds = both (counters_in c) (origins_in_each ss) (counters_defined c holds.0) (each_defined ss a holds.1)
    bracketed_defined (begin_end at ps) a holds = parts_defined ps a holds
    bracketed_defined (delay_case at set p as') a holds = events_defined as' a [] (later (some_site at_set set ++ some_site at_priority p) (sites_of_events a [] as') holds)
    bracketed_defined (receive_case at set as' o) a holds =
        let front = some_site at_set set ++ sites_of_receives a [] as' in
        both (origins_in_receives as') (origins_in_otherwise o) (receives_defined as' a [] (later (some_site at_set set) (sites_of_receives a [] as') (first front (sites_of_otherwise a o) holds))) (otherwise_defined o a (later front (sites_of_otherwise a o) holds))

    each_defined : (ss : StatementNodes) (a : Around) → AtAll (sites_of_each a ss) → OfAll (origins_in_each ss)
    each_defined no_statements a holds = tt
    each_defined (more_statements s ss) a holds = both (origins_in s) (origins_in_each ss) (statement_defined s a (first (sites_of a s) (sites_of_each a ss) holds)) (each_defined ss a (later (sites_of a s) (sites_of_each a ss) holds))

    branches_defined : (bs : ElsIfNodes) (a : Around) → AtAll (sites_of_branches a bs) → OfAll (origins_in_branches bs)
    branches_defined no_branches a holds = tt
    branches_defined (more_branches at c ss bs) a holds =
        let front = at_condition c ∷ sites_of_each a ss in
        both (origins_in_each ss) (origins_in_branches bs) (each_defined ss a (first front (sites_of_branches a bs) holds).1) (branches_defined bs a (later front (sites_of_branches a bs) holds))

    cases_defined : (as' : CaseNodes) (a : Around) (e : ExprTree) → AtAll (sites_of_cases a e as') → OfAll (origins_in_cases as')
    cases_defined no_cases a e holds = tt
    cases_defined (more_cases at ls ss as') a e holds =
        let front = at_labels e ls ∷ sites_of_each a ss in
        both (origins_in_each ss) (origins_in_cases as') (each_defined ss a (first front (sites_of_cases a e as') holds).1) (cases_defined as' a e (later front (sites_of_cases a e as') holds))

    events_defined : (as' : NamedNodes) (a : Around) (earlier : List Name) → AtAll (sites_of_events a earlier as') → OfAll (origins_in_named as')
    events_defined no_named a earlier holds = tt
    events_defined (more_named at ns ss as') a earlier holds =
        let front = events_listed earlier ns ++ sites_of_each a ss in
        let rest = sites_of_events a (earlier ++ ns) as' in
        both (origins_in_each ss) (origins_in_named as') (each_defined ss a (later (events_listed earlier ns) (sites_of_each a ss) (first front rest holds))) (events_defined as' a (earlier ++ ns) (later front rest holds))

    receives_defined : (as' : ReceiveNodes) (a : Around) (earlier : List Name) → AtAll (sites_of_receives a earlier as') → OfAll (origins_in_receives as')
    receives_defined no_receives a earlier holds = tt
    receives_defined (more_receives at n r ss as') a earlier holds =
        let front = at_source earlier n ∷ at_received n r ∷ sites_of_each a ss in
        let rest = sites_of_receives a (earlier ++ n ∷ []) as' in
        both (received_in n r ++ origins_in_each ss) (origins_in_receives as') (both (received_in n r) (origins_in_each ss) (received_defined earlier n r (first front rest holds).0 (first front rest holds).1.0) (each_defined ss a (first front rest holds).1.1)) (receives_defined as' a (earlier ++ n ∷ []) (later front rest holds))

    otherwise_defined : (o : OtherwiseNode) (a : Around) → AtAll (sites_of_otherwise a o) → OfAll (origins_in_otherwise o)
    otherwise_defined no_otherwise a holds = tt
    otherwise_defined (otherwise ss) a holds = each_defined ss a holds

    handler_defined : (h : HandlerNode) (a : Around) → AtAll (sites_of_handler a h) → OfAll (origins_in_handler h)
    handler_defined no_handler a holds = tt
    handler_defined (handler at as' o) a holds =
        both (origins_in_named as') (origins_in_otherwise o) (exceptions_defined as' a [] (first (sites_of_exceptions a [] as') (sites_of_otherwise a o) holds)) (otherwise_defined o a (later (sites_of_exceptions a [] as') (sites_of_otherwise a o) holds))

    exceptions_defined : (as' : NamedNodes) (a : Around) (earlier : List Name) → AtAll (sites_of_exceptions a earlier as') → OfAll (origins_in_named as')
    exceptions_defined no_named a earlier holds = tt
    exceptions_defined (more_named at ns ss as') a earlier holds =
        let front = at_exceptions earlier ns ∷ sites_of_each a ss in
        let rest = sites_of_exceptions a (earlier ++ ns) as' in
        both (origins_in_each ss) (origins_in_named as') (each_defined ss a (first front rest holds).1) (exceptions_defined as' a (earlier ++ ns) (later front rest holds))

    parts_defined : (ps : BodyNodes) (a : Around) → AtAll (sites_of_parts a ps) → OfAll (origins_in_parts ps)
    parts_defined no_parts a holds = tt
    parts_defined (more_locals l ps) a holds = both (origins_of_local l) (origins_in_parts ps) (local_defined false l (first (sites_of_local false l) (sites_of_parts a ps) holds)) (parts_defined ps a (later (sites_of_local false l) (sites_of_parts a ps) holds))
    parts_defined (more_actions s ps) a holds = both (origins_in s) (origins_in_parts ps) (statement_defined s a (first (sites_of a s) (sites_of_parts a ps) holds)) (parts_defined ps a (later (sites_of a s) (sites_of_parts a ps) holds))

  -- ---- signals, procedures and processes

  signal_defined : (s : SignalTree) → AtAll (sites_of_modes s.parts) → OfAll (origins_of_signal s)
  signal_defined s holds = (gives.signal s holds, by_parts s.parts)
    where
      by_parts : (ws : Option (List written.ModeTree)) → OfAll (elim ws [ None ↦ [] | Some ms ↦ flat_map (elements_of None) ms ])
      by_parts None = tt
      by_parts (Some ms) = each_flat (λ w. Unit {0}) Q (elements_of None) (λ w fits. elements_defined None (sets_in w)) ms (each_any (λ w. Unit {0}) (λ w. tt) ms)

  params_defined : (ps : List ParamTree) → AtAll (map (λ q. at_mode q.mode) ps) → OfAll (flat_map origins_of_param ps)
  params_defined ps holds = each_flat (λ q. P (at_mode q.mode)) Q origins_of_param (λ q own. names_defined q.names (a_parameter q.mode) (elements_of None q.mode) (gives.parameter q.mode own) (elements_defined None (sets_in q.mode))) ps (of_mapped P (λ q. at_mode q.mode) ps holds)

  formals_defined : (ps : List FormalTree) → AtAll (map (λ q. at_mode q.mode) ps) → OfAll (flat_map origins_of_formal ps)
  formals_defined ps holds = each_flat (λ q. P (at_mode q.mode)) Q origins_of_formal (λ q own. names_defined q.names (a_parameter q.mode) (elements_of None q.mode) (gives.parameter q.mode own) (elements_defined None (sets_in q.mode))) ps (of_mapped P (λ q. at_mode q.mode) ps holds)

  body_defined : (a : Around) (ps : List BodyTree) (h : Option HandlerTree) → AtAll (sites_of_body a ps h) → OfAll (origins_of_body ps h)
  body_defined a ps h holds =
      both (origins_in_parts (body_nodes ps)) (origins_in_handler (handler_node h)) (parts_defined (body_nodes ps) a (first (sites_of_parts a (body_nodes ps)) (sites_of_handler a (handler_node h)) holds)) (handler_defined (handler_node h) a (later (sites_of_parts a (body_nodes ps)) (sites_of_handler a (handler_node h)) holds))

  procedure_defined : (p : ProcedureTree) → AtAll (sites_of_procedure p) → OfAll (origins_of_procedure p)
  procedure_defined p holds =
      let params = map (λ q. at_mode q.mode) p.params in
      let inner = at_body (Some p.name) (flat_map (λ q. q.names) p.params ++ locals_of_body p.body p.handler) ∷ sites_of_body (in_procedure p) p.body p.handler in
      let front = first (params ++ sites_of_result p.returns) inner holds in (
        gives.procedure p (later params (sites_of_result p.returns) front),
        both (flat_map origins_of_param p.params ++ elements_of_some p.returns) (origins_of_body p.body p.handler) (both (flat_map origins_of_param p.params) (elements_of_some p.returns) (params_defined p.params (first params (sites_of_result p.returns) front)) (some_defined p.returns))
            (body_defined (in_procedure p) p.body p.handler (later (params ++ sites_of_result p.returns) inner holds).1),
      )

  process_defined : (p : ProcessTree) → AtAll (sites_of_process p) → OfAll (origins_of_process p)
  process_defined p holds =
      let formals = map (λ q. at_mode q.mode) p.formals in
      let inner = at_body (Some p.name) (flat_map (λ q. q.names) p.formals ++ locals_of_body p.body p.handler) ∷ sites_of_body in_no_procedure p.body p.handler in
      (gives.process p, both (flat_map origins_of_formal p.formals) (origins_of_body p.body p.handler) (formals_defined p.formals (first formals inner holds)) (body_defined in_no_procedure p.body p.handler (later formals inner holds).1))

  -- ---- items

  mutual
    item_defined : (i : ItemTree) → AtAll (sites_of_item i) → OfAll (origins_of_item i)
    item_defined (seize at w) holds = tt
    item_defined (grant at w) holds = tt
    item_defined (local_item l) holds = local_defined true l holds
    item_defined (signals at ss) holds = each_flat (λ s. AtAll (sites_of_modes s.parts)) Q origins_of_signal signal_defined ss (of_flat P (λ s. sites_of_modes s.parts) ss holds)
    item_defined (procedure p) holds = procedure_defined p holds
    item_defined (process p) holds = process_defined p holds
    item_defined (modulion n kind items h closing) holds =
        let inner = sites_of_items kind items items in
        (gives.modulion kind items, both (origins_of_items items) (origins_in_handler (handler_node h)) (items_defined items kind items (first inner (sites_of_handler in_no_procedure (handler_node h)) holds)) (handler_defined (handler_node h) in_no_procedure (later inner (sites_of_handler in_no_procedure (handler_node h)) holds)))
    item_defined (action s) holds = statement_defined s in_no_procedure holds

    items_defined : (is : ItemNodes) (kind : ModulionKind) (all : ItemNodes) → AtAll (sites_of_items kind all is) → OfAll (origins_of_items is)
    items_defined no_items kind all holds = tt
    items_defined (more_items i is) kind all holds =
        let front = at_item kind all i ∷ sites_of_item i in
        both (origins_of_item i) (origins_of_items is) (item_defined i (first front (sites_of_items kind all is) holds).1) (items_defined is kind all (later front (sites_of_items kind all is) holds))

  modulions_defined : (ms : List ModulionTree) → AtAll (flat_map sites_of_item (map modulion_item ms)) → OfAll (flat_map (λ m. origins_of_item (modulion_item m)) ms)
  modulions_defined [] holds = tt
  modulions_defined (m ∷ ms) holds =
      both (origins_of_item (modulion_item m)) (flat_map (λ k. origins_of_item (modulion_item k)) ms) (item_defined (modulion_item m) (first (sites_of_item (modulion_item m)) (flat_map sites_of_item (map modulion_item ms)) holds))
      (modulions_defined ms (later (sites_of_item (modulion_item m)) (flat_map sites_of_item (map modulion_item ms)) holds))

  predefined_defined : OfAll predefined_origins
  predefined_defined = each_flat (λ p. Unit {0}) Q in_both_cases (λ p fits. (gives.predefined p, (gives.predefined p, tt))) each_predefined (each_any (λ p. Unit {0}) (λ p. tt) each_predefined)

  pub program_defined : (t : ProgramTree) → AtAll (sites t) → OfAll (origins_of t)
  program_defined t holds = both (text_origins t) predefined_origins (modulions_defined t.modulions holds.1.1) predefined_defined
