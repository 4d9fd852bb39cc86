-- A procedure or a process of a text is no greater than the text.
use Rattle.std.proofs.Common.{ℕ, ◌+◌, ◌≤◌, Bool, true, false, List, [], ◌∷◌, ◌++◌, length, Option, Some, None, arith}
use Rattle.std.specs.Prelude.{flat_map, replicate}
use Rattle.chill_tree.specs.declared.tree.name.Name.{Name}
use Rattle.chill_tree.specs.ModeTree as written
use Rattle.chill_tree.specs.LocalTree.{SynonymTree, ModeDefinitionTree, DeclarationTree, LocalTree, synonyms, syn_modes, new_modes, locations}
use Rattle.chill_tree.specs.SimpleTree.{ControlTree, while_holds, for_ever, for_members, for_steps}
use Rattle.chill_tree.specs.StatementTree.{StatementTree, BracketedTree, StatementNodes, ElsIfNodes, CaseNodes, NamedNodes, ReceiveNodes, OtherwiseNode, HandlerNode, BodyNodes, BodyTree, HandlerTree, empty, simple, bracketed, if_then, case_of, do_loop, begin_end, delay_case, receive_case, no_statements, more_statements, no_branches, more_branches, no_cases, more_cases, no_named, more_named, no_receives, more_receives, no_otherwise, otherwise, no_handler, handler, no_parts, more_locals, more_actions, handler_node, body_nodes}
use Rattle.chill_tree.specs.ItemTree.{SignalTree, ParamTree, FormalTree, ItemTree, ItemNodes, seize, grant, local_item, signals, procedure, process, modulion, action, no_items, more_items, ModulionTree, modulion_item, ProgramTree}
use Rattle.names_model.specs.Definitions.{numbers_on}
use Rattle.text_size.specs.Sizes.{procedure_size, process_size, item_size, items_size, modulions_size, program_size}
use Rattle.checks_model.specs.Ground.{Origin, a_synonym, an_element, a_location, a_parameter, a_received, a_procedure, a_process, a_predefined}
use Rattle.checks_model.specs.Origins.{sets_in, elements, elements_of, elements_of_some, origins_of_names, origins_of_synonym, owner_of, origins_of_mode, origins_of_declaration, origins_of_local, counters_in, received_in, origins_in, origins_in_bracketed, origins_in_each, origins_in_branches, origins_in_cases, origins_in_named, origins_in_receives, origins_in_otherwise, origins_in_handler, origins_in_parts, origins_of_signal, origins_of_param, origins_of_formal, origins_of_body, origins_of_item, origins_of_items, text_origins}
use Rattle.written_laws.specs.Written.{Each}
use Rattle.written_laws.proofs.Shown.{each_append, each_any, each_map, each_flat, each_same}

module _ (most : ℕ) where
  -- a procedure or a process is no greater, and nothing is predefined
  abbrev pub IsNoGreater : Origin → Type 0
  IsNoGreater (a_procedure p) = procedure_size p ≤ most
  IsNoGreater (a_process p) = process_size p ≤ most
  IsNoGreater (a_predefined p) = ⊥
  IsNoGreater o = Unit {0}

  abbrev AreNoGreater : List Origin → Type 0
  AreNoGreater os = Each IsNoGreater os

  both : (os us : List Origin) → AreNoGreater os → AreNoGreater us → AreNoGreater (os ++ us)
  both os us one other = each_append IsNoGreater os us one other

  in_elements : (owner : Option (Name × Bool)) (w : written.ModeTree) → AreNoGreater (elements_of owner w)
  in_elements owner w =
      each_flat (λ ns. Unit {0}) IsNoGreater (elements owner)
      (λ ns fits. each_map (λ k. Unit {0}) IsNoGreater (λ part. an_element ns part owner) (λ k fits. tt) (numbers_on 0 (length ns)) (each_any (λ k. Unit {0}) (λ k. tt) (numbers_on 0 (length ns)))) (sets_in w)
      (each_any (λ ns. Unit {0}) (λ ns. tt) (sets_in w))

  in_some_elements : (w : Option written.ModeTree) → AreNoGreater (elements_of_some w)
  in_some_elements None = tt
  in_some_elements (Some w) = in_elements None w

  named : (ns : List Name) (o : Origin) (inside : List Origin) → IsNoGreater o → AreNoGreater inside → AreNoGreater (origins_of_names ns o inside)
  named ns o inside one other = both (replicate (length ns) o) inside (each_same IsNoGreater (length ns) o one) other

  in_synonyms : (ss : List SynonymTree) → AreNoGreater (flat_map origins_of_synonym ss)
  in_synonyms [] = tt
  in_synonyms (s ∷ ss) = both (origins_of_synonym s) (flat_map origins_of_synonym ss) (named s.names (a_synonym s) (elements_of_some s.mode) tt (in_some_elements s.mode)) (in_synonyms ss)

  in_modes : (novel : Bool) (ds : List ModeDefinitionTree) → AreNoGreater (flat_map (origins_of_mode novel) ds)
  in_modes novel [] = tt
  in_modes novel (d ∷ ds) = both (origins_of_mode novel d) (flat_map (origins_of_mode novel) ds) (tt, in_elements (owner_of novel d) d.mode) (in_modes novel ds)

  in_declarations : (ds : List DeclarationTree) → AreNoGreater (flat_map origins_of_declaration ds)
  in_declarations [] = tt
  in_declarations (d ∷ ds) = both (origins_of_declaration d) (flat_map origins_of_declaration ds) (named d.names (a_location d) (elements_of None d.mode) tt (in_elements None d.mode)) (in_declarations ds)

  in_local : (l : LocalTree) → AreNoGreater (origins_of_local l)
  in_local (synonyms at ss) = in_synonyms ss
  in_local (syn_modes at ds) = in_modes false ds
  in_local (new_modes at ds) = in_modes true ds
  in_local (locations at ds) = in_declarations ds

  in_counters : (c : ControlTree) → AreNoGreater (counters_in c)
  in_counters (while_holds at c) = tt
  in_counters (for_ever at) = tt
  in_counters (for_members at n s c) = (tt, tt)
  in_counters (for_steps at n s b down e c) = (tt, tt)

  in_received : (n : Name) (r : Option (List Name)) → AreNoGreater (received_in n r)
  in_received n None = tt
  in_received n (Some ns) = each_map (λ k. Unit {0}) IsNoGreater (a_received n (length ns)) (λ k fits. tt) (numbers_on 0 (length ns)) (each_any (λ k. Unit {0}) (λ k. tt) (numbers_on 0 (length ns)))

  mutual
    in_statement : (s : StatementTree) → AreNoGreater (origins_in s)
    in_statement (empty at) = tt
    in_statement (simple at a h) = in_handler h
    in_statement (bracketed at l a h closing) = both (origins_in_bracketed a) (origins_in_handler h) (in_bracketed a) (in_handler h)

    in_bracketed : (x : BracketedTree) → AreNoGreater (origins_in_bracketed x)
    in_bracketed (if_then at c ss bs o) =
        both (origins_in_each ss ++ origins_in_branches bs) (origins_in_otherwise o) (both (origins_in_each ss) (origins_in_branches bs) (in_each ss) (in_branches bs)) (in_otherwise o)
    in_bracketed (case_of at e as' o) = both (origins_in_cases as') (origins_in_otherwise o) (in_cases as') (in_otherwise o)
    in_bracketed (do_loop at c ss) = both (counters_in c) (origins_in_each ss) (in_counters c) (in_each ss)
    in_bracketed (begin_end at ps) = in_parts ps
    in_bracketed (delay_case at set p as') = in_named as'
    in_bracketed (receive_case at set as' o) = both (origins_in_receives as') (origins_in_otherwise o) (in_receives as') (in_otherwise o)

    in_each : (ss : StatementNodes) → AreNoGreater (origins_in_each ss)
    in_each no_statements = tt
    in_each (more_statements s ss) = both (origins_in s) (origins_in_each ss) (in_statement s) (in_each ss)

    in_branches : (bs : ElsIfNodes) → AreNoGreater (origins_in_branches bs)
    in_branches no_branches = tt
    in_branches (more_branches at c ss bs) = both (origins_in_each ss) (origins_in_branches bs) (in_each ss) (in_branches bs)

    in_cases : (as' : CaseNodes) → AreNoGreater (origins_in_cases as')
    in_cases no_cases = tt
    in_cases (more_cases at ls ss as') = both (origins_in_each ss) (origins_in_cases as') (in_each ss) (in_cases as')

    in_named : (as' : NamedNodes) → AreNoGreater (origins_in_named as')
    in_named no_named = tt
    in_named (more_named at ns ss as') = both (origins_in_each ss) (origins_in_named as') (in_each ss) (in_named as')

    in_receives : (as' : ReceiveNodes) → AreNoGreater (origins_in_receives as')
    in_receives no_receives = tt
    in_receives (more_receives at n r ss as') = both (received_in n r ++ origins_in_each ss) (origins_in_receives as') (both (received_in n r) (origins_in_each ss) (in_received n r) (in_each ss)) (in_receives as')

    in_otherwise : (o : OtherwiseNode) → AreNoGreater (origins_in_otherwise o)
    in_otherwise no_otherwise = tt
    in_otherwise (otherwise ss) = in_each ss

    in_handler : (h : HandlerNode) → AreNoGreater (origins_in_handler h)
    in_handler no_handler = tt
    in_handler (handler at as' o) = both (origins_in_named as') (origins_in_otherwise o) (in_named as') (in_otherwise o)

    in_parts : (ps : BodyNodes) → AreNoGreater (origins_in_parts ps)
    in_parts no_parts = tt
    in_parts (more_locals l ps) = both (origins_of_local l) (origins_in_parts ps) (in_local l) (in_parts ps)
    in_parts (more_actions s ps) = both (origins_in s) (origins_in_parts ps) (in_statement s) (in_parts ps)

  in_body : (ps : List BodyTree) (h : Option HandlerTree) → AreNoGreater (origins_of_body ps h)
  in_body ps h = both (origins_in_parts (body_nodes ps)) (origins_in_handler (handler_node h)) (in_parts (body_nodes ps)) (in_handler (handler_node h))

  in_params : (ps : List ParamTree) → AreNoGreater (flat_map origins_of_param ps)
  in_params [] = tt
  in_params (p ∷ ps) = both (origins_of_param p) (flat_map origins_of_param ps) (named p.names (a_parameter p.mode) (elements_of None p.mode) tt (in_elements None p.mode)) (in_params ps)

  in_formals : (ps : List FormalTree) → AreNoGreater (flat_map origins_of_formal ps)
  in_formals [] = tt
  in_formals (p ∷ ps) = both (origins_of_formal p) (flat_map origins_of_formal ps) (named p.names (a_parameter p.mode) (elements_of None p.mode) tt (in_elements None p.mode)) (in_formals ps)

  in_signal_parts : (ms : List written.ModeTree) → AreNoGreater (flat_map (elements_of None) ms)
  in_signal_parts [] = tt
  in_signal_parts (m ∷ ms) = both (elements_of None m) (flat_map (elements_of None) ms) (in_elements None m) (in_signal_parts ms)

  in_signal : (s : SignalTree) → AreNoGreater (origins_of_signal s)
  in_signal s = (tt, by s.parts)
    where
      by : (ws : Option (List written.ModeTree)) → AreNoGreater (elim ws [ None ↦ [] | Some ms ↦ flat_map (elements_of None) ms ])
      by None = tt
      by (Some ms) = in_signal_parts ms

  in_signals : (ss : List SignalTree) → AreNoGreater (flat_map origins_of_signal ss)
  in_signals [] = tt
  in_signals (s ∷ ss) = both (origins_of_signal s) (flat_map origins_of_signal ss) (in_signal s) (in_signals ss)

  mutual
    in_item : (i : ItemTree) → item_size i ≤ most → AreNoGreater (origins_of_item i)
    in_item (seize at passed) small = tt
    in_item (grant at passed) small = tt
    in_item (local_item l) small = in_local l
    in_item (signals at ss) small = in_signals ss
    in_item (procedure p) small =
        (small, both (flat_map origins_of_param p.params ++ elements_of_some p.returns) (origins_of_body p.body p.handler) (both (flat_map origins_of_param p.params) (elements_of_some p.returns) (in_params p.params) (in_some_elements p.returns)) (in_body p.body p.handler))
    in_item (process p) small = (small, both (flat_map origins_of_formal p.formals) (origins_of_body p.body p.handler) (in_formals p.formals) (in_body p.body p.handler))
    in_item (modulion n kind items h closing) small = (tt, both (origins_of_items items) (origins_in_handler (handler_node h)) (in_items items (omega (arith, small))) (in_handler (handler_node h)))
    in_item (action s) small = in_statement s

    in_items : (is : ItemNodes) → items_size is ≤ most → AreNoGreater (origins_of_items is)
    in_items no_items small = tt
    in_items (more_items i is) small = both (origins_of_item i) (origins_of_items is) (in_item i (omega (arith, small))) (in_items is (omega (arith, small)))

  in_modulions : (ms : List ModulionTree) → modulions_size ms ≤ most → AreNoGreater (flat_map (λ m. origins_of_item (modulion_item m)) ms)
  in_modulions [] small = tt
  in_modulions (m ∷ ms) small = both (origins_of_item (modulion_item m)) (flat_map (λ m. origins_of_item (modulion_item m)) ms) (in_item (modulion_item m) (omega (arith, small))) (in_modulions ms (omega (arith, small)))

  pub in_text : (t : ProgramTree) → program_size t ≤ most → AreNoGreater (text_origins t)
  in_text t small = in_modulions t.modulions (omega (arith, small))
