-- Each location that is declared in a body is declared at a node of it.
use Rattle.std.proofs.Common.{◌≡◌, ℕ, zero, suc, ◌+◌, Bool, true, false, List, [], ◌∷◌, ◌++◌, Option, Some, None, refl, sym, ap, ◌∙◌, subst, true≢false, append_assoc, append-nil}
use Rattle.std.specs.Prelude.{if◌then◌else◌, map, flat_map}
use Rattle.chill_tree.specs.declared.tree.name.Name.{Name}
use Rattle.chill_tree.specs.declared.tree.item.ModulionKind.{ModulionKind}
use Rattle.chill_tree.specs.declared.tree.item.Passed.{Passed}
use Rattle.chill_tree.specs.declared.tree.item.Passed.TheVariants.{Names, All}
use Rattle.chill_tree.specs.LocalTree.{SynonymTree, ModeDefinitionTree, InitialTree, DeclarationTree, LocalTree, synonyms, syn_modes, new_modes, locations}
use Rattle.chill_tree.specs.SimpleTree.{SimpleTree, assign, update, call_of, exit, return_with, result_of, assert_that, cause, stop, start_of, delay, continue_event, send, ControlTree, while_holds, for_ever, for_members, for_steps}
use Rattle.chill_tree.specs.StatementTree.{StatementTree, BracketedTree, StatementNodes, ElsIfNodes, CaseNodes, NamedNodes, ReceiveNodes, OtherwiseNode, HandlerNode, BodyNodes, HandlerTree, BodyTree, empty, simple, bracketed, if_then, case_of, do_loop, begin_end, delay_case, receive_case, no_statements, more_statements, no_branches, more_branches, no_cases, more_cases, no_named, more_named, no_receives, more_receives, no_otherwise, otherwise, no_handler, handler, no_parts, more_locals, more_actions, handler_node, body_nodes}
use Rattle.chill_tree.specs.ExprTree.{ExprTree}
use Rattle.chill_tree.specs.ItemTree.{SignalTree, ParamTree, ProcedureTree, FormalTree, ProcessTree, ItemTree, ItemNodes, local_item, signals, procedure, process, action, no_items, more_items, ModulionTree, ProgramTree, item_nodes, modulion_item}
use Rattle.chill_tree.specs.ItemTree.{seize as seize_item, grant as grant_item, modulion as modulion_of}
use Rattle.names_model.specs.declared.identifier.Identifier.{Identifier}
use Rattle.names_model.specs.declared.kind.Kind.{Kind}
use Rattle.names_model.specs.declared.kind.Kind.TheVariants as kinds
use Rattle.names_model.specs.declared.kind.Need.TheVariants as needs
use Rattle.names_model.specs.declared.definition.Inside.{Inside}
use Rattle.names_model.specs.declared.definition.Inside.TheVariants.{Outermost, Modulion, Body, Block}
use Rattle.names_model.specs.declared.definition.Definition.{Definition}
use Rattle.names_model.specs.declared.part.Mention.{Mention}
use Rattle.names_model.specs.declared.part.Clause.{Clause}
use Rattle.names_model.specs.Identifiers.{identifier, identifiers}
use Rattle.names_model.specs.Kinds.{is_location}
use Rattle.names_model.specs.Parts.{PartTree, PartNodes, define, mention, seize, grant, modulion, routine, block, part_nodes}
use Rattle.names_model.specs.Parts as parts
use Rattle.names_model.specs.Sizes.{elements_in, head_size, size_of, sizes_of, block_of}
use Rattle.names_model.specs.Definitions.{within, defined, elements_defined, elements_with, names_defined, params_defined, definitions_of, definitions_in, text_definitions}
use Rattle.names_model.specs.ExprMentions.{used, mentions_of, mentions_of_some, mentions_of_args, mentions_of_ranges}
use Rattle.names_model.specs.ModeMentions.{mentions_of_mode, mentions_of_some_mode}
use Rattle.names_model.specs.StatementParts.{clause, mentioned, synonym_part, mode_part, initial_parts, declaration_parts, local_parts, encloses, exit_parts, mentions_of_some_args, simple_parts, control_parts, counter_part, turn_parts, labelled, received_parts, statement_parts, bracketed_parts, action_parts, branch_parts, case_parts, event_parts, receive_parts, otherwise_parts, handler_parts, exception_parts, body_parts}
use Rattle.names_model.specs.ItemParts.{seized, granted, receiver_parts, mentions_of_parts, signal_parts, param_clause, formal_clause, whole_body, procedure_part, process_part, item_parts, each_item}
use Rattle.names_model.specs.Resolving.{level_of}
use Rattle.checks_model.specs.Sites.{Site, Around, in_procedure, in_no_procedure, at_item, at_declaration, at_mode, at_condition, at_selector, at_labels, at_set, at_control, at_priority, at_source, at_received, at_exceptions, at_body, some_site, events_listed, sites_of_local, sites_of, sites_of_bracketed, sites_of_each, sites_of_branches, sites_of_cases, sites_of_events, sites_of_receives, sites_of_otherwise, sites_of_handler, sites_of_exceptions, sites_of_parts, sites_of_result, sites_of_body, sites_of_procedure, sites_of_process, sites_of_item, sites_of_items, locals_of_body, sites}
use Rattle.written_laws.specs.Written.{Each}
use Rattle.elaboration_model.specs.Numbering.{is_direct}
use Rattle.expression_laws.proofs.Actions.{each_first, each_later}

module _ (Q : Name → Type 0) where
  -- what is so of the names of declarations in bodies
  abbrev pub DeclaredSo : Site → Type 0
  DeclaredSo (at_declaration false d) = Each Q d.names
  DeclaredSo n = Unit {0}

  abbrev pub AllDeclaredSo : List Site → Type 0
  AllDeclaredSo ns = Each DeclaredSo ns

  first : (ss ts : List Site) → AllDeclaredSo (ss ++ ts) → AllDeclaredSo ss
  first ss ts all = each_first DeclaredSo ss ts all

  later : (ss ts : List Site) → AllDeclaredSo (ss ++ ts) → AllDeclaredSo ts
  later ss ts all = each_later DeclaredSo ss ts all

  -- a location that is defined in a body has a name of which this is so
  abbrev pub IsLocalSo : Definition → Type 0
  IsLocalSo d = is_location d.kind ≡ true → is_direct d.inside ≡ false → (n : Name) × ((identifier n ≡ d.name) × Q n)

  abbrev AllSo : List Definition → Type 0
  AllSo ds = Each IsLocalSo ds

  both : (ds es : List Definition) → AllSo ds → AllSo es → AllSo (ds ++ es)
  both [] es one two = two
  both (d ∷ ds) es one two = (one.0, both ds es one.1 two)

  elements_so : (i : Inside) (ns : List Identifier) → AllSo (elements_defined i ns)
  elements_so i [] = tt
  elements_so i (n ∷ ns) = ((λ is inner. absurd (true≢false (sym is))), elements_so i ns)

  -- ---- where parts stand

  abbrev in_modulion : Inside → Bool
  in_modulion (Modulion d) = true
  in_modulion _ = false

  abbrev in_body : Inside → Bool
  in_body (Body d) = true
  in_body (Block d) = true
  in_body _ = false

  abbrev anywhere : Inside → Bool
  anywhere Outermost = false
  anywhere _ = true

  abbrev at_top : Inside → Bool
  at_top i = true

  record PlacedAt (where_to : Inside → Bool) (ps : List PartTree) : Type 0 where
    by : (i : Inside) (from : ℕ) → where_to i ≡ true → AllSo (definitions_in i from (part_nodes ps))

  definitions_split : (i : Inside) (from : ℕ) (ps qs : List PartTree) → (k : ℕ) × (definitions_in i from (part_nodes (ps ++ qs)) ≡ definitions_in i from (part_nodes ps) ++ definitions_in i k (part_nodes qs))
  definitions_split i from [] qs = (from, refl)
  definitions_split i from (p ∷ ps) qs =
      let h = definitions_split i (from + size_of p) ps qs in
      (h.0, ap (λ ds. definitions_of i from p ++ ds) h.1 ∙ sym (append_assoc (definitions_of i from p) (definitions_in i (from + size_of p) (part_nodes ps)) (definitions_in i h.0 (part_nodes qs))))

  nothing : {at : Inside → Bool} → PlacedAt at []
  nothing = record { by = λ i from ok. tt }

  joined : {at : Inside → Bool} {ps qs : List PartTree} → PlacedAt at ps → PlacedAt at qs → PlacedAt at (ps ++ qs)
  joined {at = at} {ps = ps} {qs = qs} m k = record {
    by = λ i from ok.
        let h = definitions_split i from ps qs in
        subst AllSo (sym h.1) (both (definitions_in i from (part_nodes ps)) (definitions_in i h.0 (part_nodes qs)) (m.by i from ok) (k.by i h.0 ok));
  }

  one_part : {at : Inside → Bool} {p : PartTree} → ((i : Inside) (from : ℕ) → at i ≡ true → AllSo (definitions_of i from p)) → PlacedAt at (p ∷ [])
  one_part {at = at} {p = p} h = record { by = λ i from ok. subst AllSo (sym (append-nil (definitions_of i from p))) (h i from ok) }

  none_mentioned : {at : Inside → Bool} (ms : List Mention) → PlacedAt at (mentioned ms)
  none_mentioned {at = at} ms = record { by = λ i from ok. each i ms from }
    where
      each : (i : Inside) (ms : List Mention) (from : ℕ) → AllSo (definitions_in i from (part_nodes (mentioned ms)))
      each i [] from = tt
      each i (m ∷ ms) from = each i ms (from + 0)

  block_inside : (i : Inside) → anywhere i ≡ true → in_body (within i) ≡ true
  block_inside Outermost ok = absurd (true≢false (sym ok))
  block_inside (Modulion d) ok = refl
  block_inside (Body d) ok = refl
  block_inside (Block d) ok = refl

  blocked : {ps : List PartTree} → PlacedAt in_body ps → PlacedAt anywhere (block_of ps ∷ [])
  blocked m = one_part (λ i from ok. m.by (within i) from (block_inside i ok))

  body_anywhere : (i : Inside) → in_body i ≡ true → anywhere i ≡ true
  body_anywhere Outermost ok = ok
  body_anywhere (Modulion d) ok = refl
  body_anywhere (Body d) ok = refl
  body_anywhere (Block d) ok = refl

  modulion_anywhere : (i : Inside) → in_modulion i ≡ true → anywhere i ≡ true
  modulion_anywhere Outermost ok = ok
  modulion_anywhere (Modulion d) ok = refl
  modulion_anywhere (Body d) ok = refl
  modulion_anywhere (Block d) ok = refl

  within_body : {ps : List PartTree} → PlacedAt anywhere ps → PlacedAt in_body ps
  within_body m = record { by = λ i from ok. m.by i from (body_anywhere i ok) }

  within_modulion : {ps : List PartTree} → PlacedAt anywhere ps → PlacedAt in_modulion ps
  within_modulion m = record { by = λ i from ok. m.by i from (modulion_anywhere i ok) }

  direct_in : (i : Inside) → in_modulion i ≡ true → is_direct i ≡ true
  direct_in Outermost ok = absurd (true≢false (sym ok))
  direct_in (Modulion d) ok = refl
  direct_in (Body d) ok = absurd (true≢false (sym ok))
  direct_in (Block d) ok = absurd (true≢false (sym ok))

  -- ---- clauses

  names_so : (i : Inside) (kind : Kind) (ns : List Identifier) (count : ℕ) → is_location kind ≡ false → AllSo (map (λ n. record { name = n; kind = kind; inside = i; elements = count }) ns)
  names_so i kind [] count apart = tt
  names_so i kind (n ∷ ns) count apart = ((λ is inner. absurd (true≢false (sym is ∙ apart))), names_so i kind ns count apart)

  clause_so : {at : Inside → Bool} (c : Clause) → is_location c.kind ≡ false → PlacedAt at (define c ∷ [])
  clause_so c apart = one_part (λ i from ok. both (names_defined i c) (elements_defined i (elements_in c.text)) (names_so i c.kind c.names (elements_with c.kind (elements_in c.text)) apart) (elements_so i (elements_in c.text)))

  direct_names : (i : Inside) (ns : List Identifier) (count : ℕ) → is_direct i ≡ true → AllSo (map (λ n. record { name = n; kind = kinds.Location; inside = i; elements = count }) ns)
  direct_names i [] count direct = tt
  direct_names i (n ∷ ns) count direct = ((λ is inner. absurd (true≢false (sym direct ∙ inner))), direct_names i ns count direct)

  local_names : (i : Inside) (ns : List Name) (count : ℕ) → Each Q ns → AllSo (map (λ n. record { name = n; kind = kinds.Location; inside = i; elements = count }) (identifiers ns))
  local_names i [] count all = tt
  local_names i (n ∷ ns) count all = ((λ is inner. (n, (refl, all.0))), local_names i ns count all.1)

  direct_clause : (ns : List Name) (ms : List Mention) → PlacedAt in_modulion (define (clause kinds.Location ns ms) ∷ [])
  direct_clause ns ms = one_part (λ i from ok. both (names_defined i (clause kinds.Location ns ms)) (elements_defined i (elements_in ms)) (direct_names i (identifiers ns) (elements_with kinds.Location (elements_in ms)) (direct_in i ok)) (elements_so i (elements_in ms)))

  local_clause : (ns : List Name) (ms : List Mention) → Each Q ns → PlacedAt in_body (define (clause kinds.Location ns ms) ∷ [])
  local_clause ns ms all = one_part (λ i from ok. both (names_defined i (clause kinds.Location ns ms)) (elements_defined i (elements_in ms)) (local_names i ns (elements_with kinds.Location (elements_in ms)) all) (elements_so i (elements_in ms)))

  params_so : (around : Inside) (from : ℕ) (cs : List Clause) → Each (λ (c : Clause). is_location c.kind ≡ false) cs → AllSo (params_defined around (Body from) cs)
  params_so around from [] all = tt
  params_so around from (c ∷ cs) all =
      both (names_defined (Body from) c ++ elements_defined around (elements_in c.text)) (params_defined around (Body from) cs)
      (both (names_defined (Body from) c) (elements_defined around (elements_in c.text)) (names_so (Body from) c.kind c.names (elements_with c.kind (elements_in c.text)) all.0) (elements_so around (elements_in c.text)))
      (params_so around from cs all.1)

  -- ---- definition statements

  synonyms_so : (ss : List SynonymTree) → PlacedAt anywhere (map synonym_part ss)
  synonyms_so [] = nothing
  synonyms_so (s ∷ ss) = joined (clause_so (clause kinds.Synonym s.names (mentions_of_some_mode s.mode ++ mentions_of s.value)) refl) (synonyms_so ss)

  modes_so : (ds : List ModeDefinitionTree) → PlacedAt anywhere (map mode_part ds)
  modes_so [] = nothing
  modes_so (d ∷ ds) = joined (clause_so (clause kinds.Mode (d.name ∷ []) (mentions_of_mode d.mode)) refl) (modes_so ds)

  initial_so : {at : Inside → Bool} (i : Option InitialTree) → PlacedAt at (initial_parts i)
  initial_so None = nothing
  initial_so (Some i) = none_mentioned (mentions_of i.value)

  direct_declarations : (ds : List DeclarationTree) → PlacedAt in_modulion (flat_map declaration_parts ds)
  direct_declarations [] = nothing
  direct_declarations (d ∷ ds) = joined (joined (direct_clause d.names (mentions_of_mode d.mode)) (initial_so d.initial)) (direct_declarations ds)

  local_declarations : (ds : List DeclarationTree) → AllDeclaredSo (map (at_declaration false) ds) → PlacedAt in_body (flat_map declaration_parts ds)
  local_declarations [] all = nothing
  local_declarations (d ∷ ds) all = joined (joined (local_clause d.names (mentions_of_mode d.mode) all.0) (initial_so d.initial)) (local_declarations ds all.1)

  direct_so : (l : LocalTree) → PlacedAt in_modulion (local_parts l)
  direct_so (synonyms at ss) = within_modulion (synonyms_so ss)
  direct_so (syn_modes at ds) = within_modulion (modes_so ds)
  direct_so (new_modes at ds) = within_modulion (modes_so ds)
  direct_so (locations at ds) = direct_declarations ds

  local_so : (l : LocalTree) → AllDeclaredSo (sites_of_local false l) → PlacedAt in_body (local_parts l)
  local_so (synonyms at ss) all = within_body (synonyms_so ss)
  local_so (syn_modes at ds) all = within_body (modes_so ds)
  local_so (new_modes at ds) all = within_body (modes_so ds)
  local_so (locations at ds) all = local_declarations ds all

  -- ---- actions

  exit_so : (labels : List Name) (n : Name) → PlacedAt anywhere (exit_parts labels n)
  exit_so labels n = by (encloses labels n)
    where
      by : (b : Bool) → PlacedAt anywhere (if b then [] else parts.stray (identifier n) ∷ [])
      by true = nothing
      by false = one_part (λ i from ok. tt)

  simple_so : (labels : List Name) (a : SimpleTree) → PlacedAt anywhere (simple_parts labels a)
  simple_so labels (assign at t v) = none_mentioned (mentions_of t ++ mentions_of v)
  simple_so labels (update at t o p v) = none_mentioned (mentions_of t ++ mentions_of v)
  simple_so labels (call_of at word n es) = none_mentioned (used needs.Action n ++ mentions_of_args (Some n) es)
  simple_so labels (exit at n) = exit_so labels n
  simple_so labels (return_with at v) = none_mentioned (mentions_of_some v)
  simple_so labels (result_of at v) = none_mentioned (mentions_of v)
  simple_so labels (assert_that at c) = none_mentioned (mentions_of c)
  simple_so labels (cause at n) = nothing
  simple_so labels (stop at) = nothing
  simple_so labels (start_of at n es) = none_mentioned (used needs.Process n ++ mentions_of_args None es)
  simple_so labels (delay at n p) = none_mentioned (used needs.Location n ++ mentions_of_some p)
  simple_so labels (continue_event at n) = none_mentioned (used needs.Location n)
  simple_so labels (send at n es to p) = none_mentioned (used needs.Message n ++ mentions_of_some_args es ++ mentions_of_some to ++ mentions_of_some p)

  control_so : (c : ControlTree) → PlacedAt anywhere (control_parts c)
  control_so (while_holds at c) = nothing
  control_so (for_ever at) = nothing
  control_so (for_members at n s c) = none_mentioned (mentions_of s)
  control_so (for_steps at n s b down e c) = none_mentioned (mentions_of s ++ mentions_of_some b ++ mentions_of e)

  turn_so : (c : ControlTree) → PlacedAt in_body (turn_parts c)
  turn_so (while_holds at c) = none_mentioned (mentions_of c)
  turn_so (for_ever at) = nothing
  turn_so (for_members at n s c) = joined (clause_so (clause kinds.Counter (n ∷ []) []) refl) (none_mentioned (mentions_of_some c))
  turn_so (for_steps at n s b down e c) = joined (clause_so (clause kinds.Counter (n ∷ []) []) refl) (none_mentioned (mentions_of_some c))

  received_so : (r : Option (List Name)) → PlacedAt in_body (received_parts r)
  received_so None = nothing
  received_so (Some ns) = clause_so (clause kinds.Received ns []) refl

  mutual
    statement_so : (s : StatementTree) (a : Around) (labels : List Name) → AllDeclaredSo (sites_of a s) → PlacedAt anywhere (statement_parts labels s)
    statement_so (empty at) a labels all = nothing
    statement_so (simple at x h) a labels all = joined (simple_so labels x) (handler_so h a labels all.1)
    statement_so (bracketed at l x h closing) a labels all =
        joined (bracketed_so x a (labelled l labels) (first (sites_of_bracketed a x) (sites_of_handler a h) all)) (handler_so h a (labelled l labels) (later (sites_of_bracketed a x) (sites_of_handler a h) all))

    bracketed_so : (x : BracketedTree) (a : Around) (labels : List Name) → AllDeclaredSo (sites_of_bracketed a x) → PlacedAt anywhere (bracketed_parts labels x)
    bracketed_so (if_then at c ss bs o) a labels all =
        let most = first (sites_of_each a ss ++ sites_of_branches a bs) (sites_of_otherwise a o) all.1 in
        joined (joined (joined (none_mentioned (mentions_of c)) (each_so ss a labels (first (sites_of_each a ss) (sites_of_branches a bs) most))) (branches_so bs a labels (later (sites_of_each a ss) (sites_of_branches a bs) most)))
        (otherwise_so o a labels (later (sites_of_each a ss ++ sites_of_branches a bs) (sites_of_otherwise a o) all.1))
    bracketed_so (case_of at e as' o) a labels all =
        joined (joined (none_mentioned (mentions_of e)) (cases_so as' a e labels (first (sites_of_cases a e as') (sites_of_otherwise a o) all.1))) (otherwise_so o a labels (later (sites_of_cases a e as') (sites_of_otherwise a o) all.1))
    bracketed_so (do_loop at c ss) a labels all = joined (control_so c) (blocked (joined (turn_so c) (within_body (each_so ss a labels all.1))))
    bracketed_so (begin_end at ps) a labels all = blocked (body_so ps a labels all)
    bracketed_so (delay_case at set p as') a labels all =
        joined (none_mentioned (mentions_of_some set ++ mentions_of_some p)) (events_so as' a [] labels (later (some_site at_set set ++ some_site at_priority p) (sites_of_events a [] as') all))
    bracketed_so (receive_case at set as' o) a labels all =
        let most = first (some_site at_set set ++ sites_of_receives a [] as') (sites_of_otherwise a o) all in
        joined (joined (none_mentioned (mentions_of_some set)) (receives_so as' a [] labels (later (some_site at_set set) (sites_of_receives a [] as') most)))
        (otherwise_so o a labels (later (some_site at_set set ++ sites_of_receives a [] as') (sites_of_otherwise a o) all))

    each_so : (ss : StatementNodes) (a : Around) (labels : List Name) → AllDeclaredSo (sites_of_each a ss) → PlacedAt anywhere (action_parts labels ss)
    each_so no_statements a labels all = nothing
    each_so (more_statements s ss) a labels all = joined (statement_so s a labels (first (sites_of a s) (sites_of_each a ss) all)) (each_so ss a labels (later (sites_of a s) (sites_of_each a ss) all))

    branches_so : (bs : ElsIfNodes) (a : Around) (labels : List Name) → AllDeclaredSo (sites_of_branches a bs) → PlacedAt anywhere (branch_parts labels bs)
    branches_so no_branches a labels all = nothing
    branches_so (more_branches at c ss bs) a labels all =
        joined (joined (none_mentioned (mentions_of c)) (each_so ss a labels (first (sites_of_each a ss) (sites_of_branches a bs) all.1))) (branches_so bs a labels (later (sites_of_each a ss) (sites_of_branches a bs) all.1))

    cases_so : (as' : CaseNodes) (a : Around) (e : ExprTree) (labels : List Name) → AllDeclaredSo (sites_of_cases a e as') → PlacedAt anywhere (case_parts labels as')
    cases_so no_cases a e labels all = nothing
    cases_so (more_cases at ls ss as') a e labels all =
        joined (joined (none_mentioned (mentions_of_ranges ls)) (each_so ss a labels (first (sites_of_each a ss) (sites_of_cases a e as') all.1))) (cases_so as' a e labels (later (sites_of_each a ss) (sites_of_cases a e as') all.1))

    events_so : (as' : NamedNodes) (a : Around) (earlier labels : List Name) → AllDeclaredSo (sites_of_events a earlier as') → PlacedAt anywhere (event_parts labels as')
    events_so no_named a earlier labels all = nothing
    events_so (more_named at ns ss as') a earlier labels all =
        let front = first (events_listed earlier ns ++ sites_of_each a ss) (sites_of_events a (earlier ++ ns) as') all in
        joined (joined (none_mentioned (flat_map (used needs.Location) ns)) (blocked (within_body (each_so ss a labels (later (events_listed earlier ns) (sites_of_each a ss) front)))))
        (events_so as' a (earlier ++ ns) labels (later (events_listed earlier ns ++ sites_of_each a ss) (sites_of_events a (earlier ++ ns) as') all))

    receives_so : (as' : ReceiveNodes) (a : Around) (earlier labels : List Name) → AllDeclaredSo (sites_of_receives a earlier as') → PlacedAt anywhere (receive_parts labels as')
    receives_so no_receives a earlier labels all = nothing
    receives_so (more_receives at n r ss as') a earlier labels all =
        joined (joined (none_mentioned (used needs.Message n)) (blocked (joined (received_so r) (within_body (each_so ss a labels (first (sites_of_each a ss) (sites_of_receives a (earlier ++ n ∷ []) as') all.1.1))))))
        (receives_so as' a (earlier ++ n ∷ []) labels (later (sites_of_each a ss) (sites_of_receives a (earlier ++ n ∷ []) as') all.1.1))

    otherwise_so : (o : OtherwiseNode) (a : Around) (labels : List Name) → AllDeclaredSo (sites_of_otherwise a o) → PlacedAt anywhere (otherwise_parts labels o)
    otherwise_so no_otherwise a labels all = nothing
    otherwise_so (otherwise ss) a labels all = each_so ss a labels all

    handler_so : (h : HandlerNode) (a : Around) (labels : List Name) → AllDeclaredSo (sites_of_handler a h) → PlacedAt anywhere (handler_parts labels h)
    handler_so no_handler a labels all = nothing
    handler_so (handler at as' o) a labels all =
        blocked (within_body (joined (exceptions_so as' a [] labels (first (sites_of_exceptions a [] as') (sites_of_otherwise a o) all)) (otherwise_so o a labels (later (sites_of_exceptions a [] as') (sites_of_otherwise a o) all))))

    exceptions_so : (as' : NamedNodes) (a : Around) (earlier labels : List Name) → AllDeclaredSo (sites_of_exceptions a earlier as') → PlacedAt anywhere (exception_parts labels as')
    exceptions_so no_named a earlier labels all = nothing
    exceptions_so (more_named at ns ss as') a earlier labels all =
        joined (each_so ss a labels (first (sites_of_each a ss) (sites_of_exceptions a (earlier ++ ns) as') all.1)) (exceptions_so as' a (earlier ++ ns) labels (later (sites_of_each a ss) (sites_of_exceptions a (earlier ++ ns) as') all.1))

    body_so : (ps : BodyNodes) (a : Around) (labels : List Name) → AllDeclaredSo (sites_of_parts a ps) → PlacedAt in_body (body_parts labels ps)
    body_so no_parts a labels all = nothing
    body_so (more_locals l ps) a labels all = joined (local_so l (first (sites_of_local false l) (sites_of_parts a ps) all)) (body_so ps a labels (later (sites_of_local false l) (sites_of_parts a ps) all))
    body_so (more_actions s ps) a labels all = joined (within_body (statement_so s a labels (first (sites_of a s) (sites_of_parts a ps) all))) (body_so ps a labels (later (sites_of a s) (sites_of_parts a ps) all))

  -- ---- items

  seized_so : (passed : Passed) → PlacedAt in_modulion (seized passed)
  seized_so (Names ns) = record { by = λ i from ok. each i ns from }
    where
      each : (i : Inside) (ns : List Name) (from : ℕ) → AllSo (definitions_in i from (part_nodes (map (λ n. seize (identifier n)) ns)))
      each i [] from = tt
      each i (n ∷ ns) from = each i ns (from + 0)
  seized_so (All at) = one_part (λ i from ok. tt)

  granted_so : (passed : Passed) → PlacedAt in_modulion (granted passed)
  granted_so (Names ns) = record { by = λ i from ok. each i ns from }
    where
      each : (i : Inside) (ns : List Name) (from : ℕ) → AllSo (definitions_in i from (part_nodes (map (λ n. grant (identifier n)) ns)))
      each i [] from = tt
      each i (n ∷ ns) from = each i ns (from + 0)
  granted_so (All at) = one_part (λ i from ok. tt)

  receiver_so : (n : Option Name) → PlacedAt in_modulion (receiver_parts n)
  receiver_so None = nothing
  receiver_so (Some n) = none_mentioned (used needs.Process n)

  signals_so : (ss : List SignalTree) → PlacedAt in_modulion (flat_map signal_parts ss)
  signals_so [] = nothing
  signals_so (s ∷ ss) = joined (joined (clause_so (clause kinds.Signal (s.name ∷ []) (mentions_of_parts s.parts)) refl) (receiver_so s.process)) (signals_so ss)

  params_apart : (ps : List ParamTree) → Each (λ (c : Clause). is_location c.kind ≡ false) (map param_clause ps)
  params_apart [] = tt
  params_apart (p ∷ ps) = (refl, params_apart ps)

  formals_apart : (ps : List FormalTree) → Each (λ (c : Clause). is_location c.kind ≡ false) (map formal_clause ps)
  formals_apart [] = tt
  formals_apart (p ∷ ps) = (refl, formals_apart ps)

  whole_so : (a : Around) (ps : List BodyTree) (h : Option HandlerTree) → AllDeclaredSo (sites_of_body a ps h) → PlacedAt in_body (whole_body ps h)
  whole_so a ps h all =
      joined (body_so (body_nodes ps) a [] (first (sites_of_parts a (body_nodes ps)) (sites_of_handler a (handler_node h)) all)) (within_body (handler_so (handler_node h) a [] (later (sites_of_parts a (body_nodes ps)) (sites_of_handler a (handler_node h)) all)))

  routine_so : (n : Identifier) (kind : Kind) (params : List Clause) (result : List Mention) (ps : List PartTree) → is_location kind ≡ false → Each (λ (c : Clause). is_location c.kind ≡ false) params → PlacedAt in_body ps
      → PlacedAt in_modulion (routine n kind params result (sizes_of (part_nodes ps)) (part_nodes ps) ∷ [])
  routine_so n kind params result ps apart all inner = one_part (λ i from ok. (
    (λ is inside. absurd (true≢false (sym is ∙ apart))),
    both (params_defined i (Body from) params ++ elements_defined i (elements_in result)) (definitions_in (Body from) (from + head_size params result) (part_nodes ps))
        (both (params_defined i (Body from) params) (elements_defined i (elements_in result)) (params_so i from params all) (elements_so i (elements_in result)))
        (inner.by (Body from) (from + head_size params result) refl),
  ))

  mutual
    item_so : (i : ItemTree) → AllDeclaredSo (sites_of_item i) → PlacedAt in_modulion (item_parts i)
    item_so (seize_item at passed) all = seized_so passed
    item_so (grant_item at passed) all = granted_so passed
    item_so (local_item l) all = direct_so l
    item_so (signals at ss) all = signals_so ss
    item_so (procedure p) all =
        let head = map (λ q. at_mode q.mode) p.params ++ sites_of_result p.returns in
        let own = at_body (Some p.name) (flat_map (λ q. q.names) p.params ++ locals_of_body p.body p.handler) ∷ sites_of_body (in_procedure p) p.body p.handler in
        routine_so (identifier p.name) kinds.Procedure (map param_clause p.params) (mentions_of_some_mode p.returns) (whole_body p.body p.handler) refl (params_apart p.params) (whole_so (in_procedure p) p.body p.handler (later head own all).1)
    item_so (process p) all =
        let head = map (λ q. at_mode q.mode) p.formals in
        let own = at_body (Some p.name) (flat_map (λ q. q.names) p.formals ++ locals_of_body p.body p.handler) ∷ sites_of_body in_no_procedure p.body p.handler in
        routine_so (identifier p.name) kinds.Process (map formal_clause p.formals) [] (whole_body p.body p.handler) refl (formals_apart p.formals) (whole_so in_no_procedure p.body p.handler (later head own all).1)
    item_so (modulion_of n kind items h closing) all =
        let inner = joined (items_so items kind items (first (sites_of_items kind items items) (sites_of_handler in_no_procedure (handler_node h)) all)) (within_modulion (handler_so (handler_node h) in_no_procedure [] (later (sites_of_items kind items items) (sites_of_handler in_no_procedure (handler_node h)) all))) in
        one_part (λ i from ok. ((λ is inside. absurd (true≢false (sym is))), inner.by (Modulion from) (suc from) refl))
    item_so (action s) all = within_modulion (statement_so s in_no_procedure [] all)

    items_so : (is : ItemNodes) (kind : ModulionKind) (whole : ItemNodes) → AllDeclaredSo (sites_of_items kind whole is) → PlacedAt in_modulion (each_item is)
    items_so no_items kind whole all = nothing
    items_so (more_items i is) kind whole all = joined (item_so i (first (sites_of_item i) (sites_of_items kind whole is) all.1)) (items_so is kind whole (later (sites_of_item i) (sites_of_items kind whole is) all.1))

  modulion_so : (m : ModulionTree) → AllDeclaredSo (sites_of_item (modulion_item m)) → PlacedAt at_top (item_parts (modulion_item m))
  modulion_so m all =
      let items = item_nodes m.items in
      let held = sites_of_items m.kind items items in
      let last = sites_of_handler in_no_procedure (handler_node m.handler) in
      let inner = joined (items_so items m.kind items (first held last all)) (within_modulion (handler_so (handler_node m.handler) in_no_procedure [] (later held last all))) in
      one_part (λ i from ok. ((λ is inside. absurd (true≢false (sym is))), inner.by (Modulion from) (suc from) refl))

  modulions_so : (ms : List ModulionTree) → AllDeclaredSo (flat_map sites_of_item (map modulion_item ms)) → PlacedAt at_top (flat_map (λ m. item_parts (modulion_item m)) ms)
  modulions_so [] all = nothing
  modulions_so (m ∷ ms) all = joined (modulion_so m (first (sites_of_item (modulion_item m)) (flat_map sites_of_item (map modulion_item ms)) all)) (modulions_so ms (later (sites_of_item (modulion_item m)) (flat_map sites_of_item (map modulion_item ms)) all))

  pub text_so : (t : ProgramTree) → AllDeclaredSo (sites t) → Each IsLocalSo (text_definitions (level_of t))
  text_so t all = let so = modulions_so t.modulions all.1.1 in so.by Outermost 0 refl
