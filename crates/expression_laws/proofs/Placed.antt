-- Each definition of a text stands where its kind does: procedures, processes and signals directly in modulions, parameters, counters and
-- received names in bodies and blocks.
use Rattle.std.proofs.Common.{◌≡◌, ℕ, zero, suc, ◌+◌, Bool, true, false, ◌&&◌, ◌||◌, List, [], ◌∷◌, ◌++◌, length, Option, Some, None, refl, sym, ap, ◌∙◌, subst, true≢false, append_assoc, append-nil}
use Rattle.std.specs.Prelude.{IsSome, not, if◌then◌else◌, map, flat_map, slice_get, option_map, option_and_then}
use Rattle.chill_tree.specs.declared.tree.name.Name.{Name}
use Rattle.chill_tree.specs.declared.tree.item.Passed.{Passed}
use Rattle.chill_tree.specs.declared.tree.item.Passed.TheVariants.{Names, All}
use Rattle.chill_tree.specs.LocalTree.{SynonymTree, ModeDefinitionTree, InitialTree, DeclarationTree, LocalTree, synonyms, syn_modes, new_modes, locations}
use Rattle.chill_tree.specs.SimpleTree.{SimpleTree, assign, update, call_of, exit, return_with, result_of, assert_that, cause, stop, start_of, delay, continue_event, send, ControlTree, while_holds, for_ever, for_members, for_steps}
use Rattle.chill_tree.specs.StatementTree.{StatementTree, BracketedTree, StatementNodes, ElsIfNodes, CaseNodes, NamedNodes, ReceiveNodes, OtherwiseNode, HandlerNode, BodyNodes, HandlerTree, BodyTree, empty, simple, bracketed, if_then, case_of, do_loop, begin_end, delay_case, receive_case, no_statements, more_statements, no_branches, more_branches, no_cases, more_cases, no_named, more_named, no_receives, more_receives, no_otherwise, otherwise, no_handler, handler, no_parts, more_locals, more_actions, handler_node, body_nodes}
use Rattle.chill_tree.specs.ItemTree.{SignalTree, ParamTree, ProcedureTree, FormalTree, ProcessTree, ItemTree, ItemNodes, local_item, signals, procedure, process, action, no_items, more_items, ModulionTree, ProgramTree, item_nodes, modulion_item}
use Rattle.chill_tree.specs.ItemTree.{seize as seize_item, grant as grant_item, modulion as modulion_of}
use Rattle.names_model.specs.declared.identifier.Identifier.{Identifier}
use Rattle.names_model.specs.declared.kind.Kind.{Kind}
use Rattle.names_model.specs.declared.kind.Kind.TheVariants as kinds
use Rattle.names_model.specs.declared.kind.Need.TheVariants as needs
use Rattle.names_model.specs.declared.definition.Inside.{Inside}
use Rattle.names_model.specs.declared.definition.Inside.TheVariants.{Outermost, Modulion, Body, Block}
use Rattle.names_model.specs.declared.definition.Definition.{Definition}
use Rattle.names_model.specs.declared.part.Mention.{Mention}
use Rattle.names_model.specs.declared.part.Clause.{Clause}
use Rattle.names_model.specs.Identifiers.{identifier, identifiers}
use Rattle.names_model.specs.Parts.{PartTree, PartNodes, define, mention, seize, grant, modulion, routine, block, part_nodes}
use Rattle.names_model.specs.Parts as parts
use Rattle.names_model.specs.Sizes.{elements_in, head_size, size_of, sizes_of, block_of}
use Rattle.names_model.specs.Definitions.{within, defined, elements_defined, elements_with, names_defined, params_defined, definitions_of, definitions_in, text_definitions}
use Rattle.names_model.specs.ExprMentions.{used, mentions_of, mentions_of_some, mentions_of_args, mentions_of_ranges}
use Rattle.names_model.specs.ModeMentions.{mentions_of_mode, mentions_of_some_mode}
use Rattle.names_model.specs.StatementParts.{clause, mentioned, synonym_part, mode_part, initial_parts, declaration_parts, local_parts, encloses, exit_parts, mentions_of_some_args, simple_parts, control_parts, counter_part, turn_parts, labelled, received_parts, statement_parts, bracketed_parts, action_parts, branch_parts, case_parts, event_parts, receive_parts, otherwise_parts, handler_parts, exception_parts, body_parts}
use Rattle.names_model.specs.ItemParts.{seized, granted, receiver_parts, mentions_of_parts, signal_parts, param_clause, formal_clause, whole_body, procedure_part, process_part, item_parts, each_item}
use Rattle.names_model.specs.Resolving.{level_of}
use Rattle.written_laws.specs.Written.{Each}
use Rattle.elaboration_model.specs.Numbering.{is_direct}

-- ---- definitions that stand where their kind does

abbrev pub fits_kind : Kind → Bool → Bool
fits_kind kinds.Procedure direct = direct
fits_kind kinds.Process direct = direct
fits_kind kinds.Signal direct = direct
fits_kind kinds.Modulion direct = direct
fits_kind kinds.Parameter direct = not direct
fits_kind kinds.Counter direct = not direct
fits_kind kinds.Received direct = not direct
fits_kind _ direct = true

abbrev pub FitsPlace : Definition → Type 0
FitsPlace d = fits_kind d.kind (is_direct d.inside) ≡ true

abbrev AllFit : List Definition → Type 0
AllFit ds = Each FitsPlace ds

both : (ds es : List Definition) → AllFit ds → AllFit es → AllFit (ds ++ es)
both [] es first later = later
both (d ∷ ds) es first later = (first.0, both ds es first.1 later)

elements_fit : (i : Inside) (ns : List Identifier) → AllFit (elements_defined i ns)
elements_fit i [] = tt
elements_fit i (n ∷ ns) = (refl, elements_fit i ns)

-- where parts may stand: in a modulion; in a body or block; in either
abbrev in_modulion : Inside → Bool
in_modulion (Modulion d) = true
in_modulion _ = false

abbrev in_body : Inside → Bool
in_body (Body d) = true
in_body (Block d) = true
in_body _ = false

abbrev anywhere : Inside → Bool
anywhere Outermost = false
anywhere _ = true

record PlacedAt (where_to : Inside → Bool) (ps : List PartTree) : Type 0 where
  by : (i : Inside) (from : ℕ) → where_to i ≡ true → AllFit (definitions_in i from (part_nodes ps))

definitions_split : (i : Inside) (from : ℕ) (ps qs : List PartTree) → (k : ℕ) × (definitions_in i from (part_nodes (ps ++ qs)) ≡ definitions_in i from (part_nodes ps) ++ definitions_in i k (part_nodes qs))
definitions_split i from [] qs = (from, refl)
definitions_split i from (p ∷ ps) qs =
    let h = definitions_split i (from + size_of p) ps qs in
    (h.0, ap (λ ds. definitions_of i from p ++ ds) h.1 ∙ sym (append_assoc (definitions_of i from p) (definitions_in i (from + size_of p) (part_nodes ps)) (definitions_in i h.0 (part_nodes qs))))

nothing : {at : Inside → Bool} → PlacedAt at []
nothing = record { by = λ i from ok. tt }

joined : {at : Inside → Bool} {ps qs : List PartTree} → PlacedAt at ps → PlacedAt at qs → PlacedAt at (ps ++ qs)
joined {at = at} {ps = ps} {qs = qs} m k = record {
  by = λ i from ok.
      let h = definitions_split i from ps qs in
      subst AllFit (sym h.1) (both (definitions_in i from (part_nodes ps)) (definitions_in i h.0 (part_nodes qs)) (m.by i from ok) (k.by i h.0 ok));
}

one_part : {at : Inside → Bool} {p : PartTree} → ((i : Inside) (from : ℕ) → at i ≡ true → AllFit (definitions_of i from p)) → PlacedAt at (p ∷ [])
one_part {at = at} {p = p} h = record { by = λ i from ok. subst AllFit (sym (append-nil (definitions_of i from p))) (h i from ok) }

none_mentioned : {at : Inside → Bool} (ms : List Mention) → PlacedAt at (mentioned ms)
none_mentioned {at = at} ms = record { by = λ i from ok. each i ms from }
  where
    each : (i : Inside) (ms : List Mention) (from : ℕ) → AllFit (definitions_in i from (part_nodes (mentioned ms)))
    each i [] from = tt
    each i (m ∷ ms) from = each i ms (from + 0)

block_inside : (i : Inside) → anywhere i ≡ true → in_body (within i) ≡ true
block_inside Outermost ok = absurd (true≢false (sym ok))
block_inside (Modulion d) ok = refl
block_inside (Body d) ok = refl
block_inside (Block d) ok = refl

blocked : {ps : List PartTree} → PlacedAt in_body ps → PlacedAt anywhere (block_of ps ∷ [])
blocked m = one_part (λ i from ok. m.by (within i) from (block_inside i ok))

-- what may stand in either may stand in one
body_anywhere : (i : Inside) → in_body i ≡ true → anywhere i ≡ true
body_anywhere Outermost ok = ok
body_anywhere (Modulion d) ok = refl
body_anywhere (Body d) ok = refl
body_anywhere (Block d) ok = refl

modulion_anywhere : (i : Inside) → in_modulion i ≡ true → anywhere i ≡ true
modulion_anywhere Outermost ok = ok
modulion_anywhere (Modulion d) ok = refl
modulion_anywhere (Body d) ok = refl
modulion_anywhere (Block d) ok = refl

within_body : {ps : List PartTree} → PlacedAt anywhere ps → PlacedAt in_body ps
within_body m = record { by = λ i from ok. m.by i from (body_anywhere i ok) }

within_modulion : {ps : List PartTree} → PlacedAt anywhere ps → PlacedAt in_modulion ps
within_modulion m = record { by = λ i from ok. m.by i from (modulion_anywhere i ok) }

direct_in : (i : Inside) → in_modulion i ≡ true → is_direct i ≡ true
direct_in Outermost ok = absurd (true≢false (sym ok))
direct_in (Modulion d) ok = refl
direct_in (Body d) ok = absurd (true≢false (sym ok))
direct_in (Block d) ok = absurd (true≢false (sym ok))

inner_in : (i : Inside) → in_body i ≡ true → not (is_direct i) ≡ true
inner_in Outermost ok = absurd (true≢false (sym ok))
inner_in (Modulion d) ok = absurd (true≢false (sym ok))
inner_in (Body d) ok = refl
inner_in (Block d) ok = refl

-- ---- clauses

names_fit : (i : Inside) (c : Clause) → fits_kind c.kind (is_direct i) ≡ true → AllFit (names_defined i c)
names_fit i c fit = each c.names
  where
    each : (ns : List Identifier) → AllFit (map (λ n. record { name = n; kind = c.kind; inside = i; elements = elements_with c.kind (elements_in c.text) }) ns)
    each [] = tt
    each (n ∷ ns) = (fit, each ns)

clause_placed : {at : Inside → Bool} (c : Clause) → ((i : Inside) → at i ≡ true → fits_kind c.kind (is_direct i) ≡ true) → PlacedAt at (define c ∷ [])
clause_placed c fit = one_part (λ i from ok. both (names_defined i c) (elements_defined i (elements_in c.text)) (names_fit i c (fit i ok)) (elements_fit i (elements_in c.text)))

params_fit : (around : Inside) (from : ℕ) (cs : List Clause) → Each (λ (c : Clause). c.kind ≡ kinds.Parameter) cs → AllFit (params_defined around (Body from) cs)
params_fit around from [] all = tt
params_fit around from (c ∷ cs) all =
    both (names_defined (Body from) c ++ elements_defined around (elements_in c.text)) (params_defined around (Body from) cs)
    (both (names_defined (Body from) c) (elements_defined around (elements_in c.text)) (names_fit (Body from) c (ap (λ k. fits_kind k false) all.0)) (elements_fit around (elements_in c.text)))
    (params_fit around from cs all.1)

-- ---- definition statements

synonyms_placed : (ss : List SynonymTree) → PlacedAt anywhere (map synonym_part ss)
synonyms_placed [] = nothing
synonyms_placed (s ∷ ss) = joined (clause_placed (clause kinds.Synonym s.names (mentions_of_some_mode s.mode ++ mentions_of s.value)) (λ i ok. refl)) (synonyms_placed ss)

modes_placed : (ds : List ModeDefinitionTree) → PlacedAt anywhere (map mode_part ds)
modes_placed [] = nothing
modes_placed (d ∷ ds) = joined (clause_placed (clause kinds.Mode (d.name ∷ []) (mentions_of_mode d.mode)) (λ i ok. refl)) (modes_placed ds)

initial_placed : (i : Option InitialTree) → PlacedAt anywhere (initial_parts i)
initial_placed None = nothing
initial_placed (Some i) = none_mentioned (mentions_of i.value)

declarations_placed : (ds : List DeclarationTree) → PlacedAt anywhere (flat_map declaration_parts ds)
declarations_placed [] = nothing
declarations_placed (d ∷ ds) = joined (joined (clause_placed (clause kinds.Location d.names (mentions_of_mode d.mode)) (λ i ok. refl)) (initial_placed d.initial)) (declarations_placed ds)

local_placed : (l : LocalTree) → PlacedAt anywhere (local_parts l)
local_placed (synonyms at ss) = synonyms_placed ss
local_placed (syn_modes at ds) = modes_placed ds
local_placed (new_modes at ds) = modes_placed ds
local_placed (locations at ds) = declarations_placed ds

-- ---- actions

exit_placed : (labels : List Name) (n : Name) → PlacedAt anywhere (exit_parts labels n)
exit_placed labels n = by (encloses labels n)
  where
    by : (b : Bool) → PlacedAt anywhere (if b then [] else parts.stray (identifier n) ∷ [])
    by true = nothing
    by false = one_part (λ i from ok. tt)

simple_placed : (labels : List Name) (a : SimpleTree) → PlacedAt anywhere (simple_parts labels a)
simple_placed labels (assign at t v) = none_mentioned (mentions_of t ++ mentions_of v)
simple_placed labels (update at t o p v) = none_mentioned (mentions_of t ++ mentions_of v)
simple_placed labels (call_of at word n es) = none_mentioned (used needs.Action n ++ mentions_of_args (Some n) es)
simple_placed labels (exit at n) = exit_placed labels n
simple_placed labels (return_with at v) = none_mentioned (mentions_of_some v)
simple_placed labels (result_of at v) = none_mentioned (mentions_of v)
simple_placed labels (assert_that at c) = none_mentioned (mentions_of c)
simple_placed labels (cause at n) = nothing
simple_placed labels (stop at) = nothing
simple_placed labels (start_of at n es) = none_mentioned (used needs.Process n ++ mentions_of_args None es)
simple_placed labels (delay at n p) = none_mentioned (used needs.Location n ++ mentions_of_some p)
simple_placed labels (continue_event at n) = none_mentioned (used needs.Location n)
simple_placed labels (send at n es to p) = none_mentioned (used needs.Message n ++ mentions_of_some_args es ++ mentions_of_some to ++ mentions_of_some p)

control_placed : (c : ControlTree) → PlacedAt anywhere (control_parts c)
control_placed (while_holds at c) = nothing
control_placed (for_ever at) = nothing
control_placed (for_members at n s c) = none_mentioned (mentions_of s)
control_placed (for_steps at n s b down e c) = none_mentioned (mentions_of s ++ mentions_of_some b ++ mentions_of e)

turn_placed : (c : ControlTree) → PlacedAt in_body (turn_parts c)
turn_placed (while_holds at c) = none_mentioned (mentions_of c)
turn_placed (for_ever at) = nothing
turn_placed (for_members at n s c) = joined (clause_placed (clause kinds.Counter (n ∷ []) []) inner_in) (none_mentioned (mentions_of_some c))
turn_placed (for_steps at n s b down e c) = joined (clause_placed (clause kinds.Counter (n ∷ []) []) inner_in) (none_mentioned (mentions_of_some c))

received_placed : (r : Option (List Name)) → PlacedAt in_body (received_parts r)
received_placed None = nothing
received_placed (Some ns) = clause_placed (clause kinds.Received ns []) inner_in

mutual
  statement_placed : (s : StatementTree) (labels : List Name) → PlacedAt anywhere (statement_parts labels s)
  statement_placed (empty at) labels = nothing
  statement_placed (simple at a h) labels = joined (simple_placed labels a) (handler_placed h labels)
  statement_placed (bracketed at l a h closing) labels = joined (bracketed_placed a (labelled l labels)) (handler_placed h (labelled l labels))

  bracketed_placed : (a : BracketedTree) (labels : List Name) → PlacedAt anywhere (bracketed_parts labels a)
  bracketed_placed (if_then at c ss bs o) labels = joined (joined (joined (none_mentioned (mentions_of c)) (each_placed ss labels)) (branches_placed bs labels)) (otherwise_placed o labels)
  bracketed_placed (case_of at e as' o) labels = joined (joined (none_mentioned (mentions_of e)) (cases_placed as' labels)) (otherwise_placed o labels)
  bracketed_placed (do_loop at c ss) labels = joined (control_placed c) (blocked (joined (turn_placed c) (within_body (each_placed ss labels))))
  bracketed_placed (begin_end at ps) labels = blocked (within_body (body_placed ps labels))
  bracketed_placed (delay_case at set p as') labels = joined (none_mentioned (mentions_of_some set ++ mentions_of_some p)) (events_placed as' labels)
  bracketed_placed (receive_case at set as' o) labels = joined (joined (none_mentioned (mentions_of_some set)) (receives_placed as' labels)) (otherwise_placed o labels)

  each_placed : (ss : StatementNodes) (labels : List Name) → PlacedAt anywhere (action_parts labels ss)
  each_placed no_statements labels = nothing
  each_placed (more_statements s ss) labels = joined (statement_placed s labels) (each_placed ss labels)

  branches_placed : (bs : ElsIfNodes) (labels : List Name) → PlacedAt anywhere (branch_parts labels bs)
  branches_placed no_branches labels = nothing
  branches_placed (more_branches at c ss bs) labels = joined (joined (none_mentioned (mentions_of c)) (each_placed ss labels)) (branches_placed bs labels)

  cases_placed : (as' : CaseNodes) (labels : List Name) → PlacedAt anywhere (case_parts labels as')
  cases_placed no_cases labels = nothing
  cases_placed (more_cases at ls ss as') labels = joined (joined (none_mentioned (mentions_of_ranges ls)) (each_placed ss labels)) (cases_placed as' labels)

  events_placed : (as' : NamedNodes) (labels : List Name) → PlacedAt anywhere (event_parts labels as')
  events_placed no_named labels = nothing
  events_placed (more_named at ns ss as') labels = joined (joined (none_mentioned (flat_map (used needs.Location) ns)) (blocked (within_body (each_placed ss labels)))) (events_placed as' labels)

  receives_placed : (as' : ReceiveNodes) (labels : List Name) → PlacedAt anywhere (receive_parts labels as')
  receives_placed no_receives labels = nothing
  receives_placed (more_receives at n r ss as') labels = joined (joined (none_mentioned (used needs.Message n)) (blocked (joined (received_placed r) (within_body (each_placed ss labels))))) (receives_placed as' labels)

  otherwise_placed : (o : OtherwiseNode) (labels : List Name) → PlacedAt anywhere (otherwise_parts labels o)
  otherwise_placed no_otherwise labels = nothing
  otherwise_placed (otherwise ss) labels = each_placed ss labels

  handler_placed : (h : HandlerNode) (labels : List Name) → PlacedAt anywhere (handler_parts labels h)
  handler_placed no_handler labels = nothing
  handler_placed (handler at as' o) labels = blocked (within_body (joined (exceptions_placed as' labels) (otherwise_placed o labels)))

  exceptions_placed : (as' : NamedNodes) (labels : List Name) → PlacedAt anywhere (exception_parts labels as')
  exceptions_placed no_named labels = nothing
  exceptions_placed (more_named at ns ss as') labels = joined (each_placed ss labels) (exceptions_placed as' labels)

  body_placed : (ps : BodyNodes) (labels : List Name) → PlacedAt anywhere (body_parts labels ps)
  body_placed no_parts labels = nothing
  body_placed (more_locals l ps) labels = joined (local_placed l) (body_placed ps labels)
  body_placed (more_actions s ps) labels = joined (statement_placed s labels) (body_placed ps labels)

-- ---- items

seized_placed : (passed : Passed) → PlacedAt in_modulion (seized passed)
seized_placed (Names ns) = record { by = λ i from ok. each i ns from }
  where
    each : (i : Inside) (ns : List Name) (from : ℕ) → AllFit (definitions_in i from (part_nodes (map (λ n. seize (identifier n)) ns)))
    each i [] from = tt
    each i (n ∷ ns) from = each i ns (from + 0)
seized_placed (All at) = one_part (λ i from ok. tt)

granted_placed : (passed : Passed) → PlacedAt in_modulion (granted passed)
granted_placed (Names ns) = record { by = λ i from ok. each i ns from }
  where
    each : (i : Inside) (ns : List Name) (from : ℕ) → AllFit (definitions_in i from (part_nodes (map (λ n. grant (identifier n)) ns)))
    each i [] from = tt
    each i (n ∷ ns) from = each i ns (from + 0)
granted_placed (All at) = one_part (λ i from ok. tt)

receiver_placed : (n : Option Name) → PlacedAt in_modulion (receiver_parts n)
receiver_placed None = nothing
receiver_placed (Some n) = none_mentioned (used needs.Process n)

signals_placed : (ss : List SignalTree) → PlacedAt in_modulion (flat_map signal_parts ss)
signals_placed [] = nothing
signals_placed (s ∷ ss) = joined (joined (clause_placed (clause kinds.Signal (s.name ∷ []) (mentions_of_parts s.parts)) direct_in) (receiver_placed s.process)) (signals_placed ss)

params_kind : (ps : List ParamTree) → Each (λ (c : Clause). c.kind ≡ kinds.Parameter) (map param_clause ps)
params_kind [] = tt
params_kind (p ∷ ps) = (refl, params_kind ps)

formals_kind : (ps : List FormalTree) → Each (λ (c : Clause). c.kind ≡ kinds.Parameter) (map formal_clause ps)
formals_kind [] = tt
formals_kind (p ∷ ps) = (refl, formals_kind ps)

whole_placed : (ps : List BodyTree) (h : Option HandlerTree) → PlacedAt in_body (whole_body ps h)
whole_placed ps h = within_body (joined (body_placed (body_nodes ps) []) (handler_placed (handler_node h) []))

-- a routine: its own name, its head, and its body
routine_placed : (n : Identifier) (kind : Kind) (params : List Clause) (result : List Mention) (ps : List PartTree) → fits_kind kind true ≡ true → Each (λ (c : Clause). c.kind ≡ kinds.Parameter) params → PlacedAt in_body ps
    → PlacedAt in_modulion (routine n kind params result (sizes_of (part_nodes ps)) (part_nodes ps) ∷ [])
routine_placed n kind params result ps fit all inner = one_part (λ i from ok. (
  ap (fits_kind kind) (direct_in i ok) ∙ fit,
  both (params_defined i (Body from) params ++ elements_defined i (elements_in result)) (definitions_in (Body from) (from + head_size params result) (part_nodes ps))
      (both (params_defined i (Body from) params) (elements_defined i (elements_in result)) (params_fit i from params all) (elements_fit i (elements_in result)))
      (inner.by (Body from) (from + head_size params result) refl),
))

mutual
  item_placed : (i : ItemTree) → PlacedAt in_modulion (item_parts i)
  item_placed (seize_item at passed) = seized_placed passed
  item_placed (grant_item at passed) = granted_placed passed
  item_placed (local_item l) = within_modulion (local_placed l)
  item_placed (signals at ss) = signals_placed ss
  item_placed (procedure p) = routine_placed (identifier p.name) kinds.Procedure (map param_clause p.params) (mentions_of_some_mode p.returns) (whole_body p.body p.handler) refl (params_kind p.params) (whole_placed p.body p.handler)
  item_placed (process p) = routine_placed (identifier p.name) kinds.Process (map formal_clause p.formals) [] (whole_body p.body p.handler) refl (formals_kind p.formals) (whole_placed p.body p.handler)
  item_placed (modulion_of n kind items h closing) =
      let inner = joined (items_placed items) (within_modulion (handler_placed (handler_node h) [])) in
      one_part (λ i from ok. (direct_in i ok, inner.by (Modulion from) (suc from) refl))
  item_placed (action s) = within_modulion (statement_placed s [])

  items_placed : (is : ItemNodes) → PlacedAt in_modulion (each_item is)
  items_placed no_items = nothing
  items_placed (more_items i is) = joined (item_placed i) (items_placed is)

-- modulions stand at the outermost level
abbrev at_top : Inside → Bool
at_top Outermost = true
at_top _ = false

direct_top : (i : Inside) → at_top i ≡ true → is_direct i ≡ true
direct_top Outermost ok = refl
direct_top (Modulion d) ok = absurd (true≢false (sym ok))
direct_top (Body d) ok = absurd (true≢false (sym ok))
direct_top (Block d) ok = absurd (true≢false (sym ok))

modulion_placed : (m : ModulionTree) → PlacedAt at_top (item_parts (modulion_item m))
modulion_placed m =
    let inner = joined (items_placed (item_nodes m.items)) (within_modulion (handler_placed (handler_node m.handler) [])) in
    one_part (λ i from ok. (direct_top i ok, inner.by (Modulion from) (suc from) refl))

modulions_placed : (ms : List ModulionTree) → PlacedAt at_top (flat_map (λ m. item_parts (modulion_item m)) ms)
modulions_placed [] = nothing
modulions_placed (m ∷ ms) = joined (modulion_placed m) (modulions_placed ms)

pub text_placed : (t : ProgramTree) → Each FitsPlace (text_definitions (level_of t))
text_placed t = let all = modulions_placed t.modulions in all.by Outermost 0 refl
