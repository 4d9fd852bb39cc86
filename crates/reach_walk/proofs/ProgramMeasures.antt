-- The parts of a program have the numbers of the definitions in them.
use Rattle.std.proofs.Common.{List, [], ◌∷◌, ◌++◌, Bool, true, false, refl, if◌then◌else◌}
use Rattle.std.specs.Prelude.{Option, Some, None, map, flat_map}
use Rattle.chill_tree.specs.declared.tree.name.Name.{Name}
use Rattle.chill_tree.specs.declared.tree.item.Passed.{Passed}
use Rattle.chill_tree.specs.declared.tree.item.Passed.TheVariants.{Names, All}
use Rattle.chill_tree.specs.LocalTree.{InitialTree, DeclarationTree, LocalTree, synonyms, syn_modes, new_modes, locations}
use Rattle.chill_tree.specs.SimpleTree.{SimpleTree, assign, update, call_of, exit, return_with, result_of, assert_that, cause, stop, start_of, delay, continue_event, send, ControlTree, while_holds, for_ever, for_members, for_steps}
use Rattle.chill_tree.specs.StatementTree.{StatementTree, BracketedTree, StatementNodes, ElsIfNodes, CaseNodes, NamedNodes, ReceiveNodes, OtherwiseNode, HandlerNode, HandlerTree, BodyNodes, BodyTree, empty, simple, bracketed, if_then, case_of, do_loop, begin_end, delay_case, receive_case, no_statements, more_statements, no_branches, more_branches, no_cases, more_cases, no_named, more_named, no_receives, more_receives, no_otherwise, otherwise, no_handler, handler, no_parts, more_locals, more_actions, handler_node, body_nodes}
use Rattle.chill_tree.specs.ItemTree.{ProgramTree, ItemTree, ItemNodes, local_item, signals, procedure, process, action, no_items, more_items, modulion_item}
use Rattle.chill_tree.specs.ItemTree.{seize as seize_item, grant as grant_item, modulion as modulion_of}
use Rattle.names_model.specs.declared.kind.Need.TheVariants as needs
use Rattle.names_model.specs.declared.part.Mention.{Mention}
use Rattle.names_model.specs.Parts.{PartTree, mention, part_nodes}
use Rattle.names_model.specs.Sizes.{block_of}
use Rattle.names_model.specs.ExprMentions.{used, mentions_of, mentions_of_some, mentions_of_args, mentions_of_ranges}
use Rattle.names_model.specs.StatementParts.{mentioned, mode_part, synonym_part, initial_parts, declaration_parts, local_parts, encloses, simple_parts, mentions_of_some_args, control_parts, turn_parts, labelled, received_parts, statement_parts, bracketed_parts, action_parts, branch_parts, case_parts, event_parts, receive_parts, otherwise_parts, handler_parts, exception_parts, body_parts}
use Rattle.names_model.specs.ItemParts.{seized, granted, receiver_parts, signal_parts, item_parts, each_item, program_parts, whole_body}
use Rattle.reach_walk.specs.Measures.{Measured, AllMeasured}

-- a list of parts is measured
abbrev pub Are : List PartTree → Type 0
Are ps = AllMeasured (part_nodes ps)

both : (ps qs : List PartTree) → Are ps → Are qs → Are (ps ++ qs)
both [] qs h k = k
both (p ∷ ps) qs h k = (h.0, both ps qs h.1 k)

each : {X : Type 0} (f : X → List PartTree) → ((x : X) → Are (f x)) → (xs : List X) → Are (flat_map f xs)
each f h [] = tt
each f h (x ∷ xs) = both (f x) (flat_map f xs) (h x) (each f h xs)

ones : {X : Type 0} (f : X → PartTree) → ((x : X) → Measured (f x)) → (xs : List X) → Are (map f xs)
ones f h [] = tt
ones f h (x ∷ xs) = (h x, ones f h xs)

in_block : (ps : List PartTree) → Are ps → Are (block_of ps ∷ [])
in_block ps h = ((refl, h), tt)

mentions : (ms : List Mention) → Are (mentioned ms)
mentions ms = ones mention (λ m. tt) ms

-- ---- definition statements and actions that hold no other

initial : (i : Option InitialTree) → Are (initial_parts i)
initial None = tt
initial (Some i) = mentions (mentions_of i.value)

declaration : (d : DeclarationTree) → Are (declaration_parts d)
declaration d = (tt, initial d.initial)

locals : (l : LocalTree) → Are (local_parts l)
locals (synonyms at ss) = ones synonym_part (λ s. tt) ss
locals (syn_modes at ds) = ones mode_part (λ d. tt) ds
locals (new_modes at ds) = ones mode_part (λ d. tt) ds
locals (locations at ds) = each declaration_parts declaration ds

chosen : (b : Bool) (p : PartTree) → Measured p → Are (if b then [] else p ∷ [])
chosen true p h = tt
chosen false p h = (h, tt)

simples : (labels : List Name) (a : SimpleTree) → Are (simple_parts labels a)
simples labels (assign at t v) = mentions (mentions_of t ++ mentions_of v)
simples labels (update at t o p v) = mentions (mentions_of t ++ mentions_of v)
simples labels (call_of at word n es) = mentions (used needs.Action n ++ mentions_of_args (Some n) es)
simples labels (exit at n) = chosen (encloses labels n) _ tt
simples labels (return_with at v) = mentions (mentions_of_some v)
simples labels (result_of at v) = mentions (mentions_of v)
simples labels (assert_that at c) = mentions (mentions_of c)
simples labels (cause at n) = tt
simples labels (stop at) = tt
simples labels (start_of at n es) = mentions (used needs.Process n ++ mentions_of_args None es)
simples labels (delay at n p) = mentions (used needs.Location n ++ mentions_of_some p)
simples labels (continue_event at n) = mentions (used needs.Location n)
simples labels (send at n es to p) = mentions (used needs.Message n ++ mentions_of_some_args es ++ mentions_of_some to ++ mentions_of_some p)

controls : (c : ControlTree) → Are (control_parts c)
controls (while_holds at c) = tt
controls (for_ever at) = tt
controls (for_members at n s c) = mentions (mentions_of s)
controls (for_steps at n s b down e c) = mentions (mentions_of s ++ mentions_of_some b ++ mentions_of e)

turns : (c : ControlTree) → Are (turn_parts c)
turns (while_holds at c) = mentions (mentions_of c)
turns (for_ever at) = tt
turns (for_members at n s c) = (tt, mentions (mentions_of_some c))
turns (for_steps at n s b down e c) = (tt, mentions (mentions_of_some c))

received : (names : Option (List Name)) → Are (received_parts names)
received None = tt
received (Some names) = (tt, tt)

-- ---- actions

mutual
  statements : (labels : List Name) (s : StatementTree) → Are (statement_parts labels s)
  statements labels (empty at) = tt
  statements labels (simple at a h) = both (simple_parts labels a) (handler_parts labels h) (simples labels a) (handlers labels h)
  statements labels (bracketed at l a h closing) = both (bracketed_parts (labelled l labels) a) (handler_parts (labelled l labels) h) (brackets (labelled l labels) a) (handlers (labelled l labels) h)

  brackets : (labels : List Name) (a : BracketedTree) → Are (bracketed_parts labels a)
  brackets labels (if_then at c ss bs o) = both (mentioned (mentions_of c) ++ action_parts labels ss ++ branch_parts labels bs) (otherwise_parts labels o)
      (both (mentioned (mentions_of c) ++ action_parts labels ss) (branch_parts labels bs) (both (mentioned (mentions_of c)) (action_parts labels ss) (mentions (mentions_of c)) (actions labels ss)) (branches labels bs)) (otherwises labels o)
  brackets labels (case_of at e as' o) = both (mentioned (mentions_of e) ++ case_parts labels as') (otherwise_parts labels o) (both (mentioned (mentions_of e)) (case_parts labels as') (mentions (mentions_of e)) (cases labels as')) (otherwises labels o)
  brackets labels (do_loop at c ss) = both (control_parts c) (block_of (turn_parts c ++ action_parts labels ss) ∷ []) (controls c) (in_block (turn_parts c ++ action_parts labels ss) (both (turn_parts c) (action_parts labels ss) (turns c) (actions labels ss)))
  brackets labels (begin_end at ps) = in_block (body_parts labels ps) (bodies labels ps)
  brackets labels (delay_case at set p as') = both (mentioned (mentions_of_some set ++ mentions_of_some p)) (event_parts labels as') (mentions (mentions_of_some set ++ mentions_of_some p)) (events labels as')
  brackets labels (receive_case at set as' o) = both (mentioned (mentions_of_some set) ++ receive_parts labels as') (otherwise_parts labels o) (both (mentioned (mentions_of_some set)) (receive_parts labels as') (mentions (mentions_of_some set)) (receives labels as')) (otherwises labels o)

  actions : (labels : List Name) (ss : StatementNodes) → Are (action_parts labels ss)
  actions labels no_statements = tt
  actions labels (more_statements s ss) = both (statement_parts labels s) (action_parts labels ss) (statements labels s) (actions labels ss)

  branches : (labels : List Name) (bs : ElsIfNodes) → Are (branch_parts labels bs)
  branches labels no_branches = tt
  branches labels (more_branches at c ss bs) = both (mentioned (mentions_of c) ++ action_parts labels ss) (branch_parts labels bs) (both (mentioned (mentions_of c)) (action_parts labels ss) (mentions (mentions_of c)) (actions labels ss)) (branches labels bs)

  cases : (labels : List Name) (as' : CaseNodes) → Are (case_parts labels as')
  cases labels no_cases = tt
  cases labels (more_cases at ls ss as') = both (mentioned (mentions_of_ranges ls) ++ action_parts labels ss) (case_parts labels as') (both (mentioned (mentions_of_ranges ls)) (action_parts labels ss) (mentions (mentions_of_ranges ls)) (actions labels ss)) (cases labels as')

  events : (labels : List Name) (as' : NamedNodes) → Are (event_parts labels as')
  events labels no_named = tt
  events labels (more_named at ns ss as') = both (mentioned (flat_map (used needs.Location) ns) ++ block_of (action_parts labels ss) ∷ []) (event_parts labels as')
      (both (mentioned (flat_map (used needs.Location) ns)) (block_of (action_parts labels ss) ∷ []) (mentions (flat_map (used needs.Location) ns)) (in_block (action_parts labels ss) (actions labels ss))) (events labels as')

  receives : (labels : List Name) (as' : ReceiveNodes) → Are (receive_parts labels as')
  receives labels no_receives = tt
  receives labels (more_receives at n r ss as') = both (mentioned (used needs.Message n) ++ block_of (received_parts r ++ action_parts labels ss) ∷ []) (receive_parts labels as')
      (both (mentioned (used needs.Message n)) (block_of (received_parts r ++ action_parts labels ss) ∷ []) (mentions (used needs.Message n)) (in_block (received_parts r ++ action_parts labels ss) (both (received_parts r) (action_parts labels ss) (received r) (actions labels ss)))) (receives labels as')

  otherwises : (labels : List Name) (o : OtherwiseNode) → Are (otherwise_parts labels o)
  otherwises labels no_otherwise = tt
  otherwises labels (otherwise ss) = actions labels ss

  handlers : (labels : List Name) (h : HandlerNode) → Are (handler_parts labels h)
  handlers labels no_handler = tt
  handlers labels (handler at as' o) = in_block (exception_parts labels as' ++ otherwise_parts labels o) (both (exception_parts labels as') (otherwise_parts labels o) (exceptions labels as') (otherwises labels o))

  exceptions : (labels : List Name) (as' : NamedNodes) → Are (exception_parts labels as')
  exceptions labels no_named = tt
  exceptions labels (more_named at ns ss as') = both (action_parts labels ss) (exception_parts labels as') (actions labels ss) (exceptions labels as')

  bodies : (labels : List Name) (ps : BodyNodes) → Are (body_parts labels ps)
  bodies labels no_parts = tt
  bodies labels (more_locals l ps) = both (local_parts l) (body_parts labels ps) (locals l) (bodies labels ps)
  bodies labels (more_actions s ps) = both (statement_parts labels s) (body_parts labels ps) (statements labels s) (bodies labels ps)

-- ---- modulions

passed : (p : Passed) → Are (seized p)
passed (Names ns) = ones _ (λ n. tt) ns
passed (All at) = (tt, tt)

passed_on : (p : Passed) → Are (granted p)
passed_on (Names ns) = ones _ (λ n. tt) ns
passed_on (All at) = (tt, tt)

receivers : (n : Option Name) → Are (receiver_parts n)
receivers None = tt
receivers (Some n) = mentions (used needs.Process n)

whole : (ps : List BodyTree) (h : Option HandlerTree) → Are (whole_body ps h)
whole ps h = both (body_parts [] (body_nodes ps)) (handler_parts [] (handler_node h)) (bodies [] (body_nodes ps)) (handlers [] (handler_node h))

mutual
  items : (i : ItemTree) → Are (item_parts i)
  items (seize_item at p) = passed p
  items (grant_item at p) = passed_on p
  items (local_item l) = locals l
  items (signals at ss) = each signal_parts (λ s. (tt, receivers s.process)) ss
  items (procedure p) = ((refl, whole p.body p.handler), tt)
  items (process p) = ((refl, whole p.body p.handler), tt)
  items (modulion_of n kind is h closing) = ((refl, both (each_item is) (handler_parts [] (handler_node h)) (item_lists is) (handlers [] (handler_node h))), tt)
  items (action s) = statements [] s

  item_lists : (is : ItemNodes) → Are (each_item is)
  item_lists no_items = tt
  item_lists (more_items i is) = both (item_parts i) (each_item is) (items i) (item_lists is)

pub program-measured : (t : ProgramTree) → Are (program_parts t)
program-measured t = each (λ m. item_parts (modulion_item m)) (λ m. items (modulion_item m)) t.modulions
