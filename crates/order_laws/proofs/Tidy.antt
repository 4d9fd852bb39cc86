-- In the parts of a text a counter is the first part of its loop's block, and no other part defines one.
use Rattle.std.proofs.Common.{◌≡◌, List, [], ◌∷◌, ◌++◌, Option, Some, None, refl}
use Rattle.std.specs.Prelude.{map, flat_map}
use Rattle.chill_tree.specs.declared.tree.name.Name.{Name}
use Rattle.chill_tree.specs.ExprTree.{ExprTree}
use Rattle.chill_tree.specs.LocalTree.{LocalTree, synonyms, syn_modes, new_modes, locations}
use Rattle.chill_tree.specs.SimpleTree.{ControlTree, while_holds, for_ever, for_members, for_steps}
use Rattle.chill_tree.specs.StatementTree.{StatementTree, BracketedTree, StatementNodes, ElsIfNodes, CaseNodes, NamedNodes, ReceiveNodes, OtherwiseNode, HandlerNode, BodyNodes, empty, simple, bracketed, if_then, case_of, do_loop, begin_end, delay_case, receive_case, no_statements, more_statements, no_branches, more_branches, no_cases, more_cases, no_named, more_named, no_receives, more_receives, no_otherwise, otherwise, no_handler, handler, no_parts, more_locals, more_actions, handler_node, body_nodes}
use Rattle.chill_tree.specs.ItemTree.{SignalTree, ParamTree, ProcedureTree, FormalTree, ProcessTree, ItemTree, ItemNodes, local_item, signals, procedure, process, action, no_items, more_items, modulion_item, ProgramTree}
use Rattle.chill_tree.specs.ItemTree.{seize as seize_item, grant as grant_item, modulion as modulion_of}
use Rattle.names_model.specs.declared.kind.Need.TheVariants as needs
use Rattle.names_model.specs.declared.part.Mention.{Mention}
use Rattle.names_model.specs.Parts.{PartTree, part_nodes}
use Rattle.names_model.specs.Sizes.{block_of}
use Rattle.names_model.specs.ExprMentions.{used, mentions_of, mentions_of_some, mentions_of_ranges}
use Rattle.names_model.specs.StatementParts.{mentioned, synonym_part, mode_part, declaration_parts, local_parts, simple_parts, control_parts, counter_part, turn_parts, labelled, received_parts, statement_parts, bracketed_parts, action_parts, branch_parts, case_parts, event_parts, receive_parts, otherwise_parts, handler_parts, exception_parts, body_parts}
use Rattle.names_model.specs.ItemParts.{seized, granted, signal_parts, param_clause, formal_clause, whole_body, item_parts, each_item, program_parts}
use Rattle.names_model.specs.Parts.{mention, seize, seize_all, grant, grant_all, stray, define, modulion, routine, block}
use Rattle.written_laws.proofs.Rows.{DefineNothing, mentions_define, simple_defines, control_defines, initial_defines, receiver_defines, seized_define, granted_define}
use Rattle.order_laws.proofs.Before.{IsOpen, AreOpen, AreLed, AreParams, IsTidy, AreTidy}

pub record Neat (ps : List PartTree) : Type 0 where
  pub plain : AreOpen (part_nodes ps)
  pub tidy : AreTidy (part_nodes ps)

none_neat : Neat []
none_neat = record { plain = tt; tidy = tt }

more_neat : (p : PartTree) (ps : List PartTree) → IsOpen p → IsTidy p → Neat ps → Neat (p ∷ ps)
more_neat p ps own mine rest = record { plain = (own, rest.plain); tidy = (mine, rest.tidy) }

both_neat : (ps qs : List PartTree) → Neat ps → Neat qs → Neat (ps ++ qs)
both_neat [] qs one other = other
both_neat (p ∷ ps) qs one other = more_neat p (ps ++ qs) one.plain.0 one.tidy.0 (both_neat ps qs (record { plain = one.plain.1; tidy = one.tidy.1 }) other)

nothing_neat : (ps : List PartTree) → DefineNothing ps → Neat ps
nothing_neat [] none = none_neat
nothing_neat (mention m ∷ ps) none = more_neat (mention m) ps tt tt (nothing_neat ps none.1)
nothing_neat (seize n ∷ ps) none = more_neat (seize n) ps tt tt (nothing_neat ps none.1)
nothing_neat (seize_all at ∷ ps) none = more_neat (seize_all at) ps tt tt (nothing_neat ps none.1)
nothing_neat (grant n ∷ ps) none = more_neat (grant n) ps tt tt (nothing_neat ps none.1)
nothing_neat (grant_all at ∷ ps) none = more_neat (grant_all at) ps tt tt (nothing_neat ps none.1)
nothing_neat (stray n ∷ ps) none = more_neat (stray n) ps tt tt (nothing_neat ps none.1)
nothing_neat (define c ∷ ps) none = absurd none.0
nothing_neat (modulion n region size qs ∷ ps) none = absurd none.0
nothing_neat (routine n kind params result size qs ∷ ps) none = absurd none.0
nothing_neat (block size qs ∷ ps) none = absurd none.0

mentions_neat : (ms : List Mention) → Neat (mentioned ms)
mentions_neat ms = nothing_neat (mentioned ms) (mentions_define ms)

map_neat : {A : Type 0} (g : A → PartTree) (xs : List A) → ((x : A) → IsOpen (g x)) → ((x : A) → IsTidy (g x)) → Neat (map g xs)
map_neat g [] own mine = none_neat
map_neat g (x ∷ xs) own mine = more_neat (g x) (map g xs) (own x) (mine x) (map_neat g xs own mine)

flat_neat : {A : Type 0} (g : A → List PartTree) (xs : List A) → ((x : A) → Neat (g x)) → Neat (flat_map g xs)
flat_neat g [] each = none_neat
flat_neat g (x ∷ xs) each = both_neat (g x) (flat_map g xs) (each x) (flat_neat g xs each)

open_led : (ps : List PartTree) → AreOpen (part_nodes ps) → AreLed (part_nodes ps)
open_led [] plain = tt
open_led (p ∷ ps) plain = plain.1

block_neat : (ps : List PartTree) → Neat ps → Neat (block_of ps ∷ [])
block_neat ps inner = record { plain = (tt, tt); tidy = ((open_led ps inner.plain, inner.tidy), tt) }

-- a block that begins with a counter
counted_neat : (n : Name) (ps : List PartTree) → Neat ps → Neat (block_of (counter_part n ∷ ps) ∷ [])
counted_neat n ps inner = record { plain = (tt, tt); tidy = ((inner.plain, (tt, inner.tidy)), tt) }

local_neat : (l : LocalTree) → Neat (local_parts l)
local_neat (synonyms at ss) = map_neat synonym_part ss (λ s. refl) (λ s. tt)
local_neat (syn_modes at ds) = map_neat mode_part ds (λ d. refl) (λ d. tt)
local_neat (new_modes at ds) = map_neat mode_part ds (λ d. refl) (λ d. tt)
local_neat (locations at ds) = flat_neat declaration_parts ds (λ d. record { plain = (refl, (nothing_neat _ (initial_defines d.initial)).plain); tidy = (tt, (nothing_neat _ (initial_defines d.initial)).tidy) })

loop_neat : (c : ControlTree) (ps : List PartTree) → Neat ps → Neat (control_parts c ++ block_of (turn_parts c ++ ps) ∷ [])
loop_neat (while_holds at e) ps inner = block_neat (mentioned (mentions_of e) ++ ps) (both_neat (mentioned (mentions_of e)) ps (mentions_neat (mentions_of e)) inner)
loop_neat (for_ever at) ps inner = block_neat ps inner
loop_neat (for_members at n s c) ps inner =
    let cond = mentions_of_some c in
    both_neat (mentioned (mentions_of s)) (block_of (counter_part n ∷ (mentioned cond ++ ps)) ∷ []) (mentions_neat (mentions_of s)) (counted_neat n (mentioned cond ++ ps) (both_neat (mentioned cond) ps (mentions_neat cond) inner))
loop_neat (for_steps at n s b down e c) ps inner =
    let cond = mentions_of_some c in
    let ms = mentions_of s ++ mentions_of_some b ++ mentions_of e in
    both_neat (mentioned ms) (block_of (counter_part n ∷ (mentioned cond ++ ps)) ∷ []) (mentions_neat ms) (counted_neat n (mentioned cond ++ ps) (both_neat (mentioned cond) ps (mentions_neat cond) inner))

received_neat : (r : Option (List Name)) → Neat (received_parts r)
received_neat None = none_neat
received_neat (Some ns) = record { plain = (refl, tt); tidy = (tt, tt) }

mutual
  statement_neat : (s : StatementTree) (ls : List Name) → Neat (statement_parts ls s)
  statement_neat (empty at) ls = none_neat
  statement_neat (simple at a h) ls = both_neat (simple_parts ls a) (handler_parts ls h) (nothing_neat (simple_parts ls a) (simple_defines ls a)) (handler_neat h ls)
  statement_neat (bracketed at l a h closing) ls = both_neat (bracketed_parts (labelled l ls) a) (handler_parts (labelled l ls) h) (bracketed_neat a (labelled l ls)) (handler_neat h (labelled l ls))

  bracketed_neat : (a : BracketedTree) (ls : List Name) → Neat (bracketed_parts ls a)
  bracketed_neat (if_then at c ss bs o) ls =
      let head = mentioned (mentions_of c) in
      both_neat ((head ++ action_parts ls ss) ++ branch_parts ls bs) (otherwise_parts ls o)
      (both_neat (head ++ action_parts ls ss) (branch_parts ls bs) (both_neat head (action_parts ls ss) (mentions_neat (mentions_of c)) (each_neat ss ls)) (branches_neat bs ls))
      (otherwise_neat o ls)
  bracketed_neat (case_of at e as' o) ls =
      let head = mentioned (mentions_of e) in
      both_neat (head ++ case_parts ls as') (otherwise_parts ls o) (both_neat head (case_parts ls as') (mentions_neat (mentions_of e)) (cases_neat as' ls)) (otherwise_neat o ls)
  bracketed_neat (do_loop at c ss) ls = loop_neat c (action_parts ls ss) (each_neat ss ls)
  bracketed_neat (begin_end at ps) ls = block_neat (body_parts ls ps) (body_neat ps ls)
  bracketed_neat (delay_case at set p as') ls =
      let ms = mentions_of_some set ++ mentions_of_some p in both_neat (mentioned ms) (event_parts ls as') (mentions_neat ms) (events_neat as' ls)
  bracketed_neat (receive_case at set as' o) ls =
      let head = mentioned (mentions_of_some set) in
      both_neat (head ++ receive_parts ls as') (otherwise_parts ls o) (both_neat head (receive_parts ls as') (mentions_neat (mentions_of_some set)) (receives_neat as' ls)) (otherwise_neat o ls)

  each_neat : (ss : StatementNodes) (ls : List Name) → Neat (action_parts ls ss)
  each_neat no_statements ls = none_neat
  each_neat (more_statements s ss) ls = both_neat (statement_parts ls s) (action_parts ls ss) (statement_neat s ls) (each_neat ss ls)

  branches_neat : (bs : ElsIfNodes) (ls : List Name) → Neat (branch_parts ls bs)
  branches_neat no_branches ls = none_neat
  branches_neat (more_branches at c ss bs) ls =
      both_neat (mentioned (mentions_of c) ++ action_parts ls ss) (branch_parts ls bs) (both_neat (mentioned (mentions_of c)) (action_parts ls ss) (mentions_neat (mentions_of c)) (each_neat ss ls)) (branches_neat bs ls)

  cases_neat : (as' : CaseNodes) (ls : List Name) → Neat (case_parts ls as')
  cases_neat no_cases ls = none_neat
  cases_neat (more_cases at rs ss as') ls =
      both_neat (mentioned (mentions_of_ranges rs) ++ action_parts ls ss) (case_parts ls as') (both_neat (mentioned (mentions_of_ranges rs)) (action_parts ls ss) (mentions_neat (mentions_of_ranges rs)) (each_neat ss ls)) (cases_neat as' ls)

  events_neat : (as' : NamedNodes) (ls : List Name) → Neat (event_parts ls as')
  events_neat no_named ls = none_neat
  events_neat (more_named at ns ss as') ls =
      let ms = flat_map (used needs.Location) ns in
      both_neat (mentioned ms ++ block_of (action_parts ls ss) ∷ []) (event_parts ls as') (both_neat (mentioned ms) (block_of (action_parts ls ss) ∷ []) (mentions_neat ms) (block_neat (action_parts ls ss) (each_neat ss ls))) (events_neat as' ls)

  receives_neat : (as' : ReceiveNodes) (ls : List Name) → Neat (receive_parts ls as')
  receives_neat no_receives ls = none_neat
  receives_neat (more_receives at n r ss as') ls =
      let ms = used needs.Message n in
      let inner = received_parts r ++ action_parts ls ss in
      both_neat (mentioned ms ++ block_of inner ∷ []) (receive_parts ls as') (both_neat (mentioned ms) (block_of inner ∷ []) (mentions_neat ms) (block_neat inner (both_neat (received_parts r) (action_parts ls ss) (received_neat r) (each_neat ss ls)))) (receives_neat as' ls)

  otherwise_neat : (o : OtherwiseNode) (ls : List Name) → Neat (otherwise_parts ls o)
  otherwise_neat no_otherwise ls = none_neat
  otherwise_neat (otherwise ss) ls = each_neat ss ls

  handler_neat : (h : HandlerNode) (ls : List Name) → Neat (handler_parts ls h)
  handler_neat no_handler ls = none_neat
  handler_neat (handler at as' o) ls = block_neat (exception_parts ls as' ++ otherwise_parts ls o) (both_neat (exception_parts ls as') (otherwise_parts ls o) (exceptions_neat as' ls) (otherwise_neat o ls))

  exceptions_neat : (as' : NamedNodes) (ls : List Name) → Neat (exception_parts ls as')
  exceptions_neat no_named ls = none_neat
  exceptions_neat (more_named at ns ss as') ls = both_neat (action_parts ls ss) (exception_parts ls as') (each_neat ss ls) (exceptions_neat as' ls)

  body_neat : (ps : BodyNodes) (ls : List Name) → Neat (body_parts ls ps)
  body_neat no_parts ls = none_neat
  body_neat (more_locals l ps) ls = both_neat (local_parts l) (body_parts ls ps) (local_neat l) (body_neat ps ls)
  body_neat (more_actions s ps) ls = both_neat (statement_parts ls s) (body_parts ls ps) (statement_neat s ls) (body_neat ps ls)

-- ---- items

params_are : (ps : List ParamTree) → AreParams (map param_clause ps)
params_are [] = tt
params_are (p ∷ ps) = (refl, params_are ps)

formals_are : (ps : List FormalTree) → AreParams (map formal_clause ps)
formals_are [] = tt
formals_are (p ∷ ps) = (refl, formals_are ps)

signal_neat : (s : SignalTree) → Neat (signal_parts s)
signal_neat s = let rest = nothing_neat _ (receiver_defines s.process) in record { plain = (refl, rest.plain); tidy = (tt, rest.tidy) }

procedure_neat : (p : ProcedureTree) → Neat (item_parts (procedure p))
procedure_neat p =
    let inner = both_neat (body_parts [] (body_nodes p.body)) (handler_parts [] (handler_node p.handler)) (body_neat (body_nodes p.body) []) (handler_neat (handler_node p.handler) []) in
    record { plain = (tt, tt); tidy = (((refl, params_are p.params), (inner.plain, inner.tidy)), tt) }

process_neat : (p : ProcessTree) → Neat (item_parts (process p))
process_neat p =
    let inner = both_neat (body_parts [] (body_nodes p.body)) (handler_parts [] (handler_node p.handler)) (body_neat (body_nodes p.body) []) (handler_neat (handler_node p.handler) []) in
    record { plain = (tt, tt); tidy = (((refl, formals_are p.formals), (inner.plain, inner.tidy)), tt) }

mutual
  item_neat : (i : ItemTree) → Neat (item_parts i)
  item_neat (seize_item at w) = nothing_neat (seized w) (seized_define w)
  item_neat (grant_item at w) = nothing_neat (granted w) (granted_define w)
  item_neat (local_item l) = local_neat l
  item_neat (signals at ss) = flat_neat signal_parts ss signal_neat
  item_neat (procedure p) = procedure_neat p
  item_neat (process p) = process_neat p
  item_neat (modulion_of n kind items h closing) =
      let inner = both_neat (each_item items) (handler_parts [] (handler_node h)) (items_neat items) (handler_neat (handler_node h) []) in record { plain = (tt, tt); tidy = ((inner.plain, inner.tidy), tt) }
  item_neat (action s) = statement_neat s []

  items_neat : (is : ItemNodes) → Neat (each_item is)
  items_neat no_items = none_neat
  items_neat (more_items i is) = both_neat (item_parts i) (each_item is) (item_neat i) (items_neat is)

pub program_neat : (t : ProgramTree) → Neat (program_parts t)
program_neat t = flat_neat (λ m. item_parts (modulion_item m)) t.modulions (λ m. item_neat (modulion_item m))
