-- An assignment with an operator has one of those that the grammar allows.
use Rattle.std.proofs.Common.{◌≡◌, ℕ, Bool, true, false, List, [], ◌∷◌, ◌++◌, Option, Some, None, refl, sym, true≢false}
use Rattle.std.specs.Prelude.{map, flat_map}
use Rattle.chill_tree.specs.declared.tree.name.Name.{Name}
use Rattle.chill_tree.specs.declared.tree.expr.Operator.{Operator}
use Rattle.chill_tree.specs.declared.tree.expr.Operator.TheVariants as operators
use Rattle.chill_tree.specs.declared.tree.item.ModulionKind.{ModulionKind}
use Rattle.chill_tree.specs.ExprTree.{ExprTree}
use Rattle.chill_tree.specs.ModeTree as written
use Rattle.chill_tree.specs.LocalTree.{LocalTree, synonyms, syn_modes, new_modes, locations}
use Rattle.chill_tree.specs.SimpleTree.{SimpleTree}
use Rattle.chill_tree.specs.StatementTree.{StatementTree, BracketedTree, ElsIfTree, CaseTree, NamedTree, ReceiveTree, HandlerTree, BodyTree, local_part, action_part, statement_nodes, branch_nodes, case_nodes, named_nodes, receive_nodes, otherwise_node, handler_node, body_nodes}
use Rattle.chill_tree.specs.ItemTree.{SignalTree, ParamTree, FormalTree, ProcedureTree, ProcessTree, ItemTree, ItemNodes, item_nodes, ModulionTree, modulion_item, ProgramTree}
use Rattle.rules_model.specs.Marks.{Toks, may_update}
use Rattle.rules_model.specs.SimpleGrammar.{IsSimple, is_update}
use Rattle.rules_model.specs.StatementGrammar.{IsStatement, is_empty, is_simple, is_bracketed, AreStatements, no_statements, then_statement, IsBracketed, is_if, is_case, is_do, is_begin, is_delay_case, is_receive_case, AreBranches, no_branches, then_branch, AreCases, no_cases, then_case, AreNamed, no_named, then_named, AreReceives, no_receives, then_receive, IsOtherwise, no_else, with_else, IsHandler, no_handler, with_handler, AreBody, no_parts, then_local, then_action}
use Rattle.rules_model.specs.ItemGrammar.{IsBlock, is_block, IsProcedure, is_procedure, IsProcess, is_process, IsItem, is_seize, is_grant, is_local_item, are_signals, is_procedure_item, is_process_item, is_modulion_item, is_action, AreItems, no_items, then_item, IsModulion, is_modulion, AreModulions, no_modulions, then_modulion, IsTreeOf, is_tree}
use Rattle.rules_model.specs.Diagnoses.{HasTree}
use Rattle.checks_model.specs.Sites.{Site, Around, in_procedure, in_no_procedure, at_item, at_synonym, at_mode_definition, at_declaration, at_mode, at_simple, at_set, at_priority, at_body, some_site, events_listed, sites_of_local, sites_of, sites_of_bracketed, sites_of_each, sites_of_branches, sites_of_cases, sites_of_events, sites_of_receives, sites_of_otherwise, sites_of_handler, sites_of_exceptions, sites_of_parts, locals_of_body, sites_of_modes, sites_of_result, sites_of_body, sites_of_item, sites_of_items, items_of}
use Rattle.written_laws.specs.Written.{Each}
use Rattle.written_laws.proofs.Shown.{each_append, each_snoc}
use Rattle.action_laws.specs.Actions.{is_updating}
use Rattle.typed_program_laws.proofs.Nodes.{UpdateSo}

may_is : (o : Operator) → may_update o ≡ true → is_updating o ≡ true
may_is operators.Or may = refl
may_is operators.Xor may = refl
may_is operators.And may = refl
may_is operators.Plus may = refl
may_is operators.Minus may = refl
may_is operators.Times may = refl
may_is operators.Divide may = refl
may_is operators.Mod may = refl
may_is operators.Rem may = refl
may_is o may = absurd (true≢false (sym may))

abbrev Ups : List Site → Type 0
Ups ns = Each UpdateSo ns

both : (xs ys : List Site) → Ups xs → Ups ys → Ups (xs ++ ys)
both xs ys one other = each_append UpdateSo xs ys one other

mapped : {A : Type 0} (f : A → Site) → ((x : A) → UpdateSo (f x)) → (xs : List A) → Ups (map f xs)
mapped f so [] = tt
mapped f so (x ∷ xs) = (so x, mapped f so xs)

some_ok : (f : ExprTree → Site) → ((e : ExprTree) → UpdateSo (f e)) → (e : Option ExprTree) → Ups (some_site f e)
some_ok f so None = tt
some_ok f so (Some e) = (so e, tt)

events_ok : (earlier ns : List Name) → Ups (events_listed earlier ns)
events_ok earlier [] = tt
events_ok earlier (n ∷ ns) = (tt, events_ok (earlier ++ n ∷ []) ns)

local_ok : (shared : Bool) (l : LocalTree) → Ups (sites_of_local shared l)
local_ok shared (synonyms at ss) = mapped at_synonym (λ x. tt) ss
local_ok shared (syn_modes at ds) = mapped at_mode_definition (λ x. tt) ds
local_ok shared (new_modes at ds) = mapped at_mode_definition (λ x. tt) ds
local_ok shared (locations at ds) = mapped (at_declaration shared) (λ x. tt) ds

-- ---- lists of trees

abbrev Statement : StatementTree → Type 0
Statement s = (a : Around) → Ups (sites_of a s)

abbrev Actions : List StatementTree → Type 0
Actions ss = (a : Around) → Ups (sites_of_each a (statement_nodes ss))

abbrev Branch : ElsIfTree → Type 0
Branch b = Actions b.actions

abbrev Case : CaseTree → Type 0
Case b = Actions b.actions

abbrev Named : NamedTree → Type 0
Named b = Actions b.actions

abbrev Receive : ReceiveTree → Type 0
Receive b = Actions b.actions

abbrev Part : BodyTree → Type 0
Part (local_part l) = Unit {0}
Part (action_part s) = Statement s

each_nodes : (ss : List StatementTree) → Each Statement ss → Actions ss
each_nodes [] all a = tt
each_nodes (s ∷ ss) all a = both (sites_of a s) (sites_of_each a (statement_nodes ss)) (all.0 a) (each_nodes ss all.1 a)

branches_nodes : (bs : List ElsIfTree) → Each Branch bs → (a : Around) → Ups (sites_of_branches a (branch_nodes bs))
branches_nodes [] all a = tt
branches_nodes (b ∷ bs) all a = (tt, both (sites_of_each a (statement_nodes b.actions)) (sites_of_branches a (branch_nodes bs)) (all.0 a) (branches_nodes bs all.1 a))

cases_nodes : (bs : List CaseTree) → Each Case bs → (a : Around) (e : ExprTree) → Ups (sites_of_cases a e (case_nodes bs))
cases_nodes [] all a e = tt
cases_nodes (b ∷ bs) all a e = (tt, both (sites_of_each a (statement_nodes b.actions)) (sites_of_cases a e (case_nodes bs)) (all.0 a) (cases_nodes bs all.1 a e))

delays_nodes : (bs : List NamedTree) → Each Named bs → (a : Around) (earlier : List Name) → Ups (sites_of_events a earlier (named_nodes bs))
delays_nodes [] all a earlier = tt
delays_nodes (b ∷ bs) all a earlier =
    let one = events_listed earlier b.names in
    let two = sites_of_each a (statement_nodes b.actions) in
    both (one ++ two) (sites_of_events a (earlier ++ b.names) (named_nodes bs)) (both one two (events_ok earlier b.names) (all.0 a)) (delays_nodes bs all.1 a (earlier ++ b.names))

receives_nodes : (bs : List ReceiveTree) → Each Receive bs → (a : Around) (earlier : List Name) → Ups (sites_of_receives a earlier (receive_nodes bs))
receives_nodes [] all a earlier = tt
receives_nodes (b ∷ bs) all a earlier = (tt, (tt, both (sites_of_each a (statement_nodes b.actions)) (sites_of_receives a (earlier ++ b.source ∷ []) (receive_nodes bs)) (all.0 a) (receives_nodes bs all.1 a (earlier ++ b.source ∷ []))))

exceptions_nodes : (bs : List NamedTree) → Each Named bs → (a : Around) (earlier : List Name) → Ups (sites_of_exceptions a earlier (named_nodes bs))
exceptions_nodes [] all a earlier = tt
exceptions_nodes (b ∷ bs) all a earlier = (tt, both (sites_of_each a (statement_nodes b.actions)) (sites_of_exceptions a (earlier ++ b.names) (named_nodes bs)) (all.0 a) (exceptions_nodes bs all.1 a (earlier ++ b.names)))

parts_nodes : (ps : List BodyTree) → Each Part ps → (a : Around) → Ups (sites_of_parts a (body_nodes ps))
parts_nodes [] all a = tt
parts_nodes (local_part l ∷ ps) all a = both (sites_of_local false l) (sites_of_parts a (body_nodes ps)) (local_ok false l) (parts_nodes ps all.1 a)
parts_nodes (action_part s ∷ ps) all a = both (sites_of a s) (sites_of_parts a (body_nodes ps)) (all.0 a) (parts_nodes ps all.1 a)

simple_ok : {x : SimpleTree} {toks rest : Toks} → IsSimple x toks rest → (a : Around) → UpdateSo (at_simple a x)
simple_ok (is_update {o = o} l is may d) a = may_is o may
simple_ok d a = tt

mutual
  statement_ok : {s : StatementTree} {toks rest : Toks} → IsStatement s toks rest → Statement s
  statement_ok is_empty a = tt
  statement_ok (is_simple {h = h} x d) a = (simple_ok x a, handler_ok d a)
  statement_ok (is_bracketed {b = b} {h = h} l x d c) a = both (sites_of_bracketed a b) (sites_of_handler a (handler_node h)) (bracketed_ok x a) (handler_ok d a)

  statements_ok : {ss : List StatementTree} {toks rest : Toks} → AreStatements ss toks rest → Each Statement ss
  statements_ok no_statements = tt
  statements_ok (then_statement {ss = ss} {s = s} l d) = each_snoc Statement ss s (statements_ok l) (statement_ok d)

  actions_ok : {ss : List StatementTree} {toks rest : Toks} → AreStatements ss toks rest → Actions ss
  actions_ok no_statements = each_nodes [] tt
  actions_ok (then_statement {ss = ss} {s = s} l d) = each_nodes (ss ++ s ∷ []) (each_snoc Statement ss s (statements_ok l) (statement_ok d))

  bracketed_ok : {b : BracketedTree} {toks rest : Toks} → IsBracketed b toks rest → (a : Around) → Ups (sites_of_bracketed a b)
  bracketed_ok (is_if {ss = ss} {bs = bs} {o = o} e d b f) a =
      let one = sites_of_each a (statement_nodes ss) in
      let two = sites_of_branches a (branch_nodes bs) in
      (tt, both (one ++ two) (sites_of_otherwise a (otherwise_node o)) (both one two (actions_ok d a) (branches_nodes bs (branches_ok b) a)) (else_ok f a))
  bracketed_ok (is_case {e = e} {cs = cs} {o = o} d b some f) a = (tt, both (sites_of_cases a e (case_nodes cs)) (sites_of_otherwise a (otherwise_node o)) (cases_nodes cs (cases_ok b) a e) (else_ok f a))
  bracketed_ok (is_do c d) a = (tt, actions_ok d a)
  bracketed_ok (is_begin d) a = body_ok d a
  bracketed_ok (is_delay_case {l = l} {c = c} {ns = ns} k d some) a =
      let one = some_site at_set l in
      let two = some_site at_priority c in
      both (one ++ two) (sites_of_events a [] (named_nodes ns)) (both one two (some_ok at_set (λ e. tt) l) (some_ok at_priority (λ e. tt) c)) (delays_nodes ns (named_ok d) a [])
  bracketed_ok (is_receive_case {l = l} {rs = rs} {o = o} k d some f) a =
      let one = some_site at_set l in
      let two = sites_of_receives a [] (receive_nodes rs) in
      both (one ++ two) (sites_of_otherwise a (otherwise_node o)) (both one two (some_ok at_set (λ e. tt) l) (receives_nodes rs (receives_ok d) a [])) (else_ok f a)

  branches_ok : {bs : List ElsIfTree} {toks rest : Toks} → AreBranches bs toks rest → Each Branch bs
  branches_ok no_branches = tt
  branches_ok (then_branch {bs = bs} {e = e} {ss = ss} {at = at} l d f) = each_snoc Branch bs (record { at = at; condition = e; actions = ss }) (branches_ok l) (actions_ok f)

  cases_ok : {cs : List CaseTree} {toks rest : Toks} → AreCases cs toks rest → Each Case cs
  cases_ok no_cases = tt
  cases_ok (then_case {cs = cs} {ls = ls} {ss = ss} {at = at} l d f) = each_snoc Case cs (record { at = at; labels = ls; actions = ss }) (cases_ok l) (actions_ok f)

  named_ok : {ns : List NamedTree} {toks rest : Toks} → AreNamed ns toks rest → Each Named ns
  named_ok no_named = tt
  named_ok (then_named {cs = cs} {ns = ns} {ss = ss} {at = at} l d f) = each_snoc Named cs (record { at = at; names = ns; actions = ss }) (named_ok l) (actions_ok f)

  receives_ok : {rs : List ReceiveTree} {toks rest : Toks} → AreReceives rs toks rest → Each Receive rs
  receives_ok no_receives = tt
  receives_ok (then_receive {cs = cs} {n = n} {ns = ns} {ss = ss} {at = at} l d f) = each_snoc Receive cs (record { at = at; source = n; received = ns; actions = ss }) (receives_ok l) (actions_ok f)

  else_ok : {o : Option (List StatementTree)} {toks rest : Toks} → IsOtherwise o toks rest → (a : Around) → Ups (sites_of_otherwise a (otherwise_node o))
  else_ok no_else a = tt
  else_ok (with_else d) a = actions_ok d a

  handler_ok : {h : Option HandlerTree} {toks rest : Toks} → IsHandler h toks rest → (a : Around) → Ups (sites_of_handler a (handler_node h))
  handler_ok no_handler a = tt
  handler_ok (with_handler {ns = ns} {o = o} d f some) a = both (sites_of_exceptions a [] (named_nodes ns)) (sites_of_otherwise a (otherwise_node o)) (exceptions_nodes ns (named_ok d) a []) (else_ok f a)

  parts_ok : {ps : List BodyTree} {toks rest : Toks} → AreBody ps toks rest → Each Part ps
  parts_ok no_parts = tt
  parts_ok (then_local {ps = ps} {l = l} k d) = each_snoc Part ps (local_part l) (parts_ok k) tt
  parts_ok (then_action {ps = ps} {s = s} k d) = each_snoc Part ps (action_part s) (parts_ok k) (statement_ok d)

  body_ok : {ps : List BodyTree} {toks rest : Toks} → AreBody ps toks rest → (a : Around) → Ups (sites_of_parts a (body_nodes ps))
  body_ok no_parts a = tt
  body_ok (then_local {ps = ps} {l = l} k d) a = parts_nodes (ps ++ local_part l ∷ []) (each_snoc Part ps (local_part l) (parts_ok k) tt) a
  body_ok (then_action {ps = ps} {s = s} k d) a = parts_nodes (ps ++ action_part s ∷ []) (each_snoc Part ps (action_part s) (parts_ok k) (statement_ok d)) a

-- ---- items

block_ok : (a : Around) {n : Name} {ps : List BodyTree} {h : Option HandlerTree} {c : Option Name} {toks rest : Toks} → IsBlock n ps h c toks rest → Ups (sites_of_body a ps h)
block_ok a (is_block {ps = ps} {h = h} b k c) = both (sites_of_parts a (body_nodes ps)) (sites_of_handler a (handler_node h)) (body_ok b a) (handler_ok k a)

modes_ok : (ms : Option (List written.ModeTree)) → Ups (sites_of_modes ms)
modes_ok None = tt
modes_ok (Some ms) = mapped at_mode (λ x. tt) ms

signals_ok : (ss : List SignalTree) → Ups (flat_map (λ s. sites_of_modes s.parts) ss)
signals_ok [] = tt
signals_ok (s ∷ ss) = both (sites_of_modes s.parts) (flat_map (λ s. sites_of_modes s.parts) ss) (modes_ok s.parts) (signals_ok ss)

result_ok : (m : Option written.ModeTree) → Ups (sites_of_result m)
result_ok None = tt
result_ok (Some m) = (tt, tt)

procedure_ok : {p : ProcedureTree} {toks rest : Toks} → IsProcedure p toks rest → Ups (sites_of_item (ItemTree.procedure p))
procedure_ok {p = p} (is_procedure w r e d) =
    let one = map (λ (q : ParamTree). at_mode q.mode) p.params in
    let front = one ++ sites_of_result p.returns in
    let own = at_body (Some p.name) (flat_map (λ q. q.names) p.params ++ locals_of_body p.body p.handler) in
    both front (own ∷ sites_of_body (in_procedure p) p.body p.handler) (both one (sites_of_result p.returns) (mapped (λ (q : ParamTree). at_mode q.mode) (λ x. tt) p.params) (result_ok p.returns)) (tt, block_ok (in_procedure p) d)

process_ok : {p : ProcessTree} {toks rest : Toks} → IsProcess p toks rest → Ups (sites_of_item (ItemTree.process p))
process_ok {p = p} (is_process w d) =
    let front = map (λ (q : FormalTree). at_mode q.mode) p.formals in
    let own = at_body (Some p.name) (flat_map (λ q. q.names) p.formals ++ locals_of_body p.body p.handler) in
    both front (own ∷ sites_of_body in_no_procedure p.body p.handler) (mapped (λ (q : FormalTree). at_mode q.mode) (λ x. tt) p.formals) (tt, block_ok in_no_procedure d)

abbrev Item : ItemTree → Type 0
Item i = Ups (sites_of_item i)

items_nodes : (kind : ModulionKind) (every : ItemNodes) (is : List ItemTree) → Each Item is → Ups (sites_of_items kind every (item_nodes is))
items_nodes kind every [] all = tt
items_nodes kind every (i ∷ is) all = both (at_item kind every i ∷ sites_of_item i) (sites_of_items kind every (item_nodes is)) (tt, all.0) (items_nodes kind every is all.1)

mutual
  item_ok : {i : ItemTree} {toks rest : Toks} → IsItem i toks rest → Item i
  item_ok (is_seize d) = tt
  item_ok (is_grant d) = tt
  item_ok (is_local_item {l = l} d) = local_ok true l
  item_ok (are_signals {ss = ss} d) = signals_ok ss
  item_ok (is_procedure_item d) = procedure_ok d
  item_ok (is_process_item d) = process_ok d
  item_ok (is_modulion_item d) = modulion_ok d
  item_ok (is_action d) = statement_ok d in_no_procedure

  items_ok : {is : List ItemTree} {toks rest : Toks} → AreItems is toks rest → Each Item is
  items_ok no_items = tt
  items_ok (then_item {is = is} {i = i} l d) = each_snoc Item is i (items_ok l) (item_ok d)

  modulion_ok : {m : ModulionTree} {toks rest : Toks} → IsModulion m toks rest → Item (modulion_item m)
  modulion_ok (is_modulion {k = k} {is = is} {h = h} kind d e c) =
      both (sites_of_items k (item_nodes is) (item_nodes is)) (sites_of_handler in_no_procedure (handler_node h)) (items_nodes k (item_nodes is) is (items_ok d)) (handler_ok e in_no_procedure)

abbrev Top : ModulionTree → Type 0
Top m = Item (modulion_item m)

tops_ok : {xs : List ModulionTree} {toks rest : Toks} → AreModulions xs toks rest → Each Top xs
tops_ok no_modulions = tt
tops_ok (then_modulion {xs = xs} {x = x} l d) = each_snoc Top xs x (tops_ok l) (modulion_ok d)

program_ok : (ms : List ModulionTree) → Each Top ms → Ups (flat_map sites_of_item (map modulion_item ms))
program_ok [] all = tt
program_ok (m ∷ ms) all = both (sites_of_item (modulion_item m)) (flat_map sites_of_item (map modulion_item ms)) all.0 (program_ok ms all.1)

pub updates_ok : (text : List ℕ) (t : ProgramTree) → HasTree text t → Ups (flat_map sites_of_item (items_of t))
updates_ok text t has = by has.tree_of
  where
    by : {x : ProgramTree} → IsTreeOf has.tokens x → Each UpdateSo (flat_map sites_of_item (items_of x))
    by (is_tree {xs = xs} d some) = program_ok xs (tops_ok d)
