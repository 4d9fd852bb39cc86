-- The tokens of a statement, a handler or a body are one at other places too.
use Rattle.std.proofs.Common.{◌≡◌, List, [], ◌∷◌, ◌++◌, map, Option, Some, None, refl, sym, ◌∙◌}
use Rattle.std.specs.Prelude.{option_map}
use Rattle.chill_tree.specs.ExprTree.{ExprTree}
use Rattle.chill_tree.specs.StatementTree.{StatementTree, empty, simple, bracketed, BracketedTree, if_then, case_of, do_loop, begin_end, delay_case, receive_case, more_statements, more_branches, more_cases, more_named, more_receives, otherwise, handler, more_locals, more_actions, ElsIfTree, CaseTree, NamedTree, ReceiveTree, HandlerTree, BodyTree, local_part, action_part, statement_nodes, branch_nodes, case_nodes, named_nodes, receive_nodes, otherwise_node, handler_node, body_nodes}
use Rattle.rules_model.specs.Marks.{Toks}
use Rattle.rules_model.specs.SimpleGrammar.{place_of_simple}
use Rattle.rules_model.specs.StatementGrammar.{place_of_labelled, IsDelayHead, no_head, head_sets, head_ranks, IsReceiveHead, sets_none, sets_one, handles, IsStatement, is_empty, is_simple, is_bracketed, AreStatements, no_statements, then_statement, IsBracketed, is_if, is_case, is_do, is_begin, is_delay_case, is_receive_case, AreBranches, no_branches, then_branch, AreCases, no_cases, then_case, AreNamed, no_named, then_named, AreReceives, no_receives, then_receive, IsOtherwise, no_else, with_else, IsHandler, no_handler, with_handler, AreBody, no_parts, then_local, then_action}
use Rattle.tree_print.specs.SameTree.{nowhere, unplaced_name, unplaced_expr, unplaced_range, unplaced_local, unplaced_statement, unplaced_bracketed, unplaced_statements, unplaced_branches, unplaced_cases, unplaced_named, unplaced_receives, unplaced_otherwise, unplaced_handler, unplaced_body, unplaced_alternative, unplaced_handler_tree, unplaced_part}
use Rattle.tree_print.proofs.SameTokens.{Places, placed, before, Again, Stays, and_same, same_held, some_again}
use Rattle.tree_print.proofs.SameTokensExpr.{same_ranges, same_ranked, same_location}
use Rattle.tree_print.proofs.SameTokensList.{same_names, same_clause, same_label, same_closing}
use Rattle.tree_print.proofs.SameTokensMode.{same_local}
use Rattle.tree_print.proofs.SameTokensSimple.{same_expr, same_control, same_simple}
use Rattle.rules_model.specs.ListGrammar.{AreNames}

-- ---- the lists of nodes

abbrev unplaced_branch : ElsIfTree → ElsIfTree
unplaced_branch b = record { at = nowhere; condition = unplaced_expr b.condition; actions = map unplaced_statement b.actions }

abbrev unplaced_case : CaseTree → CaseTree
unplaced_case c = record { at = nowhere; labels = map unplaced_range c.labels; actions = map unplaced_statement c.actions }

abbrev unplaced_receive : ReceiveTree → ReceiveTree
unplaced_receive a = record { at = nowhere; source = unplaced_name a.source; received = option_map (map unplaced_name) a.received; actions = map unplaced_statement a.actions }

statements_held : (ss : List StatementTree) → unplaced_statements (statement_nodes ss) ≡ statement_nodes (map unplaced_statement ss)
statements_held [] = refl
statements_held (s ∷ ss) = λ i. more_statements (unplaced_statement s) (statements_held ss i)

branches_held : (bs : List ElsIfTree) → unplaced_branches (branch_nodes bs) ≡ branch_nodes (map unplaced_branch bs)
branches_held [] = refl
branches_held (b ∷ bs) = λ i. more_branches nowhere (unplaced_expr b.condition) (statements_held b.actions i) (branches_held bs i)

cases_held : (cs : List CaseTree) → unplaced_cases (case_nodes cs) ≡ case_nodes (map unplaced_case cs)
cases_held [] = refl
cases_held (c ∷ cs) = λ i. more_cases nowhere (map unplaced_range c.labels) (statements_held c.actions i) (cases_held cs i)

named_held : (ns : List NamedTree) → unplaced_named (named_nodes ns) ≡ named_nodes (map unplaced_alternative ns)
named_held [] = refl
named_held (a ∷ ns) = λ i. more_named nowhere (map unplaced_name a.names) (statements_held a.actions i) (named_held ns i)

receives_held : (rs : List ReceiveTree) → unplaced_receives (receive_nodes rs) ≡ receive_nodes (map unplaced_receive rs)
receives_held [] = refl
receives_held (a ∷ rs) = λ i. more_receives nowhere (unplaced_name a.source) (option_map (map unplaced_name) a.received) (statements_held a.actions i) (receives_held rs i)

otherwise_held : (o : Option (List StatementTree)) → unplaced_otherwise (otherwise_node o) ≡ otherwise_node (option_map (map unplaced_statement) o)
otherwise_held None = refl
otherwise_held (Some ss) = λ i. otherwise (statements_held ss i)

pub handler_held : (h : Option HandlerTree) → unplaced_handler (handler_node h) ≡ handler_node (option_map unplaced_handler_tree h)
handler_held None = refl
handler_held (Some h) = λ i. handler nowhere (named_held h.alternatives i) (otherwise_held h.otherwise_part i)

pub body_held : (ps : List BodyTree) → unplaced_body (body_nodes ps) ≡ body_nodes (map unplaced_part ps)
body_held [] = refl
body_held (local_part l ∷ ps) = λ i. more_locals (unplaced_local l) (body_held ps i)
body_held (action_part s ∷ ps) = λ i. more_actions (unplaced_statement s) (body_held ps i)

held_statements : (ss ts : List StatementTree) → map unplaced_statement ss ≡ map unplaced_statement ts → unplaced_statements (statement_nodes ss) ≡ unplaced_statements (statement_nodes ts)
held_statements = same_held statement_nodes unplaced_statements (map unplaced_statement) statements_held

held_otherwise : (o p : Option (List StatementTree)) → option_map (map unplaced_statement) o ≡ option_map (map unplaced_statement) p → unplaced_otherwise (otherwise_node o) ≡ unplaced_otherwise (otherwise_node p)
held_otherwise = same_held otherwise_node unplaced_otherwise (option_map (map unplaced_statement)) otherwise_held

held_named : (ns ms : List NamedTree) → map unplaced_alternative ns ≡ map unplaced_alternative ms → unplaced_named (named_nodes ns) ≡ unplaced_named (named_nodes ms)
held_named = same_held named_nodes unplaced_named (map unplaced_alternative) named_held

held_handler : (h k : Option HandlerTree) → option_map unplaced_handler_tree h ≡ option_map unplaced_handler_tree k → unplaced_handler (handler_node h) ≡ unplaced_handler (handler_node k)
held_handler = same_held handler_node unplaced_handler (option_map unplaced_handler_tree) handler_held

-- ---- what is asked of handlers

handles_unplaced : (ns : List NamedTree) (o : Option (List StatementTree)) → handles (map unplaced_alternative ns) (option_map (map unplaced_statement) o) ≡ handles ns o
handles_unplaced [] None = refl
handles_unplaced [] (Some ss) = refl
handles_unplaced (a ∷ ns) o = refl

same_handles : (ns ms : List NamedTree) (o p : Option (List StatementTree)) → map unplaced_alternative ns ≡ map unplaced_alternative ms → option_map (map unplaced_statement) o ≡ option_map (map unplaced_statement) p → handles ms p ≡ handles ns o
same_handles ns ms o p e h = sym (handles_unplaced ms p) ∙ sym (λ i. handles (e i) (h i)) ∙ handles_unplaced ns o

-- ---- what stands before the alternatives

record HeadAgain (f : Places) (l c : Option ExprTree) (toks rest : Toks) : Type 0 where
  set : Option ExprTree
  rank : Option ExprTree
  is : IsDelayHead set rank (placed f toks) (placed f rest)
  same_set : option_map unplaced_expr l ≡ option_map unplaced_expr set
  same_rank : option_map unplaced_expr c ≡ option_map unplaced_expr rank

same_delay_head : {l c : Option ExprTree} {toks rest : Toks} → IsDelayHead l c toks rest → (f : Places) → HeadAgain f l c toks rest
same_delay_head no_head f = record { set = None; rank = None; is = no_head; same_set = refl; same_rank = refl }
same_delay_head (head_sets d c) f =
    let x = same_location d f in
    let y = same_clause unplaced_expr f (same_expr f) c in
    record { set = Some x.tree; rank = y.tree; is = head_sets x.is y.is; same_set = λ i. Some (x.same i); same_rank = y.same }
same_delay_head (head_ranks d) f =
    let x = same_ranked d f in
    record { set = None; rank = Some x.tree; is = head_ranks x.is; same_set = refl; same_rank = λ i. Some (x.same i) }

same_receive_head : {l : Option ExprTree} {toks rest : Toks} → IsReceiveHead l toks rest → (f : Places) → Again IsReceiveHead (option_map unplaced_expr) f l toks rest
same_receive_head sets_none f = record { tree = None; is = sets_none; same = refl }
same_receive_head (sets_one d) f = let x = same_location d f in record { tree = Some x.tree; is = sets_one x.is; same = λ i. Some (x.same i) }

listed_names : (f : Places) → Stays AreNames (map unplaced_name) f
listed_names f ns toks rest d = same_names d f

-- ---- statements

mutual
  pub same_statement : {s : StatementTree} {toks rest : Toks} → IsStatement s toks rest → (f : Places) → Again IsStatement unplaced_statement f s toks rest
  same_statement (is_empty {rest = rest}) f = record { tree = empty (before f rest); is = is_empty; same = refl }
  same_statement (is_simple {h = k} a h) f =
      let x = same_simple a f in
      let y = same_handler h f in
      record { tree = simple (place_of_simple x.tree) x.tree (handler_node y.tree); is = is_simple x.is y.is; same = λ i. simple nowhere (x.same i) (held_handler k y.tree y.same i) }
  same_statement (is_bracketed {h = k} l b h c) f =
      let x = same_label l f in
      let y = same_bracketed b f in
      let z = same_handler h f in
      let u = same_closing c f x.tree x.same in
      record { tree = bracketed (place_of_labelled x.tree y.tree) x.tree y.tree (handler_node z.tree) u.tree; is = is_bracketed x.is y.is z.is u.is; same = λ i. bracketed nowhere (x.same i) (y.same i) (held_handler k z.tree z.same i) (u.same i) }

  pub same_statements : {ss : List StatementTree} {toks rest : Toks} → AreStatements ss toks rest → (f : Places) → Again AreStatements (map unplaced_statement) f ss toks rest
  same_statements no_statements f = record { tree = []; is = no_statements; same = refl }
  same_statements (then_statement {ss = ss} {s = s} l d) f =
      let x = same_statements l f in
      let y = same_statement d f in
      record { tree = x.tree ++ y.tree ∷ []; is = then_statement x.is y.is; same = and_same unplaced_statement ss x.tree s y.tree x.same y.same }

  same_bracketed : {b : BracketedTree} {toks rest : Toks} → IsBracketed b toks rest → (f : Places) → Again IsBracketed unplaced_bracketed f b toks rest
  same_bracketed (is_if {ss = ss} {bs = bs} {o = p} e s b o) f =
      let x = same_ranked e f in
      let y = same_statements s f in
      let z = same_branches b f in
      let u = same_otherwise o f in
      record { tree = if_then _ x.tree (statement_nodes y.tree) (branch_nodes z.tree) (otherwise_node u.tree); is = is_if x.is y.is z.is u.is; same = λ i. if_then nowhere (x.same i) (held_statements ss y.tree y.same i) (same_held branch_nodes unplaced_branches (map unplaced_branch) branches_held bs z.tree z.same i) (held_otherwise p u.tree u.same i) }
  same_bracketed (is_case {cs = cs} {o = p} e c some o) f =
      let x = same_ranked e f in
      let y = same_cases c f in
      let u = same_otherwise o f in
      record { tree = case_of _ x.tree (case_nodes y.tree) (otherwise_node u.tree); is = is_case x.is y.is (some_again unplaced_case cs y.tree y.same some) u.is; same = λ i. case_of nowhere (x.same i) (same_held case_nodes unplaced_cases (map unplaced_case) cases_held cs y.tree y.same i) (held_otherwise p u.tree u.same i) }
  same_bracketed (is_do {ss = ss} c s) f =
      let x = same_control c f in
      let y = same_statements s f in
      record { tree = do_loop _ x.tree (statement_nodes y.tree); is = is_do x.is y.is; same = λ i. do_loop nowhere (x.same i) (held_statements ss y.tree y.same i) }
  same_bracketed (is_begin {ps = ps} d) f =
      let x = same_body d f in
      record { tree = begin_end _ (body_nodes x.tree); is = is_begin x.is; same = λ i. begin_end nowhere (same_held body_nodes unplaced_body (map unplaced_part) body_held ps x.tree x.same i) }
  same_bracketed (is_delay_case {ns = ns} h n some) f =
      let x = same_delay_head h f in
      let y = same_named n f in
      record { tree = delay_case _ x.set x.rank (named_nodes y.tree); is = is_delay_case x.is y.is (some_again unplaced_alternative ns y.tree y.same some); same = λ i. delay_case nowhere (x.same_set i) (x.same_rank i) (held_named ns y.tree y.same i) }
  same_bracketed (is_receive_case {rs = rs} {o = p} h r some o) f =
      let x = same_receive_head h f in
      let y = same_receives r f in
      let u = same_otherwise o f in
      record { tree = receive_case _ x.tree (receive_nodes y.tree) (otherwise_node u.tree); is = is_receive_case x.is y.is (some_again unplaced_receive rs y.tree y.same some) u.is; same = λ i. receive_case nowhere (x.same i) (same_held receive_nodes unplaced_receives (map unplaced_receive) receives_held rs y.tree y.same i) (held_otherwise p u.tree u.same i) }

  same_branches : {bs : List ElsIfTree} {toks rest : Toks} → AreBranches bs toks rest → (f : Places) → Again AreBranches (map unplaced_branch) f bs toks rest
  same_branches no_branches f = record { tree = []; is = no_branches; same = refl }
  same_branches (then_branch {bs = bs} l e s) f =
      let x = same_branches l f in
      let y = same_ranked e f in
      let z = same_statements s f in
      record { tree = x.tree ++ record { at = _; condition = y.tree; actions = z.tree } ∷ []; is = then_branch x.is y.is z.is; same = and_same unplaced_branch bs x.tree _ _ x.same (λ i. record { at = nowhere; condition = y.same i; actions = z.same i }) }

  same_cases : {cs : List CaseTree} {toks rest : Toks} → AreCases cs toks rest → (f : Places) → Again AreCases (map unplaced_case) f cs toks rest
  same_cases no_cases f = record { tree = []; is = no_cases; same = refl }
  same_cases (then_case {cs = cs} l r s) f =
      let x = same_cases l f in
      let y = same_ranges r f in
      let z = same_statements s f in
      record { tree = x.tree ++ record { at = _; labels = y.tree; actions = z.tree } ∷ []; is = then_case x.is y.is z.is; same = and_same unplaced_case cs x.tree _ _ x.same (λ i. record { at = nowhere; labels = y.same i; actions = z.same i }) }

  same_named : {ns : List NamedTree} {toks rest : Toks} → AreNamed ns toks rest → (f : Places) → Again AreNamed (map unplaced_alternative) f ns toks rest
  same_named no_named f = record { tree = []; is = no_named; same = refl }
  same_named (then_named {cs = cs} l n s) f =
      let x = same_named l f in
      let y = same_names n f in
      let z = same_statements s f in
      record { tree = x.tree ++ record { at = _; names = y.tree; actions = z.tree } ∷ []; is = then_named x.is y.is z.is; same = and_same unplaced_alternative cs x.tree _ _ x.same (λ i. record { at = nowhere; names = y.same i; actions = z.same i }) }

  same_receives : {rs : List ReceiveTree} {toks rest : Toks} → AreReceives rs toks rest → (f : Places) → Again AreReceives (map unplaced_receive) f rs toks rest
  same_receives no_receives f = record { tree = []; is = no_receives; same = refl }
  same_receives (then_receive {cs = cs} {n = n} l ns s) f =
      let x = same_receives l f in
      let y = same_clause (map unplaced_name) f (listed_names f) ns in
      let z = same_statements s f in
      record { tree = x.tree ++ record { at = _; source = record { at = _; text = n.text }; received = y.tree; actions = z.tree } ∷ []; is = then_receive x.is y.is z.is; same = and_same unplaced_receive cs x.tree _ _ x.same (λ i. record { at = nowhere; source = unplaced_name n; received = y.same i; actions = z.same i }) }

  same_otherwise : {o : Option (List StatementTree)} {toks rest : Toks} → IsOtherwise o toks rest → (f : Places) → Again IsOtherwise (option_map (map unplaced_statement)) f o toks rest
  same_otherwise no_else f = record { tree = None; is = no_else; same = refl }
  same_otherwise (with_else s) f = let x = same_statements s f in record { tree = Some x.tree; is = with_else x.is; same = λ i. Some (x.same i) }

  pub same_handler : {h : Option HandlerTree} {toks rest : Toks} → IsHandler h toks rest → (f : Places) → Again IsHandler (option_map unplaced_handler_tree) f h toks rest
  same_handler no_handler f = record { tree = None; is = no_handler; same = refl }
  same_handler (with_handler {ns = ns} {o = p} n o some) f =
      let x = same_named n f in
      let y = same_otherwise o f in
      record { tree = Some (record { at = _; alternatives = x.tree; otherwise_part = y.tree }); is = with_handler x.is y.is (same_handles ns x.tree p y.tree x.same y.same ∙ some); same = λ i. Some (record { at = nowhere; alternatives = x.same i; otherwise_part = y.same i }) }

  pub same_body : {ps : List BodyTree} {toks rest : Toks} → AreBody ps toks rest → (f : Places) → Again AreBody (map unplaced_part) f ps toks rest
  same_body no_parts f = record { tree = []; is = no_parts; same = refl }
  same_body (then_local {ps = ps} {l = d} l e) f =
      let x = same_body l f in
      let y = same_local e f in
      record { tree = x.tree ++ local_part y.tree ∷ []; is = then_local x.is y.is; same = and_same unplaced_part ps x.tree (local_part d) (local_part y.tree) x.same (λ i. local_part (y.same i)) }
  same_body (then_action {ps = ps} {s = d} l e) f =
      let x = same_body l f in
      let y = same_statement e f in
      record { tree = x.tree ++ action_part y.tree ∷ []; is = then_action x.is y.is; same = and_same unplaced_part ps x.tree (action_part d) (action_part y.tree) x.same (λ i. action_part (y.same i)) }
