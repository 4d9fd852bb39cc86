-- What is shown of statements, handlers and bodies: their nodes have short expressions, and what they define is written with fields.
use Rattle.std.proofs.Common.{false, List, [], ◌∷◌, ◌++◌, Option, Some, None, length}
use Rattle.chill_tree.specs.declared.token.Word.TheVariants as words
use Rattle.chill_tree.specs.declared.tree.name.Name.{Name}
use Rattle.chill_tree.specs.ExprTree.{ExprTree}
use Rattle.chill_tree.specs.SimpleTree.{ControlTree, while_holds, for_ever, for_members, for_steps}
use Rattle.chill_tree.specs.StatementTree.{StatementTree, BracketedTree, ElsIfTree, CaseTree, NamedTree, ReceiveTree, HandlerTree, BodyTree, local_part, action_part, statement_nodes, branch_nodes, case_nodes, named_nodes, receive_nodes, otherwise_node, handler_node, body_nodes}
use Rattle.rules_model.specs.Marks.{Toks}
use Rattle.rules_model.specs.ListGrammar.{AreNames, IsClause, no_clause, with_clause}
use Rattle.rules_model.specs.StatementGrammar.{IsDelayHead, no_head, head_sets, head_ranks, IsReceiveHead, sets_none, sets_one, IsStatement, is_empty, is_simple, is_bracketed, AreStatements, no_statements, then_statement, IsBracketed, is_if, is_case, is_do, is_begin, is_delay_case, is_receive_case, AreBranches, no_branches, then_branch, AreCases, no_cases, then_case, AreNamed, no_named, then_named, AreReceives, no_receives, then_receive, IsOtherwise, no_else, with_else, IsHandler, no_handler, with_handler, AreBody, no_parts, then_local, then_action}
use Rattle.names_model.specs.Definitions.{numbers_on}
use Rattle.checks_model.specs.Ground.{Origin, a_received}
use Rattle.checks_model.specs.Origins.{counters_in, received_in, origins_of_local, origins_in, origins_in_bracketed, origins_in_each, origins_in_branches, origins_in_cases, origins_in_named, origins_in_receives, origins_in_otherwise, origins_in_handler, origins_in_parts}
use Rattle.checks_model.specs.Phases.{some_expr, exprs_of_labels}
use Rattle.checks_model.specs.Sites.{Site, Around, at_simple, at_condition, at_selector, at_labels, at_set, at_priority, at_source, at_received, at_exceptions, some_site, events_listed, sites_of_local, sites_of, sites_of_bracketed, sites_of_each, sites_of_branches, sites_of_cases, sites_of_events, sites_of_receives, sites_of_otherwise, sites_of_handler, sites_of_exceptions, sites_of_parts}
use Rattle.written_laws.specs.Written.{Each}
use Rattle.written_laws.proofs.Shown.{Shown, none, skip, ends, both, before, behind, so, each_append, each_any, each_map, and_one}
use Rattle.written_laws.proofs.ShownExpr.{AreSpelled, expr_shown, location_shown}
use Rattle.written_laws.proofs.ShownMode.{names_passed, label_passed, closing_passed}
use Rattle.written_laws.proofs.ShownLocal.{IsShaped, Fine, fine_both, fine_before, local_shown}
use Rattle.written_laws.proofs.ShownSimple.{AreShort, clause_shown, labels_shown, control_shown, simple_shown}

-- ---- nodes that stand before alternatives

-- nodes alone, which define nothing
abbrev Short : List Site → Type 0
Short ss = Each AreSpelled ss

short_before : (ss ts : List Site) (os : List Origin) → Short ss → Fine ts os → Fine (ss ++ ts) os
short_before ss ts os first later = fine_both ss ts [] os (first, tt) later

set_short : (e : Option ExprTree) → AreShort (some_expr e) → Short (some_site at_set e)
set_short None short = tt
set_short (Some e) short = (short, tt)

priority_short : (e : Option ExprTree) → AreShort (some_expr e) → Short (some_site at_priority e)
priority_short None short = tt
priority_short (Some e) short = (short, tt)

events_short : (earlier ns : List Name) → Short (events_listed earlier ns)
events_short earlier [] = tt
events_short earlier (n ∷ ns) = (tt, events_short (earlier ++ n ∷ []) ns)

delay_head_shown : {l c : Option ExprTree} {toks rest : Toks} → IsDelayHead l c toks rest → Shown (AreShort (some_expr l) × AreShort (some_expr c)) toks rest
delay_head_shown no_head = so (λ p. (tt, tt)) none
delay_head_shown (head_sets d c) = skip (so (λ p. ((p.0, tt), p.1)) (both (location_shown d) (ends (clause_shown c))))
delay_head_shown (head_ranks d) = skip (so (λ p. (tt, (p, tt))) (ends (expr_shown d)))

receive_head_shown : {l : Option ExprTree} {toks rest : Toks} → IsReceiveHead l toks rest → Shown (AreShort (some_expr l)) toks rest
receive_head_shown sets_none = none
receive_head_shown (sets_one d) = skip (so (λ p. (p, tt)) (ends (location_shown d)))

received_passed : {r : Option (List Name)} {toks rest : Toks} → IsClause words.In AreNames r toks rest → Shown (Unit {0}) toks rest
received_passed no_clause = none
received_passed (with_clause d) = skip (names_passed d)

-- ---- counters and received names

counters_shaped : (c : ControlTree) → Each IsShaped (counters_in c)
counters_shaped (while_holds at c) = tt
counters_shaped (for_ever at) = tt
counters_shaped (for_members at n s c) = (tt, tt)
counters_shaped (for_steps at n s b down e c) = (tt, tt)

received_shaped : (n : Name) (r : Option (List Name)) → Each IsShaped (received_in n r)
received_shaped n None = tt
received_shaped n (Some ns) = each_map (λ k. Unit {0}) IsShaped (a_received n (length ns)) (λ k fits. tt) (numbers_on 0 (length ns)) (each_any (λ k. Unit {0}) (λ k. tt) (numbers_on 0 (length ns)))

-- ---- lists

module _ (a : Around) where
  abbrev StatementIs : StatementTree → Type 0
  StatementIs s = Fine (sites_of a s) (origins_in s)

  abbrev AreFine : List StatementTree → Type 0
  AreFine ss = Fine (sites_of_each a (statement_nodes ss)) (origins_in_each (statement_nodes ss))

  statements_fine : (ss : List StatementTree) → Each StatementIs ss → AreFine ss
  statements_fine [] each = (tt, tt)
  statements_fine (s ∷ ss) each = fine_both (sites_of a s) (sites_of_each a (statement_nodes ss)) (origins_in s) (origins_in_each (statement_nodes ss)) each.0 (statements_fine ss each.1)

  abbrev BranchIs : ElsIfTree → Type 0
  BranchIs b = AreShort (b.condition ∷ []) × AreFine b.actions

  branches_fine : (bs : List ElsIfTree) → Each BranchIs bs → Fine (sites_of_branches a (branch_nodes bs)) (origins_in_branches (branch_nodes bs))
  branches_fine [] each = (tt, tt)
  branches_fine (b ∷ bs) each =
      fine_both (at_condition b.condition ∷ sites_of_each a (statement_nodes b.actions)) (sites_of_branches a (branch_nodes bs)) (origins_in_each (statement_nodes b.actions)) (origins_in_branches (branch_nodes bs))
      (fine_before (at_condition b.condition) (sites_of_each a (statement_nodes b.actions)) (origins_in_each (statement_nodes b.actions)) each.0.0 each.0.1) (branches_fine bs each.1)

  abbrev CaseIs : CaseTree → Type 0
  CaseIs c = AreShort (exprs_of_labels c.labels) × AreFine c.actions

  cases_fine : (e : ExprTree) (cs : List CaseTree) → Each CaseIs cs → Fine (sites_of_cases a e (case_nodes cs)) (origins_in_cases (case_nodes cs))
  cases_fine e [] each = (tt, tt)
  cases_fine e (c ∷ cs) each =
      fine_both (at_labels e c.labels ∷ sites_of_each a (statement_nodes c.actions)) (sites_of_cases a e (case_nodes cs)) (origins_in_each (statement_nodes c.actions)) (origins_in_cases (case_nodes cs))
      (fine_before (at_labels e c.labels) (sites_of_each a (statement_nodes c.actions)) (origins_in_each (statement_nodes c.actions)) each.0.0 each.0.1) (cases_fine e cs each.1)

  abbrev NamedIs : NamedTree → Type 0
  NamedIs n = AreFine n.actions

  events_fine : (earlier : List Name) (ns : List NamedTree) → Each NamedIs ns → Fine (sites_of_events a earlier (named_nodes ns)) (origins_in_named (named_nodes ns))
  events_fine earlier [] each = (tt, tt)
  events_fine earlier (n ∷ ns) each =
      fine_both (events_listed earlier n.names ++ sites_of_each a (statement_nodes n.actions)) (sites_of_events a (earlier ++ n.names) (named_nodes ns)) (origins_in_each (statement_nodes n.actions)) (origins_in_named (named_nodes ns))
      (short_before (events_listed earlier n.names) (sites_of_each a (statement_nodes n.actions)) (origins_in_each (statement_nodes n.actions)) (events_short earlier n.names) each.0) (events_fine (earlier ++ n.names) ns each.1)

  exceptions_fine : (earlier : List Name) (ns : List NamedTree) → Each NamedIs ns → Fine (sites_of_exceptions a earlier (named_nodes ns)) (origins_in_named (named_nodes ns))
  exceptions_fine earlier [] each = (tt, tt)
  exceptions_fine earlier (n ∷ ns) each =
      fine_both (at_exceptions earlier n.names ∷ sites_of_each a (statement_nodes n.actions)) (sites_of_exceptions a (earlier ++ n.names) (named_nodes ns)) (origins_in_each (statement_nodes n.actions)) (origins_in_named (named_nodes ns))
      (fine_before (at_exceptions earlier n.names) (sites_of_each a (statement_nodes n.actions)) (origins_in_each (statement_nodes n.actions)) tt each.0) (exceptions_fine (earlier ++ n.names) ns each.1)

  abbrev ReceiveIs : ReceiveTree → Type 0
  ReceiveIs r = AreFine r.actions

  receives_fine : (earlier : List Name) (rs : List ReceiveTree) → Each ReceiveIs rs → Fine (sites_of_receives a earlier (receive_nodes rs)) (origins_in_receives (receive_nodes rs))
  receives_fine earlier [] each = (tt, tt)
  receives_fine earlier (r ∷ rs) each =
      fine_both (at_source earlier r.source ∷ at_received r.source r.received ∷ sites_of_each a (statement_nodes r.actions)) (sites_of_receives a (earlier ++ r.source ∷ []) (receive_nodes rs))
      (received_in r.source r.received ++ origins_in_each (statement_nodes r.actions)) (origins_in_receives (receive_nodes rs))
      ((tt, (tt, each.0.0)), each_append IsShaped (received_in r.source r.received) (origins_in_each (statement_nodes r.actions)) (received_shaped r.source r.received) each.0.1)
      (receives_fine (earlier ++ r.source ∷ []) rs each.1)

  abbrev BodyIs : BodyTree → Type 0
  BodyIs (local_part l) = Fine (sites_of_local false l) (origins_of_local l)
  BodyIs (action_part s) = StatementIs s

  abbrev pub IsBody : List BodyTree → Type 0
  IsBody ps = Fine (sites_of_parts a (body_nodes ps)) (origins_in_parts (body_nodes ps))

  parts_fine : (ps : List BodyTree) → Each BodyIs ps → IsBody ps
  parts_fine [] each = (tt, tt)
  parts_fine (local_part l ∷ ps) each = fine_both (sites_of_local false l) (sites_of_parts a (body_nodes ps)) (origins_of_local l) (origins_in_parts (body_nodes ps)) each.0 (parts_fine ps each.1)
  parts_fine (action_part s ∷ ps) each = fine_both (sites_of a s) (sites_of_parts a (body_nodes ps)) (origins_in s) (origins_in_parts (body_nodes ps)) each.0 (parts_fine ps each.1)

  abbrev IsElse : Option (List StatementTree) → Type 0
  IsElse o = Fine (sites_of_otherwise a (otherwise_node o)) (origins_in_otherwise (otherwise_node o))

  abbrev pub IsHandled : Option HandlerTree → Type 0
  IsHandled h = Fine (sites_of_handler a (handler_node h)) (origins_in_handler (handler_node h))

  -- ---- statements

  mutual
    pub statement_shown : {s : StatementTree} {toks rest : Toks} → IsStatement s toks rest → Shown (StatementIs s) toks rest
    statement_shown is_empty = so (λ p. (tt, tt)) (skip none)
    statement_shown (is_simple {a = x} {h = h} d k) =
        so (λ p. fine_before (at_simple a x) (sites_of_handler a (handler_node h)) (origins_in_handler (handler_node h)) p.0 p.1) (both (simple_shown d) (ends (handler_shown k)))
    statement_shown (is_bracketed {b = b} {h = h} l d k c) =
        so (λ p. fine_both (sites_of_bracketed a b) (sites_of_handler a (handler_node h)) (origins_in_bracketed b) (origins_in_handler (handler_node h)) p.0 p.1)
        (behind (label_passed l) (both (bracketed_shown d) (before (handler_shown k) (ends (closing_passed c)))))

    statements_shown : {ss : List StatementTree} {toks rest : Toks} → AreStatements ss toks rest → Shown (Each StatementIs ss) toks rest
    statements_shown no_statements = none
    statements_shown (then_statement {ss = ss} {s = s} l d) = and_one StatementIs ss s (statements_shown l) (statement_shown d)

    bracketed_shown : {b : BracketedTree} {toks rest : Toks} → IsBracketed b toks rest → Shown (Fine (sites_of_bracketed a b) (origins_in_bracketed b)) toks rest
    bracketed_shown (is_if {e = e} {ss = ss} {bs = bs} {o = o} c s b k) =
        let each = sites_of_each a (statement_nodes ss) in
        let own = origins_in_each (statement_nodes ss) in
        let branches = sites_of_branches a (branch_nodes bs) in
        let later = origins_in_branches (branch_nodes bs) in
        skip (so (λ p.
        fine_both ((at_condition e ∷ each) ++ branches) (sites_of_otherwise a (otherwise_node o)) (own ++ later) (origins_in_otherwise (otherwise_node o))
        (fine_both (at_condition e ∷ each) branches own later (fine_before (at_condition e) each own (p.0.0.0, tt) p.0.0.1) (branches_fine bs p.0.1)) p.1)
        (both (both (both (ends (expr_shown c)) (so (statements_fine ss) (statements_shown s))) (branches_shown b)) (ends (otherwise_shown k))))
    bracketed_shown (is_case {e = e} {cs = cs} {o = o} d c some k) =
        let rest = sites_of_cases a e (case_nodes cs) ++ sites_of_otherwise a (otherwise_node o) in
        let later = origins_in_cases (case_nodes cs) ++ origins_in_otherwise (otherwise_node o) in
        skip (so (λ p.
        fine_before (at_selector e) rest later (p.0.0, tt)
        (fine_both (sites_of_cases a e (case_nodes cs)) (sites_of_otherwise a (otherwise_node o)) (origins_in_cases (case_nodes cs)) (origins_in_otherwise (otherwise_node o)) (cases_fine e cs p.0.1) p.1))
        (both (both (ends (expr_shown d)) (cases_shown c)) (ends (otherwise_shown k))))
    bracketed_shown (is_do {c = c} {ss = ss} d s) =
        skip (so (λ p. ((p.0, p.1.0), each_append IsShaped (counters_in c) (origins_in_each (statement_nodes ss)) (counters_shaped c) p.1.1)) (both (ends (control_shown d)) (ends (so (statements_fine ss) (statements_shown s)))))
    bracketed_shown (is_begin {ps = ps} d) = skip (ends (so (parts_fine ps) (parts_shown d)))
    bracketed_shown (is_delay_case {l = l} {c = c} {ns = ns} h n some) =
        let events = sites_of_events a [] (named_nodes ns) in
        let later = origins_in_named (named_nodes ns) in
        skip (skip (so (λ p.
        short_before (some_site at_set l ++ some_site at_priority c) events later (each_append AreSpelled (some_site at_set l) (some_site at_priority c) (set_short l p.0.0) (priority_short c p.0.1)) (events_fine [] ns p.1))
        (both (delay_head_shown h) (ends (named_shown n)))))
    bracketed_shown (is_receive_case {l = l} {rs = rs} {o = o} h r some k) =
        let receives = sites_of_receives a [] (receive_nodes rs) in
        let later = origins_in_receives (receive_nodes rs) in
        skip (skip (so (λ p.
        fine_both (some_site at_set l ++ receives) (sites_of_otherwise a (otherwise_node o)) later (origins_in_otherwise (otherwise_node o))
        (short_before (some_site at_set l) receives later (set_short l p.0.0) (receives_fine [] rs p.0.1)) p.1)
        (both (both (receive_head_shown h) (receives_shown r)) (ends (otherwise_shown k)))))

    branches_shown : {bs : List ElsIfTree} {toks rest : Toks} → AreBranches bs toks rest → Shown (Each BranchIs bs) toks rest
    branches_shown no_branches = none
    branches_shown (then_branch {bs = bs} {ss = ss} l d s) = and_one BranchIs bs _ (ends (branches_shown l)) (both (so (λ short. (short, tt)) (ends (expr_shown d))) (so (statements_fine ss) (statements_shown s)))

    cases_shown : {cs : List CaseTree} {toks rest : Toks} → AreCases cs toks rest → Shown (Each CaseIs cs) toks rest
    cases_shown no_cases = none
    cases_shown (then_case {cs = cs} {ss = ss} l r s) = and_one CaseIs cs _ (ends (cases_shown l)) (both (ends (ends (labels_shown r))) (so (statements_fine ss) (statements_shown s)))

    named_shown : {ns : List NamedTree} {toks rest : Toks} → AreNamed ns toks rest → Shown (Each NamedIs ns) toks rest
    named_shown no_named = none
    named_shown (then_named {cs = cs} {ss = ss} l n s) = and_one NamedIs cs _ (ends (named_shown l)) (behind (ends (ends (names_passed n))) (so (statements_fine ss) (statements_shown s)))

    receives_shown : {rs : List ReceiveTree} {toks rest : Toks} → AreReceives rs toks rest → Shown (Each ReceiveIs rs) toks rest
    receives_shown no_receives = none
    receives_shown (then_receive {cs = cs} {ss = ss} l n s) = and_one ReceiveIs cs _ (ends (ends (receives_shown l))) (behind (ends (ends (received_passed n))) (so (statements_fine ss) (statements_shown s)))

    otherwise_shown : {o : Option (List StatementTree)} {toks rest : Toks} → IsOtherwise o toks rest → Shown (IsElse o) toks rest
    otherwise_shown no_else = so (λ p. (tt, tt)) none
    otherwise_shown (with_else {ss = ss} s) = skip (so (statements_fine ss) (statements_shown s))

    pub handler_shown : {h : Option HandlerTree} {toks rest : Toks} → IsHandler h toks rest → Shown (IsHandled h) toks rest
    handler_shown no_handler = so (λ p. (tt, tt)) none
    handler_shown (with_handler {ns = ns} {o = o} n d some) =
        skip (so (λ p. fine_both (sites_of_exceptions a [] (named_nodes ns)) (sites_of_otherwise a (otherwise_node o)) (origins_in_named (named_nodes ns)) (origins_in_otherwise (otherwise_node o)) (exceptions_fine [] ns p.0) p.1)
        (both (named_shown n) (ends (otherwise_shown d))))

    parts_shown : {ps : List BodyTree} {toks rest : Toks} → AreBody ps toks rest → Shown (Each BodyIs ps) toks rest
    parts_shown no_parts = none
    parts_shown (then_local {ps = ps} {l = x} l d) = and_one BodyIs ps (local_part x) (parts_shown l) (local_shown false d)
    parts_shown (then_action {ps = ps} {s = x} l d) = and_one BodyIs ps (action_part x) (parts_shown l) (statement_shown d)

  pub body_shown : {ps : List BodyTree} {toks rest : Toks} → AreBody ps toks rest → Shown (IsBody ps) toks rest
  body_shown {ps = ps} d = so (parts_fine ps) (parts_shown d)
