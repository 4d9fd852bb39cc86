-- The names in a statement, a handler or a body stand among its tokens, in order.
use Rattle.std.proofs.Common.{◌≡◌, List, [], ◌∷◌, ◌++◌, Option, refl, ap, sym, ◌∙◌, append_assoc, append-nil}
use Rattle.std.specs.Prelude.{flat_map}
use Rattle.std.proofs.lemmas.Grind.{flat_map-append}
use Rattle.chill_tree.specs.declared.token.Word.TheVariants as words
use Rattle.chill_tree.specs.declared.tree.name.Name.{Name}
use Rattle.chill_tree.specs.ExprTree.{ExprTree}
use Rattle.chill_tree.specs.StatementTree.{StatementTree, BracketedTree, ElsIfTree, CaseTree, NamedTree, ReceiveTree, HandlerTree, BodyTree, local_part, action_part, statement_nodes, branch_nodes, case_nodes, named_nodes, receive_nodes, otherwise_node, handler_node, body_nodes}
use Rattle.rules_model.specs.Marks.{Toks}
use Rattle.rules_model.specs.ListGrammar.{IsName, is_name, AreNames, IsClause, no_clause, with_clause}
use Rattle.rules_model.specs.StatementGrammar.{IsDelayHead, no_head, head_sets, head_ranks, IsReceiveHead, sets_none, sets_one, IsStatement, is_empty, is_simple, is_bracketed, AreStatements, no_statements, then_statement, IsBracketed, is_if, is_case, is_do, is_begin, is_delay_case, is_receive_case, AreBranches, no_branches, then_branch, AreCases, no_cases, then_case, AreNamed, no_named, then_named, AreReceives, no_receives, then_receive, IsOtherwise, no_else, with_else, IsHandler, no_handler, with_handler, AreBody, no_parts, then_local, then_action}
use Rattle.names_model.specs.declared.kind.Need.TheVariants as needs
use Rattle.names_model.specs.Identifiers.{identifier}
use Rattle.names_model.specs.declared.part.Mention.TheVariants.{Use}
use Rattle.names_model.specs.Parts.{PartTree, mention, part_nodes}
use Rattle.names_model.specs.Sizes.{block_of}
use Rattle.names_model.specs.ExprMentions.{used, mentions_of, mentions_of_some, mentions_of_ranges}
use Rattle.names_model.specs.StatementParts.{mentioned, local_parts, control_parts, turn_parts, labelled, received_parts, statement_parts, bracketed_parts, action_parts, branch_parts, case_parts, event_parts, receive_parts, otherwise_parts, handler_parts, exception_parts, body_parts}
use Rattle.names_laws.proofs.NamePlaces.{Sought, of_mention, of_part, of_nodes, nodes_flat, Uses, none, skip, ends, pass, then_passed, both, as_list, as_places, many_and, taking, mentioning, mentioned_uses, defining, blocked}
use Rattle.names_laws.proofs.NamePlacesExpr.{ranges_uses, location_uses}
use Rattle.names_laws.proofs.NamePlacesMode.{Keeps, listed_uses, expr_uses, clause_uses, names_passed, names_defined, label_passed, closing_passed, local_uses}
use Rattle.names_laws.proofs.NamePlacesSimple.{control_uses, simple_uses}

-- ---- the parts of lists

module _ (labels : List Name) where
  abbrev statements_of : List StatementTree → List PartTree
  statements_of ss = action_parts labels (statement_nodes ss)

  abbrev of_branch : ElsIfTree → List PartTree
  of_branch b = mentioned (mentions_of b.condition) ++ statements_of b.actions

  abbrev of_case : CaseTree → List PartTree
  of_case c = mentioned (mentions_of_ranges c.labels) ++ statements_of c.actions

  abbrev of_event : NamedTree → List PartTree
  of_event a = mentioned (flat_map (used needs.Location) a.names) ++ block_of (statements_of a.actions) ∷ []

  abbrev of_exception : NamedTree → List PartTree
  of_exception a = statements_of a.actions

  abbrev of_receive : ReceiveTree → List PartTree
  of_receive a = mention (Use (identifier a.source) needs.Message) ∷ block_of (received_parts a.received ++ statements_of a.actions) ∷ []

  abbrev of_body : BodyTree → List PartTree
  of_body (local_part l) = local_parts l
  of_body (action_part s) = statement_parts labels s

  statements_flat : (ss : List StatementTree) → flat_map (statement_parts labels) ss ≡ statements_of ss
  statements_flat [] = refl
  statements_flat (s ∷ ss) = ap (λ ps. statement_parts labels s ++ ps) (statements_flat ss)

  branches_flat : (bs : List ElsIfTree) → flat_map of_branch bs ≡ branch_parts labels (branch_nodes bs)
  branches_flat [] = refl
  branches_flat (b ∷ bs) = ap (λ ps. of_branch b ++ ps) (branches_flat bs)

  cases_flat : (cs : List CaseTree) → flat_map of_case cs ≡ case_parts labels (case_nodes cs)
  cases_flat [] = refl
  cases_flat (c ∷ cs) = ap (λ ps. of_case c ++ ps) (cases_flat cs)

  events_flat : (ns : List NamedTree) → flat_map of_event ns ≡ event_parts labels (named_nodes ns)
  events_flat [] = refl
  events_flat (a ∷ ns) = ap (λ ps. of_event a ++ ps) (events_flat ns)

  exceptions_flat : (ns : List NamedTree) → flat_map of_exception ns ≡ exception_parts labels (named_nodes ns)
  exceptions_flat [] = refl
  exceptions_flat (a ∷ ns) = ap (λ ps. of_exception a ++ ps) (exceptions_flat ns)

  receives_flat : (rs : List ReceiveTree) → flat_map of_receive rs ≡ receive_parts labels (receive_nodes rs)
  receives_flat [] = refl
  receives_flat (a ∷ rs) = ap (λ ps. of_receive a ++ ps) (receives_flat rs)

  body_flat : (ps : List BodyTree) → flat_map of_body ps ≡ body_parts labels (body_nodes ps)
  body_flat [] = refl
  body_flat (local_part l ∷ ps) = ap (λ qs. local_parts l ++ qs) (body_flat ps)
  body_flat (action_part s ∷ ps) = ap (λ qs. statement_parts labels s ++ qs) (body_flat ps)

module _ (sought : Sought) where
  -- ---- what stands before alternatives and actions

  delay_head_uses : {l c : Option ExprTree} {toks rest : Toks} → IsDelayHead l c toks rest → Uses (of_mention sought) (mentions_of_some l ++ mentions_of_some c) toks rest
  delay_head_uses no_head = none
  delay_head_uses (head_sets d c) = skip (both (location_uses sought d) (ends (clause_uses sought c)))
  delay_head_uses (head_ranks d) = skip (ends (expr_uses sought d))

  receive_head_uses : {l : Option ExprTree} {toks rest : Toks} → IsReceiveHead l toks rest → Uses (of_mention sought) (mentions_of_some l) toks rest
  receive_head_uses sets_none = none
  receive_head_uses (sets_one d) = skip (ends (location_uses sought d))

  event_name_uses : Keeps (of_mention sought) IsName (used needs.Location)
  event_name_uses n toks rest is_name = taking sought none

  received_uses : {r : Option (List Name)} {toks rest : Toks} → IsClause words.In AreNames r toks rest → Uses (of_part sought) (received_parts r) toks rest
  received_uses no_clause = none
  received_uses (with_clause d) = skip (defining sought _ _ [] [] (names_defined sought d) none none)

  -- a loop's own block holds what its control has there, before its actions
  loop_flat : (cs ts ss : List PartTree) → flat_map (of_part sought) ((cs ++ ts) ++ ss) ≡ flat_map (of_part sought) (cs ++ block_of (ts ++ ss) ∷ [])
  loop_flat cs ts ss =
      ap (flat_map (of_part sought)) (append_assoc cs ts ss) ∙ flat_map-append (of_part sought) cs (ts ++ ss)
      ∙ ap (λ ps. flat_map (of_part sought) cs ++ ps) (nodes_flat sought (ts ++ ss) ∙ sym (append-nil (of_nodes sought (part_nodes (ts ++ ss)))))
      ∙ sym (flat_map-append (of_part sought) cs (block_of (ts ++ ss) ∷ []))

  -- ---- statements

  mutual
    pub statement_uses : (labels : List Name) {s : StatementTree} {toks rest : Toks} → IsStatement s toks rest → Uses (of_part sought) (statement_parts labels s) toks rest
    statement_uses labels is_empty = skip none
    statement_uses labels (is_simple a h) = both (simple_uses sought labels a) (ends (handler_uses labels h))
    statement_uses labels (is_bracketed {l = l} d b h c) = pass (label_passed d) (both (bracketed_uses (labelled l labels) b) (then_passed (handler_uses (labelled l labels) h) (ends (closing_passed c))))

    statements_uses : (labels : List Name) {ss : List StatementTree} {toks rest : Toks} → AreStatements ss toks rest → Uses (of_part sought) (flat_map (statement_parts labels) ss) toks rest
    statements_uses labels no_statements = none
    statements_uses labels (then_statement {ss = ss} {s = s} l d) = many_and (statement_parts labels) ss s (statements_uses labels l) (statement_uses labels d)

    bracketed_uses : (labels : List Name) {b : BracketedTree} {toks rest : Toks} → IsBracketed b toks rest → Uses (of_part sought) (bracketed_parts labels b) toks rest
    bracketed_uses labels (is_if {e = e} {ss = ss} {bs = bs} c s b o) =
        skip (both (both (both (mentioned_uses sought (mentions_of e) (ends (expr_uses sought c))) (as_list (statements_flat labels ss) (statements_uses labels s))) (as_list (branches_flat labels bs) (branches_uses labels b))) (ends (otherwise_uses labels o)))
    bracketed_uses labels (is_case {e = e} {cs = cs} d c some o) =
        skip (both (both (mentioned_uses sought (mentions_of e) (ends (expr_uses sought d))) (as_list (cases_flat labels cs) (cases_uses labels c))) (ends (otherwise_uses labels o)))
    bracketed_uses labels (is_do {c = c} {ss = ss} d s) =
        skip (as_places (loop_flat (control_parts c) (turn_parts c) (statements_of labels ss)) (both (ends (control_uses sought d)) (ends (as_list (statements_flat labels ss) (statements_uses labels s)))))
    bracketed_uses labels (is_begin {ps = ps} d) = skip (ends (blocked sought (body_parts labels (body_nodes ps)) (as_list (body_flat labels ps) (parts_uses labels d))))
    bracketed_uses labels (is_delay_case {l = l} {c = c} {ns = ns} h n some) =
        skip (skip (both (mentioned_uses sought (mentions_of_some l ++ mentions_of_some c) (delay_head_uses h)) (as_list (events_flat labels ns) (ends (events_uses labels n)))))
    bracketed_uses labels (is_receive_case {l = l} {rs = rs} h r some o) =
        skip (skip (both (both (mentioned_uses sought (mentions_of_some l) (receive_head_uses h)) (as_list (receives_flat labels rs) (receives_uses labels r))) (ends (otherwise_uses labels o))))

    branches_uses : (labels : List Name) {bs : List ElsIfTree} {toks rest : Toks} → AreBranches bs toks rest → Uses (of_part sought) (flat_map (of_branch labels) bs) toks rest
    branches_uses labels no_branches = none
    branches_uses labels (then_branch {bs = bs} {e = e} {ss = ss} l d s) =
        many_and (of_branch labels) bs _ (ends (branches_uses labels l)) (both (mentioned_uses sought (mentions_of e) (ends (expr_uses sought d))) (as_list (statements_flat labels ss) (statements_uses labels s)))

    cases_uses : (labels : List Name) {cs : List CaseTree} {toks rest : Toks} → AreCases cs toks rest → Uses (of_part sought) (flat_map (of_case labels) cs) toks rest
    cases_uses labels no_cases = none
    cases_uses labels (then_case {cs = cs} {ls = ls} {ss = ss} l r s) =
        many_and (of_case labels) cs _ (ends (cases_uses labels l)) (both (mentioned_uses sought (mentions_of_ranges ls) (ends (ends (ranges_uses sought r)))) (as_list (statements_flat labels ss) (statements_uses labels s)))

    events_uses : (labels : List Name) {ns : List NamedTree} {toks rest : Toks} → AreNamed ns toks rest → Uses (of_part sought) (flat_map (of_event labels) ns) toks rest
    events_uses labels no_named = none
    events_uses labels (then_named {cs = cs} {ns = ns} {ss = ss} l n s) =
        many_and (of_event labels) cs _ (ends (events_uses labels l))
        (both (mentioned_uses sought (flat_map (used needs.Location) ns) (ends (ends (listed_uses (used needs.Location) event_name_uses n)))) (blocked sought (statements_of labels ss) (as_list (statements_flat labels ss) (statements_uses labels s))))

    exceptions_uses : (labels : List Name) {ns : List NamedTree} {toks rest : Toks} → AreNamed ns toks rest → Uses (of_part sought) (flat_map (of_exception labels) ns) toks rest
    exceptions_uses labels no_named = none
    exceptions_uses labels (then_named {cs = cs} {ss = ss} l n s) =
        many_and (of_exception labels) cs _ (ends (exceptions_uses labels l)) (pass (ends (ends (names_passed n))) (as_list (statements_flat labels ss) (statements_uses labels s)))

    receives_uses : (labels : List Name) {rs : List ReceiveTree} {toks rest : Toks} → AreReceives rs toks rest → Uses (of_part sought) (flat_map (of_receive labels) rs) toks rest
    receives_uses labels no_receives = none
    receives_uses labels (then_receive {cs = cs} {ns = ns} {ss = ss} l n s) =
        many_and (of_receive labels) cs _ (ends (receives_uses labels l))
        (mentioning sought (blocked sought (received_parts ns ++ statements_of labels ss) (both (ends (ends (received_uses n))) (as_list (statements_flat labels ss) (statements_uses labels s)))))

    otherwise_uses : (labels : List Name) {o : Option (List StatementTree)} {toks rest : Toks} → IsOtherwise o toks rest → Uses (of_part sought) (otherwise_parts labels (otherwise_node o)) toks rest
    otherwise_uses labels no_else = none
    otherwise_uses labels (with_else {ss = ss} s) = skip (as_list (statements_flat labels ss) (statements_uses labels s))

    pub handler_uses : (labels : List Name) {h : Option HandlerTree} {toks rest : Toks} → IsHandler h toks rest → Uses (of_part sought) (handler_parts labels (handler_node h)) toks rest
    handler_uses labels no_handler = none
    handler_uses labels (with_handler {ns = ns} {o = o} n d some) =
        skip (blocked sought (exception_parts labels (named_nodes ns) ++ otherwise_parts labels (otherwise_node o)) (both (as_list (exceptions_flat labels ns) (exceptions_uses labels n)) (ends (otherwise_uses labels d))))

    parts_uses : (labels : List Name) {ps : List BodyTree} {toks rest : Toks} → AreBody ps toks rest → Uses (of_part sought) (flat_map (of_body labels) ps) toks rest
    parts_uses labels no_parts = none
    parts_uses labels (then_local {ps = ps} {l = x} l d) = many_and (of_body labels) ps (local_part x) (parts_uses labels l) (local_uses sought d)
    parts_uses labels (then_action {ps = ps} {s = x} l d) = many_and (of_body labels) ps (action_part x) (parts_uses labels l) (statement_uses labels d)

  pub body_uses : {ps : List BodyTree} {toks rest : Toks} → AreBody ps toks rest → Uses (of_part sought) (body_parts [] (body_nodes ps)) toks rest
  body_uses {ps = ps} d = as_list (body_flat [] ps) (parts_uses [] d)
