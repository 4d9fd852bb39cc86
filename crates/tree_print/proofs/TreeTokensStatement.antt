-- The tokens of a statement, a handler or a body are its own.
use Rattle.std.proofs.Common.{◌≡◌, List, [], ◌∷◌, ◌++◌, Option, refl, ap}
use Rattle.std.specs.Prelude.{flat_map}
use Rattle.chill_tree.specs.declared.token.Word.TheVariants as words
use Rattle.chill_tree.specs.declared.token.Sign.TheVariants as signs
use Rattle.chill_tree.specs.ExprTree.{ExprTree}
use Rattle.chill_tree.specs.StatementTree.{StatementTree, BracketedTree, ElsIfTree, CaseTree, NamedTree, ReceiveTree, HandlerTree, BodyTree, local_part, action_part, statement_nodes, branch_nodes, case_nodes, named_nodes, receive_nodes, otherwise_node, handler_node, body_nodes}
use Rattle.rules_model.specs.Marks.{Toks}
use Rattle.rules_model.specs.ListGrammar.{AreNames}
use Rattle.rules_model.specs.StatementGrammar.{IsDelayHead, no_head, head_sets, head_ranks, IsReceiveHead, sets_none, sets_one, IsStatement, is_empty, is_simple, is_bracketed, AreStatements, no_statements, then_statement, IsBracketed, is_if, is_case, is_do, is_begin, is_delay_case, is_receive_case, AreBranches, no_branches, then_branch, AreCases, no_cases, then_case, AreNamed, no_named, then_named, AreReceives, no_receives, then_receive, IsOtherwise, no_else, with_else, IsHandler, no_handler, with_handler, AreBody, no_parts, then_local, then_action}
use Rattle.rules_model.specs.TreeTokens.{Kinds, given, word_kinds, sign_kinds, name_kinds, names_kinds, in_parens, with_commas, range_kinds, expr_kinds, local_kinds, delay_head_kinds, receive_head_kinds, statement_kinds, bracketed_kinds, statements_kinds, branches_kinds, cases_kinds, named_alternatives_kinds, receives_kinds, otherwise_kinds, handler_kinds, body_kinds}
use Rattle.tree_print.proofs.TreeTokens.{Writes, nothing, token, last, both, as_kinds, many_none, many_and}
use Rattle.tree_print.proofs.TreeTokensExpr.{ranges_tokens, ranked_tokens, location_tokens}
use Rattle.tree_print.proofs.TreeTokensList.{Tells, names_tokens, clause_tokens, label_tokens, closing_tokens}
use Rattle.tree_print.proofs.TreeTokensMode.{local_tokens}
use Rattle.tree_print.proofs.TreeTokensSimple.{expr_tokens, control_tokens, simple_tokens}

-- ---- the parts of lists

abbrev branch_kinds : ElsIfTree → Kinds
branch_kinds b = word_kinds words.ElsIf ++ expr_kinds b.condition ++ word_kinds words.Then ++ statements_kinds (statement_nodes b.actions)

abbrev case_kinds : CaseTree → Kinds
case_kinds c = in_parens (with_commas range_kinds c.labels) ++ sign_kinds signs.Colon ++ statements_kinds (statement_nodes c.actions)

abbrev named_kinds : NamedTree → Kinds
named_kinds a = in_parens (names_kinds a.names) ++ sign_kinds signs.Colon ++ statements_kinds (statement_nodes a.actions)

abbrev receive_kinds : ReceiveTree → Kinds
receive_kinds a = in_parens (name_kinds a.source ++ given (λ xs. word_kinds words.In ++ names_kinds xs) a.received) ++ sign_kinds signs.Colon ++ statements_kinds (statement_nodes a.actions)

abbrev part_kinds : BodyTree → Kinds
part_kinds (local_part l) = local_kinds l
part_kinds (action_part s) = statement_kinds s

statements_flat : (ss : List StatementTree) → flat_map statement_kinds ss ≡ statements_kinds (statement_nodes ss)
statements_flat [] = refl
statements_flat (s ∷ ss) = ap (λ ks. statement_kinds s ++ ks) (statements_flat ss)

branches_flat : (bs : List ElsIfTree) → flat_map branch_kinds bs ≡ branches_kinds (branch_nodes bs)
branches_flat [] = refl
branches_flat (b ∷ bs) = ap (λ ks. branch_kinds b ++ ks) (branches_flat bs)

cases_flat : (cs : List CaseTree) → flat_map case_kinds cs ≡ cases_kinds (case_nodes cs)
cases_flat [] = refl
cases_flat (c ∷ cs) = ap (λ ks. case_kinds c ++ ks) (cases_flat cs)

named_flat : (ns : List NamedTree) → flat_map named_kinds ns ≡ named_alternatives_kinds (named_nodes ns)
named_flat [] = refl
named_flat (a ∷ ns) = ap (λ ks. named_kinds a ++ ks) (named_flat ns)

receives_flat : (rs : List ReceiveTree) → flat_map receive_kinds rs ≡ receives_kinds (receive_nodes rs)
receives_flat [] = refl
receives_flat (a ∷ rs) = ap (λ ks. receive_kinds a ++ ks) (receives_flat rs)

body_flat : (ps : List BodyTree) → flat_map part_kinds ps ≡ body_kinds (body_nodes ps)
body_flat [] = refl
body_flat (local_part l ∷ ps) = ap (λ ks. local_kinds l ++ ks) (body_flat ps)
body_flat (action_part s ∷ ps) = ap (λ ks. statement_kinds s ++ ks) (body_flat ps)

-- ---- what stands before the alternatives

delay_head_tokens : {l c : Option ExprTree} {toks rest : Toks} → IsDelayHead l c toks rest → Writes (delay_head_kinds l c) toks rest
delay_head_tokens no_head = nothing
delay_head_tokens (head_sets d c) = token (both (both (location_tokens d) (clause_tokens expr_kinds expr_tokens c)) last)
delay_head_tokens (head_ranks d) = token (both (ranked_tokens d) last)

receive_head_tokens : {l : Option ExprTree} {toks rest : Toks} → IsReceiveHead l toks rest → Writes (receive_head_kinds l) toks rest
receive_head_tokens sets_none = nothing
receive_head_tokens (sets_one d) = token (both (location_tokens d) last)

-- names in a clause
listed_names_tokens : Tells AreNames names_kinds
listed_names_tokens ns toks rest d = names_tokens d

-- ---- statements

mutual
  pub statement_tokens : {s : StatementTree} {toks rest : Toks} → IsStatement s toks rest → Writes (statement_kinds s) toks rest
  statement_tokens is_empty = last
  statement_tokens (is_simple a h) = both (both (simple_tokens a) (handler_tokens h)) last
  statement_tokens (is_bracketed l b h c) = both (both (both (both (label_tokens l) (bracketed_tokens b)) (handler_tokens h)) (closing_tokens c)) last

  statements_tokens : {ss : List StatementTree} {toks rest : Toks} → AreStatements ss toks rest → Writes (flat_map statement_kinds ss) toks rest
  statements_tokens no_statements = many_none statement_kinds
  statements_tokens (then_statement {ss = ss} {s = s} l d) = many_and statement_kinds ss s (statements_tokens l) (statement_tokens d)

  bracketed_tokens : {b : BracketedTree} {toks rest : Toks} → IsBracketed b toks rest → Writes (bracketed_kinds b) toks rest
  bracketed_tokens (is_if {ss = ss} {bs = bs} e s b o) =
      token (both (both (both (both (both (ranked_tokens e) last) (as_kinds (statements_flat ss) (statements_tokens s))) (as_kinds (branches_flat bs) (branches_tokens b))) (otherwise_tokens o)) last)
  bracketed_tokens (is_case {cs = cs} e c some o) = token (both (both (both (both (ranked_tokens e) last) (as_kinds (cases_flat cs) (cases_tokens c))) (otherwise_tokens o)) last)
  bracketed_tokens (is_do {ss = ss} c s) = token (both (both (both (control_tokens c) last) (as_kinds (statements_flat ss) (statements_tokens s))) last)
  bracketed_tokens (is_begin {ps = ps} d) = token (both (as_kinds (body_flat ps) (parts_tokens d)) last)
  bracketed_tokens (is_delay_case {ns = ns} h n some) = token (token (both (both (delay_head_tokens h) (as_kinds (named_flat ns) (named_tokens n))) last))
  bracketed_tokens (is_receive_case {rs = rs} h r some o) = token (token (both (both (both (receive_head_tokens h) (as_kinds (receives_flat rs) (receives_tokens r))) (otherwise_tokens o)) last))

  branches_tokens : {bs : List ElsIfTree} {toks rest : Toks} → AreBranches bs toks rest → Writes (flat_map branch_kinds bs) toks rest
  branches_tokens no_branches = many_none branch_kinds
  branches_tokens (then_branch {bs = bs} {ss = ss} l e s) =
      many_and branch_kinds bs _ (branches_tokens l) (token (both (both (ranked_tokens e) last) (as_kinds (statements_flat ss) (statements_tokens s))))

  cases_tokens : {cs : List CaseTree} {toks rest : Toks} → AreCases cs toks rest → Writes (flat_map case_kinds cs) toks rest
  cases_tokens no_cases = many_none case_kinds
  cases_tokens (then_case {cs = cs} {ss = ss} l r s) =
      many_and case_kinds cs _ (cases_tokens l) (token (both (both (both (ranges_tokens r).writes last) last) (as_kinds (statements_flat ss) (statements_tokens s))))

  named_tokens : {ns : List NamedTree} {toks rest : Toks} → AreNamed ns toks rest → Writes (flat_map named_kinds ns) toks rest
  named_tokens no_named = many_none named_kinds
  named_tokens (then_named {cs = cs} {ss = ss} l n s) =
      many_and named_kinds cs _ (named_tokens l) (token (both (both (both (names_tokens n) last) last) (as_kinds (statements_flat ss) (statements_tokens s))))

  receives_tokens : {rs : List ReceiveTree} {toks rest : Toks} → AreReceives rs toks rest → Writes (flat_map receive_kinds rs) toks rest
  receives_tokens no_receives = many_none receive_kinds
  receives_tokens (then_receive {cs = cs} {ss = ss} l n s) =
      many_and receive_kinds cs _ (receives_tokens l) (token (token (both (both (both (clause_tokens names_kinds listed_names_tokens n) last) last) (as_kinds (statements_flat ss) (statements_tokens s)))))

  otherwise_tokens : {o : Option (List StatementTree)} {toks rest : Toks} → IsOtherwise o toks rest → Writes (otherwise_kinds (otherwise_node o)) toks rest
  otherwise_tokens no_else = nothing
  otherwise_tokens (with_else {ss = ss} s) = token (as_kinds (statements_flat ss) (statements_tokens s))

  pub handler_tokens : {h : Option HandlerTree} {toks rest : Toks} → IsHandler h toks rest → Writes (handler_kinds (handler_node h)) toks rest
  handler_tokens no_handler = nothing
  handler_tokens (with_handler {ns = ns} n o some) = token (both (both (as_kinds (named_flat ns) (named_tokens n)) (otherwise_tokens o)) last)

  parts_tokens : {ps : List BodyTree} {toks rest : Toks} → AreBody ps toks rest → Writes (flat_map part_kinds ps) toks rest
  parts_tokens no_parts = many_none part_kinds
  parts_tokens (then_local {ps = ps} {l = x} l d) = many_and part_kinds ps (local_part x) (parts_tokens l) (local_tokens d)
  parts_tokens (then_action {ps = ps} {s = x} l d) = many_and part_kinds ps (action_part x) (parts_tokens l) (statement_tokens d)

pub body_tokens : {ps : List BodyTree} {toks rest : Toks} → AreBody ps toks rest → Writes (body_kinds (body_nodes ps)) toks rest
body_tokens {ps = ps} d = as_kinds (body_flat ps) (parts_tokens d)
