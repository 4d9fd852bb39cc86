-- The characters and the text literals at the nodes of statements are bytes, where those among their tokens are.
use Rattle.std.proofs.Common.{false, List, [], ◌∷◌, ◌++◌, Option, Some, None}
use Rattle.chill_tree.specs.declared.token.Word.TheVariants as words
use Rattle.chill_tree.specs.declared.token.Word.{Word}
use Rattle.chill_tree.specs.declared.token.Sign.TheVariants as signs
use Rattle.chill_tree.specs.declared.tree.name.Name.{Name}
use Rattle.chill_tree.specs.ExprTree.{ExprTree}
use Rattle.chill_tree.specs.StatementTree.{StatementTree, empty, simple, bracketed, BracketedTree, if_then, case_of, do_loop, begin_end, delay_case, receive_case, StatementNodes, no_statements, more_statements, ElsIfNodes, no_branches, more_branches, CaseNodes, no_cases, more_cases, NamedNodes, no_named, more_named, ReceiveNodes, no_receives, more_receives, OtherwiseNode, no_otherwise, otherwise, HandlerNode, no_handler, handler, BodyNodes, no_parts, more_locals, more_actions}
use Rattle.rules_model.specs.TreeTokens.{given, with_commas, in_parens, sign_kinds, name_kinds, names_kinds, expr_kinds, range_kinds, local_kinds, clause_kinds, control_kinds, simple_kinds, delay_head_kinds, receive_head_kinds, label_kinds, statement_kinds, bracketed_kinds, statements_kinds, branches_kinds, cases_kinds, named_alternatives_kinds, receives_kinds, otherwise_kinds, handler_kinds, body_kinds, word_kinds}
use Rattle.checks_model.specs.Sites.{Around, Site, at_set, at_priority, sites_of_local, some_site, events_listed, sites_of, sites_of_bracketed, sites_of_each, sites_of_branches, sites_of_cases, sites_of_events, sites_of_receives, sites_of_otherwise, sites_of_handler, sites_of_exceptions, sites_of_parts}
use Rattle.written_laws.specs.Written.{Each}
use Rattle.written_laws.proofs.Shown.{each_append}
use Rattle.byte_laws.specs.Bytes.{HasByteExprs}
use Rattle.byte_laws.proofs.Tokens.{Fine, pieces}
use Rattle.byte_laws.proofs.Exprs.{inside, of_expr, of_labels, of_simple, of_control, of_local}

abbrev pub Bytes : List Site → Type 0
Bytes ss = Each HasByteExprs ss

pub joined_bytes : (xs ys : List Site) → Bytes xs → Bytes ys → Bytes (xs ++ ys)
joined_bytes xs ys first later = each_append HasByteExprs xs ys first later

events : (earlier ns : List Name) → Bytes (events_listed earlier ns)
events earlier [] = tt
events earlier (n ∷ ns) = (tt, events (earlier ++ n ∷ []) ns)

of_priority : (w : Word) (o : Option ExprTree) → Fine (clause_kinds w o) → Bytes (some_site at_priority o)
of_priority w None fine = tt
of_priority w (Some e) fine = ((of_expr e fine.1, tt), tt)

delay_head : (l c : Option ExprTree) → Fine (delay_head_kinds l c) → Bytes (some_site at_set l) × Bytes (some_site at_priority c)
delay_head None None fine = (tt, tt)
delay_head None (Some e) fine = (tt, ((of_expr e (pieces (word_kinds words.Priority) (expr_kinds e ∷ sign_kinds signs.Semicolon ∷ []) fine).1.0, tt), tt))
delay_head (Some l) c fine =
    let p = pieces (word_kinds words.Set) (expr_kinds l ∷ clause_kinds words.Priority c ∷ sign_kinds signs.Semicolon ∷ []) fine in
    (((of_expr l p.1.0, tt), tt), of_priority words.Priority c p.1.1.0)

receive_head : (l : Option ExprTree) → Fine (receive_head_kinds l) → Bytes (some_site at_set l)
receive_head None fine = tt
receive_head (Some l) fine = ((of_expr l (pieces (word_kinds words.Set) (expr_kinds l ∷ sign_kinds signs.Semicolon ∷ []) fine).1.0, tt), tt)

mutual
  pub of_statement : (a : Around) (s : StatementTree) → Fine (statement_kinds s) → Bytes (sites_of a s)
  of_statement a (empty at) fine = tt
  of_statement a (simple at s h) fine = let p = pieces (simple_kinds s) (handler_kinds h ∷ sign_kinds signs.Semicolon ∷ []) fine in (of_simple s p.0, of_handler a h p.1.0)
  of_statement a (bracketed at l b h c) fine =
      let p = pieces (label_kinds l) (bracketed_kinds b ∷ handler_kinds h ∷ given name_kinds c ∷ sign_kinds signs.Semicolon ∷ []) fine in
      joined_bytes (sites_of_bracketed a b) (sites_of_handler a h) (of_bracketed a b p.1.0) (of_handler a h p.1.1.0)

  of_bracketed : (a : Around) (b : BracketedTree) → Fine (bracketed_kinds b) → Bytes (sites_of_bracketed a b)
  of_bracketed a (if_then at e ss bs o) fine =
      let p = pieces (word_kinds words.If) (expr_kinds e ∷ word_kinds words.Then ∷ statements_kinds ss ∷ branches_kinds bs ∷ otherwise_kinds o ∷ word_kinds words.Fi ∷ []) fine in
      let more = p.1.1.1 in
      ((of_expr e p.1.0, tt), joined_bytes (sites_of_each a ss ++ sites_of_branches a bs) (sites_of_otherwise a o) (joined_bytes (sites_of_each a ss) (sites_of_branches a bs) (of_each a ss more.0) (of_branches a bs more.1.0)) (of_otherwise a o more.1.1.0))
  of_bracketed a (case_of at e cs o) fine =
      let p = pieces (word_kinds words.Case) (expr_kinds e ∷ word_kinds words.Of ∷ cases_kinds cs ∷ otherwise_kinds o ∷ word_kinds words.Esac ∷ []) fine in
      ((of_expr e p.1.0, tt), joined_bytes (sites_of_cases a e cs) (sites_of_otherwise a o) (of_cases a e cs p.1.1.1.0) (of_otherwise a o p.1.1.1.1.0))
  of_bracketed a (do_loop at c ss) fine =
      let p = pieces (word_kinds words.Do) (control_kinds c ∷ sign_kinds signs.Semicolon ∷ statements_kinds ss ∷ word_kinds words.Od ∷ []) fine in
      (of_control c p.1.0, of_each a ss p.1.1.1.0)
  of_bracketed a (begin_end at ps) fine = of_parts a ps (pieces (word_kinds words.Begin) (body_kinds ps ∷ word_kinds words.End ∷ []) fine).1.0
  of_bracketed a (delay_case at l c ns) fine =
      let p = pieces (word_kinds words.Delay) (word_kinds words.Case ∷ delay_head_kinds l c ∷ named_alternatives_kinds ns ∷ word_kinds words.Esac ∷ []) fine in
      let head = delay_head l c p.1.1.0 in
      joined_bytes (some_site at_set l ++ some_site at_priority c) (sites_of_events a [] ns) (joined_bytes (some_site at_set l) (some_site at_priority c) head.0 head.1) (of_events a [] ns p.1.1.1.0)
  of_bracketed a (receive_case at l rs o) fine =
      let p = pieces (word_kinds words.Receive) (word_kinds words.Case ∷ receive_head_kinds l ∷ receives_kinds rs ∷ otherwise_kinds o ∷ word_kinds words.Esac ∷ []) fine in
      joined_bytes (some_site at_set l ++ sites_of_receives a [] rs) (sites_of_otherwise a o) (joined_bytes (some_site at_set l) (sites_of_receives a [] rs) (receive_head l p.1.1.0) (of_receives a [] rs p.1.1.1.0)) (of_otherwise a o p.1.1.1.1.0)

  of_each : (a : Around) (ss : StatementNodes) → Fine (statements_kinds ss) → Bytes (sites_of_each a ss)
  of_each a no_statements fine = tt
  of_each a (more_statements s ss) fine = let p = pieces (statement_kinds s) (statements_kinds ss ∷ []) fine in joined_bytes (sites_of a s) (sites_of_each a ss) (of_statement a s p.0) (of_each a ss p.1.0)

  of_branches : (a : Around) (bs : ElsIfNodes) → Fine (branches_kinds bs) → Bytes (sites_of_branches a bs)
  of_branches a no_branches fine = tt
  of_branches a (more_branches at e ss bs) fine =
      let p = pieces (word_kinds words.ElsIf) (expr_kinds e ∷ word_kinds words.Then ∷ statements_kinds ss ∷ branches_kinds bs ∷ []) fine in
      ((of_expr e p.1.0, tt), joined_bytes (sites_of_each a ss) (sites_of_branches a bs) (of_each a ss p.1.1.1.0) (of_branches a bs p.1.1.1.1.0))

  of_cases : (a : Around) (e : ExprTree) (cs : CaseNodes) → Fine (cases_kinds cs) → Bytes (sites_of_cases a e cs)
  of_cases a e no_cases fine = tt
  of_cases a e (more_cases at ls ss cs) fine =
      let p = pieces (in_parens (with_commas range_kinds ls)) (sign_kinds signs.Colon ∷ statements_kinds ss ∷ cases_kinds cs ∷ []) fine in
      (of_labels ls (inside (with_commas range_kinds ls) p.0), joined_bytes (sites_of_each a ss) (sites_of_cases a e cs) (of_each a ss p.1.1.0) (of_cases a e cs p.1.1.1.0))

  of_events : (a : Around) (earlier : List Name) (ns : NamedNodes) → Fine (named_alternatives_kinds ns) → Bytes (sites_of_events a earlier ns)
  of_events a earlier no_named fine = tt
  of_events a earlier (more_named at ns ss more) fine =
      let p = pieces (in_parens (names_kinds ns)) (sign_kinds signs.Colon ∷ statements_kinds ss ∷ named_alternatives_kinds more ∷ []) fine in
      joined_bytes (events_listed earlier ns ++ sites_of_each a ss) (sites_of_events a (earlier ++ ns) more) (joined_bytes (events_listed earlier ns) (sites_of_each a ss) (events earlier ns) (of_each a ss p.1.1.0)) (of_events a (earlier ++ ns) more p.1.1.1.0)

  of_receives : (a : Around) (earlier : List Name) (rs : ReceiveNodes) → Fine (receives_kinds rs) → Bytes (sites_of_receives a earlier rs)
  of_receives a earlier no_receives fine = tt
  of_receives a earlier (more_receives at n r ss more) fine =
      let p = pieces (in_parens (name_kinds n ++ given (λ xs. word_kinds words.In ++ names_kinds xs) r)) (sign_kinds signs.Colon ∷ statements_kinds ss ∷ receives_kinds more ∷ []) fine in
      (tt, (tt, joined_bytes (sites_of_each a ss) (sites_of_receives a (earlier ++ n ∷ []) more) (of_each a ss p.1.1.0) (of_receives a (earlier ++ n ∷ []) more p.1.1.1.0)))

  of_otherwise : (a : Around) (o : OtherwiseNode) → Fine (otherwise_kinds o) → Bytes (sites_of_otherwise a o)
  of_otherwise a no_otherwise fine = tt
  of_otherwise a (otherwise ss) fine = of_each a ss fine.1

  pub of_handler : (a : Around) (h : HandlerNode) → Fine (handler_kinds h) → Bytes (sites_of_handler a h)
  of_handler a no_handler fine = tt
  of_handler a (handler at ns o) fine =
      let p = pieces (word_kinds words.On) (named_alternatives_kinds ns ∷ otherwise_kinds o ∷ word_kinds words.End ∷ []) fine in
      joined_bytes (sites_of_exceptions a [] ns) (sites_of_otherwise a o) (of_exceptions a [] ns p.1.0) (of_otherwise a o p.1.1.0)

  of_exceptions : (a : Around) (earlier : List Name) (ns : NamedNodes) → Fine (named_alternatives_kinds ns) → Bytes (sites_of_exceptions a earlier ns)
  of_exceptions a earlier no_named fine = tt
  of_exceptions a earlier (more_named at ns ss more) fine =
      let p = pieces (in_parens (names_kinds ns)) (sign_kinds signs.Colon ∷ statements_kinds ss ∷ named_alternatives_kinds more ∷ []) fine in
      (tt, joined_bytes (sites_of_each a ss) (sites_of_exceptions a (earlier ++ ns) more) (of_each a ss p.1.1.0) (of_exceptions a (earlier ++ ns) more p.1.1.1.0))

  pub of_parts : (a : Around) (ps : BodyNodes) → Fine (body_kinds ps) → Bytes (sites_of_parts a ps)
  of_parts a no_parts fine = tt
  of_parts a (more_locals l ps) fine = let p = pieces (local_kinds l) (body_kinds ps ∷ []) fine in joined_bytes (sites_of_local false l) (sites_of_parts a ps) (of_local false l p.0) (of_parts a ps p.1.0)
  of_parts a (more_actions s ps) fine = let p = pieces (statement_kinds s) (body_kinds ps ∷ []) fine in joined_bytes (sites_of a s) (sites_of_parts a ps) (of_statement a s p.0) (of_parts a ps p.1.0)
