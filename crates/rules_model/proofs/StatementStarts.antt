-- How statements begin, and that each takes a token.
use Rattle.std.proofs.Common.{◌≡◌, ◌+◌, ◌<◌, ◌≤◌, true, false, List, [], ◌∷◌, length, Option, refl, arith, length-append}
use Rattle.chill_base.specs.declared.pos.Pos.{Pos}
use Rattle.chill_tree.specs.declared.token.Word.TheVariants as words
use Rattle.chill_tree.specs.declared.token.Sign.TheVariants as signs
use Rattle.chill_tree.specs.declared.tree.name.Name.{Name}
use Rattle.chill_tree.specs.ExprTree.{ExprTree}
use Rattle.chill_tree.specs.LocalTree.{LocalTree}
use Rattle.chill_tree.specs.SimpleTree.{SimpleTree}
use Rattle.chill_tree.specs.StatementTree.{StatementTree, BracketedTree, ElsIfTree, CaseTree, NamedTree, ReceiveTree, HandlerTree, BodyTree, local_part, action_part}
use Rattle.rules_model.specs.Marks.{Toks, sign, word, name_token, begins}
use Rattle.rules_model.specs.ListGrammar.{AreNames, IsLabel, no_label, with_label, IsClosing, left_open, closed_by}
use Rattle.rules_model.specs.LocalGrammar.{IsLocal, are_synonyms, are_syn_modes, are_new_modes, are_locations}
use Rattle.rules_model.specs.SimpleGrammar.{IsSimple, is_assign, is_update, is_call, is_call_word, is_exit, is_return, is_result, is_assert, is_cause, is_stop, is_start, is_delay, is_continue, is_send}
use Rattle.rules_model.specs.StatementGrammar.{IsDelayHead, no_head, head_sets, head_ranks, IsReceiveHead, sets_none, sets_one, IsStatement, is_empty, is_simple, is_bracketed, AreStatements, no_statements, then_statement, IsBracketed, is_if, is_case, is_do, is_begin, is_delay_case, is_receive_case, AreBranches, no_branches, then_branch, AreCases, no_cases, then_case, AreNamed, no_named, then_named, AreReceives, no_receives, then_receive, IsOtherwise, no_else, with_else, IsHandler, no_handler, with_handler, AreBody, no_parts, then_local, then_action}
use Rattle.rules_model.specs.StatementReading.{begins_label, begins_bracketed, begins_statement, begins_local}
use Rattle.rules_model.proofs.ExprStarts.{ranked_shrinks, ranges_shrink, location_shrinks, NameFirst}
use Rattle.rules_model.proofs.ListExact.{names_shrink}
use Rattle.rules_model.proofs.LocalExact.{local_shrinks}
use Rattle.rules_model.proofs.SimpleExact.{clause_shrinks, value_shrinks, control_shrinks, simple_shrinks, location_first, marks_stop}

label_shrinks : {l : Option Name} {toks rest : Toks} → IsLabel l toks rest → length rest ≤ length toks
label_shrinks no_label = omega arith
label_shrinks with_label = omega arith

pub closing_shrinks : {l c : Option Name} {toks rest : Toks} → IsClosing l c toks rest → length rest ≤ length toks
closing_shrinks left_open = omega arith
closing_shrinks (closed_by e) = omega arith

delay_head_shrinks : {l c : Option ExprTree} {toks rest : Toks} → IsDelayHead l c toks rest → length rest ≤ length toks
delay_head_shrinks no_head = omega arith
delay_head_shrinks (head_sets l c) = omega (arith, location_shrinks l, clause_shrinks value_shrinks c)
delay_head_shrinks (head_ranks e) = omega (arith, ranked_shrinks e)

receive_head_shrinks : {l : Option ExprTree} {toks rest : Toks} → IsReceiveHead l toks rest → length rest ≤ length toks
receive_head_shrinks sets_none = omega arith
receive_head_shrinks (sets_one l) = omega (arith, location_shrinks l)

names_take : (x : List Name) (toks rest : Toks) → AreNames x toks rest → length rest < length toks
names_take x toks rest d = names_shrink d

mutual
  pub statement_shrinks : {s : StatementTree} {toks rest : Toks} → IsStatement s toks rest → length rest < length toks
  statement_shrinks is_empty = omega arith
  statement_shrinks (is_simple a h) = omega (arith, simple_shrinks a, handler_shrinks h)
  statement_shrinks (is_bracketed l b h c) = omega (arith, label_shrinks l, bracketed_shrinks b, handler_shrinks h, closing_shrinks c)

  pub statements_shrink : {ss : List StatementTree} {toks rest : Toks} → AreStatements ss toks rest → length ss + length rest ≤ length toks
  statements_shrink no_statements = omega arith
  statements_shrink (then_statement {ss = ss} {s = s} l d) = omega (arith, statements_shrink l, statement_shrinks d, length-append ss (s ∷ []))

  bracketed_shrinks : {b : BracketedTree} {toks rest : Toks} → IsBracketed b toks rest → length rest < length toks
  bracketed_shrinks (is_if e ss bs o) = omega (arith, ranked_shrinks e, statements_shrink ss, branches_shrink bs, otherwise_shrinks o)
  bracketed_shrinks (is_case e cs lt o) = omega (arith, ranked_shrinks e, cases_shrink cs, otherwise_shrinks o)
  bracketed_shrinks (is_do c ss) = omega (arith, control_shrinks c, statements_shrink ss)
  bracketed_shrinks (is_begin ps) = omega (arith, body_shrinks ps)
  bracketed_shrinks (is_delay_case h ns lt) = omega (arith, delay_head_shrinks h, named_shrink ns)
  bracketed_shrinks (is_receive_case h rs lt o) = omega (arith, receive_head_shrinks h, receives_shrink rs, otherwise_shrinks o)

  pub branches_shrink : {bs : List ElsIfTree} {toks rest : Toks} → AreBranches bs toks rest → length bs + length rest ≤ length toks
  branches_shrink no_branches = omega arith
  branches_shrink (then_branch {bs = bs} {e = e} {ss = ss} {at = at} l d s) = omega (arith, branches_shrink l, ranked_shrinks d, statements_shrink s, length-append bs (record { at = at; condition = e; actions = ss } ∷ []))

  pub cases_shrink : {cs : List CaseTree} {toks rest : Toks} → AreCases cs toks rest → length cs + length rest ≤ length toks
  cases_shrink no_cases = omega arith
  cases_shrink (then_case {cs = cs} {ls = ls} {ss = ss} {at = at} l d s) = omega (arith, cases_shrink l, ranges_shrink d, statements_shrink s, length-append cs (record { at = at; labels = ls; actions = ss } ∷ []))

  pub named_shrink : {cs : List NamedTree} {toks rest : Toks} → AreNamed cs toks rest → length cs + length rest ≤ length toks
  named_shrink no_named = omega arith
  named_shrink (then_named {cs = cs} {ns = ns} {ss = ss} {at = at} l d s) = omega (arith, named_shrink l, names_shrink d, statements_shrink s, length-append cs (record { at = at; names = ns; actions = ss } ∷ []))

  pub receives_shrink : {cs : List ReceiveTree} {toks rest : Toks} → AreReceives cs toks rest → length cs + length rest ≤ length toks
  receives_shrink no_receives = omega arith
  receives_shrink (then_receive {cs = cs} {n = n} {ns = ns} {ss = ss} {at = at} l d s) = omega (arith, receives_shrink l, clause_shrinks names_take d, statements_shrink s, length-append cs (record { at = at; source = n; received = ns; actions = ss } ∷ []))

  pub otherwise_shrinks : {o : Option (List StatementTree)} {toks rest : Toks} → IsOtherwise o toks rest → length rest ≤ length toks
  otherwise_shrinks no_else = omega arith
  otherwise_shrinks (with_else s) = omega (arith, statements_shrink s)

  pub handler_shrinks : {h : Option HandlerTree} {toks rest : Toks} → IsHandler h toks rest → length rest ≤ length toks
  handler_shrinks no_handler = omega arith
  handler_shrinks (with_handler ns o h) = omega (arith, named_shrink ns, otherwise_shrinks o)

  pub body_shrinks : {ps : List BodyTree} {toks rest : Toks} → AreBody ps toks rest → length ps + length rest ≤ length toks
  body_shrinks no_parts = omega arith
  body_shrinks (then_local {ps = ps} {l = l} b d) = omega (arith, body_shrinks b, local_shrinks d, length-append ps (local_part l ∷ []))
  body_shrinks (then_action {ps = ps} {s = s} b d) = omega (arith, body_shrinks b, statement_shrinks d, length-append ps (action_part s ∷ []))

-- ---- what stands at the front of what may be left out

pub otherwise_front : (P : Toks → Type 0) → ((p : Pos) (m : Toks) → P (word p words.Else ∷ m)) → {o : Option (List StatementTree)} {toks rest : Toks} → IsOtherwise o toks rest → P rest → P toks
otherwise_front P at_word no_else h = h
otherwise_front P at_word (with_else {p = p} {m = m} s) h = at_word p m

pub handler_front : (P : Toks → Type 0) → ((p : Pos) (m : Toks) → P (word p words.On ∷ m)) → {o : Option HandlerTree} {toks rest : Toks} → IsHandler o toks rest → P rest → P toks
handler_front P at_word no_handler h = h
handler_front P at_word (with_handler {at = at} {m = m} ns o k) h = at_word at m

pub branches_front : (P : Toks → Type 0) → ((p : Pos) (m : Toks) → P (word p words.ElsIf ∷ m)) → {bs : List ElsIfTree} {toks rest : Toks} → AreBranches bs toks rest → P rest → P toks
branches_front P at_word no_branches h = h
branches_front P at_word (then_branch {at = at} {m = m} l d s) h = branches_front P at_word l (at_word at m)

pub cases_front : (P : Toks → Type 0) → ((p : Pos) (m : Toks) → P (sign p signs.Open ∷ m)) → {cs : List CaseTree} {toks rest : Toks} → AreCases cs toks rest → P rest → P toks
cases_front P at_sign no_cases h = h
cases_front P at_sign (then_case {at = at} {m = m} l d s) h = cases_front P at_sign l (at_sign at m)

pub named_front : (P : Toks → Type 0) → ((p : Pos) (m : Toks) → P (sign p signs.Open ∷ m)) → {cs : List NamedTree} {toks rest : Toks} → AreNamed cs toks rest → P rest → P toks
named_front P at_sign no_named h = h
named_front P at_sign (then_named {at = at} {m = m} l d s) h = named_front P at_sign l (at_sign at m)

pub receives_front : (P : Toks → Type 0) → ((p : Pos) (m : Toks) → P (sign p signs.Open ∷ m)) → {cs : List ReceiveTree} {toks rest : Toks} → AreReceives cs toks rest → P rest → P toks
receives_front P at_sign no_receives h = h
receives_front P at_sign (then_receive {n = n} {at = at} {m = m} l d s) h = receives_front P at_sign l (at_sign at (name_token n ∷ m))

pub closing_front : (P : Toks → Type 0) → ((n : Name) (m : Toks) → P (name_token n ∷ m)) → {l c : Option Name} {toks rest : Toks} → IsClosing l c toks rest → P rest → P toks
closing_front P at_name left_open h = h
closing_front P at_name (closed_by {n = n} {rest = rest} e) h = at_name n rest

-- ---- how they begin

pub record BracketedFirst (toks : Toks) : Type 0 where
  pub semicolon : begins signs.Semicolon toks ≡ false
  pub label : begins_label toks ≡ false
  pub bracketed : begins_bracketed toks ≡ true
  pub statement : begins_statement toks ≡ true

pub bracketed_first : {b : BracketedTree} {toks rest : Toks} → IsBracketed b toks rest → BracketedFirst toks
bracketed_first (is_if e ss bs o) = record { semicolon = refl; label = refl; bracketed = refl; statement = refl }
bracketed_first (is_case e cs lt o) = record { semicolon = refl; label = refl; bracketed = refl; statement = refl }
bracketed_first (is_do c ss) = record { semicolon = refl; label = refl; bracketed = refl; statement = refl }
bracketed_first (is_begin ps) = record { semicolon = refl; label = refl; bracketed = refl; statement = refl }
bracketed_first (is_delay_case h ns lt) = record { semicolon = refl; label = refl; bracketed = refl; statement = refl }
bracketed_first (is_receive_case h rs lt o) = record { semicolon = refl; label = refl; bracketed = refl; statement = refl }

pub record SimpleFirst (toks : Toks) : Type 0 where
  pub semicolon : begins signs.Semicolon toks ≡ false
  pub label : begins_label toks ≡ false
  pub bracketed : begins_bracketed toks ≡ false
  pub statement : begins_statement toks ≡ true
  pub local : begins_local toks ≡ false

name_simple : (toks : Toks) → NameFirst toks → SimpleFirst toks
name_simple toks f =
    rw f.here (begun f.name f.others f.no_colon)
  where
    begun : (x : Name) (others : Toks) → begins signs.Colon others ≡ false → SimpleFirst (name_token x ∷ others)
    begun x others c = record { semicolon = refl; label = c; bracketed = refl; statement = refl; local = refl }

pub simple_first : {a : SimpleTree} {toks rest : Toks} → IsSimple a toks rest → SimpleFirst toks
simple_first (is_assign {toks = toks} t v) = name_simple toks (location_first t refl refl)
simple_first (is_update {o = o} {kind = kind} {p = p} {q = q} {toks = toks} {m = m} t is may v) = let k = marks_stop p kind o (sign q signs.Becomes ∷ m) is in name_simple toks (location_first t k.1 k.2)
simple_first (is_call d) = record { semicolon = refl; label = refl; bracketed = refl; statement = refl; local = refl }
simple_first (is_call_word d) = record { semicolon = refl; label = refl; bracketed = refl; statement = refl; local = refl }
simple_first is_exit = record { semicolon = refl; label = refl; bracketed = refl; statement = refl; local = refl }
simple_first (is_return d) = record { semicolon = refl; label = refl; bracketed = refl; statement = refl; local = refl }
simple_first (is_result d) = record { semicolon = refl; label = refl; bracketed = refl; statement = refl; local = refl }
simple_first (is_assert d) = record { semicolon = refl; label = refl; bracketed = refl; statement = refl; local = refl }
simple_first is_cause = record { semicolon = refl; label = refl; bracketed = refl; statement = refl; local = refl }
simple_first is_stop = record { semicolon = refl; label = refl; bracketed = refl; statement = refl; local = refl }
simple_first (is_start d) = record { semicolon = refl; label = refl; bracketed = refl; statement = refl; local = refl }
simple_first (is_delay d) = record { semicolon = refl; label = refl; bracketed = refl; statement = refl; local = refl }
simple_first is_continue = record { semicolon = refl; label = refl; bracketed = refl; statement = refl; local = refl }
simple_first (is_send e t c) = record { semicolon = refl; label = refl; bracketed = refl; statement = refl; local = refl }

bracketed_local : {b : BracketedTree} {toks rest : Toks} → IsBracketed b toks rest → begins_local toks ≡ false
bracketed_local (is_if e ss bs o) = refl
bracketed_local (is_case e cs lt o) = refl
bracketed_local (is_do c ss) = refl
bracketed_local (is_begin ps) = refl
bracketed_local (is_delay_case h ns lt) = refl
bracketed_local (is_receive_case h rs lt o) = refl

labelled_first : {l : Option Name} {b : BracketedTree} {toks m rest : Toks} → IsLabel l toks m → IsBracketed b m rest → (begins_statement toks ≡ true) × (begins_local toks ≡ false)
labelled_first no_label b = ((bracketed_first b).statement, bracketed_local b)
labelled_first with_label b = (refl, refl)

pub statement_first : {s : StatementTree} {toks rest : Toks} → IsStatement s toks rest → (begins_statement toks ≡ true) × (begins_local toks ≡ false)
statement_first is_empty = (refl, refl)
statement_first (is_simple a h) = let f = simple_first a in (f.statement, f.local)
statement_first (is_bracketed l b h c) = labelled_first l b

pub local_first : {l : LocalTree} {toks rest : Toks} → IsLocal l toks rest → begins_local toks ≡ true
local_first (are_synonyms d) = refl
local_first (are_syn_modes d) = refl
local_first (are_new_modes d) = refl
local_first (are_locations d) = refl
