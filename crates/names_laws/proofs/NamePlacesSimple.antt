-- The names in an action that holds no other, and in what controls a loop, stand among its tokens, in order.
use Rattle.std.proofs.Common.{List, [], ◌∷◌, ◌++◌, Bool, true, false, Option, Some, None}
use Rattle.std.specs.Prelude.{if◌then◌else◌}
use Rattle.chill_tree.specs.declared.token.Token.{Token}
use Rattle.chill_tree.specs.declared.tree.name.Name.{Name}
use Rattle.chill_tree.specs.ExprTree.{ExprTree}
use Rattle.chill_tree.specs.SimpleTree.{SimpleTree, ControlTree}
use Rattle.rules_model.specs.Marks.{Toks}
use Rattle.rules_model.specs.SimpleGrammar.{IsControl, is_while, is_ever, is_members, is_steps, IsValue, no_value, with_value, IsMessage, no_message, with_message, IsSimple, is_assign, is_update, is_call, is_call_word, is_exit, is_return, is_result, is_assert, is_cause, is_stop, is_start, is_delay, is_continue, is_send}
use Rattle.names_model.specs.Identifiers.{identifier}
use Rattle.names_model.specs.Parts.{stray}
use Rattle.names_model.specs.ExprMentions.{mentions_of, mentions_of_some, mentions_of_args}
use Rattle.names_model.specs.StatementParts.{encloses, exit_parts, mentions_of_some_args, simple_parts, control_parts, turn_parts}
use Rattle.names_laws.proofs.NamePlaces.{Sought, of_mention, of_part, passed, Uses, none, skip, ends, pass, both, mentioning, mentioned_uses, counter_uses}
use Rattle.names_laws.proofs.NamePlacesExpr.{args_uses, exprs_uses, location_uses}
use Rattle.names_laws.proofs.NamePlacesMode.{expr_uses, clause_uses, flag_passed}

module _ (sought : Sought) where
  -- the counter and the condition of a loop stand in its own block
  pub control_uses : {c : ControlTree} {toks rest : Toks} → IsControl c toks rest → Uses (of_part sought) (control_parts c ++ turn_parts c) toks rest
  control_uses (is_while {e = e} d) = skip (mentioned_uses sought (mentions_of e) (expr_uses sought d))
  control_uses is_ever = skip (skip none)
  control_uses (is_members {n = n} {e = e} {c = c} d w) = skip (counter_uses sought n (mentions_of e) (mentions_of_some c) (expr_uses sought d) (clause_uses sought w))
  control_uses (is_steps {n = n} {e = e} {f = f} {b = b} {c = c} d by down to w) =
      skip (counter_uses sought n (mentions_of e ++ mentions_of_some b ++ mentions_of f) (mentions_of_some c) (both (both (expr_uses sought d) (clause_uses sought by)) (pass (ends (flag_passed down)) (expr_uses sought to))) (clause_uses sought w))

  value_uses : {v : Option ExprTree} {toks rest : Toks} → IsValue v toks rest → Uses (of_mention sought) (mentions_of_some v) toks rest
  value_uses no_value = none
  value_uses (with_value d) = expr_uses sought d

  message_uses : {es : Option (List ExprTree)} {toks rest : Toks} → IsMessage es toks rest → Uses (of_mention sought) (mentions_of_some_args es) toks rest
  message_uses no_message = none
  message_uses (with_message d) = skip (ends (exprs_uses sought None d))

  exit_uses : (labels : List Name) (n : Name) {t u : Token} {rest : Toks} → Uses (of_part sought) (exit_parts labels n) (t ∷ u ∷ rest) rest
  exit_uses labels n {t = t} {u = u} {rest = rest} = by (encloses labels n)
    where
      by : (b : Bool) → Uses (of_part sought) (if b then [] else stray (identifier n) ∷ []) (t ∷ u ∷ rest) rest
      by true = skip (skip none)
      by false = record { by = λ ps w. passed (passed w) }

  pub simple_uses : (labels : List Name) {a : SimpleTree} {toks rest : Toks} → IsSimple a toks rest → Uses (of_part sought) (simple_parts labels a) toks rest
  simple_uses labels (is_assign {t = t} {v = v} l d) = mentioned_uses sought (mentions_of t ++ mentions_of v) (both (ends (location_uses sought l)) (expr_uses sought d))
  simple_uses labels (is_update {t = t} {v = v} l is may d) = mentioned_uses sought (mentions_of t ++ mentions_of v) (both (ends (ends (location_uses sought l))) (expr_uses sought d))
  simple_uses labels (is_call {n = n} {es = es} d) = mentioning sought (skip (mentioned_uses sought (mentions_of_args (Some n) es) (args_uses sought (Some n) d)))
  simple_uses labels (is_call_word {n = n} {es = es} d) = skip (mentioning sought (skip (mentioned_uses sought (mentions_of_args (Some n) es) (args_uses sought (Some n) d))))
  simple_uses labels (is_exit {n = n}) = exit_uses labels n
  simple_uses labels (is_return {v = v} d) = skip (mentioned_uses sought (mentions_of_some v) (value_uses d))
  simple_uses labels (is_result {v = v} d) = skip (mentioned_uses sought (mentions_of v) (expr_uses sought d))
  simple_uses labels (is_assert {v = v} d) = skip (mentioned_uses sought (mentions_of v) (expr_uses sought d))
  simple_uses labels is_cause = skip (skip none)
  simple_uses labels is_stop = skip none
  simple_uses labels (is_start {es = es} d) = skip (mentioning sought (skip (mentioned_uses sought (mentions_of_args None es) (args_uses sought None d))))
  simple_uses labels (is_delay {c = c} d) = skip (mentioning sought (mentioned_uses sought (mentions_of_some c) (clause_uses sought d)))
  simple_uses labels is_continue = skip (mentioning sought none)
  simple_uses labels (is_send {es = es} {t = t} {c = c} m to d) =
      skip (mentioning sought (mentioned_uses sought (mentions_of_some_args es ++ mentions_of_some t ++ mentions_of_some c) (both (both (message_uses m) (clause_uses sought to)) (clause_uses sought d))))
