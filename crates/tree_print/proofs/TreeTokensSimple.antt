-- The tokens of an action that holds no other, and of what controls a loop, are its own.
use Rattle.std.proofs.Common.{List, ◌++◌, Option, ap, sym}
use Rattle.chill_tree.specs.declared.token.Sign.TheVariants as signs
use Rattle.chill_tree.specs.ExprTree.{ExprTree}
use Rattle.chill_tree.specs.SimpleTree.{SimpleTree, ControlTree}
use Rattle.rules_model.specs.Marks.{Toks}
use Rattle.rules_model.specs.ExprGrammar.{AreArgs, IsExpr}
use Rattle.rules_model.specs.SimpleGrammar.{IsControl, is_while, is_ever, is_members, is_steps, IsValue, no_value, with_value, IsMessage, no_message, with_message, IsSimple, is_assign, is_update, is_call, is_call_word, is_exit, is_return, is_result, is_assert, is_cause, is_stop, is_start, is_delay, is_continue, is_send}
use Rattle.rules_model.specs.TreeTokens.{given, sign_kinds, with_commas, expr_kinds, control_kinds, args_kinds, simple_kinds}
use Rattle.tree_print.proofs.TreeTokens.{Writes, nothing, token, token_of, last, both, as_kinds}
use Rattle.tree_print.proofs.TreeTokensExpr.{exprs_listed, operator_token, args_tokens, exprs_tokens, ranked_tokens, location_tokens}
use Rattle.tree_print.proofs.TreeTokensList.{Tells, clause_tokens, flag_tokens}

pub expr_tokens : Tells IsExpr expr_kinds
expr_tokens e toks rest d = ranked_tokens d

pub control_tokens : {c : ControlTree} {toks rest : Toks} → IsControl c toks rest → Writes (control_kinds c) toks rest
control_tokens (is_while d) = token (ranked_tokens d)
control_tokens is_ever = token last
control_tokens (is_members d w) = token (token (token (both (ranked_tokens d) (clause_tokens expr_kinds expr_tokens w))))
control_tokens (is_steps d by down to w) =
    token (token (token (both (both (both (both (both (ranked_tokens d) (clause_tokens expr_kinds expr_tokens by)) (flag_tokens down)) last) (ranked_tokens to)) (clause_tokens expr_kinds expr_tokens w))))

value_tokens : {v : Option ExprTree} {toks rest : Toks} → IsValue v toks rest → Writes (given expr_kinds v) toks rest
value_tokens no_value = nothing
value_tokens (with_value d) = ranked_tokens d

message_tokens : {es : Option (List ExprTree)} {toks rest : Toks} → IsMessage es toks rest → Writes (given args_kinds es) toks rest
message_tokens no_message = nothing
message_tokens (with_message d) = token (both (exprs_tokens d).writes last)

listed_args_tokens : {es : List ExprTree} {toks rest : Toks} → AreArgs es toks rest → Writes (with_commas expr_kinds es ++ sign_kinds signs.Close) toks rest
listed_args_tokens {es = es} d = as_kinds (ap (λ ks. ks ++ sign_kinds signs.Close) (sym (exprs_listed es))) (args_tokens d)

pub simple_tokens : {a : SimpleTree} {toks rest : Toks} → IsSimple a toks rest → Writes (simple_kinds a) toks rest
simple_tokens (is_assign t v) = both (both (location_tokens t) last) (ranked_tokens v)
simple_tokens (is_update {o = o} {kind = kind} t is may v) = both (both (location_tokens t) (token_of (operator_token kind o is) last)) (ranked_tokens v)
simple_tokens (is_call d) = token (token (listed_args_tokens d))
simple_tokens (is_call_word d) = token (token (token (listed_args_tokens d)))
simple_tokens is_exit = token last
simple_tokens (is_return v) = token (value_tokens v)
simple_tokens (is_result v) = token (ranked_tokens v)
simple_tokens (is_assert v) = token (ranked_tokens v)
simple_tokens is_cause = token last
simple_tokens is_stop = last
simple_tokens (is_start d) = token (token (token (listed_args_tokens d)))
simple_tokens (is_delay c) = token (token (clause_tokens expr_kinds expr_tokens c))
simple_tokens is_continue = token last
simple_tokens (is_send es to c) = token (token (both (both (message_tokens es) (clause_tokens expr_kinds expr_tokens to)) (clause_tokens expr_kinds expr_tokens c)))
