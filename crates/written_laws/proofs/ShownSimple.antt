-- The expressions of an action that holds no other, and of what controls a loop, have short text literals.
use Rattle.std.proofs.Common.{List, [], ◌∷◌, ◌++◌, Option, refl}
use Rattle.chill_tree.specs.declared.token.Word.{Word}
use Rattle.chill_tree.specs.ExprTree.{ExprTree, RangeTree, alone, between}
use Rattle.chill_tree.specs.SimpleTree.{SimpleTree, ControlTree}
use Rattle.rules_model.specs.Marks.{Toks}
use Rattle.rules_model.specs.ExprGrammar.{IsExpr, AreRanges}
use Rattle.rules_model.specs.ListGrammar.{IsClause, no_clause, with_clause}
use Rattle.rules_model.specs.SimpleGrammar.{IsControl, is_while, is_ever, is_members, is_steps, IsValue, no_value, with_value, IsMessage, no_message, with_message, IsSimple, is_assign, is_update, is_call, is_call_word, is_exit, is_return, is_result, is_assert, is_cause, is_stop, is_start, is_delay, is_continue, is_send}
use Rattle.checks_model.specs.Phases.{some_expr, some_exprs, exprs_of_simple, priority_of, exprs_of_control, exprs_of_label, exprs_of_labels}
use Rattle.written_laws.specs.Written.{Each}
use Rattle.written_laws.proofs.Shown.{Shown, none, skip, ends, both, behind, so, each_append, each_flat}
use Rattle.written_laws.proofs.ShownExpr.{IsSpelled, RangeIsSpelled, expr_shown, location_shown, args_shown, exprs_shown, ranges_shown, args_as_nodes}
use Rattle.written_laws.proofs.ShownMode.{flag_passed}

abbrev pub AreShort : List ExprTree → Type 0
AreShort es = Each IsSpelled es

pub short_both : (es fs : List ExprTree) → AreShort es → AreShort fs → AreShort (es ++ fs)
short_both es fs first later = each_append IsSpelled es fs first later

-- what may be left out
pub clause_shown : {w : Word} {c : Option ExprTree} {toks rest : Toks} → IsClause w IsExpr c toks rest → Shown (AreShort (some_expr c)) toks rest
clause_shown no_clause = none
clause_shown (with_clause d) = skip (so (λ short. (short, tt)) (expr_shown d))

value_shown : {v : Option ExprTree} {toks rest : Toks} → IsValue v toks rest → Shown (AreShort (some_expr v)) toks rest
value_shown no_value = none
value_shown (with_value d) = so (λ short. (short, tt)) (expr_shown d)

message_shown : {es : Option (List ExprTree)} {toks rest : Toks} → IsMessage es toks rest → Shown (AreShort (some_exprs es)) toks rest
message_shown no_message = none
message_shown (with_message d) = skip (ends (exprs_shown d))

-- the labels of an alternative
label_short : (l : RangeTree) → RangeIsSpelled l → AreShort (exprs_of_label l)
label_short (alone e) short = (short, tt)
label_short (between l h) short = (short.0, (short.1, tt))

pub labels_shown : {ls : List RangeTree} {toks rest : Toks} → AreRanges ls toks rest → Shown (AreShort (exprs_of_labels ls)) toks rest
labels_shown {ls = ls} d = so (each_flat RangeIsSpelled IsSpelled exprs_of_label label_short ls) (ranges_shown d)

pub control_shown : {c : ControlTree} {toks rest : Toks} → IsControl c toks rest → Shown (AreShort (exprs_of_control c)) toks rest
control_shown (is_while d) = skip (so (λ short. (short, tt)) (expr_shown d))
control_shown is_ever = skip (skip none)
control_shown (is_members d w) = skip (skip (skip (both (expr_shown d) (clause_shown w))))
control_shown (is_steps {e = e} {f = f} {b = b} {c = c} d by down to w) =
    skip (skip (skip (so (λ p. (p.0.0.0, short_both (some_expr b) (f ∷ some_expr c) p.0.0.1 (p.0.1, p.1))) (both (both (both (expr_shown d) (clause_shown by)) (behind (ends (flag_passed down)) (expr_shown to))) (clause_shown w)))))

pub simple_shown : {a : SimpleTree} {toks rest : Toks} → IsSimple a toks rest → Shown (AreShort (exprs_of_simple a ++ some_expr (priority_of a))) toks rest
simple_shown (is_assign l d) = so (λ p. (p.0, (p.1, tt))) (both (ends (location_shown l)) (expr_shown d))
simple_shown (is_update l is may d) = so (λ p. (p.0, (p.1, tt))) (both (ends (ends (location_shown l))) (expr_shown d))
simple_shown (is_call d) = skip (skip (so (λ short. (((tt, short.0), (refl, (tt, short.1))), tt)) (args_as_nodes d)))
simple_shown (is_call_word d) = skip (skip (skip (so (λ short. (((tt, short.0), (refl, (tt, short.1))), tt)) (args_as_nodes d))))
simple_shown is_exit = skip (skip none)
simple_shown (is_return {v = v} d) = skip (so (λ short. short_both (some_expr v) [] short tt) (value_shown d))
simple_shown (is_result d) = skip (so (λ short. (short, tt)) (expr_shown d))
simple_shown (is_assert d) = skip (so (λ short. (short, tt)) (expr_shown d))
simple_shown is_cause = skip (skip none)
simple_shown is_stop = skip none
simple_shown (is_start {es = es} d) = skip (skip (skip (so (λ short. short_both es [] short tt) (args_shown d))))
simple_shown (is_delay d) = skip (skip (clause_shown d))
simple_shown is_continue = skip (skip none)
simple_shown (is_send {es = es} {t = t} {c = c} m to d) =
    skip (skip (so (λ p. short_both (some_exprs es ++ some_expr t) (some_expr c) (short_both (some_exprs es) (some_expr t) p.0.0 p.0.1) p.1) (both (both (message_shown m) (clause_shown to)) (clause_shown d))))
