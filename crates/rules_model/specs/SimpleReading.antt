-- Reading actions that hold no other, and what controls a loop, from the front.
use Rattle.std.specs.Prelude.{ℕ, ◌==◌, ◌&&◌, ◌||◌, Bool, true, false, List, [], ◌∷◌, length, Option, Some, None, is_some, Ok, Err, if◌then◌else◌}
use Rattle.chill_base.specs.declared.pos.Pos.{Pos}
use Rattle.chill_tree.specs.declared.token.Word.{Word}
use Rattle.chill_tree.specs.declared.token.Word.TheVariants as words
use Rattle.chill_tree.specs.declared.token.Sign.TheVariants as signs
use Rattle.chill_tree.specs.declared.tree.name.Name.{Name}
use Rattle.chill_tree.specs.declared.tree.expr.Operator.{Operator}
use Rattle.chill_tree.specs.ExprTree.{ExprTree, name, apply, expr_nodes, place_of}
use Rattle.chill_tree.specs.SimpleTree.{SimpleTree, assign, update, call_of, exit, return_with, result_of, assert_that, cause, stop, start_of, delay, continue_event, send, ControlTree, while_holds, for_ever, for_members, for_steps}
use Rattle.rules_model.specs.Marks.{Toks, begins, begins_with, begins_expr, behind, front, operator_of, may_update}
use Rattle.rules_model.specs.Reading.{Absent, Read, ◌>>=◌, chosen, sign_at, word_at, name_at, listed_at}
use Rattle.rules_model.specs.ExprReading.{expr_at, args_at, location_parts_at}
use Rattle.rules_model.specs.ModeReading.{value_at}

-- In what follows n is the number of levels of nesting that are left behind an opening token.

-- a word and what it asks for, if the word is there
unfoldable pub clause_at : {X : Type 0} → Word → (Toks → Read X) → Toks → Read (Option X)
clause_at w read toks = if begins_with w toks then (word_at w toks >>= λ p. read p.1 >>= λ x. Ok (Some x.0, x.1)) else Ok (None, toks)

-- whether a word is there
unfoldable pub flag_at : Word → Toks → Read Bool
flag_at w toks = if begins_with w toks then (word_at w toks >>= λ p. Ok (true, p.1)) else Ok (false, toks)

unfoldable pub members_at : ℕ → Pos → Name → Toks → Read ControlTree
members_at n at x toks = word_at words.In toks >>= λ w. value_at n w.1 >>= λ e. clause_at words.While (value_at n) e.1 >>= λ c. Ok (for_members at x e.0 c.0, c.1)

unfoldable pub steps_at : ℕ → Pos → Name → Toks → Read ControlTree
steps_at n at x toks =
    sign_at signs.Becomes toks >>= λ p. value_at n p.1 >>= λ e. clause_at words.By (value_at n) e.1 >>= λ b. flag_at words.Down b.1 >>= λ d. word_at words.To d.1 >>= λ t. value_at n t.1 >>= λ f. clause_at words.While (value_at n) f.1 >>= λ c. Ok (for_steps at x e.0 b.0 d.0 f.0 c.0, c.1)

unfoldable pub for_at : ℕ → Pos → Toks → Read ControlTree
for_at n at toks =
    if begins_with words.Ever toks then (word_at words.Ever toks >>= λ w. Ok (for_ever at, w.1))
    else (name_at toks >>= λ x. if begins_with words.In x.1 then members_at n at x.0 x.1 else steps_at n at x.0 x.1)

unfoldable pub control_at : ℕ → Toks → Read ControlTree
control_at n toks =
    if begins_with words.While toks then (word_at words.While toks >>= λ w. value_at n w.1 >>= λ e. Ok (while_holds w.0 e.0, e.1))
    else (word_at words.For toks >>= λ w. for_at n w.0 w.1)

-- ---- actions

-- the operator of an assignment, with its place
abbrev pub update_of : Toks → Option (Pos × Operator)
update_of [] = None
update_of (t ∷ rest) = chosen (operator_of t.kind) None (λ o. if may_update o then Some (t.at, o) else None)

-- whether more of a location or of an assignment stands there
abbrev pub begins_more : Toks → Bool
begins_more toks = begins signs.Open toks || begins signs.Dot toks || begins signs.Becomes toks || is_some (update_of toks)

-- what is assigned to a location
unfoldable pub assigned_at : ℕ → ExprTree → Toks → Read SimpleTree
assigned_at n t toks =
    if begins signs.Becomes toks then (sign_at signs.Becomes toks >>= λ p. value_at n p.1 >>= λ v. Ok (assign (place_of t) t v.0, v.1))
    else chosen (update_of toks) (Err (Absent (front toks))) (λ o. sign_at signs.Becomes (behind toks) >>= λ p. value_at n p.1 >>= λ v. Ok (update (place_of t) t o.1 o.0 v.0, v.1))

-- what there is with at most so many more parts, and what is assigned to it
unfoldable pub assignment_at : ℕ → ℕ → ExprTree → Toks → Read SimpleTree
assignment_at n k t toks = location_parts_at (expr_at n) k t toks >>= λ l. assigned_at n l.0 l.1

-- a name with arguments is a call, unless it is one expression and more of a location or of an assignment follows
unfoldable pub applied_at : ℕ → Name → List ExprTree → Toks → Read SimpleTree
applied_at n x es toks = if begins_more toks && length es == 1 then assignment_at n 31 (apply x.at (name x) (expr_nodes es)) toks else Ok (call_of x.at false x es, toks)

unfoldable pub named_action_at : ℕ → Toks → Read SimpleTree
named_action_at n toks = name_at toks >>= λ x. if begins signs.Open x.1 then (args_at n (expr_at n) x.1 >>= λ es. applied_at n x.0 es.0 es.1) else assignment_at n 32 (name x.0) x.1

unfoldable pub call_at : ℕ → Toks → Read SimpleTree
call_at n toks = word_at words.Call toks >>= λ w. name_at w.1 >>= λ x. args_at n (expr_at n) x.1 >>= λ es. Ok (call_of w.0 true x.0 es.0, es.1)

unfoldable pub return_at : ℕ → Toks → Read SimpleTree
return_at n toks = word_at words.Return toks >>= λ w. if begins_expr w.1 then (value_at n w.1 >>= λ v. Ok (return_with w.0 (Some v.0), v.1)) else Ok (return_with w.0 None, w.1)

unfoldable pub start_at : ℕ → Toks → Read SimpleTree
start_at n toks = word_at words.Start toks >>= λ w. name_at w.1 >>= λ x. args_at n (expr_at n) x.1 >>= λ es. Ok (start_of w.0 x.0 es.0, es.1)

unfoldable pub delay_at : ℕ → Toks → Read SimpleTree
delay_at n toks = word_at words.Delay toks >>= λ w. name_at w.1 >>= λ x. clause_at words.Priority (value_at n) x.1 >>= λ c. Ok (delay w.0 x.0 c.0, c.1)

unfoldable pub message_at : ℕ → Toks → Read (Option (List ExprTree))
message_at n toks =
    if begins signs.Open toks then (sign_at signs.Open toks >>= λ p. listed_at (expr_at n p.0) p.1 >>= λ es. sign_at signs.Close es.1 >>= λ c. Ok (Some es.0, c.1)) else Ok (None, toks)

unfoldable pub send_at : ℕ → Toks → Read SimpleTree
send_at n toks =
    word_at words.Send toks >>= λ w. name_at w.1 >>= λ x. message_at n x.1 >>= λ es. clause_at words.To (value_at n) es.1 >>= λ t. clause_at words.Priority (value_at n) t.1 >>= λ c. Ok (send w.0 x.0 es.0 t.0 c.0, c.1)

-- a word and a name
abbrev pub word_name_at : Word → (Pos → Name → SimpleTree) → Toks → Read SimpleTree
word_name_at w made toks = word_at w toks >>= λ p. name_at p.1 >>= λ x. Ok (made p.0 x.0, x.1)

-- a word and an expression
abbrev pub word_value_at : ℕ → Word → (Pos → ExprTree → SimpleTree) → Toks → Read SimpleTree
word_value_at n w made toks = word_at w toks >>= λ p. value_at n p.1 >>= λ v. Ok (made p.0 v.0, v.1)

unfoldable pub simple_at : ℕ → Toks → Read SimpleTree
simple_at n toks =
    if begins_with words.Call toks then call_at n toks
    else if begins_with words.Exit toks then word_name_at words.Exit exit toks
    else if begins_with words.Return toks then return_at n toks
    else if begins_with words.Result toks then word_value_at n words.Result result_of toks
    else if begins_with words.Assert toks then word_value_at n words.Assert assert_that toks
    else if begins_with words.Cause toks then word_name_at words.Cause cause toks
    else if begins_with words.Stop toks then (word_at words.Stop toks >>= λ w. Ok (stop w.0, w.1))
    else if begins_with words.Start toks then start_at n toks
    else if begins_with words.Delay toks then delay_at n toks
    else if begins_with words.Continue toks then word_name_at words.Continue continue_event toks
    else if begins_with words.Send toks then send_at n toks
    else named_action_at n toks
