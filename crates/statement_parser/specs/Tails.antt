-- The ends of long readings, as functions of what was read before them.
use Rattle.std.specs.Prelude.{ℕ, Bool, List, Option, Ok, if◌then◌else◌}
use Rattle.chill_base.specs.declared.pos.Pos.{Pos}
use Rattle.chill_tree.specs.declared.token.Word.TheVariants as words
use Rattle.chill_tree.specs.declared.token.Sign.TheVariants as signs
use Rattle.chill_tree.specs.declared.tree.name.Name.{Name}
use Rattle.chill_tree.specs.declared.tree.expr.Operator.{Operator}
use Rattle.chill_tree.specs.ExprTree.{ExprTree, place_of}
use Rattle.chill_tree.specs.SimpleTree.{ControlTree, for_steps, SimpleTree, stop, continue_event, update}
use Rattle.chill_tree.specs.StatementTree.{StatementTree, BracketedTree, if_then, case_of, delay_case, receive_case, CaseTree, statement_nodes, branch_nodes, case_nodes, named_nodes, receive_nodes, otherwise_node}
use Rattle.rules_model.specs.Marks.{Toks, begins_with}
use Rattle.rules_model.specs.Reading.{Read, ◌>>=◌, sign_at, word_at, many_at}
use Rattle.rules_model.specs.Nesting.{less}
use Rattle.rules_model.specs.ModeReading.{value_at}
use Rattle.rules_model.specs.SimpleReading.{clause_at, word_name_at, start_at, delay_at, send_at, named_action_at}
use Rattle.rules_model.specs.StatementReading.{Acts, kept, otherwise_at, branch_at, alternative_at, receipt_at}

-- a loop by steps, from TO on
unfoldable pub steps_end_at : ℕ → Pos → Name → ExprTree → Option ExprTree → Bool → Toks → Read ControlTree
steps_end_at n at x e b d toks = word_at words.To toks >>= λ t. value_at n t.1 >>= λ f. clause_at words.While (value_at n) f.1 >>= λ c. Ok (for_steps at x e b d f.0 c.0, c.1)

-- an action of concurrent execution, or one that begins with a name
unfoldable pub other_simple_at : ℕ → Toks → Read SimpleTree
other_simple_at n toks =
    if begins_with words.Stop toks then (word_at words.Stop toks >>= λ w. Ok (stop w.0, w.1))
    else if begins_with words.Start toks then start_at n toks
    else if begins_with words.Delay toks then delay_at n toks
    else if begins_with words.Continue toks then word_name_at words.Continue continue_event toks
    else if begins_with words.Send toks then send_at n toks
    else named_action_at n toks

-- what is assigned with an operator, from behind that on
unfoldable pub updated_at : ℕ → ExprTree → Pos × Operator → Toks → Read SimpleTree
updated_at n t o toks = sign_at signs.Becomes toks >>= λ p. value_at n p.1 >>= λ v. Ok (update (place_of t) t o.1 o.0 v.0, v.1)

-- In what follows acts reads the actions in what opened at a place, and n is the number of levels that are left inside.

-- an IF from behind its first actions on
unfoldable pub if_end_at : ℕ → Acts → Pos → ExprTree → List StatementTree → Toks → Read BracketedTree
if_end_at n acts at e ss toks = many_at (branch_at (less n) acts at) toks >>= λ bs. otherwise_at acts at bs.1 >>= λ o. word_at words.Fi o.1 >>= λ f. Ok (if_then at e (statement_nodes ss) (branch_nodes bs.0) (otherwise_node o.0), f.1)

-- a CASE from behind its alternatives on
unfoldable pub case_end_at : Acts → Pos → ExprTree → List CaseTree → Toks → Read BracketedTree
case_end_at acts at e cs toks = kept cs toks (otherwise_at acts at toks >>= λ o. word_at words.Esac o.1 >>= λ f. Ok (case_of at e (case_nodes cs) (otherwise_node o.0), f.1))

-- a DELAY CASE from its alternatives on
unfoldable pub delay_end_at : Acts → Pos → Pos → Option ExprTree → Option ExprTree → Toks → Read BracketedTree
delay_end_at acts at p l e toks = many_at (alternative_at acts p) toks >>= λ ns. kept ns.0 ns.1 (word_at words.Esac ns.1 >>= λ f. Ok (delay_case at l e (named_nodes ns.0), f.1))

-- a RECEIVE CASE from its alternatives on
unfoldable pub receive_end_at : Acts → Pos → Pos → Option ExprTree → Toks → Read BracketedTree
receive_end_at acts at p l toks = many_at (receipt_at acts p) toks >>= λ rs. kept rs.0 rs.1 (otherwise_at acts p rs.1 >>= λ o. word_at words.Esac o.1 >>= λ f. Ok (receive_case at l (receive_nodes rs.0) (otherwise_node o.0), f.1))
