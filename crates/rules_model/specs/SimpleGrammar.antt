-- The grammar of actions that hold no other, and of what controls a loop.
use Rattle.std.specs.Prelude.{◌≡◌, Bool, true, false, List, ◌∷◌, Option, Some, None}
use Rattle.chill_base.specs.declared.pos.Pos.{Pos}
use Rattle.chill_tree.specs.declared.token.Word.TheVariants as words
use Rattle.chill_tree.specs.declared.token.Sign.TheVariants as signs
use Rattle.chill_tree.specs.declared.token.TokenKind.{TokenKind}
use Rattle.chill_tree.specs.declared.tree.name.Name.{Name}
use Rattle.chill_tree.specs.declared.tree.expr.Operator.{Operator}
use Rattle.chill_tree.specs.ExprTree.{ExprTree, place_of}
use Rattle.chill_tree.specs.SimpleTree.{SimpleTree, assign, update, call_of, exit, return_with, result_of, assert_that, cause, stop, start_of, delay, continue_event, send, ControlTree, while_holds, for_ever, for_members, for_steps}
use Rattle.rules_model.specs.Marks.{Toks, tok, sign, word, name_token, operator_of, may_update}
use Rattle.rules_model.specs.ExprGrammar.{IsExpr, IsLocation, AreArgs, AreExprs}
use Rattle.rules_model.specs.ListGrammar.{IsClause, IsFlag}

-- control = WHILE expr | FOR EVER | FOR name IN expr [WHILE expr]
--         | FOR name ":=" expr [BY expr] [DOWN] TO expr [WHILE expr]
pub data IsControl : ControlTree → Toks → Toks → Type 0 where
  is_while : {at : Pos} {e : ExprTree} {m rest : Toks} → IsExpr e m rest → IsControl (while_holds at e) (word at words.While ∷ m) rest
  is_ever : {at p : Pos} {rest : Toks} → IsControl (for_ever at) (word at words.For ∷ word p words.Ever ∷ rest) rest
  is_members : {at p : Pos} {n : Name} {e : ExprTree} {c : Option ExprTree} {m m2 rest : Toks} → IsExpr e m m2 → IsClause words.While IsExpr c m2 rest → IsControl (for_members at n e c) (word at words.For ∷ name_token n ∷ word p words.In ∷ m) rest
  is_steps : {at p q : Pos} {n : Name} {e f : ExprTree} {b c : Option ExprTree} {d : Bool} {m m2 m3 m4 m5 rest : Toks} → IsExpr e m m2 → IsClause words.By IsExpr b m2 m3 → IsFlag words.Down d m3 (word q words.To ∷ m4) → IsExpr f m4 m5 → IsClause words.While IsExpr c m5 rest
      → IsControl (for_steps at n e b d f c) (word at words.For ∷ name_token n ∷ sign p signs.Becomes ∷ m) rest

-- [expr]
pub data IsValue : Option ExprTree → Toks → Toks → Type 0 where
  no_value : {toks : Toks} → IsValue None toks toks
  with_value : {e : ExprTree} {toks rest : Toks} → IsExpr e toks rest → IsValue (Some e) toks rest

-- ["(" args ")"]
pub data IsMessage : Option (List ExprTree) → Toks → Toks → Type 0 where
  no_message : {toks : Toks} → IsMessage None toks toks
  with_message : {es : List ExprTree} {p q : Pos} {m rest : Toks} → AreExprs es m (sign q signs.Close ∷ rest) → IsMessage (Some es) (sign p signs.Open ∷ m) rest

-- simple
pub data IsSimple : SimpleTree → Toks → Toks → Type 0 where
  -- loc ":=" expr
  is_assign : {t v : ExprTree} {p : Pos} {toks m rest : Toks} → IsLocation t toks (sign p signs.Becomes ∷ m) → IsExpr v m rest → IsSimple (assign (place_of t) t v) toks rest
  -- loc ("+" | "-" | "*" | "/" | MOD | REM | AND | OR | XOR) ":=" expr
  is_update : {t v : ExprTree} {o : Operator} {kind : TokenKind} {p q : Pos} {toks m rest : Toks} → IsLocation t toks (tok p kind ∷ sign q signs.Becomes ∷ m) → operator_of kind ≡ Some o → may_update o ≡ true → IsExpr v m rest → IsSimple (update (place_of t) t o p v) toks rest
  -- [CALL] name "(" [args] ")"
  is_call : {n : Name} {es : List ExprTree} {p : Pos} {m rest : Toks} → AreArgs es m rest → IsSimple (call_of n.at false n es) (name_token n ∷ sign p signs.Open ∷ m) rest
  is_call_word : {at p : Pos} {n : Name} {es : List ExprTree} {m rest : Toks} → AreArgs es m rest → IsSimple (call_of at true n es) (word at words.Call ∷ name_token n ∷ sign p signs.Open ∷ m) rest
  -- EXIT name
  is_exit : {at : Pos} {n : Name} {rest : Toks} → IsSimple (exit at n) (word at words.Exit ∷ name_token n ∷ rest) rest
  -- RETURN [expr]
  is_return : {at : Pos} {v : Option ExprTree} {m rest : Toks} → IsValue v m rest → IsSimple (return_with at v) (word at words.Return ∷ m) rest
  -- RESULT expr
  is_result : {at : Pos} {v : ExprTree} {m rest : Toks} → IsExpr v m rest → IsSimple (result_of at v) (word at words.Result ∷ m) rest
  -- ASSERT expr
  is_assert : {at : Pos} {v : ExprTree} {m rest : Toks} → IsExpr v m rest → IsSimple (assert_that at v) (word at words.Assert ∷ m) rest
  -- CAUSE name
  is_cause : {at : Pos} {n : Name} {rest : Toks} → IsSimple (cause at n) (word at words.Cause ∷ name_token n ∷ rest) rest
  -- STOP
  is_stop : {at : Pos} {rest : Toks} → IsSimple (stop at) (word at words.Stop ∷ rest) rest
  -- START name "(" [args] ")"
  is_start : {at p : Pos} {n : Name} {es : List ExprTree} {m rest : Toks} → AreArgs es m rest → IsSimple (start_of at n es) (word at words.Start ∷ name_token n ∷ sign p signs.Open ∷ m) rest
  -- DELAY name [PRIORITY expr]
  is_delay : {at : Pos} {n : Name} {c : Option ExprTree} {m rest : Toks} → IsClause words.Priority IsExpr c m rest → IsSimple (delay at n c) (word at words.Delay ∷ name_token n ∷ m) rest
  -- CONTINUE name
  is_continue : {at : Pos} {n : Name} {rest : Toks} → IsSimple (continue_event at n) (word at words.Continue ∷ name_token n ∷ rest) rest
  -- SEND name ["(" args ")"] [TO expr] [PRIORITY expr]
  is_send : {at : Pos} {n : Name} {es : Option (List ExprTree)} {t c : Option ExprTree} {m m2 m3 rest : Toks} → IsMessage es m m2 → IsClause words.To IsExpr t m2 m3 → IsClause words.Priority IsExpr c m3 rest
      → IsSimple (send at n es t c) (word at words.Send ∷ name_token n ∷ m) rest

-- the place of an action's first token
abbrev pub place_of_simple : SimpleTree → Pos
place_of_simple (assign at t v) = at
place_of_simple (update at t o p v) = at
place_of_simple (call_of at c n es) = at
place_of_simple (exit at n) = at
place_of_simple (return_with at v) = at
place_of_simple (result_of at v) = at
place_of_simple (assert_that at v) = at
place_of_simple (cause at n) = at
place_of_simple (stop at) = at
place_of_simple (start_of at n es) = at
place_of_simple (delay at n c) = at
place_of_simple (continue_event at n) = at
place_of_simple (send at n es t c) = at
