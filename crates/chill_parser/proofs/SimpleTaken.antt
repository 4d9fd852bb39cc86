-- What is read as an action that holds no other, or as what controls a loop, is that.
use Rattle.std.proofs.Common.{◌≡◌, ℕ, suc, ◌+◌, Bool, true, false, cond, ◌&&◌, eqb, List, [], ◌∷◌, length, Option, Some, None, Ok, refl, subst, arith}
use Rattle.std.proofs.lemmas.Bool.{eqb-true}
use Rattle.chill_base.specs.declared.pos.Pos.{Pos}
use Rattle.chill_tree.specs.declared.token.Word.{Word}
use Rattle.chill_tree.specs.declared.token.Word.TheVariants as words
use Rattle.chill_tree.specs.declared.token.Sign.TheVariants as signs
use Rattle.chill_tree.specs.declared.token.Token.{Token}
use Rattle.chill_tree.specs.declared.token.TokenKind.{TokenKind}
use Rattle.chill_tree.specs.declared.tree.name.Name.{Name}
use Rattle.chill_tree.specs.declared.tree.expr.Operator.{Operator}
use Rattle.chill_tree.specs.ExprTree.{ExprTree, name, apply, expr_nodes, place_of}
use Rattle.chill_tree.specs.SimpleTree.{SimpleTree, assign, update, call_of, exit, return_with, result_of, assert_that, cause, stop, start_of, delay, continue_event, send, ControlTree, while_holds, for_ever, for_members, for_steps}
use Rattle.rules_model.specs.Marks.{Toks, tok, sign, word, name_token, begins, begins_with, begins_expr, behind, front, operator_of, may_update}
use Rattle.rules_model.specs.ExprGrammar.{IsExpr, a_name, with_args, AreExprs, one_expr, and_expr, is_location, IsLocation}
use Rattle.rules_model.specs.ListGrammar.{IsClause, IsFlag}
use Rattle.rules_model.specs.SimpleGrammar.{IsControl, is_while, is_ever, is_members, is_steps, no_value, with_value, IsMessage, no_message, with_message, IsSimple, is_assign, is_update, is_call, is_call_word, is_exit, is_return, is_result, is_assert, is_cause, is_stop, is_start, is_delay, is_continue, is_send}
use Rattle.rules_model.specs.Reading.{Absent, chosen, listed_at}
use Rattle.rules_model.specs.ExprReading.{expr_at, args_at, location_parts_at}
use Rattle.rules_model.specs.ModeReading.{value_at}
use Rattle.rules_model.specs.SimpleReading.{clause_at, flag_at, members_at, steps_at, for_at, control_at, update_of, begins_more, assigned_at, assignment_at, applied_at, named_action_at, call_at, return_at, start_at, delay_at, message_at, send_at, word_name_at, word_value_at, simple_at}
use Rattle.chill_parser.proofs.Taken.{then_is, last_is, never, either, chosen_is, sign_then, word_then, name_then, Sound, Was, read_then, sound_list, sound_clause, sound_flag}
use Rattle.expr_parser.proofs.ExprTaken.{InBrackets, bracketed}
use Rattle.chill_parser.proofs.ExprTaken.{HasParts, sound_expr, sound_value, parts_located, sound_args}

-- ---- what controls a loop

pub sound_value_clause : (w : Word) (n : ℕ) → Sound (IsClause w IsExpr) (clause_at w (value_at n))
sound_value_clause w n = sound_clause w IsExpr (value_at n) (sound_value n)

members_are : (n : ℕ) (at : Pos) (x : Name) (toks m m2 : Toks) → toks ≡ word at words.For ∷ m → m ≡ name_token x ∷ m2 → (y : ControlTree × Toks) → members_at n at x m2 ≡ Ok y → Was IsControl toks y
unfolding members_at
members_are n at x toks m m2 e e2 =
    let P : ControlTree × Toks → Type 0 = Was IsControl toks in
    word_then P words.In m2 _ (λ p m3 e3. read_then P IsExpr (value_at n) (sound_value n) m3 _ (λ v m4 d. read_then P (IsClause words.While IsExpr) (clause_at words.While (value_at n)) (sound_value_clause words.While n) m4 _ (λ c m5 dc.
    last_is P (for_members at x v c, m5) (rw (e, e2, e3) (is_members d dc)))))

steps_are : (n : ℕ) (at : Pos) (x : Name) (toks m m2 : Toks) → toks ≡ word at words.For ∷ m → m ≡ name_token x ∷ m2 → (y : ControlTree × Toks) → steps_at n at x m2 ≡ Ok y → Was IsControl toks y
unfolding steps_at
steps_are n at x toks m m2 e e2 =
    let P : ControlTree × Toks → Type 0 = Was IsControl toks in
    sign_then P signs.Becomes m2 _ (λ p m3 e3. read_then P IsExpr (value_at n) (sound_value n) m3 _ (λ v m4 dv.
    read_then P (IsClause words.By IsExpr) (clause_at words.By (value_at n)) (sound_value_clause words.By n) m4 _ (λ b m5 db.
    read_then P (IsFlag words.Down) (flag_at words.Down) (sound_flag words.Down) m5 _ (λ d m6 dd. word_then P words.To m6 _ (λ q m7 e4.
    read_then P IsExpr (value_at n) (sound_value n) m7 _ (λ f m8 df.
    read_then P (IsClause words.While IsExpr) (clause_at words.While (value_at n)) (sound_value_clause words.While n) m8 _ (λ c m9 dc.
    last_is P (for_steps at x v b d f c, m9) (rw (e, e2, e3) (is_steps dv db (rw e4 at dd) df dc)))))))))

for_is : (n : ℕ) (at : Pos) (toks m : Toks) → toks ≡ word at words.For ∷ m → (y : ControlTree × Toks) → for_at n at m ≡ Ok y → Was IsControl toks y
unfolding for_at
for_is n at toks m e =
    let P : ControlTree × Toks → Type 0 = Was IsControl toks in
    either P (begins_with words.Ever m) _ _
    (λ b. word_then P words.Ever m _ (λ w m2 e2. last_is P (for_ever at, m2) (rw (e, e2) is_ever)))
    (λ b. name_then P m _ (λ x m2 e2. either P (begins_with words.In m2) _ _
    (λ b. members_are n at x toks m m2 e e2)
    (λ b. steps_are n at x toks m m2 e e2)))

pub sound_control : (n : ℕ) → Sound IsControl (control_at n)
unfolding control_at
sound_control n toks x rest =
    let P : ControlTree × Toks → Type 0 = Was IsControl toks in
    either P (begins_with words.While toks) _ _
    (λ b. word_then P words.While toks _ (λ w m e. read_then P IsExpr (value_at n) (sound_value n) m _ (λ v m2 d. last_is P (while_holds w v, m2) (rw e (is_while d)))))
    (λ b. word_then P words.For toks _ (λ w m e. for_is n w toks m e)) (x, rest)

-- ---- actions that begin with a name

-- an operator that may stand before the sign of an assignment
record UpdateRead (m : Toks) (o : Pos × Operator) : Type 0 where
  pub kind : TokenKind
  pub here : m ≡ tok o.0 kind ∷ behind m
  pub what : operator_of kind ≡ Some o.1
  pub may : may_update o.1 ≡ true

some_is : {A : Type 0} (x y : A) → Some x ≡ Some y → x ≡ y
some_is x y e = cc

updated_by : (t : Token) (rest : Toks) (q : Option Operator) (o : Pos × Operator) → operator_of t.kind ≡ q → chosen {B = Option (Pos × Operator)} q None (λ p. cond (may_update p) (Some (t.at, p)) None) ≡ Some o → UpdateRead (t ∷ rest) o
updated_by t rest None o is e = absurd cc
updated_by t rest (Some p) o is e = go (may_update p) refl e
  where
    go : (b : Bool) → may_update p ≡ b → cond b (Some (t.at, p)) None ≡ Some o → UpdateRead (t ∷ rest) o
    go true h e = subst (λ (z : Pos × Operator). UpdateRead (t ∷ rest) z) (some_is (t.at, p) o e) (record { kind = t.kind; here = refl; what = is; may = h })
    go false h e = absurd cc

update_read : (m : Toks) (o : Pos × Operator) → update_of m ≡ Some o → UpdateRead m o
update_read [] o e = absurd cc
update_read (t ∷ rest) o e = updated_by t rest (operator_of t.kind) o refl e

assigned_is : (n : ℕ) (t : ExprTree) (toks m : Toks) → IsLocation t toks m → (y : SimpleTree × Toks) → assigned_at n t m ≡ Ok y → Was IsSimple toks y
unfolding assigned_at
assigned_is n t toks m d =
    let P : SimpleTree × Toks → Type 0 = Was IsSimple toks in
    either P (begins signs.Becomes m) _ _
    (λ b. sign_then P signs.Becomes m _ (λ p m2 e. read_then P IsExpr (value_at n) (sound_value n) m2 _ (λ v m3 dv.
    last_is P (assign (place_of t) t v, m3) (is_assign (subst (λ (z : Toks). IsLocation t toks z) e d) dv))))
    (λ b. chosen_is P (update_of m) _ _
    (λ no. never P (Absent (front m)))
    (λ o is. let u = update_read m o is in
    sign_then P signs.Becomes (behind m) _ (λ p m2 e. read_then P IsExpr (value_at n) (sound_value n) m2 _ (λ v m3 dv.
    last_is P (update (place_of t) t o.1 o.0 v, m3) (is_update (subst (λ (z : Toks). IsLocation t toks (tok o.0 u.kind ∷ z)) e (subst (λ (z : Toks). IsLocation t toks z) u.here d)) u.what u.may dv)))))

assignment_is : (n : ℕ) (toks : Toks) (j k : ℕ) → j + k ≡ 32 → (t : ExprTree) (m : Toks) → HasParts toks k t m → (y : SimpleTree × Toks) → assignment_at n j t m ≡ Ok y → Was IsSimple toks y
unfolding assignment_at
assignment_is n toks j k all t m d =
    then_is (Was IsSimple toks) (location_parts_at (expr_at n) j t m) _ (λ l m2 e. assigned_is n l toks m2 (parts_located n toks j k all t m d (l, m2) e))

both_true : (a b : Bool) → (a && b) ≡ true → b ≡ true
both_true true b h = h
both_true false b h = absurd cc

one_located : (x : Name) (es : List ExprTree) → eqb (length es) 1 ≡ true → is_location (apply x.at (name x) (expr_nodes es)) ≡ true
one_located x [] h = absurd cc
one_located x (e ∷ []) h = refl
one_located x (e ∷ f ∷ es) h = let n : suc (suc (length es)) ≡ 1 = eqb-true (suc (suc (length es))) 1 h in absurd (omega (arith, n))

applied_is : (n : ℕ) (x : Name) (es : List ExprTree) (m2 m : Toks) → InBrackets es m2 m → (y : SimpleTree × Toks) → applied_at n x es m ≡ Ok y → Was IsSimple (name_token x ∷ m2) y
unfolding applied_at
applied_is n x es m2 m (bracketed {p = p} {m = k} args) =
    let toks : Toks = name_token x ∷ sign p signs.Open ∷ k in
    let P : SimpleTree × Toks → Type 0 = Was IsSimple toks in
    either P (begins_more m && eqb (length es) 1) _ _
    (λ b. assignment_is n toks 31 1 refl (apply x.at (name x) (expr_nodes es)) m (with_args a_name args (omega arith), one_located x es (both_true (begins_more m) (eqb (length es) 1) b)))
    (λ b. last_is P (call_of x.at false x es, m) (is_call args))

sound_named_action : (n : ℕ) → Sound IsSimple (named_action_at n)
unfolding named_action_at
sound_named_action n toks x rest =
    let P : SimpleTree × Toks → Type 0 = Was IsSimple toks in
    name_then P toks _ (λ y m e. either P (begins signs.Open m) _ _
    (λ b. read_then P InBrackets (args_at n (expr_at n)) (sound_args n) m _ (λ es m2 d z h. rw e (applied_is n y es m m2 d z h)))
    (λ b z h. assignment_is n toks 32 0 refl (name y) m (rw e a_name, refl) z h)) (x, rest)

-- ---- actions that begin with a word

call_word_made : {at : Pos} {x : Name} {es : List ExprTree} {m rest : Toks} → InBrackets es m rest → IsSimple (call_of at true x es) (word at words.Call ∷ name_token x ∷ m) rest
call_word_made (bracketed d) = is_call_word d

sound_call : (n : ℕ) → Sound IsSimple (call_at n)
unfolding call_at
sound_call n toks x rest =
    let P : SimpleTree × Toks → Type 0 = Was IsSimple toks in
    word_then P words.Call toks _ (λ at m e. name_then P m _ (λ y m2 e2. read_then P InBrackets (args_at n (expr_at n)) (sound_args n) m2 _ (λ es m3 d.
    last_is P (call_of at true y es, m3) (rw (e, e2) (call_word_made d))))) (x, rest)

start_made : {at : Pos} {x : Name} {es : List ExprTree} {m rest : Toks} → InBrackets es m rest → IsSimple (start_of at x es) (word at words.Start ∷ name_token x ∷ m) rest
start_made (bracketed d) = is_start d

sound_start : (n : ℕ) → Sound IsSimple (start_at n)
unfolding start_at
sound_start n toks x rest =
    let P : SimpleTree × Toks → Type 0 = Was IsSimple toks in
    word_then P words.Start toks _ (λ at m e. name_then P m _ (λ y m2 e2. read_then P InBrackets (args_at n (expr_at n)) (sound_args n) m2 _ (λ es m3 d.
    last_is P (start_of at y es, m3) (rw (e, e2) (start_made d))))) (x, rest)

sound_return : (n : ℕ) → Sound IsSimple (return_at n)
unfolding return_at
sound_return n toks x rest =
    let P : SimpleTree × Toks → Type 0 = Was IsSimple toks in
    word_then P words.Return toks _ (λ at m e. either P (begins_expr m) _ _
    (λ b. read_then P IsExpr (value_at n) (sound_value n) m _ (λ v m2 d. last_is P (return_with at (Some v), m2) (rw e (is_return (with_value d)))))
    (λ b. last_is P (return_with at None, m) (rw e (is_return no_value)))) (x, rest)

sound_delay : (n : ℕ) → Sound IsSimple (delay_at n)
unfolding delay_at
sound_delay n toks x rest =
    let P : SimpleTree × Toks → Type 0 = Was IsSimple toks in
    word_then P words.Delay toks _ (λ at m e. name_then P m _ (λ y m2 e2. read_then P (IsClause words.Priority IsExpr) (clause_at words.Priority (value_at n)) (sound_value_clause words.Priority n) m2 _ (λ c m3 d.
    last_is P (delay at y c, m3) (rw (e, e2) (is_delay d))))) (x, rest)

sound_message : (n : ℕ) → Sound IsMessage (message_at n)
unfolding message_at
sound_message n toks x rest =
    let P : Option (List ExprTree) × Toks → Type 0 = Was IsMessage toks in
    either P (begins signs.Open toks) _ _
    (λ b. sign_then P signs.Open toks _ (λ p m e. read_then P AreExprs (listed_at (expr_at n p)) (sound_list IsExpr AreExprs (expr_at n p) (sound_expr n p) (λ x toks rest d. one_expr d) (λ xs x q toks m rest l d. and_expr l d)) m _ (λ es m2 d. sign_then P signs.Close m2 _ (λ q m3 e2.
    last_is P (Some es, m3) (rw e (with_message (rw e2 at d)))))))
    (λ b. last_is P (None, toks) no_message) (x, rest)

sound_send : (n : ℕ) → Sound IsSimple (send_at n)
unfolding send_at
sound_send n toks x rest =
    let P : SimpleTree × Toks → Type 0 = Was IsSimple toks in
    word_then P words.Send toks _ (λ at m e. name_then P m _ (λ y m2 e2. read_then P IsMessage (message_at n) (sound_message n) m2 _ (λ es m3 de.
    read_then P (IsClause words.To IsExpr) (clause_at words.To (value_at n)) (sound_value_clause words.To n) m3 _ (λ t m4 dt. read_then P (IsClause words.Priority IsExpr) (clause_at words.Priority (value_at n)) (sound_value_clause words.Priority n) m4 _ (λ c m5 dc.
    last_is P (send at y es t c, m5) (rw (e, e2) (is_send de dt dc))))))) (x, rest)

sound_word_name : (w : Word) (made : Pos → Name → SimpleTree) → ((at : Pos) (x : Name) (rest : Toks) → IsSimple (made at x) (word at w ∷ name_token x ∷ rest) rest) → Sound IsSimple (word_name_at w made)
sound_word_name w made is toks x rest =
    let P : SimpleTree × Toks → Type 0 = Was IsSimple toks in
    word_then P w toks _ (λ at m e. name_then P m _ (λ y m2 e2. last_is P (made at y, m2) (rw (e, e2) (is at y m2)))) (x, rest)

sound_word_value : (n : ℕ) (w : Word) (made : Pos → ExprTree → SimpleTree) → ((at : Pos) (v : ExprTree) (m rest : Toks) → IsExpr v m rest → IsSimple (made at v) (word at w ∷ m) rest) → Sound IsSimple (word_value_at n w made)
sound_word_value n w made is toks x rest =
    let P : SimpleTree × Toks → Type 0 = Was IsSimple toks in
    word_then P w toks _ (λ at m e. read_then P IsExpr (value_at n) (sound_value n) m _ (λ v m2 d. last_is P (made at v, m2) (rw e (is at v m m2 d)))) (x, rest)

pub sound_simple : (n : ℕ) → Sound IsSimple (simple_at n)
unfolding simple_at
sound_simple n toks x rest =
    let P : SimpleTree × Toks → Type 0 = Was IsSimple toks in
    either P (begins_with words.Call toks) _ _ (λ b y. sound_call n toks y.0 y.1)
    (λ b. either P (begins_with words.Exit toks) _ _ (λ b y. sound_word_name words.Exit exit (λ at x rest. is_exit) toks y.0 y.1)
    (λ b. either P (begins_with words.Return toks) _ _ (λ b y. sound_return n toks y.0 y.1)
    (λ b. either P (begins_with words.Result toks) _ _ (λ b y. sound_word_value n words.Result result_of (λ at v m rest d. is_result d) toks y.0 y.1)
    (λ b. either P (begins_with words.Assert toks) _ _ (λ b y. sound_word_value n words.Assert assert_that (λ at v m rest d. is_assert d) toks y.0 y.1)
    (λ b. either P (begins_with words.Cause toks) _ _ (λ b y. sound_word_name words.Cause cause (λ at x rest. is_cause) toks y.0 y.1)
    (λ b. either P (begins_with words.Stop toks) _ _ (λ b. word_then P words.Stop toks _ (λ at m e. last_is P (stop at, m) (rw e is_stop)))
    (λ b. either P (begins_with words.Start toks) _ _ (λ b y. sound_start n toks y.0 y.1)
    (λ b. either P (begins_with words.Delay toks) _ _ (λ b y. sound_delay n toks y.0 y.1)
    (λ b. either P (begins_with words.Continue toks) _ _ (λ b y. sound_word_name words.Continue continue_event (λ at x rest. is_continue) toks y.0 y.1)
    (λ b. either P (begins_with words.Send toks) _ _ (λ b y. sound_send n toks y.0 y.1)
    (λ b y. sound_named_action n toks y.0 y.1))))))))))) (x, rest)
