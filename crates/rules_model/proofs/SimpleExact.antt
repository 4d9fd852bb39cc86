-- What is an action that holds no other, or controls a loop, is read as that.
use Rattle.std.proofs.Common.{◌≡◌, ℕ, zero, suc, ◌-◌, ◌<◌, ◌≤◌, Bool, true, false, eqb, List, ◌∷◌, length, Option, Some, None, Ok, refl, ◌∙◌, subst, arith}
use Rattle.std.proofs.lemmas.Bool.{eq-eqb}
use Rattle.chill_base.specs.declared.pos.Pos.{Pos}
use Rattle.chill_tree.specs.declared.token.Word.{Word}
use Rattle.chill_tree.specs.declared.token.Word.TheVariants as words
use Rattle.chill_tree.specs.declared.token.Sign.TheVariants as signs
use Rattle.chill_tree.specs.declared.token.TokenKind.{TokenKind}
use Rattle.chill_tree.specs.declared.tree.name.Name.{Name}
use Rattle.chill_tree.specs.declared.tree.expr.Operator.{Operator}
use Rattle.chill_tree.specs.ExprTree.{ExprTree, place_of}
use Rattle.chill_tree.specs.SimpleTree.{SimpleTree, assign, update, call_of, exit, return_with, result_of, assert_that, cause, stop, start_of, delay, continue_event, send, ControlTree, while_holds, for_ever, for_members, for_steps}
use Rattle.rules_model.specs.Marks.{Toks, tok, sign, word, name_token, word_code, begins, begins_with, begins_expr, operator_of, may_update}
use Rattle.rules_model.specs.ExprGrammar.{IsExpr, IsLocation, is_loc}
use Rattle.rules_model.specs.ListGrammar.{IsClause, no_clause, with_clause, IsFlag, no_flag, with_flag}
use Rattle.rules_model.specs.SimpleGrammar.{IsControl, is_while, is_ever, is_members, is_steps, IsValue, no_value, with_value, IsMessage, no_message, with_message, IsSimple, is_assign, is_update, is_call, is_call_word, is_exit, is_return, is_result, is_assert, is_cause, is_stop, is_start, is_delay, is_continue, is_send}
use Rattle.rules_model.specs.Nesting.{StaysBelow}
use Rattle.rules_model.specs.Reading.{Read, sign_at, word_at, name_at, listed_at}
use Rattle.rules_model.specs.ExprReading.{expr_at, args_at}
use Rattle.rules_model.specs.ModeReading.{value_at}
use Rattle.rules_model.specs.SimpleReading.{clause_at, flag_at, members_at, steps_at, for_at, control_at, update_of, begins_more, assigned_at, named_action_at, call_at, return_at, start_at, delay_at, message_at, send_at, simple_at}
use Rattle.rules_model.proofs.Loops.{listing_all}
use Rattle.rules_model.proofs.ExprStarts.{args_shrink, exprs_shrink, ranked_shrinks, location_shrinks, named_few, ranked_begins, NameFirst, name_first}
use Rattle.rules_model.proofs.ExprStops.{Stops, operator_marks, operator_stops}
use Rattle.rules_model.proofs.ExprExact.{exact_args, exact_exprs}
use Rattle.rules_model.proofs.LocationExact.{GoesOn, goes_on, a_call, no_part_more, assigning}
use Rattle.rules_model.proofs.ListExact.{Exact}
use Rattle.rules_model.proofs.ModeExact.{exact_value}

-- ---- clauses

word_itself : (w : Word) → eqb (word_code w) (word_code w) ≡ true
word_itself w = eq-eqb (word_code w) (word_code w) refl

a_clause : {X : Type 0} (w : Word) (read : Toks → Read X) (p : Pos) (x : X) (m rest : Toks) → read m ≡ Ok (x, rest) → clause_at w read (word p w ∷ m) ≡ Ok (Some x, rest)
unfolding clause_at word_at
a_clause w read p x m rest h = rw (word_itself w, h) refl

without_clause : {X : Type 0} (w : Word) (read : Toks → Read X) (toks : Toks) → begins_with w toks ≡ false → clause_at w read toks ≡ Ok (None, toks)
unfolding clause_at
without_clause w read toks b = rw b refl

pub exact_clause : {X : Type 0} {Is : X → Toks → Toks → Type 0} (w : Word) (read : Toks → Read X) (n : ℕ) (Ends : Toks → Type 0) → Exact Is read n Ends → ((p : Pos) (m : Toks) → StaysBelow n (word p w ∷ m) → StaysBelow n m)
    → {o : Option X} {toks rest : Toks} → IsClause w Is o toks rest → StaysBelow n toks → begins_with w rest ≡ false → Ends rest → (clause_at w read toks ≡ Ok (o, rest)) × StaysBelow n rest
exact_clause w read n Ends one level (no_clause {toks = toks}) below b ends = (without_clause w read toks b, below)
exact_clause w read n Ends one level (with_clause {x = x} {p = p} {m = m} {rest = rest} d) below b ends =
    let h = one x m rest d (level p m below) ends in
    (a_clause w read p x m rest h.0, h.1)

-- what holds behind a clause and at its word holds at its front
pub clause_front : {X : Type 0} {Is : X → Toks → Toks → Type 0} {w : Word} (P : Toks → Type 0) → ((p : Pos) (m : Toks) → P (word p w ∷ m)) → {o : Option X} {toks rest : Toks} → IsClause w Is o toks rest → P rest → P toks
clause_front P at_word no_clause h = h
clause_front P at_word (with_clause {p = p} {m = m} d) h = at_word p m

pub clause_shrinks : {X : Type 0} {Is : X → Toks → Toks → Type 0} {w : Word} → ((x : X) (toks rest : Toks) → Is x toks rest → length rest < length toks) → {o : Option X} {toks rest : Toks} → IsClause w Is o toks rest → length rest ≤ length toks
clause_shrinks s no_clause = omega arith
clause_shrinks s (with_clause {x = x} {m = m} {rest = rest} d) = omega (arith, s x m rest d)

flag_there : (w : Word) (p : Pos) (rest : Toks) → flag_at w (word p w ∷ rest) ≡ Ok (true, rest)
unfolding flag_at word_at
flag_there w p rest = rw (word_itself w) refl

flag_absent : (w : Word) (toks : Toks) → begins_with w toks ≡ false → flag_at w toks ≡ Ok (false, toks)
unfolding flag_at
flag_absent w toks b = rw b refl

exact_flag : (w : Word) (n : ℕ) → ((p : Pos) (m : Toks) → StaysBelow n (word p w ∷ m) → StaysBelow n m) → {f : Bool} {toks rest : Toks} → IsFlag w f toks rest → StaysBelow n toks → begins_with w rest ≡ false → (flag_at w toks ≡ Ok (f, rest)) × StaysBelow n rest
exact_flag w n level (no_flag {toks = toks}) below b = (flag_absent w toks b, below)
exact_flag w n level (with_flag {p = p} {rest = rest}) below b = (flag_there w p rest, level p rest below)

flag_front : {w : Word} (P : Toks → Type 0) → ((p : Pos) (m : Toks) → P (word p w ∷ m)) → {f : Bool} {toks rest : Toks} → IsFlag w f toks rest → P rest → P toks
flag_front P at_word no_flag h = h
flag_front P at_word (with_flag {p = p} {rest = rest}) h = at_word p rest

pub value_exact : (n : ℕ) → Exact IsExpr (value_at n) (suc n) (Stops 5)
value_exact n x toks rest d below ends = exact_value d n below ends

pub value_shrinks : (x : ExprTree) (toks rest : Toks) → IsExpr x toks rest → length rest < length toks
value_shrinks x toks rest d = ranked_shrinks d

-- ---- controls

a_while : (n : ℕ) (at : Pos) (e : ExprTree) (m rest : Toks) → value_at n m ≡ Ok (e, rest) → control_at n (word at words.While ∷ m) ≡ Ok (while_holds at e, rest)
unfolding control_at word_at
a_while n at e m rest h = rw h refl

an_ever : (n : ℕ) (at p : Pos) (rest : Toks) → control_at n (word at words.For ∷ word p words.Ever ∷ rest) ≡ Ok (for_ever at, rest)
unfolding control_at for_at word_at
an_ever n at p rest = refl

the_members : (n : ℕ) (at p : Pos) (x : Name) (e : ExprTree) (c : Option ExprTree) (m m2 rest : Toks) → value_at n m ≡ Ok (e, m2) → clause_at words.While (value_at n) m2 ≡ Ok (c, rest)
    → control_at n (word at words.For ∷ name_token x ∷ word p words.In ∷ m) ≡ Ok (for_members at x e c, rest)
unfolding control_at for_at members_at word_at name_at
the_members n at p x e c m m2 rest he hc = rw (he, hc) refl

the_steps : (n : ℕ) (at p q : Pos) (x : Name) (e f : ExprTree) (b c : Option ExprTree) (d : Bool) (m m2 m3 m4 m5 rest : Toks) → value_at n m ≡ Ok (e, m2) → clause_at words.By (value_at n) m2 ≡ Ok (b, m3) → flag_at words.Down m3 ≡ Ok (d, word q words.To ∷ m4) → value_at n m4 ≡ Ok (f, m5) → clause_at words.While (value_at n) m5 ≡ Ok (c, rest)
    → control_at n (word at words.For ∷ name_token x ∷ sign p signs.Becomes ∷ m) ≡ Ok (for_steps at x e b d f c, rest)
unfolding control_at for_at steps_at word_at name_at sign_at
the_steps n at p q x e f b c d m m2 m3 m4 m5 rest he hb hd hf hc = rw (he, hb, hd, hf, hc) refl

pub exact_control : {c : ControlTree} {toks rest : Toks} → IsControl c toks rest → (n : ℕ) → StaysBelow (suc n) toks → Stops 5 rest → begins_with words.While rest ≡ false → (control_at n toks ≡ Ok (c, rest)) × StaysBelow (suc n) rest
exact_control (is_while {at = at} {e = e} {m = m} {rest = rest} d) n below stops no_while =
    let h = exact_value d n below.1 stops in
    (a_while n at e m rest h.0, h.1)
exact_control (is_ever {at = at} {p = p} {rest = rest}) n below stops no_while = (an_ever n at p rest, below.1.1)
exact_control (is_members {at = at} {p = p} {n = x} {e = e} {c = c} {m = m} {m2 = m2} {rest = rest} de dc) n below stops no_while =
    let xe = exact_value de n below.1.1.1 (clause_front (Stops 5) (λ q k. (refl, refl, refl, tt)) dc stops) in
    let xc = exact_clause words.While (value_at n) (suc n) (Stops 5) (value_exact n) (λ q k b. b.1) dc xe.1 no_while stops in
    (the_members n at p x e c m m2 rest xe.0 xc.0, xc.1)
exact_control (is_steps {at = at} {p = p} {q = q} {n = x} {e = e} {f = f} {b = b} {c = c} {d = d} {m = m} {m2 = m2} {m3 = m3} {m4 = m4} {m5 = m5} {rest = rest} de db dd df dc) n below stops no_while =
    let s3 = flag_front (Stops 5) (λ u k. (refl, refl, refl, tt)) dd (refl, refl, refl, tt) in
    let b3 : begins_with words.By m3 ≡ false = flag_front (λ k. begins_with words.By k ≡ false) (λ u k. refl) dd refl in
    let xe = exact_value de n below.1.1.1 (clause_front (Stops 5) (λ u k. (refl, refl, refl, tt)) db s3) in
    let xb = exact_clause words.By (value_at n) (suc n) (Stops 5) (value_exact n) (λ u k v. v.1) db xe.1 b3 s3 in
    let xd = exact_flag words.Down (suc n) (λ u k v. v.1) dd xb.1 refl in
    let xf = exact_value df n xd.1.1 (clause_front (Stops 5) (λ u k. (refl, refl, refl, tt)) dc stops) in
    let xc = exact_clause words.While (value_at n) (suc n) (Stops 5) (value_exact n) (λ u k v. v.1) dc xf.1 no_while stops in
    (the_steps n at p q x e f b c d m m2 m3 m4 m5 rest xe.0 xb.0 xd.0 xf.0 xc.0, xc.1)

flag_shrinks : {w : Word} {f : Bool} {toks rest : Toks} → IsFlag w f toks rest → length rest ≤ length toks
flag_shrinks no_flag = omega arith
flag_shrinks with_flag = omega arith

pub control_shrinks : {c : ControlTree} {toks rest : Toks} → IsControl c toks rest → length rest < length toks
control_shrinks (is_while d) = omega (arith, ranked_shrinks d)
control_shrinks is_ever = omega arith
control_shrinks (is_members e c) = omega (arith, ranked_shrinks e, clause_shrinks value_shrinks c)
control_shrinks (is_steps e b d f c) = omega (arith, ranked_shrinks e, clause_shrinks value_shrinks b, flag_shrinks d, ranked_shrinks f, clause_shrinks value_shrinks c)

-- ---- actions

-- what an action does not go on with
pub record EndsSimple (toks : Toks) : Type 0 where
  pub stops : Stops 5 toks
  pub open_sign : begins signs.Open toks ≡ false
  pub no_more : begins_more toks ≡ false
  pub no_expr : begins_expr toks ≡ false
  pub to : begins_with words.To toks ≡ false
  pub priority : begins_with words.Priority toks ≡ false

by_name : (n : ℕ) (toks : Toks) (x : Read SimpleTree) → NameFirst toks → named_action_at n toks ≡ x → simple_at n toks ≡ x
unfolding simple_at
by_name n toks x f h = rw f.here (rw f.here at h)

an_assignment : (n : ℕ) (t v : ExprTree) (p : Pos) (m rest : Toks) → value_at n m ≡ Ok (v, rest) → assigned_at n t (sign p signs.Becomes ∷ m) ≡ Ok (assign (place_of t) t v, rest)
unfolding assigned_at sign_at
an_assignment n t v p m rest h = rw h refl

update_is : (p : Pos) (kind : TokenKind) (o : Operator) (m : Toks) → operator_of kind ≡ Some o → may_update o ≡ true → update_of (tok p kind ∷ m) ≡ Some (p, o)
update_is p kind o m is may = rw (is, may) refl

update_more : (toks : Toks) (o : Pos × Operator) → begins signs.Open toks ≡ false → begins signs.Dot toks ≡ false → begins signs.Becomes toks ≡ false → update_of toks ≡ Some o → begins_more toks ≡ true
update_more toks o open_sign dot becomes u = rw (open_sign, dot, becomes, u) refl

an_update : (n : ℕ) (t v : ExprTree) (o : Operator) (kind : TokenKind) (p q : Pos) (m rest : Toks) → begins signs.Becomes (tok p kind ∷ sign q signs.Becomes ∷ m) ≡ false → update_of (tok p kind ∷ sign q signs.Becomes ∷ m) ≡ Some (p, o) → value_at n m ≡ Ok (v, rest)
    → assigned_at n t (tok p kind ∷ sign q signs.Becomes ∷ m) ≡ Ok (update (place_of t) t o p v, rest)
unfolding assigned_at sign_at
an_update n t v o kind p q m rest b u h = rw (b, u, h) refl

a_call_word : (n : ℕ) (at p : Pos) (x : Name) (es : List ExprTree) (m rest : Toks) → args_at n (expr_at n) (sign p signs.Open ∷ m) ≡ Ok (es, rest) → simple_at n (word at words.Call ∷ name_token x ∷ sign p signs.Open ∷ m) ≡ Ok (call_of at true x es, rest)
unfolding simple_at call_at word_at name_at
a_call_word n at p x es m rest h = rw h refl

an_exit : (n : ℕ) (at : Pos) (x : Name) (rest : Toks) → simple_at n (word at words.Exit ∷ name_token x ∷ rest) ≡ Ok (exit at x, rest)
unfolding simple_at word_at name_at
an_exit n at x rest = refl

a_cause : (n : ℕ) (at : Pos) (x : Name) (rest : Toks) → simple_at n (word at words.Cause ∷ name_token x ∷ rest) ≡ Ok (cause at x, rest)
unfolding simple_at word_at name_at
a_cause n at x rest = refl

a_continue : (n : ℕ) (at : Pos) (x : Name) (rest : Toks) → simple_at n (word at words.Continue ∷ name_token x ∷ rest) ≡ Ok (continue_event at x, rest)
unfolding simple_at word_at name_at
a_continue n at x rest = refl

a_stop : (n : ℕ) (at : Pos) (rest : Toks) → simple_at n (word at words.Stop ∷ rest) ≡ Ok (stop at, rest)
unfolding simple_at word_at
a_stop n at rest = refl

a_return : (n : ℕ) (at : Pos) (v : ExprTree) (m rest : Toks) → begins_expr m ≡ true → value_at n m ≡ Ok (v, rest) → simple_at n (word at words.Return ∷ m) ≡ Ok (return_with at (Some v), rest)
unfolding simple_at return_at word_at
a_return n at v m rest b h = rw (b, h) refl

a_bare_return : (n : ℕ) (at : Pos) (rest : Toks) → begins_expr rest ≡ false → simple_at n (word at words.Return ∷ rest) ≡ Ok (return_with at None, rest)
unfolding simple_at return_at word_at
a_bare_return n at rest b = rw b refl

a_result : (n : ℕ) (at : Pos) (v : ExprTree) (m rest : Toks) → value_at n m ≡ Ok (v, rest) → simple_at n (word at words.Result ∷ m) ≡ Ok (result_of at v, rest)
unfolding simple_at word_at
a_result n at v m rest h = rw h refl

an_assertion : (n : ℕ) (at : Pos) (v : ExprTree) (m rest : Toks) → value_at n m ≡ Ok (v, rest) → simple_at n (word at words.Assert ∷ m) ≡ Ok (assert_that at v, rest)
unfolding simple_at word_at
an_assertion n at v m rest h = rw h refl

a_start : (n : ℕ) (at p : Pos) (x : Name) (es : List ExprTree) (m rest : Toks) → args_at n (expr_at n) (sign p signs.Open ∷ m) ≡ Ok (es, rest) → simple_at n (word at words.Start ∷ name_token x ∷ sign p signs.Open ∷ m) ≡ Ok (start_of at x es, rest)
unfolding simple_at start_at word_at name_at
a_start n at p x es m rest h = rw h refl

a_delay : (n : ℕ) (at : Pos) (x : Name) (c : Option ExprTree) (m rest : Toks) → clause_at words.Priority (value_at n) m ≡ Ok (c, rest) → simple_at n (word at words.Delay ∷ name_token x ∷ m) ≡ Ok (delay at x c, rest)
unfolding simple_at delay_at word_at name_at
a_delay n at x c m rest h = rw h refl

a_send : (n : ℕ) (at : Pos) (x : Name) (es : Option (List ExprTree)) (t c : Option ExprTree) (m m2 m3 rest : Toks) → message_at n m ≡ Ok (es, m2) → clause_at words.To (value_at n) m2 ≡ Ok (t, m3) → clause_at words.Priority (value_at n) m3 ≡ Ok (c, rest)
    → simple_at n (word at words.Send ∷ name_token x ∷ m) ≡ Ok (send at x es t c, rest)
unfolding simple_at send_at word_at name_at
a_send n at x es t c m m2 m3 rest h g k = rw (h, g, k) refl

a_message : (n : ℕ) (p q : Pos) (es : List ExprTree) (m rest : Toks) → listed_at (expr_at n p) m ≡ Ok (es, sign q signs.Close ∷ rest) → message_at n (sign p signs.Open ∷ m) ≡ Ok (Some es, rest)
unfolding message_at sign_at
a_message n p q es m rest h = rw h refl

without_message : (n : ℕ) (toks : Toks) → begins signs.Open toks ≡ false → message_at n toks ≡ Ok (None, toks)
unfolding message_at
without_message n toks b = rw b refl

exact_message : {es : Option (List ExprTree)} {toks rest : Toks} → IsMessage es toks rest → (n : ℕ) → StaysBelow (suc n) toks → begins signs.Open rest ≡ false → (message_at n toks ≡ Ok (es, rest)) × StaysBelow (suc n) rest
exact_message (no_message {toks = toks}) n below b = (without_message n toks b, below)
exact_message (with_message d) zero below b = absurd (omega (arith, below.0))
exact_message (with_message {es = es} {p = p} {q = q} {m = m} {rest = rest} d) (suc n) below b =
    let h = exact_exprs d n p below.1 (refl, refl, refl, tt) in
    let all = listing_all (expr_at (suc n) p) es m (sign q signs.Close ∷ rest) h.0 refl (omega (arith, exprs_shrink d)) h.2 in
    (a_message (suc n) p q es m rest all, h.1.1)

pub location_first : {t : ExprTree} {toks rest : Toks} → IsLocation t toks rest → begins signs.OpenBracket rest ≡ false → begins signs.Colon rest ≡ false → NameFirst toks
location_first (is_loc d l) b c = name_first d b c

pub marks_stop : (p : Pos) (kind : TokenKind) (o : Operator) (m : Toks) → operator_of kind ≡ Some o → Stops 0 (tok p kind ∷ m) × (begins signs.OpenBracket (tok p kind ∷ m) ≡ false) × (begins signs.Colon (tok p kind ∷ m) ≡ false) × (begins signs.Becomes (tok p kind ∷ m) ≡ false)
marks_stop p kind o m is = let k = operator_marks kind o is in (operator_stops p kind o m is, k.bracket, k.colon, k.becomes)

-- what is assigned to, up to what is assigned
exact_target : {t : ExprTree} {toks rest : Toks} → IsLocation t toks rest → (n : ℕ) → StaysBelow (suc n) toks → ((k : ℕ) → GoesOn k rest) → Stops 0 rest → (named_action_at n toks ≡ assigned_at n t rest) × StaysBelow (suc n) rest
exact_target {t = t} {rest = rest} (is_loc {k = k} d l) n below on stops =
    let x = assigning d l n below (on k) in
    let few = named_few d in
    (x.0 (32 - k) (omega arith) ∙ no_part_more n (32 - k) t rest stops, x.1)

pub exact_simple : {a : SimpleTree} {toks rest : Toks} → IsSimple a toks rest → (n : ℕ) → StaysBelow (suc n) toks → EndsSimple rest → (simple_at n toks ≡ Ok (a, rest)) × StaysBelow (suc n) rest
exact_simple (is_assign {t = t} {v = v} {p = p} {toks = toks} {m = m} {rest = rest} dt dv) n below ends =
    let xt = exact_target dt n below (λ k. goes_on k (sign p signs.Becomes ∷ m) refl refl) (refl, refl, refl, tt) in
    let xv = exact_value dv n xt.1.1 ends.stops in
    (by_name n toks (Ok (assign (place_of t) t v, rest)) (location_first dt refl refl) (xt.0 ∙ an_assignment n t v p m rest xv.0), xv.1)
exact_simple (is_update {t = t} {v = v} {o = o} {kind = kind} {p = p} {q = q} {toks = toks} {m = m} {rest = rest} dt is may dv) n below ends =
    let k = marks_stop p kind o (sign q signs.Becomes ∷ m) is in
    let marks = operator_marks kind o is in
    let u = update_is p kind o (sign q signs.Becomes ∷ m) is may in
    let xt = exact_target dt n below (λ k. goes_on k (tok p kind ∷ sign q signs.Becomes ∷ m) marks.open_sign (update_more (tok p kind ∷ sign q signs.Becomes ∷ m) (p, o) marks.open_sign marks.dot marks.becomes u)) k.0 in
    let after = subst (λ j. StaysBelow j (sign q signs.Becomes ∷ m)) (marks.room (suc n)) xt.1.1 in
    let xv = exact_value dv n after.1 ends.stops in
    (by_name n toks (Ok (update (place_of t) t o p v, rest)) (location_first dt k.1 k.2) (xt.0 ∙ an_update n t v o kind p q m rest k.3 u xv.0), xv.1)
exact_simple (is_call {n = x} {es = es} {p = p} {m = m} {rest = rest} d) n below ends =
    let h = exact_args d n p below.1.0 below.1.1 in (
      by_name n (name_token x ∷ sign p signs.Open ∷ m) (Ok (call_of x.at false x es, rest)) (record { name = x; others = sign p signs.Open ∷ m; here = refl; no_bracket = refl; no_colon = refl }) (a_call n x p es m rest h.0 ends.no_more),
      h.1,
    )
exact_simple (is_call_word {at = at} {p = p} {n = x} {es = es} {m = m} {rest = rest} d) n below ends =
    let h = exact_args d n p below.1.1.0 below.1.1.1 in
    (a_call_word n at p x es m rest h.0, h.1)
exact_simple (is_exit {at = at} {n = x} {rest = rest}) n below ends = (an_exit n at x rest, below.1.1)
exact_simple (is_return {at = at} d) n below ends = exact_return d n below.1 ends
  where
    exact_return : {v : Option ExprTree} {m rest : Toks} → IsValue v m rest → (n : ℕ) → StaysBelow (suc n) m → EndsSimple rest → (simple_at n (word at words.Return ∷ m) ≡ Ok (return_with at v, rest)) × StaysBelow (suc n) rest
    exact_return (no_value {toks = m}) n below ends = (a_bare_return n at m ends.no_expr, below)
    exact_return (with_value {e = v} {toks = m} {rest = rest} d) n below ends = let h = exact_value d n below ends.stops in (a_return n at v m rest (ranked_begins d) h.0, h.1)
exact_simple (is_result {at = at} {v = v} {m = m} {rest = rest} d) n below ends = let h = exact_value d n below.1 ends.stops in (a_result n at v m rest h.0, h.1)
exact_simple (is_assert {at = at} {v = v} {m = m} {rest = rest} d) n below ends = let h = exact_value d n below.1 ends.stops in (an_assertion n at v m rest h.0, h.1)
exact_simple (is_cause {at = at} {n = x} {rest = rest}) n below ends = (a_cause n at x rest, below.1.1)
exact_simple (is_stop {at = at} {rest = rest}) n below ends = (a_stop n at rest, below.1)
exact_simple (is_start {at = at} {p = p} {n = x} {es = es} {m = m} {rest = rest} d) n below ends =
    let h = exact_args d n p below.1.1.0 below.1.1.1 in
    (a_start n at p x es m rest h.0, h.1)
exact_simple (is_delay {at = at} {n = x} {c = c} {m = m} {rest = rest} d) n below ends =
    let h = exact_clause words.Priority (value_at n) (suc n) (Stops 5) (value_exact n) (λ u k v. v.1) d below.1.1 ends.priority ends.stops in
    (a_delay n at x c m rest h.0, h.1)
exact_simple (is_continue {at = at} {n = x} {rest = rest}) n below ends = (a_continue n at x rest, below.1.1)
exact_simple (is_send {at = at} {n = x} {es = es} {t = t} {c = c} {m = m} {m2 = m2} {m3 = m3} {rest = rest} de dt dc) n below ends =
    let s3 = clause_front (Stops 5) (λ u k. (refl, refl, refl, tt)) dc ends.stops in
    let t3 : begins_with words.To m3 ≡ false = clause_front (λ k. begins_with words.To k ≡ false) (λ u k. refl) dc ends.to in
    let o3 : begins signs.Open m3 ≡ false = clause_front (λ k. begins signs.Open k ≡ false) (λ u k. refl) dc ends.open_sign in
    let o2 : begins signs.Open m2 ≡ false = clause_front (λ k. begins signs.Open k ≡ false) (λ u k. refl) dt o3 in
    let xe = exact_message de n below.1.1 o2 in
    let xt = exact_clause words.To (value_at n) (suc n) (Stops 5) (value_exact n) (λ u k v. v.1) dt xe.1 t3 s3 in
    let xc = exact_clause words.Priority (value_at n) (suc n) (Stops 5) (value_exact n) (λ u k v. v.1) dc xt.1 ends.priority ends.stops in
    (a_send n at x es t c m m2 m3 rest xe.0 xt.0 xc.0, xc.1)

value_given_shrinks : {v : Option ExprTree} {toks rest : Toks} → IsValue v toks rest → length rest ≤ length toks
value_given_shrinks no_value = omega arith
value_given_shrinks (with_value d) = omega (arith, ranked_shrinks d)

message_shrinks : {es : Option (List ExprTree)} {toks rest : Toks} → IsMessage es toks rest → length rest ≤ length toks
message_shrinks no_message = omega arith
message_shrinks (with_message d) = omega (arith, exprs_shrink d)

pub simple_shrinks : {a : SimpleTree} {toks rest : Toks} → IsSimple a toks rest → length rest < length toks
simple_shrinks (is_assign t v) = omega (arith, location_shrinks t, ranked_shrinks v)
simple_shrinks (is_update t is may v) = omega (arith, location_shrinks t, ranked_shrinks v)
simple_shrinks (is_call d) = omega (arith, args_shrink d)
simple_shrinks (is_call_word d) = omega (arith, args_shrink d)
simple_shrinks is_exit = omega arith
simple_shrinks (is_return d) = omega (arith, value_given_shrinks d)
simple_shrinks (is_result d) = omega (arith, ranked_shrinks d)
simple_shrinks (is_assert d) = omega (arith, ranked_shrinks d)
simple_shrinks is_cause = omega arith
simple_shrinks is_stop = omega arith
simple_shrinks (is_start d) = omega (arith, args_shrink d)
simple_shrinks (is_delay d) = omega (arith, clause_shrinks value_shrinks d)
simple_shrinks is_continue = omega arith
simple_shrinks (is_send e t c) = omega (arith, message_shrinks e, clause_shrinks value_shrinks t, clause_shrinks value_shrinks c)
