-- Values that are dropped or put out, ASSERT, CAUSE and STOP.
use Rattle.std.proofs.Common.{◌≡◌, ℕ, ◌+◌, if◌then◌else◌, Bool, true, false, List, [], ◌∷◌, ◌++◌, ℤ, length, Option, Some, None, slice_get, refl, sym, ap, ◌∙◌, subst, arith, inl, inr}
use Rattle.kernel_base.specs.declared.ends.Exc.TheVariants.{Rangefail, Assertfail}
use Rattle.kernel_base.specs.declared.ends.How.{How}
use Rattle.kernel_base.specs.declared.ends.How.TheVariants.{Stopped}
use Rattle.kernel_base.specs.declared.request.Request.TheVariants.{Put, End}
use Rattle.kernel_base.specs.declared.answer.Answer.{Answer}
use Rattle.world_model.specs.Session.{Item, Ask, Session, Asked, Answered, Unanswered, ask}
use Rattle.checked_program.specs.declared.expr.Routine.{Routine}
use Rattle.scalar_operators.specs.Numbers.{decimal_text}
use Rattle.code_types.specs.declared.instr.Instr.{Instr}
use Rattle.code_types.specs.declared.instr.Instr.TheVariants as i
use Rattle.code_types.specs.Exceptions.{exception_of}
use Rattle.code_types.specs.Operands.{bytes_of}
use Rattle.code_types.specs.Actions.{Throws, Requests, with_one, asks, puts}
use Rattle.code_types.specs.Answers.{fits_request, ended}
use Rattle.code_types.specs.State.{State, Asking}
use Rattle.code_types.specs.Steps.{At, Over, run_with}
use Rattle.program_trees.specs.ExprTree.{ExprTree, count_of}
use Rattle.program_trees.specs.StatementTree.{drop_routine, evaluate, put_int, put_text, put_line, assert_that, cause, stop}
use Rattle.source_meaning.specs.Store.{Store}
use Rattle.source_meaning.specs.Flow.{Goes, Raised, Meaning, then_do, done, Given, Halts, reply_in, finished, finish, takes_answer}
use Rattle.source_meaning.specs.Operators.{sole_number, is_true}
use Rattle.source_meaning.specs.ExprMeaning.{Setting, expr_mean}
use Rattle.source_meaning.specs.StatementMeaning.{nothing, put_bytes}
use Rattle.source_meaning.specs.BodyMeaning.{Bodies}
use Rattle.code_scheme.specs.Pieces.{Layout, routine_code}
use Rattle.code_scheme.specs.ExprSizes.{expr_size, condition_size}
use Rattle.code_scheme.specs.ExprCode.{expr_code, condition_code}
use Rattle.code_scheme.specs.StatementSite.{Standing, layout}
use Rattle.code_scheme.specs.StatementPlain.{taken_by}
use Rattle.follow_laws.specs.Follows.{HasAt, Around, here, state_at, Holds, Follows, always, no_stack, HoldsWith, Nothing, Does}
use Rattle.code_laws.specs.Calls.{open_in}
use Rattle.code_laws.specs.BodyBounds.{BodiesWithin}
use Rattle.code_laws.specs.InRange.{FitsExpr}
use Rattle.code_laws.specs.OwnBounds.{CallsWithin, expr_within}
use Rattle.code_laws.specs.Expressions.{NamesIn, calls_at}
use Rattle.follow_laws.proofs.Running.{has_front, has_back, one_more, after, follows_then, makes, comes, raises, stops}
use Rattle.follow_laws.proofs.Requesting.{fits_alike, none_takes, done_by}
use Rattle.follow_laws.proofs.Instructions.{sole}
use Rattle.code_laws.proofs.Sizes.{expr_length}
use Rattle.code_laws.proofs.BetweenRuns.{pop_run, routine_runs}
use Rattle.code_laws.proofs.ExprRuns.{expr_runs}
use Rattle.code_laws.specs.StatementBounds.{Along}
use Rattle.code_laws.specs.Statements.{StandsAs, calls_from}
use Rattle.statement_code_laws.specs.Parts.{Acts}
use Rattle.statement_code_laws.specs.Actions.{ActionActs, PlainLaw}
use Rattle.statement_code_laws.proofs.ConditionRuns.{condition_length, condition_runs}

-- a part without rows, behind which control may come
pub plain_acts : {w : Around} {from until : ℕ} {within : Along} {mean : Meaning (Unit {0})}
    → ((store : Store) (s : Session) (locals : List ℤ) → within store s ≡ true → Holds w store locals → Does w (here w from [] locals s) from until [] until (mean store s))
    → Acts w from until [] until true within mean
plain_acts f = record { lie = tt; comes = λ store store1 s s1 e. refl; follows = λ covered store s locals within h. f store s locals within h }

-- one behind which it never comes
pub leaving_acts : {w : Around} {from until : ℕ} {within : Along} {mean : Meaning (Unit {0})}
    → ((store store1 : Store) (s s1 : Session) → mean store s ≡ Goes tt store1 s1 → ⊥)
    → ((store : Store) (s : Session) (locals : List ℤ) → within store s ≡ true → Holds w store locals → Does w (here w from [] locals s) from until [] until (mean store s))
    → Acts w from until [] until false within mean
leaving_acts never f = record { lie = tt; comes = λ store store1 s s1 e. absurd (never store store1 s s1 e); follows = λ covered store s locals within h. f store s locals within h }

-- what keeps within where these regions are open keeps within here
pub open_here : (w : Around) (v : Setting) (inside : BodiesWithin) (along : CallsWithin → Bool) → v.open_now ≡ open_in w.regions → along (calls_from inside w v.open_now) ≡ true → along (calls_at inside w) ≡ true
open_here w v inside along is within = subst (λ (now : List ℕ). along (calls_from inside w now) ≡ true) is within

-- an expression, and an instruction that takes its value
pub taken_runs : (w : Around) (v : Setting) (st : Standing) (bodies : Bodies) (inside : BodiesWithin) (e : ExprTree) (instr : Instr) (from until : ℕ) (next : List ℤ → Meaning (Unit {0})) (locals : List ℤ) (store : Store) (s : Session)
    → StandsAs w v st bodies inside → from + (expr_size e + 1) ≡ until → NamesIn w from until → FitsExpr (layout st.site) e
    → HasAt w.code.instrs from (taken_by st e instr from)
    → expr_within v (calls_from inside w v.open_now) e store s ≡ true → Holds w store locals
    → ((xs : List ℤ) (store1 : Store) (s1 : Session) (locals1 : List ℤ) → length xs ≡ count_of e → slice_get w.code.instrs (from + expr_size e) ≡ Some instr → Holds w store1 locals1 → Does w (here w (from + expr_size e) xs locals1 s1) from until [] until (next xs store1 s1))
    → Does w (here w from [] locals s) from until [] until (then_do (expr_mean v e store s) next)
taken_runs w v st bodies inside e instr from until next locals store s stands len names fits has within h rest =
    let lay : Layout = layout st.site in
    let at : ℕ = from + expr_size e in
    let first : List Instr = expr_code lay st.free e from in
    let has1 = has_back w.code.instrs from at first (instr ∷ []) (ap (λ (j : ℕ). from + j) (expr_length lay st.free e from fits)) has in
    follows_then
    (expr_runs w v lay bodies inside from until st.free e from at [] locals store s stands.suited names stands.free fits refl (omega arith) (omega arith) (has_front w.code.instrs from first (instr ∷ []) has) (open_here w v inside (λ c. expr_within v c e store s) stands.suited.open_now within) h)
    (λ xs store1 s1 locals1 q. rest xs store1 s1 locals1 q.0 has1.0 q.1)

evaluated : (e : ExprTree) → ActionActs (evaluate e)
evaluated e w v st bodies inside n from stands names fits has =
    plain_acts (λ store s locals within h.
    taken_runs w v st bodies inside e (i.Pop (count_of e)) from (from + (expr_size e + 1)) nothing locals store s stands refl names fits has within h
    (λ xs store1 s1 locals1 long is h1.
    after (pop_run w xs (count_of e) (from + expr_size e) [] locals1 s1 (sym long) is) (comes {v = tt} (omega arith) refl (tt, h1))))

dropped : (r : Routine) (e : ExprTree) → ActionActs (drop_routine r e)
dropped r e w v st bodies inside n from stands names fits has =
    plain_acts (λ store s locals within h.
    let lay : Layout = layout st.site in
    let at : ℕ = from + expr_size e in
    let at1 : ℕ = at + length (routine_code r) in
    let until : ℕ = from + (expr_size e + (length (routine_code r) + 1)) in
    let first : List Instr = expr_code lay st.free e from in
    let pop : List Instr = i.Pop 1 ∷ [] in
    let has1 = has_back w.code.instrs from at first (routine_code r ++ pop) (ap (λ (j : ℕ). from + j) (expr_length lay st.free e from fits.0)) has in
    let has2 = has_back w.code.instrs at at1 (routine_code r) pop refl has1 in
    follows_then
    (expr_runs w v lay bodies inside from until st.free e from at [] locals store s stands.suited names stands.free fits.0 refl (omega arith) (omega arith) (has_front w.code.instrs from first (routine_code r ++ pop) has) (open_here w v inside (λ c. expr_within v c e store s) stands.suited.open_now within) h)
    (λ xs store1 s1 locals1 q.
    follows_then
    (routine_runs w r xs at at1 from until [] locals1 store1 s1 (q.0 ∙ fits.1) (has_front w.code.instrs at (routine_code r) pop has1) refl (omega arith) (omega arith) q.1)
    (λ ys store2 s2 locals2 q2.
    after (pop_run w ys 1 at1 [] locals2 s2 (sym q2.0) has2.0) (comes {v = tt} (omega arith) refl (tt, q2.1)))))

int_put : (e : ExprTree) → ActionActs (put_int e)
int_put e w v st bodies inside n from stands names fits has =
    plain_acts (λ store s locals within h.
    let until : ℕ = from + (expr_size e + 1) in
    taken_runs w v st bodies inside e i.PutInt from until (λ xs. done (Put (decimal_text (sole_number xs)))) locals store s stands refl names fits.0 has within h
    (λ xs store1 s1 locals1 long is h1.
    let one_long : length xs ≡ 1 = long ∙ fits.1 in
    done_by w i.PutInt from until until [] (from + expr_size e) (Put (decimal_text (sole_number xs))) [] xs locals1 store1 s1 is (sym one_long)
    (ap (λ (l : List ℤ). with_one l (λ x. asks (Put (decimal_text x)))) (sole xs one_long)) tt (omega arith) (omega arith) (omega arith) (none_takes (from + expr_size e)) h1))

text_put : (e : ExprTree) → ActionActs (put_text e)
text_put e w v st bodies inside n from stands names fits has =
    plain_acts (λ store s locals within h.
    taken_runs w v st bodies inside e (i.PutText (count_of e)) from until (λ xs. put_bytes (bytes_of xs)) locals store s stands refl names fits has within h
    (λ xs store1 s1 locals1 long is h1. by_bytes xs store1 s1 locals1 long is h1 (bytes_of xs) refl))
  where
    at : ℕ
    at = from + expr_size e

    until : ℕ
    until = from + (expr_size e + 1)

    by_bytes : (xs : List ℤ) (store1 : Store) (s1 : Session) (locals1 : List ℤ) → length xs ≡ count_of e → slice_get w.code.instrs at ≡ Some (i.PutText (count_of e)) → Holds w store1 locals1 → (o : Option (List ℕ)) → bytes_of xs ≡ o
        → Does w (here w at xs locals1 s1) from until [] until (put_bytes o store1 s1)
    by_bytes xs store1 s1 locals1 long is h1 None o_is = makes (i.PutText (count_of e)) at [] xs locals1 s1 (Throws Rangefail) is (sym long) (ap puts o_is) (raises (inl refl) (omega arith) (omega arith) refl h1)
    by_bytes xs store1 s1 locals1 long is h1 (Some bytes) o_is = done_by w (i.PutText (count_of e)) from until until [] at (Put bytes) [] xs locals1 store1 s1 is (sym long) (ap puts o_is) tt (omega arith) (omega arith) (omega arith) (none_takes at) h1

line_put : ActionActs put_line
line_put w v st bodies inside n from stands names fits has =
    plain_acts (λ store s locals within h.
    done_by w i.PutLine from (from + 1) (from + 1) [] from (Put (10 ∷ [])) [] [] locals store s has.0 refl refl tt refl (omega arith) (omega arith) (none_takes from) h)

asserted : (e : ExprTree) → ActionActs (assert_that e)
asserted e w v st bodies inside n from stands names fits has =
    plain_acts (λ store s locals within h.
    follows_then
    (condition_runs w v lay bodies inside from until st.free e true until from at [] locals store s stands.suited names stands.free fits.0 fits.1 refl (omega arith) (omega arith) (has_front w.code.instrs from first (i.Raise 3 ∷ []) has) (open_here w v inside (λ c. expr_within v c e store s) stands.suited.open_now within) h)
    (λ xs store1 s1 locals1 q. by_truth store1 s1 locals1 q.1 (is_true xs)))
  where
    lay : Layout
    lay = layout st.site

    at : ℕ
    at = from + condition_size e true

    until : ℕ
    until = from + (condition_size e true + 1)

    first : List Instr
    first = condition_code lay st.free e true until from

    has1 : HasAt w.code.instrs at (i.Raise 3 ∷ [])
    has1 = has_back w.code.instrs from at first (i.Raise 3 ∷ []) (ap (λ (j : ℕ). from + j) (condition_length lay st.free e true until from fits.0)) has

    by_truth : (store1 : Store) (s1 : Session) (locals1 : List ℤ) → Holds w store1 locals1 → (t : Bool)
        → Does w (here w (if t then until else at) [] locals1 s1) from until [] until (if t then Goes tt store1 s1 else Raised Assertfail store1 s1)
    by_truth store1 s1 locals1 h1 true = comes {v = tt} refl refl (tt, h1)
    by_truth store1 s1 locals1 h1 false = makes (i.Raise 3) at [] [] locals1 s1 (Throws Assertfail) has1.0 refl refl (raises (inl refl) (omega arith) (omega arith) refl h1)

caused : (x : ℕ) → ActionActs (cause x)
caused x w v st bodies inside n from stands names fits has =
    leaving_acts (λ store store1 s s1 e. let no : ⊥ = cc in no)
    (λ store s locals within h. makes (i.Raise x) from [] [] locals s (Throws (exception_of x)) has.0 refl refl (raises (inr (inl (x, has.0, refl))) (omega arith) (omega arith) refl h))

-- the process asks its end
end_follows : {A : Type 0} (w : Around) (lo hi : ℕ) (to : A → ℕ) (give : A → List ℤ) (Q : A → Store → List ℤ → Type 0) (how : How) (at : ℕ) (locals : List ℤ) (store : Store) (s : Session)
    → Holds w store locals
    → Follows w (At (state_at w (Asking (End how) []) at [] locals) (record s { trace = s.trace ++ Ask (End how) ∷ [] })) lo hi [] to give Q (finish how [] store s)
end_follows {A} w lo hi to give Q how at locals store s h =
    after {n = run_with q (End how) [] (ask (End how) s) trace} (one_more w.code (At q (record s { trace = trace })) (run_with q (End how) [] (ask (End how) s) trace) refl) (by_asked (ask (End how) s))
  where
    q : State
    q = state_at w (Asking (End how) []) at [] locals

    trace : List Item
    trace = s.trace ++ Ask (End how) ∷ []

    halts : (t : List Item) → Follows w (Over q t) lo hi [] to give Q (finished (Halts t) [] store)
    halts t = stops (Asking (End how) []) t h

    by_fit : (a : Answer) (s1 : Session) (x y : Bool) → x ≡ y → Follows w (if y then At (ended q) s1 else Over q trace) lo hi [] to give Q (finished (if x then Given a s1 else Halts trace) [] store)
    by_fit a s1 true true e = record { by = record { state = ended q; none = refl; by = one_more w.code (At (ended q) s1) (Over (ended q) s1.trace) refl } }
    by_fit a s1 false false e = halts trace
    by_fit a s1 true false e = absurd (let no : ⊥ = cc in no)
    by_fit a s1 false true e = absurd (let no : ⊥ = cc in no)

    by_asked : (x : Asked) → Follows w (run_with q (End how) [] x trace) lo hi [] to give Q (finished (reply_in (End how) [] x trace) [] store)
    by_asked (Answered a s1) = by_fit a s1 (takes_answer (End how) [] a) (fits_request (End how) [] a) (fits_alike (End how) [] a)
    by_asked (Unanswered t) = halts t

never_back : (store store1 : Store) (s s1 : Session) → finish {A = Unit {0}} Stopped [] store s ≡ Goes tt store1 s1 → ⊥
never_back store store1 s s1 e = by_asked (ask (End Stopped) s) e
  where
    by_fit : (a : Answer) (s2 : Session) (t : Bool) → finished {A = Unit {0}} (if t then Given a s2 else Halts (s.trace ++ Ask (End Stopped) ∷ [])) [] store ≡ Goes tt store1 s1 → ⊥
    by_fit a s2 true e2 = let no : ⊥ = cc in no
    by_fit a s2 false e2 = let no : ⊥ = cc in no

    by_asked : (x : Asked) → finished {A = Unit {0}} (reply_in (End Stopped) [] x (s.trace ++ Ask (End Stopped) ∷ [])) [] store ≡ Goes tt store1 s1 → ⊥
    by_asked (Answered a s2) e2 = by_fit a s2 (takes_answer (End Stopped) [] a) e2
    by_asked (Unanswered t) e2 = let no : ⊥ = cc in no

stopped : ActionActs stop
stopped w v st bodies inside n from stands names fits has =
    leaving_acts never_back
    (λ store s locals within h.
    makes i.Stop from [] [] locals s (Requests (End Stopped) []) has.0 refl refl (end_follows w from (from + 1) (always (from + 1)) no_stack (HoldsWith w Nothing) Stopped from locals store s h))

pub plain_law : PlainLaw
plain_law =
    record {
      nothing = λ w v st bodies inside n from stands names fits has. plain_acts (λ store s locals within h. comes {v = tt} (let e : from ≡ from + 0 = omega arith in e) refl (tt, h));
      evaluated = evaluated;
      dropped = dropped;
      int_put = int_put;
      text_put = text_put;
      line_put = line_put;
      asserted = asserted;
      caused = caused;
      stopped = stopped;
    }
