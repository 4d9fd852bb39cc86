-- Pieces of loops: what a turn keeps within, and conditions behind a test.
use Rattle.std.proofs.Common.{◌≡◌, ℕ, suc, ◌+◌, ◌≤◌, if◌then◌else◌, Bool, true, false, List, [], ◌++◌, ℤ, length, Option, Some, None, slice_get, nat_le, le-leb, refl, sym, ap, ◌∙◌, subst}
use Rattle.world_model.specs.Session.{Session, GoesOn, tick}
use Rattle.world_model.specs.Lists.{with_scalars}
use Rattle.program_trees.specs.ExprTree.{ExprTree}
use Rattle.code_types.specs.declared.instr.Instr.TheVariants as i
use Rattle.code_types.specs.Actions.{Sets, Halts}
use Rattle.source_meaning.specs.Store.{Store, local_value}
use Rattle.source_meaning.specs.Flow.{Flow, Goes, Raised, Exits, Returned, Stops, Gone, Bound, Meaning, then_do}
use Rattle.source_meaning.specs.Operators.{is_true}
use Rattle.source_meaning.specs.ExprMeaning.{Setting, expr_mean}
use Rattle.source_meaning.specs.StatementMeaning.{where_holds}
use Rattle.source_meaning.specs.BodyMeaning.{Bodies}
use Rattle.code_scheme.specs.StatementSite.{Standing, layout}
use Rattle.follow_laws.specs.Follows.{Around, keeping, here, Holds, GetsTo, Follows, no_stack}
use Rattle.follow_laws.specs.Parts.{LoopPlaces, turn_place, TurnHolds, TestFrom}
use Rattle.code_laws.specs.BodyBounds.{BodiesWithin, called_within}
use Rattle.code_laws.specs.OwnBounds.{expr_within}
use Rattle.code_laws.specs.StatementBounds.{Along, OpenCallsWithin, where_goes_on, value_within, some_value_within, turn_within, turns_within}
use Rattle.code_laws.specs.Expressions.{Suited, calls_at}
use Rattle.code_laws.specs.Statements.{calls_from}
use Rattle.code_laws.specs.Loops.{ConditionGoes, SomeLeaves}
use Rattle.follow_laws.proofs.Running.{follows_then, comes, forgotten, forgetting}
use Rattle.follow_laws.proofs.Instructions.{sets_by}
use Rattle.code_laws.proofs.Values.{both_true}
use Rattle.code_laws.proofs.ExprPieces.{there}

-- ---- what a turn keeps within

pub record TurnKeeps {C : Type 0} (test : C → Meaning (Option C)) (tests : C → Along) (body : Meaning (Unit {0})) (along : Along) (n : ℕ) (c : C) (store : Store) (s : Session) : Type 0 where
  pub now : along store s ≡ true
  pub later : (store1 : Store) (s1 s2 : Session) → body store s ≡ Goes tt store1 s1 → tick s1 ≡ GoesOn s2 → turns_within test tests body along n c store1 s2 ≡ true

pub turn_keeps : {C : Type 0} (test : C → Meaning (Option C)) (tests : C → Along) (body : Meaning (Unit {0})) (along : Along) (n : ℕ) (before c : C) (store0 store : Store) (s0 s : Session)
    → turns_within test tests body along (suc n) before store0 s0 ≡ true → test before store0 s0 ≡ Goes (Some c) store s
    → TurnKeeps test tests body along n c store s
turn_keeps test tests body along n before c store0 store s0 s within leads =
    let behind = there (test before store0 s0) (λ o store1 s1. turn_within o body along (turns_within test tests body along n) store1 s1) (Some c) store s (both_true _ _ within).1 leads in
    let parts = both_true _ _ behind in
    record {
      now = parts.0;
      later = λ store1 s1 s2 is ticks.
          subst (λ t. where_goes_on t (λ s3. turns_within test tests body along n c store1 s3) ≡ true) ticks
          (there (body store s) (λ z store2 s3. where_goes_on (tick s3) (λ s4. turns_within test tests body along n c store2 s4)) tt store1 s1 parts.1 is);
    }

-- ---- conditions

-- a condition leads behind the loop, or to the turn with what is kept for the next test
pub where_runs : {C : Type 0} (w : Around) (v : Setting) (calls : OpenCallsWithin) (l : LoopPlaces) (kept_of : C → List ℤ) (condition : Option ExprTree) (place : ℕ) (c : C) (store : Store) (s : Session) (locals : List ℤ)
    → ConditionGoes (keeping w (kept_of c)) v calls l place condition → some_value_within v calls condition store s ≡ true → Holds (keeping w (kept_of c)) store locals
    → TestFrom w l kept_of (here w place [] locals s) (where_holds v condition c store s)
where_runs w v calls l kept_of None place c store s locals goes within h = comes {v = Some c} goes refl h
where_runs {C} w v calls l kept_of (Some e) place c store s locals goes within h =
    forgetting (kept_of c)
    (follows_then (goes store s locals within h)
    (λ xs store1 s1 locals1 q. by_truth (is_true xs) store1 s1 locals1 q.1))
  where
    by_truth : (t : Bool) (store1 : Store) (s1 : Session) (locals1 : List ℤ) → Holds (keeping w (kept_of c)) store1 locals1
        → Follows (keeping w (kept_of c)) (here w (if t then l.turn else l.behind) [] locals1 s1) l.from l.until l.rows (turn_place l) no_stack (TurnHolds w kept_of) (Goes (if t then Some c else None) store1 s1)
    by_truth true store1 s1 locals1 h1 = comes {v = Some c} refl refl h1
    by_truth false store1 s1 locals1 h1 = comes {v = None} refl refl (forgotten w (kept_of c) store1 locals1 h1)

-- ---- what has gone through

pub record Went {A B : Type 0} (o : Flow A) (next : A → Meaning B) (v : B) (store : Store) (s : Session) : Type 0 where
  pub first : A
  pub store_between : Store
  pub session_between : Session
  pub went : o ≡ Goes first store_between session_between
  pub on : next first store_between session_between ≡ Goes v store s

pub then_went : {A B : Type 0} (o : Flow A) (next : A → Meaning B) (v : B) (store : Store) (s : Session) → then_do o next ≡ Goes v store s → Went o next v store s
then_went (Goes u store1 s1) next v store s is = record { first = u; store_between = store1; session_between = s1; went = refl; on = is }
then_went (Raised x store1 s1) next v store s is = absurd (let no : ⊥ = cc in no)
then_went (Exits k store1 s1) next v store s is = absurd (let no : ⊥ = cc in no)
then_went (Returned store1 s1) next v store s is = absurd (let no : ⊥ = cc in no)
then_went (Stops t inner store1) next v store s is = absurd (let no : ⊥ = cc in no)
then_went (Gone t) next v store s is = absurd (let no : ⊥ = cc in no)
then_went Bound next v store s is = absurd (let no : ⊥ = cc in no)

-- a condition that leads to a turn leads there with what it had
pub record LeadsOn {C : Type 0} (v : Setting) (condition : Option ExprTree) (c left : C) (store store1 : Store) (s s1 : Session) : Type 0 where
  pub same : c ≡ left
  pub stays : (k : ℕ) → SomeLeaves v k condition → local_value store1 k ≡ local_value store k

if_some : {C : Type 0} (t : Bool) (c left : C) (store store1 : Store) (s s1 : Session) → Goes (if t then Some c else None) store s ≡ Goes (Some left) store1 s1 → (c ≡ left) × (store ≡ store1)
if_some true c left store store1 s s1 is = (cc, cc)
if_some false c left store store1 s s1 is = absurd (let no : ⊥ = cc in no)

pub where_leads : {C : Type 0} (v : Setting) (condition : Option ExprTree) (c left : C) (store store1 : Store) (s s1 : Session)
    → where_holds v condition c store s ≡ Goes (Some left) store1 s1 → LeadsOn v condition c left store store1 s s1
where_leads v None c left store store1 s s1 is = record { same = cc; stays = λ k leaves. let same : store ≡ store1 = cc in ap (λ (st : Store). local_value st k) (sym same) }
where_leads v (Some e) c left store store1 s s1 is =
    let went = then_went (expr_mean v e store s) (λ xs. Goes (if is_true xs then Some c else None)) (Some left) store1 s1 is in
    let both = if_some (is_true went.first) c left went.store_between store1 went.session_between s1 went.on in
    record { same = both.0; stays = λ k leaves. ap (λ (st : Store). local_value st k) (sym both.1) ∙ leaves went.first store went.store_between s went.session_between went.went }

-- ---- values and locals

-- an expression keeps within by the calls that are made here
pub value_here : (w : Around) (v : Setting) (st : Standing) (bodies : Bodies) (inside : BodiesWithin) (e : ExprTree) (store : Store) (s : Session)
    → Suited w v (layout st.site) bodies inside → value_within v (calls_from inside w) e store s ≡ true → expr_within v (calls_at inside w) e store s ≡ true
value_here w v st bodies inside e store s suited within =
    subst (λ (open_now : List ℕ). expr_within v (called_within inside (suc (length w.below)) open_now) e store s ≡ true) suited.open_now within

-- locals of the frame are set
pub set_run : (w : Around) (f n at : ℕ) (base xs locals : List ℤ) (s : Session)
    → f + length xs ≤ length locals → n ≡ length xs → slice_get w.code.instrs at ≡ Some (i.SetLocal f n)
    → GetsTo w.code (here w at (base ++ xs) locals s) (here w (at + 1) base (with_scalars locals f xs) s)
set_run w f n at base xs locals s inside long has =
    let yes : nat_le (f + length xs) (length locals) ≡ true = le-leb (f + length xs) (length locals) inside in
    sets_by w (i.SetLocal f n) at base xs locals s f xs has long (ap (λ t. if t then Sets f xs else Halts) yes)
