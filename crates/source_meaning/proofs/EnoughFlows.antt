-- Parts that come to an outcome, and never make more ticks than there are.
use Rattle.std.proofs.Common.{◌≤◌, ℕ, zero, suc, Bool, true, false, List, [], ◌∷◌, ◌++◌, arith, Option, Some, None}
use Rattle.std.specs.Prelude.{if◌then◌else◌}
use Rattle.kernel_base.specs.declared.ends.Exc.{Exc}
use Rattle.kernel_base.specs.declared.ends.How.{How}
use Rattle.kernel_base.specs.declared.request.Request.{Request}
use Rattle.kernel_base.specs.declared.request.Request.TheVariants.{Leave, Enter, End}
use Rattle.kernel_base.specs.declared.answer.Answer.{Answer}
use Rattle.kernel_base.specs.declared.answer.Answer.TheVariants.{Fail}
use Rattle.world_model.specs.Session.{Item, Tick, Ask, Session, tick_of, tick}
use Rattle.source_meaning.specs.Store.{Store, OpenCall}
use Rattle.source_meaning.specs.Flow.{Flow, Goes, Raised, Exits, Returned, Stops, Gone, Bound, Meaning, then_do, takes_answer, Given, Halts, asked_in, asked, done, finish, finished, after_tick}
use Rattle.source_meaning.specs.ExprMeaning.{Setting}
use Rattle.source_meaning.specs.StatementMeaning.{is_open, opened, at_region, then_leave, ends_exit, labelled_as, caught, turns, turn_or_end}

-- an outcome with at most so many ticks left
abbrev pub Within : {A : Type 0} → ℕ → Flow A → Type 0
Within m (Goes v store s) = s.ticks ≤ m
Within m (Raised x store s) = s.ticks ≤ m
Within m (Exits k store s) = s.ticks ≤ m
Within m (Returned store s) = s.ticks ≤ m
Within m (Stops t inner store) = Unit {0}
Within m (Gone t) = Unit {0}
Within m Bound = ⊥

-- a part that comes to an outcome where at most so many ticks are left
abbrev pub Keeps : {A : Type 0} → ℕ → Meaning A → Type 0
Keeps m part = (store : Store) (s : Session) → s.ticks ≤ m → Within m (part store s)

pub more_within : {A : Type 0} (m k : ℕ) (f : Flow A) → m ≤ k → Within m f → Within k f
more_within m k (Goes v store s) low is = omega (arith, low, is)
more_within m k (Raised x store s) low is = omega (arith, low, is)
more_within m k (Exits j store s) low is = omega (arith, low, is)
more_within m k (Returned store s) low is = omega (arith, low, is)
more_within m k (Stops t inner store) low is = tt
more_within m k (Gone t) low is = tt
more_within m k Bound low is = is

pub then_keeps : {A B : Type 0} (m : ℕ) (f : Flow A) (next : A → Meaning B) → Within m f → ((v : A) → Keeps m (next v)) → Within m (then_do f next)
then_keeps m (Goes v store s) next is all = all v store s is
then_keeps m (Raised x store s) next is all = is
then_keeps m (Exits k store s) next is all = is
then_keeps m (Returned store s) next is all = is
then_keeps m (Stops t inner store) next is all = tt
then_keeps m (Gone t) next is all = tt
then_keeps m Bound next is all = is

pub if_within : {A : Type 0} (m : ℕ) (b : Bool) (f g : Flow A) → Within m f → Within m g → Within m (if b then f else g)
if_within m true f g x y = x
if_within m false f g x y = y

-- ---- requests

given_keeps : (m : ℕ) (answer : Answer) (store : Store) (s : Session) → s.ticks ≤ m → Within m (asked_in (Given answer s) store)
given_keeps m (Fail x) store s low = low
given_keeps m answer store s low = low

takes_keeps : (m : ℕ) (taken : Bool) (answer : Answer) (store : Store) (s : Session) (trace : List Item) → s.ticks ≤ m → Within m (asked_in (if taken then Given answer s else Halts trace) store)
takes_keeps m true answer store s trace low = given_keeps m answer store s low
takes_keeps m false answer store s trace low = tt

pub asked_keeps : (m : ℕ) (request : Request) (counts : List ℕ) → Keeps m (asked request counts)
asked_keeps m request counts store s low = by-answers s.answers
  where
    by-answers : (answers : List Answer) → Within m (asked request counts store (record s { answers = answers }))
    by-answers [] = tt
    by-answers (answer ∷ answers) = takes_keeps m (takes_answer request counts answer) answer store (record { trace = s.trace ++ Ask request ∷ []; answers = answers; ticks = s.ticks }) (s.trace ++ Ask request ∷ []) low

pub done_keeps : (m : ℕ) (request : Request) → Keeps m (done request)
done_keeps m request store s low = then_keeps m (asked request [] store s) _ (asked_keeps m request [] store s low) (λ answer store1 s1 low1. low1)

finished_keeps : (A : Type 0) (m : ℕ) (taken : Bool) (answer : Answer) (s : Session) (trace : List Item) (inner : List OpenCall) (store : Store) → Within m (finished {A = A} (if taken then Given answer s else Halts trace) inner store)
finished_keeps A m true answer s trace inner store = tt
finished_keeps A m false answer s trace inner store = tt

pub finish_keeps : (A : Type 0) (m : ℕ) (how : How) (inner : List OpenCall) → Keeps m (finish {A = A} how inner)
finish_keeps A m how inner store s low = by-answers s.answers
  where
    by-answers : (answers : List Answer) → Within m (finish {A = A} how inner store (record s { answers = answers }))
    by-answers [] = tt
    by-answers (answer ∷ answers) = finished_keeps A m (takes_answer (End how) [] answer) answer (record { trace = s.trace ++ Ask (End how) ∷ []; answers = answers; ticks = s.ticks }) (s.trace ++ Ask (End how) ∷ []) inner store

-- behind a tick there is one less, and one at least
pub tick_keeps : {A : Type 0} (m : ℕ) (store : Store) (s : Session) (next : Session → Flow A) → s.ticks ≤ m → ((j : ℕ) (s1 : Session) → suc (suc j) ≤ m → s1.ticks ≤ suc j → Within (suc j) (next s1)) → Within m (after_tick (tick s) store next)
tick_keeps m store s next low all = by-ticks s.ticks low
  where
    by-ticks : (ticks : ℕ) → ticks ≤ m → Within m (after_tick (tick_of (s.trace ++ Tick ∷ []) s.answers ticks) store next)
    by-ticks zero below = tt
    by-ticks (suc zero) below = tt
    by-ticks (suc (suc j)) below =
        more_within (suc j) m _ (omega (arith, below)) (all j (record { trace = s.trace ++ Tick ∷ []; answers = s.answers; ticks = suc j }) below (omega arith))

-- ---- loops

turn_keeps : {C : Type 0} (m n : ℕ) (o : Option C) (body : Meaning (Unit {0})) (again : C → Meaning (Unit {0})) → m ≤ suc n → Keeps m body → ((j : ℕ) → suc j ≤ n → suc (suc j) ≤ m → (c : C) → Keeps (suc j) (again c)) → Keeps m (turn_or_end o body again)
turn_keeps m n None body again below is all store s low = low
turn_keeps m n (Some c) body again below is all store s low =
    then_keeps m (body store s) _ (is store s low) (λ _ store1 s1 low1.
    tick_keeps m store1 s1 (λ s2. again c store1 s2) low1 (λ j s2 below2 low2. all j (omega (arith, below, below2)) below2 c store1 s2 low2))

-- as many turns as there are ticks
pub turns_keep : {C : Type 0} (n m : ℕ) (test : C → Meaning (Option C)) (body : Meaning (Unit {0})) (c : C) → 1 ≤ n → m ≤ n → ((k : ℕ) → k ≤ m → (c : C) → Keeps k (test c)) → ((k : ℕ) → k ≤ m → Keeps k body) → Keeps m (turns n test body c)
turns_keep zero m test body c some below tests is store s low = absurd (let f : ⊥ = omega (arith, some) in f)
turns_keep (suc n) m test body c some below tests is store s low =
    then_keeps m (test c store s) _ (tests m (omega arith) c store s low) (λ o.
    turn_keeps m n o body (turns n test body) below (is m (omega arith))
    (λ j low1 low2 c'. turns_keep n (suc j) test body c' (omega (arith, low1)) low1 (λ k low3. tests k (omega (arith, low2, low3))) (λ k low3. is k (omega (arith, low2, low3)))))

-- ---- regions, labels and handlers

pub leave_keeps : (m r : ℕ) (f : Flow (Unit {0})) → Within m f → Within m (then_leave r f)
leave_keeps m r (Goes v store s) is = done_keeps m (Leave r) store s is
leave_keeps m r (Raised x store s) is = then_keeps m (done (Leave r) store s) _ (done_keeps m (Leave r) store s is) (λ _ store1 s1 low1. low1)
leave_keeps m r (Exits k store s) is = is
leave_keeps m r (Returned store s) is = is
leave_keeps m r (Stops t inner store) is = tt
leave_keeps m r (Gone t) is = tt
leave_keeps m r Bound is = is

pub region_keeps : (m : ℕ) (o : Option ℕ) (w : Setting) (inside : Setting → Meaning (Unit {0})) → Keeps m (inside w) → ((r : ℕ) → Keeps m (inside (opened w r))) → Keeps m (at_region o w inside)
region_keeps m None w inside is all store s low = is store s low
region_keeps m (Some r) w inside is all store s low =
    if_within m (is_open r w.open_now) _ _ (is store s low) (then_keeps m (done (Enter r) store s) _ (done_keeps m (Enter r) store s low) (λ _ store1 s1 low1. leave_keeps m r (inside (opened w r) store1 s1) (all r store1 s1 low1)))

pub caught_keeps : (m : ℕ) (f : Flow (Unit {0})) (h : Exc → Meaning (Unit {0})) → Within m f → ((x : Exc) → Keeps m (h x)) → Within m (caught f h)
caught_keeps m (Goes v store s) h is all = is
caught_keeps m (Raised x store s) h is all = all x store s is
caught_keeps m (Exits k store s) h is all = is
caught_keeps m (Returned store s) h is all = is
caught_keeps m (Stops t inner store) h is all = tt
caught_keeps m (Gone t) h is all = tt
caught_keeps m Bound h is all = is

exit_keeps : (m : ℕ) (f : Flow (Unit {0})) → Within m f → Within m (ends_exit f)
exit_keeps m (Goes v store s) is = is
exit_keeps m (Raised x store s) is = is
exit_keeps m (Exits zero store s) is = is
exit_keeps m (Exits (suc k) store s) is = is
exit_keeps m (Returned store s) is = is
exit_keeps m (Stops t inner store) is = tt
exit_keeps m (Gone t) is = tt
exit_keeps m Bound is = is

pub labelled_keeps : (m : ℕ) (b : Bool) (f : Flow (Unit {0})) → Within m f → Within m (labelled_as b f)
labelled_keeps m true f is = exit_keeps m f is
labelled_keeps m false f is = is
