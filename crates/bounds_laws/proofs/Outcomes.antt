-- What holds along parts that come to an outcome, where all answers that it took fit.
use Rattle.std.proofs.Common.{◌≡◌, ℕ, zero, suc, Bool, true, false, List, [], ◌∷◌, ◌++◌, Option, Some, None, refl, subst, arith}
use Rattle.std.specs.Prelude.{if◌then◌else◌, ◌&&◌}
use Rattle.kernel_base.specs.declared.ends.Exc.{Exc}
use Rattle.kernel_base.specs.declared.answer.Answer.{Answer}
use Rattle.kernel_base.specs.declared.request.Request.TheVariants.{Leave}
use Rattle.world_model.specs.Session.{Item, Tick, Ask, Session, tick_of}
use Rattle.program_trees.specs.ProgramTree.{CheckedTree}
use Rattle.code_types.specs.Runs.{Begins}
use Rattle.source_meaning.specs.Store.{Store}
use Rattle.source_meaning.specs.Flow.{Flow, Goes, Raised, Exits, Returned, Stops, Gone, Bound, Meaning, then_do, done, after_tick}
use Rattle.source_meaning.specs.StatementMeaning.{caught, ends_exit, labelled_as, then_leave, turns, turn_or_end}
use Rattle.source_meaning.specs.Fitting.{HasFittingAnswers}
use Rattle.text_laws.proofs.Traces.{begins_same, ticks_tick}
use Rattle.text_laws.proofs.Stages.{Whole, Fits, Here, Comes, ComesBy, Any, tick_on, linked_tick, fit_tick}
use Rattle.text_laws.proofs.Combining.{TestFits}
use Rattle.text_laws.proofs.Growing.{Extends, TellsOn, same_raises, then_grows, done_grows, tick_grows, turn_grows, same_turns}
use Rattle.text_laws.proofs.GrowingTalks.{nothing_more}
use Rattle.code_laws.specs.OwnBounds.{where_goes}
use Rattle.code_laws.specs.StatementBounds.{Along, where_raises, where_goes_on, turn_within, turns_within}

-- the answers of what an outcome tells fit, and more turns or calls than are looked at don't come
abbrev pub IsOverBy : {A : Type 0} → Whole → Flow A → Type 0
IsOverBy g (Goes v store s) = Fits g s
IsOverBy g (Raised x store s) = Fits g s
IsOverBy g (Exits k store s) = Fits g s
IsOverBy g (Returned store s) = Fits g s
IsOverBy g (Stops t inner store) = HasFittingAnswers g.program t g.answers
IsOverBy g (Gone t) = HasFittingAnswers g.program t g.answers
IsOverBy g Bound = ⊥

pub record IsOver {A : Type 0} (g : Whole) (o : Flow A) : Type 0 where
  pub by : IsOverBy g o

-- a part takes nothing back that was told
abbrev pub KeepsTold : {A : Type 0} → Meaning A → Type 0
KeepsTold part = Extends nothing_more part part

-- ---- traces

front_fits : (p : CheckedTree) (front rest : List Item) (all : List Answer) → HasFittingAnswers p (front ++ rest) all → HasFittingAnswers p front all
front_fits p [] rest all h = tt
front_fits p (Tick ∷ items) rest all h = front_fits p items rest all h
front_fits p (Ask request ∷ items) rest [] h = tt
front_fits p (Ask request ∷ items) rest (a ∷ all) h = (h.0, front_fits p items rest all h.1)

-- the answers of what begins a trace fit where all do
pub begun_fits : (p : CheckedTree) (front trace : List Item) (all : List Answer) → Begins front trace → HasFittingAnswers p trace all → HasFittingAnswers p front all
begun_fits p front trace all b h = front_fits p front b.0 all (subst (λ (t : List Item). HasFittingAnswers p t all) b.1 h)

told_fits : {A : Type 0} (g : Whole) (t : List Item) (o : Flow A) → TellsOn t o → IsOverBy g o → HasFittingAnswers g.program t g.answers
told_fits g t (Goes v store s) b h = begun_fits g.program t s.trace g.answers b h
told_fits g t (Raised x store s) b h = begun_fits g.program t s.trace g.answers b h
told_fits g t (Exits k store s) b h = begun_fits g.program t s.trace g.answers b h
told_fits g t (Returned store s) b h = begun_fits g.program t s.trace g.answers b h
told_fits g t (Stops u inner store) b h = begun_fits g.program t u g.answers b h
told_fits g t (Gone u) b h = begun_fits g.program t u g.answers b h
told_fits g t Bound b h = absurd h

-- so those before a part fit
pub fit_before : {A : Type 0} (g : Whole) (part : Meaning A) (store : Store) (s : Session) → KeepsTold part → IsOverBy g (part store s) → Fits g s
fit_before g part store s k h = told_fits g s.trace (part store s) (k.tells s.trace store s (begins_same s.trace)) h

-- ---- truths

pub and_holds : {a b : Bool} → a ≡ true → b ≡ true → (a && b) ≡ true
and_holds {a = true} {b = true} p q = refl
and_holds {a = true} {b = false} p q = q
and_holds {a = false} {b = b} p q = absurd (let f : ⊥ = cc in f)

either_by : {A : Type 0} (g : Whole) (t : Bool) (x y : Flow A) (a b : Bool) → IsOver g (if t then x else y) → (IsOver g x → a ≡ true) → (IsOver g y → b ≡ true) → (if t then a else b) ≡ true
either_by g true x y a b o p q = p o
either_by g false x y a b o p q = q o

pub either_lies : {A : Type 0} {g : Whole} {x y : Flow A} {a b : Bool} (t : Bool) → IsOver g (if t then x else y) → (IsOver g x → a ≡ true) → (IsOver g y → b ≡ true) → (if t then a else b) ≡ true
either_lies {g = g} {x = x} {y = y} {a = a} {b = b} t o p q = either_by g t x y a b o p q

-- ---- one part after another

only_by : {A B : Type 0} (g : Whole) (o : Flow A) (next : A → Meaning B) → ((v : A) → KeepsTold (next v)) → IsOverBy g (then_do o next) → IsOverBy g o
only_by g (Goes v store s) next k h = fit_before g (next v) store s (k v) h
only_by g (Raised x store s) next k h = h
only_by g (Exits n store s) next k h = h
only_by g (Returned store s) next k h = h
only_by g (Stops t inner store) next k h = h
only_by g (Gone t) next k h = h
only_by g Bound next k h = h

-- of the first of two
pub first_over : {A B : Type 0} {g : Whole} {o : Flow A} {next : A → Meaning B} → ((v : A) → KeepsTold (next v)) → IsOver g (then_do o next) → IsOver g o
first_over {g = g} {o = o} {next = next} k h = record { by = only_by g o next k h.by }

module _ (g : Whole) (S : Store → Type 0) where
  at_end_by : {A : Type 0} (from : Session) (P : A → Type 0) (o : Flow A) (rest : A → Along) → ComesBy g S from P o → IsOverBy g o → ((v : A) (store : Store) (s : Session) → Here g S store s → Fits g s → P v → rest v store s ≡ true) → where_goes o rest ≡ true
  at_end_by from P (Goes v store s) rest c h all = all v store s c.0 h (c.1 h).1
  at_end_by from P (Raised x store s) rest c h all = refl
  at_end_by from P (Exits k store s) rest c h all = refl
  at_end_by from P (Returned store s) rest c h all = refl
  at_end_by from P (Stops t inner store) rest c h all = refl
  at_end_by from P (Gone t) rest c h all = refl
  at_end_by from P Bound rest c h all = refl

  -- where a part that is over goes through
  pub at_its_end : {A : Type 0} {from : Session} {o : Flow A} {rest : A → Along} (P : A → Type 0) → Comes g S from P o → IsOver g o → ((v : A) (store : Store) (s : Session) → Here g S store s → Fits g s → P v → rest v store s ≡ true) → where_goes o rest ≡ true
  at_its_end {from = from} {o = o} {rest = rest} P c h all = at_end_by from P o rest c.by h.by all

  goes_by : {A B : Type 0} (from : Session) (P : A → Type 0) (o : Flow A) (next : A → Meaning B) (rest : A → Along) → ComesBy g S from P o → ((v : A) → KeepsTold (next v)) → IsOverBy g (then_do o next) → ((v : A) (store : Store) (s : Session) → Here g S store s → (Fits g s → Fits g from × P v) → Fits g s → P v → IsOver g (next v store s) → rest v store s ≡ true) → where_goes o rest ≡ true
  goes_by from P (Goes v store s) next rest c k h all = let f = fit_before g (next v) store s (k v) h in all v store s c.0 c.1 f (c.1 f).1 (record { by = h })
  goes_by from P (Raised x store s) next rest c k h all = refl
  goes_by from P (Exits n store s) next rest c k h all = refl
  goes_by from P (Returned store s) next rest c k h all = refl
  goes_by from P (Stops t inner store) next rest c k h all = refl
  goes_by from P (Gone t) next rest c k h all = refl
  goes_by from P Bound next rest c k h all = refl

  -- where the first of two goes through
  pub where_through : {A B : Type 0} {from : Session} {o : Flow A} {next : A → Meaning B} {rest : A → Along} (P : A → Type 0) → Comes g S from P o → ((v : A) → KeepsTold (next v)) → IsOver g (then_do o next) → ((v : A) (store : Store) (s : Session) → Here g S store s → (Fits g s → Fits g from × P v) → Fits g s → P v → IsOver g (next v store s) → rest v store s ≡ true) → where_goes o rest ≡ true
  where_through {from = from} {o = o} {next = next} {rest = rest} P c k h all = goes_by from P o next rest c.by k h.by all

  -- along two parts
  pub joins : {A B : Type 0} {from : Session} {o : Flow A} {next : A → Meaning B} {b : Bool} {rest : A → Along} (P : A → Type 0) → Comes g S from P o → ((v : A) → KeepsTold (next v)) → IsOver g (then_do o next) → (IsOver g o → b ≡ true) → ((v : A) (store : Store) (s : Session) → Here g S store s → (Fits g s → Fits g from × P v) → Fits g s → P v → IsOver g (next v store s) → rest v store s ≡ true) → (b && where_goes o rest) ≡ true
  joins P c k h first all = and_holds (first (first_over k h)) (where_through P c k h all)

  -- ---- handlers, labels and regions

  caught_over : (o : Flow (Unit {0})) (h : Exc → Meaning (Unit {0})) → ((x : Exc) → KeepsTold (h x)) → IsOverBy g (caught o h) → IsOverBy g o
  caught_over (Goes v store s) h k f = f
  caught_over (Raised x store s) h k f = fit_before g (h x) store s (k x) f
  caught_over (Exits n store s) h k f = f
  caught_over (Returned store s) h k f = f
  caught_over (Stops t inner store) h k f = f
  caught_over (Gone t) h k f = f
  caught_over Bound h k f = f

  raised_by : (from : Session) (o : Flow (Unit {0})) (h : Exc → Meaning (Unit {0})) (rest : Exc → Along) → ComesBy g S from Any o → IsOverBy g (caught o h) → ((x : Exc) (store : Store) (s : Session) → Here g S store s → IsOver g (h x store s) → rest x store s ≡ true) → where_raises o rest ≡ true
  raised_by from (Goes v store s) h rest c f all = refl
  raised_by from (Raised x store s) h rest c f all = all x store s c.0 (record { by = f })
  raised_by from (Exits n store s) h rest c f all = refl
  raised_by from (Returned store s) h rest c f all = refl
  raised_by from (Stops t inner store) h rest c f all = refl
  raised_by from (Gone t) h rest c f all = refl
  raised_by from Bound h rest c f all = refl

  -- along a part and its handler
  pub with_handler : {from : Session} {o : Flow (Unit {0})} {h : Exc → Meaning (Unit {0})} {b : Bool} {rest : Exc → Along} → Comes g S from Any o → ((x : Exc) → KeepsTold (h x)) → IsOver g (caught o h) → (IsOver g o → b ≡ true) → ((x : Exc) (store : Store) (s : Session) → Here g S store s → IsOver g (h x store s) → rest x store s ≡ true) → (b && where_raises o rest) ≡ true
  with_handler {from = from} {o = o} {h = h} {rest = rest} c k f first all = and_holds (first (record { by = caught_over o h k f.by })) (raised_by from o h rest c.by f.by all)

  exit_over : (o : Flow (Unit {0})) → IsOverBy g (ends_exit o) → IsOverBy g o
  exit_over (Goes v store s) f = f
  exit_over (Raised x store s) f = f
  exit_over (Exits zero store s) f = f
  exit_over (Exits (suc k) store s) f = f
  exit_over (Returned store s) f = f
  exit_over (Stops t inner store) f = f
  exit_over (Gone t) f = f
  exit_over Bound f = f

  pub before_label : (t : Bool) (o : Flow (Unit {0})) → IsOver g (labelled_as t o) → IsOver g o
  before_label true o f = record { by = exit_over o f.by }
  before_label false o f = f

  left_over : (r : ℕ) (o : Flow (Unit {0})) → IsOverBy g (then_leave r o) → IsOverBy g o
  left_over r (Goes v store s) f = fit_before g (done (Leave r)) store s (done_grows (Leave r)) f
  left_over r (Raised x store s) f = fit_before g (λ store1 s1. then_do (done (Leave r) store1 s1) (λ _. Raised x)) store s (then_grows (done_grows (Leave r)) (λ _. same_raises)) f
  left_over r (Exits k store s) f = f
  left_over r (Returned store s) f = f
  left_over r (Stops t inner store) f = f
  left_over r (Gone t) f = f
  left_over r Bound f = f

  pub before_leave : (r : ℕ) (o : Flow (Unit {0})) → IsOver g (then_leave r o) → IsOver g o
  before_leave r o f = record { by = left_over r o f.by }

  -- ---- ticks and loops

  ticked_by : {A : Type 0} (store : Store) (t : List Item) (left : List Answer) (ticks : ℕ) (next : Session → Flow A) (holds : Session → Bool) → Here g S store (record { trace = t; answers = left; ticks = ticks }) → IsOver g (after_tick (tick_of (t ++ Tick ∷ []) left ticks) store next) → ((s1 : Session) → Here g S store s1 → (Fits g s1 → Fits g (record { trace = t; answers = left; ticks = ticks })) → IsOver g (next s1) → holds s1 ≡ true) → where_goes_on (tick_of (t ++ Tick ∷ []) left ticks) holds ≡ true
  ticked_by store t left zero next holds h f all = refl
  ticked_by store t left (suc zero) next holds h f all = refl
  ticked_by store t left (suc (suc n)) next holds h f all =
      let s1 : Session = record { trace = t ++ Tick ∷ []; answers = left; ticks = suc n } in
      let back : Fits g s1 → Fits g (record { trace = t; answers = left; ticks = suc (suc n) }) = λ f. fit_tick g.program t g.answers f in
      let h1 : Here g S store s1 = record { stage = record { asks = tick_on g.program t g.answers h.stage.asks; linked = linked_tick t g.answers left h.stage.linked; ticked = let same = ticks_tick t in let n = h.stage.ticked in omega (arith, same, n) }; holds = λ f. h.holds (back f) } in
      all s1 h1 back f

  -- behind a tick
  pub past_tick : {A : Type 0} (store : Store) (s : Session) (next : Session → Flow A) (holds : Session → Bool) → Here g S store s → IsOver g (after_tick (tick_of (s.trace ++ Tick ∷ []) s.answers s.ticks) store next) → ((s1 : Session) → Here g S store s1 → (Fits g s1 → Fits g s) → IsOver g (next s1) → holds s1 ≡ true) → where_goes_on (tick_of (s.trace ++ Tick ∷ []) s.answers s.ticks) holds ≡ true
  past_tick store s next holds h f all = ticked_by store s.trace s.answers s.ticks next holds h f all

  -- a test of a loop, and its actions
  pub record LoopParts {C : Type 0} (Inv : C → Type 0) (test : C → Meaning (Option C)) (tests : C → Along) (body : Meaning (Unit {0})) (along : Along) : Type 0 where
    pub comes : (c : C) (store : Store) (s : Session) → Here g S store s → (Fits g s → Inv c) → Comes g S s (TestFits Inv) (test c store s)
    pub tested : (c : C) (store : Store) (s : Session) → Here g S store s → (Fits g s → Inv c) → IsOver g (test c store s) → tests c store s ≡ true
    pub keeps : (c : C) → KeepsTold (test c)
    pub acts : (store : Store) (s : Session) → Here g S store s → Comes g S s Any (body store s)
    pub acted : (store : Store) (s : Session) → Here g S store s → IsOver g (body store s) → along store s ≡ true
    pub stays : KeepsTold body

  turn_holds : {C : Type 0} (Inv : C → Type 0) (o : Option C) (test : C → Meaning (Option C)) (tests : C → Along) (body : Meaning (Unit {0})) (along : Along) → LoopParts Inv test tests body along → (again : C → Meaning (Unit {0})) (agains : C → Along) → ((c : C) → KeepsTold (again c)) → ((c : C) (store : Store) (s : Session) → Here g S store s → (Fits g s → Inv c) → IsOver g (again c store s) → agains c store s ≡ true) → (store : Store) (s : Session) → Here g S store s → TestFits Inv o → IsOver g (turn_or_end o body again store s) → turn_within o body along agains store s ≡ true
  turn_holds Inv None test tests body along t again agains k all store s h v f = refl
  turn_holds Inv (Some d) test tests body along t again agains k all store s h v f =
      joins Any (t.acts store s h) (λ z. tick_grows (k d)) f (λ f1. t.acted store s h f1)
      (λ z store1 s1 h1 b f1 q f2. past_tick store1 s1 (λ s2. again d store1 s2) (λ s2. agains d store1 s2) h1 f2
      (λ s2 h2 back f3. all d store1 s2 h2 (λ f4. v) f3))

  pub turns_hold : {C : Type 0} (Inv : C → Type 0) (n : ℕ) (test : C → Meaning (Option C)) (tests : C → Along) (body : Meaning (Unit {0})) (along : Along) → LoopParts Inv test tests body along → (c : C) (store : Store) (s : Session) → Here g S store s → (Fits g s → Inv c) → IsOver g (turns n test body c store s) → turns_within test tests body along n c store s ≡ true
  turns_hold Inv zero test tests body along t c store s h i f = refl
  turns_hold Inv (suc n) test tests body along t c store s h i f =
      joins (TestFits Inv) (t.comes c store s h i) (λ o. turn_grows o t.stays (λ c1. same_turns n c1 t.keeps t.stays)) f (λ f1. t.tested c store s h i f1)
      (λ o store1 s1 h1 b f1 v f2. turn_holds Inv o test tests body along t (turns n test body) (turns_within test tests body along n) (λ d. same_turns n d t.keeps t.stays) (turns_hold Inv n test tests body along t) store1 s1 h1 v f2)
