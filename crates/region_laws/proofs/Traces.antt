-- Traces whose requests suit the regions that are open, and parts that make such ones.
use Rattle.std.proofs.Common.{◌≡◌, ℕ, zero, suc, Bool, true, false, List, [], ◌∷◌, ◌++◌, refl, sym, ap, ◌∙◌, subst, inl, inr, eq-eqb}
use Rattle.std.specs.Prelude.{if◌then◌else◌, ◌==◌}
use Rattle.std.proofs.lemmas.Bool.{cases_Bool}
use Rattle.kernel_base.specs.declared.ends.How.{How}
use Rattle.kernel_base.specs.declared.request.Request.{Request}
use Rattle.kernel_base.specs.declared.request.Request.TheVariants.{Enter, Leave, Start, End}
use Rattle.kernel_base.specs.declared.answer.Answer.{Answer}
use Rattle.kernel_base.specs.declared.answer.Answer.TheVariants.{Done, Fail}
use Rattle.world_model.specs.Session.{Item, Tick, Ask, Session, tick_of, tick}
use Rattle.world_model.specs.Lists.{without}
use Rattle.program_trees.specs.ProgramTree.{CheckedTree}
use Rattle.source_meaning.specs.Store.{Store, OpenCall}
use Rattle.source_meaning.specs.Flow.{Flow, Goes, Raised, Exits, Returned, Stops, Gone, Bound, Meaning, then_do, takes_answer, Given, Halts, asked_in, asked, done, finish, finished, after_tick}
use Rattle.source_meaning.specs.StatementMeaning.{is_open}
use Rattle.source_meaning.specs.OpenRegions.{open_by, open_behind, region_asked, IsOpenThere}
use Rattle.source_meaning.specs.Typed.{IsForProcess}

-- a region that is entered isn't open
abbrev pub EntersShut : Request → List ℕ → Type 0
EntersShut (Enter r) open_now = is_open r open_now ≡ false
EntersShut request open_now = Unit {0}

-- what is started is a process
abbrev pub StartsProcess : CheckedTree → Request → Type 0
StartsProcess p (Start k xs) = IsForProcess p k
StartsProcess p request = Unit {0}

-- a request suits the regions that are open
pub record IsAskedWell (p : CheckedTree) (open_now : List ℕ) (request : Request) : Type 0 where
  pub inside : IsOpenThere (region_asked p request) open_now
  pub enters : EntersShut request open_now
  pub starts : StartsProcess p request

abbrev pub AsksWell : CheckedTree → List ℕ → List Item → Type 0
AsksWell p open_now [] = Unit {0}
AsksWell p open_now (Tick ∷ items) = AsksWell p open_now items
AsksWell p open_now (Ask request ∷ items) = IsAskedWell p open_now request × AsksWell p (open_by request open_now) items

pub asks-append : (p : CheckedTree) (now : List ℕ) (a b : List Item) → AsksWell p now a → AsksWell p (open_behind now a) b → AsksWell p now (a ++ b)
asks-append p now [] b x y = y
asks-append p now (Tick ∷ a) b x y = asks-append p now a b x y
asks-append p now (Ask request ∷ a) b x y = (x.0, asks-append p (open_by request now) a b x.1 y)

pub behind-append : (now : List ℕ) (a b : List Item) → open_behind now (a ++ b) ≡ open_behind (open_behind now a) b
behind-append now [] b = refl
behind-append now (Tick ∷ a) b = behind-append now a b
behind-append now (Ask request ∷ a) b = behind-append (open_by request now) a b

-- the front of a trace, and what stands at a place in it
pub asks_at : (p : CheckedTree) (now : List ℕ) (a b : List Item) → AsksWell p now (a ++ b) → AsksWell p now a × AsksWell p (open_behind now a) b
asks_at p now [] b x = (tt, x)
asks_at p now (Tick ∷ a) b x = asks_at p now a b x
asks_at p now (Ask request ∷ a) b x = let rest = asks_at p (open_by request now) a b x.1 in ((x.0, rest.0), rest.1)

-- behind a trace these regions are open, and its requests suit what was open
pub record Stands (p : CheckedTree) (now : List ℕ) (trace : List Item) : Type 0 where
  pub opens : open_behind [] trace ≡ now
  pub well : AsksWell p [] trace

pub asks_more : (p : CheckedTree) (now : List ℕ) (trace : List Item) (request : Request) → IsAskedWell p now request → Stands p now trace → Stands p (open_by request now) (trace ++ Ask request ∷ [])
asks_more p now trace request asks stands = record {
  opens = behind-append [] trace (Ask request ∷ []) ∙ ap (open_by request) stands.opens;
  well = asks-append p [] trace (Ask request ∷ []) stands.well (subst (λ (l : List ℕ). IsAskedWell p l request) (sym stands.opens) asks, tt);
}

-- the process ends, whatever is open
pub ends_more : (p : CheckedTree) (trace : List Item) (how : How) → AsksWell p [] trace → AsksWell p [] (trace ++ Ask (End how) ∷ [])
ends_more p trace how well = asks-append p [] trace (Ask (End how) ∷ []) well (record { inside = tt; enters = tt; starts = tt }, tt)

pub ticks_more : (p : CheckedTree) (now : List ℕ) (trace : List Item) → Stands p now trace → Stands p now (trace ++ Tick ∷ [])
ticks_more p now trace stands = record {
  opens = behind-append [] trace (Tick ∷ []) ∙ stands.opens;
  well = asks-append p [] trace (Tick ∷ []) stands.well tt;
}

-- ---- outcomes

-- What comes of a part that is no statement: where it goes on, its value is such a one, and the same regions are open; where
-- the talk stops, its requests suit what was open.
abbrev pub FlowIn : {A : Type 0} → CheckedTree → List ℕ → (A → Type 0) → Flow A → Type 0
FlowIn p now holds (Goes v store s) = holds v × Stands p now s.trace
FlowIn p now holds (Raised x store s) = Stands p now s.trace
FlowIn p now holds (Exits k store s) = ⊥
FlowIn p now holds (Returned store s) = ⊥
FlowIn p now holds (Stops t inner store) = AsksWell p [] t
FlowIn p now holds (Gone t) = AsksWell p [] t
FlowIn p now holds Bound = Unit {0}

abbrev pub Keeps : {A : Type 0} → CheckedTree → List ℕ → (A → Type 0) → Meaning A → Type 0
Keeps p now holds part = (store : Store) (s : Session) → Stands p now s.trace → FlowIn p now holds (part store s)

abbrev pub Any : {A : Type 0} → A → Type 0
Any v = Unit {0}

pub then_keeps : {A B : Type 0} (p : CheckedTree) (now : List ℕ) (first : A → Type 0) (second : B → Type 0) (f : Flow A) (next : A → Meaning B)
    → FlowIn p now first f → ((v : A) → first v → Keeps p now second (next v)) → FlowIn p now second (then_do f next)
then_keeps p now first second (Goes v store s) next is all = all v is.0 store s is.1
then_keeps p now first second (Raised x store s) next is all = is
then_keeps p now first second (Exits k store s) next is all = is
then_keeps p now first second (Returned store s) next is all = is
then_keeps p now first second (Stops t inner store) next is all = is
then_keeps p now first second (Gone t) next is all = is
then_keeps p now first second Bound next is all = tt

-- ---- requests

given_keeps : (p : CheckedTree) (now : List ℕ) (answer : Answer) (store : Store) (s : Session) → Stands p now s.trace → FlowIn p now Any (asked_in (Given answer s) store)
given_keeps p now (Fail x) store s stands = stands
given_keeps p now answer store s stands = (tt, stands)

takes_keeps : (p : CheckedTree) (now : List ℕ) (taken : Bool) (answer : Answer) (store : Store) (s : Session) (trace : List Item) → Stands p now s.trace → AsksWell p [] trace → FlowIn p now Any (asked_in (if taken then Given answer s else Halts trace) store)
takes_keeps p now true answer store s trace stands well = given_keeps p now answer store s stands
takes_keeps p now false answer store s trace stands well = well

answers_keep : (p : CheckedTree) (now : List ℕ) (request : Request) (counts : List ℕ) (store : Store) (trace : List Item) (answers : List Answer) (ticks : ℕ)
    → Stands p now (trace ++ Ask request ∷ []) → FlowIn p now Any (asked request counts store (record { trace = trace; answers = answers; ticks = ticks }))
answers_keep p now request counts store trace [] ticks stands = stands.well
answers_keep p now request counts store trace (answer ∷ answers) ticks stands =
    takes_keeps p now (takes_answer request counts answer) answer store (record { trace = trace ++ Ask request ∷ []; answers = answers; ticks = ticks }) (trace ++ Ask request ∷ []) stands stands.well

-- a request that suits what is open
pub asked_keeps : (p : CheckedTree) (now : List ℕ) (request : Request) (counts : List ℕ) (store : Store) (s : Session) → IsAskedWell p now request → Stands p now s.trace → FlowIn p (open_by request now) Any (asked request counts store s)
asked_keeps p now request counts store s asks stands = answers_keep p (open_by request now) request counts store s.trace s.answers s.ticks (asks_more p now s.trace request asks stands)

-- ---- entering and leaving

-- Behind Enter the region is open; no other answer than Done comes to it.
pub entered_comes : (p : CheckedTree) (now : List ℕ) (r : ℕ) (store : Store) (s : Session) (holds : Flow (Unit {0}) → Type 0)
    → is_open r now ≡ false → Stands p now s.trace
    → ((trace : List Item) → AsksWell p [] trace → holds (Stops trace [] store))
    → ((s1 : Session) → Stands p (now ++ r ∷ []) s1.trace → holds (Goes tt store s1))
    → holds (done (Enter r) store s)
entered_comes p now r store s holds shut stands stops goes = by-answers s.answers (asks_more p now s.trace (Enter r) (record { inside = tt; enters = shut; starts = tt }) stands)
  where
    by-answers : (answers : List Answer) → Stands p (now ++ r ∷ []) (s.trace ++ Ask (Enter r) ∷ []) → holds (done (Enter r) store (record s { answers = answers }))
    by-answers [] behind = stops (s.trace ++ Ask (Enter r) ∷ []) behind.well
    by-answers (Done ∷ answers) behind = goes (record { trace = s.trace ++ Ask (Enter r) ∷ []; answers = answers; ticks = s.ticks }) behind
    by-answers (answer ∷ answers) behind = stops (s.trace ++ Ask (Enter r) ∷ []) behind.well

-- the region that was entered last is left, and those before it stay
without_pushed : (r : ℕ) (now : List ℕ) → is_open r now ≡ false → without r (now ++ r ∷ []) ≡ now
without_pushed r [] shut = let same : (r == r) ≡ true = eq-eqb r r refl in rw same refl
without_pushed r (q ∷ now) shut = elim (cases_Bool (q == r)) [
  | inl same ↦ absurd (let open' : is_open r (q ∷ now) ≡ true = rw same refl in let f : ⊥ = cc in f)
  | inr apart ↦ (
      let rest : is_open r now ≡ false = (let e : is_open r (q ∷ now) ≡ is_open r now = rw apart refl in sym e ∙ shut) in
      let kept : without r (q ∷ (now ++ r ∷ [])) ≡ q ∷ without r (now ++ r ∷ []) = rw apart refl in
      kept ∙ ap (λ (l : List ℕ). q ∷ l) (without_pushed r now rest))
]

pub left_keeps : (p : CheckedTree) (now : List ℕ) (r : ℕ) (store : Store) (s : Session) → is_open r now ≡ false → Stands p (now ++ r ∷ []) s.trace → FlowIn p now Any (done (Leave r) store s)
left_keeps p now r store s shut stands =
    let all : FlowIn p (without r (now ++ r ∷ [])) Any (asked (Leave r) [] store s) = asked_keeps p (now ++ r ∷ []) (Leave r) [] store s (record { inside = tt; enters = tt; starts = tt }) stands in
    then_keeps p now Any Any (asked (Leave r) [] store s) _ (subst (λ (l : List ℕ). FlowIn p l Any (asked (Leave r) [] store s)) (without_pushed r now shut) all) (λ answer _ store1 s1 stands1. (tt, stands1))

-- ---- the end of a process, and ticks

finished_keeps : {A : Type 0} (p : CheckedTree) (now : List ℕ) (holds : A → Type 0) (taken : Bool) (answer : Answer) (s : Session) (trace : List Item) (inner : List OpenCall) (store : Store) → AsksWell p [] s.trace → AsksWell p [] trace
    → FlowIn p now holds (finished (if taken then Given answer s else Halts trace) inner store)
finished_keeps p now holds true answer s trace inner store well behind = well
finished_keeps p now holds false answer s trace inner store well behind = behind

pub finish_keeps : {A : Type 0} (p : CheckedTree) (now : List ℕ) (holds : A → Type 0) (how : How) (inner : List OpenCall) (store : Store) (s : Session) → AsksWell p [] s.trace → FlowIn p now holds (finish how inner store s)
finish_keeps p now holds how inner store s well = by-answers s.answers (ends_more p s.trace how well)
  where
    by-answers : (answers : List Answer) → AsksWell p [] (s.trace ++ Ask (End how) ∷ []) → FlowIn p now holds (finish how inner store (record s { answers = answers }))
    by-answers [] behind = behind
    by-answers (answer ∷ answers) behind =
        finished_keeps p now holds (takes_answer (End how) [] answer) answer (record { trace = s.trace ++ Ask (End how) ∷ []; answers = answers; ticks = s.ticks }) (s.trace ++ Ask (End how) ∷ []) inner store behind behind

pub tick_comes : {A : Type 0} (p : CheckedTree) (now : List ℕ) (store : Store) (s : Session) (next : Session → Flow A) (holds : Flow A → Type 0)
    → Stands p now s.trace
    → ((trace : List Item) → AsksWell p [] trace → holds (Stops trace [] store))
    → ((s1 : Session) → Stands p now s1.trace → holds (next s1))
    → holds (after_tick (tick s) store next)
tick_comes p now store s next holds stands stops all = by-ticks s.ticks (ticks_more p now s.trace stands)
  where
    by-ticks : (ticks : ℕ) → Stands p now (s.trace ++ Tick ∷ []) → holds (after_tick (tick_of (s.trace ++ Tick ∷ []) s.answers ticks) store next)
    by-ticks zero behind = stops (s.trace ++ Tick ∷ []) behind.well
    by-ticks (suc zero) behind = stops (s.trace ++ Tick ∷ []) behind.well
    by-ticks (suc (suc n)) behind = all (record { trace = s.trace ++ Tick ∷ []; answers = s.answers; ticks = suc n }) behind
