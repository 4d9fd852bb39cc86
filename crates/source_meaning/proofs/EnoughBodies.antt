-- Bodies and calls come to an outcome where they nest as deep as there are ticks, and so does each talk.
use Rattle.std.proofs.Common.{◌≡◌, ◌≤◌, ◌+◌, ℕ, zero, suc, Bool, true, false, List, [], ◌∷◌, ◌++◌, arith, Option, Some, None, slice_get}
use Rattle.std.specs.Prelude.{nat_lt, if◌then◌else◌}
use Rattle.kernel_base.specs.declared.ends.How.TheVariants.{Normal, Raised as RaisedHow}
use Rattle.kernel_base.specs.declared.request.Request.TheVariants.{Enter, Leave}
use Rattle.world_model.specs.Session.{Session, session_of}
use Rattle.code_types.specs.Places.{names_exception}
use Rattle.code_types.specs.Actions.{most_frames}
use Rattle.program_trees.specs.ProgramTree.{BodyRowTree, CheckedTree}
use Rattle.source_meaning.specs.Store.{Store, Taken, first_store}
use Rattle.source_meaning.specs.Flow.{Flow, Goes, Raised, Exits, Returned, Stops, Gone, Bound, then_do, done}
use Rattle.source_meaning.specs.ExprMeaning.{Calls, Setting}
use Rattle.source_meaning.specs.StatementMeaning.{is_open, statements_mean, handler_mean}
use Rattle.source_meaning.specs.BodyMeaning.{Ending, Through, Out, Halted, Ended, Unknown, close, Bodies, listed_by, at_call, calls_in, leaving, behind_enter, in_region, critical_region, setting_of, inside_of, body_of, body_mean}
use Rattle.source_meaning.specs.Talk.{process_end}
use Rattle.source_meaning.specs.Laws.{EnoughLaw}
use Rattle.source_meaning.proofs.EnoughFlows.{Within, then_keeps, if_within, done_keeps, finish_keeps, tick_keeps, caught_keeps}
use Rattle.source_meaning.proofs.EnoughExpressions.{CallsKeep}
use Rattle.source_meaning.proofs.EnoughStatements.{AreFueled, statements_keep, handler_keeps}

-- a body's end with at most so many ticks left
abbrev EndsWithin : ℕ → Ending → Type 0
EndsWithin m (Through store s) = s.ticks ≤ m
EndsWithin m (Out x store s) = s.ticks ≤ m
EndsWithin m (Halted t calls store) = Unit {0}
EndsWithin m (Ended t) = Unit {0}
EndsWithin m Unknown = ⊥

close_within : (m : ℕ) (f : Flow (Unit {0})) → Within m f → EndsWithin m (close f)
close_within m (Goes v store s) is = is
close_within m (Raised x store s) is = is
close_within m (Exits k store s) is = is
close_within m (Returned store s) is = is
close_within m (Stops t inner store) is = tt
close_within m (Gone t) is = tt
close_within m Bound is = is

if_ends : (m : ℕ) (b : Bool) (e f : Ending) → EndsWithin m e → EndsWithin m f → EndsWithin m (if b then e else f)
if_ends m true e f x y = x
if_ends m false e f x y = y

leaving_within : (m r : ℕ) (listed : List ℕ) (e : Ending) → EndsWithin m e → EndsWithin m (leaving r listed e)
leaving_within m r listed (Through store s) is = close_within m (done (Leave r) store s) (done_keeps m (Leave r) store s is)
leaving_within m r listed (Out x store s) is =
    if_ends m (names_exception listed x) _ _ (close_within m (then_do (done (Leave r) store s) (λ _. Raised x)) (then_keeps m (done (Leave r) store s) _ (done_keeps m (Leave r) store s is) (λ _ store1 s1 low1. low1))) is
leaving_within m r listed (Halted t calls store) is = tt
leaving_within m r listed (Ended t) is = tt
leaving_within m r listed Unknown is = is

behind_within : (m : ℕ) (f : Flow (Unit {0})) (next : Session → Ending) → Within m f → ((s : Session) → s.ticks ≤ m → EndsWithin m (next s)) → EndsWithin m (behind_enter f next)
behind_within m (Goes v store s) next is all = all s is
behind_within m (Raised x store s) next is all = is
behind_within m (Exits k store s) next is all = is
behind_within m (Returned store s) next is all = is
behind_within m (Stops t inner store) next is all = tt
behind_within m (Gone t) next is all = tt
behind_within m Bound next is all = is

region_within : (m : ℕ) (o : Option ℕ) (listed now : List ℕ) (store : Store) (s : Session) (inside : List ℕ → Session → Ending) → s.ticks ≤ m → ((now : List ℕ) (s : Session) → s.ticks ≤ m → EndsWithin m (inside now s)) → EndsWithin m (in_region o listed now store s inside)
region_within m None listed now store s inside low all = all now s low
region_within m (Some r) listed now store s inside low all =
    if_ends m (is_open r now) _ _ (all now s low) (behind_within m (done (Enter r) store s) _ (done_keeps m (Enter r) store s low) (λ s1 low1. leaving_within m r listed (inside (now ++ r ∷ []) s1) (all (now ++ r ∷ []) s1 low1)))

-- bodies come to an end with at least one tick, and with at most so many
abbrev BodiesEnd : ℕ → Bodies → Type 0
BodiesEnd n bodies = (m : ℕ) → m ≤ n → 1 ≤ n → (k frames : ℕ) (now : List ℕ) (ts : List Taken) (s : Session) → s.ticks ≤ m → EndsWithin m (bodies k frames now ts s)

call_within : (m k : ℕ) (o : Option BodyRowTree) (store : Store) (e : Ending) → EndsWithin m e → Within m (at_call k o store e)
call_within m k o store (Through inner s) is = is
call_within m k o store (Out x inner s) is = if_within m (names_exception (listed_by o) x) _ _ is (finish_keeps Store m (RaisedHow x) (record { body = k; store = inner } ∷ []) store s is)
call_within m k o store (Halted t calls inner) is = tt
call_within m k o store (Ended t) is = tt
call_within m k o store Unknown is = is

-- a call makes a tick, so one fewer is left for its body
calls_keep : (p : CheckedTree) (bodies : Bodies) (n frames m : ℕ) → BodiesEnd n bodies → m ≤ suc n → CallsKeep m (calls_in p bodies frames)
calls_keep p bodies n frames m all below now k ts store s low =
    if_within m (nat_lt frames most_frames) _ _
    (tick_keeps m store s (λ s1. at_call k (slice_get p.bodies k) store (bodies k (frames + 1) now ts s1)) low
    (λ j s1 below1 low1. call_within (suc j) k (slice_get p.bodies k) store (bodies k (frames + 1) now ts s1) (all (suc j) (omega (arith, below, below1)) (omega (arith, below, below1)) k (frames + 1) now ts s1 low1)))
    low

inside_within : (instance n m : ℕ) (b : BodyRowTree) (calls : List ℕ → Calls) (ts : List Taken) → 1 ≤ n → m ≤ n → ((k : ℕ) → k ≤ n → CallsKeep k calls)
    → (now : List ℕ) (s : Session) → s.ticks ≤ m → EndsWithin m (close (inside_of b n (setting_of b instance calls now) (first_store b ts) s))
inside_within instance n m b calls ts some below all now s low =
    let w : Setting = setting_of b instance calls now in
    let fueled : AreFueled n w = record { some = some; calls = all } in
    close_within m (inside_of b n w (first_store b ts) s)
    (caught_keeps m (statements_mean w n b.statements (first_store b ts) s) (handler_mean w n b.handler) (statements_keep n w b.statements fueled m below (first_store b ts) s low) (λ x. handler_keeps n w b.handler x fueled m below))

body_within : (instance n m : ℕ) (calls : List ℕ → Calls) (now : List ℕ) (ts : List Taken) (o : Option BodyRowTree) (s : Session) → 1 ≤ n → m ≤ n → ((k : ℕ) → k ≤ n → CallsKeep k calls) → s.ticks ≤ m → EndsWithin m (body_of instance calls n now ts o s)
body_within instance n m calls now ts None s some below all low = tt
body_within instance n m calls now ts (Some b) s some below all low =
    region_within m (critical_region b) b.listed now (first_store b ts) s _ low (inside_within instance n m b calls ts some below all)

bodies_end : (p : CheckedTree) (instance n : ℕ) → BodiesEnd n (body_mean p instance n)
bodies_end p instance zero m below some k frames now ts s low = absurd (let f : ⊥ = omega (arith, some) in f)
bodies_end p instance (suc n) m below some k frames now ts s low =
    body_within instance (suc n) m (calls_in p (body_mean p instance n) frames) now ts (slice_get p.bodies k) s some below
    (λ j below1. calls_keep p (body_mean p instance n) n frames j (bodies_end p instance n) below1) low

end_within : (m : ℕ) (e : Ending) → EndsWithin m e → Within m (process_end e)
end_within m (Through store s) is = finish_keeps (Unit {0}) m Normal [] store s is
end_within m (Out x store s) is = finish_keeps (Unit {0}) m (RaisedHow x) [] store s is
end_within m (Halted t calls store) is = tt
end_within m (Ended t) is = tt
end_within m Unknown is = is

not_bound : (m : ℕ) (f : Flow (Unit {0})) → Within m f → f ≡ Bound → ⊥
not_bound m (Goes v store s) is bound = let f : ⊥ = cc in f
not_bound m (Raised x store s) is bound = let f : ⊥ = cc in f
not_bound m (Exits k store s) is bound = let f : ⊥ = cc in f
not_bound m (Returned store s) is bound = let f : ⊥ = cc in f
not_bound m (Stops t inner store) is bound = let f : ⊥ = cc in f
not_bound m (Gone t) is bound = let f : ⊥ = cc in f
not_bound m Bound is bound = is

pub enough_law : EnoughLaw
enough_law p instance process ts answers n some =
    let ending : Ending = body_mean p instance n process 1 [] ts (session_of answers n) in
    not_bound n (process_end ending) (end_within n ending (bodies_end p instance n n (omega arith) some process 1 [] ts (session_of answers n) (omega arith)))
