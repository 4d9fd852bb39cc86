-- What bodies and calls ask suits the regions that are open, and what a process asks.
use Rattle.std.proofs.Common.{◌≡◌, ◌+◌, ℕ, zero, suc, Bool, true, false, List, [], ◌∷◌, ◌++◌, ℤ, refl, sym, ◌∙◌, subst, length, Option, Some, None, slice_get}
use Rattle.std.specs.Prelude.{◌==◌, nat_lt, if◌then◌else◌}
use Rattle.kernel_base.specs.declared.ends.Exc.{Exc}
use Rattle.kernel_base.specs.declared.ends.How.TheVariants.{Normal, Raised as RaisedHow}
use Rattle.kernel_base.specs.declared.request.Request.TheVariants.{Enter, Leave}
use Rattle.kernel_base.specs.declared.answer.Answer.{Answer}
use Rattle.checked_program.specs.declared.program.Sort.{Sort}
use Rattle.checked_program.specs.declared.program.Sort.TheVariants.{Outermost, Process, Procedure}
use Rattle.world_model.specs.Session.{Session, session_of}
use Rattle.code_types.specs.Places.{names_exception}
use Rattle.code_types.specs.Actions.{most_frames}
use Rattle.program_trees.specs.ProgramTree.{BodyRowTree, CheckedTree}
use Rattle.source_meaning.specs.Store.{Store, Taken, first_store}
use Rattle.source_meaning.specs.Flow.{Flow, Goes, Raised, Exits, Returned, Stops, Gone, Bound, then_do, done}
use Rattle.source_meaning.specs.ExprMeaning.{Calls, Setting}
use Rattle.source_meaning.specs.StatementMeaning.{is_open, statements_mean, handler_mean}
use Rattle.source_meaning.specs.BodyMeaning.{Ending, Through, Out, Halted, Ended, Unknown, close, Bodies, at_call, calls_in, leaving, behind_enter, in_region, region_if, setting_of, inside_of, body_of, body_mean}
use Rattle.source_meaning.specs.Talk.{process_end, talk_at, parameter_scalars, split_over, talk_in, talk}
use Rattle.source_meaning.specs.OpenRegions.{IsOpenThere}
use Rattle.source_meaning.specs.Fitting.{has_instances}
use Rattle.source_meaning.specs.Typed.{StandsAlone, HasHead, around_body, IsTypedBody, IsTyped}
use Rattle.source_meaning.specs.TypedStatements.{Around}
use Rattle.run_laws.proofs.Regions.{has_last}
use Rattle.region_laws.proofs.Traces.{AsksWell, Stands, FlowIn, Any, then_keeps, entered_comes, left_keeps, finish_keeps, tick_comes}
use Rattle.region_laws.proofs.Expressions.{IsReachable, CallsSuit, StandsAs}
use Rattle.region_laws.proofs.Outcomes.{FlowOut, caught_leads}
use Rattle.region_laws.proofs.Statements.{statements_lead, handler_leads}

-- Where a body ends, the regions are open that were; with an exception that isn't listed one more may be, since the process
-- ends then.
abbrev pub EndsIn : CheckedTree → List ℕ → List ℕ → Ending → Type 0
EndsIn p now listed (Through store s) = Stands p now s.trace
EndsIn p now listed (Out x store s) = (names_exception listed x ≡ true → Stands p now s.trace) × AsksWell p [] s.trace
EndsIn p now listed (Halted t calls store) = AsksWell p [] t
EndsIn p now listed (Ended t) = AsksWell p [] t
EndsIn p now listed Unknown = Unit {0}

close_ends : (p : CheckedTree) (now listed : List ℕ) (at : Around) (f : Flow (Unit {0})) → FlowOut p now at f → EndsIn p now listed (close f)
close_ends p now listed at (Goes v store s) is = is
close_ends p now listed at (Raised x store s) is = (λ _. is, is.well)
close_ends p now listed at (Exits k store s) is = is.1
close_ends p now listed at (Returned store s) is = is.1
close_ends p now listed at (Stops t inner store) is = is
close_ends p now listed at (Gone t) is = is
close_ends p now listed at Bound is = tt

value_ends : (p : CheckedTree) (now listed : List ℕ) (f : Flow (Unit {0})) → FlowIn p now Any f → EndsIn p now listed (close f)
value_ends p now listed (Goes v store s) is = is.1
value_ends p now listed (Raised x store s) is = (λ _. is, is.well)
value_ends p now listed (Exits k store s) is = absurd is
value_ends p now listed (Returned store s) is = absurd is
value_ends p now listed (Stops t inner store) is = is
value_ends p now listed (Gone t) is = is
value_ends p now listed Bound is = tt

-- a listed exception goes out behind Leave, and any other without it
raised_ends : (p : CheckedTree) (now listed : List ℕ) (r : ℕ) (x : Exc) (store : Store) (s : Session) (b : Bool) → names_exception listed x ≡ b → is_open r now ≡ false
    → (names_exception listed x ≡ true → Stands p (now ++ r ∷ []) s.trace) → AsksWell p [] s.trace
    → EndsIn p now listed (if b then close (then_do (done (Leave r) store s) (λ _. Raised x)) else Out x store s)
raised_ends p now listed r x store s true is shut opens well =
    value_ends p now listed (then_do (done (Leave r) store s) (λ _. Raised x)) (then_keeps p now Any Any (done (Leave r) store s) _ (left_keeps p now r store s shut (opens is)) (λ _ _ store1 s1 stands1. stands1))
raised_ends p now listed r x store s false is shut opens well = (λ named. absurd (let e : false ≡ true = sym is ∙ named in let f : ⊥ = cc in f), well)

leaving_ends : (p : CheckedTree) (now listed : List ℕ) (r : ℕ) (e : Ending) → is_open r now ≡ false → EndsIn p (now ++ r ∷ []) listed e → EndsIn p now listed (leaving r listed e)
leaving_ends p now listed r (Through store s) shut is = value_ends p now listed (done (Leave r) store s) (left_keeps p now r store s shut is)
leaving_ends p now listed r (Out x store s) shut is = raised_ends p now listed r x store s (names_exception listed x) refl shut is.0 is.1
leaving_ends p now listed r (Halted t calls store) shut is = is
leaving_ends p now listed r (Ended t) shut is = is
leaving_ends p now listed r Unknown shut is = tt

-- what is inside a body's region, for all regions that are open there
abbrev InsideEnds : CheckedTree → Option ℕ → List ℕ → (List ℕ → Session → Ending) → Type 0
InsideEnds p region listed inside = (now : List ℕ) (s : Session) → IsOpenThere region now → Stands p now s.trace → EndsIn p now listed (inside now s)

entering_ends : (p : CheckedTree) (r : ℕ) (listed now : List ℕ) (store : Store) (s : Session) (inside : List ℕ → Session → Ending) (b : Bool) → is_open r now ≡ b → InsideEnds p (Some r) listed inside → Stands p now s.trace
    → EndsIn p now listed (if b then inside now s else behind_enter (done (Enter r) store s) (λ s1. leaving r listed (inside (now ++ r ∷ []) s1)))
entering_ends p r listed now store s inside true is all stands = all now s is stands
entering_ends p r listed now store s inside false is all stands =
    entered_comes p now r store s (λ f. EndsIn p now listed (behind_enter f (λ s1. leaving r listed (inside (now ++ r ∷ []) s1)))) is stands (λ trace well. well)
    (λ s1 stands1. leaving_ends p now listed r (inside (now ++ r ∷ []) s1) is (all (now ++ r ∷ []) s1 (has_last now r) stands1))

region_ends : (p : CheckedTree) (critical : Bool) (region : Option ℕ) (listed now : List ℕ) (store : Store) (s : Session) (inside : List ℕ → Session → Ending) → (critical ≡ false → IsOpenThere region now) → InsideEnds p region listed inside → Stands p now s.trace
    → EndsIn p now listed (in_region (region_if critical region) listed now store s inside)
region_ends p false region listed now store s inside reach all stands = all now s (reach refl) stands
region_ends p true None listed now store s inside reach all stands = all now s tt stands
region_ends p true (Some r) listed now store s inside reach all stands = entering_ends p r listed now store s inside (is_open r now) refl all stands

-- ---- calls

abbrev pub BodiesEnd : CheckedTree → Bodies → Type 0
BodiesEnd p bodies = (k frames : ℕ) (b : BodyRowTree) (now : List ℕ) (ts : List Taken) (s : Session) → slice_get p.bodies k ≡ Some b → IsReachable b now → Stands p now s.trace → EndsIn p now b.listed (bodies k frames now ts s)

if_listed : (p : CheckedTree) (now : List ℕ) (b : Bool) (f g : Flow Store) → (b ≡ true → FlowIn p now Any f) → FlowIn p now Any g → FlowIn p now Any (if b then f else g)
if_listed p now true f g x y = x refl
if_listed p now false f g x y = y

call_ends : (p : CheckedTree) (now : List ℕ) (k : ℕ) (b : BodyRowTree) (store : Store) (e : Ending) → EndsIn p now b.listed e → FlowIn p now Any (at_call k (Some b) store e)
call_ends p now k b store (Through inner s) is = (tt, is)
call_ends p now k b store (Out x inner s) is = if_listed p now (names_exception b.listed x) _ _ is.0 (finish_keeps p now (Any {A = Store}) (RaisedHow x) (record { body = k; store = inner } ∷ []) store s is.1)
call_ends p now k b store (Halted t calls inner) is = is
call_ends p now k b store (Ended t) is = is
call_ends p now k b store Unknown is = tt

calls_suit : (p : CheckedTree) (bodies : Bodies) (frames : ℕ) → BodiesEnd p bodies → CallsSuit p (calls_in p bodies frames)
calls_suit p bodies frames all now k b ts is reach store s stands =
    if_listed p now (nat_lt frames most_frames) _ _
    (λ _. tick_comes p now store s (λ s1. at_call k (slice_get p.bodies k) store (bodies k (frames + 1) now ts s1)) (FlowIn p now Any) stands (λ trace well. well)
    (λ s1 stands1. subst (λ (o : Option BodyRowTree). FlowIn p now Any (at_call k o store (bodies k (frames + 1) now ts s1))) (sym is) (call_ends p now k b store (bodies k (frames + 1) now ts s1) (all k (frames + 1) b now ts s1 is reach stands1))))
    stands

inside_ends : (p : CheckedTree) (instance k n : ℕ) (b : BodyRowTree) (calls : List ℕ → Calls) (ts : List Taken) → IsTypedBody p k b → CallsSuit p calls → InsideEnds p b.region b.listed (λ now s. close (inside_of b n (setting_of b instance calls now) (first_store b ts) s))
inside_ends p instance k n b calls ts typed suit now s open' stands =
    let w : Setting = setting_of b instance calls now in
    let there : StandsAs (around_body p b).context w = record { region = open'; calls = suit } in
    close_ends p now b.listed (around_body p b) (inside_of b n w (first_store b ts) s)
    (caught_leads p now (around_body p b) (statements_mean w n b.statements (first_store b ts) s) (handler_mean w n b.handler)
    (statements_lead (around_body p b) w n b.statements there typed.statements (first_store b ts) s stands) (λ x. handler_leads (around_body p b) w n b.handler x there typed.handler))

body_ends : (p : CheckedTree) (instance k n : ℕ) (b : BodyRowTree) (calls : List ℕ → Calls) (now : List ℕ) (ts : List Taken) (s : Session) (o : Option BodyRowTree) → o ≡ Some b → IsTypedBody p k b → CallsSuit p calls → IsReachable b now → Stands p now s.trace
    → EndsIn p now b.listed (body_of instance calls n now ts o s)
body_ends p instance k n b calls now ts s o is typed suit reach stands =
    subst (λ (x : Option BodyRowTree). EndsIn p now b.listed (body_of instance calls n now ts x s)) (sym is)
    (region_ends p b.critical b.region b.listed now (first_store b ts) s _ reach (inside_ends p instance k n b calls ts typed suit) stands)

pub bodies_end : (p : CheckedTree) (instance n : ℕ) → IsTyped p → BodiesEnd p (body_mean p instance n)
bodies_end p instance zero typed k frames b now ts s is reach stands = tt
bodies_end p instance (suc n) typed k frames b now ts s is reach stands =
    body_ends p instance k (suc n) b (calls_in p (body_mean p instance n) frames) now ts s (slice_get p.bodies k) is (typed.bodies k b is) (calls_suit p (body_mean p instance n) frames (bodies_end p instance n typed)) reach stands

-- ---- processes

alone_of : (p : CheckedTree) (k : ℕ) (b : BodyRowTree) (sort : Sort) → HasHead p k b sort → has_instances sort ≡ true → StandsAlone b
alone_of p k b Outermost head is = head.1.alone
alone_of p k b Process head is = head.1.alone
alone_of p k b Procedure head is = absurd (let f : ⊥ = cc in f)

end_suits : (p : CheckedTree) (listed : List ℕ) (e : Ending) → EndsIn p [] listed e → FlowIn p [] Any (process_end e)
end_suits p listed (Through store s) is = finish_keeps p [] Any Normal [] store s is.well
end_suits p listed (Out x store s) is = finish_keeps p [] Any (RaisedHow x) [] store s is.1
end_suits p listed (Halted t calls store) is = is
end_suits p listed (Ended t) is = is
end_suits p listed Unknown is = tt

talk_suits : (p : CheckedTree) (k : ℕ) (f : Flow (Unit {0})) → FlowIn p [] Any f → AsksWell p [] (talk_at k f).trace
talk_suits p k (Goes v store s) is = is.1.well
talk_suits p k (Raised x store s) is = is.well
talk_suits p k (Exits j store s) is = absurd is
talk_suits p k (Returned store s) is = absurd is
talk_suits p k (Stops t inner store) is = is
talk_suits p k (Gone t) is = is
talk_suits p k Bound is = tt

if_started : (p : CheckedTree) (k : ℕ) (b : Bool) (f : Flow (Unit {0})) → AsksWell p [] (talk_at k f).trace → AsksWell p [] (if b then talk_at k f else record { trace = []; stand = [] }).trace
if_started p k true f is = is
if_started p k false f is = tt

-- whatever it is answered, a process asks what suits the regions that it has open
pub asks_well : (p : CheckedTree) (instance process : ℕ) (b : BodyRowTree) (arguments : List ℤ) (answers : List Answer) (n : ℕ) → IsTyped p → slice_get p.bodies process ≡ Some b → has_instances b.sort ≡ true → AsksWell p [] (talk p instance process arguments answers n).trace
asks_well p instance process b arguments answers n typed is starts =
    let alone = alone_of p process b b.sort (typed.bodies process b is).head starts in
    let ts : List Taken = split_over b.locals b.parameters arguments in
    let reach : IsReachable b [] = λ _. subst (λ (r : Option ℕ). IsOpenThere r []) (sym alone.0) tt in
    let ending : Ending = body_mean p instance n process 1 [] ts (session_of answers n) in
    let ends : EndsIn p [] b.listed ending = bodies_end p instance n typed process 1 b [] ts (session_of answers n) is reach (record { opens = refl; well = tt }) in
    let all = if_started p process (parameter_scalars b.locals b.parameters == length arguments) (process_end ending) (talk_suits p process (process_end ending) (end_suits p b.listed ending ends)) in
    subst (λ (o : Option BodyRowTree). AsksWell p [] (talk_in p instance process arguments answers n o).trace) (sym is) all
