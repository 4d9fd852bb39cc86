-- All bodies of a program.
use Rattle.std.proofs.Common.{◌≡◌, ℕ, suc, ◌+◌, ◌==◌, if◌then◌else◌, Bool, true, false, ◌||◌, List, [], ◌∷◌, ◌++◌, ℤ, length, Option, Some, None, slice_get, refl, sym, ap, ◌∙◌, subst, arith}
use Rattle.std.specs.Prelude.{MatchBool}
use Rattle.kernel_base.specs.declared.request.Request.TheVariants.{Enter}
use Rattle.world_model.specs.Session.{Session}
use Rattle.checked_program.specs.declared.program.Sort.{Sort}
use Rattle.checked_program.specs.declared.program.Sort.TheVariants.{Outermost, Process, Procedure}
use Rattle.program_trees.specs.ProgramTree.{BodyRowTree, CheckedTree}
use Rattle.code_types.specs.declared.instr.Instr.TheVariants as i
use Rattle.code_types.specs.declared.code.BodyRow.{BodyRow}
use Rattle.code_types.specs.Actions.{is_open as is_open_there}
use Rattle.code_types.specs.Agreement.{Agrees}
use Rattle.code_types.specs.State.{Frame, OpenRegion}
use Rattle.code_types.specs.Steps.{Run}
use Rattle.source_meaning.specs.Store.{Store, Taken, first_store}
use Rattle.source_meaning.specs.Flow.{done}
use Rattle.source_meaning.specs.ExprMeaning.{Calls}
use Rattle.source_meaning.specs.StatementMeaning.{is_open}
use Rattle.source_meaning.specs.BodyMeaning.{Ending, close, calls_in, leaving, behind_enter, in_region, region_if, critical_region, setting_of, inside_of, body_of, body_mean}
use Rattle.source_meaning.specs.Talk.{process_end}
use Rattle.source_meaning.specs.Fitting.{has_instances}
use Rattle.source_meaning.specs.Typed.{HasHead}
use Rattle.code_scheme.specs.StatementPlain.{region_entered, entered_by}
use Rattle.code_scheme.specs.BodyCode.{body_row, site_in, code_of}
use Rattle.follow_laws.specs.Follows.{HasAt, Around, here, Holds, GetsTo}
use Rattle.follow_laws.proofs.Running.{gets_then}
use Rattle.follow_laws.proofs.Instructions.{renamed}
use Rattle.code_laws.specs.OwnBounds.{where_goes}
use Rattle.code_laws.specs.BodyBounds.{bodies_within, body_within, in_region_within, inside_within}
use Rattle.code_laws.specs.Calls.{taken_scalars, in_frame_of, open_in, EnteredBelow, FitTaken, BodiesFollow, Returns}
use Rattle.code_laws.specs.Assembly.{CarriesProcess, CarriesProcedure, Carries, CarriesAll, Tells}
use Rattle.code_laws.specs.Talk.{IsCompilable, BodiesLaw}
use Rattle.body_code_laws.specs.Items.{RegionsAct}
use Rattle.body_code_laws.specs.PlainBodies.{PlainBodiesLaw, BodiesJoined}
use Rattle.body_code_laws.proofs.RaisedStatements.{raises_known}
use Rattle.body_code_laws.proofs.ItemRuns.{none_act_there, all_act_there}
use Rattle.body_code_laws.proofs.BodyPlaces.{first_at, row_there, count_there}
use Rattle.body_code_laws.proofs.BodyStands.{around_in, row_is, entered_more}
use Rattle.body_code_laws.proofs.BodyRuns.{IsActingBody, enter_code, enter_size, entry_at, doing_at, has_enter, Stands, calls_of, RowsAre, rows_lie, begins_there, held_there, doing_runs}
use Rattle.body_code_laws.proofs.RegionSteps.{open_more, entered_too, enter_comes, enter_passes}
use Rattle.body_code_laws.proofs.EndRuns.{process_tells, procedure_returns}
use Rattle.body_code_laws.proofs.RegionRuns.{initialisations_joined}
use Rattle.body_code_laws.proofs.CriticalRuns.{IsCritical, open_returns, with_region, closed_returns}

-- ---- regions

same_region : (t : Bool) (r : Option ℕ) → region_entered t r ≡ region_if t r
same_region true r = refl
same_region false r = refl

enters : (body : BodyRowTree) → entered_by body ≡ critical_region body
enters body = same_region body.critical body.region

-- a process is in no region
head_alone : (p : CheckedTree) (k : ℕ) (body : BodyRowTree) (sort : Sort) → HasHead p k body sort → has_instances sort ≡ true → body.critical ≡ false
head_alone p k body Outermost head e = head.1.alone.1
head_alone p k body Process head e = head.1.alone.1
head_alone p k body Procedure head e = absurd (let no : ⊥ = cc in no)

open_alike : (r : ℕ) (qs : List OpenRegion) → is_open r (open_in qs) ≡ is_open_there r qs
open_alike r [] = refl
open_alike r (q ∷ qs) = ap (λ (b : Bool). (q.region == r) || b) (open_alike r qs)

-- ---- a body in its region

-- what calls do, from a frame on top of so many
abbrev calls_on : CheckedTree → ℕ → ℕ → List Frame → List ℕ → Calls
calls_on p instance n below = calls_in p (body_mean p instance n) (suc (length below))

-- what a body means where these regions are open
abbrev mean_in : CheckedTree → ℕ → ℕ → BodyRowTree → List Frame → List Taken → List ℕ → Session → Ending
mean_in p instance n body below ts now s = close (inside_of body (suc n) (setting_of body instance (calls_on p instance n below) now) (first_store body ts) s)

abbrev within_in : CheckedTree → ℕ → ℕ → BodyRowTree → List Frame → List Taken → List ℕ → Session → Bool
within_in p instance n body below ts now s = inside_within body (suc n) (setting_of body instance (calls_on p instance n below) now) (calls_of p instance n below) (first_store body ts) s

mean_is : (p : CheckedTree) (instance k n : ℕ) (body : BodyRowTree) (below : List Frame) (regions : List OpenRegion) (ts : List Taken) (s : Session) (o : Option ℕ) → slice_get p.bodies k ≡ Some body → critical_region body ≡ o
    → in_region o body.listed (open_in regions) (first_store body ts) s (mean_in p instance n body below ts) ≡ body_mean p instance (suc n) k (suc (length below)) (open_in regions) ts s
mean_is p instance k n body below regions ts s o is e =
    sym
    (ap (λ (b : Option BodyRowTree). body_of instance (calls_on p instance n below) (suc n) (open_in regions) ts b s) is
    ∙ ap (λ (r : Option ℕ). in_region r body.listed (open_in regions) (first_store body ts) s (mean_in p instance n body below ts)) e)

within_is : (p : CheckedTree) (instance k n : ℕ) (body : BodyRowTree) (below : List Frame) (regions : List OpenRegion) (ts : List Taken) (s : Session) (o : Option ℕ) → slice_get p.bodies k ≡ Some body → critical_region body ≡ o
    → bodies_within p instance (suc n) k (suc (length below)) (open_in regions) ts s ≡ true
    → in_region_within o (open_in regions) (first_store body ts) s (within_in p instance n body below ts) ≡ true
within_is p instance k n body below regions ts s o is e within =
    subst (λ (r : Option ℕ). in_region_within r (open_in regions) (first_store body ts) s (within_in p instance n body below ts) ≡ true) e
    (subst (λ (b : Option BodyRowTree). body_within instance (calls_on p instance n below) (calls_of p instance n below) (suc n) (open_in regions) ts b s ≡ true) is within)

-- the machine before the first instruction of a body
abbrev start_in : CheckedTree → ℕ → ℕ → BodyRowTree → List Frame → List OpenRegion → List Taken → Session → Run
start_in p instance k body below regions ts s = in_frame_of instance k (body_row (site_in p body) (first_at p p.bodies 0 k)) (taken_scalars body.locals ts) below regions s

doing_place : (p : CheckedTree) (k : ℕ) (body : BodyRowTree) (o : Option ℕ) → entered_by body ≡ o → entry_at p k body + enter_size o ≡ doing_at p k body
doing_place p k body o e = ap (λ (r : Option ℕ). entry_at p k body + enter_size r) (sym e)

-- ---- processes

tells : (p : CheckedTree) (instance k n : ℕ) (body : BodyRowTree) (ts : List Taken) (s : Session) → IsActingBody p k body → RowsAre p k body → has_instances body.sort ≡ true
    → BodiesFollow p (code_of p) instance (body_mean p instance n) (bodies_within p instance n) → FitTaken body.locals body.parameters ts → bodies_within p instance (suc n) k 1 [] ts s ≡ true
    → Tells (code_of p) k (start_in p instance k body [] [] ts s) (process_end (body_mean p instance (suc n) k 1 [] ts s))
tells p instance k n body ts s b rows process follow fit within =
    let w : Around = around_in p instance k body [] [] 0 in
    let uncritical : body.critical ≡ false = head_alone p k body body.sort (b.good.compilable.typed.bodies k body b.good.is_body).head process in
    let none : entered_by body ≡ None = ap (λ (t : Bool). region_entered t body.region) uncritical in
    let none_too : critical_region body ≡ None = sym (enters body) ∙ none in
    let begins = begins_there p instance k body [] [] ts s b.good fit in
    let e : entry_at p k body ≡ doing_at p k body = (let f = doing_place p k body None none in omega (arith, f)) in
    let f = doing_runs p instance k n body [] [] ts begins.locals (start_in p instance k body [] [] ts s) s b (record { follow = follow; entered = tt; closed = λ e. refl }) rows fit (within_is p instance k n body [] [] ts s None b.good.is_body none_too within) begins.holds
    (gets_then begins.by (renamed w (entry_at p k body) (doing_at p k body) [] [] begins.locals s e refl)) in
    subst (λ (x : Ending). Tells (code_of p) k (start_in p instance k body [] [] ts s) (process_end x)) (mean_is p instance k n body [] [] ts s None b.good.is_body none_too)
    (process_tells p instance k body (start_in p instance k body [] [] ts s) _ b.good.is_body rows none process f)

-- ---- procedures

never_outermost : (sort : Sort) (regions : List OpenRegion) → has_instances sort ≡ false → sort ≡ Outermost → regions ≡ []
never_outermost sort regions procedure e = absurd (let no_instances : has_instances sort ≡ true = ap has_instances e in let no : ⊥ = cc in no)

-- where it is, and what is known of it
record IsCalled (p : CheckedTree) (instance k n : ℕ) (body : BodyRowTree) (frames : List Frame) (regions : List OpenRegion) (ts : List Taken) : Type 0 where
  is : IsActingBody p k body
  rows : RowsAre p k body
  procedure : has_instances body.sort ≡ false
  follow : BodiesFollow p (code_of p) instance (body_mean p instance n) (bodies_within p instance n)
  entered : EnteredBelow (length frames) regions
  fit : FitTaken body.locals body.parameters ts

stands_on : {p : CheckedTree} {instance k n : ℕ} {body : BodyRowTree} {frames : List Frame} {regions : List OpenRegion} {ts : List Taken} → IsCalled p instance k n body frames regions ts → Stands p instance n body frames regions
stands_on {p} {instance} {k} {n} {body} {frames} {regions} {ts} c = record { follow = c.follow; entered = entered_more (length frames) regions c.entered; closed = λ e. never_outermost body.sort regions c.procedure e }

returns_plain : (p : CheckedTree) (instance k n : ℕ) (body : BodyRowTree) (caller : Frame) (below : List Frame) (regions : List OpenRegion) (ts : List Taken) (s : Session) → IsCalled p instance k n body (caller ∷ below) regions ts → entered_by body ≡ None
    → within_in p instance n body (caller ∷ below) ts (open_in regions) s ≡ true
    → Returns (code_of p) instance k body caller below regions (start_in p instance k body (caller ∷ below) regions ts s) (mean_in p instance n body (caller ∷ below) ts (open_in regions) s)
returns_plain p instance k n body caller below regions ts s c none within =
    let frames : List Frame = caller ∷ below in
    let m : Run = start_in p instance k body frames regions ts s in
    let begins = begins_there p instance k body frames regions ts s c.is.good c.fit in
    let e : entry_at p k body ≡ doing_at p k body = (let f = doing_place p k body None none in omega (arith, f)) in
    procedure_returns p instance k body caller below regions m _ c.is.good c.rows none c.procedure
    (doing_runs p instance k n body frames regions ts begins.locals m s c.is (stands_on c) c.rows c.fit within begins.holds
    (gets_then begins.by (renamed (around_in p instance k body frames regions 0) (entry_at p k body) (doing_at p k body) [] [] begins.locals s e refl)))

-- a critical procedure
returns_critical : (p : CheckedTree) (instance k n r : ℕ) (body : BodyRowTree) (caller : Frame) (below : List Frame) (regions : List OpenRegion) (ts : List Taken) (s : Session) → IsCalled p instance k n body (caller ∷ below) regions ts → entered_by body ≡ Some r
    → in_region_within (Some r) (open_in regions) (first_store body ts) s (within_in p instance n body (caller ∷ below) ts) ≡ true
    → Returns (code_of p) instance k body caller below regions (start_in p instance k body (caller ∷ below) regions ts s) (in_region (Some r) body.listed (open_in regions) (first_store body ts) s (mean_in p instance n body (caller ∷ below) ts))
returns_critical p instance k n r body caller below regions ts s c some within = by_open (is_open r (open_in regions)) refl within
  where
    frames : List Frame
    frames = caller ∷ below

    w : Around
    w = around_in p instance k body frames regions 0

    m : Run
    m = start_in p instance k body frames regions ts s

    store : Store
    store = first_store body ts

    inner : List OpenRegion
    inner = with_region regions r frames

    critical : IsCritical p k r body
    critical = record { good = c.is.good; rows = c.rows; enters = some; procedure = c.procedure }

    has : HasAt (code_of p).instrs (entry_at p k body) (i.Enter r ∷ [])
    has = subst (λ (o : Option ℕ). HasAt (code_of p).instrs (entry_at p k body) (enter_code o)) some (has_enter p k body c.is.good.is_body)

    by_open : (t : Bool) → is_open r (open_in regions) ≡ t
        → (if t then within_in p instance n body frames ts (open_in regions) s else where_goes (done (Enter r) store s) (λ z store1 s1. within_in p instance n body frames ts (open_in regions ++ r ∷ []) s1)) ≡ true
        → Returns (code_of p) instance k body caller below regions m
        (if t then mean_in p instance n body frames ts (open_in regions) s else behind_enter (done (Enter r) store s) (λ s1. leaving r body.listed (mean_in p instance n body frames ts (open_in regions ++ r ∷ []) s1)))
    by_open true is inside =
        let begins = begins_there p instance k body frames regions ts s c.is.good c.fit in
        open_returns p instance k r body caller below regions m _ critical c.entered
        (doing_runs p instance k n body frames regions ts begins.locals m s c.is (stands_on c) c.rows c.fit inside begins.holds
        (gets_then begins.by (gets_then (enter_passes w r (entry_at p k body) begins.locals s has.0 (sym (open_alike r regions) ∙ is))
        (renamed w (entry_at p k body + 1) (doing_at p k body) [] [] begins.locals s (doing_place p k body (Some r) some) refl))))
    by_open false is inside =
        let begins = begins_there p instance k body frames regions ts s c.is.good c.fit in
        enter_comes w r (entry_at p k body) begins.locals m store s
        (λ o. where_goes o (λ z store1 s1. within_in p instance n body frames ts (open_in regions ++ r ∷ []) s1) ≡ true → Returns (code_of p) instance k body caller below regions m (behind_enter o (λ s1. leaving r body.listed (mean_in p instance n body frames ts (open_in regions ++ r ∷ []) s1))))
        has.0 (sym (open_alike r regions) ∙ is) begins.holds begins.by (λ t stop inside1. stop) (λ s1 gone inside1. behind s1 begins.locals begins.holds gone inside1) inside
      where
        behind : (s1 : Session) (locals : List ℤ) → Holds w store locals → GetsTo (code_of p) m (here (around_in p instance k body frames inner 0) (entry_at p k body + 1) [] locals s1)
            → within_in p instance n body frames ts (open_in regions ++ r ∷ []) s1 ≡ true
            → Returns (code_of p) instance k body caller below regions m (leaving r body.listed (mean_in p instance n body frames ts (open_in regions ++ r ∷ []) s1))
        behind s1 locals h gone inside1 =
            let now : open_in inner ≡ open_in regions ++ r ∷ [] = open_more regions (record { region = r; frame = suc (length frames) }) in
            let stands : Stands p instance n body frames inner = record { follow = c.follow; entered = entered_too (suc (length frames)) regions (record { region = r; frame = suc (length frames) }) (entered_more (length frames) regions c.entered) (omega arith); closed = λ e. never_outermost body.sort inner c.procedure e } in
            subst (λ (rs : List ℕ). Returns (code_of p) instance k body caller below regions m (leaving r body.listed (mean_in p instance n body frames ts rs s1))) now
            (closed_returns p instance k r body caller below regions m _ critical
            (doing_runs p instance k n body frames inner ts locals m s1 c.is stands c.rows c.fit (subst (λ (rs : List ℕ). within_in p instance n body frames ts rs s1 ≡ true) (sym now) inside1)
            (held_there p instance k body frames regions inner 0 0 store locals h)
            (gets_then gone (renamed (around_in p instance k body frames inner 0) (entry_at p k body + 1) (doing_at p k body) [] [] locals s1 (doing_place p k body (Some r) some) refl))))

returns : (p : CheckedTree) (instance k n : ℕ) (body : BodyRowTree) (caller : Frame) (below : List Frame) (regions : List OpenRegion) (ts : List Taken) (s : Session) → IsCalled p instance k n body (caller ∷ below) regions ts
    → bodies_within p instance (suc n) k (suc (length (caller ∷ below))) (open_in regions) ts s ≡ true
    → Returns (code_of p) instance k body caller below regions (start_in p instance k body (caller ∷ below) regions ts s) (body_mean p instance (suc n) k (suc (length (caller ∷ below))) (open_in regions) ts s)
returns p instance k n body caller below regions ts s c within = by_region (critical_region body) refl
  where
    frames : List Frame
    frames = caller ∷ below

    m : Run
    m = start_in p instance k body frames regions ts s

    is_body : slice_get p.bodies k ≡ Some body
    is_body = c.is.good.is_body

    by_region : (o : Option ℕ) → critical_region body ≡ o → Returns (code_of p) instance k body caller below regions m (body_mean p instance (suc n) k (suc (length frames)) (open_in regions) ts s)
    by_region None e =
        subst (λ (x : Ending). Returns (code_of p) instance k body caller below regions m x) (mean_is p instance k n body frames regions ts s None is_body e)
        (returns_plain p instance k n body caller below regions ts s c (enters body ∙ e) (within_is p instance k n body frames regions ts s None is_body e within))
    by_region (Some r) e =
        subst (λ (x : Ending). Returns (code_of p) instance k body caller below regions m x) (mean_is p instance k n body frames regions ts s (Some r) is_body e)
        (returns_critical p instance k n r body caller below regions ts s c (enters body ∙ e) (within_is p instance k n body frames regions ts s (Some r) is_body e within))

-- ---- all bodies

carries_by : (t : Bool) (P Q : Type 0) → (t ≡ true → P) → (t ≡ false → Q) → MatchBool t P Q
carries_by true P Q first second = first refl
carries_by false P Q first second = second refl

abbrev there : CheckedTree → ℕ → BodyRowTree → BodyRow
there p k body = body_row (site_in p body) (first_at p p.bodies 0 k)

carries : (p : CheckedTree) (instance k : ℕ) (body : BodyRowTree) → IsActingBody p k body → ((j : ℕ) (c : BodyRowTree) → slice_get p.bodies j ≡ Some c → IsActingBody p j c) → Carries p (code_of p) instance k body (there p k body)
carries p instance k body b all =
    carries_by (has_instances body.sort) (CarriesProcess p (code_of p) instance k body (there p k body)) (CarriesProcedure p (code_of p) instance k body (there p k body))
    (λ process. record { tells = λ n ts s follow fit within. tells p instance k n body ts s b (rows_lie p instance n k body all b.good.is_body follow) process follow fit within })
    (λ procedure.
    record {
      returns = λ n caller below regions ts s follow entered fit within.
          returns p instance k n body caller below regions ts s
          (record { is = b; rows = rows_lie p instance n k body all b.good.is_body follow; procedure = procedure; follow = follow; entered = entered; fit = fit }) within;
    })

-- where the regions among the items of each body act
all_carried : (p : CheckedTree) (instance : ℕ) → ((k : ℕ) (b : BodyRowTree) → slice_get p.bodies k ≡ Some b → RegionsAct b.statements) → IsCompilable p → Agrees (code_of p) → CarriesAll p (code_of p) instance
all_carried p instance regions compilable agrees =
    let all : (k : ℕ) (b : BodyRowTree) → slice_get p.bodies k ≡ Some b → IsActingBody p k b = λ k b is. record { good = record { compilable = compilable; agrees = agrees; is_body = is }; regions = regions k b is } in
    record {
      count = count_there p p.bodies 0;
      body = λ k body is.
          let b = all k body is in
          (there p k body, row_there p k body is, row_is p k body b.good, carries p instance k body b all);
    }

pub plain_bodies : PlainBodiesLaw
plain_bodies p instance outside compilable agrees = all_carried p instance (λ k b is. none_act_there b.statements (outside k b is)) compilable agrees

pub bodies_joined : BodiesJoined
bodies_joined known p instance compilable agrees = all_carried p instance (λ k b is. all_act_there (initialisations_joined known) b.statements (compilable.well_made k b is).counters.statements) compilable agrees

pub bodies_law : BodiesLaw
bodies_law = bodies_joined raises_known
