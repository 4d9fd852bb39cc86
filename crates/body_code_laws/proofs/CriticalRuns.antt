-- The ends of critical procedures, which leave the region that they entered.
use Rattle.std.proofs.Common.{◌≡◌, ℕ, suc, ◌+◌, ◌<◌, ◌≤◌, if◌then◌else◌, Bool, true, false, List, [], ◌∷◌, ◌++◌, ℤ, length, Some, None, refl, ◌∙◌, subst}
use Rattle.kernel_base.specs.declared.ends.Exc.{Exc}
use Rattle.kernel_base.specs.declared.request.Request.TheVariants.{Leave}
use Rattle.world_model.specs.Session.{Session}
use Rattle.program_trees.specs.ProgramTree.{BodyRowTree, CheckedTree}
use Rattle.code_types.specs.declared.instr.Instr.{Instr}
use Rattle.code_types.specs.declared.instr.Instr.TheVariants as i
use Rattle.code_types.specs.Places.{names_exception, taker}
use Rattle.code_types.specs.State.{Frame, OpenRegion}
use Rattle.code_types.specs.Steps.{Run}
use Rattle.source_meaning.specs.Store.{Store}
use Rattle.source_meaning.specs.Flow.{Flow, Goes, Raised, Exits, Returned, Stops, Gone, Bound, then_do, done}
use Rattle.source_meaning.specs.BodyMeaning.{Out, close, leaving}
use Rattle.source_meaning.specs.Fitting.{has_instances}
use Rattle.code_scheme.specs.StatementPlain.{entered_by, way_out_code}
use Rattle.code_scheme.specs.BodyItems.{raised_in}
use Rattle.code_scheme.specs.BodyCode.{guarded_code, guarded_rows, site_in, code_of}
use Rattle.follow_laws.specs.Follows.{HasAt, Around, here, Holds, GetsTo, RaisesIn}
use Rattle.follow_laws.proofs.Running.{gets_then}
use Rattle.code_laws.specs.Calls.{EnteredBelow, GoesOut, Returns, EndsFitting, results_back, back_in}
use Rattle.body_code_laws.proofs.BodyStands.{around_in, IsGoodBody}
use Rattle.body_code_laws.proofs.BodyRuns.{doing_at, ending_at, again_at, held_there, RowsAre, FollowsBody}
use Rattle.body_code_laws.proofs.RegionSteps.{leave_comes, leave_passes}
use Rattle.body_code_laws.proofs.RaisingAgain.{unlisted_untaken, again_taker, again_lands, raise_run}
use Rattle.body_code_laws.proofs.EndRuns.{giving_code, out_is, way_there, goes_back, goes_out, no_exit}

-- a critical procedure of a program, and the rows about it
pub record IsCritical (p : CheckedTree) (k r : ℕ) (body : BodyRowTree) : Type 0 where
  pub good : IsGoodBody p k body
  pub rows : RowsAre p k body
  pub enters : entered_by body ≡ Some r
  pub procedure : has_instances body.sort ≡ false

has_leave : (p : CheckedTree) (k r at : ℕ) (body : BodyRowTree) → IsCritical p k r body → HasAt (code_of p).instrs at (way_out_code body) → HasAt (code_of p).instrs at (i.Leave r ∷ giving_code body)
has_leave p k r at body c has = subst (λ (is : List Instr). HasAt (code_of p).instrs at is) (out_is body (Some r) c.enters c.procedure) has

-- no row takes an exception that the items' rows don't take and that isn't listed
no_row : (p : CheckedTree) (k r : ℕ) (body : BodyRowTree) (place : ℕ) (x : Exc) → IsCritical p k r body → doing_at p k body ≤ place → place < ending_at p k body
    → taker (guarded_rows (site_in p body) (doing_at p k body)) place x ≡ None → names_exception body.listed x ≡ false → taker (code_of p).handlers place x ≡ None
no_row p k r body place x c low high untaken unlisted =
    again_taker p k body r place x c.good.is_body c.rows c.enters low high untaken
    ∙ unlisted_untaken body.listed (doing_at p k body) (ending_at p k body) (raised_in p (guarded_code (site_in p body) (doing_at p k body))) (again_at p k body) place x unlisted

-- ---- where the region was open already

open_way : (p : CheckedTree) (instance k r : ℕ) (body : BodyRowTree) (caller : Frame) (below : List Frame) (regions : List OpenRegion) (m : Run) (at : ℕ) (locals : List ℤ) (store : Store) (s : Session)
    → IsCritical p k r body → EnteredBelow (length (caller ∷ below)) regions → HasAt (code_of p).instrs at (way_out_code body) → Holds (around_in p instance k body (caller ∷ below) regions 0) store locals
    → GetsTo (code_of p) m (here (around_in p instance k body (caller ∷ below) regions 0) at [] locals s)
    → EndsFitting body store × GetsTo (code_of p) m (back_in instance (results_back body store) caller below regions s)
open_way p instance k r body caller below regions m at locals store s c entered has h by =
    let leaves = has_leave p k r at body c has in
    goes_back p instance k body caller below regions m (at + 1) locals store s c.good c.procedure leaves.1 h
    (gets_then by (leave_passes (around_in p instance k body (caller ∷ below) regions 0) r at locals s leaves.0 entered))

open_raises : (p : CheckedTree) (instance k r : ℕ) (body : BodyRowTree) (caller : Frame) (below : List Frame) (regions : List OpenRegion) (m : Run) (x : Exc) (store : Store) (s : Session)
    → IsCritical p k r body → EnteredBelow (length (caller ∷ below)) regions
    → RaisesIn (around_in p instance k body (caller ∷ below) regions 0) m (doing_at p k body) (ending_at p k body) (guarded_rows (site_in p body) (doing_at p k body)) x store s
    → GoesOut (code_of p) instance k body.listed x (caller ∷ below) regions store s m
open_raises p instance k r body caller below regions m x store s c entered f = by_listed (names_exception body.listed x) refl
  where
    w : Around
    w = around_in p instance k body (caller ∷ below) regions 0

    by_listed : (t : Bool) → names_exception body.listed x ≡ t → GoesOut (code_of p) instance k body.listed x (caller ∷ below) regions store s m
    by_listed true is =
        let a = again_lands p instance k body (caller ∷ below) regions m r x store s c.good c.rows c.enters is f in
        goes_out p instance k body caller below regions regions m x (a.place + 1) [] a.locals store s (λ listed. refl) a.untaken a.holds
        (gets_then a.by (gets_then (leave_passes w r a.place a.locals s a.leaves entered) (raise_run w x (a.place + 1) a.locals s a.raises)))
    by_listed false is =
        goes_out p instance k body caller below regions regions m x f.place f.stack f.locals store s (λ listed. refl) (no_row p k r body f.place x c f.from f.until f.untaken is) f.holds f.by

pub open_returns : (p : CheckedTree) (instance k r : ℕ) (body : BodyRowTree) (caller : Frame) (below : List Frame) (regions : List OpenRegion) (m : Run) (o : Flow (Unit {0})) → IsCritical p k r body → EnteredBelow (length (caller ∷ below)) regions
    → FollowsBody p instance k body (caller ∷ below) regions m o → Returns (code_of p) instance k body caller below regions m (close o)
open_returns p instance k r body caller below regions m (Goes tt store s) c entered f =
    let came = (f.by 0).by in
    open_way p instance k r body caller below regions m (ending_at p k body) came.locals store s c entered (way_there p k body c.good.is_body (f.comes store s refl)) came.holds.1 came.by
open_returns p instance k r body caller below regions m (Raised x store s) c entered f = open_raises p instance k r body caller below regions m x store s c entered (f.by 0).by
open_returns p instance k r body caller below regions m (Exits label store s) c entered f = absurd (no_exit p instance k body (caller ∷ below) regions m label store s f)
open_returns p instance k r body caller below regions m (Returned store s) c entered f =
    let out = (f.by 0).by in
    open_way p instance k r body caller below regions m out.place out.arrives.locals store s c entered out.has out.arrives.holds out.arrives.by
open_returns p instance k r body caller below regions m (Stops t inner store) c entered f = let stop = (f.by 0).by in record { state = stop.state; front = stop.front; frames = stop.frames; are = stop.are; by = stop.by }
open_returns p instance k r body caller below regions m (Gone t) c entered f = let gone = (f.by 0).by in record { state = gone.state; none = gone.none; by = gone.by }
open_returns p instance k r body caller below regions m Bound c entered f = tt

-- ---- where the procedure entered it

-- the regions that are open then
abbrev pub with_region : List OpenRegion → ℕ → List Frame → List OpenRegion
with_region regions r below = regions ++ record { region = r; frame = suc (length below) } ∷ []

closed_way : (p : CheckedTree) (instance k r : ℕ) (body : BodyRowTree) (caller : Frame) (below : List Frame) (regions : List OpenRegion) (m : Run) (at : ℕ) (locals : List ℤ) (store : Store) (s : Session)
    → IsCritical p k r body → HasAt (code_of p).instrs at (way_out_code body) → Holds (around_in p instance k body (caller ∷ below) (with_region regions r (caller ∷ below)) 0) store locals
    → GetsTo (code_of p) m (here (around_in p instance k body (caller ∷ below) (with_region regions r (caller ∷ below)) 0) at [] locals s)
    → Returns (code_of p) instance k body caller below regions m (close (done (Leave r) store s))
closed_way p instance k r body caller below regions m at locals store s c has h by =
    let w : Around = around_in p instance k body (caller ∷ below) regions 0 in
    let leaves = has_leave p k r at body c has in
    let held : Holds w store locals = held_there p instance k body (caller ∷ below) (with_region regions r (caller ∷ below)) regions 0 0 store locals h in
    leave_comes w r at locals m store s (λ o. Returns (code_of p) instance k body caller below regions m (close o)) leaves.0 held by (λ t stop. stop)
    (λ s1 gone. goes_back p instance k body caller below regions m (at + 1) locals store s1 c.good c.procedure leaves.1 held gone)

closed_raises : (p : CheckedTree) (instance k r : ℕ) (body : BodyRowTree) (caller : Frame) (below : List Frame) (regions : List OpenRegion) (m : Run) (x : Exc) (store : Store) (s : Session)
    → IsCritical p k r body
    → RaisesIn (around_in p instance k body (caller ∷ below) (with_region regions r (caller ∷ below)) 0) m (doing_at p k body) (ending_at p k body) (guarded_rows (site_in p body) (doing_at p k body)) x store s
    → Returns (code_of p) instance k body caller below regions m (leaving r body.listed (Out x store s))
closed_raises p instance k r body caller below regions m x store s c f = by_listed (names_exception body.listed x) refl
  where
    w : Around
    w = around_in p instance k body (caller ∷ below) regions 0

    inner : List OpenRegion
    inner = with_region regions r (caller ∷ below)

    by_listed : (t : Bool) → names_exception body.listed x ≡ t → Returns (code_of p) instance k body caller below regions m (if t then close (then_do (done (Leave r) store s) (λ z. Raised x)) else Out x store s)
    by_listed true is =
        let a = again_lands p instance k body (caller ∷ below) inner m r x store s c.good c.rows c.enters is f in
        let held : Holds w store a.locals = held_there p instance k body (caller ∷ below) inner regions 0 0 store a.locals a.holds in
        leave_comes w r a.place a.locals m store s (λ o. Returns (code_of p) instance k body caller below regions m (close (then_do o (λ z. Raised x)))) a.leaves held a.by (λ t stop. stop)
        (λ s1 gone. goes_out p instance k body caller below regions regions m x (a.place + 1) [] a.locals store s1 (λ listed. refl) a.untaken held (gets_then gone (raise_run w x (a.place + 1) a.locals s1 a.raises)))
    by_listed false is =
        goes_out p instance k body caller below regions inner m x f.place f.stack f.locals store s (λ listed. absurd (let no : ⊥ = cc in no)) (no_row p k r body f.place x c f.from f.until f.untaken is) f.holds f.by

pub closed_returns : (p : CheckedTree) (instance k r : ℕ) (body : BodyRowTree) (caller : Frame) (below : List Frame) (regions : List OpenRegion) (m : Run) (o : Flow (Unit {0})) → IsCritical p k r body
    → FollowsBody p instance k body (caller ∷ below) (with_region regions r (caller ∷ below)) m o → Returns (code_of p) instance k body caller below regions m (leaving r body.listed (close o))
closed_returns p instance k r body caller below regions m (Goes tt store s) c f =
    let came = (f.by 0).by in
    closed_way p instance k r body caller below regions m (ending_at p k body) came.locals store s c (way_there p k body c.good.is_body (f.comes store s refl)) came.holds.1 came.by
closed_returns p instance k r body caller below regions m (Raised x store s) c f = closed_raises p instance k r body caller below regions m x store s c (f.by 0).by
closed_returns p instance k r body caller below regions m (Exits label store s) c f = absurd (no_exit p instance k body (caller ∷ below) (with_region regions r (caller ∷ below)) m label store s f)
closed_returns p instance k r body caller below regions m (Returned store s) c f =
    let out = (f.by 0).by in
    closed_way p instance k r body caller below regions m out.place out.arrives.locals store s c out.has out.arrives.holds out.arrives.by
closed_returns p instance k r body caller below regions m (Stops t inner store) c f = let stop = (f.by 0).by in record { state = stop.state; front = stop.front; frames = stop.frames; are = stop.are; by = stop.by }
closed_returns p instance k r body caller below regions m (Gone t) c f = let gone = (f.by 0).by in record { state = gone.state; none = gone.none; by = gone.by }
closed_returns p instance k r body caller below regions m Bound c f = tt
