-- The ends of bodies: what is told of a process, and what a procedure gives back where it enters no region.
use Rattle.std.proofs.Common.{◌≡◌, ℕ, suc, ◌<◌, ◌≤◌, if◌then◌else◌, Bool, true, false, List, [], ◌∷◌, ◌++◌, ℤ, length, Option, Some, None, slice_get, refl, ap, ◌∙◌, subst, arith}
use Rattle.kernel_base.specs.declared.ends.Exc.{Exc}
use Rattle.world_model.specs.Session.{Session}
use Rattle.checked_program.specs.declared.program.Sort.{Sort}
use Rattle.checked_program.specs.declared.program.Sort.TheVariants.{Outermost, Process, Procedure}
use Rattle.program_trees.specs.ProgramTree.{BodyRowTree, CheckedTree}
use Rattle.code_types.specs.declared.instr.Instr.{Instr}
use Rattle.code_types.specs.declared.instr.Instr.TheVariants as i
use Rattle.code_types.specs.declared.code.Code.{Code}
use Rattle.code_types.specs.Places.{names_exception, taker}
use Rattle.code_types.specs.State.{Frame, OpenRegion, Raising}
use Rattle.code_types.specs.Steps.{Run, At}
use Rattle.source_meaning.specs.Store.{Store}
use Rattle.source_meaning.specs.Flow.{Flow, Goes, Raised, Exits, Returned, Stops, Gone, Bound}
use Rattle.source_meaning.specs.BodyMeaning.{close}
use Rattle.source_meaning.specs.Talk.{process_end}
use Rattle.source_meaning.specs.Fitting.{has_instances}
use Rattle.code_scheme.specs.StatementSite.{call_results}
use Rattle.code_scheme.specs.StatementPlain.{entered_by, leave_region, result_code, parameters_code, end_of_call, way_out_of, way_out_code}
use Rattle.code_scheme.specs.BodyCode.{guarded_rows, comes_to_end, end_code, results_by, site_in, code_of}
use Rattle.follow_laws.specs.Follows.{HasAt, Around, frame_at, state_at, here, Holds, GetsTo}
use Rattle.follow_laws.proofs.Running.{gets_then, own_frame}
use Rattle.follow_laws.proofs.HandledRuns.{taker_right}
use Rattle.code_laws.specs.Calls.{GoesOut, Returns, EndsFitting, results_back, back_in}
use Rattle.code_laws.specs.Assembly.{Tells}
use Rattle.code_laws.proofs.BodyEnds.{gives_back_run}
use Rattle.code_laws.proofs.ProcessEnds.{ends_run}
use Rattle.body_code_laws.proofs.BodyPlaces.{row_there}
use Rattle.body_code_laws.proofs.NoExits.{one_place}
use Rattle.body_code_laws.proofs.BodyStands.{around_in, IsGoodBody, whole_of, frame_stands}
use Rattle.body_code_laws.proofs.BodyRuns.{again_rows, doing_at, ending_at, again_at, raised_in_body, ends_inside, has_ending, RowsAre, taker_inside, FollowsBody}

-- ---- what is told of a process's end further on is told of it before

pub tells_after : (code : Code) (b : ℕ) (m n : Run) (o : Flow (Unit {0})) → GetsTo code m n → Tells code b n o → Tells code b m o
tells_after code b m n (Goes v store s) r t = absurd t
tells_after code b m n (Raised x store s) r t = absurd t
tells_after code b m n (Exits k store s) r t = absurd t
tells_after code b m n (Returned store s) r t = absurd t
tells_after code b m n (Stops t inner store) r told = record { state = told.state; front = told.front; frames = told.frames; are = told.are; by = gets_then r told.by }
tells_after code b m n (Gone t) r told = record { state = told.state; none = told.none; by = gets_then r told.by }
tells_after code b m n Bound r told = tt

-- ---- the way out

finish_is : (sort : Sort) (body : BodyRowTree) → has_instances sort ≡ true → way_out_of sort body ≡ i.Finish ∷ []
finish_is Outermost body e = refl
finish_is Process body e = refl
finish_is Procedure body e = absurd (let no : ⊥ = cc in no)

call_is : (sort : Sort) (body : BodyRowTree) → has_instances sort ≡ false → way_out_of sort body ≡ end_of_call body
call_is Outermost body e = absurd (let no : ⊥ = cc in no)
call_is Process body e = absurd (let no : ⊥ = cc in no)
call_is Procedure body e = refl

given_is : (sort : Sort) (body : BodyRowTree) → has_instances sort ≡ false → results_by sort body ≡ call_results body
given_is Outermost body e = absurd (let no : ⊥ = cc in no)
given_is Process body e = absurd (let no : ⊥ = cc in no)
given_is Procedure body e = refl

pub end_is : (body : BodyRowTree) → comes_to_end body ≡ true → end_code body ≡ way_out_code body
end_is body e = ap (λ (t : Bool). if t then way_out_code body else []) e

-- ---- an EXIT doesn't lead out of a body: the machine would come to each place behind the code

pub no_exit : (p : CheckedTree) (instance k : ℕ) (body : BodyRowTree) (below : List Frame) (regions : List OpenRegion) (m : Run) (label : ℕ) (store : Store) (s : Session) → FollowsBody p instance k body below regions m (Exits label store s) → ⊥
no_exit p instance k body below regions m label store s f =
    let end : ℕ = length (code_of p).instrs in
    let first = (f.by end).by in
    let second = (f.by (suc end)).by in
    let same : end ≡ suc end = one_place (around_in p instance k body below regions 0) m end (suc end) first.locals second.locals s s (omega arith) (omega arith) first.by second.by in
    let no : ⊥ = omega (arith, same) in no

-- ---- bodies that enter no region

-- no row takes what the items' don't
plain_untaken : (p : CheckedTree) (k : ℕ) (body : BodyRowTree) (place : ℕ) (x : Exc) → slice_get p.bodies k ≡ Some body → RowsAre p k body → entered_by body ≡ None
    → doing_at p k body ≤ place → place < ending_at p k body → taker (guarded_rows (site_in p body) (doing_at p k body)) place x ≡ None → taker (code_of p).handlers place x ≡ None
plain_untaken p k body place x is lie e low high untaken =
    taker_inside p k body place x is lie low (let f = ends_inside p k body in omega (arith, high, f))
    ∙ (taker_right (guarded_rows (site_in p body) (doing_at p k body)) (again_rows (entered_by body) (doing_at p k body) (ending_at p k body) (raised_in_body p k body) (again_at p k body)) place x untaken
    ∙ ap (λ (o : Option ℕ). taker (again_rows o (doing_at p k body) (ending_at p k body) (raised_in_body p k body) (again_at p k body)) place x) e)

-- the way out, where control comes to it
pub way_there : (p : CheckedTree) (k : ℕ) (body : BodyRowTree) → slice_get p.bodies k ≡ Some body → comes_to_end body ≡ true → HasAt (code_of p).instrs (ending_at p k body) (way_out_code body)
way_there p k body is comes = subst (λ (is : List Instr). HasAt (code_of p).instrs (ending_at p k body) is) (end_is body comes) (has_ending p k body is)

-- ---- processes

pub process_tells : (p : CheckedTree) (instance k : ℕ) (body : BodyRowTree) (m : Run) (o : Flow (Unit {0})) → slice_get p.bodies k ≡ Some body → RowsAre p k body → entered_by body ≡ None → has_instances body.sort ≡ true
    → FollowsBody p instance k body [] [] m o → Tells (code_of p) k m (process_end (close o))
process_tells p instance k body m (Goes tt store s) is lie none process f =
    let w : Around = around_in p instance k body [] [] 0 in
    let came = (f.by 0).by in
    let has : HasAt (code_of p).instrs (ending_at p k body) (i.Finish ∷ []) = subst (λ (is : List Instr). HasAt (code_of p).instrs (ending_at p k body) is) (finish_is body.sort body process) (way_there p k body is (f.comes store s refl)) in
    tells_after (code_of p) k m (here w (ending_at p k body) [] came.locals s) _ came.by (ends_run.normal w (ending_at p k body) came.locals store s refl has.0 came.holds.1)
process_tells p instance k body m (Raised x store s) is lie none process f =
    let w : Around = around_in p instance k body [] [] 0 in
    let r = (f.by 0).by in
    tells_after (code_of p) k m _ _ r.by (ends_run.raised w x r.place r.stack r.locals store s refl (plain_untaken p k body r.place x is lie none r.from r.until r.untaken) r.holds)
process_tells p instance k body m (Exits label store s) is lie none process f = absurd (no_exit p instance k body [] [] m label store s f)
process_tells p instance k body m (Returned store s) is lie none process f =
    let w : Around = around_in p instance k body [] [] 0 in
    let out = (f.by 0).by in
    let has : HasAt (code_of p).instrs out.place (i.Finish ∷ []) = subst (λ (is : List Instr). HasAt (code_of p).instrs out.place is) (finish_is body.sort body process) out.has in
    tells_after (code_of p) k m (here w out.place [] out.arrives.locals s) _ out.arrives.by (ends_run.normal w out.place out.arrives.locals store s refl has.0 out.arrives.holds)
process_tells p instance k body m (Stops t inner store) is lie none process f = let stop = (f.by 0).by in record { state = stop.state; front = stop.front; frames = stop.frames; are = stop.are; by = stop.by }
process_tells p instance k body m (Gone t) is lie none process f = let gone = (f.by 0).by in record { state = gone.state; none = gone.none; by = gone.by }
process_tells p instance k body m Bound is lie none process f = tt

-- ---- procedures

-- what a procedure gives back, behind the release of its region
abbrev pub giving_code : BodyRowTree → List Instr
giving_code body = result_code body ++ (parameters_code body.parameters body.locals ++ i.Return ∷ [])

pub out_is : (body : BodyRowTree) (o : Option ℕ) → entered_by body ≡ o → has_instances body.sort ≡ false → way_out_code body ≡ leave_region o ++ giving_code body
out_is body o e procedure = call_is body.sort body procedure ∙ ap (λ (r : Option ℕ). leave_region r ++ giving_code body) e

-- at its way out the procedure gives back what it gives
pub goes_back : (p : CheckedTree) (instance k : ℕ) (body : BodyRowTree) (caller : Frame) (below : List Frame) (regions : List OpenRegion) (m : Run) (at : ℕ) (locals : List ℤ) (store : Store) (s : Session)
    → IsGoodBody p k body → has_instances body.sort ≡ false → HasAt (code_of p).instrs at (giving_code body) → Holds (around_in p instance k body (caller ∷ below) regions 0) store locals
    → GetsTo (code_of p) m (here (around_in p instance k body (caller ∷ below) regions 0) at [] locals s)
    → EndsFitting body store × GetsTo (code_of p) m (back_in instance (results_back body store) caller below regions s)
goes_back p instance k body caller below regions m at locals store s good procedure has h by =
    let w : Around = around_in p instance k body (caller ∷ below) regions 0 in
    let whole = whole_of good in (
      record { fit = h.fit; result = h.result ∙ whole.result },
      gets_then by (gives_back_run w body caller below at locals store s (frame_stands p instance k body (caller ∷ below) regions 0 good) whole.result refl (row_there p k body good.is_body) (given_is body.sort body procedure) whole.parameters has h),
    )

-- an exception goes out that no row takes
pub goes_out : (p : CheckedTree) (instance k : ℕ) (body : BodyRowTree) (caller : Frame) (below : List Frame) (regions still_open : List OpenRegion) (m : Run) (x : Exc) (place : ℕ) (stack locals : List ℤ) (store : Store) (s : Session)
    → (names_exception body.listed x ≡ true → still_open ≡ regions) → taker (code_of p).handlers place x ≡ None → Holds (around_in p instance k body (caller ∷ below) still_open 0) store locals
    → GetsTo (code_of p) m (At (state_at (around_in p instance k body (caller ∷ below) still_open 0) (Raising x) place stack locals) s)
    → GoesOut (code_of p) instance k body.listed x (caller ∷ below) regions store s m
goes_out p instance k body caller below regions still_open m x place stack locals store s same untaken h by =
    let w : Around = around_in p instance k body (caller ∷ below) still_open 0 in
    record { frame = frame_at w place stack locals; shows = own_frame w place stack locals store h; untaken = untaken; still_open = still_open; same = same; by = by }

pub procedure_returns : (p : CheckedTree) (instance k : ℕ) (body : BodyRowTree) (caller : Frame) (below : List Frame) (regions : List OpenRegion) (m : Run) (o : Flow (Unit {0})) → IsGoodBody p k body → RowsAre p k body → entered_by body ≡ None → has_instances body.sort ≡ false
    → FollowsBody p instance k body (caller ∷ below) regions m o → Returns (code_of p) instance k body caller below regions m (close o)
procedure_returns p instance k body caller below regions m (Goes tt store s) good lie none procedure f =
    let came = (f.by 0).by in
    goes_back p instance k body caller below regions m (ending_at p k body) came.locals store s good procedure (subst (λ (is : List Instr). HasAt (code_of p).instrs (ending_at p k body) is) (out_is body None none procedure) (way_there p k body good.is_body (f.comes store s refl))) came.holds.1 came.by
procedure_returns p instance k body caller below regions m (Raised x store s) good lie none procedure f =
    let r = (f.by 0).by in
    goes_out p instance k body caller below regions regions m x r.place r.stack r.locals store s (λ listed. refl) (plain_untaken p k body r.place x good.is_body lie none r.from r.until r.untaken) r.holds r.by
procedure_returns p instance k body caller below regions m (Exits label store s) good lie none procedure f = absurd (no_exit p instance k body (caller ∷ below) regions m label store s f)
procedure_returns p instance k body caller below regions m (Returned store s) good lie none procedure f =
    let out = (f.by 0).by in
    goes_back p instance k body caller below regions m out.place out.arrives.locals store s good procedure (subst (λ (is : List Instr). HasAt (code_of p).instrs out.place is) (out_is body None none procedure) out.has) out.arrives.holds out.arrives.by
procedure_returns p instance k body caller below regions m (Stops t inner store) good lie none procedure f = let stop = (f.by 0).by in record { state = stop.state; front = stop.front; frames = stop.frames; are = stop.are; by = stop.by }
procedure_returns p instance k body caller below regions m (Gone t) good lie none procedure f = let gone = (f.by 0).by in record { state = gone.state; none = gone.none; by = gone.by }
procedure_returns p instance k body caller below regions m Bound good lie none procedure f = tt
