-- What the machine does in a body whose items name no region.
use Rattle.std.proofs.Common.{◌≡◌, ℕ, suc, ◌+◌, ◌<◌, ◌≤◌, Bool, true, false, ◌&&◌, List, [], ◌∷◌, ◌++◌, ℤ, length, Option, Some, None, slice_get, refl, sym, ap, ◌∙◌, subst, arith, length-append, append-nil}
use Rattle.kernel_base.specs.declared.ends.Exc.{Exc}
use Rattle.world_model.specs.Session.{Session}
use Rattle.modes.specs.ModeTree.{ModeTree}
use Rattle.checked_program.specs.declared.program.Sort.TheVariants.{Outermost}
use Rattle.program_trees.specs.ProgramTree.{BodyRowTree, CheckedTree}
use Rattle.program_trees.specs.StatementTree.{StatementNodes}
use Rattle.code_types.specs.declared.instr.Instr.{Instr}
use Rattle.code_types.specs.declared.instr.Instr.TheVariants as i
use Rattle.code_types.specs.declared.code.Handler.{Handler}
use Rattle.code_types.specs.Places.{taker}
use Rattle.code_types.specs.State.{Frame, OpenRegion}
use Rattle.code_types.specs.Steps.{Run}
use Rattle.source_meaning.specs.Store.{Store, Taken, first_store}
use Rattle.source_meaning.specs.Flow.{Flow, Goes, Meaning}
use Rattle.source_meaning.specs.ExprMeaning.{Setting}
use Rattle.source_meaning.specs.StatementMeaning.{caught, handler_mean, statements_mean}
use Rattle.source_meaning.specs.BodyMeaning.{body_mean, inside_of}
use Rattle.source_meaning.specs.Typed.{around_body}
use Rattle.source_meaning.specs.TypedStatements.{AreTyped}
use Rattle.code_scheme.specs.StatementSite.{Site, Standing, scalars_of_result}
use Rattle.code_scheme.specs.StatementGoing.{go_on, leave_size}
use Rattle.code_scheme.specs.StatementPlain.{entered_by}
use Rattle.code_scheme.specs.StatementSize.{handler_size}
use Rattle.code_scheme.specs.StatementCode.{handler_code}
use Rattle.code_scheme.specs.BodyItems.{raise_again_code, raise_again_rows, items_rows}
use Rattle.code_scheme.specs.BodyCode.{lowest_code, behind_lowest, standing_in, items_of, guarded_code, guarded_rows, comes_to_end, end_code, raised_again, doing_code, doing_rows, body_code, body_handlers, site_in, code_of}
use Rattle.follow_laws.specs.Follows.{HasAt, Around, here, Holds, GetsTo, Arrives, Does}
use Rattle.follow_laws.specs.Parts.{IsCovered}
use Rattle.follow_laws.proofs.Running.{has_front, has_back, after}
use Rattle.follow_laws.proofs.HandledRuns.{taker_left}
use Rattle.code_laws.specs.BodyBounds.{bodies_within, inside_within, called_within}
use Rattle.code_laws.specs.Calls.{taken_scalars, in_frame_of, EnteredBelow, FitTaken, BodiesFollow}
use Rattle.code_laws.specs.Expressions.{NamesIn}
use Rattle.code_laws.specs.StatementBounds.{Along, OpenCallsWithin, where_raises, statements_within, handler_within}
use Rattle.code_laws.specs.StatementsInRange.{FitsItems}
use Rattle.code_laws.specs.Counters.{statements_keep}
use Rattle.code_laws.proofs.BodyBegins.{begins_run}
use Rattle.code_laws.proofs.BodySkips.{skips_run}
use Rattle.code_laws.proofs.Values.{both_true}
use Rattle.statement_code_laws.specs.Parts.{Acts, LieIn}
use Rattle.statement_code_laws.proofs.Lengths.{handler_length}
use Rattle.statement_code_laws.proofs.Joining.{lie_wider, lie_both}
use Rattle.statement_code_laws.proofs.ChoiceRuns.{names_inside}
use Rattle.statement_code_laws.proofs.StatementRuns.{looping_law, handler_join}
use Rattle.body_code_laws.specs.Items.{RegionsAct}
use Rattle.body_code_laws.proofs.GuardedRuns.{resized, guarded}
use Rattle.body_code_laws.proofs.ItemRuns.{items_law}
use Rattle.body_code_laws.proofs.BodyPlaces.{first_at, body_length, RowsLie, code_there, taker_there}
use Rattle.body_code_laws.proofs.BodyStands.{around_in, setting_in, IsGoodBody, whole_of, items_stand, names_there, frame_stands, holds_behind, goes_behind, within_behind}

-- ---- places

-- a body of a program, the regions among whose items act
pub record IsActingBody (p : CheckedTree) (k : ℕ) (body : BodyRowTree) : Type 0 where
  pub good : IsGoodBody p k body
  pub regions : RegionsAct body.statements

-- the region that a critical procedure enters, and what raises exceptions again behind its way out
abbrev pub enter_code : Option ℕ → List Instr
enter_code None = []
enter_code (Some r) = i.Enter r ∷ []

abbrev pub enter_size : Option ℕ → ℕ
enter_size None = 0
enter_size (Some r) = 1

abbrev pub again_code : Option ℕ → List ℕ → List Instr
again_code None xs = []
again_code (Some r) xs = raise_again_code r xs

abbrev pub again_rows : Option ℕ → ℕ → ℕ → List ℕ → ℕ → List Handler
again_rows None from until xs target = []
again_rows (Some r) from until xs target = raise_again_rows from until xs target

-- where the lowest values of a body end
abbrev pub entry_at : CheckedTree → ℕ → BodyRowTree → ℕ
entry_at p k body = first_at p p.bodies 0 k + length (lowest_code body)

-- where its items begin, behind an Enter
abbrev pub doing_at : CheckedTree → ℕ → BodyRowTree → ℕ
doing_at p k body = entry_at p k body + enter_size (entered_by body)

-- where its way out begins, behind them and the handler
abbrev pub ending_at : CheckedTree → ℕ → BodyRowTree → ℕ
ending_at p k body = doing_at p k body + length (guarded_code (site_in p body) (doing_at p k body))

-- where exceptions are raised again
abbrev pub again_at : CheckedTree → ℕ → BodyRowTree → ℕ
again_at p k body = ending_at p k body + length (end_code body)

abbrev pub raised_in_body : CheckedTree → ℕ → BodyRowTree → List ℕ
raised_in_body p k body = raised_again (site_in p body) (doing_at p k body)

-- the rows of a body
abbrev pub rows_of : CheckedTree → ℕ → BodyRowTree → List Handler
rows_of p k body = guarded_rows (site_in p body) (doing_at p k body) ++ again_rows (entered_by body) (doing_at p k body) (ending_at p k body) (raised_in_body p k body) (again_at p k body)

doing_is : (o : Option ℕ) (site : Site) (at : ℕ)
    → doing_code o site at ≡ enter_code o ++ (guarded_code site (at + enter_size o) ++ (end_code site.body ++ again_code o (raised_again site (at + enter_size o))))
doing_is None site at =
    ap (λ (j : ℕ). guarded_code site j ++ end_code site.body) (let e : at ≡ at + 0 = omega arith in e)
    ∙ ap (λ (is : List Instr). guarded_code site (at + 0) ++ is) (sym (append-nil (end_code site.body)))
doing_is (Some r) site at = refl

doing_rows_are : (o : Option ℕ) (site : Site) (at : ℕ)
    → doing_rows o site at ≡ guarded_rows site (at + enter_size o) ++ again_rows o (at + enter_size o) (at + enter_size o + length (guarded_code site (at + enter_size o))) (raised_again site (at + enter_size o)) (at + enter_size o + length (guarded_code site (at + enter_size o)) + length (end_code site.body))
doing_rows_are None site at = ap (λ (j : ℕ). guarded_rows site j) (let e : at ≡ at + 0 = omega arith in e) ∙ sym (append-nil (guarded_rows site (at + 0)))
doing_rows_are (Some r) site at = refl

enter_long : (o : Option ℕ) → length (enter_code o) ≡ enter_size o
enter_long None = refl
enter_long (Some r) = refl

abbrev behind_guarded : CheckedTree → ℕ → BodyRowTree → List Instr
behind_guarded p k body = end_code body ++ again_code (entered_by body) (raised_in_body p k body)

abbrev behind_enter_code : CheckedTree → ℕ → BodyRowTree → List Instr
behind_enter_code p k body = guarded_code (site_in p body) (doing_at p k body) ++ behind_guarded p k body

code_is : (p : CheckedTree) (k : ℕ) (body : BodyRowTree)
    → body_code (site_in p body) (first_at p p.bodies 0 k) ≡ lowest_code body ++ (enter_code (entered_by body) ++ behind_enter_code p k body)
code_is p k body = ap (λ (is : List Instr). lowest_code body ++ is) (doing_is (entered_by body) (site_in p body) (entry_at p k body))

rows_are : (p : CheckedTree) (k : ℕ) (body : BodyRowTree) → body_handlers (site_in p body) (first_at p p.bodies 0 k) ≡ rows_of p k body
rows_are p k body = doing_rows_are (entered_by body) (site_in p body) (entry_at p k body)

-- how far the body goes
pub again_inside : (p : CheckedTree) (k : ℕ) (body : BodyRowTree)
    → again_at p k body + length (again_code (entered_by body) (raised_in_body p k body)) ≡ first_at p p.bodies 0 k + body_length p body (first_at p p.bodies 0 k)
again_inside p k body =
    let enter : List Instr = enter_code (entered_by body) in
    let inner : List Instr = guarded_code (site_in p body) (doing_at p k body) in
    let again : List Instr = again_code (entered_by body) (raised_in_body p k body) in
    omega (arith, ap (λ (is : List Instr). length is) (code_is p k body), length-append (lowest_code body) (enter ++ behind_enter_code p k body), length-append enter (behind_enter_code p k body), length-append inner (behind_guarded p k body), length-append (end_code body) again, enter_long (entered_by body))

pub ends_inside : (p : CheckedTree) (k : ℕ) (body : BodyRowTree) → ending_at p k body ≤ first_at p p.bodies 0 k + body_length p body (first_at p p.bodies 0 k)
ends_inside p k body = omega (arith, again_inside p k body)

has_body : (p : CheckedTree) (k : ℕ) (body : BodyRowTree) → slice_get p.bodies k ≡ Some body → HasAt (code_of p).instrs (first_at p p.bodies 0 k) (lowest_code body ++ (enter_code (entered_by body) ++ behind_enter_code p k body))
has_body p k body is = subst (λ (is : List Instr). HasAt (code_of p).instrs (first_at p p.bodies 0 k) is) (code_is p k body) (code_there p k body is)

has_entry : (p : CheckedTree) (k : ℕ) (body : BodyRowTree) → slice_get p.bodies k ≡ Some body → HasAt (code_of p).instrs (entry_at p k body) (enter_code (entered_by body) ++ behind_enter_code p k body)
has_entry p k body is = has_back (code_of p).instrs (first_at p p.bodies 0 k) (entry_at p k body) (lowest_code body) (enter_code (entered_by body) ++ behind_enter_code p k body) refl (has_body p k body is)

pub has_enter : (p : CheckedTree) (k : ℕ) (body : BodyRowTree) → slice_get p.bodies k ≡ Some body → HasAt (code_of p).instrs (entry_at p k body) (enter_code (entered_by body))
has_enter p k body is = has_front (code_of p).instrs (entry_at p k body) (enter_code (entered_by body)) (behind_enter_code p k body) (has_entry p k body is)

has_doing : (p : CheckedTree) (k : ℕ) (body : BodyRowTree) → slice_get p.bodies k ≡ Some body → HasAt (code_of p).instrs (doing_at p k body) (behind_enter_code p k body)
has_doing p k body is =
    has_back (code_of p).instrs (entry_at p k body) (doing_at p k body) (enter_code (entered_by body)) (behind_enter_code p k body) (ap (λ (j : ℕ). entry_at p k body + j) (enter_long (entered_by body))) (has_entry p k body is)

pub has_guarded : (p : CheckedTree) (k : ℕ) (body : BodyRowTree) → slice_get p.bodies k ≡ Some body → HasAt (code_of p).instrs (doing_at p k body) (guarded_code (site_in p body) (doing_at p k body))
has_guarded p k body is = has_front (code_of p).instrs (doing_at p k body) (guarded_code (site_in p body) (doing_at p k body)) (behind_guarded p k body) (has_doing p k body is)

has_behind : (p : CheckedTree) (k : ℕ) (body : BodyRowTree) → slice_get p.bodies k ≡ Some body → HasAt (code_of p).instrs (ending_at p k body) (behind_guarded p k body)
has_behind p k body is = has_back (code_of p).instrs (doing_at p k body) (ending_at p k body) (guarded_code (site_in p body) (doing_at p k body)) (behind_guarded p k body) refl (has_doing p k body is)

pub has_ending : (p : CheckedTree) (k : ℕ) (body : BodyRowTree) → slice_get p.bodies k ≡ Some body → HasAt (code_of p).instrs (ending_at p k body) (end_code body)
has_ending p k body is = has_front (code_of p).instrs (ending_at p k body) (end_code body) (again_code (entered_by body) (raised_in_body p k body)) (has_behind p k body is)

pub has_again : (p : CheckedTree) (k : ℕ) (body : BodyRowTree) → slice_get p.bodies k ≡ Some body → HasAt (code_of p).instrs (again_at p k body) (again_code (entered_by body) (raised_in_body p k body))
has_again p k body is = has_back (code_of p).instrs (ending_at p k body) (again_at p k body) (end_code body) (again_code (entered_by body) (raised_in_body p k body)) refl (has_behind p k body is)

-- ---- the items with the handler

-- where a body stands, and what it calls
pub record Stands (p : CheckedTree) (instance n : ℕ) (body : BodyRowTree) (below : List Frame) (regions : List OpenRegion) : Type 0 where
  pub follow : BodiesFollow p (code_of p) instance (body_mean p instance n) (bodies_within p instance n)
  pub entered : EnteredBelow (suc (length below)) regions
  pub closed : body.sort ≡ Outermost → regions ≡ []

abbrev pub calls_of : CheckedTree → ℕ → ℕ → List Frame → OpenCallsWithin
calls_of p instance n below = called_within (bodies_within p instance n) (suc (length below))

abbrev along_of : BodyRowTree → ℕ → Setting → OpenCallsWithin → StatementNodes → Along
along_of body n v c ss store s = statements_within v c n ss store s && where_raises (statements_mean v n ss store s) (handler_within v c n body.handler)

abbrev mean_of : BodyRowTree → ℕ → Setting → StatementNodes → Meaning (Unit {0})
mean_of body n v ss store s = caught (statements_mean v n ss store s) (handler_mean v n body.handler)

pub guarded_acts : (p : CheckedTree) (instance k n : ℕ) (body : BodyRowTree) (below : List Frame) (regions : List OpenRegion) (exit : ℕ) → IsActingBody p k body → Stands p instance n body below regions
    → Acts (around_in p instance k body below regions exit) (doing_at p k body) (ending_at p k body) (guarded_rows (site_in p body) (doing_at p k body)) (ending_at p k body) (comes_to_end body)
    (along_of body (suc n) (setting_in p instance n body below regions) (calls_of p instance n below) (behind_lowest body.statements)) (mean_of body (suc n) (setting_in p instance n body below regions) (behind_lowest body.statements))
guarded_acts p instance k n body below regions exit b stands =
    let w : Around = around_in p instance k body below regions exit in
    let v : Setting = setting_in p instance n body below regions in
    let c : OpenCallsWithin = calls_of p instance n below in
    let st : Standing = standing_in (site_in p body) in
    let ss : StatementNodes = behind_lowest body.statements in
    let from : ℕ = doing_at p k body in
    let items : List Instr = items_of (site_in p body) from in
    let mid : ℕ = from + length items in
    let g : Bool = go_on body.statements in
    let own : List Instr = handler_code st body.handler g mid in
    let size : ℕ = handler_size (site_in p body) body.handler in
    let behind : ℕ = mid + (leave_size g size + size) in
    let until : ℕ = ending_at p k body in
    let whole = whole_of b.good in
    let long : behind ≡ until = omega (arith, length-append items own, handler_length st 0 body.handler g mid whole.handler) in
    let counters = (b.good.compilable.well_made k body b.good.is_body).counters in
    let names : NamesIn w from until = names_inside w (first_at p p.bodies 0 k) (first_at p p.bodies 0 k + body_length p body (first_at p p.bodies 0 k)) from until (omega arith) (ends_inside p k body) (names_there p instance k body below regions exit b.good) in
    let has : HasAt (code_of p).instrs from (items ++ own) = has_guarded p k body b.good.is_body in
    let stand = items_stand p instance k body below regions exit n b.good stands.closed stands.follow stands.entered in
    let acting : RegionsAct ss = holds_behind RegionsAct (λ s rest h. h.1) body.statements b.regions in
    let typed : AreTyped (around_body p body) ss = holds_behind (AreTyped (around_body p body)) (λ s rest h. h.1) body.statements (b.good.compilable.typed.bodies k body b.good.is_body).statements in
    let keeps : statements_keep ss ≡ true = holds_behind (λ rest. statements_keep rest ≡ true) (λ s rest h. (both_true _ _ h).1) body.statements counters.statements in
    let fits : FitsItems (site_in p body) ss = holds_behind (FitsItems (site_in p body)) (λ s rest h. h.1) body.statements whole.statements in
    let first = items_law ss acting keeps w v st (body_mean p instance n) (bodies_within p instance n) (suc n) from stand (names_inside w from until from mid (omega arith) (omega (arith, long)) names) fits typed (has_front (code_of p).instrs from items own has) in
    let moved : Acts w from mid (items_rows st ss from) mid g (statements_within v c (suc n) ss) (statements_mean v (suc n) ss) =
    subst (λ (t : Bool). Acts w from mid (items_rows st ss from) mid t (statements_within v c (suc n) ss) (statements_mean v (suc n) ss)) (goes_behind body.statements) first in
    resized behind until long
    (guarded w v st (body_mean p instance n) (bodies_within p instance n) (suc n) from mid (items_rows st ss from) g (statements_within v c (suc n) ss) (statements_mean v (suc n) ss) body.handler
    stand.stands moved (handler_join looping_law body.handler counters.handler) whole.handler (omega arith) (subst (λ (j : ℕ). NamesIn w from j) (sym long) names)
    (has_back (code_of p).instrs from mid items own refl has))

-- ---- the rows of all bodies

pub again_lie : (from until : ℕ) (xs : List ℕ) (target : ℕ) → LieIn (raise_again_rows from until xs target) from until
again_lie from until [] target = tt
again_lie from until (x ∷ xs) target = (let e : from ≤ from = omega arith in e, let e : until ≤ until = omega arith in e, again_lie from until xs (target + 2))

some_again_lie : (o : Option ℕ) (from until : ℕ) (xs : List ℕ) (target : ℕ) → LieIn (again_rows o from until xs target) from until
some_again_lie None from until xs target = tt
some_again_lie (Some r) from until xs target = again_lie from until xs target

own_lie : (p : CheckedTree) (instance k n : ℕ) (body : BodyRowTree) → IsActingBody p k body → BodiesFollow p (code_of p) instance (body_mean p instance n) (bodies_within p instance n)
    → LieIn (rows_of p k body) (doing_at p k body) (ending_at p k body)
own_lie p instance k n body b follow =
    lie_both (guarded_rows (site_in p body) (doing_at p k body)) (again_rows (entered_by body) (doing_at p k body) (ending_at p k body) (raised_in_body p k body) (again_at p k body)) (doing_at p k body) (ending_at p k body)
    (guarded_acts p instance k n body [] [] 0 b (record { follow = follow; entered = tt; closed = λ e. refl })).lie
    (some_again_lie (entered_by body) (doing_at p k body) (ending_at p k body) (raised_in_body p k body) (again_at p k body))

-- the rows of all bodies lie in them, and those of this one between its places
pub record RowsAre (p : CheckedTree) (k : ℕ) (body : BodyRowTree) : Type 0 where
  pub each : RowsLie p p.bodies 0
  pub own : LieIn (rows_of p k body) (doing_at p k body) (ending_at p k body)

pub rows_lie : (p : CheckedTree) (instance n k : ℕ) (body : BodyRowTree) → ((j : ℕ) (b : BodyRowTree) → slice_get p.bodies j ≡ Some b → IsActingBody p j b) → slice_get p.bodies k ≡ Some body
    → BodiesFollow p (code_of p) instance (body_mean p instance n) (bodies_within p instance n) → RowsAre p k body
rows_lie p instance n k body plain is follow = record { each = each_lies; own = own_lie p instance k n body (plain k body is) follow }
  where
    each_lies : RowsLie p p.bodies 0
    each_lies j c there =
        let first : ℕ = first_at p p.bodies 0 j in
        let inside = ends_inside p j c in
        subst (λ (rows : List Handler). LieIn rows first (first + body_length p c first)) (sym (rows_are p j c))
        (lie_wider (rows_of p j c) (doing_at p j c) (ending_at p j c) first (first + body_length p c first) (omega arith) inside (own_lie p instance j n c (plain j c there) follow))

-- the code's rows take in a body what the body's do
pub taker_inside : (p : CheckedTree) (k : ℕ) (body : BodyRowTree) (place : ℕ) (x : Exc) → slice_get p.bodies k ≡ Some body → RowsAre p k body → doing_at p k body ≤ place → place < first_at p p.bodies 0 k + body_length p body (first_at p p.bodies 0 k)
    → taker (code_of p).handlers place x ≡ taker (rows_of p k body) place x
taker_inside p k body place x is lie low high =
    taker_there p k body place x is lie.each (omega (arith, low)) high ∙ ap (λ (rows : List Handler). taker rows place x) (rows_are p k body)

covered_there : (p : CheckedTree) (instance k : ℕ) (body : BodyRowTree) (below : List Frame) (regions : List OpenRegion) (exit : ℕ) → slice_get p.bodies k ≡ Some body → RowsAre p k body
    → IsCovered (around_in p instance k body below regions exit) (doing_at p k body) (ending_at p k body) (guarded_rows (site_in p body) (doing_at p k body))
covered_there p instance k body below regions exit is lie =
    record {
      at = λ place x row low high taken.
          taker_inside p k body place x is lie low (let e = ends_inside p k body in omega (arith, high, e))
          ∙ taker_left (guarded_rows (site_in p body) (doing_at p k body)) (again_rows (entered_by body) (doing_at p k body) (ending_at p k body) (raised_in_body p k body) (again_at p k body)) place x row taken;
    }

-- ---- the whole body

both_hold : (a b : Bool) → a ≡ true → b ≡ true → (a && b) ≡ true
both_hold true b e f = f
both_hold false b e f = e

-- each value along a body's items keeps within
within_there : (p : CheckedTree) (k n : ℕ) (body : BodyRowTree) (v : Setting) (c : OpenCallsWithin) (ts : List Taken) (s : Session)
    → IsGoodBody p k body → FitTaken body.locals body.parameters ts
    → inside_within body n v c (first_store body ts) s ≡ true
    → along_of body n v c (behind_lowest body.statements) (first_store body ts) s ≡ true
within_there p k n body v c ts s good fit inside =
    let store : Store = first_store body ts in
    let typed = good.compilable.typed.bodies k body good.is_body in
    let declared = (good.compilable.well_made k body good.is_body).declared in
    let both = both_true (statements_within v c n body.statements store s) (where_raises (statements_mean v n body.statements store s) (handler_within v c n body.handler)) inside in
    let skips = skips_run p k body v n ts s typed declared fit in
    both_hold (statements_within v c n (behind_lowest body.statements) store s) (where_raises (statements_mean v n (behind_lowest body.statements) store s) (handler_within v c n body.handler))
    (within_behind p k body v c n ts body.statements s typed typed.statements declared fit both.0)
    (subst (λ (o : Flow (Unit {0})). where_raises o (handler_within v c n body.handler) ≡ true) skips both.1)

small_result : (o : Option ModeTree) → scalars_of_result o ≤ 4097
small_result None = omega arith
small_result (Some m) = omega arith

-- the machine comes from a body's first instruction behind the lowest values
pub begins_there : (p : CheckedTree) (instance k : ℕ) (body : BodyRowTree) (below : List Frame) (regions : List OpenRegion) (ts : List Taken) (s : Session)
    → IsGoodBody p k body → FitTaken body.locals body.parameters ts
    → Arrives (around_in p instance k body below regions 0) (in_frame_of instance k (around_in p instance k body below regions 0).row (taken_scalars body.locals ts) below regions s) (entry_at p k body) [] (Holds (around_in p instance k body below regions 0) (first_store body ts)) s
begins_there p instance k body below regions ts s good fit =
    let w : Around = around_in p instance k body below regions 0 in
    let first : ℕ = first_at p p.bodies 0 k in
    let whole = whole_of good in
    let small : scalars_of_result body.result ≤ 4097 = small_result body.result in
    let same = whole.result in
    begins_run w body ts first s (frame_stands p instance k body below regions 0 good) whole.parameters whole.locals (omega (arith, small, same)) fit
    (has_front (code_of p).instrs first (lowest_code body) (enter_code (entered_by body) ++ behind_enter_code p k body) (has_body p k body good.is_body))

-- frames hold what they hold, whatever is open and wherever an EXIT leads
pub held_there : (p : CheckedTree) (instance k : ℕ) (body : BodyRowTree) (below : List Frame) (regions others : List OpenRegion) (exit to : ℕ) (store : Store) (locals : List ℤ)
    → Holds (around_in p instance k body below regions exit) store locals → Holds (around_in p instance k body below others to) store locals
held_there p instance k body below regions others exit to store locals h = record { rest = h.rest; is = h.is; fit = h.fit; result = h.result; long = h.long }

-- the machine follows the outcome of a body's items and handler, wherever an EXIT may lead
pub record FollowsBody (p : CheckedTree) (instance k : ℕ) (body : BodyRowTree) (below : List Frame) (regions : List OpenRegion) (m : Run) (o : Flow (Unit {0})) : Type 0 where
  pub by : (exit : ℕ) → Does (around_in p instance k body below regions exit) m (doing_at p k body) (ending_at p k body) (guarded_rows (site_in p body) (doing_at p k body)) (ending_at p k body) o
  pub comes : (store : Store) (s : Session) → o ≡ Goes tt store s → comes_to_end body ≡ true

-- so it does from the first of them on
pub doing_runs : (p : CheckedTree) (instance k n : ℕ) (body : BodyRowTree) (below : List Frame) (regions : List OpenRegion) (ts : List Taken) (locals : List ℤ) (m : Run) (s : Session)
    → IsActingBody p k body → Stands p instance n body below regions → RowsAre p k body → FitTaken body.locals body.parameters ts
    → inside_within body (suc n) (setting_in p instance n body below regions) (calls_of p instance n below) (first_store body ts) s ≡ true
    → Holds (around_in p instance k body below regions 0) (first_store body ts) locals
    → GetsTo (code_of p) m (here (around_in p instance k body below regions 0) (doing_at p k body) [] locals s)
    → FollowsBody p instance k body below regions m (inside_of body (suc n) (setting_in p instance n body below regions) (first_store body ts) s)
doing_runs p instance k n body below regions ts locals m s b stands lie fit within h by = record { by = follows; comes = control_comes }
  where
    v : Setting
    v = setting_in p instance n body below regions

    skips : statements_mean v (suc n) body.statements (first_store body ts) s ≡ statements_mean v (suc n) (behind_lowest body.statements) (first_store body ts) s
    skips = skips_run p k body v (suc n) ts s (b.good.compilable.typed.bodies k body b.good.is_body) (b.good.compilable.well_made k body b.good.is_body).declared fit

    follows : (exit : ℕ) → Does (around_in p instance k body below regions exit) m (doing_at p k body) (ending_at p k body) (guarded_rows (site_in p body) (doing_at p k body)) (ending_at p k body) (inside_of body (suc n) v (first_store body ts) s)
    follows exit =
        let w : Around = around_in p instance k body below regions exit in
        let acts = guarded_acts p instance k n body below regions exit b stands in
        let done = acts.follows (covered_there p instance k body below regions exit b.good.is_body lie) (first_store body ts) s locals (within_there p k (suc n) body v (calls_of p instance n below) ts s b.good fit within) (held_there p instance k body below regions regions 0 exit (first_store body ts) locals h) in
        after by
        (subst (λ (o : Flow (Unit {0})). Does w (here w (doing_at p k body) [] locals s) (doing_at p k body) (ending_at p k body) (guarded_rows (site_in p body) (doing_at p k body)) (ending_at p k body) (caught o (handler_mean v (suc n) body.handler)))
        (sym skips) done)

    control_comes : (store1 : Store) (s1 : Session) → inside_of body (suc n) v (first_store body ts) s ≡ Goes tt store1 s1 → comes_to_end body ≡ true
    control_comes store1 s1 goes =
        (guarded_acts p instance k n body below regions 0 b stands).comes (first_store body ts) store1 s s1 (ap (λ (o : Flow (Unit {0})). caught o (handler_mean v (suc n) body.handler)) (sym skips) ∙ goes)
