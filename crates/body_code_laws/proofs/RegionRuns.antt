-- The initialisations of a region with their handler.
use Rattle.std.proofs.Common.{◌≡◌, ℕ, zero, suc, ◌+◌, ◌*◌, ◌<◌, ◌≤◌, if◌then◌else◌, Bool, true, false, ◌&&◌, ◌||◌, List, [], ◌∷◌, ◌++◌, ℤ, length, Option, Some, None, slice_get, ◌==◌, eqb-true, eq-eqb, ltb-true, inl, inr, refl, sym, ap, ◌∙◌, subst, arith, length-append, append_assoc}
use Rattle.kernel_base.specs.declared.ends.Exc.{Exc}
use Rattle.kernel_base.specs.declared.request.Request.TheVariants.{Enter}
use Rattle.world_model.specs.Session.{Session}
use Rattle.checked_program.specs.declared.program.Sort.{Sort}
use Rattle.checked_program.specs.declared.program.Sort.TheVariants.{Outermost, Procedure}
use Rattle.program_trees.specs.ProgramTree.{BodyRowTree, CheckedTree}
use Rattle.program_trees.specs.StatementTree.{statement, region_at, StatementNodes, HandlerNode}
use Rattle.code_types.specs.declared.instr.Instr.{Instr}
use Rattle.code_types.specs.declared.instr.Instr.TheVariants as i
use Rattle.code_types.specs.declared.code.Code.{Code}
use Rattle.code_types.specs.declared.code.Handler.{Handler}
use Rattle.code_types.specs.Exceptions.{exception_number, exception_of}
use Rattle.code_types.specs.Places.{listed_of, names_exception, taker}
use Rattle.code_types.specs.Actions.{is_open as is_open_there}
use Rattle.code_types.specs.State.{OpenRegion}
use Rattle.code_types.specs.Steps.{Run}
use Rattle.source_meaning.specs.Store.{Store}
use Rattle.source_meaning.specs.Flow.{Flow, Goes, Raised, Exits, Returned, Stops, Gone, Bound, Meaning, then_do, done}
use Rattle.source_meaning.specs.ExprMeaning.{Setting}
use Rattle.source_meaning.specs.StatementMeaning.{then_leave, is_open, opened, caught, handler_mean, statement_mean, statements_mean}
use Rattle.code_scheme.specs.StatementSite.{Standing}
use Rattle.code_scheme.specs.StatementGoing.{goes_on, handler_goes_on, leave_size}
use Rattle.code_scheme.specs.StatementSize.{statements_size, handler_size}
use Rattle.code_scheme.specs.StatementCode.{statements_code, handler_code}
use Rattle.code_scheme.specs.StatementRows.{statements_rows, handler_rows}
use Rattle.code_scheme.specs.BodyItems.{listed_in, raised_in, raise_again_code, raise_again_rows, initialising_code, releasing_code, region_code, region_rows}
use Rattle.code_scheme.specs.BodyCode.{code_of}
use Rattle.follow_laws.specs.Follows.{HasAt, Around, here, Holds, CanArise, RaisesIn, ComesBy, always, no_stack, HoldsWith, Nothing, Does}
use Rattle.follow_laws.specs.Parts.{IsCovered}
use Rattle.follow_laws.proofs.Running.{has_front, has_back, stays, gets_then, after}
use Rattle.follow_laws.proofs.Instructions.{jumps_by, renamed}
use Rattle.follow_laws.proofs.HandledRuns.{taker_right, taker_left, lands}
use Rattle.code_laws.specs.OwnBounds.{where_goes}
use Rattle.code_laws.specs.Calls.{open_in}
use Rattle.code_laws.specs.Expressions.{NamesIn}
use Rattle.code_laws.specs.Regions.{IsRaisedAgain}
use Rattle.code_laws.specs.StatementBounds.{Along, where_raises, statement_within, statements_within, handler_within}
use Rattle.code_laws.specs.StatementsInRange.{FitsStatements, FitsHandler, FitsProgram}
use Rattle.code_laws.specs.Statements.{StandsAs, calls_from}
use Rattle.code_laws.proofs.RaisedAgain.{raised_again as raised_again_law}
use Rattle.statement_code_laws.specs.Parts.{LieIn, Acts}
use Rattle.statement_code_laws.proofs.Lengths.{statements_length, handler_length}
use Rattle.statement_code_laws.proofs.Joining.{untaken_behind, lie_wider, lie_both}
use Rattle.statement_code_laws.proofs.ChoiceRuns.{names_inside}
use Rattle.statement_code_laws.proofs.StatementRuns.{looping_law, statements_join, handler_join}
use Rattle.body_code_laws.specs.Items.{InitialisationsLaw}
use Rattle.body_code_laws.specs.Initialisations.{RaisesKnown, InitialisationsJoined}
use Rattle.body_code_laws.proofs.GuardedRuns.{resized, guarded}
use Rattle.body_code_laws.proofs.NoExits.{one_place}
use Rattle.body_code_laws.proofs.BodyRuns.{again_lie}
use Rattle.body_code_laws.proofs.NeverReturns.{returns_never}
use Rattle.body_code_laws.proofs.RegionSteps.{opened_by, entered_in, open_more, entered_too, enter_comes, leave_comes}
use Rattle.body_code_laws.proofs.RaisingAgain.{number_there, listed_there, listed_same, target_behind, raise_run}

again_long : (r : ℕ) (xs : List ℕ) → length (raise_again_code r xs) ≡ 2 * length xs
again_long r [] = refl
again_long r (x ∷ xs) = omega (arith, again_long r xs)

region_goes : (t : Bool) (r : ℕ) (ss : StatementNodes) (h : HandlerNode) → true ≡ goes_on (statement t (region_at r ss) h)
region_goes true r ss h = refl
region_goes false r ss h = refl

-- an instruction that stands among some others
found_among : (all : List Instr) (at place : ℕ) (is : List Instr) (instr : Instr) → HasAt all at is → at ≤ place → place < at + length is → slice_get all place ≡ Some instr → (k : ℕ) × (slice_get is k ≡ Some instr)
found_among all at place [] instr has low high e = absurd (let no : ⊥ = omega (arith, low, high) in no)
found_among all at place (j ∷ is) instr has low high e = by_place (at == place) refl (λ above. found_among all (at + 1) place is instr has.1 above (omega (arith, high)) e)
  where
    by_place : (t : Bool) → (at == place) ≡ t → (at + 1 ≤ place → (k : ℕ) × (slice_get is k ≡ Some instr)) → (k : ℕ) × (slice_get (j ∷ is) k ≡ Some instr)
    by_place true is_there others =
        let same : at ≡ place = eqb-true at place is_there in
        (0, sym has.0 ∙ (ap (λ (q : ℕ). slice_get all q) same ∙ e))
    by_place false is_there others =
        let other : at ≡ place → ⊥ = λ same. (let alike : (at == place) ≡ true = eq-eqb at place same in let no : ⊥ = cc in no) in
        let rest = others (omega (arith, low, other)) in
        (suc rest.0, rest.1)

number_back : (e : ℕ) → exception_number (exception_of e) ≡ e
number_back zero = refl
number_back (suc zero) = refl
number_back (suc (suc zero)) = refl
number_back (suc (suc (suc zero))) = refl
number_back (suc (suc (suc (suc zero)))) = refl
number_back (suc (suc (suc (suc (suc zero))))) = refl
number_back (suc (suc (suc (suc (suc (suc zero)))))) = refl
number_back (suc (suc (suc (suc (suc (suc (suc k))))))) = omega arith

-- what can arise in initialisations is an exception of the program
known_there : (w : Around) (st : Standing) (ss : StatementNodes) (h : HandlerNode) (at place : ℕ) (x : Exc) → RaisesKnown → st.exits ≡ [] → FitsStatements st.site 0 ss → FitsHandler st.site 0 h → FitsProgram st.site.program → w.code ≡ code_of st.site.program
    → HasAt w.code.instrs at (initialising_code st ss h at) → at ≤ place → place < at + length (initialising_code st ss h at) → CanArise w.code place x → exception_number x < 7 + length st.site.program.exceptions
known_there w st ss h at place x known unlabelled fits fits_h program code has low high (inl language) = let below = ltb-true (exception_number x) 7 language in omega (arith, below)
known_there w st ss h at place x known unlabelled fits fits_h program code has low high (inr (inl (e, raises, same))) =
    let found = found_among w.code.instrs at place (initialising_code st ss h at) (i.Raise e) has low high raises in
    subst (λ (k : ℕ). k < 7 + length st.site.program.exceptions) (sym (number_back e) ∙ ap exception_number same) (known st ss h at found.0 e unlabelled fits fits_h found.1)
known_there w st ss h at place x known unlabelled fits fits_h program code has low high (inr (inr (b, calls, names))) =
    by_body (slice_get st.site.program.bodies b) refl (sym (ap (λ (l : List ℕ). names_exception l x) (ap (λ (c : Code). listed_of (slice_get c.bodies b)) code ∙ listed_same st.site.program st.site.program.bodies 0 b)) ∙ names)
  where
    by_body : (o : Option BodyRowTree) → slice_get st.site.program.bodies b ≡ o → names_exception (listed_in o) x ≡ true → exception_number x < 7 + length st.site.program.exceptions
    by_body None is names1 = absurd (let no : ⊥ = cc in no)
    by_body (Some c) is names1 = listed_there st.site.program c.listed x (program.bodies b c is).listed names1

never_both : (t : Bool) → t ≡ true → t ≡ false → ⊥
never_both t e f = let no : ⊥ = cc in no

no_procedure : (sort : Sort) → sort ≡ Outermost → sort ≡ Procedure → ⊥
no_procedure sort e f = let no : ⊥ = cc in no

-- ---- the law

region_act : RaisesKnown → InitialisationsLaw
region_act known t r ss h keeps keeps_h w v st bodies inside n from stands names fits typed has =
    subst (λ (g : Bool). Acts w from behind rows behind g (statement_within v (calls_from inside w) n (statement t (region_at r ss) h)) (statement_mean v n (statement t (region_at r ss) h))) (region_goes t r ss h)
    (record { lie = lies; comes = λ store store1 s s1 e. refl; follows = follows })
  where
    p : CheckedTree
    p = st.site.program

    at : ℕ
    at = from + 1

    init : List Instr
    init = initialising_code st ss h at

    mid : ℕ
    mid = at + statements_size st.site ss

    end : ℕ
    end = at + length init

    xs : List ℕ
    xs = raised_in p init

    target : ℕ
    target = end + 2

    behind : ℕ
    behind = from + length (region_code st r ss h from)

    first_rows : List Handler
    first_rows = statements_rows st.site ss at

    own_rows_of : List Handler
    own_rows_of = handler_rows st.site h true at mid

    inner_rows : List Handler
    inner_rows = first_rows ++ own_rows_of

    again : List Handler
    again = raise_again_rows at end xs target

    rows : List Handler
    rows = region_rows st r ss h from

    rows_is : inner_rows ++ again ≡ rows
    rows_is = append_assoc first_rows own_rows_of again

    long : behind ≡ end + (2 * length xs + 2)
    long = omega (arith, length-append init (releasing_code p r init end), again_long r xs)

    has_init : HasAt w.code.instrs at init
    has_init = has_front w.code.instrs at init (releasing_code p r init end) has.1

    has_release : HasAt w.code.instrs end (releasing_code p r init end)
    has_release = has_back w.code.instrs at end init (releasing_code p r init end) refl has.1

    has_again : HasAt w.code.instrs target (raise_again_code r xs)
    has_again = subst (λ (j : ℕ). HasAt w.code.instrs j (raise_again_code r xs)) (let e : end + 1 + 1 ≡ end + 2 = omega arith in e) has_release.1.1

    -- inside the region, where an EXIT leads to a place
    inner : ℕ → Around
    inner exit = record (entered_in w r) { exits = λ k. exit }

    v2 : Setting
    v2 = opened v r

    closed : w.regions ≡ []
    closed = stands.closed typed.0.outermost

    inner_stands : (exit : ℕ) → StandsAs (inner exit) v2 st bodies inside
    inner_stands exit =
        let s = stands.stands in
        record {
          suited = record {
            instance = s.suited.instance;
            rows = s.suited.rows;
            open_now = ap (λ (l : List ℕ). l ++ r ∷ []) s.suited.open_now ∙ sym (open_more w.regions (opened_by w r));
            calls = s.suited.calls;
            follow = s.suited.follow;
            entered = entered_too (suc (length w.below)) w.regions (opened_by w r) s.suited.entered (omega arith);
          };
          rows = s.rows;
          free = s.free;
          results = s.results;
          exits = λ k low. absurd (let none : length st.exits ≡ 0 = ap length stands.unlabelled in let no : ⊥ = omega (arith, low, none) in no);
          way_out = s.way_out;
        }

    along : Along
    along store s = statements_within v2 (calls_from inside w) n ss store s && where_raises (statements_mean v2 n ss store s) (handler_within v2 (calls_from inside w) n h)

    mean : Meaning (Unit {0})
    mean store s = caught (statements_mean v2 n ss store s) (handler_mean v2 n h)

    inner_acts : (exit : ℕ) → Acts (inner exit) at end inner_rows end (true || handler_goes_on h) along mean
    inner_acts exit =
        let size : ℕ = handler_size st.site h in
        let until : ℕ = mid + (leave_size true size + size) in
        let code : List Instr = statements_code st ss at in
        let own : List Instr = handler_code st h true mid in
        let code_long : length code ≡ statements_size st.site ss = statements_length st 0 ss at fits.0 in
        let same : until ≡ end = omega (arith, length-append code own, code_long, handler_length st 0 h true mid fits.1) in
        let names1 : NamesIn (inner exit) at until = λ place instr low high e. names place instr (omega arith) (omega (arith, long)) e in
        let none : 0 ≡ length st.exits = sym (ap length stands.unlabelled) in
        let fits_s : FitsStatements st.site (length st.exits) ss = subst (λ (k : ℕ). FitsStatements st.site k ss) none fits.0 in
        let fits_h : FitsHandler st.site (length st.exits) h = subst (λ (k : ℕ). FitsHandler st.site k h) none fits.1 in
        let first = statements_join looping_law ss keeps (inner exit) v2 st bodies inside n at (inner_stands exit) (names_inside (inner exit) at until at mid (omega arith) (omega arith) names1) fits_s (has_front w.code.instrs at code own has_init) in
        resized until end same
        (guarded (inner exit) v2 st bodies inside n at mid first_rows true (statements_within v2 (calls_from inside w) n ss) (statements_mean v2 n ss) h (inner_stands exit)
        (record { lie = first.lie; comes = λ store store1 s s1 e. refl; follows = first.follows }) (handler_join looping_law h keeps_h) fits_h (omega arith) names1
        (has_back w.code.instrs at mid code own (ap (λ (j : ℕ). at + j) code_long) has_init))

    inner_lie : LieIn (inner_rows ++ again) at end
    inner_lie = lie_both inner_rows again at end (inner_acts 0).lie (again_lie at end xs target)

    lies : LieIn rows from behind
    lies = subst (λ (hs : List Handler). LieIn hs from behind) rows_is (lie_wider (inner_rows ++ again) at end from behind (omega arith) (omega (arith, long)) inner_lie)

    hold : (exit : ℕ) (store : Store) (locals : List ℤ) → Holds w store locals → Holds (inner exit) store locals
    hold exit store locals q = record { rest = q.rest; is = q.is; fit = q.fit; result = q.result; long = q.long }

    unhold : (store : Store) (locals : List ℤ) → Holds (inner 0) store locals → Holds w store locals
    unhold store locals q = record { rest = q.rest; is = q.is; fit = q.fit; result = q.result; long = q.long }

    inner_covered : (exit : ℕ) → IsCovered w from behind rows → IsCovered (inner exit) at end inner_rows
    inner_covered exit covered =
        record {
          at = λ place x row low high taken.
              covered.at place x row (omega arith) (omega (arith, high, long)) (ap (λ (hs : List Handler). taker hs place x) (sym rows_is) ∙ taker_left inner_rows again place x row taken);
        }

    -- what is raised in the region leaves it and is raised again
    raised_out : IsCovered w from behind rows → (m : Run) (x : Exc) (store : Store) (s : Session) → RaisesIn (inner 0) m at end inner_rows x store s → Does w m from behind rows behind (then_leave r (Raised x store s))
    raised_out covered m x store s f =
        let a : IsRaisedAgain w.code again r f.place x =
        raised_again_law.initialising p w.code init r at target f.place x
        (record {
          has = has_init;
          low = f.from;
          high = f.until;
          listed = λ b. ap (λ (c : Code). listed_of (slice_get c.bodies b)) stands.code ∙ listed_same p p.bodies 0 b;
          arises = f.arises;
          there = known_there w st ss h at f.place x known stands.unlabelled fits.0 fits.1 stands.compilable.in_range stands.code has_init f.from f.until f.arises;
        }) has_again in
        let row : Handler = a.row in
        let bounds = target_behind r at end xs target f.place x row a.taken in
        let high = f.until in
        let taken : taker w.code.handlers f.place x ≡ Some row =
        covered.at f.place x row (let low = f.from in omega (arith, low)) (omega (arith, high, long)) (ap (λ (hs : List Handler). taker hs f.place x) (sym rows_is) ∙ (taker_right inner_rows again f.place x f.untaken ∙ a.taken)) in
        let held : Holds w store f.locals = unhold store f.locals f.holds in
        leave_comes w r row.target f.locals m store s (λ o. Does w m from behind rows behind (then_do o (λ z. Raised x))) a.leaves held
        (gets_then f.by (lands (inner 0) f.place f.stack f.locals x row s taken a.low))
        (λ u stop. record { by = stop })
        (λ s1 gone.
        record {
          by = record {
            place = row.target + 1;
            stack = [];
            locals = f.locals;
            from = omega (arith, bounds.0);
            until = omega (arith, bounds.1, long, again_long r xs);
            untaken = ap (λ (hs : List Handler). taker hs (row.target + 1) x) (sym rows_is) ∙ untaken_behind (inner_rows ++ again) at end (row.target + 1) x inner_lie (omega (arith, bounds.0));
            arises = inr (inl (exception_number x, a.raises, number_there x));
            holds = held;
            by = gets_then gone (raise_run w x (row.target + 1) f.locals s1 a.raises);
          };
        })

    by_outcome : IsCovered w from behind rows → (m : Run) (store : Store) (s : Session) (o : Flow (Unit {0})) → mean store s ≡ o → ((exit : ℕ) → ComesBy (inner exit) m at end inner_rows (always end) no_stack (HoldsWith (inner exit) Nothing) o) → Does w m from behind rows behind (then_leave r o)
    by_outcome covered m store s (Goes tt store1 s1) is f =
        let came = f 0 in
        let held : Holds w store1 came.locals = unhold store1 came.locals came.holds.1 in
        leave_comes w r end came.locals m store1 s1 (λ o. Does w m from behind rows behind o) has_release.0 held came.by (λ u stop. record { by = stop })
        (λ s2 gone.
        record {
          by = record {
            locals = came.locals;
            holds = (tt, held);
            by = gets_then gone (gets_then (jumps_by w (i.Jump (end + (2 * length xs + 2))) (end + 1) [] [] came.locals s2 (end + (2 * length xs + 2)) has_release.1.0 refl refl) (renamed w (end + (2 * length xs + 2)) behind [] [] came.locals s2 (sym long) refl));
          };
        })
    by_outcome covered m store s (Raised x store1 s1) is f = raised_out covered m x store1 s1 (f 0)
    by_outcome covered m store s (Exits k store1 s1) is f =
        let code_end : ℕ = length w.code.instrs in
        let same : code_end ≡ suc code_end = one_place (inner 0) m code_end (suc code_end) (f code_end).locals (f (suc code_end)).locals s1 s1 (omega arith) (omega arith) (f code_end).by (f (suc code_end)).by in
        absurd (let no : ⊥ = omega (arith, same) in no)
    by_outcome covered m store s (Returned store1 s1) is f =
        absurd (returns_never p bodies (suc (length w.below)) _ v2 n ss h store store1 s s1 stands.stands.suited.calls (λ e. no_procedure _ typed.0.outermost e) typed.1.1 typed.2.1 is)
    by_outcome covered m store s (Stops u calls store1) is f = let stop = f 0 in record { by = record { state = stop.state; front = stop.front; frames = stop.frames; are = stop.are; by = stop.by } }
    by_outcome covered m store s (Gone u) is f = let gone = f 0 in record { by = record { state = gone.state; none = gone.none; by = gone.by } }
    by_outcome covered m store s Bound is f = record { by = tt }

    follows : IsCovered w from behind rows → (store : Store) (s : Session) (locals : List ℤ) → statement_within v (calls_from inside w) n (statement t (region_at r ss) h) store s ≡ true → Holds w store locals
        → Does w (here w from [] locals s) from behind rows behind (statement_mean v n (statement t (region_at r ss) h) store s)
    follows covered store s locals within q = by_open (is_open r v.open_now) refl within
      where
        m : Run
        m = here w from [] locals s

        none_open : is_open r v.open_now ≡ false
        none_open = ap (λ (l : List ℕ). is_open r l) (stands.stands.suited.open_now ∙ ap (λ (qs : List OpenRegion). open_in qs) closed)

        by_open : (u : Bool) → is_open r v.open_now ≡ u
            → (if u then (statements_within v (calls_from inside w) n ss store s && where_raises (statements_mean v n ss store s) (handler_within v (calls_from inside w) n h)) else where_goes (done (Enter r) store s) (λ z. along)) ≡ true
            → Does w m from behind rows behind (if u then caught (statements_mean v n ss store s) (handler_mean v n h) else then_do (done (Enter r) store s) (λ z store1 s1. then_leave r (mean store1 s1)))
        by_open true is inside1 = absurd (never_both (is_open r v.open_now) is none_open)
        by_open false is inside1 =
            enter_comes w r from locals m store s (λ o. where_goes o (λ z. along) ≡ true → Does w m from behind rows behind (then_do o (λ z store1 s1. then_leave r (mean store1 s1))))
            has.0 (ap (λ (qs : List OpenRegion). is_open_there r qs) closed) q (stays w.code m) (λ u stop inside2. record { by = stop })
            (λ s1 gone inside2.
            by_outcome covered m store s1 (mean store s1) refl
            (λ exit. (after {w = inner exit} gone ((inner_acts exit).follows (inner_covered exit covered) store s1 locals inside2 (hold exit store locals q))).by)) inside1

pub initialisations_joined : InitialisationsJoined
initialisations_joined known = region_act known
