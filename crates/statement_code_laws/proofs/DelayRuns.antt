-- DELAY CASE: the wait, and the alternative that is chosen.
use Rattle.std.proofs.Common.{◌≡◌, ℕ, zero, suc, ◌+◌, ◌*◌, ◌<◌, ◌≤◌, if◌then◌else◌, nat_le, le-leb, int_le, Bool, true, false, ◌&&◌, List, [], ◌∷◌, ◌++◌, ℤ, pos, length, Option, Some, All, refl, sym, ap, ◌∙◌, subst, arith, append_assoc, append-nil, length-append, ◌⊎◌, inl, inr}
use Rattle.std.proofs.lemmas.Int.{ints}
use Rattle.std.proofs.lemmas.List.Elements.{All-head, All-tail}
use Rattle.kernel_base.specs.declared.request.Alternative.{Alternative}
use Rattle.kernel_base.specs.declared.request.Request.{Request}
use Rattle.kernel_base.specs.declared.request.Request.TheVariants.{Delay}
use Rattle.kernel_base.specs.declared.answer.Answer.{Answer}
use Rattle.kernel_base.specs.declared.answer.Answer.TheVariants.{Value, Done, Woken, Got, Otherwise, Instance, Fail, Chose, Handed, Stored}
use Rattle.world_model.specs.Session.{Session}
use Rattle.world_model.specs.Lists.{with_scalars}
use Rattle.scalar_operators.specs.Numbers.{same_numbers}
use Rattle.program_trees.specs.ExprTree.{LocationTree}
use Rattle.program_trees.specs.StatementTree.{StatementNodes, DelayNodes, no_delays, more_delays, delay_case}
use Rattle.code_types.specs.declared.instr.Instr.{Instr}
use Rattle.code_types.specs.declared.instr.Instr.TheVariants as i
use Rattle.code_types.specs.declared.code.Handler.{Handler}
use Rattle.code_types.specs.Operands.{number_in, pairs_of, with_first, alternative_in}
use Rattle.code_types.specs.Actions.{Sets, Halts, in_frame, delays}
use Rattle.code_types.specs.Answers.{goes_on, pushed_by}
use Rattle.code_types.specs.State.{Asking}
use Rattle.code_types.specs.Steps.{At}
use Rattle.source_meaning.specs.Store.{Store, Address}
use Rattle.source_meaning.specs.Flow.{Flow, Goes, Raised, Exits, Returned, Stops, Gone, Bound, then_do, asked, takes_answer}
use Rattle.source_meaning.specs.Operators.{one, truth}
use Rattle.source_meaning.specs.ExprMeaning.{Setting}
use Rattle.source_meaning.specs.StatementMeaning.{skip, set_to, set_address, pairs_with, delay_pairs, woken_as, behind_wait, statements_mean, delay_mean}
use Rattle.source_meaning.specs.BodyMeaning.{Bodies}
use Rattle.code_scheme.specs.Pieces.{Layout}
use Rattle.code_scheme.specs.StatementSite.{Site, Standing, layout}
use Rattle.code_scheme.specs.StatementGoing.{go_on}
use Rattle.code_scheme.specs.StatementWaits.{set_place_code, set_place_size, set_kept, chosen_in, set_code, events_code, all_events_code, count_of_events, delay_wait_code, delay_wait_size, is_chosen_code}
use Rattle.code_scheme.specs.StatementSize.{statements_size, delays_size}
use Rattle.code_scheme.specs.StatementCode.{next_place, delays_code}
use Rattle.code_scheme.specs.StatementRows.{delays_rows}
use Rattle.follow_laws.specs.Follows.{HasAt, scalars_in, Around, free_in, keeping, frame_at, state_at, here, Holds, GetsTo, Follows, always, Does}
use Rattle.follow_laws.specs.Parts.{IsCovered}
use Rattle.code_laws.specs.BodyBounds.{BodiesWithin}
use Rattle.code_laws.specs.OwnBounds.{where_goes}
use Rattle.code_laws.specs.InRange.{IsNumber32}
use Rattle.code_laws.specs.Expressions.{NamesIn}
use Rattle.follow_laws.proofs.Running.{has_front, has_back, gets_then, after, follows_then_is, comes, forgotten, forgetting}
use Rattle.follow_laws.proofs.Requesting.{IsNoFailure, asks_by}
use Rattle.follow_laws.proofs.Holding.{HasPart, IsSet, scratch_set, kept_read}
use Rattle.follow_laws.proofs.Instructions.{puts_on, sets_by, pushes_by, renamed}
use Rattle.code_laws.proofs.Values.{both_true}
use Rattle.code_laws.proofs.ExprPieces.{there}
use Rattle.code_laws.proofs.ReceiveRuns.{thing_is}
use Rattle.code_laws.specs.StatementBounds.{nothing_within, behind_wait_within, statements_within, delays_within}
use Rattle.code_laws.specs.StatementsInRange.{FitsDelays, count_of_delays}
use Rattle.code_laws.specs.Statements.{StandsAs, calls_from}
use Rattle.statement_code_laws.specs.Actions.{ActionActs}
use Rattle.statement_code_laws.specs.StatementForms.{StatementsAct}
use Rattle.statement_code_laws.proofs.Lengths.{set_place_length, events_length, all_events_length, delay_wait_length}
use Rattle.statement_code_laws.proofs.Joining.{lie_wider, Embeds, embeds_before, embedded, covered_inside}
use Rattle.statement_code_laws.proofs.ChoiceRuns.{names_inside}
use Rattle.statement_code_laws.proofs.SelectRuns.{Selects, IsFirst, IsOther, alternative_acts}
use Rattle.statement_code_laws.proofs.SetRuns.{IsKept, KeepsPlace, kept_long, set_place_runs, set_runs}

-- ---- the alternatives

-- the number of an alternative, where those before it are so many
abbrev pub number_from : ℕ → ℕ → ℤ
number_from j m = pos (j + m)

-- whether the alternative of a number is the one that is kept
abbrev pub is_number_of : ℕ → ℤ → Bool
is_number_of j z = same_numbers (one z) (one (pos j))

pub chosen_run : (w : Around) (kept j : ℕ) (z : ℤ) (at : ℕ) (s : Session) (locals : List ℤ) → HasPart locals kept 1 (one z) → HasAt w.code.instrs at (is_chosen_code kept j)
    → GetsTo w.code (here w at [] locals s) (here w (at + 3) (truth (is_number_of j z)) locals s)
chosen_run w kept j z at s locals part has =
    gets_then (puts_on w (i.Local kept 1) at [] locals s (one z) has.0 refl (ap in_frame part.is))
    (gets_then (puts_on w (i.Push (pos j)) (at + 1) (one z) locals s (one (pos j)) has.1.0 refl refl)
    (gets_then (pushes_by w (i.Same 1) (at + 1 + 1) [] (z ∷ pos j ∷ []) locals s (truth (is_number_of j z)) has.1.1.0 refl refl)
    (renamed w (at + 1 + 1 + 1) (at + 3) (truth (is_number_of j z)) (truth (is_number_of j z)) locals s (omega arith) refl)))

pub is_first_number : (j : ℕ) → is_number_of j (number_from j 0) ≡ true
is_first_number j =
    let le : int_le (pos (j + 0)) (pos j) ≡ true = le-leb (j + 0) j (omega arith) in
    let ge : int_le (pos j) (pos (j + 0)) ≡ true = le-leb j (j + 0) (omega arith) in
    ap (λ (t : Bool). (t && int_le (pos j) (pos (j + 0))) && true) le ∙ ap (λ (t : Bool). t && true) ge

pub is_later_number : (j m : ℕ) → is_number_of j (number_from j (suc m)) ≡ false
is_later_number j m = by_test (int_le (pos (j + suc m)) (pos j)) refl
  where
    by_test : (t : Bool) → int_le (pos (j + suc m)) (pos j) ≡ t → is_number_of j (number_from j (suc m)) ≡ false
    by_test true e = absurd (let no : ⊥ = omega (arith, ints, e) in no)
    by_test false e = ap (λ (t : Bool). (t && int_le (pos j) (pos (j + suc m))) && true) e

pub later_same : (j m : ℕ) → number_from (suc j) m ≡ number_from j (suc m)
later_same j m = ap (λ (k : ℕ). pos k) (let e : suc j + m ≡ j + suc m = omega arith in e)

-- each alternative may be chosen
abbrev pub any_alternative : ℕ → Type 0
any_alternative m = Unit {0}

abbrev pub DelaysAct : DelayNodes → Type 0
DelaysAct ds = (w : Around) (v : Setting) (st : Standing) (bodies : Bodies) (inside : BodiesWithin) (n kept j from behind : ℕ)
    → StandsAs w v st bodies inside → from + delays_size st.site ds ≡ behind → NamesIn w from behind → FitsDelays st.site (length st.exits) ds
    → HasAt w.code.instrs from (delays_code st kept j ds behind from)
    → Selects w kept (number_from j) any_alternative from behind (delays_rows st.site ds from) behind true (delays_within v (calls_from inside w) n ds) (delay_mean v n ds)

pub no_delays_act : DelaysAct no_delays
no_delays_act w v st bodies inside n kept j from behind stands end names fits has =
    record {
      lie = tt;
      comes = λ x store store1 s s1 c e. refl;
      follows = λ covered x store s locals c within h part. comes {v = tt} (let e : from ≡ behind = omega arith in e) refl (tt, h);
    }

pub more_delays_act : (es : List ℕ) (ss : StatementNodes) (ds : DelayNodes) → StatementsAct ss → DelaysAct ds → DelaysAct (more_delays es ss ds)
more_delays_act es ss ds first others w v st bodies inside n kept j from behind stands end names fits has =
    (alternative_acts w v st bodies inside n kept from 3 size behind ss (delays_code st kept (suc j) ds behind next) (is_chosen_code kept j) (is_number_of j)
    (delays_rows st.site ds next) true true (number_from j) (number_from (suc j)) any_alternative any_alternative (delays_within v (calls_from inside w) n (more_delays es ss ds)) (delay_mean v n (more_delays es ss ds)) (delays_within v (calls_from inside w) n ds) (delay_mean v n ds)
    stands names fits.1 first refl end has
    (λ z s locals part has_test. chosen_run w kept j z from s locals part has_test)
    (λ e. refl) (λ e. refl) decide
    (λ has_more. others w v st bodies inside n kept (suc j) next behind stands (omega arith) (names_inside w from behind next behind (omega arith) (omega arith) names) fits.2 has_more)).0
  where
    size : ℕ
    size = delays_size st.site ds

    next : ℕ
    next = next_place from (3 + suc (statements_size st.site ss)) (go_on ss) size

    decide : (x : ℕ) → any_alternative x
        → IsFirst (is_number_of j) (number_from j) (delays_within v (calls_from inside w) n (more_delays es ss ds)) (delay_mean v n (more_delays es ss ds)) (statements_within v (calls_from inside w) n ss) (statements_mean v n ss) x
        ⊎ IsOther (is_number_of j) (number_from j) (number_from (suc j)) any_alternative (delays_within v (calls_from inside w) n (more_delays es ss ds)) (delay_mean v n (more_delays es ss ds)) (delays_within v (calls_from inside w) n ds) (delay_mean v n ds) x
    decide zero c = inl (is_first_number j, refl, refl)
    decide (suc m) c = inr (record { other = m; can = tt; fails = is_later_number j m; same = later_same j m; inside = refl; means = refl })

-- ---- what the request is told

-- each event with the number of its alternative
abbrev pairs_pushed : ℕ → List ℕ → List ℤ
pairs_pushed k [] = []
pairs_pushed k (e ∷ es) = pos e ∷ pos k ∷ pairs_pushed k es

abbrev all_pushed : ℕ → DelayNodes → List ℤ
all_pushed k no_delays = []
all_pushed k (more_delays es ss ds) = pairs_pushed k es ++ all_pushed (suc k) ds

events_run : (w : Around) (k : ℕ) (es : List ℕ) (at : ℕ) (stack locals : List ℤ) (s : Session) → HasAt w.code.instrs at (events_code k es)
    → GetsTo w.code (here w at stack locals s) (here w (at + 2 * length es) (stack ++ pairs_pushed k es) locals s)
events_run w k [] at stack locals s has = renamed w at (at + 2 * 0) stack (stack ++ []) locals s (let e : at ≡ at + 2 * 0 = omega arith in e) (sym (append-nil stack))
events_run w k (e ∷ es) at stack locals s has =
    gets_then (puts_on w (i.Thing e) at stack locals s (one (pos e)) has.0 refl refl)
    (gets_then (puts_on w (i.Push (pos k)) (at + 1) (stack ++ one (pos e)) locals s (one (pos k)) has.1.0 refl refl)
    (gets_then (events_run w k es (at + 1 + 1) ((stack ++ one (pos e)) ++ one (pos k)) locals s has.1.1)
    (renamed w (at + 1 + 1 + 2 * length es) (at + 2 * length (e ∷ es)) (((stack ++ one (pos e)) ++ one (pos k)) ++ pairs_pushed k es) (stack ++ pairs_pushed k (e ∷ es)) locals s (omega arith)
    (append_assoc (stack ++ one (pos e)) (one (pos k)) (pairs_pushed k es) ∙ append_assoc stack (one (pos e)) (pos k ∷ pairs_pushed k es)))))

all_events_run : (w : Around) (k : ℕ) (ds : DelayNodes) (at : ℕ) (stack locals : List ℤ) (s : Session) → HasAt w.code.instrs at (all_events_code k ds)
    → GetsTo w.code (here w at stack locals s) (here w (at + 2 * count_of_events ds) (stack ++ all_pushed k ds) locals s)
all_events_run w k no_delays at stack locals s has = renamed w at (at + 2 * 0) stack (stack ++ []) locals s (let e : at ≡ at + 2 * 0 = omega arith in e) (sym (append-nil stack))
all_events_run w k (more_delays es ss ds) at stack locals s has =
    let at1 : ℕ = at + 2 * length es in
    gets_then (events_run w k es at stack locals s (has_front w.code.instrs at (events_code k es) (all_events_code (suc k) ds) has))
    (gets_then (all_events_run w (suc k) ds at1 (stack ++ pairs_pushed k es) locals s (has_back w.code.instrs at at1 (events_code k es) (all_events_code (suc k) ds) (ap (λ (j : ℕ). at + j) (events_length k es)) has))
    (renamed w (at1 + 2 * count_of_events ds) (at + 2 * count_of_events (more_delays es ss ds)) ((stack ++ pairs_pushed k es) ++ all_pushed (suc k) ds) (stack ++ all_pushed k (more_delays es ss ds)) locals s (omega arith) (append_assoc stack (pairs_pushed k es) (all_pushed (suc k) ds))))

pairs_long : (k : ℕ) (es : List ℕ) → length (pairs_pushed k es) ≡ 2 * length es
pairs_long k [] = refl
pairs_long k (e ∷ es) = omega (arith, pairs_long k es)

all_long : (k : ℕ) (ds : DelayNodes) → length (all_pushed k ds) ≡ 2 * count_of_events ds
all_long k no_delays = refl
all_long k (more_delays es ss ds) = omega (arith, pairs_long k es, all_long (suc k) ds, length-append (pairs_pushed k es) (all_pushed (suc k) ds))

pairs_is : (k : ℕ) (es : List ℕ) (zs : List ℤ) (as' : List Alternative) → IsNumber32 k → All IsNumber32 es → pairs_of zs ≡ Some as' → pairs_of (pairs_pushed k es ++ zs) ≡ Some (pairs_with k es ++ as')
pairs_is k [] zs as' small fits is = is
pairs_is k (e ∷ es) zs as' small fits is =
    ap (λ (o : Option ℕ). with_first (alternative_in o (number_in (pos k))) (pairs_of (pairs_pushed k es ++ zs))) (thing_is e (All-head IsNumber32 e es fits))
    ∙ (ap (λ (o : Option ℕ). with_first (alternative_in (Some e) o) (pairs_of (pairs_pushed k es ++ zs))) (thing_is k small)
    ∙ ap (λ (o : Option (List Alternative)). with_first (Some (record { thing = e; number = k })) o) (pairs_is k es zs as' small (All-tail IsNumber32 e es fits) is))

all_is : (site : Site) (m k : ℕ) (ds : DelayNodes) → k + count_of_delays ds < 4294967296 → FitsDelays site m ds → pairs_of (all_pushed k ds) ≡ Some (delay_pairs k ds)
all_is site m k no_delays small fits = refl
all_is site m k (more_delays es ss ds) small fits =
    pairs_is k es (all_pushed (suc k) ds) (delay_pairs (suc k) ds) (omega arith) fits.0 (all_is site m (suc k) ds (omega arith) fits.2)

-- ---- the whole

no_truth : {A : Type 0} → false ≡ true → A
no_truth e = absurd (let no : ⊥ = cc in no)

-- the process has been woken, and a place is kept
abbrev WokenKeeps : Around → List ℤ → Answer → Store → List ℤ → Type 0
WokenKeeps w ks (Woken k by) store locals = Holds (keeping w ks) store locals
WokenKeeps w ks answer store locals = ⊥

pub then_same : {A : Type 0} (o : Flow A) → then_do o (λ a. Goes a) ≡ o
then_same (Goes a store s) = refl
then_same (Raised x store s) = refl
then_same (Exits k store s) = refl
then_same (Returned store s) = refl
then_same (Stops t inner store) = refl
then_same (Gone t) = refl
then_same Bound = refl

pub delay_acts : (set : Option LocationTree) (priority : ℕ) (ds : DelayNodes) → DelaysAct ds → ActionActs (delay_case set priority ds)
delay_acts set priority ds alternatives w v st bodies inside n from stands names fits has =
    record {
      lie = lie_wider rows at5 behind from behind (omega arith) (omega arith) selects.lie;
      comes = λ store store1 s s1 e. refl;
      follows = λ covered store s locals within h.
          follows_then_is
          (embedded (plain from at1 (omega arith) (omega arith))
          (set_place_runs w v st bodies inside set from at1 from at1 locals store s stands (names_inside w from behind from at1 (omega arith) (omega arith) names) fits.0 refl (omega arith) (omega arith) (has_front all from place (events ++ rest) has_wait) (both_true _ _ within).0 h))
          (λ address store1 s1 locals1 keeps is.
          waits covered address store1 s1 locals1 keeps (there (set_address v set store s) (λ a store2 s2. where_goes (asked request [] store2 s2) (λ answer store3 s3. behind_wait_within a (delays_within v (calls_from inside w) n ds) nothing_within (woken_as answer) store3 s3)) address store1 s1 (both_true _ _ within).1 is));
    }
  where
    all : List Instr
    all = w.code.instrs

    lay : Layout
    lay = layout st.site

    request : Request
    request = Delay (delay_pairs 0 ds) priority

    count : ℕ
    count = count_of_events ds

    chosen : ℕ
    chosen = chosen_in st.free set

    at1 : ℕ
    at1 = from + set_place_size set

    at2 : ℕ
    at2 = at1 + 2 * count

    at4 : ℕ
    at4 = at2 + 1 + 1

    at5 : ℕ
    at5 = from + delay_wait_size set ds

    behind : ℕ
    behind = from + (delay_wait_size set ds + delays_size st.site ds)

    place : List Instr
    place = set_place_code st set from

    events : List Instr
    events = all_events_code 0 ds

    rest : List Instr
    rest = i.Delay count priority ∷ i.SetLocal chosen 2 ∷ set_code st set

    wait : List Instr
    wait = delay_wait_code st set priority ds from

    parts : List Instr
    parts = delays_code st chosen 0 ds behind at5

    rows : List Handler
    rows = delays_rows st.site ds at5

    has_wait : HasAt all from wait
    has_wait = has_front all from wait parts has

    has1 : HasAt all at1 (events ++ rest)
    has1 = has_back all from at1 place (events ++ rest) (ap (λ (j : ℕ). from + j) (set_place_length st set from fits.0)) has_wait

    has2 : HasAt all at2 rest
    has2 = has_back all at1 at2 events rest (ap (λ (j : ℕ). at1 + j) (all_events_length 0 ds)) has1

    selects : Selects w chosen (number_from 0) any_alternative at5 behind rows behind true (delays_within v (calls_from inside w) n ds) (delay_mean v n ds)
    selects =
        alternatives w v st bodies inside n chosen 0 at5 behind stands (omega arith) (names_inside w from behind at5 behind (omega arith) (omega arith) names) fits.2
        (has_back all from at5 wait parts (ap (λ (j : ℕ). from + j) (delay_wait_length st set priority ds from fits.0)) has)

    plain : (lo hi : ℕ) → from ≤ lo → hi ≤ at5 → Embeds [] lo hi rows from behind
    plain lo hi l u = embeds_before rows lo hi at5 behind from behind selects.lie l u (omega arith)

    inner : Embeds rows at5 behind rows from behind
    inner = record { low = omega arith; high = omega arith; same = λ p x l u. refl }

    -- the alternative, whose number is kept
    chosen_follows : IsCovered w from behind rows → (ks : List ℤ) (address : Option Address) (k by : ℕ) (store : Store) (s : Session) (locals : List ℤ) → length ks ≡ set_kept set → delays_within v (calls_from inside w) n ds k store s ≡ true
        → Holds (keeping (keeping w ks) (pos k ∷ pos by ∷ [])) store locals → Does w (here w at5 [] locals s) from behind rows behind (delay_mean v n ds k store s)
    chosen_follows covered ks address k by store s locals long within h =
        let ls : List ℤ = pos k ∷ pos by ∷ [] in
        let at_chosen : chosen ≡ scalars_in w.rows + (w.results + length (w.kept ++ ks)) = omega (arith, stands.free, long, length-append w.kept ks) in
        let part : HasPart locals chosen 1 (one (pos k)) = kept_read (keeping (keeping w ks) ls) store locals (w.kept ++ ks) (one (pos k)) (one (pos by)) chosen 1 h refl at_chosen refl in
        let held : Holds w store locals = forgotten w ks store locals (forgotten (keeping w ks) ls store locals h) in
        embedded inner (selects.follows (covered_inside inner covered) k store s locals tt within held (subst (λ (m : ℕ). HasPart locals chosen 1 (one (pos m))) (let e : k ≡ 0 + k = omega arith in e) part))

    -- behind the answer
    woken : IsCovered w from behind rows → (address : Option Address) (ks : List ℤ) (k by : ℕ) (store : Store) (s : Session) (locals : List ℤ) → IsKept lay set address ks → Holds (keeping w ks) store locals
        → where_goes (set_to address by store s) (λ z store1 s1. delays_within v (calls_from inside w) n ds k store1 s1) ≡ true
        → Does w (here w (at2 + 1) (pos k ∷ pos by ∷ []) locals s) from behind rows behind (then_do (set_to address by store s) (λ u. delay_mean v n ds k))
    woken covered address ks k by store s locals is h within =
        let ls : List ℤ = pos k ∷ pos by ∷ [] in
        let long : length ks ≡ set_kept set = kept_long lay set address ks is in
        let free_is : chosen ≡ free_in (keeping w ks) = omega (arith, stands.free, long, length-append w.kept ks) in
        let room : chosen + 2 ≤ w.row.locals = names (at2 + 1) (i.SetLocal chosen 2) (omega arith) (omega arith) has2.1.0 in
        let put : IsSet (keeping (keeping w ks) ls) store locals chosen ls = scratch_set (keeping w ks) store locals ls chosen h free_is room in
        let fit : nat_le (chosen + 2) (length locals) ≡ true = le-leb (chosen + 2) (length locals) put.inside in
        after (sets_by w (i.SetLocal chosen 2) (at2 + 1) [] ls locals s chosen ls has2.1.0 refl (ap (λ (t : Bool). if t then Sets chosen ls else Halts) fit))
        (follows_then_is
        (forgetting ks (forgetting ls (embedded (plain at4 at5 (omega arith) (omega arith))
        (set_runs w st set address ks (pos k) by at4 at5 at4 at5 (with_scalars locals chosen ls) store s stands.suited.rows stands.free fits.0 is has2.1.1 (omega arith) (omega arith) (omega arith) put.holds))))
        (λ u store1 s1 locals1 r is_set.
        chosen_follows covered ks address k by store1 s1 locals1 long (there (set_to address by store s) (λ z store2 s2. delays_within v (calls_from inside w) n ds k store2 s2) u store1 s1 within is_set) r.1))

    by_woken : IsCovered w from behind rows → (address : Option Address) (ks : List ℤ) → IsKept lay set address ks → (a : Answer) (store : Store) (s : Session) (locals : List ℤ) → WokenKeeps w ks a store locals
        → behind_wait_within address (delays_within v (calls_from inside w) n ds) nothing_within (woken_as a) store s ≡ true
        → Does w (here w (at2 + 1) (pushed_by 0 a) locals s) from behind rows behind (behind_wait address (delay_mean v n ds) skip (woken_as a) store s)
    by_woken covered address ks is (Woken k by) store s locals q within = woken covered address ks k by store s locals is q within
    by_woken covered address ks is (Got k m xs by) store s locals q within = absurd q
    by_woken covered address ks is (Fail x) store s locals q within = absurd q
    by_woken covered address ks is (Value xs) store s locals q within = absurd q
    by_woken covered address ks is Done store s locals q within = absurd q
    by_woken covered address ks is Otherwise store s locals q within = absurd q
    by_woken covered address ks is (Instance j) store s locals q within = absurd q
    by_woken covered address ks is (Chose c) store s locals q within = absurd q
    by_woken covered address ks is (Handed j) store s locals q within = absurd q
    by_woken covered address ks is Stored store s locals q within = absurd q

    by_answer : (store : Store) (locals ks : List ℤ) → Holds (keeping w ks) store locals
        → (a : Answer) (s1 : Session) → IsNoFailure a → takes_answer request [] a ≡ true
        → Follows w (At (goes_on (state_at w (Asking request []) at2 [] locals) request [] a (frame_at w at2 [] locals ∷ w.below)) s1) from behind rows (always (at2 + 1)) (pushed_by 0) (WokenKeeps w ks) (Goes a store s1)
    by_answer store locals ks h (Woken k by) s1 given fit = comes {v = Woken k by} refl refl h
    by_answer store locals ks h (Got k m xs by) s1 given fit = no_truth fit
    by_answer store locals ks h (Fail x) s1 given fit = absurd given
    by_answer store locals ks h (Value xs) s1 given fit = no_truth fit
    by_answer store locals ks h Done s1 given fit = no_truth fit
    by_answer store locals ks h Otherwise s1 given fit = no_truth fit
    by_answer store locals ks h (Instance j) s1 given fit = no_truth fit
    by_answer store locals ks h (Chose c) s1 given fit = no_truth fit
    by_answer store locals ks h (Handed j) s1 given fit = no_truth fit
    by_answer store locals ks h Stored s1 given fit = no_truth fit

    waits : IsCovered w from behind rows → (address : Option Address) (store : Store) (s : Session) (locals : List ℤ) → KeepsPlace w lay set address store locals
        → where_goes (asked request [] store s) (λ answer store1 s1. behind_wait_within address (delays_within v (calls_from inside w) n ds) nothing_within (woken_as answer) store1 s1) ≡ true
        → Does w (here w at1 [] locals s) from behind rows behind (then_do (asked request [] store s) (λ answer. behind_wait address (delay_mean v n ds) skip (woken_as answer)))
    waits covered address store s locals keeps within =
        after (all_events_run w 0 ds at1 [] locals s (has_front all at1 events rest has1))
        (follows_then_is
        (subst (λ (o : Flow Answer). Follows w (here w at2 (all_pushed 0 ds) locals s) from behind rows (always (at2 + 1)) (pushed_by 0) (WokenKeeps w keeps.kept) o) (then_same (asked request [] store s))
        (asks_by w (i.Delay count priority) from behind rows (always (at2 + 1)) (pushed_by 0) (WokenKeeps w keeps.kept) at2 request [] [] (all_pushed 0 ds) locals store s (λ answer. Goes answer) has2.0 (sym (all_long 0 ds))
        (ap (delays priority) (all_is st.site (length st.exits) 0 ds (let small : 0 + count_of_delays ds < 4294967296 = omega (arith, fits.1) in small) fits.2)) tt (omega arith) (omega arith) (λ x. (plain at2 at5 (omega arith) (omega arith)).same at2 x (omega arith) (omega arith)) (forgotten w keeps.kept store locals keeps.holds)
        (by_answer store locals keeps.kept keeps.holds)))
        (λ answer store1 s1 locals1 q is.
        by_woken covered address keeps.kept keeps.is answer store1 s1 locals1 q
        (there (asked request [] store s) (λ a store2 s2. behind_wait_within address (delays_within v (calls_from inside w) n ds) nothing_within (woken_as a) store2 s2) answer store1 s1 within is)))
