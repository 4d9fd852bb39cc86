-- Loops over the members of a powerset: what is left of it is kept in a scratch local.
use Rattle.std.proofs.Common.{◌≡◌, ℕ, zero, suc, ◌+◌, ◌<◌, ◌≤◌, true, false, List, [], ◌∷◌, ℤ, pos, length, Option, Some, None, slice_get, refl, sym, ap, ◌∙◌, subst, arith, length-append}
use Rattle.world_model.specs.Session.{Session}
use Rattle.world_model.specs.Lists.{with_scalars}
use Rattle.scalar_operators.specs.Powersets.{members_of, first_of_list, difference, span_of}
use Rattle.scalar_operators.specs.Members.{offsets_of}
use Rattle.program_trees.specs.ExprTree.{ExprTree}
use Rattle.program_trees.specs.StatementTree.{for_members}
use Rattle.program_trees.specs.ProgramTree.{LocalRowTree}
use Rattle.code_types.specs.declared.instr.Instr.{Instr}
use Rattle.code_types.specs.declared.instr.Instr.TheVariants as i
use Rattle.code_types.specs.Actions.{in_frame, member_or_empty}
use Rattle.source_meaning.specs.Store.{Store, with_local}
use Rattle.source_meaning.specs.Flow.{Goes, Meaning}
use Rattle.source_meaning.specs.Operators.{one, member_at, without_offset}
use Rattle.source_meaning.specs.ExprMeaning.{Setting, as_computed, expr_mean}
use Rattle.source_meaning.specs.StatementMeaning.{turns, where_holds, next_member, loop_mean}
use Rattle.source_meaning.specs.BodyMeaning.{Bodies}
use Rattle.code_scheme.specs.Pieces.{member_code, first_in}
use Rattle.code_scheme.specs.ExprSizes.{expr_size}
use Rattle.code_scheme.specs.ExprCode.{expr_code}
use Rattle.code_scheme.specs.StatementSite.{Standing, layout, taking}
use Rattle.code_scheme.specs.StatementLoops.{members_test, members_test_size, some_while_code, some_while_size, before_turns, before_turns_size, turn_test}
use Rattle.follow_laws.specs.Follows.{HasAt, Around, keeping, free_in, here, Holds, Does}
use Rattle.follow_laws.specs.Parts.{LoopPlaces, LoopFollows, TestFrom, TakeNothing}
use Rattle.code_laws.specs.BodyBounds.{BodiesWithin}
use Rattle.code_laws.specs.StatementBounds.{Along, OpenCallsWithin, some_value_within, turns_within, next_member_within, loop_within}
use Rattle.code_laws.specs.StatementsInRange.{FitsControl}
use Rattle.code_laws.specs.Expressions.{NamesIn}
use Rattle.code_laws.specs.Statements.{StandsAs, calls_from}
use Rattle.code_laws.specs.Loops.{ConditionGoes, LoopStands}
use Rattle.follow_laws.proofs.Running.{has_front, has_back, gets_then, after, follows_then_is, comes, wider, forgotten, forgetting}
use Rattle.follow_laws.proofs.Holding.{scratch_read, scratch_set, kept_set, whole_set}
use Rattle.follow_laws.proofs.Instructions.{pushes_by, puts_on, renamed}
use Rattle.follow_laws.proofs.LoopRuns.{turns_run}
use Rattle.code_laws.proofs.Sizes.{expr_length}
use Rattle.code_laws.proofs.Values.{both_true}
use Rattle.code_laws.proofs.BetweenRuns.{unless_run, offsets_of_one, members_below, first_below, member_follows}
use Rattle.code_laws.proofs.ExprPieces.{there}
use Rattle.code_laws.proofs.ExprRuns.{expr_runs}
use Rattle.code_laws.proofs.LoopPieces.{then_went, where_leads, TurnKeeps, turn_keeps, where_runs, value_here, set_run}

-- what is kept is what is left
abbrev what_is_left : List ℤ → List ℤ
what_is_left set = set

-- the test, where what is left is one number
member_test : (w : Around) (v : Setting) (calls : OpenCallsWithin) (l : LoopPlaces) (counter f : ℕ) (low : ℤ) (condition : Option ExprTree) (row : LocalRowTree) (x : ℤ) (place : ℕ) (store : Store) (s : Session) (locals : List ℤ)
    → slice_get w.rows counter ≡ Some row → row.count ≡ 1 → f ≡ free_in w
    → HasAt w.code.instrs l.again (members_test f row.first low l.behind)
    → l.again + members_test_size low ≡ place → TakeNothing l.rows l.again l.turn → l.from ≤ l.again → place ≤ l.turn → l.turn ≤ l.until
    → ((y : ℤ) → ConditionGoes (keeping w (one y)) v calls l place condition)
    → next_member_within v calls counter low condition (first_of_list (offsets_of (one x))) store s ≡ true
    → Holds (keeping w (one x)) store locals
    → TestFrom w l what_is_left (here w l.again [] locals s) (next_member v counter low condition (one x) (first_of_list (offsets_of (one x))) store s)
member_test w v calls l counter f low condition row x place store s locals is_row count f_is has place_is untaken from up until goes within h =
    subst (λ (ks : List ℕ). next_member_within v calls counter low condition (first_of_list ks) store s ≡ true → TestFrom w l what_is_left (here w l.again [] locals s) (next_member v counter low condition (one x) (first_of_list ks) store s)) (sym (offsets_of_one x))
    (by_members (members_of x) refl)
    within
  where
    a0 : ℕ
    a0 = l.again

    a3 : ℕ
    a3 = a0 + 1 + 1 + 1

    m0 : ℕ
    m0 = a3 + 1 + 1 + 1 + 1

    m1 : ℕ
    m1 = m0 + length (member_code low)

    wk : Around
    wk = keeping w (one x)

    rest : List Instr
    rest = i.SetLocal row.first 1 ∷ i.Copy 1 ∷ i.Span ∷ i.BitMinus ∷ i.SetLocal f 1 ∷ []

    by_members : (ks : List ℕ) → members_of x ≡ ks → next_member_within v calls counter low condition (first_of_list ks) store s ≡ true
        → TestFrom w l what_is_left (here w l.again [] locals s) (next_member v counter low condition (one x) (first_of_list ks) store s)
    by_members [] is within1 =
        let part = scratch_read w store locals (one x) f 1 h f_is refl in
        after (gets_then (puts_on w (i.Local f 1) a0 [] locals s (one x) has.0 refl (ap in_frame part.is))
        (gets_then (pushes_by w i.Card (a0 + 1) [] (one x) locals s (one (pos 0)) has.1.0 refl (ap (λ (js : List ℕ). in_frame (Some (one (pos (length js))))) is))
        (unless_run w (pos 0) false l.behind (a0 + 1 + 1) [] locals s refl has.1.1.0)))
        (comes {v = None} refl refl (forgotten w (one x) store locals h))
    by_members (k ∷ ks) is within1 =
        let part = scratch_read w store locals (one x) f 1 h f_is refl in
        let n : ℤ = pos (suc (length ks)) in
        let hasn = has.1.1.1 in
        let hasm = has_front w.code.instrs m0 (member_code low) rest hasn.1.1.1.1 in
        let hasr = has_back w.code.instrs m0 m1 (member_code low) rest refl hasn.1.1.1.1 in
        let small : k < 32 = first_below (members_of x) 32 k (members_below x) (ap first_of_list is) in
        let left : ℤ = difference x (span_of (pos k) (pos k)) in
        let inside : m1 ≤ l.turn = omega (arith, place_is, up) in
        after (gets_then (puts_on w (i.Local f 1) a0 [] locals s (one x) has.0 refl (ap in_frame part.is))
        (gets_then (pushes_by w i.Card (a0 + 1) [] (one x) locals s (one n) has.1.0 refl (ap (λ (js : List ℕ). in_frame (Some (one (pos (length js))))) is))
        (gets_then (unless_run w n true l.behind (a0 + 1 + 1) [] locals s refl has.1.1.0)
        (gets_then (puts_on w (i.Local f 1) a3 [] locals s (one x) hasn.0 refl (ap in_frame part.is))
        (gets_then (pushes_by w (i.Copy 1) (a3 + 1) [] (one x) locals s (x ∷ x ∷ []) hasn.1.0 refl refl)
        (gets_then (pushes_by w i.Least (a3 + 1 + 1) (one x) (one x) locals s (one (pos k)) hasn.1.1.0 refl (ap (λ (js : List ℕ). member_or_empty (first_of_list js)) is))
        (pushes_by w (i.Copy 1) (a3 + 1 + 1 + 1) (one x) (one (pos k)) locals s (pos k ∷ pos k ∷ []) hasn.1.1.1.0 refl refl)))))))
        (follows_then_is
        (forgetting (one x)
        (wider (omega (arith, from)) (omega (arith, inside, until)) (λ x2 p a b none. untaken p x2 (omega (arith, a)) (omega (arith, b, inside))) (λ v2 store2 locals2 q. q)
        (member_follows wk low k m0 m1 m0 m1 (x ∷ pos k ∷ []) locals store s small hasm refl (omega arith) (omega arith) h)))
        (λ ys store1 s1 locals1 q at_member.
        let set1 = whole_set wk store1 locals1 counter row.first row ys q.1 is_row (q.0 ∙ sym count) refl in
        let locals2 : List ℤ = with_scalars locals1 row.first ys in
        let store2 : Store = with_local store1 counter ys in
        let set2 = kept_set wk store2 locals2 w.kept (one x) [] (one left) f set1.holds refl f_is refl in
        let locals3 : List ℤ = with_scalars locals2 f (one left) in
        let within2 = there (as_computed (member_at low (Some k)) store s) (λ zs store3 s3. some_value_within v calls condition (with_local store3 counter zs) s3) ys store1 s1 within1 at_member in
        after (gets_then (set_run w row.first 1 m1 (x ∷ pos k ∷ []) ys locals1 s1 set1.inside (sym q.0) hasr.0)
        (gets_then (pushes_by w (i.Copy 1) (m1 + 1) (one x) (one (pos k)) locals2 s1 (pos k ∷ pos k ∷ []) hasr.1.0 refl refl)
        (gets_then (pushes_by w i.Span (m1 + 1 + 1) (one x) (pos k ∷ pos k ∷ []) locals2 s1 (one (span_of (pos k) (pos k))) hasr.1.1.0 refl refl)
        (gets_then (pushes_by w i.BitMinus (m1 + 1 + 1 + 1) [] (x ∷ span_of (pos k) (pos k) ∷ []) locals2 s1 (one left) hasr.1.1.1.0 refl refl)
        (gets_then (set_run w f 1 (m1 + 1 + 1 + 1 + 1) [] (one left) locals2 s1 set2.inside refl hasr.1.1.1.1.0)
        (renamed w (m1 + 1 + 1 + 1 + 1 + 1) place [] [] locals3 s1 (omega (arith, place_is)) refl))))))
        (where_runs w v calls l what_is_left condition place (one left) store2 s1 locals3 (goes left) within2 set2.holds)))

-- what a test leaves is one number, where what was left before is
member_left : (v : Setting) (counter : ℕ) (low : ℤ) (condition : Option ExprTree) (set left : List ℤ) (o : Option ℕ) (store store1 : Store) (s s1 : Session)
    → length set ≡ 1 → next_member v counter low condition set o store s ≡ Goes (Some left) store1 s1 → length left ≡ 1
member_left v counter low condition set left None store store1 s s1 long is = absurd (let no : ⊥ = cc in no)
member_left v counter low condition set left (Some k) store store1 s s1 long is =
    let went = then_went (as_computed (member_at low (Some k)) store s) (λ xs store2. where_holds v condition (without_offset k set) (with_local store2 counter xs)) (Some left) store1 s1 is in
    let leads = where_leads v condition (without_offset k set) left (with_local went.store_between counter went.first) store1 went.session_between s1 went.on in
    ap (λ (xs : List ℤ). length xs) (sym leads.same) ∙ one_left set long
  where
    one_left : (xs : List ℤ) → length xs ≡ 1 → length (without_offset k xs) ≡ 1
    one_left [] e = absurd (let no : ⊥ = omega arith in no)
    one_left (x ∷ []) e = refl
    one_left (x ∷ z ∷ zs) e = absurd (let no : ⊥ = omega arith in no)

pub member_loop_runs : (w : Around) (v : Setting) (st : Standing) (bodies : Bodies) (inside : BodiesWithin) (counter : ℕ) (e : ExprTree) (low : ℤ) (condition : Option ExprTree) (l : LoopPlaces) (body : Meaning (Unit {0})) (along : Along) (n at : ℕ) (locals : List ℤ) (store : Store) (s : Session)
    → StandsAs w v st bodies inside → NamesIn w l.from l.until → FitsControl (layout st.site) (for_members counter e low condition)
    → LoopStands w v st inside (for_members counter e low condition) l at body along
    → loop_within v (calls_from inside w) n (for_members counter e low condition) body along store s ≡ true
    → Holds w store locals
    → Does w (here w at [] locals s) l.from l.until l.rows l.behind (loop_mean v n (for_members counter e low condition) body store s)
member_loop_runs w v st bodies inside counter e low condition l body along n at locals store s stands names fits loop within h =
    let parts = both_true _ _ within in
    follows_then_is
    (wider (omega (arith, loop.from)) (omega (arith, room, loop.until)) (λ x p a b none. loop.untaken p x (omega (arith, a)) (omega (arith, b, room))) (λ v2 store2 locals2 q. q)
    (expr_runs w v (layout st.site) bodies inside at at1 st.free e at at1 [] locals store s stands.suited (λ p instr a b. names p instr (omega (arith, a, loop.from)) (omega (arith, b, room, loop.until))) stands.free fits.1.0 refl (omega arith) (omega arith)
    (has_front w.code.instrs at (expr_code (layout st.site) st.free e at) set_code before_has) (value_here w v st bodies inside e store s stands.suited parts.0) h))
    (λ xs store1 s1 locals1 q is.
    begins n xs store1 s1 locals1 (q.0 ∙ fits.1.1)
    (there (expr_mean v e store s) (λ ys store2 s2. turns_within test tests body along n ys store2 s2) xs store1 s1 parts.1 is) q.1)
  where
    at1 : ℕ
    at1 = at + expr_size e

    row : LocalRowTree
    row = fits.0.0

    calls : OpenCallsWithin
    calls = calls_from inside w

    place : ℕ
    place = l.again + members_test_size low

    set_code : List Instr
    set_code = i.SetLocal st.free 1 ∷ []

    before : List Instr
    before = before_turns st (for_members counter e low condition) l.behind at

    test_code : List Instr
    test_code = turn_test st (for_members counter e low condition) l.behind (at + before_turns_size (for_members counter e low condition))

    before_has : HasAt w.code.instrs at before
    before_has = has_front w.code.instrs at before test_code loop.has

    before_long : at + length before ≡ l.again
    before_long = omega (arith, length-append (expr_code (layout st.site) st.free e at) set_code, expr_length (layout st.site) st.free e at fits.1.0, loop.again)

    room : at1 + 1 ≤ l.turn
    room = omega (arith, loop.turn, loop.again)

    is_row : slice_get w.rows counter ≡ Some row
    is_row = ap (λ (rs : List LocalRowTree). slice_get rs counter) (sym stands.suited.rows) ∙ fits.0.1

    test : List ℤ → Meaning (Option (List ℤ))
    test set = next_member v counter low condition set (first_of_list (offsets_of set))

    tests : List ℤ → Along
    tests set = next_member_within v calls counter low condition (first_of_list (offsets_of set))

    at_test : ℕ → List ℤ → Store → Session → Type 0
    at_test m set store1 s1 = (turns_within test tests body along m set store1 s1 ≡ true) × (length set ≡ 1)

    at_turn : ℕ → List ℤ → Store → Session → Type 0
    at_turn m set store1 s1 = TurnKeeps test tests body along m set store1 s1 × (length set ≡ 1)

    test_has : HasAt w.code.instrs l.again (members_test st.free row.first low l.behind)
    test_has =
        subst (λ (f : ℕ). HasAt w.code.instrs l.again (members_test st.free f low l.behind)) (ap first_in fits.0.1)
        (has_front w.code.instrs l.again (members_test st.free (first_in (slice_get st.site.body.locals counter)) low l.behind)
        (some_while_code (taking st 1) condition l.behind (at + before_turns_size (for_members counter e low condition) + members_test_size low))
        (has_back w.code.instrs at l.again before test_code before_long loop.has))

    place_is : place + some_while_size condition ≡ l.turn
    place_is = omega (arith, loop.again, loop.turn)

    tests_so : (m : ℕ) (set : List ℤ) (store1 : Store) (s1 : Session) (locals1 : List ℤ) → at_test (suc m) set store1 s1 → Holds (keeping w set) store1 locals1
        → TestFrom w l what_is_left (here w l.again [] locals1 s1) (test set store1 s1)
    tests_so m [] store1 s1 locals1 holds h1 = absurd (let no : ⊥ = omega (arith, holds.1) in no)
    tests_so m (x ∷ []) store1 s1 locals1 holds h1 =
        member_test w v calls l counter st.free low condition row x place store1 s1 locals1 is_row fits.0.2 stands.free test_has refl
        (λ p y a b. loop.untaken p y (omega (arith, a, loop.again)) b) (omega (arith, loop.from, loop.again)) (omega (arith, place_is)) loop.until
        (λ y. loop.condition (one y) refl place place_is) (both_true _ _ holds.0).0 h1
    tests_so m (x ∷ y ∷ ys) store1 s1 locals1 holds h1 = absurd (let no : ⊥ = omega (arith, holds.1) in no)

    leads_so : (m : ℕ) (set left : List ℤ) (store1 store2 : Store) (s1 s2 : Session) → at_test (suc m) set store1 s1 → test set store1 s1 ≡ Goes (Some left) store2 s2 → at_turn m left store2 s2
    leads_so m set left store1 store2 s1 s2 holds leads = (
      turn_keeps test tests body along m set left store1 store2 s1 s2 holds.0 leads,
      member_left v counter low condition set left (first_of_list (offsets_of set)) store1 store2 s1 s2 holds.1 leads,
    )

    follows : LoopFollows w l what_is_left at_test at_turn test body
    follows = record {
      tests = tests_so;
      leads = leads_so;
      turns = λ m set store1 s1 locals1 holds h1. loop.actions set holds.1 store1 s1 locals1 holds.0.now h1;
      keeps = λ m set store1 store2 s1 s2 s3 holds is ticks. (holds.0.later store2 s2 s3 is ticks, holds.1);
      back = loop.back;
    }

    -- the powerset is kept, and the turns begin
    begins : (m : ℕ) (xs : List ℤ) (store1 : Store) (s1 : Session) (locals1 : List ℤ) → length xs ≡ 1 → turns_within test tests body along m xs store1 s1 ≡ true → Holds w store1 locals1
        → Does w (here w at1 xs locals1 s1) l.from l.until l.rows l.behind (turns m test body xs store1 s1)
    begins zero xs store1 s1 locals1 long keeps h1 = record { by = tt }
    begins (suc m) xs store1 s1 locals1 long keeps h1 =
        let set_here = (has_back w.code.instrs at at1 (expr_code (layout st.site) st.free e at) set_code (ap (λ (j : ℕ). at + j) (expr_length (layout st.site) st.free e at fits.1.0)) before_has).0 in
        let named = names at1 (i.SetLocal st.free 1) (omega (arith, loop.from)) (omega (arith, room, loop.until)) set_here in
        let set = scratch_set w store1 locals1 xs st.free h1 stands.free (omega (arith, named, long)) in
        after (gets_then (set_run w st.free 1 at1 [] xs locals1 s1 set.inside (sym long) set_here)
        (renamed w (at1 + 1) l.again [] [] (with_scalars locals1 st.free xs) s1 (omega (arith, loop.again)) refl))
        (turns_run w l what_is_left at_test at_turn test body follows m (here w l.again [] (with_scalars locals1 st.free xs) s1) xs store1 s1
        (λ c1 store2 s2 leads. leads_so m xs c1 store1 store2 s1 s2 (keeps, long) leads)
        (tests_so m xs store1 s1 (with_scalars locals1 st.free xs) (keeps, long) set.holds))
