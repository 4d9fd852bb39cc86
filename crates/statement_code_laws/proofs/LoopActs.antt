-- A DO acts where its actions do.
use Rattle.std.proofs.Common.{◌≡◌, ℕ, zero, suc, ◌+◌, ◌≤◌, Bool, true, false, List, [], ◌++◌, ℤ, pos, length, replicate, Option, Some, None, slice_get, refl, ap, subst, arith, length-append}
use Rattle.std.proofs.lemmas.List.{length-replicate}
use Rattle.world_model.specs.Session.{Session, Ticked, GoesOn, Last, tick}
use Rattle.program_trees.specs.ExprTree.{ExprTree}
use Rattle.program_trees.specs.StatementTree.{ControlTree, while_true, for_ever, for_members, for_steps, StatementNodes}
use Rattle.code_types.specs.declared.instr.Instr.{Instr}
use Rattle.code_types.specs.declared.instr.Instr.TheVariants as i
use Rattle.code_types.specs.declared.code.Handler.{Handler}
use Rattle.source_meaning.specs.Store.{Store, local_value}
use Rattle.source_meaning.specs.Flow.{Flow, Goes, Raised, Exits, Returned, Stops, Gone, Bound, Meaning, then_do, after_tick}
use Rattle.source_meaning.specs.ExprMeaning.{Setting, expr_mean}
use Rattle.source_meaning.specs.StatementMeaning.{no_state, turns, where_holds, loop_mean, statements_mean}
use Rattle.source_meaning.specs.BodyMeaning.{Bodies}
use Rattle.code_scheme.specs.Pieces.{first_in}
use Rattle.code_scheme.specs.ExprSizes.{condition_size}
use Rattle.code_scheme.specs.ExprCode.{condition_code}
use Rattle.code_scheme.specs.StatementSite.{Standing, layout, taking}
use Rattle.code_scheme.specs.StatementGoing.{go_on, has_end}
use Rattle.code_scheme.specs.StatementLoops.{Steps, steps_with, constant_step, steps_kept, some_while_code, some_while_size, members_test, members_test_size, next_code, next_size, before_turns, before_turns_size, control_code, control_size, locals_kept}
use Rattle.code_scheme.specs.StatementSize.{statements_size, turn_back_size}
use Rattle.code_scheme.specs.StatementCode.{turn_back_code, statements_code}
use Rattle.code_scheme.specs.StatementRows.{statements_rows}
use Rattle.follow_laws.specs.Follows.{HasAt, Around, keeping}
use Rattle.follow_laws.specs.Parts.{LoopPlaces, IsCovered}
use Rattle.code_laws.specs.BodyBounds.{BodiesWithin}
use Rattle.code_laws.specs.OwnBounds.{expr_within}
use Rattle.code_laws.specs.StatementBounds.{Along, statements_within}
use Rattle.code_laws.specs.StatementsInRange.{FitsNumber, FitsSomeNumber, FitsControl}
use Rattle.code_laws.specs.Counters.{loop_keeps, some_leaves}
use Rattle.code_laws.specs.Statements.{StandsAs, calls_from}
use Rattle.code_laws.specs.Loops.{condition_of, condition_place, ConditionGoes, SomeLeaves, CounterStays, LoopStands, LoopLaw}
use Rattle.code_laws.specs.Leaving.{LeavesLocal, LeavesLaw}
use Rattle.follow_laws.proofs.Running.{has_front, has_back}
use Rattle.code_laws.proofs.Values.{both_true}
use Rattle.code_laws.proofs.CallPieces.{kept_suited}
use Rattle.statement_code_laws.specs.Parts.{LieIn, Acts}
use Rattle.statement_code_laws.specs.StatementForms.{LoopsAct}
use Rattle.statement_code_laws.proofs.ConditionRuns.{condition_runs}
use Rattle.statement_code_laws.proofs.PlainRuns.{open_here}
use Rattle.statement_code_laws.proofs.Lengths.{statements_length, before_turns_length, members_length, next_length, control_length}
use Rattle.statement_code_laws.proofs.Joining.{untaken_before, lie_wider, Embeds, embeds_before, embedded, acts_in}
use Rattle.statement_code_laws.proofs.ChoiceRuns.{names_inside}

-- ---- a loop without an end

never_ends : (v : Setting) (body : Meaning (Unit {0})) (n : ℕ) (store store1 : Store) (s s1 : Session) → turns n (where_holds v None) body no_state store s ≡ Goes tt store1 s1 → ⊥
never_ends v body zero store store1 s s1 e = let no : ⊥ = cc in no
never_ends v body (suc n) store store1 s s1 e = by_turn (λ store2 s2 f. never_ends v body n store2 store1 s2 s1 f) (body store s) e
  where
    by_tick : ((store2 : Store) (s2 : Session) → turns n (where_holds v None) body no_state store2 s2 ≡ Goes tt store1 s1 → ⊥) → (t : Ticked) (store2 : Store) → after_tick t store2 (λ s2. turns n (where_holds v None) body no_state store2 s2) ≡ Goes tt store1 s1 → ⊥
    by_tick later (GoesOn s2) store2 f = later store2 s2 f
    by_tick later (Last t) store2 f = let no : ⊥ = cc in no

    by_turn : ((store2 : Store) (s2 : Session) → turns n (where_holds v None) body no_state store2 s2 ≡ Goes tt store1 s1 → ⊥) → (o : Flow (Unit {0})) → then_do o (λ u store2 s2. after_tick (tick s2) store2 (λ s3. turns n (where_holds v None) body no_state store2 s3)) ≡ Goes tt store1 s1 → ⊥
    by_turn later (Goes u store2 s2) f = by_tick later (tick s2) store2 f
    by_turn later (Raised x store2 s2) f = let no : ⊥ = cc in no
    by_turn later (Exits k store2 s2) f = let no : ⊥ = cc in no
    by_turn later (Returned store2 s2) f = let no : ⊥ = cc in no
    by_turn later (Stops t calls store2) f = let no : ⊥ = cc in no
    by_turn later (Gone t) f = let no : ⊥ = cc in no
    by_turn later Bound f = let no : ⊥ = cc in no

loop_comes : (v : Setting) (n : ℕ) (control : ControlTree) (body : Meaning (Unit {0})) (store store1 : Store) (s s1 : Session) → loop_mean v n control body store s ≡ Goes tt store1 s1 → has_end control ≡ true
loop_comes v n (while_true e) body store store1 s s1 is = refl
loop_comes v n for_ever body store store1 s s1 is = absurd (never_ends v body n store store1 s s1 is)
loop_comes v n (for_members counter e low condition) body store store1 s s1 is = refl
loop_comes v n (for_steps counter e step f down condition) body store store1 s s1 is = refl

-- ---- the condition stands last in the control

condition_there : (w : Around) (st : Standing) (control : ControlTree) (e : ExprTree) (behind at place : ℕ) → FitsControl (layout st.site) control → condition_of control ≡ Some e
    → place + condition_size e false ≡ at + control_size control → HasAt w.code.instrs at (control_code st control behind at)
    → HasAt w.code.instrs place (condition_code (layout st.site) (st.free + locals_kept control) e false behind place)
condition_there w st (while_true c) e behind at place fits is end has =
    let same : c ≡ e = cc in
    let start : at + 0 ≡ place = omega (arith, end, ap (λ (d : ExprTree). condition_size d false) same) in
    let free : st.free ≡ st.free + 0 = omega arith in
    subst (λ (d : ExprTree). HasAt w.code.instrs place (condition_code (layout st.site) (st.free + 0) d false behind place)) same
    (subst (λ (f : ℕ). HasAt w.code.instrs place (condition_code (layout st.site) f c false behind place)) free
    (subst (λ (p : ℕ). HasAt w.code.instrs p (condition_code (layout st.site) st.free c false behind p)) start
    (subst (λ (p : ℕ). HasAt w.code.instrs p (condition_code (layout st.site) st.free c false behind (at + 0))) (let z : at ≡ at + 0 = omega arith in z) has)))
condition_there w st for_ever e behind at place fits is end has = absurd (let no : ⊥ = cc in no)
condition_there w st (for_members counter c low condition) e behind at place fits is end has =
    let control : ControlTree = for_members counter c low condition in
    let set : ℕ = first_in (slice_get st.site.body.locals counter) in
    let at1 : ℕ = at + before_turns_size control in
    let at2 : ℕ = at1 + members_test_size low in
    let test : List Instr = members_test st.free set low behind in
    let rest : List Instr = some_while_code (taking st 1) condition behind at2 in
    let has1 : HasAt w.code.instrs at1 (test ++ rest) = has_back w.code.instrs at at1 (before_turns st control behind at) (test ++ rest) (ap (λ (j : ℕ). at + j) (before_turns_length st control behind at fits)) has in
    let has2 : HasAt w.code.instrs at2 rest = has_back w.code.instrs at1 at2 test rest (ap (λ (j : ℕ). at1 + j) (members_length st.free set low behind)) has1 in
    let start : at2 ≡ place = omega (arith, end, ap some_while_size is) in
    subst (λ (p : ℕ). HasAt w.code.instrs p (condition_code (layout st.site) (st.free + 1) e false behind p)) start
    (subst (λ (o : Option ExprTree). HasAt w.code.instrs at2 (some_while_code (taking st 1) o behind at2)) is has2)
condition_there w st (for_steps counter c step f down condition) e behind at place fits is end has =
    let control : ControlTree = for_steps counter c step f down condition in
    let counting : Steps = steps_with (first_in (slice_get st.site.body.locals counter)) (constant_step step) down st.free in
    let at1 : ℕ = at + before_turns_size control in
    let at2 : ℕ = at1 + next_size in
    let test : List Instr = next_code counting behind in
    let rest : List Instr = some_while_code (taking st (steps_kept step)) condition behind at2 in
    let has1 : HasAt w.code.instrs at1 (test ++ rest) = has_back w.code.instrs at at1 (before_turns st control behind at) (test ++ rest) (ap (λ (j : ℕ). at + j) (before_turns_length st control behind at fits)) has in
    let has2 : HasAt w.code.instrs at2 rest = has_back w.code.instrs at1 at2 test rest (ap (λ (j : ℕ). at1 + j) (next_length counting behind)) has1 in
    let start : at2 ≡ place = omega (arith, end, ap some_while_size is) in
    subst (λ (p : ℕ). HasAt w.code.instrs p (condition_code (layout st.site) (st.free + steps_kept step) e false behind p)) start
    (subst (λ (o : Option ExprTree). HasAt w.code.instrs at2 (some_while_code (taking st (steps_kept step)) o behind at2)) is has2)

condition_fits : (st : Standing) (control : ControlTree) (e : ExprTree) → FitsControl (layout st.site) control → condition_of control ≡ Some e → FitsNumber (layout st.site) e
condition_fits st (while_true c) e fits is = let same : c ≡ e = cc in subst (λ (d : ExprTree). FitsNumber (layout st.site) d) same fits
condition_fits st for_ever e fits is = absurd (let no : ⊥ = cc in no)
condition_fits st (for_members counter c low condition) e fits is = subst (λ (o : Option ExprTree). FitsSomeNumber (layout st.site) o) is fits.2
condition_fits st (for_steps counter c step f down condition) e fits is = subst (λ (o : Option ExprTree). FitsSomeNumber (layout st.site) o) is fits.4

-- the condition isn't longer than the control
condition_room : (control : ControlTree) (e : ExprTree) → condition_of control ≡ Some e → condition_size e false ≤ control_size control
condition_room (while_true c) e is = let same : c ≡ e = cc in omega (arith, ap (λ (d : ExprTree). condition_size d false) same)
condition_room for_ever e is = absurd (let no : ⊥ = cc in no)
condition_room (for_members counter c low condition) e is = omega (arith, ap some_while_size is)
condition_room (for_steps counter c step f down condition) e is = omega (arith, ap some_while_size is)

-- ---- counters

left_by : {A : Type 0} (k : ℕ) (o : Flow A) (v : A) (store store1 : Store) (s1 : Session) → LeavesLocal k store o → o ≡ Goes v store1 s1 → local_value store1 k ≡ local_value store k
left_by k o v store store1 s1 left is = subst (λ q. LeavesLocal k store q) is left

counter_stays : LeavesLaw → (w : Around) (v : Setting) (st : Standing) (bodies : Bodies) (inside : BodiesWithin) (n : ℕ) (control : ControlTree) (ss : StatementNodes) → StandsAs w v st bodies inside → loop_keeps control ss ≡ true → CounterStays v control (statements_mean v n ss)
counter_stays law w v st bodies inside n (while_true e) ss stands keeps = tt
counter_stays law w v st bodies inside n for_ever ss stands keeps = tt
counter_stays law w v st bodies inside n (for_members counter e low condition) ss stands keeps = tt
counter_stays law w v st bodies inside n (for_steps counter e step f down condition) ss stands keeps = (
  by_condition condition (both_true _ _ keeps).0,
  λ u store store1 s s1 is. left_by counter (statements_mean v n ss store s) u store store1 s1 (law.statements st.site.program bodies (suc (length w.below)) counter n v ss store s stands.suited.calls (both_true _ _ keeps).1) is,
)
  where
    by_condition : (o : Option ExprTree) → some_leaves counter o ≡ true → SomeLeaves v counter o
    by_condition None left = tt
    by_condition (Some c) left = λ xs store store1 s s1 is. left_by counter (expr_mean v c store s) xs store store1 s1 (law.expressions st.site.program bodies (suc (length w.below)) counter v c store s stands.suited.calls left) is

-- ---- the loop

stands_keeping : (w : Around) (v : Setting) (st : Standing) (bodies : Bodies) (inside : BodiesWithin) (ks : List ℤ) (n : ℕ) → length ks ≡ n → StandsAs w v st bodies inside → StandsAs (keeping w ks) v (taking st n) bodies inside
stands_keeping w v st bodies inside ks n long stands =
    record {
      suited = kept_suited w v (layout st.site) bodies inside ks stands.suited;
      rows = stands.rows;
      free = omega (arith, stands.free, long, length-append w.kept ks);
      results = stands.results;
      exits = stands.exits;
      way_out = stands.way_out;
    }

pub loops_act : LoopLaw → LeavesLaw → LoopsAct
loops_act law leaves control ss keeps actions w v st bodies inside n from stands names fits has =
    record {
      lie = lie_wider rows turn back from behind (omega arith) (omega arith) (acts (replicate kept (pos 0)) (length-replicate kept (pos 0))).lie;
      comes = λ store store1 s s1 is. loop_comes v n control body store store1 s s1 is;
      follows = λ covered store s locals within h.
          law w v st bodies inside control places body along n from locals store s stands names fits.0 (standing covered) within h;
    }
  where
    all : List Instr
    all = w.code.instrs

    kept : ℕ
    kept = locals_kept control

    body : Meaning (Unit {0})
    body = statements_mean v n ss

    along : Along
    along = statements_within v (calls_from inside w) n ss

    ssize : ℕ
    ssize = statements_size st.site ss

    turn : ℕ
    turn = from + control_size control

    back : ℕ
    back = turn + ssize

    again : ℕ
    again = from + before_turns_size control

    behind : ℕ
    behind = from + (control_size control + (ssize + turn_back_size (go_on ss)))

    rows : List Handler
    rows = statements_rows st.site ss turn

    places : LoopPlaces
    places = record { from = from; until = behind; rows = rows; again = again; turn = turn; back = back; behind = behind }

    head : List Instr
    head = control_code st control behind from

    turned : List Instr
    turned = statements_code (taking st kept) ss turn

    returning : List Instr
    returning = turn_back_code (go_on ss) again

    has_turn : HasAt all turn (turned ++ returning)
    has_turn = has_back all from turn head (turned ++ returning) (ap (λ (j : ℕ). from + j) (control_length st control behind from fits.0)) has

    acts : (ks : List ℤ) → length ks ≡ kept → Acts (keeping w ks) turn back rows back (go_on ss) along body
    acts ks long =
        actions (keeping w ks) v (taking st kept) bodies inside n turn (stands_keeping w v st bodies inside ks kept long stands) (names_inside w from behind turn back (omega arith) (omega arith) names) fits.1 (has_front all turn turned returning has_turn)

    inner : Embeds rows turn back rows from behind
    inner = record { low = omega arith; high = omega arith; same = λ place x l u. refl }

    lie : LieIn rows turn back
    lie = (acts (replicate kept (pos 0)) (length-replicate kept (pos 0))).lie

    again_there : (g : Bool) → g ≡ true → HasAt all back (turn_back_code g again) → slice_get all back ≡ Some (i.Again again)
    again_there true e h = h.0
    again_there false e h = absurd (let no : ⊥ = cc in no)

    condition_goes : (ks : List ℤ) → length ks ≡ kept → (place : ℕ) → condition_place places control place → (o : Option ExprTree) → condition_of control ≡ o → ConditionGoes (keeping w ks) v (calls_from inside w) places place o
    condition_goes ks long place end None is =
        let e : place ≡ turn = omega (arith, end, ap some_while_size is) in e
    condition_goes ks long place end (Some e) is =
        let fit : FitsNumber (layout st.site) e = condition_fits st control e fits.0 is in
        let ends : place + condition_size e false ≡ turn = omega (arith, end, ap some_while_size is) in
        let room : from ≤ place = omega (arith, condition_room control e is, ends) in
        let w2 : Around = keeping w ks in
        let stands2 : StandsAs w2 v (taking st kept) bodies inside = stands_keeping w v st bodies inside ks kept long stands in
        λ store s locals within h.
        embedded (embeds_before rows place turn turn back from behind lie room (omega arith) (omega arith))
        (condition_runs w2 v (layout st.site) bodies inside place turn (st.free + kept) e false behind place turn [] locals store s stands2.suited (names_inside w from behind place turn room (omega arith) names) stands2.free fit.0 fit.1 ends (omega arith) (omega arith)
        (condition_there w st control e behind from place fits.0 is ends (has_front all from head (turned ++ returning) has))
        (open_here w2 v inside (λ c. expr_within v c e store s) stands2.suited.open_now within) h)

    standing : IsCovered w from behind rows → LoopStands w v st inside control places from body along
    standing covered =
        record {
          has = has_front all from head (turned ++ returning) has;
          again = refl;
          turn = refl;
          from = omega arith;
          until = omega arith;
          untaken = λ place x l u. untaken_before rows turn back place x lie u;
          condition = λ ks long place end. condition_goes ks long place end (condition_of control) refl;
          actions = λ ks long store s locals within h. acts_in inner (acts ks long) (record { at = covered.at }) store s locals within h;
          back = λ store store1 s s1 is. again_there (go_on ss) ((acts (replicate kept (pos 0)) (length-replicate kept (pos 0))).comes store store1 s s1 is) (has_back all turn back turned returning (ap (λ (j : ℕ). turn + j) (statements_length (taking st kept) (length st.exits) ss turn fits.1)) has_turn);
          counter = counter_stays leaves w v st bodies inside n control ss stands keeps;
        }
