-- RECEIVE CASE: the wait, the names that are set, and the alternative that is chosen, or ELSE.
use Rattle.std.proofs.Common.{◌≡◌, ℕ, zero, suc, ◌+◌, ◌-◌, ◌*◌, ◌<◌, ◌≤◌, ◌==◌, if◌then◌else◌, nat_le, le-leb, eqb-true, int_le, int_lt, Bool, true, false, ◌&&◌, ◌||◌, List, [], ◌∷◌, ◌++◌, ℤ, pos, length, Option, Some, None, slice_index_or, refl, sym, ap, ◌∙◌, subst, arith, append_assoc, append-nil, length-append, ◌⊎◌, inl, inr}
use Rattle.std.proofs.lemmas.Int.{ints}
use Rattle.std.specs.List.{list_any}
use Rattle.kernel_base.specs.declared.request.Alternative.{Alternative}
use Rattle.kernel_base.specs.declared.request.Request.{Request}
use Rattle.kernel_base.specs.declared.request.Request.TheVariants.{ReceiveBuffer, ReceiveSignal}
use Rattle.kernel_base.specs.declared.answer.Answer.{Answer}
use Rattle.kernel_base.specs.declared.answer.Answer.TheVariants.{Value, Done, Woken, Got, Otherwise, Instance, Fail, Chose, Handed, Stored}
use Rattle.world_model.specs.Session.{Session}
use Rattle.world_model.specs.Lists.{number_for, with_scalars}
use Rattle.scalar_operators.specs.Numbers.{where_true, comes_before, truth_number}
use Rattle.program_trees.specs.ExprTree.{LocationTree}
use Rattle.program_trees.specs.ProgramTree.{LocalRowTree}
use Rattle.program_trees.specs.StatementTree.{StatementNodes, ReceiveNodes, no_receives, more_receives, OtherwiseNode, no_otherwise, otherwise, receive_buffers, receive_signals}
use Rattle.code_types.specs.declared.instr.Instr.{Instr}
use Rattle.code_types.specs.declared.instr.Instr.TheVariants as i
use Rattle.code_types.specs.declared.code.Handler.{Handler}
use Rattle.code_types.specs.Places.{finds}
use Rattle.code_types.specs.Operands.{offset_of, slot_in, with_triple, Triples, triples_of}
use Rattle.code_types.specs.Actions.{Sets, Halts, Requests, in_frame, receives}
use Rattle.code_types.specs.Answers.{is_some_number, gives, gives_receive, no_slot, goes_on, pushed_by, locals_after}
use Rattle.code_types.specs.State.{Slot, Asking}
use Rattle.code_types.specs.Steps.{At}
use Rattle.source_meaning.specs.Store.{Store, Address}
use Rattle.source_meaning.specs.Flow.{Flow, Goes, Meaning, then_do, asked, fills, takes_answer}
use Rattle.source_meaning.specs.Operators.{one, truth}
use Rattle.source_meaning.specs.ExprMeaning.{Setting}
use Rattle.source_meaning.specs.StatementMeaning.{skip, set_to, set_address, spread_over, counts_over, receive_list, receive_counts, is_written, received_by, take_in, behind_wait, receive_with, statements_mean, receive_mean, otherwise_mean}
use Rattle.source_meaning.specs.BodyMeaning.{Bodies}
use Rattle.code_scheme.specs.Pieces.{Layout}
use Rattle.code_scheme.specs.StatementSite.{Standing, layout}
use Rattle.code_scheme.specs.StatementGoing.{go_on, leave_code}
use Rattle.code_scheme.specs.StatementWaits.{set_place_code, set_place_size, set_kept, chosen_in, set_code, set_size, first_received, scalars_received, sources_code, count_of_sources, Receives, from_buffers, of_signals, receive_instr, nothing_code, has_else, receive_wait_code, receive_wait_size, is_chosen_code}
use Rattle.code_scheme.specs.StatementSize.{statements_size, otherwise_size, receives_size}
use Rattle.code_scheme.specs.StatementCode.{CodeAt, no_code, next_place, chosen, statements_code, otherwise_code, receives_code}
use Rattle.code_scheme.specs.StatementRows.{RowsAt, otherwise_rows, receives_rows}
use Rattle.follow_laws.specs.Follows.{HasAt, scalars_in, Around, free_in, keeping, frame_at, state_at, here, Holds, GetsTo, Follows, always, Does, action_in}
use Rattle.follow_laws.specs.Laws.{GoesOnBehind, counts_in}
use Rattle.follow_laws.specs.Parts.{IsCovered}
use Rattle.code_laws.specs.BodyBounds.{BodiesWithin}
use Rattle.code_laws.specs.OwnBounds.{where_goes}
use Rattle.code_laws.specs.Expressions.{NamesIn}
use Rattle.follow_laws.proofs.Running.{has_front, has_back, stays, gets_then, after, follows_then_is, comes, forgotten, forgetting}
use Rattle.follow_laws.proofs.Requesting.{IsNoFailure, asks_by}
use Rattle.follow_laws.proofs.Holding.{HasPart, IsSet, scratch_set, kept_read}
use Rattle.follow_laws.proofs.Instructions.{puts_on, sets_by, pushes_by, renamed, offset_is}
use Rattle.code_laws.proofs.Values.{both_true}
use Rattle.code_laws.proofs.OperatorRuns.{truth_back}
use Rattle.code_laws.proofs.BetweenRuns.{unless_run}
use Rattle.code_laws.proofs.ExprPieces.{there}
use Rattle.code_laws.proofs.ReceiveRuns.{thing_is}
use Rattle.code_laws.specs.StatementBounds.{Along, behind_wait_within, receive_case_within, statements_within, otherwise_within, receives_within}
use Rattle.code_laws.specs.StatementsInRange.{FollowEachOther, FitsSet, FitsOtherwise, FitsReceives}
use Rattle.code_laws.specs.Statements.{StandsAs, calls_from}
use Rattle.statement_code_laws.specs.Parts.{Acts}
use Rattle.statement_code_laws.specs.Actions.{ActionActs}
use Rattle.statement_code_laws.specs.StatementForms.{StatementsAct, SomeAct}
use Rattle.statement_code_laws.proofs.Lengths.{leave_length, statements_length, set_place_length, sources_length, nothing_length, receive_wait_length}
use Rattle.statement_code_laws.proofs.Joining.{lie_wider, Embeds, embeds_before, embeds_then, embedded, covered_inside, acts_in, no_part}
use Rattle.statement_code_laws.proofs.ChoiceRuns.{names_inside, RestActs}
use Rattle.statement_code_laws.proofs.SelectRuns.{Selects, IsFirst, IsOther, alternative_acts}
use Rattle.statement_code_laws.proofs.SetRuns.{IsKept, KeepsPlace, kept_long, set_place_runs, set_runs}
use Rattle.statement_code_laws.proofs.DelayRuns.{number_from, is_number_of, chosen_run, is_first_number, is_later_number, later_same, then_same}
use Rattle.statement_code_laws.proofs.SpreadRuns.{received_set, received_inside, received_counts}

no_truth : {A : Type 0} → false ≡ true → A
no_truth e = absurd (let no : ⊥ = cc in no)

-- ---- the alternatives, and what stands behind them

-- an alternative that there is
abbrev pub is_one_of : ReceiveNodes → ℕ → Type 0
is_one_of rs m = m < count_of_sources rs

-- the alternatives act, and so does what stands behind them at its place
pub record Receptions (w : Around) (kept j from behind last : ℕ) (rs : ReceiveNodes) (rows : List Handler) (rest_rows : RowsAt) (within : ℕ → Along) (mean : ℕ → Meaning (Unit {0})) (along : Along) (none : Meaning (Unit {0})) : Type 0 where
  pub nothing : ℕ
  pub ends : nothing + last ≡ behind
  pub from_there : from ≤ nothing
  pub rest : Acts w nothing behind (rest_rows nothing) behind true along none
  pub inner : Embeds (rest_rows nothing) nothing behind rows from behind
  pub selects : Selects w kept (number_from j) (is_one_of rs) from behind rows behind true within mean

abbrev pub ReceivesAct : ReceiveNodes → Type 0
ReceivesAct rs = (w : Around) (v : Setting) (st : Standing) (bodies : Bodies) (inside : BodiesWithin) (n kept j from behind last : ℕ) (rest : CodeAt) (rest_rows : RowsAt) (along : Along) (none : Meaning (Unit {0}))
    → StandsAs w v st bodies inside → from + receives_size st.site rs last ≡ behind → NamesIn w from behind → FitsReceives st.site (length st.exits) rs
    → RestActs w last rest rest_rows true along none
    → HasAt w.code.instrs from (receives_code st kept j rs behind last rest from)
    → Receptions w kept j from behind last rs (receives_rows st.site rs last rest_rows from) rest_rows (receives_within v (calls_from inside w) n rs) (receive_mean v n rs) along none

pub no_receives_act : ReceivesAct no_receives
no_receives_act w v st bodies inside n kept j from behind last rest rest_rows along none stands end names fits acts has =
    let acting : Acts w from behind (rest_rows from) behind true along none = subst (λ (k : ℕ). Acts w from k (rest_rows from) k true along none) end (acts from (subst (λ (k : ℕ). NamesIn w from k) (sym end) names) has) in
    record {
      nothing = from;
      ends = end;
      from_there = omega arith;
      rest = acting;
      inner = record { low = omega arith; high = omega arith; same = λ place x l u. refl };
      selects = record {
        lie = acting.lie;
        comes = λ x store store1 s s1 c e. refl;
        follows = λ covered x store s locals c within h part. absurd (let no : ⊥ = omega (arith, c) in no);
      };
    }

pub more_receives_act : (source : ℕ) (ks : List ℕ) (ss : StatementNodes) (rs : ReceiveNodes) → StatementsAct ss → ReceivesAct rs → ReceivesAct (more_receives source ks ss rs)
more_receives_act source ks ss rs first others w v st bodies inside n kept j from behind last rest rest_rows along none stands end names fits acts has =
    record {
      nothing = more.nothing;
      ends = more.ends;
      from_there = omega (arith, more.from_there);
      rest = more.rest;
      inner = embeds_then more.inner alternative.1;
      selects = alternative.0;
    }
  where
    size : ℕ
    size = receives_size st.site rs last

    next : ℕ
    next = next_place from (3 + suc (statements_size st.site ss)) (go_on ss) size

    others_code : List Instr
    others_code = receives_code st kept (suc j) rs behind last rest next

    more_from : HasAt w.code.instrs next others_code → Receptions w kept (suc j) next behind last rs (receives_rows st.site rs last rest_rows next) rest_rows (receives_within v (calls_from inside w) n rs) (receive_mean v n rs) along none
    more_from has_more = others w v st bodies inside n kept (suc j) next behind last rest rest_rows along none stands (omega arith) (names_inside w from behind next behind (omega arith) (omega arith) names) fits.3 acts has_more

    decide : (x : ℕ) → is_one_of (more_receives source ks ss rs) x
        → IsFirst (is_number_of j) (number_from j) (receives_within v (calls_from inside w) n (more_receives source ks ss rs)) (receive_mean v n (more_receives source ks ss rs)) (statements_within v (calls_from inside w) n ss) (statements_mean v n ss) x
        ⊎ IsOther (is_number_of j) (number_from j) (number_from (suc j)) (is_one_of rs) (receives_within v (calls_from inside w) n (more_receives source ks ss rs)) (receive_mean v n (more_receives source ks ss rs)) (receives_within v (calls_from inside w) n rs) (receive_mean v n rs) x
    decide zero c = inl (is_first_number j, refl, refl)
    decide (suc m) c = inr (record { other = m; can = omega (arith, c); fails = is_later_number j m; same = later_same j m; inside = refl; means = refl })

    append_of : (a b c : List Instr) → (a ++ b) ++ c ≡ a ++ (b ++ c)
    append_of a b c = append_assoc a b c

    has_others : HasAt w.code.instrs next others_code
    has_others =
        has_back w.code.instrs from next (is_chosen_code kept j ++ chosen (statements_code st ss) (statements_size st.site ss) (go_on ss) size behind (from + 3)) others_code
        (omega (arith, length-append (statements_code st ss (from + 3 + 1)) (leave_code (go_on ss) size behind), statements_length st (length st.exits) ss (from + 3 + 1) fits.2, leave_length (go_on ss) size behind))
        (subst (λ (is : List Instr). HasAt w.code.instrs from is) (sym (append_of (is_chosen_code kept j) (chosen (statements_code st ss) (statements_size st.site ss) (go_on ss) size behind (from + 3)) others_code)) has)

    more : Receptions w kept (suc j) next behind last rs (receives_rows st.site rs last rest_rows next) rest_rows (receives_within v (calls_from inside w) n rs) (receive_mean v n rs) along none
    more = more_from has_others

    alternative : Selects w kept (number_from j) (is_one_of (more_receives source ks ss rs)) from behind (receives_rows st.site (more_receives source ks ss rs) last rest_rows from) behind true (receives_within v (calls_from inside w) n (more_receives source ks ss rs)) (receive_mean v n (more_receives source ks ss rs))
        × Embeds (receives_rows st.site rs last rest_rows next) next behind (receives_rows st.site (more_receives source ks ss rs) last rest_rows from) from behind
    alternative =
        alternative_acts w v st bodies inside n kept from 3 size behind ss others_code (is_chosen_code kept j) (is_number_of j) (receives_rows st.site rs last rest_rows next) true true
        (number_from j) (number_from (suc j)) (is_one_of (more_receives source ks ss rs)) (is_one_of rs) (receives_within v (calls_from inside w) n (more_receives source ks ss rs)) (receive_mean v n (more_receives source ks ss rs)) (receives_within v (calls_from inside w) n rs) (receive_mean v n rs)
        stands names fits.2 first refl end has
        (λ z s locals part has_test. chosen_run w kept j z from s locals part has_test)
        (λ e. refl) (λ e. refl) decide (λ has_more. (more_from has_more).selects)

-- ---- what the request is told

-- each source with the locals that get what comes of it
abbrev sources_pushed : List LocalRowTree → ReceiveNodes → List ℤ
sources_pushed rows no_receives = []
sources_pushed rows (more_receives source ks ss rs) = pos source ∷ pos (first_received rows ks) ∷ pos (scalars_received rows ks) ∷ sources_pushed rows rs

sources_run : (w : Around) (rows : List LocalRowTree) (rs : ReceiveNodes) (at : ℕ) (stack locals : List ℤ) (s : Session) → HasAt w.code.instrs at (sources_code rows rs)
    → GetsTo w.code (here w at stack locals s) (here w (at + 3 * count_of_sources rs) (stack ++ sources_pushed rows rs) locals s)
sources_run w rows no_receives at stack locals s has = renamed w at (at + 3 * 0) stack (stack ++ []) locals s (let e : at ≡ at + 3 * 0 = omega arith in e) (sym (append-nil stack))
sources_run w rows (more_receives source ks ss rs) at stack locals s has =
    let first : ℤ = pos (first_received rows ks) in
    let count : ℤ = pos (scalars_received rows ks) in
    let more : List ℤ = sources_pushed rows rs in
    gets_then (puts_on w (i.Thing source) at stack locals s (one (pos source)) has.0 refl refl)
    (gets_then (puts_on w (i.Push first) (at + 1) (stack ++ one (pos source)) locals s (one first) has.1.0 refl refl)
    (gets_then (puts_on w (i.Push count) (at + 1 + 1) ((stack ++ one (pos source)) ++ one first) locals s (one count) has.1.1.0 refl refl)
    (gets_then (sources_run w rows rs (at + 1 + 1 + 1) (((stack ++ one (pos source)) ++ one first) ++ one count) locals s has.1.1.1)
    (renamed w (at + 1 + 1 + 1 + 3 * count_of_sources rs) (at + 3 * count_of_sources (more_receives source ks ss rs)) ((((stack ++ one (pos source)) ++ one first) ++ one count) ++ more) (stack ++ (pos source ∷ first ∷ count ∷ more)) locals s (omega arith)
    (append_assoc ((stack ++ one (pos source)) ++ one first) (one count) more ∙ (append_assoc (stack ++ one (pos source)) (one first) (count ∷ more) ∙ append_assoc stack (one (pos source)) (first ∷ count ∷ more)))))))

pushed_long : (rows : List LocalRowTree) (rs : ReceiveNodes) → length (sources_pushed rows rs) ≡ 3 * count_of_sources rs
pushed_long rows no_receives = refl
pushed_long rows (more_receives source ks ss rs) = omega (arith, pushed_long rows rs)

abbrev slot_for : List LocalRowTree → List ℕ → Slot
slot_for rows ks = record { local = first_received rows ks; count = scalars_received rows ks }

abbrev slots_for : List LocalRowTree → ReceiveNodes → List Slot
slots_for rows no_receives = []
slots_for rows (more_receives source ks ss rs) = slot_for rows ks ∷ slots_for rows rs

-- the names of each alternative follow each other, and each source has a number of 32 bits
triples_is : (w : Around) (st : Standing) (m k : ℕ) (rs : ReceiveNodes) (store : Store) (locals : List ℤ) → (layout st.site).rows ≡ w.rows → FitsReceives st.site m rs → Holds w store locals
    → triples_of (length locals) k (sources_pushed st.site.body.locals rs) ≡ Some (record { things = receive_list k rs; slots = slots_for st.site.body.locals rs })
triples_is w st m k no_receives store locals rows fits h = refl
triples_is w st m k (more_receives source ks ss rs) store locals rows fits h =
    let lay : Layout = layout st.site in
    let first : ℕ = first_received lay.rows ks in
    let count : ℕ = scalars_received lay.rows ks in
    let rest : Option Triples = triples_of (length locals) (suc k) (sources_pushed lay.rows rs) in
    let inside : nat_le (first + count) (length locals) ≡ true = le-leb (first + count) (length locals) (received_inside w lay ks store locals rows fits.1 h) in
    ap (λ (o : Option ℕ). with_triple k o (slot_in (length locals) (offset_of (pos first)) (offset_of (pos count))) rest) (thing_is source fits.0)
    ∙ (ap (λ (o : Option ℕ). with_triple k (Some source) (slot_in (length locals) o (offset_of (pos count))) rest) (offset_is first)
    ∙ (ap (λ (o : Option ℕ). with_triple k (Some source) (slot_in (length locals) (Some first) o) rest) (offset_is count)
    ∙ (ap (λ (t : Bool). with_triple k (Some source) (where_true t (slot_for lay.rows ks)) rest) inside
    ∙ ap (λ (o : Option Triples). with_triple k (Some source) (Some (slot_for lay.rows ks)) o) (triples_is w st m (suc k) rs store locals rows fits.3 h))))

counts_is : (rows : List LocalRowTree) (rs : ReceiveNodes) → counts_in (slots_for rows rs) ≡ receive_counts rows rs
counts_is rows no_receives = refl
counts_is rows (more_receives source ks ss rs) = ap (λ (n : ℕ). n ∷ counts_in (slots_for rows rs)) (received_counts rows ks) ∙ ap (λ (l : List ℕ). counts_over rows ks ∷ l) (counts_is rows rs)

-- ---- what is got is one of the alternatives

-- the numbers of alternatives are less than this one
abbrev AreBelow : ℕ → List Alternative → Type 0
AreBelow top [] = Unit {0}
AreBelow top (a ∷ as') = (a.number < top) × AreBelow top as'

-- each number for a thing is that of an alternative
numbered : (as' : List Alternative) (top thing k : ℕ) → AreBelow top as' → number_for as' thing ≡ Some k → k < top
numbered [] top thing k below e = absurd (let no : ⊥ = cc in no)
numbered (a ∷ as') top thing k below e = by_test (a.thing == thing) (λ f. numbered as' top thing k below.1 f) e
  where
    by_test : (t : Bool) → (number_for as' thing ≡ Some k → k < top) → (if t then Some a.number else number_for as' thing) ≡ Some k → k < top
    by_test true later f = let same : a.number ≡ k = cc in omega (arith, same, below.0)
    by_test false later f = later f

listed_below : (all as' : List Alternative) (top k : ℕ) → AreBelow top all → list_any (λ a. is_some_number (number_for all a.thing) k) as' ≡ true → k < top
listed_below all [] top k below e = no_truth e
listed_below all (a ∷ as') top k below e = by_number (number_for all a.thing) refl (λ f. listed_below all as' top k below f) e
  where
    by_same : (m : ℕ) (t : Bool) → (m == k) ≡ t → m < top → (list_any (λ b. is_some_number (number_for all b.thing) k) as' ≡ true → k < top) → (t || list_any (λ b. is_some_number (number_for all b.thing) k) as') ≡ true → k < top
    by_same m true same small later f = let e2 : m ≡ k = eqb-true m k same in omega (arith, e2, small)
    by_same m false same small later f = later f

    by_number : (o : Option ℕ) → number_for all a.thing ≡ o → (list_any (λ b. is_some_number (number_for all b.thing) k) as' ≡ true → k < top) → (is_some_number o k || list_any (λ b. is_some_number (number_for all b.thing) k) as') ≡ true → k < top
    by_number None is later f = later f
    by_number (Some m) is later f = by_same m (m == k) refl (numbered all top a.thing m below is) later f

list_below : (k top : ℕ) (rs : ReceiveNodes) → k + count_of_sources rs ≤ top → AreBelow top (receive_list k rs)
list_below k top no_receives room = tt
list_below k top (more_receives source ks ss rs) room = (omega arith, list_below (suc k) top rs (omega arith))

-- ---- the alternative of a number

slots_long : (rows : List LocalRowTree) (rs : ReceiveNodes) → length (slots_for rows rs) ≡ count_of_sources rs
slots_long rows no_receives = refl
slots_long rows (more_receives source ks ss rs) = ap suc (slots_long rows rs)

slot_at : (rows : List LocalRowTree) (rs : ReceiveNodes) (k : ℕ) → k < count_of_sources rs → slice_index_or (slots_for rows rs) k no_slot ≡ slot_for rows (received_by k rs)
slot_at rows no_receives k c = absurd (let no : ⊥ = omega (arith, c) in no)
slot_at rows (more_receives source ks ss rs) zero c = refl
slot_at rows (more_receives source ks ss rs) (suc k) c = slot_at rows rs k (omega (arith, c))

count_at : (rows : List LocalRowTree) (rs : ReceiveNodes) (k : ℕ) → k < count_of_sources rs → slice_index_or (counts_in (slots_for rows rs)) k 0 ≡ counts_over rows (received_by k rs)
count_at rows no_receives k c = absurd (let no : ⊥ = omega (arith, c) in no)
count_at rows (more_receives source ks ss rs) zero c = received_counts rows ks
count_at rows (more_receives source ks ss rs) (suc k) c = count_at rows rs k (omega (arith, c))

names_at : (st : Standing) (m : ℕ) (rs : ReceiveNodes) (k : ℕ) → FitsReceives st.site m rs → k < count_of_sources rs → FollowEachOther (layout st.site) (received_by k rs)
names_at st m no_receives k fits c = absurd (let no : ⊥ = omega (arith, c) in no)
names_at st m (more_receives source ks ss rs) zero fits c = fits.1
names_at st m (more_receives source ks ss rs) (suc k) fits c = names_at st m rs k fits.3 (omega (arith, c))

-- ---- requests of both kinds

abbrev asks_for : Receives → List Alternative → Bool → Request
asks_for from_buffers things t = ReceiveBuffer things t
asks_for of_signals things t = ReceiveSignal things t

asks_on : (kind : Receives) (things : List Alternative) (t : Bool) → GoesOnBehind (asks_for kind things t)
asks_on from_buffers things t = tt
asks_on of_signals things t = tt

found_is : (w : Around) (kind : Receives) (n : ℕ) (t : Bool) → finds w.code w.body (receive_instr kind n t) ≡ 3 * n
found_is w from_buffers n t = refl
found_is w of_signals n t = refl

does_is : (w : Around) (kind : Receives) (n : ℕ) (t : Bool) (at : ℕ) (xs locals : List ℤ) (things : List Alternative) (slots : List Slot) → triples_of (length locals) 0 xs ≡ Some (record { things = things; slots = slots })
    → action_in w (receive_instr kind n t) at xs locals xs ≡ Requests (asks_for kind things t) slots
does_is w from_buffers n t at xs locals things slots is = ap (λ (o : Option Triples). receives o (λ triples. ReceiveBuffer triples.things t)) is
does_is w of_signals n t at xs locals things slots is = ap (λ (o : Option Triples). receives o (λ triples. ReceiveSignal triples.things t)) is

gives_is : (kind : Receives) (things : List Alternative) (t : Bool) (a : Answer) → gives (asks_for kind things t) a ≡ gives_receive things t a
gives_is from_buffers things t a = refl
gives_is of_signals things t a = refl

state_is : (w : Around) (kind : Receives) (things : List Alternative) (t : Bool) (slots : List Slot) (at : ℕ) (locals : List ℤ) (a : Answer) (s : Session)
    → GetsTo w.code (At (goes_on (state_at w (Asking (asks_for kind things t) slots) at [] locals) (asks_for kind things t) slots a (frame_at w at [] locals ∷ w.below)) s) (here w (at + 1) (pushed_by (length slots) a) (locals_after slots a locals) s)
state_is w from_buffers things t slots at locals a s = stays w.code (here w (at + 1) (pushed_by (length slots) a) (locals_after slots a locals) s)
state_is w of_signals things t slots at locals a s = stays w.code (here w (at + 1) (pushed_by (length slots) a) (locals_after slots a locals) s)

written_is : (o : OtherwiseNode) → has_else o ≡ is_written o
written_is no_otherwise = refl
written_is (otherwise ss) = refl

-- ---- what an answer leaves

-- the names of an alternative have what was received, or nothing came; a place is kept
abbrev ReceivedKeeps : Around → List ℤ → List LocalRowTree → ReceiveNodes → Bool → Answer → Store → List ℤ → Type 0
ReceivedKeeps w ks rows rs t (Got k m xs by) store locals = (k < count_of_sources rs) × Holds (keeping w ks) (spread_over rows (received_by k rs) xs store) locals
ReceivedKeeps w ks rows rs t Otherwise store locals = (t ≡ true) × Holds (keeping w ks) store locals
ReceivedKeeps w ks rows rs t answer store locals = ⊥

received_comes : (w : Around) (st : Standing) (m : ℕ) (rows : List LocalRowTree) (rs : ReceiveNodes) (kind : Receives) (t : Bool) (at lo hi : ℕ) (all_rows : List Handler) (ks locals : List ℤ) (store : Store)
    → (layout st.site).rows ≡ w.rows → (layout st.site).rows ≡ rows → FitsReceives st.site m rs → Holds (keeping w ks) store locals
    → (a : Answer) (s1 : Session) → IsNoFailure a → takes_answer (asks_for kind (receive_list 0 rs) t) (counts_in (slots_for (layout st.site).rows rs)) a ≡ true
    → Follows w (At (goes_on (state_at w (Asking (asks_for kind (receive_list 0 rs) t) (slots_for (layout st.site).rows rs)) at [] locals) (asks_for kind (receive_list 0 rs) t) (slots_for (layout st.site).rows rs) a (frame_at w at [] locals ∷ w.below)) s1) lo hi all_rows (always (at + 1)) (pushed_by (count_of_sources rs)) (ReceivedKeeps w ks rows rs t) (Goes a store s1)
received_comes w st m rows rs kind t at lo hi all_rows ks locals store same same2 fits h a s1 given fit = by_answer a given (sym (gives_is kind (receive_list 0 rs) t a) ∙ (both_true _ _ fit).0) (both_true _ _ fit).1
  where
    lay : Layout
    lay = layout st.site

    slots : List Slot
    slots = slots_for lay.rows rs

    things : List Alternative
    things = receive_list 0 rs

    long : length slots ≡ count_of_sources rs
    long = slots_long lay.rows rs

    by_answer : (a2 : Answer) → IsNoFailure a2 → gives_receive things t a2 ≡ true → fills (counts_in slots) a2 ≡ true
        → Follows w (At (goes_on (state_at w (Asking (asks_for kind things t) slots) at [] locals) (asks_for kind things t) slots a2 (frame_at w at [] locals ∷ w.below)) s1) lo hi all_rows (always (at + 1)) (pushed_by (count_of_sources rs)) (ReceivedKeeps w ks rows rs t) (Goes a2 store s1)
    by_answer (Got k q xs by) given2 gives2 filled =
        let below : k < count_of_sources rs = listed_below things things (count_of_sources rs) k (list_below 0 (count_of_sources rs) rs (omega arith)) (both_true _ _ gives2).0 in
        let slot : slice_index_or slots k no_slot ≡ slot_for lay.rows (received_by k rs) = slot_at lay.rows rs k below in
        let xs_long : length xs ≡ counts_over lay.rows (received_by k rs) = eqb-true (length xs) (slice_index_or (counts_in slots) k 0) filled ∙ count_at lay.rows rs k below in
        let set : IsSet (keeping w ks) (spread_over lay.rows (received_by k rs) xs store) locals (first_received lay.rows (received_by k rs)) xs = received_set (keeping w ks) lay (received_by k rs) xs store locals same (names_at st m rs k fits below) xs_long h in
        let held : Holds (keeping w ks) (spread_over rows (received_by k rs) xs store) (with_scalars locals (slice_index_or slots k no_slot).local xs) =
        subst (λ (rs2 : List LocalRowTree). Holds (keeping w ks) (spread_over rs2 (received_by k rs) xs store) (with_scalars locals (slice_index_or slots k no_slot).local xs)) same2
        (subst (λ (q2 : Slot). Holds (keeping w ks) (spread_over lay.rows (received_by k rs) xs store) (with_scalars locals q2.local xs)) (sym slot) set.holds) in
        after (state_is w kind things t slots at locals (Got k q xs by) s1) (comes {v = Got k q xs by} refl refl (below, held))
    by_answer Otherwise given2 gives2 filled =
        after (state_is w kind things t slots at locals Otherwise s1)
        (comes {v = Otherwise} refl (ap (λ (n : ℕ). pushed_by n Otherwise) long) (gives2, h))
    by_answer (Fail x) given2 gives2 filled = absurd given2
    by_answer (Value xs) given2 gives2 filled = no_truth gives2
    by_answer Done given2 gives2 filled = no_truth gives2
    by_answer (Woken k by) given2 gives2 filled = no_truth gives2
    by_answer (Instance j) given2 gives2 filled = no_truth gives2
    by_answer (Chose c) given2 gives2 filled = no_truth gives2
    by_answer (Handed j) given2 gives2 filled = no_truth gives2
    by_answer Stored given2 gives2 filled = no_truth gives2

-- ---- whether something came

less_by : (t : Bool) (k n : ℕ) → int_lt (pos k) (pos n) ≡ t → comes_before (one (pos k)) (one (pos n)) ≡ t
less_by true k n e = ap (λ (u : Bool). u || (int_le (pos k) (pos n) && false)) e
less_by false k n e = ap (λ (u : Bool). u || (int_le (pos k) (pos n) && false)) e ∙ and_false (int_le (pos k) (pos n))
  where
    and_false : (u : Bool) → (u && false) ≡ false
    and_false true = refl
    and_false false = refl

is_less : (k n : ℕ) → k < n → int_lt (pos k) (pos n) ≡ true
is_less k n h = by_test (int_lt (pos k) (pos n)) refl
  where
    by_test : (t : Bool) → int_lt (pos k) (pos n) ≡ t → int_lt (pos k) (pos n) ≡ true
    by_test true e = e
    by_test false e = absurd (let no : ⊥ = omega (arith, ints, e, h) in no)

not_less : (n : ℕ) → int_lt (pos n) (pos n) ≡ false
not_less n = by_test (int_lt (pos n) (pos n)) refl
  where
    by_test : (t : Bool) → int_lt (pos n) (pos n) ≡ t → int_lt (pos n) (pos n) ≡ false
    by_test false e = e
    by_test true e = absurd (let no : ⊥ = omega (arith, ints, e) in no)

-- the test of the number that is kept against that of the alternatives
nothing_run : (w : Around) (chosen n nothing k at : ℕ) (t : Bool) (locals : List ℤ) (s : Session) → HasPart locals chosen 1 (one (pos k)) → int_lt (pos k) (pos n) ≡ t → HasAt w.code.instrs at (nothing_code true chosen n nothing)
    → GetsTo w.code (here w at [] locals s) (here w (if t then at + 4 else nothing) [] locals s)
nothing_run w chosen n nothing k at t locals s part less has =
    let b : Bool = comes_before (one (pos k)) (one (pos n)) in
    gets_then (puts_on w (i.Local chosen 1) at [] locals s (one (pos k)) has.0 refl (ap in_frame part.is))
    (gets_then (puts_on w (i.Push (pos n)) (at + 1) (one (pos k)) locals s (one (pos n)) has.1.0 refl refl)
    (gets_then (pushes_by w (i.Less 1) (at + 1 + 1) [] (pos k ∷ pos n ∷ []) locals s (truth b) has.1.1.0 refl refl)
    (gets_then (unless_run w (truth_number b) t nothing (at + 1 + 1 + 1) [] locals s (truth_back b ∙ less_by t k n less) has.1.1.1.0)
    (renamed w (if t then at + 1 + 1 + 1 + 1 else nothing) (if t then at + 4 else nothing) [] [] locals s (ap (λ (p : ℕ). if t then p else nothing) (let e : at + 1 + 1 + 1 + 1 ≡ at + 4 = omega arith in e)) refl))))

-- where one came, control goes on behind the test, if there is one
came_run : (w : Around) (has_rest : Bool) (chosen n nothing k at : ℕ) (locals : List ℤ) (s : Session) → HasPart locals chosen 1 (one (pos k)) → k < n → HasAt w.code.instrs at (nothing_code has_rest chosen n nothing)
    → GetsTo w.code (here w at [] locals s) (here w (at + length (nothing_code has_rest 0 0 0)) [] locals s)
came_run w true chosen n nothing k at locals s part below has = nothing_run w chosen n nothing k at true locals s part (is_less k n below) has
came_run w false chosen n nothing k at locals s part below has = renamed w at (at + 0) [] [] locals s (let e : at ≡ at + 0 = omega arith in e) refl

-- ---- the whole

going : {w : Around} {from until behind : ℕ} {rows : List Handler} {goes : Bool} {within : Along} {mean : Meaning (Unit {0})} → Acts w from until rows behind goes within mean → Acts w from until rows behind true within mean
going a = record { lie = a.lie; comes = λ store store1 s s1 e. refl; follows = a.follows }

else_acts : (w : Around) (v : Setting) (st : Standing) (bodies : Bodies) (inside : BodiesWithin) (n : ℕ) (o : OtherwiseNode) → SomeAct o → StandsAs w v st bodies inside → FitsOtherwise st.site (length st.exits) o
    → RestActs w (otherwise_size st.site o 0) (otherwise_code st o no_code) (otherwise_rows st.site o) true (otherwise_within v (calls_from inside w) n o) (otherwise_mean v n o skip)
else_acts w v st bodies inside n no_otherwise some stands fits at names has =
    subst (λ (j : ℕ). Acts w at j [] j true (otherwise_within v (calls_from inside w) n no_otherwise) (otherwise_mean v n no_otherwise skip)) (let e : at ≡ at + 0 = omega arith in e) (no_part w at)
else_acts w v st bodies inside n (otherwise ss) some stands fits at names has = going (some w v st bodies inside n at stands names fits has)

pub reception_acts : (kind : Receives) (set : Option LocationTree) (rs : ReceiveNodes) (o : OtherwiseNode) → ReceivesAct rs → SomeAct o
    → (w : Around) (v : Setting) (st : Standing) (bodies : Bodies) (inside : BodiesWithin) (n from behind : ℕ)
    → StandsAs w v st bodies inside → from + (receive_wait_size set rs (has_else o) + receives_size st.site rs (otherwise_size st.site o 0)) ≡ behind → NamesIn w from behind
    → FitsSet (layout st.site) set → FitsReceives st.site (length st.exits) rs → FitsOtherwise st.site (length st.exits) o
    → HasAt w.code.instrs from (receive_wait_code st kind set rs (has_else o) (behind - otherwise_size st.site o 0) from ++ receives_code st (chosen_in st.free set) 0 rs behind (otherwise_size st.site o 0) (otherwise_code st o no_code) (from + receive_wait_size set rs (has_else o)))
    → Acts w from behind (receives_rows st.site rs (otherwise_size st.site o 0) (otherwise_rows st.site o) (from + receive_wait_size set rs (has_else o))) behind true
    (receive_case_within v (calls_from inside w) (asks_for kind (receive_list 0 rs) (is_written o)) set rs (receives_within v (calls_from inside w) n rs) (otherwise_within v (calls_from inside w) n o))
    (receive_with v (asks_for kind (receive_list 0 rs) (is_written o)) set rs (receive_mean v n rs) (otherwise_mean v n o skip))
reception_acts kind set rs o alternatives some w v st bodies inside n from behind stands end names fits_set fits fits_o has =
    record {
      lie = lie_wider rows at6 behind from behind (omega arith) (omega arith) found.selects.lie;
      comes = λ store store1 s s1 e. refl;
      follows = λ covered store s locals within h.
          follows_then_is
          (embedded (plain from at1 (omega arith) (omega arith))
          (set_place_runs w v st bodies inside set from at1 from at1 locals store s stands (names_inside w from behind from at1 (omega arith) (omega arith) names) fits_set refl (omega arith) (omega arith) (has_front all from place (sources ++ rest) has_wait) (both_true _ _ within).0 h))
          (λ address store1 s1 locals1 keeps is.
          waits covered address store1 s1 locals1 keeps (there (set_address v set store s) (λ a store2 s2. where_goes (asked request (receive_counts v.rows rs) store2 s2) (λ answer store3 s3. along_answer a answer store3 s3)) address store1 s1 (both_true _ _ within).1 is));
    }
  where
    all : List Instr
    all = w.code.instrs

    lay : Layout
    lay = layout st.site

    t : Bool
    t = has_else o

    last : ℕ
    last = otherwise_size st.site o 0

    count : ℕ
    count = count_of_sources rs

    chosen_local : ℕ
    chosen_local = chosen_in st.free set

    request : Request
    request = asks_for kind (receive_list 0 rs) (is_written o)

    none : Meaning (Unit {0})
    none = otherwise_mean v n o skip

    alternative : ℕ → Meaning (Unit {0})
    alternative = receive_mean v n rs

    along : ℕ → Along
    along = receives_within v (calls_from inside w) n rs

    along_none : Along
    along_none = otherwise_within v (calls_from inside w) n o

    along_answer : Option Address → Answer → Along
    along_answer a answer store s = where_goes (take_in v.rows rs answer store s) (λ come store1 s1. behind_wait_within a along along_none come store1 s1)

    at1 : ℕ
    at1 = from + set_place_size set

    at2 : ℕ
    at2 = at1 + 3 * count

    at4 : ℕ
    at4 = at2 + 1 + 1

    at5 : ℕ
    at5 = at4 + length (nothing_code t 0 0 0)

    at6 : ℕ
    at6 = from + receive_wait_size set rs t

    set_ends : at5 + set_size set ≡ at6
    set_ends = omega arith

    place : List Instr
    place = set_place_code st set from

    sources : List Instr
    sources = sources_code st.site.body.locals rs

    test : List Instr
    test = nothing_code t chosen_local count (behind - last)

    rest : List Instr
    rest = receive_instr kind count t ∷ i.SetLocal chosen_local 2 ∷ (test ++ set_code st set)

    wait : List Instr
    wait = receive_wait_code st kind set rs t (behind - last) from

    parts : List Instr
    parts = receives_code st chosen_local 0 rs behind last (otherwise_code st o no_code) at6

    rows : List Handler
    rows = receives_rows st.site rs last (otherwise_rows st.site o) at6

    has_wait : HasAt all from wait
    has_wait = has_front all from wait parts has

    has1 : HasAt all at1 (sources ++ rest)
    has1 = has_back all from at1 place (sources ++ rest) (ap (λ (j : ℕ). from + j) (set_place_length st set from fits_set)) has_wait

    has2 : HasAt all at2 rest
    has2 = has_back all at1 at2 sources rest (ap (λ (j : ℕ). at1 + j) (sources_length st.site.body.locals rs)) has1

    has_test : HasAt all at4 test
    has_test = has_front all at4 test (set_code st set) has2.1.1

    has_set : HasAt all at5 (set_code st set)
    has_set = has_back all at4 at5 test (set_code st set) (ap (λ (j : ℕ). at4 + j) (nothing_length t chosen_local count (behind - last))) has2.1.1

    found : Receptions w chosen_local 0 at6 behind last rs rows (otherwise_rows st.site o) along alternative along_none none
    found =
        alternatives w v st bodies inside n chosen_local 0 at6 behind last (otherwise_code st o no_code) (otherwise_rows st.site o) along_none none stands (omega arith) (names_inside w from behind at6 behind (omega arith) (omega arith) names) fits
        (else_acts w v st bodies inside n o some stands fits_o)
        (has_back all from at6 wait parts (ap (λ (j : ℕ). from + j) (receive_wait_length st kind set rs t (behind - last) from fits_set)) has)

    plain : (lo hi : ℕ) → from ≤ lo → hi ≤ at6 → Embeds [] lo hi rows from behind
    plain lo hi l u = embeds_before rows lo hi at6 behind from behind found.selects.lie l u (omega arith)

    inner : Embeds rows at6 behind rows from behind
    inner = record { low = omega arith; high = omega arith; same = λ p x l u. refl }

    written : t ≡ is_written o
    written = written_is o

    counts_same : counts_in (slots_for lay.rows rs) ≡ receive_counts v.rows rs
    counts_same = counts_is lay.rows rs ∙ ap (λ (rs2 : List LocalRowTree). receive_counts rs2 rs) (stands.suited.rows ∙ sym stands.rows)

    -- two numbers are kept behind the place
    kept_runs : (ks : List ℤ) (x y : ℕ) (store : Store) (s : Session) (locals : List ℤ) → length ks ≡ set_kept set → Holds (keeping w ks) store locals
        → GetsTo w.code (here w (at2 + 1) (pos x ∷ pos y ∷ []) locals s) (here w at4 [] (with_scalars locals chosen_local (pos x ∷ pos y ∷ [])) s) × Holds (keeping (keeping w ks) (pos x ∷ pos y ∷ [])) store (with_scalars locals chosen_local (pos x ∷ pos y ∷ []))
        × HasPart (with_scalars locals chosen_local (pos x ∷ pos y ∷ [])) chosen_local 1 (one (pos x))
    kept_runs ks x y store s locals long h =
        let ls : List ℤ = pos x ∷ pos y ∷ [] in
        let free_is : chosen_local ≡ free_in (keeping w ks) = omega (arith, stands.free, long, length-append w.kept ks) in
        let room : chosen_local + 2 ≤ w.row.locals = names (at2 + 1) (i.SetLocal chosen_local 2) (omega arith) (omega arith) has2.1.0 in
        let put : IsSet (keeping (keeping w ks) ls) store locals chosen_local ls = scratch_set (keeping w ks) store locals ls chosen_local h free_is room in
        let fit : nat_le (chosen_local + 2) (length locals) ≡ true = le-leb (chosen_local + 2) (length locals) put.inside in
        let at_chosen : chosen_local ≡ scalars_in w.rows + (w.results + length (w.kept ++ ks)) = omega (arith, stands.free, long, length-append w.kept ks) in (
          sets_by w (i.SetLocal chosen_local 2) (at2 + 1) [] ls locals s chosen_local ls has2.1.0 refl (ap (λ (u : Bool). if u then Sets chosen_local ls else Halts) fit),
          put.holds,
          kept_read (keeping (keeping w ks) ls) store (with_scalars locals chosen_local ls) (w.kept ++ ks) (one (pos x)) (one (pos y)) chosen_local 1 put.holds refl at_chosen refl,
        )

    -- the alternative, whose number is kept
    chosen_follows : IsCovered w from behind rows → (ks : List ℤ) (k by : ℕ) (store : Store) (s : Session) (locals : List ℤ) → length ks ≡ set_kept set → k < count → along k store s ≡ true
        → Holds (keeping (keeping w ks) (pos k ∷ pos by ∷ [])) store locals → Does w (here w at6 [] locals s) from behind rows behind (alternative k store s)
    chosen_follows covered ks k by store s locals long below within h =
        let ls : List ℤ = pos k ∷ pos by ∷ [] in
        let at_chosen : chosen_local ≡ scalars_in w.rows + (w.results + length (w.kept ++ ks)) = omega (arith, stands.free, long, length-append w.kept ks) in
        let part : HasPart locals chosen_local 1 (one (pos k)) = kept_read (keeping (keeping w ks) ls) store locals (w.kept ++ ks) (one (pos k)) (one (pos by)) chosen_local 1 h refl at_chosen refl in
        let held : Holds w store locals = forgotten w ks store locals (forgotten (keeping w ks) ls store locals h) in
        embedded inner (found.selects.follows (covered_inside inner covered) k store s locals below within held (subst (λ (m : ℕ). HasPart locals chosen_local 1 (one (pos m))) (let e : k ≡ 0 + k = omega arith in e) part))

    got : IsCovered w from behind rows → (address : Option Address) (ks : List ℤ) (k by : ℕ) (store : Store) (s : Session) (locals : List ℤ) → IsKept lay set address ks → k < count → Holds (keeping w ks) store locals
        → where_goes (set_to address by store s) (λ z store1 s1. along k store1 s1) ≡ true
        → Does w (here w (at2 + 1) (pos k ∷ pos by ∷ []) locals s) from behind rows behind (then_do (set_to address by store s) (λ u. alternative k))
    got covered address ks k by store s locals is below h within =
        let long : length ks ≡ set_kept set = kept_long lay set address ks is in
        let ls : List ℤ = pos k ∷ pos by ∷ [] in
        let kept = kept_runs ks k by store s locals long h in
        after kept.0
        (after (came_run w t chosen_local count (behind - last) k at4 (with_scalars locals chosen_local ls) s kept.2 below has_test)
        (follows_then_is
        (forgetting ks (forgetting ls (embedded (plain at5 at6 (omega arith) (omega arith))
        (set_runs w st set address ks (pos k) by at5 at6 at5 at6 (with_scalars locals chosen_local ls) store s stands.suited.rows stands.free fits_set is has_set set_ends (omega arith) (omega arith) kept.1))))
        (λ u store1 s1 locals1 r is_set.
        chosen_follows covered ks k by store1 s1 locals1 long below (there (set_to address by store s) (λ z store2 s2. along k store2 s2) u store1 s1 within is_set) r.1)))

    nothing_follows : IsCovered w from behind rows → (ks : List ℤ) (store : Store) (s : Session) (locals : List ℤ) → length ks ≡ set_kept set → t ≡ true → along_none store s ≡ true → Holds (keeping w ks) store locals
        → Does w (here w (at2 + 1) (pos count ∷ pos 0 ∷ []) locals s) from behind rows behind (none store s)
    nothing_follows covered ks store s locals long tests within h =
        let ls : List ℤ = pos count ∷ pos 0 ∷ [] in
        let kept = kept_runs ks count 0 store s locals long h in
        let held : Holds w store (with_scalars locals chosen_local ls) = forgotten w ks store (with_scalars locals chosen_local ls) (forgotten (keeping w ks) ls store (with_scalars locals chosen_local ls) kept.1) in
        let there_is : behind - last ≡ found.nothing = omega (arith, found.ends) in
        after kept.0
        (after (nothing_run w chosen_local count (behind - last) count at4 false (with_scalars locals chosen_local ls) s kept.2 (not_less count) (subst (λ (u : Bool). HasAt all at4 (nothing_code u chosen_local count (behind - last))) tests has_test))
        (after (renamed w (behind - last) found.nothing [] [] (with_scalars locals chosen_local ls) s there_is refl)
        (acts_in (embeds_then found.inner inner) found.rest covered store s (with_scalars locals chosen_local ls) within held)))

    by_answer : IsCovered w from behind rows → (address : Option Address) (ks : List ℤ) → IsKept lay set address ks → (a : Answer) (store : Store) (s : Session) (locals : List ℤ) → ReceivedKeeps w ks v.rows rs t a store locals
        → along_answer address a store s ≡ true
        → Does w (here w (at2 + 1) (pushed_by count a) locals s) from behind rows behind (then_do (take_in v.rows rs a store s) (behind_wait address alternative none))
    by_answer covered address ks is (Got k m xs by) store s locals q within = got covered address ks k by (spread_over v.rows (received_by k rs) xs store) s locals is q.0 q.1 within
    by_answer covered address ks is Otherwise store s locals q within = nothing_follows covered ks store s locals (kept_long lay set address ks is) q.0 within q.1
    by_answer covered address ks is (Woken k by) store s locals q within = absurd q
    by_answer covered address ks is (Fail x) store s locals q within = absurd q
    by_answer covered address ks is (Value xs) store s locals q within = absurd q
    by_answer covered address ks is Done store s locals q within = absurd q
    by_answer covered address ks is (Instance j) store s locals q within = absurd q
    by_answer covered address ks is (Chose c) store s locals q within = absurd q
    by_answer covered address ks is (Handed j) store s locals q within = absurd q
    by_answer covered address ks is Stored store s locals q within = absurd q

    waits : IsCovered w from behind rows → (address : Option Address) (store : Store) (s : Session) (locals : List ℤ) → KeepsPlace w lay set address store locals
        → where_goes (asked request (receive_counts v.rows rs) store s) (λ answer store1 s1. along_answer address answer store1 s1) ≡ true
        → Does w (here w at1 [] locals s) from behind rows behind (then_do (asked request (receive_counts v.rows rs) store s) (λ answer store2 s2. then_do (take_in v.rows rs answer store2 s2) (behind_wait address alternative none)))
    waits covered address store s locals keeps within =
        let xs : List ℤ = sources_pushed lay.rows rs in
        let slots : List Slot = slots_for lay.rows rs in
        let held : Holds w store locals = forgotten w keeps.kept store locals keeps.holds in
        let told : Follows w (here w at2 xs locals s) from behind rows (always (at2 + 1)) (pushed_by count) (ReceivedKeeps w keeps.kept v.rows rs t) (then_do (asked (asks_for kind (receive_list 0 rs) t) (counts_in slots) store s) (λ answer. Goes answer)) =
        asks_by w (receive_instr kind count t) from behind rows (always (at2 + 1)) (pushed_by count) (ReceivedKeeps w keeps.kept v.rows rs t) at2 (asks_for kind (receive_list 0 rs) t) slots [] xs locals store s (λ answer. Goes answer) has2.0
        (found_is w kind count t ∙ sym (pushed_long lay.rows rs))
        (does_is w kind count t at2 xs locals (receive_list 0 rs) slots (triples_is w st (length st.exits) 0 rs store locals stands.suited.rows fits held))
        (asks_on kind (receive_list 0 rs) t) (omega arith) (omega arith) (λ x. (plain at2 at6 (omega arith) (omega arith)).same at2 x (omega arith) (omega arith)) held
        (received_comes w st (length st.exits) v.rows rs kind t at2 from behind rows keeps.kept locals store stands.suited.rows (stands.suited.rows ∙ sym stands.rows) fits keeps.holds) in
        let asked_so : Follows w (here w at2 xs locals s) from behind rows (always (at2 + 1)) (pushed_by count) (ReceivedKeeps w keeps.kept v.rows rs t) (asked request (receive_counts v.rows rs) store s) =
        subst (λ (u : Bool). Follows w (here w at2 xs locals s) from behind rows (always (at2 + 1)) (pushed_by count) (ReceivedKeeps w keeps.kept v.rows rs t) (asked (asks_for kind (receive_list 0 rs) u) (receive_counts v.rows rs) store s)) written
        (subst (λ (cs : List ℕ). Follows w (here w at2 xs locals s) from behind rows (always (at2 + 1)) (pushed_by count) (ReceivedKeeps w keeps.kept v.rows rs t) (asked (asks_for kind (receive_list 0 rs) t) cs store s)) counts_same
        (subst (λ (f : Flow Answer). Follows w (here w at2 xs locals s) from behind rows (always (at2 + 1)) (pushed_by count) (ReceivedKeeps w keeps.kept v.rows rs t) f) (then_same (asked (asks_for kind (receive_list 0 rs) t) (counts_in slots) store s)) told)) in
        after (sources_run w lay.rows rs at1 [] locals s (has_front all at1 sources rest has1))
        (follows_then_is asked_so
        (λ answer store1 s1 locals1 q is.
        by_answer covered address keeps.kept keeps.is answer store1 s1 locals1 q
        (there (asked request (receive_counts v.rows rs) store s) (λ a store2 s2. along_answer address a store2 s2) answer store1 s1 within is)))

pub buffers_act : (set : Option LocationTree) (rs : ReceiveNodes) (o : OtherwiseNode) → ReceivesAct rs → SomeAct o → ActionActs (receive_buffers set rs o)
buffers_act set rs o alternatives some w v st bodies inside n from stands names fits has =
    reception_acts from_buffers set rs o alternatives some w v st bodies inside n from (from + (receive_wait_size set rs (has_else o) + receives_size st.site rs (otherwise_size st.site o 0))) stands refl names fits.0 fits.1 fits.2 has

pub signals_act : (set : Option LocationTree) (rs : ReceiveNodes) (o : OtherwiseNode) → ReceivesAct rs → SomeAct o → ActionActs (receive_signals set rs o)
signals_act set rs o alternatives some w v st bodies inside n from stands names fits has =
    reception_acts of_signals set rs o alternatives some w v st bodies inside n from (from + (receive_wait_size set rs (has_else o) + receives_size st.site rs (otherwise_size st.site o 0))) stands refl names fits.0 fits.1 fits.2 has
