-- DELAY, CONTINUE and SEND.
use Rattle.std.proofs.Common.{◌≡◌, ℕ, ◌+◌, ◌<◌, ◌≤◌, true, false, List, [], ◌∷◌, ◌++◌, ℤ, pos, length, take, drop, Option, Some, None, slice_get, refl, sym, ap, ◌∙◌, arith, length-append, inl}
use Rattle.std.proofs.Math.Seq.{take-append_seam, drop-append_seam}
use Rattle.kernel_base.specs.declared.ends.Exc.TheVariants.{Rangefail}
use Rattle.kernel_base.specs.declared.request.Request.{Request}
use Rattle.kernel_base.specs.declared.request.Request.TheVariants.{Delay, Continue, SendBuffer, SendSignal}
use Rattle.kernel_base.specs.declared.answer.Answer.{Answer}
use Rattle.kernel_base.specs.declared.answer.Answer.TheVariants.{Value, Done, Woken, Got, Otherwise, Instance, Fail, Chose, Handed, Stored}
use Rattle.world_model.specs.Session.{Session}
use Rattle.code_types.specs.declared.instr.Instr.{Instr}
use Rattle.code_types.specs.declared.instr.Instr.TheVariants as i
use Rattle.code_types.specs.Operands.{number_in, with_first, alternative_in}
use Rattle.code_types.specs.Actions.{Throws, Requests, with_one, with_number, at_offset, delays, asks}
use Rattle.code_types.specs.Answers.{goes_on}
use Rattle.code_types.specs.State.{Asking}
use Rattle.code_types.specs.Steps.{At}
use Rattle.program_trees.specs.ExprTree.{ExprTree, ReceivedTree, ReceivedNodes, received_count}
use Rattle.program_trees.specs.StatementTree.{SentTree, to_buffer, signal, delay, continue_at, send}
use Rattle.source_meaning.specs.Store.{Store}
use Rattle.source_meaning.specs.Flow.{Goes, done, takes_answer}
use Rattle.source_meaning.specs.Operators.{sole_number, one}
use Rattle.source_meaning.specs.ExprMeaning.{all_received_mean}
use Rattle.source_meaning.specs.StatementMeaning.{send_to}
use Rattle.code_scheme.specs.Pieces.{Layout}
use Rattle.code_scheme.specs.ExprSizes.{expr_size, received_size, received_sizes}
use Rattle.code_scheme.specs.ExprCode.{expr_code, received_codes, counts_of}
use Rattle.code_scheme.specs.StatementSite.{layout}
use Rattle.follow_laws.specs.Follows.{Around, frame_at, state_at, here, Holds, always, no_stack, HoldsWith, Nothing, Does, action_in}
use Rattle.code_laws.specs.OwnBounds.{all_within, expr_within}
use Rattle.follow_laws.proofs.Running.{has_front, has_back, after, follows_then, follows_then_is, makes, comes, raises}
use Rattle.follow_laws.proofs.Requesting.{IsNoFailure, none_takes, asks_by, done_by}
use Rattle.follow_laws.proofs.Instructions.{puts_on, sole}
use Rattle.code_laws.proofs.Sizes.{expr_length, all_length}
use Rattle.code_laws.proofs.Values.{both_true}
use Rattle.code_laws.proofs.BetweenRuns.{pop_run}
use Rattle.code_laws.proofs.ExprPieces.{there}
use Rattle.code_laws.proofs.ReceiveRuns.{thing_is}
use Rattle.code_laws.proofs.ExprRuns.{expr_runs, all_runs}
use Rattle.code_laws.specs.Statements.{calls_from}
use Rattle.code_laws.specs.StatementBounds.{some_value_within}
use Rattle.statement_code_laws.specs.Actions.{ActionActs, RequestingLaw}
use Rattle.statement_code_laws.proofs.PlainRuns.{plain_acts, open_here}
use Rattle.statement_code_laws.proofs.LeavingRuns.{received_then}

no_truth : {A : Type 0} → false ≡ true → A
no_truth e = absurd (let no : ⊥ = cc in no)

-- ---- DELAY

abbrev waits_for : ℕ → ℕ → Request
waits_for e priority = Delay (record { thing = e; number = 0 } ∷ []) priority

delayed : (e priority : ℕ) → ActionActs (delay e priority)
delayed e priority w v st bodies inside n from stands names fits has =
    plain_acts (λ store s locals within h.
    after (puts_on w (i.Thing e) from [] locals s (one (pos e)) has.0 refl refl)
    (after (puts_on w (i.Push (pos 0)) (from + 1) (one (pos e)) locals s (one (pos 0)) has.1.0 refl refl)
    (asks_by w (i.Delay 1 priority) from (from + 4) [] (always (from + 4)) no_stack (HoldsWith w Nothing) at (waits_for e priority) [] [] operands locals store s (λ answer. Goes tt) has.1.1.0 refl (does locals) tt (omega arith) (omega arith) (none_takes at) h
    (by_answer locals store h))))
  where
    at : ℕ
    at = from + 1 + 1

    operands : List ℤ
    operands = pos e ∷ pos 0 ∷ []

    does : (locals : List ℤ) → action_in w (i.Delay 1 priority) at operands locals operands ≡ Requests (waits_for e priority) []
    does locals = ap (λ o. delays priority (with_first (alternative_in o (Some 0)) (Some []))) (thing_is e fits)

    by_answer : (locals : List ℤ) (store : Store) → Holds w store locals → (a : Answer) (s1 : Session) → IsNoFailure a → takes_answer (waits_for e priority) [] a ≡ true
        → Does w (At (goes_on (state_at w (Asking (waits_for e priority) []) at [] locals) (waits_for e priority) [] a (frame_at w at [] locals ∷ w.below)) s1) from (from + 4) [] (from + 4) (Goes tt store s1)
    by_answer locals store h (Woken k by) s1 given fit =
        after (pop_run w (pos k ∷ pos by ∷ []) 2 (at + 1) [] locals s1 refl has.1.1.1.0) (comes {v = tt} (omega arith) refl (tt, h))
    by_answer locals store h (Got k m xs by) s1 given fit = no_truth fit
    by_answer locals store h (Fail x) s1 given fit = absurd given
    by_answer locals store h (Value xs) s1 given fit = no_truth fit
    by_answer locals store h Done s1 given fit = no_truth fit
    by_answer locals store h Otherwise s1 given fit = no_truth fit
    by_answer locals store h (Instance j) s1 given fit = no_truth fit
    by_answer locals store h (Chose c) s1 given fit = no_truth fit
    by_answer locals store h (Handed j) s1 given fit = no_truth fit
    by_answer locals store h Stored s1 given fit = no_truth fit

-- ---- CONTINUE and SEND

continued : (e : ℕ) → ActionActs (continue_at e)
continued e w v st bodies inside n from stands names fits has =
    plain_acts (λ store s locals within h.
    done_by w (i.Continue e) from (from + 1) (from + 1) [] from (Continue e) [] [] locals store s has.0 refl refl tt refl (omega arith) (omega arith) (none_takes from) h)

to_buffer_sent : (b : ℕ) (r : ReceivedTree) (priority : ℕ) → ActionActs (send (to_buffer b r) priority)
to_buffer_sent b r priority w v st bodies inside n from stands names fits has =
    plain_acts (λ store s locals within h.
    let instr : Instr = i.Send b (received_count r) priority in
    let at : ℕ = from + received_size r in
    let until : ℕ = from + (received_size r + 1) in
    received_then w v st bodies inside r (instr ∷ []) from from until until (λ xs. done (SendBuffer b xs priority)) [] locals store s stands names fits (omega arith) (omega arith) has within h
    (λ xs store1 s1 locals1 long has1 h1.
    done_by w instr from until until [] at (SendBuffer b xs priority) [] xs locals1 store1 s1 has1.0 (sym long) refl tt (omega arith) (omega arith) (omega arith) (none_takes at) h1))

-- a signal whose parts are on the stack, to an instance that is on top
to_instance_runs : (w : Around) (k count priority at to lo hi : ℕ) (xs ys locals : List ℤ) (store : Store) (s : Session)
    → length xs ≡ count → length ys ≡ 1 → slice_get w.code.instrs at ≡ Some (i.Signal k count true priority) → at + 1 ≡ to → lo ≤ at → at < hi → Holds w store locals
    → Does w (here w at (xs ++ ys) locals s) lo hi [] to (send_to k priority xs (number_in (sole_number ys)) store s)
to_instance_runs w k count priority at to lo hi xs ys locals store s long one_long has e low high h = by_number (number_in (sole_number ys)) refl
  where
    instr : Instr
    instr = i.Signal k count true priority

    front : take count (xs ++ ys) ≡ xs
    front = ap (λ (j : ℕ). take j (xs ++ ys)) (sym long) ∙ take-append_seam xs ys

    back : drop count (xs ++ ys) ≡ one (sole_number ys)
    back = ap (λ (j : ℕ). drop j (xs ++ ys)) (sym long) ∙ (drop-append_seam xs ys ∙ sole ys one_long)

    found : count + 1 ≡ length (xs ++ ys)
    found = omega (arith, length-append xs ys)

    does : (o : Option ℕ) → number_in (sole_number ys) ≡ o → action_in w instr at (xs ++ ys) locals (xs ++ ys) ≡ at_offset o (λ to. asks (SendSignal k xs (Some to) priority))
    does o is =
        ap (λ (l : List ℤ). with_one l (λ x. with_number x (λ to. asks (SendSignal k (take count (xs ++ ys)) (Some to) priority)))) back
        ∙ (ap (λ (l : List ℤ). with_number (sole_number ys) (λ to. asks (SendSignal k l (Some to) priority))) front
        ∙ ap (λ o. at_offset o (λ to. asks (SendSignal k xs (Some to) priority))) is)

    by_number : (o : Option ℕ) → number_in (sole_number ys) ≡ o → Does w (here w at (xs ++ ys) locals s) lo hi [] to (send_to k priority xs o store s)
    by_number None is = makes instr at [] (xs ++ ys) locals s (Throws Rangefail) has found (does None is) (raises (inl refl) low high refl h)
    by_number (Some who) is = done_by w instr lo hi to [] at (SendSignal k xs (Some who) priority) [] (xs ++ ys) locals store s has found (does (Some who) is) tt e low high (none_takes at) h

signal_sent : (k : ℕ) (rs : ReceivedNodes) (to : Option ExprTree) (priority : ℕ) → ActionActs (send (signal k rs to) priority)
signal_sent k rs None priority w v st bodies inside n from stands names fits has =
    plain_acts (λ store s locals within h.
    let lay : Layout = layout st.site in
    let instr : Instr = i.Signal k (counts_of rs) false priority in
    let at : ℕ = from + received_sizes rs in
    let until : ℕ = from + (received_sizes rs + (0 + 1)) in
    let first : List Instr = received_codes lay st.free rs from in
    let has1 = has_back w.code.instrs from at first (instr ∷ []) (ap (λ (j : ℕ). from + j) (all_length lay st.free rs from fits.0)) has in
    follows_then
    (all_runs w v lay bodies inside from until st.free rs from at [] locals store s stands.suited names stands.free fits.0 refl (omega arith) (omega arith) (has_front w.code.instrs from first (instr ∷ []) has) (open_here w v inside (λ c. all_within v c rs store s) stands.suited.open_now (both_true _ _ within).0) h)
    (λ xs store1 s1 locals1 q.
    let found : counts_of rs + 0 ≡ length xs = omega (arith, q.0) in
    done_by w instr from until until [] at (SendSignal k xs None priority) [] xs locals1 store1 s1 has1.0 found refl tt (omega arith) (omega arith) (omega arith) (none_takes at) q.1))
signal_sent k rs (Some e) priority w v st bodies inside n from stands names fits has =
    plain_acts (λ store s locals within h.
    let lay : Layout = layout st.site in
    let instr : Instr = i.Signal k (counts_of rs) true priority in
    let at : ℕ = from + received_sizes rs in
    let at1 : ℕ = at + expr_size e in
    let until : ℕ = from + (received_sizes rs + (expr_size e + 1)) in
    let first : List Instr = received_codes lay st.free rs from in
    let second : List Instr = expr_code lay st.free e at in
    let has1 = has_back w.code.instrs from at first (second ++ instr ∷ []) (ap (λ (j : ℕ). from + j) (all_length lay st.free rs from fits.0)) has in
    let has2 = has_back w.code.instrs at at1 second (instr ∷ []) (ap (λ (j : ℕ). at + j) (expr_length lay st.free e at fits.1.0)) has1 in
    follows_then_is
    (all_runs w v lay bodies inside from until st.free rs from at [] locals store s stands.suited names stands.free fits.0 refl (omega arith) (omega arith) (has_front w.code.instrs from first (second ++ instr ∷ []) has) (open_here w v inside (λ c. all_within v c rs store s) stands.suited.open_now (both_true _ _ within).0) h)
    (λ xs store1 s1 locals1 q is.
    follows_then
    (expr_runs w v lay bodies inside from until st.free e at at1 xs locals1 store1 s1 stands.suited names stands.free fits.1.0 refl (omega arith) (omega arith) (has_front w.code.instrs at second (instr ∷ []) has1)
    (open_here w v inside (λ c. expr_within v c e store1 s1) stands.suited.open_now
    (there (all_received_mean v rs store s) (λ ys store3 s3. some_value_within v (calls_from inside w) (Some e) store3 s3) xs store1 s1 (both_true _ _ within).1 is)) q.1)
    (λ ys store2 s2 locals2 q2.
    to_instance_runs w k (counts_of rs) priority at1 until from until xs ys locals2 store2 s2 q.0 (q2.0 ∙ fits.1.1) has2.0 (omega arith) (omega arith) (omega arith) q2.1)))

sent : (t : SentTree) (priority : ℕ) → ActionActs (send t priority)
sent (to_buffer b r) priority = to_buffer_sent b r priority
sent (signal k rs to) priority = signal_sent k rs to priority

pub requesting_law : RequestingLaw
requesting_law = record { delayed = delayed; continued = continued; sent = sent }
