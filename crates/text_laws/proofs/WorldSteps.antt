-- What an event makes of a world that holds values, and of what the processes get.
use Rattle.std.proofs.Common.{◌≡◌, ◌+◌, ℕ, zero, suc, Bool, true, false, List, [], ◌∷◌, ◌++◌, ℤ, drop, refl, sym, ap, ◌∙◌, subst, inl, inr, Option, Some, None, slice_get, slice_set, eq-eqb}
use Rattle.std.specs.Prelude.{if◌then◌else◌, ◌==◌, slice_index_or}
use Rattle.std.specs.Option.{option_and_then}
use Rattle.std.proofs.lemmas.Bool.{cases_Bool, eqb-true}
use Rattle.kernel_base.specs.declared.facts.Facts.{Facts}
use Rattle.kernel_base.specs.declared.request.Request.{Request}
use Rattle.kernel_base.specs.declared.request.Request.TheVariants.{Read, Write, Enter, Leave, Delay, Continue, SendBuffer, ReceiveBuffer, SendSignal, ReceiveSignal, Start, Put, Get, End}
use Rattle.kernel_base.specs.declared.answer.Answer.{Answer}
use Rattle.kernel_base.specs.declared.answer.Answer.TheVariants.{Woken, Got, Instance, Chose, Handed, Stored}
use Rattle.world_model.specs.declared.world.Phase.{Phase}
use Rattle.world_model.specs.declared.world.Phase.TheVariants.{Active, Waiting, Chosen, Ended}
use Rattle.world_model.specs.declared.world.StoredValue.{StoredValue}
use Rattle.world_model.specs.declared.world.World.{World}
use Rattle.world_model.specs.declared.waiting.Waiter.{Waiter}
use Rattle.world_model.specs.declared.waiting.Offer.{Offer}
use Rattle.world_model.specs.Lists.{number_for, scalars_at}
use Rattle.world_model.specs.Waiting.{phase_of, waiter_for, sleeper, buffer_receiver_in, buffer_receiver, signal_receiver_in, signal_receiver, may_receive, offer}
use Rattle.world_model.specs.World.{occupant, chosen, with_next_send, buffer_length, refilled, refilled_by, refilled_buffer, after_continue, after_send_buffer, after_receive_buffer, after_send_signal, after_receive_signal, after_start, after_request}
use Rattle.world_model.specs.Allowed.{IsCandidateOf, Answers}
use Rattle.world_model.specs.Journal.{ticks_of}
use Rattle.world_model.specs.Session.{Item, Tick, Ask}
use Rattle.world_model.proofs.ChangedLists.{written_or_old, pushed_keeps}
use Rattle.world_model.proofs.PhaseMoves.{Moves, Stays, IsChosenNow, Begins, entered_phases, left_phases, refilled_buffer_phases}
use Rattle.program_trees.specs.ProgramTree.{LocationRowTree, CheckedTree}
use Rattle.source_meaning.specs.Values.{domains_of, AreWithin}
use Rattle.source_meaning.specs.Fitting.{domains_at, domains_in_buffer, domains_in_signal, thing_of, BringsValue, FitsAnswer}
use Rattle.text_laws.specs.Requests.{FitsText}
use Rattle.text_laws.specs.Journals.{IsOpenWith, PhaseFits}
use Rattle.text_laws.proofs.Values.{within_take, within_drop}
use Rattle.text_laws.proofs.WorldValues.{IsOfBuffer, IsOfSignal, AreOfModes, OfferFits, StoreIsOfModes}

-- ---- answers

-- an answer without scalars brings none
brings_woken : (p : CheckedTree) (r : Request) (k by : ℕ) → BringsValue p r (Woken k by)
brings_woken p (Read place) k by = tt
brings_woken p (ReceiveBuffer things o) k by = tt
brings_woken p (ReceiveSignal things o) k by = tt
brings_woken p r k by = tt

brings_stored : (p : CheckedTree) (r : Request) → BringsValue p r Stored
brings_stored p (Read place) = tt
brings_stored p (ReceiveBuffer things o) = tt
brings_stored p (ReceiveSignal things o) = tt
brings_stored p r = tt

waiter_number : (n : Option ℕ) (priority : ℕ) (back : Option ℕ) (wt : Waiter) → waiter_for n priority back ≡ Some wt → n ≡ Some wt.alternative
waiter_number None priority back wt e = absurd (let f : ⊥ = cc in f)
waiter_number (Some k) priority back wt e = let is : record { alternative = k; priority = priority; back = back } ≡ wt = cc in ap (λ (x : Waiter). Some x.alternative) is

-- what a buffer's receiver gets is of its mode
brings_buffer : (p : CheckedTree) (b : ℕ) (r : Request) (send back : Option ℕ) (wt : Waiter) (scalars : List ℤ) (number by : ℕ) → buffer_receiver_in b (Waiting r send back) ≡ Some wt → FitsText p r → AreWithin (domains_in_buffer (slice_get p.buffers b)) scalars → BringsValue p r (Got wt.alternative number scalars by)
brings_buffer p b (ReceiveBuffer things o) send back wt scalars number by e f v =
    let tells : thing_of things wt.alternative ≡ b = f.1 b wt.alternative (waiter_number (number_for things b) 0 back wt e) in
    subst (λ (n : ℕ). AreWithin (domains_in_buffer (slice_get p.buffers n)) scalars) (sym tells) v
brings_buffer p b r send back wt scalars number by e f v = absurd (let no : ⊥ = cc in no)

brings_signal : (p : CheckedTree) (k : ℕ) (r : Request) (send back : Option ℕ) (wt : Waiter) (scalars : List ℤ) (number by : ℕ) → signal_receiver_in k (Waiting r send back) ≡ Some wt → FitsText p r → AreWithin (domains_in_signal (slice_get p.signals k)) scalars → BringsValue p r (Got wt.alternative number scalars by)
brings_signal p k (ReceiveSignal things o) send back wt scalars number by e f v =
    let tells : thing_of things wt.alternative ≡ k = f.1 k wt.alternative (waiter_number (number_for things k) 0 back wt e) in
    subst (λ (n : ℕ). AreWithin (domains_in_signal (slice_get p.signals n)) scalars) (sym tells) v
brings_signal p k r send back wt scalars number by e f v = absurd (let no : ⊥ = cc in no)

-- who was chosen, and with which answer
record WasChosen (w : World) (q : ℕ) (waiter : Option Waiter) (answer : ℕ → Answer) (i : ℕ) (a : Answer) : Type 0 where
  wt : Waiter
  is_waiter : waiter ≡ Some wt
  here : i ≡ q
  is_answer : a ≡ answer wt.alternative

not_waiting : {A : Type 0} (o : Option Phase) (r : Request) (send back : Option ℕ) (a : Answer) (b : Option ℕ) → o ≡ Some (Waiting r send back) → o ≡ Some (Chosen a b) → A
not_waiting o r send back a b x y = absurd (let e : Some (Waiting r send back) ≡ Some (Chosen a b) = sym x ∙ y in let f : ⊥ = cc in f)

was_chosen : (w : World) (q : ℕ) (waiter : Option Waiter) (answer : ℕ → Answer) (i : ℕ) (r : Request) (send back : Option ℕ) (a : Answer) (b : Option ℕ) → phase_of w i ≡ Some (Waiting r send back) → phase_of (chosen w q waiter answer) i ≡ Some (Chosen a b) → WasChosen w q waiter answer i a
was_chosen w q None answer i r send back a b x y = not_waiting (phase_of w i) r send back a b x y
was_chosen w q (Some wt) answer i r send back a b x y = elim (written_or_old w.phases q i (Chosen (answer wt.alternative) wt.back) (Chosen a b) y) [
  | inl new ↦ (let e : Chosen a b ≡ Chosen (answer wt.alternative) wt.back = new.1 in let is : a ≡ answer wt.alternative = cc in record { wt = wt; is_waiter = refl; here = new.0; is_answer = is })
  | inr old ↦ not_waiting (phase_of w i) r send back a b x old
]

hearer_in : (t : Bool) (o : Option Waiter) (wt : Waiter) → (if t then o else None) ≡ Some wt → o ≡ Some wt
hearer_in true o wt e = e
hearer_in false o wt e = absurd (let f : ⊥ = cc in f)

-- the answer of one that a request chooses brings what fits
module _ (p : CheckedTree) (facts : Facts) (w : World) (i : ℕ) (r : Request) (send back : Option ℕ) (a : Answer) (b : Option ℕ) (waits : phase_of w i ≡ Some (Waiting r send back)) (fits : FitsText p r) where
  continue_brings : (who event : ℕ) (answer : Answer) → phase_of (after_continue w who event answer) i ≡ Some (Chosen a b) → BringsValue p r a
  continue_brings who event (Chose (Some q)) e =
      let c = was_chosen w q (sleeper w event q) (λ alternative. Woken alternative who) i r send back a b waits e in
      subst (λ (x : Answer). BringsValue p r x) (sym c.is_answer) (brings_woken p r c.wt.alternative who)
  continue_brings who event answer e = not_waiting (phase_of w i) r send back a b waits e

  send_brings : (who buffer : ℕ) (scalars : List ℤ) (priority : ℕ) (answer : Answer) → AreWithin (domains_in_buffer (slice_get p.buffers buffer)) scalars → phase_of (after_send_buffer w who buffer scalars priority answer) i ≡ Some (Chosen a b) → BringsValue p r a
  send_brings who buffer scalars priority (Handed q) v e =
      let c = was_chosen (with_next_send w) q (buffer_receiver w buffer q) (λ alternative. Got alternative (w.sends + 1) scalars who) i r send back a b waits e in
      let at : phase_of w q ≡ Some (Waiting r send back) = ap (slice_get w.phases) (sym c.here) ∙ waits in
      let waiter : buffer_receiver_in buffer (Waiting r send back) ≡ Some c.wt = sym (ap (option_and_then (buffer_receiver_in buffer)) at) ∙ c.is_waiter in
      subst (λ (x : Answer). BringsValue p r x) (sym c.is_answer) (brings_buffer p buffer r send back c.wt scalars (w.sends + 1) who waiter fits v)
  send_brings who buffer scalars priority answer v e = not_waiting (phase_of w i) r send back a b waits e

  signal_brings : (who signal : ℕ) (scalars : List ℤ) (to : Option ℕ) (priority : ℕ) (answer : Answer) → AreWithin (domains_in_signal (slice_get p.signals signal)) scalars → phase_of (after_send_signal facts w who signal scalars to priority answer) i ≡ Some (Chosen a b) → BringsValue p r a
  signal_brings who signal scalars to priority (Handed q) v e =
      let c = was_chosen (with_next_send w) q (signal_receiver facts w signal to q) (λ alternative. Got alternative (w.sends + 1) scalars who) i r send back a b waits e in
      let at : phase_of w q ≡ Some (Waiting r send back) = ap (slice_get w.phases) (sym c.here) ∙ waits in
      let found : option_and_then (signal_receiver_in signal) (phase_of w q) ≡ Some c.wt = hearer_in (may_receive facts w signal to q) (option_and_then (signal_receiver_in signal) (phase_of w q)) c.wt c.is_waiter in
      let waiter : signal_receiver_in signal (Waiting r send back) ≡ Some c.wt = sym (ap (option_and_then (signal_receiver_in signal)) at) ∙ found in
      subst (λ (x : Answer). BringsValue p r x) (sym c.is_answer) (brings_signal p signal r send back c.wt scalars (w.sends + 1) who waiter fits v)
  signal_brings who signal scalars to priority answer v e = not_waiting (phase_of w i) r send back a b waits e

  refilled_brings : (old : World) (sender : ℕ) (o : Option Offer) → old.phases ≡ w.phases → phase_of (refilled_by facts old sender o) i ≡ Some (Chosen a b) → BringsValue p r a
  refilled_brings old sender None same e = not_waiting (phase_of w i) r send back a b waits (ap (λ (ps : List Phase). slice_get ps i) (sym same) ∙ e)
  refilled_brings old sender (Some o) same e =
      let phases : (refilled_buffer old (buffer_length facts o.buffer) o).phases ≡ w.phases = refilled_buffer_phases old (buffer_length facts o.buffer) o ∙ same in
      let there : slice_get (slice_set w.phases sender (Chosen Stored o.back)) i ≡ Some (Chosen a b) = ap (λ (ps : List Phase). slice_get (slice_set ps sender (Chosen Stored o.back)) i) (sym phases) ∙ e in
      elim (written_or_old w.phases sender i (Chosen Stored o.back) (Chosen a b) there) [
        | inl new ↦ (let c : Chosen a b ≡ Chosen Stored o.back = new.1 in let is : a ≡ Stored = cc in subst (λ (x : Answer). BringsValue p r x) (sym is) (brings_stored p r))
        | inr stays ↦ not_waiting (phase_of w i) r send back a b waits stays
      ]

  refill_brings : (old : World) (refill : Option ℕ) → old.phases ≡ w.phases → phase_of (refilled facts old refill) i ≡ Some (Chosen a b) → BringsValue p r a
  refill_brings old None same e = not_waiting (phase_of w i) r send back a b waits (ap (λ (ps : List Phase). slice_get ps i) (sym same) ∙ e)
  refill_brings old (Some sender) same e = refilled_brings old sender (offer old sender) same e

  receive_brings : (answer : Answer) (refill : Option ℕ) → phase_of (after_receive_buffer facts w answer refill) i ≡ Some (Chosen a b) → BringsValue p r a
  receive_brings (Got alternative number scalars by) refill e = refill_brings _ refill refl e
  receive_brings answer refill e = not_waiting (phase_of w i) r send back a b waits e

  hear_brings : (answer : Answer) → phase_of (after_receive_signal w answer) i ≡ Some (Chosen a b) → BringsValue p r a
  hear_brings (Got alternative number scalars by) e = not_waiting (phase_of w i) r send back a b waits e
  hear_brings answer e = not_waiting (phase_of w i) r send back a b waits e

  start_brings : (process : ℕ) (scalars : List ℤ) (answer : Answer) → phase_of (after_start w process scalars answer) i ≡ Some (Chosen a b) → BringsValue p r a
  start_brings process scalars (Instance j) e = not_waiting (slice_get (w.phases ++ Active ∷ []) i) r send back a b (pushed_keeps w.phases i Active (Waiting r send back) waits) e
  start_brings process scalars answer e = not_waiting (phase_of w i) r send back a b waits e

  pub did_brings : (who : ℕ) (request : Request) (answer : Answer) (refill : Option ℕ) → FitsText p request → phase_of (after_request facts w who request answer refill) i ≡ Some (Chosen a b) → BringsValue p r a
  did_brings who (Read place) answer refill f e = not_waiting (phase_of w i) r send back a b waits e
  did_brings who (Write place scalars) answer refill f e = not_waiting (phase_of w i) r send back a b waits e
  did_brings who (Enter at) answer refill f e = not_waiting (phase_of w i) r send back a b waits (ap (λ (ps : List Phase). slice_get ps i) (sym (entered_phases w who at (occupant w at))) ∙ e)
  did_brings who (Leave at) answer refill f e = not_waiting (phase_of w i) r send back a b waits (ap (λ (ps : List Phase). slice_get ps i) (sym (left_phases w who at (occupant w at))) ∙ e)
  did_brings who (Delay events priority) answer refill f e = not_waiting (phase_of w i) r send back a b waits e
  did_brings who (Continue event) answer refill f e = continue_brings who event answer e
  did_brings who (SendBuffer buffer scalars priority) answer refill f e = send_brings who buffer scalars priority answer f.1 e
  did_brings who (ReceiveBuffer buffers otherwise) answer refill f e = receive_brings answer refill e
  did_brings who (SendSignal signal scalars to priority) answer refill f e = signal_brings who signal scalars to priority answer f.1 e
  did_brings who (ReceiveSignal signals otherwise) answer refill f e = hear_brings answer e
  did_brings who (Start process scalars) answer refill f e = start_brings process scalars answer e
  did_brings who (Put bytes) answer refill f e = not_waiting (phase_of w i) r send back a b waits e
  did_brings who Get answer refill f e = not_waiting (phase_of w i) r send back a b waits e
  did_brings who (End how) answer refill f e = elim (written_or_old w.phases who i (Ended how) (Chosen a b) e) [
    | inl new ↦ absurd (let c : Chosen a b ≡ Ended how = new.1 in let no : ⊥ = cc in no)
    | inr old ↦ not_waiting (phase_of w i) r send back a b waits old
  ]

-- the answer of an event brings what fits
candidate_fits : (p : CheckedTree) (o : Option ℕ) (w : World) (b : ℕ) (value : StoredValue) → AreOfModes p w → ((q : ℕ) → OfferFits p (offer w q)) → IsCandidateOf o w b value → IsOfBuffer p b value
candidate_fits p None w b value m offers c = m.values b c.0 value c.1
candidate_fits p (Some zero) w b value m offers c = subst (OfferFits p) c.waits (offers value.sender)
candidate_fits p (Some (suc n)) w b value m offers c = m.values b c.0 value c.1

pub answer_brings : (p : CheckedTree) (facts : Facts) (w : World) (who : ℕ) (request : Request) (answer : Answer) (refill : Option ℕ) → FitsText p request → AreOfModes p w → StoreIsOfModes p w.store → ((q : ℕ) → OfferFits p (offer w q)) → Answers facts w who request answer refill → BringsValue p request answer
answer_brings p facts w who (Read place) answer refill f m s offers c =
    let whole = s place.location f.0 f.1 in
    let part = within_take place.count (drop place.first (domains_of f.0.mode)) (drop place.first (slice_index_or w.store place.location [])) (within_drop place.first (domains_of f.0.mode) (slice_index_or w.store place.location []) whole) in
    subst (λ (x : Answer). BringsValue p (Read place) x) (sym c.1) (subst (λ (o : Option LocationRowTree). AreWithin (domains_at o place.first place.count) (scalars_at (slice_index_or w.store place.location []) place.first place.count)) (sym f.1) part)
answer_brings p facts w who (ReceiveBuffer things o) (Got alternative send scalars by) refill f m s offers c =
    let takes = c.1 in
    let v = candidate_fits p (buffer_length facts takes.buffer) w takes.buffer (record { send = send; sender = by; scalars = scalars; priority = c.0 }) m offers takes.candidate in
    subst (λ (n : ℕ). AreWithin (domains_in_buffer (slice_get p.buffers n)) scalars) (sym (f.1 takes.buffer alternative takes.listed)) v
answer_brings p facts w who (ReceiveBuffer things o) answer refill f m s offers c = tt
answer_brings p facts w who (ReceiveSignal things o) (Got alternative send scalars by) refill f m s offers c =
    let takes = c.1 in
    let v : IsOfSignal p takes.signal = m.signals takes.pends.place takes.signal takes.pends.pends in
    let same : takes.signal.value.scalars ≡ scalars = ap (λ (x : StoredValue). x.scalars) takes.is in
    subst (λ (n : ℕ). AreWithin (domains_in_signal (slice_get p.signals n)) scalars) (sym (f.1 takes.signal.signal alternative takes.pends.listed))
    (subst (λ (xs : List ℤ). AreWithin (domains_in_signal (slice_get p.signals takes.signal.signal)) xs) same v)
answer_brings p facts w who (ReceiveSignal things o) answer refill f m s offers c = tt
answer_brings p facts w who request answer refill f m s offers c = tt

-- ---- phases

pub phase_moved : (p : CheckedTree) (o : Option Request) (old new : Option Phase) → PhaseFits p o old → ((r : Request) (send back : Option ℕ) (a : Answer) (b : Option ℕ) → old ≡ Some (Waiting r send back) → new ≡ Some (Chosen a b) → BringsValue p r a) → Moves old new → PhaseFits p o new
phase_moved p o old new h k (Stays same) = subst (PhaseFits p o) (sym same) h
phase_moved p o old new h k (IsChosenNow c) =
    let one : o ≡ Some c.request = subst (PhaseFits p o) c.waited h in
    subst (PhaseFits p o) (sym c.has_answer) (c.request, one, record { gives = c.gives; brings = k c.request c.send c.back c.answer c.back c.waited c.has_answer })
phase_moved p o old new h k (Begins none begins) = subst (PhaseFits p o) (sym begins) (subst (PhaseFits p o) none h)

-- ---- what is open

abbrev pub changed : (ℕ → Option Request) → ℕ → Option Request → ℕ → Option Request
changed opens who o i = if who == i then o else opens i

pub changed_here : (opens : ℕ → Option Request) (who : ℕ) (o : Option Request) (i : ℕ) → i ≡ who → changed opens who o i ≡ o
changed_here opens who o i e = let t : (who == i) ≡ true = eq-eqb who i (sym e) in rw t refl

pub differs : (who i : ℕ) → (i ≡ who → ⊥) → (who == i) ≡ false
differs who i apart = elim (cases_Bool (who == i)) [
  | inl same ↦ absurd (apart (sym (eqb-true who i same)))
  | inr fails ↦ fails
]

pub changed_elsewhere : (opens : ℕ → Option Request) (who : ℕ) (o : Option Request) (i : ℕ) → (i ≡ who → ⊥) → changed opens who o i ≡ opens i
changed_elsewhere opens who o i apart = let t = differs who i apart in rw t refl

pub open_more : (p : CheckedTree) (line more : List Item) (as' bs : List Answer) (o : Option Request) → IsOpenWith p line as' None → IsOpenWith p more bs o → IsOpenWith p (line ++ more) (as' ++ bs) o
open_more p [] more as' bs o h k = subst (λ (xs : List Answer). IsOpenWith p more (xs ++ bs) o) (sym h.0) k
open_more p (Tick ∷ line) more as' bs o h k = open_more p line more as' bs o h k
open_more p (Ask q ∷ line) more [] bs o h k = absurd (let e : None ≡ Some q = h.1 in let f : ⊥ = cc in f)
open_more p (Ask q ∷ line) more (a ∷ as') bs o h k = (h.0, open_more p line more as' bs o h.1 k)

pub open_ticks : (p : CheckedTree) (n : ℕ) (more : List Item) (bs : List Answer) (o : Option Request) → IsOpenWith p more bs o → IsOpenWith p (ticks_of n ++ more) bs o
open_ticks p zero more bs o h = h
open_ticks p (suc n) more bs o h = open_ticks p n more bs o h

pub open_goes : (p : CheckedTree) (line : List Item) (as' : List Answer) (r : Request) (a : Answer) → IsOpenWith p line as' (Some r) → FitsAnswer p r a → IsOpenWith p line (as' ++ a ∷ []) None
open_goes p [] as' r a h f = absurd (let e : Some r ≡ None = h.1 in let no : ⊥ = cc in no)
open_goes p (Tick ∷ line) as' r a h f = open_goes p line as' r a h f
open_goes p (Ask q ∷ line) [] r a h f =
    let e : Some r ≡ Some q = h.1 in
    let is : r ≡ q = cc in
    (subst (λ (x : Request). FitsAnswer p x a) is f, subst (λ (l : List Item). IsOpenWith p l [] None) (sym h.0) (refl, refl))
open_goes p (Ask q ∷ line) (b ∷ as') r a h f = (h.0, open_goes p line as' r a h.1 f)
