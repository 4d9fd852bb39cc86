-- What Enter and Leave do: the region is open behind the one, and no longer behind the other.
use Rattle.std.proofs.Common.{◌≡◌, ℕ, suc, ◌+◌, ◌≤◌, if◌then◌else◌, Bool, true, false, ◌&&◌, ◌==◌, List, [], ◌∷◌, ◌++◌, ℤ, length, slice_get, Some, eq-eqb, eqb-true, refl, sym, ap, ◌∙◌, arith}
use Rattle.kernel_base.specs.declared.request.Request.{Request}
use Rattle.kernel_base.specs.declared.request.Request.TheVariants.{Enter, Leave}
use Rattle.kernel_base.specs.declared.answer.Answer.{Answer}
use Rattle.kernel_base.specs.declared.answer.Answer.TheVariants.{Done}
use Rattle.world_model.specs.Session.{Item, Ask, Session, Asked, Answered, Unanswered, ask}
use Rattle.code_types.specs.declared.instr.Instr.TheVariants as i
use Rattle.code_types.specs.Actions.{Pushes, Requests, is_open, is_last_of}
use Rattle.code_types.specs.Answers.{gives, is_done, fits_request, answered, goes_on, without_last}
use Rattle.code_types.specs.State.{OpenRegion, State, Asking}
use Rattle.code_types.specs.Steps.{Run, At, Over, run_with}
use Rattle.source_meaning.specs.Store.{Store}
use Rattle.source_meaning.specs.Flow.{Flow, Goes, Stops, then_do, fills, takes_answer, Given, Halts, reply_in, asked_in, done}
use Rattle.follow_laws.specs.Follows.{Around, frame_at, state_at, here, Holds, GetsTo, StopsOpen, own_call}
use Rattle.follow_laws.specs.Laws.{GoesOnBehind}
use Rattle.follow_laws.proofs.Running.{is_there, one_more, gets_then, acts, own_frame}
use Rattle.follow_laws.proofs.Requesting.{answered_is, fits_alike}
use Rattle.code_laws.specs.Calls.{open_in, EnteredBelow}

-- the region that a frame enters
abbrev pub opened_by : Around → ℕ → OpenRegion
opened_by w r = record { region = r; frame = suc (length w.below) }

-- the same surroundings, where the frame has entered a region
abbrev pub entered_in : Around → ℕ → Around
entered_in w r = record w { regions = w.regions ++ opened_by w r ∷ [] }

pub open_more : (qs : List OpenRegion) (q : OpenRegion) → open_in (qs ++ q ∷ []) ≡ open_in qs ++ q.region ∷ []
open_more [] q = refl
open_more (x ∷ qs) q = ap (λ (rs : List ℕ). x.region ∷ rs) (open_more qs q)

pub entered_too : (n : ℕ) (qs : List OpenRegion) (q : OpenRegion) → EnteredBelow n qs → q.frame ≤ n → EnteredBelow n (qs ++ q ∷ [])
entered_too n [] q below low = (low, tt)
entered_too n (x ∷ qs) q below low = (below.0, entered_too n qs q below.1 low)

first_true : (a b : Bool) → (a && b) ≡ true → a ≡ true
first_true true b e = refl
first_true false b e = e

-- A request that only gives Done: the talk stops at it, or the machine goes on.
done_comes : (w : Around) (request : Request) (at : ℕ) (locals : List ℤ) (m : Run) (store : Store) (s : Session) (P : Flow (Unit {0}) → Type 0)
    → GoesOnBehind request → ((a : Answer) → gives request a ≡ is_done a)
    → GetsTo w.code m (At (state_at w (Asking request []) at [] locals) (record s { trace = s.trace ++ Ask request ∷ [] }))
    → ((t : List Item) → GetsTo w.code m (Over (state_at w (Asking request []) at [] locals) t) → P (Stops t [] store))
    → ((s1 : Session) → GetsTo w.code m (At (goes_on (state_at w (Asking request []) at [] locals) request [] Done (frame_at w at [] locals ∷ w.below)) s1) → P (Goes tt store s1))
    → P (done request store s)
done_comes w request at locals m store s P on only asks halts goes =
    by_asked (ask request s) (gets_then asks (one_more w.code (At q (record s { trace = trace })) (run_with q request [] (ask request s) trace) refl))
  where
    q : State
    q = state_at w (Asking request []) at [] locals

    trace : List Item
    trace = s.trace ++ Ask request ∷ []

    by_done : (a : Answer) (s1 : Session) → is_done a ≡ true → GetsTo w.code m (At (answered q request [] a) s1) → P (then_do (asked_in (Given a s1) store) (λ b. Goes tt))
    by_done Done s1 e r = goes s1 (gets_then r (is_there w.code (At (answered q request [] Done) s1) (At (goes_on q request [] Done (frame_at w at [] locals ∷ w.below)) s1) (ap (λ (x : State). At x s1) (answered_is q request [] Done on))))
    by_done a s1 e r = absurd (let no : ⊥ = cc in no)

    by_fit : (a : Answer) (s1 : Session) (x y : Bool) → takes_answer request [] a ≡ x → x ≡ y → GetsTo w.code m (if y then At (answered q request [] a) s1 else Over q trace) → P (then_do (asked_in (if x then Given a s1 else Halts trace) store) (λ b. Goes tt))
    by_fit a s1 true true is e r = by_done a s1 (sym (only a) ∙ first_true (gives request a) (fills [] a) is) r
    by_fit a s1 false false is e r = halts trace r
    by_fit a s1 true false is e r = absurd (let no : ⊥ = cc in no)
    by_fit a s1 false true is e r = absurd (let no : ⊥ = cc in no)

    by_asked : (x : Asked) → GetsTo w.code m (run_with q request [] x trace) → P (then_do (asked_in (reply_in request [] x trace) store) (λ b. Goes tt))
    by_asked (Answered a s1) r = by_fit a s1 (takes_answer request [] a) (fits_request request [] a) refl (fits_alike request [] a) r
    by_asked (Unanswered t) r = halts t r

-- the talk stops in this frame
stops_there : (w : Around) (request : Request) (at : ℕ) (locals : List ℤ) (m : Run) (store : Store) (t : List Item) → Holds w store locals
    → GetsTo w.code m (Over (state_at w (Asking request []) at [] locals) t) → StopsOpen w.code w.below m t (own_call w store ∷ [])
stops_there w request at locals m store t h r =
    record { state = state_at w (Asking request []) at [] locals; front = frame_at w at [] locals ∷ []; frames = refl; are = (own_frame w at [] locals store h, tt); by = r }

-- Enter of a region that isn't open
pub enter_comes : (w : Around) (r at : ℕ) (locals : List ℤ) (m : Run) (store : Store) (s : Session) (P : Flow (Unit {0}) → Type 0)
    → slice_get w.code.instrs at ≡ Some (i.Enter r) → is_open r w.regions ≡ false → Holds w store locals → GetsTo w.code m (here w at [] locals s)
    → ((t : List Item) → StopsOpen w.code w.below m t (own_call w store ∷ []) → P (Stops t [] store))
    → ((s1 : Session) → GetsTo w.code m (here (entered_in w r) (at + 1) [] locals s1) → P (Goes tt store s1))
    → P (done (Enter r) store s)
enter_comes w r at locals m store s P has closed h by halts goes =
    done_comes w (Enter r) at locals m store s P tt (λ a. refl)
    (gets_then by (acts w (i.Enter r) at [] [] locals s (Requests (Enter r) []) has refl (ap (λ (t : Bool). if t then Pushes [] else Requests (Enter r) []) closed)))
    (λ t stop. halts t (stops_there w (Enter r) at locals m store t h stop))
    goes

-- of one that is
pub enter_passes : (w : Around) (r at : ℕ) (locals : List ℤ) (s : Session) → slice_get w.code.instrs at ≡ Some (i.Enter r) → is_open r w.regions ≡ true
    → GetsTo w.code (here w at [] locals s) (here w (at + 1) [] locals s)
enter_passes w r at locals s has open_there = acts w (i.Enter r) at [] [] locals s (Pushes []) has refl (ap (λ (t : Bool). if t then Pushes [] else Requests (Enter r) []) open_there)

-- ---- Leave

both_true_too : (a b : Bool) → a ≡ true → b ≡ true → (a && b) ≡ true
both_true_too true b e f = f
both_true_too false b e f = e

last_is : (r n : ℕ) (qs : List OpenRegion) → is_last_of r n (qs ++ record { region = r; frame = n } ∷ []) ≡ true
last_is r n [] = both_true_too (r == r) (n == n) (eq-eqb r r refl) (eq-eqb n n refl)
last_is r n (q ∷ []) = both_true_too (r == r) (n == n) (eq-eqb r r refl) (eq-eqb n n refl)
last_is r n (q ∷ p ∷ qs) = last_is r n (p ∷ qs)

last_gone : (x : OpenRegion) (qs : List OpenRegion) → without_last (qs ++ x ∷ []) ≡ qs
last_gone x [] = refl
last_gone x (q ∷ []) = refl
last_gone x (q ∷ p ∷ qs) = ap (λ (ps : List OpenRegion). q ∷ ps) (last_gone x (p ∷ qs))

-- Leave of a region that this frame entered last
pub leave_comes : (w : Around) (r at : ℕ) (locals : List ℤ) (m : Run) (store : Store) (s : Session) (P : Flow (Unit {0}) → Type 0)
    → slice_get w.code.instrs at ≡ Some (i.Leave r) → Holds w store locals → GetsTo w.code m (here (entered_in w r) at [] locals s)
    → ((t : List Item) → StopsOpen w.code w.below m t (own_call w store ∷ []) → P (Stops t [] store))
    → ((s1 : Session) → GetsTo w.code m (here w (at + 1) [] locals s1) → P (Goes tt store s1))
    → P (done (Leave r) store s)
leave_comes w r at locals m store s P has h by halts goes =
    let inner : Around = entered_in w r in
    done_comes inner (Leave r) at locals m store s P tt (λ a. refl)
    (gets_then by (acts inner (i.Leave r) at [] [] locals s (Requests (Leave r) []) has refl (ap (λ (t : Bool). if t then Requests (Leave r) [] else Pushes []) (last_is r (suc (length w.below)) w.regions))))
    (λ t stop. halts t (stops_there inner (Leave r) at locals m store t (record { rest = h.rest; is = h.is; fit = h.fit; result = h.result; long = h.long }) stop))
    (λ s1 gone. goes s1 (gets_then gone (is_there w.code _ (here w (at + 1) [] locals s1) (ap (λ (qs : List OpenRegion). here (record w { regions = qs }) (at + 1) [] locals s1) (last_gone (opened_by w r) w.regions)))))

-- a region that another frame entered isn't this one's
not_last : (r n : ℕ) (qs : List OpenRegion) → EnteredBelow n qs → is_last_of r (suc n) qs ≡ false
not_last r n [] below = refl
not_last r n (q ∷ []) below = by_frame (q.region == r) (q.frame == suc n) refl
  where
    by_frame : (a b : Bool) → (q.frame == suc n) ≡ b → (a && b) ≡ false
    by_frame true true e = absurd (let same : q.frame ≡ suc n = eqb-true q.frame (suc n) e in let no : ⊥ = omega (arith, same, below.0) in no)
    by_frame true false e = refl
    by_frame false b e = refl
not_last r n (q ∷ p ∷ qs) below = not_last r n (p ∷ qs) below.1

-- Leave where this frame entered no region
pub leave_passes : (w : Around) (r at : ℕ) (locals : List ℤ) (s : Session) → slice_get w.code.instrs at ≡ Some (i.Leave r) → EnteredBelow (length w.below) w.regions
    → GetsTo w.code (here w at [] locals s) (here w (at + 1) [] locals s)
leave_passes w r at locals s has below =
    acts w (i.Leave r) at [] [] locals s (Pushes []) has refl (ap (λ (t : Bool). if t then Requests (Leave r) [] else Pushes []) (not_last r (length w.below) w.regions below))
