-- What the machine does with the answers to requests.
use Rattle.std.proofs.Common.{◌≡◌, ℕ, zero, suc, ◌+◌, ◌<◌, ◌≤◌, if◌then◌else◌, Bool, true, false, ◌&&◌, ◌==◌, List, [], ◌∷◌, ◌++◌, ℤ, length, Option, Some, None, slice_get, slice_index_or, eqb-true, refl, sym, ap, ◌∙◌, append-nil, inl}
use Rattle.kernel_base.specs.declared.ends.Exc.{Exc}
use Rattle.kernel_base.specs.declared.ends.Exc.TheVariants.{Rangefail, Empty, Delayfail, Spacefail, Extinct}
use Rattle.kernel_base.specs.declared.request.Request.{Request}
use Rattle.kernel_base.specs.declared.request.Request.TheVariants.{Read, Write, Delay, Continue, SendBuffer, SendSignal, Start, Put, Get, End}
use Rattle.kernel_base.specs.declared.answer.Answer.{Answer}
use Rattle.kernel_base.specs.declared.answer.Answer.TheVariants.{Value, Done, Woken, Got, Otherwise, Instance, Fail, Chose, Handed, Stored}
use Rattle.world_model.specs.Session.{Item, Ask, Session, Asked, Answered, Unanswered, ask}
use Rattle.code_types.specs.declared.instr.Instr.{Instr}
use Rattle.code_types.specs.declared.code.Handler.{Handler}
use Rattle.code_types.specs.Places.{finds, taker}
use Rattle.code_types.specs.Actions.{Requests}
use Rattle.code_types.specs.Answers.{gives, gives_send_signal, no_slot, fits_request, answered, goes_on, regions_after, pushed_by, locals_after}
use Rattle.code_types.specs.State.{Slot, OpenRegion, State, Running, Asking}
use Rattle.code_types.specs.Steps.{At, Over, run_with}
use Rattle.source_meaning.specs.Store.{Store}
use Rattle.source_meaning.specs.Flow.{Goes, Meaning, then_do, fills, takes_answer, Given, Halts, reply_in, asked_in, asked, done}
use Rattle.source_meaning.specs.ExprMeaning.{brought_by, asked_value}
use Rattle.follow_laws.specs.Follows.{Around, is_of_language, frame_at, state_at, here, Holds, Follows, always, HoldsWith, Nothing, on_top, IsLong, action_in}
use Rattle.follow_laws.specs.Laws.{behind_answer, GoesOnBehind, counts_in}
use Rattle.follow_laws.proofs.Running.{is_there, after, makes, comes, raises, stops}

pub answered_is : (q : State) (r : Request) (slots : List Slot) (a : Answer) → GoesOnBehind r → answered q r slots a ≡ behind_answer q r slots a
answered_is q (End how) slots a on = absurd on
answered_is q r slots (Fail x) on = refl
answered_is q r slots (Value xs) on = refl
answered_is q r slots Done on = refl
answered_is q r slots (Woken k by) on = refl
answered_is q r slots (Got k n xs by) on = refl
answered_is q r slots Otherwise on = refl
answered_is q r slots (Instance i) on = refl
answered_is q r slots (Chose c) on = refl
answered_is q r slots (Handed i) on = refl
answered_is q r slots Stored on = refl

count_at : (slots : List Slot) (k : ℕ) → slice_index_or (counts_in slots) k 0 ≡ (slice_index_or slots k no_slot).count
count_at [] k = refl
count_at (q ∷ slots) zero = refl
count_at (q ∷ slots) (suc k) = count_at slots k

-- an answer fits the machine's request where it fits the text's
pub fits_alike : (r : Request) (slots : List Slot) (a : Answer) → takes_answer r (counts_in slots) a ≡ fits_request r slots a
fits_alike r slots (Got k n xs by) = ap (λ (c : ℕ). gives r (Got k n xs by) && (length xs == c)) (count_at slots k)
fits_alike r slots (Fail x) = refl
fits_alike r slots (Value xs) = refl
fits_alike r slots Done = refl
fits_alike r slots (Woken k by) = refl
fits_alike r slots Otherwise = refl
fits_alike r slots (Instance i) = refl
fits_alike r slots (Chose c) = refl
fits_alike r slots (Handed i) = refl
fits_alike r slots Stored = refl

-- an answer other than a failure
abbrev pub IsNoFailure : Answer → Type 0
IsNoFailure (Fail x) = ⊥
IsNoFailure a = Unit {0}

-- no row takes what is raised at a place
abbrev pub Untaken : List Handler → ℕ → Type 0
Untaken rows at = (x : Exc) → taker rows at x ≡ None

pub none_takes : (at : ℕ) → Untaken [] at
none_takes at x = refl

both_hold : (a b : Bool) → (a && b) ≡ true → a ≡ true
both_hold true b e = refl
both_hold false b e = e

sent_fails : (to : Option ℕ) (x : Exc) → gives_send_signal to (Fail x) ≡ true → is_of_language x ≡ true
sent_fails (Some zero) Empty e = refl
sent_fails (Some (suc i)) Extinct e = refl
sent_fails to x e = absurd (let no : ⊥ = cc in no)

-- a request fails with an exception of the language
failure_arises : (request : Request) (x : Exc) → gives request (Fail x) ≡ true → is_of_language x ≡ true
failure_arises (Delay events priority) Delayfail e = refl
failure_arises (SendSignal signal scalars to priority) x e = sent_fails to x e
failure_arises (Start process scalars) Spacefail e = refl
failure_arises Get Empty e = refl
failure_arises Get Rangefail e = refl
failure_arises request x e = absurd (let no : ⊥ = cc in no)

-- A request that a state asks: the trace ends there, or the answer fits and the exception that it fails with is raised, or
-- control goes on.
pub asks_follow : {A : Type 0} (w : Around) (lo hi : ℕ) (rows : List Handler) (to : A → ℕ) (give : A → List ℤ) (Q : A → Store → List ℤ → Type 0) (at : ℕ) (request : Request) (slots : List Slot) (base locals : List ℤ) (store : Store) (s : Session) (next : Answer → Meaning A)
    → GoesOnBehind request → lo ≤ at → at < hi → Untaken rows at → Holds w store locals
    → ((a : Answer) (s1 : Session) → IsNoFailure a → takes_answer request (counts_in slots) a ≡ true → Follows w (At (goes_on (state_at w (Asking request slots) at base locals) request slots a (frame_at w at base locals ∷ w.below)) s1) lo hi rows to give Q (next a store s1))
    → Follows w (At (state_at w (Asking request slots) at base locals) (record s { trace = s.trace ++ Ask request ∷ [] })) lo hi rows to give Q (then_do (asked request (counts_in slots) store s) next)
asks_follow {A} w lo hi rows to give Q at request slots base locals store s next on l u none h f =
    after {n = run_with q request slots (ask request s) trace} (record { count = 1; by = refl }) (by_asked (ask request s))
  where
    q : State
    q = state_at w (Asking request slots) at base locals

    trace : List Item
    trace = s.trace ++ Ask request ∷ []

    halts : (t : List Item) → Follows w (Over q t) lo hi rows to give Q (then_do (asked_in (Halts t) store) next)
    halts t = stops (Asking request slots) t h

    by_given : (a : Answer) (s1 : Session) → takes_answer request (counts_in slots) a ≡ true → Follows w (At (behind_answer q request slots a) s1) lo hi rows to give Q (then_do (asked_in (Given a s1) store) next)
    by_given (Fail x) s1 e = raises (inl (failure_arises request x (both_hold (gives request (Fail x)) (fills (counts_in slots) (Fail x)) e))) l u (none x) h
    by_given (Value xs) s1 e = f (Value xs) s1 tt e
    by_given Done s1 e = f Done s1 tt e
    by_given (Woken k by) s1 e = f (Woken k by) s1 tt e
    by_given (Got k n xs by) s1 e = f (Got k n xs by) s1 tt e
    by_given Otherwise s1 e = f Otherwise s1 tt e
    by_given (Instance i) s1 e = f (Instance i) s1 tt e
    by_given (Chose c) s1 e = f (Chose c) s1 tt e
    by_given (Handed i) s1 e = f (Handed i) s1 tt e
    by_given Stored s1 e = f Stored s1 tt e

    by_fit : (a : Answer) (s1 : Session) (b c : Bool) → takes_answer request (counts_in slots) a ≡ b → c ≡ b → Follows w (if c then At (answered q request slots a) s1 else Over q trace) lo hi rows to give Q (then_do (asked_in (if b then Given a s1 else Halts trace) store) next)
    by_fit a s1 true true e d = after (is_there w.code (At (answered q request slots a) s1) (At (behind_answer q request slots a) s1) (ap (λ x. At x s1) (answered_is q request slots a on))) (by_given a s1 e)
    by_fit a s1 false false e d = halts trace
    by_fit a s1 true false e d = absurd (let no : ⊥ = cc in no)
    by_fit a s1 false true e d = absurd (let no : ⊥ = cc in no)

    by_asked : (x : Asked) → Follows w (run_with q request slots x trace) lo hi rows to give Q (then_do (asked_in (reply_in request (counts_in slots) x trace) store) next)
    by_asked (Answered a s1) = by_fit a s1 (takes_answer request (counts_in slots) a) (fits_request request slots a) refl (sym (fits_alike request slots a))
    by_asked (Unanswered t) = halts t

-- an instruction asks a request
pub asks_by : {A : Type 0} (w : Around) (i : Instr) (lo hi : ℕ) (rows : List Handler) (to : A → ℕ) (give : A → List ℤ) (Q : A → Store → List ℤ → Type 0) (at : ℕ) (request : Request) (slots : List Slot) (base xs locals : List ℤ) (store : Store) (s : Session) (next : Answer → Meaning A)
    → slice_get w.code.instrs at ≡ Some i → finds w.code w.body i ≡ length xs
    → action_in w i at (base ++ xs) locals xs ≡ Requests request slots
    → GoesOnBehind request → lo ≤ at → at < hi → Untaken rows at → Holds w store locals
    → ((a : Answer) (s1 : Session) → IsNoFailure a → takes_answer request (counts_in slots) a ≡ true → Follows w (At (goes_on (state_at w (Asking request slots) at base locals) request slots a (frame_at w at base locals ∷ w.below)) s1) lo hi rows to give Q (next a store s1))
    → Follows w (here w at (base ++ xs) locals s) lo hi rows to give Q (then_do (asked request (counts_in slots) store s) next)
asks_by w i lo hi rows to give Q at request slots base xs locals store s next is found does on l u none h f =
    makes i at base xs locals s (Requests request slots) is found does (asks_follow w lo hi rows to give Q at request slots base locals store s next on l u none h f)

-- ---- requests whose answers tell nothing

-- the answer pushes nothing and sets nothing
abbrev pub TellsNothing : Answer → Type 0
TellsNothing (Value xs) = ⊥
TellsNothing (Woken k by) = ⊥
TellsNothing (Got k n xs by) = ⊥
TellsNothing Otherwise = ⊥
TellsNothing (Instance i) = ⊥
TellsNothing a = Unit {0}

-- a request that opens and leaves no region, whose answers tell nothing
abbrev pub IsPlain : Request → Type 0
IsPlain (Write p xs) = Unit {0}
IsPlain (Continue e) = Unit {0}
IsPlain (SendBuffer b xs p) = Unit {0}
IsPlain (SendSignal n xs to p) = Unit {0}
IsPlain (Put bytes) = Unit {0}
IsPlain r = ⊥

no_truth : {A : Type 0} → false ≡ true → A
no_truth e = absurd (let no : ⊥ = cc in no)

signal_tells : (to : Option ℕ) (n p : ℕ) (xs : List ℤ) (a : Answer) → takes_answer (SendSignal n xs to p) [] a ≡ true → TellsNothing a
signal_tells (Some zero) n p xs (Value ys) e = no_truth e
signal_tells (Some zero) n p xs (Woken k by) e = no_truth e
signal_tells (Some zero) n p xs (Got k m ys by) e = no_truth e
signal_tells (Some zero) n p xs Otherwise e = no_truth e
signal_tells (Some zero) n p xs (Instance i) e = no_truth e
signal_tells (Some (suc j)) n p xs (Value ys) e = no_truth e
signal_tells (Some (suc j)) n p xs (Woken k by) e = no_truth e
signal_tells (Some (suc j)) n p xs (Got k m ys by) e = no_truth e
signal_tells (Some (suc j)) n p xs Otherwise e = no_truth e
signal_tells (Some (suc j)) n p xs (Instance i) e = no_truth e
signal_tells None n p xs (Value ys) e = no_truth e
signal_tells None n p xs (Woken k by) e = no_truth e
signal_tells None n p xs (Got k m ys by) e = no_truth e
signal_tells None n p xs Otherwise e = no_truth e
signal_tells None n p xs (Instance i) e = no_truth e
signal_tells to n p xs Done e = tt
signal_tells to n p xs (Fail x) e = tt
signal_tells to n p xs (Chose c) e = tt
signal_tells to n p xs (Handed i) e = tt
signal_tells to n p xs Stored e = tt

pub plain_tells : (r : Request) (a : Answer) → IsPlain r → takes_answer r [] a ≡ true → TellsNothing a
plain_tells (SendSignal n xs to p) a plain e = signal_tells to n p xs a e
plain_tells (Write p xs) (Value ys) plain e = no_truth e
plain_tells (Write p xs) (Woken k by) plain e = no_truth e
plain_tells (Write p xs) (Got k m ys by) plain e = no_truth e
plain_tells (Write p xs) Otherwise plain e = no_truth e
plain_tells (Write p xs) (Instance i) plain e = no_truth e
plain_tells (Continue j) (Value ys) plain e = no_truth e
plain_tells (Continue j) (Woken k by) plain e = no_truth e
plain_tells (Continue j) (Got k m ys by) plain e = no_truth e
plain_tells (Continue j) Otherwise plain e = no_truth e
plain_tells (Continue j) (Instance i) plain e = no_truth e
plain_tells (SendBuffer b xs p) (Value ys) plain e = no_truth e
plain_tells (SendBuffer b xs p) (Woken k by) plain e = no_truth e
plain_tells (SendBuffer b xs p) (Got k m ys by) plain e = no_truth e
plain_tells (SendBuffer b xs p) Otherwise plain e = no_truth e
plain_tells (SendBuffer b xs p) (Instance i) plain e = no_truth e
plain_tells (Put bytes) (Value ys) plain e = no_truth e
plain_tells (Put bytes) (Woken k by) plain e = no_truth e
plain_tells (Put bytes) (Got k m ys by) plain e = no_truth e
plain_tells (Put bytes) Otherwise plain e = no_truth e
plain_tells (Put bytes) (Instance i) plain e = no_truth e
plain_tells r Done plain e = tt
plain_tells r (Fail x) plain e = tt
plain_tells r (Chose c) plain e = tt
plain_tells r (Handed i) plain e = tt
plain_tells r Stored plain e = tt
plain_tells r a plain e = absurd plain

plain_goes_on : (r : Request) → IsPlain r → GoesOnBehind r
plain_goes_on (Write p xs) plain = tt
plain_goes_on (Continue e) plain = tt
plain_goes_on (SendBuffer b xs p) plain = tt
plain_goes_on (SendSignal n xs to p) plain = tt
plain_goes_on (Put bytes) plain = tt
plain_goes_on r plain = absurd plain

plain_regions : (r : Request) (n : ℕ) (regions : List OpenRegion) → IsPlain r → regions_after r n regions ≡ regions
plain_regions (Write p xs) n regions plain = refl
plain_regions (Continue e) n regions plain = refl
plain_regions (SendBuffer b xs p) n regions plain = refl
plain_regions (SendSignal m xs to p) n regions plain = refl
plain_regions (Put bytes) n regions plain = refl
plain_regions r n regions plain = absurd plain

-- the frame behind an answer, in these regions
abbrev pub state_behind : Around → Request → List Slot → Answer → ℕ → List ℤ → List ℤ → State
state_behind w r slots a at base locals = goes_on (state_at w (Asking r slots) at base locals) r slots a (frame_at w at base locals ∷ w.below)

-- what an answer leaves of the frame, where its request opens and leaves no region
frame_is : (w : Around) (r : Request) (slots : List Slot) (a : Answer) (at : ℕ) (base locals : List ℤ) (pushed set : List ℤ)
    → regions_after r (suc (length w.below)) w.regions ≡ w.regions → pushed_by (length slots) a ≡ pushed → locals_after slots a locals ≡ set
    → state_behind w r slots a at base locals ≡ state_at w Running (at + 1) (base ++ pushed) set
frame_is w r slots a at base locals pushed set same p l =
    ap (λ (rs : List OpenRegion). record (state_behind w r slots a at base locals) { regions = rs }) same
    ∙ (ap (λ (xs : List ℤ). state_at w Running (at + 1) (base ++ xs) (locals_after slots a locals)) p
    ∙ ap (λ (xs : List ℤ). state_at w Running (at + 1) (base ++ pushed) xs) l)

quiet_pushes : (n : ℕ) (a : Answer) → TellsNothing a → pushed_by n a ≡ []
quiet_pushes n Done t = refl
quiet_pushes n (Fail x) t = refl
quiet_pushes n (Chose c) t = refl
quiet_pushes n (Handed i) t = refl
quiet_pushes n Stored t = refl
quiet_pushes n a t = absurd t

quiet_locals : (slots : List Slot) (a : Answer) (locals : List ℤ) → TellsNothing a → locals_after slots a locals ≡ locals
quiet_locals slots Done locals t = refl
quiet_locals slots (Fail x) locals t = refl
quiet_locals slots (Chose c) locals t = refl
quiet_locals slots (Handed i) locals t = refl
quiet_locals slots Stored locals t = refl
quiet_locals slots a locals t = absurd t

-- A request whose answers tell nothing.
pub done_by : (w : Around) (i : Instr) (lo hi to : ℕ) (rows : List Handler) (at : ℕ) (request : Request) (base xs locals : List ℤ) (store : Store) (s : Session)
    → slice_get w.code.instrs at ≡ Some i → finds w.code w.body i ≡ length xs
    → action_in w i at (base ++ xs) locals xs ≡ Requests request []
    → IsPlain request → at + 1 ≡ to → lo ≤ at → at < hi → Untaken rows at → Holds w store locals
    → Follows w (here w at (base ++ xs) locals s) lo hi rows (always to) (always base) (HoldsWith w Nothing) (done request store s)
done_by w i lo hi to rows at request base xs locals store s is found does plain e l u none h =
    asks_by w i lo hi rows (always to) (always base) (HoldsWith w Nothing) at request [] base xs locals store s (λ answer. Goes tt) is found does (plain_goes_on request plain) l u none h
    (λ a s1 given fit.
    let tells : TellsNothing a = plain_tells request a plain fit in
    let state : state_behind w request [] a at base locals ≡ state_at w Running (at + 1) (base ++ []) locals =
    frame_is w request [] a at base locals [] locals (plain_regions request (suc (length w.below)) w.regions plain) (quiet_pushes 0 a tells) (quiet_locals [] a locals tells) in
    after (is_there w.code (At (state_behind w request [] a at base locals) s1) (here w (at + 1) (base ++ []) locals s1) (ap (λ q. At q s1) state))
    (comes {v = tt} e (append-nil base) (tt, h)))

-- ---- requests that give a value

-- a request whose answers bring so many scalars
abbrev pub IsAskedFor : Request → ℕ → Type 0
IsAskedFor (Read p) n = p.count ≡ n
IsAskedFor (Start b xs) n = 1 ≡ n
IsAskedFor Get n = 1 ≡ n
IsAskedFor r n = ⊥

abbrev pub Brings : ℕ → Answer → Type 0
Brings n (Value xs) = length xs ≡ n
Brings n (Instance i) = 1 ≡ n
Brings n a = ⊥

first_true : (b c : Bool) → (b && c) ≡ true → b ≡ true
first_true true c e = refl
first_true false c e = no_truth e

get_brings : (xs : List ℤ) → takes_answer Get [] (Value xs) ≡ true → 1 ≡ length xs
get_brings [] e = no_truth e
get_brings (x ∷ []) e = refl
get_brings (x ∷ y ∷ xs) e = no_truth e

pub asked_brings : (r : Request) (n : ℕ) (a : Answer) → IsAskedFor r n → IsNoFailure a → takes_answer r [] a ≡ true → Brings n a
asked_brings (Read p) n (Value xs) asked given e = eqb-true (length xs) p.count (first_true (length xs == p.count) true e) ∙ asked
asked_brings (Read p) n (Fail x) asked given e = absurd given
asked_brings (Read p) n Done asked given e = no_truth e
asked_brings (Read p) n (Woken k by) asked given e = no_truth e
asked_brings (Read p) n (Got k m xs by) asked given e = no_truth e
asked_brings (Read p) n Otherwise asked given e = no_truth e
asked_brings (Read p) n (Instance i) asked given e = no_truth e
asked_brings (Read p) n (Chose c) asked given e = no_truth e
asked_brings (Read p) n (Handed i) asked given e = no_truth e
asked_brings (Read p) n Stored asked given e = no_truth e
asked_brings (Start b ys) n (Instance i) asked given e = asked
asked_brings (Start b ys) n (Fail x) asked given e = absurd given
asked_brings (Start b ys) n (Value xs) asked given e = no_truth e
asked_brings (Start b ys) n Done asked given e = no_truth e
asked_brings (Start b ys) n (Woken k by) asked given e = no_truth e
asked_brings (Start b ys) n (Got k m xs by) asked given e = no_truth e
asked_brings (Start b ys) n Otherwise asked given e = no_truth e
asked_brings (Start b ys) n (Chose c) asked given e = no_truth e
asked_brings (Start b ys) n (Handed i) asked given e = no_truth e
asked_brings (Start b ys) n Stored asked given e = no_truth e
asked_brings Get n (Value xs) asked given e = sym (get_brings xs e) ∙ asked
asked_brings Get n (Fail x) asked given e = absurd given
asked_brings Get n (Instance i) asked given e = no_truth e
asked_brings Get n Done asked given e = no_truth e
asked_brings Get n (Woken k by) asked given e = no_truth e
asked_brings Get n (Got k m xs by) asked given e = no_truth e
asked_brings Get n Otherwise asked given e = no_truth e
asked_brings Get n (Chose c) asked given e = no_truth e
asked_brings Get n (Handed i) asked given e = no_truth e
asked_brings Get n Stored asked given e = no_truth e
asked_brings r n a asked given e = absurd asked

asked_goes_on : (r : Request) (n : ℕ) → IsAskedFor r n → GoesOnBehind r
asked_goes_on (Read p) n asked = tt
asked_goes_on (Start b xs) n asked = tt
asked_goes_on Get n asked = tt
asked_goes_on r n asked = absurd asked

asked_regions : (r : Request) (n k : ℕ) (regions : List OpenRegion) → IsAskedFor r n → regions_after r k regions ≡ regions
asked_regions (Read p) n k regions asked = refl
asked_regions (Start b xs) n k regions asked = refl
asked_regions Get n k regions asked = refl
asked_regions r n k regions asked = absurd asked

brought_long : (n : ℕ) (a : Answer) → Brings n a → length (brought_by a) ≡ n
brought_long n (Value xs) b = b
brought_long n (Instance i) b = b
brought_long n a b = absurd b

brought_pushed : (n k : ℕ) (a : Answer) → Brings n a → pushed_by k a ≡ brought_by a
brought_pushed n k (Value xs) b = refl
brought_pushed n k (Instance i) b = refl
brought_pushed n k a b = absurd b

brought_locals : (n : ℕ) (slots : List Slot) (a : Answer) (locals : List ℤ) → Brings n a → locals_after slots a locals ≡ locals
brought_locals n slots (Value xs) locals b = refl
brought_locals n slots (Instance i) locals b = refl
brought_locals n slots a locals b = absurd b

-- A request that gives a value.
pub value_by : (w : Around) (i : Instr) (lo hi to n : ℕ) (rows : List Handler) (at : ℕ) (request : Request) (base xs locals : List ℤ) (store : Store) (s : Session)
    → slice_get w.code.instrs at ≡ Some i → finds w.code w.body i ≡ length xs
    → action_in w i at (base ++ xs) locals xs ≡ Requests request []
    → IsAskedFor request n → at + 1 ≡ to → lo ≤ at → at < hi → Untaken rows at → Holds w store locals
    → Follows w (here w at (base ++ xs) locals s) lo hi rows (always to) (on_top base) (HoldsWith w (IsLong n)) (asked_value request [] store s)
value_by w i lo hi to n rows at request base xs locals store s is found does asked e l u none h =
    asks_by w i lo hi rows (always to) (on_top base) (HoldsWith w (IsLong n)) at request [] base xs locals store s (λ answer. Goes (brought_by answer)) is found does (asked_goes_on request n asked) l u none h
    (λ a s1 given fit.
    let brings : Brings n a = asked_brings request n a asked given fit in
    let state : state_behind w request [] a at base locals ≡ state_at w Running (at + 1) (base ++ brought_by a) locals =
    frame_is w request [] a at base locals (brought_by a) locals (asked_regions request n (suc (length w.below)) w.regions asked) (brought_pushed n 0 a brings) (brought_locals n [] a locals brings) in
    after (is_there w.code (At (state_behind w request [] a at base locals) s1) (here w (at + 1) (base ++ brought_by a) locals s1) (ap (λ q. At q s1) state))
    (comes {v = brought_by a} e refl (brought_long n a brings, h)))
