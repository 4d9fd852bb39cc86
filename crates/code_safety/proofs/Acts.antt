-- What each instruction does keeps a process standing well.
use Rattle.std.proofs.Common.{◌≡◌, refl, ℕ, ◌+◌, ◌<◌, ◌≤◌, inl, inr, true, false, List, [], ◌∷◌, ℤ, length, take, drop, Option, Some, None, nat_lt, arith, rules, tests}
use Rattle.std.specs.Prelude.{IsFalse, ◌+ℤ◌, pos}
use Rattle.std.proofs.lemmas.List.{length-append, length-drop}
use Rattle.kernel_base.specs.declared.ends.Exc.{Exc}
use Rattle.kernel_base.specs.declared.ends.Exc.TheVariants.{Overflow, Rangefail, Spacefail}
use Rattle.kernel_base.specs.declared.request.Request.{Request}
use Rattle.kernel_base.specs.declared.request.Request.TheVariants.{Read as AsksRead, Write as AsksWrite, Enter as AsksEnter, Leave as AsksLeave, Delay as AsksDelay, Continue as AsksContinue, SendBuffer, ReceiveBuffer, SendSignal, ReceiveSignal, Start as AsksStart, Put, Get}
use Rattle.code_types.specs.declared.instr.Instr.{Instr}
use Rattle.code_types.specs.declared.instr.Instr.TheVariants.{Push, Pop, Copy, Thing, Local, SetLocal, LocalAt, SetLocalAt, Part, PartAt, Index, Check, Add, Sub, Mul, Div, Mod, Rem, Neg, Abs, Succ, Pred, Same, Less, Not, And, Or, Xor, BitNot, BitAnd, BitOr, BitXor, BitMinus, Within, Has, Card, Least, Most, Span, Jump, Unless, Again, Call, Return, Enter, Leave, Raise, This, Read, Write, Delay, Continue, Send, Signal, Take, Hear, Start, PutInt, PutText, PutLine, GetInt, Stop, Finish}
use Rattle.code_types.specs.declared.code.BodyRow.{BodyRow}
use Rattle.code_types.specs.declared.code.Code.{Code}
use Rattle.code_types.specs.Agreement.{IsNamed, LeadsForward, LeadsTo}
use Rattle.code_types.specs.Places.{finds, pops, pushes, is_last}
use Rattle.code_types.specs.Operands.{triples_of}
use Rattle.code_types.specs.Answers.{gives}
use Rattle.code_types.specs.Actions.{Action, Pushes, Sets, GoesTo, TicksTo, Calls, Returns, Throws, Requests, Halts, action_of, on_ints, with_one, result_or, asks, is_open, is_last_of, most_frames}
use Rattle.code_types.specs.State.{Frame, Slot, State}
use Rattle.code_types.specs.Steps.{moved}
use Rattle.code_safety.specs.Standing.{Waits, WaitsFor}
use Rattle.code_safety.proofs.ActionOutcomes.{keeps_one, keeps_two, keeps_lowest, keeps_result, keeps_member, keeps_offset, keeps_number, by_test, keeps_part, keeps_framed, keeps_set_in_frame, keeps_set_at, keeps_delays, keeps_puts, Lie, no_slots_lie, triples_lie, keeps_receives}
use Rattle.code_safety.proofs.AnswersBrought.{AllBring, read_brings, done_brings, delay_brings, continue_brings, send_buffer_brings, receive_brings, send_signal_brings, start_brings, get_brings, fitting_brings}

-- What an action has to be, which the instruction makes in a frame of so many, so that the process stands well behind it.
abbrev pub ActsWell : Code → Frame → ℕ → Instr → Action → Type 0
ActsWell code f count instr (Pushes numbers) = IsFalse (is_last instr) × (length numbers + pops code f.body instr ≡ pushes code instr + finds code f.body instr)
ActsWell code f count instr (Sets first numbers) = IsFalse (is_last instr) × (pushes code instr ≡ 0) × (pops code f.body instr ≡ finds code f.body instr) × (first + length numbers ≤ length f.locals)
ActsWell code f count instr (GoesTo to) = LeadsTo f.place instr to × (f.place < to) × (pushes code instr ≡ 0) × (pops code f.body instr ≡ finds code f.body instr)
ActsWell code f count instr (TicksTo to) = instr ≡ Again to
ActsWell code f count instr Calls = (callee : ℕ) × (instr ≡ Call callee) × (count < most_frames)
ActsWell code f count instr (Returns results) = (instr ≡ Return) × (length results ≡ finds code f.body instr)
ActsWell code f count instr (Throws exception) = Unit {0}
ActsWell code f count instr (Requests request slots) = (stack : List ℤ) (height : ℕ) → length stack + finds code f.body instr ≡ height → WaitsFor code request slots (moved f f.place stack) instr height
ActsWell code f count instr Halts = ⊥

-- a frame waits for an answer to a request, with its operands off the stack
waits : (code : Code) (f : Frame) (instr : Instr) (request : Request) (slots : List Slot)
    → finds code f.body instr ≡ pops code f.body instr → IsFalse (is_last instr) → Lie (length f.locals) slots → length slots ≤ pops code f.body instr → AllBring code instr (gives request)
    → (stack : List ℤ) (height : ℕ) → length stack + finds code f.body instr ≡ height → Waits code request slots (moved f f.place stack) instr height
waits code f instr request slots same on lie few all stack height h = record { left = omega arith; goes_on = on; lie = lie; few = few; brings = fitting_brings code instr request slots all }

-- a request that lists no slots
asked : (code : Code) (f : Frame) (instr : Instr) (request : Request)
    → finds code f.body instr ≡ pops code f.body instr → IsFalse (is_last instr) → AllBring code instr (gives request)
    → (stack : List ℤ) (height : ℕ) → length stack + finds code f.body instr ≡ height → Waits code request [] (moved f f.place stack) instr height
asked code f instr request same on all = waits code f instr request [] same on (no_slots_lie (length f.locals)) (omega arith) all

-- an operator of one operand or of two, with one number as its result
unary : (code : Code) (f : Frame) (count : ℕ) (instr : Instr) (exception : Exc) (operator : ℤ → Option ℤ) (xs : List ℤ)
    → length xs ≡ 1 → IsFalse (is_last instr) → 1 + pops code f.body instr ≡ pushes code instr + finds code f.body instr
    → ActsWell code f count instr (with_one xs (λ x. result_or exception (operator x)))
unary code f count instr exception operator xs h on level = keeps_one (ActsWell code f count instr) (λ x. result_or exception (operator x)) xs h (λ x. keeps_result (ActsWell code f count instr) exception (operator x) tt (λ z. (on, level)))

binary : (code : Code) (f : Frame) (count : ℕ) (instr : Instr) (operator : ℤ → ℤ → Option ℤ) (xs : List ℤ)
    → length xs ≡ 2 → IsFalse (is_last instr) → 1 + pops code f.body instr ≡ pushes code instr + finds code f.body instr
    → ActsWell code f count instr (on_ints xs operator)
binary code f count instr operator xs h on level = keeps_two (ActsWell code f count instr) (λ x y. result_or Overflow (operator x y)) xs h (λ x y. keeps_result (ActsWell code f count instr) Overflow (operator x y) tt (λ z. (on, level)))

pub lt_tells : (m n : ℕ) → nat_lt m n ≡ true → m < n
lt_tells m n h = search (rules, tests)

-- What an instruction does, that names what is there and leads forward, where its operands are found.
pub acts_well : (code : Code) (row : BodyRow) (s : State) (f : Frame) (instr : Instr) (xs : List ℤ)
    → IsNamed code row instr → LeadsForward f.place instr → length f.locals ≡ row.locals → length xs ≡ finds code f.body instr
    → ActsWell code f (length s.frames) instr (action_of s f instr xs)
acts_well code row s f (Push k) xs named forward locals h = (refl, refl)
acts_well code row s f (Pop n) xs named forward locals h = (refl, omega arith)
acts_well code row s f (Copy n) xs named forward locals h = (refl, omega (arith, length-append xs xs))
acts_well code row s f (Thing k) xs named forward locals h = (refl, refl)
acts_well code row s f (Local first count) xs named forward locals h =
    keeps_framed (ActsWell code f (length s.frames) (Local first count)) f.locals first count (omega arith) (λ zs long. (refl, omega arith))
acts_well code row s f (SetLocal first count) xs named forward locals h =
    keeps_set_in_frame (ActsWell code f (length s.frames) (SetLocal first count)) (length f.locals) first xs (omega arith) (refl, refl, refl, omega arith)
acts_well code row s f (LocalAt first count) xs named forward locals h =
    keeps_one (ActsWell code f (length s.frames) (LocalAt first count)) _ xs h (λ x. keeps_offset (ActsWell code f (length s.frames) (LocalAt first count)) _ _ tt (λ k. keeps_part (ActsWell code f (length s.frames) (LocalAt first count)) Rangefail f.locals (first + k) count tt (λ zs long. (refl, omega arith))))
acts_well code row s f (SetLocalAt first count) xs named forward locals h =
    keeps_lowest (ActsWell code f (length s.frames) (SetLocalAt first count)) _ count xs h (λ x ys long. keeps_offset (ActsWell code f (length s.frames) (SetLocalAt first count)) _ _ tt (λ k. keeps_set_at (ActsWell code f (length s.frames) (SetLocalAt first count)) (length f.locals) (first + k) ys tt (λ within. (refl, refl, refl, within))))
acts_well code row s f (Part first count of) xs named forward locals h =
    keeps_framed (ActsWell code f (length s.frames) (Part first count of)) xs first count (omega arith) (λ zs long. (refl, omega arith))
acts_well code row s f (PartAt count of) xs named forward locals h =
    keeps_one (ActsWell code f (length s.frames) (PartAt count of)) _ (drop of xs) (simp length-drop (omega arith)) (λ x. keeps_offset (ActsWell code f (length s.frames) (PartAt count of)) _ _ tt (λ k. keeps_part (ActsWell code f (length s.frames) (PartAt count of)) Rangefail (take of xs) k count tt (λ zs long. (refl, omega arith))))
acts_well code row s f (Index low high size) xs named forward locals h =
    unary code f (length s.frames) (Index low high size) Rangefail _ xs h refl refl
acts_well code row s f (Check low high) xs named forward locals h =
    unary code f (length s.frames) (Check low high) Rangefail _ xs h refl refl
acts_well code row s f Add xs named forward locals h = binary code f (length s.frames) Add _ xs h refl refl
acts_well code row s f Sub xs named forward locals h = binary code f (length s.frames) Sub _ xs h refl refl
acts_well code row s f Mul xs named forward locals h = binary code f (length s.frames) Mul _ xs h refl refl
acts_well code row s f Div xs named forward locals h = binary code f (length s.frames) Div _ xs h refl refl
acts_well code row s f Mod xs named forward locals h = binary code f (length s.frames) Mod _ xs h refl refl
acts_well code row s f Rem xs named forward locals h = binary code f (length s.frames) Rem _ xs h refl refl
acts_well code row s f Neg xs named forward locals h = unary code f (length s.frames) Neg Overflow _ xs h refl refl
acts_well code row s f Abs xs named forward locals h = unary code f (length s.frames) Abs Overflow _ xs h refl refl
acts_well code row s f (Succ bound) xs named forward locals h = unary code f (length s.frames) (Succ bound) Overflow _ xs h refl refl
acts_well code row s f (Pred bound) xs named forward locals h = unary code f (length s.frames) (Pred bound) Overflow _ xs h refl refl
acts_well code row s f (Same n) xs named forward locals h = (refl, omega arith)
acts_well code row s f (Less n) xs named forward locals h = (refl, omega arith)
acts_well code row s f Not xs named forward locals h = keeps_one (ActsWell code f (length s.frames) Not) _ xs h (λ x. (refl, refl))
acts_well code row s f And xs named forward locals h =
    keeps_two (ActsWell code f (length s.frames) And) _ xs h (λ x y. (refl, refl))
acts_well code row s f Or xs named forward locals h =
    keeps_two (ActsWell code f (length s.frames) Or) _ xs h (λ x y. (refl, refl))
acts_well code row s f Xor xs named forward locals h =
    keeps_two (ActsWell code f (length s.frames) Xor) _ xs h (λ x y. (refl, refl))
acts_well code row s f (BitNot count) xs named forward locals h =
    keeps_one (ActsWell code f (length s.frames) (BitNot count)) _ xs h (λ x. (refl, refl))
acts_well code row s f BitAnd xs named forward locals h =
    keeps_two (ActsWell code f (length s.frames) BitAnd) _ xs h (λ x y. (refl, refl))
acts_well code row s f BitOr xs named forward locals h =
    keeps_two (ActsWell code f (length s.frames) BitOr) _ xs h (λ x y. (refl, refl))
acts_well code row s f BitXor xs named forward locals h =
    keeps_two (ActsWell code f (length s.frames) BitXor) _ xs h (λ x y. (refl, refl))
acts_well code row s f BitMinus xs named forward locals h =
    keeps_two (ActsWell code f (length s.frames) BitMinus) _ xs h (λ x y. (refl, refl))
acts_well code row s f Within xs named forward locals h =
    keeps_two (ActsWell code f (length s.frames) Within) _ xs h (λ x y. (refl, refl))
acts_well code row s f Has xs named forward locals h =
    keeps_two (ActsWell code f (length s.frames) Has) _ xs h (λ x y. (refl, refl))
acts_well code row s f Card xs named forward locals h =
    keeps_one (ActsWell code f (length s.frames) Card) _ xs h (λ x. (refl, refl))
acts_well code row s f Least xs named forward locals h =
    keeps_one (ActsWell code f (length s.frames) Least) _ xs h (λ x. keeps_member (ActsWell code f (length s.frames) Least) _ tt (λ z. (refl, refl)))
acts_well code row s f Most xs named forward locals h =
    keeps_one (ActsWell code f (length s.frames) Most) _ xs h (λ x. keeps_member (ActsWell code f (length s.frames) Most) _ tt (λ z. (refl, refl)))
acts_well code row s f Span xs named forward locals h =
    keeps_two (ActsWell code f (length s.frames) Span) _ xs h (λ x y. (refl, refl))
acts_well code row s f (Jump to) xs named forward locals h = (inr refl, forward, refl, refl)
acts_well code row s f (Unless to) xs named forward locals h =
    keeps_one (ActsWell code f (length s.frames) (Unless to)) _ xs h (λ x. by_test (λ (k : ℕ). ActsWell code f (length s.frames) (Unless to) (GoesTo k)) _ (f.place + 1) to (λ e. (inl (refl, refl), omega arith, refl, refl)) (λ e. (inr refl, forward, refl, refl)))
acts_well code row s f (Again to) xs named forward locals h = refl
acts_well code row s f (Call callee) xs named forward locals h =
    by_test (ActsWell code f (length s.frames) (Call callee)) (nat_lt (length s.frames) most_frames) Calls (Throws Spacefail) (λ e. (callee, refl, lt_tells (length s.frames) most_frames e)) (λ e. tt)
acts_well code row s f Return xs named forward locals h = (refl, h)
acts_well code row s f (Enter region) xs named forward locals h =
    by_test (ActsWell code f (length s.frames) (Enter region)) (is_open region s.regions) (Pushes []) (asks (AsksEnter region)) (λ e. (refl, refl)) (λ e. asked code f (Enter region) (AsksEnter region) refl refl (done_brings code (Enter region) refl))
acts_well code row s f (Leave region) xs named forward locals h =
    by_test (ActsWell code f (length s.frames) (Leave region)) (is_last_of region (length s.frames) s.regions) (asks (AsksLeave region)) (Pushes []) (λ e. asked code f (Leave region) (AsksLeave region) refl refl (done_brings code (Leave region) refl)) (λ e. (refl, refl))
acts_well code row s f (Raise exception) xs named forward locals h = tt
acts_well code row s f This xs named forward locals h = (refl, refl)
acts_well code row s f (Read location first count) xs named forward locals h =
    keeps_one (ActsWell code f (length s.frames) (Read location first count)) _ xs h (λ x. keeps_number (ActsWell code f (length s.frames) (Read location first count)) (pos first +ℤ x) _ tt (λ k. asked code f (Read location first count) (AsksRead (record { location = location; first = k; count = count })) refl refl (read_brings code (Read location first count) count refl)))
acts_well code row s f (Write location first count) xs named forward locals h =
    keeps_lowest (ActsWell code f (length s.frames) (Write location first count)) _ count xs h (λ x ys long. keeps_number (ActsWell code f (length s.frames) (Write location first count)) (pos first +ℤ x) _ tt (λ k. asked code f (Write location first count) (AsksWrite (record { location = location; first = k; count = count }) ys) refl refl (done_brings code (Write location first count) refl)))
acts_well code row s f (Delay n priority) xs named forward locals h =
    keeps_delays (ActsWell code f (length s.frames) (Delay n priority)) priority _ tt (λ events. asked code f (Delay n priority) (AsksDelay events priority) refl refl (delay_brings code (Delay n priority) events refl))
acts_well code row s f (Continue event) xs named forward locals h =
    asked code f (Continue event) (AsksContinue event) refl refl (continue_brings code (Continue event) refl)
acts_well code row s f (Send buffer count priority) xs named forward locals h =
    asked code f (Send buffer count priority) (SendBuffer buffer xs priority) refl refl (send_buffer_brings code (Send buffer count priority) refl)
acts_well code row s f (Signal signal count false priority) xs named forward locals h =
    asked code f (Signal signal count false priority) (SendSignal signal xs None priority) refl refl (send_signal_brings code (Signal signal count false priority) None refl)
acts_well code row s f (Signal signal count true priority) xs named forward locals h =
    keeps_one (ActsWell code f (length s.frames) (Signal signal count true priority)) _ (drop count xs) (simp length-drop (omega arith)) (λ x. keeps_number (ActsWell code f (length s.frames) (Signal signal count true priority)) x _ tt (λ to. asked code f (Signal signal count true priority) (SendSignal signal (take count xs) (Some to) priority) refl refl (send_signal_brings code (Signal signal count true priority) (Some to) refl)))
acts_well code row s f (Take n otherwise) xs named forward locals h =
    keeps_receives (ActsWell code f (length s.frames) (Take n otherwise)) (length f.locals) (length xs) (triples_of (length f.locals) 0 xs) (λ triples. ReceiveBuffer triples.things otherwise) (triples_lie (length f.locals) 0 xs) tt
    (λ triples lie few. waits code f (Take n otherwise) (ReceiveBuffer triples.things otherwise) triples.slots refl refl lie (omega arith) (receive_brings code (Take n otherwise) triples.things otherwise refl))
acts_well code row s f (Hear n otherwise) xs named forward locals h =
    keeps_receives (ActsWell code f (length s.frames) (Hear n otherwise)) (length f.locals) (length xs) (triples_of (length f.locals) 0 xs) (λ triples. ReceiveSignal triples.things otherwise) (triples_lie (length f.locals) 0 xs) tt
    (λ triples lie few. waits code f (Hear n otherwise) (ReceiveSignal triples.things otherwise) triples.slots refl refl lie (omega arith) (receive_brings code (Hear n otherwise) triples.things otherwise refl))
acts_well code row s f (Start process count) xs named forward locals h =
    asked code f (Start process count) (AsksStart process xs) refl refl (start_brings code (Start process count) refl)
acts_well code row s f PutInt xs named forward locals h =
    keeps_one (ActsWell code f (length s.frames) PutInt) _ xs h (λ x. asked code f PutInt (Put _) refl refl (done_brings code PutInt refl))
acts_well code row s f (PutText n) xs named forward locals h =
    keeps_puts (ActsWell code f (length s.frames) (PutText n)) _ tt (λ bytes. asked code f (PutText n) (Put bytes) refl refl (done_brings code (PutText n) refl))
acts_well code row s f PutLine xs named forward locals h =
    asked code f PutLine (Put (10 ∷ [])) refl refl (done_brings code PutLine refl)
acts_well code row s f GetInt xs named forward locals h = asked code f GetInt Get refl refl (get_brings code GetInt refl)
acts_well code row s f Stop xs named forward locals h = λ stack height left. tt
acts_well code row s f Finish xs named forward locals h = λ stack height left. tt
