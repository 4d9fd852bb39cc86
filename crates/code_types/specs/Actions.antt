-- What each instruction does with its operands.
use Rattle.std.specs.Prelude.{ℕ, ◌+◌, ◌==◌, nat_le, nat_lt, Bool, true, false, ◌&&◌, not, List, [], ◌∷◌, ◌++◌, ℤ, pos, ◌+ℤ◌, ◌-ℤ◌, ◌*ℤ◌, neg_ℤ, int_le, length, take, drop, if◌then◌else◌, Some, None}
use Rattle.std.specs.List.{list_any}
use Rattle.std.specs.declared.option.Option.{Option}
use Rattle.kernel_base.specs.declared.ends.Exc.{Exc}
use Rattle.kernel_base.specs.declared.ends.Exc.TheVariants.{Overflow, Rangefail, Empty, Spacefail}
use Rattle.kernel_base.specs.declared.ends.How.TheVariants.{Normal, Stopped}
use Rattle.kernel_base.specs.declared.request.Alternative.{Alternative}
use Rattle.kernel_base.specs.declared.request.Request.{Request}
use Rattle.kernel_base.specs.declared.request.Request.TheVariants.{Read as AsksRead, Write as AsksWrite, Enter as AsksEnter, Leave as AsksLeave, Delay as AsksDelay, Continue as AsksContinue, SendBuffer, ReceiveBuffer, SendSignal, ReceiveSignal, Start as AsksStart, Put, Get, End}
use Rattle.code_types.specs.declared.instr.Instr.{Instr}
use Rattle.code_types.specs.declared.instr.Instr.TheVariants.{Push, Pop, Copy, Thing, Local, SetLocal, LocalAt, SetLocalAt, Part, PartAt, Index, Check, Add, Sub, Mul, Div, Mod, Rem, Neg, Abs, Succ, Pred, Same, Less, Not, And, Or, Xor, BitNot, BitAnd, BitOr, BitXor, BitMinus, Within, Has, Card, Least, Most, Span, Jump, Unless, Again, Call, Return, Enter, Leave, Raise, This, Read, Write, Delay, Continue, Send, Signal, Take, Hear, Start, PutInt, PutText, PutLine, GetInt, Stop, Finish}
use Rattle.code_types.specs.Exceptions.{exception_of}
use Rattle.scalar_operators.specs.Numbers.{is_between, is_scalar, where_true, truth_number, truth_of, int_result, quotient, remainder, modulus, magnitude, same_numbers, comes_before, decimal_text}
use Rattle.scalar_operators.specs.Powersets.{members_of, complement_in, intersection, union, symmetric_difference, difference, is_included, has_offset, span_of, first_of_list, last_of_list}
use Rattle.code_types.specs.Operands.{part_of, offset_of, number_in, pairs_of, Triples, triples_of, bytes_of}
use Rattle.code_types.specs.State.{Frame, Slot, OpenRegion, State}

-- What an instruction does once its operands are taken off the stack.
pub data Action : Type 0 where
  -- these numbers are pushed, and control goes on
  Pushes : List ℤ → Action
  -- these numbers go into the locals from one on, and control goes on
  Sets : ℕ → List ℤ → Action
  -- control goes to a place
  GoesTo : ℕ → Action
  -- a tick is made, and control goes to a place
  TicksTo : ℕ → Action
  -- a tick is made, and a call is to come
  Calls : Action
  -- the frame is left with these results
  Returns : List ℤ → Action
  -- an exception is raised, with the stack as it was
  Throws : Exc → Action
  -- a request is asked; each alternative that it lists has its slot
  Requests : Request → List Slot → Action
  -- nothing that a code that agrees comes to
  Halts : Action

-- with the one operand, the two operands, or the first and those above it
abbrev pub with_one : List ℤ → (ℤ → Action) → Action
with_one [] next = Halts
with_one (x ∷ []) next = next x
with_one (x ∷ y ∷ zs) next = Halts

abbrev pub with_two : List ℤ → (ℤ → ℤ → Action) → Action
with_two [] next = Halts
with_two (x ∷ []) next = Halts
with_two (x ∷ y ∷ []) next = next x y
with_two (x ∷ y ∷ z ∷ zs) next = Halts

abbrev pub with_lowest : List ℤ → (ℤ → List ℤ → Action) → Action
with_lowest [] next = Halts
with_lowest (x ∷ xs) next = next x xs

-- the result, or an exception where there is none
abbrev pub result_or : Exc → Option ℤ → Action
result_or exception None = Throws exception
result_or exception (Some z) = Pushes (z ∷ [])

abbrev pub numbers_or : Exc → Option (List ℤ) → Action
numbers_or exception None = Throws exception
numbers_or exception (Some zs) = Pushes zs

-- the offset of a member, or EMPTY
abbrev pub member_or_empty : Option ℕ → Action
member_or_empty None = Throws Empty
member_or_empty (Some k) = Pushes (pos k ∷ [])

abbrev pub truth : Bool → Action
truth b = Pushes (truth_number b ∷ [])

-- an operator of two operands with results in INT, or OVERFLOW
abbrev pub on_ints : List ℤ → (ℤ → ℤ → Option ℤ) → Action
on_ints xs operator = with_two xs (λ x y. result_or Overflow (operator x y))

-- an operator on two powersets
abbrev pub on_powersets : List ℤ → (ℤ → ℤ → ℤ) → Action
on_powersets xs operator = with_two xs (λ x y. Pushes (operator x y ∷ []))

-- the action with an offset, or RANGEFAIL where it is negative
abbrev pub at_offset : Option ℕ → (ℕ → Action) → Action
at_offset None next = Throws Rangefail
at_offset (Some k) next = next k

-- what lies in a frame, or nothing to come to
abbrev pub in_frame : Option (List ℤ) → Action
in_frame None = Halts
in_frame (Some zs) = Pushes zs

abbrev pub set_in_frame : ℕ → ℕ → List ℤ → Action
set_in_frame locals first zs = if nat_le (first + length zs) locals then Sets first zs else Halts

abbrev pub set_at : ℕ → ℕ → List ℤ → Action
set_at locals first zs = if nat_le (first + length zs) locals then Sets first zs else Throws Rangefail

abbrev pub asks : Request → Action
asks request = Requests request []

-- a request with a number of 32 bits, or RANGEFAIL
abbrev pub with_number : ℤ → (ℕ → Action) → Action
with_number z next = at_offset (number_in z) next

abbrev pub receives : Option Triples → (Triples → Request) → Action
receives None request = Throws Rangefail
receives (Some triples) request = Requests (request triples) triples.slots

abbrev pub delays : ℕ → Option (List Alternative) → Action
delays priority None = Throws Rangefail
delays priority (Some events) = asks (AsksDelay events priority)

abbrev pub puts : Option (List ℕ) → Action
puts None = Throws Rangefail
puts (Some bytes) = asks (Put bytes)

-- the region is open
abbrev pub is_open : ℕ → List OpenRegion → Bool
is_open region regions = list_any (λ r. r.region == region) regions

-- the region is the one that was entered last, and this frame entered it
abbrev pub is_last_of : ℕ → ℕ → List OpenRegion → Bool
is_last_of region frame [] = false
is_last_of region frame (r ∷ []) = r.region == region && r.frame == frame
is_last_of region frame (r ∷ q ∷ rs) = is_last_of region frame (q ∷ rs)

-- the most frames of a process
abbrev pub most_frames : ℕ
most_frames = 250

-- What an instruction does, in this frame of this process, with these operands.
abbrev pub action_of : State → Frame → Instr → List ℤ → Action
action_of s f (Push k) xs = Pushes (k ∷ [])
action_of s f (Pop n) xs = Pushes []
action_of s f (Copy n) xs = Pushes (xs ++ xs)
action_of s f (Thing k) xs = Pushes (pos k ∷ [])
action_of s f (Local first count) xs = in_frame (part_of f.locals first count)
action_of s f (SetLocal first count) xs = set_in_frame (length f.locals) first xs
action_of s f (LocalAt first count) xs = with_one xs (λ x. at_offset (offset_of x) (λ k. numbers_or Rangefail (part_of f.locals (first + k) count)))
action_of s f (SetLocalAt first count) xs = with_lowest xs (λ x ys. at_offset (offset_of x) (λ k. set_at (length f.locals) (first + k) ys))
action_of s f (Part first count of) xs = in_frame (part_of xs first count)
action_of s f (PartAt count of) xs = with_one (drop of xs) (λ x. at_offset (offset_of x) (λ k. numbers_or Rangefail (part_of (take of xs) k count)))
action_of s f (Index low high size) xs = with_one xs (λ x. result_or Rangefail (if is_between low high x then where_true (is_scalar ((x -ℤ low) *ℤ pos size)) ((x -ℤ low) *ℤ pos size) else None))
action_of s f (Check low high) xs = with_one xs (λ x. result_or Rangefail (where_true (is_between low high x) x))
action_of s f Add xs = on_ints xs (λ x y. int_result (x +ℤ y))
action_of s f Sub xs = on_ints xs (λ x y. int_result (x -ℤ y))
action_of s f Mul xs = on_ints xs (λ x y. int_result (x *ℤ y))
action_of s f Div xs = on_ints xs quotient
action_of s f Mod xs = on_ints xs modulus
action_of s f Rem xs = on_ints xs remainder
action_of s f Neg xs = with_one xs (λ x. result_or Overflow (int_result (neg_ℤ x)))
action_of s f Abs xs = with_one xs (λ x. result_or Overflow (int_result (magnitude x)))
action_of s f (Succ bound) xs = with_one xs (λ x. result_or Overflow (if int_le bound x then None else Some (x +ℤ pos 1)))
action_of s f (Pred bound) xs = with_one xs (λ x. result_or Overflow (if int_le x bound then None else Some (x -ℤ pos 1)))
action_of s f (Same n) xs = truth (same_numbers (take n xs) (drop n xs))
action_of s f (Less n) xs = truth (comes_before (take n xs) (drop n xs))
action_of s f Not xs = with_one xs (λ x. truth (not (truth_of x)))
action_of s f And xs = with_two xs (λ x y. truth (truth_of x && truth_of y))
action_of s f Or xs = with_two xs (λ x y. truth (if truth_of x then true else truth_of y))
action_of s f Xor xs = with_two xs (λ x y. truth (if truth_of x then not (truth_of y) else truth_of y))
action_of s f (BitNot count) xs = with_one xs (λ x. Pushes (complement_in count x ∷ []))
action_of s f BitAnd xs = on_powersets xs intersection
action_of s f BitOr xs = on_powersets xs union
action_of s f BitXor xs = on_powersets xs symmetric_difference
action_of s f BitMinus xs = on_powersets xs difference
action_of s f Within xs = with_two xs (λ x y. truth (is_included x y))
action_of s f Has xs = with_two xs (λ x y. truth (has_offset x y))
action_of s f Card xs = with_one xs (λ x. Pushes (pos (length (members_of x)) ∷ []))
action_of s f Least xs = with_one xs (λ x. member_or_empty (first_of_list (members_of x)))
action_of s f Most xs = with_one xs (λ x. member_or_empty (last_of_list (members_of x)))
action_of s f Span xs = on_powersets xs span_of
action_of s f (Jump to) xs = GoesTo to
action_of s f (Unless to) xs = with_one xs (λ x. GoesTo (if truth_of x then f.place + 1 else to))
action_of s f (Again to) xs = TicksTo to
action_of s f (Call callee) xs = if nat_lt (length s.frames) most_frames then Calls else Throws Spacefail
action_of s f Return xs = Returns xs
action_of s f (Enter region) xs = if is_open region s.regions then Pushes [] else asks (AsksEnter region)
action_of s f (Leave region) xs = if is_last_of region (length s.frames) s.regions then asks (AsksLeave region) else Pushes []
action_of s f (Raise exception) xs = Throws (exception_of exception)
action_of s f This xs = Pushes (pos s.instance ∷ [])
action_of s f (Read location first count) xs = with_one xs (λ x. with_number (pos first +ℤ x) (λ at. asks (AsksRead (record { location = location; first = at; count = count }))))
action_of s f (Write location first count) xs = with_lowest xs (λ x ys. with_number (pos first +ℤ x) (λ at. asks (AsksWrite (record { location = location; first = at; count = count }) ys)))
action_of s f (Delay n priority) xs = delays priority (pairs_of xs)
action_of s f (Continue event) xs = asks (AsksContinue event)
action_of s f (Send buffer count priority) xs = asks (SendBuffer buffer xs priority)
action_of s f (Signal signal count false priority) xs = asks (SendSignal signal xs None priority)
action_of s f (Signal signal count true priority) xs = with_one (drop count xs) (λ x. with_number x (λ to. asks (SendSignal signal (take count xs) (Some to) priority)))
action_of s f (Take n otherwise) xs = receives (triples_of (length f.locals) 0 xs) (λ triples. ReceiveBuffer triples.things otherwise)
action_of s f (Hear n otherwise) xs = receives (triples_of (length f.locals) 0 xs) (λ triples. ReceiveSignal triples.things otherwise)
action_of s f (Start process count) xs = asks (AsksStart process xs)
action_of s f PutInt xs = with_one xs (λ x. asks (Put (decimal_text x)))
action_of s f (PutText n) xs = puts (bytes_of xs)
action_of s f PutLine xs = asks (Put (10 ∷ []))
action_of s f GetInt xs = asks Get
action_of s f Stop xs = asks (End Stopped)
action_of s f Finish xs = asks (End Normal)
