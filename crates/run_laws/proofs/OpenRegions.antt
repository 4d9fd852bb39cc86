-- Which regions the state of a process has open: those that its requests tell.
use Rattle.std.proofs.Common.{◌≡◌, ◌+◌, ℕ, zero, suc, Bool, true, false, List, [], ◌∷◌, ◌++◌, ℤ, pos, length, map, take, drop, refl, sym, ap, ◌∙◌, subst, inl, inr, arith, Option, Some, None, slice_get, append-nil}
use Rattle.std.specs.Prelude.{if◌then◌else◌, ◌==◌, ◌&&◌, ◌||◌, nat_le, nat_lt, ◌+ℤ◌}
use Rattle.std.proofs.lemmas.Bool.{cases_Bool, eqb-true}
use Rattle.std.proofs.lemmas.List.{map-append, length_push}
use Rattle.kernel_base.specs.declared.ends.Exc.{Exc}
use Rattle.kernel_base.specs.declared.ends.Exc.TheVariants.{Rangefail, Spacefail}
use Rattle.kernel_base.specs.declared.ends.How.{How}
use Rattle.kernel_base.specs.declared.ends.How.TheVariants.{Normal, Raised}
use Rattle.kernel_base.specs.declared.request.Alternative.{Alternative}
use Rattle.kernel_base.specs.declared.request.Request.{Request}
use Rattle.kernel_base.specs.declared.request.Request.TheVariants.{Enter as AsksEnter, Leave as AsksLeave, End}
use Rattle.kernel_base.specs.declared.answer.Answer.{Answer}
use Rattle.kernel_base.specs.declared.answer.Answer.TheVariants.{Fail}
use Rattle.world_model.specs.Lists.{without}
use Rattle.world_model.specs.Session.{Item, Tick, Ask, Session, first_answer, session_of, tick_of}
use Rattle.code_types.specs.declared.instr.Instr.{Instr}
use Rattle.code_types.specs.declared.instr.Instr.TheVariants.{Push, Pop, Copy, Thing, Local, SetLocal, LocalAt, SetLocalAt, Part, PartAt, Index, Check, Add, Sub, Mul, Div, Mod, Rem, Neg, Abs, Succ, Pred, Same, Less, Not, And, Or, Xor, BitNot, BitAnd, BitOr, BitXor, BitMinus, Within, Has, Card, Least, Most, Span, Jump, Unless, Again, Call, Return, Enter, Leave, Raise, This, Read, Write, Delay, Continue, Send, Signal, Take, Hear, Start, PutInt, PutText, PutLine, GetInt, Stop, Finish}
use Rattle.code_types.specs.declared.code.Handler.{Handler}
use Rattle.code_types.specs.declared.code.BodyRow.{BodyRow}
use Rattle.code_types.specs.declared.code.Code.{Code}
use Rattle.code_types.specs.Places.{listed_of, names_exception, taker, finds}
use Rattle.code_types.specs.Operands.{Triples, topmost, below_topmost, part_of, offset_of, number_in, pairs_of, triples_of, bytes_of}
use Rattle.code_types.specs.Actions.{Action, Pushes, Sets, GoesTo, TicksTo, Calls, Returns, Throws, Requests, Halts, with_one, with_two, with_lowest, result_or, numbers_or, member_or_empty, at_offset, in_frame, receives, delays, puts, is_open, is_last_of, most_frames, action_of}
use Rattle.code_types.specs.Answers.{fits_request, without_last, regions_after, goes_on, raised, ended, answered}
use Rattle.code_types.specs.State.{Frame, Slot, OpenRegion, State, Mode, Running, Called, Asking, Raising, Ended}
use Rattle.code_types.specs.Steps.{Move, Goes, Makes, Asks, Awaits, Stays, left_with, made, executed, entered, called, unhandled, caught, move_in, Run, At, Over, run_behind, run_with, run_after, step, steps, new_frame}
use Rattle.code_types.specs.Talk.{Reaches, start_in}
use Rattle.run_laws.proofs.Regions.{has, asked, asked_apart, regions_on, regions_on-append, AreApart, without_end}

-- the numbers of open regions
abbrev pub numbers_of : List OpenRegion → List ℕ
numbers_of regions = map (λ r. r.region) regions

-- A region that is asked for isn't open, and one that is left is the last.
abbrev Suits : List OpenRegion → Request → Type 0
Suits regions (AsksEnter region) = has region (numbers_of regions) ≡ false
Suits regions (AsksLeave region) = numbers_of regions ≡ numbers_of (without_last regions) ++ region ∷ []
Suits regions request = Unit {0}

abbrev SuitsAction : List OpenRegion → Action → Type 0
SuitsAction regions (Requests request slots) = Suits regions request
SuitsAction regions action = Unit {0}

open_has : (region : ℕ) (regions : List OpenRegion) → is_open region regions ≡ has region (numbers_of regions)
open_has region [] = refl
open_has region (r ∷ regions) = ap (λ (b : Bool). (r.region == region) || b) (open_has region regions)

both : (a b : Bool) → (a && b) ≡ true → a ≡ true
both true b e = refl
both false b e = absurd (let f : ⊥ = cc in f)

last_suits : (region frame : ℕ) (regions : List OpenRegion) → is_last_of region frame regions ≡ true → numbers_of regions ≡ numbers_of (without_last regions) ++ region ∷ []
last_suits region frame [] is = absurd (let f : ⊥ = cc in f)
last_suits region frame (r ∷ []) is = ap (λ (n : ℕ). n ∷ []) (eqb-true r.region region (both (r.region == region) (r.frame == frame) is))
last_suits region frame (r ∷ q ∷ regions) is = ap (λ (ns : List ℕ). r.region ∷ ns) (last_suits region frame (q ∷ regions) is)

enter_suits : (regions : List OpenRegion) (region : ℕ) (b : Bool) → is_open region regions ≡ b → SuitsAction regions (if b then Pushes [] else Requests (AsksEnter region) [])
enter_suits regions region true is = tt
enter_suits regions region false is = sym (open_has region regions) ∙ is

leave_suits : (regions : List OpenRegion) (region frame : ℕ) (b : Bool) → is_last_of region frame regions ≡ b → SuitsAction regions (if b then Requests (AsksLeave region) [] else Pushes [])
leave_suits regions region frame true is = last_suits region frame regions is
leave_suits regions region frame false is = tt

one_suits : (rs : List OpenRegion) (xs : List ℤ) (next : ℤ → Action) → ((x : ℤ) → SuitsAction rs (next x)) → SuitsAction rs (with_one xs next)
one_suits rs [] next all = tt
one_suits rs (x ∷ []) next all = all x
one_suits rs (x ∷ y ∷ zs) next all = tt

two_suits : (rs : List OpenRegion) (xs : List ℤ) (next : ℤ → ℤ → Action) → ((x y : ℤ) → SuitsAction rs (next x y)) → SuitsAction rs (with_two xs next)
two_suits rs [] next all = tt
two_suits rs (x ∷ []) next all = tt
two_suits rs (x ∷ y ∷ []) next all = all x y
two_suits rs (x ∷ y ∷ z ∷ zs) next all = tt

lowest_suits : (rs : List OpenRegion) (xs : List ℤ) (next : ℤ → List ℤ → Action) → ((x : ℤ) (ys : List ℤ) → SuitsAction rs (next x ys)) → SuitsAction rs (with_lowest xs next)
lowest_suits rs [] next all = tt
lowest_suits rs (x ∷ xs) next all = all x xs

result_suits : (rs : List OpenRegion) (e : Exc) (o : Option ℤ) → SuitsAction rs (result_or e o)
result_suits rs e None = tt
result_suits rs e (Some z) = tt

numbers_suit : (rs : List OpenRegion) (e : Exc) (o : Option (List ℤ)) → SuitsAction rs (numbers_or e o)
numbers_suit rs e None = tt
numbers_suit rs e (Some zs) = tt

member_suits : (rs : List OpenRegion) (o : Option ℕ) → SuitsAction rs (member_or_empty o)
member_suits rs None = tt
member_suits rs (Some k) = tt

offset_suits : (rs : List OpenRegion) (o : Option ℕ) (next : ℕ → Action) → ((k : ℕ) → SuitsAction rs (next k)) → SuitsAction rs (at_offset o next)
offset_suits rs None next all = tt
offset_suits rs (Some k) next all = all k

frame_suits : (rs : List OpenRegion) (o : Option (List ℤ)) → SuitsAction rs (in_frame o)
frame_suits rs None = tt
frame_suits rs (Some zs) = tt

if_suits : (rs : List OpenRegion) (b : Bool) (x y : Action) → SuitsAction rs x → SuitsAction rs y → SuitsAction rs (if b then x else y)
if_suits rs true x y a c = a
if_suits rs false x y a c = c

-- a request that neither enters nor leaves
abbrev IsPlain : Request → Type 0
IsPlain (AsksEnter region) = ⊥
IsPlain (AsksLeave region) = ⊥
IsPlain request = Unit {0}

plain_suits : (rs : List OpenRegion) (request : Request) → IsPlain request → Suits rs request
plain_suits rs (AsksEnter region) plain = absurd plain
plain_suits rs (AsksLeave region) plain = absurd plain
plain_suits rs request plain = tt

receives_suits : (rs : List OpenRegion) (o : Option Triples) (request : Triples → Request) → ((t : Triples) → IsPlain (request t)) → SuitsAction rs (receives o request)
receives_suits rs None request all = tt
receives_suits rs (Some triples) request all = plain_suits rs (request triples) (all triples)

delays_suit : (rs : List OpenRegion) (priority : ℕ) (o : Option (List Alternative)) → SuitsAction rs (delays priority o)
delays_suit rs priority None = tt
delays_suit rs priority (Some events) = tt

puts_suit : (rs : List OpenRegion) (o : Option (List ℕ)) → SuitsAction rs (puts o)
puts_suit rs None = tt
puts_suit rs (Some bytes) = tt

-- whatever an instruction asks suits the regions that are open
action_suits : (s : State) (f : Frame) (instr : Instr) (xs : List ℤ) → SuitsAction s.regions (action_of s f instr xs)
action_suits s f (Push k) xs = tt
action_suits s f (Pop n) xs = tt
action_suits s f (Copy n) xs = tt
action_suits s f (Thing k) xs = tt
action_suits s f (Local first count) xs = frame_suits s.regions (part_of f.locals first count)
action_suits s f (SetLocal first count) xs = if_suits s.regions (nat_le (first + length xs) (length f.locals)) (Sets first xs) Halts tt tt
action_suits s f (LocalAt first count) xs = one_suits s.regions xs _ (λ x. offset_suits s.regions (offset_of x) _ (λ k. numbers_suit s.regions _ (part_of f.locals (first + k) count)))
action_suits s f (SetLocalAt first count) xs = lowest_suits s.regions xs _ (λ x ys. offset_suits s.regions (offset_of x) _ (λ k. if_suits s.regions (nat_le (first + k + length ys) (length f.locals)) (Sets (first + k) ys) (Throws Rangefail) tt tt))
action_suits s f (Part first count of) xs = frame_suits s.regions (part_of xs first count)
action_suits s f (PartAt count of) xs = one_suits s.regions (drop of xs) _ (λ x. offset_suits s.regions (offset_of x) _ (λ k. numbers_suit s.regions _ (part_of (take of xs) k count)))
action_suits s f (Index low high size) xs = one_suits s.regions xs _ (λ x. result_suits s.regions _ _)
action_suits s f (Check low high) xs = one_suits s.regions xs _ (λ x. result_suits s.regions _ _)
action_suits s f Add xs = two_suits s.regions xs _ (λ x y. result_suits s.regions _ _)
action_suits s f Sub xs = two_suits s.regions xs _ (λ x y. result_suits s.regions _ _)
action_suits s f Mul xs = two_suits s.regions xs _ (λ x y. result_suits s.regions _ _)
action_suits s f Div xs = two_suits s.regions xs _ (λ x y. result_suits s.regions _ _)
action_suits s f Mod xs = two_suits s.regions xs _ (λ x y. result_suits s.regions _ _)
action_suits s f Rem xs = two_suits s.regions xs _ (λ x y. result_suits s.regions _ _)
action_suits s f Neg xs = one_suits s.regions xs _ (λ x. result_suits s.regions _ _)
action_suits s f Abs xs = one_suits s.regions xs _ (λ x. result_suits s.regions _ _)
action_suits s f (Succ bound) xs = one_suits s.regions xs _ (λ x. result_suits s.regions _ _)
action_suits s f (Pred bound) xs = one_suits s.regions xs _ (λ x. result_suits s.regions _ _)
action_suits s f (Same n) xs = tt
action_suits s f (Less n) xs = tt
action_suits s f Not xs = one_suits s.regions xs _ (λ x. tt)
action_suits s f And xs = two_suits s.regions xs _ (λ x y. tt)
action_suits s f Or xs = two_suits s.regions xs _ (λ x y. tt)
action_suits s f Xor xs = two_suits s.regions xs _ (λ x y. tt)
action_suits s f (BitNot count) xs = one_suits s.regions xs _ (λ x. tt)
action_suits s f BitAnd xs = two_suits s.regions xs _ (λ x y. tt)
action_suits s f BitOr xs = two_suits s.regions xs _ (λ x y. tt)
action_suits s f BitXor xs = two_suits s.regions xs _ (λ x y. tt)
action_suits s f BitMinus xs = two_suits s.regions xs _ (λ x y. tt)
action_suits s f Within xs = two_suits s.regions xs _ (λ x y. tt)
action_suits s f Has xs = two_suits s.regions xs _ (λ x y. tt)
action_suits s f Card xs = one_suits s.regions xs _ (λ x. tt)
action_suits s f Least xs = one_suits s.regions xs _ (λ x. member_suits s.regions _)
action_suits s f Most xs = one_suits s.regions xs _ (λ x. member_suits s.regions _)
action_suits s f Span xs = two_suits s.regions xs _ (λ x y. tt)
action_suits s f (Jump to) xs = tt
action_suits s f (Unless to) xs = one_suits s.regions xs _ (λ x. tt)
action_suits s f (Again to) xs = tt
action_suits s f (Call callee) xs = if_suits s.regions (nat_lt (length s.frames) most_frames) Calls (Throws Spacefail) tt tt
action_suits s f Return xs = tt
action_suits s f (Enter region) xs = enter_suits s.regions region (is_open region s.regions) refl
action_suits s f (Leave region) xs = leave_suits s.regions region (length s.frames) (is_last_of region (length s.frames) s.regions) refl
action_suits s f (Raise exception) xs = tt
action_suits s f This xs = tt
action_suits s f (Read location first count) xs = one_suits s.regions xs _ (λ x. offset_suits s.regions (number_in (pos first +ℤ x)) _ (λ k. tt))
action_suits s f (Write location first count) xs = lowest_suits s.regions xs _ (λ x ys. offset_suits s.regions (number_in (pos first +ℤ x)) _ (λ k. tt))
action_suits s f (Delay n priority) xs = delays_suit s.regions priority (pairs_of xs)
action_suits s f (Continue event) xs = tt
action_suits s f (Send buffer count priority) xs = tt
action_suits s f (Signal signal count false priority) xs = tt
action_suits s f (Signal signal count true priority) xs = one_suits s.regions (drop count xs) _ (λ x. offset_suits s.regions (number_in x) _ (λ k. tt))
action_suits s f (Take n otherwise) xs = receives_suits s.regions (triples_of (length f.locals) 0 xs) _ (λ t. tt)
action_suits s f (Hear n otherwise) xs = receives_suits s.regions (triples_of (length f.locals) 0 xs) _ (λ t. tt)
action_suits s f (Start process count) xs = tt
action_suits s f PutInt xs = one_suits s.regions xs _ (λ x. tt)
action_suits s f (PutText n) xs = puts_suit s.regions (bytes_of xs)
action_suits s f PutLine xs = tt
action_suits s f GetInt xs = tt
action_suits s f Stop xs = tt
action_suits s f Finish xs = tt

abbrev IsEnd : Request → Type 0
IsEnd (End how) = Unit {0}
IsEnd request = ⊥

-- there is a frame, but for a request that ends
abbrev IsFramed : List Frame → Request → Type 0
IsFramed [] (End how) = Unit {0}
IsFramed [] request = ⊥
IsFramed (frame ∷ below) request = Unit {0}

-- it neither asks nor has ended
abbrev IsGoing : Mode → Type 0
IsGoing (Asking request slots) = ⊥
IsGoing Ended = ⊥
IsGoing mode = Unit {0}

-- a state that asks with these regions
record AsksWith (regions : List OpenRegion) (request : Request) (next : State) : Type 0 where
  pub slots : List Slot
  pub mode : next.mode ≡ Asking request slots
  pub same : next.regions ≡ regions
  pub suits : Suits regions request
  pub framed : IsFramed next.frames request

-- a step leaves the regions as they are
abbrev KeepsRegions : State → Move → Type 0
KeepsRegions s (Goes next) = (next.regions ≡ s.regions) × IsGoing next.mode
KeepsRegions s (Makes next) = (next.regions ≡ s.regions) × IsGoing next.mode
KeepsRegions s (Asks request next) = AsksWith s.regions request next
KeepsRegions s (Awaits request slots) = s.mode ≡ Asking request slots
KeepsRegions s Stays = Unit {0}

left_keeps : (s : State) (f : Frame) (below : List Frame) (results : List ℤ) → s.frames ≡ f ∷ below → KeepsRegions s (left_with s f below results)
left_keeps s f [] results is = record { slots = []; mode = refl; same = refl; suits = tt; framed = subst (λ (fs : List Frame). IsFramed fs (End Normal)) (sym is) tt }
left_keeps s f (caller ∷ below) results is = (refl, tt)

made_keeps : (s : State) (f : Frame) (below : List Frame) (rest : List ℤ) (action : Action) → s.frames ≡ f ∷ below → SuitsAction s.regions action → KeepsRegions s (made s f below rest action)
made_keeps s f below rest (Pushes numbers) is suits = (refl, tt)
made_keeps s f below rest (Sets first numbers) is suits = (refl, tt)
made_keeps s f below rest (GoesTo place) is suits = (refl, tt)
made_keeps s f below rest (TicksTo place) is suits = (refl, tt)
made_keeps s f below rest Calls is suits = (refl, tt)
made_keeps s f below rest (Returns results) is suits = left_keeps s f below results is
made_keeps s f below rest (Throws exception) is suits = (refl, tt)
made_keeps s f below rest (Requests request slots) is suits = record { slots = slots; mode = refl; same = refl; suits = suits; framed = tt }
made_keeps s f below rest Halts is suits = tt

if_keeps : (s : State) (b : Bool) (x y : Move) → KeepsRegions s x → KeepsRegions s y → KeepsRegions s (if b then x else y)
if_keeps s true x y a c = a
if_keeps s false x y a c = c

executed_keeps : (code : Code) (s : State) (f : Frame) (below : List Frame) (instr : Option Instr) → s.frames ≡ f ∷ below → KeepsRegions s (executed code s f below instr)
executed_keeps code s f below None is = tt
executed_keeps code s f below (Some instr) is =
    if_keeps s (nat_le (finds code f.body instr) (length f.stack)) _ Stays
    (made_keeps s f below (below_topmost (finds code f.body instr) f.stack) (action_of s f instr (topmost (finds code f.body instr) f.stack)) is (action_suits s f instr (topmost (finds code f.body instr) f.stack))) tt

entered_keeps : (s : State) (f : Frame) (below : List Frame) (body : ℕ) (row : Option BodyRow) → KeepsRegions s (entered s f below body row)
entered_keeps s f below body None = tt
entered_keeps s f below body (Some row) = if_keeps s (nat_le row.params (length f.stack)) _ Stays (refl, tt) tt

called_keeps : (code : Code) (s : State) (f : Frame) (below : List Frame) (instr : Option Instr) → KeepsRegions s (called code s f below instr)
called_keeps code s f below (Some (Call body)) = entered_keeps s f below body (slice_get code.bodies body)
called_keeps code s f below instr = tt

ends_keeps : (s : State) (f : Frame) (below : List Frame) (exception : Exc) → s.frames ≡ f ∷ below → KeepsRegions s (Asks (End (Raised exception)) (record s { mode = Asking (End (Raised exception)) [] }))
ends_keeps s f below exception is = record { slots = []; mode = refl; same = refl; suits = tt; framed = subst (λ (fs : List Frame). IsFramed fs (End (Raised exception))) (sym is) tt }

unhandled_keeps : (code : Code) (s : State) (exception : Exc) (f : Frame) (below : List Frame) → s.frames ≡ f ∷ below → KeepsRegions s (unhandled code s exception f below)
unhandled_keeps code s exception f [] is = ends_keeps s f [] exception is
unhandled_keeps code s exception f (caller ∷ below) is = if_keeps s (names_exception (listed_of (slice_get code.bodies f.body)) exception) _ _ (refl, tt) (ends_keeps s f (caller ∷ below) exception is)

caught_keeps : (code : Code) (s : State) (exception : Exc) (f : Frame) (below : List Frame) (handler : Option Handler) → s.frames ≡ f ∷ below → KeepsRegions s (caught code s exception f below handler)
caught_keeps code s exception f below None is = unhandled_keeps code s exception f below is
caught_keeps code s exception f below (Some handler) is = (refl, tt)

move_keeps : (code : Code) (s : State) (mode : Mode) (frames : List Frame) → s.mode ≡ mode → s.frames ≡ frames → KeepsRegions s (move_in code s mode frames)
move_keeps code s Ended frames is fs = tt
move_keeps code s (Asking request slots) frames is fs = is
move_keeps code s Running [] is fs = tt
move_keeps code s Running (f ∷ below) is fs = executed_keeps code s f below (slice_get code.instrs f.place) fs
move_keeps code s Called [] is fs = tt
move_keeps code s Called (f ∷ below) is fs = called_keeps code s f below (slice_get code.instrs f.place)
move_keeps code s (Raising exception) [] is fs = tt
move_keeps code s (Raising exception) (f ∷ below) is fs = caught_keeps code s exception f below (taker code.handlers f.place exception) fs

-- A request is asked: the regions that the requests tell are those behind it, and it alone has no answer.
record IsAsked (request : Request) (regions : List OpenRegion) (frames : List Frame) (told : List ℕ) (asks given : ℕ) : Type 0 where
  pub is : told ≡ asked (numbers_of regions) request
  pub count : asks ≡ given + 1
  pub suits : Suits regions request
  pub framed : IsFramed frames request

-- the regions that the requests tell are open, and each request has its answer
record IsSettled (regions : List OpenRegion) (told : List ℕ) (asks given : ℕ) : Type 0 where
  pub is : told ≡ numbers_of regions
  pub count : asks ≡ given

abbrev Agrees : Mode → List OpenRegion → List Frame → List ℕ → ℕ → ℕ → Type 0
Agrees (Asking request slots) regions frames told asks given = IsAsked request regions frames told asks given
Agrees mode regions frames told asks given = IsSettled regions told asks given

-- A state agrees with what its requests tell, of which so many are answered.
pub record StateAgrees (s : State) (told : List ℕ) (asks given : ℕ) : Type 0 where
  agrees : Agrees s.mode s.regions s.frames told asks given
  apart : AreApart (numbers_of s.regions)

-- the requests of a trace
abbrev pub asks_in : List Item → List Request
asks_in [] = []
asks_in (Tick ∷ items) = asks_in items
asks_in (Ask request ∷ items) = request ∷ asks_in items

pub asks_in-append : (a b : List Item) → asks_in (a ++ b) ≡ asks_in a ++ asks_in b
asks_in-append [] b = refl
asks_in-append (Tick ∷ a) b = asks_in-append a b
asks_in-append (Ask request ∷ a) b = ap (λ (rs : List Request). request ∷ rs) (asks_in-append a b)

-- where a run stands, with so many answers in all
abbrev pub RunAgrees : ℕ → Run → Type 0
RunAgrees total (At s session) = (given : ℕ) × (given + length session.answers ≡ total) × StateAgrees s (regions_on (asks_in session.trace) []) (length (asks_in session.trace)) given
RunAgrees total (Over s trace) = Unit {0}

settled : (mode : Mode) (regions : List OpenRegion) (frames : List Frame) (told : List ℕ) (asks given : ℕ) → IsGoing mode → Agrees mode regions frames told asks given → IsSettled regions told asks given
settled Running regions frames told asks given going agrees = agrees
settled Called regions frames told asks given going agrees = agrees
settled (Raising exception) regions frames told asks given going agrees = agrees
settled (Asking request slots) regions frames told asks given going agrees = absurd going
settled Ended regions frames told asks given going agrees = absurd going

going_agrees : (mode : Mode) (regions : List OpenRegion) (frames : List Frame) (told : List ℕ) (asks given : ℕ) → IsGoing mode → IsSettled regions told asks given → Agrees mode regions frames told asks given
going_agrees Running regions frames told asks given going is = is
going_agrees Called regions frames told asks given going is = is
going_agrees (Raising exception) regions frames told asks given going is = is
going_agrees (Asking request slots) regions frames told asks given going is = absurd going
going_agrees Ended regions frames told asks given going is = absurd going

-- the next state of one that goes on
next_agrees : (s next : State) (told : List ℕ) (asks given : ℕ) → next.regions ≡ s.regions → IsGoing next.mode → IsGoing s.mode → StateAgrees s told asks given → StateAgrees next told asks given
next_agrees s next told asks given regions going was agrees =
    let is = settled s.mode s.regions s.frames told asks given was agrees.agrees in
    record {
      agrees = going_agrees next.mode next.regions next.frames told asks given going (record { is = is.is ∙ ap numbers_of (sym regions); count = is.count });
      apart = subst (λ (rs : List OpenRegion). AreApart (numbers_of rs)) (sym regions) agrees.apart;
    }

-- the state that asks
asking_agrees : (s next : State) (request : Request) (told : List ℕ) (asks given : ℕ) → AsksWith s.regions request next → IsGoing s.mode → StateAgrees s told asks given → StateAgrees next (asked told request) (asks + 1) given
asking_agrees s next request told asks given with' was agrees =
    let is = settled s.mode s.regions s.frames told asks given was agrees.agrees in
    let here : Agrees (Asking request with'.slots) next.regions next.frames (asked told request) (asks + 1) given = record {
      is = ap (λ (l : List ℕ). asked l request) (is.is ∙ ap numbers_of (sym with'.same));
      count = let c = is.count in omega (arith, c);
      suits = subst (λ (rs : List OpenRegion). Suits rs request) (sym with'.same) with'.suits;
      framed = with'.framed;
    } in
    record {
      agrees = subst (λ (m : Mode). Agrees m next.regions next.frames (asked told request) (asks + 1) given) (sym with'.mode) here;
      apart = subst (λ (rs : List OpenRegion). AreApart (numbers_of rs)) (sym with'.same) agrees.apart;
    }

same_agrees : (s : State) (told told' : List ℕ) (asks asks' given : ℕ) → told ≡ told' → asks ≡ asks' → StateAgrees s told asks given → StateAgrees s told' asks' given
same_agrees s told told' asks asks' given ts as' agrees =
    subst (λ (n : ℕ). StateAgrees s told' n given) as' (subst (λ (l : List ℕ). StateAgrees s l asks given) ts agrees)

tick_agrees : (total : ℕ) (s : State) (trace : List Item) (answers : List Answer) (ticks given : ℕ) → given + length answers ≡ total → StateAgrees s (regions_on (asks_in trace) []) (length (asks_in trace)) given → RunAgrees total (run_behind s (tick_of trace answers ticks))
tick_agrees total s trace answers zero given all agrees = tt
tick_agrees total s trace answers (suc zero) given all agrees = tt
tick_agrees total s trace answers (suc (suc n)) given all agrees = (given, all, agrees)

going_step : (total : ℕ) (s : State) (session : Session) (m : Move) → IsGoing s.mode → KeepsRegions s m → RunAgrees total (At s session) → RunAgrees total (run_after s session m)
going_step total s session (Goes next) was keeps run = (run.0, run.1, next_agrees s next _ _ run.0 keeps.0 keeps.1 was run.2)
going_step total s session (Makes next) was keeps run =
    let same : asks_in session.trace ≡ asks_in (session.trace ++ Tick ∷ []) = sym (asks_in-append session.trace (Tick ∷ []) ∙ append-nil (asks_in session.trace)) in
    tick_agrees total next (session.trace ++ Tick ∷ []) session.answers session.ticks run.0 run.1
    (same_agrees next _ (regions_on (asks_in (session.trace ++ Tick ∷ [])) []) _ (length (asks_in (session.trace ++ Tick ∷ []))) run.0
    (ap (λ (rs : List Request). regions_on rs []) same) (ap length same) (next_agrees s next _ _ run.0 keeps.0 keeps.1 was run.2))
going_step total s session (Asks request next) was keeps run =
    let more : asks_in (session.trace ++ Ask request ∷ []) ≡ asks_in session.trace ++ request ∷ [] = asks_in-append session.trace (Ask request ∷ []) in
    let told : asked (regions_on (asks_in session.trace) []) request ≡ regions_on (asks_in (session.trace ++ Ask request ∷ [])) [] = sym (ap (λ (rs : List Request). regions_on rs []) more ∙ regions_on-append (asks_in session.trace) (request ∷ []) []) in
    let count : length (asks_in session.trace) + 1 ≡ length (asks_in (session.trace ++ Ask request ∷ [])) = sym (ap length more ∙ length_push (asks_in session.trace) request) in
    (run.0, run.1, same_agrees next _ _ _ _ run.0 told count (asking_agrees s next request _ _ run.0 keeps was run.2))
going_step total s session (Awaits request slots) was keeps run = absurd (subst IsGoing keeps was)
going_step total s session Stays was keeps run = tt

-- what an answer does to the regions
after_told : (regions : List OpenRegion) (request : Request) (frame : ℕ) → AreApart (numbers_of regions) → Suits regions request → (IsEnd request → ⊥) → asked (numbers_of regions) request ≡ numbers_of (regions_after request frame regions)
after_told regions (AsksEnter region) frame apart suits other = (let e : asked (numbers_of regions) (AsksEnter region) ≡ numbers_of regions ++ region ∷ [] = rw suits refl in e) ∙ sym (map-append (λ (r : OpenRegion). r.region) regions (record { region = region; frame = frame } ∷ []))
after_told regions (AsksLeave region) frame apart suits other = ap (without region) suits ∙ without_end (numbers_of (without_last regions)) region (subst AreApart suits apart)
after_told regions (End how) frame apart suits other = absurd (other tt)
after_told regions request frame apart suits other = refl

fail_told : (regions : List OpenRegion) (request : Request) (slots : List Slot) (exception : Exc) → fits_request request slots (Fail exception) ≡ true → (IsEnd request → ⊥) → asked (numbers_of regions) request ≡ numbers_of regions
fail_told regions (AsksEnter region) slots exception fits other = absurd (let f : ⊥ = cc in f)
fail_told regions (AsksLeave region) slots exception fits other = absurd (let f : ⊥ = cc in f)
fail_told regions (End how) slots exception fits other = absurd (other tt)
fail_told regions request slots exception fits other = refl

goes_on_agrees : (s : State) (request : Request) (slots : List Slot) (answer : Answer) (frames : List Frame) (told : List ℕ) (asks given : ℕ) → (IsEnd request → ⊥) → AreApart (numbers_of s.regions) → IsAsked request s.regions frames told asks given → StateAgrees (goes_on s request slots answer frames) told asks (given + 1)
goes_on_agrees s request slots answer [] told asks given other apart is = absurd (unframed request is.framed other)
  where
    unframed : (r : Request) → IsFramed [] r → (IsEnd r → ⊥) → ⊥
    unframed (End how) framed not_end = not_end tt
    unframed r framed not_end = framed
goes_on_agrees s request slots answer (frame ∷ below) told asks given other apart is =
    let same = after_told s.regions request (length (frame ∷ below)) apart is.suits other in
    record {
      agrees = record { is = is.is ∙ same; count = is.count };
      apart = subst AreApart same (asked_apart (numbers_of s.regions) request apart);
    }

fails_agrees : (s : State) (request : Request) (slots : List Slot) (exception : Exc) (told : List ℕ) (asks given : ℕ) → fits_request request slots (Fail exception) ≡ true → (IsEnd request → ⊥) → AreApart (numbers_of s.regions) → IsAsked request s.regions s.frames told asks given → StateAgrees (raised s exception) told asks (given + 1)
fails_agrees s request slots exception told asks given fits other apart is = record {
  agrees = record { is = is.is ∙ fail_told s.regions request slots exception fits other; count = is.count };
  apart = apart;
}

-- the answer is no failure, or one
data Answers (s : State) (request : Request) (slots : List Slot) (answer : Answer) : Type 0 where
  Ends : (how : How) → request ≡ End how → answered s request slots answer ≡ ended s → Answers s request slots answer
  Fails : (exception : Exc) → answer ≡ Fail exception → (IsEnd request → ⊥) → answered s request slots answer ≡ raised s exception → Answers s request slots answer
  GoesOn : (IsEnd request → ⊥) → answered s request slots answer ≡ goes_on s request slots answer s.frames → Answers s request slots answer

answers_by_kind : (s : State) (request : Request) (slots : List Slot) (answer : Answer) → Answers s request slots answer
answers_by_kind s (End how) slots answer = Ends how refl refl
answers_by_kind s request slots (Fail exception) = Fails exception refl (λ e. e) refl
answers_by_kind s request slots answer = GoesOn (λ e. e) refl

answered_agrees : (s : State) (request : Request) (slots : List Slot) (answer : Answer) (told : List ℕ) (asks given : ℕ) → fits_request request slots answer ≡ true → AreApart (numbers_of s.regions) → IsAsked request s.regions s.frames told asks given → Answers s request slots answer → StateAgrees (answered s request slots answer) told asks (given + 1)
answered_agrees s request slots answer told asks given fits apart is (Ends how end by) =
    subst (λ (x : State). StateAgrees x told asks (given + 1)) (sym by)
    (record { agrees = record { is = is.is ∙ ap (asked (numbers_of s.regions)) end; count = is.count }; apart = tt })
answered_agrees s request slots answer told asks given fits apart is (Fails exception fail other by) =
    subst (λ (x : State). StateAgrees x told asks (given + 1)) (sym by)
    (fails_agrees s request slots exception told asks given (sym (ap (fits_request request slots) fail) ∙ fits) other apart is)
answered_agrees s request slots answer told asks given fits apart is (GoesOn other by) =
    subst (λ (x : State). StateAgrees x told asks (given + 1)) (sym by)
    (goes_on_agrees s request slots answer s.frames told asks given other apart is)

fit_step : (total : ℕ) (s next : State) (session : Session) (trace : List Item) (b : Bool) → (b ≡ true → RunAgrees total (At next session)) → RunAgrees total (if b then At next session else Over s trace)
fit_step total s next session trace true agrees = agrees refl
fit_step total s next session trace false agrees = tt

asking_step : (total : ℕ) (s : State) (request : Request) (slots : List Slot) (trace : List Item) (answers : List Answer) (ticks given : ℕ) → given + length answers ≡ total → AreApart (numbers_of s.regions)
    → IsAsked request s.regions s.frames (regions_on (asks_in trace) []) (length (asks_in trace)) given
    → RunAgrees total (run_with s request slots (first_answer trace answers ticks) trace)
asking_step total s request slots trace [] ticks given all apart is = tt
asking_step total s request slots trace (answer ∷ answers) ticks given all apart is =
    fit_step total s (answered s request slots answer) (record { trace = trace; answers = answers; ticks = ticks }) trace (fits_request request slots answer)
    (λ fits. (given + 1, omega (arith, all), answered_agrees s request slots answer _ _ given fits apart is (answers_by_kind s request slots answer)))

mode_step : (total : ℕ) (code : Code) (s : State) (session : Session) (mode : Mode) → s.mode ≡ mode → RunAgrees total (At s session) → RunAgrees total (run_after s session (move_in code s mode s.frames))
mode_step total code s session Ended is run = tt
mode_step total code s session (Asking request slots) is run =
    asking_step total s request slots session.trace session.answers session.ticks run.0 run.1 run.2.apart
    (subst (λ (m : Mode). Agrees m s.regions s.frames (regions_on (asks_in session.trace) []) (length (asks_in session.trace)) run.0) is run.2.agrees)
mode_step total code s session Running is run = going_step total s session _ (subst IsGoing (sym is) tt) (move_keeps code s Running s.frames is refl) run
mode_step total code s session Called is run = going_step total s session _ (subst IsGoing (sym is) tt) (move_keeps code s Called s.frames is refl) run
mode_step total code s session (Raising exception) is run = going_step total s session _ (subst IsGoing (sym is) tt) (move_keeps code s (Raising exception) s.frames is refl) run

step_agrees : (total : ℕ) (code : Code) (r : Run) → RunAgrees total r → RunAgrees total (step code r)
step_agrees total code (At s session) run = mode_step total code s session s.mode refl run
step_agrees total code (Over s trace) run = tt

steps_agree : (total : ℕ) (code : Code) (count : ℕ) (r : Run) → RunAgrees total r → RunAgrees total (steps code count r)
steps_agree total code zero r run = run
steps_agree total code (suc count) r run = steps_agree total code count (step code r) (step_agrees total code r run)

start_agrees : (instance process : ℕ) (arguments : List ℤ) (row : Option BodyRow) (start : State) (answers : List Answer) (ticks : ℕ) → start_in instance process arguments row ≡ Some start → RunAgrees (length answers) (At start (session_of answers ticks))
start_agrees instance process arguments None start answers ticks is = absurd (let f : ⊥ = cc in f)
start_agrees instance process arguments (Some row) start answers ticks is = elim (cases_Bool (row.params == length arguments)) [
  | inr other ↦ absurd (let none : start_in instance process arguments (Some row) ≡ None = rw other refl in let f : ⊥ = cc in f)
  | inl same ↦ (
      let first : State = record { instance = instance; frames = new_frame process row arguments ∷ []; regions = []; mode = Running } in
      let some : start_in instance process arguments (Some row) ≡ Some first = rw same refl in
      let e : first ≡ start = let both : Some first ≡ Some start = sym some ∙ is in cc in
      subst (λ (s : State). RunAgrees (length answers) (At s (session_of answers ticks))) e
      (zero, omega arith, record { agrees = record { is = refl; count = refl }; apart = tt }))
]

-- The state that is reached agrees with its trace and its answers.
pub reached_agrees : (code : Code) (instance process : ℕ) (arguments : List ℤ) (answers : List Answer) (trace : List Item) (state : State) → Reaches code instance process arguments answers trace state
    → StateAgrees state (regions_on (asks_in trace) []) (length (asks_in trace)) (length answers)
reached_agrees code instance process arguments answers trace state reaches =
    let leads = reaches.leads in
    let begins = start_agrees instance process arguments (slice_get code.bodies process) reaches.start answers leads.ticks reaches.starts in
    let run : RunAgrees (length answers) (At state (record { trace = trace; answers = []; ticks = leads.left })) =
    subst (λ (r : Run). RunAgrees (length answers) r) leads.by (steps_agree (length answers) code leads.count (At reaches.start (session_of answers leads.ticks)) begins) in
    let e : run.0 ≡ length answers = let all = run.1 in omega (arith, all) in
    subst (λ (n : ℕ). StateAgrees state (regions_on (asks_in trace) []) (length (asks_in trace)) n) e run.2

-- where each request has its answer, the regions that are open are those that the requests tell
pub settled_regions : (s : State) (told : List ℕ) (asks given : ℕ) → asks ≡ given → StateAgrees s told asks given → told ≡ numbers_of s.regions
settled_regions s told asks given same agrees = by-mode s.mode agrees.agrees
  where
    by-mode : (mode : Mode) → Agrees mode s.regions s.frames told asks given → told ≡ numbers_of s.regions
    by-mode (Asking request slots) is = absurd (let c = is.count in let f : ⊥ = omega (arith, c, same) in f)
    by-mode Running is = is.is
    by-mode Called is = is.is
    by-mode (Raising exception) is = is.is
    by-mode Ended is = is.is
