-- Where things stand in a code, and what an instruction does to the height of the stack.
use Rattle.std.specs.Prelude.{ℕ, ◌+◌, ◌-◌, ◌*◌, ◌==◌, nat_le, nat_lt, Bool, true, false, ◌&&◌, ◌||◌, List, [], ◌∷◌, length, slice_get, if◌then◌else◌, Some, None}
use Rattle.std.specs.List.{list_any}
use Rattle.std.specs.declared.option.Option.{Option}
use Rattle.kernel_base.specs.declared.ends.Exc.{Exc}
use Rattle.code_types.specs.declared.instr.Instr.{Instr}
use Rattle.code_types.specs.declared.instr.Instr.TheVariants.{Push, Pop, Copy, Thing, Local, SetLocal, LocalAt, SetLocalAt, Part, PartAt, Index, Check, Add, Sub, Mul, Div, Mod, Rem, Neg, Abs, Succ, Pred, Same, Less, Not, And, Or, Xor, BitNot, BitAnd, BitOr, BitXor, BitMinus, Within, Has, Card, Least, Most, Span, Jump, Unless, Again, Call, Return, Enter, Leave, Raise, This, Read, Write, Delay, Continue, Send, Signal, Take, Hear, Start, PutInt, PutText, PutLine, GetInt, Stop, Finish}
use Rattle.code_types.specs.declared.code.Handler.{Handler}
use Rattle.code_types.specs.declared.code.BodyRow.{BodyRow}
use Rattle.code_types.specs.declared.code.Code.{Code}
use Rattle.code_types.specs.Exceptions.{exception_number}

abbrev pub params_of : Option BodyRow → ℕ
params_of None = 0
params_of (Some row) = row.params

abbrev pub results_of : Option BodyRow → ℕ
results_of None = 0
results_of (Some row) = row.results

abbrev pub listed_of : Option BodyRow → List ℕ
listed_of None = []
listed_of (Some row) = row.listed

abbrev pub first_of : Option BodyRow → ℕ → ℕ
first_of None otherwise = otherwise
first_of (Some row) otherwise = row.first

-- the place behind a body: the next body's first instruction, or the end of the code
abbrev pub end_of : Code → ℕ → ℕ
end_of code body = first_of (slice_get code.bodies (body + 1)) (length code.instrs)

-- an instruction that Signal pops the receiver for has one operand more
abbrev pub count_of_receivers : Bool → ℕ
count_of_receivers true = 1
count_of_receivers false = 0

-- how many numbers an instruction of this body takes off the stack
abbrev pub pops : Code → ℕ → Instr → ℕ
pops code body (Push k) = 0
pops code body (Pop n) = n
pops code body (Copy n) = 0
pops code body (Thing k) = 0
pops code body (Local first count) = 0
pops code body (SetLocal first count) = count
pops code body (LocalAt first count) = 1
pops code body (SetLocalAt first count) = 1 + count
pops code body (Part first count of) = of
pops code body (PartAt count of) = 1 + of
pops code body (Index low high size) = 1
pops code body (Check low high) = 0
pops code body Add = 2
pops code body Sub = 2
pops code body Mul = 2
pops code body Div = 2
pops code body Mod = 2
pops code body Rem = 2
pops code body Neg = 1
pops code body Abs = 1
pops code body (Succ bound) = 1
pops code body (Pred bound) = 1
pops code body (Same n) = 2 * n
pops code body (Less n) = 2 * n
pops code body Not = 1
pops code body And = 2
pops code body Or = 2
pops code body Xor = 2
pops code body (BitNot m) = 1
pops code body BitAnd = 2
pops code body BitOr = 2
pops code body BitXor = 2
pops code body BitMinus = 2
pops code body Within = 2
pops code body Has = 2
pops code body Card = 1
pops code body Least = 1
pops code body Most = 1
pops code body Span = 2
pops code body (Jump to) = 0
pops code body (Unless to) = 1
pops code body (Again to) = 0
pops code body (Call callee) = params_of (slice_get code.bodies callee)
pops code body Return = results_of (slice_get code.bodies body)
pops code body (Enter region) = 0
pops code body (Leave region) = 0
pops code body (Raise exception) = 0
pops code body This = 0
pops code body (Read location first count) = 1
pops code body (Write location first count) = 1 + count
pops code body (Delay n priority) = 2 * n
pops code body (Continue event) = 0
pops code body (Send buffer count priority) = count
pops code body (Signal signal count to priority) = count + count_of_receivers to
pops code body (Take n otherwise) = 3 * n
pops code body (Hear n otherwise) = 3 * n
pops code body (Start process count) = count
pops code body PutInt = 1
pops code body (PutText n) = n
pops code body PutLine = 0
pops code body GetInt = 0
pops code body Stop = 0
pops code body Finish = 0

-- How many numbers an instruction has to find. Two look at numbers that they leave where they are.
abbrev pub finds : Code → ℕ → Instr → ℕ
finds code body (Copy n) = n
finds code body (Check low high) = 1
finds code body instr = pops code body instr

-- how many numbers an instruction puts onto the stack where control goes on
abbrev pub pushes : Code → Instr → ℕ
pushes code (Push k) = 1
pushes code (Pop n) = 0
pushes code (Copy n) = n
pushes code (Thing k) = 1
pushes code (Local first count) = count
pushes code (SetLocal first count) = 0
pushes code (LocalAt first count) = count
pushes code (SetLocalAt first count) = 0
pushes code (Part first count of) = count
pushes code (PartAt count of) = count
pushes code (Index low high size) = 1
pushes code (Check low high) = 0
pushes code Add = 1
pushes code Sub = 1
pushes code Mul = 1
pushes code Div = 1
pushes code Mod = 1
pushes code Rem = 1
pushes code Neg = 1
pushes code Abs = 1
pushes code (Succ bound) = 1
pushes code (Pred bound) = 1
pushes code (Same n) = 1
pushes code (Less n) = 1
pushes code Not = 1
pushes code And = 1
pushes code Or = 1
pushes code Xor = 1
pushes code (BitNot m) = 1
pushes code BitAnd = 1
pushes code BitOr = 1
pushes code BitXor = 1
pushes code BitMinus = 1
pushes code Within = 1
pushes code Has = 1
pushes code Card = 1
pushes code Least = 1
pushes code Most = 1
pushes code Span = 1
pushes code (Jump to) = 0
pushes code (Unless to) = 0
pushes code (Again to) = 0
pushes code (Call callee) = results_of (slice_get code.bodies callee)
pushes code Return = 0
pushes code (Enter region) = 0
pushes code (Leave region) = 0
pushes code (Raise exception) = 0
pushes code This = 1
pushes code (Read location first count) = count
pushes code (Write location first count) = 0
pushes code (Delay n priority) = 2
pushes code (Continue event) = 0
pushes code (Send buffer count priority) = 0
pushes code (Signal signal count to priority) = 0
pushes code (Take n otherwise) = 2
pushes code (Hear n otherwise) = 2
pushes code (Start process count) = 1
pushes code PutInt = 0
pushes code (PutText n) = 0
pushes code PutLine = 0
pushes code GetInt = 1
pushes code Stop = 0
pushes code Finish = 0

-- the height that an instruction leaves, which finds one
abbrev pub height_after : Code → ℕ → Instr → ℕ → ℕ
height_after code body instr height = height - pops code body instr + pushes code instr

-- control doesn't come from the instruction to the next one
abbrev pub is_last : Instr → Bool
is_last (Jump to) = true
is_last (Again to) = true
is_last Return = true
is_last (Raise exception) = true
is_last Stop = true
is_last Finish = true
is_last instr = false

-- where an instruction jumps
abbrev pub jump_of : Instr → Option ℕ
jump_of (Jump to) = Some to
jump_of (Unless to) = Some to
jump_of (Again to) = Some to
jump_of instr = None

abbrev pub names_exception : List ℕ → Exc → Bool
names_exception names exception = list_any (λ name. name == exception_number exception) names

-- the handler takes the exception, raised at this place
abbrev pub takes : Handler → ℕ → Exc → Bool
takes handler place exception = (nat_le handler.from place && nat_lt place handler.until) && (handler.otherwise || names_exception handler.names exception)

-- the innermost handler that takes the exception
abbrev pub taker : List Handler → ℕ → Exc → Option Handler
taker [] place exception = None
taker (handler ∷ handlers) place exception = if takes handler place exception then Some handler else taker handlers place exception
