-- What an answer that fits brings to the instruction that waits for it.
use Rattle.std.proofs.Common.{◌≡◌, ℕ, zero, suc, Bool, List, [], ◌∷◌, length, Option, Some, None, IsTrue, sym, ◌∙◌}
use Rattle.std.proofs.lemmas.Bool.{eqb-true, and_parts}
use Rattle.kernel_base.specs.declared.request.Alternative.{Alternative}
use Rattle.kernel_base.specs.declared.request.Request.{Request}
use Rattle.kernel_base.specs.declared.answer.Answer.{Answer}
use Rattle.kernel_base.specs.declared.answer.Answer.TheVariants.{Value, Done, Woken, Got, Otherwise, Instance, Fail, Chose, Handed, Stored}
use Rattle.code_types.specs.declared.instr.Instr.{Instr}
use Rattle.code_types.specs.declared.code.Code.{Code}
use Rattle.code_types.specs.Places.{pushes}
use Rattle.code_types.specs.Answers.{is_done, gives, gives_read, gives_delay, gives_continue, gives_send_buffer, gives_receive, gives_send_signal, gives_start, gives_get, fits_request, fills_slot}
use Rattle.code_types.specs.State.{Slot}
use Rattle.code_safety.specs.Standing.{Brings}

-- each answer of which a test tells that it can come brings what the instruction pushes
abbrev pub AllBring : Code → Instr → (Answer → Bool) → Type 0
AllBring code instr test = (count : ℕ) (answer : Answer) → IsTrue (test answer) → Brings code instr count answer

pub read_brings : (code : Code) (instr : Instr) (n : ℕ) → pushes code instr ≡ n → AllBring code instr (gives_read n)
read_brings code instr n e count (Fail exception) h = tt
read_brings code instr n e count (Value scalars) h = eqb-true (length scalars) n h ∙ sym e
read_brings code instr n e count answer h = cc

pub done_brings : (code : Code) (instr : Instr) → pushes code instr ≡ 0 → AllBring code instr is_done
done_brings code instr e count (Fail exception) h = tt
done_brings code instr e count Done h = sym e
done_brings code instr e count answer h = cc

pub delay_brings : (code : Code) (instr : Instr) (events : List Alternative) → pushes code instr ≡ 2 → AllBring code instr (gives_delay events)
delay_brings code instr events e count (Fail exception) h = tt
delay_brings code instr events e count (Woken alternative by) h = sym e
delay_brings code instr events e count answer h = cc

pub continue_brings : (code : Code) (instr : Instr) → pushes code instr ≡ 0 → AllBring code instr gives_continue
continue_brings code instr e count (Fail exception) h = tt
continue_brings code instr e count (Chose process) h = sym e
continue_brings code instr e count answer h = cc

pub send_buffer_brings : (code : Code) (instr : Instr) → pushes code instr ≡ 0 → AllBring code instr gives_send_buffer
send_buffer_brings code instr e count (Fail exception) h = tt
send_buffer_brings code instr e count (Handed process) h = sym e
send_buffer_brings code instr e count Stored h = sym e
send_buffer_brings code instr e count answer h = cc

pub receive_brings : (code : Code) (instr : Instr) (things : List Alternative) (otherwise : Bool) → pushes code instr ≡ 2 → AllBring code instr (gives_receive things otherwise)
receive_brings code instr things otherwise e count (Fail exception) h = tt
receive_brings code instr things otherwise e count (Got alternative send scalars by) h = sym e
receive_brings code instr things otherwise e count Otherwise h = sym e
receive_brings code instr things otherwise e count answer h = cc

pub send_signal_brings : (code : Code) (instr : Instr) (to : Option ℕ) → pushes code instr ≡ 0 → AllBring code instr (gives_send_signal to)
send_signal_brings code instr to e count (Fail exception) h = tt
send_signal_brings code instr to e count Done h = sym e
send_signal_brings code instr to e count (Chose process) h = sym e
send_signal_brings code instr to e count (Handed process) h = sym e
send_signal_brings code instr to e count Stored h = sym e
send_signal_brings code instr None e count answer h = cc
send_signal_brings code instr (Some zero) e count answer h = cc
send_signal_brings code instr (Some (suc i)) e count answer h = cc

pub start_brings : (code : Code) (instr : Instr) → pushes code instr ≡ 1 → AllBring code instr gives_start
start_brings code instr e count (Fail exception) h = tt
start_brings code instr e count (Instance i) h = sym e
start_brings code instr e count answer h = cc

pub get_brings : (code : Code) (instr : Instr) → pushes code instr ≡ 1 → AllBring code instr gives_get
get_brings code instr e count (Fail exception) h = tt
get_brings code instr e count (Value []) h = cc
get_brings code instr e count (Value (number ∷ [])) h = sym e
get_brings code instr e count (Value (number ∷ other ∷ numbers)) h = cc
get_brings code instr e count answer h = cc

-- an answer that fits can come, and has as many scalars as its slot
pub fits_parts : (request : Request) (slots : List Slot) (answer : Answer) → IsTrue (fits_request request slots answer) → IsTrue (gives request answer) × IsTrue (fills_slot slots answer)
fits_parts request slots answer h = and_parts (gives request answer) (fills_slot slots answer) h

-- what can come brings what is pushed, and so does what fits
pub fitting_brings : (code : Code) (instr : Instr) (request : Request) (slots : List Slot) → AllBring code instr (gives request) → (answer : Answer) → IsTrue (fits_request request slots answer) → Brings code instr (length slots) answer
fitting_brings code instr request slots all answer h = all (length slots) answer (fits_parts request slots answer h).0
