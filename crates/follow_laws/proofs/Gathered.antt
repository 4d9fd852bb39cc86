-- The laws of single instructions and requests.
use Rattle.std.proofs.Common.{◌≡◌, ◌+◌, if◌then◌else◌, Bool, true, false, List, [], ◌∷◌, ◌++◌, refl, ap}
use Rattle.kernel_base.specs.declared.request.Request.{Request}
use Rattle.world_model.specs.Session.{Item, Ask, Asked, Answered, Unanswered, ask}
use Rattle.code_types.specs.declared.code.Code.{Code}
use Rattle.code_types.specs.Answers.{fits_request, answered}
use Rattle.code_types.specs.State.{Slot, State, Mode}
use Rattle.code_types.specs.Steps.{Run, At, Over, move_in, run_after, run_with}
use Rattle.source_meaning.specs.Flow.{takes_answer, Given, Halts, reply_in}
use Rattle.follow_laws.specs.Follows.{GetsTo}
use Rattle.follow_laws.specs.Laws.{InstructionLaw, behind_answer, GoesOnBehind, counts_in, ComesByReply, RequestLaw, ContentsLaw, AssignLaw, CheckLaw, IndexLaw}
use Rattle.follow_laws.proofs.Running.{is_there, one_more, gets_then, stays, acts}
use Rattle.follow_laws.proofs.Requesting.{answered_is, fits_alike}
use Rattle.follow_laws.proofs.Instructions.{local_by, local_at_by, shared_by, set_by, set_at_by, write_by, check_by, index_by}

pub instruction_law : InstructionLaw
instruction_law w instr at base xs locals s is found = acts w instr at base xs locals s _ is found refl

replied : (code : Code) (q : State) (request : Request) (slots : List Slot) (trace : List Item) (x : Asked) → GoesOnBehind request → ComesByReply code q request slots (run_with q request slots x trace) (reply_in request (counts_in slots) x trace)
replied code q request slots trace (Unanswered t) on = stays code (Over q t)
replied code q request slots trace (Answered a s1) on = by_fit (takes_answer request (counts_in slots) a) (fits_request request slots a) (fits_alike request slots a)
  where
    by_fit : (x y : Bool) → x ≡ y → ComesByReply code q request slots (if y then At (answered q request slots a) s1 else Over q trace) (if x then Given a s1 else Halts trace)
    by_fit true true e = is_there code (At (answered q request slots a) s1) (At (behind_answer q request slots a) s1) (ap (λ z. At z s1) (answered_is q request slots a on))
    by_fit false false e = stays code (Over q trace)
    by_fit true false e = absurd (let no : ⊥ = cc in no)
    by_fit false true e = absurd (let no : ⊥ = cc in no)

later : (code : Code) (q : State) (request : Request) (slots : List Slot) (m n : Run) (x : Asked) (trace : List Item) → GetsTo code m n → ComesByReply code q request slots n (reply_in request (counts_in slots) x trace) → ComesByReply code q request slots m (reply_in request (counts_in slots) x trace)
later code q request slots m n (Unanswered t) trace r c = gets_then r c
later code q request slots m n (Answered a s1) trace r c = by_fit (takes_answer request (counts_in slots) a) c
  where
    by_fit : (x : Bool) → ComesByReply code q request slots n (if x then Given a s1 else Halts trace) → ComesByReply code q request slots m (if x then Given a s1 else Halts trace)
    by_fit true d = gets_then r d
    by_fit false d = gets_then r d

pub request_law : RequestLaw
request_law code q request slots s is on =
    let trace : List Item = s.trace ++ Ask request ∷ [] in
    let asks : Run = At q (record s { trace = trace }) in
    let waits : Run = run_with q request slots (ask request s) trace in
    later code q request slots asks waits (ask request s) trace
    (one_more code asks waits (ap (λ (m : Mode). run_after q (record s { trace = trace }) (move_in code q m q.frames)) is))
    (replied code q request slots trace (ask request s) on)

pub contents_law : ContentsLaw
contents_law =
    record {
      local = λ w k first n f row at lo hi rows stack locals store s is low f_is has h. local_by w k first n f row at (at + 1) lo hi rows stack locals store s refl is low f_is has h;
      local_at = λ w k first offset n f row at lo hi rows base locals store s is low f_is has h. local_at_by w k first offset n f row at (at + 1) lo hi rows base locals store s refl is low f_is has h;
      shared = λ w l first offset n at lo hi rows base locals store s free fit has h. shared_by w l first offset n at (at + 1) lo hi rows base locals store s refl free.low free.high free.untaken fit has h;
    }

pub assign_law : AssignLaw
assign_law =
    record {
      local = λ w k first n f row xs at lo hi rows base locals store s long is low f_is has h. set_by w k first n f row xs at (at + 1) lo hi rows base locals store s long refl is low f_is has h;
      local_at = λ w k first offset n f row xs at lo hi rows base locals store s long is low f_is has h. set_at_by w k first offset n f row xs at (at + 1) lo hi rows base locals store s long refl is low f_is has h;
      shared = λ w l first offset n xs at lo hi rows base locals store s long free fit has h. write_by w l first offset n xs at (at + 1) lo hi rows base locals store s long refl free.low free.high free.untaken fit has h;
    }

pub check_law : CheckLaw
check_law w b xs at lo hi rows base locals store s long free has h = check_by w b xs at (at + 1) lo hi rows base locals store s long refl free.low free.high free.untaken has h

pub index_law : IndexLaw
index_law w b size xs at lo hi rows base locals store s long free has h = index_by w b size (λ z. Unit {0}) xs at (at + 1) lo hi rows base locals store s long refl free.low free.high free.untaken (λ z found. tt) has h
