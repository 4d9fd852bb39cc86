-- What comes of a part of a text, and how parts are put together.
use Rattle.std.specs.Prelude.{ℕ, ◌==◌, Bool, ◌&&◌, true, List, [], ◌∷◌, ◌++◌, length, slice_index_or, if◌then◌else◌}
use Rattle.kernel_base.specs.declared.ends.Exc.{Exc}
use Rattle.kernel_base.specs.declared.ends.How.{How}
use Rattle.kernel_base.specs.declared.request.Request.{Request}
use Rattle.kernel_base.specs.declared.request.Request.TheVariants.{End}
use Rattle.kernel_base.specs.declared.answer.Answer.{Answer}
use Rattle.kernel_base.specs.declared.answer.Answer.TheVariants.{Got, Fail}
use Rattle.world_model.specs.Session.{Item, Ask, Session, Asked, Answered, Unanswered, ask, Ticked, GoesOn, Last}
use Rattle.code_types.specs.Answers.{gives}
use Rattle.source_meaning.specs.Store.{Store, OpenCall}

-- The outcome of a part, with the store and the session after it. The session has the trace, and the answers and ticks left.
pub data Flow (A : Type 0) : Type 0 where
  -- it has gone through, with its value
  Goes : A → Store → Session → Flow A
  -- an exception
  Raised : Exc → Store → Session → Flow A
  -- on the way to the end of the labelled statement that is so many outwards
  Exits : ℕ → Store → Session → Flow A
  -- on the way out of the procedure
  Returned : Store → Session → Flow A
  -- The talk stops here: a request has no answer left, or the last tick was made. With the calls that are open inside, the
  -- outermost of them first, and the store of the part.
  Stops : List Item → List OpenCall → Store → Flow A
  -- the process has ended
  Gone : List Item → Flow A
  -- more turns or calls than are looked at; it never comes where these are as many as the ticks
  Bound : Flow A

-- what a part means
abbrev pub Meaning : Type 0 → Type 0
Meaning A = Store → Session → Flow A

-- one part after another: any other outcome goes out at once
abbrev pub then_do : {A B : Type 0} → Flow A → (A → Meaning B) → Flow B
then_do (Goes v store s) next = next v store s
then_do (Raised x store s) next = Raised x store s
then_do (Exits k store s) next = Exits k store s
then_do (Returned store s) next = Returned store s
then_do (Stops t inner store) next = Stops t inner store
then_do (Gone t) next = Gone t
then_do Bound next = Bound

-- as many scalars come as the alternative that is got takes
abbrev pub fills : List ℕ → Answer → Bool
fills counts (Got alternative send scalars by) = length scalars == slice_index_or counts alternative 0
fills counts answer = true

-- the answer can come for the request, and has as many scalars as are taken
abbrev pub takes_answer : Request → List ℕ → Answer → Bool
takes_answer request counts answer = gives request answer && fills counts answer

-- What comes of a request: an answer that fits, or the trace ends there. An answer that doesn't fit comes in no run.
pub data Reply : Type 0 where
  Given : Answer → Session → Reply
  Halts : List Item → Reply

abbrev pub reply_in : Request → List ℕ → Asked → List Item → Reply
reply_in request counts (Answered answer s) trace = if takes_answer request counts answer then Given answer s else Halts trace
reply_in request counts (Unanswered ended) trace = Halts ended

abbrev pub reply : Request → List ℕ → Session → Reply
reply request counts s = reply_in request counts (ask request s) (s.trace ++ Ask request ∷ [])

-- a request: its answer, or the exception that it fails with
abbrev pub asked_in : Reply → Store → Flow Answer
asked_in (Given (Fail x) s) store = Raised x store s
asked_in (Given answer s) store = Goes answer store s
asked_in (Halts trace) store = Stops trace [] store

abbrev pub asked : Request → List ℕ → Meaning Answer
asked request counts store s = asked_in (reply request counts s) store

-- a request whose answer tells nothing
abbrev pub done : Request → Meaning (Unit {0})
done request store s = then_do (asked request [] store s) (λ answer. Goes tt)

-- the process ends, once that is answered
abbrev pub finished : {A : Type 0} → Reply → List OpenCall → Store → Flow A
finished (Given answer s) inner store = Gone s.trace
finished (Halts trace) inner store = Stops trace inner store

abbrev pub finish : {A : Type 0} → How → List OpenCall → Meaning A
finish how inner store s = finished (reply (End how) [] s) inner store

-- goes on after a tick, unless that was the last
abbrev pub after_tick : {A : Type 0} → Ticked → Store → (Session → Flow A) → Flow A
after_tick (GoesOn s) store next = next s
after_tick (Last trace) store next = Stops trace [] store
