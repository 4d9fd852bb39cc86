-- The talk of a process: its trace, and the calls that are open where it stops.
use Rattle.std.specs.Prelude.{ℕ, ◌+◌, ◌==◌, List, [], ◌∷◌, ◌++◌, ℤ, length, take, drop, Option, Some, None, slice_get, if◌then◌else◌}
use Rattle.kernel_base.specs.declared.answer.Answer.{Answer}
use Rattle.kernel_base.specs.declared.ends.How.TheVariants.{Normal, Raised as RaisedHow}
use Rattle.program_trees.specs.ProgramTree.{LocalRowTree, BodyRowTree, CheckedTree}
use Rattle.checked_program.specs.declared.program.Parameter.{Parameter}
use Rattle.world_model.specs.Session.{Item, Session, session_of}
use Rattle.source_meaning.specs.Store.{Store, OpenCall, Taken, brings}
use Rattle.source_meaning.specs.Flow.{Flow, Goes, Raised, Exits, Returned, Stops, Gone, Bound, finish}
use Rattle.source_meaning.specs.BodyMeaning.{Ending, Through, Out, Halted, Ended, Unknown, body_mean}

-- what a process has done, and the calls that are open where it stops: its own body first, the innermost call last; none where
-- it has ended
pub record Talk : Type 0 where
  pub trace : List Item
  pub stand : List OpenCall

-- the end of a process's own body
abbrev pub process_end : Ending → Flow (Unit {0})
process_end (Through store s) = finish Normal [] store s
process_end (Out x store s) = finish (RaisedHow x) [] store s
process_end (Halted t inner store) = Stops t inner store
process_end (Ended t) = Gone t
process_end Unknown = Bound

-- only a talk that stops or has ended comes
abbrev pub talk_at : ℕ → Flow (Unit {0}) → Talk
talk_at b (Goes v store s) = record { trace = s.trace; stand = [] }
talk_at b (Raised x store s) = record { trace = s.trace; stand = [] }
talk_at b (Exits k store s) = record { trace = s.trace; stand = [] }
talk_at b (Returned store s) = record { trace = s.trace; stand = [] }
talk_at b (Stops t inner store) = record { trace = t; stand = record { body = b; store = store } ∷ inner }
talk_at b (Gone t) = record { trace = t; stand = [] }
talk_at b Bound = record { trace = []; stand = [] }

-- the parameters of a process, and how many scalars they have together
abbrev pub split_over : List LocalRowTree → List Parameter → List ℤ → List Taken
split_over rows [] xs = []
split_over [] (p ∷ ps) xs = []
split_over (row ∷ rows) (p ∷ ps) xs = brings (take row.count xs) ∷ split_over rows ps (drop row.count xs)

abbrev pub parameter_scalars : List LocalRowTree → List Parameter → ℕ
parameter_scalars rows [] = 0
parameter_scalars [] (p ∷ ps) = 0
parameter_scalars (row ∷ rows) (p ∷ ps) = row.count + parameter_scalars rows ps

abbrev pub no_talk : Talk
no_talk = record { trace = []; stand = [] }

abbrev pub talk_in : CheckedTree → ℕ → ℕ → List ℤ → List Answer → ℕ → Option BodyRowTree → Talk
talk_in p instance process xs answers n None = no_talk
talk_in p instance process xs answers n (Some b) =
    if parameter_scalars b.locals b.parameters == length xs
    then talk_at process (process_end (body_mean p instance n process 1 [] (split_over b.locals b.parameters xs) (session_of answers n)))
    else no_talk

-- The talk of an instance that was started on a process with these arguments, up to the first request without an answer, the
-- n-th tick, or the end. Nothing is told where there is no such process, or the arguments aren't as many as its parameters.
abbrev pub talk : CheckedTree → ℕ → ℕ → List ℤ → List Answer → ℕ → Talk
talk p instance process xs answers n = talk_in p instance process xs answers n (slice_get p.bodies process)
