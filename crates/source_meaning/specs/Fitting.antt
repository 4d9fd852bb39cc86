-- Which arguments and answers fit: those whose scalars are those of values of the modes that the text gives them.
use Rattle.std.specs.Prelude.{◌≡◌, ℕ, ◌==◌, Bool, true, false, List, [], ◌∷◌, ◌++◌, ℤ, take, drop, Option, Some, None, slice_get, All, if◌then◌else◌}
use Rattle.std.specs.List.{flat_map}
use Rattle.kernel_base.specs.declared.request.Request.{Request}
use Rattle.kernel_base.specs.declared.request.Request.TheVariants.{Read, ReceiveBuffer, ReceiveSignal}
use Rattle.kernel_base.specs.declared.request.Alternative.{Alternative}
use Rattle.kernel_base.specs.declared.answer.Answer.{Answer}
use Rattle.kernel_base.specs.declared.answer.Answer.TheVariants.{Value, Got}
use Rattle.world_model.specs.Session.{Item, Tick, Ask}
use Rattle.world_model.specs.Gives.{Gives}
use Rattle.world_model.specs.Ranges.{IsNumber, AreScalars, IsAnswerInRange}
use Rattle.checked_program.specs.declared.program.Parameter.{Parameter}
use Rattle.checked_program.specs.declared.program.Sort.{Sort}
use Rattle.checked_program.specs.declared.program.Sort.TheVariants.{Outermost, Process, Procedure}
use Rattle.program_trees.specs.ProgramTree.{LocationRowTree, BufferRowTree, SignalRowTree, LocalRowTree, BodyRowTree, CheckedTree}
use Rattle.source_meaning.specs.Values.{Domain, domains_of, AreWithin}
use Rattle.source_meaning.specs.Talk.{talk}

-- what the scalars of a shared location may be, of the values of a buffer, and of a signal
abbrev pub domains_at : Option LocationRowTree → ℕ → ℕ → List Domain
domains_at None first count = []
domains_at (Some row) first count = take count (drop first (domains_of row.mode))

abbrev pub domains_in_buffer : Option BufferRowTree → List Domain
domains_in_buffer None = []
domains_in_buffer (Some row) = domains_of row.element

abbrev pub domains_in_signal : Option SignalRowTree → List Domain
domains_in_signal None = []
domains_in_signal (Some row) = flat_map domains_of row.parts

-- the thing that the first alternative of a number lists
abbrev pub thing_of : List Alternative → ℕ → ℕ
thing_of [] number = 0
thing_of (a ∷ as') number = if a.number == number then a.thing else thing_of as' number

-- the scalars of an answer are those of a value of the mode that the text gives to the place, the buffer or the signal
abbrev pub BringsValue : CheckedTree → Request → Answer → Type 0
BringsValue p (Read place) (Value zs) = AreWithin (domains_at (slice_get p.locations place.location) place.first place.count) zs
BringsValue p (ReceiveBuffer things o) (Got k send zs by) = AreWithin (domains_in_buffer (slice_get p.buffers (thing_of things k))) zs
BringsValue p (ReceiveSignal things o) (Got k send zs by) = AreWithin (domains_in_signal (slice_get p.signals (thing_of things k))) zs
BringsValue p request answer = Unit {0}

pub record FitsAnswer (p : CheckedTree) (request : Request) (answer : Answer) : Type 0 where
  pub gives : Gives request answer
  pub brings : BringsValue p request answer

-- each request of a trace has an answer that fits, as far as there are answers
abbrev pub HasFittingAnswers : CheckedTree → List Item → List Answer → Type 0
HasFittingAnswers p [] answers = Unit {0}
HasFittingAnswers p (Tick ∷ items) answers = HasFittingAnswers p items answers
HasFittingAnswers p (Ask request ∷ items) [] = Unit {0}
HasFittingAnswers p (Ask request ∷ items) (a ∷ answers) = FitsAnswer p request a × HasFittingAnswers p items answers

-- what the scalars of a process's parameters may be
abbrev pub domains_of_parameters : List LocalRowTree → List Parameter → List Domain
domains_of_parameters rows [] = []
domains_of_parameters [] (q ∷ qs) = []
domains_of_parameters (row ∷ rows) (q ∷ qs) = domains_of row.mode ++ domains_of_parameters rows qs

-- instances run the body: it is that of the outermost process or of a process
abbrev pub has_instances : Sort → Bool
has_instances Outermost = true
has_instances Process = true
has_instances Procedure = false

-- instances run the body, and the arguments are values of its parameters' modes
pub record FitsBody (b : BodyRowTree) (zs : List ℤ) : Type 0 where
  pub process : has_instances b.sort ≡ true
  pub values : AreWithin (domains_of_parameters b.locals b.parameters) zs

-- an instance, arguments and answers have the ranges of their types
pub record AreOfTypes (instance : ℕ) (zs : List ℤ) (answers : List Answer) : Type 0 where
  pub who : IsNumber instance
  pub arguments : AreScalars zs
  pub given : All IsAnswerInRange answers

-- Arguments and answers fit: all numbers have the ranges of their types, the process is there and is one, the arguments are
-- values of its parameters' modes, and each answer in turn is one that can come for its request, with the scalars of values.
pub record IsFitting (p : CheckedTree) (instance process : ℕ) (zs : List ℤ) (answers : List Answer) : Type 0 where
  pub in_range : AreOfTypes instance zs answers
  pub body : BodyRowTree
  pub is_body : slice_get p.bodies process ≡ Some body
  pub fits : FitsBody body zs
  pub answered : (n : ℕ) → HasFittingAnswers p (talk p instance process zs answers n).trace answers
