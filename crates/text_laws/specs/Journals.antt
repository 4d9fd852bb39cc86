-- What the world holds where all requests of a journal fit a text, and what its processes get.
use Rattle.std.specs.Prelude.{◌≡◌, ℕ, List, [], ◌∷◌, ℤ, Some, None, slice_get, slice_index_or}
use Rattle.std.specs.declared.option.Option.{Option}
use Rattle.kernel_base.specs.declared.facts.Facts.{Facts}
use Rattle.kernel_base.specs.declared.request.Request.{Request}
use Rattle.kernel_base.specs.declared.answer.Answer.{Answer}
use Rattle.kernel_base.specs.declared.event.Event.{Event}
use Rattle.kernel_base.specs.declared.event.Event.TheVariants.{Did, Waits}
use Rattle.world_model.specs.declared.world.Phase.{Phase}
use Rattle.world_model.specs.declared.world.Phase.TheVariants.{Waiting, Chosen}
use Rattle.world_model.specs.declared.world.StoredValue.{StoredValue}
use Rattle.world_model.specs.declared.world.PendingSignal.{PendingSignal}
use Rattle.world_model.specs.declared.world.World.{World}
use Rattle.world_model.specs.Session.{Item, Tick, Ask}
use Rattle.world_model.specs.Waiting.{phase_of}
use Rattle.world_model.specs.World.{stored_in, world_of}
use Rattle.world_model.specs.Journal.{line_of, answers_of, Birth, born_of}
use Rattle.program_trees.specs.ProgramTree.{LocationRowTree, BodyRowTree, CheckedTree}
use Rattle.source_meaning.specs.Values.{AreWithin, IsValueOf}
use Rattle.source_meaning.specs.Fitting.{domains_in_buffer, domains_in_signal, FitsBody, FitsAnswer}
use Rattle.text_laws.specs.Requests.{FitsText}

-- the request of an event fits the text
abbrev pub AsksText : CheckedTree → Event → Type 0
AsksText p (Did who ticks request answer refill) = FitsText p request
AsksText p (Waits who ticks request) = FitsText p request
AsksText p event = Unit {0}

-- Each shared location has a value of its mode, and so has each value that is stored, that pends, and that a process waits to send.
pub record HoldsValues (p : CheckedTree) (w : World) : Type 0 where
  pub store : (l : ℕ) (row : LocationRowTree) → slice_get p.locations l ≡ Some row → IsValueOf row.mode (slice_index_or w.store l [])
  pub stored : (b k : ℕ) (value : StoredValue) → slice_get (stored_in w b) k ≡ Some value → AreWithin (domains_in_buffer (slice_get p.buffers b)) value.scalars
  pub pending : (k : ℕ) (signal : PendingSignal) → slice_get w.pending k ≡ Some signal → AreWithin (domains_in_signal (slice_get p.signals signal.signal)) signal.value.scalars
  pub waiting : (who : ℕ) (request : Request) (send back : Option ℕ) → phase_of w who ≡ Some (Waiting request send back) → FitsText p request

-- each answer of a trace fits its request, and one request is without an answer, or none is
abbrev pub IsOpenWith : CheckedTree → List Item → List Answer → Option Request → Type 0
IsOpenWith p [] answers o = (answers ≡ []) × (o ≡ None)
IsOpenWith p (Tick ∷ items) answers o = IsOpenWith p items answers o
IsOpenWith p (Ask request ∷ items) [] o = (items ≡ []) × (o ≡ Some request)
IsOpenWith p (Ask request ∷ items) (a ∷ answers) o = FitsAnswer p request a × IsOpenWith p items answers o

-- One that waits has that request without an answer; the answer of one that is chosen fits; any other has all its answers.
abbrev pub PhaseFits : CheckedTree → Option Request → Option Phase → Type 0
PhaseFits p o (Some (Waiting request send back)) = o ≡ Some request
PhaseFits p o (Some (Chosen answer back)) = (request : Request) × (o ≡ Some request) × FitsAnswer p request answer
PhaseFits p o phase = o ≡ None

-- instances run the body of the process, and the arguments are values of its parameters' modes
abbrev pub IsBirth : CheckedTree → ℕ → List ℤ → Type 0
IsBirth p process zs = (body : BodyRowTree) × (slice_get p.bodies process ≡ Some body) × FitsBody body zs

-- what an instance did, the request that is without an answer, and how far it has come
pub record GetsValues (p : CheckedTree) (w : World) (events : List Event) (who : ℕ) : Type 0 where
  pub open_request : Option Request
  pub answered : IsOpenWith p (line_of who events) (answers_of who events) open_request
  pub phase : PhaseFits p open_request (phase_of w who)

abbrev pub BirthsFitText : CheckedTree → List Event → Type 0
BirthsFitText p events = (who : ℕ) (birth : Birth) → born_of who events ≡ Some birth → IsBirth p birth.process birth.arguments

abbrev pub AllAskText : CheckedTree → List Event → Type 0
AllAskText p [] = Unit {0}
AllAskText p (event ∷ events) = AsksText p event × AllAskText p events

-- The world behind a journal holds values, and so does all that its processes were born with and got.
pub record KeepsValues (p : CheckedTree) (facts : Facts) (events : List Event) : Type 0 where
  pub holds : HoldsValues p (world_of facts events)
  pub gets : (who : ℕ) → GetsValues p (world_of facts events) events who
  pub births : BirthsFitText p events
