-- Which requests fit a text: what they name is there, and what they bring are values of the modes that the text gives it.
use Rattle.std.specs.Prelude.{◌≡◌, ℕ, ◌+◌, ◌<◌, ◌≤◌, List, [], ◌∷◌, ℤ, length, Some, slice_get}
use Rattle.kernel_base.specs.declared.request.Place.{Place}
use Rattle.kernel_base.specs.declared.request.Alternative.{Alternative}
use Rattle.kernel_base.specs.declared.request.Request.{Request}
use Rattle.kernel_base.specs.declared.request.Request.TheVariants.{Read, Write, Enter, Leave, Delay, Continue, SendBuffer, ReceiveBuffer, SendSignal, ReceiveSignal, Start, Put, Get, End}
use Rattle.kernel_base.specs.declared.answer.Answer.{Answer}
use Rattle.kernel_base.specs.Facts.{NameThings}
use Rattle.modes.specs.Scalars.{scalars_of}
use Rattle.checked_program.specs.declared.program.Sort.TheVariants.{Process}
use Rattle.program_trees.specs.ProgramTree.{LocationRowTree, BodyRowTree, CheckedTree}
use Rattle.world_model.specs.Lists.{number_for}
use Rattle.world_model.specs.Session.{Item, Tick, Ask}
use Rattle.source_meaning.specs.Values.{AreWithin}
use Rattle.source_meaning.specs.Fitting.{domains_at, domains_in_buffer, domains_in_signal, domains_of_parameters, thing_of, FitsAnswer}

-- the place lies in a shared location of the text
abbrev pub LiesInText : CheckedTree → Place → Type 0
LiesInText p place = (row : LocationRowTree) × (slice_get p.locations place.location ≡ Some row) × (place.first + place.count ≤ scalars_of row.mode)

-- the number of an alternative tells what it lists
abbrev pub NumbersTell : List Alternative → Type 0
NumbersTell things = (thing number : ℕ) → number_for things thing ≡ Some number → thing_of things number ≡ thing

-- a process with values for its parameters
abbrev pub StartsProcess : CheckedTree → ℕ → List ℤ → Type 0
StartsProcess p process zs = (b : BodyRowTree) × (slice_get p.bodies process ≡ Some b) × (b.sort ≡ Process) × AreWithin (domains_of_parameters b.locals b.parameters) zs

-- What a request names is there, and what it brings are values of the modes there.
abbrev pub FitsText : CheckedTree → Request → Type 0
FitsText p (Read place) = LiesInText p place
FitsText p (Write place zs) = LiesInText p place × AreWithin (domains_at (slice_get p.locations place.location) place.first place.count) zs
FitsText p (Enter region) = region < p.regions
FitsText p (Leave region) = region < p.regions
FitsText p (Delay events priority) = NameThings (length p.events) events
FitsText p (Continue event) = event < length p.events
FitsText p (SendBuffer buffer zs priority) = (buffer < length p.buffers) × AreWithin (domains_in_buffer (slice_get p.buffers buffer)) zs
FitsText p (ReceiveBuffer buffers otherwise) = NameThings (length p.buffers) buffers × NumbersTell buffers
FitsText p (SendSignal signal zs to priority) = (signal < length p.signals) × AreWithin (domains_in_signal (slice_get p.signals signal)) zs
FitsText p (ReceiveSignal signals otherwise) = NameThings (length p.signals) signals × NumbersTell signals
FitsText p (Start process zs) = StartsProcess p process zs
FitsText p (Put bytes) = Unit {0}
FitsText p Get = Unit {0}
FitsText p (End how) = Unit {0}

-- each request of a trace fits the text, as far as the answers before it fit
abbrev pub AskWell : CheckedTree → List Item → List Answer → Type 0
AskWell p [] answers = Unit {0}
AskWell p (Tick ∷ items) answers = AskWell p items answers
AskWell p (Ask request ∷ items) [] = FitsText p request × AskWell p items []
AskWell p (Ask request ∷ items) (a ∷ answers) = FitsText p request × (FitsAnswer p request a → AskWell p items answers)

-- each request of a trace fits the text
abbrev pub AllFitText : CheckedTree → List Item → Type 0
AllFitText p [] = Unit {0}
AllFitText p (Tick ∷ items) = AllFitText p items
AllFitText p (Ask request ∷ items) = FitsText p request × AllFitText p items
