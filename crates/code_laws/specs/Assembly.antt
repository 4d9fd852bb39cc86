-- The law of assembly: bodies that do what they mean make a code that has the program's talk.
use Rattle.std.specs.Prelude.{◌≡◌, ℕ, suc, ◌≤◌, ◌↔◌, true, List, [], ◌∷◌, ℤ, length, reverse, Some, None, slice_get, MatchBool}
use Rattle.kernel_base.specs.declared.ends.Exc.{Exc}
use Rattle.kernel_base.specs.declared.ends.How.TheVariants.{Normal, Raised as RaisedHow}
use Rattle.kernel_base.specs.declared.answer.Answer.{Answer}
use Rattle.kernel_base.specs.declared.event.Event.{Event}
use Rattle.kernel_base.specs.declared.facts.Facts.{Facts}
use Rattle.world_model.specs.Session.{Session, session_of}
use Rattle.world_model.specs.Journal.{line_of, answers_of, Birth, born_of}
use Rattle.program_trees.specs.ProgramTree.{BodyRowTree, CheckedTree}
use Rattle.code_types.specs.declared.instr.Instr.TheVariants as i
use Rattle.code_types.specs.declared.code.BodyRow.{BodyRow}
use Rattle.code_types.specs.declared.code.Code.{Code}
use Rattle.code_types.specs.Places.{taker}
use Rattle.code_types.specs.State.{Frame, OpenRegion, State, Raising}
use Rattle.code_types.specs.Steps.{Run, At, Over, steps}
use Rattle.code_types.specs.Talk.{start_of}
use Rattle.code_types.specs.Runs.{ticks_in, IsCodeRun}
use Rattle.source_meaning.specs.Store.{Store, Taken}
use Rattle.source_meaning.specs.Flow.{Flow, Stops, Gone, Bound, finish}
use Rattle.source_meaning.specs.BodyMeaning.{body_mean}
use Rattle.source_meaning.specs.Talk.{talk, process_end, parameter_scalars}
use Rattle.source_meaning.specs.Fitting.{has_instances}
use Rattle.source_meaning.specs.Runs.{IsSourceRun}
use Rattle.follow_laws.specs.Follows.{Around, state_at, here, Holds, AreFramesOf, StopsOpen, HasGone}
use Rattle.code_laws.specs.BodyBounds.{bodies_within, talk_within}
use Rattle.code_laws.specs.Calls.{taken_scalars, in_frame_of, Returns, EnteredBelow, open_in, FitTaken, IsRowOf, BodiesFollow}

-- what a process's end says of the machine
abbrev pub Tells : Code → ℕ → Run → Flow (Unit {0}) → Type 0
Tells code b m (Stops t inner store) = StopsOpen code [] m t (record { body = b; store = store } ∷ inner)
Tells code b m (Gone t) = HasGone code m t
Tells code b m Bound = Unit {0}
Tells code b m o = ⊥

-- A process ends where its way out stands, and where an exception goes out of its own body.
pub record EndsLaw : Type 0 where
  pub normal : (w : Around) (at : ℕ) (locals : List ℤ) (store : Store) (s : Session)
      → w.below ≡ [] → slice_get w.code.instrs at ≡ Some i.Finish → Holds w store locals
      → Tells w.code w.body (here w at [] locals s) (finish Normal [] store s)
  pub raised : (w : Around) (x : Exc) (place : ℕ) (stack locals : List ℤ) (store : Store) (s : Session)
      → w.below ≡ [] → taker w.code.handlers place x ≡ None → Holds w store locals
      → Tells w.code w.body (At (state_at w (Raising x) place stack locals) s) (finish (RaisedHow x) [] store s)

-- In this code the procedure's instructions do what it means, where the bodies that it calls do.
pub record CarriesProcedure (p : CheckedTree) (code : Code) (instance b : ℕ) (body : BodyRowTree) (row : BodyRow) : Type 0 where
  pub returns : (n : ℕ) (caller : Frame) (below : List Frame) (regions : List OpenRegion) (ts : List Taken) (s : Session)
      → BodiesFollow p code instance (body_mean p instance n) (bodies_within p instance n)
      → EnteredBelow (length (caller ∷ below)) regions
      → FitTaken body.locals body.parameters ts
      → bodies_within p instance (suc n) b (suc (length (caller ∷ below))) (open_in regions) ts s ≡ true
      → Returns code instance b body caller below regions (in_frame_of instance b row (taken_scalars body.locals ts) (caller ∷ below) regions s)
      (body_mean p instance (suc n) b (suc (length (caller ∷ below))) (open_in regions) ts s)

-- So do the instructions of a process, which has no caller.
pub record CarriesProcess (p : CheckedTree) (code : Code) (instance b : ℕ) (body : BodyRowTree) (row : BodyRow) : Type 0 where
  pub tells : (n : ℕ) (ts : List Taken) (s : Session)
      → BodiesFollow p code instance (body_mean p instance n) (bodies_within p instance n)
      → FitTaken body.locals body.parameters ts
      → bodies_within p instance (suc n) b 1 [] ts s ≡ true
      → Tells code b (in_frame_of instance b row (taken_scalars body.locals ts) [] [] s) (process_end (body_mean p instance (suc n) b 1 [] ts s))

abbrev pub Carries : CheckedTree → Code → ℕ → ℕ → BodyRowTree → BodyRow → Type 0
Carries p code instance b body row = MatchBool (has_instances body.sort) (CarriesProcess p code instance b body row) (CarriesProcedure p code instance b body row)

-- the code has the bodies of the program and no others, and each does what it means
pub record CarriesAll (p : CheckedTree) (code : Code) (instance : ℕ) : Type 0 where
  pub count : length code.bodies ≡ length p.bodies
  pub body : (b : ℕ) (body : BodyRowTree) → slice_get p.bodies b ≡ Some body → (row : BodyRow) × (slice_get code.bodies b ≡ Some row) × IsRowOf body row × Carries p code instance b body row

-- a process, whose parameters are its first locals, with as many arguments as these have scalars
pub record FitsBirth (p : CheckedTree) (b : ℕ) (xs : List ℤ) : Type 0 where
  pub body : BodyRowTree
  pub is_body : slice_get p.bodies b ≡ Some body
  pub process : has_instances body.sort ≡ true
  pub few : length body.parameters ≤ length body.locals
  pub counted : parameter_scalars body.locals body.parameters ≡ length xs

-- the code's trace is that of the text, and where it stops its frames hold the stores of the open calls
pub record TalksAs (p : CheckedTree) (code : Code) (instance process : ℕ) (xs : List ℤ) (answers : List Answer) (n : ℕ) : Type 0 where
  pub start : State
  pub starts : start_of code instance process xs ≡ Some start
  pub count : ℕ
  pub state : State
  pub by : steps code count (At start (session_of answers n)) ≡ Over state (talk p instance process xs answers n).trace
  pub stands : AreFramesOf (reverse state.frames) (talk p instance process xs answers n).stand

-- The code has the text's talk, as an instance of a process, wherever each value lies in its own bounds.
abbrev pub HasTalkOf : CheckedTree → Code → ℕ → Type 0
HasTalkOf p code instance = (process : ℕ) (xs : List ℤ) (answers : List Answer) (n : ℕ) → 1 ≤ n
    → FitsBirth p process xs
    → talk_within p instance process xs answers n ≡ true
    → TalksAs p code instance process xs answers n

-- A code that has each body of the program has its talk.
abbrev pub LawOfAssembly : Type 0
LawOfAssembly = (p : CheckedTree) (code : Code) (instance : ℕ) → CarriesAll p code instance → HasTalkOf p code instance

-- ---- runs

-- the code has the text's talk of each instance of a journal, with what the journal gave it
abbrev pub TalksInJournal : CheckedTree → Code → List Event → Type 0
TalksInJournal p code events = (who : ℕ) (birth : Birth) → born_of who events ≡ Some birth
    → TalksAs p code who birth.process birth.arguments (answers_of who events) (suc (ticks_in (line_of who events)))

-- A journal in which it has is a run of the code exactly when it is one of the program.
abbrev pub SameRunsLaw : Type 0
SameRunsLaw = (p : CheckedTree) (code : Code) (facts : Facts) (events : List Event) → TalksInJournal p code events → IsCodeRun code facts events ↔ IsSourceRun p facts events
