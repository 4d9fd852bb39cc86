-- What it is that the instructions of bodies follow their meaning on every caller.
use Rattle.std.specs.Prelude.{◌≡◌, ℕ, suc, ◌+◌, ◌<◌, ◌≤◌, true, false, List, [], ◌∷◌, ◌++◌, ℤ, length, map, Option, Some, None, slice_get}
use Rattle.kernel_base.specs.declared.ends.Exc.{Exc}
use Rattle.world_model.specs.Session.{Session}
use Rattle.modes.specs.ModeTree.{ModeTree}
use Rattle.modes.specs.Scalars.{scalars_of, lowest_of}
use Rattle.checked_program.specs.declared.program.Parameter.{Parameter}
use Rattle.checked_program.specs.declared.program.Passing.{Passing}
use Rattle.checked_program.specs.declared.program.Passing.TheVariants.{In, Out as OutOf, InOut}
use Rattle.program_trees.specs.ProgramTree.{LocalRowTree, BodyRowTree, CheckedTree}
use Rattle.code_types.specs.declared.instr.Instr.TheVariants as i
use Rattle.code_types.specs.declared.code.BodyRow.{BodyRow}
use Rattle.code_types.specs.declared.code.Code.{Code}
use Rattle.code_types.specs.declared.code.Handler.{Handler}
use Rattle.code_types.specs.Places.{taker, names_exception}
use Rattle.code_types.specs.State.{Frame, OpenRegion, Running, Raising}
use Rattle.code_types.specs.Steps.{Run, At, new_frame, moved}
use Rattle.source_meaning.specs.Store.{Store, Taken, brings, lowest, begins_with}
use Rattle.source_meaning.specs.BodyMeaning.{Ending, Through, Out, Halted, Ended, Unknown, Bodies, calls_in}
use Rattle.source_meaning.specs.Talk.{parameter_scalars}
use Rattle.source_meaning.specs.Fitting.{has_instances}
use Rattle.follow_laws.specs.Follows.{Around, here, FitRows, Holds, GetsTo, IsFrameOf, StopsOpen, HasGone, always, HoldsWith, Follows}
use Rattle.code_laws.specs.BodyBounds.{BodiesWithin, called_within}

-- ---- what a call takes and gives back

-- the scalars that a call pops: each parameter's value, or the lowest of an OUT parameter
abbrev pub taken_scalars : List LocalRowTree → List Taken → List ℤ
taken_scalars rows [] = []
taken_scalars [] (t ∷ ts) = []
taken_scalars (row ∷ rows) (brings xs ∷ ts) = xs ++ taken_scalars rows ts
taken_scalars (row ∷ rows) (lowest ∷ ts) = lowest_of row.mode ++ taken_scalars rows ts

-- the scalars that it pushes above the result: of OUT and INOUT parameters, the last one lowest
abbrev pub passed_back : Passing → List ℤ → List ℤ
passed_back In xs = []
passed_back OutOf xs = xs
passed_back InOut xs = xs

abbrev pub parameters_back : List Parameter → List (List ℤ) → List ℤ
parameters_back [] xss = []
parameters_back (p ∷ ps) [] = []
parameters_back (p ∷ ps) (xs ∷ xss) = parameters_back ps xss ++ passed_back p.passing xs

abbrev pub results_back : BodyRowTree → Store → List ℤ
results_back b store = store.result ++ parameters_back b.parameters store.locals

-- ---- bodies

-- a body's first frame on top of its caller's, or alone
abbrev pub in_frame_of : ℕ → ℕ → BodyRow → List ℤ → List Frame → List OpenRegion → Session → Run
in_frame_of instance b row xs below regions s = At (record { instance = instance; frames = new_frame b row xs ∷ below; regions = regions; mode = Running }) s

-- the caller goes on behind its call, with what comes back on its stack
abbrev pub back_in : ℕ → List ℤ → Frame → List Frame → List OpenRegion → Session → Run
back_in instance results caller below regions s = At (record { instance = instance; frames = moved caller (caller.place + 1) (caller.stack ++ results) ∷ below; regions = regions; mode = Running }) s

-- An exception that no handler of the body takes is on its way out of its frame, which holds the store. Where the caller gets it
-- the regions are open that were open before; where it ends the process that of the body may be open besides.
pub record GoesOut (code : Code) (instance b : ℕ) (listed : List ℕ) (x : Exc) (below : List Frame) (regions : List OpenRegion) (store : Store) (s : Session) (m : Run) : Type 0 where
  pub frame : Frame
  pub shows : IsFrameOf frame (record { body = b; store = store })
  pub untaken : taker code.handlers frame.place x ≡ None
  pub still_open : List OpenRegion
  pub same : names_exception listed x ≡ true → still_open ≡ regions
  pub by : GetsTo code m (At (record { instance = instance; frames = frame ∷ below; regions = still_open; mode = Raising x }) s)

-- how many scalars a result has; none without RETURNS
abbrev pub result_scalars : Option ModeTree → ℕ
result_scalars None = 0
result_scalars (Some m) = scalars_of m

-- a body's store at its end: each local has as many scalars as its row says, and the result as many as its mode
pub record EndsFitting (b : BodyRowTree) (store : Store) : Type 0 where
  pub fit : FitRows 0 b.locals store.locals
  pub result : length store.result ≡ result_scalars b.result

-- what a body's end says of the machine, on a caller
abbrev pub Returns : Code → ℕ → ℕ → BodyRowTree → Frame → List Frame → List OpenRegion → Run → Ending → Type 0
Returns code instance b body caller below regions m (Through store s) = EndsFitting body store × GetsTo code m (back_in instance (results_back body store) caller below regions s)
Returns code instance b body caller below regions m (Out x store s) = GoesOut code instance b body.listed x (caller ∷ below) regions store s m
Returns code instance b body caller below regions m (Halted t inner store) = StopsOpen code (caller ∷ below) m t (record { body = b; store = store } ∷ inner)
Returns code instance b body caller below regions m (Ended t) = HasGone code m t
Returns code instance b body caller below regions m Unknown = Unit {0}

-- the frames that entered the open regions are at most so many
abbrev pub EnteredBelow : ℕ → List OpenRegion → Type 0
EnteredBelow n [] = Unit {0}
EnteredBelow n (q ∷ qs) = (q.frame ≤ n) × EnteredBelow n qs

-- the regions that are open, as the meaning has them
abbrev pub open_in : List OpenRegion → List ℕ
open_in regions = map (λ q. q.region) regions

-- What parameters begin with has as many scalars as their rows say, and is there for each of them.
abbrev pub FitTaken : List LocalRowTree → List Parameter → List Taken → Type 0
FitTaken rows [] [] = Unit {0}
FitTaken rows [] (t ∷ ts) = ⊥
FitTaken rows (p ∷ ps) [] = ⊥
FitTaken [] (p ∷ ps) (t ∷ ts) = ⊥
FitTaken (row ∷ rows) (p ∷ ps) (t ∷ ts) = (length (begins_with row t) ≡ row.count) × FitTaken rows ps ts

-- the row of a body has as many parameters, and lists what it lists
pub record IsRowOf (body : BodyRowTree) (row : BodyRow) : Type 0 where
  pub params : row.params ≡ parameter_scalars body.locals body.parameters
  pub listed : row.listed ≡ body.listed

-- Each procedure's instructions follow its meaning, on every caller.
pub record BodiesFollow (p : CheckedTree) (code : Code) (instance : ℕ) (bodies : Bodies) (within : BodiesWithin) : Type 0 where
  pub row : (b : ℕ) (body : BodyRowTree) → slice_get p.bodies b ≡ Some body → (row : BodyRow) × (slice_get code.bodies b ≡ Some row) × IsRowOf body row
  pub at : (b : ℕ) (body : BodyRowTree) (row : BodyRow) (caller : Frame) (below : List Frame) (regions : List OpenRegion) (ts : List Taken) (s : Session)
      → slice_get p.bodies b ≡ Some body → slice_get code.bodies b ≡ Some row → has_instances body.sort ≡ false
      → EnteredBelow (length (caller ∷ below)) regions
      → FitTaken body.locals body.parameters ts
      → within b (suc (length (caller ∷ below))) (open_in regions) ts s ≡ true
      → Returns code instance b body caller below regions (in_frame_of instance b row (taken_scalars body.locals ts) (caller ∷ below) regions s) (bodies b (suc (length (caller ∷ below))) (open_in regions) ts s)

-- A call, once its arguments are on the stack, follows its meaning where the bodies do.
abbrev pub CallLaw : Type 0
CallLaw = (w : Around) (p : CheckedTree) (bodies : Bodies) (within : BodiesWithin) (b : ℕ) (body : BodyRowTree) (ts : List Taken) (at lo hi : ℕ) (rows : List Handler) (base locals : List ℤ) (store : Store) (s : Session)
    → BodiesFollow p w.code w.instance bodies within
    → slice_get p.bodies b ≡ Some body → has_instances body.sort ≡ false
    → EnteredBelow (suc (length w.below)) w.regions
    → FitTaken body.locals body.parameters ts
    → slice_get w.code.instrs at ≡ Some (i.Call b)
    → lo ≤ at → at < hi → ((x : Exc) → taker rows at x ≡ None) → Holds w store locals
    → called_within within (suc (length w.below)) (open_in w.regions) b ts s ≡ true
    → Follows w (here w at (base ++ taken_scalars body.locals ts) locals s) lo hi rows (always (at + 1)) (λ final. base ++ results_back body final) (HoldsWith w (EndsFitting body))
    (calls_in p bodies (suc (length w.below)) (open_in w.regions) b ts store s)
