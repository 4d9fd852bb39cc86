-- What it is that the instructions of a part follow its meaning.
use Rattle.std.specs.Prelude.{◌≡◌, ◌⊎◌, ℕ, ◌+◌, ◌<◌, ◌≤◌, nat_lt, Bool, true, List, [], ◌∷◌, ◌++◌, ℤ, Some, None, slice_get, length, reverse}
use Rattle.kernel_base.specs.declared.ends.Exc.{Exc}
use Rattle.world_model.specs.Session.{Item, Session}
use Rattle.program_trees.specs.ProgramTree.{LocalRowTree}
use Rattle.code_types.specs.declared.instr.Instr.{Instr}
use Rattle.code_types.specs.declared.instr.Instr.TheVariants as i
use Rattle.code_types.specs.declared.code.Handler.{Handler}
use Rattle.code_types.specs.declared.code.BodyRow.{BodyRow}
use Rattle.code_types.specs.declared.code.Code.{Code}
use Rattle.code_types.specs.Exceptions.{exception_number, exception_of}
use Rattle.code_types.specs.Places.{taker, listed_of, names_exception}
use Rattle.code_types.specs.State.{Frame, OpenRegion, State, Mode, Running, Raising}
use Rattle.code_types.specs.Actions.{Action, action_of}
use Rattle.code_types.specs.Steps.{Run, At, Over, made, run_after, steps}
use Rattle.source_meaning.specs.Store.{Store, OpenCall}
use Rattle.source_meaning.specs.Flow.{Flow, Goes, Raised, Exits, Returned, Stops, Gone, Bound}

-- these instructions stand at this place
abbrev pub HasAt : List Instr → ℕ → List Instr → Type 0
HasAt all at [] = Unit {0}
HasAt all at (i ∷ is) = (slice_get all at ≡ Some i) × HasAt all (at + 1) is

-- the scalars of locals, one behind the other
abbrev pub flat : List (List ℤ) → List ℤ
flat [] = []
flat (xs ∷ xss) = xs ++ flat xss

-- the locals have as many scalars as their rows say, and follow each other from this scalar on
abbrev pub FitRows : ℕ → List LocalRowTree → List (List ℤ) → Type 0
FitRows first [] [] = Unit {0}
FitRows first [] (xs ∷ xss) = ⊥
FitRows first (row ∷ rows) [] = ⊥
FitRows first (row ∷ rows) (xs ∷ xss) = (row.first ≡ first) × (length xs ≡ row.count) × FitRows (first + row.count) rows xss

-- how many scalars the locals of these rows have
abbrev pub scalars_in : List LocalRowTree → ℕ
scalars_in [] = 0
scalars_in (row ∷ rows) = row.count + scalars_in rows

-- Where a part stands: the code, the own instance, the body with its row, the frames below, the regions that are open, the
-- body's locals, how many scalars its result has, the scratch locals that are taken, and where an EXIT and a RETURN lead.
pub record Around : Type 0 where
  pub code : Code
  pub instance : ℕ
  pub body : ℕ
  pub row : BodyRow
  pub below : List Frame
  pub regions : List OpenRegion
  pub rows : List LocalRowTree
  pub results : ℕ
  pub kept : List ℤ
  pub exits : ℕ → ℕ
  pub way_out : List Instr

-- the first scratch local that isn't taken
abbrev pub free_in : Around → ℕ
free_in w = scalars_in w.rows + (w.results + length w.kept)

-- the same surroundings, with further scratch locals taken
abbrev pub keeping : Around → List ℤ → Around
keeping w ks = record w { kept = w.kept ++ ks }

abbrev pub frame_at : Around → ℕ → List ℤ → List ℤ → Frame
frame_at w place stack locals = record { body = w.body; place = place; stack = stack; locals = locals }

abbrev pub state_at : Around → Mode → ℕ → List ℤ → List ℤ → State
state_at w mode place stack locals = record { instance = w.instance; frames = frame_at w place stack locals ∷ w.below; regions = w.regions; mode = mode }

-- the machine in this frame
abbrev pub here : Around → ℕ → List ℤ → List ℤ → Session → Run
here w place stack locals s = At (state_at w Running place stack locals) s

-- a frame's locals hold a store: its locals, its result, the scratch locals that are taken, and others
pub record Holds (w : Around) (store : Store) (locals : List ℤ) : Type 0 where
  pub rest : List ℤ
  pub is : locals ≡ flat store.locals ++ (store.result ++ (w.kept ++ rest))
  pub fit : FitRows 0 w.rows store.locals
  pub result : length store.result ≡ w.results
  pub long : length locals ≡ w.row.locals

-- one run comes to another by steps
pub record GetsTo (code : Code) (from to : Run) : Type 0 where
  pub count : ℕ
  pub by : steps code count from ≡ to

-- the machine comes to a place with a stack, and something holds of the locals there
pub record Arrives (w : Around) (m : Run) (to : ℕ) (stack : List ℤ) (Q : List ℤ → Type 0) (s : Session) : Type 0 where
  pub locals : List ℤ
  pub holds : Q locals
  pub by : GetsTo w.code m (here w to stack locals s)

-- one of the exceptions of the language
abbrev pub is_of_language : Exc → Bool
is_of_language x = nat_lt (exception_number x) 7

-- What raises an exception at a place: an exception of the language comes from any instruction, another from a Raise of its number,
-- or from a call of a body that lists it.
abbrev pub CanArise : Code → ℕ → Exc → Type 0
CanArise code place x =
    (is_of_language x ≡ true)
    ⊎ (((e : ℕ) × (slice_get code.instrs place ≡ Some (i.Raise e)) × (exception_of e ≡ x))
    ⊎ ((b : ℕ) × (slice_get code.instrs place ≡ Some (i.Call b)) × (names_exception (listed_of (slice_get code.bodies b)) x ≡ true)))

-- an exception is raised at some of these places, where none of these rows takes it
pub record RaisesIn (w : Around) (m : Run) (lo hi : ℕ) (rows : List Handler) (x : Exc) (store : Store) (s : Session) : Type 0 where
  pub place : ℕ
  pub stack : List ℤ
  pub locals : List ℤ
  pub from : lo ≤ place
  pub until : place < hi
  pub untaken : taker rows place x ≡ None
  pub arises : CanArise w.code place x
  pub holds : Holds w store locals
  pub by : GetsTo w.code m (At (state_at w (Raising x) place stack locals) s)

-- a frame is that of an open call
pub record IsFrameOf (f : Frame) (c : OpenCall) : Type 0 where
  pub body : f.body ≡ c.body
  pub rest : List ℤ
  pub is : f.locals ≡ flat c.store.locals ++ rest

-- so are these, in the same order
abbrev pub AreFramesOf : List Frame → List OpenCall → Type 0
AreFramesOf [] [] = Unit {0}
AreFramesOf [] (c ∷ cs) = ⊥
AreFramesOf (f ∷ fs) [] = ⊥
AreFramesOf (f ∷ fs) (c ∷ cs) = IsFrameOf f c × AreFramesOf fs cs

abbrev pub own_call : Around → Store → OpenCall
own_call w store = record { body = w.body; store = store }

-- The talk stops with these calls open above some frames, the outermost first. The machine has its frames the other way round.
pub record StopsOpen (code : Code) (below : List Frame) (m : Run) (trace : List Item) (calls : List OpenCall) : Type 0 where
  pub state : State
  pub front : List Frame
  pub frames : state.frames ≡ front ++ below
  pub are : AreFramesOf (reverse front) calls
  pub by : GetsTo code m (Over state trace)

-- the process has ended
pub record HasGone (code : Code) (m : Run) (trace : List Item) : Type 0 where
  pub state : State
  pub none : state.frames ≡ []
  pub by : GetsTo code m (Over state trace)

-- the way out of the body stands at some place, to which the machine comes
pub record TakesWayOut (w : Around) (m : Run) (store : Store) (s : Session) : Type 0 where
  pub place : ℕ
  pub has : HasAt w.code.instrs place w.way_out
  pub arrives : Arrives w m place [] (Holds w store) s

-- Where the machine comes to by an outcome. A part that goes through with a value comes to a place with what it leaves on the
-- stack, and something holds of its store and of the locals there. An exception is raised between two places, where none of
-- the part's own rows takes it.
abbrev pub ComesBy : {A : Type 0} → Around → Run → ℕ → ℕ → List Handler → (A → ℕ) → (A → List ℤ) → (A → Store → List ℤ → Type 0) → Flow A → Type 0
ComesBy w m lo hi rows to stack Q (Goes v store s) = Arrives w m (to v) (stack v) (Q v store) s
ComesBy w m lo hi rows to stack Q (Raised x store s) = RaisesIn w m lo hi rows x store s
ComesBy w m lo hi rows to stack Q (Exits k store s) = Arrives w m (w.exits k) [] (Holds w store) s
ComesBy w m lo hi rows to stack Q (Returned store s) = TakesWayOut w m store s
ComesBy w m lo hi rows to stack Q (Stops t inner store) = StopsOpen w.code w.below m t (own_call w store ∷ inner)
ComesBy w m lo hi rows to stack Q (Gone t) = HasGone w.code m t
ComesBy w m lo hi rows to stack Q Bound = Unit {0}

-- The machine follows an outcome.
pub record Follows {A : Type 0} (w : Around) (m : Run) (lo hi : ℕ) (rows : List Handler) (to : A → ℕ) (stack : A → List ℤ) (Q : A → Store → List ℤ → Type 0) (o : Flow A) : Type 0 where
  pub by : ComesBy w m lo hi rows to stack Q o

-- ---- single instructions

-- what the machine comes to by an action, where these numbers lie below the operands
abbrev pub run_by : Around → ℕ → List ℤ → List ℤ → List ℤ → Session → Action → Run
run_by w at stack base locals s a = run_after (state_at w Running at stack locals) s (made (state_at w Running at stack locals) (frame_at w at stack locals) w.below base a)

-- what an instruction does with operands
abbrev pub action_in : Around → Instr → ℕ → List ℤ → List ℤ → List ℤ → Action
action_in w i at stack locals xs = action_of (state_at w Running at stack locals) (frame_at w at stack locals) i xs

-- ---- expressions: they lie at one place, and have no rows

-- something holds of a value, and the locals hold the store
abbrev pub HoldsWith : {A : Type 0} → Around → (A → Type 0) → A → Store → List ℤ → Type 0
HoldsWith w P v store locals = P v × Holds w store locals

abbrev pub always : {A B : Type 0} → B → A → B
always to v = to

abbrev pub Gives : {A : Type 0} → Around → Run → ℕ → ℕ → ℕ → (A → List ℤ) → (A → Type 0) → Flow A → Type 0
Gives w m lo hi to stack P o = Follows w m lo hi [] (always to) stack (HoldsWith w P) o

-- the value goes on top of a stack
abbrev pub on_top : List ℤ → List ℤ → List ℤ
on_top stack v = stack ++ v

-- it has so many scalars
abbrev pub IsLong : ℕ → List ℤ → Type 0
IsLong n v = length v ≡ n

-- ---- actions: they leave nothing on the stack

abbrev pub no_stack : {A : Type 0} → A → List ℤ
no_stack v = []

abbrev pub Nothing : {A : Type 0} → A → Type 0
Nothing v = Unit {0}

abbrev pub Does : Around → Run → ℕ → ℕ → List Handler → ℕ → Flow (Unit {0}) → Type 0
Does w m lo hi rows to o = Follows w m lo hi rows (always to) no_stack (HoldsWith w Nothing) o
