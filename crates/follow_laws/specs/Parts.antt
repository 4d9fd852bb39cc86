-- What it is that the instructions of loops, of labelled statements and of statements with handlers follow their meaning.
use Rattle.std.specs.Prelude.{◌≡◌, ℕ, zero, suc, ◌<◌, ◌≤◌, Bool, true, List, [], ◌++◌, ℤ, Option, Some, None, slice_get}
use Rattle.kernel_base.specs.declared.ends.Exc.{Exc}
use Rattle.world_model.specs.Session.{Session, GoesOn, tick}
use Rattle.code_types.specs.declared.instr.Instr.TheVariants as i
use Rattle.code_types.specs.declared.code.Handler.{Handler}
use Rattle.code_types.specs.Places.{taker}
use Rattle.code_types.specs.Steps.{Run}
use Rattle.source_meaning.specs.Store.{Store}
use Rattle.source_meaning.specs.Flow.{Flow, Goes, Raised, Meaning}
use Rattle.source_meaning.specs.StatementMeaning.{turns, ends_exit, caught}
use Rattle.follow_laws.specs.Follows.{Around, keeping, here, Holds, no_stack, Follows, Does}

-- ---- loops

-- Where a loop stands: between which places and with which rows; where a test begins again, a turn, and what is behind a turn
-- and behind the loop.
pub record LoopPlaces : Type 0 where
  pub from : ℕ
  pub until : ℕ
  pub rows : List Handler
  pub again : ℕ
  pub turn : ℕ
  pub back : ℕ
  pub behind : ℕ

-- a loop's test leads behind the loop, or to its turn with what is kept for the next test
abbrev pub turn_place : {C : Type 0} → LoopPlaces → Option C → ℕ
turn_place l None = l.behind
turn_place l (Some c) = l.turn

abbrev pub TurnHolds : {C : Type 0} → Around → (C → List ℤ) → Option C → Store → List ℤ → Type 0
TurnHolds w kept_of None store locals = Holds w store locals
TurnHolds w kept_of (Some c) store locals = Holds (keeping w (kept_of c)) store locals

-- a test follows, wherever the machine is before it
abbrev pub TestFrom : {C : Type 0} → Around → LoopPlaces → (C → List ℤ) → Run → Flow (Option C) → Type 0
TestFrom w l kept_of m o = Follows w m l.from l.until l.rows (turn_place l) no_stack (TurnHolds w kept_of) o

-- What holds where so many turns are looked at behind this one, of what is kept for the next test, the store and the session.
abbrev pub Invariant : Type 0 → Type 1
Invariant C = ℕ → C → Store → Session → Type 0

-- The instructions of a loop follow its test, where one thing holds, and its turns, where another holds. The first leads to the
-- second, and a turn leads back to the first. What the loop keeps for its next test stands in scratch locals.
pub record LoopFollows {C : Type 0} (w : Around) (l : LoopPlaces) (kept_of : C → List ℤ) (at_test at_turn : Invariant C) (test : C → Meaning (Option C)) (body : Meaning (Unit {0})) : Type 0 where
  -- from the place to which turns go back
  pub tests : (n : ℕ) (c : C) (store : Store) (s : Session) (locals : List ℤ) → at_test (suc n) c store s → Holds (keeping w (kept_of c)) store locals
      → TestFrom w l kept_of (here w l.again [] locals s) (test c store s)
  pub leads : (n : ℕ) (c c1 : C) (store store1 : Store) (s s1 : Session) → at_test (suc n) c store s → test c store s ≡ Goes (Some c1) store1 s1 → at_turn n c1 store1 s1
  pub turns : (n : ℕ) (c : C) (store : Store) (s : Session) (locals : List ℤ) → at_turn n c store s → Holds (keeping w (kept_of c)) store locals
      → Does (keeping w (kept_of c)) (here w l.turn [] locals s) l.from l.until l.rows l.back (body store s)
  pub keeps : (n : ℕ) (c : C) (store store1 : Store) (s s1 s2 : Session) → at_turn n c store s → body store s ≡ Goes tt store1 s1 → tick s1 ≡ GoesOn s2 → at_test n c store1 s2
  -- a turn that goes through comes to an Again
  pub back : (store store1 : Store) (s s1 : Session) → body store s ≡ Goes tt store1 s1 → slice_get w.code.instrs l.back ≡ Some (i.Again l.again)

-- The instructions of a loop follow its turns. The machine may come to the first test at another place than to the others, where
-- something else holds that leads to a turn as well.
abbrev pub TurnsFollow : {C : Type 0} → Around → LoopPlaces → (C → List ℤ) → Invariant C → Invariant C → (C → Meaning (Option C)) → Meaning (Unit {0}) → Type 0
TurnsFollow {C} w l kept_of at_test at_turn test body = LoopFollows w l kept_of at_test at_turn test body
    → (n : ℕ) (m : Run) (c : C) (store : Store) (s : Session)
    → ((c1 : C) (store1 : Store) (s1 : Session) → test c store s ≡ Goes (Some c1) store1 s1 → at_turn n c1 store1 s1)
    → TestFrom w l kept_of m (test c store s)
    → Does w m l.from l.until l.rows l.behind (turns (suc n) test body c store s)

-- an invariant that is decided
abbrev pub Decided : Type 0 → Type 0
Decided C = ℕ → C → Store → Session → Bool

abbrev pub where_decided : {C : Type 0} → Decided C → Invariant C
where_decided holds n c store s = holds n c store s ≡ true

abbrev pub TurnsLawOf : Type 0 → Type 0
TurnsLawOf C = (w : Around) (l : LoopPlaces) (kept_of : C → List ℤ) (at_test at_turn : Decided C) (test : C → Meaning (Option C)) (body : Meaning (Unit {0}))
    → TurnsFollow w l kept_of (where_decided at_test) (where_decided at_turn) test body

-- So it is of loops that keep nothing for the next test, of those over members, and of those that count.
pub record TurnsLaw : Type 0 where
  pub plain : TurnsLawOf (Unit {0})
  pub members : TurnsLawOf (List ℤ)
  pub counting : TurnsLawOf ℤ

-- ---- labels

-- an EXIT of the innermost label leads to this place, and the others where they did
abbrev pub exits_with : ℕ → (ℕ → ℕ) → ℕ → ℕ
exits_with behind exits zero = behind
exits_with behind exits (suc k) = exits k

-- the surroundings within a labelled statement, behind which is this place
abbrev pub labelled : Around → ℕ → Around
labelled w behind = record w { exits = exits_with behind w.exits }

-- A labelled statement: an EXIT of its label leads behind it.
abbrev pub LabelledLaw : Type 0
LabelledLaw = (w : Around) (m : Run) (lo hi : ℕ) (rows : List Handler) (behind : ℕ) (o : Flow (Unit {0}))
    → Does (labelled w behind) m lo hi rows behind o
    → Does w m lo hi rows behind (ends_exit o)

-- ---- handlers

-- Inside the places of a part its rows are those of the whole code: what one of them takes, the code's innermost handler takes.
pub record IsCovered (w : Around) (from until : ℕ) (rows : List Handler) : Type 0 where
  pub at : (place : ℕ) (x : Exc) (h : Handler) → from ≤ place → place < until → taker rows place x ≡ Some h → taker w.code.handlers place x ≡ Some h

-- no row takes what is raised in these places
abbrev pub TakeNothing : List Handler → ℕ → ℕ → Type 0
TakeNothing rows from until = (place : ℕ) (x : Exc) → from ≤ place → place < until → taker rows place x ≡ None

-- What a handler does with the exception of an outcome at a place: a row takes it, whose actions follow; or it goes on.
abbrev pub Handles : Around → ℕ → ℕ → ℕ → List Handler → List Handler → Flow (Unit {0}) → (Exc → Meaning (Unit {0})) → Type 0
Handles w lo hi behind own acts o h = (place : ℕ) (x : Exc) (store : Store) (s : Session) (locals : List ℤ) → o ≡ Raised x store s → Holds w store locals
    → ((row : Handler) → taker own place x ≡ Some row → (row.height ≡ 0) × Does w (here w row.target [] locals s) lo hi acts behind (h x store s))
    × (taker own place x ≡ None → h x store s ≡ Raised x store s)

-- A statement with a handler: the rows of its action, its own rows, and those of the handler's actions, in this order.
abbrev pub HandledLaw : Type 0
HandledLaw = (w : Around) (from until hi behind : ℕ) (inner own acts : List Handler) (m : Run) (o : Flow (Unit {0})) (h : Exc → Meaning (Unit {0}))
    → IsCovered w from hi (inner ++ (own ++ acts))
    → TakeNothing acts from until → TakeNothing inner until hi → TakeNothing own until hi
    → from ≤ until → until ≤ hi
    → Handles w until hi behind own acts o h
    → Does w m from until inner behind o
    → Does w m from hi (inner ++ (own ++ acts)) behind (caught o h)
