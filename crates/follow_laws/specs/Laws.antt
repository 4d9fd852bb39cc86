-- The laws of single instructions and requests.
use Rattle.std.specs.Prelude.{◌≡◌, ℕ, ◌+◌, ◌<◌, ◌≤◌, List, [], ◌∷◌, ◌++◌, ℤ, pos, length, map, Some, None, slice_get}
use Rattle.kernel_base.specs.declared.ends.Exc.{Exc}
use Rattle.kernel_base.specs.declared.request.Request.{Request}
use Rattle.kernel_base.specs.declared.request.Request.TheVariants.{End}
use Rattle.kernel_base.specs.declared.answer.Answer.{Answer}
use Rattle.kernel_base.specs.declared.answer.Answer.TheVariants.{Fail}
use Rattle.world_model.specs.Session.{Ask, Session}
use Rattle.modes.specs.declared.mode.Bounds.{Bounds}
use Rattle.program_trees.specs.ProgramTree.{LocalRowTree}
use Rattle.code_types.specs.declared.instr.Instr.{Instr}
use Rattle.code_types.specs.declared.instr.Instr.TheVariants as i
use Rattle.code_types.specs.declared.code.Code.{Code}
use Rattle.code_types.specs.declared.code.Handler.{Handler}
use Rattle.code_types.specs.Places.{finds, taker}
use Rattle.code_types.specs.Answers.{raised, goes_on}
use Rattle.code_types.specs.State.{Slot, State, Asking}
use Rattle.code_types.specs.Steps.{Run, At, Over}
use Rattle.source_meaning.specs.Store.{Store, in_local, in_shared}
use Rattle.source_meaning.specs.Flow.{Reply, Given, Halts, reply}
use Rattle.source_meaning.specs.Operators.{sole_number, one, offset_within}
use Rattle.source_meaning.specs.ExprMeaning.{or_rangefail, tested, read_at, assign_at}
use Rattle.follow_laws.specs.Follows.{Around, here, Holds, GetsTo, run_by, action_in, Follows, always, HoldsWith, Nothing, on_top, IsLong}

-- An instruction that finds its operands on top of the stack does with them what it does.
abbrev pub InstructionLaw : Type 0
InstructionLaw = (w : Around) (instr : Instr) (at : ℕ) (base xs locals : List ℤ) (s : Session)
    → slice_get w.code.instrs at ≡ Some instr → finds w.code w.body instr ≡ length xs
    → GetsTo w.code (here w at (base ++ xs) locals s) (run_by w at (base ++ xs) base locals s (action_in w instr at (base ++ xs) locals xs))

-- ---- requests

-- the state behind an answer to a request that isn't End
abbrev pub behind_answer : State → Request → List Slot → Answer → State
behind_answer q request slots (Fail x) = raised q x
behind_answer q request slots answer = goes_on q request slots answer q.frames

-- the process goes on behind the request's answer
abbrev pub GoesOnBehind : Request → Type 0
GoesOnBehind (End how) = ⊥
GoesOnBehind request = Unit {0}

-- how many scalars each slot takes
abbrev pub counts_in : List Slot → List ℕ
counts_in slots = map (λ q. q.count) slots

-- where a state that asks comes to by what is replied
abbrev pub ComesByReply : Code → State → Request → List Slot → Run → Reply → Type 0
ComesByReply code q request slots m (Given answer s) = GetsTo code m (At (behind_answer q request slots answer) s)
ComesByReply code q request slots m (Halts trace) = GetsTo code m (Over q trace)

-- A request other than End: the machine takes the answers that the meaning takes, and stops where that stops.
abbrev pub RequestLaw : Type 0
RequestLaw = (code : Code) (q : State) (request : Request) (slots : List Slot) (s : Session)
    → q.mode ≡ Asking request slots → GoesOnBehind request
    → ComesByReply code q request slots (At q (record s { trace = s.trace ++ Ask request ∷ [] })) (reply request (counts_in slots) s)

-- ---- contents and assignment, where the offset of indices stands on the stack

-- a place between two, where none of the rows takes what is raised
pub record IsFree (at lo hi : ℕ) (rows : List Handler) : Type 0 where
  pub low : lo ≤ at
  pub high : at < hi
  pub untaken : (x : Exc) → taker rows at x ≡ None

-- Local, LocalAt and Read find the contents of a part of a location.
pub record ContentsLaw : Type 0 where
  pub local : (w : Around) (k first n f : ℕ) (row : LocalRowTree) (at lo hi : ℕ) (rows : List Handler) (stack locals : List ℤ) (store : Store) (s : Session)
      → slice_get w.rows k ≡ Some row → first + n ≤ row.count → f ≡ row.first + first
      → slice_get w.code.instrs at ≡ Some (i.Local f n) → Holds w store locals
      → Follows w (here w at stack locals s) lo hi rows (always (at + 1)) (on_top stack) (HoldsWith w (IsLong n)) (read_at n (in_local k first) store s)
  pub local_at : (w : Around) (k first offset n f : ℕ) (row : LocalRowTree) (at lo hi : ℕ) (rows : List Handler) (base locals : List ℤ) (store : Store) (s : Session)
      → slice_get w.rows k ≡ Some row → first + offset + n ≤ row.count → f ≡ row.first + first
      → slice_get w.code.instrs at ≡ Some (i.LocalAt f n) → Holds w store locals
      → Follows w (here w at (base ++ one (pos offset)) locals s) lo hi rows (always (at + 1)) (on_top base) (HoldsWith w (IsLong n)) (read_at n (in_local k (first + offset)) store s)
  pub shared : (w : Around) (l first offset n : ℕ) (at lo hi : ℕ) (rows : List Handler) (base locals : List ℤ) (store : Store) (s : Session)
      → IsFree at lo hi rows → first + offset < 4294967296
      → slice_get w.code.instrs at ≡ Some (i.Read l first n) → Holds w store locals
      → Follows w (here w at (base ++ one (pos offset)) locals s) lo hi rows (always (at + 1)) (on_top base) (HoldsWith w (IsLong n)) (read_at n (in_shared l (first + offset)) store s)

-- SetLocal, SetLocalAt and Write assign to a part of a location.
pub record AssignLaw : Type 0 where
  pub local : (w : Around) (k first n f : ℕ) (row : LocalRowTree) (xs : List ℤ) (at lo hi : ℕ) (rows : List Handler) (base locals : List ℤ) (store : Store) (s : Session)
      → length xs ≡ n → slice_get w.rows k ≡ Some row → first + n ≤ row.count → f ≡ row.first + first
      → slice_get w.code.instrs at ≡ Some (i.SetLocal f n) → Holds w store locals
      → Follows w (here w at (base ++ xs) locals s) lo hi rows (always (at + 1)) (always base) (HoldsWith w Nothing) (assign_at n (in_local k first) xs store s)
  pub local_at : (w : Around) (k first offset n f : ℕ) (row : LocalRowTree) (xs : List ℤ) (at lo hi : ℕ) (rows : List Handler) (base locals : List ℤ) (store : Store) (s : Session)
      → length xs ≡ n → slice_get w.rows k ≡ Some row → first + offset + n ≤ row.count → f ≡ row.first + first
      → slice_get w.code.instrs at ≡ Some (i.SetLocalAt f n) → Holds w store locals
      → Follows w (here w at (base ++ (pos offset ∷ xs)) locals s) lo hi rows (always (at + 1)) (always base) (HoldsWith w Nothing) (assign_at n (in_local k (first + offset)) xs store s)
  pub shared : (w : Around) (l first offset n : ℕ) (xs : List ℤ) (at lo hi : ℕ) (rows : List Handler) (base locals : List ℤ) (store : Store) (s : Session)
      → length xs ≡ n → IsFree at lo hi rows → first + offset < 4294967296
      → slice_get w.code.instrs at ≡ Some (i.Write l first n) → Holds w store locals
      → Follows w (here w at (base ++ (pos offset ∷ xs)) locals s) lo hi rows (always (at + 1)) (always base) (HoldsWith w Nothing) (assign_at n (in_shared l (first + offset)) xs store s)

-- Check tests the number on top.
abbrev pub CheckLaw : Type 0
CheckLaw = (w : Around) (b : Bounds) (xs : List ℤ) (at lo hi : ℕ) (rows : List Handler) (base locals : List ℤ) (store : Store) (s : Session)
    → length xs ≡ 1 → IsFree at lo hi rows
    → slice_get w.code.instrs at ≡ Some (i.Check b.low b.high) → Holds w store locals
    → Follows w (here w at (base ++ xs) locals s) lo hi rows (always (at + 1)) (on_top base) (HoldsWith w (IsLong 1)) (tested (Some b) xs store s)

-- Index finds the offset of the number on top.
abbrev pub IndexLaw : Type 0
IndexLaw = (w : Around) (b : Bounds) (size : ℕ) (xs : List ℤ) (at lo hi : ℕ) (rows : List Handler) (base locals : List ℤ) (store : Store) (s : Session)
    → length xs ≡ 1 → IsFree at lo hi rows
    → slice_get w.code.instrs at ≡ Some (i.Index b.low b.high size) → Holds w store locals
    → Follows w (here w at (base ++ xs) locals s) lo hi rows (always (at + 1)) (λ z. base ++ one z) (HoldsWith w Nothing) (or_rangefail (offset_within b size (sole_number xs)) store s)
