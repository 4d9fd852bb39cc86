-- How far a process of the code has come.
use Rattle.std.specs.Prelude.{ℕ, List, ℤ}
use Rattle.kernel_base.specs.declared.ends.Exc.{Exc}
use Rattle.kernel_base.specs.declared.request.Request.{Request}

-- A frame: its body, the place of the instruction that it comes to or stands at, its stack with the topmost number last,
-- and its locals.
pub record Frame : Type 0 where
  pub body : ℕ
  pub place : ℕ
  pub stack : List ℤ
  pub locals : List ℤ

-- where the scalars of an alternative go: into so many locals from one on
pub record Slot : Type 0 where
  pub local : ℕ
  pub count : ℕ

-- a region that was entered and not yet left, and the number of the frame that entered it, the first frame being 1
pub record OpenRegion : Type 0 where
  pub region : ℕ
  pub frame : ℕ

-- What a process is about. Running: it makes the next instruction. Called: the Call at which it stands has made its tick.
-- Asking: its request waits for an answer; each alternative that it lists has its slot. Raising: an exception has been
-- raised at the place where the innermost frame stands. Ended: it has had the answer to its last request.
pub data Mode : Type 0 where
  Running : Mode
  Called : Mode
  Asking : Request → List Slot → Mode
  Raising : Exc → Mode
  Ended : Mode

-- A process of the code: its own instance, its frames, the innermost first, and the regions that it entered and not yet
-- left, the last one last.
pub record State : Type 0 where
  pub instance : ℕ
  pub frames : List Frame
  pub regions : List OpenRegion
  pub mode : Mode
