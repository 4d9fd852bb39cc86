-- The laws of the meaning of texts.
use Rattle.std.specs.Prelude.{◌≡◌, ℕ, ◌≤◌, List, []}
use Rattle.kernel_base.specs.declared.answer.Answer.{Answer}
use Rattle.program_trees.specs.ProgramTree.{CheckedTree}
use Rattle.world_model.specs.Session.{session_of}
use Rattle.source_meaning.specs.Store.{Taken}
use Rattle.source_meaning.specs.Flow.{Bound}
use Rattle.source_meaning.specs.BodyMeaning.{body_mean}
use Rattle.source_meaning.specs.Talk.{process_end}

-- As many turns and calls as there are ticks are enough for every talk of the program.
abbrev pub IsEnough : CheckedTree → Type 0
IsEnough p = (instance process : ℕ) (ts : List Taken) (answers : List Answer) (n : ℕ) → 1 ≤ n → process_end (body_mean p instance n process 1 [] ts (session_of answers n)) ≡ Bound → ⊥

-- So it is of each program, whether it is typed or not.
abbrev pub EnoughLaw : Type 0
EnoughLaw = (p : CheckedTree) → IsEnough p
