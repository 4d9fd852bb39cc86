-- Runs of a program.
use Rattle.std.specs.Prelude.{◌≡◌, ℕ, suc, List, ◌++◌, Some}
use Rattle.kernel_base.specs.declared.facts.Facts.{Facts}
use Rattle.kernel_base.specs.declared.event.Event.{Event}
use Rattle.world_model.specs.Journal.{line_of, answers_of, Birth, born_of}
use Rattle.world_model.specs.Allowed.{IsRun}
use Rattle.program_trees.specs.ProgramTree.{CheckedTree}
use Rattle.code_types.specs.Runs.{Begins, ticks_in}
use Rattle.source_meaning.specs.Store.{OpenCall}
use Rattle.source_meaning.specs.Talk.{Talk, talk}

-- the talk of an instance with the answers of a journal, and one tick more than it made there
abbrev pub talk_in_journal : CheckedTree → List Event → ℕ → Birth → Talk
talk_in_journal p events who birth = talk p who birth.process birth.arguments (answers_of who events) (suc (ticks_in (line_of who events)))

-- what an instance did in a journal begins its talk
abbrev pub FollowsText : CheckedTree → List Event → ℕ → Birth → Type 0
FollowsText p events who birth = Begins (line_of who events) (talk_in_journal p events who birth).trace

-- A run of a program: each event is allowed in the world that those before it leave, and each instance follows the text.
pub record IsSourceRun (p : CheckedTree) (facts : Facts) (events : List Event) : Type 0 where
  pub run : IsRun facts events
  pub follows : (who : ℕ) (birth : Birth) → born_of who events ≡ Some birth → FollowsText p events who birth

-- the calls of an instance that are open behind a journal, with their stores
abbrev pub stand_in_journal : CheckedTree → List Event → ℕ → Birth → List OpenCall
stand_in_journal p events who birth = (talk_in_journal p events who birth).stand
