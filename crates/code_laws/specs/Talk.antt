-- Compiled code has the text's talk: the statement of the whole, and what it rests on.
use Rattle.std.specs.Prelude.{◌≡◌, ℕ, ◌≤◌, true, List, ℤ, length, Some, slice_get}
use Rattle.kernel_base.specs.declared.answer.Answer.{Answer}
use Rattle.program_trees.specs.ProgramTree.{BodyRowTree, CheckedTree}
use Rattle.code_types.specs.Agreement.{Agrees}
use Rattle.source_meaning.specs.Fitting.{IsFitting}
use Rattle.source_meaning.specs.Typed.{IsTyped}
use Rattle.code_scheme.specs.BodyCode.{code_of}
use Rattle.code_laws.specs.BodyBounds.{talk_within}
use Rattle.code_laws.specs.StatementsInRange.{FitsProgram}
use Rattle.code_laws.specs.Counters.{statements_keep, handler_keeps}
use Rattle.code_laws.specs.Bodies.{DeclareBehind}
use Rattle.code_laws.specs.Assembly.{CarriesAll, TalksAs}

-- each loop of a body alone sets its counter
pub record KeepsCounters (b : BodyRowTree) : Type 0 where
  pub statements : statements_keep b.statements ≡ true
  pub handler : handler_keeps b.handler ≡ true

-- what is asked of each body besides
pub record IsWellMade (b : BodyRowTree) : Type 0 where
  pub counters : KeepsCounters b
  pub declared : DeclareBehind (length b.parameters) b.statements

-- A program that may be compiled: what it says is what its modes say, its numbers are in range, its loops alone set their counters,
-- and its declarations name no parameters.
pub record IsCompilable (p : CheckedTree) : Type 0 where
  pub typed : IsTyped p
  pub in_range : FitsProgram p
  pub well_made : (k : ℕ) (b : BodyRowTree) → slice_get p.bodies k ≡ Some b → IsWellMade b

-- The code of a program has its talk, with arguments and answers that fit, and where it stops its frames hold the stores of the open
-- calls. As code that the guard takes it agrees.
abbrev pub TalkLaw : Type 0
TalkLaw = (p : CheckedTree) (instance process : ℕ) (xs : List ℤ) (answers : List Answer) (n : ℕ)
    → IsCompilable p → Agrees (code_of p) → IsFitting p instance process xs answers → 1 ≤ n
    → TalksAs p (code_of p) instance process xs answers n

-- The bodies of the code do what they mean, in each instance.
abbrev pub BodiesLaw : Type 0
BodiesLaw = (p : CheckedTree) (instance : ℕ) → IsCompilable p → Agrees (code_of p) → CarriesAll p (code_of p) instance

-- With arguments and answers that fit each value along the talk of a typed program lies in its own bounds.
abbrev pub WithinLaw : Type 0
WithinLaw = (p : CheckedTree) (instance process : ℕ) (xs : List ℤ) (answers : List Answer) (n : ℕ)
    → IsTyped p → IsFitting p instance process xs answers
    → talk_within p instance process xs answers n ≡ true

-- what the statement of the whole rests on
pub record TalkRests : Type 0 where
  pub bodies : BodiesLaw
  pub within : WithinLaw

-- On these two it stands.
abbrev pub TalkJoined : Type 0
TalkJoined = TalkRests → TalkLaw
