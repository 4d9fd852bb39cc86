-- The laws of the steps.
use Rattle.std.specs.Prelude.{◌≡◌, ◌↔◌, IsTrue, ℕ, List, ◌++◌, ℤ}
use Rattle.kernel_base.specs.declared.request.Request.{Request}
use Rattle.kernel_base.specs.declared.answer.Answer.{Answer}
use Rattle.world_model.specs.Gives.{Gives}
use Rattle.world_model.specs.Session.{Item}
use Rattle.code_types.specs.declared.code.Code.{Code}
use Rattle.code_types.specs.Answers.{gives}
use Rattle.code_types.specs.State.{State}
use Rattle.code_types.specs.Talk.{CodeTalk, Leads}

-- A process of the code has one talk.
abbrev pub OneTalkLaw : Type 0
OneTalkLaw = (code : Code) (instance process : ℕ) (arguments : List ℤ) (answers : List Answer) (n : ℕ) (trace other : List Item)
    → CodeTalk code instance process arguments answers n trace
    → CodeTalk code instance process arguments answers n other
    → trace ≡ other

-- The test of an answer tells whether it can come for its request.
abbrev pub GivesLaw : Type 0
GivesLaw = (request : Request) (answer : Answer) → IsTrue (gives request answer) ↔ Gives request answer

-- What leads from one state to a second, and from there to a third, leads from the first to the third: the answers and the
-- traces follow each other.
abbrev pub LeadsOnLaw : Type 0
LeadsOnLaw = (code : Code) (first second third : State) (answers more : List Answer) (trace behind : List Item)
    → Leads code first answers trace second
    → Leads code second more behind third
    → Leads code first (answers ++ more) (trace ++ behind) third
