-- Talks of guarded code.
use Rattle.std.specs.Prelude.{ℕ, ◌+◌, List, ◌++◌, ℤ}
use Rattle.kernel_base.specs.declared.answer.Answer.{Answer}
use Rattle.world_model.specs.Session.{Item}
use Rattle.code_types.specs.declared.code.Code.{Code}
use Rattle.code_types.specs.Agreement.{Agrees}
use Rattle.code_types.specs.Runs.{Begins}
use Rattle.code_types.specs.Talk.{CodeTalk}

-- Whatever is started, and whatever is answered, guarded code has a talk.
abbrev pub TalkExistsLaw : Type 0
TalkExistsLaw = (code : Code) (agrees : Agrees code) (instance process : ℕ) (arguments : List ℤ) (answers : List Answer) (n : ℕ)
    → (trace : List Item) × CodeTalk code instance process arguments answers n trace

-- With further answers behind and with more ticks a talk begins as before.
abbrev pub TalkPrefixLaw : Type 0
TalkPrefixLaw = (code : Code) (instance process : ℕ) (arguments : List ℤ) (answers behind : List Answer) (n more : ℕ) (trace longer : List Item)
    → CodeTalk code instance process arguments answers n trace
    → CodeTalk code instance process arguments (answers ++ behind) (n + more) longer
    → Begins trace longer
