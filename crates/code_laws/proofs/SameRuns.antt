-- The runs of a code that has a program's talk are the program's.
use Rattle.std.proofs.Common.{◌≡◌, ℕ, suc, List, ℤ, sym, subst}
use Rattle.kernel_base.specs.declared.answer.Answer.{Answer}
use Rattle.kernel_base.specs.declared.event.Event.{Event}
use Rattle.world_model.specs.Session.{Item}
use Rattle.world_model.specs.Journal.{line_of, answers_of, Birth}
use Rattle.program_trees.specs.ProgramTree.{CheckedTree}
use Rattle.code_types.specs.declared.code.Code.{Code}
use Rattle.code_types.specs.Talk.{CodeTalk, TalkFrom}
use Rattle.code_types.specs.Runs.{Begins, FollowsCode, ticks_in}
use Rattle.code_types.proofs.ManySteps.{one_talk}
use Rattle.source_meaning.specs.Talk.{talk}
use Rattle.source_meaning.specs.Runs.{talk_in_journal, FollowsText}
use Rattle.code_laws.specs.Assembly.{TalksAs, SameRunsLaw}

pub code_talks : (p : CheckedTree) (code : Code) (instance process : ℕ) (xs : List ℤ) (answers : List Answer) (n : ℕ) → TalksAs p code instance process xs answers n → CodeTalk code instance process xs answers n (talk p instance process xs answers n).trace
code_talks p code instance process xs answers n t =
    subst (λ o. TalkFrom code o answers n (talk p instance process xs answers n).trace) (sym t.starts) (record { count = t.count; stands = t.state; by = t.by })

as_text : (p : CheckedTree) (code : Code) (events : List Event) (who : ℕ) (birth : Birth) → TalksAs p code who birth.process birth.arguments (answers_of who events) (suc (ticks_in (line_of who events))) → FollowsCode code events who birth → FollowsText p events who birth
as_text p code events who birth talks f =
    let n : ℕ = suc (ticks_in (line_of who events)) in
    let same : f.trace ≡ (talk_in_journal p events who birth).trace =
    one_talk code who birth.process birth.arguments (answers_of who events) n f.trace (talk_in_journal p events who birth).trace f.talks
    (code_talks p code who birth.process birth.arguments (answers_of who events) n talks) in
    subst (λ (t : List Item). Begins (line_of who events) t) same f.begins

as_code : (p : CheckedTree) (code : Code) (events : List Event) (who : ℕ) (birth : Birth) → TalksAs p code who birth.process birth.arguments (answers_of who events) (suc (ticks_in (line_of who events))) → FollowsText p events who birth → FollowsCode code events who birth
as_code p code events who birth talks f =
    record {
      trace = (talk_in_journal p events who birth).trace;
      talks = code_talks p code who birth.process birth.arguments (answers_of who events) (suc (ticks_in (line_of who events))) talks;
      begins = f;
    }

pub same_runs : SameRunsLaw
same_runs p code facts events talks = (
  λ r. record { run = r.run; follows = λ who birth born. as_text p code events who birth (talks who birth born) (r.follows who birth born) },
  λ r. record { run = r.run; follows = λ who birth born. as_code p code events who birth (talks who birth born) (r.follows who birth born) },
)
