-- The law of what is asked.
use Rattle.std.proofs.Common.{List, [], ◌∷◌}
use Rattle.kernel_base.specs.declared.answer.Answer.{Answer}
use Rattle.world_model.specs.Session.{Item, Tick, Ask}
use Rattle.program_trees.specs.ProgramTree.{CheckedTree}
use Rattle.source_meaning.specs.Talk.{talk}
use Rattle.source_meaning.specs.Fitting.{HasFittingAnswers}
use Rattle.text_laws.specs.Requests.{AskWell, AllFitText}
use Rattle.text_laws.specs.Laws.{AsksFitLaw}
use Rattle.text_laws.proofs.TalkAsks.{talk_asks}
use Rattle.text_laws.proofs.InRange.{fits_facts}

pub no_answers_fit : (p : CheckedTree) (items : List Item) → HasFittingAnswers p items []
no_answers_fit p [] = tt
no_answers_fit p (Tick ∷ items) = no_answers_fit p items
no_answers_fit p (Ask request ∷ items) = tt

-- where all answers fit, all requests do
all_fit : (p : CheckedTree) (items : List Item) (answers : List Answer) → AskWell p items answers → HasFittingAnswers p items answers → AllFitText p items
all_fit p [] answers w h = tt
all_fit p (Tick ∷ items) answers w h = all_fit p items answers w h
all_fit p (Ask request ∷ items) [] w h = (w.0, all_fit p items [] w.1 (no_answers_fit p items))
all_fit p (Ask request ∷ items) (a ∷ answers) w h = (w.0, all_fit p items answers (w.1 h.0) h.1)

pub asks_fit : AsksFitLaw
asks_fit = record {
  far = talk_asks;
  all = λ p instance process zs answers n typed f.
      all_fit p (talk p instance process zs answers n).trace answers
      (talk_asks p instance process zs answers n f.body typed f.in_range f.is_body f.fits) (f.answered n);
  in_range = λ p facts request t. fits_facts p t.input t.units facts request t.typed t.are;
}
