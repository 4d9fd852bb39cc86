use Rattle.std.proofs.Common.{refl}
use Rattle.std.specs.Prelude.{Some}
use Rattle.chill_top.proofs.AnswerLemmas.{answer_of, journal_of, refused_of}
use Rattle.chill_top.proofs.top.chill_alone.Goals as goal

pub returns-clause-answer : goal.returns-clause-answer
returns-clause-answer g c =
    let made = c.plan_alone-planned in
    answer_of (Some c.args.command.now) c.args.command.now _ _ _ _ _ _ _ c.showing_of.result made.result _ refl c.showing_of.ensures made.ensures.plan made.ensures.kept made.ensures.stays made.ensures.fault c.answer.ensures.answered

pub returns-clause-journal : goal.returns-clause-journal
returns-clause-journal g c = journal_of _ _ _ _ _ _ _ _ _ (returns-clause-answer g c)

pub returns-clause-refused : goal.returns-clause-refused
returns-clause-refused g c = refused_of _ _ _ _ _ _ _ _ _ (returns-clause-answer g c)
