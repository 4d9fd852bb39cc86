use Rattle.std.proofs.Common.{rules, ◌≡◌}
use Rattle.std.specs.Prelude.{Err}
use Rattle.chill_top.specs.declared.read.ReadRefusal.TheVariants.{Fault, Memory}
use Rattle.chill_top.proofs.AnswerLemmas.{answers_fault, answers_memory, keeps_same}
use Rattle.chill_top.proofs.top.answer.Goals as goal

-- no memory was to be had
pub returns-in-Err-Memory-clause-answered : goal.returns-in-Err-Memory-clause-answered
returns-in-Err-Memory-clause-answered g c =
    let is : c.args.planned ≡ Err Memory = search rules in
    answers_memory c.args.showing c.args.planned _ _ _ _ is (record { out = keeps_same _; err = keeps_same _ }) c.without_run.ensures

-- something wasn't read
pub returns-in-Err-Fault-clause-answered : goal.returns-in-Err-Fault-clause-answered
returns-in-Err-Fault-clause-answered g c =
    let is : c.args.planned ≡ Err Fault = search rules in
    answers_fault c.args.showing c.args.planned _ _ _ _ is (record { out = keeps_same _; err = keeps_same _ }) c.without_run-in-Err-Fault.ensures
