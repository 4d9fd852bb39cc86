use Rattle.std.proofs.Common.{sym, subst, ◌∙◌}
use Rattle.chill_tree.specs.ItemTree.{program_tree}
use Rattle.process_checks.specs.ByNames.{IsToldByNames}
use Rattle.constant_operators.specs.Grounds.{ground_of}
use Rattle.checks_model.specs.Phases.{broken_processes}
use Rattle.process_checks.proofs.Exact.{told_by, answered_by}
use Rattle.process_checks.proofs.Phase.{exactly, answered}
use Rattle.process_checks.proofs.NeededLater.{all_needed_later}
use Rattle.process_checks.proofs.checking.check_processes.Goals as goal

pub returns-clause-by_names : goal.returns-clause-by_names
returns-clause-by_names c = λ g evaluated.
    let t = program_tree c.args.tree.now in
    answered_by g t c.into_list.result c.answer.result c.answer.ensures.list
    (subst (IsToldByNames g t) (sym c.into_list.ensures.list) (told_by g c.args.evaluation.now t c.in_ok-told.told evaluated c.in_ok-told.ensures.more))

pub returns-clause-exact : goal.returns-clause-exact
returns-clause-exact c = λ text g has is_ground ground.
    let e = c.args.evaluation.now in
    let t = program_tree c.args.tree.now in
    answered c.into_list.result (broken_processes (ground_of e) t) c.answer.result c.answer.ensures.list
    (c.into_list.ensures.list ∙ exactly e t c.in_ok-told.told (c.in_ok-told.ensures.exact ground (all_needed_later text t g (ground_of e) has is_ground)))
