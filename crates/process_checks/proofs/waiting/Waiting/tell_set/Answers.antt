use Rattle.std.proofs.Common.{[], ◌∷◌, ◌++◌, ap, ◌∙◌}
use Rattle.chill_tree.specs.ExprTree.{expr_tree, place_of}
use Rattle.diagnostics.specs.declared.rule.Rule.TheVariants as rules
use Rattle.checks_model.specs.Told.{tell_at, is_none_told}
use Rattle.checks_model.specs.ProcessRules.{told_set}
use Rattle.checks_model.specs.Phases.{told_met}
use Rattle.met_names.specs.Facts.{told_source}
use Rattle.met_names.specs.Sources.{over_expr}
use Rattle.process_names.proofs.Phase.{source_told}
use Rattle.process_checks.specs.Asked.{ground_for}
use Rattle.process_checks.proofs.ToldMore.{on_ok, told_where}
use Rattle.process_checks.proofs.WaitsTold.{told_inside}
use Rattle.process_checks.proofs.waiting.Waiting.tell_set.Goals as goal

pub returns-clause-more : goal.returns-clause-more
returns-clause-more c =
    let e = expr_tree c.args.set.now in
    let before = c.args.told.now in
    on_ok c.tell.result
    (λ told. told_where c.in_ok-is_clean.field-0 (is_none_told (over_expr (told_source c.args.self.now.meetings.now) e)) (tell_at rules.P7 (place_of e)) before c.tell.new.self c.in_ok-is_clean.ensures.inside c.if-not-branch.false
    (told ∙ ap (λ p. before ++ tell_at rules.P7 p ∷ []) c.at.ensures))
    c.tell.ensures

pub returns-then-not-branch-clause-exact : goal.returns-then-not-branch-clause-exact
returns-then-not-branch-clause-exact c = λ waiting needed.
    let g = ground_for c.args.self.now in
    let e = expr_tree c.args.set.now in
    let inside = ap is_none_told (source_told c.args.self.now.meetings.now g waiting.facts e) in
    told_inside c.in_ok-is_clean.field-0 (is_none_told (told_met g e)) c.args.told.now (told_set g e) (c.in_ok-is_clean.ensures.inside ∙ inside) c.if-not-branch.true
