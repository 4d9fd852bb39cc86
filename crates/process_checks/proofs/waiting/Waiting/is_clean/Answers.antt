use Rattle.std.proofs.Common.{◌≡◌, ◌↔◌, IsTrue, List, [], ◌++◌, ap, ◌∙◌, subst}
use Rattle.chill_tree.specs.ExprTree.{expr_tree}
use Rattle.diagnostics.specs.declared.diagnostic.Diagnostic.{Diagnostic}
use Rattle.diagnostics.specs.Listing.{listed}
use Rattle.diagnostics.specs.Order.{diagnostic_cmp}
use Rattle.met_names.specs.Facts.{told_source}
use Rattle.met_names.specs.Sources.{over_expr}
use Rattle.process_checks.proofs.ToldMore.{is_clean_where}
use Rattle.process_checks.proofs.waiting.Waiting.is_clean.Goals as goal

pub returns : goal.returns
returns c =
    let told = over_expr (told_source c.args.self.now.meetings.now) (expr_tree c.args.expr.now) in
    let is : c.tell_in.new.told ≡ told = c.in_ok-tell_in.ensures ∙ ap (λ ds. ds ++ told) c.new-told.ensures in
    record { inside = is_clean_where c.is_empty-2.result told (subst (λ (ds : List Diagnostic). IsTrue c.is_empty-2.result ↔ (ds ≡ [])) (c.into_list.ensures.list ∙ ap (listed diagnostic_cmp) is) c.is_empty-2.ensures) }
