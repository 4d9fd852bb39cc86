use Rattle.std.proofs.Common.{◌∙◌, ap, sym, Some, ℤ, List}
use Rattle.constant_values.proofs.SetOperators.{sets_combined}
use Rattle.constant_values.proofs.operators.value_of_sets.Goals as goal

pub returns-then-is_on_sets : goal.returns-then-is_on_sets
returns-then-is_on_sets c = λ as' bs s t.
    ap (λ (l : List ℤ). Some l) c.in_ok-combined_sets.ensures
    ∙ sets_combined c.args.operator as' bs c.args.size c.args.left.now c.args.right.now (sym c.is_on_sets.ensures ∙ c.if-is_on_sets.true) s t
