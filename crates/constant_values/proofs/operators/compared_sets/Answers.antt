use Rattle.std.proofs.Common.{◌∙◌}
use Rattle.constant_values.proofs.SetOperators.{sets_compared}
use Rattle.constant_values.proofs.operators.compared_sets.Goals as goal

pub returns : goal.returns
returns c = λ as' bs s t.
    c.compared_by.ensures
    ∙ sets_compared c.args.operator as' bs c.args.size c.args.left.now c.args.right.now c.is_included.result c.is_included-2.result s t c.is_included.ensures c.is_included-2.ensures
