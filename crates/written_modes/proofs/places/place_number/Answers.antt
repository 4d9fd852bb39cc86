use Rattle.std.proofs.Common.{◌∙◌, ap, rules}
use Rattle.chill_tree.specs.ExprTree.{expr_tree}
use Rattle.constant_operators.specs.Grounds.{ground_of}
use Rattle.written_modes.specs.Places.{number_if}
use Rattle.written_modes.proofs.NumberLemmas.{number-there}
use Rattle.written_modes.proofs.places.place_number.Goals as goal

pub returns-clause-number : goal.returns-clause-number
returns-clause-number c = λ s.
    c.number_if.ensures ∙ ap number_if c.number.ensures
    ∙ number-there c.tests_law.ensures.goes_with (ground_of c.args.ground.now) (expr_tree c.args.number.now) c.in-Some.known (search rules) (search rules) (search rules)
