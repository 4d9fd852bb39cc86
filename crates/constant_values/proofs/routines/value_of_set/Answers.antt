use Rattle.std.proofs.Common.{ap}
use Rattle.modes.specs.ModeTree.{mode_tree}
use Rattle.class_operators.specs.Predefined.{predefined_tree}
use Rattle.constant_values.proofs.RoutineValues.{card_value, least_value, greatest_value}
use Rattle.constant_values.proofs.routines.value_of_set.Goals as goal

pub returns-in-Card : goal.returns-in-Card
returns-in-Card c = λ c' bs e s few.
    card_value (predefined_tree c.args.own) c' bs (mode_tree c.args.member.now) c.number_of_values-size.result c.count.result c.args.set.now c.in_number.result (ap predefined_tree c.in-Card.is) s c.number_of_values-size.ensures
    c.count.ensures few c.in_number.ensures

pub returns-in-Min : goal.returns-in-Min
returns-in-Min c = λ c' bs e s few.
    least_value (predefined_tree c.args.own) c' bs (mode_tree c.args.member.now) c.number_of_values-size.result c.least.result c.args.set.now c.number_at.result (ap predefined_tree c.in-Min.is) e s c.number_of_values-size.ensures
    c.least.ensures c.number_at.ensures

pub returns-in-Max : goal.returns-in-Max
returns-in-Max c = λ c' bs e s few.
    greatest_value (predefined_tree c.args.own) c' bs (mode_tree c.args.member.now) c.number_of_values-size.result c.greatest.result c.args.set.now c.number_at-in-Max.result (ap predefined_tree c.in-Max.is) e s c.number_of_values-size.ensures
    c.greatest.ensures c.number_at-in-Max.ensures
