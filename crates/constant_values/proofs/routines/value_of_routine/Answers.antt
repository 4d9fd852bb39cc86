use Rattle.std.proofs.Common.{◌∙◌, ap, sym, ◌≡◌, ℤ, rules, to_z, of_z, w64}
use Rattle.modes.specs.ModeTree.{class_tree, mode_tree}
use Rattle.class_operators.specs.Predefined.{predefined_tree}
use Rattle.checks_model.specs.Operations.{form_in}
use Rattle.checks_model.specs.ValueTrees.{ValueTree, number}
use Rattle.checks_model.specs.OperatorValues.{value_of_routine}
use Rattle.constant_values.proofs.OperandValues.{set_form}
use Rattle.constant_values.proofs.RoutineValues.{set_value, number_taken, number_missing}
use Rattle.constant_values.proofs.routines.value_of_routine.Goals as goal

pub returns-in-Some : goal.returns-in-Some
returns-in-Some c = λ v a.
    set_value (predefined_tree c.args.own) (class_tree c.args.class.now) (mode_tree c.in-Some.member.now) v c.args.value.now c.value_of_set.result
    (set_form (form_in (class_tree c.args.class.now)) (mode_tree c.in-Some.member.now) (sym c.in-Some.ensures)) a c.value_of_set.ensures

pub returns-in-None : goal.returns-in-None
returns-in-None c = λ v a.
    absurd (number_missing (predefined_tree c.args.own) (class_tree c.args.class.now) v c.args.value.now a (sym c.in_default.ensures) (sym c.first.ensures ∙ c.in-None.is))

pub returns-in-Some-first : goal.returns-in-Some-first
returns-in-Some-first c = λ v a.
    let same : to_z w64 (of_z w64 c.in-Some-first.number) ≡ c.in-Some-first.number = search rules in
    c.value_of_number.ensures ∙ ap (λ (x : ℤ). value_of_routine (predefined_tree c.args.own) (class_tree c.args.class.now) (number x)) same
    ∙ sym (ap (λ (x : ValueTree). value_of_routine (predefined_tree c.args.own) (class_tree c.args.class.now) x)
    (number_taken (predefined_tree c.args.own) (class_tree c.args.class.now) v c.args.value.now c.in-Some-first.number a (sym c.in_default.ensures) (sym c.first.ensures ∙ c.in-Some-first.is)))
