use Rattle.std.proofs.Common.{◌≡◌, ◌∙◌, ap, sym, rules, Some}
use Rattle.std.specs.Prelude.{option_map}
use Rattle.modes.specs.declared.mode.Mode.{Mode}
use Rattle.modes.specs.ModeTree.{mode_tree, class_tree}
use Rattle.modes.specs.Bounds.{bounds_of}
use Rattle.class_operators.specs.Predefined.{predefined_tree}
use Rattle.class_operators.specs.declared.predefined.Predefined.TheVariants as predefined
use Rattle.constant_operators.proofs.Measures.{bound_measured, not_size}
use Rattle.constant_operators.proofs.evaluation.Evaluation.measure_of.Goals as goal

pub returns : goal.returns
returns c = λ plain m laid.
    let other_than : c.args.own ≡ predefined.Size → ⊥ = search rules in
    bound_measured (predefined_tree c.args.own) (mode_tree c.args.mode.now.value) c.in-Some-bounds.bounds (class_tree c.in-Some.class) c.in_ok-bound.bound m
    (not_size c.args.own other_than) (sym (c.bounds.ensures ∙ ap (λ (x : Mode). bounds_of (mode_tree x)) c.deref-2.ensures ∙ ap bounds_of c.measured_mode.ensures) ∙ c.in-Some-bounds.is) (ap (option_map class_tree) (sym c.in-Some.is) ∙ c.in_ok-class.ensures) c.in_ok-bound.ensures
