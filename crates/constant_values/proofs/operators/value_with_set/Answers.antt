use Rattle.std.proofs.Common.{◌∙◌, ◌≡◌, ap, sym, Some, ℤ, List, [], ◌∷◌, Option, rules, to_z, of_z, w64, subst}
use Rattle.std.specs.Prelude.{IfOk, option_map}
use Rattle.modes.specs.ModeTree.{mode_tree}
use Rattle.modes.specs.Bounds.{bounds_of}
use Rattle.chill_tree.specs.declared.tree.expr.Operator.{Operator}
use Rattle.chill_tree.specs.declared.tree.expr.Operator.TheVariants as ops
use Rattle.scalar_operators.specs.Numbers.{truth_number}
use Rattle.checks_model.specs.ValueTrees.{members, scalars_in}
use Rattle.checks_model.specs.OperatorValues.{is_in, value_of_binary}
use Rattle.constant_values.proofs.OperandValues.{sets_taken, member_taken, is_in_yes, is_in_no}
use Rattle.constant_values.proofs.operators.value_with_set.Goals as goal

pub returns-then-is_membership : goal.returns-then-is_membership
returns-then-is_membership c = λ c' d v w e a.
    let o : c.args.operator ≡ ops.In = is_in_yes c.args.operator (sym c.is_membership.ensures ∙ c.if-is_membership.true) in
    let own = member_taken c.tests_law.ensures.goes_with c' d (mode_tree c.args.member.now) v w c.args.left.now c.args.right.now (rw o at a) e in
    let same : to_z w64 (of_z w64 c.truth_from.result) ≡ c.truth_from.result = search rules in
    let told : c.truth_from.result ≡ truth_number (is_in v (bounds_of (mode_tree c.args.member.now)) (members own.bs)) =
    c.truth_from.ensures ∙ ap truth_number (c.is_member.ensures v own.bs own.is_one a.one.scalars own.scalars) in
    let value : Some (to_z w64 (of_z w64 c.truth_from.result) ∷ []) ≡ option_map scalars_in (value_of_binary c.args.operator d v w) =
    ap (λ (x : ℤ). Some (x ∷ [])) (same ∙ told) ∙ ap (option_map scalars_in) (own.value ∙ sym (ap (λ (x : Operator). value_of_binary x d v w) o)) in
    subst (λ (x : Option (List ℤ)). IfOk c.some_single.result (λ r. r ≡ x)) value c.some_single.ensures

pub returns : goal.returns
returns c = λ c' d v w e a.
    let own = sets_taken c.tests_law.ensures.compatible c.args.operator c' d (mode_tree c.args.member.now) v w c.args.left.now c.args.right.now a
    (is_in_no c.args.operator (sym c.is_membership.ensures ∙ c.if-is_membership.false)) e in
    let many = sym c.number_of_values.ensures in
    subst (λ (x : Option (List ℤ)). IfOk c.value_of_sets.result (λ r. r ≡ x)) (ap (option_map scalars_in) own.value)
    (c.value_of_sets.ensures own.as' own.bs (record { count = own.one.count ∙ many; scalars = own.one.scalars }) (record { count = own.other.count ∙ many; scalars = own.other.scalars }))
