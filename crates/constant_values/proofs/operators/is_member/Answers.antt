use Rattle.std.proofs.Common.{◌∙◌, ◌≡◌, ap, rules, ℤ, Some, to_z, of_z, w64}
use Rattle.std.specs.Prelude.{◌-ℤ◌, slice_get}
use Rattle.modes.specs.ModeTree.{mode_tree}
use Rattle.modes.specs.Bounds.{bounds_of}
use Rattle.scalar_operators.specs.Members.{has_offset_of}
use Rattle.constant_values.proofs.SetOperators.{member_told}
use Rattle.constant_values.proofs.operators.is_member.Goals as goal

pub returns-in-Some-Some : goal.returns-in-Some-Some
returns-in-Some-Some c = λ v bs one l r.
    let number : to_z w64 (of_z w64 c.in-Some-Some.number) ≡ c.in-Some-Some.number = search rules in
    let low : to_z w64 (of_z w64 c.in-Some-Some.field-0-1.low) ≡ c.in-Some-Some.field-0-1.low = search rules in
    let first : slice_get c.args.left.now 0 ≡ Some c.in-Some-Some.number = cc in
    let some : bounds_of (mode_tree c.args.member.now) ≡ Some c.in-Some-Some.field-0-1 = cc in
    c.has_number.ensures ∙ ap (λ (x : ℤ). has_offset_of (x -ℤ to_z w64 (of_z w64 c.in-Some-Some.field-0-1.low)) c.args.right.now) number
    ∙ ap (λ (x : ℤ). has_offset_of (c.in-Some-Some.number -ℤ x) c.args.right.now) low
    ∙ member_told v bs c.args.left.now c.args.right.now c.in-Some-Some.number (bounds_of (mode_tree c.args.member.now)) c.in-Some-Some.field-0-1 one l r first some
