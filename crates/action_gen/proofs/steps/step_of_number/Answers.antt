use Rattle.std.proofs.Common.{◌≡◌, ℤ, ◌∙◌, ap, subst, w64}
use Rattle.std.specs.Prelude.{unsigned_abs}
use Rattle.std.specs.Int.{FitsUnsignedBits}
use Rattle.std.proofs.lemmas.Int.{to_z-of_z}
use Rattle.code_scheme.specs.StatementLoops.{where_step}
use Rattle.action_gen.proofs.Counted.{number_is, no_step}
use Rattle.action_gen.proofs.steps.step_of_number.Goals as goal

pub returns-in-Ok : goal.returns-in-Ok
returns-in-Ok c =
    let both = subst (λ (z : ℤ). FitsUnsignedBits 32 z × (c.in-Ok.number ≡ unsigned_abs z)) (to_z-of_z w64 c.args.number c.ranges.number) c.in-Ok.ensures in
    c.where_step.ensures ∙ ap where_step (number_is c.args.number c.in-Ok.number both.0 both.1)

pub returns-in-Err : goal.returns-in-Err
returns-in-Err c = no_step c.args.number (subst (λ (z : ℤ). FitsUnsignedBits 32 z → ⊥) (to_z-of_z w64 c.args.number c.ranges.number) c.in-Err.ensures)
