use Rattle.std.proofs.Common.{ℕ, ap, sym, ◌∙◌}
use Rattle.code_scheme.specs.Pieces.{capped}
use Rattle.expr_gen.proofs.Deciding.{uniform_size}
use Rattle.expr_gen.proofs.conditions.+condition_size.Goals as goal

pub returns-in-Uniform : goal.returns-in-Uniform
returns-in-Uniform t c = c.plain_size-in-Uniform.ensures ∙ sym (ap (λ (n : ℕ). capped n) (uniform_size c.args.condition.now c.in-Uniform.elements c.in-Uniform.value c.args.when c.in-Uniform.is))
