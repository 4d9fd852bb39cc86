use Rattle.std.proofs.Common.{ℤ, pos, ◌+ℤ◌, ap, ◌∙◌, rules, w64}
use Rattle.std.specs.Int.{saturate_signed}
use mir.Val.{SFits}
use Rattle.std.proofs.lemmas.Int.{to_z-of_z}
use Rattle.expr_gen.proofs.Sums.{plus_is}
use Rattle.expr_gen.proofs.operators.plus.Goals as goal

pub returns : goal.returns
returns c =
    let bound : SFits w64 c.args.bound = search rules in
    let number : SFits w64 c.from.result = search rules in
    let result : SFits w64 c.saturating_add.result = search rules in
    let sum = simp to_z-of_z at c.saturating_add.ensures in
    to_z-of_z w64 c.saturating_add.result result ∙ plus_is c.args.bound c.args.number c.saturating_add.result bound (sum ∙ ap (λ (n : ℤ). saturate_signed w64 (c.args.bound +ℤ n)) c.from.ensures)
