use Rattle.std.proofs.Common.{◌≡◌, ◌∙◌, ap, rules, ℕ, ℤ, to_z, of_z, w64}
use Rattle.scalar_operators.specs.Powersets.{complement_in}
use Rattle.constant_values.proofs.sets.missing.Goals as goal

pub returns : goal.returns
returns c =
    let own : to_z w64 (of_z w64 c.missing_members.result) ≡ c.missing_members.result = search rules in
    let arg : to_z w64 (of_z w64 c.args.own) ≡ c.args.own = search rules in
    own ∙ c.missing_members.ensures ∙ ap (λ (x : ℤ). complement_in c.min.result x) arg ∙ ap (λ (n : ℕ). complement_in n c.args.own) c.min.ensures
