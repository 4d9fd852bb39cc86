use Rattle.std.proofs.Common.{◌≡◌, ◌∷◌, [], rules, arith, Some, None}
use Rattle.std.specs.Prelude.{pos}
use Rattle.kernel_base.specs.declared.value.Value.TheVariants.{Number}
use Rattle.kernel_tests.proofs.Sound.{whole, one_int_sound}
use Rattle.kernel_tests.proofs.facts.facts.Goals as goal

pub returns : goal.returns
returns c =
    let store : c.push.new.self ≡ Number (pos 0) ∷ [] = search rules in
    let layouts : c.push-2.new.self ≡ (whole ∷ []) ∷ [] = search rules in
    let signals : c.extend_from_slice-3.new.self.items ≡ None ∷ None ∷ Some 1 ∷ [] = search rules in
    one_int_sound _ store layouts signals (omega arith) c.requires.least c.requires.greatest
