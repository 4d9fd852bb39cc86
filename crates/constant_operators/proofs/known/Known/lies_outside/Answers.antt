use Rattle.std.proofs.Common.{◌≡◌, ◌∙◌, ◌&&◌, ap, not, sym, rules, Some, ℤ, int_le, to_z, of_z, w64}
use Rattle.modes.specs.ModeTree.{mode_tree}
use Rattle.constant_operators.proofs.Outside.{outside}
use Rattle.constant_operators.proofs.known.Known.lies_outside.Goals as goal

pub returns : goal.returns
returns c = λ c' v i goes.
    let b = c.in-Some-bounds.bounds in
    let n = c.in-Some.number in
    let same : to_z w64 (of_z w64 n) ≡ n = search rules in
    let whole = outside c.tests_law.ensures.goes_with c' v c.args.self.now (mode_tree c.args.mode.now) b n i goes (sym c.bounds.ensures ∙ c.in-Some-bounds.is) (sym c.number.ensures ∙ c.in-Some.is) in
    ap not c.is_within.ensures ∙ ap (λ (x : ℤ). not (int_le b.low x && int_le x b.high)) same ∙ sym whole
