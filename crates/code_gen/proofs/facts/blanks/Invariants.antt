use Rattle.std.proofs.Common.{◌≡◌, replicate}
use Rattle.std.specs.Prelude.{pos}
use Rattle.kernel_base.specs.declared.value.Value.TheVariants.{Number}
use Rattle.code_gen.proofs.facts.blanks.Given as goal

abbrev pub invariant-loop-i : goal.invariant-loop-i
invariant-loop-i l = l.values ≡ replicate l._i (Number (pos 32))
