use Rattle.std.proofs.Common.{◌<◌, ℕ, get_or}
use Rattle.kernel_base.specs.declared.value.Value.{Value}
use Rattle.sound_facts.specs.Powersets.{HasPowersets}
use Rattle.sound_facts.proofs.powersets.+has_powersets.Given as goal

abbrev pub invariant-loop-part : goal.invariant-loop-part
invariant-loop-part l = (i : ℕ) (d : Value) → i < l.part-index → HasPowersets (get_or l.part-items i d)
