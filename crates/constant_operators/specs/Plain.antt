-- The modes that every program has.
use Rattle.std.specs.Prelude.{◌≡◌}
use Rattle.modes.specs.ModeTree.{mode_tree, int, boolean, char, instance}
use Rattle.constant_operators.specs.declared.evaluation.Plain.{Plain}

pub record IsPlain (p : Plain) : Type 0 where
  pub int : mode_tree p.int.value ≡ int
  pub boolean : mode_tree p.bool.value ≡ boolean
  pub char : mode_tree p.char.value ≡ char
  pub instance : mode_tree p.instance.value ≡ instance
