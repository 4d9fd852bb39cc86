-- Which classes go with which modes, and with each other.
use Rattle.std.specs.Prelude.{◌≡◌}
use Rattle.modes.specs.ModeTree.{ModeTree, ClassTree, value, derived, null, nothing}
use Rattle.modes.specs.Form.{form_of, of_instance}
use Rattle.modes.specs.Similar.{Similar, VEquivalent}

-- the class goes with the mode
abbrev pub GoesWith : ClassTree → ModeTree → Type 0
GoesWith (value n) m = VEquivalent n m
GoesWith (derived n) m = Similar n m
GoesWith null m = form_of m ≡ of_instance
GoesWith nothing m = ⊥

-- the classes are compatible
abbrev pub Compatible : ClassTree → ClassTree → Type 0
Compatible (value a) (value b) = VEquivalent a b
Compatible (value a) (derived b) = Similar a b
Compatible (derived a) (value b) = Similar a b
Compatible (derived a) (derived b) = Similar a b
Compatible (value a) null = form_of a ≡ of_instance
Compatible (derived a) null = form_of a ≡ of_instance
Compatible null (value b) = form_of b ≡ of_instance
Compatible null (derived b) = form_of b ≡ of_instance
Compatible null null = Unit {0}
Compatible nothing _ = ⊥
Compatible _ nothing = ⊥
