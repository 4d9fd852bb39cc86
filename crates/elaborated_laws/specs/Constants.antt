-- The law that constants have classes.
use Rattle.std.specs.Prelude.{◌≡◌, Bool, true, [], Option, IsSome}
use Rattle.chill_tree.specs.ExprTree.{ExprTree}
use Rattle.modes.specs.ModeTree.{ModeTree}
use Rattle.checks_model.specs.Ground.{Ground}
use Rattle.checks_model.specs.Classes.{class_as}
use Rattle.checks_model.specs.Constants.{has_form, constant_as}
use Rattle.checks_model.specs.ConstantRules.{Standing, told_as}
use Rattle.table_laws.specs.Names.{names_in}
use Rattle.elaborated_laws.specs.Known.{AreKnown}

-- a constant in which nothing is told, and which has a value, has a class
abbrev pub ConstantClassLaw : Type 0
ConstantClassLaw = (g : Ground) (s : Standing) (receives : Bool) (m : Option ModeTree) (e : ExprTree)
    → AreKnown g (names_in e) → told_as g s m e ≡ [] → has_form g receives e ≡ true → IsSome (constant_as g m e) → IsSome (class_as g m e)
