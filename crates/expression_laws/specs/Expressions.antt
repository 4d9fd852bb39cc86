-- The laws that expressions, arguments and locations in which nothing is told are there, as they are elaborated.
use Rattle.std.specs.Prelude.{◌≡◌, Bool, true, false, [], Option, Some, None, IsSome}
use Rattle.chill_tree.specs.ExprTree.{ExprTree}
use Rattle.modes.specs.ModeTree.{ModeTree, ClassTree}
use Rattle.checks_model.specs.Ground.{Ground}
use Rattle.checks_model.specs.Classes.{class_as}
use Rattle.checks_model.specs.ConstantRules.{told_of_constants}
use Rattle.checks_model.specs.ValueRules.{Receiver, nothing_asked, of_mode, passed_back, condition, selector, bound, set_of_members, received_mode, told_in, told_value}
use Rattle.elaborated_laws.specs.Known.{IsDeclarable}
use Rattle.elaboration_model.specs.Numbering.{Source}
use Rattle.elaboration_model.specs.Expressions.{expr_as}
use Rattle.expression_laws.specs.Names.{IsWellNamed, AllNamesKnown, is_of_values}

-- the mode of what receives an expression is one that a location may have
abbrev pub IsReceiverKnown : Receiver → Type 0
IsReceiverKnown r = (m : ModeTree) → received_mode r ≡ Some m → IsDeclarable m

-- an expression as a text has it, in which nothing is told on constants and on values
pub record IsClean (g : Ground) (r : Receiver) (e : ExprTree) : Type 0 where
  pub named : IsWellNamed g e
  pub receives : IsReceiverKnown r
  pub constants : told_of_constants g e ≡ []
  pub told : told_in g r e ≡ []

-- Where nothing is told in an expression, and its class is one of values, it is there as it is elaborated.
abbrev pub ExprThereLaw : Type 0
ExprThereLaw = (s : Source) (r : Receiver) (e : ExprTree) (c : ClassTree) → AllNamesKnown s → IsClean s.known r e → class_as s.known (received_mode r) e ≡ Some c → is_of_values c ≡ true → IsSome (expr_as s (received_mode r) e)
