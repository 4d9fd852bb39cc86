-- Single nodes: what receives a value, and how many scalars it may have.
use Rattle.std.proofs.Common.{◌≡◌, ◌++◌, ℕ, ◌<◌, ◌≤◌, List, [], ◌∷◌, refl, ap, sym, ◌∙◌, subst, Option, Some, None, arith, min}
use Rattle.std.specs.Prelude.{Bool, true, false, ◌&&◌, not, if◌then◌else◌, nat_lt}
use Rattle.std.proofs.lemmas.Bool.Decides.{nat_tests}
use Rattle.chill_tree.specs.ExprTree.{ExprTree}
use Rattle.modes.specs.ModeTree.{ModeTree, ClassTree}
use Rattle.diagnostics.specs.declared.diagnostic.Diagnostic.{Diagnostic}
use Rattle.checks_model.specs.Ground.{Ground}
use Rattle.checks_model.specs.Told.{is_none_told, then_told}
use Rattle.checks_model.specs.Classes.{class_as}
use Rattle.checks_model.specs.ValueRules.{Receiver, nothing_asked, of_mode, passed_back, condition, selector, bound, set_of_members, received_mode, told_in, told_received, clean_class, own_told}
use Rattle.expr_rules.specs.Steps.{told_by, value_own_told}

by_class : (g : Ground) (r : Receiver) (e : ExprTree) → told_by g r (class_as g (received_mode r) e) e ≡ told_received g r e
by_class g nothing_asked e = refl
by_class g (of_mode m) e = refl
by_class g (passed_back m) e = refl
by_class g condition e = refl
by_class g selector e = refl
by_class g bound e = refl
by_class g set_of_members e = refl

-- where nothing is told inside, the class is that of the expression
pub clean-class : (told later : List Diagnostic) (c : Option ClassTree) → is_none_told (then_told told later) ≡ true → clean_class told c ≡ c
clean-class [] later c h = refl
clean-class (d ∷ ds) later c h = cc

-- what a receiver tells by the class that is known
pub received-by : (g : Ground) (r : Receiver) (e : ExprTree) (c : Option ClassTree) → is_none_told (value_own_told g r e) ≡ true → c ≡ clean_class (told_in g r e) (class_as g (received_mode r) e) → told_by g r c e ≡ told_received g r e
received-by g r e c h is = ap (λ (c : Option ClassTree). told_by g r c e) (is ∙ clean-class (told_in g r e) _ (class_as g (received_mode r) e) h) ∙ by_class g r e

pub ruleset received = (received-by)

-- what is counted only as far as 4,097 is above 256 as the whole is
pub capped : (n : ℕ) → nat_lt 256 (min n 4097) ≡ nat_lt 256 n
capped n = grind (arith, nat_tests)

pub ruleset too_large = (capped)
