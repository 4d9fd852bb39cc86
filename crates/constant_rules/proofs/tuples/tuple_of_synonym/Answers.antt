use Rattle.std.proofs.Common.{◌≡◌, true, false, rules}
use Rattle.chill_tree.specs.ExprTree.{expr_tree}
use Rattle.modes.specs.ModeTree.{mode_tree}
use Rattle.constant_operators.specs.Grounds.{ground_of}
use Rattle.constant_rules.proofs.SynonymFound.{unnamed_form, tuple_received, tuple_told}
use Rattle.constant_rules.proofs.tuples.tuple_of_synonym.Goals as goal

pub returns : goal.returns
returns c = λ ground is.
    let g = ground_of c.args.ground.now in
    let x = expr_tree c.args.expr.now in
    let clean : c.in_ok-part.part.known.is_clean ≡ true = search rules in
    tuple_received g (mode_tree c.args.mode.now.value) x c.in_ok-part.part c.args.told.now is (c.in_ok-part.ensures ground (unnamed_form g x is)) clean c.in_ok-value.ensures

pub returns-then-not-part : goal.returns-then-not-part
returns-then-not-part c = λ ground is.
    let g = ground_of c.args.ground.now in
    let x = expr_tree c.args.expr.now in
    let clean : c.in_ok-part.part.known.is_clean ≡ false = search rules in
    tuple_told g (mode_tree c.args.mode.now.value) x c.in_ok-part.part c.args.told.now is (c.in_ok-part.ensures ground (unnamed_form g x is)) clean
