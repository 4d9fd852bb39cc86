use Rattle.std.proofs.Common.{◌≡◌, sym, ◌∙◌, map, length}
use Rattle.std.proofs.lemmas.List.{length-map}
use Rattle.chill_tree.specs.ExprTree.{expr_trees, expr_nodes}
use Rattle.expr_rules.specs.Grounds.{ground_in}
use Rattle.expr_rules.specs.Views.{formal_receiver}
use Rattle.expr_rules.proofs.RangeViews.{args_counted}
use Rattle.expr_rules.proofs.Turns.{all_told}
use Rattle.expr_rules.proofs.surroundings.Walk.all_arguments.Goals as goal

pub returns : goal.returns
returns c = λ has.
    all_told (ground_in c.args.self.now) (map formal_receiver c.args.formals.now) (expr_nodes (expr_trees c.args.args.now)) c.args.at (length c.args.args.now) (length c.args.formals.now) c.args.told.now c.arguments.new.told c.tell_wrong_number.new.told
    (c.in_ok-arguments.ensures.told has) c.in_ok-tell_wrong_number.ensures.told (sym (args_counted c.args.args.now)) (sym (length-map c.args.formals.now formal_receiver))
