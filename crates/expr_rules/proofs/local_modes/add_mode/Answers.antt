use Rattle.std.proofs.Common.{◌≡◌, Some, rules}
use Rattle.std.specs.Prelude.{slice_get}
use Rattle.chill_tree.specs.SimpleTree.{control_tree}
use Rattle.checks_model.specs.Ground.{a_counter}
use Rattle.checks_model.specs.ActionRules.{counter_mode}
use Rattle.checks_model.specs.Table.{of_mode_alone}
use Rattle.constant_operators.specs.Grounds.{ground_of, entry_tree}
use Rattle.expr_rules.proofs.Counting.{counter_put}
use Rattle.expr_rules.proofs.local_modes.add_mode.Goals as goal

pub returns-in_ok-mode-in-Some-Counter : goal.returns-in_ok-mode-in-Some-Counter
returns-in_ok-mode-in-Some-Counter c = λ has.
    let e = c.args.evaluation.now in
    let x = c.entry_of-entry.result in
    let l = control_tree c.in-Some-Counter.control.now in
    let at : slice_get (ground_of e).origins c.args.number ≡ Some (a_counter l) = search rules in
    let tree : entry_tree x ≡ of_mode_alone (counter_mode (ground_of e) l) = search rules in
    counter_put e c.set_entry.new.evaluation c.args.number x c.set_entry.ensures l at tree has
