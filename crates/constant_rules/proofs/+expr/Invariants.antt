use Rattle.std.proofs.Common.{◌≡◌, true, drop}
use Rattle.chill_tree.specs.ExprTree.{expr_nodes, expr_trees, range_nodes, range_trees}
use Rattle.modes.specs.ModeTree.{mode_tree}
use Rattle.modes.specs.Form.{form_of}
use Rattle.checks_model.specs.Classes.{shape_fits}
use Rattle.checks_model.specs.Constants.{have_form}
use Rattle.checks_model.specs.ConstantRules.{told_in_each}
use Rattle.constant_operators.specs.Grounds.{ground_of, HasGround}
use Rattle.constant_rules.specs.Found.{Passes}
use Rattle.constant_rules.specs.Walks.{told_in_all}
use Rattle.constant_rules.specs.Tuples.{PassesSpans}
use Rattle.constant_rules.proofs.+expr.Given as goal

abbrev pub invariant-constants::varying_parts-loop-part : goal.invariant-constants::varying_parts-loop-part
invariant-constants::varying_parts-loop-part l = HasGround l.ground →
    Passes (told_in_each (ground_of l.ground) (expr_nodes (expr_trees (drop l.part-index l.parts)))) (told_in_each (ground_of l.ground) (expr_nodes (expr_trees l.parts))) l.fn.told l.told l.is_clean

abbrev pub invariant-constants::varying_ranges-loop-part : goal.invariant-constants::varying_ranges-loop-part
invariant-constants::varying_ranges-loop-part l = HasGround l.ground →
    Passes (told_in_all (ground_of l.ground) (range_nodes (range_trees (drop l.part-index l.parts)))) (told_in_all (ground_of l.ground) (range_nodes (range_trees l.parts))) l.fn.told l.told l.is_clean

abbrev pub invariant-tuples::known_spans-loop-place : goal.invariant-tuples::known_spans-loop-place
invariant-tuples::known_spans-loop-place l = HasGround l.ground → have_form (ground_of l.ground) (range_nodes (range_trees l.parts)) ≡ true → shape_fits (range_nodes (range_trees l.parts)) (form_of (mode_tree l.mode.value)) ≡ true →
    PassesSpans (ground_of l.ground) l.blame (mode_tree l.mode.value) l.place (range_nodes (range_trees (drop l.place l.parts))) (range_nodes (range_trees l.parts)) l.fn.told l.told l.spans.items
