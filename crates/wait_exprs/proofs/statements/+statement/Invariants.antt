use Rattle.std.proofs.Common.{◌≡◌, ◌++◌, drop, map}
use Rattle.chill_tree.specs.StatementTree.{branch_tree, case_tree, named_tree, receive_tree, statement_trees, body_trees, statement_nodes, branch_nodes, case_nodes, named_nodes, receive_nodes, body_nodes}
use Rattle.wait_exprs.specs.Waits.{waits_in_each, waits_in_branches, waits_in_cases, waits_in_named, waits_in_receives, waits_in_parts}
use Rattle.wait_exprs.specs.Views.{wait_trees}
use Rattle.wait_exprs.proofs.statements.+statement.Given as goal

abbrev pub invariant-add_in_actions-loop-action : goal.invariant-add_in_actions-loop-action
invariant-add_in_actions-loop-action l =
    wait_trees l.found ++ waits_in_each (statement_nodes (statement_trees (drop l.action-index l.actions))) ≡ wait_trees l.fn.found ++ waits_in_each (statement_nodes (statement_trees l.actions))

abbrev pub invariant-add_in_branches-loop-branch : goal.invariant-add_in_branches-loop-branch
invariant-add_in_branches-loop-branch l =
    wait_trees l.found ++ waits_in_branches (branch_nodes (map branch_tree (drop l.branch-index l.branches))) ≡ wait_trees l.fn.found ++ waits_in_branches (branch_nodes (map branch_tree l.branches))

abbrev pub invariant-add_in_cases-loop-alternative : goal.invariant-add_in_cases-loop-alternative
invariant-add_in_cases-loop-alternative l =
    wait_trees l.found ++ waits_in_cases (case_nodes (map case_tree (drop l.alternative-index l.alternatives))) ≡ wait_trees l.fn.found ++ waits_in_cases (case_nodes (map case_tree l.alternatives))

abbrev pub invariant-add_in_named-loop-alternative : goal.invariant-add_in_named-loop-alternative
invariant-add_in_named-loop-alternative l =
    wait_trees l.found ++ waits_in_named (named_nodes (map named_tree (drop l.alternative-index l.alternatives))) ≡ wait_trees l.fn.found ++ waits_in_named (named_nodes (map named_tree l.alternatives))

abbrev pub invariant-add_in_receives-loop-alternative : goal.invariant-add_in_receives-loop-alternative
invariant-add_in_receives-loop-alternative l =
    wait_trees l.found ++ waits_in_receives (receive_nodes (map receive_tree (drop l.alternative-index l.alternatives))) ≡ wait_trees l.fn.found ++ waits_in_receives (receive_nodes (map receive_tree l.alternatives))

abbrev pub invariant-add_in_body-loop-part : goal.invariant-add_in_body-loop-part
invariant-add_in_body-loop-part l =
    wait_trees l.found ++ waits_in_parts (body_nodes (body_trees (drop l.part-index l.body))) ≡ wait_trees l.fn.found ++ waits_in_parts (body_nodes (body_trees l.body))
