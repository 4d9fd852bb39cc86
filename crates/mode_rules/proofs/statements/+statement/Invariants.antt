use Rattle.std.proofs.Common.{◌≡◌, ◌++◌, drop, map}
use Rattle.chill_tree.specs.StatementTree.{branch_tree, case_tree, named_tree, receive_tree, statement_trees, body_trees, statement_nodes, branch_nodes, case_nodes, named_nodes, receive_nodes, body_nodes}
use Rattle.constant_operators.specs.Grounds.{ground_of}
use Rattle.mode_rules.specs.Ready.{IsReady}
use Rattle.mode_rules.specs.Walk.{over_actions, over_branches, over_cases, over_receives, over_named, over_body}
use Rattle.mode_rules.proofs.statements.+statement.Given as goal

abbrev pub invariant-tell_in_actions-loop-action : goal.invariant-tell_in_actions-loop-action
invariant-tell_in_actions-loop-action l = IsReady l.ground →
    l.told ++ over_actions (ground_of l.ground) (statement_nodes (statement_trees (drop l.action-index l.actions))) ≡ l.fn.told ++ over_actions (ground_of l.ground) (statement_nodes (statement_trees l.actions))

abbrev pub invariant-tell_in_branches-loop-branch : goal.invariant-tell_in_branches-loop-branch
invariant-tell_in_branches-loop-branch l = IsReady l.ground →
    l.told ++ over_branches (ground_of l.ground) (branch_nodes (map branch_tree (drop l.branch-index l.branches))) ≡ l.fn.told ++ over_branches (ground_of l.ground) (branch_nodes (map branch_tree l.branches))

abbrev pub invariant-tell_in_cases-loop-alternative : goal.invariant-tell_in_cases-loop-alternative
invariant-tell_in_cases-loop-alternative l = IsReady l.ground →
    l.told ++ over_cases (ground_of l.ground) (case_nodes (map case_tree (drop l.alternative-index l.alternatives))) ≡ l.fn.told ++ over_cases (ground_of l.ground) (case_nodes (map case_tree l.alternatives))

abbrev pub invariant-tell_in_receives-loop-alternative : goal.invariant-tell_in_receives-loop-alternative
invariant-tell_in_receives-loop-alternative l = IsReady l.ground →
    l.told ++ over_receives (ground_of l.ground) (receive_nodes (map receive_tree (drop l.alternative-index l.alternatives))) ≡ l.fn.told ++ over_receives (ground_of l.ground) (receive_nodes (map receive_tree l.alternatives))

abbrev pub invariant-tell_in_named-loop-alternative : goal.invariant-tell_in_named-loop-alternative
invariant-tell_in_named-loop-alternative l = IsReady l.ground →
    l.told ++ over_named (ground_of l.ground) (named_nodes (map named_tree (drop l.alternative-index l.alternatives))) ≡ l.fn.told ++ over_named (ground_of l.ground) (named_nodes (map named_tree l.alternatives))

abbrev pub invariant-tell_in_body-loop-part : goal.invariant-tell_in_body-loop-part
invariant-tell_in_body-loop-part l = IsReady l.ground →
    l.told ++ over_body (ground_of l.ground) (body_nodes (body_trees (drop l.part-index l.body))) ≡ l.fn.told ++ over_body (ground_of l.ground) (body_nodes (body_trees l.body))
