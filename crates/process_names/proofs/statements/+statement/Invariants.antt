use Rattle.std.proofs.Common.{◌≡◌, ◌++◌, drop, map}
use Rattle.chill_tree.specs.StatementTree.{branch_tree, case_tree, named_tree, receive_tree, statement_trees, body_trees, statement_nodes, branch_nodes, case_nodes, named_nodes, receive_nodes, body_nodes}
use Rattle.process_names.specs.Walk.{over_actions, over_branches, over_cases, over_receives, over_named, over_body}
use Rattle.process_names.proofs.statements.+statement.Given as goal

abbrev pub invariant-tell_in_actions-loop-action : goal.invariant-tell_in_actions-loop-action
invariant-tell_in_actions-loop-action l =
    l.told ++ over_actions l.meetings (statement_nodes (statement_trees (drop l.action-index l.actions))) ≡ l.fn.told ++ over_actions l.meetings (statement_nodes (statement_trees l.actions))

abbrev pub invariant-tell_in_branches-loop-branch : goal.invariant-tell_in_branches-loop-branch
invariant-tell_in_branches-loop-branch l =
    l.told ++ over_branches l.meetings (branch_nodes (map branch_tree (drop l.branch-index l.branches))) ≡ l.fn.told ++ over_branches l.meetings (branch_nodes (map branch_tree l.branches))

abbrev pub invariant-tell_in_cases-loop-alternative : goal.invariant-tell_in_cases-loop-alternative
invariant-tell_in_cases-loop-alternative l =
    l.told ++ over_cases l.meetings (case_nodes (map case_tree (drop l.alternative-index l.alternatives))) ≡ l.fn.told ++ over_cases l.meetings (case_nodes (map case_tree l.alternatives))

abbrev pub invariant-tell_in_receives-loop-alternative : goal.invariant-tell_in_receives-loop-alternative
invariant-tell_in_receives-loop-alternative l =
    l.told ++ over_receives l.meetings (receive_nodes (map receive_tree (drop l.alternative-index l.alternatives))) ≡ l.fn.told ++ over_receives l.meetings (receive_nodes (map receive_tree l.alternatives))

abbrev pub invariant-tell_in_named-loop-alternative : goal.invariant-tell_in_named-loop-alternative
invariant-tell_in_named-loop-alternative l =
    l.told ++ over_named l.meetings (named_nodes (map named_tree (drop l.alternative-index l.alternatives))) ≡ l.fn.told ++ over_named l.meetings (named_nodes (map named_tree l.alternatives))

abbrev pub invariant-tell_in_body-loop-part : goal.invariant-tell_in_body-loop-part
invariant-tell_in_body-loop-part l =
    l.told ++ over_body l.meetings (body_nodes (body_trees (drop l.part-index l.body))) ≡ l.fn.told ++ over_body l.meetings (body_nodes (body_trees l.body))
