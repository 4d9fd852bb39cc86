use Rattle.std.proofs.Common.{◌≡◌, ◌++◌, drop, map}
use Rattle.chill_tree.specs.StatementTree.{branch_tree, case_tree, named_tree, receive_tree, statement_trees, body_trees, statement_nodes, branch_nodes, case_nodes, named_nodes, receive_nodes, body_nodes}
use Rattle.names_model.specs.Parts.{part_trees}
use Rattle.names_model.specs.StatementParts.{action_parts, branch_parts, case_parts, event_parts, receive_parts, exception_parts, body_parts}
use Rattle.reach_parts.specs.Labels.{labels_in}
use Rattle.reach_parts.proofs.statement.+statement.Given as goal

-- what is added, and what the rest has, are what all have
abbrev pub invariant-add_actions-loop-action : goal.invariant-add_actions-loop-action
invariant-add_actions-loop-action l =
    part_trees l.out ++ action_parts (labels_in l.labels) (statement_nodes (statement_trees (drop l.action-index l.actions))) ≡ part_trees l.fn.out ++ action_parts (labels_in l.labels) (statement_nodes (statement_trees l.actions))

abbrev pub invariant-add_branches-loop-branch : goal.invariant-add_branches-loop-branch
invariant-add_branches-loop-branch l =
    part_trees l.out ++ branch_parts (labels_in l.labels) (branch_nodes (map branch_tree (drop l.branch-index l.branches))) ≡ part_trees l.fn.out ++ branch_parts (labels_in l.labels) (branch_nodes (map branch_tree l.branches))

abbrev pub invariant-add_cases-loop-alternative : goal.invariant-add_cases-loop-alternative
invariant-add_cases-loop-alternative l =
    part_trees l.out ++ case_parts (labels_in l.labels) (case_nodes (map case_tree (drop l.alternative-index l.alternatives))) ≡ part_trees l.fn.out ++ case_parts (labels_in l.labels) (case_nodes (map case_tree l.alternatives))

abbrev pub invariant-add_events-loop-alternative : goal.invariant-add_events-loop-alternative
invariant-add_events-loop-alternative l =
    part_trees l.out ++ event_parts (labels_in l.labels) (named_nodes (map named_tree (drop l.alternative-index l.alternatives))) ≡ part_trees l.fn.out ++ event_parts (labels_in l.labels) (named_nodes (map named_tree l.alternatives))

abbrev pub invariant-add_receipts-loop-alternative : goal.invariant-add_receipts-loop-alternative
invariant-add_receipts-loop-alternative l =
    part_trees l.out ++ receive_parts (labels_in l.labels) (receive_nodes (map receive_tree (drop l.alternative-index l.alternatives))) ≡ part_trees l.fn.out ++ receive_parts (labels_in l.labels) (receive_nodes (map receive_tree l.alternatives))

abbrev pub invariant-add_exceptions-loop-alternative : goal.invariant-add_exceptions-loop-alternative
invariant-add_exceptions-loop-alternative l =
    part_trees l.out ++ exception_parts (labels_in l.labels) (named_nodes (map named_tree (drop l.alternative-index l.alternatives))) ≡ part_trees l.fn.out ++ exception_parts (labels_in l.labels) (named_nodes (map named_tree l.alternatives))

abbrev pub invariant-add_body-loop-part : goal.invariant-add_body-loop-part
invariant-add_body-loop-part l =
    part_trees l.out ++ body_parts (labels_in l.labels) (body_nodes (body_trees (drop l.part-index l.body))) ≡ part_trees l.fn.out ++ body_parts (labels_in l.labels) (body_nodes (body_trees l.body))
