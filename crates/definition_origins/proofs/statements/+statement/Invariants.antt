use Rattle.std.proofs.Common.{◌≡◌, ◌++◌, drop, map}
use Rattle.chill_tree.specs.StatementTree.{branch_tree, case_tree, named_tree, receive_tree, statement_trees, body_trees, statement_nodes, branch_nodes, case_nodes, named_nodes, receive_nodes, body_nodes}
use Rattle.checks_model.specs.Origins.{origins_in_each, origins_in_branches, origins_in_cases, origins_in_named, origins_in_receives, origins_in_parts}
use Rattle.definition_origins.specs.OriginTrees.{origin_trees}
use Rattle.definition_origins.proofs.statements.+statement.Given as goal

abbrev pub invariant-add_actions-loop-action : goal.invariant-add_actions-loop-action
invariant-add_actions-loop-action l = origin_trees l.found ++ origins_in_each (statement_nodes (statement_trees (drop l.action-index l.actions))) ≡ origin_trees l.fn.found ++ origins_in_each (statement_nodes (statement_trees l.actions))

abbrev pub invariant-add_branches-loop-branch : goal.invariant-add_branches-loop-branch
invariant-add_branches-loop-branch l = origin_trees l.found ++ origins_in_branches (branch_nodes (map branch_tree (drop l.branch-index l.branches))) ≡ origin_trees l.fn.found ++ origins_in_branches (branch_nodes (map branch_tree l.branches))

abbrev pub invariant-add_cases-loop-alternative : goal.invariant-add_cases-loop-alternative
invariant-add_cases-loop-alternative l = origin_trees l.found ++ origins_in_cases (case_nodes (map case_tree (drop l.alternative-index l.alternatives))) ≡ origin_trees l.fn.found ++ origins_in_cases (case_nodes (map case_tree l.alternatives))

abbrev pub invariant-add_alternatives-loop-alternative : goal.invariant-add_alternatives-loop-alternative
invariant-add_alternatives-loop-alternative l = origin_trees l.found ++ origins_in_named (named_nodes (map named_tree (drop l.alternative-index l.alternatives))) ≡ origin_trees l.fn.found ++ origins_in_named (named_nodes (map named_tree l.alternatives))

abbrev pub invariant-add_receives-loop-alternative : goal.invariant-add_receives-loop-alternative
invariant-add_receives-loop-alternative l = origin_trees l.found ++ origins_in_receives (receive_nodes (map receive_tree (drop l.alternative-index l.alternatives))) ≡ origin_trees l.fn.found ++ origins_in_receives (receive_nodes (map receive_tree l.alternatives))

abbrev pub invariant-add_body-loop-part : goal.invariant-add_body-loop-part
invariant-add_body-loop-part l = origin_trees l.found ++ origins_in_parts (body_nodes (body_trees (drop l.part-index l.body))) ≡ origin_trees l.fn.found ++ origins_in_parts (body_nodes (body_trees l.body))
