use Rattle.std.proofs.Common.{◌≡◌, ◌++◌, [], drop, map}
use Rattle.chill_tree.specs.StatementTree.{branch_tree, case_tree, named_tree, receive_tree, statement_trees, body_trees, statement_nodes, branch_nodes, case_nodes, named_nodes, receive_nodes, body_nodes}
use Rattle.checks_model.specs.Sites.{sites_of_each, sites_of_branches, sites_of_parts}
use Rattle.expr_rules.specs.Views.{own_class}
use Rattle.statement_laws.specs.Steps.{told_at_all, told_in_cases, told_in_named, told_in_receives, told_in_exceptions}
use Rattle.statement_rules.specs.Views.{around_tree}
use Rattle.statement_rules.specs.Grounds.{ground_at, IsGrounded}
use Rattle.statement_rules.proofs.walk.Statements.+statement.Given as goal

abbrev pub invariant-tell_in_body-loop-part : goal.invariant-tell_in_body-loop-part
invariant-tell_in_body-loop-part l = IsGrounded l.self →
    l.told ++ told_at_all (ground_at l.self) (sites_of_parts (around_tree l.around) (body_nodes (body_trees (drop l.part-index l.body)))) ≡ l.fn.told ++ told_at_all (ground_at l.self) (sites_of_parts (around_tree l.around) (body_nodes (body_trees l.body)))

abbrev pub invariant-tell_in_actions-loop-statement : goal.invariant-tell_in_actions-loop-statement
invariant-tell_in_actions-loop-statement l = IsGrounded l.self →
    l.told ++ told_at_all (ground_at l.self) (sites_of_each (around_tree l.around) (statement_nodes (statement_trees (drop l.statement-index l.actions)))) ≡ l.fn.told ++ told_at_all (ground_at l.self) (sites_of_each (around_tree l.around) (statement_nodes (statement_trees l.actions)))

abbrev pub invariant-tell_in_branches-loop-branch : goal.invariant-tell_in_branches-loop-branch
invariant-tell_in_branches-loop-branch l = IsGrounded l.self →
    l.told ++ told_at_all (ground_at l.self) (sites_of_branches (around_tree l.around) (branch_nodes (map branch_tree (drop l.branch-index l.branches)))) ≡ l.fn.told ++ told_at_all (ground_at l.self) (sites_of_branches (around_tree l.around) (branch_nodes (map branch_tree l.branches)))

abbrev pub invariant-tell_in_choices-loop-alternative : goal.invariant-tell_in_choices-loop-alternative
invariant-tell_in_choices-loop-alternative l = IsGrounded l.self →
    l.told ++ told_in_cases (ground_at l.self) (around_tree l.around) (own_class l.selector) (case_nodes (map case_tree (drop l.alternative-index l.alternatives))) ≡ l.fn.told ++ told_in_cases (ground_at l.self) (around_tree l.around) (own_class l.selector) (case_nodes (map case_tree l.alternatives))

abbrev pub invariant-tell_in_delays-loop-alternative : goal.invariant-tell_in_delays-loop-alternative
invariant-tell_in_delays-loop-alternative l = IsGrounded l.self →
    l.told ++ told_in_named (ground_at l.self) (around_tree l.around) (named_nodes (map named_tree (drop l.alternative-index l.alternatives))) ≡ l.fn.told ++ told_in_named (ground_at l.self) (around_tree l.around) (named_nodes (map named_tree l.alternatives))

abbrev pub invariant-tell_in_receiving-loop-alternative : goal.invariant-tell_in_receiving-loop-alternative
invariant-tell_in_receiving-loop-alternative l = IsGrounded l.self →
    l.told ++ told_in_receives (ground_at l.self) (around_tree l.around) (receive_nodes (map receive_tree (drop l.alternative-index l.alternatives))) ≡ l.fn.told ++ told_in_receives (ground_at l.self) (around_tree l.around) (receive_nodes (map receive_tree l.alternatives))

abbrev pub invariant-tell_in_exceptions-loop-alternative : goal.invariant-tell_in_exceptions-loop-alternative
invariant-tell_in_exceptions-loop-alternative l = IsGrounded l.self →
    l.told ++ told_in_exceptions (ground_at l.self) (around_tree l.around) l.listed (named_nodes (map named_tree (drop l.alternative-index l.alternatives))) ≡ l.fn.told ++ told_in_exceptions (ground_at l.self) (around_tree l.around) [] (named_nodes (map named_tree l.alternatives))
