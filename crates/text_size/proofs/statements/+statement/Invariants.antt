use Rattle.std.proofs.Common.{◌≡◌, ◌+◌, ◌≤◌, drop, map}
use Rattle.text_size.specs.Nodes.{capped}
use Rattle.chill_tree.specs.StatementTree.{branch_tree, case_tree, named_tree, receive_tree, statement_trees, body_trees, statement_nodes, branch_nodes, case_nodes, named_nodes, receive_nodes}
use Rattle.text_size.specs.Sizes.{body_size, statements_size, named_size, cases_size, receives_size, branches_size}
use Rattle.text_size.proofs.statements.+statement.Given as goal

abbrev pub invariant-size_of_body-loop-part : goal.invariant-size_of_body-loop-part
invariant-size_of_body-loop-part l = record {
  few : l.size ≤ 4294967295;
  sum : capped (l.size + body_size (body_trees (drop l.part-index l.body))) ≡ capped (body_size (body_trees l.body));
}

abbrev pub invariant-size_of_actions-loop-statement : goal.invariant-size_of_actions-loop-statement
invariant-size_of_actions-loop-statement l = record {
  few : l.size ≤ 4294967295;
  sum : capped (l.size + statements_size (statement_nodes (statement_trees (drop l.statement-index l.actions)))) ≡ capped (statements_size (statement_nodes (statement_trees l.actions)));
}

abbrev pub invariant-size_of_alternatives-loop-own : goal.invariant-size_of_alternatives-loop-own
invariant-size_of_alternatives-loop-own l = record {
  few : l.size ≤ 4294967295;
  sum : capped (l.size + named_size (named_nodes (map named_tree (drop l.own-index l.alternatives)))) ≡ capped (named_size (named_nodes (map named_tree l.alternatives)));
}

abbrev pub invariant-size_of_choices-loop-own : goal.invariant-size_of_choices-loop-own
invariant-size_of_choices-loop-own l = record {
  few : l.size ≤ 4294967295;
  sum : capped (l.size + cases_size (case_nodes (map case_tree (drop l.own-index l.alternatives)))) ≡ capped (cases_size (case_nodes (map case_tree l.alternatives)));
}

abbrev pub invariant-size_of_receiving-loop-own : goal.invariant-size_of_receiving-loop-own
invariant-size_of_receiving-loop-own l = record {
  few : l.size ≤ 4294967295;
  sum : capped (l.size + receives_size (receive_nodes (map receive_tree (drop l.own-index l.alternatives)))) ≡ capped (receives_size (receive_nodes (map receive_tree l.alternatives)));
}

abbrev pub invariant-size_of_branches-loop-own : goal.invariant-size_of_branches-loop-own
invariant-size_of_branches-loop-own l = record {
  few : l.size ≤ 4294967295;
  sum : capped (l.size + branches_size (branch_nodes (map branch_tree (drop l.own-index l.branches)))) ≡ capped (branches_size (branch_nodes (map branch_tree l.branches)));
}
