use Rattle.std.proofs.Common.{◌≡◌, ◌+◌, ◌≤◌, drop, true}
use Rattle.program_trees.specs.ExprTree.{received_of}
use Rattle.code_scheme.specs.Pieces.{capped}
use Rattle.code_scheme.specs.ExprSizes.{indices_size, received_sizes, members_size, arguments_size, copies_out_size}
use Rattle.expr_gen.specs.Trees.{parts_of, ranges_of, arguments_of}
use Rattle.expr_gen.proofs.sizes.+size.Given as goal

abbrev pub invariant-indices_size-loop-part : goal.invariant-indices_size-loop-part
invariant-indices_size-loop-part l = record {
  counted : capped (l.size + indices_size l.is_first (parts_of (drop l.part-index l.parts))) ≡ capped (indices_size true (parts_of l.parts));
  few : l.size ≤ 4294967295;
}

abbrev pub invariant-received_sizes-loop-received : goal.invariant-received_sizes-loop-received
invariant-received_sizes-loop-received l = record {
  counted : capped (l.size + received_sizes (received_of (drop l.received-index l.all))) ≡ capped (received_sizes (received_of l.all));
  few : l.size ≤ 4294967295;
}

abbrev pub invariant-powerset_size-loop-range : goal.invariant-powerset_size-loop-range
invariant-powerset_size-loop-range l = record {
  counted : capped (l.size + members_size (ranges_of (drop l.range-index l.members))) ≡ capped (1 + members_size (ranges_of l.members));
  few : l.size ≤ 4294967295;
}

abbrev pub invariant-arguments_size-loop-argument : goal.invariant-arguments_size-loop-argument
invariant-arguments_size-loop-argument l = record {
  counted : capped (l.size + (arguments_size (arguments_of (drop l.argument-index l.arguments)) + copies_out_size (arguments_of (drop l.argument-index l.arguments))))
      ≡ capped (1 + (arguments_size (arguments_of l.arguments) + copies_out_size (arguments_of l.arguments)));
  few : l.size ≤ 4294967295;
}
