use Rattle.std.proofs.Common.{◌≡◌, drop, map, true}
use Rattle.program_trees.specs.ExprTree.{received_of}
use Rattle.program_trees.specs.ProgramTree.{local_row_tree}
use Rattle.code_scheme.specs.Pieces.{kept_behind}
use Rattle.code_scheme.specs.ExprSizes.{indices_size, received_sizes, members_size, arguments_size}
use Rattle.code_scheme.specs.ExprCode.{indices_code, received_codes, members_code, arguments_code}
use Rattle.expr_gen.specs.Putting.{Keeps, layout_of}
use Rattle.expr_gen.specs.Trees.{parts_of, ranges_of, arguments_of}
use Rattle.expr_gen.proofs.Appending.{StillTo}
use Rattle.expr_gen.proofs.values.+value.Given as goal

abbrev pub invariant-put_indices-loop-part : goal.invariant-put_indices-loop-part
invariant-put_indices-loop-part l = record {
  left : StillTo (λ at. indices_code (layout_of l.site.program.now l.site.body.now) l.free true (parts_of l.parts) at) (indices_size true (parts_of l.parts))
      (λ at. indices_code (layout_of l.site.program.now l.site.body.now) l.free l.is_first (parts_of (drop l.part-index l.parts)) at) (indices_size l.is_first (parts_of (drop l.part-index l.parts)))
      l.initial.draft.code l.draft.code;
  keeps : Keeps l.initial.draft.code l.draft.code;
}

abbrev pub invariant-put_all_received-loop-received : goal.invariant-put_all_received-loop-received
invariant-put_all_received-loop-received l = record {
  left : StillTo (λ at. received_codes (layout_of l.site.program.now l.site.body.now) l.free (received_of l.all) at) (received_sizes (received_of l.all))
      (λ at. received_codes (layout_of l.site.program.now l.site.body.now) l.free (received_of (drop l.received-index l.all)) at) (received_sizes (received_of (drop l.received-index l.all)))
      l.initial.draft.code l.draft.code;
  keeps : Keeps l.initial.draft.code l.draft.code;
}

abbrev pub invariant-put_powerset-loop-range : goal.invariant-put_powerset-loop-range
invariant-put_powerset-loop-range l = record {
  left : StillTo (λ at. members_code (layout_of l.site.program.now l.site.body.now) l.free l.bounds (ranges_of l.members) at) (members_size (ranges_of l.members))
      (λ at. members_code (layout_of l.site.program.now l.site.body.now) l.free l.bounds (ranges_of (drop l.range-index l.members)) at) (members_size (ranges_of (drop l.range-index l.members)))
      l.initial.draft.code l.draft.code;
  keeps : Keeps l.initial.draft.code l.draft.code;
}

abbrev pub invariant-put_arguments-loop-argument : goal.invariant-put_arguments-loop-argument
invariant-put_arguments-loop-argument l = record {
  left : StillTo (λ at. arguments_code (layout_of l.site.program.now l.site.body.now) (map local_row_tree l.locals) 0 l.free (arguments_of l.arguments) at) (arguments_size (arguments_of l.arguments))
      (λ at. arguments_code (layout_of l.site.program.now l.site.body.now) (map local_row_tree l.locals) l.parameter l.kept (arguments_of (drop l.argument-index l.arguments)) at) (arguments_size (arguments_of (drop l.argument-index l.arguments)))
      l.initial.draft.code l.draft.code;
  places : kept_behind (arguments_of (drop l.argument-index l.arguments)) l.kept ≡ kept_behind (arguments_of l.arguments) l.free;
  keeps : Keeps l.initial.draft.code l.draft.code;
}
