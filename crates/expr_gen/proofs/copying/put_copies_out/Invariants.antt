use Rattle.std.proofs.Common.{drop}
use Rattle.code_scheme.specs.Pieces.{copies_out}
use Rattle.code_scheme.specs.ExprSizes.{copies_out_size}
use Rattle.expr_gen.specs.Putting.{Keeps, layout_of}
use Rattle.expr_gen.specs.Trees.{arguments_of}
use Rattle.expr_gen.proofs.Appending.{StillTo}
use Rattle.expr_gen.proofs.copying.put_copies_out.Given as goal

abbrev pub invariant-loop-argument : goal.invariant-loop-argument
invariant-loop-argument l = record {
  left : StillTo (λ at. copies_out (layout_of l.site.program.now l.site.body.now) (arguments_of l.arguments) l.kept l.free) (copies_out_size (arguments_of l.arguments))
      (λ at. copies_out (layout_of l.site.program.now l.site.body.now) (arguments_of (drop l.argument-index l.arguments)) l.own l.free) (copies_out_size (arguments_of (drop l.argument-index l.arguments)))
      l.initial.draft.code l.draft.code;
  keeps : Keeps l.initial.draft.code l.draft.code;
}
