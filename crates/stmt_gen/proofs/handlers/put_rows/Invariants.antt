use Rattle.checked_program.specs.declared.statement.Handler.{out-Handler}
use Rattle.stmt_gen.specs.Appending.{KeepsFront}
use Rattle.stmt_gen.proofs.Rows.{RowsLeft}
use Rattle.stmt_gen.proofs.handlers.put_rows.Given as goal

abbrev pub invariant-loop-alternative : goal.invariant-loop-alternative
invariant-loop-alternative l = record {
  left : RowsLeft l.site l.alternatives (out-Handler l.handler).otherwise l.first l.behind l.alternative-index l.target l.initial.draft l.draft;
  keeps : KeepsFront l.initial.draft.code l.draft.code;
}
