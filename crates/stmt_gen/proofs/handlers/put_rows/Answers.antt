use Rattle.std.proofs.Common.{ℕ, ◌≤◌, Bool, List, [], ◌∷◌, true, false, sym, ap, subst, ◌∙◌, arith, OnOk}
use Rattle.std.proofs.lemmas.Result.{on_ok_weaker}
use Rattle.checked_program.specs.declared.statement.Handler.{out-Handler}
use Rattle.program_trees.specs.StatementTree.{statements_of}
use Rattle.code_scheme.specs.StatementGoing.{go_on, leave_size}
use Rattle.code_scheme.specs.StatementSize.{statements_size}
use Rattle.code_scheme.specs.StatementRows.{row_for}
use Rattle.stmt_gen.specs.Appending.{AppendsRows}
use Rattle.action_gen.specs.Putting.{site_tree}
use Rattle.stmt_gen.specs.declared.again.Span.{Span}
use Rattle.stmt_gen.proofs.Front.{front_on, front_as}
use Rattle.stmt_gen.proofs.Rows.{rows_begin, rows_turn, rows_else, rows_end, next_row}
use Rattle.stmt_gen.proofs.handlers.put_rows.Goals as goal

pub loop-alternative-preserved : goal.loop-alternative-preserved
loop-alternative-preserved c =
    let fits : c.args.behind ≤ 4294967295 = omega arith in
    let row = subst (λ (s : Span). AppendsRows (row_for s.from s.until c.in_ok-names.names false s.target ∷ []) c.loop-alternative.draft.code c.put_row.new.draft.code) c.to.ensures c.in_ok-put_row.ensures.puts in
    record {
      left = rows_turn c.args.site.now c.as_slice-alternatives.result.now _ c.args.first c.args.behind c.loop-alternative.alternative-index c.loop-alternative.target c.saturating_add-target.result
          c.alternative-item.result c.in_ok-names.names c.as_slice-actions.result.now c.loop-alternative-test.true c.alternative-item.is c.in_ok-names.ensures c.as_slice-actions.ensures
          (λ rest is. next_row c.loop-alternative.target (statements_size (site_tree c.args.site.now) (statements_of c.as_slice-actions.result.now)) rest c.args.behind
          c.statements_size.result c.saturating_add-end.result c.saturating_sub.result c.leaving_size.result c.saturating_add-target.result (go_on (statements_of c.as_slice-actions.result.now))
          fits is c.statements_size.ensures c.saturating_add-end.ensures c.saturating_sub.ensures
          (λ n f. c.leaving_size.ensures n f ∙ ap (λ (b : Bool). leave_size b n) c.go_on.ensures) c.saturating_add-target.ensures)
          c.loop-alternative.invariant.left row;
      keeps = front_on c.loop-alternative.invariant.keeps c.in_ok-put_row.ensures.keeps;
    }

pub returns-in-Some-clause-puts : goal.returns-in-Some-clause-puts
returns-in-Some-clause-puts c =
    on_ok_weaker c.put_row-in-Some.result
    (λ q. rows_else c.args.site.now c.args.handler.now c.as_slice-alternatives.result.now c.in-Some.field-0 c.args.first c.args.behind c.loop-alternative.alternative-index c.loop-alternative.target
    c.as_slice-alternatives.ensures c.loop-alternative-test.false c.in-Some.is c.loop-alternative.invariant.left
    (subst (λ (s : Span). AppendsRows (row_for s.from s.until [] true s.target ∷ []) c.loop-alternative.draft.code c.put_row-in-Some.new.draft.code) c.to-in-Some.ensures (subst (λ (ns : List ℕ). AppendsRows (row_for c.to-in-Some.result.from c.to-in-Some.result.until ns true c.to-in-Some.result.target ∷ []) c.loop-alternative.draft.code c.put_row-in-Some.new.draft.code) c.new.ensures q))) c.put_row-in-Some.ensures.puts

pub returns-in-None-clause-puts : goal.returns-in-None-clause-puts
returns-in-None-clause-puts c =
    rows_end c.args.site.now c.args.handler.now c.as_slice-alternatives.result.now c.args.first c.args.behind c.loop-alternative.alternative-index c.loop-alternative.target
    c.as_slice-alternatives.ensures c.loop-alternative-test.false c.in-None.is c.loop-alternative.invariant.left
