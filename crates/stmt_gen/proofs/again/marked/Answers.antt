use Rattle.std.proofs.Common.{ℕ, List, ◌++◌, ap, refl, ◌∙◌}
use Rattle.stmt_gen.specs.Marking.{has_mark, where_marked}
use Rattle.stmt_gen.proofs.Marks.{marked_next}
use Rattle.stmt_gen.proofs.again.marked.Goals as goal

pub loop-number-preserved : goal.loop-number-preserved
loop-number-preserved c =
    c.in_ok-put_marked.ensures ∙ ap (λ (xs : List ℕ). xs ++ where_marked (has_mark c.args.marks.now c.loop-number.number) c.loop-number.number) c.loop-number.invariant
    ∙ marked_next (has_mark c.args.marks.now) c.loop-number.number (has_mark c.args.marks.now c.loop-number.number) refl
