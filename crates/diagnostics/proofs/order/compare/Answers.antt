use Rattle.diagnostics.proofs.Compared.{then_assoc}
use Rattle.diagnostics.proofs.order.compare.Goals as goal

-- the five decisions, grouped from the first on
pub returns : goal.returns
returns c =
    rw (
      c.then-4.ensures,
      c.then-3.ensures,
      c.then-2.ensures,
      c.then.ensures,
      c.cmp-seconds.ensures,
      c.cmp-firsts.ensures,
      c.cmp-rules.ensures,
      c.cmp-columns.ensures,
      c.cmp-lines.ensures,
      c.as_slice.ensures,
      c.as_slice-2.ensures,
      c.as_slice-3.ensures,
      c.as_slice-4.ensures,
      c.number.ensures,
      c.number-2.ensures,
    )
    (simp then_assoc)
