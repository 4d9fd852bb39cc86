use Rattle.std.proofs.Common.{ℕ, ◌<◌, ◌≤◌, slice_index_or}
use Rattle.code_types.specs.declared.code.BodyRow.{BodyRow}
use Rattle.machine_steps.proofs.starting.greatest_locals.Given as goal

abbrev pub invariant-loop-row : goal.invariant-loop-row
invariant-loop-row l = (k : ℕ) (d : BodyRow) → k < l.row-index → (slice_index_or l.row-items k d).locals ≤ l.greatest
