use Rattle.std.proofs.Common.{◌≡◌, ◌+◌, ◌≤◌, length, take}
use Rattle.world_model.specs.Lists.{with_scalars}
use Rattle.shared_store.proofs.store.write_from.Given as goal

abbrev pub invariant-loop-k : goal.invariant-loop-k
invariant-loop-k l = record {
  layout : l.packed.layout ≡ l.fn.packed.layout;
  count : length l.packed.scalars ≡ length l.fn.packed.scalars;
  scalars : l.packed.scalars ≡ with_scalars l.fn.packed.scalars l.first (take l.k l.numbers);
}
