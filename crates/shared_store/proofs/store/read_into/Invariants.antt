use Rattle.std.proofs.Common.{◌≡◌, ◌+◌, ◌≤◌, ◌++◌, length, vec_capacity, vec_len}
use Rattle.world_model.specs.Lists.{scalars_at}
use Rattle.shared_store.proofs.store.read_into.Given as goal

abbrev pub invariant-loop-k : goal.invariant-loop-k
invariant-loop-k l = record {
  scalars : l.into.items ≡ l.fn.into.items ++ scalars_at l.packed.scalars l.first l.k;
  capacity : vec_capacity l.into ≡ vec_capacity l.fn.into;
  len : vec_len l.into ≡ vec_len l.fn.into + l.k;
}
