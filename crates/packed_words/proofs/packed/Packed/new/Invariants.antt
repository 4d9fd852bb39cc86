use Rattle.std.proofs.Common.{◌≡◌, ◌<◌, ℕ, length, slice_get}
use Rattle.packed_words.proofs.packed.Packed.new.Given as goal

abbrev pub invariant-loop-k : goal.invariant-loop-k
invariant-loop-k l = record {
  layout : l.packed.layout ≡ l.fn.layout;
  count : length l.packed.scalars ≡ length l.fn.layout;
  done : (j : ℕ) → j < l.k → slice_get l.packed.scalars j ≡ slice_get l.scalars j;
}
