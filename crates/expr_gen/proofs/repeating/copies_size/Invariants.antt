use Rattle.std.proofs.Common.{◌≡◌, ◌+◌, ◌≤◌, length}
use Rattle.expr_gen.proofs.Copies.{copies_left}
use Rattle.expr_gen.proofs.repeating.copies_size.Given as goal

abbrev pub invariant-loop-turn : goal.invariant-loop-turn
invariant-loop-turn l = record {
  sum : l.size + length (copies_left l._turn l.there l.elements 0) ≡ length (copies_left 0 1 l.elements 0);
  few : l.size ≤ l._turn;
}
