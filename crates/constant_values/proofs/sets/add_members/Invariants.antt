use Rattle.std.proofs.Common.{◌≡◌, ◌++◌, ◌-◌, take, drop, length}
use Rattle.scalar_operators.specs.Members.{span_in, union_of}
use Rattle.constant_values.proofs.sets.add_members.Given as goal

abbrev pub invariant-loop-place : goal.invariant-loop-place
invariant-loop-place l =
    (union_of l.fn.set (span_in (length l.fn.set) l.fn.from l.fn.to) ≡ take l.place l.words.items ++ union_of (drop l.place l.words.items) (span_in (length l.words.items - l.place) l.low l.high))
    × (length l.words.items ≡ l.place-end)
