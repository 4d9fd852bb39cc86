use Rattle.std.proofs.Common.{◌≡◌, ◌*◌, ◌≤◌, drop, length, vec_capacity}
use Rattle.code_types.specs.Operands.{pairs_of}
use Rattle.machine_steps.proofs.OperandLists.{behind}
use Rattle.machine_steps.proofs.operands.put_pairs.Given as goal

abbrev pub invariant-loop-i : goal.invariant-loop-i
invariant-loop-i l = (pairs_of l.numbers ≡ behind l.list.items (pairs_of (drop (2 * l.i) l.numbers))) × (length l.list.items ≡ l.i) × (l.count ≤ vec_capacity l.list) × (vec_capacity l.initial.list ≤ vec_capacity l.list)
