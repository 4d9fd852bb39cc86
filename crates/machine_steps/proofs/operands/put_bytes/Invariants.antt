use Rattle.std.proofs.Common.{◌≡◌, ◌≤◌, drop, take, length, map, vec_capacity}
use Rattle.std.specs.Prelude.{nat_abs, pos}
use Rattle.std.specs.List.{list_all}
use Rattle.scalar_operators.specs.Numbers.{is_between}
use Rattle.machine_steps.proofs.operands.put_bytes.Given as goal

abbrev pub invariant-loop-number : goal.invariant-loop-number
invariant-loop-number l = (l.list.items ≡ map nat_abs (take l.number-index l.numbers)) × (list_all (is_between (pos 0) (pos 255)) l.numbers ≡ list_all (is_between (pos 0) (pos 255)) (drop l.number-index l.numbers)) × (length l.list.items ≡ l.number-index) × (length l.numbers ≤ vec_capacity l.list) × (vec_capacity l.initial.list ≤ vec_capacity l.list)
