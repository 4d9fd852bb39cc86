use Rattle.std.proofs.Common.{◌≡◌, ◌*◌, ◌≤◌, drop, length, map, vec_capacity}
use Rattle.code_types.specs.Operands.{triples_of}
use Rattle.machine_steps.specs.Views.{slot_of}
use Rattle.machine_steps.proofs.OperandLists.{behind_both}
use Rattle.machine_steps.proofs.operands.put_triples.Given as goal

abbrev pub invariant-loop-number : goal.invariant-loop-number
invariant-loop-number l = (triples_of l.locals 0 l.numbers ≡ behind_both l.things.items (map slot_of l.slots.items) (triples_of l.locals l.number (drop (3 * l.number) l.numbers))) × (length l.things.items ≡ l.number) × (length l.slots.items ≡ l.number) × (l.count ≤ vec_capacity l.things) × (l.count ≤ vec_capacity l.slots) × (vec_capacity l.initial.things ≤ vec_capacity l.things) × (vec_capacity l.initial.slots ≤ vec_capacity l.slots)
