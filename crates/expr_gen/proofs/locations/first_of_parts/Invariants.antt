use Rattle.std.proofs.Common.{◌≡◌, ◌+◌, ◌≤◌, drop}
use Rattle.code_scheme.specs.Pieces.{capped, first_of_parts}
use Rattle.expr_gen.specs.Trees.{parts_of}
use Rattle.expr_gen.proofs.locations.first_of_parts.Given as goal

abbrev pub invariant-loop-part : goal.invariant-loop-part
invariant-loop-part l = record {
  counted : capped (l.first + first_of_parts (parts_of (drop l.part-index l.parts))) ≡ capped (first_of_parts (parts_of l.parts));
  few : l.first ≤ 4294967295;
}
