use Rattle.std.proofs.Common.{◌≡◌, ◌+◌, ◌≤◌, length, drop}
use Rattle.code_scheme.specs.Pieces.{capped}
use Rattle.action_gen.specs.Puts.{given_back}
use Rattle.action_gen.proofs.ways_out.parameters_size.Given as goal

abbrev pub invariant-loop-i : goal.invariant-loop-i
invariant-loop-i l = record {
  counted : capped (l.size + length (given_back (drop l.i l.parameters) (drop l.i l.locals))) ≡ capped (length (given_back l.parameters l.locals));
  few : l.size ≤ 4294967295;
}
