use Rattle.std.proofs.Common.{◌≡◌, ◌+◌, ◌≤◌, drop}
use Rattle.code_scheme.specs.Pieces.{capped}
use Rattle.code_scheme.specs.StatementPlain.{names_size}
use Rattle.action_gen.proofs.assigning.names_size.Given as goal

abbrev pub invariant-loop-name : goal.invariant-loop-name
invariant-loop-name l = record {
  counted : capped (l.size + names_size (drop l.name-index l.names)) ≡ capped (names_size l.names);
  few : l.size ≤ 4294967295;
}
