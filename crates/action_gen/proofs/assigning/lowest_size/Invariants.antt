use Rattle.std.proofs.Common.{◌≡◌, ◌+◌, ◌≤◌, drop}
use Rattle.code_scheme.specs.Pieces.{capped}
use Rattle.code_scheme.specs.StatementPlain.{set_lowest_size}
use Rattle.action_gen.proofs.assigning.lowest_size.Given as goal

abbrev pub invariant-loop-local : goal.invariant-loop-local
invariant-loop-local l = record {
  counted : capped (l.size + set_lowest_size (drop l._local-index l.locals) l.value) ≡ capped (set_lowest_size l.locals l.value);
  few : l.size ≤ 4294967295;
}
