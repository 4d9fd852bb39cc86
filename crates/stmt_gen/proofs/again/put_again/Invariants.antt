use Rattle.stmt_gen.specs.Appending.{KeepsFront}
use Rattle.stmt_gen.proofs.Released.{ReleasesLeft}
use Rattle.stmt_gen.proofs.again.put_again.Given as goal

abbrev pub invariant-loop-exception : goal.invariant-loop-exception
invariant-loop-exception l = record {
  left : ReleasesLeft l.region l.exceptions l.from l.until l.exception-index l.initial.draft l.draft;
  keeps : KeepsFront l.initial.draft.code l.draft.code;
}
