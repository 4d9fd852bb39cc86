use Rattle.std.proofs.Common.{◌≡◌, drop}
use Rattle.code_scheme.specs.BodyItems.{is_among}
use Rattle.stmt_gen.proofs.again.is_among.Given as goal

abbrev pub invariant-loop-other : goal.invariant-loop-other
invariant-loop-other l = is_among l.number (drop l.other-index l.numbers) ≡ is_among l.number l.numbers
