use Rattle.std.proofs.Common.{◌≡◌, take}
use Rattle.std.specs.Prelude.{filter}
use Rattle.code_scheme.specs.BodyItems.{is_among}
use Rattle.stmt_gen.proofs.again.those_among.Given as goal

abbrev pub invariant-loop-number : goal.invariant-loop-number
invariant-loop-number l = l.those ≡ filter (λ x. is_among x l.listed) (take l.number-index l.numbers)
