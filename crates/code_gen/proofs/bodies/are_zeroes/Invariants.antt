use Rattle.std.proofs.Common.{◌≡◌, pos, drop}
use Rattle.std.specs.List.{list_all}
use Rattle.code_scheme.specs.Pieces.{are_same}
use Rattle.code_gen.proofs.bodies.are_zeroes.Given as goal

abbrev pub invariant-loop-scalar : goal.invariant-loop-scalar
invariant-loop-scalar l = list_all (λ x. are_same x (pos 0)) (drop l.scalar-index l.scalars) ≡ list_all (λ x. are_same x (pos 0)) l.scalars
