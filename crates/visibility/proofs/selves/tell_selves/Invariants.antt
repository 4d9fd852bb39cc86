use Rattle.std.proofs.Common.{◌≡◌, ◌++◌}
use Rattle.std.specs.Prelude.{flat_map, slice_get}
use Rattle.names_model.specs.Definitions.{numbers_on}
use Rattle.names_model.specs.Dependence.{is_self, told_self}
use Rattle.visibility.proofs.selves.tell_selves.Given as goal

-- N6 of the definitions so far is told
abbrev pub invariant-loop-number : goal.invariant-loop-number
invariant-loop-number l = l.out.items ≡ l.fn.out.items ++ flat_map (λ d. told_self (is_self l.book.all.items l.groups d) (slice_get l.book.all.items d)) (numbers_on 0 l.number)
