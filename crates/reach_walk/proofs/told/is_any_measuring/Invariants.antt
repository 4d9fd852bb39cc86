use Rattle.std.proofs.Common.{◌≡◌, drop}
use Rattle.names_model.specs.Kinds.{is_measuring}
use Rattle.names_model.specs.NameRules.{any_kind}
use Rattle.reach_walk.proofs.told.is_any_measuring.Given as goal

abbrev pub invariant-loop-number : goal.invariant-loop-number
invariant-loop-number l = any_kind is_measuring l.book.all.items (drop l.number-index l.numbers) ≡ any_kind is_measuring l.book.all.items l.numbers
