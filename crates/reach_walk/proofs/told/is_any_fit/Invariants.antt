use Rattle.std.proofs.Common.{◌≡◌, drop}
use Rattle.names_model.specs.Kinds.{fits}
use Rattle.names_model.specs.NameRules.{any_kind}
use Rattle.reach_walk.proofs.told.is_any_fit.Given as goal

abbrev pub invariant-loop-number : goal.invariant-loop-number
invariant-loop-number l = any_kind (fits l.need) l.book.all.items (drop l.number-index l.numbers) ≡ any_kind (fits l.need) l.book.all.items l.numbers
