use Rattle.std.proofs.Common.{sym}
use Rattle.reach_tables.proofs.Lending.{inner-some}
use Rattle.reach_tables.proofs.given.lent_inner.Goals as goal

pub returns-in-Some : goal.returns-in-Some
returns-in-Some c = inner-some c.args.own.now _ _ (sym c.in-Some.ensures.value) c.as_slice.ensures
