use Rattle.std.proofs.Common.{refl, sym}
use Rattle.reach_tables.proofs.Lending.{giver-some}
use Rattle.reach_tables.proofs.given.lent_giver.Goals as goal

pub returns-in-Some : goal.returns-in-Some
returns-in-Some c = giver-some c.args.own.now _ _ (sym c.in-Some.ensures.value) refl c.as_slice.ensures refl
