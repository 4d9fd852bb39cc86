use Rattle.reach_tables.proofs.Repeated.{passes-behind}
use Rattle.reach_tables.proofs.granted.enter_grant_all.Goals as goal

pub returns : goal.returns
returns c = λ es noted has p. passes-behind _ _ noted c.args.book.now.all.items has es _ p (c.in_ok-enter_given_all.ensures es p.opens)
