use Rattle.std.proofs.Common.{◌≡◌, false, arith, rules, slice_index_or}
use Rattle.cycles.proofs.Reaching.{grown_one}
use Rattle.cycles.proofs.closure.Closure.reach.Goals as goal

pub returns-in_ok-push-clause-grown : goal.returns-in_ok-push-clause-grown
returns-in_ok-push-clause-grown c =
    let not_yet : slice_index_or c.args.self.now.reached.items c.args.node false ≡ false = search rules in
    rw c.in_ok-push.ensures.items (grown_one c.args.self.now.reached.items c.args.node (omega arith) c.args.self.now.waiting.items not_yet)
