use Rattle.std.proofs.Common.{◌<◌, length, arith, eq-eqb}
use Rattle.kernel_lists.proofs.Entries.{here_found}
use Rattle.wait_queues.specs.Waiting.{is_of}
use Rattle.wait_queues.proofs.waiters.place_of.Goals as goal

pub returns-then-index-who-clause-some : goal.returns-then-index-who-clause-some
returns-then-index-who-clause-some c =
    let low : c.loop-place.place < length c.args.waiters.now.items = omega (arith, c.loop-place-test.true, c.len-place-end.ensures, c.args.waiters.now.ok.0) in
    here_found (is_of c.args.who) c.args.waiters.now.items c.loop-place.place c.index.result.now low c.index.ensures (eq-eqb _ _ c.if-index-who.true) c.loop-place.invariant
