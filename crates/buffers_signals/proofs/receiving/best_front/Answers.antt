use Rattle.std.proofs.Common.{get_or, arith}
use Rattle.kernel_base.specs.declared.request.Alternative.{Alternative}
use Rattle.kernel_lists.proofs.Choice.{one_more, best_of_all, none_of_all}
use Rattle.buffers_signals.specs.Ranks.{front_rank}
use Rattle.buffers_signals.proofs.Choosing.{any_default}
use Rattle.buffers_signals.proofs.receiving.best_front.Goals as goal

pub loop-place-preserved : goal.loop-place-preserved
loop-place-preserved c = rw (c.better-found.ensures, c.rank_front.ensures) (one_more (λ (a : Alternative). front_rank c.args.lengths.now c.args.stored.now.values c.args.senders.now.senders a.thing) c.args.buffers.now c.loop-place.place (get_or c.args.buffers.now c.loop-place.place (record { thing = 0; number = 0 })) c.loop-place.found c.loop-place-test.true (any_default c.args.buffers.now c.loop-place.place (record { thing = 0; number = 0 }) _ c.loop-place-test.true) c.loop-place.invariant)

pub returns-clause-some : goal.returns-clause-some
returns-clause-some c = best_of_all (λ (a : Alternative). front_rank c.args.lengths.now c.args.stored.now.values c.args.senders.now.senders a.thing) c.args.buffers.now c.loop-place.place c.loop-place.found (omega arith) c.loop-place.invariant

pub returns-clause-none : goal.returns-clause-none
returns-clause-none c = none_of_all (λ (a : Alternative). front_rank c.args.lengths.now c.args.stored.now.values c.args.senders.now.senders a.thing) c.args.buffers.now c.loop-place.place c.loop-place.found (omega arith) c.loop-place.invariant
