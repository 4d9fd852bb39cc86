use Rattle.std.proofs.Common.{◌≡◌, true, false, sym, ◌∙◌, arith}
use Rattle.std.proofs.lemmas.Option.{slice_get_within, get_or_from_slice_get}
use Rattle.kernel_lists.proofs.Entries.{end_unfound, here_found, next_unfound}
use Rattle.signal_queues.specs.Pending.{queue_of}
use Rattle.buffers_signals.specs.Pending.{may_take}
use Rattle.buffers_signals.proofs.signals.first_for.Goals as goal

pub returns-then-may_be_received-clause-some : goal.returns-then-may_be_received-clause-some
returns-then-may_be_received-clause-some c =
    let queue = queue_of c.args.pending.now.queues c.args.signal in
    let x = c.at-other.result.now in
    let place = c.loop-place.place in
    let passes : may_take c.args.wanted.now c.args.who c.args.process c.at-other.result.now ≡ true = sym c.may_be_received.ensures ∙ c.if-may_be_received.true in
    here_found (may_take c.args.wanted.now c.args.who c.args.process) queue place x (slice_get_within queue place x c.at-other.ensures) (sym (get_or_from_slice_get queue place x x c.at-other.ensures)) passes c.loop-place.invariant

pub loop-place-preserved : goal.loop-place-preserved
loop-place-preserved c =
    let queue = queue_of c.args.pending.now.queues c.args.signal in
    let x = c.at-other.result.now in
    let place = c.loop-place.place in
    let fails : may_take c.args.wanted.now c.args.who c.args.process c.at-other.result.now ≡ false = sym c.may_be_received.ensures ∙ c.if-may_be_received.false in
    next_unfound (may_take c.args.wanted.now c.args.who c.args.process) queue place x (slice_get_within queue place x c.at-other.ensures) (sym (get_or_from_slice_get queue place x x c.at-other.ensures)) fails c.loop-place.invariant

pub returns-clause-none : goal.returns-clause-none
returns-clause-none c =
    let queue = queue_of c.args.pending.now.queues c.args.signal in
    end_unfound (may_take c.args.wanted.now c.args.who c.args.process) queue c.loop-place.place (omega (arith, c.loop-place-test.false, c.count-place-end.ensures)) c.loop-place.invariant
