use Rattle.std.proofs.Common.{ap, ◌∙◌}
use Rattle.kernel_lists.specs.Once.{entry_of}
use Rattle.kernel_lists.proofs.Entries.{once_push}
use Rattle.buffers_signals.specs.Lists.{receiver_of}
use Rattle.buffers_signals.specs.Buffers.{SeenBuffers}
use Rattle.buffers_signals.proofs.buffers.Buffers.receive_from.Goals as goal

pub put-requires-clause-once : goal.put-requires-clause-once
put-requires-clause-once c = ap (λ (v : SeenBuffers). entry_of receiver_of v.receivers c.args.who) c.self.view_is ∙ c.requires.nothing.receives

pub invariant_of-self : goal.invariant_of-self
invariant_of-self c =
    let inv = c.self.invariant.well in
    let none = ap (λ (v : SeenBuffers). entry_of receiver_of v.receivers c.args.who) c.self.view_is ∙ c.requires.nothing.receives in
    record {
      well = record {
        senders_once = inv.senders_once;
        receivers_once = rw c.put.ensures.receivers (once_push receiver_of c.self.inside.receivers.receivers (record { who = c.args.who; process = c.args.process; things = c.args.buffers }) inv.receivers_once none);
        each = inv.each;
        distinct = inv.distinct;
      };
      sending = c.self.invariant.sending;
      receiving = c.put.ensures.places ∙ c.self.invariant.receiving;
    }
