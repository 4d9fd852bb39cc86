use Rattle.std.proofs.Common.{List, ap, sym, ◌∙◌, slice_get}
use Rattle.std.specs.List.{find}
use Rattle.std.specs.Map.{values_of}
use Rattle.std.specs.Option.{option_map}
use Rattle.wait_queues.specs.declared.waiters.Waiter.{Waiter}
use Rattle.wait_queues.specs.Waiting.{waiter_of}
use Rattle.buffers_signals.specs.Arrivals.{SeenReceivers}
use Rattle.buffers_signals.specs.Lists.{lists, receiver_of}
use Rattle.buffers_signals.proofs.Firsts.{first_there}
use Rattle.buffers_signals.proofs.waiting.Receivers.first.Goals as goal

pub returns-in-Some : goal.returns-in-Some
returns-in-Some c =
    let ws = c.self.invariant.queues c.args.place c.at.result.now.waiters c.at.ensures in
    ap (option_map waiter_of) (sym c.in-Some.is ∙ c.first.ensures ∙ ap (λ (l : List Waiter). slice_get l 0) ws) ∙ first_there c.args.place (values_of c.self.inside.by_who.entries) ∙ ap (λ (v : SeenReceivers). option_map receiver_of (find (lists c.args.place) v.receivers)) c.self.view_is

pub returns-in-None : goal.returns-in-None
returns-in-None c =
    let ws = c.self.invariant.queues c.args.place c.at.result.now.waiters c.at.ensures in
    ap (option_map waiter_of) (sym c.in-None.is ∙ c.first.ensures ∙ ap (λ (l : List Waiter). slice_get l 0) ws) ∙ first_there c.args.place (values_of c.self.inside.by_who.entries) ∙ ap (λ (v : SeenReceivers). option_map receiver_of (find (lists c.args.place) v.receivers)) c.self.view_is
