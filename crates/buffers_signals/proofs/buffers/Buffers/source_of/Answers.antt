use Rattle.std.proofs.Common.{ap, sym, ◌∙◌}
use Rattle.kernel_base.specs.declared.request.Alternative.{Alternative}
use Rattle.buffers_signals.specs.Buffers.{SeenBuffers}
use Rattle.buffers_signals.proofs.Choosing.{nothing_for, offered_for, stored_for}
use Rattle.buffers_signals.proofs.buffers.Buffers.source_of.Goals as goal

abbrev nothing : Alternative
nothing = record { thing = 0; number = 0 }

pub returns-then-is_without_values : goal.returns-then-is_without_values
returns-then-is_without_values c =
    offered_for c.args.self.now c.args.buffers.now c.as_slice-lengths.result.now c.self.inside.stored.values c.self.inside.senders.senders
    (c.as_slice-lengths.ensures ∙ ap (λ (v : SeenBuffers). v.lengths) c.self.view_is)
    (ap (λ (v : SeenBuffers). v.stored) c.self.view_is)
    (ap (λ (v : SeenBuffers). v.senders) c.self.view_is)
    c.in_order.ensures c.each_once.ensures.rising c.each_once.ensures.once c.in-Some.best nothing c.in-Some.ensures.some (sym c.is_without_values.ensures ∙ c.if-is_without_values.true)

pub returns-else-is_without_values : goal.returns-else-is_without_values
returns-else-is_without_values c =
    stored_for c.args.self.now c.args.buffers.now c.as_slice-lengths.result.now c.self.inside.stored.values c.self.inside.senders.senders
    (c.as_slice-lengths.ensures ∙ ap (λ (v : SeenBuffers). v.lengths) c.self.view_is)
    (ap (λ (v : SeenBuffers). v.stored) c.self.view_is)
    (ap (λ (v : SeenBuffers). v.senders) c.self.view_is)
    c.in_order.ensures c.each_once.ensures.rising c.each_once.ensures.once c.in-Some.best nothing c.in-Some.ensures.some (sym c.is_without_values.ensures ∙ c.if-is_without_values.false)

pub returns-in-None : goal.returns-in-None
returns-in-None c =
    nothing_for c.args.self.now c.args.buffers.now c.as_slice-lengths.result.now c.self.inside.stored.values c.self.inside.senders.senders
    (c.as_slice-lengths.ensures ∙ ap (λ (v : SeenBuffers). v.lengths) c.self.view_is)
    (ap (λ (v : SeenBuffers). v.stored) c.self.view_is)
    (ap (λ (v : SeenBuffers). v.senders) c.self.view_is)
    c.in_order.ensures c.each_once.ensures.rising c.each_once.ensures.once c.in-None.ensures.none
