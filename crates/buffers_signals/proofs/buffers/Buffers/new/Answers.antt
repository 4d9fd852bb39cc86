use Rattle.std.proofs.Common.{List, [], length, ap, sym, ◌∙◌, subst}
use Rattle.std.proofs.lemmas.List.{length-replicate}
use Rattle.world_model.specs.declared.world.StoredValue.{StoredValue}
use Rattle.kernel_lists.specs.Once.{AreOnce}
use Rattle.buffers_signals.specs.declared.messages.Held.{Held}
use Rattle.buffers_signals.specs.declared.messages.Receiver.{Receiver}
use Rattle.buffers_signals.specs.Lists.{receiver_of, sender_of}
use Rattle.buffers_signals.specs.Buffers.{AreDistinct}
use Rattle.buffers_signals.specs.Steps.{values}
use Rattle.buffers_signals.proofs.Distinct.{none_distinct}
use Rattle.buffers_signals.proofs.buffers.Buffers.new.Goals as goal

pub invariant_of-result : goal.invariant_of-result
invariant_of-result c = record {
  well = record {
    senders_once = subst (λ (hs : List Held). AreOnce sender_of hs) (sym c.in_ok-new-2.ensures.senders) tt;
    receivers_once = subst (λ (rs : List Receiver). AreOnce receiver_of rs) (sym c.in_ok-new-3.ensures.receivers) tt;
    each = ap (λ (l : List (List StoredValue)). length l) c.in_ok-new.ensures.values ∙ length-replicate c.len.result [] ∙ c.len.ensures ∙ sym (ap length c.in_ok-copy.ensures);
    distinct = subst (λ (hs : List Held). AreDistinct (values c.in_ok-new.field-0.values hs) 0) (sym c.in_ok-new-2.ensures.senders)
        (subst (λ (l : List (List StoredValue)). AreDistinct (values l []) 0) (sym c.in_ok-new.ensures.values) (none_distinct c.len.result));
  };
  sending = c.in_ok-new-2.ensures.places ∙ c.len-2.ensures ∙ sym (ap length c.in_ok-copy.ensures);
  receiving = c.in_ok-new-3.ensures.places ∙ c.len-3.ensures ∙ sym (ap length c.in_ok-copy.ensures);
}
