use Rattle.std.proofs.Common.{ℕ, List, [], length, replicate, ap, sym, ◌∙◌, subst}
use Rattle.std.proofs.lemmas.List.{length-replicate}
use Rattle.wait_queues.specs.declared.waiters.Waiter.{Waiter}
use Rattle.wait_queues.specs.Waiting.{AreTied}
use Rattle.event_queues.specs.declared.sets.Delayed.{Delayed}
use Rattle.event_queues.specs.Delayed.{delayed_on}
use Rattle.event_queues.proofs.Choosing.{empty_tied}
use Rattle.event_queues.proofs.sets.EventSets.new.Goals as goal

pub invariant_of-result : goal.invariant_of-result
invariant_of-result c = record {
  each = ap (λ (ws : List (List Waiter)). length ws) c.in_ok-new.ensures.waiting ∙ length-replicate c.len.result [] ∙ c.len.ensures ∙ sym (ap length c.in_ok-copy.ensures);
  tied = subst (λ (ws : List (List Waiter)). AreTied delayed_on c.new.result.entries ws) (sym c.in_ok-new.ensures.waiting) (subst (λ (es : List (ℕ × Delayed)). AreTied delayed_on es (replicate c.len.result [])) (sym c.new.ensures.empty) (empty_tied c.len.result));
}
