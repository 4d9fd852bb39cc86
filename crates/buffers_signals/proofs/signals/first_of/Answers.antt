use Rattle.std.proofs.Common.{◌≡◌, ℕ, List, Some, None, true, false, ap, sym, ◌∙◌}
use Rattle.std.specs.List.{find}
use Rattle.std.specs.Option.{option_map}
use Rattle.std.proofs.lemmas.Option.{same_Some, slice_get_within, get_or_from_slice_get}
use Rattle.kernel_lists.proofs.Entries.{here_found, next_unfound}
use Rattle.wait_queues.specs.declared.waiters.Waiter.{Waiter}
use Rattle.wait_queues.specs.Waiting.{waiter_of}
use Rattle.buffers_signals.specs.Signals.{may_receive, takes_any}
use Rattle.buffers_signals.proofs.signals.first_of.Goals as goal

pub returns-then-may_be_received : goal.returns-then-may_be_received
returns-then-may_be_received c =
    let test = takes_any c.args.wanted.now c.args.signal c.args.receivers.now.receivers in
    let ws = c.at-waiters.result.now.waiters in
    let w = c.at-who.result in
    let place = c.loop-place.place in
    let passes : takes_any c.args.wanted.now c.args.signal c.args.receivers.now.receivers c.at-who.result ≡ true =
    ap (λ (p : ℕ). may_receive c.args.wanted.now c.args.signal None c.at-who.result.who p) (sym c.process_of.ensures) ∙ sym c.may_be_received.ensures ∙ c.if-may_be_received.true in
    let first = here_found test ws place w (slice_get_within ws place w c.at-who.ensures) (sym (get_or_from_slice_get ws place w w c.at-who.ensures)) passes c.loop-place.invariant in
    let same : first.item ≡ c.at-who.result = same_Some first.item c.at-who.result (sym first.at ∙ c.at-who.ensures) in
    sym (ap (λ (l : List Waiter). option_map waiter_of (find (takes_any c.args.wanted.now c.args.signal c.args.receivers.now.receivers) l)) (sym c.at-waiters.ensures) ∙ ap (option_map waiter_of) (first.found ∙ ap (λ (x : Waiter). Some x) same))

pub loop-place-preserved : goal.loop-place-preserved
loop-place-preserved c =
    let test = takes_any c.args.wanted.now c.args.signal c.args.receivers.now.receivers in
    let ws = c.at-waiters.result.now.waiters in
    let w = c.at-who.result in
    let place = c.loop-place.place in
    let fails : takes_any c.args.wanted.now c.args.signal c.args.receivers.now.receivers c.at-who.result ≡ false =
    ap (λ (p : ℕ). may_receive c.args.wanted.now c.args.signal None c.at-who.result.who p) (sym c.process_of.ensures) ∙ sym c.may_be_received.ensures ∙ c.if-may_be_received.false in
    next_unfound test ws place w (slice_get_within ws place w c.at-who.ensures) (sym (get_or_from_slice_get ws place w w c.at-who.ensures)) fails c.loop-place.invariant
