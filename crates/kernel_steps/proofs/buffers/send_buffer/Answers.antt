use Rattle.std.proofs.Common.{refl, ap, sym, subst, ◌∙◌, ◌+◌, ◌++◌, ◌∷◌, [], rules}
use Rattle.std.specs.Prelude.{Some, None}
use Rattle.kernel_base.specs.declared.answer.Answer.TheVariants.{Handed, Stored}
use Rattle.kernel_base.specs.declared.event.Event.TheVariants.{Did, Waits}
use Rattle.kernel_base.specs.declared.request.Request.{Request}
use Rattle.kernel_base.specs.declared.request.Request.TheVariants.{SendBuffer, ReceiveBuffer}
use Rattle.world_model.specs.Waiting.{phase_of}
use Rattle.world_model.specs.World.{held_by, with_next_send}
use Rattle.world_model.proofs.ChangedLists.{last_is_in}
use Rattle.world_model.proofs.HeldIsOccupied.{journal_holds}
use Rattle.buffers_signals.specs.Buffers as buffers
use Rattle.buffers_signals.specs.declared.messages.Sent.TheVariants as sent
use Rattle.kernel_steps.specs.declared.reply.Reply.{Reply}
use Rattle.kernel_steps.specs.declared.reply.Reply.TheVariants.{Now, Later}
use Rattle.kernel_steps.specs.declared.state.State.{State}
use Rattle.kernel_steps.specs.Kept.{world_in}
use Rattle.kernel_steps.specs.Serving.{CanServe, Serves, goes_of}
use Rattle.kernel_steps.proofs.Trading.{may_hand}
use Rattle.kernel_steps.proofs.Served.{seated_same}
use Rattle.kernel_steps.proofs.Sending.{value_by, stores_serves, hands_serves, delays_serves}
use Rattle.kernel_steps.proofs.buffers.send_buffer.Goals as goal

pub hand-going-requires-clause-seated : goal.hand-going-requires-clause-seated
hand-going-requires-clause-seated c =
    let s = c.args.s.now in
    let k = c.requires.can.kept in
    let w = world_in s in
    let q = c.requires.is in
    let h : buffers.Hands s.queues.buffers c.send.new.self q.0 (value_by (s.queues.sends + 1) c.args.who q.1 q.2) c.in-Handed.to c.in-Handed.answer = subst (λ (r : Request). buffers.Sends s.queues.buffers c.send.new.self c.args.who (s.queues.sends + 1) r (sent.Handed c.in-Handed.to c.in-Handed.answer)) q.3 c.in-Handed.ensures.sends in
    let t = may_hand s.facts w s.queues.buffers q.0 h.receiver h.alternative h.waits h.listed k.rests.trades in
    (w, ReceiveBuffer h.receiver.things t.otherwise, t.send, t.back, k.seated, ap (λ p. phase_of w p) h.who ∙ t.is)

pub returns-in-Handed : goal.returns-in-Handed
returns-in-Handed c =
    let s = c.args.s.now in
    let s' : State = record s { journal = c.goes.new.journal; seats = c.hand-going.new.seats; queues = record s.queues { buffers = c.send.new.self; sends = s.queues.sends + 1 } } in
    let q = c.requires.is in
    let answer = Handed c.in-Handed.to in
    let h : buffers.Hands s.queues.buffers c.send.new.self q.0 (value_by (s.queues.sends + 1) c.args.who q.1 q.2) c.in-Handed.to c.in-Handed.answer = subst (λ (r : Request). buffers.Sends s.queues.buffers c.send.new.self c.args.who (s.queues.sends + 1) r (sent.Handed c.in-Handed.to c.in-Handed.answer)) q.3 c.in-Handed.ensures.sends in
    let can = subst (λ (r : Request). CanServe s c.args.who r c.args.ready) q.3 c.requires.can in
    subst (λ (r : Request). Serves s s' c.args.who c.args.ticks r (Now answer)) (sym q.3)
    (hands_serves s s' c.args.who c.args.ticks q.0 q.1 q.2 c.in-Handed.to c.in-Handed.answer c.args.ready c.hand-going.result can (search rules) (search rules) (search rules)
    (record { facts = refl; widest = refl; ready = refl; events = refl; signals = refl; store = refl; read = refl; taken = refl; argued = refl; sends = refl; last = c.in-Handed.ensures.last; lengths = c.in-Handed.ensures.lengths })
    h c.hand-going.ensures.settles
    (c.goes.ensures.events ∙ ap (λ l. l ++ goes_of c.hand-going.result) (c.did.ensures.events ∙ ap (λ (r : Request). s.journal.events ++ Did c.args.who c.args.ticks r answer None ∷ []) can.is)) c.goes.ensures.in_range)

pub returns-in-Stored : goal.returns-in-Stored
returns-in-Stored c =
    let s = c.args.s.now in
    let s' : State = record s { journal = c.did-in-Stored.new.journal; queues = record s.queues { buffers = c.send.new.self; sends = s.queues.sends + 1 } } in
    let q = c.requires.is in
    let h : buffers.Stores s.queues.buffers c.send.new.self q.0 (value_by (s.queues.sends + 1) c.args.who q.1 q.2) = subst (λ (r : Request). buffers.Sends s.queues.buffers c.send.new.self c.args.who (s.queues.sends + 1) r sent.Stored) q.3 c.in-Stored.ensures.sends in
    let can = subst (λ (r : Request). CanServe s c.args.who r c.args.ready) q.3 c.requires.can in
    subst (λ (r : Request). Serves s s' c.args.who c.args.ticks r (Now Stored)) (sym q.3)
    (stores_serves s s' c.args.who c.args.ticks q.0 q.1 q.2 c.args.ready can (search rules) (search rules)
    (record { facts = refl; widest = refl; ready = refl; events = refl; signals = refl; store = refl; read = refl; taken = refl; argued = refl; sends = refl; last = c.in-Stored.ensures.last; lengths = c.in-Stored.ensures.lengths })
    refl h
    (c.did-in-Stored.ensures.events ∙ ap (λ (r : Request). s.journal.events ++ Did c.args.who c.args.ticks r Stored None ∷ []) can.is))

pub wait-going-requires-clause-seated : goal.wait-going-requires-clause-seated
wait-going-requires-clause-seated c =
    let s = c.args.s.now in
    let k = c.requires.can.kept in
    (world_in s, k.seated, c.requires.can.may.goes.active, λ region is. (journal_holds s.facts s.journal.events k.book.run).occupied c.args.who region (last_is_in (held_by (world_in s) c.args.who) region is))

pub returns-in-Delayed : goal.returns-in-Delayed
returns-in-Delayed c =
    let s = c.args.s.now in
    let s' : State = record s { seats = c.wait-going.new.seats; journal = c.waits.new.journal; queues = record s.queues { buffers = c.send.new.self; sends = s.queues.sends + 1 } } in
    let k = c.requires.can.kept in
    let w = world_in s in
    let q = c.requires.is in
    let request = SendBuffer q.0 q.1 q.2 in
    let h : buffers.DelaysSender s.queues.buffers c.send.new.self q.0 (value_by (s.queues.sends + 1) c.args.who q.1 q.2) = subst (λ (r : Request). buffers.Sends s.queues.buffers c.send.new.self c.args.who (s.queues.sends + 1) r sent.Delayed) q.3 c.in-Delayed.ensures.sends in
    let can = subst (λ (r : Request). CanServe s c.args.who r c.args.ready) q.3 c.requires.can in
    subst (λ (reply : Reply). Serves s s' c.args.who c.args.ticks c.args.request reply) (sym c.waits.ensures.reply)
    (subst (λ (r : Request). Serves s s' c.args.who c.args.ticks r Later) (sym q.3)
    (delays_serves s s' c.args.who c.args.ticks q.0 q.1 q.2 c.args.ready c.wait-going.result can (search rules) (search rules)
    (record { facts = refl; widest = refl; ready = refl; events = refl; signals = refl; store = refl; read = refl; taken = refl; argued = refl; sends = refl; last = c.in-Delayed.ensures.last; lengths = c.in-Delayed.ensures.lengths })
    h
    (c.waits.ensures.events ∙ ap (λ (r : Request). (s.journal.events ++ Waits c.args.who c.args.ticks r ∷ []) ++ goes_of c.wait-going.result) can.is) c.waits.ensures.in_range
    (c.wait-going.ensures.settles (with_next_send w) request (Some (w.sends + 1)) (seated_same w (with_next_send w) s.seats refl refl refl refl k.seated) c.requires.can.may.goes.active (λ region is. (journal_holds s.facts s.journal.events k.book.run).occupied c.args.who region (last_is_in (held_by w c.args.who) region is)))))
