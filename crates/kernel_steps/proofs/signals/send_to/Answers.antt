use Rattle.std.proofs.Common.{refl, ap, sym, subst, ◌∙◌, ◌+◌, ◌++◌, ◌∷◌, [], rules}
use Rattle.std.specs.Prelude.{None}
use Rattle.kernel_base.specs.declared.answer.Answer.TheVariants.{Handed, Stored}
use Rattle.kernel_base.specs.declared.event.Event.TheVariants.{Did}
use Rattle.kernel_base.specs.declared.request.Request.{Request}
use Rattle.kernel_base.specs.declared.request.Request.TheVariants.{SendSignal, ReceiveSignal}
use Rattle.world_model.specs.Waiting.{phase_of}
use Rattle.buffers_signals.specs.Signals as signals
use Rattle.buffers_signals.specs.declared.messages.Sent.TheVariants as sent
use Rattle.kernel_steps.specs.declared.reply.Reply.TheVariants.{Now}
use Rattle.kernel_steps.specs.declared.state.State.{State}
use Rattle.kernel_steps.specs.Kept.{world_in}
use Rattle.kernel_steps.specs.Serving.{CanServe, Serves, goes_of}
use Rattle.kernel_steps.proofs.Telling.{may_hear}
use Rattle.kernel_steps.proofs.Signalling.{sent_by, pends_where, pends_serves, hands_serves}
use Rattle.kernel_steps.proofs.signals.send_to.Goals as goal

pub hand-going-requires-clause-seated : goal.hand-going-requires-clause-seated
hand-going-requires-clause-seated c =
    let s = c.args.s.now in
    let k = c.requires.can.kept in
    let w = world_in s in
    let q = c.requires.is in
    let h : signals.Hands s.queues.signals c.send.new.self (sent_by s c.args.who q.0 q.1 c.args.to q.2) c.in-Handed.receiver c.in-Handed.answer = subst (λ (r : Request). signals.Sends s.queues.signals c.send.new.self c.args.who (s.queues.sends + 1) r (sent.Handed c.in-Handed.receiver c.in-Handed.answer)) q.3 c.in-Handed.ensures.sends in
    let t = may_hear s.facts w s.queues.signals q.0 c.args.to h.receiver h.alternative h.waits h.listed k.rests.hears in
    (w, ReceiveSignal h.receiver.things t.otherwise, t.send, t.back, k.seated, ap (λ p. phase_of w p) h.who ∙ t.is)

pub returns-in-Handed : goal.returns-in-Handed
returns-in-Handed c =
    let s = c.args.s.now in
    let s' : State = record s { journal = c.goes.new.journal; seats = c.hand-going.new.seats; queues = record s.queues { signals = c.send.new.self; sends = s.queues.sends + 1 } } in
    let q = c.requires.is in
    let request = SendSignal q.0 q.1 c.args.to q.2 in
    let answer = Handed c.in-Handed.receiver in
    let h : signals.Hands s.queues.signals c.send.new.self (sent_by s c.args.who q.0 q.1 c.args.to q.2) c.in-Handed.receiver c.in-Handed.answer = subst (λ (r : Request). signals.Sends s.queues.signals c.send.new.self c.args.who (s.queues.sends + 1) r (sent.Handed c.in-Handed.receiver c.in-Handed.answer)) q.3 c.in-Handed.ensures.sends in
    let can = subst (λ (r : Request). CanServe s c.args.who r c.args.ready) q.3 c.requires.can in
    subst (λ (r : Request). Serves s s' c.args.who c.args.ticks r (Now answer)) (sym q.3)
    (hands_serves s s' c.args.who c.args.ticks q.0 q.1 c.args.to q.2 c.in-Handed.receiver c.in-Handed.answer c.args.ready c.hand-going.result can (search rules) (search rules) (search rules) c.requires.live
    (record { facts = refl; widest = refl; ready = refl; events = refl; buffers = refl; store = refl; read = refl; taken = refl; argued = refl; sends = refl; wanted = c.in-Handed.ensures.wanted; last = c.in-Handed.ensures.last })
    h c.hand-going.ensures.settles
    (c.goes.ensures.events ∙ ap (λ l. l ++ goes_of c.hand-going.result) (c.did.ensures.events ∙ ap (λ (r : Request). s.journal.events ++ Did c.args.who c.args.ticks r answer None ∷ []) can.is)) c.goes.ensures.in_range)

pub returns-in-Stored : goal.returns-in-Stored
returns-in-Stored c =
    let s = c.args.s.now in
    let s' : State = record s { journal = c.did-in-Stored.new.journal; queues = record s.queues { signals = c.send.new.self; sends = s.queues.sends + 1 } } in
    let q = c.requires.is in
    let h = pends_where s.queues.signals c.send.new.self (sent_by s c.args.who q.0 q.1 c.args.to q.2) c.send.result c.in-Stored.is (subst (λ (r : Request). signals.Sends s.queues.signals c.send.new.self c.args.who (s.queues.sends + 1) r c.send.result) q.3 c.send.ensures.sends) in
    let can = subst (λ (r : Request). CanServe s c.args.who r c.args.ready) q.3 c.requires.can in
    subst (λ (r : Request). Serves s s' c.args.who c.args.ticks r (Now Stored)) (sym q.3)
    (pends_serves s s' c.args.who c.args.ticks q.0 q.1 c.args.to q.2 c.args.ready can (search rules) (search rules) c.requires.live
    (record { facts = refl; widest = refl; ready = refl; events = refl; buffers = refl; store = refl; read = refl; taken = refl; argued = refl; sends = refl; wanted = c.send.ensures.wanted; last = c.send.ensures.last })
    refl h
    (c.did-in-Stored.ensures.events ∙ ap (λ (r : Request). s.journal.events ++ Did c.args.who c.args.ticks r Stored None ∷ []) can.is))
