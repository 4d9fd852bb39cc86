use Rattle.std.proofs.Common.{refl, ap, sym, subst, ◌∙◌, ◌≡◌, ◌++◌, ◌∷◌, [], ℕ, List, arith, rules}
use Rattle.std.specs.Prelude.{None, slice_index_or}
use Rattle.kernel_base.specs.declared.answer.Answer.{Answer}
use Rattle.kernel_base.specs.declared.answer.Answer.TheVariants.{Otherwise}
use Rattle.kernel_base.specs.declared.event.Event.TheVariants.{Did, Waits}
use Rattle.kernel_base.specs.declared.request.Request.{Request}
use Rattle.kernel_base.specs.declared.request.Request.TheVariants.{ReceiveSignal}
use Rattle.world_model.specs.World.{held_by}
use Rattle.world_model.proofs.ChangedLists.{last_is_in}
use Rattle.world_model.proofs.HeldIsOccupied.{journal_holds}
use Rattle.buffers_signals.specs.Signals as signals
use Rattle.buffers_signals.specs.declared.messages.Received.TheVariants as received
use Rattle.kernel_steps.specs.declared.reply.Reply.{Reply}
use Rattle.kernel_steps.specs.declared.reply.Reply.TheVariants.{Now, Later}
use Rattle.kernel_steps.specs.declared.state.State.{State}
use Rattle.kernel_steps.specs.Kept.{world_in}
use Rattle.kernel_steps.specs.Serving.{CanServe, Serves, goes_of}
use Rattle.kernel_steps.proofs.Hearing.{takes_width, takes_serves, nothing_serves, delays_serves}
use Rattle.kernel_steps.proofs.signals.receive_signal.Goals as goal

pub twin-handed-requires-clause-room : goal.twin-handed-requires-clause-room
twin-handed-requires-clause-room c =
    let s = c.args.s.now in
    let w = world_in s in
    let q = c.requires.is in
    let process : c.process_of-process.result ≡ slice_index_or w.processes c.args.who 0 = c.process_of-process.ensures ∙ ap (λ (l : List ℕ). slice_index_or l c.args.who 0) c.requires.can.kept.seated.placed.processes in
    let can = subst (λ (r : Request). CanServe s c.args.who r c.args.ready) q.2 c.requires.can in
    let h : signals.Takes s.queues.signals c.receive.new.self c.args.who (slice_index_or w.processes c.args.who 0) q.0 c.in-Got.answer c.in-Got.refill = subst (λ (p : ℕ). signals.Takes s.queues.signals c.receive.new.self c.args.who p q.0 c.in-Got.answer c.in-Got.refill) process (subst (λ (r : Request). signals.Receives s.queues.signals c.receive.new.self c.args.who c.process_of-process.result r (received.Got c.in-Got.answer c.in-Got.refill)) q.2 c.in-Got.ensures.receives) in
    let wide = takes_width s c.receive.new.self c.args.who c.args.ticks q.0 q.1 c.in-Got.answer c.in-Got.refill c.args.ready can (record { who = search rules; ticks = search rules; answer = c.answer_in_range.ensures }) h in
    omega (arith, wide, can.room.first)

pub wait-going-requires-clause-seated : goal.wait-going-requires-clause-seated
wait-going-requires-clause-seated c =
    let s = c.args.s.now in
    let k = c.requires.can.kept in
    (world_in s, k.seated, c.requires.can.may.goes.active, λ region is. (journal_holds s.facts s.journal.events k.book.run).occupied c.args.who region (last_is_in (held_by (world_in s) c.args.who) region is))

pub returns-in-Got : goal.returns-in-Got
returns-in-Got c =
    let s = c.args.s.now in
    let s' : State = record s { journal = c.did.new.journal; queues = record s.queues { signals = c.receive.new.self } } in
    let w = world_in s in
    let q = c.requires.is in
    let process : c.process_of-process.result ≡ slice_index_or w.processes c.args.who 0 = c.process_of-process.ensures ∙ ap (λ (l : List ℕ). slice_index_or l c.args.who 0) c.requires.can.kept.seated.placed.processes in
    let can = subst (λ (r : Request). CanServe s c.args.who r c.args.ready) q.2 c.requires.can in
    let h : signals.Takes s.queues.signals c.receive.new.self c.args.who (slice_index_or w.processes c.args.who 0) q.0 c.in-Got.answer c.in-Got.refill = subst (λ (p : ℕ). signals.Takes s.queues.signals c.receive.new.self c.args.who p q.0 c.in-Got.answer c.in-Got.refill) process (subst (λ (r : Request). signals.Receives s.queues.signals c.receive.new.self c.args.who c.process_of-process.result r (received.Got c.in-Got.answer c.in-Got.refill)) q.2 c.in-Got.ensures.receives) in
    subst (λ (a : Answer). Serves s s' c.args.who c.args.ticks c.args.request (Now a)) (sym c.twin-handed.ensures)
    (subst (λ (r : Request). Serves s s' c.args.who c.args.ticks r (Now c.in-Got.answer)) (sym q.2)
    (takes_serves s s' c.args.who c.args.ticks q.0 q.1 c.in-Got.answer c.in-Got.refill c.args.ready can (record { who = search rules; ticks = search rules; answer = c.did.ensures.in_range })
    (record { facts = refl; widest = refl; ready = refl; events = refl; buffers = refl; store = refl; read = refl; taken = refl; argued = refl; sends = refl; wanted = c.in-Got.ensures.wanted; last = c.in-Got.ensures.last })
    refl h
    (c.did.ensures.events ∙ ap (λ (r : Request). s.journal.events ++ Did c.args.who c.args.ticks r c.in-Got.answer None ∷ []) can.is)))

pub returns-in-Otherwise : goal.returns-in-Otherwise
returns-in-Otherwise c =
    let s = c.args.s.now in
    let s' : State = record s { journal = c.did-in-Otherwise.new.journal; queues = record s.queues { signals = c.receive.new.self } } in
    let w = world_in s in
    let q = c.requires.is in
    let process : c.process_of-process.result ≡ slice_index_or w.processes c.args.who 0 = c.process_of-process.ensures ∙ ap (λ (l : List ℕ). slice_index_or l c.args.who 0) c.requires.can.kept.seated.placed.processes in
    let can = subst (λ (r : Request). CanServe s c.args.who r c.args.ready) q.2 c.requires.can in
    let h : signals.TakesNothing s.queues.signals c.receive.new.self c.args.who (slice_index_or w.processes c.args.who 0) q.0 q.1 = subst (λ (p : ℕ). signals.TakesNothing s.queues.signals c.receive.new.self c.args.who p q.0 q.1) process (subst (λ (r : Request). signals.Receives s.queues.signals c.receive.new.self c.args.who c.process_of-process.result r received.Otherwise) q.2 c.in-Otherwise.ensures.receives) in
    subst (λ (r : Request). Serves s s' c.args.who c.args.ticks r (Now Otherwise)) (sym q.2)
    (nothing_serves s s' c.args.who c.args.ticks q.0 q.1 c.args.ready can (search rules) (search rules)
    (record { facts = refl; widest = refl; ready = refl; events = refl; buffers = refl; store = refl; read = refl; taken = refl; argued = refl; sends = refl; wanted = c.in-Otherwise.ensures.wanted; last = c.in-Otherwise.ensures.last })
    refl h
    (c.did-in-Otherwise.ensures.events ∙ ap (λ (r : Request). s.journal.events ++ Did c.args.who c.args.ticks r Otherwise None ∷ []) can.is))

pub returns-in-Delayed : goal.returns-in-Delayed
returns-in-Delayed c =
    let s = c.args.s.now in
    let s' : State = record s { seats = c.wait-going.new.seats; journal = c.waits.new.journal; queues = record s.queues { signals = c.receive.new.self } } in
    let k = c.requires.can.kept in
    let w = world_in s in
    let q = c.requires.is in
    let process : c.process_of-process.result ≡ slice_index_or w.processes c.args.who 0 = c.process_of-process.ensures ∙ ap (λ (l : List ℕ). slice_index_or l c.args.who 0) k.seated.placed.processes in
    let can = subst (λ (r : Request). CanServe s c.args.who r c.args.ready) q.2 c.requires.can in
    let h : signals.DelaysReceiver s.queues.signals c.receive.new.self c.args.who (slice_index_or w.processes c.args.who 0) q.0 q.1 = subst (λ (p : ℕ). signals.DelaysReceiver s.queues.signals c.receive.new.self c.args.who p q.0 q.1) process (subst (λ (r : Request). signals.Receives s.queues.signals c.receive.new.self c.args.who c.process_of-process.result r received.Delayed) q.2 c.in-Delayed.ensures.receives) in
    subst (λ (reply : Reply). Serves s s' c.args.who c.args.ticks c.args.request reply) (sym c.waits.ensures.reply)
    (subst (λ (r : Request). Serves s s' c.args.who c.args.ticks r Later) (sym q.2)
    (delays_serves s s' c.args.who c.args.ticks q.0 q.1 c.args.ready c.wait-going.result can (search rules) (search rules)
    (record { facts = refl; widest = refl; ready = refl; events = refl; buffers = refl; store = refl; read = refl; taken = refl; argued = refl; sends = refl; wanted = c.in-Delayed.ensures.wanted; last = c.in-Delayed.ensures.last })
    h
    (c.waits.ensures.events ∙ ap (λ (r : Request). (s.journal.events ++ Waits c.args.who c.args.ticks r ∷ []) ++ goes_of c.wait-going.result) can.is) c.waits.ensures.in_range
    (c.wait-going.ensures.settles w (ReceiveSignal q.0 q.1) None k.seated c.requires.can.may.goes.active (λ region is. (journal_holds s.facts s.journal.events k.book.run).occupied c.args.who region (last_is_in (held_by w c.args.who) region is)))))
