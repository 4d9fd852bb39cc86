use Rattle.std.proofs.Common.{refl, ap, sym, subst, ◌∙◌, ◌++◌, ◌∷◌, [], arith, rules}
use Rattle.std.specs.Prelude.{None, Bool, IsTrue, IsFalse}
use Rattle.std.specs.Option.{option_and_then}
use Rattle.kernel_steps.specs.Queued.{delayed_in}
use Rattle.kernel_base.specs.declared.answer.Answer.TheVariants.{Fail}
use Rattle.kernel_base.specs.declared.ends.Exc.TheVariants.{Delayfail}
use Rattle.kernel_base.specs.declared.event.Event.TheVariants.{Did, Waits}
use Rattle.kernel_base.specs.declared.request.Request.{Request}
use Rattle.kernel_base.specs.declared.request.Request.TheVariants.{Delay}
use Rattle.world_model.specs.World.{held_by}
use Rattle.world_model.proofs.ChangedLists.{last_is_in}
use Rattle.world_model.proofs.HeldIsOccupied.{journal_holds}
use Rattle.kernel_steps.specs.declared.reply.Reply.{Reply}
use Rattle.kernel_steps.specs.declared.state.State.{State}
use Rattle.kernel_steps.specs.Kept.{world_in}
use Rattle.kernel_steps.specs.Serving.{Serves, goes_of}
use Rattle.kernel_steps.proofs.Delays.{full_same}
use Rattle.kernel_steps.proofs.Served.{rests_same}
use Rattle.kernel_steps.proofs.Plain.{plain_serves}
use Rattle.kernel_steps.proofs.Sleeping.{delay_serves}
use Rattle.kernel_steps.proofs.waking.delay.Goals as goal

pub returns-then-full : goal.returns-then-full
returns-then-full c =
    let s = c.args.s.now in
    let k = c.requires.kept in
    let full : IsTrue _ = subst (λ (b : Bool). IsTrue b) (full_same s.facts (world_in s) s.queues.events c.args.events k.rests.sleeps) (subst (λ (b : Bool). IsTrue b) c.full.ensures (subst (λ (b : Bool). IsTrue b) (sym c.if-full.true) refl)) in
    plain_serves s _ c.args.who c.args.ticks (Delay c.args.events c.args.priority) (Fail Delayfail) c.args.ready c.requires (record { who = search rules; ticks = search rules; answer = tt }) (refl, (refl, full)) (omega arith)
    (record { processes = refl; phases = refl; occupants = refl; held = refl; facts = refl; widest = refl; ready = refl; seats = refl; taken = refl; events = c.did.ensures.events ∙ ap (λ (q : Request). s.journal.events ++ Did c.args.who c.args.ticks q (Fail Delayfail) None ∷ []) c.requires.is; plain = refl })
    (rests_same s.facts (world_in s) _ s _ refl (record { processes = refl; stored = refl; pending = refl; sends = refl; arguments = refl; queues = refl; store = k.rests.store; locations = refl; input = k.rests.input; read = k.rests.read; taken = refl; argued = refl }) k.rests)

pub delay-requires-clause-once : goal.delay-requires-clause-once
delay-requires-clause-once c =
    let k = c.requires.kept in
    k.rests.sleeps.delayed c.args.who ∙ ap (option_and_then (delayed_in c.args.who)) c.requires.may.goes.active

pub wait-going-requires-clause-seated : goal.wait-going-requires-clause-seated
wait-going-requires-clause-seated c =
    let s = c.args.s.now in
    let k = c.requires.kept in
    (world_in s, k.seated, c.requires.may.goes.active, λ region is. (journal_holds s.facts s.journal.events k.book.run).occupied c.args.who region (last_is_in (held_by (world_in s) c.args.who) region is))

pub returns : goal.returns
returns c =
    let s = c.args.s.now in
    let s' : State = record s { seats = c.wait-going.new.seats; journal = c.waits.new.journal; queues = record s.queues { events = c.delay.new.self } } in
    let k = c.requires.kept in
    let full : IsFalse _ = subst (λ (b : Bool). IsFalse b) (full_same s.facts (world_in s) s.queues.events c.args.events k.rests.sleeps) (subst (λ (b : Bool). IsFalse b) c.full.ensures (subst (λ (b : Bool). IsFalse b) (sym c.if-full.false) refl)) in
    subst (λ (r : Reply). Serves s s' c.args.who c.args.ticks (Delay c.args.events c.args.priority) r) (sym c.waits.ensures.reply)
    (delay_serves s s' c.args.who c.args.ticks c.args.events c.args.priority c.args.ready c.wait-going.result c.requires (search rules) (search rules) full
    (record { facts = refl; widest = refl; ready = refl; buffers = refl; signals = refl; sends = refl; store = refl; read = refl; taken = refl; argued = refl })
    c.delay.ensures.lengths c.delay.ensures.comes
    (c.waits.ensures.events ∙ ap (λ (q : Request). (s.journal.events ++ Waits c.args.who c.args.ticks q ∷ []) ++ goes_of c.wait-going.result) c.requires.is) c.waits.ensures.in_range
    (c.wait-going.ensures.settles (world_in s) (Delay c.args.events c.args.priority) None k.seated c.requires.may.goes.active (λ region is. (journal_holds s.facts s.journal.events k.book.run).occupied c.args.who region (last_is_in (held_by (world_in s) c.args.who) region is))))
