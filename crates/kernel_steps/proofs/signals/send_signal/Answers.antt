use Rattle.std.proofs.Common.{refl, ap, sym, subst, ◌∙◌, ◌≡◌, ◌≤◌, ◌++◌, ◌∷◌, [], Option, Some, rules}
use Rattle.std.specs.Prelude.{None}
use Rattle.kernel_base.specs.declared.answer.Answer.TheVariants.{Fail}
use Rattle.kernel_base.specs.declared.ends.Exc.{Exc}
use Rattle.kernel_base.specs.declared.event.Event.TheVariants.{Did}
use Rattle.kernel_base.specs.declared.request.Request.{Request}
use Rattle.kernel_base.specs.declared.request.Request.TheVariants.{SendSignal}
use Rattle.world_model.specs.World.{refusal}
use Rattle.world_model.specs.Allowed.{SendsSignalTo}
use Rattle.kernel_steps.specs.declared.reply.Reply.TheVariants.{Now}
use Rattle.kernel_steps.specs.declared.state.State.{State}
use Rattle.kernel_steps.specs.Kept.{world_in, width_of}
use Rattle.kernel_steps.specs.Serving.{CanServe, Serves}
use Rattle.kernel_steps.proofs.Served.{rests_same}
use Rattle.kernel_steps.proofs.Plain.{plain_serves}
use Rattle.kernel_steps.proofs.signals.send_signal.Goals as goal

pub returns-in-Some : goal.returns-in-Some
returns-in-Some c =
    let s = c.args.s.now in
    let s' : State = record s { journal = c.did.new.journal } in
    let w = world_in s in
    let k = c.requires.can.kept in
    let q = c.requires.is in
    let request = SendSignal q.0 q.1 c.args.to q.2 in
    let answer = Fail c.in-Some.exception in
    let refused : refusal w c.args.to ≡ Some c.in-Some.exception = sym (c.refusal.ensures w k.seated) ∙ c.in-Some.is in
    let can = subst (λ (r : Request). CanServe s c.args.who r c.args.ready) q.3 c.requires.can in
    subst (λ (r : Request). Serves s s' c.args.who c.args.ticks r (Now answer)) (sym q.3)
    (plain_serves s s' c.args.who c.args.ticks request answer c.args.ready can (record { who = search rules; ticks = search rules; answer = c.did.ensures.in_range }) (refl, subst (λ (e : Option Exc). SendsSignalTo s.facts w q.0 c.args.to e answer) (sym refused) refl) (subst (λ (r : Request). width_of r ≤ s.widest) can.is can.room.width)
    (record { processes = refl; phases = refl; occupants = refl; held = refl; facts = refl; widest = refl; ready = refl; seats = refl; taken = refl; events = c.did.ensures.events ∙ ap (λ (r : Request). s.journal.events ++ Did c.args.who c.args.ticks r answer None ∷ []) can.is; plain = refl })
    (rests_same s.facts w _ s _ refl (record { processes = refl; stored = refl; pending = refl; sends = refl; arguments = refl; queues = refl; store = k.rests.store; locations = refl; input = k.rests.input; read = k.rests.read; taken = refl; argued = refl }) k.rests))
