use Rattle.std.proofs.Common.{refl, ap, ◌∙◌, ◌++◌, ◌∷◌, [], arith, rules}
use Rattle.std.specs.Prelude.{None}
use Rattle.kernel_base.specs.declared.answer.Answer.TheVariants.{Fail}
use Rattle.kernel_base.specs.declared.ends.Exc.TheVariants.{Spacefail}
use Rattle.kernel_base.specs.declared.event.Event.TheVariants.{Did}
use Rattle.kernel_base.specs.declared.request.Request.{Request}
use Rattle.kernel_base.specs.declared.request.Request.TheVariants.{Start}
use Rattle.kernel_steps.specs.Kept.{world_in}
use Rattle.kernel_steps.proofs.Served.{rests_same}
use Rattle.kernel_steps.proofs.Plain.{plain_serves}
use Rattle.kernel_steps.proofs.simple.refuse_start.Goals as goal

pub returns : goal.returns
returns c =
    let s = c.args.s.now in
    let w = world_in s in
    let k = c.requires.can.kept in
    plain_serves s _ c.args.who c.args.ticks (Start c.args.process c.args.scalars) (Fail Spacefail) c.args.ready c.requires.can (record { who = search rules; ticks = search rules; answer = tt }) (refl, c.requires.full) (omega arith)
    (record { processes = refl; phases = refl; occupants = refl; held = refl; facts = refl; widest = refl; ready = refl; seats = refl; taken = refl; events = c.did.ensures.events ∙ ap (λ (q : Request). s.journal.events ++ Did c.args.who c.args.ticks q (Fail Spacefail) None ∷ []) c.requires.can.is; plain = refl })
    (rests_same s.facts w _ s _ refl (record { processes = refl; stored = refl; pending = refl; sends = refl; arguments = refl; queues = refl; store = k.rests.store; locations = refl; input = k.rests.input; read = k.rests.read; taken = refl; argued = refl }) k.rests)
