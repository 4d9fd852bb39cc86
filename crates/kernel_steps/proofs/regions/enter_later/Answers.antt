use Rattle.std.proofs.Common.{refl, sym, subst, ◌∙◌, append-nil, rules}
use Rattle.kernel_base.specs.declared.request.Request.TheVariants.{Enter}
use Rattle.world_model.specs.declared.world.Phase.TheVariants.{Active}
use Rattle.kernel_steps.specs.declared.reply.Reply.{Reply}
use Rattle.kernel_steps.specs.declared.state.State.{State}
use Rattle.kernel_steps.specs.Kept.{world_in}
use Rattle.kernel_steps.specs.Serving.{Serves}
use Rattle.kernel_steps.proofs.Placed.{some_instance}
use Rattle.kernel_steps.proofs.Entering.{enter_waits}
use Rattle.kernel_steps.proofs.regions.enter_later.Goals as goal

pub returns : goal.returns
returns c =
    let s = c.args.s.now in
    let s' : State = record s { seats = c.suspend.new.seats; journal = c.waits.new.journal } in
    let k = c.requires.can.kept in
    let active = c.requires.can.may.goes.active in
    let some = some_instance (world_in s) s.seats c.args.who Active k.seated.placed active (λ e. let f : ⊥ = cc in f) in
    subst (λ (r : Reply). Serves s s' c.args.who c.args.ticks (Enter c.args.region) r) (sym c.waits.ensures.reply)
    (enter_waits s s' c.args.who c.args.ticks c.args.region c.args.ready c.requires.can (search rules) (search rules) c.requires.taken
    (record { facts = refl; widest = refl; ready = refl; queues = refl; store = refl; read = refl; taken = refl; argued = refl }) (c.waits.ensures.events ∙ append-nil _)
    (c.suspend.ensures.seated (world_in s) Active c.requires.taken.0 k.seated active refl c.requires.taken.1 some refl))
