use Rattle.std.proofs.Common.{refl, ap, ◌∙◌, ◌++◌, List, rules}
use Rattle.std.specs.Prelude.{Some, None}
use Rattle.kernel_base.specs.declared.event.Event.{Event}
use Rattle.world_model.proofs.ChangedLists.{read_is}
use Rattle.kernel_steps.specs.Kept.{world_in}
use Rattle.kernel_steps.specs.Serving.{goes_of}
use Rattle.kernel_steps.proofs.Entering.{leave_serves}
use Rattle.kernel_steps.proofs.regions.leave_own.Goals as goal

pub returns : goal.returns
returns c =
    let s = c.args.s.now in
    let k = c.requires.can.kept in
    leave_serves s _ c.args.who c.args.ticks c.args.region c.args.ready c.release-going.result c.requires.can (search rules) (search rules) (read_is (world_in s).occupants c.args.region None (Some c.args.who) c.requires.own)
    (record { facts = refl; widest = refl; ready = refl; queues = refl; store = refl; read = refl; taken = refl; argued = refl })
    (c.goes.ensures.events ∙ ap (λ (l : List Event). l ++ goes_of c.release-going.result) c.did.ensures.events) c.goes.ensures.in_range
    (c.release-going.ensures.settles (world_in s) c.args.who k.seated c.requires.own)
