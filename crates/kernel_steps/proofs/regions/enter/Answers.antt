use Rattle.std.proofs.Common.{refl, sym, ◌∙◌, ◌<◌, length, rules}
use Rattle.kernel_steps.specs.Kept.{world_in}
use Rattle.kernel_steps.proofs.Entering.{is_taken, is_open, enter_serves}
use Rattle.kernel_steps.proofs.regions.enter.Goals as goal

pub enter_later-requires-clause-taken : goal.enter_later-requires-clause-taken
enter_later-requires-clause-taken c = is_taken c.args.s.now c.args.who c.args.region c.occupant.result c.occupant.ensures (sym c.is_other.ensures ∙ c.if-is_other.true) c.requires.kept.seated.placed.occupants

pub returns : goal.returns
returns c =
    let s = c.args.s.now in
    let k = c.requires.kept in
    let low : c.args.region < length s.seats.regions.occupants = search rules in
    let may = is_open s c.args.who c.args.region c.occupant.result low c.occupant.ensures (sym c.is_other.ensures ∙ c.if-is_other.false) k.seated.placed.occupants in
    enter_serves s _ c.args.who c.args.ticks c.args.region c.args.ready c.requires (search rules) (search rules) may
    (record { facts = refl; widest = refl; ready = refl; queues = refl; store = refl; read = refl; taken = refl; argued = refl }) c.did.ensures.events
    (c.enter.ensures.seated (world_in s) k.seated c.requires.may.goes.active may)
