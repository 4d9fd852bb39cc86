use Rattle.std.proofs.Common.{◌≡◌, ◌<◌, ◌∙◌, length, ap, sym, arith, Some, slice_get}
use Rattle.std.proofs.lemmas.Option.{slice_get-get_or}
use Rattle.region_kernel.proofs.Queues.{first_out}
use Rattle.region_kernel.proofs.regions.take_first.Goals as goal

pub returns-clause-queue : goal.returns-clause-queue
returns-clause-queue c =
    let low : 0 < length c.args.queue.now.items = omega (arith, c.remove.ensures.len, c.args.queue.now.ok.0) in
    let at : slice_get c.args.queue.now.items 0 ≡ Some c.remove.result = slice_get-get_or c.args.queue.now.items 0 c.remove.result low ∙ ap Some (sym c.remove.ensures.value) in
    c.remove.ensures.items ∙ first_out c.args.queue.now.items c.remove.result c.requires at
