use Rattle.std.proofs.Common.{◌≡◌, ◌<◌, ◌∙◌, List, length, ap, sym, subst, arith, Some, slice_get, ℕ}
use Rattle.std.proofs.lemmas.List.{length-map}
use Rattle.std.proofs.lemmas.Option.{slice_get-get_or}
use Rattle.kernel_lists.specs.Once.{AreOnce}
use Rattle.region_kernel.specs.Regions.{SeenRegions, itself, items_of}
use Rattle.region_kernel.proofs.Queues.{once_in}
use Rattle.region_kernel.proofs.regions.Regions.queue.Goals as goal

pub returns-clause-once : goal.returns-clause-once
returns-clause-once c =
    let items = c.self.inside.queues.items in
    let each = c.self.invariant.1.each in
    let mapped = length-map items items_of in
    let seen = ap (λ (r : SeenRegions). length r.occupants) c.self.view_is in
    let there = c.requires in
    let low : c.args.region < length c.self.inside.queues.items = omega (arith, each, mapped, seen, there) in
    let at : slice_get c.self.inside.queues.items c.args.region ≡ Some c.index.result.now = slice_get-get_or items c.args.region c.index.result.now low ∙ ap Some (sym c.index.ensures) in
    subst (λ (q : List ℕ). AreOnce itself q) (sym c.deref.ensures.value) (once_in c.self.inside.occupants.items items c.args.region c.index.result.now at c.self.invariant.1)
