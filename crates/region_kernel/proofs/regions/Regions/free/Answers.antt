use Rattle.std.proofs.Common.{◌≡◌, ◌+◌, ◌<◌, ◌≤◌, ◌∙◌, List, length, length-set, map, ap, sym, subst, arith, Some, slice_get, slice_set, ℕ}
use Rattle.std.specs.Prelude.{vec_len, vec_capacity}
use Rattle.std.proofs.lemmas.List.{length-map}
use Rattle.std.proofs.lemmas.Option.{slice_get-get_or}
use Rattle.region_kernel.specs.Regions.{Changes, SeenRegions, items_of, queue_but, queue_of}
use Rattle.region_kernel.proofs.Queues.{changed, fit_set, once_in, queue_at, queued_but}
use Rattle.region_kernel.proofs.regions.Regions.free.Goals as goal

pub take_first-next-requires : goal.take_first-next-requires
take_first-next-requires c =
    let items = c.self.inside.queues.items in
    let each = c.self.invariant.1.each in
    let mapped = length-map items items_of in
    let seen = ap (λ (r : SeenRegions). length r.occupants) c.self.view_is in
    let there = c.requires.there in
    let low : c.args.region < length c.self.inside.queues.items = omega (arith, each, mapped, seen, there) in
    let at : slice_get c.self.inside.queues.items c.args.region ≡ Some c.index_mut.result.now = slice_get-get_or items c.args.region c.index_mut.result.now low ∙ ap Some (sym c.index_mut.ensures.value) in
    once_in c.self.inside.occupants.items items c.args.region c.index_mut.result.now at c.self.invariant.1

pub invariant_of-self : goal.invariant_of-self
invariant_of-self c =
    let items = c.self.inside.queues.items in
    let each = c.self.invariant.1.each in
    let mapped = length-map items items_of in
    let seen = ap (λ (r : SeenRegions). length r.occupants) c.self.view_is in
    let there = c.requires.there in
    let low : c.args.region < length c.self.inside.queues.items = omega (arith, each, mapped, seen, there) in
    let at : slice_get c.self.inside.queues.items c.args.region ≡ Some c.index_mut.result.now = slice_get-get_or items c.args.region c.index_mut.result.now low ∙ ap Some (sym c.index_mut.ensures.value) in
    let was = c.self.invariant.0 c.args.region c.index_mut.result.now at in
    let len = c.take_first-next.ensures.len in
    let capacity = c.take_first-next.ensures.capacity in
    let fits : vec_len c.take_first-next.new.queue + c.self.inside.room ≤ vec_capacity c.take_first-next.new.queue = omega (arith, was, len, capacity) in (
      fit_set c.self.inside.room items c.args.region c.take_first-next.new.queue fits c.self.invariant.0,
      queued_but c.self.inside.occupants.items (slice_set c.self.inside.occupants.items c.args.region c.take_first-next.result) items c.args.region c.take_first-next.result c.index_mut.result.now c.take_first-next.new.queue (length-set c.self.inside.occupants.items c.args.region c.take_first-next.result) at c.take_first-next.ensures.queue c.take_first-next.ensures.once c.self.invariant.1,
    )

pub invariant_of-self-in_default : goal.invariant_of-self-in_default
invariant_of-self-in_default c =
    let items = c.self.inside.queues.items in
    let each = c.self.invariant.1.each in
    let mapped = length-map items items_of in
    let seen = ap (λ (r : SeenRegions). length r.occupants) c.self.view_is in
    let there = c.requires.there in
    let low : c.args.region < length c.self.inside.queues.items = omega (arith, each, mapped, seen, there) in
    let at : slice_get c.self.inside.queues.items c.args.region ≡ Some c.index_mut.result.now = slice_get-get_or items c.args.region c.index_mut.result.now low ∙ ap Some (sym c.index_mut.ensures.value) in
    let was = c.self.invariant.0 c.args.region c.index_mut.result.now at in
    let len = c.take_first-next.ensures.len in
    let capacity = c.take_first-next.ensures.capacity in
    let fits : vec_len c.take_first-next.new.queue + c.self.inside.room ≤ vec_capacity c.take_first-next.new.queue = omega (arith, was, len, capacity) in (
      fit_set c.self.inside.room items c.args.region c.take_first-next.new.queue fits c.self.invariant.0,
      queued_but c.self.inside.occupants.items (slice_set c.self.inside.occupants.items c.args.region c.take_first-next.result) items c.args.region c.take_first-next.result c.index_mut.result.now c.take_first-next.new.queue (length-set c.self.inside.occupants.items c.args.region c.take_first-next.result) at c.take_first-next.ensures.queue c.take_first-next.ensures.once c.self.invariant.1,
    )

pub returns-in-Some-clause-queues : goal.returns-in-Some-clause-queues
returns-in-Some-clause-queues c =
    let items = c.self.inside.queues.items in
    let each = c.self.invariant.1.each in
    let mapped = length-map items items_of in
    let seen = ap (λ (r : SeenRegions). length r.occupants) c.self.view_is in
    let there = c.requires.there in
    let low : c.args.region < length c.self.inside.queues.items = omega (arith, each, mapped, seen, there) in
    let at : slice_get c.self.inside.queues.items c.args.region ≡ Some c.index_mut.result.now = slice_get-get_or items c.args.region c.index_mut.result.now low ∙ ap Some (sym c.index_mut.ensures.value) in
    let now = c.in-Some.ensures.queue ∙ ap (λ (q : List ℕ). queue_but q (Some c.in-Some.who)) (sym (queue_at items c.args.region c.index_mut.result.now at)) in
    subst (λ (r : SeenRegions). Changes c.args.region (queue_but (queue_of r.queues c.args.region) (Some c.in-Some.who)) r.queues (map items_of (slice_set c.self.inside.queues.items c.args.region c.take_first-next.new.queue))) c.self.view_is
    (changed items c.args.region c.index_mut.result.now c.take_first-next.new.queue (queue_but (queue_of (map items_of items) c.args.region) (Some c.in-Some.who)) at now)

pub returns-in_default-clause-queues : goal.returns-in_default-clause-queues
returns-in_default-clause-queues c =
    let items = c.self.inside.queues.items in
    let each = c.self.invariant.1.each in
    let mapped = length-map items items_of in
    let seen = ap (λ (r : SeenRegions). length r.occupants) c.self.view_is in
    let there = c.requires.there in
    let low : c.args.region < length c.self.inside.queues.items = omega (arith, each, mapped, seen, there) in
    let at : slice_get c.self.inside.queues.items c.args.region ≡ Some c.index_mut.result.now = slice_get-get_or items c.args.region c.index_mut.result.now low ∙ ap Some (sym c.index_mut.ensures.value) in
    let now = c.take_first-next.ensures.queue ∙ ap (λ (q : List ℕ). queue_but q c.take_first-next.result) (sym (queue_at items c.args.region c.index_mut.result.now at)) in
    subst (λ (r : SeenRegions). Changes c.args.region (queue_but (queue_of r.queues c.args.region) c.take_first-next.result) r.queues (map items_of (slice_set c.self.inside.queues.items c.args.region c.take_first-next.new.queue))) c.self.view_is
    (changed items c.args.region c.index_mut.result.now c.take_first-next.new.queue (queue_but (queue_of (map items_of items) c.args.region) c.take_first-next.result) at now)
