use Rattle.std.proofs.Common.{◌≡◌, ◌+◌, ◌-◌, ◌<◌, ◌≤◌, ◌++◌, ◌∷◌, [], ◌∙◌, List, length, map, ap, sym, subst, arith, Some, slice_get, slice_set, ℕ}
use Rattle.std.specs.Prelude.{vec_len, vec_capacity}
use Rattle.std.proofs.lemmas.List.{length-map}
use Rattle.std.proofs.lemmas.Option.{slice_get-get_or, slice_get_within}
use Rattle.region_kernel.specs.Regions.{AreFit, Changes, SeenRegions, WaitsNowhere, items_of, queue_of}
use Rattle.region_kernel.proofs.Queues.{changed, fit_set, queue_at, queued_with}
use Rattle.region_kernel.proofs.regions.Regions.wait.Goals as goal

pub invariant_of-self : goal.invariant_of-self
invariant_of-self c =
    let items = c.self.inside.queues.items in
    let each = c.self.invariant.1.each in
    let mapped = length-map items items_of in
    let occupied = ap (λ (r : SeenRegions). slice_get r.occupants c.args.region) c.self.view_is ∙ c.requires.occupied.1 in
    let there = slice_get_within c.self.inside.occupants.items c.args.region (Some c.requires.occupied.0) occupied in
    let low : c.args.region < length c.self.inside.queues.items = omega (arith, each, mapped, there) in
    let at : slice_get c.self.inside.queues.items c.args.region ≡ Some c.index_mut.result.now = slice_get-get_or items c.args.region c.index_mut.result.now low ∙ ap Some (sym c.index_mut.ensures.value) in
    let was = c.self.invariant.0 c.args.region c.index_mut.result.now at in
    let spare = ap (λ (r : SeenRegions). r.spare) c.self.view_is in
    let has = c.requires.spare in
    let one : c.self.inside.room ≡ (c.self.inside.room - 1) + 1 = omega (arith, spare, has) in
    let len = c.push_reserved.ensures.len in
    let capacity = c.push_reserved.ensures.capacity in
    let fits : vec_len c.push_reserved.new.self + (c.self.inside.room - 1) ≤ vec_capacity c.push_reserved.new.self = omega (arith, was, one, len, capacity) in
    let all : AreFit (c.self.inside.room - 1) c.self.inside.queues.items = λ k q there'. (let fit = c.self.invariant.0 k q there' in omega (arith, fit, one)) in
    let nowhere = subst (λ (r : SeenRegions). WaitsNowhere r.queues c.args.who) (sym c.self.view_is) c.requires.nowhere in
    (fit_set (c.self.inside.room - 1) items c.args.region c.push_reserved.new.self fits all, queued_with c.self.inside.occupants.items items c.args.region c.args.who c.index_mut.result.now c.push_reserved.new.self at c.push_reserved.ensures.items nowhere c.self.invariant.1)

pub returns-clause-queues : goal.returns-clause-queues
returns-clause-queues c =
    let items = c.self.inside.queues.items in
    let each = c.self.invariant.1.each in
    let mapped = length-map items items_of in
    let occupied = ap (λ (r : SeenRegions). slice_get r.occupants c.args.region) c.self.view_is ∙ c.requires.occupied.1 in
    let there = slice_get_within c.self.inside.occupants.items c.args.region (Some c.requires.occupied.0) occupied in
    let low : c.args.region < length c.self.inside.queues.items = omega (arith, each, mapped, there) in
    let at : slice_get c.self.inside.queues.items c.args.region ≡ Some c.index_mut.result.now = slice_get-get_or items c.args.region c.index_mut.result.now low ∙ ap Some (sym c.index_mut.ensures.value) in
    let now = c.push_reserved.ensures.items ∙ ap (λ (q : List ℕ). q ++ c.args.who ∷ []) (sym (queue_at items c.args.region c.index_mut.result.now at)) in
    subst (λ (r : SeenRegions). Changes c.args.region (queue_of r.queues c.args.region ++ c.args.who ∷ []) r.queues (map items_of (slice_set c.self.inside.queues.items c.args.region c.push_reserved.new.self))) c.self.view_is
    (changed items c.args.region c.index_mut.result.now c.push_reserved.new.self (queue_of (map items_of items) c.args.region ++ c.args.who ∷ []) at now)
