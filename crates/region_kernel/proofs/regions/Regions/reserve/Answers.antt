use Rattle.std.proofs.Common.{◌≡◌, ◌+◌, ◌<◌, ◌≤◌, List, length, map, Some, slice_get, slice_set, ap, sym, ◌∙◌, subst, arith, ℕ}
use Rattle.std.specs.Prelude.{vec_len, vec_capacity}
use Rattle.std.proofs.Math.Seq.{map-set_same}
use Rattle.std.proofs.lemmas.List.{length-map}
use Rattle.std.proofs.lemmas.Option.{slice_get-get_or, slice_get_within}
use Rattle.std.specs.declared.alloc.Global.{Global}
use Rattle.std.specs.declared.option.Option.{Option}
use Rattle.std.specs.declared.vec.Vec.{Vec}
use Rattle.region_kernel.specs.Regions.{AreQueued, SeenRegions, items_of}
use Rattle.region_kernel.proofs.Queues.{fit_set, fit_more}
use Rattle.region_kernel.proofs.regions.Regions.reserve.Goals as goal

-- the queues of these occupants are those of before
still_queued : (occupants occupants' : Vec (Option ℕ) Global) (queues queues' : List (List ℕ)) → occupants' ≡ occupants → queues' ≡ queues → AreQueued occupants.items queues → AreQueued occupants'.items queues'
still_queued occupants occupants' queues queues' os qs h = subst (λ (l : List (List ℕ)). AreQueued occupants'.items l) (sym qs) (subst (λ (v : Vec (Option ℕ) Global). AreQueued v.items queues) (sym os) h)

pub invariant_of-self-in_err-reserve-2 : goal.invariant_of-self-in_err-reserve-2
invariant_of-self-in_err-reserve-2 c =
    let items = c.loop-region.self-inside.queues.items in
    let inv = c.loop-region.invariant in
    let region = c.loop-region.region in
    let old = c.index_mut.result.now in
    let new = c.reserve-in-loop-region.new.self in
    let same : length c.loop-region.self-inside.queues.items ≡ length c.self.inside.queues.items = sym (length-map items items_of) ∙ ap length inv.queues ∙ length-map c.self.inside.queues.items items_of in
    let low : c.loop-region.region < length c.loop-region.self-inside.queues.items = omega (arith, same, c.loop-region-test.true, c.len-region-end.ensures, c.self.inside.queues.ok.0) in
    let at : slice_get c.loop-region.self-inside.queues.items c.loop-region.region ≡ Some c.index_mut.result.now = slice_get-get_or items region old low ∙ ap Some (sym c.index_mut.ensures.value) in
    let was = inv.fit region old at in
    let fits : vec_len c.reserve-in-loop-region.new.self + c.loop-region.self-inside.room ≤ vec_capacity c.reserve-in-loop-region.new.self = omega (arith, was, c.reserve-in-loop-region.ensures.len, c.reserve-in-loop-region.ensures.capacity) in
    let kept : map items_of (slice_set c.loop-region.self-inside.queues.items c.loop-region.region c.reserve-in-loop-region.new.self) ≡ map items_of c.self.inside.queues.items = map-set_same items_of items region new old (c.reserve-in-loop-region.ensures.items ∙ ap items_of c.index_mut.ensures.value) ∙ inv.queues in
    (fit_set c.loop-region.self-inside.room items region new fits inv.fit, still_queued c.self.inside.occupants c.loop-region.self-inside.occupants (map items_of c.self.inside.queues.items) _ inv.occupants kept c.self.invariant.1)

pub returns-in_err-reserve-2-clause-queues : goal.returns-in_err-reserve-2-clause-queues
returns-in_err-reserve-2-clause-queues c =
    let items = c.loop-region.self-inside.queues.items in
    let inv = c.loop-region.invariant in
    let region = c.loop-region.region in
    let old = c.index_mut.result.now in
    let new = c.reserve-in-loop-region.new.self in
    let same : length c.loop-region.self-inside.queues.items ≡ length c.self.inside.queues.items = sym (length-map items items_of) ∙ ap length inv.queues ∙ length-map c.self.inside.queues.items items_of in
    let low : c.loop-region.region < length c.loop-region.self-inside.queues.items = omega (arith, same, c.loop-region-test.true, c.len-region-end.ensures, c.self.inside.queues.ok.0) in
    let at : slice_get c.loop-region.self-inside.queues.items c.loop-region.region ≡ Some c.index_mut.result.now = slice_get-get_or items region old low ∙ ap Some (sym c.index_mut.ensures.value) in
    let was = inv.fit region old at in
    let fits : vec_len c.reserve-in-loop-region.new.self + c.loop-region.self-inside.room ≤ vec_capacity c.reserve-in-loop-region.new.self = omega (arith, was, c.reserve-in-loop-region.ensures.len, c.reserve-in-loop-region.ensures.capacity) in
    let kept : map items_of (slice_set c.loop-region.self-inside.queues.items c.loop-region.region c.reserve-in-loop-region.new.self) ≡ map items_of c.self.inside.queues.items = map-set_same items_of items region new old (c.reserve-in-loop-region.ensures.items ∙ ap items_of c.index_mut.ensures.value) ∙ inv.queues in
    kept ∙ ap (λ (r : SeenRegions). r.queues) c.self.view_is

pub loop-region-preserved : goal.loop-region-preserved
loop-region-preserved c =
    let items = c.loop-region.self-inside.queues.items in
    let inv = c.loop-region.invariant in
    let region = c.loop-region.region in
    let old = c.index_mut.result.now in
    let new = c.reserve-in-loop-region.new.self in
    let same : length c.loop-region.self-inside.queues.items ≡ length c.self.inside.queues.items = sym (length-map items items_of) ∙ ap length inv.queues ∙ length-map c.self.inside.queues.items items_of in
    let low : c.loop-region.region < length c.loop-region.self-inside.queues.items = omega (arith, same, c.loop-region-test.true, c.len-region-end.ensures, c.self.inside.queues.ok.0) in
    let at : slice_get c.loop-region.self-inside.queues.items c.loop-region.region ≡ Some c.index_mut.result.now = slice_get-get_or items region old low ∙ ap Some (sym c.index_mut.ensures.value) in
    let was = inv.fit region old at in
    let fits : vec_len c.reserve-in-loop-region.new.self + c.loop-region.self-inside.room ≤ vec_capacity c.reserve-in-loop-region.new.self = omega (arith, was, c.reserve-in-loop-region.ensures.len, c.reserve-in-loop-region.ensures.capacity) in
    let kept : map items_of (slice_set c.loop-region.self-inside.queues.items c.loop-region.region c.reserve-in-loop-region.new.self) ≡ map items_of c.self.inside.queues.items = map-set_same items_of items region new old (c.reserve-in-loop-region.ensures.items ∙ ap items_of c.index_mut.ensures.value) ∙ inv.queues in
    let room : vec_len c.reserve-in-loop-region.new.self + c.args.n ≤ vec_capacity c.reserve-in-loop-region.new.self = c.in_ok-reserve-2.ensures.ok in
    record {
      queues = kept;
      fit = fit_set c.loop-region.self-inside.room items region new fits inv.fit;
      more = fit_more c.args.n items region old new at room inv.more;
      same = inv.same;
      occupants = inv.occupants;
      locks = inv.locks;
    }

pub invariant_of-self-2 : goal.invariant_of-self-2
invariant_of-self-2 c =
    let items = c.loop-region.self-inside.queues.items in
    let inv = c.loop-region.invariant in
    let same : length c.loop-region.self-inside.queues.items ≡ length c.self.inside.queues.items = sym (length-map items items_of) ∙ ap length inv.queues ∙ length-map c.self.inside.queues.items items_of in
    (λ k q at. inv.more k q (omega (arith, slice_get_within items k q at, same, c.loop-region-test.false, c.len-region-end.ensures, c.self.inside.queues.ok.0)) at, still_queued c.self.inside.occupants c.loop-region.self-inside.occupants (map items_of c.self.inside.queues.items) _ inv.occupants inv.queues c.self.invariant.1)
