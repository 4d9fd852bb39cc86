use Rattle.std.proofs.Common.{◌≡◌, ◌<◌, ◌≤◌, length, map, Some, slice_get, slice_set, ap, sym, ◌∙◌, subst, arith}
use Rattle.std.proofs.Math.Seq.{map-set_same}
use Rattle.std.proofs.lemmas.List.{length-map}
use Rattle.std.proofs.lemmas.Option.{slice_get-get_or, slice_get_within}
use Rattle.wait_queues.specs.Waiting.{AreOrdered, SeenQueues, those_of}
use Rattle.wait_queues.proofs.Fits.{fit_set, fit_more}
use Rattle.wait_queues.proofs.queues.WaitQueues.reserve.Goals as goal

pub invariant_of-self : goal.invariant_of-self
invariant_of-self c =
    let items = c.loop-place.self-inside.queues.items in
    let inv = c.loop-place.invariant in
    let place = c.loop-place.place in
    let old = c.index_mut.result.now in
    let new = c.reserve.new.self in
    let same : length c.loop-place.self-inside.queues.items ≡ length c.self.inside.queues.items = sym (length-map items those_of) ∙ ap length inv.waiting ∙ length-map c.self.inside.queues.items those_of in
    let low : c.loop-place.place < length c.loop-place.self-inside.queues.items = omega (arith, same, c.loop-place-test.true, c.len-place-end.ensures, c.self.inside.queues.ok.0) in
    let at : slice_get c.loop-place.self-inside.queues.items c.loop-place.place ≡ Some c.index_mut.result.now = slice_get-get_or items place old low ∙ ap Some (sym c.index_mut.ensures.value) in
    let was = inv.fit place old at in
    let more = c.reserve.ensures.more in
    let kept : map those_of (slice_set c.loop-place.self-inside.queues.items c.loop-place.place c.reserve.new.self) ≡ map those_of c.self.inside.queues.items = map-set_same those_of items place new old (c.reserve.ensures.waiters ∙ ap those_of c.index_mut.ensures.value) ∙ inv.waiting in
    (fit_set c.loop-place.self-inside.room items place new (omega (arith, was, more)) inv.fit, subst AreOrdered (sym kept) c.self.invariant.1)

pub returns-in_err-reserve-clause-waiting : goal.returns-in_err-reserve-clause-waiting
returns-in_err-reserve-clause-waiting c =
    let items = c.loop-place.self-inside.queues.items in
    map-set_same those_of items c.loop-place.place c.reserve.new.self c.index_mut.result.now (c.reserve.ensures.waiters ∙ ap those_of c.index_mut.ensures.value)
    ∙ c.loop-place.invariant.waiting ∙ ap (λ (s : SeenQueues). s.waiting) c.self.view_is

pub loop-place-preserved : goal.loop-place-preserved
loop-place-preserved c =
    let items = c.loop-place.self-inside.queues.items in
    let inv = c.loop-place.invariant in
    let place = c.loop-place.place in
    let old = c.index_mut.result.now in
    let new = c.reserve.new.self in
    let same : length c.loop-place.self-inside.queues.items ≡ length c.self.inside.queues.items = sym (length-map items those_of) ∙ ap length inv.waiting ∙ length-map c.self.inside.queues.items those_of in
    let low : c.loop-place.place < length c.loop-place.self-inside.queues.items = omega (arith, same, c.loop-place-test.true, c.len-place-end.ensures, c.self.inside.queues.ok.0) in
    let at : slice_get c.loop-place.self-inside.queues.items c.loop-place.place ≡ Some c.index_mut.result.now = slice_get-get_or items place old low ∙ ap Some (sym c.index_mut.ensures.value) in
    let was = inv.fit place old at in
    let more = c.reserve.ensures.more in
    let room : c.args.n ≤ c.reserve.new.self.room = c.in_ok-reserve.ensures.room in
    record {
      waiting = map-set_same those_of items place new old (c.reserve.ensures.waiters ∙ ap those_of c.index_mut.ensures.value) ∙ inv.waiting;
      fit = fit_set c.loop-place.self-inside.room items place new (omega (arith, was, more)) inv.fit;
      more = fit_more c.args.n items place old new at room inv.more;
      same = inv.same;
    }

pub invariant_of-self-2 : goal.invariant_of-self-2
invariant_of-self-2 c =
    let items = c.loop-place.self-inside.queues.items in
    let inv = c.loop-place.invariant in
    let same : length c.loop-place.self-inside.queues.items ≡ length c.self.inside.queues.items = sym (length-map items those_of) ∙ ap length inv.waiting ∙ length-map c.self.inside.queues.items those_of in
    (λ k q at. inv.more k q (omega (arith, slice_get_within items k q at, same, c.loop-place-test.false, c.len-place-end.ensures, c.self.inside.queues.ok.0)) at, subst AreOrdered (sym inv.waiting) c.self.invariant.1)
