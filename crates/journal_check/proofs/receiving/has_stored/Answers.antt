use Rattle.std.proofs.Common.{arith, length, refl}
use Rattle.std.proofs.lemmas.Option.{slice_get_read}
use Rattle.world_model.specs.declared.world.StoredValue.{StoredValue}
use Rattle.world_check.proofs.Waiters.{refuted, granted}
use Rattle.journal_check.specs.Receiving.{MayTake}
use Rattle.journal_check.proofs.ListedThings.{one_place_more, has_at, none_stored}
use Rattle.journal_check.proofs.receiving.has_stored.Goals as goal

pub returns-then-may_take : goal.returns-then-may_take
returns-then-may_take c =
    granted (has_at c.args.facts.now c.args.world.now c.args.buffers.now c.args.buffer c.args.receipt.now.send c.args.receipt.now.scalars.now c.args.receipt.now.by c.loop-place.place c.values_in-values.result.now c.index-values-place.result c.values_in-values.ensures
    (slice_get_read c.values_in-values.result.now (length c.values_in-values.result.now) c.loop-place.place c.index-values-place.result refl c.loop-place-test.true c.index-values-place.is) (c.may_take.ensures.0 c.if-may_take.true))

pub loop-place-preserved : goal.loop-place-preserved
loop-place-preserved c =
    one_place_more c.values_in-values.result.now (λ (value : StoredValue). MayTake c.args.facts.now c.args.world.now c.args.buffers.now c.args.receipt.now.send c.args.receipt.now.scalars.now c.args.receipt.now.by value → ⊥) c.loop-place.place c.index-values-place.result
    (slice_get_read c.values_in-values.result.now (length c.values_in-values.result.now) c.loop-place.place c.index-values-place.result refl c.loop-place-test.true c.index-values-place.is)
    (λ may. let yes = c.may_take.ensures.1 may in let no = c.if-may_take.false in cc) c.loop-place.invariant

pub returns : goal.returns
returns c = refuted (none_stored c.args.facts.now c.args.world.now c.args.buffers.now c.args.buffer c.args.receipt.now.send c.args.receipt.now.scalars.now c.args.receipt.now.by c.loop-place.place c.values_in-values.result.now c.values_in-values.ensures (omega arith) c.loop-place.invariant)
