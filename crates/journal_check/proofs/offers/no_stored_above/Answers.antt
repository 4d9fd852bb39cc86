use Rattle.std.proofs.Common.{◌≤◌, arith, length, refl}
use Rattle.std.proofs.lemmas.Option.{slice_get_read}
use Rattle.world_model.specs.declared.world.StoredValue.{StoredValue}
use Rattle.world_check.proofs.Waiters.{refuted, granted}
use Rattle.journal_check.proofs.ListedThings.{one_place_more}
use Rattle.journal_check.proofs.Buffers.{higher_stored, no_higher_stored}
use Rattle.journal_check.proofs.offers.no_stored_above.Goals as goal

pub returns-then-value-priority : goal.returns-then-value-priority
returns-then-value-priority c =
    refuted (higher_stored c.args.world.now c.args.buffer c.loop-place.place c.args.priority c.values_in-values.result.now c.index-values-place.result c.values_in-values.ensures
    (slice_get_read c.values_in-values.result.now (length c.values_in-values.result.now) c.loop-place.place c.index-values-place.result refl c.loop-place-test.true c.index-values-place.is) (omega arith))

pub loop-place-preserved : goal.loop-place-preserved
loop-place-preserved c =
    one_place_more c.values_in-values.result.now (λ (value : StoredValue). value.priority ≤ c.args.priority) c.loop-place.place c.index-values-place.result
    (slice_get_read c.values_in-values.result.now (length c.values_in-values.result.now) c.loop-place.place c.index-values-place.result refl c.loop-place-test.true c.index-values-place.is) (omega arith) c.loop-place.invariant

pub returns : goal.returns
returns c = granted (no_higher_stored c.args.world.now c.args.buffer c.args.priority c.loop-place.place c.values_in-values.result.now c.values_in-values.ensures (omega arith) c.loop-place.invariant)
