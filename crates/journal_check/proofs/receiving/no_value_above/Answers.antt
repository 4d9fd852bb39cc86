use Rattle.std.proofs.Common.{arith, get_or}
use Rattle.std.proofs.lemmas.Option.{slice_get-get_or}
use Rattle.kernel_base.specs.declared.request.Alternative.{Alternative}
use Rattle.world_check.proofs.Waiters.{refuted, granted}
use Rattle.journal_check.specs.Receiving.{NoCandidateAbove}
use Rattle.journal_check.proofs.ListedThings.{one_place_more, none_listed_above, none_above_at}
use Rattle.journal_check.proofs.receiving.no_value_above.Goals as goal

pub returns-then-not-no_candidate_above : goal.returns-then-not-no_candidate_above
returns-then-not-no_candidate_above c = refuted (λ none.
    let unset : Alternative = record { thing = 0; number = 0 } in
    let yes = c.no_candidate_above.ensures.1 (none_above_at c.args.facts.now c.args.world.now c.args.buffers.now c.args.priority c.loop-place.place (get_or c.args.buffers.now c.loop-place.place unset)
    (slice_get-get_or c.args.buffers.now c.loop-place.place unset c.loop-place-test.true) none) in
    let no = c.if-not-no_candidate_above.true in cc)

pub loop-place-preserved : goal.loop-place-preserved
loop-place-preserved c =
    let unset : Alternative = record { thing = 0; number = 0 } in
    one_place_more c.args.buffers.now (λ (a : Alternative). NoCandidateAbove c.args.facts.now c.args.world.now c.args.priority a.thing) c.loop-place.place (get_or c.args.buffers.now c.loop-place.place unset)
    (slice_get-get_or c.args.buffers.now c.loop-place.place unset c.loop-place-test.true) (c.no_candidate_above.ensures.0 c.if-not-no_candidate_above.false) c.loop-place.invariant

pub returns : goal.returns
returns c = granted (none_listed_above c.args.facts.now c.args.world.now c.args.buffers.now c.args.priority c.loop-place.place (omega arith) c.loop-place.invariant)
