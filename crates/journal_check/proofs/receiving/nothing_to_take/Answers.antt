use Rattle.std.proofs.Common.{arith, get_or}
use Rattle.std.proofs.lemmas.Option.{slice_get-get_or}
use Rattle.kernel_base.specs.declared.request.Alternative.{Alternative}
use Rattle.world_check.proofs.Waiters.{refuted, granted}
use Rattle.journal_check.proofs.ListedThings.{nothing_listed, no_candidate_at}
use Rattle.journal_check.proofs.receiving.nothing_to_take.Goals as goal

pub returns-then-not-no_candidate : goal.returns-then-not-no_candidate
returns-then-not-no_candidate c = refuted (λ none.
    let unset : Alternative = record { thing = 0; number = 0 } in
    let yes = c.no_candidate.ensures.1 (no_candidate_at c.args.facts.now c.args.world.now c.args.buffers.now c.loop-place.place (get_or c.args.buffers.now c.loop-place.place unset)
    (slice_get-get_or c.args.buffers.now c.loop-place.place unset c.loop-place-test.true) none) in
    let no = c.if-not-no_candidate.true in cc)

pub returns : goal.returns
returns c = granted (nothing_listed c.args.facts.now c.args.world.now c.args.buffers.now c.loop-place.place (omega arith) c.loop-place.invariant)
