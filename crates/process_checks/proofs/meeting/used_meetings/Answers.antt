use Rattle.std.proofs.Common.{ap, ◌∙◌}
use Rattle.std.specs.Prelude.{slice_get}
use Rattle.process_checks.specs.MetByNumber.{used_as, used_from}
use Rattle.process_checks.proofs.Listed.{got_known, one_more_found}
use Rattle.process_checks.proofs.meeting.used_meetings.Goals as goal

pub loop-origin-preserved : goal.loop-origin-preserved
loop-origin-preserved c =
    let e = c.args.evaluation.now in
    let got = c.get-known.ensures.lookup in
    let known = got_known _ c.get-known.result c.deref.result.now c.len.result got.1 got.3 ∙ ap (λ es. slice_get es c.len.result) c.deref.ensures.value ∙ ap (slice_get e.entries.items) c.len.ensures in
    one_more_found e.entries.items c.as_slice-origin-items.result.now c.loop-origin.origin-index c.origin-item.result c.loop-origin.found c.push.new.self c.used_as.result (used_from e.entries.items 0 e.origins) c.loop-origin-test.true c.origin-item.is
    (c.used_as.ensures ∙ ap (used_as c.origin-item.result) known) c.in_ok-push.ensures.ok c.loop-origin.invariant
