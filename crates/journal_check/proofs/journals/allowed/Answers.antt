use Rattle.std.proofs.Common.{length, refl}
use Rattle.std.proofs.lemmas.Option.{slice_get_read}
use Rattle.journal_check.proofs.Fronts.{reaches_next, not_with_it}
use Rattle.journal_check.proofs.journals.allowed.Goals as goal

pub returns-then-not-is_allowed : goal.returns-then-not-is_allowed
returns-then-not-is_allowed c = record {
  within = c.loop-place-test.true;
  before = c.loop-place.invariant.run;
  not_with_it = not_with_it c.args.facts.now c.args.events.now c.loop-place.place c.loop-place.world c.index-events-place.result
      (slice_get_read c.args.events.now (length c.args.events.now) c.loop-place.place c.index-events-place.result refl c.loop-place-test.true c.index-events-place.is) c.loop-place.invariant
      (λ may. let yes = c.is_allowed.ensures.1 may in let no = c.if-not-is_allowed.true in cc);
}

pub loop-place-preserved : goal.loop-place-preserved
loop-place-preserved c =
    reaches_next c.args.facts.now c.args.events.now c.loop-place.place c.loop-place.world c.apply.new.self c.index-events-place.result
    (slice_get_read c.args.events.now (length c.args.events.now) c.loop-place.place c.index-events-place.result refl c.loop-place-test.true c.index-events-place.is) c.loop-place.invariant
    (c.is_allowed.ensures.0 c.if-not-is_allowed.false) c.in_ok-apply.ensures
