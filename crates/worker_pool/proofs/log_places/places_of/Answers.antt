use Rattle.std.proofs.Common.{ℕ, ◌∙◌, sym, ap, arith, Option, Some, get_or}
use Rattle.std.specs.Prelude.{◌==◌, if◌then◌else◌}
use Rattle.worker_pool.proofs.Placing.{place_more, apart_more, apart_no_more, is_there, is_not_there}
use Rattle.worker_pool.proofs.log_places.places_of.Goals as goal

pub returns-then-is_some : goal.returns-then-is_some
returns-then-is_some c =
    let there = is_there c.in_ok-insert.field-0 (sym c.if-is_some.ensures) in
    apart_no_more c.args.logs.now c.loop-place.place c.index-logs-place.result there.0 (omega arith) (sym (c.loop-place.invariant.place _) ∙ (sym c.in_ok-insert.ensures.old ∙ there.1))

pub loop-place-preserved : goal.loop-place-preserved
loop-place-preserved c =
    let none = sym (c.loop-place.invariant.place _) ∙ (sym c.in_ok-insert.ensures.old ∙ is_not_there c.in_ok-insert.field-0 (sym c.if-is_some.ensures)) in
    record {
      once = apart_more c.args.logs.now c.loop-place.place c.index-logs-place.result (omega arith) c.loop-place.invariant.once none;
      place = λ who. c.in_ok-insert.ensures.updates.0 who ∙ (ap (λ (o : Option ℕ). if (get_or c.args.logs.now c.loop-place.place c.index-logs-place.result).instance == who then Some c.loop-place.place else o) (c.loop-place.invariant.place who)
          ∙ sym (place_more c.args.logs.now c.loop-place.place c.index-logs-place.result who (omega arith) none));
    }
