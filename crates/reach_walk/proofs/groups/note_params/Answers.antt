use Rattle.std.proofs.Common.{◌≡◌, ◌+◌, refl, arith}
use Rattle.names_model.specs.Sizes.{clause_size}
use Rattle.reach_walk.proofs.Grouping.{clauses_size-at, params-end, params-on}
use Rattle.reach_walk.proofs.Joining.{groups-refl}
use Rattle.reach_walk.proofs.groups.note_params.Goals as goal

pub loop-clause-preserved : goal.loop-clause-preserved
loop-clause-preserved c = λ text r s h.
    let i = c.loop-clause.invariant text r s h in
    let cs = c.args.params.now in
    let x = c.clause-item.result in
    let size = clauses_size-at cs c.loop-clause.clause-index x c.loop-clause-test.true c.clause-item.is in
    let step : c.saturating_add-next.result ≡ c.loop-clause.next + clause_size x = omega (arith, i.next, size) in
    record {
      next = omega (arith, i.next, size, step);
      out = params-on text r cs c.loop-clause.clause-index c.loop-clause.next _ x c.loop-clause.out.items _ _ c.loop-clause-test.true c.clause-item.is step i.out (c.in_ok-note_clause.ensures text r s (omega (arith, i.next, size)));
    }

pub loop-clause-init : goal.loop-clause-init
loop-clause-init c = λ text r s h. record { next = refl; out = groups-refl _ }

pub returns : goal.returns
returns c = λ text r s h. params-end text r c.args.params.now c.loop-clause.clause-index _ _ _ c.loop-clause-test.false (c.loop-clause.invariant text r s h).out
