use Rattle.std.proofs.Common.{◌≡◌, ◌∙◌, ◌++◌, sym, ap, append-nil}
use Rattle.constant_operators.specs.Grounds.{ground_of}
use Rattle.mode_rules.proofs.SharedPlaces.{over_at, ended, behind}
use Rattle.mode_rules.proofs.too_many.tell_behind.Goals as goal

pub returns-then-sum-more-gt65536 : goal.returns-then-sum-more-gt65536
returns-then-sum-more-gt65536 c = λ ready.
    behind _ _ _ _ _ c.in_ok-tell.ensures c.loop-at.invariant.told
    (sym (over_at (ground_of c.args.ground.now) c.loop-at.sum c.loop-at.at-index c.scalars_at-more.result c.args.places.now _ c.loop-at-test.true (c.scalars_at-more.ensures.count ready.keeps) c.if-sum-more-gt65536.true) ∙ c.loop-at.invariant.rest ready)

pub returns : goal.returns
returns c = λ ready.
    c.loop-at.invariant.told ∙ sym (append-nil c.args.told.now)
    ∙ ap (λ ds. c.args.told.now ++ ds) (sym (ended (ground_of c.args.ground.now) c.loop-at.sum c.loop-at.at-index c.args.places.now c.loop-at-test.false) ∙ c.loop-at.invariant.rest ready)
