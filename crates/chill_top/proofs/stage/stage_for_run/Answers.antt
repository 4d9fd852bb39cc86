use Rattle.std.proofs.Common.{ap, arith}
use Rattle.chill_top.proofs.StageLemmas.{too_long_for, input_for, ready_for, unfounded_for}
use Rattle.chill_top.proofs.stage.stage_for_run.Goals as goal

-- the input is too long
pub returns-then-len-gt-MAX_INPUT-clause-stage : goal.returns-then-len-gt-MAX_INPUT-clause-stage
returns-then-len-gt-MAX_INPUT-clause-stage g c =
    let read = rw c.deref.ensures at c.in_ok-input.ensures.input in
    λ text accepted. too_long_for c.args.units text _ _ (g.I.Feed.bytes c.args.feed.now) c.in_ok-input.input accepted read (omega (arith, c.len.ensures))

-- it was read whole, and the facts are sound
pub returns-in-Some-clause-stage : goal.returns-in-Some-clause-stage
returns-in-Some-clause-stage g c =
    let read = rw c.deref.ensures at c.in_ok-input.ensures.input in
    let untouched = rw c.deref.ensures at c.in_ok-input.ensures.untouched in
    let are = rw (c.in-Some.is, c.deref-2.ensures) at c.in_ok-facts.ensures in
    λ text accepted.
    ready_for c.args.units text (g.I.Feed.bytes c.args.feed.now) _ (record { built = c.args.built; facts = c.in-Some.facts }) c.in_ok-input.input are
    (input_for _ (g.I.Feed.bytes c.args.feed.now) _ c.in_ok-input.input read (omega (arith, c.len.ensures)) (λ none. ap (g.I.Feed.bytes) (untouched none)))
    accepted

-- there are no facts to run it from
pub returns-in_ok-not_built-in-None-clause-stage : goal.returns-in_ok-not_built-in-None-clause-stage
returns-in_ok-not_built-in-None-clause-stage g c =
    let read = rw c.deref.ensures at c.in_ok-input.ensures.input in
    let untouched = rw c.deref.ensures at c.in_ok-input.ensures.untouched in
    let none_are = rw (c.in-None.is, c.deref-2.ensures) at c.in_ok-facts.ensures in
    λ text accepted.
    unfounded_for c.args.units text _ _ (g.I.Feed.bytes c.args.feed.now) _ c.in_ok-input.input c.in_ok-not_built-in-None.field-0 accepted
    (input_for _ (g.I.Feed.bytes c.args.feed.now) _ c.in_ok-input.input read (omega (arith, c.len.ensures)) (λ none. ap (g.I.Feed.bytes) (untouched none)))
    none_are c.in_ok-not_built-in-None.ensures
