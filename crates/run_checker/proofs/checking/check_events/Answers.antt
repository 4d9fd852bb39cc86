use Rattle.std.proofs.Common.{◌≤◌, length, refl, sym, subst, arith}
use Rattle.run_checker.proofs.Held.{few_events}
use Rattle.run_checker.proofs.Steps.{tells_end, whole_run}
use Rattle.run_checker.specs.Verdicts.{TellsEnd}
use Rattle.run_checker.proofs.checking.check_events.Goals as goal

pub loop-place-init : goal.loop-place-init
loop-place-init c = c.in_ok-checker.ensures c.args.events.now

pub overflow_cast-result : goal.overflow_cast-result
overflow_cast-result c = let few = few_events c.args.events.now in omega (arith, few, c.requires.few, c.loop-place-test.true)

pub overflow_cast-result-2 : goal.overflow_cast-result-2
overflow_cast-result-2 c = let few = few_events c.args.events.now in omega (arith, few, c.requires.few)

pub returns : goal.returns
returns c =
    let past : length c.args.events.now ≤ c.loop-place.place = omega (arith, c.loop-place-test.false) in
    let run = whole_run c.args.guarded.now c.args.facts.now c.args.events.now c.loop-place.place c.loop-place.checker c.loop-place.invariant past in
    let end = tells_end c.args.guarded.now c.args.facts.now c.args.events.now c.loop-place.place c.loop-place.checker c.loop-place.invariant past in
    (run, refl, subst (TellsEnd c.args.facts.now c.args.events.now) (sym c.over.ensures) end)
