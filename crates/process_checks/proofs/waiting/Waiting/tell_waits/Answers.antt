use Rattle.std.proofs.Common.{drop}
use Rattle.std.specs.Prelude.{flat_map}
use Rattle.std.proofs.lemmas.Grind.{common_steps}
use native.Mathlib.Omega.{arith}
use Rattle.wait_exprs.specs.Views.{wait_trees}
use Rattle.process_checks.specs.Telling.{could_be_told}
use Rattle.process_checks.specs.Asked.{ground_for}
use Rattle.process_checks.proofs.ToldMore.{nothing_more, one_wait_more}
use Rattle.process_checks.proofs.WaitsTold.{one_less, all_left, none_left}
use Rattle.process_checks.proofs.waiting.Waiting.tell_waits.Goals as goal

pub loop-wait-preserved : goal.loop-wait-preserved
loop-wait-preserved c = (
  λ after more.
      c.loop-wait.invariant.0 after
      (one_wait_more (could_be_told c.args.self.now.meetings.now) c.args.waits.now c.loop-wait.wait-index c.wait-item.result c.loop-wait.told c.tell_wait.new.told after c.loop-wait-test.true c.wait-item.is c.in_ok-tell_wait.ensures.more more),
  λ waiting needed.
      one_less (ground_for c.args.self.now) c.args.waits.now c.loop-wait.wait-index c.wait-item.result c.loop-wait.told c.tell_wait.new.told _ c.loop-wait-test.true c.wait-item.is (c.loop-wait.invariant.1 waiting needed)
      (λ own. c.in_ok-tell_wait.ensures.exact waiting own),
)

pub returns-clause-more : goal.returns-clause-more
returns-clause-more c =
    c.loop-wait.invariant.0 c.loop-wait.told
    (nothing_more (flat_map (could_be_told c.args.self.now.meetings.now) (wait_trees (drop c.loop-wait.wait-index c.args.waits.now))) c.loop-wait.told)

pub loop-wait-init : goal.loop-wait-init
loop-wait-init c = (λ after more. more, λ waiting needed. all_left (ground_for c.args.self.now) c.args.waits.now c.args.told.now needed)

pub returns-clause-exact : goal.returns-clause-exact
returns-clause-exact c = λ waiting needed.
    none_left (ground_for c.args.self.now) (drop c.loop-wait.wait-index c.args.waits.now) c.loop-wait.told _ (grind (arith, common_steps, c.loop-wait-test.false, c.loop-wait.auto)) (c.loop-wait.invariant.1 waiting needed)
