use Rattle.std.proofs.Common.{ap, sym, ◌∙◌}
use Rattle.checked_program.specs.declared.statement.DelayAlternative.{DelayAlternative, out-DelayAlternative}
use Rattle.expr_gen.proofs.Appending.{kept_on}
use Rattle.action_gen.proofs.Waiting.{alternative_turn, alternatives_done}
use Rattle.action_gen.proofs.waits.put_all_events.Goals as goal

pub loop-number-preserved : goal.loop-number-preserved
loop-number-preserved c =
    let events = c.as_slice.ensures ∙ ap (λ (a : DelayAlternative). (out-DelayAlternative a).events) (sym c.index-alternatives-number.is) in
    record {
      left = alternative_turn c.args.alternatives.now c.loop-number.number c.index-alternatives-number.result c.as_slice.result.now c.loop-number-test.true c.index-alternatives-number.is events
          c.loop-number.invariant.left c.in_ok-put_events.ensures.puts;
      keeps = kept_on c.loop-number.invariant.keeps c.in_ok-put_events.ensures.keeps;
    }

pub returns-clause-puts : goal.returns-clause-puts
returns-clause-puts c = alternatives_done c.loop-number.number c.args.alternatives.now c.loop-number.number c.loop-number-test.false c.loop-number.invariant.left
