use Rattle.std.proofs.Common.{refl}
use Rattle.checked_program.specs.declared.statement.ReceiveAlternative.{out-ReceiveAlternative}
use Rattle.expr_gen.proofs.Appending.{kept_on}
use Rattle.action_gen.specs.Puts.{rows_around}
use Rattle.action_gen.proofs.Waiting.{source_turn, sources_done}
use Rattle.action_gen.proofs.waits.put_sources.Goals as goal

pub loop-alternative-preserved : goal.loop-alternative-preserved
loop-alternative-preserved c = record {
  left = source_turn (rows_around c.args.around.now) c.args.alternatives.now c.loop-alternative.alternative-index c.alternative-item.result (out-ReceiveAlternative c.alternative-item.result).source c.as_slice-received.result.now
      c.loop-alternative-test.true c.alternative-item.is refl c.as_slice-received.ensures c.loop-alternative.invariant.left c.in_ok-put_source.ensures.puts;
  keeps = kept_on c.loop-alternative.invariant.keeps c.in_ok-put_source.ensures.keeps;
}

pub returns-clause-puts : goal.returns-clause-puts
returns-clause-puts c = sources_done (rows_around c.args.around.now) c.args.alternatives.now c.loop-alternative.alternative-index c.loop-alternative-test.false c.loop-alternative.invariant.left
