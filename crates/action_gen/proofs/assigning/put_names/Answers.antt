use Rattle.expr_gen.proofs.Appending.{kept_on}
use Rattle.action_gen.specs.Puts.{lay_around}
use Rattle.action_gen.proofs.Assigned.{names_turn, names_told}
use Rattle.action_gen.proofs.assigning.put_names.Goals as goal

pub loop-name-preserved : goal.loop-name-preserved
loop-name-preserved c = record {
  left = names_turn (lay_around c.args.around.now) c.args.around.now.free c.args.count c.args.names.now c.loop-name.name-index _ c.loop-name-test.true c.loop-name.invariant.left c.in_ok-put_offset_of.ensures.puts c.in_ok-put.ensures.puts c.in_ok-put_named.ensures.puts;
  keeps = kept_on (kept_on (kept_on c.loop-name.invariant.keeps c.in_ok-put_offset_of.ensures.keeps) c.in_ok-put.ensures.keeps) c.in_ok-put_named.ensures.keeps;
}

pub returns-clause-puts : goal.returns-clause-puts
returns-clause-puts c = names_told (lay_around c.args.around.now) c.args.around.now.free c.args.count c.args.names.now c.loop-name.name-index c.loop-name-test.false c.loop-name.invariant.left
