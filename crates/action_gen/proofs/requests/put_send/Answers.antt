use Rattle.std.proofs.lemmas.Result.{on_ok_weaker}
use Rattle.program_trees.specs.ExprTree.{received_of}
use Rattle.code_scheme.specs.ExprCode.{counts_of}
use Rattle.expr_gen.proofs.Told.{uniform_count}
use Rattle.action_gen.specs.Putting.{standing_of}
use Rattle.action_gen.proofs.Asked.{buffer_sent, signal_sent}
use Rattle.action_gen.proofs.requests.put_send.Goals as goal

pub returns-in_ok-put_received-in-ToBuffer-clause-puts : goal.returns-in_ok-put_received-in-ToBuffer-clause-puts
returns-in_ok-put_received-in-ToBuffer-clause-puts c =
    on_ok_weaker c.put.result
    (λ q. buffer_sent (standing_of c.args.around.now) c.args.sent.now c.in-ToBuffer.buffer c.in-ToBuffer.value c.args.priority _ c.in-ToBuffer.is (uniform_count c.in-ToBuffer.value c.deref.result.now c.deref.ensures) c.in_ok-put_received-in-ToBuffer.ensures.puts q)
    c.put.ensures.puts

pub returns-in_ok-count-in-Signal-clause-puts : goal.returns-in_ok-count-in-Signal-clause-puts
returns-in_ok-count-in-Signal-clause-puts c =
    on_ok_weaker c.put-in-Signal.result
    (λ q. signal_sent (standing_of c.args.around.now) c.args.sent.now c.in-Signal.signal c.in-Signal.parts c.as_slice-parts.result.now c.in-Signal.receiver c.args.priority c.in_ok-count-in-Signal.count c.is_some.result
    c.in-Signal.is c.as_slice-parts.ensures (c.in_ok-count-in-Signal.ensures (counts_of (received_of c.as_slice-parts.result.now)) c.scalars_of.ensures) c.is_some.ensures
    c.in_ok-put_all_received-in-Signal.ensures.puts c.in_ok-put_receiver-in-Signal.ensures.puts q)
    c.put-in-Signal.ensures.puts
