use Rattle.std.proofs.lemmas.Result.{on_ok_weaker}
use Rattle.action_gen.specs.Putting.{standing_of}
use Rattle.action_gen.proofs.Asked.{evaluate_told, text_told}
use Rattle.action_gen.proofs.plain.put_asking.Goals as goal

pub returns-in-Evaluate-clause-puts : goal.returns-in-Evaluate-clause-puts
returns-in-Evaluate-clause-puts c = λ _.
    on_ok_weaker c.put_used.result
    (λ q. evaluate_told (standing_of c.args.around.now) c.args.action.now c.in-Evaluate.value c.deref-in-Evaluate.result.now c.deref-in-Evaluate-2.result.now c.in-Evaluate.is c.deref-in-Evaluate.ensures c.deref-in-Evaluate-2.ensures q)
    c.put_used.ensures.puts

pub returns-in-PutText-clause-puts : goal.returns-in-PutText-clause-puts
returns-in-PutText-clause-puts c = λ _.
    on_ok_weaker c.put_used-in-PutText.result
    (λ q. text_told (standing_of c.args.around.now) c.args.action.now c.in-PutText.value c.deref-in-PutText.result.now c.deref-in-PutText-2.result.now c.in-PutText.is c.deref-in-PutText.ensures c.deref-in-PutText-2.ensures q)
    c.put_used-in-PutText.ensures.puts
