use Rattle.std.proofs.lemmas.Result.{on_ok_weaker}
use Rattle.stmt_gen.proofs.Modular.{handler_there, no_handler_there}
use Rattle.stmt_gen.proofs.items.put_some_handler.Goals as goal

pub returns-in-Some-clause-puts : goal.returns-in-Some-clause-puts
returns-in-Some-clause-puts c =
    on_ok_weaker c.put_handler.result (λ q. handler_there c.args.around.now c.args.handler.now c.in-Some.handler c.deref.result.now c.args.from c.args.comes c.in-Some.is c.deref.ensures q) c.put_handler.ensures.puts

pub returns-in-None-clause-puts : goal.returns-in-None-clause-puts
returns-in-None-clause-puts c = no_handler_there c.args.around.now c.args.handler.now c.args.from c.args.comes c.args.draft.now c.in-None.is
