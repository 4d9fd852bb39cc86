use Rattle.std.proofs.lemmas.Result.{on_ok_weaker}
use Rattle.action_gen.specs.Putting.{standing_of}
use Rattle.action_gen.proofs.Waiting.{no_place, place_made}
use Rattle.action_gen.proofs.waits.put_set_place.Goals as goal

pub returns-in-None-clause-puts : goal.returns-in-None-clause-puts
returns-in-None-clause-puts c = no_place (standing_of c.args.around.now) c.args.set.now _ c.in-None.is

pub returns-in_ok-put_place-in-Some-clause-puts : goal.returns-in_ok-put_place-in-Some-clause-puts
returns-in_ok-put_place-in-Some-clause-puts c =
    on_ok_weaker c.keep_place.result
    (λ q. place_made (standing_of c.args.around.now) c.args.set.now c.in-Some.location c.deref.result.now c.deref-in-Some.result.now c.in-Some.is c.deref.ensures c.deref-in-Some.ensures c.in_ok-put_place-in-Some.ensures.puts q)
    c.keep_place.ensures.puts
