use Rattle.std.proofs.lemmas.Result.{on_ok_weaker}
use Rattle.action_gen.specs.Putting.{site_tree}
use Rattle.code_gen.proofs.Appended.{plain_told}
use Rattle.code_gen.proofs.bodies.put_plain.Goals as goal

pub returns : goal.returns
returns c = record { puts = on_ok_weaker c.put_some_way_out.result (λ q. plain_told (site_tree c.args.site) c.in_ok-put_handled.ensures.puts q) c.put_some_way_out.ensures.puts }
