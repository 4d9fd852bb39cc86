use Rattle.std.proofs.Common.{◌≡◌, ◌+◌, arith}
use Rattle.std.proofs.lemmas.Result.{on_ok_weaker}
use Rattle.program_trees.specs.StatementTree.{set_tree}
use Rattle.code_scheme.specs.Pieces.{capped}
use Rattle.code_scheme.specs.StatementWaits.{chosen_in}
use Rattle.action_gen.specs.Putting.{standing_of}
use Rattle.action_gen.proofs.Waiting.{no_set, set_made}
use Rattle.action_gen.proofs.waits.put_set.Goals as goal

pub returns-in-None-clause-puts : goal.returns-in-None-clause-puts
returns-in-None-clause-puts c = no_set (standing_of c.args.around.now) c.args.set.now _ c.in-None.is

pub returns-in_ok-put-in-Some-clause-puts : goal.returns-in_ok-put-in-Some-clause-puts
returns-in_ok-put-in-Some-clause-puts c =
    let next : c.saturating_add.result ≡ capped (chosen_in c.args.around.now.free (set_tree c.args.set.now) + 1) = omega (arith, c.saturating_add.ensures, c.in_ok-chosen_local-in-Some.ensures) in
    let by = c.in_ok-by-in-Some.ensures (chosen_in c.args.around.now.free (set_tree c.args.set.now) + 1) next in
    on_ok_weaker c.put_store.result
    (λ q. set_made (standing_of c.args.around.now) c.args.set.now c.in-Some.location c.deref.result.now c.deref-in-Some.result.now c.in_ok-by-in-Some.by c.in-Some.is c.deref.ensures c.deref-in-Some.ensures by
    c.in_ok-put_kept-in-Some.ensures.puts c.in_ok-put-in-Some.ensures.puts q)
    c.put_store.ensures.puts
