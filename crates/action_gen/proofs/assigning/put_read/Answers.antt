use Rattle.std.proofs.lemmas.Result.{on_ok_weaker}
use Rattle.action_gen.specs.Putting.{standing_of}
use Rattle.program_trees.specs.ExprTree.{location_tree}
use Rattle.action_gen.proofs.Assigned.{target_told}
use Rattle.action_gen.proofs.assigning.put_read.Goals as goal

pub returns-clause-puts : goal.returns-clause-puts
returns-clause-puts c =
    on_ok_weaker c.put_contents.result (λ q. target_told (standing_of c.args.around.now) (location_tree c.args.target.now) c.in_ok-put_place.ensures.puts c.in_ok-put_again.ensures.puts q) c.put_contents.ensures.puts
