use Rattle.std.proofs.Common.{refl}
use Rattle.chill_tree.specs.StatementTree.{receive_tree}
use Rattle.definition_origins.specs.OriginTrees.{received_tree}
use Rattle.definition_origins.proofs.Views.{part_more}
use Rattle.definition_origins.proofs.statements.add_parts.Goals as goal

pub loop-part-preserved : goal.loop-part-preserved
loop-part-preserved c = part_more c.loop-part.found c.args.found.now c.push.new.self _ (received_tree (receive_tree c.args.alternative.now)) c.loop-part.part c.in_ok-push.ensures.ok refl c.loop-part.invariant
