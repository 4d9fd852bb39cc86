use Rattle.std.proofs.Common.{refl}
use Rattle.checks_model.specs.Ground.{an_element}
use Rattle.definition_origins.specs.OriginTrees.{owner_tree}
use Rattle.definition_origins.proofs.Views.{part_more}
use Rattle.definition_origins.proofs.mode_elements.add_elements.Goals as goal

pub loop-part-preserved : goal.loop-part-preserved
loop-part-preserved c = part_more c.loop-part.found c.args.found.now c.push.new.self _ (λ part. an_element c.args.names.now part (owner_tree c.args.owner)) c.loop-part.part c.in_ok-push.ensures.ok refl c.loop-part.invariant
