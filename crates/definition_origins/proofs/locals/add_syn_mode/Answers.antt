use Rattle.std.proofs.Common.{false, refl}
use Rattle.chill_tree.specs.LocalTree.{mode_definition_tree}
use Rattle.definition_origins.proofs.Views.{mode_made}
use Rattle.definition_origins.proofs.locals.add_syn_mode.Goals as goal

pub returns : goal.returns
returns c = mode_made false (mode_definition_tree c.args.own.now) c.args.found.now c.push.new.self c.add_mode.new.found _ _ c.in_ok-push.ensures.ok refl c.owner_of.ensures c.in_ok-add_mode.ensures
