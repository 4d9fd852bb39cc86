use Rattle.std.proofs.Common.{◌≡◌}
use Rattle.definition_origins.proofs.OriginLists.{each_own, each_more}
use Rattle.definition_origins.proofs.origin_list.Origins.push_for_each.Goals as goal

pub push_of_clause-requires : goal.push_of_clause-requires
push_of_clause-requires c = each_own c.args.self.now c.loop-name.self c.loop-name._name-index c.args.origin c.loop-name.invariant c.requires
