use Rattle.definition_origins.proofs.OriginLists.{seen_pushed}
use Rattle.definition_origins.proofs.origin_list.Origins.push_of_clause.Goals as goal

pub invariant_of-self : goal.invariant_of-self
invariant_of-self c = seen_pushed c.push.result c.args.self.now c.self.inside.list c.push.new.self c.args.origin c.self.view_is c.push.ensures.ok c.push.ensures.err c.requires c.self.invariant
