use Rattle.definition_origins.proofs.OriginLists.{alone_pushed}
use Rattle.definition_origins.proofs.origin_list.Origins.push.Goals as goal

pub invariant_of-self : goal.invariant_of-self
invariant_of-self c = alone_pushed c.push.result c.self.inside.list c.push.new.self c.args.origin c.push.ensures.ok c.push.ensures.err c.requires c.self.invariant
