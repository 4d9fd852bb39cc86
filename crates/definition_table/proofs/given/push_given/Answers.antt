use Rattle.definition_origins.specs.OriginTrees.{origin_tree}
use Rattle.definition_table.proofs.GivenLemmas.{safe_pushed}
use Rattle.definition_table.proofs.given.push_given.Goals as goal

pub returns-clause-safe : goal.returns-clause-safe
returns-clause-safe c rise plain defined os at safe =
    safe_pushed os c.args.found.now c.push.new.self (origin_tree c.args.origin) c.in_ok-entry.entry c.in_ok-push.ensures.ok at (c.in_ok-entry.ensures rise plain defined) safe
