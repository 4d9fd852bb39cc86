use Rattle.definition_origins.proofs.OfChecks.{pushed_of_checks, rule_is_of_checks}
use Rattle.definition_origins.proofs.told.Told.tell_names.Goals as goal

pub invariant_of-self : goal.invariant_of-self
invariant_of-self c = pushed_of_checks c.push.result c.self.inside.diagnostics c.push.new.self _ c.push.ensures.ok c.push.ensures.err (rw c.rule.ensures (rule_is_of_checks c.args.rule)) c.self.invariant
