use Rattle.expr_rules.proofs.Counting.{all_counted_ok}
use Rattle.expr_rules.proofs.local_modes.add_local_modes.Goals as goal

pub returns-clause-ground : goal.returns-clause-ground
returns-clause-ground c = λ text t names has own. all_counted_ok c.add_modes.result text t c.args.evaluation.now c.add_modes.new.evaluation names own (c.add_modes.ensures has)
