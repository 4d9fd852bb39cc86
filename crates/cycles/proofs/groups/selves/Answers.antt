use Rattle.cycles.specs.Groups.{edges_of}
use Rattle.cycles.proofs.Testing.{all_tested}
use Rattle.cycles.proofs.groups.selves.Goals as goal

pub returns-in-Some-clause-tested : goal.returns-in-Some-clause-tested
returns-in-Some-clause-tested c = all_tested (edges_of c.args.groups.now) c.selves_below.result c.selves_below.ensures
