use Rattle.definition_origins.proofs.OfChecks.{same_members_of_checks}
use Rattle.definition_origins.proofs.told.Told.into_list.Goals as goal

pub returns-clause-checks : goal.returns-clause-checks
returns-clause-checks c = rw c.from_vec.ensures (rw c.list_once.ensures (rw c.into_vec-list.ensures (same_members_of_checks c.self.inside.diagnostics _ (c.listed_law.ensures.members _) c.self.invariant)))
