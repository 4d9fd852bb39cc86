use Rattle.kernel_steps.proofs.Numbered.{world_numbered, world_argued, world_few}
use Rattle.kernel_steps.proofs.commits.each_is_numbered.Goals as goal

pub returns-clause-processes : goal.returns-clause-processes
returns-clause-processes c = let s = c.args._s.now in world_numbered s.facts s.journal.events

pub returns-clause-arguments : goal.returns-clause-arguments
returns-clause-arguments c = let s = c.args._s.now in world_argued s.facts s.journal.events

pub returns-clause-few : goal.returns-clause-few
returns-clause-few c = let s = c.args._s.now in world_few s.facts s.journal.events c.requires.book.run
