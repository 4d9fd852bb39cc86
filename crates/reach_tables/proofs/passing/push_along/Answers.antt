use Rattle.std.proofs.Common.{refl}
use Rattle.reach_tables.specs.Scopes.{told_by}
use Rattle.reach_tables.proofs.Elements.{along_first-on}
use Rattle.reach_tables.proofs.passing.push_along.Goals as goal

pub loop-step-preserved : goal.loop-step-preserved
loop-step-preserved c = along_first-on c.args.book.now.all.items (told_by c.args.source.now) c.args.number c.loop-step.step _ _ _ _ refl c.loop-step.invariant c.in_ok-push_element.ensures
