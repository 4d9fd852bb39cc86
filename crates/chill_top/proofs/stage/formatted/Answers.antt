use Rattle.chill_top.proofs.Pieces.{Unread-reading, Canonical-reading}
use Rattle.chill_top.proofs.stage.formatted.Goals as goal

pub returns-in-Refused : goal.returns-in-Refused
returns-in-Refused c = λ text of. Unread-reading text c.args.read.now c.in-Refused.told of (rw c.in-Refused.is at c.in_ok-told.ensures)

pub returns-in-Canonical : goal.returns-in-Canonical
returns-in-Canonical c = λ text of. Canonical-reading text c.args.read.now c.in-Canonical.canonical of (rw c.in-Canonical.is at c.in_ok-told.ensures)
