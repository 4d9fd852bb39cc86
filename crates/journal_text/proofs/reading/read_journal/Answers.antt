use Rattle.journal_text.proofs.Whole.{no_first}
use Rattle.journal_text.proofs.reading.read_journal.Goals as goal

pub returns-in-None : goal.returns-in-None
returns-in-None c = no_first c.args.text.now c.in-None.ensures.none
