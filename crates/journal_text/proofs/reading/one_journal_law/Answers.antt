use Rattle.journal_text.proofs.Whole.{one_journal}
use Rattle.journal_text.proofs.reading.one_journal_law.Goals as goal

pub returns : goal.returns
returns c = one_journal
