use Rattle.text_laws.proofs.laws.run_fits_law.Goals as goal
use Rattle.text_laws.proofs.JournalLaws.{run_fits}

pub returns : goal.returns
returns c = run_fits
