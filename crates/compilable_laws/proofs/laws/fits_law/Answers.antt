use Rattle.compilable_laws.proofs.laws.fits_law.Goals as goal
use Rattle.compilable_laws.proofs.Programs.{program_fits}

pub returns : goal.returns
returns c = program_fits
