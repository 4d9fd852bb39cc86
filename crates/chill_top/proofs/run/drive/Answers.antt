use Rattle.chill_top.proofs.run.drive.Goals as goal

-- the code doesn't suit the facts
pub returns-in-Err-Misfit : goal.returns-in-Err-Misfit
returns-in-Err-Misfit c = rw c.in-Err-Misfit.field-0-is at c.in-Err-Misfit.ensures.refused
