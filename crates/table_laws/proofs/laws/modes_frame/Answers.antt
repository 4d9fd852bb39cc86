use Rattle.table_laws.proofs.laws.modes_frame.Goals as goal
use Rattle.table_laws.proofs.ModeFrames.{mode_frame, told_mode_frame}

pub returns : goal.returns
returns c = record { mode = mode_frame; told = told_mode_frame }
