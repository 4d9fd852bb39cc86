use Rattle.table_laws.proofs.laws.told_frame.Goals as goal
use Rattle.table_laws.proofs.ToldFrames as frames

pub returns : goal.returns
returns c = record { told = frames.told_frame; counter = frames.counter_frame }
