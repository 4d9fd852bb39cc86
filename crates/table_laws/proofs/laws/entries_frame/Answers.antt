use Rattle.table_laws.proofs.laws.entries_frame.Goals as goal
use Rattle.table_laws.proofs.EntryFrames.{entry_frame}

pub returns : goal.returns
returns c = entry_frame
