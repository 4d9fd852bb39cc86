use Rattle.text_laws.proofs.laws.world_keeps_law.Goals as goal
use Rattle.text_laws.proofs.JournalLaws.{world_keeps}

pub returns : goal.returns
returns c = world_keeps
