use Rattle.world_check.proofs.Sound.{sound_facts}
use Rattle.world_check.proofs.laws.sound_facts_law.Goals as goal

pub returns : goal.returns
returns c = sound_facts
