use Rattle.text_laws.proofs.laws.facts_are_sound_law.Goals as goal
use Rattle.text_laws.proofs.SoundFacts.{facts_are_sound}

pub returns : goal.returns
returns c = facts_are_sound
