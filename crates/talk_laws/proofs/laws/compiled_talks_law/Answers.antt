use Rattle.talk_laws.proofs.laws.compiled_talks_law.Goals as goal
use Rattle.talk_laws.proofs.CompiledTalks.{compiled_talks}

pub returns : goal.returns
returns c = compiled_talks
