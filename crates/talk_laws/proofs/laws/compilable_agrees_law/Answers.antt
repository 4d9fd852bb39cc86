use Rattle.talk_laws.proofs.laws.compilable_agrees_law.Goals as goal
use Rattle.talk_laws.proofs.CompiledTalks.{compilable_agrees}

pub returns : goal.returns
returns c = compilable_agrees
