use Rattle.talk_laws.proofs.laws.compiled_runs_law.Goals as goal
use Rattle.talk_laws.proofs.CompiledTalks.{compiled_runs}

pub returns : goal.returns
returns c = compiled_runs
