-- The spots of a mode lie apart.
use Rattle.layout_map.proofs.ModeRuns.{spots_apart}
use Rattle.layout_map.proofs.laws.spot_law.Goals as goal

pub returns-clause-apart : goal.returns-clause-apart
returns-clause-apart c = spots_apart
