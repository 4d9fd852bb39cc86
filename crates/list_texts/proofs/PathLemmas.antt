-- What the walk over a mode needs of lists.
use Rattle.std.proofs.Common.{append-nil, append_assoc}
use Rattle.modes.proofs.ModeViews.{mode_built}

pub ruleset path_steps = (mode_built, append-nil, append_assoc)
