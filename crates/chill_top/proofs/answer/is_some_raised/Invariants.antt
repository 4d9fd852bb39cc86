use Rattle.std.proofs.Common.{◌≡◌, drop}
use Rattle.chill_top.specs.Runs.{is_some_raised}
use Rattle.chill_top.proofs.answer.is_some_raised.Given as goal

-- what is left has one where all have one
abbrev pub invariant-loop-event : goal.invariant-loop-event
invariant-loop-event l = is_some_raised (drop l.event-index l.events) ≡ is_some_raised l.events
