use Rattle.std.proofs.Common.{◌≡◌, take, drop}
use Rattle.run_texts.specs.Processes as states
use Rattle.run_texts.proofs.processes.processes_after.Given as goal

-- what is left leads from the instances so far to those at the end
abbrev pub invariant-loop-event : goal.invariant-loop-event
invariant-loop-event l = states.after_all l.processes (drop l.event-index l.events) ≡ states.processes_after l.events
