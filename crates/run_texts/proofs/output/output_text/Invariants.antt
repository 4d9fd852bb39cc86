use Rattle.std.proofs.Common.{◌≡◌, take}
use Rattle.world_model.specs.Journal.{output_of}
use Rattle.run_texts.proofs.output.output_text.Given as goal

-- the text so far is what the events so far put
abbrev pub invariant-loop-event : goal.invariant-loop-event
invariant-loop-event l = l.text.items ≡ output_of (take l.event-index l.events)
