use Rattle.std.proofs.Common.{refl, rules}
use Rattle.machine_steps.proofs.process.Process.enter_with.Goals as goal

pub returns-clause-frames : goal.returns-clause-frames
returns-clause-frames c = record {
  caller = c.replace-caller.result;
  top = rw c.replace-caller.ensures.after c.begin.ensures.room;
  kept = search rules;
  below = search rules;
  depth = c.push.ensures.capacity;
  spare = refl;
  regions = refl;
}
