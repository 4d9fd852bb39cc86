use Rattle.std.proofs.Common.{map}
use Rattle.code_types.specs.State.{Asking}
use Rattle.machine_steps.specs.Views.{slot_of}
use Rattle.machine_steps.proofs.taking.take.Goals as goal

pub returns-in-End-clause-state : goal.returns-in-End-clause-state
returns-in-End-clause-state c = rw c.in-End.is (c.give_up.ensures.state (Asking c.args.request.now (map slot_of c.args.slots.now)))
