use Rattle.std.proofs.Common.{◌≡◌, ◌≤◌, All, length, vec_capacity}
use Rattle.machine_steps.specs.Rooms.{HasRoom}
use Rattle.machine_steps.proofs.starting.free_frames.Given as goal

abbrev pub invariant-places : goal.invariant-places
invariant-places l = All (HasRoom l.height l.locals) l.frames.items × (length l.frames.items ≡ l.counter) × (l.count ≤ vec_capacity l.frames)
