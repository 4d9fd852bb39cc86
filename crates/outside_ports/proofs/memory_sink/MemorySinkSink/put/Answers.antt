use Rattle.std.proofs.Common.{arith, inl, inr, refl}
use Rattle.outside_ports.proofs.memory_sink.MemorySinkSink.put.Goals as goal
use Rattle.outside_ports.proofs.memory_sink.MemorySinkSink.put.Goals.{then-is_failing-via-then-is_failing, then-is_failing-via-else-is_failing+then-finds_no_room}

-- the put is one that fails, or it finds no room
pub returns-then-is_failing-clause-fails : goal.returns-then-is_failing-clause-fails
returns-then-is_failing-clause-fails c =
    rw (← c.self.view_is) (elim c.then-is_failing.branch [
      | then-is_failing-via-then-is_failing w ↦ (λ _. inl (rw c.saturating_add-self-inside.ensures at (w.if-is_failing.ensures.0 refl)), λ _. refl)
      | then-is_failing-via-else-is_failing+then-finds_no_room w ↦
          let full = w.if-finds_no_room.ensures.0 refl in (λ _. inr (full.0, omega (arith, full.1)), λ _. refl)
    ])
