use Rattle.std.proofs.Common.{◌≡◌, drop}
use Rattle.code_types.specs.Places.{taker}
use Rattle.machine_steps.proofs.raising.landing.Given as goal

abbrev pub invariant-loop-i : goal.invariant-loop-i
invariant-loop-i l = taker l.code.handlers l.place l.exception ≡ taker (drop l.i l.code.handlers) l.place l.exception
