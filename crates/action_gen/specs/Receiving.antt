-- Which instruction a RECEIVE CASE has.
use Rattle.std.specs.Prelude.{Bool}
use Rattle.code_scheme.specs.StatementWaits.{Receives, from_buffers, of_signals}
use Rattle.action_gen.specs.declared.waits.Receives.{Receives as RustReceives}
use Rattle.action_gen.specs.declared.waits.Receives.TheVariants.{Buffers, Signals}

abbrev pub kind_of : RustReceives → Receives
kind_of (Buffers has_else) = from_buffers
kind_of (Signals has_else) = of_signals

-- ELSE is written
abbrev pub waits_else : RustReceives → Bool
waits_else (Buffers has_else) = has_else
waits_else (Signals has_else) = has_else
