-- What one step of the process is.
use Rattle.std.specs.Prelude.{◌≡◌, IsTrue}
use Rattle.code_types.specs.declared.instr.Instr.{Instr}
use Rattle.code_types.specs.declared.code.Code.{Code}
use Rattle.code_types.specs.Steps.{move, Goes, Makes}
use Rattle.code_types.specs.Steps.{Asks as AsksMove}
use Rattle.machine_frames.specs.Frames.{is_elsewhere}
use Rattle.machine_steps.specs.declared.process.Process.{Process}
use Rattle.machine_steps.specs.declared.process.Stepped.{Stepped}
use Rattle.machine_steps.specs.declared.process.Stepped.TheVariants.{GoesOn, Ticks, Asks, Wants}
use Rattle.machine_steps.specs.Views.{state_of}

-- the step that the code makes of the process; nothing is done yet where a request is wanted
abbrev pub Steps : Code → Process → Process → Stepped → Type 0
Steps code old new GoesOn = move code (state_of old) ≡ Goes (state_of new)
Steps code old new Ticks = move code (state_of old) ≡ Makes (state_of new)
Steps code old new (Asks request) = move code (state_of old) ≡ AsksMove request (state_of new)
Steps code old new Wants = new ≡ old

-- only an instruction that asks more than its frame is left
abbrev pub WantsOnly : Instr → Stepped → Type 0
WantsOnly instr GoesOn = Unit {0}
WantsOnly instr Ticks = Unit {0}
WantsOnly instr (Asks request) = Unit {0}
WantsOnly instr Wants = IsTrue (is_elsewhere instr)

-- the step was made
abbrev pub IsMade : Stepped → Type 0
IsMade GoesOn = Unit {0}
IsMade Ticks = Unit {0}
IsMade (Asks request) = Unit {0}
IsMade Wants = ⊥
