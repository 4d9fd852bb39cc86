-- Receives whose operands don't fit are the steps of the definitions.
use Rattle.std.proofs.Common.{◌≡◌, ℕ, ◌*◌, ◌≤◌, Bool, length, map, slice_get, Some, None, refl, ◌∙◌}
use Rattle.kernel_base.specs.declared.ends.Exc.TheVariants.{Rangefail}
use Rattle.code_types.specs.declared.instr.Instr.TheVariants.{Hear, Take}
use Rattle.code_types.specs.declared.code.Code.{Code}
use Rattle.code_types.specs.Operands.{topmost, triples_of}
use Rattle.code_types.specs.Steps.{Goes, move}
use Rattle.machine_frames.specs.Frames.{frame_of}
use Rattle.machine_steps.specs.declared.process.Process.{Process}
use Rattle.machine_steps.specs.declared.process.Doing.TheVariants.{Running as RunsNow, Raising as RaisesNow}
use Rattle.machine_steps.specs.Views.{state_of, callers_of, region_of}
use Rattle.machine_steps.proofs.LocalSteps.{executed_at}

pub take_fails : (code : Code) (p : Process) (count : ℕ) (otherwise : Bool)
    → p.doing ≡ RunsNow
    → slice_get code.instrs p.top.place ≡ Some (Take count otherwise)
    → 3 * count ≤ length p.top.stack.items
    → triples_of (length p.top.locals.items) 0 (topmost (3 * count) p.top.stack.items) ≡ None
    → move code (state_of p) ≡ Goes (state_of (record p { doing = RaisesNow Rangefail }))
take_fails code p count otherwise running here found told =
    rw running (executed_at code p.instance (frame_of p.top) (callers_of p.below.items) (map region_of p.regions.items) (Take count otherwise) here found ∙ rw told refl)

pub hear_fails : (code : Code) (p : Process) (count : ℕ) (otherwise : Bool)
    → p.doing ≡ RunsNow
    → slice_get code.instrs p.top.place ≡ Some (Hear count otherwise)
    → 3 * count ≤ length p.top.stack.items
    → triples_of (length p.top.locals.items) 0 (topmost (3 * count) p.top.stack.items) ≡ None
    → move code (state_of p) ≡ Goes (state_of (record p { doing = RaisesNow Rangefail }))
hear_fails code p count otherwise running here found told =
    rw running (executed_at code p.instance (frame_of p.top) (callers_of p.below.items) (map region_of p.regions.items) (Hear count otherwise) here found ∙ rw told refl)
