-- Landings are the steps of the definitions.
use Rattle.std.proofs.Common.{◌≡◌, ℕ, List, ◌∷◌, take, Some, None, Option, refl, ap, sym, ◌∙◌}
use Rattle.std.specs.Prelude.{IsSomeAnd, map}
use Rattle.kernel_base.specs.declared.ends.Exc.{Exc}
use Rattle.code_types.specs.declared.code.Code.{Code}
use Rattle.code_types.specs.declared.code.Handler.{Handler}
use Rattle.code_types.specs.Places.{taker}
use Rattle.code_types.specs.State.{State, Frame, Running, Raising}
use Rattle.machine_frames.specs.declared.activation.Activation.{Activation}
use Rattle.machine_frames.specs.Frames.{frame_of}
use Rattle.machine_steps.specs.declared.process.Process.{Process}
use Rattle.machine_steps.specs.declared.process.Doing.TheVariants.{Running as RunsNow, Raising as RaisesNow}
use Rattle.machine_steps.specs.Views.{state_of, callers_of, region_of}
use Rattle.machine_steps.proofs.LocalSteps.{process}
use Rattle.code_types.specs.Steps.{Goes, move, moved, caught, with_frames}

-- what comes of the handler that takes an exception
pub caught_at : (code : Code) (s : State) (exception : Exc) (f : Frame) (below : List Frame) (found : Option Handler) (target height : ℕ)
    → IsSomeAnd found (λ handler. (handler.target ≡ target) × (handler.height ≡ height))
    → caught code s exception f below found ≡ Goes (with_frames s (moved f target (take height f.stack) ∷ below) Running)
caught_at code s exception f below (Some handler) target height h = rw (h.0, h.1) refl
caught_at code s exception f below None target height h = absurd h

-- a process that has raised an exception
pub raising_state : (m : Process) (exception : Exc) → m.doing ≡ RaisesNow exception → state_of m ≡ process m.instance (frame_of m.top ∷ callers_of m.below.items) (map region_of m.regions.items) (Raising exception)
raising_state m exception raising = rw raising refl

pub land_step : (code : Code) (m : Process) (top : Activation) (exception : Exc) (target height : ℕ)
    → m.doing ≡ RaisesNow exception
    → IsSomeAnd (taker code.handlers m.top.place exception) (λ handler. (handler.target ≡ target) × (handler.height ≡ height))
    → frame_of top ≡ moved (frame_of m.top) target (take height m.top.stack.items)
    → move code (state_of m) ≡ Goes (state_of (record m { top = top; doing = RunsNow }))
land_step code m top exception target height raising taken framed =
    let s = process m.instance (frame_of m.top ∷ callers_of m.below.items) (map region_of m.regions.items) (Raising exception) in
    ap (move code) (raising_state m exception raising)
    ∙ caught_at code s exception (frame_of m.top) (callers_of m.below.items) (taker code.handlers m.top.place exception) target height taken
    ∙ ap (λ (f : Frame). Goes (with_frames s (f ∷ callers_of m.below.items) Running)) (sym framed)
