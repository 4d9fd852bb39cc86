-- What a DO FOR counts by.
use Rattle.std.specs.Prelude.{ℕ, pos}
use Rattle.code_scheme.specs.StatementLoops.{Step, by_constant, by_kept, Steps}
use Rattle.action_gen.specs.declared.steps.Step.{Step as RustStep}
use Rattle.action_gen.specs.declared.steps.Step.TheVariants.{Constant, Kept}
use Rattle.action_gen.specs.declared.steps.Steps.{Steps as RustSteps}

abbrev pub step_of : RustStep → Step
step_of (Constant n) = by_constant (pos n)
step_of (Kept k) = by_kept k

abbrev pub steps_of : RustSteps → Steps
steps_of c = record { counter = c.counter; start = c.start; step = step_of c.step; end = c.end; down = c.down }
