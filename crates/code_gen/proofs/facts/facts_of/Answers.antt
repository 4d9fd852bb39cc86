use Rattle.std.proofs.Common.{ap}
use Rattle.std.specs.Prelude.{Err}
use Rattle.code_gen.proofs.Faults.{handed_on}
use Rattle.code_gen.proofs.facts.facts_of.Goals as goal

-- a location has no layout
pub returns-in_err-layouts-clause-no_layout : goal.returns-in_err-layouts-clause-no_layout
returns-in_err-layouts-clause-no_layout c = λ fault.
    let none = handed_on c.from_residual-in_err-layouts.result _ c.from_residual-in_err-layouts.ensures.1 fault in
    rw c.as_slice-2.ensures at (c.in_err-layouts.ensures.no_layout (ap (λ e. Err e) none))
