use Rattle.std.proofs.Common.{sym, ap}
use Rattle.std.specs.Prelude.{Err}
use Rattle.code_gen.proofs.Faults.{handed_on}
use Rattle.code_gen.proofs.facts.layouts_of.Goals as goal

-- this location has no layout
pub returns-in_err-layout_of-clause-no_layout : goal.returns-in_err-layout_of-clause-no_layout
returns-in_err-layout_of-clause-no_layout c = λ fault.
    let none = handed_on c.from_residual.result _ c.from_residual.ensures.1 fault in
    (c.loop-location.location-index, c.location-item.result, c.loop-location-test.true, sym c.location-item.is, c.in_err-layout_of.ensures.no_layout (ap (λ e. Err e) none))
